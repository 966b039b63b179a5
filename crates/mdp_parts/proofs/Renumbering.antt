-- Numbers that are given in the order of the least states.
use Rattle.std.proofs.Common.{◌≡◌, ◌⊎◌, inl, inr, ℕ, ◌+◌, ◌<◌, ◌≤◌, true, false, nat_lt, cond, List, [], ◌∷◌}
use Rattle.std.proofs.Common.{◌++◌, length, set, replicate, refl, sym, ap, ◌∙◌, subst, arith, lt-ltb, le-ltb, Option, Some, None, is_none}
use Rattle.std.proofs.lemmas.Bool.{false≢true, cases_Bool, cases_eq, cases_lt}
use Rattle.std.proofs.{lemmas.List.{length-replicate, get_or-replicate, length-set, get_or-set_other, get_or_past}, lemmas.Grind.{get_or-set_at}}
use Rattle.mdp_graph.specs.Layers.{rank_at}
use Rattle.mdp_graph.proofs.{Among.{cases_rank}, RankFacts.{some-same, none-some}}
use Rattle.mdp_ends.specs.Numbers.{is_numbered, count_from}
use Rattle.mdp_ends.proofs.NumberingFound.{numbered-none, numbered-some, length-more, at_before, at_last}
use Rattle.mdp_parts.specs.Numbered.{IsRenumbered}

-- one more state is counted from where the ones before it end
count-more : (next : ℕ) (xs : List (Option ℕ)) (o : Option ℕ) → count_from next (xs ++ o ∷ []) ≡ count_from (count_from next xs) (o ∷ [])
count-more next [] o = refl
count-more next (None ∷ xs) o = count-more next xs o
count-more next (Some i ∷ xs) o = elim (cases_Bool (nat_lt i next)) [
  | inl e ↦ rw e (count-more next xs o)
  | inr e ↦ rw e (count-more (next + 1) xs o)
]

-- the number that a key was given
abbrev pub given_of : List (Option ℕ) → Option ℕ → Option ℕ
given_of given None = None
given_of given (Some k) = rank_at given k

pub record IsRenumbering (keys : List (Option ℕ)) (limit n : ℕ) (given numbers : List (Option ℕ)) (count : ℕ) : Type 0 where
  pub size : length given ≡ limit
  pub length_is : length numbers ≡ n
  pub in_order : is_numbered 0 numbers ≡ true
  pub counted : count_from 0 numbers ≡ count
  pub at : (s : ℕ) → s < n → rank_at numbers s ≡ given_of given (rank_at keys s)
  pub gives : (s k : ℕ) → s < n → rank_at keys s ≡ Some k → (j : ℕ) × (rank_at given k ≡ Some j)
  pub differ : (k l j : ℕ) → rank_at given k ≡ Some j → rank_at given l ≡ Some j → k ≡ l
  pub below : (k j : ℕ) → rank_at given k ≡ Some j → j < count
  pub few : count ≤ n

module _ (keys : List (Option ℕ)) (limit : ℕ) where
  pub renumbering_begins : (given : List (Option ℕ)) → given ≡ replicate limit None → IsRenumbering keys limit 0 given [] 0
  renumbering_begins given e =
      let none : Option ℕ = None in
      record {
        size = ap length e ∙ length-replicate limit none;
        length_is = refl;
        in_order = refl;
        counted = refl;
        at = λ s h. absurd (omega (arith, h));
        gives = λ s k h. absurd (omega (arith, h));
        differ = λ k l j ek el. absurd (none-some j (rank_at given k) (empty given k e) ek);
        below = λ k j ek. absurd (none-some j (rank_at given k) (empty given k e) ek);
        few = omega arith;
      } where
        none_at : (n k : ℕ) → rank_at (replicate n None) k ≡ None
        none_at n k = elim (cases_lt k n) [
          | inl h ↦ (let none : Option ℕ = None in get_or-replicate n k none none h)
          | inr h ↦ (let none : Option ℕ = None in get_or_past (replicate n none) k none (let l = length-replicate n none in omega (arith, h, l)))
        ]

        empty : (given : List (Option ℕ)) (k : ℕ) → given ≡ replicate limit None → rank_at given k ≡ None
        empty given k e = ap (λ (xs : List (Option ℕ)). rank_at xs k) e ∙ none_at limit k

  module _ (n : ℕ) (given numbers : List (Option ℕ)) (count : ℕ) (a : IsRenumbering keys limit n given numbers count) where
    -- a state with the number o, where the numbers of the keys are those of `more`
    next_state : (more : List (Option ℕ)) (o : Option ℕ) (total : ℕ) → length more ≡ limit → is_numbered 0 (numbers ++ o ∷ []) ≡ true → count_from 0 (numbers ++ o ∷ []) ≡ total → total ≤ n + 1
        → ((s : ℕ) → s < n → given_of given (rank_at keys s) ≡ given_of more (rank_at keys s))
        → o ≡ given_of more (rank_at keys n) → ((k j : ℕ) → rank_at given k ≡ Some j → rank_at more k ≡ Some j)
        → ((k : ℕ) → rank_at keys n ≡ Some k → (j : ℕ) × (rank_at more k ≡ Some j)) → ((k l j : ℕ) → rank_at more k ≡ Some j → rank_at more l ≡ Some j → k ≡ l)
        → ((k j : ℕ) → rank_at more k ≡ Some j → j < total) → IsRenumbering keys limit (n + 1) more (numbers ++ o ∷ []) total
    next_state more o total size in_order counted few same is kept last differ below = record {
      size = size;
      length_is = (let l = length-more numbers o in omega (arith, l, a.length_is));
      in_order = in_order;
      counted = counted;
      at = λ s h. elim (cases_eq s n) [
        | inl e ↦ (let place : s ≡ length numbers = omega (arith, e, a.length_is) in ap (rank_at (numbers ++ o ∷ [])) place ∙ at_last numbers o None ∙ is
            ∙ ap (λ j. given_of more (rank_at keys j)) (sym e))
        | inr other ↦ (let l : s < n = omega (arith, h, other) in at_before numbers o None s (omega (arith, l, a.length_is)) ∙ a.at s l ∙ same s l)
      ];
      gives = λ s k h e. elim (cases_eq s n) as (λ _. (j : ℕ) × (rank_at more k ≡ Some j)) [
        | inl here ↦ last k (ap (rank_at keys) (sym here) ∙ e)
        | inr other ↦ (let w = a.gives s k (omega (arith, h, other)) e in (w.0, kept k w.0 w.1))
      ];
      differ = differ;
      below = below;
      few = few;
    }

    pub no_key : rank_at keys n ≡ None → IsRenumbering keys limit (n + 1) given (numbers ++ None ∷ []) count
    no_key e =
        next_state given None count a.size (numbered-none 0 numbers a.in_order) (count-more 0 numbers None
        ∙ a.counted) (let f = a.few in omega (arith, f)) (λ s h. refl) (sym (ap (given_of given) e)) (λ k j is. is)
        (λ k is. absurd (none-some k (rank_at keys n) e is)) a.differ a.below

    pub known_key : (k : ℕ) (o : Option ℕ) → rank_at keys n ≡ Some k → is_none (rank_at given k) ≡ false → o ≡ rank_at given k → IsRenumbering keys limit (n + 1) given (numbers ++ o ∷ []) count
    known_key k o e some is =
        let w : (j : ℕ) × (rank_at given k ≡ Some j) = elim (cases_rank (rank_at given k)) as (λ _. (j : ℕ) × (rank_at given k ≡ Some j)) [
          | inl none ↦ absurd (false≢true (sym some
              ∙ ap is_none none))
          | inr w ↦ w
        ] in
        let low = a.below k w.0 w.1 in
        let o_is : o ≡ Some w.0 = is ∙ w.1 in
        subst (λ (x : Option ℕ). IsRenumbering keys limit (n + 1) given (numbers ++ x ∷ []) count) (sym o_is)
        (next_state given (Some w.0) count a.size (numbered-some 0 numbers w.0 a.in_order (omega (arith, low, a.counted)))
        (count-more 0 numbers (Some w.0) ∙ ap (λ (c : ℕ). count_from c (Some w.0 ∷ [])) a.counted
        ∙ ap (λ b. cond b count (count + 1)) (lt-ltb w.0 count low)) (let f = a.few in omega (arith, f)) (λ s h. refl)
        (sym (ap (given_of given) e ∙ w.1)) (λ l j is. is) (λ l is. (let same = some-same l k (rank_at keys n) is e in (w.0, ap (rank_at given) same ∙ w.1))) a.differ a.below)

    module _ (k : ℕ) (e : rank_at keys n ≡ Some k) (hk : k < limit) (free : is_none (rank_at given k) ≡ true) where
      more_given : List (Option ℕ)
      more_given = set given k (Some count)

      in_given : k < length given
      in_given = omega (arith, hk, a.size)

      none_yet : rank_at given k ≡ None
      none_yet = elim (cases_rank (rank_at given k)) [ inl none ↦ none | inr w ↦ absurd (false≢true (sym (ap is_none w.1) ∙ free)) ]

      given_at : (l : ℕ) → l ≡ k → rank_at more_given l ≡ Some count
      unfolding more_given
      given_at l same = get_or-set_at given k l (Some count) None same in_given

      given_other : (l : ℕ) → (l ≡ k → ⊥) → rank_at more_given l ≡ rank_at given l
      unfolding more_given
      given_other l other = get_or-set_other given k l (Some count) None other

      kept_given : (l j : ℕ) → rank_at given l ≡ Some j → rank_at more_given l ≡ Some j
      kept_given l j is = given_other l (λ same. none-some j (rank_at given l) (ap (rank_at given) same ∙ none_yet) is) ∙ is

      old_or_new : (l j : ℕ) → rank_at more_given l ≡ Some j → ((l ≡ k) × (j ≡ count)) ⊎ ((rank_at given l ≡ Some j) × (j < count))
      old_or_new l j is = elim (cases_eq l k) as (λ _. ((l ≡ k) × (j ≡ count)) ⊎ ((rank_at given l ≡ Some j) × (j < count))) [
        | inl same ↦ inl (same, some-same j count (rank_at more_given l) is (given_at l same))
        | inr other ↦ (let was : rank_at given l ≡ Some j = sym (given_other l other) ∙ is in inr (was, a.below l j was))
      ]

      given_same : (s : ℕ) → s < n → given_of given (rank_at keys s) ≡ given_of more_given (rank_at keys s)
      given_same s h = elim (cases_rank (rank_at keys s)) [
        | inl none ↦ ap (given_of given) none ∙ sym (ap (given_of more_given) none)
        | inr w ↦ (let g = a.gives s w.0 h w.1 in ap (given_of given) w.1 ∙ g.1 ∙ sym (ap (given_of more_given) w.1 ∙ kept_given w.0 g.0 g.1))
      ]

      new_differ : (l r j : ℕ) → rank_at more_given l ≡ Some j → rank_at more_given r ≡ Some j → l ≡ r
      new_differ l r j el er = elim (old_or_new l j el) [
        | inl p ↦ (elim (old_or_new r j er) [ inl q ↦ p.0 ∙ sym q.0 | inr q ↦ absurd (omega (arith, p.1, q.1)) ])
        | inr p ↦ (elim (old_or_new r j er) [ inl q ↦ absurd (omega (arith, p.1, q.1)) | inr q ↦ a.differ l r j p.0 q.0 ])
      ]

      new_below : (l j : ℕ) → rank_at more_given l ≡ Some j → j < count + 1
      new_below l j is = elim (old_or_new l j is) [ inl p ↦ omega (arith, p.1) | inr p ↦ omega (arith, p.1) ]

      new_state : IsRenumbering keys limit (n + 1) more_given (numbers ++ Some count ∷ []) (count + 1)
      unfolding more_given
      new_state =
          next_state more_given (Some count) (count + 1) (length-set given k (Some count) ∙ a.size) (numbered-some 0 numbers count a.in_order (omega (arith, a.counted)))
          (count-more 0 numbers (Some count) ∙ ap (λ (c : ℕ). count_from c (Some count ∷ [])) a.counted
          ∙ ap (λ b. cond b count (count + 1)) (le-ltb count count (omega arith))) (let f = a.few in omega (arith, f)) given_same
          (sym (ap (given_of more_given) e ∙ given_at k refl)) kept_given (λ l is. (let same = some-same l k (rank_at keys n) is e in (count, given_at l same))) new_differ new_below

      pub new_key : (o : Option ℕ) (more : List (Option ℕ)) → more ≡ set given k (Some count) → o ≡ rank_at more k → IsRenumbering keys limit (n + 1) more (numbers ++ o ∷ []) (count + 1)
      unfolding more_given
      new_key o more e is =
          let o_is : o ≡ Some count = is ∙ ap (λ (xs : List (Option ℕ)). rank_at xs k) e ∙ given_at k refl in
          subst (λ (x : Option ℕ). IsRenumbering keys limit (n + 1) more (numbers ++ x ∷ []) (count + 1)) (sym o_is) (subst (λ (xs : List (Option ℕ)). IsRenumbering keys limit (n + 1) xs
          (numbers ++ Some count ∷ []) (count + 1)) (sym e) new_state)

pub renumbered : (keys : List (Option ℕ)) (limit n : ℕ) (given numbers : List (Option ℕ)) (count : ℕ) → IsRenumbering keys limit n given numbers count → n ≡ length keys → IsRenumbered keys numbers
renumbered keys limit n given numbers count a e = record {
  count = a.length_is ∙ e;
  none = λ s h is. a.at s (omega (arith, h, e)) ∙ ap (given_of given) is;
  some = λ s k h is. (let w = a.gives s k (omega (arith, h, e)) is in (w.0, a.at s (omega (arith, h, e)) ∙ ap (given_of given) is ∙ w.1));
  same = λ s t k l i j hs ht ks kt is it.
      (let gs : rank_at given k ≡ Some i = sym (a.at s (omega (arith, hs, e)) ∙ ap (given_of given) ks) ∙ is in
      let gt : rank_at given l ≡ Some j = sym (a.at t (omega (arith, ht, e)) ∙ ap (given_of given) kt) ∙ it in (
        (λ q. a.differ k l j (gs ∙ ap Some q) gt),
        (λ q. some-same i j (rank_at given k) gs (ap (rank_at given) q ∙ gt)),
      ));
  in_order = a.in_order;
}
