-- Components, maximal end components and nodes have one numbering each.
use Rattle.std.proofs.Common.{◌≡◌, inl, inr, ℕ, suc, zero, ◌+◌, ◌<◌, ◌≤◌, ◌↔◌, Bool, true, ◌&&◌, ◌==◌, nat_lt, List}
use Rattle.std.proofs.Common.{[], ◌∷◌, ◌++◌, length, get_or, map, refl, sym, ap, ◌∙◌, subst, arith, Option, Some, None}
use Rattle.std.proofs.{lemmas.Bool.{or_left, or_right, and_from, eq-eqb, cases_lt}, lemmas.List.{get_or-map, length-map}}
use Rattle.mdp_spec.specs.Mdp.{Mdp, states_of}
use Rattle.mdp_ends.specs.{Walks.{AreComponents}, Numbers.{is_numbered, count_from}, Ends.{part_of, in_part, AreEnds}, Quotient.{AreNodes}}
use Rattle.mdp_ends.proofs.{Numbering.{head_cases, some-same, some≢none, case-number, numbered-below, numbered-has}, RoundLaws.{has-number, number-has}}

-- ---- a list in two pieces

numbered-prefix : (next : ℕ) (zs ws : List (Option ℕ)) → is_numbered next (zs ++ ws) ≡ true → is_numbered next zs ≡ true
numbered-prefix next [] ws e = refl
numbered-prefix next (None ∷ zs) ws e = numbered-prefix next zs ws e
numbered-prefix next (Some j ∷ zs) ws e = elim (head_cases next j (zs ++ ws) e) [
  | inl old ↦ or_left (nat_lt j next && is_numbered next zs) ((j == next) && is_numbered (next + 1) zs) (and_from (nat_lt j next) (is_numbered next zs) old.0 (numbered-prefix next zs ws old.2))
  | inr new ↦ or_right (nat_lt j next && is_numbered next zs) ((j == next) && is_numbered (next + 1) zs) (and_from (j == next) (is_numbered (next + 1) zs) (eq-eqb j next new.1) (numbered-prefix (next + 1) zs ws new.2))
]

numbered-bound : (next : ℕ) (zs ws : List (Option ℕ)) (i : ℕ) → is_numbered next (zs ++ Some i ∷ ws) ≡ true → i ≤ count_from next zs
numbered-bound next [] ws i e = elim (head_cases next i ws e) [
  | inl old ↦ omega (arith, old.1)
  | inr new ↦ omega (arith, new.1)
]
numbered-bound next (None ∷ zs) ws i e = numbered-bound next zs ws i e
numbered-bound next (Some j ∷ zs) ws i e = elim (head_cases next j (zs ++ Some i ∷ ws) e) [
  | inl old ↦ rw old.0 (numbered-bound next zs ws i old.2)
  | inr new ↦ rw new.0 (numbered-bound (next + 1) zs ws i new.2)
]

at_before : (zs ws : List (Option ℕ)) (s : ℕ) → s < length zs → get_or (zs ++ ws) s None ≡ get_or zs s None
at_before [] ws s h = absurd (omega (arith, h))
at_before (z ∷ zs) ws zero h = refl
at_before (z ∷ zs) ws (suc s) h = at_before zs ws s (omega (arith, h))

at_place : (zs ws : List (Option ℕ)) (w : Option ℕ) → get_or (zs ++ w ∷ ws) (length zs) None ≡ w
at_place [] ws w = refl
at_place (z ∷ zs) ws w = at_place zs ws w

place_within : (zs ws : List (Option ℕ)) (w : Option ℕ) → length zs < length (zs ++ w ∷ ws)
place_within [] ws w = omega arith
place_within (z ∷ zs) ws w = let l = place_within zs ws w in omega (arith, l)

moved_one : (zs ws : List (Option ℕ)) (w : Option ℕ) → (zs ++ w ∷ []) ++ ws ≡ zs ++ w ∷ ws
moved_one [] ws w = refl
moved_one (z ∷ zs) ws w = ap (λ (ys : List (Option ℕ)). z ∷ ys) (moved_one zs ws w)

-- ---- two lists that number the same parts

pub record NumberAlike (xs ys : List (Option ℕ)) : Type 0 where
  pub none : (s : ℕ) → s < length xs → (get_or xs s None ≡ None) ↔ (get_or ys s None ≡ None)
  pub same : (s t i j k l : ℕ) → s < length xs → t < length xs → get_or xs s None ≡ Some i
      → get_or xs t None ≡ Some j → get_or ys s None ≡ Some k → get_or ys t None ≡ Some l → (i ≡ j) ↔ (k ≡ l)

next_same : (zs xs ys : List (Option ℕ)) (i j : ℕ) → is_numbered 0 (zs ++ Some i ∷ xs) ≡ true
    → is_numbered 0 (zs ++ Some j ∷ ys) ≡ true → NumberAlike (zs ++ Some i ∷ xs) (zs ++ Some j ∷ ys) → i ≡ j
next_same zs xs ys i j first second alike =
    let low = numbered-bound 0 zs xs i first in
    let high = numbered-bound 0 zs ys j second in
    let whole = numbered-prefix 0 zs (Some i ∷ xs) first in
    let here = place_within zs xs (Some i) in
    elim (cases_lt i (count_from 0 zs)) [
      | inl old ↦
          (let w = numbered-has 0 zs i whole (omega arith) old in
          let k = alike.same (length zs) w.0 i i j i here (omega (arith, here, w.1)) (at_place zs xs (Some i))
          (at_before zs (Some i ∷ xs) w.0 w.1 ∙ w.2) (at_place zs ys (Some j)) (at_before zs (Some j ∷ ys) w.0 w.1 ∙ w.2) in
          sym (k.0 refl))
      | inr new ↦ (elim (cases_lt j (count_from 0 zs)) [
        | inl old ↦
            (let w = numbered-has 0 zs j whole (omega arith) old in
            let k = alike.same (length zs) w.0 i j j j here (omega (arith, here, w.1)) (at_place zs xs (Some i))
            (at_before zs (Some i ∷ xs) w.0 w.1 ∙ w.2) (at_place zs ys (Some j)) (at_before zs (Some j ∷ ys) w.0 w.1 ∙ w.2) in
            k.1 refl)
        | inr later ↦ omega (arith, low, high, new, later)
      ])
    ]

rest_same : (zs xs ys : List (Option ℕ)) → length xs ≡ length ys → is_numbered 0 (zs ++ xs) ≡ true → is_numbered 0 (zs ++ ys) ≡ true → NumberAlike (zs ++ xs) (zs ++ ys) → xs ≡ ys
rest_same zs [] [] count first second alike = refl
rest_same zs [] (y ∷ ys) count first second alike = absurd (omega (arith, count))
rest_same zs (x ∷ xs) [] count first second alike = absurd (omega (arith, count))
rest_same zs (x ∷ xs) (y ∷ ys) count first second alike =
    let same = head_same x y first second alike in
    let again : is_numbered 0 (zs ++ x ∷ ys) ≡ true = subst (λ (w : Option ℕ). is_numbered 0 (zs ++ w ∷ ys) ≡ true) (sym same) second in
    let alike_again : NumberAlike (zs ++ x ∷ xs) (zs ++ x ∷ ys) = subst (λ (w : Option ℕ). NumberAlike (zs ++ x ∷ xs) (zs ++ w ∷ ys)) (sym same) alike in
    let rest = rest_same (zs ++ x ∷ []) xs ys (omega (arith, count)) (ap (is_numbered 0) (moved_one zs xs x) ∙ first) (ap (is_numbered 0) (moved_one zs ys x) ∙ again)
    (subst (λ (w : List (Option ℕ)). NumberAlike w ((zs ++ x ∷ []) ++ ys)) (sym (moved_one zs xs x)) (subst (λ (w : List (Option ℕ)). NumberAlike (zs ++ x ∷ xs) w) (sym (moved_one zs ys x)) alike_again)) in
    ap (λ (w : Option ℕ). w ∷ xs) same ∙ ap (λ (w : List (Option ℕ)). y ∷ w) rest where
      head_same : (x y : Option ℕ) → is_numbered 0 (zs ++ x ∷ xs) ≡ true → is_numbered 0 (zs ++ y ∷ ys) ≡ true → NumberAlike (zs ++ x ∷ xs) (zs ++ y ∷ ys) → x ≡ y
      head_same None None first second alike = refl
      head_same None (Some j) first second alike = let k = alike.none (length zs) (place_within zs xs None) in absurd (some≢none j (sym (at_place zs ys (Some j)) ∙ k.0 (at_place zs xs None)))
      head_same (Some i) None first second alike = let k = alike.none (length zs) (place_within zs xs (Some i)) in absurd (some≢none i (sym (at_place zs xs (Some i)) ∙ k.1 (at_place zs ys None)))
      head_same (Some i) (Some j) first second alike = ap Some (next_same zs xs ys i j first second alike)

pub one_numbering : (xs ys : List (Option ℕ)) → length xs ≡ length ys → is_numbered 0 xs ≡ true → is_numbered 0 ys ≡ true → NumberAlike xs ys → xs ≡ ys
one_numbering xs ys count first second alike = rest_same [] xs ys count first second alike

-- ---- numbers that none lacks

abbrev plain : Option ℕ → ℕ
plain None = 0
plain (Some i) = i

unmapped : (xs : List ℕ) → map plain (map Some xs) ≡ xs
unmapped [] = refl
unmapped (x ∷ xs) = ap (λ (ys : List ℕ). x ∷ ys) (unmapped xs)

one_plain : (xs ys : List ℕ) → length xs ≡ length ys → is_numbered 0 (map Some xs) ≡ true → is_numbered 0 (map Some ys) ≡ true
    → ((s t : ℕ) → s < length xs → t < length xs → (get_or xs s 0 ≡ get_or xs t 0) ↔ (get_or ys s 0 ≡ get_or ys t 0)) → xs ≡ ys
one_plain xs ys count first second same =
    sym (unmapped xs)
    ∙ ap (map plain)
    (one_numbering (map Some xs) (map Some ys) (length-map xs Some ∙ count ∙ sym (length-map ys Some)) first second (record {
      none = λ s h. (
        (λ e. absurd (some≢none (get_or xs s 0) (sym (at xs s (omega (arith, h, length-map xs Some))) ∙ e))),
        (λ e. absurd (some≢none (get_or ys s 0) (sym (at ys s (omega (arith, h, length-map xs Some, count))) ∙ e))),
      );
      same = λ s t i j k l hs ht es et fs ft.
          (let ls : s < length xs = omega (arith, hs, length-map xs Some) in
          let lt : t < length xs = omega (arith, ht, length-map xs Some) in
          let a = some-same (get_or xs s 0) i (sym (at xs s ls) ∙ es) in
          let b = some-same (get_or xs t 0) j (sym (at xs t lt) ∙ et) in
          let c = some-same (get_or ys s 0) k (sym (at ys s (omega (arith, ls, count))) ∙ fs) in
          let d = some-same (get_or ys t 0) l (sym (at ys t (omega (arith, lt, count))) ∙ ft) in
          let w = same s t ls lt in (
            (λ e. sym c ∙ w.0 (a ∙ e ∙ sym b) ∙ d),
            (λ e. sym a ∙ w.1 (c ∙ e ∙ sym d) ∙ b),
          ));
    }))
    ∙ unmapped ys where
      at : (zs : List ℕ) (s : ℕ) → s < length zs → get_or (map Some zs) s None ≡ Some (get_or zs s 0)
      at zs s h = get_or-map Some zs s 0 None h

both_ways : {A B C : Type 0} → A ↔ B → C ↔ B → A ↔ C
both_ways p q = ((λ a. q.1 (p.0 a)), (λ c. p.1 (q.0 c)))

pub one_components : (m : Mdp) (allowed : ℕ → ℕ → Bool) (xs ys : List ℕ) → AreComponents m allowed xs → AreComponents m allowed ys → xs ≡ ys
one_components m allowed xs ys a b =
    one_plain xs ys (a.count ∙ sym b.count) a.numbered b.numbered
    (λ s t hs ht. both_ways (a.same s t (omega (arith, hs, a.count)) (omega (arith, ht, a.count))) (b.same s t (omega (arith, hs, a.count)) (omega (arith, ht, a.count))))

pub one_nodes : (ends : List (Option ℕ)) (xs ys : List ℕ) → AreNodes ends xs → AreNodes ends ys → xs ≡ ys
one_nodes ends xs ys a b =
    one_plain xs ys (a.count ∙ sym b.count) a.numbered b.numbered
    (λ s t hs ht. both_ways (a.same s t (omega (arith, hs, a.count)) (omega (arith, ht, a.count))) (b.same s t (omega (arith, hs, a.count)) (omega (arith, ht, a.count))))

-- ---- maximal end components

module _ (m : Mdp) (xs ys : List (Option ℕ)) (a : AreEnds m xs) (b : AreEnds m ys) where
  -- the states of a part of one list are in one part of the other
  pub same_part : (s t i : ℕ) → s < states_of m → t < states_of m → part_of xs s ≡ Some i → part_of xs t ≡ Some i → (k : ℕ) × (part_of ys s ≡ Some k) × (part_of ys t ≡ Some k)
  same_part s t i hs ht es et =
      let part = a.maximal i (numbered-below 0 xs s i a.numbered es) in
      let w = b.each (in_part xs i) _ part.is_end in
      (w.0, number-has w.0 (part_of ys s) (w.2 s hs (has-number i (part_of xs s) es)), number-has w.0 (part_of ys t) (w.2 t ht (has-number i (part_of xs t) et)))

pub one_ends : (m : Mdp) (xs ys : List (Option ℕ)) → AreEnds m xs → AreEnds m ys → xs ≡ ys
one_ends m xs ys a b =
    one_numbering xs ys (a.count ∙ sym b.count) a.numbered b.numbered (record {
      none = λ s h. (let l : s < states_of m = omega (arith, h, a.count) in (
        (λ e. lacks xs ys a b s l e),
        (λ e. lacks ys xs b a s l e),
      ));
      same = λ s t i j k l hs ht es et fs ft.
          (let us : s < states_of m = omega (arith, hs, a.count) in
          let ut : t < states_of m = omega (arith, ht, a.count) in (
            (λ e. together xs ys a b s t i k l us ut es (et ∙ ap Some (sym e)) fs ft),
            (λ e. together ys xs b a s t k i j us ut fs (ft ∙ ap Some (sym e)) es et),
          ));
    }) where
      lacks : (xs ys : List (Option ℕ)) → AreEnds m xs → AreEnds m ys → (s : ℕ) → s < states_of m → part_of xs s ≡ None → part_of ys s ≡ None
      lacks xs ys a b s h e = elim (case-number (part_of ys s)) as (λ _. part_of ys s ≡ None) [
        | inl none ↦ none
        | inr some ↦ (let w = same_part m ys xs b a s s some.0 h h some.1 some.1 in absurd (some≢none w.0 (sym w.1 ∙ e)))
      ]

      together : (xs ys : List (Option ℕ)) → AreEnds m xs → AreEnds m ys → (s t i k l : ℕ) → s < states_of m → t < states_of m
          → part_of xs s ≡ Some i → part_of xs t ≡ Some i → part_of ys s ≡ Some k → part_of ys t ≡ Some l → k ≡ l
      together xs ys a b s t i k l hs ht es et fs ft = let w = same_part m xs ys a b s t i hs ht es et in some-same k w.0 (sym fs ∙ w.1) ∙ sym (some-same l w.0 (sym ft ∙ w.2))
