-- Each model has its list of maximal end components, and each end component lies in one of them.
use Rattle.std.proofs.Common.{◌≡◌, ◌⊎◌, inl, inr, ℕ, suc, zero, ◌+◌, ◌<◌, ◌≤◌, ◌↔◌, Bool, true, false, not, ◌&&◌}
use Rattle.std.proofs.Common.{◌==◌, List, [], ◌∷◌, length, get_or, map, refl, sym, ap, ◌∙◌, subst, arith, Option, Some, None}
use Rattle.std.proofs.lemmas.Bool.{false≢true, cases_Bool, cases_eq, cases_lt, and_parts, and_from, and_right, eqb-true, eq-eqb, not-true, not_from_false}
use Rattle.std.proofs.lemmas.List.{get_or-map, length-map}
use Rattle.std.specs.List.{list_any, range_with_len}
use Rattle.mdp_spec.specs.{Mdp.{Mdp, states_of, choices_at, row_at}, Row.{IsMdp}}
use Rattle.mdp_graph.specs.Layers.{reached}
use Rattle.mdp_ends.specs.{Walks.{chosen_step, AreComponents}, Numbers.{is_numbered}}
use Rattle.mdp_ends.specs.Ends.{IsEnd, IsWithin, IsMaximal, part_of, in_part, is_inside, count_of, AreEnds}
use Rattle.mdp_ends.specs.Rounds.{KeepsEnds, keeps_part, still_allowed, IsSettled, AreLeft}
use Rattle.mdp_ends.proofs.{Walking.{any-range, range-any, stays-at, stays-by, and_then, target-below}, NumberingFound.{find_below, AreNumbers, numbers_exist}}
use Rattle.mdp_ends.proofs.{RoundLaws.{number-has, inside-is, all_kept, round_kept, ends_found}, Saturating.{count-same, enough}}
use Rattle.mdp_ends.proofs.Closing.{chosen-rises, reaches, reaches_by}
use Rattle.mdp_graph.proofs.Settling.{count_below, count-more}

-- ---- a list in which each has a number

abbrev plain : Option ℕ → ℕ
plain None = 0
plain (Some i) = i

pub all_some : (xs : List (Option ℕ)) → ((s : ℕ) → s < length xs → get_or xs s None ≡ None → ⊥) → map Some (map plain xs) ≡ xs
all_some [] h = refl
all_some (None ∷ xs) h = absurd (h 0 (omega arith) refl)
all_some (Some i ∷ xs) h = ap (λ (ys : List (Option ℕ)). Some i ∷ ys) (all_some xs (λ s l e. h (suc s) (omega (arith, l)) e))

-- numbers for all states, as a list of numbers
module _ (same : ℕ → ℕ → Bool) (refl_at : (s : ℕ) → same s s ≡ true) (sym_at : (s t : ℕ) → same s t ≡ true → same t s ≡ true)
    (n : ℕ) (trans_at : (s t u : ℕ) → s < n → t < n → u < n → same s t ≡ true → same t u ≡ true → same s u ≡ true) where
  pub numbers_for_all : (parts : List ℕ) × (length parts ≡ n) × ((s t : ℕ) → s < n → t < n → (get_or parts s 0 ≡ get_or parts t 0) ↔ (same s t ≡ true)) × (is_numbered 0 (map Some parts) ≡ true)
  numbers_for_all =
      let w = numbers_exist (λ _. true) same refl_at sym_at n trans_at n (omega arith) in
      let xs : List (Option ℕ) = w.0 in
      let a : AreNumbers (λ _. true) same refl_at sym_at n trans_at n xs = w.1 in
      let whole : map Some (map plain xs) ≡ xs = all_some xs (λ s l e. false≢true (sym (a.none s (omega (arith, l, a.count)) e))) in
      let count : length (map plain xs) ≡ n = length-map xs plain ∙ a.count in
      let at : (s : ℕ) → s < n → get_or xs s None ≡ Some (get_or (map plain xs) s 0) = λ s h.
      sym (ap (λ (ys : List (Option ℕ)). get_or ys s None) whole) ∙ get_or-map Some (map plain xs) s 0 None (omega (arith, h, count)) in (
        map plain xs,
        count,
        λ s t hs ht. (
          (λ e. a.joins s t (get_or (map plain xs) t 0) hs ht (at s hs ∙ ap Some e) (at t ht)),
          (λ e. a.splits s t (get_or (map plain xs) s 0) (get_or (map plain xs) t 0) hs ht (at s hs) (at t ht) e),
        ),
        ap (is_numbered 0) whole ∙ a.numbered,
      )

-- ---- how many choices are allowed

module _ (m : Mdp) where
  unfoldable pub total_below : (ℕ → ℕ → Bool) → ℕ → ℕ
  total_below allowed zero = 0
  total_below allowed (suc n) = total_below allowed n + count_below (allowed n) (length (choices_at m n))

  total-more : (a b : ℕ → ℕ → Bool) (n : ℕ) → ((s c : ℕ) → s < n → c < length (choices_at m s) → a s c ≡ true → b s c ≡ true) → total_below a n ≤ total_below b n
  unfolding total_below
  total-more a b zero h = omega arith
  total-more a b (suc n) h =
      let l = total-more a b n (λ s c k u e. h s c (omega (arith, k)) u e) in
      let k = count-more (a n) (b n) (length (choices_at m n)) (λ c u e. h n c (omega arith) u e) in
      omega (arith, l, k)

  pub total-less : (a b : ℕ → ℕ → Bool) (n s c : ℕ) → ((s c : ℕ) → s < n → c < length (choices_at m s) → a s c ≡ true → b s c ≡ true)
      → s < n → c < length (choices_at m s) → b s c ≡ true → a s c ≡ false → total_below a n < total_below b n
  unfolding total_below
  total-less a b zero s c h hs hc e f = absurd (omega (arith, hs))
  total-less a b (suc n) s c h hs hc e f = elim (cases_eq s n) [
    | inl same ↦
        (let l = total-more a b n (λ s c k u e. h s c (omega (arith, k)) u e) in
        elim (cases_lt (count_below (a n) (length (choices_at m n))) (count_below (b n) (length (choices_at m n)))) [
          | inl less ↦ omega (arith, l, less)
          | inr more ↦
              absurd
              (false≢true
              (sym f ∙ ap (λ x. a x c) same
              ∙ count-same (a n) (b n) (length (choices_at m n)) (λ c u e. h n c (omega arith) u e) more c (subst (λ x. c < length (choices_at m x)) same hc) (sym (ap (λ x. b x c) same) ∙ e)))
        ])
    | inr other ↦
        (let l = total-less a b n s c (λ s c k u e. h s c (omega (arith, k)) u e) (omega (arith, hs, other)) hc e f in
        let k = count-more (a n) (b n) (length (choices_at m n)) (λ c u e. h n c (omega arith) u e) in
        omega (arith, l, k))
  ]

module _ (m : Mdp) (ok : IsMdp m) where
  -- ---- components

  abbrev joined_test : (ℕ → ℕ → Bool) → ℕ → ℕ → Bool
  joined_test allowed s t = reaches m ok allowed s t && reaches m ok allowed t s

  own : (allowed : ℕ → ℕ → Bool) (s : ℕ) → reaches m ok allowed s s ≡ true
  unfolding reached
  own allowed s = enough (chosen_step m allowed) (λ x. x == s) (states_of m) (chosen-rises m ok allowed) 0 (states_of m) s (omega arith) (eq-eqb s s refl)

  pub components_exist : (allowed : ℕ → ℕ → Bool) → (parts : List ℕ) × AreComponents m allowed parts
  components_exist allowed =
      let n : ℕ = states_of m in
      let w = numbers_for_all (joined_test allowed) (λ s. and_from (reaches m ok allowed s s) (reaches m ok allowed s s) (own allowed s) (own allowed s))
      (λ s t e. (let p = and_parts (reaches m ok allowed s t) (reaches m ok allowed t s) e in and_from (reaches m ok allowed t s) (reaches m ok allowed s t) p.1 p.0)) n
      (λ s t u hs ht hu e f.
      (let p = and_parts (reaches m ok allowed s t) (reaches m ok allowed t s) e in
      let q = and_parts (reaches m ok allowed t u) (reaches m ok allowed u t) f in
      and_from (reaches m ok allowed s u) (reaches m ok allowed u s) (reaches_by m ok allowed s u hs (and_then m ok allowed s t u hs (n, p.0) (n, q.0)))
      (reaches_by m ok allowed u s hu (and_then m ok allowed u t s hu (n, q.1) (n, p.1))))) in (
        w.0,
        record {
          count = w.1;
          same = λ s t hs ht. (
            (λ e. (let p = and_parts (reaches m ok allowed s t) (reaches m ok allowed t s) ((w.2 s t hs ht).0 e) in ((n, p.0), (n, p.1)))),
            (λ j. (w.2 s t hs ht).1 (and_from (reaches m ok allowed s t) (reaches m ok allowed t s) (reaches_by m ok allowed s t hs j.0) (reaches_by m ok allowed t s ht j.1))),
          );
          numbered = w.3;
        },
      )

  -- ---- the search

  abbrev has_allowed : (ℕ → ℕ → Bool) → ℕ → Bool
  has_allowed allowed s = list_any (allowed s) (range_with_len 0 (length (choices_at m s)))

  -- the parts that are left
  left_exist : (allowed : ℕ → ℕ → Bool) (parts : List ℕ) → (ends : List (Option ℕ)) × AreLeft m allowed parts ends
  left_exist allowed parts =
      let n : ℕ = states_of m in
      let same : ℕ → ℕ → Bool = λ s t. get_or parts s 0 == get_or parts t 0 in
      let refl_at : (s : ℕ) → same s s ≡ true = λ s. eq-eqb (get_or parts s 0) (get_or parts s 0) refl in
      let sym_at : (s t : ℕ) → same s t ≡ true → same t s ≡ true = λ s t e. eq-eqb (get_or parts t 0) (get_or parts s 0) (sym (eqb-true (get_or parts s 0) (get_or parts t 0) e)) in
      let trans_at : (s t u : ℕ) → s < n → t < n → u < n → same s t ≡ true → same t u ≡ true → same s u ≡ true = λ s t u hs ht hu e f.
      eq-eqb (get_or parts s 0) (get_or parts u 0) (eqb-true (get_or parts s 0) (get_or parts t 0) e ∙ eqb-true (get_or parts t 0) (get_or parts u 0) f) in
      let w = numbers_exist (has_allowed allowed) same refl_at sym_at n trans_at n (omega arith) in
      let a : AreNumbers (has_allowed allowed) same refl_at sym_at n trans_at n w.0 = w.1 in (
        w.0,
        record {
          count = a.count;
          none = λ s c h e l. (elim (cases_Bool (allowed s c)) [
            | inr out ↦ out
            | inl it ↦ absurd (false≢true (sym (a.none s h e) ∙ range-any (allowed s) (length (choices_at m s)) c l it))
          ]);
          some = λ s i h e. any-range (allowed s) (length (choices_at m s)) (a.some s i h e);
          same = λ s t i j hs ht es et. (
            (λ e. eqb-true (get_or parts s 0) (get_or parts t 0) (a.joins s t i hs ht es (et ∙ ap Some (sym e)))),
            (λ e. a.splits s t i j hs ht es et (eq-eqb (get_or parts s 0) (get_or parts t 0) e)),
          );
          numbered = a.numbered;
        },
      )

  abbrev leaving : (ℕ → ℕ → Bool) → List ℕ → ℕ → Bool
  leaving allowed parts s = list_any (λ c. allowed s c && not (keeps_part m parts s c)) (range_with_len 0 (length (choices_at m s)))

  -- a round forbids nothing, or fewer choices are allowed after it
  round : (allowed : ℕ → ℕ → Bool) (parts : List ℕ) → IsSettled m allowed parts ⊎ (total_below m (still_allowed m allowed parts) (states_of m) < total_below m allowed (states_of m))
  round allowed parts = elim (find_below (leaving allowed parts) (states_of m)) as
      (λ _. IsSettled m allowed parts ⊎ (total_below m (still_allowed m allowed parts) (states_of m) < total_below m allowed (states_of m))) [
        | inr none ↦ inl (λ s c h l e. elim (cases_Bool (keeps_part m parts s c)) [
          | inl kept ↦ kept
          | inr out ↦
              absurd
              (false≢true
              (sym (none s h) ∙ range-any (λ c. allowed s c && not (keeps_part m parts s c)) (length (choices_at m s)) c l
              (and_from (allowed s c) (not (keeps_part m parts s c)) e (not_from_false (keeps_part m parts s c) out))))
        ])
        | inl w ↦
            (let c = any-range (λ c. allowed w.0 c && not (keeps_part m parts w.0 c)) (length (choices_at m w.0)) w.2 in
            let p = and_parts (allowed w.0 c.0) (not (keeps_part m parts w.0 c.0)) c.2 in
            inr
            (total-less m (still_allowed m allowed parts) allowed (states_of m) w.0 c.0 (λ s c h l e. (let q = and_parts (allowed s c) (keeps_part m parts s c) e in q.0)) w.1 c.1 p.0
            (and_right (allowed w.0 c.0) (keeps_part m parts w.0 c.0) (not-true (keeps_part m parts w.0 c.0) p.1))))
      ]

  pub search : (b : ℕ) (allowed : ℕ → ℕ → Bool) → KeepsEnds m allowed → total_below m allowed (states_of m) ≤ b → (ends : List (Option ℕ)) × AreEnds m ends
  search zero allowed keeps small = let w = components_exist allowed in elim (round allowed w.0) as (λ _. (ends : List (Option ℕ)) × AreEnds m ends) [
    | inl settled ↦ (let e = left_exist allowed w.0 in (e.0, ends_found m ok allowed w.0 w.1 keeps settled e.0 e.1))
    | inr fewer ↦ absurd (omega (arith, fewer, small))
  ]
  search (suc b) allowed keeps small = let w = components_exist allowed in elim (round allowed w.0) as (λ _. (ends : List (Option ℕ)) × AreEnds m ends) [
    | inl settled ↦ (let e = left_exist allowed w.0 in (e.0, ends_found m ok allowed w.0 w.1 keeps settled e.0 e.1))
    | inr fewer ↦ search b (still_allowed m allowed w.0) (round_kept m ok allowed w.0 w.1 keeps) (omega (arith, fewer, small))
  ]

  pub ends_exist : (ends : List (Option ℕ)) × AreEnds m ends
  ends_exist = search (total_below m (λ s c. true) (states_of m)) (λ s c. true) (all_kept m) (omega arith)

  -- ---- end components and parts

  module _ (ends : List (Option ℕ)) (are : AreEnds m ends) where
    -- an end component is within a part, with its inner choices
    pub within_part : (set : ℕ → Bool) (chosen : ℕ → ℕ → Bool) → IsEnd m set chosen → (i : ℕ) × (i < count_of ends) × IsWithin m set chosen (in_part ends i) (is_inside m ends)
    within_part set chosen a =
        let w = are.each set chosen a in (
          w.0,
          w.1,
          record {
            states = w.2;
            choices = λ s c h is l e.
                (let p = number-has w.0 (part_of ends s) (w.2 s h is) in
                inside-is m ends s c w.0 p ∙ stays-by (in_part ends w.0) (row_at m s c) (λ t to. w.2 t (target-below m ok s c t h l to) (stays-at set (row_at m s c) t (a.closed s c h is l e) to)));
          },
        )

    -- the maximal end components are the parts
    pub maximal_is_part : (set : ℕ → Bool) (chosen : ℕ → ℕ → Bool) → IsMaximal m set chosen
        → (i : ℕ) × (i < count_of ends) × IsWithin m set chosen (in_part ends i) (is_inside m ends) × IsWithin m (in_part ends i) (is_inside m ends) set chosen
    maximal_is_part set chosen a =
        let w = within_part set chosen a.is_end in
        let part = are.maximal w.0 w.1 in
        (w.0, w.1, w.2, a.greatest (in_part ends w.0) (is_inside m ends) part.is_end w.2)

  -- each end component is within a maximal one
  pub each_within_maximal : (set : ℕ → Bool) (chosen : ℕ → ℕ → Bool) → IsEnd m set chosen → (big : ℕ → Bool) × (more : ℕ → ℕ → Bool) × IsMaximal m big more × IsWithin m set chosen big more
  each_within_maximal set chosen a =
      let e = ends_exist in
      let are : AreEnds m e.0 = e.1 in
      let w = within_part e.0 are set chosen a in
      (in_part e.0 w.0, is_inside m e.0, are.maximal w.0 w.1, w.2)
