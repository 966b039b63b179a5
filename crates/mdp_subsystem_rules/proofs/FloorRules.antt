-- A floor certificate is answered yes exactly where the rules hold in exact numbers and no written term is past width; and then each policy of its
-- subsystem reaches the threshold.
use Rattle.std.proofs.Common.{◌≡◌, ℕ, ◌<◌, inr, ⊎_elim, Bool, true, false, true≢false, not, ◌||◌, ltb, lt-ltb}
use Rattle.std.proofs.Common.{ltb-true, eqb-true, eq-eqb, List, [], ◌∷◌, ◌++◌, length, get_or, Some, refl, sym, ap, subst, ◌∙◌, ap₂, cond, pos, arith}
use Rattle.std.proofs.{lemmas.List.Elements.{All-from_recursion, recursion_from_All}, lemmas.Bool.{cases_lt}, lemmas.List.{get_or_past}}
use Rattle.std.proofs.lemmas.List.FromFn.{length-map-range_with_len}
use Rattle.std.specs.{Prelude.{◌↔◌}, List.{Any, list_any}}
use Rattle.mdp_math.specs.Rational.{ℚ, lt_ℚ, ◌+ℚ◌, ◌≤ℚ◌, ◌<ℚ◌, of_int}
use Rattle.mdp_math.proofs.{Extremes.{lt_of_test, test_of_lt, le_of_no_test, no_test_of_le}, Laws.{zero-+ℚ}, Options.{Some_same}}
use Rattle.mdp_math.proofs.{Order.{0ℚ, 1ℚ, ≤ℚ_of_eq, ≤ℚ_antisymm}, Kernel.{weigh-same}}
use Rattle.mdp_spec.specs.{Bounds.{SubMin}, Mdp.{Entry, Mdp, states_of, choices_at, row_at, value_at}, Row.{IsMdp, row_sum}, Tree.{is_marked}}
use Rattle.mdp_farkas.specs.Verdict.{Check, InWidth, IsYes, IfYes, verdict_of, at_choices}
use Rattle.mdp_claims.specs.{declared.verdict.Fault.{Fault}, declared.verdict.Verdict.{Verdict}, declared.verdict.Verdict.TheVariants.{No}}
use Rattle.mdp_rows.specs.declared.dir.Dir.TheVariants.{Min}
use Rattle.mdp_farkas.proofs.Comparing.{le_of_at_least, at_least_of_le, le_of_at_most, at_most_of_le}
use Rattle.mdp_farkas.proofs.Holds.{Each, Holds, Sound, each_of_yes, yes_of_each, told_of_each, holds_of_sound, never_no, if_yes, each_append, each_left, each_right, each_flat, each_flat_at}
use Rattle.mdp_farkas.proofs.{Holds.{each_map, each_map_at, each_if, each_if_true, each_if_false}, Inequalities.{sum_stands_of, of_sum_stands}}
use Rattle.mdp_farkas.proofs.{ReachRules.{end_of, no_end_of}, Tests.{some_passed, some_passes}}
use Rattle.mdp_subsystem_rules.specs.Floor.{MeetsFloor, counted_value, counted_sum}
use Rattle.mdp_subsystem_rules.specs.FloorChecks.{spread_values, spread_ranks, line_value, line_rank, line_values, cover_check, cover_checks}
use Rattle.mdp_subsystem_rules.specs.FloorChecks.{rank_check, fall_check, rank_checks, checks_of_line, each_line, start_check, floor_checks, HoldsFloor}
use Rattle.mdp_subsystem_rules.specs.{FlowChecks.{kept_check}, Kept.{is_listed, kept_marks}, Shape.{IsFloorShape}}
use Rattle.mdp_subsystem_rules.proofs.{Counted.{line_values-at}, Floors.{sub_min_of_floor}, Kept.{each_kept, each_place, spread-at, looked_up-at}}
use Rattle.mdp_subsystem_rules.proofs.Parts.{unmarked}

-- ---- tests

of_end : (g l : Bool) → g ≡ false → (g || not l) ≡ true → l ≡ false
of_end true l g e = absurd (true≢false g)
of_end false true g e = absurd (true≢false (sym e))
of_end false false g e = refl

of_no_end : (g l : Bool) → (g || not l) ≡ false → l ≡ true
of_no_end true l e = absurd (true≢false e)
of_no_end false true e = refl
of_no_end false false e = absurd (true≢false e)

module _ (m : Mdp) (goals : List Bool) (start : ℕ) (threshold : ℚ) (kept : List ℕ) (wide : List Bool) (values : List ℚ) (ranks : List ℕ) (one_mark_each : length goals ≡ states_of m) (h : start < states_of m)
    (shape : IsFloorShape m kept wide values ranks) where
  abbrev marks : List Bool
  marks = kept_marks (states_of m) kept

  abbrev z : List ℚ
  z = spread_values m kept values

  abbrev steps : List ℕ
  steps = spread_ranks m kept ranks

  abbrev counts : List ℚ
  counts = line_values m goals kept values

  abbrev ranked : ℕ → ℕ
  ranked t = line_rank m goals kept ranks t

  -- ---- the lines, by state

  inside : (i : ℕ) → i < length kept → get_or kept i 0 < states_of m
  inside i l = shape.kept_in_range i 0 l

  pub own_value : (i : ℕ) → i < length kept → value_at z (get_or kept i 0) ≡ value_at values i
  own_value i l = spread-at (states_of m) kept values 0ℚ 0ℚ (get_or kept i 0) (inside i l) ∙ looked_up-at kept values 0ℚ 0ℚ i shape.kept_ascends l shape.one_value_each

  pub own_rank : (i : ℕ) → i < length kept → get_or steps (get_or kept i 0) 0 ≡ get_or ranks i 0
  own_rank i l = spread-at (states_of m) kept ranks 0 0 (get_or kept i 0) (inside i l) ∙ looked_up-at kept ranks 0 0 i shape.kept_ascends l shape.one_rank_each

  -- a number that isn't a state counts as 0
  value_is : (t : ℕ) → value_at counts t ≡ counted_value goals marks z t
  value_is t =
      ⊎_elim (λ lt. line_values-at m goals kept values t lt)
      (λ past. get_or_past counts t 0ℚ (omega (arith, past, length-map-range_with_len (line_value m goals kept values) 0 (states_of m)))
      ∙ ap₂ (λ (g k : Bool). cond g (of_int (pos 1)) (cond k (value_at z t) 0ℚ)) (sym (get_or_past goals t false (omega (arith, past, one_mark_each))))
      (sym (get_or_past marks t false (omega (arith, past, length-map-range_with_len (is_listed kept) 0 (states_of m))))))
      (cases_lt t (states_of m))

  -- the sum over a row of what the lines count is that of what the states count as
  pub same_sum : (s c : ℕ) → s < states_of m → c < length (choices_at m s) → row_sum (row_at m s c) counts ≡ counted_sum goals marks z (row_at m s c)
  same_sum s c l k =
      weigh-same (λ (y : Entry). y.target) (λ (y : Entry). y.prob) (λ t. value_at counts t) (λ t. counted_value goals marks z t) (row_at m s c)
      (λ i d l. value_is (Entry.target (get_or (row_at m s c) i d)))

  -- ---- the parts of the checks

  at_line : (P : Check → Type 0) (i : ℕ) → Each P (floor_checks m goals start threshold kept values ranks) → i < length kept → Each P (checks_of_line m goals kept values ranks i)
  at_line P i a l =
      each_flat_at P (checks_of_line m goals kept values ranks) (length kept) i (each_left P (each_line m goals kept values ranks) (start_check m goals start threshold kept values ∷ []) a) l

  at_start : (P : Check → Type 0) → Each P (floor_checks m goals start threshold kept values ranks) → P (start_check m goals start threshold kept values)
  at_start P a = (each_right P (each_line m goals kept values ranks) (start_check m goals start threshold kept values ∷ []) a).0

  module _ (P : Check → Type 0) (i : ℕ) (a : Each P (checks_of_line m goals kept values ranks i)) where
    abbrev covers : List Check
    covers = cover_checks m goals counts (get_or kept i 0) (value_at values i)

    abbrev rest : List Check
    rest = rank_checks m goals ranked (get_or kept i 0) (value_at values i) (get_or ranks i 0)

    at_covers : Each P covers
    at_covers = each_left P covers (rest ++ kept_check goals (get_or kept i 0) ∷ []) a.1.1

    at_rest : Each P rest
    at_rest = each_left P rest (kept_check goals (get_or kept i 0) ∷ []) (each_right P covers (rest ++ kept_check goals (get_or kept i 0) ∷ []) a.1.1)

    at_free : P (kept_check goals (get_or kept i 0))
    at_free = (each_right P rest (kept_check goals (get_or kept i 0) ∷ []) (each_right P covers (rest ++ kept_check goals (get_or kept i 0) ∷ []) a.1.1)).0

    at_cover : (c : ℕ) → is_marked goals (get_or kept i 0) ≡ false → c < length (choices_at m (get_or kept i 0)) → P (cover_check m counts (get_or kept i 0) (value_at values i) c)
    at_cover c free k =
        each_map_at P (cover_check m counts (get_or kept i 0) (value_at values i)) (length (choices_at m (get_or kept i 0))) c
        (each_if_false P (is_marked goals (get_or kept i 0)) [] (at_choices m (get_or kept i 0) (cover_check m counts (get_or kept i 0) (value_at values i))) free at_covers) k

    at_rank : (is_marked goals (get_or kept i 0) || not (lt_ℚ 0ℚ (value_at values i))) ≡ true → P (rank_check (get_or kept i 0) (get_or ranks i 0))
    at_rank e =
        (each_if_true P (is_marked goals (get_or kept i 0) || not (lt_ℚ 0ℚ (value_at values i))) (rank_check (get_or kept i 0) (get_or ranks i 0) ∷ [])
        (at_choices m (get_or kept i 0) (fall_check m ranked (get_or kept i 0) (get_or ranks i 0))) e at_rest).0

    at_fall : (c : ℕ) → (is_marked goals (get_or kept i 0) || not (lt_ℚ 0ℚ (value_at values i))) ≡ false → c < length (choices_at m (get_or kept i 0))
        → P (fall_check m ranked (get_or kept i 0) (get_or ranks i 0) c)
    at_fall c e k =
        each_map_at P (fall_check m ranked (get_or kept i 0) (get_or ranks i 0)) (length (choices_at m (get_or kept i 0))) c
        (each_if_false P (is_marked goals (get_or kept i 0) || not (lt_ℚ 0ℚ (value_at values i))) (rank_check (get_or kept i 0) (get_or ranks i 0) ∷ [])
        (at_choices m (get_or kept i 0) (fall_check m ranked (get_or kept i 0) (get_or ranks i 0))) e at_rest) k

  -- ---- what holds, in exact numbers

  falls_by : (rank : ℕ) (row : List Entry) → list_any (λ y. ltb (ranked (Entry.target y)) rank) row ≡ true → Any (λ y. ranked (Entry.target y) < rank) row
  falls_by rank row e = some_passed (λ y. ltb (ranked (Entry.target y)) rank) (λ y. ranked (Entry.target y) < rank) (λ y q. ltb-true (ranked (Entry.target y)) rank q) row e

  pub by_falls : (rank : ℕ) (row : List Entry) → Any (λ y. ranked (Entry.target y) < rank) row → list_any (λ y. ltb (ranked (Entry.target y)) rank) row ≡ true
  by_falls rank row a = some_passes (λ y. ltb (ranked (Entry.target y)) rank) (λ y. ranked (Entry.target y) < rank) (λ y q. lt-ltb (ranked (Entry.target y)) rank q) row a

  module _ (a : Each Holds (floor_checks m goals start threshold kept values ranks)) where
    free_at : (i : ℕ) → i < length kept → is_marked goals (get_or kept i 0) ≡ false
    free_at i l = unmarked (is_marked goals (get_or kept i 0)) (Some_same _ _ (at_free Holds i (at_line Holds i a l)))

    meets : MeetsFloor m goals marks z steps start threshold
    meets = record {
      no_goal = each_kept (λ s. is_marked goals s ≡ false) (states_of m) kept free_at;
      at_least_zero = each_kept (λ s. 0ℚ ≤ℚ value_at z s) (states_of m) kept
          (λ i l. subst (λ (x : ℚ). 0ℚ ≤ℚ x) (sym (own_value i l)) (le_of_at_least (value_at values i) 0ℚ (at_line Holds i a l).0));
      at_most_one = each_kept (λ s. value_at z s ≤ℚ 1ℚ) (states_of m) kept
          (λ i l. subst (λ (x : ℚ). x ≤ℚ 1ℚ) (sym (own_value i l)) (le_of_at_most (value_at values i) 1ℚ (at_line Holds i a l).1.0));
      covered = λ s c l k i. each_kept (λ s. (c : ℕ) → c < length (choices_at m s) → value_at z s ≤ℚ counted_sum goals marks z (row_at m s c)) (states_of m) kept covered_at s l k c i;
      ends = each_kept (λ s. value_at z s ≡ 0ℚ → get_or steps s 0 ≡ 0) (states_of m) kept
          (λ i l e.
          own_rank i l
          ∙ eqb-true (get_or ranks i 0) 0
          (Some_same _ _ (at_rank Holds i (at_line Holds i a l)
          (end_of (is_marked goals (get_or kept i 0)) (lt_ℚ 0ℚ (value_at values i)) (inr (no_test_of_le 0ℚ (value_at values i) (≤ℚ_of_eq (value_at values i) 0ℚ (sym (own_value i l) ∙ e))))))));
      falls = λ s c l k p i.
          each_kept (λ s. 0ℚ <ℚ value_at z s → (c : ℕ) → c < length (choices_at m s) → Any (λ y. ranked (Entry.target y) < get_or steps s 0) (row_at m s c)) (states_of m) kept falls_at s l k p c i;
      reached = le_of_at_least (line_value m goals kept values start) threshold (at_start Holds a);
    }
      where
        covered_at : (i : ℕ) → i < length kept → (c : ℕ) → c < length (choices_at m (get_or kept i 0)) → value_at z (get_or kept i 0) ≤ℚ counted_sum goals marks z (row_at m (get_or kept i 0) c)
        covered_at i l c k =
            let s = get_or kept i 0 in
            subst (λ (x : ℚ). x ≤ℚ counted_sum goals marks z (row_at m s c)) (sym (own_value i l))
            (subst (λ (x : ℚ). value_at values i ≤ℚ x) (zero-+ℚ (row_sum (row_at m s c) counts) ∙ same_sum s c (inside i l) k)
            (sum_stands_of Min (value_at values i) counts 0ℚ (row_at m s c) (at_cover Holds i (at_line Holds i a l) c (free_at i l) k)))

        falls_at : (i : ℕ) → i < length kept → 0ℚ <ℚ value_at z (get_or kept i 0) → (c : ℕ) → c < length (choices_at m (get_or kept i 0))
            → Any (λ y. ranked (Entry.target y) < get_or steps (get_or kept i 0) 0) (row_at m (get_or kept i 0) c)
        falls_at i l p c k =
            let s = get_or kept i 0 in
            let above = test_of_lt 0ℚ (value_at values i) (subst (λ (x : ℚ). 0ℚ <ℚ x) (own_value i l) p) in
            subst (λ (r : ℕ). Any (λ y. ranked (Entry.target y) < r) (row_at m s c)) (sym (own_rank i l))
            (falls_by (get_or ranks i 0) (row_at m s c)
            (Some_same _ _ (at_fall Holds i (at_line Holds i a l) c (no_end_of (is_marked goals s) (lt_ℚ 0ℚ (value_at values i)) (free_at i l) above) k)))

  -- ---- and the other way round

  module _ (r : MeetsFloor m goals marks z steps start threshold) where
    is_free : (i : ℕ) → i < length kept → is_marked goals (get_or kept i 0) ≡ false
    is_free i l = each_place (λ s. is_marked goals s ≡ false) (states_of m) kept r.no_goal i l (inside i l)

    is_covered : (i : ℕ) → i < length kept → (c : ℕ) → c < length (choices_at m (get_or kept i 0)) → value_at values i ≤ℚ 0ℚ +ℚ row_sum (row_at m (get_or kept i 0) c) counts
    is_covered i l c k =
        let s = get_or kept i 0 in
        subst (λ (x : ℚ). value_at values i ≤ℚ x) (sym (zero-+ℚ (row_sum (row_at m s c) counts) ∙ same_sum s c (inside i l) k))
        (subst (λ (x : ℚ). x ≤ℚ counted_sum goals marks z (row_at m s c)) (own_value i l)
        (each_place (λ s. (c : ℕ) → c < length (choices_at m s) → value_at z s ≤ℚ counted_sum goals marks z (row_at m s c)) (states_of m) kept (λ s l k c i. r.covered s c l k i) i l (inside i l) c k))

    covers_sound : (i : ℕ) → i < length kept → Each Sound (cover_checks m goals counts (get_or kept i 0) (value_at values i))
    covers_sound i l =
        let s = get_or kept i 0 in
        each_if Sound (is_marked goals s) [] (at_choices m s (cover_check m counts s (value_at values i))) (λ g. tt)
        (λ g.
        each_map Sound (cover_check m counts s (value_at values i)) (length (choices_at m s))
        (λ c k told. of_sum_stands Min (value_at values i) counts 0ℚ (row_at m s c) (is_covered i l c k) told))

    at_least_zero_at : (i : ℕ) → i < length kept → 0ℚ ≤ℚ value_at values i
    at_least_zero_at i l = subst (λ (x : ℚ). 0ℚ ≤ℚ x) (own_value i l) (each_place (λ s. 0ℚ ≤ℚ value_at z s) (states_of m) kept r.at_least_zero i l (inside i l))

    at_most_one_at : (i : ℕ) → i < length kept → value_at values i ≤ℚ 1ℚ
    at_most_one_at i l = subst (λ (x : ℚ). x ≤ℚ 1ℚ) (own_value i l) (each_place (λ s. value_at z s ≤ℚ 1ℚ) (states_of m) kept r.at_most_one i l (inside i l))

    ends_at : (i : ℕ) → i < length kept → lt_ℚ 0ℚ (value_at values i) ≡ false → get_or ranks i 0 ≡ 0
    ends_at i l e =
        let s = get_or kept i 0 in
        let none = ≤ℚ_antisymm (value_at values i) 0ℚ (le_of_no_test 0ℚ (value_at values i) e) (at_least_zero_at i l) in
        sym (own_rank i l) ∙ each_place (λ s. value_at z s ≡ 0ℚ → get_or steps s 0 ≡ 0) (states_of m) kept r.ends i l (inside i l) (own_value i l ∙ none)

    falls_at : (i : ℕ) → i < length kept → lt_ℚ 0ℚ (value_at values i) ≡ true → (c : ℕ) → c < length (choices_at m (get_or kept i 0))
        → Any (λ y. ranked (Entry.target y) < get_or ranks i 0) (row_at m (get_or kept i 0) c)
    falls_at i l e c k =
        let s = get_or kept i 0 in
        subst (λ (q : ℕ). Any (λ y. ranked (Entry.target y) < q) (row_at m s c)) (own_rank i l)
        (each_place (λ s. 0ℚ <ℚ value_at z s → (c : ℕ) → c < length (choices_at m s) → Any (λ y. ranked (Entry.target y) < get_or steps s 0) (row_at m s c)) (states_of m) kept
        (λ s l k p c i. r.falls s c l k p i) i l (inside i l) (subst (λ (x : ℚ). 0ℚ <ℚ x) (sym (own_value i l)) (lt_of_test 0ℚ (value_at values i) e)) c k)

    ranks_sound : (i : ℕ) → i < length kept → Each Sound (rank_checks m goals ranked (get_or kept i 0) (value_at values i) (get_or ranks i 0))
    ranks_sound i l =
        let s = get_or kept i 0 in
        let positive = lt_ℚ 0ℚ (value_at values i) in
        each_if Sound (is_marked goals s || not positive) (rank_check s (get_or ranks i 0) ∷ []) (at_choices m s (fall_check m ranked s (get_or ranks i 0)))
        (λ e. (λ told. ap Some (eq-eqb (get_or ranks i 0) 0 (ends_at i l (of_end (is_marked goals s) positive (is_free i l) e))), tt))
        (λ e.
        each_map Sound (fall_check m ranked s (get_or ranks i 0)) (length (choices_at m s))
        (λ c k told. ap Some (by_falls (get_or ranks i 0) (row_at m s c) (falls_at i l (of_no_end (is_marked goals s) positive e) c k))))

    line_sound : (i : ℕ) → i < length kept → Each Sound (checks_of_line m goals kept values ranks i)
    line_sound i l =
        let s = get_or kept i 0 in (
          λ told. at_least_of_le (value_at values i) 0ℚ (at_least_zero_at i l) told,
          (
            λ told. at_most_of_le (value_at values i) 1ℚ (at_most_one_at i l) told,
            each_append Sound (cover_checks m goals counts s (value_at values i)) (rank_checks m goals ranked s (value_at values i) (get_or ranks i 0) ++ kept_check goals s ∷ []) (covers_sound i l)
                (each_append Sound (rank_checks m goals ranked s (value_at values i) (get_or ranks i 0)) (kept_check goals s ∷ [])
                (ranks_sound i l) (λ told. ap (λ (b : Bool). Some (not b)) (is_free i l), tt)),
          ),
        )

    all_sound : Each Sound (floor_checks m goals start threshold kept values ranks)
    all_sound =
        each_append Sound (each_line m goals kept values ranks) (start_check m goals start threshold kept values ∷ [])
        (each_flat Sound (checks_of_line m goals kept values ranks) (length kept) line_sound)
        (λ told. at_least_of_le (line_value m goals kept values start) threshold r.reached told, tt)

  -- so what meets the rules is never answered no
  pub floor_never_no : MeetsFloor m goals marks z steps start threshold → (fault : Fault) → verdict_of (floor_checks m goals start threshold kept values ranks) ≡ No fault → ⊥
  floor_never_no r = never_no (floor_checks m goals start threshold kept values ranks) (all_sound r)

  -- ---- the verdict

  pub floor_rules : (v : Verdict) → v ≡ verdict_of (floor_checks m goals start threshold kept values ranks) → IsYes v ↔ HoldsFloor m goals start threshold kept values ranks
  floor_rules v e = (
    (λ yes_.
        let a = each_of_yes (floor_checks m goals start threshold kept values ranks) (sym e ∙ yes_) in
        record {
          rules = meets a;
          in_width = All-from_recursion InWidth (floor_checks m goals start threshold kept values ranks) (told_of_each (floor_checks m goals start threshold kept values ranks) a);
        }),
    (λ is.
        let w = recursion_from_All InWidth (floor_checks m goals start threshold kept values ranks) is.in_width in
        e
        ∙ yes_of_each (floor_checks m goals start threshold kept values ranks) (holds_of_sound (floor_checks m goals start threshold kept values ranks) (all_sound is.rules) w)),
  )

  pub floor_sub_min : (v : Verdict) → IsMdp m → v ≡ verdict_of (floor_checks m goals start threshold kept values ranks) → IfYes v (SubMin m goals marks start threshold)
  floor_sub_min v known e =
      if_yes v (SubMin m goals marks start threshold) (λ yes_. sub_min_of_floor m goals marks z steps start threshold known (HoldsFloor.rules ((floor_rules v e).0 yes_)) h)
