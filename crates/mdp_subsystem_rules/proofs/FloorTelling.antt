-- A no to a floor: the named state is one of the model, and what the named rule says of the named place is false.
use Rattle.std.proofs.Common.{◌≡◌, ℕ, ◌<◌, ◌⊎◌, inl, inr, ⊎_elim, Bool, true, false, not, ◌||◌, eq-eqb, List, [], ◌∷◌, ◌++◌, length, get_or, Some, sym, ap, subst, ◌∙◌}
use Rattle.std.specs.List.{Any}
use Rattle.mdp_math.specs.Rational.{ℚ, lt_ℚ, ◌+ℚ◌, ◌≤ℚ◌, ◌<ℚ◌}
use Rattle.mdp_math.proofs.{Extremes.{lt_of_test, le_of_no_test}, Laws.{zero-+ℚ}, Options.{Some_same}, Order.{0ℚ, 1ℚ, ≤ℚ_antisymm}}
use Rattle.mdp_spec.specs.{Mdp.{Mdp, states_of, choices_at, row_at, value_at}, Row.{row_sum}, Tree.{is_marked}}
use Rattle.mdp_farkas.specs.{Verdict.{Check, at_state, at_choices}, Compare.{is_at_least, is_at_most}, Laws.{IsInModel}}
use Rattle.mdp_claims.specs.{declared.verdict.Fault.{Fault}, declared.rule.Rule.TheVariants.{Probability, RankFalls}}
use Rattle.mdp_rows.specs.declared.dir.Dir.TheVariants.{Min}
use Rattle.mdp_farkas.proofs.{Comparing.{le_of_at_least, at_least_of_le, at_most_of_le}, Inequalities.{of_sum_stands}, ReachRules.{of_end, of_no_end}}
use Rattle.mdp_farkas.proofs.Telling.{refuted, Tells, tells_first, tells_none, tells_one, tells_append, tells_if, tells_flat, tells_map}
use Rattle.mdp_subsystem_rules.specs.Floor.{counted_sum}
use Rattle.mdp_subsystem_rules.specs.FloorChecks.{spread_values, spread_ranks, line_value, line_rank, line_values, value_checks, cover_check, cover_checks}
use Rattle.mdp_subsystem_rules.specs.FloorChecks.{rank_check, fall_check, rank_checks, checks_of_line, each_line, start_check, floor_checks}
use Rattle.mdp_subsystem_rules.specs.{FlowChecks.{kept_check}, Kept.{kept_marks}, Shape.{IsFloorShape}, Says.{FloorSays}, Laws.{FloorNoRefutes}}
use Rattle.mdp_subsystem_rules.proofs.{FloorRules.{own_value, own_rank, same_sum, by_falls}, Kept.{kept_marks-at, listed-at}}

module _ (m : Mdp) (goals : List Bool) (start : ℕ) (threshold : ℚ) (kept : List ℕ) (wide : List Bool) (values : List ℚ) (ranks : List ℕ) (one_mark_each : length goals ≡ states_of m) (h : start < states_of m)
    (shape : IsFloorShape m kept wide values ranks) where
  abbrev marks : List Bool
  marks = kept_marks (states_of m) kept

  abbrev z : List ℚ
  z = spread_values m kept values

  abbrev steps : List ℕ
  steps = spread_ranks m kept ranks

  abbrev counts : List ℚ
  counts = line_values m goals kept values

  abbrev ranked : ℕ → ℕ
  ranked t = line_rank m goals kept ranks t

  abbrev Refutes : Fault → Type 0
  Refutes f = IsInModel m f × (FloorSays m goals marks z steps start threshold f.rule f.state f.choice → ⊥)

  -- ---- at the kept state of line i

  module _ (i : ℕ) (l : i < length kept) where
    abbrev state : ℕ
    state = get_or kept i 0

    abbrev value : ℚ
    value = value_at values i

    abbrev rank : ℕ
    rank = get_or ranks i 0

    inside : state < states_of m
    inside = shape.kept_in_range i 0 l

    located : (t : ℕ) → Some state ≡ Some t → t < states_of m
    located t e = subst (λ (t : ℕ). t < states_of m) (Some_same state t e) inside

    is_kept : (state < states_of m) × (is_marked marks state ≡ true)
    is_kept = (inside, kept_marks-at (states_of m) kept state inside ∙ listed-at kept i l)

    same_value : value_at z state ≡ value
    same_value = own_value m goals start threshold kept wide values ranks one_mark_each h shape i l

    same_rank : get_or steps state 0 ≡ rank
    same_rank = own_rank m goals start threshold kept wide values ranks one_mark_each h shape i l

    values_tell : Tells Refutes (value_checks state value)
    values_tell =
        tells_first Refutes (at_state Probability state (is_at_least value 0ℚ)) (at_state Probability state (is_at_most value 1ℚ) ∷ [])
        (λ wrong. (
          located,
          λ says. refuted (0ℚ ≤ℚ value) _ (λ le w. at_least_of_le value 0ℚ le w) wrong (subst (λ (x : ℚ). 0ℚ ≤ℚ x) same_value (says is_kept).0),
        ))
        (λ low.
        tells_one Refutes (at_state Probability state (is_at_most value 1ℚ))
        (λ wrong. (
          located,
          λ says. refuted (value ≤ℚ 1ℚ) _ (λ le w. at_most_of_le value 1ℚ le w) wrong (subst (λ (x : ℚ). x ≤ℚ 1ℚ) same_value (says is_kept).1),
        )))

    is_covered : (c : ℕ) → c < length (choices_at m state) → value_at z state ≤ℚ counted_sum goals marks z (row_at m state c) → value ≤ℚ 0ℚ +ℚ row_sum (row_at m state c) counts
    is_covered c k says =
        subst (λ (x : ℚ). value ≤ℚ x)
        (sym (zero-+ℚ (row_sum (row_at m state c) counts) ∙ same_sum m goals start threshold kept wide values ranks one_mark_each h shape state c inside k))
        (subst (λ (x : ℚ). x ≤ℚ counted_sum goals marks z (row_at m state c)) same_value says)

    covers_tell : Tells Refutes (cover_checks m goals counts state value)
    covers_tell =
        tells_if Refutes (is_marked goals state) [] (at_choices m state (cover_check m counts state value)) (λ g. tells_none Refutes)
        (λ free.
        tells_map Refutes (cover_check m counts state value) (length (choices_at m state))
        (λ c k wrong. (
          located,
          λ says.
              refuted (value ≤ℚ 0ℚ +ℚ row_sum (row_at m state c) counts) _ (λ le w. of_sum_stands Min value counts 0ℚ (row_at m state c) le w) wrong
              (is_covered c k (says is_kept free k)),
        )))

    -- a goal, or a value that isn't above 0
    ends_at : 0ℚ ≤ℚ value → (is_marked goals state || not (lt_ℚ 0ℚ value)) ≡ true → (is_marked goals state ≡ true) ⊎ (value_at z state ≡ 0ℚ)
    ends_at low e = ⊎_elim (λ g. inl g) (λ n. inr (same_value ∙ ≤ℚ_antisymm value 0ℚ (le_of_no_test 0ℚ value n) low)) (of_end (is_marked goals state) (lt_ℚ 0ℚ value) e)

    fall_tells : is_marked goals state ≡ false → 0ℚ <ℚ value → (c : ℕ) → c < length (choices_at m state) → (fall_check m ranked state rank c).holds ≡ Some false
        → FloorSays m goals marks z steps start threshold RankFalls (Some state) (Some c) → ⊥
    fall_tells free above c k wrong says =
        refuted (Any (λ y. ranked y.target < rank) (row_at m state c)) _
        (λ falls w. ap Some (by_falls m goals start threshold kept wide values ranks one_mark_each h shape rank (row_at m state c) falls)) wrong
        (subst (λ (r : ℕ). Any (λ y. ranked y.target < r) (row_at m state c)) same_rank (says is_kept free (subst (λ (x : ℚ). 0ℚ <ℚ x) (sym same_value) above) k))

    ranks_tell : 0ℚ ≤ℚ value → Tells Refutes (rank_checks m goals ranked state value rank)
    ranks_tell low =
        tells_if Refutes (is_marked goals state || not (lt_ℚ 0ℚ value)) (rank_check state rank ∷ []) (at_choices m state (fall_check m ranked state rank))
        (λ e.
        tells_one Refutes (rank_check state rank)
        (λ wrong. (
          located,
          λ says. refuted (rank ≡ 0) _ (λ none w. ap Some (eq-eqb rank 0 none)) wrong (sym same_rank ∙ says is_kept (ends_at low e)),
        )))
        (λ e.
        let on = of_no_end (is_marked goals state) (lt_ℚ 0ℚ value) e in
        tells_map Refutes (fall_check m ranked state rank) (length (choices_at m state))
        (λ c k wrong. (located, λ says. fall_tells on.0 (lt_of_test 0ℚ value on.1) c k wrong says)))

    free_tells : Tells Refutes (kept_check goals state ∷ [])
    free_tells =
        tells_one Refutes (kept_check goals state)
        (λ wrong. (located, λ says. refuted (is_marked goals state ≡ false) _ (λ e w. ap (λ (b : Bool). Some (not b)) e) wrong (says is_kept)))

    line_tells : Tells Refutes (checks_of_line m goals kept values ranks i)
    line_tells =
        let covers : List Check = cover_checks m goals counts state value in
        let falls : List Check = rank_checks m goals ranked state value rank in
        tells_append Refutes (value_checks state value) (covers ++ (falls ++ kept_check goals state ∷ [])) values_tell
        (λ probability.
        tells_append Refutes covers (falls ++ kept_check goals state ∷ []) covers_tell
        (λ held. tells_append Refutes falls (kept_check goals state ∷ []) (ranks_tell (le_of_at_least value 0ℚ probability.0)) (λ ranked. free_tells)))

  all_tell : Tells Refutes (floor_checks m goals start threshold kept values ranks)
  all_tell =
      tells_append Refutes (each_line m goals kept values ranks) (start_check m goals start threshold kept values ∷ [])
      (tells_flat Refutes (checks_of_line m goals kept values ranks) (length kept) line_tells)
      (λ held.
      tells_one Refutes (start_check m goals start threshold kept values)
      (λ wrong. (
        λ t e. cc,
        λ says.
            refuted (threshold ≤ℚ line_value m goals kept values start) _ (λ le w. at_least_of_le (line_value m goals kept values start) threshold le w) wrong says,
      )))

pub floor_refuted : FloorNoRefutes
floor_refuted m goals start threshold kept wide values ranks fault each h shape = all_tell m goals start threshold kept wide values ranks each h shape fault
