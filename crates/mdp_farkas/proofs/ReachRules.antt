-- The verdict on values and a policy is yes exactly where the rules hold in exact numbers and no written term is past width.
use Rattle.std.proofs.Common.{◌≡◌, ℕ, ◌<◌, ◌⊎◌, inl, inr, ⊎_elim, Bool, true, false, true≢false, not, ◌||◌, ltb, lt-ltb, ltb-true, eqb-true, eq-eqb, List, []}
use Rattle.std.proofs.Common.{◌∷◌, ◌++◌, length, slice_index, Some, ◌↔◌, refl, sym, ap, subst, ◌∙◌, pos}
use Rattle.std.proofs.{lemmas.List.Elements.{All-from_recursion, recursion_from_All}, lemmas.List.Folds.{Any-from_list_any, list_any-from_Any}}
use Rattle.std.specs.List.{Any, list_any}
use Rattle.mdp_math.specs.Rational.{ℚ, of_int, lt_ℚ, ◌<ℚ◌}
use Rattle.mdp_math.proofs.{Booleans.{and-parts, and-both}, Options.{Some_same}, Extremes.{lt_of_test, test_of_lt, le_of_no_test, no_test_of_le}}
use Rattle.mdp_math.proofs.Order.{≤ℚ_of_eq, ≤ℚ_antisymm}
use Rattle.mdp_spec.specs.{Mdp.{Entry, Mdp, states_of, choices_at, row_at, value_at}, Row.{IsMdp, row_sum}, Rules.{AreProbabilities, RanksEnd}}
use Rattle.mdp_spec.specs.{Bounds.{ReachMax, ReachMin}, Tree.{IsPolicy, is_marked}}
use Rattle.mdp_spec.proofs.Reach.{reach_max_of_rules, reach_min_of_rules}
use Rattle.mdp_farkas.specs.{Verdict.{Check, verdict_of, InWidth, IsYes, IfYes}, Compare.{0ℚ}, Bellman.{bound_check, bound_checks}}
use Rattle.mdp_farkas.specs.Reach.{other, policy_check, ends, rank_check, leads_down, fall_check, fall_checks, rank_checks, reach_at, reach_checks, MeetsReach, IsReach}
use Rattle.mdp_rows.specs.{declared.dir.Dir.{Dir}, declared.dir.Dir.TheVariants.{Max, Min}}
use Rattle.mdp_claims.specs.{declared.verdict.Fault.{Fault}, declared.verdict.Verdict.{Verdict}, declared.verdict.Verdict.TheVariants.{No}}
use Rattle.mdp_farkas.proofs.Holds.{Each, Holds, Sound, each_of_yes, yes_of_each, told_of_each, if_yes, sound_of_holds, holds_of_sound, never_no}
use Rattle.mdp_farkas.proofs.Holds.{each_append, each_left, each_right, each_flat, each_flat_at, each_map, each_map_at, each_if, each_if_true, each_if_false}
use Rattle.mdp_farkas.proofs.{Inequalities.{Stands, stands_at_of, of_stands_at}, UpperRules.{values_at, probabilities_of, rest_of, values_sound}}

-- ---- tests

pub end_of : (g l : Bool) → (g ≡ true) ⊎ (l ≡ false) → (g || not l) ≡ true
end_of true l h = refl
end_of false true h = ⊎_elim (λ e. e) (λ e. sym e) h
end_of false false h = refl

pub no_end_of : (g l : Bool) → g ≡ false → l ≡ true → (g || not l) ≡ false
no_end_of true l e f = absurd (true≢false e)
no_end_of false true e f = refl
no_end_of false false e f = absurd (true≢false (sym f))

pub of_end : (g l : Bool) → (g || not l) ≡ true → (g ≡ true) ⊎ (l ≡ false)
of_end true l e = inl refl
of_end false true e = absurd (true≢false (sym e))
of_end false false e = inr refl

pub of_no_end : (g l : Bool) → (g || not l) ≡ false → (g ≡ false) × (l ≡ true)
of_no_end true l e = absurd (true≢false e)
of_no_end false true e = (refl, refl)
of_no_end false false e = absurd (true≢false e)

-- ---- the ranks

module _ (dir : Dir) (m : Mdp) (goals : List Bool) (z : List ℚ) (policy ranks : List ℕ) where
  is_end : (s : ℕ) → (is_marked goals s ≡ true) ⊎ (value_at z s ≡ of_int (pos 0)) → ends goals z s ≡ true
  is_end s h = end_of (is_marked goals s) (lt_ℚ 0ℚ (value_at z s)) (⊎_elim (λ g. inl g) (λ e. inr (no_test_of_le 0ℚ (value_at z s) (≤ℚ_of_eq (value_at z s) 0ℚ e))) h)

  is_no_end : (s : ℕ) → is_marked goals s ≡ false → 0ℚ <ℚ value_at z s → ends goals z s ≡ false
  is_no_end s g l = no_end_of (is_marked goals s) (lt_ℚ 0ℚ (value_at z s)) g (test_of_lt 0ℚ (value_at z s) l)

  pub ranks_end : ((s : ℕ) → s < states_of m → Each Holds (rank_checks dir m goals z ranks s (slice_index policy s))) → RanksEnd m goals z ranks
  ranks_end h s l e =
      eqb-true (slice_index ranks s) 0
      (Some_same _ _ (each_if_true Holds (ends goals z s) (rank_check ranks s ∷ []) (fall_checks dir m z ranks s (slice_index policy s)) (is_end s e) (h s l)).0)

  pub ranks_fall : (s : ℕ) → is_marked goals s ≡ false → 0ℚ <ℚ value_at z s → Each Holds (rank_checks dir m goals z ranks s (slice_index policy s))
      → Each Holds (fall_checks dir m z ranks s (slice_index policy s))
  ranks_fall s g p h =
      each_if_false Holds (ends goals z s) (rank_check ranks s ∷ []) (fall_checks dir m z ranks s (slice_index policy s)) (is_no_end s g p) h

  pub ranks_hold : (s : ℕ) → s < states_of m → AreProbabilities m goals z → RanksEnd m goals z ranks
      → (is_marked goals s ≡ false → 0ℚ <ℚ value_at z s → Each Holds (fall_checks dir m z ranks s (slice_index policy s))) → Each Holds (rank_checks dir m goals z ranks s (slice_index policy s))
  ranks_hold s l p end falls =
      each_if Holds (ends goals z s) (rank_check ranks s ∷ []) (fall_checks dir m z ranks s (slice_index policy s))
      (λ e.
      let zero_at = end s l (⊎_elim (λ g. inl g) (λ n. inr (≤ℚ_antisymm _ _ (le_of_no_test 0ℚ (value_at z s) n) (AreProbabilities.at_least_zero p s l)))
      (of_end (is_marked goals s) (lt_ℚ 0ℚ (value_at z s)) e)) in
      (ap Some (eq-eqb (slice_index ranks s) 0 zero_at), tt))
      (λ e. let n = of_no_end (is_marked goals s) (lt_ℚ 0ℚ (value_at z s)) e in falls n.0 (lt_of_test 0ℚ (value_at z s) n.1))

-- ---- what leads on

module _ (m : Mdp) (z : List ℚ) (ranks : List ℕ) where
  pub max_falls : (s c : ℕ) → list_any (λ (y : Entry). leads_down Max z ranks s y.target) (row_at m s c) ≡ true
      → Any (λ y. (0ℚ <ℚ value_at z y.target) × (slice_index ranks y.target < slice_index ranks s)) (row_at m s c)
  max_falls s c e =
      let a = Any-from_list_any (λ (y : Entry). leads_down Max z ranks s y.target) (row_at m s c) e in
      let b = and-parts (ltb (slice_index ranks (Entry.target a.1)) (slice_index ranks s)) (lt_ℚ 0ℚ (value_at z (Entry.target a.1))) a.4 in
      (a.0, a.1, a.2, a.3, (lt_of_test 0ℚ _ b.1, ltb-true _ _ b.0))

  pub falls_max : (s c : ℕ) → Any (λ y. (0ℚ <ℚ value_at z y.target) × (slice_index ranks y.target < slice_index ranks s)) (row_at m s c)
      → list_any (λ (y : Entry). leads_down Max z ranks s y.target) (row_at m s c) ≡ true
  falls_max s c a = list_any-from_Any (λ (y : Entry). leads_down Max z ranks s y.target) (row_at m s c) (a.0, a.1, a.2, a.3, and-both _ _ (lt-ltb _ _ a.4.1) (test_of_lt 0ℚ _ a.4.0))

  pub min_falls : (s c : ℕ) → list_any (λ (y : Entry). leads_down Min z ranks s y.target) (row_at m s c) ≡ true → Any (λ y. slice_index ranks y.target < slice_index ranks s) (row_at m s c)
  min_falls s c e = let a = Any-from_list_any (λ (y : Entry). leads_down Min z ranks s y.target) (row_at m s c) e in (a.0, a.1, a.2, a.3, ltb-true _ _ a.4)

  pub falls_min : (s c : ℕ) → Any (λ y. slice_index ranks y.target < slice_index ranks s) (row_at m s c) → list_any (λ (y : Entry). leads_down Min z ranks s y.target) (row_at m s c) ≡ true
  falls_min s c a = list_any-from_Any (λ (y : Entry). leads_down Min z ranks s y.target) (row_at m s c) (a.0, a.1, a.2, a.3, lt-ltb _ _ a.4)

-- ---- the checks at a state

module _ (dir : Dir) (m : Mdp) (goals : List Bool) (z : List ℚ) (policy ranks : List ℕ) where
  abbrev sums : ℕ → List Check
  sums s = bound_checks dir m z s ++ policy_check dir m z s (slice_index policy s) ∷ []

  abbrev values : ℕ → List Check
  values s = values_at goals z s (sums s)

  abbrev rank : ℕ → List Check
  rank s = rank_checks dir m goals z ranks s (slice_index policy s)

  -- ---- what holds, in exact numbers

  module _ (each : length policy ≡ states_of m) (h : Each Holds (reach_checks dir m goals z policy ranks)) where
    at : (s : ℕ) → s < states_of m → Each Holds (reach_at dir m goals z ranks s (slice_index policy s))
    at s l = each_flat_at Holds (λ s. reach_at dir m goals z ranks s (slice_index policy s)) (states_of m) s h l

    values_of : (s : ℕ) → s < states_of m → Each Holds (values s)
    values_of s l = each_left Holds (values s) (rank s) (at s l).1

    rank_of : (s : ℕ) → s < states_of m → Each Holds (rank s)
    rank_of s l = each_right Holds (values s) (rank s) (at s l).1

    choices_of : IsPolicy m policy
    choices_of = record { one_each = each; in_range = λ s l. ltb-true (slice_index policy s) (length (choices_at m s)) (Some_same _ _ (at s l).0) }

    probabilities : AreProbabilities m goals z
    probabilities = probabilities_of m goals z sums values_of

    sums_of : (s : ℕ) → s < states_of m → is_marked goals s ≡ false → Each Holds (sums s)
    sums_of s l g = rest_of m goals z sums s g (values_of s l)

    bounds_of : (s c : ℕ) → s < states_of m → is_marked goals s ≡ false → c < length (choices_at m s) → Stands dir (value_at z s) (row_sum (row_at m s c) z)
    bounds_of s c l g i =
        stands_at_of m z dir s c
        (each_map_at Holds (bound_check dir m z s) (length (choices_at m s)) c
        (each_left Holds (bound_checks dir m z s) (policy_check dir m z s (slice_index policy s) ∷ []) (sums_of s l g)) i)

    meets_of : (s : ℕ) → s < states_of m → is_marked goals s ≡ false → Stands (other dir) (value_at z s) (row_sum (row_at m s (slice_index policy s)) z)
    meets_of s l g =
        stands_at_of m z (other dir) s (slice_index policy s)
        (each_right Holds (bound_checks dir m z s) (policy_check dir m z s (slice_index policy s) ∷ []) (sums_of s l g)).0

    ends_of : RanksEnd m goals z ranks
    ends_of = ranks_end dir m goals z policy ranks rank_of

    falls_of : (s : ℕ) → s < states_of m → is_marked goals s ≡ false → 0ℚ <ℚ value_at z s → Each Holds (fall_checks dir m z ranks s (slice_index policy s))
    falls_of s l g p = ranks_fall dir m goals z policy ranks s g p (rank_of s l)

  -- ---- and the other way round: no check is false

  module _ (s : ℕ) (l : s < states_of m) (choice : slice_index policy s < length (choices_at m s)) (p : AreProbabilities m goals z)
      (bounds : (c : ℕ) → is_marked goals s ≡ false → c < length (choices_at m s) → Stands dir (value_at z s) (row_sum (row_at m s c) z))
      (meets : is_marked goals s ≡ false → Stands (other dir) (value_at z s) (row_sum (row_at m s (slice_index policy s)) z))
      (end : RanksEnd m goals z ranks)
      (falls : is_marked goals s ≡ false → 0ℚ <ℚ value_at z s → Each Holds (fall_checks dir m z ranks s (slice_index policy s))) where
    sums_sound : is_marked goals s ≡ false → Each Sound (sums s)
    sums_sound g =
        each_append Sound (bound_checks dir m z s) (policy_check dir m z s (slice_index policy s) ∷ [])
        (each_map Sound (bound_check dir m z s) (length (choices_at m s)) (λ c i w. of_stands_at m z dir s c (bounds c g i) w))
        (λ w. of_stands_at m z (other dir) s (slice_index policy s) (meets g) w, tt)

    state_sound : Each Sound (reach_at dir m goals z ranks s (slice_index policy s))
    state_sound = (
      λ w. ap Some (lt-ltb (slice_index policy s) (length (choices_at m s)) choice),
      each_append Sound (values s) (rank s) (values_sound m goals z sums s l p sums_sound) (sound_of_holds (rank s) (ranks_hold dir m goals z policy ranks s l p end falls)),
    )

-- ---- each direction

module _ (m : Mdp) (goals : List Bool) (z : List ℚ) (policy ranks : List ℕ) where
  meets_of_holds : (dir : Dir) → length policy ≡ states_of m → Each Holds (reach_checks dir m goals z policy ranks) → MeetsReach dir m goals z policy ranks
  meets_of_holds Max each h = record {
    choices = choices_of Max m goals z policy ranks each h;
    probabilities = probabilities Max m goals z policy ranks each h;
    covers = bounds_of Max m goals z policy ranks each h;
    reached = meets_of Max m goals z policy ranks each h;
    ends = ends_of Max m goals z policy ranks each h;
    falls = λ s l g p. max_falls m z ranks s (slice_index policy s) (Some_same _ _ (falls_of Max m goals z policy ranks each h s l g p).0);
  }
  meets_of_holds Min each h = record {
    choices = choices_of Min m goals z policy ranks each h;
    probabilities = probabilities Min m goals z policy ranks each h;
    covered = bounds_of Min m goals z policy ranks each h;
    reached = meets_of Min m goals z policy ranks each h;
    ends = ends_of Min m goals z policy ranks each h;
    falls = λ s c l g p i. min_falls m z ranks s c (Some_same _ _ (each_map_at Holds (fall_check Min m z ranks s) (length (choices_at m s)) c (falls_of Min m goals z policy ranks each h s l g p) i));
  }

  sound_at : (dir : Dir) (s : ℕ) → s < states_of m → MeetsReach dir m goals z policy ranks → Each Sound (reach_at dir m goals z ranks s (slice_index policy s))
  sound_at Max s l r =
      state_sound Max m goals z policy ranks s l (r.choices.in_range s l) r.probabilities (λ c g i. r.covers s c l g i) (λ g. r.reached s l g) r.ends
      (λ g p. (ap Some (falls_max m z ranks s (slice_index policy s) (r.falls s l g p)), tt))
  sound_at Min s l r =
      state_sound Min m goals z policy ranks s l (r.choices.in_range s l) r.probabilities (λ c g i. r.covered s c l g i) (λ g. r.reached s l g) r.ends
      (λ g p. each_map Holds (fall_check Min m z ranks s) (length (choices_at m s)) (λ c i. ap Some (falls_min m z ranks s c (r.falls s c l g p i))))

  reach_sound : (dir : Dir) → MeetsReach dir m goals z policy ranks → Each Sound (reach_checks dir m goals z policy ranks)
  reach_sound dir r = each_flat Sound (λ s. reach_at dir m goals z ranks s (slice_index policy s)) (states_of m) (λ s l. sound_at dir s l r)

  -- so what meets the rules is never answered no
  pub reach_never_no : (dir : Dir) → MeetsReach dir m goals z policy ranks → (f : Fault) → verdict_of (reach_checks dir m goals z policy ranks) ≡ No f → ⊥
  reach_never_no dir r = never_no (reach_checks dir m goals z policy ranks) (reach_sound dir r)

  pub reach_rules : (dir : Dir) (v : Verdict) → length policy ≡ states_of m → v ≡ verdict_of (reach_checks dir m goals z policy ranks) → IsYes v ↔ IsReach dir m goals z policy ranks
  reach_rules dir v each e = (
    (λ yes_.
        let h = each_of_yes (reach_checks dir m goals z policy ranks) (sym e ∙ yes_) in
        record {
          rules = meets_of_holds dir each h;
          in_width = All-from_recursion InWidth (reach_checks dir m goals z policy ranks)
              (told_of_each (reach_checks dir m goals z policy ranks) h);
        }),
    (λ is.
        e ∙ yes_of_each (reach_checks dir m goals z policy ranks)
        (holds_of_sound (reach_checks dir m goals z policy ranks) (reach_sound dir is.rules) (recursion_from_All InWidth (reach_checks dir m goals z policy ranks) is.in_width))),
  )

  pub reach_max : (dir : Dir) (v : Verdict) → IsMdp m → length policy ≡ states_of m → v ≡ verdict_of (reach_checks dir m goals z policy ranks) → dir ≡ Max
      → IfYes v (ReachMax m goals z policy)
  reach_max dir v known each e is =
      if_yes v (ReachMax m goals z policy)
      (λ yes_. reach_max_of_rules m goals z policy ranks known (subst (λ (d : Dir). MeetsReach d m goals z policy ranks) is (IsReach.rules ((reach_rules dir v each e).0 yes_))))

  pub reach_min : (dir : Dir) (v : Verdict) → IsMdp m → length policy ≡ states_of m → v ≡ verdict_of (reach_checks dir m goals z policy ranks) → dir ≡ Min
      → IfYes v (ReachMin m goals z policy)
  reach_min dir v known each e is =
      if_yes v (ReachMin m goals z policy)
      (λ yes_. reach_min_of_rules m goals z policy ranks known (subst (λ (d : Dir). MeetsReach d m goals z policy ranks) is (IsReach.rules ((reach_rules dir v each e).0 yes_))))
