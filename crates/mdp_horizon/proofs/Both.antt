-- What holds of the two sums of each choice, and of the better two of any, holds of the covering and the following value.
use Rattle.std.proofs.Common.{◌≡◌, ◌∙◌, ℕ, suc, ◌<◌, Bool, true, false, if◌then◌else◌, List, [], ◌∷◌, length, slice_index_or, Option, Some, None}
use Rattle.std.proofs.{Common.{refl, sym, ap, subst, arith, ℤ, pos, int_lt}, lemmas.List.{get_or-map, length-map}}
use Rattle.std.proofs.lemmas.List.FromFn.{get_or-map-range_with_len}
use Rattle.mdp_math.specs.Written.{◌>>=◌}
use Rattle.mdp_spec.specs.{Mdp.{Mdp, states_of, choices_at, choice_at, no_choice}, Row.{IsMdp}}
use Rattle.mdp_rows.specs.{declared.dir.Dir.{Dir}, declared.dir.Dir.TheVariants.{Max, Min}}
use Rattle.mdp_horizon.specs.{Objective.{Objective}, declared.leader.Leader.{Leader}, Whole.{whole_at, opposite, farther}}
use Rattle.mdp_horizon.specs.Scaled.{Scaled, or_else, rounded_sum}
use Rattle.mdp_horizon.specs.Columns.{stopped, ended, scaled_choice, scaled_state, no_scaled, covered_from, covered, is_ahead}
use Rattle.mdp_horizon.specs.Columns.{judged, followed_from, followed, leader_or, cover_at, follow_at, cover, follow}

picked : (t : Bool) (c : ℕ) (leader : Leader) (b j : ℤ) → leader.value ≡ Some j → Leader.value (if t then record { value = Some b; choice = c } else leader) ≡ Some (if t then b else j)
picked true c leader b j e = refl
picked false c leader b j e = e

judged_value : (dir : Dir) (c : ℕ) (leader : Leader) (b j : ℤ) → leader.value ≡ Some j → Leader.value (judged dir c leader (Some b)) ≡ Some (farther dir j b)
judged_value Max c leader b j e =
    ap (λ (o : Option ℤ). Leader.value (if is_ahead Max (Some b) o then record { value = Some b; choice = c } else leader)) e ∙ picked (int_lt j b) c leader b j e
judged_value Min c leader b j e =
    ap (λ (o : Option ℤ). Leader.value (if is_ahead Min (Some b) o then record { value = Some b; choice = c } else leader)) e ∙ picked (int_lt b j) c leader b j e

-- both are there, and R holds of them
abbrev pub AreBoth : (ℤ → ℤ → Type 0) → Option ℤ → Option ℤ → Type 0
AreBoth R o p = (k : ℤ) × (j : ℤ) × (o ≡ Some k) × (p ≡ Some j) × R k j

abbrev pub SumsAreBoth : Dir → (ℤ → ℤ → Type 0) → List (Option ℤ) → List (Option ℤ) → Scaled → Type 0
SumsAreBoth dir R covering following x = AreBoth R (rounded_sum dir covering x) (rounded_sum (opposite dir) following x)

module _ (dir : Dir) (R : ℤ → ℤ → Type 0) (best : (k j a b : ℤ) → R k j → R a b → R (farther dir k a) (farther dir j b)) where
  module _ (covering following : List (Option ℤ)) where
    rest_both : (xs : List Scaled) (c : ℕ) (far j : ℤ) (leader : Leader) → leader.value ≡ Some j → R far j
        → ((i : ℕ) → i < length xs → SumsAreBoth dir R covering following (slice_index_or xs i no_scaled))
        → AreBoth R (covered_from dir covering far xs) (Leader.value (followed_from dir following c leader xs))
    rest_both [] c far j leader e h all = (far, j, refl, e, h)
    rest_both (x ∷ xs) c far j leader e h all =
        let first = all 0 (omega arith) in
        let rest =
        rest_both xs (suc c) (farther dir far first.0) (farther dir j first.1) (judged dir c leader (rounded_sum (opposite dir) following x))
        (ap (λ (o : Option ℤ). Leader.value (judged dir c leader o)) first.3 ∙ judged_value dir c leader first.1 j e)
        (best far j first.0 first.1 h first.4) (λ i l. all (suc i) (omega arith))
        in (
          rest.0,
          rest.1,
          ap (λ (o : Option ℤ). (o >>= (λ k. let r : Option ℤ = Some (farther dir far k) in r)) >>= (λ far. covered_from dir covering far xs)) first.2 ∙ rest.2,
          rest.3,
          rest.4,
        )

    all_both : (xs : List Scaled) → 0 < length xs → ((i : ℕ) → i < length xs → SumsAreBoth dir R covering following (slice_index_or xs i no_scaled))
        → AreBoth R (covered dir covering xs) (Leader.value (followed dir following xs))
    all_both [] some all = absurd (omega arith)
    all_both (x ∷ xs) some all =
        let first = all 0 (omega arith) in
        let rest =
        rest_both xs 1 first.0 first.1 (record { value = rounded_sum (opposite dir) following x; choice = 0 }) first.3 first.4 (λ i l. all (suc i) (omega arith))
        in (rest.0, rest.1, ap (λ (o : Option ℤ). o >>= (λ far. covered_from dir covering far xs)) first.2 ∙ rest.2, rest.3, rest.4)

    -- at a state that stops both are its value
    state_both : (v : Option ℤ) (xs : List Scaled) → ((k : ℤ) → v ≡ Some k → R k k) → 0 < length xs
        → ((i : ℕ) → i < length xs → SumsAreBoth dir R covering following (slice_index_or xs i no_scaled))
        → AreBoth R (or_else v (covered dir covering xs)) (Leader.value (leader_or v (followed dir following xs)))
    state_both None xs same some all = all_both xs some all
    state_both (Some k) xs same some all = (k, k, refl, refl, same k refl)

  -- with one step more
  module _ (one : ℤ) (m : Mdp) (o : Objective) (known_ : IsMdp m) where
    pub next_both : (n s : ℕ) → s < states_of m → ((k : ℤ) → stopped one o s ≡ Some k → R k k)
        → ((c : ℕ) → c < length (choices_at m s) → SumsAreBoth dir R (cover dir one m o n) (follow dir one m o n) (scaled_choice one o (choice_at m s c)))
        → AreBoth R (whole_at (cover dir one m o (suc n)) s) (whole_at (follow dir one m o (suc n)) s)
    next_both n s h same each =
        let some = known_.choice s h in
        let long : length (scaled_state one m o s) ≡ length (choices_at m s) = length-map (choices_at m s) (scaled_choice one o) in
        let r =
        state_both (cover dir one m o n) (follow dir one m o n) (stopped one o s) (scaled_state one m o s) same (omega (arith, long))
        (λ i l. let inside : i < length (choices_at m s) = omega (arith, long) in
        subst (SumsAreBoth dir R (cover dir one m o n) (follow dir one m o n)) (sym (get_or-map (scaled_choice one o) (choices_at m s) i no_choice no_scaled inside)) (each i inside))
        in (
          r.0,
          r.1,
          get_or-map-range_with_len (cover_at dir one m o (cover dir one m o n)) 0 (states_of m) s s (Some (pos 0)) h (omega arith) ∙ r.2,
          get_or-map-range_with_len (λ s. Leader.value (follow_at dir one m o (follow dir one m o n) s)) 0 (states_of m) s s (Some (pos 0)) h (omega arith) ∙ r.3,
          r.4,
        )

-- with no step left
pub ended_both : (dir : Dir) (R : ℤ → ℤ → Type 0) (one : ℤ) (m : Mdp) (o : Objective) (s : ℕ) → s < states_of m → R (ended one o s) (ended one o s)
    → AreBoth R (whole_at (cover dir one m o 0) s) (whole_at (follow dir one m o 0) s)
ended_both dir R one m o s h same =
    let f = λ (s : ℕ). let v : Option ℤ = Some (ended one o s) in v in
    let is : whole_at (cover dir one m o 0) s ≡ Some (ended one o s) = get_or-map-range_with_len f 0 (states_of m) s s (Some (pos 0)) h (omega arith) in
    (ended one o s, ended one o s, is, is, same)
