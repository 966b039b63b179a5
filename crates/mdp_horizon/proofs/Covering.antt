-- The columns are the two halves of backward induction.
use Rattle.std.proofs.Common.{◌≡◌, ◌∙◌, ℕ, zero, suc, ◌+◌, ◌<◌, Bool, true, false, if◌then◌else◌, List, [], ◌∷◌, length, slice_index, slice_index_or, Option, Some, None}
use Rattle.std.proofs.{Common.{refl, sym, ap, subst, arith, ℤ, pos}, lemmas.List.{get_or-map, length-map}}
use Rattle.std.proofs.lemmas.List.FromFn.{get_or-map-range_with_len, length-map-range_with_len}
use Rattle.std.specs.Option.{option_map}
use Rattle.mdp_math.specs.Rational.{ℚ, of_int}
use Rattle.mdp_math.proofs.{Options.{Some_same, step_told}, Order.{0ℚ, 1ℚ}}
use Rattle.mdp_spec.specs.{Mdp.{Mdp, states_of, choices_at, choice_at, row_at, no_choice}, Row.{IsRow, IsMdp}, Tree.{is_marked}}
use Rattle.mdp_spec.specs.{Bounds.{reward_at, finite_part}, RewardRules.{StaysFinite}}
use Rattle.mdp_rows.specs.{declared.dir.Dir.{Dir}, declared.dir.Dir.TheVariants.{Max, Min}}
use Rattle.mdp_horizon.specs.{Objective.{Objective, stops, ending, earns}, Objective.Objective.{until, total}, Between.{Claimed}}
use Rattle.mdp_horizon.specs.{declared.leader.Leader.{Leader}, Whole.{in_units, fractions, opposite, farther}, Scaled.{Scaled, or_else, rounded_sum}}
use Rattle.mdp_horizon.specs.Columns.{stopped, ended, scaled_choice, scaled_state, no_scaled, covered_with, covered_from, covered, is_ahead, judged, followed_from}
use Rattle.mdp_horizon.specs.Columns.{followed, leader_or, cover_at, follow_at, end_column, cover_next, follow_next, choices_next, cover, follow, table}
use Rattle.mdp_horizon.proofs.{Directions.{NoBetter, no_better_of_eq, no_better_trans}, Halves.{backed_up, CoversStep, FollowsStep, IsCovering, IsFollowing}}
use Rattle.mdp_horizon.proofs.Totals.{exact, farther-both, IsTrivial, rounded_sum-is}
use Rattle.mdp_horizon.proofs.Units.{in_units-is, units-one, units-zero, no_better_in_units, fraction_at, stays, backed_up-is}

-- ---- the covering value

record IsCovered (dir : Dir) (column : List (Option ℤ)) (xs : List Scaled) (far k : ℤ) : Type 0 where
  from : NoBetter dir (of_int far) (of_int k)
  each : (c : ℕ) → c < length xs → (j : ℤ) × (rounded_sum dir column (slice_index_or xs c no_scaled) ≡ Some j) × NoBetter dir (of_int j) (of_int k)

covered_from-is : (dir : Dir) (column : List (Option ℤ)) (far k : ℤ) (xs : List Scaled) → covered_from dir column far xs ≡ Some k → IsCovered dir column xs far k
covered_from-is dir column far k [] e = record { from = no_better_of_eq dir _ _ (ap of_int (Some_same _ _ e)); each = λ c l. absurd (omega arith) }
covered_from-is dir column far k (x ∷ xs) e =
    let z = step_told (covered_with dir column far x) (λ j. covered_from dir column j xs) k (sym e) in
    let a = step_told (rounded_sum dir column x) (λ j. let o : Option ℤ = Some (farther dir far j) in o) z.0 z.1 in
    let rest : IsCovered dir column xs (farther dir far a.0) k = covered_from-is dir column (farther dir far a.0) k xs
    (ap (λ (j : ℤ). covered_from dir column j xs) (sym (Some_same _ _ a.2)) ∙ sym z.2) in
    let both = farther-both dir far a.0 in
    record {
      from = no_better_trans dir (of_int far) (of_int (farther dir far a.0)) (of_int k) both.0 rest.from;
      each = each_of dir column x xs k a.0 (sym a.1) (no_better_trans dir (of_int a.0) (of_int (farther dir far a.0)) (of_int k) both.1 rest.from) rest.each;
    }
  where
    each_of : (dir : Dir) (column : List (Option ℤ)) (x : Scaled) (xs : List Scaled) (k j : ℤ) → rounded_sum dir column x ≡ Some j → NoBetter dir (of_int j) (of_int k)
        → ((c : ℕ) → c < length xs → (j : ℤ) × (rounded_sum dir column (slice_index_or xs c no_scaled) ≡ Some j) × NoBetter dir (of_int j) (of_int k))
        → (c : ℕ) → c < length (x ∷ xs) → (j : ℤ) × (rounded_sum dir column (slice_index_or (x ∷ xs) c no_scaled) ≡ Some j) × NoBetter dir (of_int j) (of_int k)
    each_of dir column x xs k j e n rest zero l = (j, e, n)
    each_of dir column x xs k j e n rest (suc c) l = rest c (omega arith)

pub covered-each : (dir : Dir) (column : List (Option ℤ)) (xs : List Scaled) (k : ℤ) → covered dir column xs ≡ Some k
    → (c : ℕ) → c < length xs → (j : ℤ) × (rounded_sum dir column (slice_index_or xs c no_scaled) ≡ Some j) × NoBetter dir (of_int j) (of_int k)
covered-each dir column [] k e c l = absurd (omega arith)
covered-each dir column (x ∷ xs) k e zero l =
    let a = step_told (rounded_sum dir column x) (λ far. covered_from dir column far xs) k (sym e) in
    (a.0, sym a.1, IsCovered.from (covered_from-is dir column a.0 k xs (sym a.2)))
covered-each dir column (x ∷ xs) k e (suc c) l =
    let a = step_told (rounded_sum dir column x) (λ far. covered_from dir column far xs) k (sym e) in
    IsCovered.each (covered_from-is dir column a.0 k xs (sym a.2)) c (omega arith)

-- ---- the following value

-- the leader is one of the first choices, with its sum
pub record IsLed (dir : Dir) (column : List (Option ℤ)) (xs : List Scaled) (leader : Leader) : Type 0 where
  pub inside : leader.choice < length xs
  pub value : leader.value ≡ rounded_sum (opposite dir) column (slice_index_or xs leader.choice no_scaled)

judged-led : (dir : Dir) (column : List (Option ℤ)) (xs : List Scaled) (c : ℕ) (leader : Leader) (x : Scaled) (b : Bool)
    → IsLed dir column xs leader → c < length xs → slice_index_or xs c no_scaled ≡ x
    → IsLed dir column xs (if b then record { value = rounded_sum (opposite dir) column x; choice = c } else leader)
judged-led dir column xs c leader x true h l e = record { inside = l; value = ap (rounded_sum (opposite dir) column) (sym e) }
judged-led dir column xs c leader x false h l e = h

-- what is left from place c on
followed_from-led : (dir : Dir) (column : List (Option ℤ)) (all : List Scaled) (xs : List Scaled) (c : ℕ) (leader : Leader) → IsLed dir column all leader
    → ((i : ℕ) → i < length xs → (c + i < length all) × (slice_index_or all (c + i) no_scaled ≡ slice_index_or xs i no_scaled))
    → IsLed dir column all (followed_from dir column c leader xs)
followed_from-led dir column all [] c leader h rest = h
followed_from-led dir column all (x ∷ xs) c leader h rest =
    let first = rest 0 (omega arith) in
    let same : c + 0 ≡ c = omega arith in
    followed_from-led dir column all xs (suc c) (judged dir c leader (rounded_sum (opposite dir) column x))
    (judged-led dir column all c leader x (is_ahead dir (rounded_sum (opposite dir) column x) leader.value) h (omega arith) (ap (λ (k : ℕ). slice_index_or all k no_scaled) (sym same) ∙ first.1))
    (λ i l. let r = rest (suc i) (omega arith) in let e : c + suc i ≡ suc c + i = omega arith in (omega arith, ap (λ (k : ℕ). slice_index_or all k no_scaled) (sym e) ∙ r.1))

pub followed-led : (dir : Dir) (column : List (Option ℤ)) (xs : List Scaled) → 0 < length xs → IsLed dir column xs (followed dir column xs)
followed-led dir column [] h = absurd (omega arith)
followed-led dir column (x ∷ xs) h =
    followed_from-led dir column (x ∷ xs) xs 1 (record { value = rounded_sum (opposite dir) column x; choice = 0 }) (record { inside = omega arith; value = refl })
    (λ i l. let e : 1 + i ≡ suc i = omega arith in (omega arith, ap (λ (k : ℕ). slice_index_or (x ∷ xs) k no_scaled) e))

-- ---- a state

module _ (one : ℕ) (above : 0 < one) (m : Mdp) (o : Objective) (known_ : IsMdp m) where
  stopped-by : (b c : Bool) → option_map (in_units (pos one)) (if b then Some (pos one) else if c then None else Some (pos 0)) ≡ (if b then Some 1ℚ else if c then None else Some 0ℚ)
  stopped-by true c = ap Some (units-one one above)
  stopped-by false true = refl
  stopped-by false false = ap Some (units-zero one above)

  stopped-is : (o : Objective) (s : ℕ) → option_map (in_units (pos one)) (stopped (pos one) o s) ≡ stops m o s
  stopped-is (until stay goals) s = stopped-by (is_marked goals s) (is_marked stay s)
  stopped-is (total r) s = refl

  ended-by : (b : Bool) → in_units (pos one) (if b then pos one else pos 0) ≡ (if b then 1ℚ else 0ℚ)
  ended-by true = units-one one above
  ended-by false = units-zero one above

  ended-is : (o : Objective) (s : ℕ) → in_units (pos one) (ended (pos one) o s) ≡ ending m o s
  ended-is (until stay goals) s = ended-by (is_marked goals s)
  ended-is (total r) s = units-zero one above

  some_stopped : (v : Option ℤ) (x : ℚ) → option_map (in_units (pos one)) v ≡ Some x → (k : ℤ) × (v ≡ Some k) × (in_units (pos one) k ≡ x)
  some_stopped None x e = cc
  some_stopped (Some k) x e = (k, refl, Some_same _ _ e)

  none_stopped : (v : Option ℤ) → option_map (in_units (pos one)) v ≡ None → v ≡ None
  none_stopped None e = refl
  none_stopped (Some k) e = cc

  choice_is : (s c : ℕ) → c < length (choices_at m s) → slice_index_or (scaled_state (pos one) m o s) c no_scaled ≡ scaled_choice (pos one) o (choice_at m s c)
  choice_is s c l = get_or-map (scaled_choice (pos one) o) (choices_at m s) c no_choice no_scaled l

  -- the sum of a choice, rounded to a side
  summed : (side : Dir) (column : List (Option ℤ)) (s c : ℕ) (j : ℤ) → s < states_of m → c < length (choices_at m s) → states_of m ≡ length column
      → rounded_sum side column (slice_index_or (scaled_state (pos one) m o s) c no_scaled) ≡ Some j
      → StaysFinite m (fractions (pos one) column) s c × NoBetter side (backed_up m o (finite_part (fractions (pos one) column)) s c) (in_units (pos one) j)
  summed side column s c j h l e told =
      let row : IsRow (states_of m) (row_at m s c) = known_.row s c h l in
      let r : IsTrivial side one (earns m o s c) (row_at m s c) column j =
      rounded_sum-is side (states_of m) one (earns m o s c) (row_at m s c) column j row (ap (rounded_sum side column) (sym (choice_is s c l)) ∙ told) in (
        stays one (states_of m) column (row_at m s c) e row.in_range r.there,
        subst (λ (x : ℚ). NoBetter side x (in_units (pos one) j)) (backed_up-is one (states_of m) (earns m o s c) column (row_at m s c) above e row.in_range r.there)
            (no_better_in_units side one (exact one (earns m o s c) (row_at m s c) column) j above r.beyond),
      )

  -- ---- one step

  module _ (dir : Dir) (column : List (Option ℤ)) (e : states_of m ≡ length column) where
    cover_is : (s : ℕ) → s < states_of m → reward_at (fractions (pos one) (cover_next dir (pos one) m o column)) s ≡ option_map (in_units (pos one)) (cover_at dir (pos one) m o column s)
    cover_is s h =
        fraction_at one (cover_next dir (pos one) m o column) s (omega (arith, length-map-range_with_len (cover_at dir (pos one) m o column) 0 (states_of m)))
        ∙ ap (option_map (in_units (pos one))) (get_or-map-range_with_len (cover_at dir (pos one) m o column) 0 (states_of m) s s (Some (pos 0)) h (omega arith))

    follow_is : (s : ℕ) → s < states_of m → reward_at (fractions (pos one) (follow_next dir (pos one) m o column)) s
        ≡ option_map (in_units (pos one)) (Leader.value (follow_at dir (pos one) m o column s))
    follow_is s h =
        fraction_at one (follow_next dir (pos one) m o column) s (omega (arith, length-map-range_with_len (λ s. Leader.value (follow_at dir (pos one) m o column s)) 0 (states_of m)))
        ∙ ap (option_map (in_units (pos one))) (get_or-map-range_with_len (λ s. Leader.value (follow_at dir (pos one) m o column s)) 0 (states_of m) s s (Some (pos 0)) h (omega arith))

    taken_is : (s : ℕ) → s < states_of m → slice_index (choices_next dir (pos one) m o column) s ≡ Leader.choice (follow_at dir (pos one) m o column s)
    taken_is s h = get_or-map-range_with_len (λ s. Leader.choice (follow_at dir (pos one) m o column s)) 0 (states_of m) s s 0 h (omega arith)

    claim_of_option : (v : Option ℤ) (s c : ℕ) → s < states_of m → c < length (choices_at m s) → covered dir column (scaled_state (pos one) m o s) ≡ v
        → Claimed (option_map (in_units (pos one)) v) (λ y. StaysFinite m (fractions (pos one) column) s c × NoBetter dir (backed_up m o (finite_part (fractions (pos one) column)) s c) y)
    claim_of_option None s c h l q = tt
    claim_of_option (Some k) s c h l q =
        let each = covered-each dir column (scaled_state (pos one) m o s) k q c (omega (arith, length-map (choices_at m s) (scaled_choice (pos one) o))) in
        let sum = summed dir column s c each.0 h l e each.1 in
        (sum.0, no_better_trans dir (backed_up m o (finite_part (fractions (pos one) column)) s c) (in_units (pos one) each.0) (in_units (pos one) k) sum.1 (in_order dir one each.0 k above each.2))
      where
        in_order : (dir : Dir) (one : ℕ) (j k : ℤ) → 0 < one → NoBetter dir (of_int j) (of_int k) → NoBetter dir (in_units (pos one) j) (in_units (pos one) k)
        in_order dir one j k h p = subst (λ (x : ℚ). NoBetter dir x (in_units (pos one) k)) (sym (in_units-is one j h)) (no_better_in_units dir one (of_int j) k h p)

    pub covers_step : CoversStep dir m o (fractions (pos one) column) (fractions (pos one) (cover_next dir (pos one) m o column))
    covers_step = record {
      stopped = λ s x h st.
          let v = some_stopped (stopped (pos one) o s) x (stopped-is o s ∙ st) in
          subst (λ (w : Option ℚ). Claimed w (λ y. NoBetter dir x y))
          (sym (cover_is s h ∙ ap (λ (w : Option ℤ). option_map (in_units (pos one)) (or_else w (covered dir column (scaled_state (pos one) m o s)))) v.1))
          (no_better_of_eq dir x (in_units (pos one) v.0) (sym v.2));
      each = λ s c h st l.
          subst (λ (w : Option ℚ). Claimed w (λ y. StaysFinite m (fractions (pos one) column) s c × NoBetter dir (backed_up m o (finite_part (fractions (pos one) column)) s c) y))
          (sym (cover_is s h ∙ ap (λ (w : Option ℤ). option_map (in_units (pos one)) (or_else w (covered dir column (scaled_state (pos one) m o s))))
          (none_stopped (stopped (pos one) o s) (stopped-is o s ∙ st))))
          (claim_of_option (covered dir column (scaled_state (pos one) m o s)) s c h l refl);
    }

    turned_by : (dir : Dir) (x y : ℚ) → NoBetter (opposite dir) x y → NoBetter dir y x
    turned_by Max x y p = p
    turned_by Min x y p = p

    led : (s : ℕ) → s < states_of m → IsLed dir column (scaled_state (pos one) m o s) (followed dir column (scaled_state (pos one) m o s))
    led s h = let some = known_.choice s h in followed-led dir column (scaled_state (pos one) m o s) (omega (arith, length-map (choices_at m s) (scaled_choice (pos one) o)))

    claim_of_leader : (leader : Leader) (v : Option ℤ) (s : ℕ) → s < states_of m → IsLed dir column (scaled_state (pos one) m o s) leader → leader.value ≡ v
        → Claimed (option_map (in_units (pos one)) v) (λ y. StaysFinite m (fractions (pos one) column) s leader.choice
        × NoBetter dir y (backed_up m o (finite_part (fractions (pos one) column)) s leader.choice))
    claim_of_leader leader None s h l q = tt
    claim_of_leader leader (Some k) s h l q =
        let inside : leader.choice < length (choices_at m s) = omega (arith, l.inside, length-map (choices_at m s) (scaled_choice (pos one) o)) in
        let sum = summed (opposite dir) column s leader.choice k h inside e (sym l.value ∙ q) in
        (sum.0, turned_by dir (backed_up m o (finite_part (fractions (pos one) column)) s leader.choice) (in_units (pos one) k) sum.1)

    choice_by : (v : Option ℤ) (s : ℕ) → s < states_of m → Leader.choice (leader_or v (followed dir column (scaled_state (pos one) m o s))) < length (choices_at m s)
    choice_by None s h = omega (arith, IsLed.inside (led s h), length-map (choices_at m s) (scaled_choice (pos one) o))
    choice_by (Some k) s h = known_.choice s h

    pub follows_step : FollowsStep dir m o (fractions (pos one) column) (choices_next dir (pos one) m o column) (fractions (pos one) (follow_next dir (pos one) m o column))
    follows_step = record {
      policy = record {
        one_each = length-map-range_with_len (λ s. Leader.choice (follow_at dir (pos one) m o column s)) 0 (states_of m);
        in_range = λ s h. subst (λ (c : ℕ). c < length (choices_at m s)) (sym (taken_is s h)) (choice_by (stopped (pos one) o s) s h);
      };
      stopped = λ s x h st.
          let v = some_stopped (stopped (pos one) o s) x (stopped-is o s ∙ st) in
          subst (λ (w : Option ℚ). Claimed w (λ y. NoBetter dir y x))
          (sym (follow_is s h ∙ ap (λ (w : Option ℤ). option_map (in_units (pos one)) (Leader.value (leader_or w (followed dir column (scaled_state (pos one) m o s))))) v.1))
          (no_better_of_eq dir (in_units (pos one) v.0) x v.2);
      taken = λ s h st.
          let none = none_stopped (stopped (pos one) o s) (stopped-is o s ∙ st) in
          let leader = followed dir column (scaled_state (pos one) m o s) in
          let at : slice_index (choices_next dir (pos one) m o column) s ≡ leader.choice =
          taken_is s h ∙ ap (λ (w : Option ℤ). Leader.choice (leader_or w (followed dir column (scaled_state (pos one) m o s)))) none in
          subst (λ (w : Option ℚ). Claimed w (λ y. StaysFinite m (fractions (pos one) column) s (slice_index (choices_next dir (pos one) m o column) s)
          × NoBetter dir y (backed_up m o (finite_part (fractions (pos one) column)) s (slice_index (choices_next dir (pos one) m o column) s))))
          (sym (follow_is s h ∙ ap (λ (w : Option ℤ). option_map (in_units (pos one)) (Leader.value (leader_or w (followed dir column (scaled_state (pos one) m o s))))) none))
          (subst (λ (c : ℕ). Claimed (option_map (in_units (pos one)) leader.value)
          (λ y. StaysFinite m (fractions (pos one) column) s c × NoBetter dir y (backed_up m o (finite_part (fractions (pos one) column)) s c))) (sym at)
          (claim_of_leader leader leader.value s h (led s h) refl));
    }

  -- ---- all steps

  module _ (dir : Dir) where
    pub cover_length : (n : ℕ) → states_of m ≡ length (cover dir (pos one) m o n)
    cover_length zero = sym (length-map-range_with_len (λ s. let v : Option ℤ = Some (ended (pos one) o s) in v) 0 (states_of m))
    cover_length (suc n) = sym (length-map-range_with_len (cover_at dir (pos one) m o (cover dir (pos one) m o n)) 0 (states_of m))

    pub follow_length : (n : ℕ) → states_of m ≡ length (follow dir (pos one) m o n)
    follow_length zero = sym (length-map-range_with_len (λ s. let v : Option ℤ = Some (ended (pos one) o s) in v) 0 (states_of m))
    follow_length (suc n) = sym (length-map-range_with_len (λ s. Leader.value (follow_at dir (pos one) m o (follow dir (pos one) m o n) s)) 0 (states_of m))

    end_is : (s : ℕ) → s < states_of m → reward_at (fractions (pos one) (end_column dir (pos one) m o)) s ≡ Some (ending m o s)
    end_is s h =
        let f = λ (s : ℕ). let v : Option ℤ = Some (ended (pos one) o s) in v in
        fraction_at one (end_column dir (pos one) m o) s (omega (arith, length-map-range_with_len f 0 (states_of m)))
        ∙ ap (option_map (in_units (pos one))) (get_or-map-range_with_len f 0 (states_of m) s s (Some (pos 0)) h (omega arith))
        ∙ ap Some (ended-is o s)

    pub is_covering : (n : ℕ) → IsCovering dir m o n (fractions (pos one) (cover dir (pos one) m o n))
    is_covering zero = λ s h. subst (λ (w : Option ℚ). Claimed w (λ y. NoBetter dir (ending m o s) y)) (sym (end_is s h)) (no_better_of_eq dir (ending m o s) (ending m o s) refl)
    is_covering (suc n) = (fractions (pos one) (cover dir (pos one) m o n), is_covering n, covers_step dir (cover dir (pos one) m o n) (cover_length n))

    pub is_following : (n : ℕ) → IsFollowing dir m o n (fractions (pos one) (follow dir (pos one) m o n)) (table dir (pos one) m o n)
    is_following zero = λ s h. subst (λ (w : Option ℚ). Claimed w (λ y. NoBetter dir y (ending m o s))) (sym (end_is s h)) (no_better_of_eq dir (ending m o s) (ending m o s) refl)
    is_following (suc n) = (fractions (pos one) (follow dir (pos one) m o n), is_following n, follows_step dir (follow dir (pos one) m o n) (follow_length n))
