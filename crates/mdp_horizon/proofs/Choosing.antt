-- Where the choice of a state is refused, and what the choice that is made says in exact numbers.
use Rattle.std.proofs.Common.{◌≡◌, ℕ, suc, ◌-◌, ◌<◌, inl, inr, Bool, true, false, if◌then◌else◌, List, length}
use Rattle.std.proofs.Common.{Option, Some, None, Result, Ok, Err, ◌∙◌, sym, ap, subst, arith}
use Rattle.mdp_math.specs.{Rational.{ℚ}, Result.{◌>>=◌}, Written.{written_compare, cmp_ℚ}}
use Rattle.mdp_math.proofs.{Numbers.{last_or}, Options.{Some_same, step_told}, Written.{written_compare-some}}
use Rattle.mdp_spec.specs.Mdp.{Mdp, choices_at, row_at}
use Rattle.mdp_rows.specs.{declared.dir.Dir.{Dir}, Better.{is_better}}
use Rattle.mdp_spec.proofs.Summed.{written_sum-some}
use Rattle.mdp_horizon.specs.{Objective.{Objective, earns}, Choices.{Best, best, judged, sum_of_choice, compared}}
use Rattle.mdp_horizon.specs.Written.{Place, at_place, in_turn, first_choice, next_choice, best_choice}
use Rattle.mdp_horizon.proofs.{Directions.{NoBetter, no_better_of_eq, no_better_trans, better_of_test, worse_of_test}, Halves.{backed_up}}
use Rattle.mdp_horizon.proofs.Turns.{ok_same, ok_part, place_part, in_turn-keeps, in_turn-refused, refused_start}

-- ---- where it is refused

abbrev pub place : ℕ → ℕ → ℕ → Place
place depth s c = record { depth = depth; state = s; choice = c }

module _ (dir : Dir) (m : Mdp) (o : Objective) (depth : ℕ) (z : List ℚ) (s : ℕ) where
  pub first-refused : sum_of_choice m o z s 0 ≡ None → best_choice dir m o depth z s ≡ Err (place depth s 0)
  first-refused h =
      refused_start (next_choice dir m o depth z s) (first_choice m o depth z s) (length (choices_at m s) - 1) (place depth s 0)
      (ap (λ (o : Option ℚ). let r : Result Best Place = at_place depth s 0 o >>= (λ sum. Ok (best sum 0)) in r) h)

  pub choice-refused : (k c : ℕ) (leader : Best) → in_turn (next_choice dir m o depth z s) (first_choice m o depth z s) k ≡ Ok leader → compared dir m o z s c leader ≡ None
      → c ≡ suc k → c < length (choices_at m s) → best_choice dir m o depth z s ≡ Err (place depth s c)
  choice-refused k c leader h none e l =
      in_turn-refused (next_choice dir m o depth z s) (first_choice m o depth z s) k (length (choices_at m s) - 1) leader (place depth s c) h
      (ap (λ (j : ℕ). at_place depth s j (compared dir m o z s j leader)) (sym e) ∙ ap (at_place depth s c) none) (omega arith)

-- ---- what the choice says

-- of the first k choices the one with this value, and none of them is better
pub record IsBestOf (dir : Dir) (m : Mdp) (o : Objective) (z : List ℚ) (s k : ℕ) (leader : Best) : Type 0 where
  pub inside : leader.choice < k
  pub value : leader.value ≡ backed_up m o z s leader.choice
  pub covers : (c : ℕ) → c < k → NoBetter dir (backed_up m o z s c) leader.value

module _ (dir : Dir) (m : Mdp) (o : Objective) (depth : ℕ) (z : List ℚ) (s : ℕ) where
  summed : (c : ℕ) (v : ℚ) → sum_of_choice m o z s c ≡ Some v → v ≡ backed_up m o z s c
  summed c v h = written_sum-some z (earns m o s c) (row_at m s c) v (sym h)

  first_is_best : (leader : Best) → first_choice m o depth z s ≡ Ok leader → IsBestOf dir m o z s 1 leader
  first_is_best leader h =
      let a = ok_part (at_place depth s 0 (sum_of_choice m o z s 0)) (λ sum. let r : Result Best Place = Ok (best sum 0) in r) leader h in
      let e : a.0 ≡ backed_up m o z s 0 = summed 0 a.0 (place_part depth s 0 (sum_of_choice m o z s 0) a.0 a.1) in
      subst (IsBestOf dir m o z s 1) (ok_same (best a.0 0) leader a.2) (record {
        inside = omega arith;
        value = e;
        covers = λ c l. let zero_is : 0 ≡ c = omega arith in subst (λ (j : ℕ). NoBetter dir (backed_up m o z s j) a.0) zero_is (no_better_of_eq dir _ _ (sym e));
      })

  -- one choice more
  more_covered : (k : ℕ) (v : ℚ) → ((c : ℕ) → c < k → NoBetter dir (backed_up m o z s c) v) → NoBetter dir (backed_up m o z s k) v
      → (c : ℕ) → c < suc k → NoBetter dir (backed_up m o z s c) v
  more_covered k v before here c l = elim (last_or k c l) as (λ _. NoBetter dir (backed_up m o z s c) v) [
    | inl e ↦ subst (λ (j : ℕ). NoBetter dir (backed_up m o z s j) v) (sym e) here
    | inr j ↦ before c j
  ]

  judged_by : (k : ℕ) (leader after : Best) (v : ℚ) (b : Bool) → IsBestOf dir m o z s k leader → v ≡ backed_up m o z s k → is_better dir (cmp_ℚ v leader.value) ≡ b
      → (if b then best v k else leader) ≡ after → IsBestOf dir m o z s (suc k) after
  judged_by k leader after v true h e test made =
      let better : NoBetter dir leader.value v = better_of_test dir v leader.value test in
      subst (IsBestOf dir m o z s (suc k)) made (record {
        inside = omega arith;
        value = e;
        covers = more_covered k v (λ c l. no_better_trans dir _ leader.value v (h.covers c l) better) (no_better_of_eq dir _ _ (sym e));
      })
  judged_by k leader after v false h e test made =
      subst (IsBestOf dir m o z s (suc k)) made (record {
        inside = omega (arith, h.inside);
        value = h.value;
        covers = more_covered k leader.value h.covers (subst (λ (x : ℚ). NoBetter dir x leader.value) e (worse_of_test dir v leader.value test));
      })

  next_is_best : (k : ℕ) (leader after : Best) → IsBestOf dir m o z s (suc k) leader → next_choice dir m o depth z s k leader ≡ Ok after → IsBestOf dir m o z s (suc (suc k)) after
  next_is_best k leader after h made =
      let told = place_part depth s (suc k) (compared dir m o z s (suc k) leader) after made in
      let a = step_told (sum_of_choice m o z s (suc k)) (judged dir (suc k) leader) after (sym told) in
      let b = step_told (written_compare a.0 leader.value) (λ order. Some (if is_better dir order then best a.0 (suc k) else leader)) after a.2 in
      let order : b.0 ≡ cmp_ℚ a.0 leader.value = written_compare-some a.0 leader.value b.0 b.1 in
      judged_by (suc k) leader after a.0 (is_better dir b.0) h (summed (suc k) a.0 (sym a.1)) (ap (is_better dir) (sym order)) (sym (Some_same after _ b.2))

  pub best_choice-is : (leader : Best) → 0 < length (choices_at m s) → best_choice dir m o depth z s ≡ Ok leader → IsBestOf dir m o z s (length (choices_at m s)) leader
  best_choice-is leader some made =
      let count : suc (length (choices_at m s) - 1) ≡ length (choices_at m s) = omega arith in
      subst (λ (k : ℕ). IsBestOf dir m o z s k leader) count
      (in_turn-keeps (next_choice dir m o depth z s) (first_choice m o depth z s) (λ k b. IsBestOf dir m o z s (suc k) b) (length (choices_at m s) - 1) first_is_best
      (λ k b c l p e. next_is_best k b c p e) (length (choices_at m s) - 1) leader (omega arith) made)
