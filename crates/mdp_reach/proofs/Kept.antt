-- At its end the path has found a policy of the model: at open states it takes candidates, and elsewhere it has what the start has.
use Rattle.std.proofs.Common.{◌≡◌, ℕ, ◌<◌, Bool, true, false, ◌&&◌, not, List, length, refl, sym, ◌∙◌, ap, subst, arith, pos, if◌then◌else◌}
use Rattle.std.specs.Prelude.{slice_index}
use Rattle.mdp_math.specs.Rational.{ℚ, of_int}
use Rattle.mdp_math.proofs.{Ring.{◌⊕◌, lit, ring}, Laws.{rat_ring}}
use Rattle.mdp_spec.specs.{Mdp.{Mdp, states_of, row_at, choices_at, value_at}, Row.{row_sum}, Tree.{is_marked}}
use Rattle.mdp_spec.specs.Tree as tree
use Rattle.mdp_rows.specs.{declared.dir.Dir.{Dir}, Better.{IsAsGood}}
use Rattle.mdp_policy_iteration.specs.{Problem.{Choice, worth, choice_at}, Laws.{IsBestFrom}}
use Rattle.mdp_policy_iteration.specs.Problem as path
use Rattle.mdp_reach.specs.Problem.{reach_problem}
use Rattle.mdp_reach.proofs.Nodes.{reach-count, reach-choices, reach-choice, reach-candidate}
use Rattle.mdp_reach.proofs.Policies.{open_at, is_node, goal-node, closed-node, open-choice}

module _ (dir : Dir) (m : Mdp) (goals marks : List Bool) (start policy : List ℕ) (x : List ℚ) (taking : tree.IsPolicy m start)
    (found : IsBestFrom (reach_problem dir m goals marks) start policy x) where
  -- at a goal, and at a state that isn't open
  pub goal-kept : (s : ℕ) → s < states_of m → is_marked goals s ≡ true → slice_index policy s ≡ slice_index start s
  goal-kept s l g = found.given_kept s (of_int (pos 1)) (is_node dir m goals marks s l) (goal-node dir m goals marks s l g)

  pub closed-kept : (s : ℕ) → s < states_of m → is_marked goals s ≡ false → open_at dir m goals marks s ≡ false → slice_index policy s ≡ slice_index start s
  closed-kept s l g o = found.given_kept s (of_int (pos 0)) (is_node dir m goals marks s l) (closed-node dir m goals marks s l g o)

  in_range_by : (s : ℕ) (g o : Bool) → s < states_of m → is_marked goals s ≡ g → open_at dir m goals marks s ≡ o → slice_index policy s < length (choices_at m s)
  in_range_by s true o l eg eo = subst (λ (c : ℕ). c < length (choices_at m s)) (sym (goal-kept s l eg)) (taking.in_range s l)
  in_range_by s false true l eg eo = open-choice dir m goals marks policy found.best.is s l eg eo
  in_range_by s false false l eg eo = subst (λ (c : ℕ). c < length (choices_at m s)) (sym (closed-kept s l eg eo)) (taking.in_range s l)

  pub found-policy : tree.IsPolicy m policy
  found-policy = record {
    one_each = found.best.is.one_each ∙ reach-count dir m goals marks;
    in_range = λ s l. in_range_by s (is_marked goals s) (open_at dir m goals marks s) l refl refl;
  }

  -- no choice of an open state is better than its value
  pub no-better : (s c : ℕ) → s < states_of m → is_marked goals s ≡ false → open_at dir m goals marks s ≡ true → c < length (choices_at m s)
      → IsAsGood dir (value_at x s) (row_sum (row_at m s c) x)
  no-better s c l g o i =
      let n = is_node dir m goals marks s l in
      let decides : not (is_marked goals s) && open_at dir m goals marks s ≡ true = ap (λ (b : Bool). not b && open_at dir m goals marks s) g ∙ o in
      let has : length (path.choices_at (reach_problem dir m goals marks) s) ≡ length (choices_at m s) =
      reach-choices dir m goals marks s n ∙ ap (λ (b : Bool). if b then length (choices_at m s) else 0) decides in
      let j : c < length (path.choices_at (reach_problem dir m goals marks) s) = omega arith in
      let same : worth x (choice_at (reach_problem dir m goals marks) s c).move ≡ row_sum (row_at m s c) x =
      ap (λ (y : Choice). worth x y.move) (reach-choice dir m goals marks s c n j).1 ∙ ring rat_ring 1 (λ v. lit (pos 0) ⊕ v) (λ v. v) refl (row_sum (row_at m s c) x) in
      subst (IsAsGood dir (value_at x s)) same (found.best.none_better s c n j (reach-candidate dir m goals marks s n c j))
