-- What is kept of a system is its solution.
use Rattle.std.proofs.Common.{◌≡◌, ℕ, List, length, Ok, Some, refl, sym, ◌∙◌, ap, subst, arith}
use Rattle.mdp_elim.specs.{Equation.{Equation}, Elimination.{solution}, Predecessors.{at}}
use Rattle.mdp_elim.specs.Kept.{Kept, AreSolved, IsKept, solved_at, values_by}
use Rattle.mdp_elim.proofs.{OneByOne.{solution-solved}, Evaluating.{values-all}}

module _ (equations : List Equation) where
  -- the values by the solved equations
  pub solved-solution : (solved : List Equation) (n : ℕ) → length equations ≡ n → AreSolved equations solved → solution n equations ≡ values_by solved (length solved)
  solved-solution solved n len is =
      let z : n ≡ length solved = sym len ∙ sym is.count in
      solution-solved solved equations n len
      (λ s l. subst (λ m. solved_at solved m s (at equations s) ≡ Some (at solved s)) len (is.each s (omega (arith, l, len))))
      ∙ ap (values_by solved) z

  pub kept-solution : (k : Kept) → IsKept equations k → solution (length equations) equations ≡ Ok (record { first = k.first; second = k.second })
  kept-solution k is =
      solved-solution k.solved (length equations) refl is.solved
      ∙ values-all k.solved k.first k.second (λ s l. is.solved.down s (let c = is.solved.count in omega (arith, l, c))) is.first.count is.second.count is.first is.second
