use Rattle.std.proofs.Common.{◌≡◌, ℕ, false}
use Rattle.mdp_spec.specs.Mdp.{value_at}
use Rattle.mdp_rows.specs.Preds.{is_among}
use Rattle.mdp_elim.proofs.Evaluating.{HaveValues}
use Rattle.mdp_elim.proofs.keeping.evaluate_states.Given as goal

abbrev pub invariant-loop-t : goal.invariant-loop-t
invariant-loop-t l = record {
  first : HaveValues l.states l.solved (λ e. e.first) l.t-index l.first;
  second : HaveValues l.states l.solved (λ e. e.second) l.t-index l.second;
  others : (s : ℕ) → is_among s l.states ≡ false → value_at l.first s ≡ value_at l.initial.first s;
}
