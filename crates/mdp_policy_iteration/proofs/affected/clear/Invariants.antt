use Rattle.std.proofs.Common.{◌≡◌, ℕ, ◌&&◌, not, false, length, take, get_or}
use Rattle.mdp_rows.specs.Preds.{is_among}
use Rattle.mdp_policy_iteration.proofs.affected.clear.Given as goal

abbrev pub invariant-loop-s : goal.invariant-loop-s
invariant-loop-s l = record {
  count : length l.marks ≡ length l.initial.marks;
  cleared : (s : ℕ) → get_or l.marks s false ≡ (get_or l.initial.marks s false && not (is_among s (take l.s-index l.nodes)));
}
