use Rattle.std.proofs.Common.{◌≡◌, ◌≤◌, ◌*◌, take}
use Rattle.mdp_rows.specs.Parts.{parts}
use Rattle.mdp_rows.proofs.closing.sum_in_parts.Given as goal

abbrev pub invariant-loop-given : goal.invariant-loop-given
invariant-loop-given l = (l.parts ≡ parts l.den (take l.given-index l.row)) × (l.parts ≤ 2 * l.den)
