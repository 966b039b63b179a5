use Rattle.std.proofs.Common.{arith}
use Rattle.mdp_text.proofs.Cuts.{line_found, line_missing}
use Rattle.mdp_text.proofs.lines.next_line.Goals as goal

pub returns-then-end-bytes : goal.returns-then-end-bytes
returns-then-end-bytes c = line_found c.args.line _ c.args.bytes.now c.before-end.ensures (omega arith)

pub returns-else-end-bytes : goal.returns-else-end-bytes
returns-else-end-bytes c = line_missing c.args.line _ c.args.bytes.now c.before-end.ensures (omega arith)
