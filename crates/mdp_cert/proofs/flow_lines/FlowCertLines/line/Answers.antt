use Rattle.std.proofs.Common.{◌-◌, ℕ, get_or, ap, ◌∙◌, arith}
use Rattle.mdp_cert.proofs.Places.{keep-inside, keep-at, sent-inside, sent-at}
use Rattle.mdp_cert.proofs.flow_lines.FlowCertLines.line.Goals as goal

pub index-requires : goal.index-requires
index-requires c = omega (arith, (keep-inside c.args.self.now.kept.items c.args.self.now.wide.items c.args.place (omega (arith, c.keep_count-kept.ensures))).0)

pub index-requires-then-place-kept : goal.index-requires-then-place-kept
index-requires-then-place-kept c = omega (arith, (keep-inside c.args.self.now.kept.items c.args.self.now.wide.items c.args.place (omega (arith, c.keep_count-kept.ensures))).1)

pub index-requires-else-place-kept : goal.index-requires-else-place-kept
index-requires-else-place-kept c =
    let cert = c.args.self.now in
    omega (arith, c.keep_count-kept.ensures, sent-inside cert.kept.items cert.wide.items cert.flows.items c.args.place (omega (arith, c.keep_count-kept.ensures)) c.requires)

pub returns-then-place-kept : goal.returns-then-place-kept
returns-then-place-kept c =
    let cert = c.args.self.now in
    keep-at cert.kept.items cert.wide.items cert.flows.items c.args.place _ _ _ (omega (arith, c.keep_count-kept.ensures)) c.index.ensures c.index-then-place-kept.ensures

pub returns-else-place-kept : goal.returns-else-place-kept
returns-else-place-kept c =
    let cert = c.args.self.now in
    let x = c.index-else-place-kept.result.now in
    sent-at cert.kept.items cert.wide.items cert.flows.items c.args.place x _ (omega (arith, c.keep_count-kept.ensures)) c.requires
    (c.index-else-place-kept.ensures ∙ ap (λ (n : ℕ). get_or cert.flows.items (c.args.place - n) x) c.keep_count-kept.ensures)
