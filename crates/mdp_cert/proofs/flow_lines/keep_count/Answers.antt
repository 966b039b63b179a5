use Rattle.std.proofs.Common.{◌≡◌, sym, ap₂, ◌∙◌, min, length, arith}
use Rattle.mdp_cert.proofs.Places.{keep-count}
use Rattle.mdp_cert.proofs.flow_lines.keep_count.Goals as goal

pub returns : goal.returns
returns c =
    let cert = c.args.cert.now in
    let kept : c.len.result ≡ length cert.kept.items = omega (arith, c.len.ensures) in
    let wide : c.len-2.result ≡ length cert.wide.items = omega (arith, c.len-2.ensures) in
    c.min.ensures ∙ ap₂ min kept wide ∙ sym (keep-count cert.kept.items cert.wide.items)
