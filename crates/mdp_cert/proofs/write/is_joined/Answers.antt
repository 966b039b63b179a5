use Rattle.std.proofs.{Common.{◌≡◌, ◌+◌, ltb, false, ◌∙◌, sym, arith}, lemmas.Bool.Decides.{nat_tests}}
use Rattle.mdp_cert.proofs.Runs.{next-same, next-none}
use Rattle.mdp_cert.proofs.write.is_joined.Goals as goal

pub returns-then-state-states : goal.returns-then-state-states
returns-then-state-states g c =
    c.is_same.ensures
    ∙ sym (next-same g.L.Item.Entry.columns (g.L.Lists.entries c.args.entries.now) c.args.state c.entry.result c.entry-then-state-states.result
    (omega (arith, c.requires.states)) c.entry.ensures c.entry-then-state-states.ensures)

pub returns-else-state-states : goal.returns-else-state-states
returns-else-state-states g c =
    let none : ltb (c.args.state + 1) c.args.states ≡ false = grind (arith, nat_tests) in
    none ∙ sym (next-none g.L.Item.Entry.columns (g.L.Lists.entries c.args.entries.now) c.args.state (omega (arith, c.requires.states)))
