use Rattle.std.proofs.Common.{◌∙◌, sym, ap, arith}
use Rattle.mdp_elim.specs.Entries.{entry_to}
use Rattle.mdp_elim.proofs.Merge.{without_none, without_popped}
use Rattle.mdp_elim.proofs.entries.take_entry.Goals as goal

pub returns-in-Some-clause-rest : goal.returns-in-Some-clause-rest
returns-in-Some-clause-rest c =
    without_popped c.args.s c.args.row.now.items c.pop.new.self.items c.pop.result c.in-Some.own c.requires c.pop.ensures.items (λ l. c.pop.ensures.variant.1 (omega (arith, l)))
    (sym c.in-Some.is ∙ c.last_entry.ensures ∙ ap (entry_to c.args.s) c.deref.ensures.value)

pub returns-in-None-clause-rest : goal.returns-in-None-clause-rest
returns-in-None-clause-rest c = without_none c.args.s c.args.row.now.items (sym (ap (entry_to c.args.s) c.deref.ensures.value) ∙ sym c.last_entry.ensures ∙ c.in-None.is)
