use Rattle.std.proofs.Common.{sym, ◌∙◌}
use Rattle.mdp_command.proofs.Accepting.{by_kind}
use Rattle.mdp_command.specs.{Kinds.{chosen}, declared.kind.CertificateKind.TheVariants.{Exact, Discounted, Bounds, DiscountedBounds, SubsystemBounds}}
use Rattle.mdp_command.proofs.checking.of_text.Goals as goal

pub returns-in-Exact-clause-due : goal.returns-in-Exact-clause-due
returns-in-Exact-clause-due c = by_kind (chosen c.args.wanted c.args.bytes.now) Exact _ _ _ (sym c.in-Exact.is ∙ c.chosen.ensures) c.of_exact.ensures.due

pub returns-in-Discounted-clause-due : goal.returns-in-Discounted-clause-due
returns-in-Discounted-clause-due c = by_kind (chosen c.args.wanted c.args.bytes.now) Discounted _ _ _ (sym c.in-Discounted.is ∙ c.chosen.ensures) c.of_discounted.ensures.due

pub returns-in-Bounds-clause-due : goal.returns-in-Bounds-clause-due
returns-in-Bounds-clause-due c = by_kind (chosen c.args.wanted c.args.bytes.now) Bounds _ _ _ (sym c.in-Bounds.is ∙ c.chosen.ensures) c.of_bounds.ensures.due

pub returns-in-DiscountedBounds-clause-due : goal.returns-in-DiscountedBounds-clause-due
returns-in-DiscountedBounds-clause-due c =
    by_kind (chosen c.args.wanted c.args.bytes.now) DiscountedBounds _ _ _ (sym c.in-DiscountedBounds.is ∙ c.chosen.ensures) c.of_discounted_bounds.ensures.due

pub returns-in-SubsystemBounds-clause-due : goal.returns-in-SubsystemBounds-clause-due
returns-in-SubsystemBounds-clause-due c =
    by_kind (chosen c.args.wanted c.args.bytes.now) SubsystemBounds _ _ _ (sym c.in-SubsystemBounds.is ∙ c.chosen.ensures) c.of_subsystem_bounds.ensures.due
