use Rattle.std.proofs.Common.{sym, ◌∙◌}
use Rattle.mdp_spec.specs.Mdp.{has_label}
use Rattle.mdp_rows.proofs.Queries.Tally.{skip, first_found, more_found, none_of, no_label}
use Rattle.mdp_rows.proofs.model.Model.initial.Goals.{then-has+then-is_some, then-has+else-is_some, else-has}
use Rattle.mdp_rows.proofs.model.Model.initial.Goals as goal

pub returns-in_err-init : goal.returns-in_err-init
returns-in_err-init c = c.from_residual.ensures ∙ no_label c.args.self.now (c.in_err-init.ensures {u = tt})

pub loop-s-preserved : goal.loop-s-preserved
loop-s-preserved c = elim c.if-has.branch [
  | then-has+then-is_some w ↦ rw (w.first-is, w.more-is)
      (more_found (has_label c.args.self.now c.in_ok-init.init) c.loop-s.s c.loop-s.more c.loop-s.first (sym (w.if-has.ensures {u = tt})) (sym (w.if-is_some.ensures {u = tt})) c.loop-s.invariant)
  | then-has+else-is_some w ↦ rw (w.first-is, w.more-is)
      (first_found (has_label c.args.self.now c.in_ok-init.init) c.loop-s.s c.loop-s.more c.loop-s.first (sym (w.if-has.ensures {u = tt}))
      (none_of c.loop-s.first (sym (w.if-is_some.ensures {u = tt}))) c.loop-s.invariant)
  | else-has w ↦ rw (w.first-is, w.more-is) (skip (has_label c.args.self.now c.in_ok-init.init) c.loop-s.s c.loop-s.more c.loop-s.first (sym (w.if-has.ensures {u = tt})) c.loop-s.invariant)
]
