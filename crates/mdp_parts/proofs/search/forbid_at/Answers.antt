use Rattle.std.proofs.Common.{◌<◌, inl, inr, length, sym, ◌∙◌, arith}
use Rattle.mdp_spec.specs.Mdp.{choices_at}
use Rattle.mdp_parts.proofs.Forbidding.{forbidding_begins, forbids, leaves_be, forbidden}
use Rattle.mdp_parts.proofs.search.forbid_at.Goals.{then-at+then-not-stays, else-at, else-at-via-then-at+else-not-stays, else-at-via-else-at}
use Rattle.mdp_parts.proofs.search.forbid_at.Goals as goal

pub loop-c-init : goal.loop-c-init
loop-c-init c = forbidding_begins _ _ _ _ c.requires.allowed

pub loop-c-preserved : goal.loop-c-preserved
loop-c-preserved c =
    let h : c.loop-c.c < length (choices_at c.args.model.now c.args.s) = omega arith in
    elim c.if-at.branch [
      | then-at+then-not-stays w ↦
          rw (w.allowed-is, w.any-is)
          (forbids c.args.model.now c.args.parts.now c.args.s c.args.allowed.now c.requires.state c.loop-c.c h c.loop-c.allowed c.loop-c.any c.loop-c.invariant
          (sym c.at.ensures ∙ w.if-at.true) (sym w.stays.ensures ∙ w.if-not-stays.true) _ w.set.ensures)
      | else-at w ↦
          rw (w.allowed-is, w.any-is)
          (leaves_be c.args.model.now c.args.parts.now c.args.s c.args.allowed.now c.requires.state c.loop-c.c h c.loop-c.allowed c.loop-c.any c.loop-c.invariant
          (elim w.else-at.branch [
            | else-at-via-then-at+else-not-stays u ↦ inr (sym u.stays.ensures ∙ u.if-not-stays.false)
            | else-at-via-else-at u ↦ inl (sym c.at.ensures ∙ u.if-at.false)
          ]))
    ]

pub returns : goal.returns
returns c = forbidden _ _ _ _ c.loop-c.c _ _ c.loop-c.invariant (omega arith)
