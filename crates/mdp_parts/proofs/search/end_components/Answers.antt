use Rattle.std.proofs.Common.{ℕ, Bool, true, false, List, sym, subst}
use Rattle.mdp_parts.specs.{Round.{IsRound, AreLastParts}, Losing.{IsPruned}}
use Rattle.mdp_parts.proofs.{Forbidding.{round_keeps}, Pruning.{pruned_less}}
use Rattle.mdp_parts.proofs.search.end_components.Goals as goal

pub loop-changed-init : goal.loop-changed-init
loop-changed-init c = record { sizes = c.in_ok-allowed.ensures.sizes; keeps = λ set chosen e s c' hs i hc t. c.in_ok-allowed.ensures.each s c' hs hc; parts = c.in_ok-parts.ensures }

pub loop-changed-smaller : goal.loop-changed-smaller
loop-changed-smaller c =
    let m = c.args.model.now in
    let old = c.loop-changed.allowed in
    let new = c.forbid_leaving.new.allowed in
    let r : IsRound m c.deref.result.now old new true =
    subst (λ (b : Bool). IsRound m c.deref.result.now old new b) c.if-branch.true c.in_ok-forbid_leaving.ensures.round in
    pruned_less m c.deref.result.now old new c.forbid_closed.new.allowed r c.in_ok-forbid_closed.ensures

pub loop-changed-preserved : goal.loop-changed-preserved
loop-changed-preserved c =
    let m = c.args.model.now in
    let a = c.loop-changed.invariant in
    let old = c.loop-changed.allowed in
    let new = c.forbid_leaving.new.allowed in
    let any = c.in_ok-forbid_leaving.field-0 in
    let r : IsRound m c.loop-changed.parts.items old new any =
    subst (λ (xs : List ℕ). IsRound m xs old new any) c.deref.ensures.value c.in_ok-forbid_leaving.ensures.round in
    record {
      sizes = IsPruned.sizes c.in_ok-forbid_closed.ensures;
      keeps = IsPruned.keeps c.in_ok-forbid_closed.ensures
          (round_keeps m c.loop-changed.parts.items old new any r c.known.ensures.mdp a.parts a.keeps);
      parts = c.in_ok-parts-2.ensures;
    }

pub ends_of-requires : goal.ends_of-requires
ends_of-requires c =
    let m = c.args.model.now in
    let a = c.loop-changed.invariant in
    let old = c.loop-changed.allowed in
    let new = c.forbid_leaving.new.allowed in
    let r : IsRound m c.deref.result.now old new false =
    subst (λ (b : Bool). IsRound m c.deref.result.now old new b) c.if-branch.false c.in_ok-forbid_leaving.ensures.round in
    subst (λ (xs : List ℕ). AreLastParts m new xs) (sym c.deref-2.ensures.value)
    (record {
      before = old;
      round = subst (λ (xs : List ℕ). IsRound m xs old new false) c.deref.ensures.value r;
      components = a.parts;
      keeps = a.keeps;
    })
