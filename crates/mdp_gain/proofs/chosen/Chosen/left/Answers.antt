use Rattle.std.proofs.{Common.{◌∙◌, Bool, List, length, map, refl, sym, ap, arith}, lemmas.List.FromFn.{length-map-range_with_len}, lemmas.Result.{IfOk-weaker}}
use Rattle.std.specs.List.{range_with_len}
use Rattle.mdp_unichain.specs.{Component.{count}, Classes.{leaves}}
use Rattle.mdp_gain.specs.Code.{component_in}
use Rattle.mdp_gain.proofs.{Flagging.{flagged-is}, Given.{count-is}}
use Rattle.mdp_gain.proofs.chosen.Chosen.left.Goals as goal

pub flagged_parts-requires-clause-flags : goal.flagged_parts-requires-clause-flags
flagged_parts-requires-clause-flags c =
    ap (λ (xs : List Bool). length xs) (c.deref.ensures.value ∙ c.in_ok-flags.ensures {u = tt}) ∙ length-map-range_with_len _ 0 _ ∙ sym c.requires.parts

pub flagged_parts-requires-clause-few : goal.flagged_parts-requires-clause-few
flagged_parts-requires-clause-few c = omega (arith, c.requires.parts, count-is c.args.self.now.component, c.args.self.now.component.mdp.few)

pub returns-clause-count : goal.returns-clause-count
returns-clause-count c = IfOk-weaker c.flagged_parts.result _ _ (λ marks h. h ∙ c.requires.parts) c.flagged_parts.ensures.count

pub returns-clause-left : goal.returns-clause-left
returns-clause-left c =
    let p = component_in c.args.self.now.component in
    IfOk-weaker c.flagged_parts.result _ _
    (λ marks h k l.
    flagged-is (map (leaves p c.args.self.now.policy.now c.args.parts.now) (range_with_len 0 (count p))) c.deref.result.now c.args.parts.now c.args.parts.now (count p) marks
    (c.deref.ensures.value ∙ c.in_ok-flags.ensures {u = tt}) refl c.requires.parts h k l) c.flagged_parts.ensures.flagged
