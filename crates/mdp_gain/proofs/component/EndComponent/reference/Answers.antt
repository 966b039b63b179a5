use Rattle.std.proofs.Common.{◌∙◌, ℕ, Option, sym, ap, subst}
use Rattle.std.specs.Option.{unwrap_or}
use Rattle.mdp_unichain.specs.{Chain.{IsReference}, Component.{count, is_state, row_by}, Classes.{is_in_class}}
use Rattle.mdp_unichain.proofs.Picking.{some_in_class, reference-first}
use Rattle.mdp_gain.specs.Code.{component_in}
use Rattle.mdp_gain.proofs.{Flagging.{find-or}, Given.{is-component}}
use Rattle.mdp_gain.proofs.component.EndComponent.reference.Goals as goal

pub returns : goal.returns
returns c =
    let x = c.args.self.now in
    let p = component_in x in
    let known = is-component x c.requires.given in
    let classes = c.in_ok-classes.classes in
    let a = c.in_ok-classes.ensures {u = tt} in
    let one = c.requires.start.reference in
    let leads = IsReference.leads one.1 in
    let s = some_in_class p known c.args.policy.now c.requires.start.is classes.parts.items classes.left a one.0 leads in
    subst (λ (t : ℕ). IsReference (is_state p) (row_by p c.args.policy.now) t) (sym (c.unwrap_or.ensures ∙ ap (λ (o : Option ℕ). unwrap_or o 0) c.least_in_class.ensures))
    (reference-first p known c.args.policy.now c.requires.start.is classes.parts.items classes.left a one.0 leads _
    (find-or (is_in_class p classes.parts.items classes.left) (count p) s.0 0 s.1 s.2))
