use Rattle.std.proofs.Common.{◌∙◌, ℕ, List, map, sym, ap}
use Rattle.std.specs.List.{range_with_len}
use Rattle.mdp_unichain.specs.{Component.{count}, Classes.{shares_part, is_in_changed_class}}
use Rattle.mdp_unichain.proofs.Picking.{IsFirst, none_changed, picked_class}
use Rattle.mdp_gain.specs.Code.{component_in}
use Rattle.mdp_gain.proofs.{Flagging.{find-first, find-none}, Given.{is-component}}
use Rattle.mdp_gain.proofs.chosen.Chosen.picked.Goals as goal

pub class_of-requires-clause-state : goal.class_of-requires-clause-state
class_of-requires-clause-state c =
    let p = component_in c.args.self.now.component in
    let classes = c.in_ok-classes.classes in
    IsFirst.below (find-first (is_in_changed_class p classes.parts.items classes.left c.in_ok-changed.changed) (count p) c.in-Some.t (sym c.in-Some.ensures))

pub returns-in-Some : goal.returns-in-Some
returns-in-Some c =
    let y = c.args.self.now in
    let p = component_in y.component in
    let classes = c.in_ok-classes.classes in
    picked_class p (is-component y.component c.requires.given) c.args.policy.now y.policy.now c.requires.policy y.is classes.parts.items classes.left (c.in_ok-classes.ensures {u = tt}) c.in_ok-changed.changed
    (c.in_ok-changed.ensures {u = tt}).changed c.in-Some.t
    (find-first (is_in_changed_class p classes.parts.items classes.left c.in_ok-changed.changed) (count p) c.in-Some.t (sym c.in-Some.ensures)) c.in_ok-class_of-in-Some.field-0
    (c.in_ok-class_of-in-Some.ensures {u = tt} ∙ ap (λ (ps : List ℕ). map (shares_part p ps c.in-Some.t) (range_with_len 0 (count p))) c.deref.ensures.value)

pub returns : goal.returns
returns c =
    let y = c.args.self.now in
    let p = component_in y.component in
    let classes = c.in_ok-classes.classes in
    none_changed p (is-component y.component c.requires.given) c.args.policy.now y.policy.now c.requires.policy y.is classes.parts.items classes.left (c.in_ok-classes.ensures {u = tt}) c.in_ok-changed.changed
    (c.in_ok-changed.ensures {u = tt}).changed
    (λ s l. find-none (is_in_changed_class p classes.parts.items classes.left c.in_ok-changed.changed) (count p) (sym c.in-None.ensures) s l)
