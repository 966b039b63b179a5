use Rattle.std.proofs.{Common.{◌∙◌, ℕ, Bool, List, length, sym, ap, arith}, lemmas.List.FromFn.{length-map-range_with_len}, lemmas.Result.{IfOk-weaker}}
use Rattle.mdp_unichain.specs.{Component.{IsPolicy}, Classes.{AreClasses}}
use Rattle.mdp_gain.specs.Code.{component_in}
use Rattle.mdp_gain.proofs.{Flagging.{all-below, changed-is}, Given.{count-is}}
use Rattle.mdp_gain.proofs.chosen.Chosen.changed.Goals as goal

pub flagged_parts-requires-clause-flags : goal.flagged_parts-requires-clause-flags
flagged_parts-requires-clause-flags c =
    ap (λ (xs : List Bool). length xs) (c.deref.ensures.value ∙ c.in_ok-flags.ensures {u = tt}) ∙ length-map-range_with_len _ 0 _ ∙ IsPolicy.len c.requires.policy
    ∙ sym (ap (λ (xs : List ℕ). length xs) c.deref-2.ensures.value ∙ AreClasses.count_parts c.requires.are)

pub flagged_parts-requires-clause-parts : goal.flagged_parts-requires-clause-parts
flagged_parts-requires-clause-parts c =
    let n = AreClasses.count_parts c.requires.are in
    all-below c.args.classes.now.parts.items c.deref-2.result.now c.deref-2.ensures.value (λ s l. let b = AreClasses.below c.requires.are s (omega arith) in omega (arith, n, b))

pub flagged_parts-requires-clause-few : goal.flagged_parts-requires-clause-few
flagged_parts-requires-clause-few c =
    let n = ap (λ (xs : List ℕ). length xs) c.deref-2.ensures.value in
    let m = AreClasses.count_parts c.requires.are in
    omega (arith, n, m, count-is c.args.self.now.component, c.args.self.now.component.mdp.few)

pub returns-clause-count : goal.returns-clause-count
returns-clause-count c =
    IfOk-weaker c.flagged_parts.result _ _ (λ changed h. h ∙ ap (λ (xs : List ℕ). length xs) c.deref-2.ensures.value ∙ AreClasses.count_parts c.requires.are) c.flagged_parts.ensures.count

pub returns-clause-changed : goal.returns-clause-changed
returns-clause-changed c =
    let y = c.args.self.now in
    let classes = c.args.classes.now in
    IfOk-weaker c.flagged_parts.result _ _
    (λ changed h s l.
    changed-is (component_in y.component) c.args.policy.now y.policy.now classes.parts.items c.deref-2.result.now classes.left changed c.deref.result.now c.requires.are
    (IsPolicy.len c.requires.policy) (c.deref.ensures.value ∙ c.in_ok-flags.ensures {u = tt}) c.deref-2.ensures.value h s l) c.flagged_parts.ensures.flagged
