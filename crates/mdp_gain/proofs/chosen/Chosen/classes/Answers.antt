use Rattle.std.proofs.Common.{◌≡◌, ◌∙◌, ℕ, List, length, sym, ap, subst, arith}
use Rattle.std.specs.Prelude.{slice_index}
use Rattle.mdp_graph.specs.Sets.{marked}
use Rattle.mdp_ends.specs.Walks.{AreComponents}
use Rattle.mdp_parts.specs.Allowed.{allowed_at}
use Rattle.mdp_unichain.specs.Classes.{leaves}
use Rattle.mdp_unichain.proofs.ClassesFound.{number-below, are_classes}
use Rattle.mdp_gain.specs.Code.{component_in, part_has}
use Rattle.mdp_gain.proofs.{Flagging.{all-below}, Given.{count-is, part-of}}
use Rattle.mdp_gain.proofs.chosen.Chosen.classes.Goals as goal

pub left-requires-clause-parts : goal.left-requires-clause-parts
left-requires-clause-parts c =
    ap (λ (xs : List ℕ). length xs) c.deref.ensures.value ∙ AreComponents.count (c.in_ok-parts.ensures {u = tt}) ∙ sym (count-is c.args.self.now.component)

pub left-requires-clause-below : goal.left-requires-clause-below
left-requires-clause-below c =
    all-below c.in_ok-parts.parts.items c.deref.result.now c.deref.ensures.value
    (λ s l. number-below c.in_ok-parts.parts.items (AreComponents.numbered (c.in_ok-parts.ensures {u = tt})) s l)

pub returns : goal.returns
returns c =
    let x = c.args.self.now.component in
    let policy = c.args.self.now.policy.now in
    let found = c.in_ok-parts.ensures {u = tt} in
    let parts : List ℕ = c.in_ok-parts.parts.items in
    let left = c.in_ok-left.left in
    are_classes x.dir x.model.now x.ends.now.parts x.number x.name (part-of x c.requires.given) policy c.args.self.now.is (allowed_at c.in_ok-allowed.allowed) (c.in_ok-allowed.ensures {u = tt}).taken parts found left
    (c.in_ok-left.ensures {u = tt}).count
    (λ s l.
    subst (λ (ps : List ℕ). marked left (slice_index parts s) ≡ part_has (component_in x) (leaves (component_in x) policy ps) ps (slice_index parts s)) c.deref.ensures.value
    ((c.in_ok-left.ensures {u = tt}).left (slice_index parts s)
    (let n = count-is x in let m = AreComponents.count found in let b = number-below parts (AreComponents.numbered found) s (omega (arith, l, n, m)) in omega (arith, b, n, m))))
