use Rattle.std.proofs.Common.{◌≡◌, ◌<◌, ◌∙◌, ◌∷◌, ◌++◌, [], List, ℕ, get_or, length, map, sym, ap, arith, Vec, Global}
use Rattle.std.proofs.lemmas.List.{get_or-map, map-set, length-map}
use Rattle.std.specs.Prelude.{slice_set}
use Rattle.mdp_rows.specs.declared.preds.Pred.{Pred}
use Rattle.mdp_policy_iteration.proofs.Pushing.{one_pushed}
use Rattle.mdp_policy_iteration.proofs.dependents.Dependents.push.Goals as goal

abbrev items_of : Vec Pred Global → List Pred
items_of list = list.items

pub loop-t-preserved : goal.loop-t-preserved
loop-t-preserved c =
    let t : ℕ = get_or c.args.nodes.now c.loop-t.t-index 0 in
    let lists = c.loop-t.self-inside.lists.items in
    let old = map items_of c.self.inside.lists.items in
    let low : t < length old = let k = c.requires c.loop-t.t-index 0 c.loop-t-test.true in let e : length old ≡ length c.args.self.now = ap length c.self.view_is in omega (arith, k, e) in
    let inside : t < length lists = omega (arith, low, c.loop-t.invariant.count, length-map lists items_of) in
    let was : c.index_mut.result.now.items ≡ get_or (map items_of lists) t [] = ap items_of c.index_mut.ensures.value ∙ sym (get_or-map items_of lists t c.index_mut.result.now [] inside) in
    one_pushed old (map items_of lists) _ c.args.dependent c.args.nodes.now c.loop-t.t-index c.loop-t.invariant c.loop-t-test.true low
    (map-set items_of lists t c.push.new.self ∙ ap (slice_set (map items_of lists) t) (c.in_ok-push.ensures.items ∙ ap (λ (ps : List Pred). ps ++ c.args.dependent ∷ []) was))
