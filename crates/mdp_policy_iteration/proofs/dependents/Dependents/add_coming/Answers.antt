use Rattle.std.proofs.{Common.{◌≡◌, ◌<◌, ◌≤◌, ◌∙◌, List, [], get_or, length, ap, subst, arith}, lemmas.List.{get_or_default}}
use Rattle.mdp_rows.specs.declared.preds.Pred.{Pred}
use Rattle.mdp_policy_iteration.specs.Marked.{is_taker, AreAdded}
use Rattle.mdp_policy_iteration.proofs.Searching.{search-in_range, searched-one, searched-all}
use Rattle.mdp_policy_iteration.proofs.dependents.Dependents.add_coming.Goals as goal

pub of-requires : goal.of-requires
of-requires c =
    let h : c.loop-next.next < length c.loop-next.found.items = omega arith in
    let is : c.index-t.result.now ≡ get_or c.loop-next.found.items c.loop-next.next 0 = c.index-t.ensures ∙ get_or_default _ _ _ 0 h in
    let low = search-in_range _ _ _ _ _ _ _ c.loop-next.invariant h in
    omega (arith, is, low, c.requires.count)

pub loop-next-preserved : goal.loop-next-preserved
loop-next-preserved c =
    let h : c.loop-next.next < length c.loop-next.found.items = omega arith in
    let is : c.index-t.result.now ≡ get_or c.loop-next.found.items c.loop-next.next 0 = c.index-t.ensures ∙ get_or_default _ _ _ 0 h in
    searched-one c.args.self.now c.args.policy.now c.args.found.now.items (length c.args.marks.now) c.loop-next.next c.loop-next.marks c.add_takers.new.marks
    c.loop-next.found.items c.add_takers.new.found.items c.loop-next.invariant h
    (subst (λ (choices : List Pred). AreAdded (is_taker c.args.policy.now choices) c.loop-next.marks c.add_takers.new.marks c.loop-next.found.items c.add_takers.new.found.items)
    (c.of.ensures ∙ ap (λ k. get_or c.args.self.now k []) is) (c.in_ok-add_takers.ensures {u = tt}))

pub returns-clause-coming : goal.returns-clause-coming
returns-clause-coming c =
    let h : length c.loop-next.found.items ≤ c.loop-next.next = omega arith in
    searched-all c.args.self.now c.args.policy.now c.args.found.now.items (length c.args.marks.now) c.loop-next.next c.loop-next.marks c.loop-next.found.items c.loop-next.invariant h
