use Rattle.std.proofs.{Common.{◌≤◌, Bool, ◌&&◌, length, get_or, sym, ap, ◌∙◌}, lemmas.List.{take_all}, lemmas.List.Folds.{list_all_at, list_all_more}}
use Rattle.std.specs.List.{list_all}
use Rattle.mdp_farkas.proofs.targets.all_pass.Goals as goal

pub returns-then-not-passes : goal.returns-then-not-passes
returns-then-not-passes g c = sym (list_all_at (g.T.StateTest.test c.args.test) c.args.targets.now c.loop-t.t-index 0 c.loop-t-test.true (sym c.passes.ensures ∙ c.if-not-passes.true))

pub loop-t-preserved : goal.loop-t-preserved
loop-t-preserved g c =
    let p = g.T.StateTest.test c.args.test in
    list_all_more p c.args.targets.now c.loop-t.t-index 0 c.loop-t-test.true
    ∙ ap (λ (b : Bool). b && p (get_or c.args.targets.now c.loop-t.t-index 0)) c.loop-t.invariant
    ∙ sym c.passes.ensures
    ∙ c.if-not-passes.false

pub returns : goal.returns
returns g c =
    let p = g.T.StateTest.test c.args.test in
    let past : length c.args.targets.now ≤ c.loop-t.t-index = c.loop-t-test.false in
    sym (ap (list_all p) (sym (take_all c.loop-t.t-index c.args.targets.now past)) ∙ c.loop-t.invariant)
