use Rattle.std.proofs.{Common.{◌≤◌, Bool, ◌||◌, length, get_or, sym, ap, ◌∙◌}, lemmas.List.{take_all}, lemmas.List.Folds.{list_any_at, list_any_more}}
use Rattle.std.specs.List.{list_any}
use Rattle.mdp_farkas.proofs.targets.some_passes.Goals as goal

pub returns-then-passes : goal.returns-then-passes
returns-then-passes g c = sym (list_any_at (g.T.StateTest.test c.args.test) c.args.targets.now c.loop-t.t-index 0 c.loop-t-test.true (sym c.passes.ensures ∙ c.if-passes.true))

pub loop-t-preserved : goal.loop-t-preserved
loop-t-preserved g c =
    let p = g.T.StateTest.test c.args.test in
    list_any_more p c.args.targets.now c.loop-t.t-index 0 c.loop-t-test.true
    ∙ ap (λ (b : Bool). b || p (get_or c.args.targets.now c.loop-t.t-index 0)) c.loop-t.invariant
    ∙ sym c.passes.ensures
    ∙ c.if-passes.false

pub returns : goal.returns
returns g c =
    let p = g.T.StateTest.test c.args.test in
    let past : length c.args.targets.now ≤ c.loop-t.t-index = c.loop-t-test.false in
    sym (ap (list_any p) (sym (take_all c.loop-t.t-index c.args.targets.now past)) ∙ c.loop-t.invariant)
