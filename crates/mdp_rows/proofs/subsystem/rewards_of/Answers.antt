use Rattle.std.proofs.{Common.{List, ◌++◌, ◌∷◌, [], sym, ap₂, ◌∙◌, arith}, lemmas.List.{take_more, take_all}}
use Rattle.mdp_math.specs.Rational.{ℚ}
use Rattle.mdp_math.proofs.Order.{0ℚ}
use Rattle.mdp_rows.proofs.CutModels.{rewards_each}
use Rattle.mdp_rows.proofs.subsystem.rewards_of.Goals as goal

pub loop-m-preserved : goal.loop-m-preserved
loop-m-preserved c =
    let n = rewards_each c.args.model.now c.args.s c.args.c c.known.ensures.model c.requires.state c.requires.choice in
    (c.in_ok-push.ensures {u = tt}).items ∙ ap₂ (λ (xs : List ℚ) (x : ℚ). xs ++ x ∷ []) c.loop-m.invariant c.reward.ensures
    ∙ sym (take_more _ c.loop-m.m 0ℚ (omega (arith, n)))

pub returns : goal.returns
returns c =
    let n = rewards_each c.args.model.now c.args.s c.args.c c.known.ensures.model c.requires.state c.requires.choice in
    c.loop-m.invariant ∙ take_all c.loop-m.m _ (omega (arith, n))
