use Rattle.std.proofs.Common.{arith, map, codes, get_or, ◌<◌, length}
use Rattle.mdp_num.specs.Value.{spelling}
use Rattle.mdp_spec.specs.Mdp.{choices_at, no_choice}
use Rattle.mdp_drn.proofs.TextWritten.Appending.{appending-done, appending-more, appending-start, front-more}
use Rattle.mdp_drn.proofs.TextWritten.TextsLeft.{separated-all, rewards-as_many, rewards-end, rewards-more}
use Rattle.mdp_drn.proofs.choice_text.push_rewards.Goals as goal

pub loop-m-init : goal.loop-m-init
loop-m-init c =
    rw (← separated-all (codes ", ") (map spelling (get_or (choices_at c.args.model.now c.args.s) c.args.c no_choice).rewards)) (appending-start _ _)

pub loop-m-preserved : goal.loop-m-preserved
loop-m-preserved c =
    let rewards = (get_or (choices_at c.args.model.now c.args.s) c.args.c no_choice).rewards in
    let many = rewards-as_many c.args.model.now c.known.ensures.model c.args.s c.args.c c.requires.state c.requires.choice in
    let lt : c.loop-m.m < length rewards = omega (arith, many) in
    appending-more _ _ _ _ _ _ _ c.loop-m.invariant (rewards-more rewards c.loop-m.m lt) c.in_ok-push_reward.ensures.text c.push_reward.ensures.front

pub returns-clause-text : goal.returns-clause-text
returns-clause-text c =
    let rewards = (get_or (choices_at c.args.model.now c.args.s) c.args.c no_choice).rewards in
    let many = rewards-as_many c.args.model.now c.known.ensures.model c.args.s c.args.c c.requires.state c.requires.choice in
    appending-done _ _ _ _ c.loop-m.invariant (rewards-end rewards c.loop-m.m (omega (arith, many)))

pub returns-in_err-push_reward-clause-front : goal.returns-in_err-push_reward-clause-front
returns-in_err-push_reward-clause-front c = front-more _ _ _ c.loop-m.invariant.front c.push_reward.ensures.front
