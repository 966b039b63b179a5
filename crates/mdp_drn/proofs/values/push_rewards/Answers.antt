use Rattle.std.proofs.{Common.{sym, ◌∙◌, ap, subst, List, ℕ}, lemmas.Result.{err_from_is_err_and}}
use Rattle.mdp_drn.specs.Values.{reward_of}
use Rattle.mdp_drn.proofs.LinesRead.RewardsFrom.{RewardsFrom, texts_of, texts-at, texts-none, all_done, one_done, one_fails}
use Rattle.mdp_drn.proofs.values.push_rewards.Goals as goal

pub returns-in_err-reward : goal.returns-in_err-reward
returns-in_err-reward c =
    let p = err_from_is_err_and c.from_residual.result c.from_residual.ensures.1 in
    let all = texts_of c.args.texts.now in
    rw (p.1, p.2) (one_fails all _ _ c.loop-text.rewards.items c.in_err-reward.field-0.0 (ap reward_of (sym c.trim.ensures) ∙ sym c.in_err-reward.ensures)
    (subst (λ (texts : List (List ℕ)). RewardsFrom all texts c.loop-text.rewards.items) (texts-at c.args.texts.now c.loop-text.text-index _ c.loop-text-test.true) c.loop-text.invariant))

pub loop-text-preserved : goal.loop-text-preserved
loop-text-preserved c =
    let all = texts_of c.args.texts.now in
    rw c.in_ok-push.ensures.items
    (one_done all _ _ c.loop-text.rewards.items c.in_ok-reward.reward (ap reward_of (sym c.trim.ensures) ∙ sym c.in_ok-reward.ensures)
    (subst (λ (texts : List (List ℕ)). RewardsFrom all texts c.loop-text.rewards.items) (texts-at c.args.texts.now c.loop-text.text-index _ c.loop-text-test.true) c.loop-text.invariant))

pub returns : goal.returns
returns c =
    all_done (texts_of c.args.texts.now) c.loop-text.rewards.items
    (subst (λ (texts : List (List ℕ)). RewardsFrom (texts_of c.args.texts.now) texts c.loop-text.rewards.items)
    (texts-none c.args.texts.now c.loop-text.text-index c.loop-text-test.false) c.loop-text.invariant)
