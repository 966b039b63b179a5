use Rattle.std.proofs.Common.{ap, ap₂}
use Rattle.mdp_cert.specs.Cert.{upper, reach, until, reward, mean, witness}
use Rattle.mdp_cert.proofs.claim_line.owned_claim.Goals as goal

pub returns-in_ok-label-in-Upper : goal.returns-in_ok-label-in-Upper
returns-in_ok-label-in-Upper c = rw c.in-Upper.is (ap (λ l. upper l) c.in_ok-label-in-Upper.ensures.items)

pub returns-in_ok-label-in-Reach : goal.returns-in_ok-label-in-Reach
returns-in_ok-label-in-Reach c = rw c.in-Reach.is (ap (λ l. reach c.in-Reach.dir l) c.in_ok-label-in-Reach.ensures.items)

pub returns-in_ok-label-in-Until : goal.returns-in_ok-label-in-Until
returns-in_ok-label-in-Until c = rw c.in-Until.is (ap₂ (λ n l. until c.in-Until.dir n l) c.in_ok-stay-in-Until.ensures.items c.in_ok-label-in-Until.ensures.items)

pub returns-in_ok-label-in-Reward : goal.returns-in_ok-label-in-Reward
returns-in_ok-label-in-Reward c =
    rw c.in-Reward.is (ap₂ (λ n l. reward c.in-Reward.dir n l) c.in_ok-name-in-Reward.ensures.items c.in_ok-label-in-Reward.ensures.items)

pub returns-in_ok-name-in-Mean : goal.returns-in_ok-name-in-Mean
returns-in_ok-name-in-Mean c = rw c.in-Mean.is (ap (λ n. mean c.in-Mean.dir n) c.in_ok-name-in-Mean.ensures.items)

pub returns-in_ok-label-in-Witness : goal.returns-in_ok-label-in-Witness
returns-in_ok-label-in-Witness c =
    rw c.in-Witness.is (ap₂ (λ s l. witness c.in-Witness.dir s l c.in-Witness.threshold) c.in_ok-stay-in-Witness.ensures c.in_ok-label-in-Witness.ensures.items)
