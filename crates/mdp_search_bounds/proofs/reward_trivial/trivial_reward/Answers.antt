use Rattle.std.proofs.Common.{◌∙◌, ℕ, List, Option, length, ap, sym, subst}
use Rattle.mdp_math.specs.Rational.{ℚ}
use Rattle.mdp_spec.specs.{Mdp.{states_of}, Tree.{IsPolicy}}
use Rattle.mdp_bounds.specs.Reward.{IsTrivialReward}
use Rattle.mdp_reward.specs.Query.{AreRanks}
use Rattle.mdp_reward.proofs.{Starts.{start-choices, start-finite, start-known}, Answering.{pass_laws, ranks-count}}
use Rattle.mdp_search_bounds.specs.Values.{zeros_of}
use Rattle.mdp_search_bounds.proofs.{Zeros.{zeros-len}, TrivialBounds.{reward-trivial}, Accepted.{reward-accepted}}
use Rattle.mdp_search_bounds.proofs.reward_trivial.trivial_reward.Goals as goal

pub ranks_of-requires-clause-finite : goal.ranks_of-requires-clause-finite
ranks_of-requires-clause-finite c =
    start-finite c.args.dir c.args.model.now c.args.goals.now c.in_ok-start.start.finite c.in_ok-start.start.policy.items c.in_ok-start.start.known.items c.known.ensures.mdp
    (c.in_ok-start.ensures {u = tt})

pub ranks_of-requires-clause-known : goal.ranks_of-requires-clause-known
ranks_of-requires-clause-known c =
    start-known c.args.dir c.args.model.now c.args.goals.now c.in_ok-start.start.finite c.in_ok-start.start.policy.items c.in_ok-start.start.known.items c.known.ensures.mdp
    (c.in_ok-start.ensures {u = tt})

pub ranks_of-requires-clause-policy : goal.ranks_of-requires-clause-policy
ranks_of-requires-clause-policy c =
    subst (λ (policy : List ℕ). IsPolicy c.args.model.now policy) (sym c.deref.ensures.value)
    (start-choices c.args.dir c.args.model.now c.args.goals.now c.in_ok-start.start.finite c.in_ok-start.start.policy.items c.in_ok-start.start.known.items c.known.ensures.mdp
    (c.in_ok-start.ensures {u = tt}))

pub zeros_of-requires : goal.zeros_of-requires
zeros_of-requires c =
    start-finite c.args.dir c.args.model.now c.args.goals.now c.in_ok-start.start.finite c.in_ok-start.start.policy.items c.in_ok-start.start.known.items c.known.ensures.mdp
    (c.in_ok-start.ensures {u = tt})
    ∙ sym c.states.ensures

pub returns-clause-lower : goal.returns-clause-lower
returns-clause-lower c =
    ap length (c.in_ok-lower.ensures {u = tt} ∙ ap (λ (n : ℕ). zeros_of n c.in_ok-start.start.finite) c.states.ensures) ∙ zeros-len c.args.model.now c.in_ok-start.start.finite

pub returns-clause-upper : goal.returns-clause-upper
returns-clause-upper c =
    ap length (c.in_ok-upper.ensures {u = tt} ∙ ap (λ (n : ℕ). zeros_of n c.args.goals.now) c.states-2.ensures) ∙ zeros-len c.args.model.now c.args.goals.now

pub returns-clause-choices : goal.returns-clause-choices
returns-clause-choices c =
    (start-choices c.args.dir c.args.model.now c.args.goals.now c.in_ok-start.start.finite c.in_ok-start.start.policy.items c.in_ok-start.start.known.items c.known.ensures.mdp
    (c.in_ok-start.ensures {u = tt})).one_each

pub returns-clause-ranks : goal.returns-clause-ranks
returns-clause-ranks c =
    ranks-count c.args.dir c.args.model.now c.args.goals.now c.in_ok-start.start.finite c.in_ok-start.start.known.items c.deref.result.now c.in_ok-ranks.ranks.items
    (start-known c.args.dir c.args.model.now c.args.goals.now c.in_ok-start.start.finite c.in_ok-start.start.policy.items c.in_ok-start.start.known.items c.known.ensures.mdp
    (c.in_ok-start.ensures {u = tt})) (c.in_ok-ranks.ensures {u = tt})

pub returns-clause-trivial : goal.returns-clause-trivial
returns-clause-trivial c =
    let m = c.args.model.now in
    let goals = c.args.goals.now in
    let finite = c.in_ok-start.start.finite in
    let start = c.in_ok-start.start.policy.items in
    let known = c.in_ok-start.start.known.items in
    let ranks = c.in_ok-ranks.ranks.items in
    let are : AreRanks c.args.dir m goals finite known start ranks =
    subst (λ (policy : List ℕ). AreRanks c.args.dir m goals finite known policy ranks) c.deref.ensures.value (c.in_ok-ranks.ensures {u = tt}) in
    let low = c.in_ok-lower.ensures {u = tt} ∙ ap (λ (n : ℕ). zeros_of n finite) c.states.ensures in
    let high = c.in_ok-upper.ensures {u = tt} ∙ ap (λ (n : ℕ). zeros_of n goals) c.states-2.ensures in
    let both =
    reward-trivial c.args.dir m c.args.name goals finite start known ranks c.known.ensures.mdp c.requires.none_negative
    (pass_laws c.sure_all_law.ensures.stays c.meet_law.ensures.rest c.along_law.ensures.falls c.along_law.ensures.rest c.rounds_law.ensures.fall c.rounds_law.ensures.zero)
    (c.in_ok-start.ensures {u = tt}) are in
    subst (λ (v : List (Option ℚ)). IsTrivialReward c.args.dir m c.args.name goals v c.in_ok-upper.upper.items start ranks) (sym low)
    (subst (λ (v : List (Option ℚ)). IsTrivialReward c.args.dir m c.args.name goals (zeros_of (states_of m) finite) v start ranks) (sym high) both)

pub returns-clause-accepted : goal.returns-clause-accepted
returns-clause-accepted c =
    reward-accepted c.args.dir c.args.model.now c.args.name c.args.goals.now c.in_ok-lower.lower.items c.in_ok-upper.upper.items c.in_ok-start.start.policy.items c.in_ok-ranks.ranks.items
    c.known.ensures.mdp c.requires.name (returns-clause-lower c) (returns-clause-upper c) (returns-clause-trivial c)
