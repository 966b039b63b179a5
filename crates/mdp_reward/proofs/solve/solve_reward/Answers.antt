use Rattle.std.proofs.Common.{◌≡◌, ◌∙◌, ℕ, List, Option, Ok, Err, Result, length, sym, ap, subst}
use Rattle.mdp_math.specs.Rational.{ℚ}
use Rattle.mdp_spec.specs.Tree.{IsPolicy}
use Rattle.mdp_wide.specs.{Errors.{SolveError}, Term.{WideTerm}}
use Rattle.mdp_farkas.specs.{Verdict.{verdict_of}, Reward.{reward_checks}}
use Rattle.mdp_claims.specs.declared.verdict.Verdict.TheVariants.{Yes, No, Wide}
use Rattle.mdp_policy_iteration.specs.Queries.{Solves}
use Rattle.mdp_reward.specs.Query.{Answer, plain, rewards_of, AreRanks, EndsSo}
use Rattle.mdp_reward.proofs.{Nodes.{reward-count}, Values.{reward-nonneg}, Starts.{start-solvable, start-choices, start-finite, start-known}}
use Rattle.mdp_reward.proofs.{Kept.{found-policy}, Certificate.{rewards-len}}
use Rattle.mdp_reward.proofs.Answering.{pass_laws, meets-reward, ranks-count, ends-refused, ends-answered, ends-wide}
use Rattle.mdp_reward.proofs.solve.solve_reward.Goals.{After-cert-2-1}
use Rattle.mdp_farkas.proofs.RewardRules.{reward_never_no}
use Rattle.mdp_reward.proofs.solve.solve_reward.Goals as goal

pub invariant_of-problem : goal.invariant_of-problem
invariant_of-problem c = record {
  named = c.requires.name;
  goals_each = c.requires.goals;
  finite_each = start-finite c.args.dir c.args.model.now c.args.goals.now c.in_ok-start.start.finite c.in_ok-start.start.policy.items c.in_ok-start.start.known.items c.known.ensures.mdp
      (c.in_ok-start.ensures {u = tt});
}

pub improve-requires : goal.improve-requires
improve-requires c =
    start-solvable c.args.dir c.args.model.now c.args.m c.args.goals.now c.in_ok-start.start.finite c.in_ok-start.start.policy.items c.in_ok-start.start.known.items c.known.ensures.mdp
    c.requires.none_negative c.sure_all_law.ensures.stays
    c.meet_law.ensures.rest (c.in_ok-start.ensures {u = tt})

pub returns-in-Err-clause-path : goal.returns-in-Err-clause-path
returns-in-Err-clause-path c =
    subst (λ (e : SolveError). Solves plain (EndsSo c.args.dir c.args.model.now c.args.m c.args.goals.now) (Err e)) (sym c.in_part.ensures)
    (ends-refused c.args.dir c.args.model.now c.args.m c.args.goals.now c.in_ok-start.start.finite c.in_ok-start.start.policy.items c.in_ok-start.start.known.items
    (c.in_ok-start.ensures {u = tt}) c.in-Err.error
    (c.in-Err.ensures {u = tt}).path)

pub ranks_of-requires-clause-known : goal.ranks_of-requires-clause-known
ranks_of-requires-clause-known c =
    start-known c.args.dir c.args.model.now c.args.goals.now c.in_ok-start.start.finite c.in_ok-start.start.policy.items c.in_ok-start.start.known.items c.known.ensures.mdp
    (c.in_ok-start.ensures {u = tt})

pub ranks_of-requires-clause-policy : goal.ranks_of-requires-clause-policy
ranks_of-requires-clause-policy c =
    subst (λ (policy : List ℕ). IsPolicy c.args.model.now policy) (sym c.deref.ensures.value)
    (found-policy c.args.dir c.args.model.now c.args.m c.args.goals.now c.in_ok-start.start.finite c.in_ok-start.start.policy.items c.in-Ok.found.policy.items c.in-Ok.found.values.items
    (start-choices c.args.dir c.args.model.now c.args.goals.now c.in_ok-start.start.finite c.in_ok-start.start.policy.items c.in_ok-start.start.known.items c.known.ensures.mdp
    (c.in_ok-start.ensures {u = tt})) (c.in-Ok.ensures {u = tt}).best)

pub rewards_of-requires-clause-values : goal.rewards_of-requires-clause-values
rewards_of-requires-clause-values c =
    ap length c.deref-2.ensures.value ∙ (c.in-Ok.ensures {u = tt}).best.best.values.len ∙ reward-count c.args.dir c.args.model.now c.args.m c.args.goals.now c.in_ok-start.start.finite

pub holds_reward-requires-clause-values : goal.holds_reward-requires-clause-values
holds_reward-requires-clause-values c =
    ap length (c.in_ok-rewards_of.ensures {u = tt}) ∙ rewards-len c.args.model.now c.args.goals.now c.in_ok-start.start.finite c.deref-2.result.now

pub holds_reward-requires-clause-choices : goal.holds_reward-requires-clause-choices
holds_reward-requires-clause-choices c = (c.in-Ok.ensures {u = tt}).best.best.is.one_each ∙ reward-count c.args.dir c.args.model.now c.args.m c.args.goals.now c.in_ok-start.start.finite

pub holds_reward-requires-clause-ranks : goal.holds_reward-requires-clause-ranks
holds_reward-requires-clause-ranks c =
    ranks-count c.args.dir c.args.model.now c.args.goals.now c.in_ok-start.start.finite c.in_ok-start.start.known.items c.deref.result.now c.in_ok-ranks.ranks.items
    (start-known c.args.dir c.args.model.now c.args.goals.now c.in_ok-start.start.finite c.in_ok-start.start.policy.items c.in_ok-start.start.known.items c.known.ensures.mdp
    (c.in_ok-start.ensures {u = tt})) (c.in_ok-ranks.ensures {u = tt})

-- the certificate has the ranks of what was found
are_ranks : (c : After-cert-2-1) → AreRanks c.args.dir c.args.model.now c.args.goals.now c.in_ok-start.start.finite c.in_ok-start.start.known.items c.in-Ok.found.policy.items c.in_ok-ranks.ranks.items
are_ranks c =
    subst (λ (policy : List ℕ). AreRanks c.args.dir c.args.model.now c.args.goals.now c.in_ok-start.start.finite c.in_ok-start.start.known.items policy c.in_ok-ranks.ranks.items)
    c.deref.ensures.value (c.in_ok-ranks.ensures {u = tt})

pub returns-in-Yes-clause-path : goal.returns-in-Yes-clause-path
returns-in-Yes-clause-path c =
    let values = c.in_ok-rewards_of.ensures {u = tt} ∙ ap (rewards_of c.args.model.now c.in_ok-start.start.finite) c.deref-2.ensures.value in
    let end = (c.in-Ok.ensures {u = tt}).path in
    subst (λ (v : List (Option ℚ)). EndsSo c.args.dir c.args.model.now c.args.m c.args.goals.now
    (let a : Result Answer WideTerm = Ok (record { values = v; choices = c.in-Ok.found.policy.items; ranks = c.in_ok-ranks.ranks.items }) in a)) (sym values)
    (ends-answered c.args.dir c.args.model.now c.args.m c.args.goals.now c.in_ok-start.start.finite c.in_ok-start.start.policy.items c.in_ok-start.start.known.items (c.in_ok-start.ensures {u = tt})
    end.0 c.in-Ok.found.policy.items c.in_ok-ranks.ranks.items c.in-Ok.found.values.items end.2
    (are_ranks (goal.at.returns-in-Yes-clause-path c).After-cert-2-1)
    (subst (λ (v : List (Option ℚ)). Yes ≡ verdict_of (reward_checks c.args.dir c.args.model.now c.args.m c.args.goals.now v c.in-Ok.found.policy.items c.in_ok-ranks.ranks.items))
    values (sym c.in-Yes.is ∙ c.holds_reward.ensures.verdict)))

pub returns-in-Yes-clause-each : goal.returns-in-Yes-clause-each
returns-in-Yes-clause-each c = record {
  values = ap length (c.in_ok-rewards_of.ensures {u = tt}) ∙ rewards-len c.args.model.now c.args.goals.now c.in_ok-start.start.finite c.deref-2.result.now;
  choices = (c.in-Ok.ensures {u = tt}).best.best.is.one_each ∙ reward-count c.args.dir c.args.model.now c.args.m c.args.goals.now c.in_ok-start.start.finite;
  ranks = ranks-count c.args.dir c.args.model.now c.args.goals.now c.in_ok-start.start.finite c.in_ok-start.start.known.items c.deref.result.now c.in_ok-ranks.ranks.items
      (start-known c.args.dir c.args.model.now c.args.goals.now c.in_ok-start.start.finite c.in_ok-start.start.policy.items c.in_ok-start.start.known.items c.known.ensures.mdp
      (c.in_ok-start.ensures {u = tt})) (c.in_ok-ranks.ensures {u = tt});
}

pub unreachable-requires : goal.unreachable-requires
unreachable-requires c =
    let values = c.in_ok-rewards_of.ensures {u = tt} ∙ ap (rewards_of c.args.model.now c.in_ok-start.start.finite) c.deref-2.ensures.value in
    reward_never_no c.args.model.now c.args.m c.args.goals.now (rewards_of c.args.model.now c.in_ok-start.start.finite c.in-Ok.found.values.items) c.in-Ok.found.policy.items c.in_ok-ranks.ranks.items
    (λ s k. reward-nonneg c.args.model.now c.args.m c.requires.none_negative s k) c.args.dir
    (meets-reward c.args.dir c.args.model.now c.args.m c.args.goals.now c.in_ok-start.start.finite c.in_ok-start.start.policy.items c.in_ok-start.start.known.items
    c.in-Ok.found.policy.items c.in_ok-ranks.ranks.items c.in-Ok.found.values.items
    (record { model = c.known.ensures.mdp; named = c.requires.name; none_negative = c.requires.none_negative })
    (pass_laws c.sure_all_law.ensures.stays c.meet_law.ensures.rest c.along_law.ensures.falls c.along_law.ensures.rest c.rounds_law.ensures.fall c.rounds_law.ensures.zero)
    (c.in_ok-start.ensures {u = tt}) (c.in-Ok.ensures {u = tt}).best (are_ranks (goal.at.unreachable-requires c).After-cert-2-1))
    c.in-No.field-0
    (subst (λ (v : List (Option ℚ)). verdict_of (reward_checks c.args.dir c.args.model.now c.args.m c.args.goals.now v c.in-Ok.found.policy.items c.in_ok-ranks.ranks.items) ≡ No c.in-No.field-0)
    values (sym c.holds_reward.ensures.verdict ∙ c.in-No.is))

pub returns-clause-path : goal.returns-clause-path
returns-clause-path c =
    let values = c.in_ok-rewards_of.ensures {u = tt} ∙ ap (rewards_of c.args.model.now c.in_ok-start.start.finite) c.deref-2.ensures.value in
    let end = (c.in-Ok.ensures {u = tt}).path in (
      end.0,
      end.1,
      ends-wide c.args.dir c.args.model.now c.args.m c.args.goals.now c.in_ok-start.start.finite c.in_ok-start.start.policy.items c.in_ok-start.start.known.items (c.in_ok-start.ensures {u = tt})
          end.0 c.in-Ok.found.policy.items c.in_ok-ranks.ranks.items c.in-Ok.found.values.items end.2
          (are_ranks (goal.at.returns-clause-path c).After-cert-2-1) c.in-Wide.state c.in-Wide.choice
          (subst (λ (v : List (Option ℚ)). Wide c.in-Wide.state c.in-Wide.choice
          ≡ verdict_of (reward_checks c.args.dir c.args.model.now c.args.m c.args.goals.now v c.in-Ok.found.policy.items c.in_ok-ranks.ranks.items))
          values (sym c.in-Wide.is ∙ c.holds_reward.ensures.verdict)),
    )

pub start_of-requires : goal.start_of-requires
start_of-requires c = c.requires.goals

pub ranks_of-requires-clause-goals : goal.ranks_of-requires-clause-goals
ranks_of-requires-clause-goals c = c.requires.goals

pub holds_reward-requires-clause-goals : goal.holds_reward-requires-clause-goals
holds_reward-requires-clause-goals c = c.requires.goals

pub holds_reward-requires-clause-name : goal.holds_reward-requires-clause-name
holds_reward-requires-clause-name c = c.requires.name

pub returns-in-Yes-clause-max : goal.returns-in-Yes-clause-max
returns-in-Yes-clause-max c = λ e. let h = c.holds_reward.ensures.max e in rw c.in-Yes.is at h

pub returns-in-Yes-clause-min : goal.returns-in-Yes-clause-min
returns-in-Yes-clause-min c = λ e. let h = c.holds_reward.ensures.min e in rw c.in-Yes.is at h

pub ranks_of-requires-clause-finite : goal.ranks_of-requires-clause-finite
ranks_of-requires-clause-finite c =
    start-finite c.args.dir c.args.model.now c.args.goals.now c.in_ok-start.start.finite c.in_ok-start.start.policy.items c.in_ok-start.start.known.items c.known.ensures.mdp
    (c.in_ok-start.ensures {u = tt})
