use Rattle.std.proofs.Common.{◌∙◌, ℕ, List, Err, length, sym, ap, subst}
use Rattle.mdp_spec.specs.Tree.{IsPolicy}
use Rattle.mdp_wide.specs.Errors.{SolveError}
use Rattle.mdp_math.specs.Rational.{ℚ}
use Rattle.mdp_reach.specs.{Query.{AreRanks}, Round.{SolvesToEnd}}
use Rattle.mdp_reach.proofs.{Nodes.{reach-count}, Starts.{start-solvable, start-choices, start-marks}, Kept.{found-policy}}
use Rattle.mdp_reach.proofs.{Answering.{meets-reach, ranks-count, ends-refused, ends-answered, ends-wide}, solve.solve_reach_to_end.Goals.{After-cert-1}}
use Rattle.mdp_farkas.proofs.ReachRules.{reach_never_no}
use Rattle.mdp_reach.proofs.solve.solve_reach_to_end.Goals as goal

pub invariant_of-problem : goal.invariant_of-problem
invariant_of-problem c = record {
  goals_each = c.requires;
  marks_each = start-marks c.args.dir c.args.model.now c.args.goals.now c.in_ok-start.start.marks c.in_ok-start.start.choices.items (c.in_ok-start.ensures {u = tt});
}

pub improve-requires : goal.improve-requires
improve-requires c =
    start-solvable c.args.dir c.args.model.now c.args.goals.now c.in_ok-start.start.marks c.in_ok-start.start.choices.items c.known.ensures.mdp c.avoid_law.ensures.rest
    (c.in_ok-start.ensures {u = tt})

pub returns-in-Err-clause-path : goal.returns-in-Err-clause-path
returns-in-Err-clause-path c =
    subst (λ (e : SolveError). SolvesToEnd c.args.dir c.args.model.now c.args.goals.now (Err e)) (sym c.in_part.ensures)
    (ends-refused c.args.dir c.args.model.now c.args.goals.now c.in_ok-start.start.marks c.in_ok-start.start.choices.items (c.in_ok-start.ensures {u = tt}) c.in-Err.error
    (c.in-Err.ensures {u = tt}).path)

pub ranks_of-requires-clause-policy : goal.ranks_of-requires-clause-policy
ranks_of-requires-clause-policy c =
    subst (λ (policy : List ℕ). IsPolicy c.args.model.now policy) (sym c.deref.ensures.value)
    (found-policy c.args.dir c.args.model.now c.args.goals.now c.in_ok-start.start.marks c.in_ok-start.start.choices.items c.in-Ok.found.policy.items c.in-Ok.found.values.items
    (start-choices c.args.dir c.args.model.now c.args.goals.now c.in_ok-start.start.marks c.in_ok-start.start.choices.items (c.in_ok-start.ensures {u = tt})) (c.in-Ok.ensures {u = tt}).best)

pub ranks_of-requires-clause-values : goal.ranks_of-requires-clause-values
ranks_of-requires-clause-values c =
    ap length c.deref-2.ensures.value ∙ (c.in-Ok.ensures {u = tt}).best.best.values.len ∙ reach-count c.args.dir c.args.model.now c.args.goals.now c.in_ok-start.start.marks

pub holds_reach-requires-clause-values : goal.holds_reach-requires-clause-values
holds_reach-requires-clause-values c = (c.in-Ok.ensures {u = tt}).best.best.values.len ∙ reach-count c.args.dir c.args.model.now c.args.goals.now c.in_ok-start.start.marks

pub holds_reach-requires-clause-choices : goal.holds_reach-requires-clause-choices
holds_reach-requires-clause-choices c = (c.in-Ok.ensures {u = tt}).best.best.is.one_each ∙ reach-count c.args.dir c.args.model.now c.args.goals.now c.in_ok-start.start.marks

-- the certificate has the ranks of what was found
are_ranks : (c : After-cert-1) → AreRanks c.args.dir c.args.model.now c.args.goals.now c.in-Ok.found.values.items c.in-Ok.found.policy.items c.in_ok-ranks.ranks.items
are_ranks c =
    subst (λ (x : List ℚ). AreRanks c.args.dir c.args.model.now c.args.goals.now x c.in-Ok.found.policy.items c.in_ok-ranks.ranks.items) c.deref-2.ensures.value
    (subst (λ (policy : List ℕ). AreRanks c.args.dir c.args.model.now c.args.goals.now c.deref-2.result.now policy c.in_ok-ranks.ranks.items) c.deref.ensures.value
    (c.in_ok-ranks.ensures {u = tt}))

pub returns-in-Yes-clause-path : goal.returns-in-Yes-clause-path
returns-in-Yes-clause-path c =
    let end = (c.in-Ok.ensures {u = tt}).path in (
      end.0,
      end.1,
      ends-answered c.args.dir c.args.model.now c.args.goals.now c.in_ok-start.start.marks c.in_ok-start.start.choices.items (c.in_ok-start.ensures {u = tt})
          end.0 c.in-Ok.found.policy.items c.in_ok-ranks.ranks.items c.in-Ok.found.values.items end.2
          (are_ranks (goal.at.returns-in-Yes-clause-path c).After-cert-1) (sym c.in-Yes.is ∙ c.holds_reach.ensures.verdict),
    )

pub returns-in-Yes-clause-each : goal.returns-in-Yes-clause-each
returns-in-Yes-clause-each c =
    let count = reach-count c.args.dir c.args.model.now c.args.goals.now c.in_ok-start.start.marks in
    let best = (c.in-Ok.ensures {u = tt}).best.best in
    record {
      values = best.values.len ∙ count;
      choices = best.is.one_each ∙ count;
      ranks = ranks-count c.args.dir c.args.model.now c.args.goals.now c.deref-2.result.now c.deref.result.now c.in_ok-ranks.ranks.items (c.in_ok-ranks.ensures {u = tt});
    }

pub unreachable-requires : goal.unreachable-requires
unreachable-requires c =
    reach_never_no c.args.model.now c.args.goals.now c.in-Ok.found.values.items c.in-Ok.found.policy.items c.in_ok-ranks.ranks.items c.args.dir
    (meets-reach c.args.dir c.args.model.now c.args.goals.now c.in_ok-start.start.marks c.in_ok-start.start.choices.items c.in-Ok.found.policy.items c.in_ok-ranks.ranks.items
    c.in-Ok.found.values.items c.known.ensures.mdp (c.in_ok-start.ensures {u = tt}) (c.in-Ok.ensures {u = tt}).best
    (are_ranks (goal.at.unreachable-requires c).After-cert-1) c.reach_law.ensures.rest c.along_law.ensures.falls c.along_law.ensures.rest c.meet_law.ensures.rest)
    c.in-No.field-0 (sym c.holds_reach.ensures.verdict ∙ c.in-No.is)

pub returns-clause-path : goal.returns-clause-path
returns-clause-path c =
    let end = (c.in-Ok.ensures {u = tt}).path in (
      end.0,
      end.1,
      ends-wide c.args.dir c.args.model.now c.args.goals.now c.in_ok-start.start.marks c.in_ok-start.start.choices.items (c.in_ok-start.ensures {u = tt})
          end.0 c.in-Ok.found.policy.items c.in_ok-ranks.ranks.items c.in-Ok.found.values.items end.2
          (are_ranks (goal.at.returns-clause-path c).After-cert-1) c.in-Wide.state c.in-Wide.choice (sym c.in-Wide.is ∙ c.holds_reach.ensures.verdict),
    )

pub start_of-requires : goal.start_of-requires
start_of-requires c = c.requires

pub ranks_of-requires-clause-goals : goal.ranks_of-requires-clause-goals
ranks_of-requires-clause-goals c = c.requires

pub holds_reach-requires-clause-goals : goal.holds_reach-requires-clause-goals
holds_reach-requires-clause-goals c = c.requires

pub holds_reach-requires-clause-ranks : goal.holds_reach-requires-clause-ranks
holds_reach-requires-clause-ranks c = ranks-count c.args.dir c.args.model.now c.args.goals.now c.deref-2.result.now c.deref.result.now c.in_ok-ranks.ranks.items (c.in_ok-ranks.ensures {u = tt})

pub returns-in-Yes-clause-max : goal.returns-in-Yes-clause-max
returns-in-Yes-clause-max c = λ e. let h = c.holds_reach.ensures.max e in rw c.in-Yes.is at h

pub returns-in-Yes-clause-min : goal.returns-in-Yes-clause-min
returns-in-Yes-clause-min c = λ e. let h = c.holds_reach.ensures.min e in rw c.in-Yes.is at h
