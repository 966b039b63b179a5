use Rattle.std.proofs.Common.{◌∙◌, None, sym}
use Rattle.mdp_policy.specs.Answer.{plain}
use Rattle.mdp_policy.proofs.{Solving.{policy_rows-len, along_ranks, policy_leaves}, Facts.{IsValued, written_valued}, value.reach_value.Goals.{In-Ok}}
use Rattle.mdp_policy.proofs.value.reach_value.Goals as goal

pub along-requires : goal.along-requires
along-requires c = record { target = c.requires.goals ∙ sym (policy_rows-len c.args.model.now c.args.policy.now) }

pub invariant_of-evaluation : goal.invariant_of-evaluation
invariant_of-evaluation c = record {
  goals_each = c.requires.goals;
  marks_each = (c.in_ok-pass.ensures {u = tt}).marks.count ∙ policy_rows-len c.args.model.now c.args.policy.now;
  chosen = c.requires.policy;
}

pub evaluated-requires : goal.evaluated-requires
evaluated-requires c =
    let m = c.args.model.now in
    let pass = c.in_ok-pass.pass in
    let e = c.in_ok-pass.ensures {u = tt} in (
      pass.ranks.items,
      policy_leaves m c.args.goals.now c.args.policy.now pass.ranks.items c.known.ensures.mdp c.requires.policy
          (along_ranks m c.args.goals.now c.args.policy.now pass.marks pass.ranks.items e.marks e.ranks) c.along_law.ensures.falls c.along_law.ensures.rest,
    )

-- the value that was found, and its changes
valued : (c : In-Ok) → IsValued c.args.model.now None c.args.goals.now c.args.policy.now (plain c.in-Ok.value)
valued c =
    let m = c.args.model.now in
    let pass = c.in_ok-pass.pass in
    let e = c.in_ok-pass.ensures {u = tt} in
    written_valued m c.args.goals.now c.args.policy.now pass.ranks.items c.known.ensures.mdp c.requires.policy
    (along_ranks m c.args.goals.now c.args.policy.now pass.marks pass.ranks.items e.marks e.ranks) c.along_law.ensures.falls c.along_law.ensures.rest c.solution_law.ensures.solves
    (plain c.in-Ok.value) (c.in-Ok.ensures {u = tt})

pub returns-in-Ok-clause-bound : goal.returns-in-Ok-clause-bound
returns-in-Ok-clause-bound c = (valued (goal.at.returns-in-Ok-clause-bound c).In-Ok).bound

pub returns-in-Ok-clause-each : goal.returns-in-Ok-clause-each
returns-in-Ok-clause-each c = (valued (goal.at.returns-in-Ok-clause-each c).In-Ok).each

pub returns-in-Ok-clause-none_up : goal.returns-in-Ok-clause-none_up
returns-in-Ok-clause-none_up c = (valued (goal.at.returns-in-Ok-clause-none_up c).In-Ok).none_up

pub returns-in-Ok-clause-up : goal.returns-in-Ok-clause-up
returns-in-Ok-clause-up c = (valued (goal.at.returns-in-Ok-clause-up c).In-Ok).up

pub returns-in-Ok-clause-down : goal.returns-in-Ok-clause-down
returns-in-Ok-clause-down c = (valued (goal.at.returns-in-Ok-clause-down c).In-Ok).down

pub returns-in-Ok-clause-up_in : goal.returns-in-Ok-clause-up_in
returns-in-Ok-clause-up_in c = (valued (goal.at.returns-in-Ok-clause-up_in c).In-Ok).up_in

pub returns-in-Ok-clause-down_in : goal.returns-in-Ok-clause-down_in
returns-in-Ok-clause-down_in c = (valued (goal.at.returns-in-Ok-clause-down_in c).In-Ok).down_in
