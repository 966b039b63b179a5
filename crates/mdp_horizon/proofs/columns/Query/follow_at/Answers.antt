use Rattle.std.proofs.Common.{length, sym, ◌∙◌, arith}
use Rattle.mdp_horizon.specs.{Code.{plain_objective}, BoundsCode.{plain_choices, values_of}}
use Rattle.mdp_horizon.proofs.Ready.{count_of, ready_state}
use Rattle.mdp_horizon.proofs.columns.Query.follow_at.Goals as goal

pub followed-requires-clause-ready : goal.followed-requires-clause-ready
followed-requires-clause-ready c =
    ready_state c.args.self.one c.args.self.model.now (plain_objective c.args.self.objective) c.args.s (length (values_of c.args.column.now)) (plain_choices c.args.choices.now) c.known.ensures.mdp (omega arith) (omega arith)
    c.requires.choices

pub followed-requires-clause-some : goal.followed-requires-clause-some
followed-requires-clause-some c =
    let n = count_of c.args.self.one c.args.self.model.now (plain_objective c.args.self.objective) c.args.s (plain_choices c.args.choices.now) c.requires.choices in
    let some = c.known.ensures.mdp.choice c.args.s (omega arith) in
    omega (arith, n, some)

pub followed-requires-clause-count : goal.followed-requires-clause-count
followed-requires-clause-count c =
    c.choices-count.ensures ∙ sym (count_of c.args.self.one c.args.self.model.now (plain_objective c.args.self.objective) c.args.s (plain_choices c.args.choices.now) c.requires.choices)
