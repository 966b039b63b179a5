use Rattle.std.proofs.Common.{◌+◌, Ok, Err, arith, rules}
use Rattle.mdp_gain.specs.Code.{component_in}
use Rattle.mdp_gain.specs.declared.only_round.Turn.TheVariants as turn
use Rattle.mdp_gain.proofs.{Given.{is-component}, OnlyPath.{made_as, next-inner, only-fewer, settled-ends, turned-on, error-ends}}
use Rattle.mdp_gain.proofs.only_state.Only.settle.Goals as goal

pub returns-in-Ok-Done : goal.returns-in-Ok-Done
returns-in-Ok-Done c =
    let x = c.args.self.now in
    let p = component_in x.component in
    let n = c.rounds.invariant.path.0 in
    settled-ends p x.s x.only c.args.start n c.rounds.choice c.in-Ok-Done.settled c.rounds.invariant.path.2
    (made_as p x.s n c.rounds.choice c.round.result c.round.ensures (Ok (turn.Done c.in-Ok-Done.settled)) (search rules))

pub rounds-smaller : goal.rounds-smaller
rounds-smaller c =
    let x = c.args.self.now in
    let p = component_in x.component in
    let n = c.rounds.invariant.path.0 in
    only-fewer p x.s x.only (is-component x.component c.requires.given) c.solution_law.ensures.solves n c.rounds.choice c.in-Ok-Next.next c.rounds.invariant.inner
    (made_as p x.s n c.rounds.choice c.round.result c.round.ensures (Ok (turn.Next c.in-Ok-Next.next)) (search rules))

pub rounds-preserved : goal.rounds-preserved
rounds-preserved c =
    let x = c.args.self.now in
    let p = component_in x.component in
    let n = c.rounds.invariant.path.0 in
    let made = made_as p x.s n c.rounds.choice c.round.result c.round.ensures (Ok (turn.Next c.in-Ok-Next.next)) (search rules) in
    record {
      inner = next-inner p x.s x.only (is-component x.component c.requires.given) c.solution_law.ensures.solves n c.rounds.choice c.in-Ok-Next.next c.rounds.invariant.inner made;
      path = (
        n + 1,
        omega (arith, c.rounds.invariant.path.1, c.saturating_add-round.ensures),
        turned-on p x.s x.only c.args.start n c.rounds.choice c.in-Ok-Next.next c.rounds.invariant.path.2 made,
      );
    }

pub returns-in-Err : goal.returns-in-Err
returns-in-Err c =
    let x = c.args.self.now in
    let p = component_in x.component in
    let n = c.rounds.invariant.path.0 in
    error-ends p x.s x.only c.args.start n c.rounds.choice c.rounds.round c.in-Err.error c.path_error.result c.path_error.ensures c.rounds.invariant.path.1 c.rounds.invariant.path.2
    (made_as p x.s n c.rounds.choice c.round.result c.round.ensures (Err c.in-Err.error) (search rules))
