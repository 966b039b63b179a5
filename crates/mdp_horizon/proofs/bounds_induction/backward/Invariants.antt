use Rattle.std.proofs.Common.{◌≡◌, reverse}
use Rattle.mdp_horizon.specs.{Answer.{lists}, Columns.{cover, follow, table}, Code.{plain_objective}, BoundsCode.{values_of}}
use Rattle.mdp_horizon.proofs.bounds_induction.backward.Given as goal

abbrev pub invariant-loop-done : goal.invariant-loop-done
invariant-loop-done l =
    let one = l.fn.query.one in
    let o = plain_objective l.fn.query.objective in
    record {
      covers : values_of l.cover ≡ cover l.fn.query.dir one l.fn.query.model.now o l.done;
      follows : values_of l.follow ≡ follow l.fn.query.dir one l.fn.query.model.now o l.done;
      choices : lists (reverse l.table.items) ≡ table l.fn.query.dir one l.fn.query.model.now o l.done;
    }
