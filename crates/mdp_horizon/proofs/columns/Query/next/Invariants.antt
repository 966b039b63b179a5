use Rattle.std.proofs.Common.{◌≡◌, map}
use Rattle.std.specs.List.{range_with_len}
use Rattle.mdp_horizon.specs.{Columns.{cover_at, follow_at}, Code.{plain_objective}, BoundsCode.{values_of}, declared.leader.Leader.{Leader}}
use Rattle.mdp_horizon.proofs.columns.Query.next.Given as goal

abbrev pub invariant-loop-s : goal.invariant-loop-s
invariant-loop-s l =
    let one = l.fn.self.one in
    let o = plain_objective l.fn.self.objective in
    record {
      covers : values_of l.made.cover ≡ map (cover_at l.fn.self.dir one l.fn.self.model.now o (values_of l.cover)) (range_with_len 0 l.s);
      follows : values_of l.made.follow ≡ map (λ s. Leader.value (follow_at l.fn.self.dir one l.fn.self.model.now o (values_of l.follow) s)) (range_with_len 0 l.s);
      choices : l.made.choices.items ≡ map (λ s. Leader.choice (follow_at l.fn.self.dir one l.fn.self.model.now o (values_of l.follow) s)) (range_with_len 0 l.s);
    }
