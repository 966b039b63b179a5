use Rattle.std.proofs.Common.{◌<◌, length, arith}
use Rattle.mdp_parts.proofs.Searching.{kept_mark, new_mark, search_as, root_entered}
use Rattle.mdp_parts.proofs.depth.Search.explore.Goals as goal

pub loop-self-init : goal.loop-self-init
loop-self-init c =
    let self = c.args.self.now in
    let a = c.requires.search in
    let h : c.args.root < length self.met = omega (arith, c.requires.root, a.count_met) in
    record {
      search =
          search_as c.args.edges.now _ _ _ _ _ _ _ _ c.in_ok-enter.ensures.way c.in_ok-enter.ensures.next c.in_ok-enter.ensures.met c.in_ok-enter.ensures.done
          (root_entered c.args.edges.now self.way.items self.next.items self.met self.done.items c.args.root a c.requires.begun c.requires.root c.requires.unmet);
      met = rw c.in_ok-enter.ensures.met (new_mark self.met c.args.root h);
      kept = λ s e. rw c.in_ok-enter.ensures.met (kept_mark self.met c.args.root s h e);
    }

pub loop-self-preserved : goal.loop-self-preserved
loop-self-preserved c =
    let more = c.in_ok-go_on.ensures in
    record { search = more.search; met = more.kept c.args.root c.loop-self.invariant.met; kept = λ s e. more.kept s (c.loop-self.invariant.kept s e) }

pub go_on-requires-clause-edges : goal.go_on-requires-clause-edges
go_on-requires-clause-edges c = c.requires.edges
