use Rattle.std.proofs.{Common.{◌∷◌, [], length, sym, ap, subst, arith}, lemmas.List.{length-append}}
use Rattle.mdp_elim.proofs.Lists.{AreEmpty, empty-more, empty-smaller}
use Rattle.mdp_elim.proofs.predecessors.empty_lists.Goals as goal

pub loop-preserved : goal.loop-preserved
loop-preserved c =
    let push = (c.in_ok-push.ensures {u = tt}).items in
    record {
      count = omega (arith, ap length push, length-append c.loop.lists.items (c.new.result ∷ []), c.loop.invariant.count);
      empty = subst AreEmpty (sym push) (empty-more c.loop.lists.items c.new.result c.loop.invariant.empty c.new.ensures.items);
    }

pub returns-clause-smaller : goal.returns-clause-smaller
returns-clause-smaller c = empty-smaller c.loop.lists.items c.loop.invariant.empty
