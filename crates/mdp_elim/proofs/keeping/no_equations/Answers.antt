use Rattle.std.proofs.{Common.{◌∷◌, [], length, sym, ap, subst, arith}, lemmas.List.{length-append}}
use Rattle.mdp_elim.specs.Equation as spec
use Rattle.mdp_elim.proofs.Lists.{HaveNoEntries, no_entries-more, no_entries-down}
use Rattle.mdp_elim.proofs.keeping.no_equations.Goals as goal

pub loop-preserved : goal.loop-preserved
loop-preserved c =
    let push = (c.in_ok-push.ensures {u = tt}).items in
    record {
      count = omega (arith, ap length push, length-append c.loop.equations.items (c.none.result ∷ []), c.loop.invariant.count);
      none = subst HaveNoEntries (sym push) (no_entries-more c.loop.equations.items c.none.result c.loop.invariant.none (ap spec.Equation.entries c.none.ensures));
    }

pub returns-clause-down : goal.returns-clause-down
returns-clause-down c = no_entries-down c.loop.equations.items c.loop.invariant.none
