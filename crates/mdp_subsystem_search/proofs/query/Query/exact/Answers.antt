use Rattle.std.proofs.Common.{sym, subst}
use Rattle.mdp_subsystem_search.specs.{Shown.{IsBelow, IsUndecided}, Code.{IfBelow, IfUndecided}, declared.subsystem.Unshown.{Unshown}}
use Rattle.mdp_subsystem_search.proofs.Refusals.{below_of, undecided_by}
use Rattle.mdp_subsystem_search.proofs.query.Query.exact.Goals as goal

pub returns-in-Err-clause-below : goal.returns-in-Err-clause-below
returns-in-Err-clause-below c =
    let q = c.args.self.now in
    subst (λ (u : Unshown). IfBelow u (IsBelow q.dir q.model.now q.goals.now q.start q.threshold)) (sym c.unshown.ensures)
    (below_of q.dir q.model.now q.goals.now q.start q.threshold c.in-Err.error c.args.lower c.args.upper (c.in-Err.ensures {u = tt}).below)

pub returns-in-Err-clause-undecided : goal.returns-in-Err-clause-undecided
returns-in-Err-clause-undecided c =
    let q = c.args.self.now in
    subst (λ (u : Unshown). IfUndecided u (IsUndecided q.dir q.model.now q.goals.now q.start q.threshold)) (sym c.unshown.ensures)
    (undecided_by q.dir q.model.now q.goals.now q.start q.threshold c.in-Err.error c.args.lower c.args.upper c.requires.open (c.in-Err.ensures {u = tt}).path)
