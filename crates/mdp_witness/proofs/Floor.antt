-- The query of a subsystem, as one of the model that was cut.
use Rattle.std.proofs.Common.{◌≡◌, ℕ, List, Bool, length, Result, Ok, Err, sym, ◌∙◌, ap, subst, IfOk}
use Rattle.mdp_spec.specs.{Mdp.{Mdp, states_of}, Row.{IsMdp}, Sub.{sub_of}}
use Rattle.mdp_spec.proofs.Subsystem.{sub-states}
use Rattle.mdp_rows.specs.declared.dir.Dir.TheVariants.{Min}
use Rattle.mdp_wide.specs.{declared.too_wide.TooWide.{TooWide}, Errors.{SolveError}, Term.{WideTerm, shown}}
use Rattle.mdp_wide.specs.declared.unfinished.Unfinished.TheVariants as solve
use Rattle.mdp_claims.specs.declared.exact.ReachCert.{ReachCert}
use Rattle.mdp_graph.specs.Laws.{RestMeets}
use Rattle.mdp_policy_iteration.specs.{Laws.{EndsAtBest}, Ends.{capped}, Queries.{Solves}}
use Rattle.mdp_reach.specs.Query.{Answer, plain, EndsSo}
use Rattle.mdp_witness.specs.LeastEvaluation.{Evaluates}
use Rattle.mdp_witness.proofs.Lengths.{sized}

pub evaluates_cut : (m cut : Mdp) (goals set : List Bool) (r : Result ReachCert SolveError) → cut ≡ sub_of m goals set → Solves plain (EndsSo Min cut goals) r → Solves plain (Evaluates m goals set) r
evaluates_cut m cut goals set r e h = subst (λ (cut : Mdp). Solves plain (EndsSo Min cut goals) r) e h

pub sizes_cut : (m cut : Mdp) (goals set : List Bool) (r : Result ReachCert SolveError) → cut ≡ sub_of m goals set → IsMdp cut → EndsAtBest → RestMeets → Solves plain (EndsSo Min cut goals) r
    → IfOk r (λ c. length c.values.items ≡ states_of m)
sizes_cut m cut goals set (Ok c) e known_ best meets h = (sized Min cut goals (plain c) known_ best meets h).values ∙ ap states_of e ∙ sub-states m goals set
sizes_cut m cut goals set (Err x) e known_ best meets h = tt

pub ranks_cut : (m cut : Mdp) (goals set : List Bool) (r : Result ReachCert SolveError) → cut ≡ sub_of m goals set → IsMdp cut → EndsAtBest → RestMeets → Solves plain (EndsSo Min cut goals) r
    → IfOk r (λ c. length c.ranks.items ≡ states_of m)
ranks_cut m cut goals set (Ok c) e known_ best meets h = (sized Min cut goals (plain c) known_ best meets h).ranks ∙ ap states_of e ∙ sub-states m goals set
ranks_cut m cut goals set (Err x) e known_ best meets h = tt

pub cut_goals : (m cut : Mdp) (goals set : List Bool) → length goals ≡ states_of m → cut ≡ sub_of m goals set → length goals ≡ states_of cut
cut_goals m cut goals set e h = e ∙ sym (ap states_of h ∙ sub-states m goals set)

-- a term past width in a query
pub solves_wide : (Ends : Result Answer WideTerm → Type 0) (e : SolveError) (w : TooWide) → e ≡ solve.TooWide w → Solves plain Ends (Err e) → (n : ℕ) × (w.round ≡ capped n) × Ends (Err (shown w n))
solves_wide Ends e w is h = subst (λ (e : SolveError). Solves plain Ends (Err e)) is h
