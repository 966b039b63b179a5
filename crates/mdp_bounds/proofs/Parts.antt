-- A walk over checks in parts: a call goes through each, and `?` ends the walk where something stands against one.
use Rattle.std.proofs.{Common.{◌≡◌, List, ◌++◌, sym, ap, ◌∙◌}, lemmas.Result.{err_from_is_err_and}}
use Rattle.std.specs.Prelude.{Result, Err, IsErrAnd}
use Rattle.mdp_math.specs.Result.{◌>>=◌}
use Rattle.mdp_farkas.specs.Verdict.{Check, objection_to}
use Rattle.mdp_claims.specs.declared.verdict.Objection.{Objection}
use Rattle.mdp_farkas.proofs.Objections.{objection_to-append}

-- what stands against two parts, by what stands against each
pub both : (xs ys : List Check) (first second : Result (Unit {0}) Objection) → first ≡ objection_to xs → second ≡ objection_to ys
    → first >>= (λ ok. second) ≡ objection_to (xs ++ ys)
both xs ys first second e f =
    ap (λ (r : Result (Unit {0}) Objection). r >>= (λ ok. second)) e
    ∙ ap (λ (r : Result (Unit {0}) Objection). objection_to xs >>= (λ ok. r)) f
    ∙ sym (objection_to-append xs ys)

-- what stands against a part is handed on
pub handed : (r o : Result (Unit {0}) Objection) (e : Objection) → IsErrAnd r (λ x. x ≡ e) → Err e ≡ o → r ≡ o
handed r o e is stands = let p = err_from_is_err_and r is in p.1 ∙ ap (λ (x : Objection). Err x) p.2 ∙ stands
