-- A no names a check that is false.
use Rattle.std.proofs.Common.{◌≡◌, suc, Bool, true, false, List, [], ◌∷◌, Option, Some, None, refl, ap, arith}
use Rattle.std.specs.List.{Any}
use Rattle.mdp_math.specs.Result.{◌>>=◌}
use Rattle.mdp_farkas.specs.{Verdict.{Check, objection, objection_to, verdict, verdict_of}, Laws.{IsFalse}}
use Rattle.mdp_claims.specs.{declared.verdict.Fault.{Fault}, declared.verdict.Verdict.{Verdict}, declared.verdict.Verdict.TheVariants.{Yes, No, Wide}}

abbrev pub fault_or : Fault → Verdict → Fault
fault_or f Yes = f
fault_or f (No g) = g
fault_or f (Wide state choice) = f

named_by : (f : Fault) (c : Check) (h : Option Bool) (cs : List Check) → c.holds ≡ h → (verdict_of cs ≡ No f → Any (IsFalse f) cs)
    → verdict (objection c h >>= (λ ok. objection_to cs)) ≡ No f → Any (IsFalse f) (c ∷ cs)
named_by f c None cs s rest e = cc
named_by f c (Some false) cs s rest e =
    let same = ap (fault_or f) e in
    (0, c, omega arith, refl, (ap (λ (g : Fault). g.rule) same, ap (λ (g : Fault). g.state) same, ap (λ (g : Fault). g.choice) same, s))
named_by f c (Some true) cs s rest e = let a = rest e in let l = a.2 in (suc a.0, a.1, omega arith, a.3, a.4)

pub named_is_false : (cs : List Check) (f : Fault) → verdict_of cs ≡ No f → Any (IsFalse f) cs
named_is_false [] f e = cc
named_is_false (c ∷ cs) f e = named_by f c c.holds cs refl (named_is_false cs f) e
