-- All checks hold before the one that ends a walk over checks.
use Rattle.std.proofs.Common.{◌≡◌, ℕ, Bool, true, false, List, [], ◌∷◌, Option, Some, None, refl, ap}
use Rattle.std.proofs.lemmas.List.Elements.{All-nil, All-cons}
use Rattle.mdp_math.specs.Result.{◌>>=◌}
use Rattle.mdp_farkas.specs.{Verdict.{Check, objection, objection_to, verdict, verdict_of}, Laws.{IsFalse, IsFirst, IsWideAt, WideIsFirst, NoIsFirst}}
use Rattle.mdp_farkas.proofs.Named.{fault_or}
use Rattle.mdp_claims.specs.{declared.verdict.Fault.{Fault}, declared.verdict.Verdict.{Verdict}, declared.verdict.Verdict.TheVariants.{Yes, No, Wide}}

abbrev holds_so : Check → Type 0
holds_so c = c.holds ≡ Some true

-- the first of a list, and of a list with one more before that holds
at_head : (P : Check → Type 0) (c : Check) (cs : List Check) → P c → IsFirst P (c ∷ cs)
at_head P c cs p = record { before = []; one = c; behind = cs; split = refl; hold = All-nil holds_so; meets = p }

behind_head : (P : Check → Type 0) (c : Check) (cs : List Check) → c.holds ≡ Some true → IsFirst P cs → IsFirst P (c ∷ cs)
behind_head P c cs holds first = record {
  before = c ∷ IsFirst.before first;
  one = IsFirst.one first;
  behind = IsFirst.behind first;
  split = ap (λ (xs : List Check). c ∷ xs) (IsFirst.split first);
  hold = All-cons holds_so c (IsFirst.before first) holds (IsFirst.hold first);
  meets = IsFirst.meets first;
}

-- ---- past width

abbrev state_or : Option ℕ → Verdict → Option ℕ
state_or s Yes = s
state_or s (No fault) = s
state_or s (Wide state choice) = state

abbrev choice_or : Option ℕ → Verdict → Option ℕ
choice_or s Yes = s
choice_or s (No fault) = s
choice_or s (Wide state choice) = choice

wide_by : (state choice : Option ℕ) (c : Check) (h : Option Bool) (cs : List Check) → c.holds ≡ h → (verdict_of cs ≡ Wide state choice → IsFirst (IsWideAt state choice) cs)
    → verdict (objection c h >>= (λ ok. objection_to cs)) ≡ Wide state choice → IsFirst (IsWideAt state choice) (c ∷ cs)
wide_by state choice c None cs s rest e = at_head (IsWideAt state choice) c cs (ap (state_or None) e, ap (choice_or None) e, s)
wide_by state choice c (Some false) cs s rest e = cc
wide_by state choice c (Some true) cs s rest e = behind_head (IsWideAt state choice) c cs s (rest e)

pub wide_is_first : WideIsFirst
wide_is_first [] state choice e = cc
wide_is_first (c ∷ cs) state choice e = wide_by state choice c c.holds cs refl (wide_is_first cs state choice) e

-- ---- false

no_by : (f : Fault) (c : Check) (h : Option Bool) (cs : List Check) → c.holds ≡ h → (verdict_of cs ≡ No f → IsFirst (IsFalse f) cs)
    → verdict (objection c h >>= (λ ok. objection_to cs)) ≡ No f → IsFirst (IsFalse f) (c ∷ cs)
no_by f c None cs s rest e = cc
no_by f c (Some false) cs s rest e =
    let same = ap (fault_or f) e in
    at_head (IsFalse f) c cs (ap (λ (g : Fault). g.rule) same, ap (λ (g : Fault). g.state) same, ap (λ (g : Fault). g.choice) same, s)
no_by f c (Some true) cs s rest e = behind_head (IsFalse f) c cs s (rest e)

pub no_is_first : NoIsFirst
no_is_first [] f e = cc
no_is_first (c ∷ cs) f e = no_by f c c.holds cs refl (no_is_first cs f) e
