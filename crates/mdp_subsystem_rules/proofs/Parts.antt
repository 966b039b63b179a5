-- Claims on the checks of a list that is made from other lists.
use Rattle.std.proofs.Common.{◌≡◌, ℕ, zero, suc, ◌<◌, Bool, true, false, true≢false, not, refl, sym, List, [], ◌∷◌, map, length, get_or, Some, arith}
use Rattle.mdp_farkas.specs.Verdict.{Check}
use Rattle.mdp_claims.specs.declared.verdict.Fault.{Fault}
use Rattle.mdp_farkas.proofs.{Holds.{Each}, Telling.{fault_of, Tells, tells_first, tells_none}}

pub unmarked : (b : Bool) → not b ≡ true → b ≡ false
unmarked true e = absurd (true≢false (sym e))
unmarked false e = refl

module _ (P : Check → Type 0) (check : ℕ → Check) where
  -- one check for each element of a list
  pub each_at : (xs : List ℕ) (i : ℕ) → Each P (map check xs) → i < length xs → P (check (get_or xs i 0))
  each_at [] i h l = absurd (omega arith)
  each_at (x ∷ xs) zero h l = h.0
  each_at (x ∷ xs) (suc i) h l = each_at xs i h.1 (omega arith)

  pub each_of : (xs : List ℕ) → ((i : ℕ) → i < length xs → P (check (get_or xs i 0))) → Each P (map check xs)
  each_of [] h = tt
  each_of (x ∷ xs) h = (h 0 (omega arith), each_of xs (λ i l. h (suc i) (omega arith)))

-- what a no says of the check of an element
pub tells_each : (Q : Fault → Type 0) (check : ℕ → Check) (xs : List ℕ)
    → ((i : ℕ) → i < length xs → Check.holds (check (get_or xs i 0)) ≡ Some false → Q (fault_of (check (get_or xs i 0)))) → Tells Q (map check xs)
tells_each Q check [] h = tells_none Q
tells_each Q check (x ∷ xs) h = tells_first Q (check x) (map check xs) (h 0 (omega arith)) (λ held. tells_each Q check xs (λ i l. h (suc i) (omega arith)))
