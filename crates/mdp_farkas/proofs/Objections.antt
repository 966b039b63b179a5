-- What stands against a list of checks that is walked part by part.
use Rattle.std.proofs.Common.{◌≡◌, ℕ, zero, suc, ◌+◌, ◌-◌, ◌<◌, Bool, true, false, true≢false, cond, List, [], ◌∷◌, ◌++◌, map, Option, Some, None, refl, sym, ap, ◌∙◌, subst, arith}
use Rattle.std.specs.{Prelude.{Result, Ok, Err}, List.{flat_map, range_with_len}}
use Rattle.mdp_math.specs.Result.{◌>>=◌}
use Rattle.mdp_math.proofs.Lists.{flat_more}
use Rattle.mdp_farkas.specs.Verdict.{Check, objection, objection_to}
use Rattle.mdp_claims.specs.declared.verdict.Objection.{Objection}

step_append : (c : Check) (h : Option Bool) (xs ys : List Check) → objection_to (xs ++ ys) ≡ objection_to xs >>= (λ ok. objection_to ys)
    → objection c h >>= (λ ok. objection_to (xs ++ ys)) ≡ (objection c h >>= (λ ok. objection_to xs)) >>= (λ ok. objection_to ys)
step_append c None xs ys e = refl
step_append c (Some false) xs ys e = refl
step_append c (Some true) xs ys e = e

pub objection_to-append : (xs ys : List Check) → objection_to (xs ++ ys) ≡ objection_to xs >>= (λ ok. objection_to ys)
objection_to-append [] ys = refl
objection_to-append (c ∷ xs) ys = step_append c c.holds xs ys (objection_to-append xs ys)

-- two parts: what stands against the first stands against both, and else what stands against the second does
pub halts : (xs ys : List Check) (e : Objection) → Err e ≡ objection_to xs → Err e ≡ objection_to (xs ++ ys)
halts xs ys e stands = ap (λ (r : Result (Unit {0}) Objection). r >>= (λ ok. objection_to ys)) stands ∙ sym (objection_to-append xs ys)

pub goes_on : (xs ys : List Check) (u : Unit {0}) (r : Result (Unit {0}) Objection) → Ok u ≡ objection_to xs → r ≡ objection_to ys → r ≡ objection_to (xs ++ ys)
goes_on xs ys u r none rest = rest ∙ ap (λ (r : Result (Unit {0}) Objection). r >>= (λ ok. objection_to ys)) none ∙ sym (objection_to-append xs ys)

-- a walk over parts of which a `?` may end each
pub ruleset walked = (halts, goes_on)

-- one of two parts, by a test
pub by_test : (b : Bool) (xs ys : List Check) (r : Result (Unit {0}) Objection) → b ≡ false → r ≡ objection_to ys → r ≡ objection_to (cond b xs ys)
by_test true xs ys r e stands = absurd (true≢false e)
by_test false xs ys r e stands = stands

-- ---- one part for each number below n
module _ (checks : ℕ → List Check) where
  abbrev below : ℕ → List Check
  below n = flat_map checks (range_with_len 0 n)

  -- nothing stands against the parts below i, and nothing against part i
  pub passed : (i : ℕ) (u v : Unit {0}) → Ok u ≡ objection_to (flat_map checks (range_with_len 0 i)) → Ok v ≡ objection_to (checks i)
      → Ok v ≡ objection_to (flat_map checks (range_with_len 0 (i + 1)))
  passed i u v before here = goes_on (below i) (checks i) u (Ok v) before here ∙ sym (ap objection_to (flat_more checks i))

  -- what stands against part i stands against all of them
  pub stopped : (n i : ℕ) (u : Unit {0}) (e : Objection) → i < n → Ok u ≡ objection_to (flat_map checks (range_with_len 0 i)) → Err e ≡ objection_to (checks i)
      → Err e ≡ objection_to (flat_map checks (range_with_len 0 n))
  stopped n i u e h before here =
      let at : (i + 1) + (n - (i + 1)) ≡ n = omega arith in
      subst (λ (k : ℕ). Err e ≡ objection_to (flat_map checks (range_with_len 0 k))) at (later (n - (i + 1)))
    where
      later : (k : ℕ) → Err e ≡ objection_to (below ((i + 1) + k))
      later zero =
          let at : i + 1 ≡ (i + 1) + 0 = omega arith in
          subst (λ (k : ℕ). Err e ≡ objection_to (flat_map checks (range_with_len 0 k))) at (goes_on (below i) (checks i) u (Err e) before here ∙ sym (ap objection_to (flat_more checks i)))
      later (suc k) =
          let at : ((i + 1) + k) + 1 ≡ (i + 1) + suc k = omega arith in
          subst (λ (k : ℕ). Err e ≡ objection_to (flat_map checks (range_with_len 0 k))) at
          (halts (below ((i + 1) + k)) (checks ((i + 1) + k)) e (later k) ∙ sym (ap objection_to (flat_more checks ((i + 1) + k))))

-- one check for each number is a part of one check
pub each_alone : (check : ℕ → Check) (numbers : List ℕ) → map check numbers ≡ flat_map (λ i. check i ∷ []) numbers
each_alone check [] = refl
each_alone check (i ∷ numbers) = ap (λ (cs : List Check). check i ∷ cs) (each_alone check numbers)
