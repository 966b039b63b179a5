-- What a no says of the fault that it names, part by part: the checks before that one hold.
use Rattle.std.proofs.Common.{◌≡◌, ℕ, zero, suc, ◌+◌, ◌<◌, Bool, true, false, true≢false, cond, List, [], ◌∷◌, ◌++◌, map}
use Rattle.std.proofs.Common.{Option, Some, None, sym, ap, subst, ◌∙◌, refl, arith}
use Rattle.std.specs.{List.{flat_map, range_with_len}, Option.{IsSome}}
use Rattle.mdp_math.specs.Result.{◌>>=◌}
use Rattle.mdp_math.proofs.{Lists.{flat_more, map_more}, Options.{Some_same}}
use Rattle.mdp_farkas.specs.Verdict.{Check, objection, objection_to, verdict, verdict_of}
use Rattle.mdp_farkas.proofs.Holds.{Each, Holds}
use Rattle.mdp_claims.specs.{declared.verdict.Fault.{Fault}, declared.verdict.Verdict.{Verdict}, declared.verdict.Verdict.TheVariants.{Yes, No, Wide}}

-- what is named where the check is false
abbrev pub fault_of : Check → Fault
fault_of c = record { rule = c.rule; state = c.state; choice = c.choice }

abbrev fault_or : Fault → Verdict → Fault
fault_or f Yes = f
fault_or f (No g) = g
fault_or f (Wide state choice) = f

-- a check that is false refutes each statement by which it would hold
pub refuted : (P : Type 0) (o : Option Bool) → (P → IsSome o → o ≡ Some true) → o ≡ Some false → P → ⊥
refuted P o sound wrong p = true≢false (Some_same true false (sym (sound p (subst (λ (x : Option Bool). IsSome x) (sym wrong) refl)) ∙ wrong))

module _ (Q : Fault → Type 0) where
  -- Q holds of the fault that these checks name
  abbrev pub Tells : List Check → Type 0
  Tells cs = (f : Fault) → verdict_of cs ≡ No f → Q f

  first_by : (c : Check) (h : Option Bool) (cs : List Check) → (h ≡ Some false → Q (fault_of c)) → (h ≡ Some true → Tells cs) → (f : Fault)
      → verdict (objection c h >>= (λ ok. objection_to cs)) ≡ No f → Q f
  first_by c None cs here rest f e = cc
  first_by c (Some false) cs here rest f e = subst Q (ap (fault_or f) e) (here refl)
  first_by c (Some true) cs here rest f e = rest refl f e

  pub tells_first : (c : Check) (cs : List Check) → (c.holds ≡ Some false → Q (fault_of c)) → (c.holds ≡ Some true → Tells cs) → Tells (c ∷ cs)
  tells_first c cs here rest f e = first_by c c.holds cs here rest f e

  pub tells_none : Tells []
  tells_none f e = cc

  pub tells_one : (c : Check) → (c.holds ≡ Some false → Q (fault_of c)) → Tells (c ∷ [])
  tells_one c here = tells_first c [] here (λ t. tells_none)

  pub tells_append : (xs ys : List Check) → Tells xs → (Each Holds xs → Tells ys) → Tells (xs ++ ys)
  tells_append [] ys first rest = rest tt
  tells_append (c ∷ xs) ys first rest =
      let after : (h : Option Bool) → c.holds ≡ h → verdict_of (c ∷ xs) ≡ verdict (objection c h >>= (λ ok. objection_to xs)) =
      λ h e. ap (λ (h : Option Bool). verdict (objection c h >>= (λ ok. objection_to xs))) e in
      tells_first c (xs ++ ys) (λ wrong. first (fault_of c) (after (Some false) wrong)) (λ t. tells_append xs ys (λ f e. first f (after (Some true) t ∙ e)) (λ h. rest (t, h)))

  pub tells_if : (b : Bool) (xs ys : List Check) → (b ≡ true → Tells xs) → (b ≡ false → Tells ys) → Tells (cond b xs ys)
  tells_if true xs ys h k = h refl
  tells_if false xs ys h k = k refl

  pub tells_flat : (g : ℕ → List Check) (n : ℕ) → ((s : ℕ) → s < n → Tells (g s)) → Tells (flat_map g (range_with_len 0 n))
  tells_flat g zero h = tells_none
  tells_flat g (suc n) h =
      let e : n + 1 ≡ suc n = omega arith in
      subst (λ (k : ℕ). Tells (flat_map g (range_with_len 0 k))) e
      (subst (λ (cs : List Check). Tells cs) (sym (flat_more g n))
      (tells_append (flat_map g (range_with_len 0 n)) (g n) (tells_flat g n (λ s l. h s (omega arith))) (λ held. h n (omega arith))))

  pub tells_map : (g : ℕ → Check) (n : ℕ) → ((c : ℕ) → c < n → Check.holds (g c) ≡ Some false → Q (fault_of (g c))) → Tells (map g (range_with_len 0 n))
  tells_map g zero h = tells_none
  tells_map g (suc n) h =
      let e : n + 1 ≡ suc n = omega arith in
      subst (λ (k : ℕ). Tells (map g (range_with_len 0 k))) e
      (subst (λ (cs : List Check). Tells cs) (sym (map_more g n))
      (tells_append (map g (range_with_len 0 n)) (g n ∷ []) (tells_map g n (λ c l. h c (omega arith))) (λ held. tells_one (g n) (h n (omega arith)))))
