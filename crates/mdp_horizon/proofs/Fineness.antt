-- The unit of a curve is above 0, in width, and where there is room as fine as its steps cost.
use Rattle.std.proofs.Common.{◌≡◌, ◌∙◌, ℕ, zero, suc, ◌*◌, ◌<◌, ◌≤◌, ◌^◌, Bool, true, false, if◌then◌else◌, refl, sym, ap, ap₂, arith, ℤ, pos, ◌*ℤ◌, nat_lt, ◌&&◌, not, subst, ◌⊎◌, inl, inr}
use Rattle.std.proofs.lemmas.Bool.Decides.{nat_tests}
use Rattle.std.proofs.Math.Nat.{pow-suc, one-le-pow, pow-le-pow_right, mul-le-mul, mul-le-mul_left, one-le-mul}
use Rattle.mdp_spec.specs.Mdp.{Mdp}
use Rattle.mdp_horizon.specs.{declared.finer.Widest.{Widest}, Objective.{Objective}}
use Rattle.mdp_horizon.specs.Finer.{widest, span, room, finer, finer_by, factor_of, unit_of}

-- ---- the factor

one_of : (b : Bool) (f : ℕ) → 0 < f → (0 < (if b then f * 10 else f)) × ((if b then f * 10 else f) ≤ f * 10)
one_of true f h = (omega arith, omega arith)
one_of false f h = (h, omega arith)

pub finer-bounds : (steps room times : ℕ) → (0 < finer_by steps room times) × (finer_by steps room times ≤ 10 ^ times)
finer-bounds steps room zero = (omega arith, omega arith)
finer-bounds steps room (suc times) =
    let f : ℕ = finer_by steps room times in
    let p = finer-bounds steps room times in
    let q = one_of (nat_lt f steps && not (nat_lt room (f * 10))) f p.0 in
    let e = pow-suc 10 times in
    (q.0, omega (arith, p.1, q.1, e))

-- ---- the unit

pub unit-positive : (m : Mdp) (o : Objective) (digits steps : ℕ) → 0 < unit_of m o digits steps
unfolding unit_of
unit-positive m o digits steps =
    let a = one-le-pow digits 10 (omega arith) in
    let b = finer-bounds steps (room (widest m o) (span o steps) (10 ^ digits)) 7 in
    let p : 1 ≤ 10 ^ digits * factor_of steps (room (widest m o) (span o steps) (10 ^ digits)) = one-le-mul a b.0 in
    omega (arith, p)

pub unit-most : (m : Mdp) (o : Objective) (digits steps : ℕ) → digits ≤ 30 → unit_of m o digits steps ≤ 10 ^ 30 * 10 ^ 7
unfolding unit_of
unit-most m o digits steps few =
    mul-le-mul (pow-le-pow_right {n = 10} (omega arith) few) (finer-bounds steps (room (widest m o) (span o steps) (10 ^ digits)) 7).1

pub unit-narrow : (m : Mdp) (o : Objective) (digits steps : ℕ) → digits ≤ 30 → unit_of m o digits steps < 2 ^ 127
unit-narrow m o digits steps few = let p = unit-most m o digits steps few in omega (arith, p)

-- of its parts, as the code makes it
pub unit_is : (m : Mdp) (o : Objective) (digits steps : ℕ) (one f : ℤ) (factor roomy sp abs : ℕ) (w : Widest) → one ≡ pos (10 ^ digits) → f ≡ pos factor → factor ≡ factor_of steps roomy
    → roomy ≡ room w sp abs → w ≡ widest m o → sp ≡ span o steps → abs ≡ 10 ^ digits → one *ℤ f ≡ pos (unit_of m o digits steps)
unfolding unit_of
unit_is m o digits steps one f factor roomy sp abs w p q a b d e g =
    ap₂ ◌*ℤ◌ p q
    ∙ ap (λ (k : ℕ). pos (10 ^ digits * k))
    (a ∙ ap (factor_of steps) (b ∙ ap (λ (w : Widest). room w sp abs) d ∙ ap₂ (λ (sp abs : ℕ). room (widest m o) sp abs) e g))

-- ---- as fine as the steps cost

kept_step : (steps f : ℕ) (b : Bool) → steps ≤ f → steps ≤ (if b then f * 10 else f)
kept_step steps f true h = omega (arith, h)
kept_step steps f false h = h

fine_step : (steps room f : ℕ) (t : Bool) → nat_lt f steps ≡ t → steps * 10 ≤ room → (steps ≤ finer steps room f) ⊎ (finer steps room f ≡ f * 10)
fine_step steps room f false e l =
    let h : steps ≤ f = grind (arith, nat_tests) in
    inl (subst (λ (b : Bool). steps ≤ (if b && not (nat_lt room (f * 10)) then f * 10 else f)) (sym e) h)
fine_step steps room f true e l =
    let u : nat_lt room (f * 10) ≡ false = grind (arith, nat_tests) in
    inr (ap₂ (λ (b d : Bool). if b && not d then f * 10 else f) e u)

-- the factor isn't below the number of steps, or it has been taken ten times each time
fine_by : (steps room times : ℕ) → steps * 10 ≤ room → (steps ≤ finer_by steps room times) ⊎ (finer_by steps room times ≡ 10 ^ times)
fine_by steps room zero l = inr refl
fine_by steps room (suc times) l = by (fine_by steps room times l)
  where
    by : (steps ≤ finer_by steps room times) ⊎ (finer_by steps room times ≡ 10 ^ times) → (steps ≤ finer_by steps room (suc times)) ⊎ (finer_by steps room (suc times) ≡ 10 ^ suc times)
    by (inl h) = inl (kept_step steps (finer_by steps room times) (nat_lt (finer_by steps room times) steps && not (nat_lt room (finer_by steps room times * 10))) h)
    by (inr e) = then_by (fine_step steps room (finer_by steps room times) (nat_lt (finer_by steps room times) steps) refl l)
      where
        then_by : (steps ≤ finer_by steps room (suc times)) ⊎ (finer_by steps room (suc times) ≡ finer_by steps room times * 10)
            → (steps ≤ finer_by steps room (suc times)) ⊎ (finer_by steps room (suc times) ≡ 10 ^ suc times)
        then_by (inl h) = inl h
        then_by (inr q) = inr (q ∙ ap (λ (k : ℕ). k * 10) e ∙ sym (pow-suc 10 times))

enough_by : (steps factor : ℕ) → steps ≤ 10 ^ 7 → (steps ≤ factor) ⊎ (factor ≡ 10 ^ 7) → steps ≤ factor
enough_by steps factor few (inl h) = h
enough_by steps factor few (inr e) = omega (arith, few, e)

pub unit-fine : (m : Mdp) (o : Objective) (digits steps : ℕ) → steps ≤ 10 ^ 7 → steps * 10 ≤ room (widest m o) (span o steps) (10 ^ digits)
    → steps * 10 ^ digits ≤ unit_of m o digits steps
unfolding unit_of
unit-fine m o digits steps few l =
    let roomy : ℕ = room (widest m o) (span o steps) (10 ^ digits) in
    let h : steps ≤ factor_of steps roomy = enough_by steps (factor_of steps roomy) few (fine_by steps roomy 7 l) in
    let p : 10 ^ digits * steps ≤ 10 ^ digits * factor_of steps roomy = mul-le-mul_left (10 ^ digits) h in
    omega (arith, p)
