-- The first number that passes a test.
use Rattle.std.proofs.Common.{◌≡◌, inl, inr, ℕ, suc, zero, ◌<◌, ◌≤◌, Bool, true, nat_lt, cond, sym, ap, ◌∙◌, arith}
use Rattle.std.proofs.lemmas.Bool.{cases_Bool, cases_eq, ltb-true, ltb-false}
use Rattle.mdp_ends.specs.Toward.{first_below}

pub first-le : (p : ℕ → Bool) (n : ℕ) → first_below p n ≤ n
unfolding first_below
first-le p zero = omega arith
first-le p (suc n) = elim (cases_Bool (nat_lt (first_below p n) n)) as (λ _. first_below p (suc n) ≤ suc n) [
  | inl e ↦ rw e (let l = ltb-true (first_below p n) n e in omega (arith, l))
  | inr e ↦ rw e (elim (cases_Bool (p n)) as (λ _. cond (p n) n (suc n) ≤ suc n) [ inl it ↦ rw it (omega arith) | inr out ↦ rw out (omega arith) ])
]

-- what is below n passes; what passes isn't before it
pub first-passes : (p : ℕ → Bool) (n : ℕ) → first_below p n < n → p (first_below p n) ≡ true
unfolding first_below
first-passes p zero h = absurd (omega (arith, h))
first-passes p (suc n) h = elim (cases_Bool (nat_lt (first_below p n) n)) as (λ _. p (first_below p (suc n)) ≡ true) [
  | inl e ↦ rw e (first-passes p n (ltb-true (first_below p n) n e))
  | inr e ↦ (elim (cases_Bool (p n)) as (λ _. p (first_below p (suc n)) ≡ true) [
    | inl it ↦ rw (e, it) it
    | inr out ↦ absurd (let z = rw (e, out) at h in omega (arith, z))
  ])
]

pub first-least : (p : ℕ → Bool) (n s : ℕ) → s < n → p s ≡ true → first_below p n ≤ s
unfolding first_below
first-least p zero s h e = absurd (omega (arith, h))
first-least p (suc n) s h e = elim (cases_Bool (nat_lt (first_below p n) n)) as (λ _. first_below p (suc n) ≤ s) [
  | inl less ↦ rw less (elim (cases_eq s n) [
    | inl same ↦ (let l = ltb-true (first_below p n) n less in omega (arith, l, same))
    | inr other ↦ first-least p n s (omega (arith, h, other)) e
  ])
  | inr more ↦ (elim (cases_eq s n) as (λ _. first_below p (suc n) ≤ s) [
    | inl same ↦ (let it : p n ≡ true = sym (ap p same) ∙ e in rw (more, it) (omega (arith, same)))
    | inr other ↦ (let l = first-least p n s (omega (arith, h, other)) e in let g = ltb-false (first_below p n) n more in absurd (omega (arith, l, g, h, other)))
  ])
]

-- where one passes the first is below n and passes
pub first-found : (p : ℕ → Bool) (n s : ℕ) → s < n → p s ≡ true → (first_below p n < n) × (p (first_below p n) ≡ true)
first-found p n s h e = let l = first-least p n s h e in let k : first_below p n < n = omega (arith, l, h) in (k, first-passes p n k)
