-- States that are reached after more steps.
use Rattle.std.proofs.Common.{◌≡◌, ℕ, suc, zero, ◌+◌, ◌<◌, Bool, true, false, ◌||◌, List, sym, ap, ◌∙◌, arith}
use Rattle.mdp_graph.specs.{Sets.{marked}, Layers.{reached, AreReached}}
use Rattle.mdp_math.proofs.Booleans.{or-true}

pub step-reaches : (step : (ℕ → Bool) → ℕ → Bool) (first : ℕ → Bool) (k s : ℕ) → step (reached step first k) s ≡ true → reached step first (suc k) s ≡ true
unfolding reached
step-reaches step first k s e = ap (λ b. reached step first k s || b) e ∙ or-true (reached step first k s)

pub stays-reached : (step : (ℕ → Bool) → ℕ → Bool) (first : ℕ → Bool) (d k s : ℕ) → reached step first k s ≡ true → reached step first (d + k) s ≡ true
unfolding reached
stays-reached step first zero k s e = let z : 0 + k ≡ k = omega arith in ap (λ i. reached step first i s) z ∙ e
stays-reached step first (suc d) k s e =
    let z : suc d + k ≡ suc (d + k) = omega arith in
    ap (λ i. reached step first i s) z ∙ ap (λ b. b || step (reached step first (d + k)) s) (stays-reached step first d k s e)

pub one-later : (step : (ℕ → Bool) → ℕ → Bool) (first : ℕ → Bool) (k s : ℕ) → reached step first k s ≡ true → reached step first (suc k) s ≡ true
one-later step first k s e = let z : suc k ≡ 1 + k = omega arith in ap (λ i. reached step first i s) z ∙ stays-reached step first 1 k s e

pub first-reached : (step : (ℕ → Bool) → ℕ → Bool) (first : ℕ → Bool) (k s : ℕ) → first s ≡ true → reached step first k s ≡ true
unfolding reached
first-reached step first k s e = let z : k ≡ k + 0 = omega arith in ap (λ i. reached step first i s) z ∙ stays-reached step first k 0 s e

-- a state that isn't marked is never reached
pub never-reached : (step : (ℕ → Bool) → ℕ → Bool) (first : ℕ → Bool) (n : ℕ) (marks : List Bool) → AreReached step first n marks → (k s : ℕ)
    → s < n → marked marks s ≡ false → reached step first k s ≡ true → false ≡ true
never-reached step first n marks a k s h out e = let w = a.marks_reached s h in sym out ∙ w.1 (k, e)
