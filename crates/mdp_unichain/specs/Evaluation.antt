-- The gain and the bias of a chain with rewards and one closed class (Puterman 1994, section 8.2).
use Rattle.std.specs.Prelude.{◌≡◌, ℕ, Bool, true, false, not, ◌&&◌, List, pos}
use Rattle.std.proofs.Common.{eqb}
use Rattle.mdp_math.specs.{Rational.{ℚ, of_int, ◌+ℚ◌, ◌-ℚ◌, ◌*ℚ◌}, Kernel.{weigh}}
use Rattle.mdp_math.proofs.{Order.{◌/ℚ◌}, Solutions.{Solves}}
use Rattle.mdp_spec.specs.Mdp.{Entry}

-- the sum of probability times value over a row; the values are those of a list by `value_at`
abbrev pub mean : List Entry → (ℕ → ℚ) → ℚ
mean row z = weigh (λ y. y.target) (λ y. y.prob) z row

-- the states but t
abbrev pub active : (ℕ → Bool) → ℕ → ℕ → Bool
active states t s = states s && not (eqb s t)

-- from each state until t is reached: x is what is earned, and y the number of steps; both are 0 at t
abbrev pub IsEarned : (ℕ → Bool) → (ℕ → List Entry) → ℕ → (ℕ → ℚ) → (ℕ → ℚ) → Type 0
IsEarned states row t reward x = Solves (λ y. y.target) (λ y. y.prob) (active states t) row reward x

-- the gain is what is earned on a way from t back to t, per step of it; the bias is what a start at s is ahead of one at t
pub record IsEvaluation (states : ℕ → Bool) (row : ℕ → List Entry) (reward : ℕ → ℚ) (t : ℕ) (gain : ℚ) (bias : ℕ → ℚ) : Type 0 where
  pub x : ℕ → ℚ
  pub y : ℕ → ℚ
  pub earned : IsEarned states row t reward x
  pub steps : IsEarned states row t (λ s. of_int (pos 1)) y
  pub gain_is : gain ≡ (reward t +ℚ mean (row t) x) /ℚ (of_int (pos 1) +ℚ mean (row t) y)
  pub bias_is : (s : ℕ) → bias s ≡ x s -ℚ gain *ℚ y s

-- the equations of the gain and the bias: each step earns the gain, as the bias sees it
pub record IsGain (states : ℕ → Bool) (row : ℕ → List Entry) (reward : ℕ → ℚ) (t : ℕ) (gain : ℚ) (bias : ℕ → ℚ) : Type 0 where
  pub reference : bias t ≡ of_int (pos 0)
  pub outside : (s : ℕ) → states s ≡ false → bias s ≡ of_int (pos 0)
  pub step : (s : ℕ) → states s ≡ true → reward s +ℚ mean (row s) bias ≡ gain +ℚ bias s
