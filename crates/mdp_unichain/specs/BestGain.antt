-- A gain with a bias and a choice for each state, as the optimality equation has them.
use Rattle.std.specs.Prelude.{◌≡◌, ℕ, true}
use Rattle.mdp_math.specs.Rational.{ℚ, ◌+ℚ◌}
use Rattle.mdp_unichain.specs.{Chain.{AllLeadTo}, Component.{Component, Choice, choice_at, IsInner, is_state}, Improvement.{worth, NoneBetter}}

pub record HasBestGain (p : Component) (gain : ℚ) (bias : ℕ → ℚ) (choice : ℕ → ℕ) : Type 0 where
  pub takes : (s : ℕ) → is_state p s ≡ true → IsInner p s (choice s)
  pub none_better : NoneBetter p gain bias
  pub earns : (s : ℕ) → is_state p s ≡ true → worth bias (choice_at p s (choice s)) ≡ gain +ℚ bias s
  pub one_class : (t : ℕ) × AllLeadTo (is_state p) (λ s. Choice.row (choice_at p s (choice s))) t
