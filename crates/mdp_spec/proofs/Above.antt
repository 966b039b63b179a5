-- Values that no tree passes: at a goal they are at least 1, and elsewhere at least the sum over the row of each choice that the trees use.
use Rattle.std.proofs.Common.{◌≡◌, ℕ, ◌<◌, ◌≤◌, Bool, true, false, List, length, sym, subst}
use Rattle.mdp_math.specs.Rational.{ℚ, ◌≤ℚ◌}
use Rattle.mdp_math.proofs.{Order.{0ℚ, 1ℚ, ≤ℚ_trans, ≤ℚ_refl, ≤ℚ_of_eq, ≤ℚ_of_lt, ratio-nonneg}, Laws.{zero-+ℚ}, Whole.{one-pos}}
use Rattle.mdp_spec.specs.{Mdp.{Mdp, states_of, choices_at, row_at}, Row.{IsMdp}, Tree.{Tree, Fits, is_marked}, Hit.{hit}}
pub use Rattle.mdp_spec.proofs.Rows.{row_weigh, row_sum-le}
use Rattle.mdp_spec.proofs.{Rows.{row_weigh-const}, Steps.{at_most_by_steps, keeping_uses, hit_goes}, Hits.{hit-goal, hit-end, paths-pos}}
use Rattle.mdp_spec.proofs.Keeping.{Keeps, HasChoice, keeps_of_Fits}

pub hit-nonneg : (m : Mdp) (goals : List Bool) (u n : ℕ) (t : Tree) (s : ℕ) → 1 ≤ u → 0ℚ ≤ℚ hit m goals u n t s
unfolding hit
hit-nonneg m goals u n t s h = ratio-nonneg _ _ (paths-pos m u n h)

module _ (m : Mdp) (goals : List Bool) (u : ℕ) (known : IsMdp m) (hu : 1 ≤ u) (P : ℕ → ℕ → Type 0) (z : ℕ → ℚ)
    (nonneg : (s : ℕ) → s < states_of m → 0ℚ ≤ℚ z s)
    (at_goal : (s : ℕ) → s < states_of m → is_marked goals s ≡ true → 1ℚ ≤ℚ z s)
    (at_choice : (s c : ℕ) → s < states_of m → is_marked goals s ≡ false → P s c → c < length (choices_at m s) → row_weigh z (row_at m s c) ≤ℚ z s) where
  pub hit-le_by : (n : ℕ) (t : Tree) (s : ℕ) → s < states_of m → Keeps m P u n t s → hit m goals u n t s ≤ℚ z s
  hit-le_by n t s h keeps =
      at_most_by_steps m u known hu (is_marked goals) P (λ s. s < states_of m) (λ n t s. (s < states_of m) × Keeps m P u n t s) (keeping_uses m u (is_marked goals) P known)
      (λ x. 0ℚ) (λ n t s. hit m goals u n t s) (hit_goes m goals u known hu) (λ n s. z s)
      (λ n t s h g. ≤ℚ_trans _ _ _ (≤ℚ_of_eq _ _ (hit-goal m goals u n t s hu g)) (at_goal s h g))
      (λ t s h g. ≤ℚ_trans _ _ _ (≤ℚ_of_eq _ _ (hit-end m goals u t s hu g)) (nonneg s h))
      (λ n s c h g ok i. subst (λ (w : ℚ). w ≤ℚ z s) (sym (zero-+ℚ (row_weigh z (row_at m s c)))) (at_choice s c h g ok i))
      n t s (h, keeps)

-- hits are probabilities: at least 0, as above, and at most 1
pub hit-le_one : (m : Mdp) (goals : List Bool) (u n : ℕ) (t : Tree) (s : ℕ) → IsMdp m → 1 ≤ u → s < states_of m → Fits m u n t s → hit m goals u n t s ≤ℚ 1ℚ
hit-le_one m goals u n t s known hu h fits =
    hit-le_by m goals u known hu (HasChoice m) (λ v. 1ℚ) (λ v l. ≤ℚ_of_lt 0ℚ 1ℚ one-pos) (λ v l g. ≤ℚ_refl 1ℚ)
    (λ v c l g k i. ≤ℚ_of_eq _ _ (row_weigh-const (states_of m) (row_at m v c) 1ℚ (IsMdp.row known v c l i))) n t s h (keeps_of_Fits m u n t s fits)
