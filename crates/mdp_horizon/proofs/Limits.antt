-- With more and more steps the probabilities of a bounded until come to those of the until without end.
use Rattle.std.proofs.Common.{[], ◌∷◌, refl, subst}
use Rattle.mdp_math.specs.Rational.{ℚ, ◌+ℚ◌, ◌≤ℚ◌}
use Rattle.mdp_math.proofs.{Order.{≤ℚ_trans}, Ring.{◌⊕◌}, Linear.{linear, known}}
use Rattle.mdp_spec.specs.{Mdp.{value_at}, Tree.{unfolded}, Bounds.{part}, Until.{until}}
use Rattle.mdp_spec.proofs.Keeping.{unfolded_is_strategy}
use Rattle.mdp_horizon.specs.{Table.{unfolded_steps}, Laws.{GreatestComeClose, LeastComeClose}}
use Rattle.mdp_horizon.proofs.Backward.{unfolded_steps_is_strategy}

close_by : (z w x q : ℚ) → z ≤ℚ x +ℚ q → x ≤ℚ w → z ≤ℚ w +ℚ q
close_by z w x q close below = linear 4 (λ z w x q. z) (λ z w x q. w ⊕ q) (λ z w x q. known z (x ⊕ q) ∷ known x w ∷ []) refl z w x q close below

pub greatest_come_close : GreatestComeClose
greatest_come_close m stay goals z policy s is r h = (
  λ n w table b. subst (λ (x : ℚ). x ≤ℚ value_at z s) (b.reached s h) (r.above n 1 (unfolded_steps m table s) s h (unfolded_steps_is_strategy m n table s is b.takes h)),
  λ k hk.
      let c = r.close s k h hk in (
        c.0,
        λ w table b.
            close_by (value_at z s) (value_at w s) (until m stay goals 1 c.0 (unfolded m policy c.0 s) s) (part k) c.1
            (b.above 1 (unfolded m policy c.0 s) s h (unfolded_is_strategy m policy c.0 s is r.takes h)),
      ),
)

pub least_come_close : LeastComeClose
least_come_close m stay goals z policy s is r h = (
  λ n w table b. ≤ℚ_trans _ _ _ (b.below 1 (unfolded m policy n s) s h (unfolded_is_strategy m policy n s is r.takes h)) (r.below n s h),
  λ k hk.
      let c = r.close s k h hk in (
        c.0,
        λ d w table l b.
            subst (λ (x : ℚ). value_at z s ≤ℚ x +ℚ part k) (b.reached s h) (c.1 d 1 (unfolded_steps m table s) l (unfolded_steps_is_strategy m d table s is b.takes h)),
      ),
)
