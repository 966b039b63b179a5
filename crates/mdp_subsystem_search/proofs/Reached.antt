-- Where trees of the kept states come to the threshold, so does the best probability on them.
use Rattle.std.proofs.Common.{◌≡◌, ℕ, ◌<◌, Bool, [], ◌∷◌, List, refl, sym, subst, ap, ◌∙◌, arith}
use Rattle.mdp_math.specs.Rational.{ℚ, ◌≤ℚ◌}
use Rattle.mdp_math.proofs.{Ring.{◌⊕◌}, Linear.{linear, known}}
use Rattle.mdp_spec.specs.{Bounds.{Above, ReachMax, ReachMin, SubMax, SubMin, part}, Hit.{hit}, Mdp.{Mdp, states_of, value_at}, Row.{IsMdp}, Sub.{sub_of}, Tree.{unfolded}}
use Rattle.mdp_rows.specs.{declared.dir.Dir.{Dir}, declared.dir.Dir.TheVariants.{Max, Min}}
use Rattle.mdp_reach.specs.Query.{Answer, HasOneEach}
use Rattle.mdp_spec.proofs.{Keeping.{unfolded_is_strategy}, Reach.{le_of_parts}, Subsystem.{sub-states, sub_is_mdp}}

module _ (m : Mdp) (goals kept : List Bool) (start : ℕ) (threshold : ℚ) (z : List ℚ) (policy : List ℕ) (known_ : IsMdp m) where
  abbrev inside : start < states_of m → start < states_of (sub_of m goals kept)
  inside h = subst (λ (n : ℕ). start < n) (sym (sub-states m goals kept)) h

  pub greatest_reached : SubMax m goals kept start threshold → ReachMax (sub_of m goals kept) goals z policy → threshold ≤ℚ value_at z start
  greatest_reached r best =
      le_of_parts threshold (value_at z start)
      (λ k hk.
      let c = r.close k hk in
      let a = Above.above best.above c.0 c.1 c.2 start (inside r.starts) c.3 in
      linear 4 (λ z w x q. z) (λ z w x q. w ⊕ q) (λ z w x q. known z (x ⊕ q) ∷ known x w ∷ []) refl threshold (value_at z start) (hit (sub_of m goals kept) goals c.1 c.0 c.2 start) (part k) c.4 a)

  pub least_reached : SubMin m goals kept start threshold → ReachMin (sub_of m goals kept) goals z policy → threshold ≤ℚ value_at z start
  least_reached r best =
      let sub = sub_of m goals kept in
      let h = inside r.starts in
      le_of_parts threshold (value_at z start)
      (λ k hk.
      let c = r.close k hk in
      let b = best.below c.0 start h in
      let a = c.1 c.0 1 (unfolded sub policy c.0 start) (omega arith) (unfolded_is_strategy sub policy c.0 start (sub_is_mdp m goals kept known_) best.takes h) in
      linear 4 (λ z w x q. z) (λ z w x q. w ⊕ q) (λ z w x q. known z (x ⊕ q) ∷ known x w ∷ []) refl threshold (value_at z start) (hit sub goals 1 c.0 (unfolded sub policy c.0 start) start) (part k) a b)

pub reached_by : (dir : Dir) (m sub : Mdp) (goals kept other : List Bool) (start : ℕ) (threshold : ℚ) (z : List ℚ) (policy : List ℕ) → IsMdp m → sub ≡ sub_of m goals kept → kept ≡ other
    → (dir ≡ Max → SubMax m goals other start threshold) → (dir ≡ Min → SubMin m goals other start threshold) → (dir ≡ Max → ReachMax sub goals z policy)
    → (dir ≡ Min → ReachMin sub goals z policy) → threshold ≤ℚ value_at z start
reached_by Max m sub goals kept other start threshold z policy known_ e f max min best least =
    greatest_reached m goals kept start threshold z policy known_ (subst (λ (k : List Bool). SubMax m goals k start threshold) (sym f) (max refl))
    (subst (λ (x : Mdp). ReachMax x goals z policy) e (best refl))
reached_by Min m sub goals kept other start threshold z policy known_ e f max min best least =
    least_reached m goals kept start threshold z policy known_ (subst (λ (k : List Bool). SubMin m goals k start threshold) (sym f) (min refl))
    (subst (λ (x : Mdp). ReachMin x goals z policy) e (least refl))

pub sizes_on : (m sub : Mdp) (goals kept : List Bool) (a : Answer) → sub ≡ sub_of m goals kept → HasOneEach sub a → HasOneEach m a
sizes_on m sub goals kept a e each =
    let size : states_of sub ≡ states_of m = ap states_of e ∙ sub-states m goals kept in
    record { values = each.values ∙ size; choices = each.choices ∙ size; ranks = each.ranks ∙ size }
