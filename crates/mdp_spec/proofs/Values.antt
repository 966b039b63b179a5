-- Values that may be infinite: which are, and the finite ones as numbers.
use Rattle.std.proofs.Common.{◌≡◌, ℕ, zero, suc, ◌<◌, ⊎_elim, Bool, true, false, true≢false, List, [], ◌∷◌, length, Option, Some, None, is_some, not, refl, sym, ◌∙◌, ap, subst, arith}
use Rattle.std.proofs.{lemmas.Bool.{cases_lt}, lemmas.List.{get_or_past}}
use Rattle.std.specs.Prelude.{unwrap_or}
use Rattle.mdp_math.specs.{Rational.{ℚ, ◌≤ℚ◌}, Extremes.{greatest}}
use Rattle.mdp_math.proofs.{Order.{0ℚ, ≤ℚ_of_eq}, Extremes.{greatest-ge}}
use Rattle.mdp_spec.specs.{Mdp.{Mdp, states_of, value_at}, Tree.{is_marked}, Bounds.{greatest_finite, finite_part, reward_at, infinite}}
use Rattle.mdp_spec.specs.RewardRules.{AreRewards}

marked_by : (v : List (Option ℚ)) (s : ℕ) → is_marked (infinite v) s ≡ not (is_some (reward_at v s))
marked_by [] s = refl
marked_by (x ∷ v) zero = refl
marked_by (x ∷ v) (suc s) = marked_by v s

part_by : (v : List (Option ℚ)) (s : ℕ) → value_at (finite_part v) s ≡ unwrap_or (reward_at v s) 0ℚ
part_by [] s = refl
part_by (x ∷ v) zero = refl
part_by (x ∷ v) (suc s) = part_by v s

pub part_of_some : (v : List (Option ℚ)) (s : ℕ) (x : ℚ) → reward_at v s ≡ Some x → value_at (finite_part v) s ≡ x
part_of_some v s x e = part_by v s ∙ ap (λ (o : Option ℚ). unwrap_or o 0ℚ) e

pub finite_of_some : (v : List (Option ℚ)) (s : ℕ) (x : ℚ) → reward_at v s ≡ Some x → is_marked (infinite v) s ≡ false
finite_of_some v s x e = marked_by v s ∙ ap (λ (o : Option ℚ). not (is_some o)) e

pub infinite_of_none : (v : List (Option ℚ)) (s : ℕ) → reward_at v s ≡ None → is_marked (infinite v) s ≡ true
infinite_of_none v s e = marked_by v s ∙ ap (λ (o : Option ℚ). not (is_some o)) e

part_nonneg_by : (m : Mdp) (goals : List Bool) (v : List (Option ℚ)) (ranks : List ℕ) (s : ℕ) (o : Option ℚ) → AreRewards m goals v ranks → s < states_of m → reward_at v s ≡ o
    → 0ℚ ≤ℚ value_at (finite_part v) s
part_nonneg_by m goals v ranks s None are h e = ≤ℚ_of_eq _ _ (sym (part_by v s ∙ ap (λ (o : Option ℚ). unwrap_or o 0ℚ) e))
part_nonneg_by m goals v ranks s (Some x) are h e = subst (λ (w : ℚ). 0ℚ ≤ℚ w) (sym (part_of_some v s x e)) (are.at_least_zero s x h e)

pub part-nonneg : (m : Mdp) (goals : List Bool) (v : List (Option ℚ)) (ranks : List ℕ) (s : ℕ) → AreRewards m goals v ranks → s < states_of m → 0ℚ ≤ℚ value_at (finite_part v) s
part-nonneg m goals v ranks s are h = part_nonneg_by m goals v ranks s (reward_at v s) are h refl

-- no finite value passes the greatest
in_greatest : (z : List ℚ) (s : ℕ) → value_at z s ≤ℚ greatest (0ℚ ∷ z)
in_greatest z s =
    ⊎_elim (λ inside. greatest-ge (0ℚ ∷ z) (suc s) 0ℚ (omega (arith, inside)))
    (λ past. subst (λ (w : ℚ). w ≤ℚ greatest (0ℚ ∷ z)) (sym (get_or_past z s 0ℚ past)) (greatest-ge (0ℚ ∷ z) 0 0ℚ (omega arith)))
    (cases_lt s (length z))

pub part-le_greatest : (v : List (Option ℚ)) (s : ℕ) → value_at (finite_part v) s ≤ℚ greatest_finite v
part-le_greatest v s = in_greatest (finite_part v) s

pub greatest_finite-nonneg : (v : List (Option ℚ)) → 0ℚ ≤ℚ greatest_finite v
greatest_finite-nonneg v = greatest-ge (0ℚ ∷ finite_part v) 0 0ℚ (omega arith)

none_by : (o : Option ℚ) → not (is_some o) ≡ true → o ≡ None
none_by None e = refl
none_by (Some x) e = absurd (true≢false (sym e))

pub none_of_infinite : (v : List (Option ℚ)) (s : ℕ) → is_marked (infinite v) s ≡ true → reward_at v s ≡ None
none_of_infinite v s e = none_by (reward_at v s) (sym (marked_by v s) ∙ e)
