-- A reward that is earned and lost again: from state 0 a step earns 5, the next one -5, and then the goal is there. The one policy has earned 5
-- after one step, and 0 from the second step on. So 5 is no greatest reward, and no lower value of it: a policy has to stay close to it.
use Rattle.std.proofs.Common.{◌≡◌, ℕ, zero, suc, ◌<◌, Bool, true, false, true≢false, List, [], ◌∷◌, length, Option, Some, refl, sym, arith, pos}
use Rattle.mdp_math.specs.{Gcd.{gcd, gcd_with_fuel}, Rational.{ℚ, of_int, ratio, ◌+ℚ◌, ◌*ℚ◌, neg_ℚ, le_ℚ, ◌≤ℚ◌}}
use Rattle.mdp_math.proofs.{Order.{≤ℚ_trans, ≤ℚ_of_eq}, Ring.{◌⊕◌, lit}, Linear.{linear, known}}
use Rattle.mdp_spec.specs.{Mdp.{Mdp, choices_at, choice_at, row_at}, Row.{IsRow, IsMdp}, Unit.{reward_of}, Tree.{Tree, IsPolicy, IsStrategy, unfolded, is_marked}}
use Rattle.mdp_spec.specs.{Pay.{pay}, Bounds.{RewardMax, MaxFinite, part}, Between.{RewardMaxBetween, MaxAtLeast}}
use Rattle.mdp_spec.proofs.{Keeping.{HasChoice, Keeps, keeps_of_Fits, unfolded_is_strategy}, Subsystem.{loop_is_row}, Earnings.{pay-goal, pay-end}}
use Rattle.mdp_spec.proofs.{Rows.{row_weigh}, Steps.{at_most_by_steps, keeping_uses, pay_goes}, ExamplesBounds.{below_3}, Small.{number, model, state, to}}

abbrev lost : Mdp
lost = model (state (to 1 (number 5) ∷ []) ∷ state (to 2 (neg_ℚ (number 5)) ∷ []) ∷ state (to 2 (number 0) ∷ []) ∷ [])

abbrev end : List Bool
end = false ∷ false ∷ true ∷ []

lost_model : IsMdp lost
lost_model = record { some = omega arith; few = omega arith; choice = below_3 (λ s. 0 < length (choices_at lost s)) (omega arith) (omega arith) (omega arith); row = rows }
  where
    rows : (s c : ℕ) → s < 3 → c < length (choices_at lost s) → IsRow 3 (row_at lost s c)
    rows zero zero h l = loop_is_row 3 1 (omega arith)
    rows zero (suc c) h l = absurd (omega arith)
    rows (suc zero) zero h l = loop_is_row 3 2 (omega arith)
    rows (suc zero) (suc c) h l = absurd (omega arith)
    rows (suc (suc zero)) zero h l = loop_is_row 3 2 (omega arith)
    rows (suc (suc zero)) (suc c) h l = absurd (omega arith)
    rows (suc (suc (suc s))) c h l = absurd (omega arith)

-- what is earned at most from a state in n steps: 5 from state 0 in one step, -5 from state 1 in one step or more, and 0 elsewhere
first : ℕ → ℚ
first zero = number 0
first (suc zero) = number 5
first (suc (suc n)) = number 0

second : ℕ → ℚ
second zero = number 0
second (suc n) = neg_ℚ (number 5)

most : ℕ → ℕ → ℚ
most n zero = first n
most n (suc zero) = second n
most n (suc (suc s)) = number 0

earned_step : (n s c : ℕ) → s < 3 → is_marked end s ≡ false → c < length (choices_at lost s) → reward_of (choice_at lost s c) 0 +ℚ row_weigh (most n) (row_at lost s c) ≤ℚ most (suc n) s
unfolding gcd gcd_with_fuel ratio of_int ◌+ℚ◌ ◌*ℚ◌ neg_ℚ le_ℚ first second most
earned_step zero zero zero h g l = record { le = tt }
earned_step (suc n) zero zero h g l = record { le = tt }
earned_step n (suc zero) zero h g l = record { le = tt }
earned_step n (suc (suc zero)) c h g l = absurd (true≢false g)
earned_step n zero (suc c) h g l = absurd (omega arith)
earned_step n (suc zero) (suc c) h g l = absurd (omega arith)
earned_step n (suc (suc (suc s))) c h g l = absurd (omega arith)

nought_at_end : (n s : ℕ) → s < 3 → is_marked end s ≡ true → number 0 ≤ℚ most n s
unfolding of_int le_ℚ most
nought_at_end n zero h g = absurd (true≢false (sym g))
nought_at_end n (suc zero) h g = absurd (true≢false (sym g))
nought_at_end n (suc (suc zero)) h g = record { le = tt }
nought_at_end n (suc (suc (suc s))) h g = absurd (omega arith)

nought_at_last : (s : ℕ) → number 0 ≤ℚ most 0 s
unfolding of_int le_ℚ first second most
nought_at_last zero = record { le = tt }
nought_at_last (suc zero) = record { le = tt }
nought_at_last (suc (suc s)) = record { le = tt }

earned_at_most : (n : ℕ) (t : Tree) (s : ℕ) → s < 3 → IsStrategy lost 1 n t s → pay lost 0 end 1 n t s ≤ℚ most n s
earned_at_most n t s h tree =
    at_most_by_steps lost 1 lost_model (omega arith) (is_marked end) (HasChoice lost) (λ s. s < 3) (λ n t s. (s < 3) × Keeps lost (HasChoice lost) 1 n t s)
    (keeping_uses lost 1 (is_marked end) (HasChoice lost) lost_model) (λ x. reward_of x 0) (λ n t s. pay lost 0 end 1 n t s) (pay_goes lost 0 end 1 lost_model (omega arith)) most
    (λ n t s i g. ≤ℚ_trans _ _ _ (≤ℚ_of_eq _ _ (pay-goal lost 0 end 1 n t s (omega arith) g)) (nought_at_end n s i g))
    (λ t s i g. ≤ℚ_trans _ _ _ (≤ℚ_of_eq _ _ (pay-end lost 0 end 1 t s (omega arith))) (nought_at_last s))
    (λ n s c i g ok l. earned_step n s c i g l) n t s (h, keeps_of_Fits lost 1 n t s tree.fits)

-- from the second step on 5 is more than 0 and 1/2
unreached : (n : ℕ) (x : ℚ) → x ≤ℚ most (suc (suc n)) 0 → number 5 ≤ℚ x +ℚ part 2 → ⊥
unfolding gcd gcd_with_fuel ratio of_int ◌+ℚ◌ ◌*ℚ◌ le_ℚ first most
unreached n x below close =
    let h : number 5 ≤ℚ number 0 +ℚ part 2 =
    linear 3 (λ x a b. a) (λ x a b. lit (pos 0) ⊕ b) (λ x a b. known x (lit (pos 0)) ∷ known a (x ⊕ b) ∷ []) refl x (number 5) (part 2) below close in
    h.le

five_not_reached : (policy : List ℕ) → IsPolicy lost policy → MaxAtLeast lost 0 end policy 0 (number 5) → ⊥
five_not_reached policy takes claim =
    let close = MaxAtLeast.close claim 2 (omega arith) in
    let d : ℕ = suc (suc close.0) in
    unreached close.0 (pay lost 0 end 1 d (unfolded lost policy d 0) 0)
    (earned_at_most d (unfolded lost policy d 0) 0 (omega arith) (unfolded_is_strategy lost policy d 0 lost_model takes (omega arith)))
    (close.1 d (omega arith))

five_no_lower : (upper : List (Option ℚ)) (policy : List ℕ) → RewardMaxBetween lost 0 end policy (Some (number 5) ∷ Some (number 0) ∷ Some (number 0) ∷ []) upper → ⊥
five_no_lower upper policy b = five_not_reached policy b.takes (b.at_least 0 (omega arith))

five_not_greatest : (policy : List ℕ) → RewardMax lost 0 end policy (Some (number 5) ∷ Some (number 0) ∷ Some (number 0) ∷ []) → ⊥
five_not_greatest policy b = let v = b.value 0 (omega arith) in five_not_reached policy b.takes (record { arrives = MaxFinite.arrives v; close = MaxFinite.close v })
