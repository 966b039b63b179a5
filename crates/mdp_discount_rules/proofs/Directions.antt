-- The laws of "no better", for the greatest and for the least alike.
use Rattle.std.proofs.Common.{◌≡◌, ℕ, List, [], ◌∷◌, refl, sym}
use Rattle.mdp_math.specs.{Rational.{ℚ, ◌+ℚ◌, ◌*ℚ◌, ◌≤ℚ◌, ◌<ℚ◌}, Sum.{sum_at, EachAt}}
use Rattle.mdp_math.proofs.{Ring.{◌⊕◌, ◌⊗◌}, Linear.{linear, known, at_most}, Order.{0ℚ, ≤ℚ_trans, ≤ℚ_of_eq, ≤ℚ_antisymm, mul-le-mul_left_ℚ}}
use Rattle.mdp_math.proofs.SumsAt.{sum_at-le, sum_at-weighted_le, sum_at-weighted_ge}
use Rattle.mdp_rows.specs.{declared.dir.Dir.{Dir}, Better.{IsAsGood}, declared.dir.Dir.TheVariants.{Max, Min}}

-- x is no better than y: at most y for the greatest, at least y for the least
abbrev pub NoBetter : Dir → ℚ → ℚ → Type 0
NoBetter dir x y = IsAsGood dir y x

pub no_better_of_eq : (dir : Dir) (x y : ℚ) → x ≡ y → NoBetter dir x y
no_better_of_eq Max x y e = ≤ℚ_of_eq x y e
no_better_of_eq Min x y e = ≤ℚ_of_eq y x (sym e)

pub no_better_trans : (dir : Dir) (x y z : ℚ) → NoBetter dir x y → NoBetter dir y z → NoBetter dir x z
no_better_trans Max x y z p q = ≤ℚ_trans x y z p q
no_better_trans Min x y z p q = ≤ℚ_trans z y x q p

pub no_better_antisymm : (dir : Dir) (x y : ℚ) → NoBetter dir x y → NoBetter dir y x → x ≡ y
no_better_antisymm Max x y p q = ≤ℚ_antisymm x y p q
no_better_antisymm Min x y p q = ≤ℚ_antisymm x y q p

pub no_better_add : (dir : Dir) (x y a : ℚ) → NoBetter dir x y → NoBetter dir (x +ℚ a) (y +ℚ a)
no_better_add Max x y a p = linear 3 (λ x y a. x ⊕ a) (λ x y a. y ⊕ a) (λ x y a. known x y ∷ []) refl x y a p
no_better_add Min x y a p = linear 3 (λ x y a. y ⊕ a) (λ x y a. x ⊕ a) (λ x y a. known y x ∷ []) refl x y a p

-- a gain and a part of what comes after it
pub no_better_after : (dir : Dir) (g k x y : ℚ) → 0ℚ ≤ℚ k → NoBetter dir x y → NoBetter dir (g +ℚ k *ℚ x) (g +ℚ k *ℚ y)
no_better_after Max g k x y h p = linear 4 (λ g k x y. g ⊕ k ⊗ x) (λ g k x y. g ⊕ k ⊗ y) (λ g k x y. at_most k x y ∷ []) refl g k x y h p
no_better_after Min g k x y h p = linear 4 (λ g k x y. g ⊕ k ⊗ y) (λ g k x y. g ⊕ k ⊗ x) (λ g k x y. at_most k y x ∷ []) refl g k x y h p

-- sums
pub no_better_sum : {A : Type 0} (dir : Dir) (xs : List A) (f g : ℕ → A → ℚ) → EachAt xs (λ k x. NoBetter dir (f k x) (g k x)) → NoBetter dir (sum_at xs f) (sum_at xs g)
no_better_sum Max xs f g h = sum_at-le xs f g h
no_better_sum Min xs f g h = sum_at-le xs g f h

pub no_better_product : (dir : Dir) (p x y : ℚ) → 0ℚ ≤ℚ p → NoBetter dir x y → NoBetter dir (p *ℚ x) (p *ℚ y)
no_better_product Max p x y h q = mul-le-mul_left_ℚ p x y h q
no_better_product Min p x y h q = mul-le-mul_left_ℚ p y x h q

pub no_better_weighted : {A : Type 0} (dir : Dir) (xs : List A) (u v : ℕ → A → ℚ) (y : ℚ) → EachAt xs (λ k x. 0ℚ ≤ℚ u k x) → EachAt xs (λ k x. 0ℚ <ℚ u k x → NoBetter dir (v k x) y)
    → NoBetter dir (sum_at xs (λ k x. u k x *ℚ v k x)) (sum_at xs u *ℚ y)
no_better_weighted Max xs u v y h b = sum_at-weighted_le xs u v y h b
no_better_weighted Min xs u v y h b = sum_at-weighted_ge xs u v y h b
