-- The common unit is above 0, and each denominator of the model divides it; so a weight is a probability times the unit.
use Rattle.std.proofs.Common.{◌≡◌, ℕ, zero, suc, ◌*◌, ◌/◌, ◌<◌, List, [], ◌∷◌, get_or, refl, ◌∙◌, ap, arith, ℤ, pos, negsuc, ◌*ℤ◌, ◌≤ℤ◌, unsigned_abs}
use Rattle.std.proofs.{lemmas.Int.{ints}, Math.Nat.{dvd_refl, dvd_trans, dvd-mul_left, dvd-mul_right, mul-div_cancel', one-le-mul}}
use Rattle.std.specs.Int.{◌∣◌}
use Rattle.mdp_math.specs.{Rational.{ℚ, of_int, ◌+ℚ◌, ◌*ℚ◌, ◌≤ℚ◌}, Sum.{sum_at, EachAt}}
use Rattle.mdp_math.proofs.{Lcm.{lcm-left, lcm-right, lcm-pos}, Laws.{den-pos, is_self, is_of_int, is_mul, same_is}, Order.{0ℚ, nonneg}, Whole.{of_nat-add}}
use Rattle.mdp_spec.specs.{Mdp.{Entry, Choice, State, Mdp, choices_at, no_state}, Unit.{row_den, unit_of_choices, unit_of_states, unit_of, weight_of, count_at}}

pub row_den-pos : (row : List Entry) → 0 < row_den row
row_den-pos [] = omega arith
row_den-pos (x ∷ row) = lcm-pos (row_den row) x.prob.den (row_den-pos row) (den-pos x.prob)

choices-pos : (choices : List Choice) → 0 < unit_of_choices choices
choices-pos [] = omega arith
choices-pos (x ∷ choices) = one-le-mul (row_den-pos x.row) (choices-pos choices)

states-pos : (states : List State) → 0 < unit_of_states states
states-pos [] = omega arith
states-pos (x ∷ states) = one-le-mul (choices-pos x.choices) (states-pos states)

pub unit_of-pos : (m : Mdp) → 0 < unit_of m
unfolding unit_of
unit_of-pos m = states-pos m.states

-- each denominator divides what the row's least common denominator divides
pub row-divides : (row : List Entry) (k : ℕ) → row_den row ∣ k → EachAt row (λ e y. y.prob.den ∣ k)
row-divides [] k d = tt
row-divides (x ∷ row) k d =
    (dvd_trans _ (lcm-right (row_den row) x.prob.den) d, row-divides row k (dvd_trans _ (lcm-left (row_den row) x.prob.den) d))

choices-divide : (choices : List Choice) (k : ℕ) → unit_of_choices choices ∣ k → EachAt choices (λ c x. EachAt x.row (λ e y. y.prob.den ∣ k))
choices-divide [] k d = tt
choices-divide (x ∷ choices) k d = (
  row-divides x.row k (dvd_trans _ (dvd-mul_right (row_den x.row) (unit_of_choices choices)) d),
  choices-divide choices k (dvd_trans _ (dvd-mul_left (unit_of_choices choices) (row_den x.row)) d),
)

states-divide : (states : List State) (k s : ℕ) → unit_of_states states ∣ k → EachAt (State.choices (get_or states s no_state)) (λ c x. EachAt x.row (λ e y. y.prob.den ∣ k))
states-divide [] k s d = tt
states-divide (x ∷ states) k zero d = choices-divide x.choices k (dvd_trans _ (dvd-mul_right (unit_of_choices x.choices) (unit_of_states states)) d)
states-divide (x ∷ states) k (suc s) d = states-divide states k s (dvd_trans _ (dvd-mul_left (unit_of_states states) (unit_of_choices x.choices)) d)

-- the unit is a multiple of each denominator
pub den-divides_unit : (m : Mdp) (s : ℕ) → EachAt (choices_at m s) (λ c x. EachAt x.row (λ e y. y.prob.den ∣ unit_of m))
unfolding unit_of
den-divides_unit m s = states-divide m.states (unit_of_states m.states) s (dvd_refl _)

weight_terms : (n : ℤ) (d k q : ℕ) → pos 0 ≤ℤ n → d * q ≡ k → pos (unsigned_abs n * q) *ℤ pos (d * 1) ≡ (n *ℤ pos k) *ℤ pos 1
weight_terms (pos a) d k q h e = let f : a * (d * q) ≡ a * k = ap (λ i. a * i) e in omega (arith, ints)
weight_terms (negsuc a) d k q h e = absurd h.le

-- a weight is the probability times the unit
pub of_nat-weight_of : (m : Mdp) (y : Entry) → 0ℚ ≤ℚ y.prob → y.prob.den ∣ unit_of m → of_int (pos (weight_of m y)) ≡ y.prob *ℚ of_int (pos (unit_of m))
of_nat-weight_of m y h d =
    same_is _ _ _ _ _ _ (is_of_int (pos (weight_of m y))) (is_mul _ _ _ _ _ _ (is_self y.prob) (is_of_int (pos (unit_of m))))
    (weight_terms y.prob.num y.prob.den (unit_of m) (unit_of m / y.prob.den) (nonneg y.prob h) (mul-div_cancel' y.prob.den d))

-- a sum of whole numbers by place
pub of_nat-count_at : {A : Type 0} (xs : List A) (f : ℕ → A → ℕ) → of_int (pos (count_at xs f)) ≡ sum_at xs (λ k x. of_int (pos (f k x)))
of_nat-count_at [] f = refl
of_nat-count_at (x ∷ xs) f = of_nat-add (f 0 x) (count_at xs (λ k y. f (suc k) y)) ∙ ap (λ (s : ℚ). of_int (pos (f 0 x)) +ℚ s) (of_nat-count_at xs (λ k y. f (suc k) y))
