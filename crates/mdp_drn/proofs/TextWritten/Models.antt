-- What a model keeps, state by state, that its text needs.
use Rattle.std.proofs.Common.{◌≡◌, ℕ, suc, ◌+◌, ◌*◌, ◌/◌, ◌<◌, ◌≤◌, Bool, true, false, cond, eqb, ltb}
use Rattle.std.proofs.Common.{List, [], ◌∷◌, length, get_or, subst, ◌∙◌, arith, lit<, ℤ, pos, ◌*ℤ◌, ◌≤ℤ◌, unsigned_abs}
use Rattle.std.proofs.{Math.Nat.{mul-le-mul_left, mul-le-mul_right, div-mul_cancel, one-le-mul}, lemmas.Bool.Decides.{nat_tests}, lemmas.Int.{ints}}
use Rattle.std.specs.List.{All}
use Rattle.mdp_math.specs.{Gcd.{gcd, gcd_is, gcd-le_right}, Rational.{ℚ, ◌+ℚ◌, ◌≤ℚ◌, quotient-pos}, Sum.{sum_of}}
use Rattle.mdp_math.proofs.Laws.{den-pos, zero-+ℚ, +ℚ_comm, num-of_int, den-of_int}
use Rattle.mdp_math.proofs.{Order.{0ℚ, 1ℚ, nonneg, le_across, ≤ℚ_refl, ≤ℚ_trans, ≤ℚ_of_eq, add-le-add_ℚ}, Sums.{sum_of-nonneg}}
use Rattle.mdp_num.specs.{Meaning.{IsWithinLimit}, Numeral.{limit}}
use Rattle.mdp_spec.specs.{Mdp.{Entry, Choice, State, Mdp, states_of, choices_at, no_choice, no_state}, Row.{IsRow}, Unit.{lcm, row_den}}
use Rattle.mdp_spec.proofs.Rows.{probs_nonneg}
use Rattle.mdp_rows.specs.{Limits.{known_after, all_below, in_order_of_sight, HasSmallTerms, IsChoiceWithin, IsStateWithin, IsModel}, Name.{IsName}}
use Rattle.mdp_drn.proofs.{TextWritten.Bytes.{and-parts}, TextWritten.Labels.{label-of, AreLabels, names_at}}

-- P holds of each element
abbrev pub Each : {A : Type 0} → (A → Type 0) → List A → Type 0
Each P [] = Unit {0}
Each P (x ∷ xs) = P x × Each P xs

each-by : {A : Type 0} (P : A → Type 0) (xs : List A) (d : A) → ((k : ℕ) → k < length xs → P (get_or xs k d)) → Each P xs
each-by P [] d h = tt
each-by P (x ∷ xs) d h = (h 0 (omega arith), each-by P xs d (λ k lt. h (suc k) (omega arith)))

each-both : {A : Type 0} (P Q R : A → Type 0) → ((x : A) → P x → Q x → R x) → (xs : List A) → Each P xs → Each Q xs → Each R xs
each-both P Q R f [] h k = tt
each-both P Q R f (x ∷ xs) h k = (f x h.0 k.0, each-both P Q R f xs h.1 k.1)

-- ---- the denominators of a row

row_den-pos : (row : List Entry) → 0 < row_den row
row_den-pos [] = lit< tt
row_den-pos (x ∷ row) = one-le-mul (quotient-pos (row_den row) (gcd (row_den row) x.prob.den) (row_den-pos row) (gcd_is (row_den row) x.prob.den).0) (den-pos x.prob)

lcm-left : (a b : ℕ) → 0 < b → a ≤ lcm a b
lcm-left a b p =
    let e : a / gcd a b * gcd a b ≡ a = div-mul_cancel (gcd a b) (gcd_is a b).0 in
    let m : a / gcd a b * gcd a b ≤ a / gcd a b * b = mul-le-mul_left (a / gcd a b) (gcd-le_right a b p) in
    omega (arith, e, m)

lcm-right : (a b : ℕ) → 0 < a → b ≤ lcm a b
lcm-right a b p =
    let q = quotient-pos a (gcd a b) p (gcd_is a b).0 in
    let m : 1 * b ≤ a / gcd a b * b = mul-le-mul_right b q in
    omega (arith, m)

abbrev IsDenWithin : ℕ → Entry → Type 0
IsDenWithin k x = x.prob.den ≤ k

dens : (row : List Entry) (k : ℕ) → row_den row ≤ k → Each (IsDenWithin k) row
dens [] k h = tt
dens (x ∷ row) k h = (
  omega (arith, lcm-right (row_den row) x.prob.den (row_den-pos row), h),
  dens row k (omega (arith, lcm-left (row_den row) x.prob.den (den-pos x.prob), h)),
)

-- ---- the probabilities of a row

abbrev prob : Entry → ℚ
prob x = x.prob

right-zero : (x : ℚ) → x +ℚ 0ℚ ≡ x
right-zero x = +ℚ_comm x 0ℚ ∙ zero-+ℚ x

first-le : (x s : ℚ) → 0ℚ ≤ℚ s → x ≤ℚ (x +ℚ s)
first-le x s h = subst (λ (y : ℚ). y ≤ℚ (x +ℚ s)) (right-zero x) (add-le-add_ℚ x x 0ℚ s (≤ℚ_refl x) h)

second-le : (x s : ℚ) → 0ℚ ≤ℚ x → s ≤ℚ (x +ℚ s)
second-le x s h = subst (λ (y : ℚ). y ≤ℚ (x +ℚ s)) (zero-+ℚ s) (add-le-add_ℚ 0ℚ x s s h (≤ℚ_refl s))

abbrev IsProb : Entry → Type 0
IsProb x = (0ℚ ≤ℚ x.prob) × (x.prob ≤ℚ 1ℚ)

probs : (row : List Entry) → All (λ y. 0ℚ ≤ℚ y.prob) row → sum_of (λ x. x.prob) row ≤ℚ 1ℚ → Each IsProb row
probs [] h le = tt
probs (x ∷ row) h le =
    let first : 0ℚ ≤ℚ x.prob = h 0 x (omega arith) in
    let rest : All (λ y. 0ℚ ≤ℚ y.prob) row = λ k d lt. h (suc k) d (omega arith) in
    let s : ℚ = sum_of (λ x. x.prob) row in
    let some : 0ℚ ≤ℚ sum_of (λ x. x.prob) row = sum_of-nonneg (λ x. x.prob) row rest in (
      (first, ≤ℚ_trans x.prob (x.prob +ℚ sum_of (λ x. x.prob) row) 1ℚ (first-le x.prob (sum_of (λ x. x.prob) row) some) le),
      probs row rest (≤ℚ_trans (sum_of (λ x. x.prob) row) (x.prob +ℚ sum_of (λ x. x.prob) row) 1ℚ (second-le x.prob (sum_of (λ x. x.prob) row) first) le),
    )

num-le : (z : ℤ) (d : ℕ) → pos 0 ≤ℤ z → (z *ℤ pos 1) ≤ℤ (pos 1 *ℤ pos d) → unsigned_abs z ≤ d
num-le z d h k = omega (arith, ints)

prob-within : (x : Entry) → IsProb x → IsDenWithin limit x → IsWithinLimit x.prob
prob-within x p d =
    let e = le_across x.prob 1ℚ p.1 in
    let f : (ℚ.num x.prob *ℤ pos 1) ≤ℤ (pos 1 *ℤ pos (ℚ.den x.prob)) =
    subst (λ (n : ℤ). (ℚ.num x.prob *ℤ pos 1) ≤ℤ (n *ℤ pos (ℚ.den x.prob))) (num-of_int (pos 1))
    (subst (λ (k : ℕ). (ℚ.num x.prob *ℤ pos k) ≤ℤ (ℚ.num 1ℚ *ℤ pos (ℚ.den x.prob))) (den-of_int (pos 1)) e) in
    let n = num-le (ℚ.num x.prob) (ℚ.den x.prob) (nonneg x.prob p.0) f in
    record { nonnegative = p.0; num = omega (arith, n, d); den = d }

-- ---- choices and states

abbrev pub IsEntryFit : Entry → Type 0
IsEntryFit x = IsWithinLimit x.prob

pub record IsChoiceFit (names : ℕ) (c : Choice) : Type 0 where
  pub as_many : length c.rewards ≡ names
  pub rewards : All HasSmallTerms c.rewards
  pub row : Each IsEntryFit c.row

pub record IsStateFit (m : Mdp) (x : State) : Type 0 where
  pub labels : AreLabels (names_at m.labels x.labels)
  pub few_labels : length x.labels ≤ 64
  pub choices : Each (IsChoiceFit (length m.names)) x.choices

choice-fit : (n names : ℕ) (c : Choice) → IsChoiceWithin names c → IsRow n c.row → IsChoiceFit names c
choice-fit n names c w r = record {
  as_many = w.rewards;
  rewards = w.terms;
  row = each-both IsProb (IsDenWithin limit) IsEntryFit prob-within c.row
      (probs c.row (probs_nonneg n c.row r) (≤ℚ_of_eq (sum_of (λ x. x.prob) c.row) 1ℚ r.distribution.total)) (dens c.row limit w.den);
}

-- ---- labels

abbrev pub AreBelow : ℕ → List ℕ → Type 0
AreBelow n places = Each (λ l. l < n) places

below-parts : (n k : ℕ) (places : List ℕ) → n ≤ k → all_below n places ≡ true → AreBelow k places
below-parts n k [] le h = tt
below-parts n k (l ∷ places) le h = let a = and-parts (ltb l n) (all_below n places) h in (less l n k le a.0, below-parts n k places le a.1)
  where
    less : (l n k : ℕ) → n ≤ k → ltb l n ≡ true → l < k
    less l n k le h = grind (arith, nat_tests)

known-le : (n : ℕ) (places : List ℕ) → n ≤ known_after n places
known-le n [] = omega arith
known-le n (l ∷ places) = by (eqb l n) (known-le (n + 1) places) (known-le n places)
  where
    by : (b : Bool) → n + 1 ≤ known_after (n + 1) places → n ≤ known_after n places → n ≤ known_after (cond b (n + 1) n) places
    by true p q = omega (arith, p)
    by false p q = q

abbrev pub AreLabelsBelow : ℕ → State → Type 0
AreLabelsBelow n x = AreBelow n x.labels

pub sight-below : (n total : ℕ) (states : List State) → in_order_of_sight n states total ≡ true → (n ≤ total) × Each (AreLabelsBelow total) states
sight-below n total [] h = (same n total h, tt)
  where
    same : (n k : ℕ) → eqb n k ≡ true → n ≤ k
    same n k h = grind (arith, nat_tests)
sight-below n total (x ∷ states) h =
    let a = and-parts (all_below (known_after n x.labels) x.labels) (in_order_of_sight (known_after n x.labels) states total) h in
    let r = sight-below (known_after n x.labels) total states a.1 in
    (omega (arith, known-le n x.labels, r.0), (below-parts (known_after n x.labels) total x.labels r.0 a.0, r.1))

labels-at : (labels : List (List ℕ)) (places : List ℕ) → All IsName labels → AreBelow (length labels) places → AreLabels (names_at labels places)
labels-at labels [] h k = tt
labels-at labels (l ∷ places) h k = (label-of (get_or labels l []) (h l [] k.0), labels-at labels places h k.1)

-- ---- the model

abbrev IsWithin : Mdp → State → Type 0
IsWithin m x = IsStateWithin (length m.names) x × Each (IsChoiceFit (length m.names)) x.choices

within-at : (m : Mdp) → IsModel m → (s : ℕ) → s < length m.states → IsWithin m (get_or m.states s no_state)
within-at m h s lt =
    let w : IsStateWithin (length m.names) (get_or m.states s no_state) = h.states s no_state lt in (
      w,
      each-by (IsChoiceFit (length m.names)) (choices_at m s) no_choice
          (λ c l. choice-fit (states_of m) (length m.names) (get_or (choices_at m s) c no_choice) (w.choices c no_choice l) (h.mdp.row s c lt l)),
    )

state-fit : (m : Mdp) → All IsName m.labels → (x : State) → IsWithin m x → AreLabelsBelow (length m.labels) x → IsStateFit m x
state-fit m names x w b = record { labels = labels-at m.labels x.labels names b; few_labels = w.0.few_labels; choices = w.1 }

pub states-fit : (m : Mdp) → IsModel m → Each (IsStateFit m) m.states
states-fit m h =
    each-both (IsWithin m) (AreLabelsBelow (length m.labels)) (IsStateFit m) (state-fit m h.labels) m.states
    (each-by (IsWithin m) m.states no_state (within-at m h)) (sight-below 0 (length m.labels) m.states h.sight).1
