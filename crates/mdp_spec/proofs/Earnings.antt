-- What a tree earns, by its first step: nothing at a goal or where the tree ends, and at a node the average over the choices, by the
-- weights, of the choice's reward and the sum over the row of probability times what the entry's tree earns.
use Rattle.std.proofs.Common.{◌≡◌, ℕ, zero, suc, ◌*◌, ◌<◌, ◌≤◌, Bool, true, false, cond, List, [], ◌∷◌, get_or, refl, sym, ◌∙◌, ap, arith, ℤ, pos, ◌*ℤ◌}
use Rattle.std.proofs.{lemmas.Int.{ints}, Math.Nat.{dvd_refl, dvd_trans, dvd-mul_left, dvd-mul_right, mul-div_cancel', one-le-mul}}
use Rattle.std.specs.Int.{◌∣◌}
use Rattle.mdp_math.specs.{Integers.{*ℤ_assoc}, Rational.{ℚ, of_int, ratio, ◌+ℚ◌, ◌*ℚ◌, ◌≤ℚ◌}, Sum.{sum_at, EachAt}}
use Rattle.mdp_math.proofs.{Ring.{◌⊕◌, ◌⊗◌, ring}, Laws.{rat_ring, den-pos, is_self, is_of_int, is_mul, same_is, of_int-+ℤ, of_int-*ℤ}, Order.{0ℚ, div-of_int}}
use Rattle.mdp_math.proofs.{Whole.{of_nat-mul}, SumsAt.{sum_at-same, sum_at-scale_right, EachAt_mono, EachAt_both}}
use Rattle.mdp_spec.specs.{Mdp.{Entry, Choice, State, Mdp, states_of, choices_at, no_state}, Row.{IsRow, IsMdp}}
use Rattle.mdp_spec.specs.Unit.{unit_of, weight_of, reward_of, scale_of_choices, scale_of_states, scale_of, whole_reward, total_at}
use Rattle.mdp_spec.specs.{Tree.{Tree, paths, is_marked}, Tree.Tree.{leaf, node}, Pay.{earned, pays, pay, totals, total}}
use Rattle.mdp_spec.proofs.{Units.{den-divides_unit, of_nat-weight_of}, Rows.{rows_known, nonneg_at}}
use Rattle.mdp_spec.proofs.Hits.{share, paths-pos, of_nat-paths_suc, ratio-is, ratio-none}

-- ---- the scale of the rewards

choices-scale_pos : (choices : List Choice) (k : ℕ) → 0 < scale_of_choices choices k
choices-scale_pos [] k = omega arith
choices-scale_pos (x ∷ choices) k = one-le-mul (den-pos (reward_of x k)) (choices-scale_pos choices k)

states-scale_pos : (states : List State) (k : ℕ) → 0 < scale_of_states states k
states-scale_pos [] k = omega arith
states-scale_pos (x ∷ states) k = one-le-mul (choices-scale_pos x.choices k) (states-scale_pos states k)

pub scale_of-pos : (m : Mdp) (k : ℕ) → 0 < scale_of m k
unfolding scale_of
scale_of-pos m k = states-scale_pos m.states k

choices-divide_scale : (choices : List Choice) (k n : ℕ) → scale_of_choices choices k ∣ n → EachAt choices (λ c x. (reward_of x k).den ∣ n)
choices-divide_scale [] k n d = tt
choices-divide_scale (x ∷ choices) k n d = (
  dvd_trans _ (dvd-mul_right (reward_of x k).den (scale_of_choices choices k)) d,
  choices-divide_scale choices k n (dvd_trans _ (dvd-mul_left (scale_of_choices choices k) (reward_of x k).den) d),
)

states-divide_scale : (states : List State) (k n s : ℕ) → scale_of_states states k ∣ n → EachAt (State.choices (get_or states s no_state)) (λ c x. (reward_of x k).den ∣ n)
states-divide_scale [] k n s d = tt
states-divide_scale (x ∷ states) k n zero d = choices-divide_scale x.choices k n (dvd_trans _ (dvd-mul_right (scale_of_choices x.choices k) (scale_of_states states k)) d)
states-divide_scale (x ∷ states) k n (suc s) d = states-divide_scale states k n s (dvd_trans _ (dvd-mul_left (scale_of_states states k) (scale_of_choices x.choices k)) d)

-- the scale is a multiple of the denominator of each reward
pub den-divides_scale : (m : Mdp) (k s : ℕ) → EachAt (choices_at m s) (λ c x. (reward_of x k).den ∣ scale_of m k)
unfolding scale_of
den-divides_scale m k s = states-divide_scale m.states k (scale_of_states m.states k) s (dvd_refl _)

reward_factor : (d k q : ℕ) → d * q ≡ k → pos q *ℤ pos (d * 1) ≡ pos k *ℤ pos 1
reward_factor d k q e = omega (arith, ints)

-- a reward in parts of the scale
pub of_int-whole_reward : (m : Mdp) (k : ℕ) (x : Choice) → (reward_of x k).den ∣ scale_of m k → of_int (whole_reward m k x) ≡ reward_of x k *ℚ of_int (pos (scale_of m k))
of_int-whole_reward m k x d =
    let r : ℚ = reward_of x k in
    same_is _ _ _ _ _ _ (is_of_int (whole_reward m k x)) (is_mul _ _ _ _ _ _ (is_self (reward_of x k)) (is_of_int (pos (scale_of m k))))
    (*ℤ_assoc (ℚ.num (reward_of x k)) _ _
    ∙ ap (λ (i : ℤ). ℚ.num (reward_of x k) *ℤ i) (reward_factor (ℚ.den (reward_of x k)) (scale_of m k) _ (mul-div_cancel' (ℚ.den (reward_of x k)) d))
    ∙ sym (*ℤ_assoc (ℚ.num (reward_of x k)) (pos (scale_of m k)) (pos 1)))

-- a sum of integers by place
pub of_int-total_at : {A : Type 0} (xs : List A) (f : ℕ → A → ℤ) → of_int (total_at xs f) ≡ sum_at xs (λ k x. of_int (f k x))
of_int-total_at [] f = refl
of_int-total_at (x ∷ xs) f = of_int-+ℤ (f 0 x) (total_at xs (λ k y. f (suc k) y)) ∙ ap (λ (s : ℚ). of_int (f 0 x) +ℚ s) (of_int-total_at xs (λ k y. f (suc k) y))

-- ---- at a node

-- the average over the choices of state s of the reward and the sum over the row of f at the choice's place and the entry's place
abbrev pub earning : Mdp → ℕ → ℕ → (ℕ → ℕ) → (ℕ → ℕ → Entry → ℚ) → ℕ → ℚ
earning m k u weights f s = sum_at (choices_at m s) (λ c x. share u weights c *ℚ (reward_of x k +ℚ sum_at x.row (λ e y. y.prob *ℚ f c e y)))

pub row_earned : (m : Mdp) (k n : ℕ) (d : ℚ) (row : List Entry) (behind : ℕ → Entry → ℤ) (f : ℕ → Entry → ℚ) → IsRow n row → EachAt row (λ e y. y.prob.den ∣ unit_of m)
    → ((e : ℕ) (y : Entry) → of_int (behind e y) ≡ f e y *ℚ d)
    → of_int (total_at row (λ e y. pos (weight_of m y) *ℤ behind e y)) ≡ sum_at row (λ e y. y.prob *ℚ f e y) *ℚ (of_int (pos (unit_of m)) *ℚ d)
row_earned m k n d row behind f known divides is =
    of_int-total_at row (λ e y. pos (weight_of m y) *ℤ behind e y)
    ∙ sum_at-same row (λ e y. of_int (pos (weight_of m y) *ℤ behind e y)) (λ e y. (y.prob *ℚ f e y) *ℚ (of_int (pos (unit_of m)) *ℚ d))
    (EachAt_mono row (λ e y. (0ℚ ≤ℚ y.prob) × (y.prob.den ∣ unit_of m)) (λ e y. of_int (pos (weight_of m y) *ℤ behind e y) ≡ (y.prob *ℚ f e y) *ℚ (of_int (pos (unit_of m)) *ℚ d))
    (λ e y q.
    of_int-*ℤ (pos (weight_of m y)) (behind e y)
    ∙ ap (λ (w : ℚ). w *ℚ of_int (behind e y)) (of_nat-weight_of m y q.0 q.1)
    ∙ ap (λ (w : ℚ). (y.prob *ℚ of_int (pos (unit_of m))) *ℚ w) (is e y)
    ∙ ring rat_ring 4 (λ p l f d. (p ⊗ l) ⊗ (f ⊗ d)) (λ p l f d. (p ⊗ f) ⊗ (l ⊗ d)) refl y.prob (of_int (pos (unit_of m))) (f e y) d)
    (EachAt_both row (λ e y. 0ℚ ≤ℚ y.prob) (λ e y. y.prob.den ∣ unit_of m) (nonneg_at n row known) divides))
    ∙ sum_at-scale_right (of_int (pos (unit_of m)) *ℚ d) row (λ e y. y.prob *ℚ f e y)

-- one choice: its reward on all paths below it, and what is earned behind it
pub choice_earned : (m : Mdp) (k u n : ℕ) (x : Choice) (behind : ℕ → ℕ → ℤ) (f : ℕ → Entry → ℚ) → IsRow (states_of m) x.row → EachAt x.row (λ e y. y.prob.den ∣ unit_of m)
    → (reward_of x k).den ∣ scale_of m k
    → ((e : ℕ) (y : Entry) → of_int (behind e y.target) ≡ f e y *ℚ (of_int (pos (scale_of m k)) *ℚ of_int (pos (paths m u n))))
    → of_int (earned m k u n x behind) ≡ (reward_of x k +ℚ sum_at x.row (λ e y. y.prob *ℚ f e y)) *ℚ (of_int (pos (scale_of m k)) *ℚ (of_int (pos (unit_of m)) *ℚ of_int (pos (paths m u n))))
choice_earned m k u n x behind f known divides scale is =
    let r : ℚ = of_int (pos (scale_of m k)) in
    let l : ℚ = of_int (pos (unit_of m)) in
    let d : ℚ = of_int (pos (paths m u n)) in
    of_int-+ℤ (whole_reward m k x *ℤ pos (unit_of m * paths m u n)) (total_at x.row (λ e y. pos (weight_of m y) *ℤ behind e y.target))
    ∙ ap (λ (w : ℚ). w +ℚ of_int (total_at x.row (λ e y. pos (weight_of m y) *ℤ behind e y.target)))
    (of_int-*ℤ (whole_reward m k x) (pos (unit_of m * paths m u n))
    ∙ ap (λ (w : ℚ). w *ℚ of_int (pos (unit_of m * paths m u n))) (of_int-whole_reward m k x scale)
    ∙ ap (λ (w : ℚ). (reward_of x k *ℚ of_int (pos (scale_of m k))) *ℚ w) (of_nat-mul (unit_of m) (paths m u n)))
    ∙ ap (λ (w : ℚ). (reward_of x k *ℚ of_int (pos (scale_of m k))) *ℚ (of_int (pos (unit_of m)) *ℚ of_int (pos (paths m u n))) +ℚ w)
    (row_earned m k (states_of m) (of_int (pos (scale_of m k)) *ℚ of_int (pos (paths m u n))) x.row (λ e y. behind e y.target) f known divides is)
    ∙ ring rat_ring 5 (λ w r l d s. (w ⊗ r) ⊗ (l ⊗ d) ⊕ s ⊗ (l ⊗ (r ⊗ d))) (λ w r l d s. (w ⊕ s) ⊗ (r ⊗ (l ⊗ d))) refl (reward_of x k) r l d (sum_at x.row (λ e y. y.prob *ℚ f e y))

pub node_earned : (m : Mdp) (k u n s : ℕ) (weights : ℕ → ℕ) (behind : ℕ → ℕ → ℕ → ℤ) (f : ℕ → ℕ → Entry → ℚ) → IsMdp m → 1 ≤ u
    → ((c e : ℕ) (y : Entry) → of_int (behind c e y.target) ≡ f c e y *ℚ (of_int (pos (scale_of m k)) *ℚ of_int (pos (paths m u n))))
    → of_int (total_at (choices_at m s) (λ c x. pos (weights c) *ℤ earned m k u n x (behind c))) ≡ earning m k u weights f s *ℚ of_int (pos (scale_of m k * paths m u (suc n)))
node_earned m k u n s weights behind f known hu is =
    let all : ℚ = of_int (pos u) *ℚ (of_int (pos (scale_of m k)) *ℚ (of_int (pos (unit_of m)) *ℚ of_int (pos (paths m u n)))) in
    of_int-total_at (choices_at m s) (λ c x. pos (weights c) *ℤ earned m k u n x (behind c))
    ∙ sum_at-same (choices_at m s) (λ c x. of_int (pos (weights c) *ℤ earned m k u n x (behind c)))
    (λ c x. (share u weights c *ℚ (reward_of x k +ℚ sum_at x.row (λ e y. y.prob *ℚ f c e y))) *ℚ all)
    (EachAt_mono (choices_at m s) (λ c x. (IsRow (states_of m) x.row × EachAt x.row (λ e y. y.prob.den ∣ unit_of m)) × ((reward_of x k).den ∣ scale_of m k))
    (λ c x. of_int (pos (weights c) *ℤ earned m k u n x (behind c)) ≡ (share u weights c *ℚ (reward_of x k +ℚ sum_at x.row (λ e y. y.prob *ℚ f c e y))) *ℚ all)
    (λ c x q.
    of_int-*ℤ (pos (weights c)) (earned m k u n x (behind c))
    ∙ ap (λ (w : ℚ). w *ℚ of_int (earned m k u n x (behind c))) (sym (div-of_int (pos (weights c)) u hu))
    ∙ ap (λ (w : ℚ). (share u weights c *ℚ of_int (pos u)) *ℚ w) (choice_earned m k u n x (behind c) (f c) q.0.0 q.0.1 q.1 (is c))
    ∙ ring rat_ring 4 (λ a u e d. (a ⊗ u) ⊗ (e ⊗ d)) (λ a u e d. (a ⊗ e) ⊗ (u ⊗ d)) refl (share u weights c) (of_int (pos u)) (reward_of x k +ℚ sum_at x.row (λ e y. y.prob *ℚ f c e y))
    (of_int (pos (scale_of m k)) *ℚ (of_int (pos (unit_of m)) *ℚ of_int (pos (paths m u n)))))
    (EachAt_both (choices_at m s) (λ c x. IsRow (states_of m) x.row × EachAt x.row (λ e y. y.prob.den ∣ unit_of m)) (λ c x. (reward_of x k).den ∣ scale_of m k)
    (EachAt_both (choices_at m s) (λ c x. IsRow (states_of m) x.row) (λ c x. EachAt x.row (λ e y. y.prob.den ∣ unit_of m)) (rows_known m s known)
    (den-divides_unit m s)) (den-divides_scale m k s)))
    ∙ sum_at-scale_right all (choices_at m s) (λ c x. share u weights c *ℚ (reward_of x k +ℚ sum_at x.row (λ e y. y.prob *ℚ f c e y)))
    ∙ ap (λ (w : ℚ). earning m k u weights f s *ℚ w)
    (ring rat_ring 4 (λ u r l d. u ⊗ (r ⊗ (l ⊗ d))) (λ u r l d. r ⊗ (u ⊗ (l ⊗ d))) refl (of_int (pos u)) (of_int (pos (scale_of m k))) (of_int (pos (unit_of m))) (of_int (pos (paths m u n)))
    ∙ ap (λ (w : ℚ). of_int (pos (scale_of m k)) *ℚ w) (sym (of_nat-paths_suc m u n))
    ∙ sym (of_nat-mul (scale_of m k) (paths m u (suc n))))

parts-pos : (m : Mdp) (k u n : ℕ) → 1 ≤ u → 0 < scale_of m k * paths m u n
parts-pos m k u n h = one-le-mul (scale_of-pos m k) (paths-pos m u n h)

-- what is earned, times all parts
of_parts : (m : Mdp) (k u n : ℕ) (a : ℤ) → 1 ≤ u → of_int a ≡ ratio a (scale_of m k * paths m u n) *ℚ (of_int (pos (scale_of m k)) *ℚ of_int (pos (paths m u n)))
of_parts m k u n a h =
    sym (div-of_int a (scale_of m k * paths m u n) (parts-pos m k u n h)) ∙ ap (λ (w : ℚ). ratio a (scale_of m k * paths m u n) *ℚ w) (of_nat-mul (scale_of m k) (paths m u n))

-- ---- the reward until a goal

if_not : (b : Bool) (x y : ℤ) → b ≡ false → cond b x y ≡ y
if_not b x y e = ap (λ (c : Bool). cond c x y) e

if_so : (b : Bool) (x y : ℤ) → b ≡ true → cond b x y ≡ x
if_so b x y e = ap (λ (c : Bool). cond c x y) e

pays-goal : (m : Mdp) (k : ℕ) (goals : List Bool) (u n : ℕ) (t : Tree) (s : ℕ) → is_marked goals s ≡ true → pays m k goals u n t s ≡ pos 0
pays-goal m k goals u zero t s g = refl
pays-goal m k goals u (suc n) leaf s g = refl
pays-goal m k goals u (suc n) (node weights kids) s g = if_so (is_marked goals s) (pos 0) _ g

pub pay-goal : (m : Mdp) (k : ℕ) (goals : List Bool) (u n : ℕ) (t : Tree) (s : ℕ) → 1 ≤ u → is_marked goals s ≡ true → pay m k goals u n t s ≡ 0ℚ
unfolding pay
pay-goal m k goals u n t s h g = ap (λ (a : ℤ). ratio a (scale_of m k * paths m u n)) (pays-goal m k goals u n t s g) ∙ ratio-none (scale_of m k * paths m u n) (parts-pos m k u n h)

pub pay-end : (m : Mdp) (k : ℕ) (goals : List Bool) (u : ℕ) (t : Tree) (s : ℕ) → 1 ≤ u → pay m k goals u 0 t s ≡ 0ℚ
unfolding pay
pay-end m k goals u t s h = ratio-none (scale_of m k * paths m u 0) (parts-pos m k u 0 h)

of_int-pays : (m : Mdp) (k : ℕ) (goals : List Bool) (u n : ℕ) (t : Tree) (s : ℕ) → 1 ≤ u → of_int (pays m k goals u n t s)
    ≡ pay m k goals u n t s *ℚ (of_int (pos (scale_of m k)) *ℚ of_int (pos (paths m u n)))
unfolding pay
of_int-pays m k goals u n t s h = of_parts m k u n (pays m k goals u n t s) h

pub pay-node : (m : Mdp) (k : ℕ) (goals : List Bool) (u n : ℕ) (weights : ℕ → ℕ) (kids : ℕ → ℕ → Tree) (s : ℕ) → IsMdp m → 1 ≤ u → is_marked goals s ≡ false
    → pay m k goals u (suc n) (node weights kids) s ≡ earning m k u weights (λ c e y. pay m k goals u n (kids c e) y.target) s
unfolding pay
pay-node m k goals u n weights kids s known hu g =
    let behind : ℕ → ℕ → ℕ → ℤ = λ c e t. pays m k goals u n (kids c e) t in
    ap (λ (a : ℤ). ratio a (scale_of m k * paths m u (suc n))) (if_not (is_marked goals s) (pos 0) _ g)
    ∙ ratio-is _ (scale_of m k * paths m u (suc n)) (earning m k u weights (λ c e y. pay m k goals u n (kids c e) y.target) s) (parts-pos m k u (suc n) hu)
    (node_earned m k u n s weights behind (λ c e y. pay m k goals u n (kids c e) y.target) known hu (λ c e y. of_int-pays m k goals u n (kids c e) y.target hu))

-- ---- the reward of all steps

pub total-end : (m : Mdp) (k u : ℕ) (t : Tree) (s : ℕ) → 1 ≤ u → total m k u 0 t s ≡ 0ℚ
unfolding total
total-end m k u t s h = ratio-none (scale_of m k * paths m u 0) (parts-pos m k u 0 h)

of_int-totals : (m : Mdp) (k u n : ℕ) (t : Tree) (s : ℕ) → 1 ≤ u → of_int (totals m k u n t s) ≡ total m k u n t s *ℚ (of_int (pos (scale_of m k)) *ℚ of_int (pos (paths m u n)))
unfolding total
of_int-totals m k u n t s h = of_parts m k u n (totals m k u n t s) h

pub total-node : (m : Mdp) (k u n : ℕ) (weights : ℕ → ℕ) (kids : ℕ → ℕ → Tree) (s : ℕ) → IsMdp m → 1 ≤ u
    → total m k u (suc n) (node weights kids) s ≡ earning m k u weights (λ c e y. total m k u n (kids c e) y.target) s
unfolding total
total-node m k u n weights kids s known hu =
    let behind : ℕ → ℕ → ℕ → ℤ = λ c e t. totals m k u n (kids c e) t in
    ratio-is _ (scale_of m k * paths m u (suc n)) (earning m k u weights (λ c e y. total m k u n (kids c e) y.target) s) (parts-pos m k u (suc n) hu)
    (node_earned m k u n s weights behind (λ c e y. total m k u n (kids c e) y.target) known hu (λ c e y. of_int-totals m k u n (kids c e) y.target hu))
