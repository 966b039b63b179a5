-- What a tree earns with a discount, by its first step: nothing where the tree ends, and at a node the average over the choices, by the weights,
-- of the choice's reward and f times the sum over the row of probability times what the entry's tree earns.
use Rattle.std.proofs.{Common.{◌≡◌, ℕ, suc, ◌*◌, ◌<◌, ◌≤◌, false, List, refl, sym, ◌∙◌, ap, ℤ, pos, ◌*ℤ◌, mul-one}, Math.Nat.{pow-suc, one-le-mul}}
use Rattle.std.specs.Int.{◌∣◌}
use Rattle.mdp_math.specs.{Rational.{ℚ, of_int, ratio, ◌+ℚ◌, ◌*ℚ◌, ◌≤ℚ◌}, Sum.{sum_at, EachAt}}
use Rattle.mdp_math.proofs.{Ring.{◌⊕◌, ◌⊗◌, lit, ring}, IntegerRing.{int_ring}}
use Rattle.mdp_math.proofs.{Laws.{rat_ring, den-pos, is_self, is_of_int, is_mul, same_is, of_int-+ℤ, of_int-*ℤ}, Order.{0ℚ, div-of_int}, Whole.{of_nat-mul}}
use Rattle.mdp_math.proofs.SumsAt.{sum_at-same, sum_at-scale_right, EachAt_mono, EachAt_both}
use Rattle.mdp_spec.specs.{Mdp.{Entry, Choice, Mdp, states_of, choices_at}, Row.{IsRow, IsMdp}}
use Rattle.mdp_spec.specs.{Unit.{unit_of, weight_of, reward_of, scale_of, whole_reward, total_at}, Tree.{Tree}}
use Rattle.mdp_spec.proofs.{Units.{unit_of-pos, den-divides_unit, of_nat-weight_of}, Rows.{rows_known, nonneg_at}}
use Rattle.mdp_spec.proofs.{Hits.{share, pow_by-pos, ratio-is, ratio-none}, Earnings.{scale_of-pos, den-divides_scale, of_int-whole_reward, of_int-total_at}}
use Rattle.mdp_discount_rules.specs.Disc.{discounted_paths, earned_parts, discs, disc}
use Rattle.mdp_discount_rules.proofs.Steps.{average, GoesBy}

-- ---- all paths

parts-pos : (m : Mdp) (r : ℕ) (f : ℚ) (u n : ℕ) → 1 ≤ u → 0 < scale_of m r * discounted_paths m f u n
parts-pos m r f u n h = one-le-mul (scale_of-pos m r) (pow_by-pos (u * unit_of m * f.den) n (one-le-mul (one-le-mul h (unit_of-pos m)) (den-pos f)))

of_nat-paths : (m : Mdp) (f : ℚ) (u n : ℕ)
    → of_int (pos (discounted_paths m f u (suc n))) ≡ of_int (pos (discounted_paths m f u n)) *ℚ ((of_int (pos u) *ℚ of_int (pos (unit_of m))) *ℚ of_int (pos f.den))
of_nat-paths m f u n =
    ap (λ (k : ℕ). of_int (pos k)) (pow-suc (u * unit_of m * f.den) n)
    ∙ of_nat-mul (discounted_paths m f u n) (u * unit_of m * f.den)
    ∙ ap (λ (x : ℚ). of_int (pos (discounted_paths m f u n)) *ℚ x) (of_nat-mul (u * unit_of m) f.den ∙ ap (λ (x : ℚ). x *ℚ of_int (pos f.den)) (of_nat-mul u (unit_of m)))

-- the factor in parts of its denominator
of_int-num : (f : ℚ) → of_int f.num ≡ f *ℚ of_int (pos f.den)
of_int-num f =
    same_is _ _ _ _ _ _ (is_of_int f.num) (is_mul _ _ _ _ _ _ (is_self f) (is_of_int (pos f.den)))
    (ap (λ (k : ℕ). f.num *ℤ pos k) (mul-one f.den) ∙ ring int_ring 2 (λ a d. a ⊗ d) (λ a d. (a ⊗ d) ⊗ lit (pos 1)) refl f.num (pos f.den))

-- ---- at a node

row_discounted : (m : Mdp) (k : ℕ) (f d : ℚ) (row : List Entry) (behind : ℕ → Entry → ℤ) (g : ℕ → Entry → ℚ) → IsRow k row → EachAt row (λ e y. y.prob.den ∣ unit_of m)
    → ((e : ℕ) (y : Entry) → of_int (behind e y) ≡ g e y *ℚ d)
    → of_int (total_at row (λ e y. pos (weight_of m y) *ℤ (f.num *ℤ behind e y))) ≡ sum_at row (λ e y. y.prob *ℚ g e y) *ℚ ((of_int (pos (unit_of m)) *ℚ (f *ℚ of_int (pos f.den))) *ℚ d)
row_discounted m k f d row behind g known divides is =
    let all : ℚ = (of_int (pos (unit_of m)) *ℚ (f *ℚ of_int (pos f.den))) *ℚ d in
    of_int-total_at row (λ e y. pos (weight_of m y) *ℤ (f.num *ℤ behind e y))
    ∙ sum_at-same row (λ e y. of_int (pos (weight_of m y) *ℤ (f.num *ℤ behind e y))) (λ e y. (y.prob *ℚ g e y) *ℚ all)
    (EachAt_mono row (λ e y. (0ℚ ≤ℚ y.prob) × (y.prob.den ∣ unit_of m)) (λ e y. of_int (pos (weight_of m y) *ℤ (f.num *ℤ behind e y)) ≡ (y.prob *ℚ g e y) *ℚ all)
    (λ e y q.
    of_int-*ℤ (pos (weight_of m y)) (f.num *ℤ behind e y)
    ∙ ap (λ (w : ℚ). w *ℚ of_int (f.num *ℤ behind e y)) (of_nat-weight_of m y q.0 q.1)
    ∙ ap (λ (w : ℚ). (y.prob *ℚ of_int (pos (unit_of m))) *ℚ w)
    (of_int-*ℤ f.num (behind e y) ∙ ap (λ (w : ℚ). w *ℚ of_int (behind e y)) (of_int-num f) ∙ ap (λ (w : ℚ). (f *ℚ of_int (pos f.den)) *ℚ w) (is e y))
    ∙ ring rat_ring 5 (λ p l f g d. (p ⊗ l) ⊗ (f ⊗ (g ⊗ d))) (λ p l f g d. (p ⊗ g) ⊗ ((l ⊗ f) ⊗ d)) refl y.prob (of_int (pos (unit_of m))) (f *ℚ of_int (pos f.den)) (g e y) d)
    (EachAt_both row (λ e y. 0ℚ ≤ℚ y.prob) (λ e y. y.prob.den ∣ unit_of m) (nonneg_at k row known) divides))
    ∙ sum_at-scale_right ((of_int (pos (unit_of m)) *ℚ (f *ℚ of_int (pos f.den))) *ℚ d) row (λ e y. y.prob *ℚ g e y)

choice_discounted : (m : Mdp) (r : ℕ) (f : ℚ) (u n : ℕ) (x : Choice) (behind : ℕ → Entry → ℤ) (g : ℕ → Entry → ℚ) → IsRow (states_of m) x.row
    → EachAt x.row (λ e y. y.prob.den ∣ unit_of m) → (reward_of x r).den ∣ scale_of m r
    → ((e : ℕ) (y : Entry) → of_int (behind e y) ≡ g e y *ℚ (of_int (pos (scale_of m r)) *ℚ of_int (pos (discounted_paths m f u n))))
    → of_int (earned_parts m r f u n x behind)
    ≡ (reward_of x r +ℚ f *ℚ sum_at x.row (λ e y. y.prob *ℚ g e y)) *ℚ (of_int (pos (scale_of m r)) *ℚ ((of_int (pos (unit_of m)) *ℚ of_int (pos f.den)) *ℚ of_int (pos (discounted_paths m f u n))))
choice_discounted m r f u n x behind g known divides scale is =
    let a : ℚ = of_int (pos (scale_of m r)) in
    let l : ℚ = of_int (pos (unit_of m)) in
    let b : ℚ = of_int (pos f.den) in
    let d : ℚ = of_int (pos (discounted_paths m f u n)) in
    of_int-+ℤ (whole_reward m r x *ℤ pos (unit_of m * f.den * discounted_paths m f u n)) (total_at x.row (λ e y. pos (weight_of m y) *ℤ (f.num *ℤ behind e y)))
    ∙ ap (λ (w : ℚ). w +ℚ of_int (total_at x.row (λ e y. pos (weight_of m y) *ℤ (f.num *ℤ behind e y))))
    (of_int-*ℤ (whole_reward m r x) (pos (unit_of m * f.den * discounted_paths m f u n))
    ∙ ap (λ (w : ℚ). w *ℚ of_int (pos (unit_of m * f.den * discounted_paths m f u n))) (of_int-whole_reward m r x scale)
    ∙ ap (λ (w : ℚ). (reward_of x r *ℚ of_int (pos (scale_of m r))) *ℚ w)
    (of_nat-mul (unit_of m * f.den) (discounted_paths m f u n) ∙ ap (λ (w : ℚ). w *ℚ of_int (pos (discounted_paths m f u n))) (of_nat-mul (unit_of m) f.den)))
    ∙ ap (λ (w : ℚ). (reward_of x r *ℚ of_int (pos (scale_of m r))) *ℚ ((of_int (pos (unit_of m)) *ℚ of_int (pos f.den)) *ℚ of_int (pos (discounted_paths m f u n))) +ℚ w)
    (row_discounted m (states_of m) f (of_int (pos (scale_of m r)) *ℚ of_int (pos (discounted_paths m f u n))) x.row behind g known divides is)
    ∙ ring rat_ring 7 (λ w a l b d f s. (w ⊗ a) ⊗ ((l ⊗ b) ⊗ d) ⊕ s ⊗ ((l ⊗ (f ⊗ b)) ⊗ (a ⊗ d))) (λ w a l b d f s. (w ⊕ f ⊗ s) ⊗ (a ⊗ ((l ⊗ b) ⊗ d))) refl (reward_of x r) a l b d f
    (sum_at x.row (λ e y. y.prob *ℚ g e y))

node_discounted : (m : Mdp) (r : ℕ) (f : ℚ) (u n s : ℕ) (weights : ℕ → ℕ) (behind : ℕ → ℕ → Entry → ℤ) (g : ℕ → ℕ → Entry → ℚ) → IsMdp m → 1 ≤ u
    → ((c e : ℕ) (y : Entry) → of_int (behind c e y) ≡ g c e y *ℚ (of_int (pos (scale_of m r)) *ℚ of_int (pos (discounted_paths m f u n))))
    → of_int (total_at (choices_at m s) (λ c x. pos (weights c) *ℤ earned_parts m r f u n x (behind c))) ≡ average m u weights (λ x. reward_of x r) f g s *ℚ of_int (pos
    (scale_of m r * discounted_paths m f u (suc n)))
node_discounted m r f u n s weights behind g known hu is =
    let one : ℚ = of_int (pos (scale_of m r)) *ℚ ((of_int (pos (unit_of m)) *ℚ of_int (pos f.den)) *ℚ of_int (pos (discounted_paths m f u n))) in
    of_int-total_at (choices_at m s) (λ c x. pos (weights c) *ℤ earned_parts m r f u n x (behind c))
    ∙ sum_at-same (choices_at m s) (λ c x. of_int (pos (weights c) *ℤ earned_parts m r f u n x (behind c)))
    (λ c x. (share u weights c *ℚ (reward_of x r +ℚ f *ℚ sum_at x.row (λ e y. y.prob *ℚ g c e y))) *ℚ (of_int (pos u) *ℚ one))
    (EachAt_mono (choices_at m s) (λ c x. (IsRow (states_of m) x.row × EachAt x.row (λ e y. y.prob.den ∣ unit_of m)) × ((reward_of x r).den ∣ scale_of m r))
    (λ c x. of_int (pos (weights c) *ℤ earned_parts m r f u n x (behind c)) ≡ (share u weights c *ℚ (reward_of x r +ℚ f *ℚ sum_at x.row (λ e y. y.prob *ℚ g c e y))) *ℚ (of_int (pos u) *ℚ one))
    (λ c x q.
    of_int-*ℤ (pos (weights c)) (earned_parts m r f u n x (behind c))
    ∙ ap (λ (w : ℚ). w *ℚ of_int (earned_parts m r f u n x (behind c))) (sym (div-of_int (pos (weights c)) u hu))
    ∙ ap (λ (w : ℚ). (share u weights c *ℚ of_int (pos u)) *ℚ w) (choice_discounted m r f u n x (behind c) (g c) q.0.0 q.0.1 q.1 (is c))
    ∙ ring rat_ring 4 (λ a u e d. (a ⊗ u) ⊗ (e ⊗ d)) (λ a u e d. (a ⊗ e) ⊗ (u ⊗ d)) refl (share u weights c) (of_int (pos u)) (reward_of x r +ℚ f *ℚ sum_at x.row (λ e y. y.prob *ℚ g c e y)) one)
    (EachAt_both (choices_at m s) (λ c x. IsRow (states_of m) x.row × EachAt x.row (λ e y. y.prob.den ∣ unit_of m)) (λ c x. (reward_of x r).den ∣ scale_of m r)
    (EachAt_both (choices_at m s) (λ c x. IsRow (states_of m) x.row) (λ c x. EachAt x.row (λ e y. y.prob.den ∣ unit_of m)) (rows_known m s known) (den-divides_unit m s)) (den-divides_scale m r s)))
    ∙ sum_at-scale_right (of_int (pos u) *ℚ one) (choices_at m s) (λ c x. share u weights c *ℚ (reward_of x r +ℚ f *ℚ sum_at x.row (λ e y. y.prob *ℚ g c e y)))
    ∙ ap (λ (w : ℚ). average m u weights (λ x. reward_of x r) f g s *ℚ w)
    (ring rat_ring 5 (λ u a l b d. u ⊗ (a ⊗ ((l ⊗ b) ⊗ d))) (λ u a l b d. a ⊗ (d ⊗ ((u ⊗ l) ⊗ b))) refl (of_int (pos u)) (of_int (pos (scale_of m r))) (of_int (pos (unit_of m))) (of_int
    (pos f.den)) (of_int (pos (discounted_paths m f u n)))
    ∙ ap (λ (w : ℚ). of_int (pos (scale_of m r)) *ℚ w) (sym (of_nat-paths m f u n))
    ∙ sym (of_nat-mul (scale_of m r) (discounted_paths m f u (suc n))))

-- ---- disc

pub disc-end : (m : Mdp) (r : ℕ) (f : ℚ) (u : ℕ) (t : Tree) (s : ℕ) → 1 ≤ u → disc m r f u 0 t s ≡ 0ℚ
unfolding disc
disc-end m r f u t s h = ratio-none (scale_of m r * discounted_paths m f u 0) (parts-pos m r f u 0 h)

of_int-discs : (m : Mdp) (r : ℕ) (f : ℚ) (u n : ℕ) (t : Tree) (s : ℕ) → 1 ≤ u
    → of_int (discs m r f u n t s) ≡ disc m r f u n t s *ℚ (of_int (pos (scale_of m r)) *ℚ of_int (pos (discounted_paths m f u n)))
unfolding disc
of_int-discs m r f u n t s h =
    sym (div-of_int (discs m r f u n t s) (scale_of m r * discounted_paths m f u n) (parts-pos m r f u n h))
    ∙ ap (λ (w : ℚ). ratio (discs m r f u n t s) (scale_of m r * discounted_paths m f u n) *ℚ w) (of_nat-mul (scale_of m r) (discounted_paths m f u n))

pub disc_goes : (m : Mdp) (r : ℕ) (f : ℚ) (u : ℕ) → IsMdp m → 1 ≤ u → GoesBy m u (λ s. false) (λ x. reward_of x r) f (λ n t s. disc m r f u n t s)
unfolding disc
disc_goes m r f u known hu n weights kids s h e =
    ratio-is _ (scale_of m r * discounted_paths m f u (suc n)) (average m u weights (λ x. reward_of x r) f (λ c e y. disc m r f u n (kids c e) y.target) s) (parts-pos m r f u (suc n) hu)
    (node_discounted m r f u n s weights (λ c e y. discs m r f u n (kids c e) y.target) (λ c e y. disc m r f u n (kids c e) y.target) known hu (λ c e y. of_int-discs m r f u n (kids c e) y.target hu))
