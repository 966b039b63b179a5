-- What a tree hits, by its first step: 1 at a goal, 0 at a leaf, and at a node the average over the choices, by the weights, of the sum
-- over the row of probability times what the entry's tree hits.
use Rattle.std.proofs.Common.{◌≡◌, ℕ, zero, suc, ◌*◌, ◌^◌, ◌<◌, ◌≤◌, Bool, true, false, cond, List, refl, sym, ◌∙◌, ap, arith, ℤ, pos}
use Rattle.std.proofs.Math.Nat.{pow-zero, pow-suc, one-le-mul}
use Rattle.std.specs.Int.{◌∣◌}
use Rattle.mdp_math.specs.{Rational.{ℚ, of_int, ratio, ◌*ℚ◌, ◌≤ℚ◌}, Sum.{sum_at, EachAt}}
use Rattle.mdp_math.proofs.{Ring.{◌⊗◌, lit, ring}, Laws.{rat_ring}, Order.{0ℚ, 1ℚ, div-of_int, ne-zero_of_pos}, Whole.{of_nat-mul, of_nat-pos}}
use Rattle.mdp_math.proofs.{Division.{ratio-div, div-unique}, SumsAt.{sum_at-same, sum_at-scale_right, EachAt_mono, EachAt_both}}
use Rattle.mdp_spec.specs.{Mdp.{Entry, Mdp, choices_at, states_of}, Row.{IsRow, IsMdp}, Unit.{unit_of, weight_of, count_at}, Tree.{Tree, paths, is_marked}}
use Rattle.mdp_spec.specs.{Tree.Tree.{leaf, node}, Hit.{hits, hit}}
use Rattle.mdp_spec.proofs.{Units.{unit_of-pos, den-divides_unit, of_nat-weight_of, of_nat-count_at}, Rows.{rows_known, nonneg_at}}

-- ---- all paths

pub pow_by-pos : (k n : ℕ) → 0 < k → 0 < k ^ n
pow_by-pos k zero h = omega (arith, pow-zero k)
pow_by-pos k (suc n) h = let e = pow-suc k n in let p = one-le-mul (pow_by-pos k n h) h in omega (arith, e, p)

pub paths-pos : (m : Mdp) (u n : ℕ) → 1 ≤ u → 0 < paths m u n
paths-pos m u n h = pow_by-pos (u * unit_of m) n (one-le-mul h (unit_of-pos m))

pub of_nat-paths_suc : (m : Mdp) (u n : ℕ) → of_int (pos (paths m u (suc n))) ≡ of_int (pos u) *ℚ (of_int (pos (unit_of m)) *ℚ of_int (pos (paths m u n)))
of_nat-paths_suc m u n =
    ap (λ (k : ℕ). of_int (pos k)) (pow-suc (u * unit_of m) n)
    ∙ of_nat-mul (paths m u n) (u * unit_of m)
    ∙ ap (λ (x : ℚ). of_int (pos (paths m u n)) *ℚ x) (of_nat-mul u (unit_of m))
    ∙ ring rat_ring 3 (λ u l d. d ⊗ (u ⊗ l)) (λ u l d. u ⊗ (l ⊗ d)) refl (of_int (pos u)) (of_int (pos (unit_of m))) (of_int (pos (paths m u n)))

-- ---- fractions by their terms

pub ratio-is : (a : ℤ) (b : ℕ) (x : ℚ) → 0 < b → of_int a ≡ x *ℚ of_int (pos b) → ratio a b ≡ x
ratio-is a b x h e = ratio-div a b h ∙ sym (div-unique (of_int a) (of_int (pos b)) x (ne-zero_of_pos (of_int (pos b)) (of_nat-pos b h)) (sym e))

pub ratio-self : (b : ℕ) → 0 < b → ratio (pos b) b ≡ 1ℚ
ratio-self b h = ratio-is (pos b) b 1ℚ h (ring rat_ring 1 (λ x. x) (λ x. lit (pos 1) ⊗ x) refl (of_int (pos b)))

pub ratio-none : (b : ℕ) → 0 < b → ratio (pos 0) b ≡ 0ℚ
ratio-none b h = ratio-is (pos 0) b 0ℚ h (ring rat_ring 1 (λ x. lit (pos 0)) (λ x. lit (pos 0) ⊗ x) refl (of_int (pos b)))

-- ---- where a tree ends

if_marked : (b : Bool) (x y : ℕ) → b ≡ true → cond b x y ≡ x
if_marked b x y e = ap (λ (c : Bool). cond c x y) e

if_not_marked : (b : Bool) (x y : ℕ) → b ≡ false → cond b x y ≡ y
if_not_marked b x y e = ap (λ (c : Bool). cond c x y) e

hits-goal : (m : Mdp) (goals : List Bool) (u n : ℕ) (t : Tree) (s : ℕ) → is_marked goals s ≡ true → hits m goals u n t s ≡ paths m u n
hits-goal m goals u zero t s g = if_marked (is_marked goals s) 1 0 g ∙ sym (pow-zero (u * unit_of m))
hits-goal m goals u (suc n) leaf s g = if_marked (is_marked goals s) _ _ g
hits-goal m goals u (suc n) (node a kids) s g = if_marked (is_marked goals s) _ _ g

pub hit-goal : (m : Mdp) (goals : List Bool) (u n : ℕ) (t : Tree) (s : ℕ) → 1 ≤ u → is_marked goals s ≡ true → hit m goals u n t s ≡ 1ℚ
unfolding hit
hit-goal m goals u n t s h g = ap (λ (k : ℕ). ratio (pos k) (paths m u n)) (hits-goal m goals u n t s g) ∙ ratio-self (paths m u n) (paths-pos m u n h)

pub hit-end : (m : Mdp) (goals : List Bool) (u : ℕ) (t : Tree) (s : ℕ) → 1 ≤ u → is_marked goals s ≡ false → hit m goals u 0 t s ≡ 0ℚ
unfolding hit
hit-end m goals u t s h g = ap (λ (k : ℕ). ratio (pos k) (paths m u 0)) (if_not_marked (is_marked goals s) 1 0 g) ∙ ratio-none (paths m u 0) (paths-pos m u 0 h)

-- ---- at a node

-- the share of a choice
abbrev pub share : ℕ → (ℕ → ℕ) → ℕ → ℚ
share u weights c = ratio (pos (weights c)) u

-- the average over the choices of state s of the sum over the row of f at the choice's place and the entry's place
abbrev pub mixed : Mdp → ℕ → (ℕ → ℕ) → (ℕ → ℕ → Entry → ℚ) → ℕ → ℚ
mixed m u weights f s = sum_at (choices_at m s) (λ c x. share u weights c *ℚ sum_at x.row (λ e y. y.prob *ℚ f c e y))

pub of_nat-hits : (m : Mdp) (goals : List Bool) (u n : ℕ) (t : Tree) (s : ℕ) → 1 ≤ u → of_int (pos (hits m goals u n t s)) ≡ hit m goals u n t s *ℚ of_int (pos (paths m u n))
unfolding hit
of_nat-hits m goals u n t s h = sym (div-of_int (pos (hits m goals u n t s)) (paths m u n) (paths-pos m u n h))

-- the counts of a row, where f e y parts of d are counted at each entry
pub row_counts : (m : Mdp) (k d : ℕ) (row : List Entry) (count : ℕ → Entry → ℕ) (f : ℕ → Entry → ℚ) → IsRow k row → EachAt row (λ e y. y.prob.den ∣ unit_of m)
    → ((e : ℕ) (y : Entry) → of_int (pos (count e y)) ≡ f e y *ℚ of_int (pos d))
    → of_int (pos (count_at row (λ e y. weight_of m y * count e y))) ≡ sum_at row (λ e y. y.prob *ℚ f e y) *ℚ (of_int (pos (unit_of m)) *ℚ of_int (pos d))
row_counts m k d row count f known divides is =
    of_nat-count_at row (λ e y. weight_of m y * count e y)
    ∙ sum_at-same row (λ e y. of_int (pos (weight_of m y * count e y))) (λ e y. (y.prob *ℚ f e y) *ℚ (of_int (pos (unit_of m)) *ℚ of_int (pos d)))
    (EachAt_mono row (λ e y. (0ℚ ≤ℚ y.prob) × (y.prob.den ∣ unit_of m)) (λ e y. of_int (pos (weight_of m y * count e y)) ≡ (y.prob *ℚ f e y) *ℚ (of_int (pos (unit_of m)) *ℚ of_int (pos d)))
    (λ e y q.
    of_nat-mul (weight_of m y) (count e y)
    ∙ ap (λ (w : ℚ). w *ℚ of_int (pos (count e y))) (of_nat-weight_of m y q.0 q.1)
    ∙ ap (λ (w : ℚ). (y.prob *ℚ of_int (pos (unit_of m))) *ℚ w) (is e y)
    ∙ ring rat_ring 4 (λ p l f d. (p ⊗ l) ⊗ (f ⊗ d)) (λ p l f d. (p ⊗ f) ⊗ (l ⊗ d)) refl y.prob (of_int (pos (unit_of m))) (f e y) (of_int (pos d)))
    (EachAt_both row (λ e y. 0ℚ ≤ℚ y.prob) (λ e y. y.prob.den ∣ unit_of m) (nonneg_at k row known) divides))
    ∙ sum_at-scale_right (of_int (pos (unit_of m)) *ℚ of_int (pos d)) row (λ e y. y.prob *ℚ f e y)

-- the counts of a node
pub node_counts : (m : Mdp) (u d s : ℕ) (weights : ℕ → ℕ) (count : ℕ → ℕ → Entry → ℕ) (f : ℕ → ℕ → Entry → ℚ) → IsMdp m → 1 ≤ u
    → ((c e : ℕ) (y : Entry) → of_int (pos (count c e y)) ≡ f c e y *ℚ of_int (pos d))
    → of_int (pos (count_at (choices_at m s) (λ c x. weights c * count_at x.row (λ e y. weight_of m y * count c e y))))
    ≡ mixed m u weights f s *ℚ (of_int (pos u) *ℚ (of_int (pos (unit_of m)) *ℚ of_int (pos d)))
node_counts m u d s weights count f known hu is =
    of_nat-count_at (choices_at m s) (λ c x. weights c * count_at x.row (λ e y. weight_of m y * count c e y))
    ∙ sum_at-same (choices_at m s) (λ c x. of_int (pos (weights c * count_at x.row (λ e y. weight_of m y * count c e y))))
    (λ c x. (share u weights c *ℚ sum_at x.row (λ e y. y.prob *ℚ f c e y)) *ℚ (of_int (pos u) *ℚ (of_int (pos (unit_of m)) *ℚ of_int (pos d))))
    (EachAt_mono (choices_at m s) (λ c x. IsRow (states_of m) x.row × EachAt x.row (λ e y. y.prob.den ∣ unit_of m))
    (λ c x. of_int (pos (weights c * count_at x.row (λ e y. weight_of m y * count c e y)))
    ≡ (share u weights c *ℚ sum_at x.row (λ e y. y.prob *ℚ f c e y)) *ℚ (of_int (pos u) *ℚ (of_int (pos (unit_of m)) *ℚ of_int (pos d))))
    (λ c x q.
    of_nat-mul (weights c) (count_at x.row (λ e y. weight_of m y * count c e y))
    ∙ ap (λ (w : ℚ). w *ℚ of_int (pos (count_at x.row (λ e y. weight_of m y * count c e y)))) (sym (div-of_int (pos (weights c)) u hu))
    ∙ ap (λ (w : ℚ). (share u weights c *ℚ of_int (pos u)) *ℚ w) (row_counts m (states_of m) d x.row (count c) (f c) q.0 q.1 (is c))
    ∙ ring rat_ring 4 (λ a u r l. (a ⊗ u) ⊗ (r ⊗ l)) (λ a u r l. (a ⊗ r) ⊗ (u ⊗ l)) refl (share u weights c) (of_int (pos u)) (sum_at x.row (λ e y. y.prob *ℚ f c e y))
    (of_int (pos (unit_of m)) *ℚ of_int (pos d)))
    (EachAt_both (choices_at m s) (λ c x. IsRow (states_of m) x.row) (λ c x. EachAt x.row (λ e y. y.prob.den ∣ unit_of m)) (rows_known m s known) (den-divides_unit m s)))
    ∙ sum_at-scale_right (of_int (pos u) *ℚ (of_int (pos (unit_of m)) *ℚ of_int (pos d))) (choices_at m s) (λ c x. share u weights c *ℚ sum_at x.row (λ e y. y.prob *ℚ f c e y))

pub hit-node : (m : Mdp) (goals : List Bool) (u n : ℕ) (weights : ℕ → ℕ) (kids : ℕ → ℕ → Tree) (s : ℕ) → IsMdp m → 1 ≤ u → is_marked goals s ≡ false
    → hit m goals u (suc n) (node weights kids) s ≡ mixed m u weights (λ c e y. hit m goals u n (kids c e) y.target) s
unfolding hit
hit-node m goals u n weights kids s known hu g =
    let f : ℕ → ℕ → Entry → ℚ = λ c e y. hit m goals u n (kids c e) y.target in
    ap (λ (k : ℕ). ratio (pos k) (paths m u (suc n))) (if_not_marked (is_marked goals s) (paths m u (suc n)) _ g)
    ∙ ratio-is (pos _) (paths m u (suc n)) (mixed m u weights f s) (paths-pos m u (suc n) hu)
    (node_counts m u (paths m u n) s weights (λ c e y. hits m goals u n (kids c e) y.target) f known hu (λ c e y. of_nat-hits m goals u n (kids c e) y.target hu)
    ∙ ap (λ (w : ℚ). mixed m u weights f s *ℚ w) (sym (of_nat-paths_suc m u n)))
