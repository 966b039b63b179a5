-- Rows merged by node: distributions, which lead where the row leads, and over which values of nodes sum as over the row.
use Rattle.std.proofs.Common.{◌≡◌, inl, inr, ℕ, suc, zero, ◌+◌, ◌<◌, ◌≤◌, Bool, true, not, ◌==◌, nat_le}
use Rattle.std.proofs.Common.{cond, List, [], ◌∷◌, get_or, map, filter, refl, sym, ap, ◌∙◌, subst, arith, pos}
use Rattle.std.proofs.lemmas.Bool.{false≢true, cases_Bool, cases_eq, or_cases, or_left, or_right, and_from, eqb-true, eq-eqb, ne_eqb, le-leb, not_from_false, not-true}
use Rattle.std.proofs.{lemmas.List.Elements.{All-filter, All-map, filter_passes}, lemmas.List.FromFn.{length-range_with_len, get_or-range_with_len}}
use Rattle.std.specs.List.{range_with_len, All}
use Rattle.mdp_math.specs.{Rational.{ℚ, of_int, ◌+ℚ◌, ◌*ℚ◌, ◌≤ℚ◌, ◌<ℚ◌, le_ℚ}, Sum.{sum_of}}
use Rattle.mdp_math.proofs.{Extremes.{le_of_test, gt_of_test}, Kernel.{All-head, All-tail}, Laws.{rat_ring, +ℚ_comm, zero-+ℚ, zero-*ℚ}, Linear.{combine, equal}}
use Rattle.mdp_math.proofs.{Order.{0ℚ, 1ℚ, ≤ℚ_refl, ≤ℚ_of_lt, ≤ℚ_antisymm, add-nonneg, add-pos-nonneg, clash_ℚ, <ℚ_irrefl}, Ring.{◌⊕◌, ◌⊗◌, lit, ring}}
use Rattle.mdp_math.proofs.Sums.{sum_of-scale_right, sum_of-swap, sum_of-map, sum_of-same, sum_of-same_all}
use Rattle.mdp_spec.specs.{Mdp.{Entry}, Row.{ascends_from, IsDistribution, IsRow}}
use Rattle.mdp_rows.specs.Preds.{leads_to}
use Rattle.mdp_graph.specs.Sets.{stays_in}
use Rattle.mdp_ends.specs.Quotient.{mass_in, merged}
use Rattle.mdp_ends.proofs.Walking.{stays-at}

-- ---- one term of a sum

term_at : (p : ℚ) (f : ℕ → ℚ) (v q : ℕ) → ℚ
term_at p f v q = cond (v == q) p 0ℚ *ℚ f q

term-other : (p : ℚ) (f : ℕ → ℚ) (v q : ℕ) → (v ≡ q → ⊥) → term_at p f v q ≡ 0ℚ
unfolding term_at
term-other p f v q other = ap (λ b. cond b p 0ℚ *ℚ f q) (ne_eqb v q other) ∙ zero-*ℚ (f q)

term-same : (p : ℚ) (f : ℕ → ℚ) (v q : ℕ) → v ≡ q → term_at p f v q ≡ p *ℚ f v
unfolding term_at
term-same p f v q same = ap (λ b. cond b p 0ℚ *ℚ f q) (eq-eqb v q same) ∙ ap (λ k. p *ℚ f k) (sym same)

no_term : (p : ℚ) (f : ℕ → ℚ) (v a n : ℕ) → v < a → sum_of (term_at p f v) (range_with_len a n) ≡ 0ℚ
no_term p f v a zero h = refl
no_term p f v a (suc n) h =
    ap (λ (x : ℚ). x +ℚ sum_of (term_at p f v) (range_with_len (a + 1) n)) (term-other p f v a (λ e. omega (arith, e, h)))
    ∙ zero-+ℚ (sum_of (term_at p f v) (range_with_len (a + 1) n)) ∙ no_term p f v (a + 1) n (omega (arith, h))

one_term : (p : ℚ) (f : ℕ → ℚ) (v a n : ℕ) → a ≤ v → v < a + n → sum_of (term_at p f v) (range_with_len a n) ≡ p *ℚ f v
one_term p f v a zero low high = absurd (omega (arith, low, high))
one_term p f v a (suc n) low high = elim (cases_eq v a) [
  | inl same ↦
      combine 3 (λ x y z. x ⊕ y) (λ x y z. z) (λ x y z. equal (lit (pos 1)) x z ∷ equal (lit (pos 1)) y (lit (pos 0)) ∷ []) refl
      (term_at p f v a) (sum_of (term_at p f v) (range_with_len (a + 1) n)) (p *ℚ f v) (term-same p f v a same) (no_term p f v (a + 1) n (omega (arith, same)))
  | inr other ↦
      combine 3 (λ x y z. x ⊕ y) (λ x y z. z) (λ x y z. equal (lit (pos 1)) x (lit (pos 0)) ∷ equal (lit (pos 1)) y z ∷ []) refl
      (term_at p f v a) (sum_of (term_at p f v) (range_with_len (a + 1) n)) (p *ℚ f v) (term-other p f v a other) (one_term p f v (a + 1) n (omega (arith, low, other)) (omega (arith, high)))
]

-- ---- entries above 0

abbrev above_zero : Entry → Bool
above_zero y = not (le_ℚ y.prob (of_int (pos 0)))

is_above : (y : Entry) → above_zero y ≡ true → 0ℚ <ℚ y.prob
is_above y e = gt_of_test y.prob 0ℚ (not-true (le_ℚ y.prob 0ℚ) e)

above-test : (y : Entry) → 0ℚ <ℚ y.prob → above_zero y ≡ true
above-test y h = elim (cases_Bool (le_ℚ y.prob 0ℚ)) [
  | inl le ↦ absurd (clash_ℚ 0ℚ y.prob h (le_of_test y.prob 0ℚ le))
  | inr gt ↦ not_from_false (le_ℚ y.prob 0ℚ) gt
]

sum-above : (f : ℕ → ℚ) (row : List Entry) → All (λ y. 0ℚ ≤ℚ y.prob) row → sum_of (λ y. y.prob *ℚ f y.target) (filter above_zero row) ≡ sum_of (λ y. y.prob *ℚ f y.target) row
sum-above f [] h = refl
sum-above f (y ∷ row) h =
    let rest = sum-above f row (All-tail (λ y. 0ℚ ≤ℚ y.prob) y row h) in
    elim (cases_Bool (le_ℚ y.prob 0ℚ)) as (λ _. sum_of (λ y. y.prob *ℚ f y.target) (filter above_zero (y ∷ row)) ≡ sum_of (λ y. y.prob *ℚ f y.target) (y ∷ row)) [
      | inr gt ↦ rw gt (ap (λ (s : ℚ). y.prob *ℚ f y.target +ℚ s) rest)
      | inl le ↦
          (let z : y.prob ≡ 0ℚ = ≤ℚ_antisymm y.prob 0ℚ (le_of_test y.prob 0ℚ le) (All-head (λ y. 0ℚ ≤ℚ y.prob) y row h) in
          rw le
          (rest
          ∙ sym
          (combine 3 (λ p v s. p ⊗ v ⊕ s) (λ p v s. s) (λ p v s. equal v p (lit (pos 0)) ∷ []) refl y.prob (f y.target) (sum_of (λ y. y.prob *ℚ f y.target) row) z)))
    ]

-- ---- a row by the masses of the numbers of a range

module _ (g : ℕ → ℚ) where
  abbrev at : ℕ → Entry
  at q = record { target = q; prob = g q }

  ascends : (a n low : ℕ) → low ≤ a → ascends_from low (filter above_zero (map at (range_with_len a n))) ≡ true
  ascends a zero low h = refl
  ascends a (suc n) low h = elim (cases_Bool (le_ℚ (g a) 0ℚ)) as (λ _. ascends_from low (filter above_zero (map at (range_with_len a (suc n)))) ≡ true) [
    | inl le ↦ rw le (ascends (a + 1) n low (omega (arith, h)))
    | inr gt ↦ rw gt (and_from (nat_le low a) (ascends_from (a + 1) (filter above_zero (map at (range_with_len (a + 1) n)))) (le-leb low a h) (ascends (a + 1) n (a + 1) (omega arith)))
  ]

  below : (n : ℕ) → All (λ (y : Entry). y.target < n) (map at (range_with_len 0 n))
  below n = All-map (λ (y : Entry). y.target < n) at (range_with_len 0 n) (λ k d l. (let z : k < n = omega (arith, l, length-range_with_len 0 n) in omega (arith, z, get_or-range_with_len 0 n k d z)))

  holds : (a n q : ℕ) → a ≤ q → q < a + n → 0ℚ <ℚ g q → leads_to q (filter above_zero (map at (range_with_len a n))) ≡ true
  holds a zero q low high h = absurd (omega (arith, low, high))
  holds a (suc n) q low high h = elim (cases_eq a q) as (λ _. leads_to q (filter above_zero (map at (range_with_len a (suc n)))) ≡ true) [
    | inl same ↦
        (let p : above_zero (at a) ≡ true = above-test (at a) (subst (λ k. 0ℚ <ℚ g k) (sym same) h) in
        rw p (or_left (a == q) (leads_to q (filter above_zero (map at (range_with_len (a + 1) n)))) (eq-eqb a q same)))
    | inr other ↦
        (let rest = holds (a + 1) n q (omega (arith, low, other)) (omega (arith, high)) h in
        elim (cases_Bool (le_ℚ (g a) 0ℚ)) as (λ _. leads_to q (filter above_zero (map at (range_with_len a (suc n)))) ≡ true) [
          | inl le ↦ rw le rest
          | inr gt ↦ rw gt (or_right (a == q) (leads_to q (filter above_zero (map at (range_with_len (a + 1) n)))) rest)
        ])
  ]

  led : (a n q : ℕ) → leads_to q (filter above_zero (map at (range_with_len a n))) ≡ true → 0ℚ <ℚ g q
  led a zero q e = absurd (false≢true e)
  led a (suc n) q e = elim (cases_Bool (le_ℚ (g a) 0ℚ)) [
    | inl le ↦ led (a + 1) n q (rw le at e)
    | inr gt ↦ (elim (or_cases (a == q) (leads_to q (filter above_zero (map at (range_with_len (a + 1) n)))) (rw gt at e)) [
      | inl same ↦ subst (λ k. 0ℚ <ℚ g k) (eqb-true a q same) (gt_of_test (g a) 0ℚ gt)
      | inr later ↦ led (a + 1) n q later
    ])
  ]

-- ---- masses

pos_right : (x y : ℚ) → 0ℚ ≤ℚ x → 0ℚ <ℚ y → 0ℚ <ℚ x +ℚ y
pos_right x y h k = subst (λ (z : ℚ). 0ℚ <ℚ z) (+ℚ_comm y x) (add-pos-nonneg y x k h)

part-nonneg : (set : ℕ → Bool) (x : Entry) → 0ℚ ≤ℚ x.prob → 0ℚ ≤ℚ cond (set x.target) x.prob 0ℚ
part-nonneg set x h = elim (cases_Bool (set x.target)) as (λ _. 0ℚ ≤ℚ cond (set x.target) x.prob 0ℚ) [
  | inl e ↦ rw e h
  | inr e ↦ rw e (≤ℚ_refl 0ℚ)
]

pub mass-nonneg : (set : ℕ → Bool) (row : List Entry) → All (λ x. 0ℚ ≤ℚ x.prob) row → 0ℚ ≤ℚ mass_in set row
mass-nonneg set [] h = ≤ℚ_refl 0ℚ
mass-nonneg set (x ∷ row) h =
    add-nonneg (cond (set x.target) x.prob 0ℚ) (mass_in set row) (part-nonneg set x (All-head (λ (x : Entry). 0ℚ ≤ℚ x.prob) x row h)) (mass-nonneg set row (All-tail (λ (x : Entry). 0ℚ ≤ℚ x.prob) x row h))

pub mass-pos : (set : ℕ → Bool) (row : List Entry) (t : ℕ) → All (λ x. 0ℚ <ℚ x.prob) row → leads_to t row ≡ true → set t ≡ true → 0ℚ <ℚ mass_in set row
mass-pos set [] t h l is = absurd (false≢true l)
mass-pos set (x ∷ row) t h l is =
    let p = All-head (λ (x : Entry). 0ℚ <ℚ x.prob) x row h in
    let ps = All-tail (λ (x : Entry). 0ℚ <ℚ x.prob) x row h in
    let rest = mass-nonneg set row (λ k d l. ≤ℚ_of_lt 0ℚ (Entry.prob (get_or row k d)) (ps k d l)) in
    elim (or_cases (x.target == t) (leads_to t row) l) [
      | inl same ↦ (let e = ap set (eqb-true x.target t same) ∙ is in rw e (add-pos-nonneg x.prob (mass_in set row) p rest))
      | inr later ↦ pos_right (cond (set x.target) x.prob 0ℚ) (mass_in set row) (part-nonneg set x (≤ℚ_of_lt 0ℚ x.prob p)) (mass-pos set row t ps later is)
    ]

-- a mass above 0 has an entry
pub mass-has : (set : ℕ → Bool) (row : List Entry) → 0ℚ <ℚ mass_in set row → (t : ℕ) × (leads_to t row ≡ true) × (set t ≡ true)
mass-has set [] h = absurd (<ℚ_irrefl 0ℚ h)
mass-has set (x ∷ row) h = elim (cases_Bool (set x.target)) as (λ _. (t : ℕ) × (leads_to t (x ∷ row) ≡ true) × (set t ≡ true)) [
  | inl is ↦ (x.target, or_left (x.target == x.target) (leads_to x.target row) (eq-eqb x.target x.target refl), is)
  | inr out ↦
      (let rest : 0ℚ <ℚ mass_in set row = subst (λ (z : ℚ). 0ℚ <ℚ z) (zero-+ℚ (mass_in set row)) (rw out at h) in
      let w = mass-has set row rest in
      (w.0, or_right (x.target == w.0) (leads_to w.0 row) w.1, w.2))
]

-- ---- the merged row

module _ (n : ℕ) (node : ℕ → ℕ) (row : List Entry) where
  abbrev mass : ℕ → ℚ
  mass q = mass_in (λ t. node t == q) row

  -- it leads where the row leads
  pub merged-leads : (t : ℕ) → All (λ x. 0ℚ <ℚ x.prob) row → leads_to t row ≡ true → node t < n → leads_to (node t) (merged n node row) ≡ true
  merged-leads t positive l h = holds mass 0 n (node t) (omega arith) (omega (arith, h)) (mass-pos (λ u. node u == node t) row t positive l (eq-eqb (node t) (node t) refl))

  -- and nowhere else
  pub merged-from : (q : ℕ) → leads_to q (merged n node row) ≡ true → (t : ℕ) × (leads_to t row ≡ true) × (node t ≡ q)
  merged-from q l =
      let w = mass-has (λ t. node t == q) row (led mass 0 n q l) in
      (w.0, w.1, eqb-true (node w.0) q w.2)

  pub merged-stays : (set : ℕ → Bool) → All (λ x. 0ℚ <ℚ x.prob) row → ((t : ℕ) → leads_to t row ≡ true → node t < n)
      → stays_in set (merged n node row) ≡ true → (t : ℕ) → leads_to t row ≡ true → set (node t) ≡ true
  merged-stays set positive h stays t l = stays-at set (merged n node row) (node t) stays (merged-leads t positive l (h t l))

  -- values of nodes sum as over the row
  pub over-merged : (f : ℕ → ℚ) → All (λ x. 0ℚ ≤ℚ x.prob) row → All (λ x. node x.target < n) row
      → sum_of (λ y. y.prob *ℚ f y.target) (merged n node row) ≡ sum_of (λ x. x.prob *ℚ f (node x.target)) row
  unfolding term_at
  over-merged f nonneg h =
      sum-above f (map (at mass) (range_with_len 0 n)) (All-map (λ (y : Entry). 0ℚ ≤ℚ y.prob) (at mass) (range_with_len 0 n) (λ k d l. mass-nonneg (λ t. node t == get_or (range_with_len 0 n) k d) row nonneg))
      ∙ sum_of-map (at mass) (λ y. y.prob *ℚ f y.target) (range_with_len 0 n)
      ∙ sum_of-same (λ q. mass q *ℚ f q) (λ q. sum_of (λ x. term_at x.prob f (node x.target) q) row) (range_with_len 0 n) (λ q. spread q)
      ∙ sum_of-swap (λ q x. term_at x.prob f (node x.target) q) (range_with_len 0 n) row
      ∙ sum_of-same_all (λ x. sum_of (λ q. term_at x.prob f (node x.target) q) (range_with_len 0 n)) (λ x. x.prob *ℚ f (node x.target)) row
      (λ k d l. (let x : Entry = get_or row k d in one_term x.prob f (node x.target) 0 n (omega arith) (let z = h k d l in omega (arith, z)))) where
        spread : (q : ℕ) → mass q *ℚ f q ≡ sum_of (λ x. term_at x.prob f (node x.target) q) row
        spread q = sym (sum_of-scale_right (f q) (λ (x : Entry). cond (node x.target == q) x.prob 0ℚ) row)

  pub merged_row : IsDistribution row → All (λ x. node x.target < n) row → IsRow n (merged n node row)
  merged_row d h = record {
    distribution = record {
      ascending = ascends mass 0 n 0 (omega arith);
      positive = λ k y l. is_above (get_or (merged n node row) k y) (filter_passes above_zero (map (at mass) (range_with_len 0 n)) k y l);
      total = total;
    };
    in_range = All-filter above_zero (λ (y : Entry). y.target < n) (map (at mass) (range_with_len 0 n)) (below mass n);
  } where
    times_one : (x : ℚ) → x ≡ x *ℚ 1ℚ
    times_one = ring rat_ring 1 (λ x. x) (λ x. x ⊗ lit (pos 1)) refl

    total : sum_of (λ y. y.prob) (merged n node row) ≡ 1ℚ
    total =
        sum_of-same (λ y. y.prob) (λ y. y.prob *ℚ 1ℚ) (merged n node row) (λ y. times_one y.prob)
        ∙ over-merged (λ q. 1ℚ) (λ k x l. ≤ℚ_of_lt 0ℚ (Entry.prob (get_or row k x)) (d.positive k x l)) h
        ∙ sym (sum_of-same (λ (x : Entry). x.prob) (λ x. x.prob *ℚ 1ℚ) row (λ x. times_one x.prob)) ∙ d.total
