-- The transposed rows of a chain: their entries, where they lie, and the pivots of their system.
use Rattle.std.proofs.Common.{◌≡◌, ℕ, zero, suc, ◌+◌, ◌<◌, ◌≤◌, inl, inr, Bool, true, false, List, [], ◌∷◌}
use Rattle.std.proofs.Common.{◌++◌, length, refl, sym, ◌∙◌, ap, ap₂, subst, arith, eqb, if◌then◌else◌, pos, zero-add}
use Rattle.std.proofs.lemmas.List.FromFn.{get_or-map-range_with_len, length-map-range_with_len}
use Rattle.std.specs.List.{flat_map, range_with_len}
use Rattle.mdp_math.specs.{Rational.{ℚ, ◌+ℚ◌, ◌*ℚ◌}, Sum.{sum_of}, Pivot.{entry_at}}
use Rattle.mdp_math.proofs.{Numbers.{last_or, eqb-same, eqb-smaller, eqb-greater}, Ring.{◌⊕◌, ◌⊗◌, lit, ring}, Linear.{combine, equal}}
use Rattle.mdp_math.proofs.{Lists.{range_more, flat_more}, Laws.{rat_ring}, Order.{0ℚ, 1ℚ}, Sums.{sum_of-append}}
use Rattle.mdp_spec.specs.Mdp.{Entry}
use Rattle.mdp_elim.specs.{System.{row_of}, Visits.{entries_into, row_into, transposed, step}, Entries.{Between}}
use Rattle.mdp_elim.proofs.RowSums.{over, between-lower}

-- ---- lists over a range

pub sum_more : (f : ℕ → ℚ) (n : ℕ) → sum_of f (range_with_len 0 (n + 1)) ≡ sum_of f (range_with_len 0 n) +ℚ f n
sum_more f n = ap (sum_of f) (range_more n) ∙ sum_of-append f (range_with_len 0 n) (n ∷ []) ∙ ring rat_ring 2 (λ a b. a ⊕ (b ⊕ lit (pos 0))) (λ a b. a ⊕ b) refl (sum_of f (range_with_len 0 n)) (f n)

-- ---- what they weigh

into_by : (f : ℕ → ℚ) (s t : ℕ) (x : Entry) (row : List Entry) (b : Bool) → over f (entries_into s t row) ≡ entry_at (λ x. x.target) (λ x. x.prob) row s *ℚ f t
    → over f (if b then (let y : Entry = record { target = t; prob = x.prob } in y) ∷ entries_into s t row else entries_into s t row)
    ≡ ((if b then x.prob else 0ℚ) +ℚ entry_at (λ x. x.target) (λ x. x.prob) row s) *ℚ f t
into_by f s t x row true h = combine 4 (λ o p e k. p ⊗ k ⊕ o) (λ o p e k. (p ⊕ e) ⊗ k)
    (λ o p e k. equal (lit (pos 1)) o (e ⊗ k) ∷ []) refl (over f (entries_into s t row)) x.prob (entry_at (λ x. x.target) (λ x. x.prob) row s) (f t) h
into_by f s t x row false h = combine 3 (λ o e k. o) (λ o e k. (lit (pos 0) ⊕ e) ⊗ k)
    (λ o e k. equal (lit (pos 1)) o (e ⊗ k) ∷ []) refl (over f (entries_into s t row)) (entry_at (λ x. x.target) (λ x. x.prob) row s) (f t) h

over-entries_into : (f : ℕ → ℚ) (s t : ℕ) (row : List Entry) → over f (entries_into s t row) ≡ entry_at (λ x. x.target) (λ x. x.prob) row s *ℚ f t
over-entries_into f s t [] = ring rat_ring 1 (λ k. lit (pos 0)) (λ k. lit (pos 0) ⊗ k) refl (f t)
over-entries_into f s t (x ∷ row) = into_by f s t x row (eqb x.target s) (over-entries_into f s t row)

-- ---- where they lie

pub between-append : (low n high : ℕ) (xs ys : List Entry) → n ≤ high → low ≤ n → Between low n xs → Between n high ys → Between low high (xs ++ ys)
between-append low n high [] ys l k h g = between-lower n low high ys k g
between-append low n high (x ∷ xs) ys l k h g = (h.0, omega (arith, h.1), between-append (suc x.target) n high xs ys l (omega (arith, h.1)) h.2 g)

none_into : (s t low high : ℕ) (row : List Entry) → s < low → Between low high row → entries_into s t row ≡ []
none_into s t low high [] l h = refl
none_into s t low high (x ∷ row) l h =
    ap (λ (b : Bool). if b then (let y : Entry = record { target = t; prob = x.prob } in y) ∷ entries_into s t row else entries_into s t row) (eqb-greater x.target s (omega (arith, h.0)))
    ∙ none_into s t (suc x.target) high row (omega (arith, h.0)) h.2

one_by : (s t low high : ℕ) (x : Entry) (row : List Entry) (b : Bool) → eqb x.target s ≡ b → Between low high (x ∷ row) → Between t (suc t) (entries_into s t row)
    → Between t (suc t) (if b then (let y : Entry = record { target = t; prob = x.prob } in y) ∷ entries_into s t row else entries_into s t row)
one_by s t low high x row true e h ih =
    let q : x.target ≡ s = grind arith in
    let none = none_into s t (suc x.target) high row (omega arith) h.2 in
    subst (λ (r : List Entry). Between t (suc t) ((let y : Entry = record { target = t; prob = x.prob } in y) ∷ r)) (sym none) (omega arith, omega arith, tt)
one_by s t low high x row false e h ih = ih

one_into : (s t low high : ℕ) (row : List Entry) → Between low high row → Between t (suc t) (entries_into s t row)
one_into s t low high [] h = tt
one_into s t low high (x ∷ row) h = one_by s t low high x row (eqb x.target s) refl h (one_into s t (suc x.target) high row h.2)

-- ---- the rows up to n

module _ (rows : List (List Entry)) (s : ℕ) where
  upto : ℕ → List Entry
  upto n = flat_map (λ t. entries_into s t (row_of rows t)) (range_with_len 0 n)

  over-upto : (f : ℕ → ℚ) (n : ℕ) → over f (upto n) ≡ sum_of (λ t. step rows t s *ℚ f t) (range_with_len 0 n)
  unfolding upto
  over-upto f zero = refl
  over-upto f (suc n) =
      let e : suc n ≡ n + 1 = omega arith in
      ap (λ k. over f (upto k)) e ∙ ap (over f) (flat_more (λ t. entries_into s t (row_of rows t)) n)
      ∙ sum_of-append (λ x. x.prob *ℚ f x.target) (upto n) (entries_into s n (row_of rows n))
      ∙ ap₂ ◌+ℚ◌ (over-upto f n) (over-entries_into f s n (row_of rows n))
      ∙ sym (sum_more (λ t. step rows t s *ℚ f t) n) ∙ ap (λ k. sum_of (λ t. step rows t s *ℚ f t) (range_with_len 0 k)) (sym e)

  pub over-row_into : (f : ℕ → ℚ) → over f (row_into rows s) ≡ sum_of (λ t. step rows t s *ℚ f t) (range_with_len 0 (length rows))
  unfolding upto
  over-row_into f = over-upto f (length rows)

  between-upto : ((t : ℕ) → t < length rows → Between 0 (length rows) (row_of rows t)) → (n : ℕ) → n ≤ length rows → Between 0 n (upto n)
  unfolding upto
  between-upto known zero l = tt
  between-upto known (suc n) l =
      let e : n + 1 ≡ suc n = omega arith in
      subst (λ k. Between 0 (suc n) (upto k)) e
      (subst (Between 0 (suc n)) (sym (flat_more (λ t. entries_into s t (row_of rows t)) n))
      (between-append 0 n (suc n) (upto n) (entries_into s n (row_of rows n)) (omega arith) (omega arith) (between-upto known n (omega arith)) (one_into s n 0 (length rows) (row_of rows n) (known n (omega arith)))))

  pub between-row_into : ((t : ℕ) → t < length rows → Between 0 (length rows) (row_of rows t)) → Between 0 (length rows) (row_into rows s)
  unfolding upto
  between-row_into known = between-upto known (length rows) (omega arith)

-- ---- one term of a sum

one_upto : (g : ℕ → ℚ) (v n : ℕ) → n ≤ v → sum_of (λ t. g t *ℚ (if eqb t v then 1ℚ else 0ℚ)) (range_with_len 0 n) ≡ 0ℚ
one_upto g v zero l = refl
one_upto g v (suc n) l =
    let e : suc n ≡ n + 1 = omega arith in
    ap (λ k. sum_of (λ t. g t *ℚ (if eqb t v then 1ℚ else 0ℚ)) (range_with_len 0 k)) e ∙ sum_more (λ t. g t *ℚ (if eqb t v then 1ℚ else 0ℚ)) n
    ∙ combine 3 (λ o a b. o ⊕ a ⊗ b) (λ o a b. lit (pos 0)) (λ o a b. equal (lit (pos 1)) o (lit (pos 0)) ∷ equal a b (lit (pos 0)) ∷ []) refl
    (sum_of (λ t. g t *ℚ (if eqb t v then 1ℚ else 0ℚ)) (range_with_len 0 n)) (g n) (if eqb n v then 1ℚ else 0ℚ) (one_upto g v n (omega arith)) (ap (λ (b : Bool). if b then 1ℚ else 0ℚ) (eqb-smaller n v l))

pub one_term : (g : ℕ → ℚ) (v n : ℕ) → v < n → sum_of (λ t. g t *ℚ (if eqb t v then 1ℚ else 0ℚ)) (range_with_len 0 n) ≡ g v
one_term g v zero l = absurd (omega arith)
one_term g v (suc n) l =
    let e : suc n ≡ n + 1 = omega arith in
    ap (λ k. sum_of (λ t. g t *ℚ (if eqb t v then 1ℚ else 0ℚ)) (range_with_len 0 k)) e ∙ sum_more (λ t. g t *ℚ (if eqb t v then 1ℚ else 0ℚ)) n
    ∙ elim (last_or n v l) as (λ _. sum_of (λ t. g t *ℚ (if eqb t v then 1ℚ else 0ℚ)) (range_with_len 0 n) +ℚ g n *ℚ (if eqb n v then 1ℚ else 0ℚ) ≡ g v) [
      | inl q ↦
          combine 4 (λ o a b c. o ⊕ a ⊗ b) (λ o a b c. c) (λ o a b c. equal (lit (pos 1)) o (lit (pos 0)) ∷ equal a b (lit (pos 1)) ∷ equal (lit (pos 1)) a c ∷ []) refl
          (sum_of (λ t. g t *ℚ (if eqb t v then 1ℚ else 0ℚ)) (range_with_len 0 n)) (g n) (if eqb n v then 1ℚ else 0ℚ) (g v)
          (one_upto g v n (omega arith)) (ap (λ (k : ℕ). if eqb n k then 1ℚ else 0ℚ) q ∙ ap (λ (b : Bool). if b then 1ℚ else 0ℚ) (eqb-same n)) (ap g (sym q))
      | inr k ↦
          combine 4 (λ o a b c. o ⊕ a ⊗ b) (λ o a b c. c) (λ o a b c. equal (lit (pos 1)) o c ∷ equal a b (lit (pos 0)) ∷ []) refl
          (sum_of (λ t. g t *ℚ (if eqb t v then 1ℚ else 0ℚ)) (range_with_len 0 n)) (g n) (if eqb n v then 1ℚ else 0ℚ) (g v)
          (one_term g v n k) (ap (λ (b : Bool). if b then 1ℚ else 0ℚ) (eqb-greater n v k))
    ]

-- ---- the transposed rows themselves

module _ (rows : List (List Entry)) where
  pub length-transposed : length (transposed rows) ≡ length rows
  length-transposed = length-map-range_with_len (row_into rows) 0 (length rows)

  pub row_of-transposed : (s : ℕ) → s < length rows → row_of (transposed rows) s ≡ row_into rows s
  row_of-transposed s l = get_or-map-range_with_len (row_into rows) 0 (length rows) s s [] l (zero-add s)
