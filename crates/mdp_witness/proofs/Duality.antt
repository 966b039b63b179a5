-- Two systems of one chain: the visits from the start, weighed with the constants of a system, are its solution at the start. So no visits are
-- below 0.
use Rattle.std.proofs.Common.{◌≡◌, ℕ, ◌<◌, Bool, true, false, List, [], length, refl, sym, ◌∙◌, ap, pos, ◌∷◌}
use Rattle.std.specs.List.{range_with_len}
use Rattle.mdp_math.specs.{Rational.{ℚ, ◌+ℚ◌, ◌*ℚ◌}, Sum.{sum_of}}
use Rattle.mdp_math.proofs.{Ring.{◌⊕◌, ◌⊗◌, ⊖, lit}, Laws.{*ℚ_comm}, Linear.{combine, equal}, Sums.{sum_of-add, sum_of-same, sum_of-same_all}}
use Rattle.mdp_spec.specs.{Mdp.{Entry, value_at}, Row.{row_sum, AreRows}}
use Rattle.mdp_elim.specs.{System.{is_active, row_of, IsSolution}, Visits.{one_at, step, AreVisits}}
use Rattle.mdp_elim.proofs.RowsInto.{one_term}
use Rattle.mdp_subsystem_rules.proofs.Gather.{All-range, gathered, gathered_parts}

module _ (rows : List (List Entry)) (active : List Bool) (start : ℕ) (column x y : List ℚ) (known_ : AreRows rows) (inside : start < length rows) (visits : AreVisits rows active start y)
    (solves : IsSolution rows active column x) where
  abbrev n : ℕ
  n = length rows

  abbrev states : List ℕ
  states = range_with_len 0 n

  abbrev X : ℕ → ℚ
  X s = value_at x s

  abbrev Y : ℕ → ℚ
  Y s = value_at y s

  abbrev C : ℕ → ℚ
  C s = value_at column s

  abbrev R : ℕ → ℚ
  R s = row_sum (row_of rows s) x

  abbrev I : ℕ → ℚ
  I s = sum_of (λ t. step rows t s *ℚ Y t) states

  -- at each state, by its equation
  by_solution : (s : ℕ) (b : Bool) → is_active active s ≡ b → Y s *ℚ X s ≡ Y s *ℚ C s +ℚ Y s *ℚ R s
  by_solution s true a = combine 4 (λ x y c r. y ⊗ x) (λ x y c r. y ⊗ c ⊕ y ⊗ r) (λ x y c r. equal y x (c ⊕ r) ∷ []) refl (X s) (Y s) (C s) (R s) (solves.inside s a)
  by_solution s false a =
      combine 4 (λ x y c r. y ⊗ x) (λ x y c r. y ⊗ c ⊕ y ⊗ r) (λ x y c r. equal (x ⊕ ⊖ (c ⊕ r)) y (lit (pos 0)) ∷ []) refl (X s) (Y s) (C s) (R s) (visits.outside s a)

  by_visits : (s : ℕ) (b : Bool) → is_active active s ≡ b → Y s *ℚ X s ≡ X s *ℚ one_at start s +ℚ X s *ℚ I s
  by_visits s true a = combine 4 (λ x y o i. y ⊗ x) (λ x y o i. x ⊗ o ⊕ x ⊗ i) (λ x y o i. equal x y (o ⊕ i) ∷ []) refl (X s) (Y s) (one_at start s) (I s) (visits.inside s a)
  by_visits s false a =
      combine 4 (λ x y o i. y ⊗ x) (λ x y o i. x ⊗ o ⊕ x ⊗ i) (λ x y o i. equal (y ⊕ ⊖ (o ⊕ i)) x (lit (pos 0)) ∷ []) refl (X s) (Y s) (one_at start s) (I s) (solves.outside s a)

  -- a row's sum by the numbers of its targets
  row_is : (t : ℕ) → t < n → sum_of (λ s. X s *ℚ step rows t s) states ≡ R t
  row_is t l =
      gathered (λ (x : Entry). x.target) (λ x. x.prob) X n (row_of rows t) (known_ t [] l).in_range
      ∙ sum_of-same (λ (e : Entry). X e.target *ℚ e.prob) (λ e. e.prob *ℚ X e.target) (row_of rows t) (λ e. *ℚ_comm (X e.target) e.prob)

  into_is : sum_of (λ s. X s *ℚ I s) states ≡ sum_of (λ t. Y t *ℚ R t) states
  into_is =
      sum_of-same (λ s. X s *ℚ I s) (λ s. X s *ℚ sum_of (λ t. Y t *ℚ step rows t s) states) states
      (λ s. ap (λ (u : ℚ). X s *ℚ u) (sum_of-same (λ t. step rows t s *ℚ Y t) (λ t. Y t *ℚ step rows t s) states (λ t. *ℚ_comm (step rows t s) (Y t))))
      ∙ gathered_parts Y (λ t s. step rows t s) X states states
      ∙ sum_of-same_all (λ t. Y t *ℚ sum_of (λ s. X s *ℚ step rows t s) states) (λ t. Y t *ℚ R t) states
      (All-range (λ t. Y t *ℚ sum_of (λ s. X s *ℚ step rows t s) states ≡ Y t *ℚ R t) n (λ t l. ap (λ (u : ℚ). Y t *ℚ u) (row_is t l)))

  -- the visits weighed with the constants
  pub weighed : sum_of (λ s. Y s *ℚ C s) states ≡ X start
  weighed =
      combine 5 (λ c r o i t. c) (λ c r o i t. t)
      (λ c r o i t. equal (lit (pos 1)) (c ⊕ r) (o ⊕ i) ∷ equal (lit (pos 1)) i r ∷ equal (lit (pos 1)) o t ∷ []) refl
      (sum_of (λ s. Y s *ℚ C s) states) (sum_of (λ s. Y s *ℚ R s) states) (sum_of (λ s. X s *ℚ one_at start s) states) (sum_of (λ s. X s *ℚ I s) states) (X start)
      (sym (sum_of-add (λ s. Y s *ℚ C s) (λ s. Y s *ℚ R s) states)
      ∙ sum_of-same (λ s. Y s *ℚ C s +ℚ Y s *ℚ R s) (λ s. X s *ℚ one_at start s +ℚ X s *ℚ I s) states
      (λ s. sym (by_solution s (is_active active s) refl) ∙ by_visits s (is_active active s) refl)
      ∙ sum_of-add (λ s. X s *ℚ one_at start s) (λ s. X s *ℚ I s) states)
      into_is (one_term X start n inside)
