-- A weight that shrinks, from ranks that fall.
--
-- A kernel gives rows of entries to some numbers, the active ones. Each entry stands at an index, again a number.
-- Where from each active number some entry of each allowed row leads to a number of smaller rank, or to none that is active, there is a weight
-- on the active numbers that each allowed row shrinks by one factor below 1.
use Rattle.std.proofs.Common.{◌≡◌, ℕ, zero, suc, ◌<◌, ◌≤◌, ◌⊎◌, inl, inr, Bool, true, false, if◌then◌else◌, List, refl, sym, ap, subst, arith, pos, [], ◌∷◌}
use Rattle.std.specs.List.{All, Any}
use Rattle.mdp_math.specs.{Rational.{ℚ, of_int, ◌+ℚ◌, ◌*ℚ◌, ◌-ℚ◌, ◌≤ℚ◌, ◌<ℚ◌}, Sum.{sum_of}, Power.{pow_ℚ}, Kernel.{weigh}}
use Rattle.mdp_math.proofs.{Ring.{◌⊕◌, ◌⊗◌, ⊖, lit}, Whole.{one-pos}, Order.{0ℚ, 1ℚ, ≤ℚ_trans, ≤ℚ_of_lt, mul-pos_ℚ}}
use Rattle.mdp_math.proofs.Powers.{pow_ℚ-nonneg, pow_ℚ-pos, pow_ℚ-le_one, pow_ℚ-antitone, pow_ℚ-one}
use Rattle.mdp_math.proofs.{Linear.{linear, linear_lt, combine, equal, at_most, known}, Division.{half, half_twice, half_pos}, Kernel.{weigh-below_mass}}

-- a weight of 0 outside, and between 1/2 and 1 at active numbers, which each allowed row shrinks by the rate
pub record Shrinks {A : Type 0} (index : A → ℕ) (entry : A → ℚ) (active : ℕ → Bool) (Allowed : ℕ → List A → Type 0) : Type 0 where
  pub weight : ℕ → ℚ
  pub rate : ℚ
  pub rate_nonneg : 0ℚ ≤ℚ rate
  pub rate_below : rate <ℚ 1ℚ
  pub outside : (s : ℕ) → active s ≡ false → weight s ≡ 0ℚ
  pub at_least_half : (s : ℕ) → active s ≡ true → half ≤ℚ weight s
  pub at_most_one : (s : ℕ) → weight s ≤ℚ 1ℚ
  pub entries : (s : ℕ) (row : List A) → active s ≡ true → Allowed s row → All (λ x. 0ℚ ≤ℚ entry x) row
  pub shrinks : (s : ℕ) (row : List A) → active s ≡ true → Allowed s row → weigh index entry weight row ≤ℚ rate *ℚ weight s

-- ranks of active numbers that fall: each allowed row has an entry of at least eps at a smaller rank or outside
pub record RanksFall {A : Type 0} (index : A → ℕ) (entry : A → ℚ) (active : ℕ → Bool) (Allowed : ℕ → List A → Type 0) (eps : ℚ) (rank : ℕ → ℕ) (most : ℕ) : Type 0 where
  pub eps_positive : 0ℚ <ℚ eps
  pub eps_at_most_one : eps ≤ℚ 1ℚ
  pub rank_positive : (s : ℕ) → active s ≡ true → 0 < rank s
  pub rank_at_most : (s : ℕ) → active s ≡ true → rank s ≤ most
  pub entries : (s : ℕ) (row : List A) → active s ≡ true → Allowed s row → All (λ x. 0ℚ ≤ℚ entry x) row
  pub mass : (s : ℕ) (row : List A) → active s ≡ true → Allowed s row → sum_of entry row ≤ℚ 1ℚ
  pub falls : (s : ℕ) (row : List A) → active s ≡ true → Allowed s row → Any (λ x. (eps ≤ℚ entry x) × ((active (index x) ≡ false) ⊎ (rank (index x) < rank s))) row

-- 1 - d^n at an active number of rank n, and 0 outside
abbrev pub weight_of : ℚ → Bool → ℕ → ℚ
weight_of d is_active n = if is_active then 1ℚ -ℚ pow_ℚ d n else 0ℚ

one_minus_le_one : (p : ℚ) → 0ℚ ≤ℚ p → 1ℚ -ℚ p ≤ℚ 1ℚ
one_minus_le_one p h = linear 1 (λ p. lit (pos 1) ⊕ ⊖ p) (λ p. lit (pos 1)) (λ p. known (lit (pos 0)) p ∷ []) refl p h

weight_of-le_one : (d : ℚ) (b : Bool) (n : ℕ) → 0ℚ ≤ℚ d → weight_of d b n ≤ℚ 1ℚ
weight_of-le_one d true n h = one_minus_le_one (pow_ℚ d n) (pow_ℚ-nonneg d n h)
weight_of-le_one d false n h = ≤ℚ_of_lt 0ℚ 1ℚ one-pos

-- at a smaller rank, or outside, the weight and d^n are at most 1
weight_of-below : (d : ℚ) (b : Bool) (m n : ℕ) → 0ℚ ≤ℚ d → d ≤ℚ 1ℚ → (b ≡ false) ⊎ (m ≤ n) → weight_of d b m +ℚ pow_ℚ d n ≤ℚ 1ℚ
weight_of-below d false m n h k c = linear 1 (λ p. lit (pos 0) ⊕ p) (λ p. lit (pos 1)) (λ p. known p (lit (pos 1)) ∷ []) refl (pow_ℚ d n) (pow_ℚ-le_one d n h k)
weight_of-below d true m n h k c =
    let l : m ≤ n = elim c as (λ _. m ≤ n) [ inl e ↦ grind arith | inr l ↦ l ] in
    linear 2 (λ p q. (lit (pos 1) ⊕ ⊖ q) ⊕ p) (λ p q. lit (pos 1)) (λ p q. known p q ∷ []) refl (pow_ℚ d n) (pow_ℚ d m) (pow_ℚ-antitone d m n h k l)

-- the row of a number of rank n + 1, with d = eps / 2
row_shrinks : (e d m w p q : ℚ) → e ≡ of_int (pos 2) *ℚ d → w +ℚ e *ℚ p ≤ℚ m → m ≤ℚ 1ℚ
    → q ≤ℚ d *ℚ p → 0ℚ ≤ℚ q → 0ℚ ≤ℚ d *ℚ p → w ≤ℚ (1ℚ -ℚ q) *ℚ (1ℚ -ℚ d *ℚ p)
row_shrinks e d m w p q twice row mass small hq hp =
    linear 6 (λ e d m w p q. w) (λ e d m w p q. (lit (pos 1) ⊕ ⊖ q) ⊗ (lit (pos 1) ⊕ ⊖ (d ⊗ p)))
    (λ e d m w p q. equal p (lit (pos 2) ⊗ d) e ∷ known (w ⊕ e ⊗ p) m ∷ known m (lit (pos 1)) ∷ known q (d ⊗ p) ∷ at_most q (lit (pos 0)) (d ⊗ p) ∷ []) refl
    e d m w p q (sym twice) row mass small hq hp

-- e is twice its half
half_of : (e : ℚ) → e ≡ of_int (pos 2) *ℚ (e *ℚ half)
half_of e = combine 2 (λ e h. e) (λ e h. lit (pos 2) ⊗ (e ⊗ h)) (λ e h. equal (⊖ e) (lit (pos 2) ⊗ h) (lit (pos 1)) ∷ []) refl e half half_twice

half_of-pos : (e : ℚ) → 0ℚ <ℚ e → 0ℚ <ℚ e *ℚ half
half_of-pos e h = mul-pos_ℚ e half h half_pos

half_of-le : (e : ℚ) → e ≤ℚ 1ℚ → e *ℚ half ≤ℚ half
half_of-le e h = linear 2 (λ e h. e ⊗ h) (λ e h. h) (λ e h. at_most h e (lit (pos 1)) ∷ []) refl e half (≤ℚ_of_lt 0ℚ half half_pos) h

half-le_one : half ≤ℚ 1ℚ
half-le_one = linear 1 (λ h. h) (λ h. lit (pos 1)) (λ h. equal (lit (pos 1)) (lit (pos 2) ⊗ h) (lit (pos 1)) ∷ known (lit (pos 0)) h ∷ []) refl half half_twice (≤ℚ_of_lt 0ℚ half half_pos)

-- where p is small, 1 - p is large
one_minus-half : (d p : ℚ) → d ≤ℚ half → p ≤ℚ d → half ≤ℚ 1ℚ -ℚ p
one_minus-half d p h k =
    linear 3 (λ h d p. h) (λ h d p. lit (pos 1) ⊕ ⊖ p) (λ h d p. equal (lit (pos 1)) (lit (pos 2) ⊗ h) (lit (pos 1)) ∷ known d h ∷ known p d ∷ []) refl half d p half_twice h k

one_minus-nonneg : (p : ℚ) → p ≤ℚ 1ℚ → 0ℚ ≤ℚ 1ℚ -ℚ p
one_minus-nonneg p h = linear 1 (λ p. lit (pos 0)) (λ p. lit (pos 1) ⊕ ⊖ p) (λ p. known p (lit (pos 1)) ∷ []) refl p h

one_minus-below : (p : ℚ) → 0ℚ <ℚ p → 1ℚ -ℚ p <ℚ 1ℚ
one_minus-below p h = linear_lt 1 (λ p. lit (pos 1) ⊕ ⊖ p) (λ p. lit (pos 1)) (λ p. p) (λ p. []) refl p h

weight_of-half : (d : ℚ) (n : ℕ) → 0ℚ ≤ℚ d → d ≤ℚ half → 0 < n → half ≤ℚ 1ℚ -ℚ pow_ℚ d n
weight_of-half d n h k l =
    one_minus-half d (pow_ℚ d n) k (subst (λ (u : ℚ). pow_ℚ d n ≤ℚ u) (pow_ℚ-one d) (pow_ℚ-antitone d 1 n h (≤ℚ_trans d half 1ℚ k half-le_one) (omega arith)))

fall_to : (c : Type 0) (m r n : ℕ) → r ≡ suc n → c ⊎ (m < r) → c ⊎ (m ≤ n)
fall_to c m r n e (inl h) = inl h
fall_to c m r n e (inr h) = inr (omega arith)

abbrev pub ranked_weight : ℚ → (ℕ → Bool) → (ℕ → ℕ) → ℕ → ℚ
ranked_weight d active rank s = weight_of d (active s) (rank s)

module _ {A : Type 0} {index : A → ℕ} {entry : A → ℚ} {active : ℕ → Bool} {Allowed : ℕ → List A → Type 0} {eps : ℚ} {rank : ℕ → ℕ} {most : ℕ}
    (R : RanksFall index entry active Allowed eps rank most) where
  -- at a number of rank n
  shrinks_at : (s : ℕ) (row : List A) (n : ℕ) → rank s ≡ n → active s ≡ true → Allowed s row
      → weigh index entry (ranked_weight (eps *ℚ half) active rank) row ≤ℚ (1ℚ -ℚ pow_ℚ (eps *ℚ half) most) *ℚ (1ℚ -ℚ pow_ℚ (eps *ℚ half) n)
  shrinks_at s row zero e a ok = let h : 0 < rank s = R.rank_positive s a in absurd (omega arith)
  shrinks_at s row (suc n) e a ok =
      let hd : 0ℚ ≤ℚ eps *ℚ half = ≤ℚ_of_lt 0ℚ (eps *ℚ half) (half_of-pos eps R.eps_positive) in
      let hd1 : eps *ℚ half ≤ℚ 1ℚ = ≤ℚ_trans (eps *ℚ half) half 1ℚ (half_of-le eps R.eps_at_most_one) half-le_one in
      let any = R.falls s row a ok in
      let bound : suc n ≤ most = subst (λ (k : ℕ). k ≤ most) e (R.rank_at_most s a) in
      row_shrinks eps (eps *ℚ half) (sum_of entry row) (weigh index entry (ranked_weight (eps *ℚ half) active rank) row) (pow_ℚ (eps *ℚ half) n) (pow_ℚ (eps *ℚ half) most)
      (half_of eps)
      (weigh-below_mass index entry (ranked_weight (eps *ℚ half) active rank) eps (pow_ℚ (eps *ℚ half) n) row (R.entries s row a ok)
      (λ v. weight_of-le_one (eps *ℚ half) (active v) (rank v) hd)
      (pow_ℚ-nonneg (eps *ℚ half) n hd) (
        any.0,
        any.1,
        any.2,
        any.3,
        (
          any.4.0,
          weight_of-below (eps *ℚ half) (active (index any.1)) (rank (index any.1)) n hd hd1
              (fall_to (active (index any.1) ≡ false) (rank (index any.1)) (rank s) n e any.4.1),
        ),
      ))
      (R.mass s row a ok)
      (pow_ℚ-antitone (eps *ℚ half) (suc n) most hd hd1 bound)
      (pow_ℚ-nonneg (eps *ℚ half) most hd)
      (pow_ℚ-nonneg (eps *ℚ half) (suc n) hd)

  -- the weight 1 - d^rank and the rate 1 - d^most, with d = eps / 2
  pub shrinks_by_ranks : Shrinks index entry active Allowed
  shrinks_by_ranks =
      let hd : 0ℚ <ℚ eps *ℚ half = half_of-pos eps R.eps_positive in
      let hd0 : 0ℚ ≤ℚ eps *ℚ half = ≤ℚ_of_lt 0ℚ (eps *ℚ half) hd in
      let hdh : eps *ℚ half ≤ℚ half = half_of-le eps R.eps_at_most_one in
      let hd1 : eps *ℚ half ≤ℚ 1ℚ = ≤ℚ_trans (eps *ℚ half) half 1ℚ hdh half-le_one in
      record {
        weight = ranked_weight (eps *ℚ half) active rank;
        rate = 1ℚ -ℚ pow_ℚ (eps *ℚ half) most;
        rate_nonneg = one_minus-nonneg (pow_ℚ (eps *ℚ half) most) (pow_ℚ-le_one (eps *ℚ half) most hd0 hd1);
        rate_below = one_minus-below (pow_ℚ (eps *ℚ half) most) (pow_ℚ-pos (eps *ℚ half) most hd);
        outside = λ s a. ap (λ (b : Bool). weight_of (eps *ℚ half) b (rank s)) a;
        at_least_half = λ s a. subst (λ (b : Bool). half ≤ℚ weight_of (eps *ℚ half) b (rank s)) (sym a) (weight_of-half (eps *ℚ half) (rank s) hd0 hdh (R.rank_positive s a));
        at_most_one = λ s. weight_of-le_one (eps *ℚ half) (active s) (rank s) hd0;
        entries = R.entries;
        shrinks = λ s row a ok. subst (λ (b : Bool). weigh index entry (ranked_weight (eps *ℚ half) active rank) row ≤ℚ (1ℚ -ℚ pow_ℚ (eps *ℚ half) most) *ℚ weight_of (eps *ℚ half) b
            (rank s)) (sym a) (shrinks_at s row (rank s) refl a ok);
      }

  pub weight_by_ranks : (s : ℕ) → Shrinks.weight shrinks_by_ranks s ≡ weight_of (eps *ℚ half) (active s) (rank s)
  unfolding shrinks_by_ranks
  weight_by_ranks s = refl

  pub rate_by_ranks : Shrinks.rate shrinks_by_ranks ≡ 1ℚ -ℚ pow_ℚ (eps *ℚ half) most
  unfolding shrinks_by_ranks
  rate_by_ranks = refl
