-- Bounds on finitely many: a positive number below each of them, and a greatest rank.
use Rattle.std.proofs.Common.{ℕ, zero, suc, ◌+◌, ◌<◌, ◌≤◌, inl, inr, List, [], ◌∷◌, get_or, sym, subst, arith}
use Rattle.std.proofs.lemmas.List.Elements.{All-nil, All-cons}
use Rattle.std.specs.List.{All}
use Rattle.mdp_math.specs.Rational.{ℚ, ◌≤ℚ◌, ◌<ℚ◌}
use Rattle.mdp_math.proofs.{Whole.{one-pos}, Numbers.{last_or}, Order.{0ℚ, 1ℚ, ≤ℚ_refl, ≤ℚ_trans, ≤ℚ_of_lt, ≤ℚ_or_gt}, Kernel.{All-head, All-tail}}

-- a positive number, at most 1, of which P holds
abbrev pub ForSmall : (ℚ → Type 0) → Type 0
ForSmall P = (e : ℚ) × (0ℚ <ℚ e) × (e ≤ℚ 1ℚ) × P e

smaller : (a b : ℚ) → 0ℚ <ℚ a → 0ℚ <ℚ b → (e : ℚ) × (0ℚ <ℚ e) × (e ≤ℚ a) × (e ≤ℚ b)
smaller a b h k = elim (≤ℚ_or_gt a b) as (λ _. (e : ℚ) × (0ℚ <ℚ e) × (e ≤ℚ a) × (e ≤ℚ b)) [
  | inl l ↦ (a, h, ≤ℚ_refl a, l)
  | inr l ↦ (b, k, ≤ℚ_of_lt b a l, ≤ℚ_refl b)
]

-- one number serves for each element, where what holds of a number holds of smaller ones
pub small_for_all : {A : Type 0} (P : A → ℚ → Type 0) → ((x : A) (d e : ℚ) → d ≤ℚ e → P x e → P x d) → (xs : List A) → All (λ x. ForSmall (P x)) xs → ForSmall (λ e. All (λ x. P x e) xs)
small_for_all P down [] h = (1ℚ, one-pos, ≤ℚ_refl 1ℚ, All-nil (λ x. P x 1ℚ))
small_for_all P down (x ∷ xs) h =
    let a = All-head (λ y. ForSmall (P y)) x xs h in
    let b = small_for_all P down xs (All-tail (λ y. ForSmall (P y)) x xs h) in
    let m = smaller a.0 b.0 a.1 b.1 in
    (m.0, m.1, ≤ℚ_trans m.0 a.0 1ℚ m.2 a.2, All-cons (λ y. P y m.0) x xs (down x m.0 a.0 m.2 a.3) (λ k d l. down (get_or xs k d) m.0 b.0 m.3 (b.3 k d l)))

-- and for each number below n
pub small_for_below : (P : ℕ → ℚ → Type 0) → ((s : ℕ) (d e : ℚ) → d ≤ℚ e → P s e → P s d)
    → (n : ℕ) → ((s : ℕ) → s < n → ForSmall (P s)) → ForSmall (λ e. (s : ℕ) → s < n → P s e)
small_for_below P down zero h = (1ℚ, one-pos, ≤ℚ_refl 1ℚ, λ s l. absurd (omega arith))
small_for_below P down (suc n) h =
    let a = h n (omega arith) in
    let b = small_for_below P down n (λ s l. h s (omega arith)) in
    let m = smaller a.0 b.0 a.1 b.1 in (
      m.0,
      m.1,
      ≤ℚ_trans m.0 a.0 1ℚ m.2 a.2,
      λ s l. elim (last_or n s l) as (λ _. P s m.0) [
        | inl e ↦ subst (λ (t : ℕ). P t m.0) (sym e) (down n m.0 a.0 m.2 a.3)
        | inr k ↦ down s m.0 b.0 m.3 (b.3 s k)
      ],
    )

small_one : (x : ℚ) → 0ℚ <ℚ x → ForSmall (λ e. e ≤ℚ x)
small_one x h = let m = smaller x 1ℚ h one-pos in (m.0, m.1, m.3, m.2)

-- a positive number that is at most each f x
pub positive_floor : {A : Type 0} (f : A → ℚ) (xs : List A) → All (λ x. 0ℚ <ℚ f x) xs → ForSmall (λ e. All (λ x. e ≤ℚ f x) xs)
positive_floor f xs h = small_for_all (λ x e. e ≤ℚ f x) (λ x d e l k. ≤ℚ_trans d e (f x) l k) xs (λ k d l. small_one (f (get_or xs k d)) (h k d l))

-- the same over lists of lists
pub positive_floor_lists : {A : Type 0} (f : A → ℚ) (xss : List (List A)) → All (λ xs. All (λ x. 0ℚ <ℚ f x) xs) xss → ForSmall (λ e. All (λ xs. All (λ x. e ≤ℚ f x) xs) xss)
positive_floor_lists f xss h =
    small_for_all (λ xs e. All (λ x. e ≤ℚ f x) xs) (λ xs d e l k. λ j b m. ≤ℚ_trans d e (f (get_or xs j b)) l (k j b m)) xss (λ k d l. positive_floor f (get_or xss k d) (h k d l))

-- a number that is at least each rank below n
pub greatest_rank : (rank : ℕ → ℕ) (n : ℕ) → (m : ℕ) × ((s : ℕ) → s < n → rank s ≤ m)
greatest_rank rank zero = (0, λ s l. absurd (omega arith))
greatest_rank rank (suc n) =
    let r = greatest_rank rank n in (
      r.0 + rank n,
      λ s l. elim (last_or n s l) as (λ _. rank s ≤ r.0 + rank n) [
        | inl e ↦ subst (λ (t : ℕ). rank t ≤ r.0 + rank n) (sym e) (omega arith)
        | inr k ↦ omega (arith, r.1 s k)
      ],
    )

-- ---- a number at which f is greatest, among those below n that pass a test
