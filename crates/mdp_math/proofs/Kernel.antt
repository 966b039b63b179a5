-- The laws of weighing a function by a row.
use Rattle.std.proofs.Common.{◌≡◌, ℕ, zero, suc, ◌<◌, ◌⊎◌, inl, inr, List, [], ◌∷◌, length, get_or, refl, sym, ◌∙◌, ap, ap₂, subst, arith, pos}
use Rattle.std.proofs.lemmas.List.Elements.{All-nil, All-cons}
use Rattle.std.specs.List.{All, Any}
use Rattle.mdp_math.specs.{Rational.{ℚ, ◌+ℚ◌, ◌*ℚ◌, ◌-ℚ◌, neg_ℚ, ◌≤ℚ◌, ◌<ℚ◌}, Sum.{sum_of}, Kernel.{weigh}}
use Rattle.mdp_math.proofs.{Ring.{◌⊕◌, ◌⊗◌, ⊖, lit, ring}, Laws.{rat_ring, zero-*ℚ}}
use Rattle.mdp_math.proofs.Order.{≤ℚ_antisymm, ≤ℚ_or_gt, ≤ℚ_of_eq, clash_ℚ, <ℚ_irrefl, lt_or_eq_ℚ, le_of_mul_left_ℚ, sub-pos, 0ℚ, 1ℚ, ≤ℚ_refl, add-le-add_ℚ}
use Rattle.mdp_math.proofs.{Order.{mul-le-mul_left_ℚ, mul-nonneg, mul-pos_ℚ, add-nonneg, add-pos-nonneg}, Linear.{linear, linear_lt, at_most, known}}

-- ---- claims on the elements of a list

pub All-head : {A : Type 0} (P : A → Type 0) (x : A) (xs : List A) → All P (x ∷ xs) → P x
All-head P x xs h = h 0 x (omega arith)

pub All-tail : {A : Type 0} (P : A → Type 0) (x : A) (xs : List A) → All P (x ∷ xs) → All P xs
All-tail P x xs h = λ k d l. h (suc k) d (omega arith)

any_cases : {A : Type 0} (P : A → Type 0) (x : A) (xs : List A) (k : ℕ) (y : A) → k < length (x ∷ xs) → get_or (x ∷ xs) k y ≡ y → P y → P x ⊎ Any P xs
any_cases P x xs zero y l e p = inl (subst P (sym e) p)
any_cases P x xs (suc k) y l e p = inr (k, y, omega arith, e, p)

pub Any-cases : {A : Type 0} (P : A → Type 0) (x : A) (xs : List A) → Any P (x ∷ xs) → P x ⊎ Any P xs
Any-cases P x xs h = any_cases P x xs h.0 h.1 h.2 h.3 h.4

pub Any-none : {A : Type 0} (P : A → Type 0) → Any P [] → ⊥
Any-none {A = A} P h = let l : h.0 < length {A = A} [] = h.2 in omega arith

-- what holds of each holds of the one
pub Any-and : {A : Type 0} (P Q : A → Type 0) (xs : List A) → All P xs → Any Q xs → Any (λ x. P x × Q x) xs
Any-and P Q xs h any = (any.0, any.1, any.2, any.3, (subst P any.3 (h any.0 any.1 any.2), any.4))

-- a m < a u, and a is at least 0
factor_lt : (a u m : ℚ) → 0ℚ ≤ℚ a → a *ℚ m <ℚ a *ℚ u → m <ℚ u
factor_lt a u m h k = elim (≤ℚ_or_gt u m) as (λ _. m <ℚ u) [ inl l ↦ absurd (clash_ℚ _ _ k (mul-le-mul_left_ℚ a u m h l)) | inr l ↦ l ]

entry_pos : (a u m : ℚ) → 0ℚ ≤ℚ a → a *ℚ m <ℚ a *ℚ u → 0ℚ <ℚ a
entry_pos a u m h k = elim (lt_or_eq_ℚ 0ℚ a h) as (λ _. 0ℚ <ℚ a) [
  | inl l ↦ l
  | inr e ↦ absurd (<ℚ_irrefl 0ℚ (subst (λ (x : ℚ). x <ℚ 0ℚ) (zero-*ℚ m) (subst (λ (x : ℚ). 0ℚ *ℚ m <ℚ x) (zero-*ℚ u) (subst (λ (b : ℚ). b *ℚ m <ℚ b *ℚ u) (sym e) k))))
]

module _ {A : Type 0} (index : A → ℕ) (entry : A → ℚ) where
  pub weigh-same : (f g : ℕ → ℚ) (row : List A) → All (λ x. f (index x) ≡ g (index x)) row → weigh index entry f row ≡ weigh index entry g row
  weigh-same f g [] h = refl
  weigh-same f g (x ∷ row) h =
      ap₂ (λ (u v : ℚ). entry x *ℚ u +ℚ v) (All-head (λ y. f (index y) ≡ g (index y)) x row h) (weigh-same f g row (All-tail (λ y. f (index y) ≡ g (index y)) x row h))

  pub weigh-add : (f g : ℕ → ℚ) (row : List A) → weigh index entry (λ v. f v +ℚ g v) row ≡ weigh index entry f row +ℚ weigh index entry g row
  weigh-add f g [] = ring rat_ring 0 (lit (pos 0)) (lit (pos 0) ⊕ lit (pos 0)) refl
  weigh-add f g (x ∷ row) =
      ap (λ (u : ℚ). entry x *ℚ (f (index x) +ℚ g (index x)) +ℚ u) (weigh-add f g row)
      ∙ ring rat_ring 5 (λ a u v s t. a ⊗ (u ⊕ v) ⊕ (s ⊕ t)) (λ a u v s t. (a ⊗ u ⊕ s) ⊕ (a ⊗ v ⊕ t)) refl (entry x) (f (index x)) (g (index x))
      (weigh index entry f row) (weigh index entry g row)

  pub weigh-sub : (f g : ℕ → ℚ) (row : List A) → weigh index entry (λ v. f v -ℚ g v) row ≡ weigh index entry f row -ℚ weigh index entry g row
  weigh-sub f g [] = ring rat_ring 0 (lit (pos 0)) (lit (pos 0) ⊕ ⊖ (lit (pos 0))) refl
  weigh-sub f g (x ∷ row) =
      ap (λ (u : ℚ). entry x *ℚ (f (index x) -ℚ g (index x)) +ℚ u) (weigh-sub f g row)
      ∙ ring rat_ring 5 (λ a u v s t. a ⊗ (u ⊕ ⊖ v) ⊕ (s ⊕ ⊖ t)) (λ a u v s t. (a ⊗ u ⊕ s) ⊕ ⊖ (a ⊗ v ⊕ t)) refl (entry x) (f (index x)) (g (index x))
      (weigh index entry f row) (weigh index entry g row)

  pub weigh-scale : (c : ℚ) (f : ℕ → ℚ) (row : List A) → weigh index entry (λ v. c *ℚ f v) row ≡ c *ℚ weigh index entry f row
  weigh-scale c f [] = ring rat_ring 1 (λ c. lit (pos 0)) (λ c. c ⊗ lit (pos 0)) refl c
  weigh-scale c f (x ∷ row) =
      ap (λ (u : ℚ). entry x *ℚ (c *ℚ f (index x)) +ℚ u) (weigh-scale c f row)
      ∙ ring rat_ring 4 (λ a c u s. a ⊗ (c ⊗ u) ⊕ c ⊗ s) (λ a c u s. c ⊗ (a ⊗ u ⊕ s)) refl (entry x) c (f (index x)) (weigh index entry f row)

  pub weigh-neg : (f : ℕ → ℚ) (row : List A) → weigh index entry (λ v. neg_ℚ (f v)) row ≡ neg_ℚ (weigh index entry f row)
  weigh-neg f [] = ring rat_ring 0 (lit (pos 0)) (⊖ (lit (pos 0))) refl
  weigh-neg f (x ∷ row) =
      ap (λ (u : ℚ). entry x *ℚ neg_ℚ (f (index x)) +ℚ u) (weigh-neg f row)
      ∙ ring rat_ring 3 (λ a u s. a ⊗ ⊖ u ⊕ ⊖ s) (λ a u s. ⊖ (a ⊗ u ⊕ s)) refl (entry x) (f (index x)) (weigh index entry f row)

  -- the mass of the row, as what 1 weighs
  pub weigh-const : (c : ℚ) (row : List A) → weigh index entry (λ v. c) row ≡ c *ℚ sum_of entry row
  weigh-const c [] = ring rat_ring 1 (λ c. lit (pos 0)) (λ c. c ⊗ lit (pos 0)) refl c
  weigh-const c (x ∷ row) =
      ap (λ (u : ℚ). entry x *ℚ c +ℚ u) (weigh-const c row)
      ∙ ring rat_ring 3 (λ a c s. a ⊗ c ⊕ c ⊗ s) (λ a c s. c ⊗ (a ⊕ s)) refl (entry x) c (sum_of entry row)

  -- ---- entries of at least 0

  pub weigh-le_at : (f g : ℕ → ℚ) (row : List A) → All (λ x. 0ℚ ≤ℚ entry x) row → All (λ x. f (index x) ≤ℚ g (index x)) row → weigh index entry f row ≤ℚ weigh index entry g row
  weigh-le_at f g [] p h = ≤ℚ_refl 0ℚ
  weigh-le_at f g (x ∷ row) p h =
      add-le-add_ℚ _ _ _ _
      (mul-le-mul_left_ℚ (entry x) (f (index x)) (g (index x)) (All-head (λ y. 0ℚ ≤ℚ entry y) x row p) (All-head (λ y. f (index y) ≤ℚ g (index y)) x row h))
      (weigh-le_at f g row (All-tail (λ y. 0ℚ ≤ℚ entry y) x row p) (All-tail (λ y. f (index y) ≤ℚ g (index y)) x row h))

  pub weigh-le : (f g : ℕ → ℚ) (row : List A) → All (λ x. 0ℚ ≤ℚ entry x) row → ((v : ℕ) → f v ≤ℚ g v) → weigh index entry f row ≤ℚ weigh index entry g row
  weigh-le f g row p h = weigh-le_at f g row p (λ k d l. h (index (get_or row k d)))

  pub weigh-nonneg : (f : ℕ → ℚ) (row : List A) → All (λ x. 0ℚ ≤ℚ entry x) row → ((v : ℕ) → 0ℚ ≤ℚ f v) → 0ℚ ≤ℚ weigh index entry f row
  weigh-nonneg f [] p h = ≤ℚ_refl 0ℚ
  weigh-nonneg f (x ∷ row) p h =
      add-nonneg _ _ (mul-nonneg (entry x) (f (index x)) (All-head (λ y. 0ℚ ≤ℚ entry y) x row p) (h (index x))) (weigh-nonneg f row (All-tail (λ y. 0ℚ ≤ℚ entry y) x row p) h)

  -- a function that is at most 1 weighs at most the mass
  pub weigh-le_mass : (f : ℕ → ℚ) (row : List A) → All (λ x. 0ℚ ≤ℚ entry x) row → ((v : ℕ) → f v ≤ℚ 1ℚ) → weigh index entry f row ≤ℚ sum_of entry row
  weigh-le_mass f [] p h = ≤ℚ_refl 0ℚ
  weigh-le_mass f (x ∷ row) p h =
      linear 4 (λ a u s t. a ⊗ u ⊕ s) (λ a u s t. a ⊕ t) (λ a u s t. at_most a u (lit (pos 1)) ∷ known s t ∷ []) refl (entry x) (f (index x)) (weigh index entry f row) (sum_of entry row)
      (All-head (λ y. 0ℚ ≤ℚ entry y) x row p) (h (index x)) (weigh-le_mass f row (All-tail (λ y. 0ℚ ≤ℚ entry y) x row p) h)

  -- and less, where it is less at an entry of at least e
  pub weigh-below_mass : (f : ℕ → ℚ) (e g : ℚ) (row : List A) → All (λ x. 0ℚ ≤ℚ entry x) row
      → ((v : ℕ) → f v ≤ℚ 1ℚ) → 0ℚ ≤ℚ g → Any (λ x. (e ≤ℚ entry x) × (f (index x) +ℚ g ≤ℚ 1ℚ)) row
      → weigh index entry f row +ℚ e *ℚ g ≤ℚ sum_of entry row
  weigh-below_mass f e g [] p h k any = absurd (Any-none (λ x. (e ≤ℚ entry x) × (f (index x) +ℚ g ≤ℚ 1ℚ)) any)
  weigh-below_mass f e g (x ∷ row) p h k any =
      let head : 0ℚ ≤ℚ entry x = All-head (λ y. 0ℚ ≤ℚ entry y) x row p in
      let tail = All-tail (λ y. 0ℚ ≤ℚ entry y) x row p in
      elim (Any-cases (λ y. (e ≤ℚ entry y) × (f (index y) +ℚ g ≤ℚ 1ℚ)) x row any) as (λ _. weigh index entry f (x ∷ row) +ℚ e *ℚ g ≤ℚ sum_of entry (x ∷ row)) [
        | inl q ↦
            linear 6 (λ a u e g s t. (a ⊗ u ⊕ s) ⊕ e ⊗ g) (λ a u e g s t. a ⊕ t) (λ a u e g s t. at_most a (u ⊕ g) (lit (pos 1)) ∷ at_most g e a ∷ known s t ∷ []) refl
            (entry x) (f (index x)) e g (weigh index entry f row) (sum_of entry row)
            head q.1 k q.0 (weigh-le_mass f row tail h)
        | inr q ↦
            linear 6 (λ a u e g s t. (a ⊗ u ⊕ s) ⊕ e ⊗ g) (λ a u e g s t. a ⊕ t) (λ a u e g s t. at_most a u (lit (pos 1)) ∷ known (s ⊕ e ⊗ g) t ∷ []) refl
            (entry x) (f (index x)) e g (weigh index entry f row) (sum_of entry row)
            head (h (index x)) (weigh-below_mass f e g row tail h k q)
      ]

  -- above 0, where a positive entry leads to a positive number
  pub weigh-pos : (f : ℕ → ℚ) (row : List A) → All (λ x. 0ℚ ≤ℚ entry x) row → ((v : ℕ) → 0ℚ ≤ℚ f v)
      → Any (λ x. (0ℚ <ℚ entry x) × (0ℚ <ℚ f (index x))) row → 0ℚ <ℚ weigh index entry f row
  weigh-pos f [] p h any = absurd (Any-none (λ x. (0ℚ <ℚ entry x) × (0ℚ <ℚ f (index x))) any)
  weigh-pos f (x ∷ row) p h any =
      let head : 0ℚ ≤ℚ entry x = All-head (λ y. 0ℚ ≤ℚ entry y) x row p in
      let tail = All-tail (λ y. 0ℚ ≤ℚ entry y) x row p in
      elim (Any-cases (λ y. (0ℚ <ℚ entry y) × (0ℚ <ℚ f (index y))) x row any) as (λ _. 0ℚ <ℚ weigh index entry f (x ∷ row)) [
        | inl q ↦ add-pos-nonneg _ _ (mul-pos_ℚ (entry x) (f (index x)) q.0 q.1) (weigh-nonneg f row tail h)
        | inr q ↦
            linear_lt 3 (λ a u s. lit (pos 0)) (λ a u s. a ⊗ u ⊕ s) (λ a u s. s) (λ a u s. at_most a (lit (pos 0)) u ∷ []) refl (entry x) (f (index x)) (weigh index entry f row)
            (weigh-pos f row tail h q) head (h (index x))
      ]

  -- ---- bounds on the row's numbers

  pub weigh-le_const : (f : ℕ → ℚ) (m : ℚ) (row : List A) → All (λ x. 0ℚ ≤ℚ entry x) row → All (λ x. f (index x) ≤ℚ m) row → weigh index entry f row ≤ℚ m *ℚ sum_of entry row
  weigh-le_const f m row p h = subst (λ (u : ℚ). weigh index entry f row ≤ℚ u) (weigh-const m row) (weigh-le_at f (λ v. m) row p h)

  pub weigh-ge_const : (f : ℕ → ℚ) (m : ℚ) (row : List A) → All (λ x. 0ℚ ≤ℚ entry x) row → All (λ x. m ≤ℚ f (index x)) row → m *ℚ sum_of entry row ≤ℚ weigh index entry f row
  weigh-ge_const f m row p h = subst (λ (u : ℚ). u ≤ℚ weigh index entry f row) (weigh-const m row) (weigh-le_at (λ v. m) f row p h)

  -- where the bound is reached, each number with an entry above 0 reaches it
  pub weigh-reaches_greatest : (f : ℕ → ℚ) (m : ℚ) (row : List A) → All (λ x. 0ℚ ≤ℚ entry x) row → All (λ x. f (index x) ≤ℚ m) row → m *ℚ sum_of entry row ≤ℚ weigh index entry f row
      → All (λ x. 0ℚ <ℚ entry x → f (index x) ≡ m) row
  weigh-reaches_greatest f m [] p h k = All-nil (λ x. 0ℚ <ℚ entry x → f (index x) ≡ m)
  weigh-reaches_greatest f m (x ∷ row) p h k =
      let p1 : 0ℚ ≤ℚ entry x = All-head (λ y. 0ℚ ≤ℚ entry y) x row p in
      let h1 : f (index x) ≤ℚ m = All-head (λ y. f (index y) ≤ℚ m) x row h in
      let p2 = All-tail (λ y. 0ℚ ≤ℚ entry y) x row p in
      let h2 = All-tail (λ y. f (index y) ≤ℚ m) x row h in
      All-cons (λ y. 0ℚ <ℚ entry y → f (index y) ≡ m) x row
      (λ l. ≤ℚ_antisymm (f (index x)) m h1 (le_of_mul_left_ℚ (entry x) m (f (index x)) l
      (linear 5 (λ a u m s t. a ⊗ m) (λ a u m s t. a ⊗ u) (λ a u m s t. known (m ⊗ (a ⊕ t)) (a ⊗ u ⊕ s) ∷ known s (m ⊗ t) ∷ []) refl
      (entry x) (f (index x)) m (weigh index entry f row) (sum_of entry row) k (weigh-le_const f m row p2 h2))))
      (weigh-reaches_greatest f m row p2 h2
      (linear 5 (λ a u m s t. m ⊗ t) (λ a u m s t. s) (λ a u m s t. known (m ⊗ (a ⊕ t)) (a ⊗ u ⊕ s) ∷ at_most a u m ∷ []) refl
      (entry x) (f (index x)) m (weigh index entry f row) (sum_of entry row) k p1 h1))

  pub weigh-reaches_least : (f : ℕ → ℚ) (m : ℚ) (row : List A) → All (λ x. 0ℚ ≤ℚ entry x) row → All (λ x. m ≤ℚ f (index x)) row → weigh index entry f row ≤ℚ m *ℚ sum_of entry row
      → All (λ x. 0ℚ <ℚ entry x → f (index x) ≡ m) row
  weigh-reaches_least f m [] p h k = All-nil (λ x. 0ℚ <ℚ entry x → f (index x) ≡ m)
  weigh-reaches_least f m (x ∷ row) p h k =
      let p1 : 0ℚ ≤ℚ entry x = All-head (λ y. 0ℚ ≤ℚ entry y) x row p in
      let h1 : m ≤ℚ f (index x) = All-head (λ y. m ≤ℚ f (index y)) x row h in
      let p2 = All-tail (λ y. 0ℚ ≤ℚ entry y) x row p in
      let h2 = All-tail (λ y. m ≤ℚ f (index y)) x row h in
      All-cons (λ y. 0ℚ <ℚ entry y → f (index y) ≡ m) x row
      (λ l. sym (≤ℚ_antisymm m (f (index x)) h1 (le_of_mul_left_ℚ (entry x) (f (index x)) m l
      (linear 5 (λ a u m s t. a ⊗ u) (λ a u m s t. a ⊗ m) (λ a u m s t. known (a ⊗ u ⊕ s) (m ⊗ (a ⊕ t)) ∷ known (m ⊗ t) s ∷ []) refl
      (entry x) (f (index x)) m (weigh index entry f row) (sum_of entry row) k (weigh-ge_const f m row p2 h2)))))
      (weigh-reaches_least f m row p2 h2
      (linear 5 (λ a u m s t. s) (λ a u m s t. m ⊗ t) (λ a u m s t. known (a ⊗ u ⊕ s) (m ⊗ (a ⊕ t)) ∷ at_most a m u ∷ []) refl
      (entry x) (f (index x)) m (weigh index entry f row) (sum_of entry row) k p1 h1))

  any_later : (P : A → Type 0) (x : A) (row : List A) → Any P row → Any P (x ∷ row)
  any_later P x row h = (suc h.0, h.1, omega (arith, h.2), h.3, h.4)

  -- a row that weighs more than m times its mass has a number above m, and a row that weighs less has one below
  pub weigh-some_above : (f : ℕ → ℚ) (m : ℚ) (row : List A) → All (λ x. 0ℚ ≤ℚ entry x) row
      → m *ℚ sum_of entry row <ℚ weigh index entry f row → Any (λ x. (0ℚ <ℚ entry x) × (m <ℚ f (index x))) row
  weigh-some_above f m [] p h = absurd (clash_ℚ (m *ℚ 0ℚ) 0ℚ h (≤ℚ_of_eq _ _ (ring rat_ring 1 (λ m. lit (pos 0)) (λ m. m ⊗ lit (pos 0)) refl m)))
  weigh-some_above f m (x ∷ row) p h =
      let p1 : 0ℚ ≤ℚ entry x = All-head (λ y. 0ℚ ≤ℚ entry y) x row p in
      let p2 = All-tail (λ y. 0ℚ ≤ℚ entry y) x row p in
      elim (≤ℚ_or_gt (entry x *ℚ f (index x)) (entry x *ℚ m)) as (λ _. Any (λ y. (0ℚ <ℚ entry y) × (m <ℚ f (index y))) (x ∷ row)) [
        | inl l ↦ any_later (λ y. (0ℚ <ℚ entry y) × (m <ℚ f (index y))) x row (weigh-some_above f m row p2
            (linear_lt 5 (λ a u m s t. m ⊗ t) (λ a u m s t. s) (λ a u m s t. (a ⊗ u ⊕ s) ⊕ ⊖ (m ⊗ (a ⊕ t))) (λ a u m s t. known (a ⊗ u) (a ⊗ m) ∷ []) refl
            (entry x) (f (index x)) m (weigh index entry f row) (sum_of entry row) (sub-pos _ _ h) l))
        | inr l ↦ (0, x, omega arith, refl, (entry_pos (entry x) (f (index x)) m p1 l, factor_lt (entry x) (f (index x)) m p1 l))
      ]
