-- A chain whose states all lead to t: the weight that shrinks until t is reached, and so what is earned on the way and the number of steps.
use Rattle.std.proofs.Common.{◌≡◌, ◌≢◌, ℕ, suc, ◌<◌, ◌⊎◌, inl, inr, Bool, true, false, not, ◌&&◌, eqb, if◌then◌else◌, List, [], refl, sym, ◌∙◌, ap, subst, arith}
use Rattle.std.specs.List.{All, Any}
use Rattle.mdp_math.specs.{Rational.{ℚ, ◌≤ℚ◌}, Sum.{sum_of}, Pivot.{active_below, entry_at, solution}}
use Rattle.mdp_math.proofs.{Numbers.{eqb-same}, Order.{0ℚ, 1ℚ, ≤ℚ_trans, ≤ℚ_of_lt, ≤ℚ_of_eq}, Floors.{ForSmall, small_for_below, positive_floor, greatest_rank}}
use Rattle.mdp_math.proofs.{Kernel.{Any-and, weigh-same}, Weight.{Shrinks, shrinks_by_ranks}, Elimination.{kernel_solution}}
use Rattle.mdp_spec.specs.Mdp.{Entry}
use Rattle.mdp_unichain.specs.{Chain.{IsChain, AllLeadTo}, Evaluation.{mean, active, IsEarned}}

-- the target and the probability of an entry
abbrev pub target : Entry → ℕ
target y = y.target

abbrev pub prob : Entry → ℚ
prob y = y.prob

-- ---- active states

pub same_number : (s t : ℕ) → eqb s t ≡ true → s ≡ t
same_number s t e = grind arith

pub other_number : (s t : ℕ) (b : Bool) → eqb s t ≡ b → s ≢ t → b ≡ false
other_number s t true e h = absurd (h (same_number s t e))
other_number s t false e h = refl

pub same_or_other : (s t : ℕ) → (s ≡ t) ⊎ (s ≢ t)
same_or_other s t = by (eqb s t) refl
  where
    by : (b : Bool) → eqb s t ≡ b → (s ≡ t) ⊎ (s ≢ t)
    by true e = inl (same_number s t e)
    by false e = inr (λ h. let q : eqb s t ≡ true = ap (λ k. eqb k t) h ∙ eqb-same t in cc)

module _ (states : ℕ → Bool) (t : ℕ) where
  state_by : (a b : Bool) → (a && not b) ≡ true → a ≡ true
  state_by true b e = refl
  state_by false b e = e

  other_by : (a b : Bool) → (a && not b) ≡ true → b ≡ false
  other_by true true e = cc
  other_by true false e = refl
  other_by false b e = cc

  from_by : (a b : Bool) → a ≡ true → b ≡ false → (a && not b) ≡ true
  from_by true true e h = cc
  from_by true false e h = refl
  from_by false b e h = cc

  inactive_by : (s : ℕ) (a b : Bool) → eqb s t ≡ b → (a && not b) ≡ false → (a ≡ false) ⊎ (s ≡ t)
  inactive_by s true true e h = inr (same_number s t e)
  inactive_by s true false e h = cc
  inactive_by s false b e h = inl refl

  pub active-state : (s : ℕ) → active states t s ≡ true → states s ≡ true
  active-state s a = state_by (states s) (eqb s t) a

  pub active-other : (s : ℕ) → active states t s ≡ true → s ≢ t
  active-other s a e = let f : eqb s t ≡ false = other_by (states s) (eqb s t) a in let q : eqb s t ≡ true = ap (λ k. eqb k t) e ∙ eqb-same t in cc

  pub active-from : (s : ℕ) → states s ≡ true → s ≢ t → active states t s ≡ true
  active-from s h o = from_by (states s) (eqb s t) h (other_number s t (eqb s t) refl o)

  pub inactive : (s : ℕ) → active states t s ≡ false → (states s ≡ false) ⊎ (s ≡ t)
  inactive s a = inactive_by s (states s) (eqb s t) refl a

  and_not_true : (a b : Bool) → b ≡ true → (a && not b) ≡ false
  and_not_true true b e = ap not e
  and_not_true false b e = refl

  pub active-reference : active states t t ≡ false
  active-reference = and_not_true (states t) (eqb t t) (eqb-same t)

  and_not_false : (a b : Bool) → a ≡ false → (a && not b) ≡ false
  and_not_false true b e = cc
  and_not_false false b e = refl

  pub active-outside : (s : ℕ) → states s ≡ false → active states t s ≡ false
  active-outside s e = and_not_false (states s) (eqb s t) e

-- ---- values that are 0 at numbers that are no states

abbrev pub masked : (ℕ → Bool) → (ℕ → ℚ) → ℕ → ℚ
masked states f s = if states s then f s else 0ℚ

masked_by : (b : Bool) (x : ℚ) → b ≡ true → (if b then x else 0ℚ) ≡ x
masked_by true x e = refl
masked_by false x e = cc

masked_not : (b : Bool) (x : ℚ) → b ≡ false → (if b then x else 0ℚ) ≡ 0ℚ
masked_not true x e = cc
masked_not false x e = refl

pub masked-at : (states : ℕ → Bool) (f : ℕ → ℚ) (s : ℕ) → states s ≡ true → masked states f s ≡ f s
masked-at states f s e = masked_by (states s) (f s) e

pub masked-outside : (states : ℕ → Bool) (f : ℕ → ℚ) (s : ℕ) → states s ≡ false → masked states f s ≡ 0ℚ
masked-outside states f s e = masked_not (states s) (f s) e

-- what is earned until t is reached, by exact elimination; a number for each chain, also where not all lead to t
unfoldable pub earned_by : (ℕ → Bool) → ℕ → (ℕ → List Entry) → ℕ → (ℕ → ℚ) → ℕ → ℚ
earned_by states n row t c = solution (active_below (active states t) n) (λ s. entry_at target prob (row s)) c

-- ---- the weight

module _ (states : ℕ → Bool) (n : ℕ) (row : ℕ → List Entry) (chain : IsChain states n row) where
  pub entries-nonneg : (s : ℕ) → states s ≡ true → All (λ y. 0ℚ ≤ℚ y.prob) (row s)
  entries-nonneg s h = λ k d l. ≤ℚ_of_lt 0ℚ _ ((chain.rows s h).positive k d l)

  -- a row looks at values of states alone
  pub mean-masked : (f : ℕ → ℚ) (s : ℕ) → states s ≡ true → mean (row s) (masked states f) ≡ mean (row s) f
  mean-masked f s h = weigh-same target prob (masked states f) f (row s) (λ k d l. masked-at states f _ (chain.stays s h k d l))

  module _ (t : ℕ) (leads : AllLeadTo states row t) where
    abbrev pub Taken : ℕ → List Entry → Type 0
    Taken s r = r ≡ row s

    abbrev pub ChainShrinks : Type 0
    ChainShrinks = Shrinks target prob (active states t) Taken

    pub chain-shrinks : ChainShrinks
    chain-shrinks =
        let small : ForSmall (λ e. (s : ℕ) → s < n → states s ≡ true → All (λ y. e ≤ℚ y.prob) (row s)) =
        small_for_below (λ s e. states s ≡ true → All (λ y. e ≤ℚ y.prob) (row s)) (λ s d e l h a k x j. ≤ℚ_trans d e _ l (h a k x j)) n (λ s l. small_at s (states s) refl) in
        let most = greatest_rank (λ s. suc (leads.rank s)) n in
        shrinks_by_ranks {index = target} {entry = prob} {active = active states t} {Allowed = Taken} {eps = small.0} {rank = λ s. suc (leads.rank s)} {most = most.0}
        (record {
          eps_positive = small.1;
          eps_at_most_one = small.2;
          rank_positive = λ s a. omega arith;
          rank_at_most = λ s a. most.1 s (chain.below s (active-state states t s a));
          entries = λ s r a ok. subst (λ (r : List Entry). All (λ y. 0ℚ ≤ℚ y.prob) r) (sym ok) (entries-nonneg s (active-state states t s a));
          mass = λ s r a ok. subst (λ (r : List Entry). sum_of prob r ≤ℚ 1ℚ) (sym ok) (≤ℚ_of_eq _ _ (chain.rows s (active-state states t s a)).total);
          falls = λ s r a ok.
              let both = Any-and (λ (y : Entry). small.0 ≤ℚ y.prob) (λ (y : Entry). leads.rank y.target < leads.rank s) (row s)
              (small.3 s (chain.below s (active-state states t s a)) (active-state states t s a)) (leads.falls s (active-state states t s a) (active-other states t s a)) in
              subst (λ (r : List Entry). Any (λ y. (small.0 ≤ℚ y.prob) × ((active states t y.target ≡ false) ⊎ (suc (leads.rank y.target) < suc (leads.rank s)))) r) (sym ok)
              (both.0, both.1, both.2, both.3, (both.4.0, inr (suc_lt (leads.rank (target both.1)) (leads.rank s) both.4.1)));
        })
      where
        suc_lt : (i k : ℕ) → i < k → suc i < suc k
        suc_lt i k h = omega arith

        small_at : (s : ℕ) (b : Bool) → states s ≡ b → ForSmall (λ e. states s ≡ true → All (λ y. e ≤ℚ y.prob) (row s))
        small_at s true h = let f = positive_floor prob (row s) (chain.rows s h).positive in (f.0, f.1, f.2, λ a. f.3)
        small_at s false h = let f = positive_floor prob [] (λ k d l. absurd (omega (arith, l))) in (f.0, f.1, f.2, λ a. absurd (let e : true ≡ false = sym a ∙ h in cc))

    pub active-bound : (s : ℕ) → active states t s ≡ true → s < n
    active-bound s a = chain.below s (active-state states t s a)

    pub earned-is : (c : ℕ → ℚ) → IsEarned states row t c (earned_by states n row t c)
    unfolding earned_by
    earned-is c = kernel_solution chain-shrinks n active-bound row (λ s a. refl) c
