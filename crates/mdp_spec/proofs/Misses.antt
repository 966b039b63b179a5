-- Trees that miss the goals: where each choice that meets a rule leads, from the states of a set without goals, to a state of the set of
-- smaller rank, or to states of the set of this rank alone, each tree that keeps the rule misses the goals with a chance that doesn't
-- depend on its depth.
use Rattle.std.proofs.Common.{◌≡◌, ℕ, zero, suc, ◌<◌, ◌≤◌, ◌⊎◌, ⊎_elim, Bool, true, false, cond, List, [], ◌∷◌, length, refl, sym, ◌∙◌, ap, subst, arith, pos}
use Rattle.std.proofs.lemmas.Bool.{cases_Bool}
use Rattle.std.specs.List.{All, Any}
use Rattle.mdp_math.specs.{Rational.{ℚ, ratio, ◌+ℚ◌, ◌*ℚ◌, ◌-ℚ◌, ◌≤ℚ◌, ◌<ℚ◌}, Sum.{sum_of}, Power.{pow_ℚ}}
use Rattle.mdp_math.proofs.{Ring.{◌⊕◌, ◌⊗◌, ⊖, lit, ring}, Linear.{linear, known, equal}, Laws.{rat_ring, one-*ℚ, den-pos}}
use Rattle.mdp_math.proofs.{Order.{0ℚ, 1ℚ, ≤ℚ_refl, ≤ℚ_of_eq, ≤ℚ_of_lt}, Whole.{one-pos}}
use Rattle.mdp_math.proofs.Powers.{pow_ℚ-nonneg, pow_ℚ-pos, pow_ℚ-le_one, pow_ℚ-antitone, pow_ℚ-suc, unit_fraction-le}
use Rattle.mdp_math.proofs.Kernel.{weigh-le_const, weigh-below_mass, Any-and}
use Rattle.mdp_spec.specs.{Mdp.{Entry, Mdp, states_of, choices_at, row_at}, Row.{IsRow, IsMdp}, Tree.{Tree, is_marked}, Hit.{hit}}
use Rattle.mdp_spec.proofs.{Rows.{probs_nonneg, row_weigh}, Keeping.{Keeps}, Above.{hit-le_by}, Ranks.{smallest_prob}}

-- 1 - e^k in the set, 1 elsewhere
abbrev bound : ℚ → Bool → ℕ → ℚ
bound e b k = cond b (1ℚ -ℚ pow_ℚ e k) 1ℚ

from_one-nonneg : (p : ℚ) → p ≤ℚ 1ℚ → 0ℚ ≤ℚ 1ℚ -ℚ p
from_one-nonneg p h = linear 1 (λ p. lit (pos 0)) (λ p. lit (pos 1) ⊕ ⊖ p) (λ p. known p (lit (pos 1)) ∷ []) refl p h

from_one-le : (p : ℚ) → 0ℚ ≤ℚ p → 1ℚ -ℚ p ≤ℚ 1ℚ
from_one-le p h = linear 1 (λ p. lit (pos 1) ⊕ ⊖ p) (λ p. lit (pos 1)) (λ p. known (lit (pos 0)) p ∷ []) refl p h

bound-nonneg : (e : ℚ) (b : Bool) (k : ℕ) → 0ℚ ≤ℚ e → e ≤ℚ 1ℚ → 0ℚ ≤ℚ bound e b k
bound-nonneg e true k h l = from_one-nonneg (pow_ℚ e k) (pow_ℚ-le_one e k h l)
bound-nonneg e false k h l = ≤ℚ_of_lt 0ℚ 1ℚ one-pos

bound-le_one : (e : ℚ) (b : Bool) (k : ℕ) → 0ℚ ≤ℚ e → bound e b k ≤ℚ 1ℚ
bound-le_one e true k h = from_one-le (pow_ℚ e k) (pow_ℚ-nonneg e k h)
bound-le_one e false k h = ≤ℚ_refl 1ℚ

bound-in : (e : ℚ) (b : Bool) (k : ℕ) → b ≡ true → bound e b k ≡ 1ℚ -ℚ pow_ℚ e k
bound-in e b k h = ap (λ (c : Bool). cond c (1ℚ -ℚ pow_ℚ e k) 1ℚ) h

bound-out : (e : ℚ) (b : Bool) (k : ℕ) → b ≡ false → bound e b k ≡ 1ℚ
bound-out e b k h = ap (λ (c : Bool). cond c (1ℚ -ℚ pow_ℚ e k) 1ℚ) h

-- at a smaller rank of the set
bound-below : (e : ℚ) (b : Bool) (j k : ℕ) → 0ℚ ≤ℚ e → e ≤ℚ 1ℚ → b ≡ true → j ≤ k → bound e b j +ℚ pow_ℚ e k ≤ℚ 1ℚ
bound-below e b j k h l is le =
    linear 3 (λ b p q. b ⊕ q) (λ b p q. lit (pos 1)) (λ b p q. equal (lit (pos 1)) b (lit (pos 1) ⊕ ⊖ p) ∷ known q p ∷ []) refl (bound e b j) (pow_ℚ e j) (pow_ℚ e k) (bound-in e b j is)
    (pow_ℚ-antitone e j k h l le)

module _ (e : ℚ) (positive : 0ℚ <ℚ e) (small : e ≤ℚ 1ℚ) (inside : ℕ → Bool) (rank : ℕ → ℕ) (k : ℕ) (row : List Entry) (known_ : IsRow k row) (floor : All (λ y. e ≤ℚ y.prob) row) where
  nonneg_ : 0ℚ ≤ℚ e
  nonneg_ = ≤ℚ_of_lt 0ℚ e positive

  -- each row weighs at most 1
  any_row : row_weigh (λ v. bound e (inside v) (rank v)) row ≤ℚ 1ℚ
  any_row =
      subst (λ (w : ℚ). row_weigh (λ v. bound e (inside v) (rank v)) row ≤ℚ w) (one-*ℚ _ ∙ known_.distribution.total)
      (weigh-le_const (λ (y : Entry). y.target) (λ (y : Entry). y.prob) (λ v. bound e (inside v) (rank v)) 1ℚ row (probs_nonneg k row known_)
      (λ j d l. bound-le_one e (inside _) (rank _) nonneg_))

  falling_row : (r n : ℕ) → r ≡ n → Any (λ y. (inside y.target ≡ true) × (rank y.target < r)) row → row_weigh (λ v. bound e (inside v) (rank v)) row ≤ℚ 1ℚ -ℚ pow_ℚ e n
  falling_row r zero is (i, d, l, same, q) = absurd (omega (arith, is, q.1))
  falling_row r (suc n) is any =
      let both = Any-and (λ (y : Entry). e ≤ℚ y.prob) (λ (y : Entry). (inside y.target ≡ true) × (rank y.target < r)) row floor any in
      linear 5 (λ w e p q t. w) (λ w e p q t. lit (pos 1) ⊕ ⊖ q) (λ w e p q t. known (w ⊕ e ⊗ p) t ∷ equal (lit (pos 1)) t (lit (pos 1)) ∷ equal (lit (pos 1)) q (e ⊗ p) ∷ []) refl
      (row_weigh (λ v. bound e (inside v) (rank v)) row) e (pow_ℚ e n) (pow_ℚ e (suc n)) (sum_of (λ (y : Entry). y.prob) row)
      (weigh-below_mass (λ (y : Entry). y.target) (λ (y : Entry). y.prob) (λ v. bound e (inside v) (rank v)) e (pow_ℚ e n) row (probs_nonneg k row known_)
      (λ v. bound-le_one e (inside v) (rank v) nonneg_) (pow_ℚ-nonneg e n nonneg_)
      (both.0, both.1, both.2, both.3, (both.4.0, bound-below e (inside both.1.target) (rank both.1.target) n nonneg_ small both.4.1.0 (omega (arith, is, both.4.1.1)))))
      known_.distribution.total (pow_ℚ-suc e n)

  staying_row : (r : ℕ) → All (λ y. (inside y.target ≡ true) × (rank y.target ≡ r)) row → row_weigh (λ v. bound e (inside v) (rank v)) row ≤ℚ 1ℚ -ℚ pow_ℚ e r
  staying_row r all =
      subst (λ (w : ℚ). row_weigh (λ v. bound e (inside v) (rank v)) row ≤ℚ w) (ap (λ (w : ℚ). (1ℚ -ℚ pow_ℚ e r) *ℚ w) known_.distribution.total ∙ times_one (1ℚ -ℚ pow_ℚ e r))
      (weigh-le_const (λ (y : Entry). y.target) (λ (y : Entry). y.prob) (λ v. bound e (inside v) (rank v)) (1ℚ -ℚ pow_ℚ e r) row (probs_nonneg k row known_)
      (λ j d l. let q = all j d l in ≤ℚ_of_eq _ _ (bound-in e (inside _) (rank _) q.0 ∙ ap (λ (n : ℕ). 1ℚ -ℚ pow_ℚ e n) q.1)))
    where
      times_one : (x : ℚ) → x *ℚ 1ℚ ≡ x
      times_one x = ring rat_ring 1 (λ x. x ⊗ lit (pos 1)) (λ x. x) refl x

module _ (m : Mdp) (goals : List Bool) (known_ : IsMdp m) (P : ℕ → ℕ → Type 0) (inside : ℕ → Bool) (rank : ℕ → ℕ)
    (no_goal : (s : ℕ) → s < states_of m → is_marked goals s ≡ true → inside s ≡ false)
    (at_choice : (s c : ℕ) → s < states_of m → inside s ≡ true → P s c → c < length (choices_at m s)
    → Any (λ y. (inside y.target ≡ true) × (rank y.target < rank s)) (row_at m s c) ⊎ All (λ y. (inside y.target ≡ true) × (rank y.target ≡ rank s)) (row_at m s c)) where
  pub misses_by_ranks : (s : ℕ) → s < states_of m → inside s ≡ true
      → (q : ℕ) × (1 ≤ q) × ((n u : ℕ) (t : Tree) → 1 ≤ u → Keeps m P u n t s → hit m goals u n t s +ℚ ratio (pos 1) q ≤ℚ 1ℚ)
  misses_by_ranks s h i =
      let small = smallest_prob m known_ in
      let p : 0ℚ ≤ℚ small.0 = ≤ℚ_of_lt 0ℚ small.0 small.1 in (
        (pow_ℚ small.0 (rank s)).den,
        den-pos (pow_ℚ small.0 (rank s)),
        λ n u t hu keeps.
            linear 4 (λ x b p q. x ⊕ q) (λ x b p q. lit (pos 1)) (λ x b p q. known x b ∷ equal (lit (pos 1)) b (lit (pos 1) ⊕ ⊖ p) ∷ known q p ∷ []) refl
            (hit m goals u n t s) (bound small.0 (inside s) (rank s)) (pow_ℚ small.0 (rank s)) (ratio (pos 1) (pow_ℚ small.0 (rank s)).den)
            (hit-le_by m goals u known_ hu P (λ v. bound small.0 (inside v) (rank v)) (λ v l. bound-nonneg small.0 (inside v) (rank v) p small.2)
            (λ v l g. ≤ℚ_of_eq _ _ (sym (bound-out small.0 (inside v) (rank v) (no_goal v l g))))
            (λ v c l g ok j.
            ⊎_elim
            (λ a.
            subst (λ (w : ℚ). row_weigh (λ v. bound small.0 (inside v) (rank v)) (row_at m v c) ≤ℚ w) (sym (bound-in small.0 (inside v) (rank v) a))
            (⊎_elim
            (λ any. falling_row small.0 small.1 small.2 inside rank (states_of m) (row_at m v c) (IsMdp.row known_ v c l j) (small.3 v l c j) (rank v) (rank v) refl any)
            (λ all. staying_row small.0 small.1 small.2 inside rank (states_of m) (row_at m v c) (IsMdp.row known_ v c l j) (small.3 v l c j) (rank v) all)
            (at_choice v c l a ok j)))
            (λ a.
            subst (λ (w : ℚ). row_weigh (λ v. bound small.0 (inside v) (rank v)) (row_at m v c) ≤ℚ w) (sym (bound-out small.0 (inside v) (rank v) a))
            (any_row small.0 small.1 small.2 inside rank (states_of m) (row_at m v c) (IsMdp.row known_ v c l j) (small.3 v l c j)))
            (cases_Bool (inside v)))
            n t s h keeps)
            (bound-in small.0 (inside s) (rank s) i) (unit_fraction-le (pow_ℚ small.0 (rank s)) (pow_ℚ-pos small.0 (rank s) small.1)),
      )
