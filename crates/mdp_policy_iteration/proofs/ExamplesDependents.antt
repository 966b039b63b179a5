-- Three nodes, computed: choice 0 of node 0 depends on its own value and choice 1 on that of node 1; choice 0 of node 1 depends on that of node 2 and choice 1 on its own.
use Rattle.std.proofs.Common.{◌≡◌, ◌⊎◌, inl, inr, ℕ, zero, suc, ◌<◌, ◌==◌, subst, true, false, List, [], ◌∷◌, refl, get_or, arith}
use Rattle.std.proofs.{lemmas.Bool.{false≢true, eqb-true, or_cases}, lemmas.List.Elements.{All-from_recursion}}
use Rattle.std.specs.List.{All, list_any}
use Rattle.mdp_math.proofs.Booleans.{and-left}
use Rattle.mdp_rows.specs.{Preds.{is_among, pair}, declared.preds.Pred.{Pred}}
use Rattle.mdp_policy_iteration.specs.Dependents.{is_choice, depends, Comes, AreComingTo, AreWithDependents}
use Rattle.mdp_policy_iteration.proofs.Among.{all-among}

abbrev three : List (List Pred)
three = (pair 0 0 ∷ []) ∷ (pair 0 1 ∷ pair 1 1 ∷ []) ∷ (pair 1 0 ∷ []) ∷ []

depends-1 : depends three 0 1 1 ≡ true
depends-1 = refl

depends-not_1 : depends three 0 0 1 ≡ false
depends-not_1 = refl

-- ---- what comes to node 2

abbrev all : List ℕ
all = 0 ∷ 1 ∷ 2 ∷ []

abbrev two : List ℕ
two = 1 ∷ 2 ∷ []

below : (s : ℕ) → is_among s all ≡ true → s < 3
below s h = all-among (λ k. k < 3) s all (All-from_recursion (λ k. k < 3) all (omega arith, (omega arith, (omega arith, tt)))) h

holders : (s c : ℕ) (choices : List Pred) → All (λ p. p.state < 2) choices → list_any (is_choice s c) choices ≡ true → s < 2
holders s c [] h r = absurd (false≢true r)
holders s c (p ∷ choices) h r = elim (or_cases (is_choice s c p) (list_any (is_choice s c) choices) r) [
  | inl here ↦ subst (λ k. k < 2) (eqb-true p.state s (and-left (p.state == s) (p.choice == c) here)) (h 0 p (omega arith))
  | inr later ↦ holders s c choices (λ k d l. h (suc k) d (omega arith)) later
]

-- the dependents of a value are nodes 0 and 1
dependents : (s c t : ℕ) → depends three s c t ≡ true → s < 2
dependents s c zero r = holders s c (get_or three 0 []) (All-from_recursion (λ p. p.state < 2) (get_or three 0 []) (omega arith, tt)) r
dependents s c (suc zero) r = holders s c (get_or three 1 []) (All-from_recursion (λ p. p.state < 2) (get_or three 1 []) (omega arith, (omega arith, tt))) r
dependents s c (suc (suc zero)) r = holders s c (get_or three 2 []) (All-from_recursion (λ p. p.state < 2) (get_or three 2 []) (omega arith, tt)) r
dependents s c (suc (suc (suc t))) r = absurd (false≢true r)

-- node 0 comes to it in two steps where it takes choice 1, and in none where it takes choice 0
comes-0 : Comes three (1 ∷ 0 ∷ 0 ∷ []) (2 ∷ []) 2 0
comes-0 = (1, refl, (2, refl, refl))

stays_by : (n t : ℕ) → (Comes three (0 ∷ 0 ∷ 0 ∷ []) (2 ∷ []) n 0 → ⊥) → depends three 0 0 t ≡ true → Comes three (0 ∷ 0 ∷ 0 ∷ []) (2 ∷ []) n t → ⊥
stays_by n zero before r h = before h
stays_by n (suc zero) before r h = false≢true r
stays_by n (suc (suc zero)) before r h = false≢true r
stays_by n (suc (suc (suc t))) before r h = false≢true r

stays-0 : (n : ℕ) → Comes three (0 ∷ 0 ∷ 0 ∷ []) (2 ∷ []) n 0 → ⊥
stays-0 zero h = false≢true h
stays-0 (suc n) h = stays_by n h.0 (stays-0 n) h.1 h.2

-- node 2 alone isn't enough there: node 1 comes to it
not-alone : AreComingTo three (1 ∷ 0 ∷ 0 ∷ []) (2 ∷ []) (2 ∷ []) → ⊥
not-alone h = false≢true (h.each 1 1 (2, refl, refl))

-- and all are too many where node 0 takes choice 0
not-all : AreComingTo three (0 ∷ 0 ∷ 0 ∷ []) (2 ∷ []) all → ⊥
not-all h = let w = h.only 0 refl in stays-0 w.0 w.1

-- ---- what depends on the value of node 1: node 0 by its choice 1, and itself

with-dependents : AreWithDependents three (1 ∷ []) (0 ∷ 1 ∷ [])
with-dependents = record { holds_nodes = All-from_recursion (λ s. is_among s (0 ∷ 1 ∷ []) ≡ true) (1 ∷ []) (refl, tt); holds_dependents = λ s c t h r. held s (dependents s c t r); only = only } where
  held : (s : ℕ) → s < 2 → is_among s (0 ∷ 1 ∷ []) ≡ true
  held zero l = refl
  held (suc zero) l = refl
  held (suc (suc s)) l = absurd (omega (arith, l))

  only : (s : ℕ) → is_among s (0 ∷ 1 ∷ []) ≡ true → (is_among s (1 ∷ []) ≡ true) ⊎ ((c : ℕ) × (t : ℕ) × (is_among t (1 ∷ []) ≡ true) × (depends three s c t ≡ true))
  only zero h = inr (1, 1, refl, refl)
  only (suc zero) h = inl refl
  only (suc (suc s)) h = absurd (let l = all-among (λ k. k < 2) (suc (suc s)) (0 ∷ 1 ∷ []) (All-from_recursion (λ k. k < 2) (0 ∷ 1 ∷ []) (omega arith, (omega arith, tt))) h in omega (arith, l))
