-- One elimination under other numbers: where the greatest state is one of those that are left, it gives the same equations, or fails in both.
use Rattle.std.proofs.Common.{◌≡◌, ◌≢◌, ℕ, zero, suc, ◌<◌, ◌≤◌, ◌⊎◌, inl, inr, List, length, take, refl, sym, ◌∙◌, ap, subst, arith, Option, Some, None}
use Rattle.std.proofs.lemmas.List.{length-take-le, get_or-take}
use Rattle.std.specs.Option.{option_map}
use Rattle.mdp_math.proofs.{Numbers.{last_or}, Options.{Some_same}}
use Rattle.mdp_elim.specs.{Equation.{Equation, no_equation}, Entries.{each}, Elimination.{divided, substituted, Eliminated, eliminated}, Predecessors.{at}}
use Rattle.mdp_elim.proofs.{Lists.{one_or_two}, Step.{each_at, each_len}, Equations.{eliminated-none_pivot, eliminated-none_rest, eliminated-some}}
use Rattle.mdp_elim.proofs.Targets.{targets-solved, targets-substituted}
use Rattle.mdp_gain.specs.Renumbering.{Ascend}
use Rattle.mdp_gain.proofs.RenumberedRows.{IsPlace, state, state_le}
use Rattle.mdp_gain.proofs.RenumberedSteps.{renamed_equation, LeadsInside, divided-renamed, substituted-renamed, Outcome, outcome}

module _ (states : List ℕ) where
  -- a number is one of the first m states, or none of them
  abbrev pub IsAmong : ℕ → ℕ → Type 0
  IsAmong m s = (j : ℕ) × (j < m) × (state states j ≡ s)

  abbrev pub IsOther : ℕ → ℕ → Type 0
  IsOther m s = (j : ℕ) → j < m → state states j ≢ s

  -- of the first m states and of no other number below n there are equations: the small list has them by their places, the big one by the states
  pub record AreRenumbered (m n : ℕ) (small big : List Equation) : Type 0 where
    pub few : m ≤ length states
    pub count : length small ≡ m
    pub many : length big ≡ n
    pub below : (j : ℕ) → j < m → state states j < n
    pub above : (j : ℕ) → m ≤ j → IsPlace states j → n ≤ state states j
    pub same : (j : ℕ) → j < m → at big (state states j) ≡ renamed_equation states (at small j)
    pub others : (s : ℕ) → s < n → IsOther m s → at big s ≡ no_equation
    pub lead : (j : ℕ) → j < m → LeadsInside states (at small j)

  among_by : (m s : ℕ) → IsAmong m s ⊎ IsOther m s → (state states m ≡ s) ⊎ (state states m ≢ s) → IsAmong (suc m) s ⊎ IsOther (suc m) s
  among_by m s r (inl e) = inl (m, omega arith, e)
  among_by m s (inl h) (inr n) = inl (h.0, let l = h.1 in omega (arith, l), h.2)
  among_by m s (inr f) (inr n) = inr (λ j l. elim (last_or m j l) as (λ _. state states j ≢ s) [
    | inl e ↦ λ k. n (ap (state states) (sym e) ∙ k)
    | inr i ↦ f j i
  ])

  pub among_or : (m s : ℕ) → IsAmong m s ⊎ IsOther m s
  among_or zero s = inr (λ j l. absurd (omega arith))
  among_or (suc m) s = among_by m s (among_or m s) (one_or_two s (state states m))

  -- both eliminations can't be made, or both give the same
  abbrev pub AreSameSteps : ℕ → ℕ → Option Eliminated → Option Eliminated → Type 0
  AreSameSteps m n None None = Unit {0}
  AreSameSteps m n (Some e) (Some f) = (f.pivot ≡ renamed_equation states e.pivot) × LeadsInside states e.pivot × AreRenumbered m n e.rest f.rest
  AreSameSteps m n None (Some f) = ⊥
  AreSameSteps m n (Some e) None = ⊥

  steps_by : (m n : ℕ) (o o' p p' : Option Eliminated) → o ≡ p → o' ≡ p' → AreSameSteps m n p p' → AreSameSteps m n o o'
  steps_by m n o o' p p' e f h = subst (λ x. AreSameSteps m n x o') (sym e) (subst (AreSameSteps m n p) (sym f) h)

  module _ (ascend : Ascend states) (a s : ℕ) (small big : List Equation) (are : AreRenumbered (suc a) (suc s) small big) (here : state states a ≡ s) where
    place : IsPlace states a
    place = let l = are.few in omega (arith, l)

    -- the equation of the greatest state, solved for its value
    pivot_same : divided s (at big s) ≡ option_map (renamed_equation states) (divided a (at small a))
    pivot_same =
        subst (λ (v : ℕ). divided v (at big v) ≡ option_map (renamed_equation states) (divided a (at small a))) here
        (ap (divided (state states a)) (are.same a (omega arith)) ∙ divided-renamed states ascend a place (at small a) (are.lead a (omega arith)))

    small_len : length (take a small) ≡ a
    small_len = length-take-le a small (let l = are.count in omega (arith, l))

    big_len : length (take s big) ≡ s
    big_len = length-take-le s big (let l = are.many in omega (arith, l))

    below : (j : ℕ) → j < a → state states j < s
    below j l = let h = ascend j a l place in omega (arith, h, here)

    module _ (p : Equation) (made : divided a (at small a) ≡ Some p) where
      abbrev q : Equation
      q = renamed_equation states p

      big_made : divided s (at big s) ≡ Some q
      big_made = pivot_same ∙ ap (option_map (renamed_equation states)) made

      inside : LeadsInside states p
      inside = targets-solved (IsPlace states) a (at small a) p (are.lead a (omega arith)) made

      -- at a state that is left
      put_same : (j : ℕ) → j < a → substituted s q (at big (state states j)) ≡ option_map (renamed_equation states) (substituted a p (at small j))
      put_same j l =
          subst (λ (v : ℕ). substituted v q (at big (state states j)) ≡ option_map (renamed_equation states) (substituted a p (at small j))) here
          (ap (substituted (state states a) q) (are.same j (omega arith))
          ∙ substituted-renamed states ascend a place p (at small j) inside (are.lead j (omega arith)))

      -- at any other number
      put_other : (t : ℕ) → t < s → IsOther a t → substituted s q (at big t) ≡ Some no_equation
      put_other t l f =
          ap (substituted s q) (are.others t (omega arith) (λ j m. elim (last_or a j m) as (λ _. state states j ≢ t) [
            | inl e ↦ λ k. let h : state states j ≡ s = ap (state states) e ∙ here in omega (arith, h, k, l)
            | inr i ↦ f j i
          ]))

      small_at : (ys : List Equation) → each (substituted a p) (take a small) ≡ Some ys → (j : ℕ) → j < a → substituted a p (at small j) ≡ Some (at ys j)
      small_at ys e j l =
          subst (λ (x : Equation). substituted a p x ≡ Some (at ys j)) (get_or-take a small j no_equation l)
          (each_at (substituted a p) no_equation (take a small) ys j e (omega (arith, l, small_len)))

      big_at : (zs : List Equation) → each (substituted s q) (take s big) ≡ Some zs → (t : ℕ) → t < s → substituted s q (at big t) ≡ Some (at zs t)
      big_at zs e t l =
          subst (λ (x : Equation). substituted s q x ≡ Some (at zs t)) (get_or-take s big t no_equation l)
          (each_at (substituted s q) no_equation (take s big) zs t e (omega (arith, l, big_len)))

      module _ (ys zs : List Equation) (e : each (substituted a p) (take a small) ≡ Some ys) (f : each (substituted s q) (take s big) ≡ Some zs) where
        -- the equations of the smaller states
        rest_same : AreRenumbered a s ys zs
        rest_same = record {
          few = let l = are.few in omega (arith, l);
          count = each_len (substituted a p) (take a small) ys e ∙ small_len;
          many = each_len (substituted s q) (take s big) zs f ∙ big_len;
          below = below;
          above = λ j l i. let h = state_le states ascend a j i l in omega (arith, h, here);
          same = λ j l.
              Some_same _ _ (sym (big_at zs f (state states j) (below j l)) ∙ put_same j l ∙ ap (option_map (renamed_equation states)) (small_at ys e j l));
          others = λ t l g. Some_same _ _ (sym (big_at zs f t l) ∙ put_other t l g);
          lead = λ j l. targets-substituted (IsPlace states) a p (at small j) (at ys j) inside (are.lead j (omega arith)) (small_at ys e j l);
        }

      -- a step that can't be made is in both or in none
      big_fails : (ys : List Equation) → each (substituted a p) (take a small) ≡ Some ys
          → (t : ℕ) → t < s → substituted s q (at big t) ≡ None → IsAmong a t ⊎ IsOther a t → ⊥
      big_fails ys e t l h (inl k) =
          let m : substituted s q (at big t) ≡ Some (renamed_equation states (at ys k.0)) =
          subst (λ (v : ℕ). substituted s q (at big v) ≡ Some (renamed_equation states (at ys k.0))) k.2
          (put_same k.0 k.1 ∙ ap (option_map (renamed_equation states)) (small_at ys e k.0 k.1)) in
          let n : Some (renamed_equation states (at ys k.0)) ≡ None = sym m ∙ h in cc
      big_fails ys e t l h (inr k) = let n : Some no_equation ≡ None = sym (put_other t l k) ∙ h in cc

      small_fails : (zs : List Equation) → each (substituted s q) (take s big) ≡ Some zs → (j : ℕ) → j < a → substituted a p (at small j) ≡ None → ⊥
      small_fails zs f j l h =
          let m = big_at zs f (state states j) (below j l) in
          let n : Some (at zs (state states j)) ≡ None = sym m ∙ put_same j l ∙ ap (option_map (renamed_equation states)) h in cc

      rests : Outcome (substituted a p) no_equation (take a small) → Outcome (substituted s q) no_equation (take s big)
          → AreSameSteps a s (eliminated a small) (eliminated s big)
      rests (inl x) (inl y) =
          steps_by a s _ _ _ _ (eliminated-some a small p made x.0 x.1) (eliminated-some s big q big_made y.0 y.1) (refl, inside, rest_same x.0 y.0 x.1 y.1)
      rests (inr x) (inr y) = steps_by a s _ _ _ _ (eliminated-none_rest a small p made x.none) (eliminated-none_rest s big q big_made y.none) tt
      rests (inl x) (inr y) =
          let i = y.inside in
          let l : y.place < s = omega (arith, i, big_len) in
          absurd (big_fails x.0 x.1 y.place l (ap (substituted s q) (sym (get_or-take s big y.place no_equation l)) ∙ y.fails) (among_or a y.place))
      rests (inr x) (inl y) =
          let i = x.inside in
          let l : x.place < a = omega (arith, i, small_len) in
          absurd (small_fails y.0 y.1 x.place l (ap (substituted a p) (sym (get_or-take a small x.place no_equation l)) ∙ x.fails))

    same_by : (o : Option Equation) → divided a (at small a) ≡ o → AreSameSteps a s (eliminated a small) (eliminated s big)
    same_by None e =
        steps_by a s _ _ _ _ (eliminated-none_pivot a small e) (eliminated-none_pivot s big (pivot_same ∙ ap (option_map (renamed_equation states)) e)) tt
    same_by (Some p) e =
        rests p e (outcome (substituted a p) no_equation (take a small))
        (outcome (substituted s (renamed_equation states p)) no_equation (take s big))

    -- state a of the list is eliminated in both
    pub eliminated-same : AreSameSteps a s (eliminated a small) (eliminated s big)
    eliminated-same = same_by (divided a (at small a)) refl
