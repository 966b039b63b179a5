-- The elimination of all equations under other numbers: it gives the same values, or stops at the same state.
use Rattle.std.proofs.Common.{◌≡◌, ◌≢◌, ℕ, zero, suc, ◌<◌, ◌≤◌, ◌⊎◌, inl, inr, List, [], ◌∷◌, ◌++◌, length, take}
use Rattle.std.proofs.{Common.{refl, sym, ◌∙◌, ap, subst, arith, Option, Some, None, Result, Ok, Err, pos}, lemmas.List.{length-take-le, get_or-take}}
use Rattle.mdp_math.specs.Rational.{of_int}
use Rattle.mdp_math.proofs.Numbers.{le_or}
use Rattle.mdp_elim.specs.{Equation.{Equation, Values, no_equation}, Entries.{entry_to}}
use Rattle.mdp_elim.specs.{Elimination.{divided, substituted, Eliminated, eliminated, evaluated, at_state, ◌and_then◌, solution}, Predecessors.{at}}
use Rattle.mdp_elim.proofs.{Lists.{one_or_two}, Merge.{without_none}, Putting.{no_change, each-from}, Equations.{eliminated-some}}
use Rattle.mdp_gain.specs.Renumbering.{Ascend}
use Rattle.mdp_gain.proofs.{RenumberedRows.{IsPlace, state, state_le, entry_to-unlisted}, RenumberedSteps.{renamed_equation, LeadsInside}}
use Rattle.mdp_gain.proofs.RenumberedElimination.{AreRenumbered, IsAmong, IsOther, among_or, AreSameSteps, eliminated-same}
use Rattle.mdp_gain.proofs.RenumberedEvaluation.{spread-none, spread-zero, AreSameValues, AreSameEvaluations, evaluated-same}

-- ---- a number that plays no part

abbrev pub with_zero : Values → Values
with_zero v = record { first = v.first ++ of_int (pos 0) ∷ []; second = v.second ++ of_int (pos 0) ∷ [] }

module _ (s : ℕ) (equations : List Equation) (len : length equations ≡ suc s) (none : at equations s ≡ no_equation)
    (no_entry : (t : ℕ) → t < s → entry_to s (at equations t).entries ≡ None) where
  left : length (take s equations) ≡ s
  left = length-take-le s equations (omega (arith, len))

  unchanged : (t : ℕ) → t < length (take s equations) → substituted s no_equation (at (take s equations) t) ≡ Some (at (take s equations) t)
  unchanged t l =
      let k : t < s = omega (arith, l, left) in
      subst (λ (e : Equation). substituted s no_equation e ≡ Some e) (sym (get_or-take s equations t no_equation k))
      (no_change s no_equation (at equations t) (no_entry t k) (sym (without_none s (at equations t).entries (no_entry t k))))

  skip_made : eliminated s equations ≡ Some (record { pivot = no_equation; rest = take s equations })
  skip_made =
      eliminated-some s equations no_equation (ap (divided s) none) (take s equations)
      (each-from (substituted s no_equation) no_equation (take s equations) (take s equations) refl unchanged)

  -- a state with no equation, to which no other leads, has the value 0
  pub solution-skip : solution (suc s) equations ≡ (solution s (take s equations) and_then (λ v. Ok (with_zero v)))
  unfolding evaluated
  solution-skip =
      ap (λ (o : Option Eliminated). at_state s o and_then (λ e. solution s e.rest and_then (λ values. at_state s (evaluated e.pivot values)))) skip_made

-- ---- the solutions

module _ (states : List ℕ) where
  -- the same values, or the same state at which a term is past width
  abbrev pub AreSameResults : ℕ → ℕ → Result Values ℕ → Result Values ℕ → Type 0
  AreSameResults m n (Ok v) (Ok w) = AreSameValues states m n v w
  AreSameResults m n (Err s) (Err t) = (s < m) × (t ≡ state states s)
  AreSameResults m n (Ok v) (Err t) = ⊥
  AreSameResults m n (Err s) (Ok w) = ⊥

  -- a number that is no state is skipped
  results-zero : (m n : ℕ) (r q : Result Values ℕ) → AreSameResults m n r q → AreSameResults m (suc n) r (q and_then (λ v. Ok (with_zero v)))
  results-zero m n (Ok v) (Ok w) h = record {
    first = spread-zero states m n v.first w.first h.first;
    second = spread-zero states m n v.second w.second h.second;
  }
  results-zero m n (Err s) (Err t) h = h
  results-zero m n (Ok v) (Err t) h = absurd h
  results-zero m n (Err s) (Ok w) h = absurd h

  module _ (m s : ℕ) (small big : List Equation) (are : AreRenumbered states m (suc s) small big) (before : (j : ℕ) → j < m → state states j < s) where
    other_by : (j : ℕ) → IsPlace states j → (m ≤ j) ⊎ (j < m) → state states j ≢ s
    other_by j i (inl l) = let h = are.above j l i in λ e. omega (arith, h, e)
    other_by j i (inr l) = let h = before j l in λ e. omega (arith, h, e)

    no_entry_by : (t : ℕ) → t < s → IsAmong states m t ⊎ IsOther states m t → entry_to s (at big t).entries ≡ None
    no_entry_by t l (inr f) = ap (λ (e : Equation). entry_to s e.entries) (are.others t (omega arith) f)
    no_entry_by t l (inl h) =
        subst (λ (k : ℕ). entry_to s (at big k).entries ≡ None) h.2
        (ap (λ (e : Equation). entry_to s e.entries) (are.same h.0 h.1)
        ∙ entry_to-unlisted states s (at small h.0).entries (λ j i. other_by j i (le_or m j)) (are.lead h.0 h.1))

    skipped : solution (suc s) big ≡ (solution s (take s big) and_then (λ v. Ok (with_zero v)))
    skipped =
        solution-skip s big are.many (are.others s (omega arith) (λ j l. let h = before j l in λ e. omega (arith, h, e)))
        (λ t l. no_entry_by t l (among_or states m t))

    -- the same without it
    fewer : AreRenumbered states m s small (take s big)
    fewer = record {
      few = are.few;
      count = are.count;
      many = length-take-le s big (let l = are.many in omega (arith, l));
      below = before;
      above = λ j l i. let h = are.above j l i in omega (arith, h);
      same = λ j l. get_or-take s big (state states j) no_equation (before j l) ∙ are.same j l;
      others = λ t l f. get_or-take s big t no_equation l ∙ are.others t (omega arith) f;
      lead = are.lead;
    }

    skip_by : AreSameResults m s (solution m small) (solution s (take s big)) → AreSameResults m (suc s) (solution m small) (solution (suc s) big)
    skip_by h = subst (AreSameResults m (suc s) (solution m small)) (sym skipped) (results-zero m s (solution m small) (solution s (take s big)) h)

  module _ (ascend : Ascend states) where
    module _ (a s : ℕ) (place : IsPlace states a) (here : state states a ≡ s) where
      last_same : (o p : Option Values) → AreSameEvaluations states (suc a) (suc s) o p → AreSameResults (suc a) (suc s) (at_state a o) (at_state s p)
      last_same (Some v) (Some w) h = h
      last_same None None h = (omega arith, sym here)
      last_same (Some v) None h = absurd h
      last_same None (Some w) h = absurd h

      then_same : (e f : Equation) → f ≡ renamed_equation states e → LeadsInside states e → (r q : Result Values ℕ) → AreSameResults a s r q
          → AreSameResults (suc a) (suc s) (r and_then (λ v. at_state a (evaluated e v))) (q and_then (λ w. at_state s (evaluated f w)))
      then_same e f is inside (Ok v) (Ok w) h = last_same (evaluated e v) (evaluated f w) (evaluated-same states ascend a s place here v w h e f is inside)
      then_same e f is inside (Err k) (Err t) h = (let l = h.0 in omega (arith, l), h.1)
      then_same e f is inside (Ok v) (Err t) h = absurd h
      then_same e f is inside (Err k) (Ok w) h = absurd h

      -- a state is eliminated, and then evaluated by the values of the smaller ones
      step_same : ((small big : List Equation) → AreRenumbered states a s small big → AreSameResults a s (solution a small) (solution s big))
          → (o p : Option Eliminated) → AreSameSteps states a s o p
          → AreSameResults (suc a) (suc s) (at_state a o and_then (λ e. solution a e.rest and_then (λ v. at_state a (evaluated e.pivot v))))
          (at_state s p and_then (λ e. solution s e.rest and_then (λ w. at_state s (evaluated e.pivot w))))
      step_same ih (Some e) (Some f) h = then_same e.pivot f.pivot h.0 h.1 (solution a e.rest) (solution s f.rest) (ih e.rest f.rest h.2)
      step_same ih None None h = (omega arith, sym here)
      step_same ih (Some e) None h = absurd h
      step_same ih None (Some f) h = absurd h

    -- the greatest number is the greatest state that is left, or none
    module _ (s : ℕ) (ih : (m : ℕ) (small big : List Equation) → AreRenumbered states m s small big
        → AreSameResults m s (solution m small) (solution s big)) where
      before_by : (a : ℕ) (small big : List Equation) → AreRenumbered states (suc a) (suc s) small big → state states a ≢ s
          → (j : ℕ) → j < suc a → state states j < s
      before_by a small big are n j l =
          let f = are.few in
          let b = are.below a (omega arith) in
          let h = state_le states ascend j a (omega (arith, f)) (omega arith) in
          grind (arith, b, h, n)

      next_by : (a : ℕ) (small big : List Equation) → AreRenumbered states (suc a) (suc s) small big → (state states a ≡ s) ⊎ (state states a ≢ s)
          → AreSameResults (suc a) (suc s) (solution (suc a) small) (solution (suc s) big)
      next_by a small big are (inl e) =
          step_same a s (let l = are.few in omega (arith, l)) e (ih a) (eliminated a small) (eliminated s big)
          (eliminated-same states ascend a s small big are e)
      next_by a small big are (inr n) =
          let b = before_by a small big are n in
          skip_by (suc a) s small big are b (ih (suc a) small (take s big) (fewer (suc a) s small big are b))

      next_same : (m : ℕ) (small big : List Equation) → AreRenumbered states m (suc s) small big
          → AreSameResults m (suc s) (solution m small) (solution (suc s) big)
      next_same zero small big are =
          skip_by 0 s small big are (λ j l. absurd (omega arith))
          (ih 0 small (take s big) (fewer 0 s small big are (λ j l. absurd (omega arith))))
      next_same (suc a) small big are = next_by a small big are (one_or_two s (state states a))

    -- the elimination of the first m states among the numbers below n
    pub solution-same : (n m : ℕ) (small big : List Equation) → AreRenumbered states m n small big → AreSameResults m n (solution m small) (solution n big)
    solution-same zero zero small big are = record { first = spread-none states; second = spread-none states }
    solution-same zero (suc a) small big are = absurd (let l = are.below 0 (omega arith) in omega (arith, l))
    solution-same (suc s) m small big are = next_same s (λ m small big are. solution-same s m small big are) m small big are
