-- The first set exists: the search for it comes to an end.
use Rattle.std.proofs.Common.{◌≡◌, ℕ, zero, suc, ◌≤◌, ◌<◌, ◌⊎◌, inl, inr, Bool, false, List, [], ◌∷◌, ◌++◌, refl, ap, arith}
use Rattle.std.specs.Prelude.{replicate}
use Rattle.mdp_math.specs.Rational.{ℚ}
use Rattle.mdp_spec.specs.{Mdp.{Mdp, states_of}, Row.{IsMdp}, Tree.{IsPolicy}}
use Rattle.mdp_rows.specs.declared.dir.Dir.{Dir}
use Rattle.mdp_witness.specs.{First.{IsFirst}, FrontCode.{Front, with_state, with_next}}
use Rattle.mdp_witness.proofs.{Finding.{IsFinding, finding_first, finding_next, finding_less, first_of}, Fronts.{left_to_do}}

-- a list is empty or has a last element
abbrev NoneOrLast : List ℕ → Type 0
NoneOrLast xs = (xs ≡ []) ⊎ ((before : List ℕ) × (s : ℕ) × (xs ≡ before ++ s ∷ []))

none_or_last : (xs : List ℕ) → NoneOrLast xs
none_or_last [] = inl refl
none_or_last (x ∷ xs) = elim (none_or_last xs) as (λ _. NoneOrLast (x ∷ xs)) [
  | inl none ↦ inr ([], x, ap (λ (ys : List ℕ). x ∷ ys) none)
  | inr h ↦ inr (x ∷ h.0, h.1, ap (λ (ys : List ℕ). x ∷ ys) h.2)
]

module _ (dir : Dir) (m : Mdp) (goals : List Bool) (z : List ℚ) (policy : List ℕ) (start : ℕ) (known_ : IsMdp m) (taking : IsPolicy m policy) where
  abbrev IsThere : Type 0
  IsThere = (first : List Bool) × IsFirst dir m goals z policy start first

  -- a search that has at most so much left to do
  there_by : (n : ℕ) (f : Front) → left_to_do f ≤ n → IsFinding dir m goals z policy start f → NoneOrLast f.waiting → IsThere
  there_by n f l finding (inl none) = (f.found, first_of dir m goals z policy start known_ taking f finding none)
  there_by zero f l finding (inr h) = let less = finding_less dir m goals z policy start known_ taking f h.1 h.0 finding h.2 in absurd (omega arith)
  there_by (suc n) f l finding (inr h) =
      let later : Front = with_next dir m goals z policy (let before : Front = record { found = f.found; waiting = h.0 } in before) h.1 in
      let less = finding_less dir m goals z policy start known_ taking f h.1 h.0 finding h.2 in
      there_by n later (omega arith) (finding_next dir m goals z policy start known_ taking f h.1 h.0 finding h.2) (none_or_last later.waiting)

  pub first_exists : start < states_of m → IsThere
  first_exists inside =
      let front : Front = with_state goals z (let none : Front = record { found = replicate (states_of m) false; waiting = [] } in none) start in
      there_by (left_to_do front) front (omega arith) (finding_first dir m goals z policy start known_ taking (replicate (states_of m) false) inside refl) (none_or_last front.waiting)
