-- Where no state is active, written elimination has no terms, and all values are 0.
use Rattle.std.proofs.Common.{◌≡◌, ℕ, zero, suc, ◌+◌, ◌≤◌, Bool, true, false, if◌then◌else◌, List, [], ◌∷◌, ◌++◌}
use Rattle.std.proofs.{Common.{length, map, take, Option, Some, Result, Ok, refl, sym, ◌∙◌, ap, ap₂, arith, pos}, lemmas.List.FromFn.{length-range_with_len}}
use Rattle.std.specs.{List.{range_with_len}, Prelude.{slice_index_or}}
use Rattle.mdp_math.specs.{Rational.{ℚ, of_int}, Written.{◌>>=◌}}
use Rattle.mdp_math.proofs.Lists.{map_more}
use Rattle.mdp_spec.specs.Mdp.{Entry}
use Rattle.mdp_elim.specs.{Equation.{Equation, Values, no_equation}, Entries.{each}}
use Rattle.mdp_elim.specs.Elimination.{Eliminated, divided, substituted, eliminated, evaluated, at_state, ◌and_then◌, solution}
use Rattle.mdp_elim.specs.{System.{is_active, inner, row_of, column_at, equation_of, system}, Solve.{columns_of, kept, written_solution}}
use Rattle.mdp_gain.specs.OnlyTerms.{zeros}

nones : ℕ → List Equation
nones zero = []
nones (suc n) = no_equation ∷ nones n

none-at : (n s : ℕ) → slice_index_or (nones n) s no_equation ≡ no_equation
unfolding nones
none-at zero s = refl
none-at (suc n) zero = refl
none-at (suc n) (suc s) = none-at n s

take-nones : (s n : ℕ) → s ≤ n → take s (nones n) ≡ nones s
unfolding nones
take-nones zero n l = refl
take-nones (suc s) zero l = absurd (omega arith)
take-nones (suc s) (suc n) l = ap (λ (es : List Equation). no_equation ∷ es) (take-nones s n (omega arith))

each-nones : (s n : ℕ) → each (substituted s no_equation) (nones n) ≡ Some (nones n)
unfolding nones
each-nones s zero = refl
each-nones s (suc n) = ap (λ (o : Option (List Equation)). o >>= (λ es. Some (no_equation ∷ es))) (each-nones s n)

-- one elimination
eliminated-nones : (s n : ℕ) → s ≤ n → eliminated s (nones n) ≡ Some (record { pivot = no_equation; rest = nones s })
unfolding eliminated
eliminated-nones s n l =
    ap (λ (e : Equation). divided s e >>= (λ pivot. each (substituted s pivot) (take s (nones n)) >>= (λ rest. Some (let r : Eliminated = record { pivot = pivot; rest = rest } in r)))) (none-at n s)
    ∙ ap (λ (es : List Equation). each (substituted s no_equation) es >>= (λ rest. Some (let r : Eliminated = record { pivot = no_equation; rest = rest } in r))) (take-nones s n l)
    ∙ ap (λ (o : Option (List Equation)). o >>= (λ rest. Some (let r : Eliminated = record { pivot = no_equation; rest = rest } in r))) (each-nones s s)

values_of : ℕ → Values
values_of n = record { first = zeros n; second = zeros n }

evaluated-none : (s : ℕ) → evaluated no_equation (values_of s) ≡ Some (values_of (suc s))
unfolding evaluated values_of
evaluated-none s =
    let e : suc s ≡ s + 1 = omega arith in
    let more : zeros s ++ of_int (pos 0) ∷ [] ≡ zeros (suc s) = sym (ap zeros e ∙ map_more (λ t. of_int (pos 0)) s) in
    ap₂ (λ (xs ys : List ℚ). Some (let v : Values = record { first = xs; second = ys } in v)) more more

solution-nones : (s n : ℕ) → s ≤ n → solution s (nones n) ≡ Ok (values_of s)
unfolding values_of
solution-nones zero n l = refl
solution-nones (suc s) n l =
    ap (λ (o : Option Eliminated). at_state s o and_then (λ e. solution s e.rest and_then (λ values. at_state s (evaluated e.pivot values)))) (eliminated-nones s n (omega arith))
    ∙ ap (λ (r : Result Values ℕ). r and_then (λ values. at_state s (evaluated no_equation values))) (solution-nones s s (omega arith))
    ∙ ap (at_state s) (evaluated-none s)

-- the system
each-none : (f : ℕ → Equation) → ((s : ℕ) → f s ≡ no_equation) → (xs : List ℕ) → map f xs ≡ nones (length xs)
unfolding nones
each-none f h [] = refl
each-none f h (x ∷ xs) = ap₂ (λ (e : Equation) (es : List Equation). e ∷ es) (h x) (each-none f h xs)

module _ (rows : List (List Entry)) (active : List Bool) (columns : List (List ℚ)) (none : (s : ℕ) → is_active active s ≡ false) where
  none_by : (s : ℕ) (b : Bool) → is_active active s ≡ b → b ≡ false → equation_of rows active columns s ≡ no_equation
  unfolding equation_of
  none_by s true e h = cc
  none_by s false e h = ap (λ (b : Bool). let q : Equation = if b then record {
    entries = inner active (row_of rows s);
    first = column_at columns 0 s;
    second = column_at columns 1 s;
  } else no_equation in q) e

  system-nones : system rows active columns ≡ nones (length rows)
  system-nones =
      each-none (equation_of rows active columns) (λ s. none_by s (is_active active s) refl (none s)) (range_with_len 0 (length rows))
      ∙ ap nones (length-range_with_len 0 (length rows))

  pub no-solution : written_solution rows active columns ≡ Ok (columns_of (length columns) (record { first = zeros (length rows); second = zeros (length rows) }))
  unfolding values_of
  no-solution =
      ap (λ (es : List Equation). kept (columns_of (length columns)) (solution (length rows) es)) system-nones
      ∙ ap (kept (columns_of (length columns))) (solution-nones (length rows) (length rows) (omega arith))
