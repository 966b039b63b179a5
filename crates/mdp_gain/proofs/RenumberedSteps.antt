-- Equations under other numbers, in the order of the old ones: each step of the elimination gives the same.
use Rattle.std.proofs.Common.{◌≡◌, ℕ, suc, ◌<◌, ◌⊎◌, inl, inr, List, [], ◌∷◌, length, get_or, refl, ◌∙◌, ap, ap₂, arith, Option, Some, None, pos}
use Rattle.std.specs.Option.{option_map}
use Rattle.mdp_math.specs.{Rational.{ℚ, of_int}, Written.{written_add, written_mul, ◌>>=◌}}
use Rattle.mdp_num.specs.Written.{written_sub, written_div}
use Rattle.mdp_spec.specs.Mdp.{Entry}
use Rattle.mdp_elim.specs.{Equation.{Equation}, Entries.{entry_to, each, divided_entry, plus_row}}
use Rattle.mdp_elim.specs.Elimination.{divided, divided_rest, divided_where, rest_of, substituted, substituted_where, plus_equation}
use Rattle.mdp_elim.proofs.Targets.{Targets, targets-without}
use Rattle.mdp_gain.specs.Renumbering.{Ascend}
use Rattle.mdp_gain.proofs.RenumberedRows.{IsPlace, state, renamed_row, after-map, same-map}
use Rattle.mdp_gain.proofs.RenumberedRows.{divided_row-renamed, entry_to-renamed, without-renamed, plus_row-renamed}

module _ (states : List ℕ) where
  -- an equation in the new numbers
  abbrev pub renamed_equation : Equation → Equation
  renamed_equation e = record { entries = renamed_row states e.entries; first = e.first; second = e.second }

  -- the equation leads to states
  abbrev pub LeadsInside : Equation → Type 0
  LeadsInside e = Targets (IsPlace states) e.entries

  divided_rest-renamed : (p : ℚ) (e : Equation) → divided_rest p (renamed_equation e) ≡ option_map renamed_equation (divided_rest p e)
  unfolding divided_rest
  divided_rest-renamed p e =
      same-map renamed_equation (written_sub (of_int (pos 1)) p) _ _ (λ u.
      ap (λ o. o >>= (λ entries. written_div e.first u >>= (λ first. written_div e.second u >>= (λ second.
      let x : Equation = record { entries = entries; first = first; second = second } in Some x)))) (divided_row-renamed states u e.entries)
      ∙ after-map (renamed_row states) renamed_equation (each (divided_entry u) e.entries) _ _ (λ entries i.
      same-map renamed_equation (written_div e.first u) _ _ (λ first. same-map renamed_equation (written_div e.second u) _ _ (λ second. refl))))

  divided_where-renamed : (o : Option ℚ) (e : Equation) → divided_where o (renamed_equation e) ≡ option_map renamed_equation (divided_where o e)
  divided_where-renamed None e = refl
  divided_where-renamed (Some p) e = divided_rest-renamed p e

  plus_equation-renamed : (ascend : Ascend states) (w : ℚ) (pivot e : Equation) → LeadsInside pivot → LeadsInside e
      → plus_equation w (renamed_equation pivot) (renamed_equation e) ≡ option_map renamed_equation (plus_equation w pivot e)
  unfolding plus_equation
  plus_equation-renamed ascend w pivot e inside there =
      ap (λ o. o >>= (λ entries. written_mul w pivot.first >>= (λ more. written_add e.first more >>= (λ first.
      written_mul w pivot.second >>= (λ also. written_add e.second also >>= (λ second.
      let x : Equation = record { entries = entries; first = first; second = second } in Some x))))))
      (plus_row-renamed states ascend w pivot.entries e.entries inside there)
      ∙ after-map (renamed_row states) renamed_equation (plus_row w pivot.entries e.entries) _ _ (λ entries i.
      same-map renamed_equation (written_mul w pivot.first) _ _ (λ more. same-map renamed_equation (written_add e.first more) _ _ (λ first.
      same-map renamed_equation (written_mul w pivot.second) _ _ (λ also. same-map renamed_equation (written_add e.second also) _ _ (λ second. refl)))))

  substituted_where-renamed : (ascend : Ascend states) (o : Option ℚ) (pivot e : Equation) → LeadsInside pivot → LeadsInside e
      → substituted_where o (renamed_equation pivot) (renamed_equation e) ≡ option_map renamed_equation (substituted_where o pivot e)
  substituted_where-renamed ascend None pivot e inside there = refl
  substituted_where-renamed ascend (Some w) pivot e inside there = plus_equation-renamed ascend w pivot e inside there

  module _ (ascend : Ascend states) (v : ℕ) (place : IsPlace states v) where
    rest_of-renamed : (e : Equation) → LeadsInside e → rest_of (state states v) (renamed_equation e) ≡ renamed_equation (rest_of v e)
    rest_of-renamed e there =
        ap (λ (entries : List Entry). let x : Equation = record { entries = entries; first = e.first; second = e.second } in x)
        (without-renamed states ascend v e.entries place there)

    -- an equation that is solved for the value of its state
    pub divided-renamed : (e : Equation) → LeadsInside e → divided (state states v) (renamed_equation e) ≡ option_map renamed_equation (divided v e)
    divided-renamed e there =
        ap₂ divided_where (entry_to-renamed states ascend v e.entries place there) (rest_of-renamed e there)
        ∙ divided_where-renamed (entry_to v e.entries) (rest_of v e)

    -- an equation into which another is put
    pub substituted-renamed : (pivot e : Equation) → LeadsInside pivot → LeadsInside e
        → substituted (state states v) (renamed_equation pivot) (renamed_equation e) ≡ option_map renamed_equation (substituted v pivot e)
    substituted-renamed pivot e inside there =
        ap₂ (λ o rest. substituted_where o (renamed_equation pivot) rest) (entry_to-renamed states ascend v e.entries place there) (rest_of-renamed e there)
        ∙ substituted_where-renamed ascend (entry_to v e.entries) pivot (rest_of v e) inside (targets-without (IsPlace states) v e.entries there)

-- ---- a step for each element of a list

module _ {A : Type 0} (f : A → Option A) (d : A) where
  -- the step can't be made for the element at this place
  pub record FailsAt (xs : List A) : Type 0 where
    pub place : ℕ
    pub inside : place < length xs
    pub fails : f (get_or xs place d) ≡ None
    pub none : each f xs ≡ None

  -- all can be made, or there is one that can't
  abbrev pub Outcome : List A → Type 0
  Outcome xs = ((ys : List A) × (each f xs ≡ Some ys)) ⊎ FailsAt xs

  later : (x y : A) (xs : List A) → f x ≡ Some y → Outcome xs → Outcome (x ∷ xs)
  later x y xs e (inl r) = inl (y ∷ r.0, ap (λ o. o >>= (λ y. each f xs >>= (λ ys. Some (y ∷ ys)))) e ∙ ap (λ o. o >>= (λ ys. Some (y ∷ ys))) r.1)
  later x y xs e (inr r) = inr (record {
    place = suc r.place;
    inside = let i = r.inside in omega (arith, i);
    fails = r.fails;
    none = ap (λ o. o >>= (λ y. each f xs >>= (λ ys. Some (y ∷ ys)))) e ∙ ap (λ o. o >>= (λ ys. Some (y ∷ ys))) r.none;
  })

  first_of_all : (x : A) (xs : List A) (o : Option A) → f x ≡ o → Outcome xs → Outcome (x ∷ xs)
  first_of_all x xs (Some y) e r = later x y xs e r
  first_of_all x xs None e r = inr (record {
    place = 0;
    inside = omega arith;
    fails = e;
    none = ap (λ o. o >>= (λ y. each f xs >>= (λ ys. Some (y ∷ ys)))) e;
  })

  pub outcome : (xs : List A) → Outcome xs
  outcome [] = inl ([], refl)
  outcome (x ∷ xs) = first_of_all x xs (f x) refl (outcome xs)
