-- An equation that is divided, and one that is added to another, step by step.
use Rattle.std.proofs.Common.{◌≡◌, ◌≢◌, ◌++◌, ℕ, zero, suc, length, take, get_or, ap, arith, List, Option, Some, None, refl, sym, ◌∙◌, pos, negsuc, [], ◌∷◌}
use Rattle.std.specs.List.{remove}
use Rattle.mdp_math.specs.{Rational.{ℚ, neg_ℚ}, Written.{written_add, written_mul, ◌>>=◌}}
use Rattle.mdp_math.proofs.{Written.{written_add-some}, Ring.{◌⊕◌, ⊖, lit}, Linear.{combine, equal}, Order.{0ℚ, 1ℚ}}
use Rattle.mdp_num.specs.Written.{written_sub, written_div}
use Rattle.mdp_spec.specs.{Mdp.{Entry}, Written.{written_sum}}
use Rattle.mdp_elim.specs.{Equation.{Equation, Values, no_equation}, Entries.{each, divided_entry, plus_row}}
use Rattle.mdp_elim.specs.Elimination.{evaluated, divided_rest, plus_equation, divided, substituted, Eliminated, eliminated}
use Rattle.mdp_elim.proofs.Zeros.{bind_none, bind_some}

pub one_less-nonzero : (p u : ℚ) → p ≢ 1ℚ → Some u ≡ written_sub 1ℚ p → u ≢ 0ℚ
one_less-nonzero p u h e z = h (combine 2 (λ p u. p) (λ p u. lit (pos 1))
    (λ p u. equal (lit (pos 1)) u (lit (pos 1) ⊕ ⊖ p) ∷ equal (lit (negsuc 0)) u (lit (pos 0)) ∷ []) refl p u (written_add-some 1ℚ (neg_ℚ p) u e) z)

module _ (p : ℚ) (e : Equation) where
  pub divided_rest-none : None ≡ written_sub 1ℚ p → divided_rest p e ≡ None
  unfolding divided_rest
  divided_rest-none h = rw (sym h) refl

  module _ (u : ℚ) (sub : Some u ≡ written_sub 1ℚ p) where
    pub divided_rest-none_entries : each (divided_entry u) e.entries ≡ None → divided_rest p e ≡ None
    unfolding divided_rest
    divided_rest-none_entries h = rw (sym sub, h) refl

    module _ (entries : List Entry) (row : each (divided_entry u) e.entries ≡ Some entries) where
      pub divided_rest-none_first : None ≡ written_div e.first u → divided_rest p e ≡ None
      unfolding divided_rest
      divided_rest-none_first h = rw (sym sub, row, sym h) refl

      pub divided_rest-none_second : (a : ℚ) → Some a ≡ written_div e.first u → None ≡ written_div e.second u → divided_rest p e ≡ None
      unfolding divided_rest
      divided_rest-none_second a f h = rw (sym sub, row, sym f, sym h) refl

      pub divided_rest-some : (a b : ℚ) → Some a ≡ written_div e.first u → Some b ≡ written_div e.second u → divided_rest p e ≡ Some (record { entries = entries; first = a; second = b })
      unfolding divided_rest
      divided_rest-some a b f h = rw (sym sub, row, sym f, sym h) refl

abbrev whole : List Entry → ℚ → ℚ → Option Equation
whole entries first second = Some (record { entries = entries; first = first; second = second })

module _ (w : ℚ) (pivot e : Equation) where
  pub plus_equation-none_entries : plus_row w pivot.entries e.entries ≡ None → plus_equation w pivot e ≡ None
  unfolding plus_equation
  plus_equation-none_entries h = rw h refl

  module _ (entries : List Entry) (row : plus_row w pivot.entries e.entries ≡ Some entries) where
    pub plus_equation-none_first : None ≡ (written_mul w pivot.first >>= written_add e.first) → plus_equation w pivot e ≡ None
    unfolding plus_equation
    plus_equation-none_first h = rw row (bind_none (written_mul w pivot.first) (written_add e.first)
        (λ first. written_mul w pivot.second >>= (λ also. written_add e.second also >>= (λ second. whole entries first second))) h)

    module _ (first : ℚ) (add : Some first ≡ (written_mul w pivot.first >>= written_add e.first)) where
      first_added : plus_equation w pivot e ≡ (written_mul w pivot.second >>= (λ also. written_add e.second also >>= (λ second. whole entries first second)))
      unfolding plus_equation
      first_added = rw row (bind_some (written_mul w pivot.first) (written_add e.first) (λ x. written_mul w pivot.second >>= (λ also. written_add e.second also >>= (λ second. whole entries x second))) first add)

      pub plus_equation-none_second : None ≡ (written_mul w pivot.second >>= written_add e.second) → plus_equation w pivot e ≡ None
      plus_equation-none_second h = first_added ∙ bind_none (written_mul w pivot.second) (written_add e.second) (whole entries first) h

      pub plus_equation-some : (second : ℚ) → Some second ≡ (written_mul w pivot.second >>= written_add e.second) → plus_equation w pivot e ≡ Some (record { entries = entries; first = first; second = second })
      plus_equation-some second h = first_added ∙ bind_some (written_mul w pivot.second) (written_add e.second) (whole entries first) second h

-- ---- a state that is eliminated

pub remove-last : {A : Type 0} (xs : List A) (s : ℕ) → length xs ≡ suc s → remove xs s ≡ take s xs
remove-last [] s h = absurd (omega arith)
remove-last (x ∷ []) zero h = refl
remove-last (x ∷ y ∷ xs) zero h = absurd (omega arith)
remove-last (x ∷ xs) (suc s) h = ap (λ ys. x ∷ ys) (remove-last xs s (omega arith))

module _ (s : ℕ) (equations : List Equation) where
  pub eliminated-none_pivot : divided s (get_or equations s no_equation) ≡ None → eliminated s equations ≡ None
  unfolding eliminated
  eliminated-none_pivot h = ap (λ o. o >>= (λ pivot. each (substituted s pivot) (take s equations) >>= (λ rest. let e : Eliminated = record { pivot = pivot; rest = rest } in Some e))) h

  module _ (pivot : Equation) (is : divided s (get_or equations s no_equation) ≡ Some pivot) where
    pub eliminated-none_rest : each (substituted s pivot) (take s equations) ≡ None → eliminated s equations ≡ None
    unfolding eliminated
    eliminated-none_rest h =
        ap (λ o. o >>= (λ pivot. each (substituted s pivot) (take s equations) >>= (λ rest. let e : Eliminated = record { pivot = pivot; rest = rest } in Some e))) is
        ∙ ap (λ o. o >>= (λ rest. let e : Eliminated = record { pivot = pivot; rest = rest } in Some e)) h

    pub eliminated-some : (rest : List Equation) → each (substituted s pivot) (take s equations) ≡ Some rest → eliminated s equations ≡ Some (record { pivot = pivot; rest = rest })
    unfolding eliminated
    eliminated-some rest h =
        ap (λ o. o >>= (λ pivot. each (substituted s pivot) (take s equations) >>= (λ rest. let e : Eliminated = record { pivot = pivot; rest = rest } in Some e))) is
        ∙ ap (λ o. o >>= (λ rest. let e : Eliminated = record { pivot = pivot; rest = rest } in Some e)) h

-- ---- a state that is evaluated

module _ (e : Equation) (v : Values) where
  pub evaluated-none_first : None ≡ written_sum v.first e.first e.entries → evaluated e v ≡ None
  unfolding evaluated
  evaluated-none_first h = rw (sym h) refl

  module _ (x : ℚ) (is : Some x ≡ written_sum v.first e.first e.entries) where
    pub evaluated-none_second : None ≡ written_sum v.second e.second e.entries → evaluated e v ≡ None
    unfolding evaluated
    evaluated-none_second h = rw (sym is, sym h) refl

    pub evaluated-some : (y : ℚ) → Some y ≡ written_sum v.second e.second e.entries → evaluated e v ≡ Some (record { first = v.first ++ x ∷ []; second = v.second ++ y ∷ [] })
    unfolding evaluated
    evaluated-some y h = rw (sym is, sym h) refl
