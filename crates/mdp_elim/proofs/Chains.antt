-- The equations of a chain, made from its rows one after the other.
use Rattle.std.proofs.Common.{◌≡◌, ℕ, zero, suc, ◌+◌, ◌<◌, Bool, true, false, List, [], ◌∷◌, ◌++◌, length}
use Rattle.std.proofs.{Common.{drop, get_or, refl, sym, ◌∙◌, ap, ap₂, subst, arith, if◌then◌else◌, Result, Ok, Err}, lemmas.List.{append_assoc}}
use Rattle.mdp_math.specs.Rational.{ℚ}
use Rattle.mdp_spec.specs.{Mdp.{Entry}, Row.{entries}}
use Rattle.mdp_elim.specs.{Equation.{Equation, Values, no_equation}, Elimination.{solution}, System.{is_active, row_of, inner, column_at, equation_of, system}}
use Rattle.mdp_elim.specs.Solve.{kept, columns_of, written_solution}

pub entries_next : (ts : List ℕ) (ps : List ℚ) (i t : ℕ) (p : ℚ) → i < length ts → length ts ≡ length ps → t ≡ get_or ts i t → p ≡ get_or ps i p
    → entries (drop i ts) (drop i ps) ≡ (let x : Entry = record { target = t; prob = p } in x) ∷ entries (drop (suc i) ts) (drop (suc i) ps)
entries_next [] ps i t p l n a b = absurd (omega arith)
entries_next (u ∷ ts) [] i t p l n a b = absurd (omega arith)
entries_next (u ∷ ts) (q ∷ ps) zero t p l n a b = ap₂ (λ (v : ℕ) (r : ℚ). (let x : Entry = record { target = v; prob = r } in x) ∷ entries ts ps) (sym a) (sym b)
entries_next (u ∷ ts) (q ∷ ps) (suc i) t p l n a b = entries_next ts ps i t p (omega arith) (omega arith) a b

module _ (active : List Bool) (ts : List ℕ) (ps : List ℚ) (i t : ℕ) (p : ℚ) (within : i < length ts)
    (same : length ts ≡ length ps) (target : t ≡ get_or ts i t) (prob : p ≡ get_or ps i p) (terms all : List Entry)
    (before : all ≡ terms ++ inner active (entries (drop i ts) (drop i ps))) where
  abbrev this : Entry
  this = record { target = t; prob = p }

  next : inner active (entries (drop i ts) (drop i ps)) ≡ (if is_active active t then this ∷ inner active (entries (drop (i + 1) ts) (drop (i + 1) ps)) else inner active (entries (drop (i + 1) ts) (drop (i + 1) ps)))
  next =
      let e : suc i ≡ i + 1 = omega arith in
      ap (inner active) (entries_next ts ps i t p within same target prob)
      ∙ ap (λ (k : ℕ). if is_active active t then this ∷ inner active (entries (drop k ts) (drop k ps)) else inner active (entries (drop k ts) (drop k ps))) e

  pub inner-kept : (new : List Entry) → is_active active t ≡ true → new ≡ terms ++ this ∷ [] → all ≡ new ++ inner active (entries (drop (i + 1) ts) (drop (i + 1) ps))
  inner-kept new a e =
      before ∙ ap (λ (xs : List Entry). terms ++ xs) (next ∙ ap (λ (b : Bool). if b then this ∷ inner active
      (entries (drop (i + 1) ts) (drop (i + 1) ps)) else inner active (entries (drop (i + 1) ts) (drop (i + 1) ps))) a)
      ∙ sym (append_assoc terms (this ∷ []) (inner active (entries (drop (i + 1) ts) (drop (i + 1) ps))))
      ∙ ap (λ (xs : List Entry). xs ++ inner active (entries (drop (i + 1) ts) (drop (i + 1) ps))) (sym e)

  pub inner-left : is_active active t ≡ false → all ≡ terms ++ inner active (entries (drop (i + 1) ts) (drop (i + 1) ps))
  inner-left a = before ∙ ap (λ (xs : List Entry). terms ++ xs)
      (next ∙ ap (λ (b : Bool). if b then this ∷ inner active (entries (drop (i + 1) ts) (drop (i + 1) ps)) else inner active (entries (drop (i + 1) ts) (drop (i + 1) ps))) a)

module _ (rows : List (List Entry)) (active : List Bool) (columns : List (List ℚ)) (s : ℕ) where
  pub equation_of-inactive : (e : Equation) → is_active active s ≡ false → e ≡ no_equation → e ≡ equation_of rows active columns s
  unfolding equation_of
  equation_of-inactive e off is =
      is ∙ sym (ap (λ (c : Bool). let x : Equation
      = record { entries = inner active (row_of rows s); first = column_at columns 0 s; second = column_at columns 1 s } in if c then x else no_equation) off)

  pub equation_of-active : (e : Equation) (es : List Entry) (a b : ℚ) → is_active active s ≡ true → e ≡ (let x : Equation = record { entries = es; first = a; second = b } in x)
      → es ≡ inner active (row_of rows s) → a ≡ column_at columns 0 s → b ≡ column_at columns 1 s → e ≡ equation_of rows active columns s
  unfolding equation_of
  equation_of-active e es a b on is p q r =
      is ∙ rw (p, q, r) refl ∙ sym (ap (λ (c : Bool). let x : Equation
      = record { entries = inner active (row_of rows s); first = column_at columns 0 s; second = column_at columns 1 s } in if c then x else no_equation) on)

-- ---- the answer from that of the system

module _ (rows : List (List Entry)) (active : List Bool) (columns : List (List ℚ)) (equations : List Equation) (n : ℕ)
    (is : equations ≡ system rows active columns) (len : length equations ≡ length rows) (count : n ≡ length columns) where
  pub solution-of : (r : Result Values ℕ) → solution (length equations) equations ≡ r → solution (length rows) (system rows active columns) ≡ r
  solution-of r h = subst (λ (k : ℕ). solution k (system rows active columns) ≡ r) len (subst (λ (es : List Equation). solution (length equations) es ≡ r) is h)

  pub written_solution-ok : (values : Values) (xs : List (List ℚ)) → solution (length equations) equations ≡ Ok values → xs ≡ columns_of n values → written_solution rows active columns ≡ Ok xs
  written_solution-ok values xs h e = ap (kept (columns_of (length columns))) (solution-of (Ok values) h) ∙ ap
      (λ (k : ℕ). let r : Result (List (List ℚ)) ℕ = Ok (columns_of k values) in r) (sym count) ∙ ap (λ (ys : List (List ℚ)). let r : Result (List (List ℚ)) ℕ = Ok ys in r) (sym e)

  pub written_solution-err : (s : ℕ) → solution (length equations) equations ≡ Err s → written_solution rows active columns ≡ Err s
  written_solution-err s h = ap (kept (columns_of (length columns))) (solution-of (Err s) h)
