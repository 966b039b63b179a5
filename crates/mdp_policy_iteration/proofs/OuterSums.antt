-- The written sum over the entries to nodes that aren't active, entry by entry.
use Rattle.std.proofs.Common.{◌≡◌, ℕ, suc, ◌+◌, ◌<◌, Bool, true, false, not, if◌then◌else◌, List, ◌∷◌, length, drop, get_or, Option, Some, None, refl, sym, ◌∙◌, ap, ap₂, arith}
use Rattle.std.proofs.Math.Seq.{drop-cons}
use Rattle.mdp_math.specs.{Rational.{ℚ}, Written.{written_add, written_mul, ◌>>=◌}}
use Rattle.mdp_spec.specs.{Mdp.{Entry, value_at}, Row.{entries}, Written.{written_sum}}
use Rattle.mdp_elim.specs.System.{is_active}
use Rattle.mdp_policy_iteration.specs.{Path.{outer}, Code.{plus_outer}}

pub entries_next : (ts : List ℕ) (ps : List ℚ) (i t : ℕ) (p : ℚ) → i < length ts → length ts ≡ length ps → t ≡ get_or ts i t → p ≡ get_or ps i p
    → entries (drop i ts) (drop i ps) ≡ (let x : Entry = record { target = t; prob = p } in x) ∷ entries (drop (i + 1) ts) (drop (i + 1) ps)
entries_next ts ps i t p l same et ep =
    let e : suc i ≡ i + 1 = omega arith in
    ap₂ entries (drop-cons ts i t l ∙ ap₂ (λ (x : ℕ) (xs : List ℕ). x ∷ xs) (sym et) (ap (λ k. drop k ts) e))
    (drop-cons ps i p (omega arith) ∙ ap₂ (λ (x : ℚ) (xs : List ℚ). x ∷ xs) (sym ep) (ap (λ k. drop k ps) e))

module _ (active : List Bool) (z : List ℚ) (acc : ℚ) (t : ℕ) (p : ℚ) (rest : List Entry) where
  abbrev here : Entry
  here = record { target = t; prob = p }

  then_by : (o : Option ℚ) (f : ℚ → Option ℚ) (g : ℚ → Option ℚ) → (o >>= (λ term. f term >>= g)) ≡ ((o >>= f) >>= g)
  then_by None f g = refl
  then_by (Some x) f g = refl

  step_by : (b : Bool) → is_active active t ≡ b
      → written_sum z acc (if not b then here ∷ outer active rest else outer active rest) ≡
      ((if b then Some acc else (written_mul p (value_at z t) >>= (λ term. written_add acc term))) >>= (λ sum. written_sum z sum (outer active rest)))
  step_by true e = refl
  step_by false e = then_by (written_mul p (value_at z t)) (λ term. written_add acc term) (λ sum. written_sum z sum (outer active rest))

  -- the sum from acc on, by its first entry
  pub outer-next : written_sum z acc (outer active (here ∷ rest)) ≡ (plus_outer active z acc t p >>= (λ sum. written_sum z sum (outer active rest)))
  outer-next = step_by (is_active active t) refl

module _ (active : List Bool) (z : List ℚ) (acc : ℚ) (ts : List ℕ) (ps : List ℚ) (i t : ℕ) (p : ℚ) (l : i < length ts) (same : length ts ≡ length ps) (et : t ≡ get_or ts i t)
    (ep : p ≡ get_or ps i p) where
  at_drop : written_sum z acc (outer active (entries (drop i ts) (drop i ps))) ≡
      (plus_outer active z acc t p >>= (λ sum. written_sum z sum (outer active (entries (drop (i + 1) ts) (drop (i + 1) ps)))))
  at_drop = ap (λ (r : List Entry). written_sum z acc (outer active r)) (entries_next ts ps i t p l same et ep) ∙ outer-next active z acc t p (entries (drop (i + 1) ts) (drop (i + 1) ps))

  pub outer-step : (sum : ℚ) → Some sum ≡ plus_outer active z acc t p
      → written_sum z acc (outer active (entries (drop i ts) (drop i ps))) ≡ written_sum z sum (outer active (entries (drop (i + 1) ts) (drop (i + 1) ps)))
  outer-step sum e = at_drop ∙ ap (λ (o : Option ℚ). o >>= (λ sum. written_sum z sum (outer active (entries (drop (i + 1) ts) (drop (i + 1) ps))))) (sym e)

  pub outer-wide : None ≡ plus_outer active z acc t p → written_sum z acc (outer active (entries (drop i ts) (drop i ps))) ≡ None
  outer-wide e = at_drop ∙ ap (λ (o : Option ℚ). o >>= (λ sum. written_sum z sum (outer active (entries (drop (i + 1) ts) (drop (i + 1) ps))))) (sym e)
