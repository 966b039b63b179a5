-- One step of the loops over a choice's terms and over a state's choices.
use Rattle.std.proofs.Common.{◌≡◌, ◌∙◌, ℕ, suc, ◌+◌, ◌<◌, ◌^◌, List, [], ◌∷◌, ◌++◌, append_assoc, length, drop, get_or, Option, Some, None, IfSome, sym, ap, subst, arith}
use Rattle.std.proofs.{Common.{ℤ, unsigned_abs, to_z-of_z}, Math.Seq.{drop-cons}, lemmas.Int.{fits_signed_from_abs}}
use mir.Syntax.{w128}
use mir.Val.{to_z, of_z}
use Rattle.mdp_math.specs.{Rational.{ℚ}, Written.{narrow, ◌>>=◌}}
use Rattle.mdp_math.proofs.Written.{narrow-some}
use Rattle.mdp_spec.specs.Row.{entries}
use Rattle.mdp_rows.specs.declared.dir.Dir.{Dir}
use Rattle.mdp_horizon.specs.{declared.choice.Term.{Term}, Whole.{opposite}, declared.leader.Leader.{Leader}}
use Rattle.mdp_horizon.specs.Columns.{covered_with, covered_from, followed_from, judged}
use Rattle.mdp_horizon.specs.Scaled.{Scaled, common_with, common_in, term_of, terms_of, no_term, total_with, total_of, farthest_with, farthest_from, rounded_sum}

-- a number in width is what its bits say
pub back : (z : ℤ) → unsigned_abs z < 2 ^ 127 → to_z w128 (of_z w128 z) ≡ z
back z h = to_z-of_z (fits_signed_from_abs w128 z h)

pub narrow_part : (z : ℤ) (o : Option ℤ) → o ≡ narrow z → IfSome o (λ w. unsigned_abs w < 2 ^ 127)
narrow_part z None e = tt
narrow_part z (Some w) e = let r = narrow-some z w e in subst (λ (v : ℤ). unsigned_abs v < 2 ^ 127) (sym r.0) r.1

-- the rest from place i on
pub rest_of : {A : Type 0} (xs : List A) (i : ℕ) (d : A) → i < length xs → drop i xs ≡ get_or xs i d ∷ drop (i + 1) xs
rest_of xs i d l = let on : suc i ≡ i + 1 = omega arith in drop-cons xs i d l ∙ ap (λ k. get_or xs i d ∷ drop k xs) on

module _ (column : List (Option ℤ)) where
  pub total_step : (acc : ℤ) (items terms : List Term) (i : ℕ) (o : Option ℤ) → items ≡ terms → i < length items → total_with column acc (get_or items i no_term) ≡ o
      → total_of column acc (drop i terms) ≡ (o >>= (λ s. total_of column s (drop (i + 1) terms)))
  total_step acc items terms i o e l h =
      ap (λ xs. total_of column acc (drop i xs)) (sym e)
      ∙ ap (total_of column acc) (rest_of items i no_term l)
      ∙ ap (λ (o : Option ℤ). o >>= (λ s. total_of column s (drop (i + 1) items))) h
      ∙ ap (λ xs. o >>= (λ s. total_of column s (drop (i + 1) xs))) e

  pub farthest_step : (side : Dir) (far : ℤ) (items terms : List Term) (i : ℕ) (o : Option ℤ) → items ≡ terms → i < length items → farthest_with side column far (get_or items i no_term) ≡ o
      → farthest_from side column far (drop i terms) ≡ (o >>= (λ far. farthest_from side column far (drop (i + 1) terms)))
  farthest_step side far items terms i o e l h =
      ap (λ xs. farthest_from side column far (drop i xs)) (sym e)
      ∙ ap (farthest_from side column far) (rest_of items i no_term l)
      ∙ ap (λ (o : Option ℤ). o >>= (λ far. farthest_from side column far (drop (i + 1) items))) h
      ∙ ap (λ xs. o >>= (λ far. farthest_from side column far (drop (i + 1) xs))) e

-- ---- rows as targets and probabilities

pub entries_at : (ts : List ℕ) (ps : List ℚ) (i : ℕ) (p : ℚ) → length ts ≡ length ps → i < length ts → p ≡ get_or ps i p
    → entries (drop i ts) (drop i ps) ≡ record { target = get_or ts i 0; prob = p } ∷ entries (drop (i + 1) ts) (drop (i + 1) ps)
entries_at ts ps i p e l r =
    ap (λ ys. entries ys (drop i ps)) (rest_of ts i 0 l)
    ∙ ap (entries (get_or ts i 0 ∷ drop (i + 1) ts)) (rest_of ps i p (omega arith))
    ∙ ap (λ (x : ℚ). entries (get_or ts i 0 ∷ drop (i + 1) ts) (x ∷ drop (i + 1) ps)) (sym r)

pub common_step : (b : ℤ) (ts : List ℕ) (ps : List ℚ) (i : ℕ) (p : ℚ) (o : Option ℤ) → length ts ≡ length ps → i < length ts → p ≡ get_or ps i p → common_with b p ≡ o
    → common_in b (entries (drop i ts) (drop i ps)) ≡ (o >>= (λ c. common_in c (entries (drop (i + 1) ts) (drop (i + 1) ps))))
common_step b ts ps i p o e l r h =
    ap (common_in b) (entries_at ts ps i p e l r) ∙ ap (λ (o : Option ℤ). o >>= (λ c. common_in c (entries (drop (i + 1) ts) (drop (i + 1) ps)))) h

pub terms_step : (common : ℤ) (ts : List ℕ) (ps : List ℚ) (i : ℕ) (p : ℚ) (terms : List Term) (t : Term) → length ts ≡ length ps → i < length ts → p ≡ get_or ps i p
    → t ≡ term_of common (record { target = get_or ts i 0; prob = p })
    → terms ++ terms_of common (entries (drop i ts) (drop i ps)) ≡ (terms ++ t ∷ []) ++ terms_of common (entries (drop (i + 1) ts) (drop (i + 1) ps))
terms_step common ts ps i p terms t e l r q =
    ap (λ row. terms ++ terms_of common row) (entries_at ts ps i p e l r)
    ∙ ap (λ (u : Term). terms ++ (u ∷ terms_of common (entries (drop (i + 1) ts) (drop (i + 1) ps)))) (sym q)
    ∙ sym (append_assoc terms (t ∷ []) (terms_of common (entries (drop (i + 1) ts) (drop (i + 1) ps))))

-- ---- a state's choices

pub covered_step : (dir : Dir) (column : List (Option ℤ)) (far : ℤ) (all : List Scaled) (c : ℕ) (x : Scaled) (o : Option ℤ)
    → drop c all ≡ x ∷ drop (c + 1) all → covered_with dir column far x ≡ o
    → covered_from dir column far (drop c all) ≡ (o >>= (λ far. covered_from dir column far (drop (c + 1) all)))
covered_step dir column far all c x o e h = ap (covered_from dir column far) e ∙ ap (λ (o : Option ℤ). o >>= (λ far. covered_from dir column far (drop (c + 1) all))) h

pub followed_step : (dir : Dir) (column : List (Option ℤ)) (leader next : Leader) (all : List Scaled) (c : ℕ) (x : Scaled) → drop c all ≡ x ∷ drop (c + 1) all
    → next ≡ judged dir c leader (rounded_sum (opposite dir) column x)
    → followed_from dir column c leader (drop c all) ≡ followed_from dir column (c + 1) next (drop (c + 1) all)
followed_step dir column leader next all c x e h =
    let on : suc c ≡ c + 1 = omega arith in
    ap (followed_from dir column c leader) e
    ∙ ap (λ (l : Leader). followed_from dir column (suc c) l (drop (c + 1) all)) (sym h)
    ∙ ap (λ (k : ℕ). followed_from dir column k next (drop (c + 1) all)) on
