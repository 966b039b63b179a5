-- A row is taken f times entry by entry.
use Rattle.std.proofs.Common.{◌≡◌, ℕ, zero, suc, ◌<◌, Bool, true, false, true≢false, not, ◌&&◌, cond, List, [], ◌∷◌, ◌++◌, length, drop, map, get_or, Option, Some, None, refl, sym}
use Rattle.std.proofs.{Common.{◌∙◌, ap, ap₂, arith, append_assoc}, lemmas.List.Elements.{All-from_recursion, recursion_from_All, filter-append}}
use Rattle.std.specs.{List.{All, AllByRecursion, filter}, Option.{is_some}}
use Rattle.mdp_math.proofs.{Options.{Some_same}, Written.{written_mul-some, written_add-some}}
use Rattle.mdp_math.specs.{Rational.{ℚ, neg_ℚ, ◌-ℚ◌}, Written.{written_mul}}
use Rattle.mdp_num.specs.{Written.{written_sub}, Equal.{eq_ℚ}}
use Rattle.mdp_spec.specs.{Mdp.{Entry}, Row.{entries}}
use Rattle.mdp_discount.specs.{Problem.{0ℚ, 1ℚ, scaled, has_value, scaled_entries, discounted_row, products_fit, row_fits}, ScaledView.{products}}

pub entries-more : (ts : List ℕ) (ps : List ℚ) (t : ℕ) (p : ℚ) → length ts ≡ length ps → entries (ts ++ t ∷ []) (ps ++ p ∷ []) ≡ entries ts ps ++ record { target = t; prob = p } ∷ []
entries-more [] [] t p e = refl
entries-more [] (q ∷ ps) t p e = absurd (omega arith)
entries-more (s ∷ ts) [] t p e = absurd (omega arith)
entries-more (s ∷ ts) (q ∷ ps) t p e = ap (λ (es : List Entry). record { target = s; prob = q } ∷ es) (entries-more ts ps t p (omega arith))

kept_by : (b : Bool) (e : Entry) → b ≡ true → e ∷ [] ≡ cond b (e ∷ []) []
kept_by true e h = refl
kept_by false e h = absurd (true≢false (sym h))

-- an entry whose value isn't 0 is kept
pub kept-one : (e : Entry) (z : ℚ) → z ≡ 0ℚ → not (eq_ℚ e.prob z) ≡ true → e ∷ [] ≡ filter has_value (e ∷ [])
kept-one e z is h = kept_by (has_value e) e (sym (ap (λ (w : ℚ). not (eq_ℚ e.prob w)) is) ∙ h)

-- the entries from place i on
next-drop : {A : Type 0} (xs : List A) (i : ℕ) (d : A) → i < length xs → drop i xs ≡ get_or xs i d ∷ drop (suc i) xs
next-drop [] i d h = absurd (omega arith)
next-drop (x ∷ xs) zero d h = refl
next-drop (x ∷ xs) (suc i) d h = next-drop xs i d (omega arith)

pub next-entry : (ts : List ℕ) (ps : List ℚ) (i next t : ℕ) (p : ℚ) → length ts ≡ length ps → i < length ts → next ≡ suc i
    → entries (drop i ts) (drop i ps) ≡ record { target = get_or ts i t; prob = get_or ps i p } ∷ entries (drop next ts) (drop next ps)
next-entry ts ps i next t p e h n =
    rw (next-drop ts i t h, next-drop ps i p (omega arith), n) refl

-- one entry more
pub entry-made : (f : ℚ) (made more row rest all : List Entry) (t : ℕ) (p q : ℚ) → row ≡ record { target = t; prob = p } ∷ rest → Some q ≡ written_mul f p
    → more ≡ made ++ filter has_value (record { target = t; prob = q } ∷ []) → made ++ scaled_entries f row ≡ all → more ++ scaled_entries f rest ≡ all
entry-made f made more row rest all t p q is told so before =
    ap (λ (es : List Entry). es ++ scaled_entries f rest) (so ∙ ap (λ (w : ℚ). made ++ filter has_value (record { target = t; prob = w } ∷ [])) (written_mul-some f p q told))
    ∙ append_assoc made (filter has_value (scaled f (record { target = t; prob = p }) ∷ [])) (scaled_entries f rest)
    ∙ ap (λ (es : List Entry). made ++ es) (sym (filter-append has_value (scaled f (record { target = t; prob = p }) ∷ []) (map (scaled f) rest)))
    ∙ ap (λ (es : List Entry). made ++ scaled_entries f es) (sym is)
    ∙ before

pub fits-next : (f : ℚ) (row rest : List Entry) (b : Bool) (t : ℕ) (p q : ℚ) → row ≡ record { target = t; prob = p } ∷ rest → Some q ≡ written_mul f p → products_fit f row ≡ b
    → products_fit f rest ≡ b
fits-next f row rest b t p q is told before = sym (ap (λ (o : Option ℚ). is_some o && products_fit f rest) (sym told)) ∙ sym (ap (products_fit f) is) ∙ before

pub fits-none : (f : ℚ) (row rest : List Entry) (b : Bool) (t : ℕ) (p : ℚ) → row ≡ record { target = t; prob = p } ∷ rest → None ≡ written_mul f p → products_fit f row ≡ b → false ≡ b
fits-none f row rest b t p is told before = ap (λ (o : Option ℚ). is_some o && products_fit f rest) told ∙ sym (ap (products_fit f) is) ∙ before

-- ---- a whole row

products_by : (b : Bool) (x es : List Entry) → (let o : Option (List Entry) = Some x in o) ≡ cond b (Some es) None → (x ≡ es) × (b ≡ true)
products_by true x es e = (Some_same x es e, refl)
products_by false x es e = cc

pub products-is : (f : ℚ) (x row : List Entry) → (let o : Option (List Entry) = Some x in o) ≡ products f row → (x ≡ scaled_entries f row) × (products_fit f row ≡ true)
products-is f x row e = products_by (products_fit f row) x (scaled_entries f row) e

pub entries-below : (n : ℕ) (ts : List ℕ) (ps : List ℚ) → All (λ t. t < n) ts → All (λ (e : Entry). e.target < n) (entries ts ps)
entries-below n ts ps h = All-from_recursion (λ (e : Entry). e.target < n) (entries ts ps) (by ts ps (recursion_from_All (λ t. t < n) ts h))
  where
    by : (ts : List ℕ) (ps : List ℚ) → AllByRecursion (λ t. t < n) ts → AllByRecursion (λ (e : Entry). e.target < n) (entries ts ps)
    by [] ps h = tt
    by (t ∷ ts) [] h = tt
    by (t ∷ ts) (p ∷ ps) h = (h.0, by ts ps h.1)

module _ (n : ℕ) (f : ℚ) (ts us : List ℕ) (ps qs : List ℚ) (made : List Entry) (row : List Entry) (left one : ℚ) where
  -- what stands in the arena is the discounted row
  pub settled-row : us ≡ ts ++ n ∷ [] → qs ≡ ps ++ left ∷ [] → length ts ≡ length ps → entries ts ps ≡ scaled_entries f row → Some left ≡ written_sub one f → one ≡ 1ℚ
      → entries us qs ≡ discounted_row n f row
  settled-row h k same is told e =
      ap₂ entries h k
      ∙ entries-more ts ps n left same
      ∙ ap₂ (λ (es : List Entry) (x : ℚ). es ++ record { target = n; prob = x } ∷ []) is (written_add-some one (neg_ℚ f) left told ∙ ap (λ (x : ℚ). x -ℚ f) e)

  pub settled-fits : products_fit f row ≡ true → Some left ≡ written_sub one f → one ≡ 1ℚ → row_fits f row ≡ true
  settled-fits fits told e = ap₂ (λ (a b : Bool). a && b) fits (sym (ap (λ (o : Option ℚ). is_some o) told ∙ ap (λ (x : ℚ). is_some (written_sub x f)) e))
