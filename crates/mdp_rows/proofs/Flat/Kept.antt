-- Entries whose values aren't 0.
use Rattle.std.proofs.Common.{◌≡◌, ℕ, suc, ◌+◌, ◌≤◌, ◌<◌, Bool, true, false, cond, not, List, [], ◌∷◌, ◌++◌, map, take, length, get_or, add-one, refl, sym, ap, ◌∙◌}
use Rattle.std.proofs.{Common.{arith, ℤ, pos, unsigned_abs, append_assoc, append-nil, eqb}, lemmas.List.{map-append}, lemmas.Int.{ints}, lemmas.Bool.{ne_eqb}}
use Rattle.std.proofs.{Math.Seq.{take-suc}, lemmas.List.Elements.{filter-append}}
use Rattle.std.specs.{Global.{Vec}, Vec.{vec_capacity, vec_len}, List.{filter}}
use Rattle.mdp_math.specs.Rational.{ℚ}
use Rattle.mdp_spec.specs.{Mdp.{Entry}, Row.{entries}}
use Rattle.mdp_rows.specs.{Draft.{is_zero, kept}, Given.{row_of, kept_given, entry_of}, declared.given.Given.{Given}}

-- both vectors have what is kept of the first i entries, and room for the others
pub record IsAppended (row : List Given) (i : ℕ) (ts : List ℕ) (ps : List ℚ) (to : Vec ℕ) (po : Vec ℚ) : Type 0 where
  pub targets : to.items ≡ ts ++ map (λ g. g.target) (kept_given (take i row))
  pub probs : po.items ≡ ps ++ map (λ g. g.value) (kept_given (take i row))
  pub target_room : vec_len to + length row ≤ vec_capacity to + i
  pub prob_room : vec_len po + length row ≤ vec_capacity po + i

take_more : (row : List Given) (i : ℕ) (g : Given) → i < length row → take (i + 1) row ≡ take i row ++ get_or row i g ∷ []
take_more row i g h = rw add-one (take-suc row i g h)

abs_zero : (z : ℤ) → unsigned_abs z ≡ 0 → z ≡ pos 0
abs_zero z e = omega (arith, ints)

pub num_zero : (x : ℚ) → unsigned_abs x.num ≡ 0 → x.num ≡ pos 0
num_zero x e = abs_zero x.num e

cond_le : {X : Type 0} → (b : Bool) (g : X) (rest : List X) (n : ℕ) → length rest ≤ n → length (cond b (g ∷ rest) rest) ≤ suc n
cond_le true g rest n h = omega arith
cond_le false g rest n h = omega arith

kept_head : (b : Bool) (g : Given) (rest : List Given) (row : List Entry) → row_of rest ≡ row → row_of (cond (not b) (g ∷ rest) rest) ≡ cond (not b) (entry_of g ∷ row) row
kept_head true g rest row e = e
kept_head false g rest row e = ap (λ (r : List Entry). entry_of g ∷ r) e

kept_more : (row : List Given) (i : ℕ) (g : Given) → i < length row
    → kept_given (take (i + 1) row) ≡ kept_given (take i row) ++ cond (not (is_zero (Given.value (get_or row i g)))) (get_or row i g ∷ []) []
kept_more row i g h = ap kept_given (take_more row i g h) ∙ filter-append (λ x. not (is_zero x.value)) (take i row) (get_or row i g ∷ [])

zero_is : (x : ℚ) → x.num ≡ pos 0 → is_zero x ≡ true
zero_is x e = ap (λ (z : ℤ). eqb (unsigned_abs z) 0) e

nonzero_is : (x : ℚ) → (x.num ≡ pos 0 → ⊥) → is_zero x ≡ false
nonzero_is x h = ne_eqb (unsigned_abs x.num) 0 (λ e. h (abs_zero x.num e))

pub kept_skip : (row : List Given) (i : ℕ) (g : Given) → i < length row → g ≡ get_or row i g → g.value.num ≡ pos 0 → kept_given (take (i + 1) row) ≡ kept_given (take i row)
kept_skip row i g h e z =
    kept_more row i g h ∙ ap (λ (x : Given). kept_given (take i row) ++ cond (not (is_zero x.value)) (x ∷ []) []) (sym e)
    ∙ ap (λ (b : Bool). kept_given (take i row) ++ cond (not b) (g ∷ []) []) (zero_is g.value z) ∙ append-nil (kept_given (take i row))

pub kept_one : (row : List Given) (i : ℕ) (g : Given) → i < length row → g ≡ get_or row i g → (g.value.num ≡ pos 0 → ⊥) → kept_given (take (i + 1) row) ≡ kept_given (take i row) ++ g ∷ []
kept_one row i g h e z =
    kept_more row i g h ∙ ap (λ (x : Given). kept_given (take i row) ++ cond (not (is_zero x.value)) (x ∷ []) []) (sym e)
    ∙ ap (λ (b : Bool). kept_given (take i row) ++ cond (not b) (g ∷ []) []) (nonzero_is g.value z)

-- the row of what is kept
pub kept_row : (row : List Given) → row_of (kept_given row) ≡ kept (row_of row)
kept_row [] = refl
kept_row (g ∷ row) = kept_head (is_zero g.value) g (kept_given row) (kept (row_of row)) (kept_row row)

pub entries_of : (row : List Given) → entries (map (λ g. g.target) row) (map (λ g. g.value) row) ≡ row_of row
entries_of [] = refl
entries_of (g ∷ row) = ap (λ (r : List Entry). entry_of g ∷ r) (entries_of row)

pub filter_le : {X : Type 0} → (p : X → Bool) (row : List X) → length (filter p row) ≤ length row
filter_le p [] = omega arith
filter_le p (g ∷ row) = let h = filter_le p row in cond_le (p g) g (filter p row) (length row) h

pub kept-le : (row : List Given) → length (kept_given row) ≤ length row
kept-le row = filter_le (λ g. not (is_zero g.value)) row

-- ---- a step of appending

-- what is appended to a vector
pub record IsPushed {X : Type 0} (old new : Vec X) (x : X) : Type 0 where
  pub items : new.items ≡ old.items ++ x ∷ []
  pub len : vec_len new ≡ vec_len old + 1
  pub capacity : vec_capacity old ≤ vec_capacity new

grown : {X : Type 0} → (f : Given → X) (row : List Given) (i : ℕ) (g : Given) (xs ys zs : List X) → kept_given (take (i + 1) row) ≡ kept_given (take i row) ++ g ∷ []
    → ys ≡ xs ++ map f (kept_given (take i row)) → zs ≡ ys ++ f g ∷ [] → zs ≡ xs ++ map f (kept_given (take (i + 1) row))
grown f row i g xs ys zs k e h =
    h ∙ ap (λ (l : List _). l ++ f g ∷ []) e ∙ append_assoc xs (map f (kept_given (take i row))) (f g ∷ [])
    ∙ ap (λ (l : List _). xs ++ l) (sym (map-append f (kept_given (take i row)) (g ∷ [])) ∙ ap (map f) (sym k))

module _ (row : List Given) (i : ℕ) (g : Given) (ts : List ℕ) (ps : List ℚ) (to tn : Vec ℕ) (po pn : Vec ℚ) (h : i < length row) (e : g ≡ get_or row i g) (so : IsAppended row i ts ps to po) where
  pub appended_one : (g.value.num ≡ pos 0 → ⊥) → IsPushed to tn g.target → IsPushed po pn g.value → IsAppended row (i + 1) ts ps tn pn
  appended_one z t p =
      let k = kept_one row i g h e z in
      record {
        targets = grown (λ x. x.target) row i g ts to.items tn.items k so.targets t.items;
        probs = grown (λ x. x.value) row i g ps po.items pn.items k so.probs p.items;
        target_room = omega (arith, t.len, t.capacity, so.target_room);
        prob_room = omega (arith, p.len, p.capacity, so.prob_room);
      }

  pub appended_skip : g.value.num ≡ pos 0 → IsAppended row (i + 1) ts ps to po
  appended_skip z =
      let k = kept_skip row i g h e z in
      record {
        targets = so.targets ∙ ap (λ (l : List Given). ts ++ map (λ x. x.target) l) (sym k);
        probs = so.probs ∙ ap (λ (l : List Given). ps ++ map (λ x. x.value) l) (sym k);
        target_room = omega (arith, so.target_room);
        prob_room = omega (arith, so.prob_room);
      }
