-- A test of the targets of a row that two lists spell.
use Rattle.std.proofs.Common.{◌≡◌, ℕ, Bool, ◌||◌, ◌&&◌, List, [], ◌∷◌, length, refl, sym, ap, ◌∙◌, arith}
use Rattle.std.specs.List.{list_all, list_any}
use Rattle.mdp_math.specs.Rational.{ℚ}
use Rattle.mdp_spec.specs.{Mdp.{Entry}, Row.{entries}}

pub list_any-entries : (p : ℕ → Bool) (ts : List ℕ) (ps : List ℚ) → length ts ≡ length ps → list_any (λ (y : Entry). p y.target) (entries ts ps) ≡ list_any p ts
list_any-entries p [] ps e = refl
list_any-entries p (t ∷ ts) [] e = absurd (omega arith)
list_any-entries p (t ∷ ts) (q ∷ ps) e = ap (λ (b : Bool). p t || b) (list_any-entries p ts ps (omega arith))

pub list_all-entries : (p : ℕ → Bool) (ts : List ℕ) (ps : List ℚ) → length ts ≡ length ps → list_all (λ (y : Entry). p y.target) (entries ts ps) ≡ list_all p ts
list_all-entries p [] ps e = refl
list_all-entries p (t ∷ ts) [] e = absurd (omega arith)
list_all-entries p (t ∷ ts) (q ∷ ps) e = ap (λ (b : Bool). p t && b) (list_all-entries p ts ps (omega arith))

-- the same of a row that the lists spell
pub any_of_row : (p : ℕ → Bool) (ts : List ℕ) (ps : List ℚ) (row : List Entry) → length ts ≡ length ps → entries ts ps ≡ row → list_any p ts ≡ list_any (λ (y : Entry). p y.target) row
any_of_row p ts ps row e spells = sym (list_any-entries p ts ps e) ∙ ap (λ (row : List Entry). list_any (λ (y : Entry). p y.target) row) spells

pub all_of_row : (p : ℕ → Bool) (ts : List ℕ) (ps : List ℚ) (row : List Entry) → length ts ≡ length ps → entries ts ps ≡ row → list_all p ts ≡ list_all (λ (y : Entry). p y.target) row
all_of_row p ts ps row e spells = sym (list_all-entries p ts ps e) ∙ ap (λ (row : List Entry). list_all (λ (y : Entry). p y.target) row) spells
