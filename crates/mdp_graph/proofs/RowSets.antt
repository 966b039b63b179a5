-- Lists with a test, and rows that enter a set of states or stay in it.
use Rattle.std.proofs.Common.{◌≡◌, inl, inr, ℕ, suc, zero, ◌<◌, Bool, true, false, ◌||◌, ◌&&◌, ◌==◌, List, [], ◌∷◌, length, get_or, replicate, refl, sym, ap, ◌∙◌, arith, eq-eqb, pos}
use Rattle.std.proofs.{lemmas.Bool.{false≢true, eqb-true, ne_eqb, cases_Bool, cases_eq}, lemmas.List.{get_or-replicate}}
use Rattle.std.specs.List.{list_any, list_all, All}
use Rattle.mdp_math.specs.Rational.{of_int}
use Rattle.mdp_math.proofs.Booleans.{or-true, and-false, and-left, and-right, and-both, or-left_false, or-right_false}
use Rattle.mdp_spec.specs.Mdp.{Entry}
use Rattle.mdp_rows.specs.Preds.{leads_to}
use Rattle.mdp_graph.specs.Sets.{marked, can_enter, stays_in}

-- ---- lists with a test

pub list_any-at : {X : Type 0} (p : X → Bool) (xs : List X) (d : X) → list_any p xs ≡ true → (i : ℕ) × (i < length xs) × (p (get_or xs i d) ≡ true)
list_any-at p [] d e = absurd (false≢true e)
list_any-at p (x ∷ xs) d e = elim (cases_Bool (p x)) [
  | inl here ↦ (0, omega arith, here)
  | inr not_here ↦ (let w = list_any-at p xs d (sym (ap (λ b. b || list_any p xs) not_here) ∙ e) in (suc w.0, omega (arith, w.1), w.2))
]

pub list_any-by : {X : Type 0} (p : X → Bool) (xs : List X) (d : X) (i : ℕ) → i < length xs → p (get_or xs i d) ≡ true → list_any p xs ≡ true
list_any-by p [] d i h e = absurd (omega arith)
list_any-by p (x ∷ xs) d zero h e = ap (λ b. b || list_any p xs) e
list_any-by p (x ∷ xs) d (suc i) h e = ap (λ b. p x || b) (list_any-by p xs d i (omega arith) e) ∙ or-true (p x)

pub list_all-at : {X : Type 0} (p : X → Bool) (xs : List X) (d : X) → list_all p xs ≡ true → (i : ℕ) → i < length xs → p (get_or xs i d) ≡ true
list_all-at p [] d e i h = absurd (omega arith)
list_all-at p (x ∷ xs) d e zero h = and-left (p x) (list_all p xs) e
list_all-at p (x ∷ xs) d e (suc i) h = list_all-at p xs d (and-right (p x) (list_all p xs) e) i (omega arith)

-- tests that hold of each element
pub list_all-by : {X : Type 0} (p : X → Bool) (xs : List X) (d : X) → ((i : ℕ) → i < length xs → p (get_or xs i d) ≡ true) → list_all p xs ≡ true
list_all-by p [] d e = refl
list_all-by p (x ∷ xs) d e = ap (λ b. b && list_all p xs) (e 0 (omega arith)) ∙ list_all-by p xs d (λ i h. e (suc i) (omega (arith, h)))

pub list_all-false_by : {X : Type 0} (p : X → Bool) (xs : List X) (d : X) (i : ℕ) → i < length xs → p (get_or xs i d) ≡ false → list_all p xs ≡ false
list_all-false_by p [] d i h e = absurd (omega arith)
list_all-false_by p (x ∷ xs) d zero h e = ap (λ b. b && list_all p xs) e
list_all-false_by p (x ∷ xs) d (suc i) h e = ap (λ b. p x && b) (list_all-false_by p xs d i (omega arith) e) ∙ and-false (p x)

pub list_all-same : {X : Type 0} (p q : X → Bool) (xs : List X) (d : X) → ((i : ℕ) → i < length xs → p (get_or xs i d) ≡ q (get_or xs i d)) → list_all p xs ≡ list_all q xs
list_all-same p q [] d e = refl
list_all-same p q (x ∷ xs) d e = ap (λ b. b && list_all p xs) (e 0 (omega arith)) ∙ ap (λ b. q x && b) (list_all-same p q xs d (λ i h. e (suc i) (omega (arith, h))))

pub list_all-fails : {X : Type 0} (p : X → Bool) (xs : List X) (d : X) → list_all p xs ≡ false → (i : ℕ) × (i < length xs) × (p (get_or xs i d) ≡ false)
list_all-fails p [] d e = absurd (false≢true (sym e))
list_all-fails p (x ∷ xs) d e = elim (cases_Bool (p x)) [
  | inl here ↦ (let w = list_all-fails p xs d (sym (ap (λ b. b && list_all p xs) here) ∙ e) in (suc w.0, omega (arith, w.1), w.2))
  | inr not_here ↦ (0, omega arith, not_here)
]

-- ---- rows that enter a set

abbrev pub any_entry : Entry
any_entry = record { target = 0; prob = of_int (pos 0) }

-- a set is entered by an entry to one of its states
pub enters-at : (set : ℕ → Bool) (row : List Entry) (n : ℕ) → All (λ x. x.target < n) row → can_enter set row ≡ true → (t : ℕ) × (t < n) × (leads_to t row ≡ true) × (set t ≡ true)
enters-at set row n range e =
    let w = list_any-at (λ (x : Entry). set x.target) row any_entry e in
    let t : ℕ = Entry.target (get_or row w.0 any_entry) in
    (t, range w.0 any_entry w.1, list_any-by (λ (x : Entry). x.target == t) row any_entry w.0 w.1 (eq-eqb t t refl), w.2)

pub enters-by : (set : ℕ → Bool) (row : List Entry) (t : ℕ) → leads_to t row ≡ true → set t ≡ true → can_enter set row ≡ true
enters-by set row t e h =
    let w = list_any-at (λ (x : Entry). x.target == t) row any_entry e in
    list_any-by (λ (x : Entry). set x.target) row any_entry w.0 w.1 (ap set (eqb-true (Entry.target (get_or row w.0 any_entry)) t w.2) ∙ h)

pub enters-more : (p q : ℕ → Bool) → ((t : ℕ) → p t ≡ true → q t ≡ true) → (row : List Entry) → can_enter p row ≡ true → can_enter q row ≡ true
enters-more p q more [] e = absurd (false≢true e)
enters-more p q more (x ∷ row) e = elim (cases_Bool (p x.target)) [
  | inl here ↦ ap (λ b. b || can_enter q row) (more x.target here)
  | inr other ↦ ap (λ b. q x.target || b) (enters-more p q more row (sym (ap (λ b. b || can_enter p row) other) ∙ e)) ∙ or-true (q x.target)
]

pub enters-same : (p q : ℕ → Bool) (row : List Entry) (n : ℕ) → All (λ x. x.target < n) row → ((t : ℕ) → t < n → p t ≡ q t) → can_enter p row ≡ can_enter q row
enters-same p q [] n range same = refl
enters-same p q (x ∷ row) n range same =
    ap (λ b. b || can_enter p row) (same x.target (range 0 x (omega arith))) ∙ ap (λ b. q x.target || b) (enters-same p q row n (λ k d l. range (suc k) d (omega arith)) same)

pub enters-never : (row : List Entry) (p : ℕ → Bool) → ((t : ℕ) → p t ≡ false) → can_enter p row ≡ false
enters-never [] p none = refl
enters-never (x ∷ row) p none = ap (λ b. b || can_enter p row) (none x.target) ∙ enters-never row p none

-- ---- rows that stay in a set

pub stays-at : (q : ℕ → Bool) (row : List Entry) (t : ℕ) → stays_in q row ≡ true → leads_to t row ≡ true → q t ≡ true
stays-at q [] t e l = absurd (false≢true l)
stays-at q (x ∷ row) t e l = elim (cases_eq x.target t) [
  | inl same ↦ ap q (sym same) ∙ and-left (q x.target) (stays_in q row) e
  | inr other ↦ stays-at q row t (and-right (q x.target) (stays_in q row) e) (sym (ap (λ b. b || leads_to t row) (ne_eqb x.target t other)) ∙ l)
]

pub stays-more : (p q : ℕ → Bool) (row : List Entry) (n : ℕ) → All (λ x. x.target < n) row → ((t : ℕ) → t < n → p t ≡ true → q t ≡ true) → stays_in p row ≡ true → stays_in q row ≡ true
stays-more p q [] n range more e = refl
stays-more p q (x ∷ row) n range more e =
    and-both (q x.target) (stays_in q row) (more x.target (range 0 x (omega arith)) (and-left (p x.target) (stays_in p row) e))
    (stays-more p q row n (λ k d l. range (suc k) d (omega arith)) more (and-right (p x.target) (stays_in p row) e))

pub stays-outside : (p q : ℕ → Bool) (row : List Entry) (n : ℕ) → All (λ x. x.target < n) row
    → ((t : ℕ) → t < n → p t ≡ false → q t ≡ true) → can_enter p row ≡ false → stays_in q row ≡ true
stays-outside p q [] n range out e = refl
stays-outside p q (x ∷ row) n range out e =
    and-both (q x.target) (stays_in q row) (out x.target (range 0 x (omega arith)) (or-left_false (p x.target) (can_enter p row) e))
    (stays-outside p q row n (λ k d l. range (suc k) d (omega arith)) out (or-right_false (p x.target) (can_enter p row) e))

pub stays-fails : (q : ℕ → Bool) (row : List Entry) (n : ℕ) → All (λ x. x.target < n) row → stays_in q row ≡ false → (t : ℕ) × (t < n) × (leads_to t row ≡ true) × (q t ≡ false)
stays-fails q [] n range e = absurd (false≢true (sym e))
stays-fails q (x ∷ row) n range e = elim (cases_Bool (q x.target)) [
  | inl here ↦
      (let w = stays-fails q row n (λ k d l. range (suc k) d (omega arith)) (sym (ap (λ b. b && stays_in q row) here) ∙ e) in
      (w.0, w.1, ap (λ b. (x.target == w.0) || b) w.2 ∙ or-true (x.target == w.0), w.3))
  | inr not_here ↦ (x.target, range 0 x (omega arith), ap (λ b. b || leads_to x.target row) (eq-eqb x.target x.target refl), not_here)
]

-- where all states are inside, each row stays inside
pub stays-everywhere : (n : ℕ) (row : List Entry) → All (λ x. x.target < n) row → stays_in (marked (replicate n true)) row ≡ true
stays-everywhere n [] range = refl
stays-everywhere n (x ∷ row) range =
    ap (λ b. b && stays_in (marked (replicate n true)) row) (get_or-replicate n x.target true false (range 0 x (omega arith))) ∙ stays-everywhere n row (λ k d l. range (suc k) d (omega arith))
