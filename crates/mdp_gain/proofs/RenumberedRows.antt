-- The entries of equations under other numbers, in the order of the old ones: each operation on them gives the same.
use Rattle.std.proofs.Common.{◌≡◌, ℕ, ◌<◌, ◌≤◌, ◌⊎◌, inl, inr, Bool, true, false, List, [], ◌∷◌, length, map}
use Rattle.std.proofs.{Common.{get_or, refl, sym, ◌∙◌, ap, ap₂, arith, eqb, nat_le, Option, Some, None, if◌then◌else◌, pos}, lemmas.Bool.{ne_eqb}}
use Rattle.std.specs.Option.{option_map}
use Rattle.mdp_math.specs.{Rational.{ℚ, of_int}, Written.{written_add, written_mul, ◌>>=◌}}
use Rattle.mdp_math.proofs.Numbers.{le_or, eqb-same}
use Rattle.mdp_num.specs.Written.{written_div}
use Rattle.mdp_spec.specs.{Mdp.{Entry, value_at}, Written.{written_sum}}
use Rattle.mdp_elim.specs.Entries.{entry_to, without, each, divided_entry, plus_entry, plus_row}
use Rattle.mdp_elim.proofs.Targets.{Targets, targets-plus_entry}
use Rattle.mdp_gain.specs.Renumbering.{renamed, Ascend}

-- ---- a step that may fail, of what was mapped and of what was not

-- a step after a mapped one, where it gives the mapped result
pub after-map : {A B C D : Type 0} (h : A → C) (k : B → D) (o : Option A) (f : A → Option B) (g : C → Option D)
    → ((x : A) → o ≡ Some x → g (h x) ≡ option_map k (f x)) → (option_map h o >>= g) ≡ option_map k (o >>= f)
after-map h k None f g same = refl
after-map h k (Some x) f g same = same x refl

pub same-map : {A B D : Type 0} (k : B → D) (o : Option A) (f : A → Option B) (g : A → Option D)
    → ((x : A) → g x ≡ option_map k (f x)) → (o >>= g) ≡ option_map k (o >>= f)
same-map k None f g same = refl
same-map k (Some x) f g same = same x

same-then : {A B : Type 0} (o : Option A) (f g : A → Option B) → ((x : A) → f x ≡ g x) → (o >>= f) ≡ (o >>= g)
same-then None f g same = refl
same-then (Some x) f g same = same x

module _ (states : List ℕ) where
  -- the state at this place
  abbrev pub state : ℕ → ℕ
  state j = get_or states j 0

  abbrev pub IsPlace : ℕ → Type 0
  IsPlace j = j < length states

  -- a row in the new numbers
  abbrev pub renamed_row : List Entry → List Entry
  renamed_row row = map (renamed states) row

  -- entries are divided as they were
  divided_entry-renamed : (u : ℚ) (x : Entry) → divided_entry u (renamed states x) ≡ option_map (renamed states) (divided_entry u x)
  divided_entry-renamed u x = same-map (renamed states) (written_div x.prob u) _ _ (λ q. refl)

  pub divided_row-renamed : (u : ℚ) (row : List Entry) → each (divided_entry u) (renamed_row row) ≡ option_map renamed_row (each (divided_entry u) row)
  divided_row-renamed u [] = refl
  divided_row-renamed u (x ∷ row) =
      ap (λ o. o >>= (λ y. each (divided_entry u) (renamed_row row) >>= (λ ys. Some (y ∷ ys)))) (divided_entry-renamed u x)
      ∙ after-map (renamed states) renamed_row (divided_entry u x) _ _ (λ y e.
      ap (λ o. o >>= (λ ys. Some (renamed states y ∷ ys))) (divided_row-renamed u row)
      ∙ after-map renamed_row renamed_row (each (divided_entry u) row) _ _ (λ ys e. refl))

  -- the values at the states are those at their places
  abbrev pub HaveSame : List ℚ → List ℚ → Type 0
  HaveSame xs ys = (j : ℕ) → IsPlace j → value_at ys (state j) ≡ value_at xs j

  pub written_sum-renamed : (xs ys : List ℚ) (acc : ℚ) (row : List Entry) → HaveSame xs ys → Targets IsPlace row
      → written_sum ys acc (renamed_row row) ≡ written_sum xs acc row
  written_sum-renamed xs ys acc [] same inside = refl
  written_sum-renamed xs ys acc (x ∷ row) same inside =
      ap (λ v. written_mul x.prob v >>= (λ term. written_add acc term >>= (λ sum. written_sum ys sum (renamed_row row)))) (same x.target inside.0)
      ∙ same-then (written_mul x.prob (value_at xs x.target)) _ _ (λ term.
      same-then (written_add acc term) _ _ (λ sum. written_sum-renamed xs ys sum row same inside.1))

  -- a row with no entry to a number that isn't a state's
  unlisted_by : (s : ℕ) (x : Entry) (row : List Entry) (b c : Bool) → c ≡ false → entry_to s row ≡ None
      → (if b then (if c then Some x.prob else None) else entry_to s row) ≡ None
  unlisted_by s x row true c e h = ap (λ (c : Bool). if c then Some x.prob else None) e
  unlisted_by s x row false c e h = h

  pub entry_to-unlisted : (s : ℕ) (row : List Entry) → ((j : ℕ) → IsPlace j → state j ≡ s → ⊥) → Targets IsPlace row → entry_to s (renamed_row row) ≡ None
  entry_to-unlisted s [] other inside = refl
  entry_to-unlisted s (x ∷ row) other inside =
      unlisted_by s (renamed states x) (renamed_row row) (nat_le s (state x.target)) (eqb (state x.target) s)
      (ne_eqb (state x.target) s (other x.target inside.0)) (entry_to-unlisted s row other inside.1)

  module _ (ascend : Ascend states) where
    -- the new numbers have the order of the old ones
    pub state_le : (j k : ℕ) → IsPlace k → j ≤ k → state j ≤ state k
    state_le j k i l = elim (le_or k j) as (λ _. state j ≤ state k) [
      | inl m ↦ let e : j ≡ k = omega arith in rw e (omega arith)
      | inr m ↦ let h = ascend j k m i in omega (arith, h)
    ]

    le_by : (j k : ℕ) → IsPlace j → IsPlace k → (j ≤ k) ⊎ (k < j) → nat_le (state j) (state k) ≡ nat_le j k
    le_by j k i l (inl h) = let m = state_le j k l h in grind arith
    le_by j k i l (inr h) = let m = ascend k j h i in grind arith

    le-renamed : (j k : ℕ) → IsPlace j → IsPlace k → nat_le (state j) (state k) ≡ nat_le j k
    le-renamed j k i l = le_by j k i l (le_or j k)

    eqb_by : (j k : ℕ) → IsPlace j → IsPlace k → (j ≤ k) ⊎ (k < j) → (k ≤ j) ⊎ (j < k) → eqb (state j) (state k) ≡ eqb j k
    eqb_by j k i l (inr h) o = let m = ascend k j h i in grind arith
    eqb_by j k i l (inl h) (inr o) = let m = ascend j k o l in grind arith
    eqb_by j k i l (inl h) (inl o) = let e : j ≡ k = omega arith in rw e (eqb-same (state k) ∙ sym (eqb-same k))

    eqb-renamed : (j k : ℕ) → IsPlace j → IsPlace k → eqb (state j) (state k) ≡ eqb j k
    eqb-renamed j k i l = eqb_by j k i l (le_or j k) (le_or k j)

    -- the entry to a state, and the others
    pub entry_to-renamed : (v : ℕ) (row : List Entry) → IsPlace v → Targets IsPlace row → entry_to (state v) (renamed_row row) ≡ entry_to v row
    entry_to-renamed v [] i inside = refl
    entry_to-renamed v (x ∷ row) i inside =
        ap₂ (λ (b c : Bool). if b then (if c then Some x.prob else None) else entry_to (state v) (renamed_row row))
        (le-renamed v x.target i inside.0) (eqb-renamed x.target v inside.0 i)
        ∙ ap (λ o. if nat_le v x.target then (if eqb x.target v then Some x.prob else None) else o) (entry_to-renamed v row i inside.1)

    without_by : (x : Entry) (row rest : List Entry) (b c : Bool)
        → (if b then (if c then renamed_row row else renamed states x ∷ renamed_row row) else renamed states x ∷ renamed_row rest)
        ≡ renamed_row (if b then (if c then row else x ∷ row) else x ∷ rest)
    without_by x row rest true true = refl
    without_by x row rest true false = refl
    without_by x row rest false c = refl

    pub without-renamed : (v : ℕ) (row : List Entry) → IsPlace v → Targets IsPlace row → without (state v) (renamed_row row) ≡ renamed_row (without v row)
    without-renamed v [] i inside = refl
    without-renamed v (x ∷ row) i inside =
        ap₂ (λ (b c : Bool).
        if b then (if c then renamed_row row else renamed states x ∷ renamed_row row) else renamed states x ∷ without (state v) (renamed_row row))
        (le-renamed v x.target i inside.0) (eqb-renamed x.target v inside.0 i)
        ∙ ap (λ rest.
        if nat_le v x.target then (if eqb x.target v then renamed_row row else renamed states x ∷ renamed_row row) else renamed states x ∷ rest)
        (without-renamed v row i inside.1)
        ∙ without_by x row (without v row) (nat_le v x.target) (eqb x.target v)

    -- what is added to the entry to v, by where the first entry leads
    abbrev sum_at : Bool → Bool → ℕ → ℚ → Entry → List Entry → Option (List Entry) → Option (List Entry)
    sum_at b c v x y row more =
        if b
        then (if c then (written_add y.prob x >>= (λ sum. Some ((let z : Entry = record { target = v; prob = sum } in z) ∷ row))) else
        (written_add (of_int (pos 0)) x >>= (λ sum. Some ((let z : Entry = record { target = v; prob = sum } in z) ∷ y ∷ row))))
        else (more >>= (λ rest. Some (y ∷ rest)))

    sum_by : (v : ℕ) (x : ℚ) (y : Entry) (row : List Entry) (more : Option (List Entry)) (b c : Bool)
        → sum_at b c (state v) x (renamed states y) (renamed_row row) (option_map renamed_row more) ≡ option_map renamed_row (sum_at b c v x y row more)
    sum_by v x y row more true true = same-map renamed_row (written_add y.prob x) _ _ (λ s. refl)
    sum_by v x y row more true false = same-map renamed_row (written_add (of_int (pos 0)) x) _ _ (λ s. refl)
    sum_by v x y row more false c = after-map renamed_row renamed_row more _ _ (λ rest e. refl)

    plus_entry-renamed : (v : ℕ) (x : ℚ) (row : List Entry) → IsPlace v → Targets IsPlace row
        → plus_entry (state v) x (renamed_row row) ≡ option_map renamed_row (plus_entry v x row)
    plus_entry-renamed v x [] i inside = same-map renamed_row (written_add (of_int (pos 0)) x) _ _ (λ s. refl)
    plus_entry-renamed v x (y ∷ row) i inside =
        ap₂ (λ (b c : Bool). sum_at b c (state v) x (renamed states y) (renamed_row row) (plus_entry (state v) x (renamed_row row)))
        (le-renamed v y.target i inside.0) (eqb-renamed y.target v inside.0 i)
        ∙ ap (sum_at (nat_le v y.target) (eqb y.target v) (state v) x (renamed states y) (renamed_row row)) (plus_entry-renamed v x row i inside.1)
        ∙ sum_by v x y row (plus_entry v x row) (nat_le v y.target) (eqb y.target v)

    -- a row that is added to another
    pub plus_row-renamed : (w : ℚ) (source row : List Entry) → Targets IsPlace source → Targets IsPlace row
        → plus_row w (renamed_row source) (renamed_row row) ≡ option_map renamed_row (plus_row w source row)
    plus_row-renamed w [] row from inside = refl
    plus_row-renamed w (x ∷ source) row from inside =
        same-map renamed_row (written_mul w x.prob) _ _ (λ t.
        ap (λ o. o >>= plus_row w (renamed_row source)) (plus_entry-renamed x.target t row from.0 inside)
        ∙ after-map renamed_row renamed_row (plus_entry x.target t row) (plus_row w source) (plus_row w (renamed_row source))
        (λ r e. plus_row-renamed w source r from.1 (targets-plus_entry IsPlace x.target t row r from.0 inside e)))
