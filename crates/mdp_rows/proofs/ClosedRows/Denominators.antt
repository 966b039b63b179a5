-- Least common denominators.
use Rattle.std.proofs.Common.{◌≡◌, ℕ, zero, suc, ◌+◌, ◌<◌, ◌≤◌, Bool, true, false, if◌then◌else◌, ltb, lt-ltb, le-ltb, List, [], ◌∷◌, length, drop}
use Rattle.std.proofs.{Common.{get_or, add-one, drop-cons, Option, Some, None, refl, sym, ap, ap₂, ◌∙◌, arith}, Math.Seq.{drop-length}}
use Rattle.std.specs.{Int.{◌∣◌}, List.{AllByRecursion}, Option.{is_some}}
use Rattle.mdp_math.proofs.{Laws.{den-pos}, Lcm.{lcm-left, lcm-right, lcm-pos}}
use Rattle.mdp_spec.proofs.Units.{row_den-pos}
use Rattle.mdp_spec.specs.{Mdp.{Entry}, Unit.{lcm, row_den}}
use Rattle.mdp_num.specs.Numeral.{limit}
use Rattle.mdp_rows.specs.{Given.{row_of}, declared.given.Given.{Given}}
use borrow.Author.Tests.{ltb-false, ltb-true}
use native.Mathlib.Nat.{le_of_dvd, dvd_trans, dvd_refl}

-- a multiple, where it is within the limit
abbrev pub within_limit : ℕ → Option ℕ
within_limit m = if ltb limit m then None else Some m

pub past_limit : (m : ℕ) → limit < m → None ≡ within_limit m
past_limit m h = ap (λ (b : Bool). if b then None else Some m) (sym (lt-ltb limit m h))

pub in_limit : (m : ℕ) → m ≤ limit → Some m ≡ within_limit m
in_limit m h = ap (λ (b : Bool). if b then None else Some m) (sym (le-ltb limit m h))

some_by : (b : Bool) (m n : ℕ) → (b ≡ false → m ≤ limit) → Some n ≡ (if b then None else Some m) → (n ≡ m) × (m ≤ limit)
some_by true m n h e = absurd cc
some_by false m n h e = (cc, h refl)

none_by : (b : Bool) (m : ℕ) → (b ≡ true → limit < m) → None ≡ (if b then None else Some m) → limit < m
none_by true m h e = h refl
none_by false m h e = absurd cc

pub within-none : (m : ℕ) → None ≡ within_limit m → limit < m
within-none m e = none_by (ltb limit m) m (λ t. ltb-true limit m t) e

pub within-some : (m n : ℕ) → Some n ≡ within_limit m → (n ≡ m) × (m ≤ limit)
within-some m n e = some_by (ltb limit m) m n (λ t. ltb-false limit m t) e

-- the same by the test alone
some_limit : (b : Bool) (m : ℕ) (o : Option ℕ) → (b ≡ false → m ≤ limit) → o ≡ (if b then None else Some m) → is_some o ≡ true → m ≤ limit
some_limit true m o h e s = absurd (let x = sym (ap is_some e) ∙ s in cc)
some_limit false m o h e s = h refl

none_limit : (b : Bool) (m : ℕ) (o : Option ℕ) → (b ≡ true → limit < m) → o ≡ (if b then None else Some m) → is_some o ≡ false → limit < m
none_limit true m o h e s = h refl
none_limit false m o h e s = absurd (let x = sym (ap is_some e) ∙ s in cc)

pub some_within : (m : ℕ) (o : Option ℕ) → o ≡ within_limit m → is_some o ≡ true → m ≤ limit
some_within m o e s = some_limit (ltb limit m) m o (λ t. ltb-false limit m t) e s

pub none_within : (m : ℕ) (o : Option ℕ) → o ≡ within_limit m → is_some o ≡ false → limit < m
none_within m o e s = none_limit (ltb limit m) m o (λ t. ltb-true limit m t) e s

-- ---- the least common denominator of a row

-- each value's denominator divides what it divides
dens-divide : (row : List Entry) (k : ℕ) → row_den row ∣ k → AllByRecursion (λ x. x.prob.den ∣ k) row
dens-divide [] k d = tt
dens-divide (x ∷ row) k d = (dvd_trans _ (lcm-right (row_den row) x.prob.den) d, dens-divide row k (dvd_trans _ (lcm-left (row_den row) x.prob.den) d))

pub row_den-all : (row : List Entry) → AllByRecursion (λ x. x.prob.den ∣ row_den row) row
row_den-all row = dens-divide row (row_den row) (dvd_refl (row_den row))

-- what is left of a row has a denominator that divides the whole row's
rest-divides : (row : List Given) (i : ℕ) → row_den (row_of (drop i row)) ∣ row_den (row_of row)
rest-divides row zero = dvd_refl (row_den (row_of row))
rest-divides [] (suc i) = dvd_refl 1
rest-divides (g ∷ row) (suc i) = dvd_trans (row_den (row_of (drop i row))) (rest-divides row i) (lcm-left (row_den (row_of row)) g.value.den)

-- ---- the denominator of what stands from place i on

pub record IsDenFrom (row : List Given) (i d : ℕ) : Type 0 where
  pub is : d ≡ row_den (row_of (drop i row))
  pub some : 0 < d
  pub within : d ≤ limit

drop_all : (row : List Given) (i : ℕ) → i ≡ length row → drop i row ≡ []
drop_all row i e = rw e (drop-length row)

drop_at : (row : List Given) (i : ℕ) (g : Given) → i < length row → drop i row ≡ get_or row i g ∷ drop (i + 1) row
drop_at row i g h = rw add-one (drop-cons row i g h)

den_step : (row : List Given) (i d : ℕ) (g : Given) → i < length row → g ≡ get_or row i g → IsDenFrom row (i + 1) d → lcm d g.value.den ≡ row_den (row_of (drop i row))
den_step row i d g h e so =
    ap₂ (λ (x : ℕ) (y : Given). lcm x y.value.den) so.is e
    ∙ ap (λ (r : List Given). row_den (row_of r)) (sym (drop_at row i g h))

pub den_more : (row : List Given) (i d m : ℕ) (g : Given) → i < length row → g ≡ get_or row i g → IsDenFrom row (i + 1) d → Some m ≡ within_limit (lcm d g.value.den) → IsDenFrom row i m
den_more row i d m g h e so w =
    let f = within-some (lcm d g.value.den) m w in
    record {
      is = f.0 ∙ den_step row i d g h e so;
      some = rw f.0 (lcm-pos d g.value.den so.some (den-pos g.value));
      within = rw f.0 f.1;
    }

pub den_wide : (row : List Given) (i d : ℕ) (g : Given) → i < length row → g ≡ get_or row i g → IsDenFrom row (i + 1) d → None ≡ within_limit (lcm d g.value.den)
    → None ≡ within_limit (row_den (row_of row))
den_wide row i d g h e so w =
    past_limit (row_den (row_of row))
    (let k : limit < lcm d g.value.den = within-none (lcm d g.value.den) w in
    let s = den_step row i d g h e so in
    let l : row_den (row_of (drop i row)) ≤ row_den (row_of row) = le_of_dvd (row_den-pos (row_of row)) (rest-divides row i) in
    omega arith)
