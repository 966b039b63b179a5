-- What a row closes as.
pub mod Denominators
pub mod Parts
pub mod Quotients
pub mod Scaling
pub mod Within
use Rattle.std.proofs.Common.{◌≡◌, ◌≢◌, ℕ, ◌+◌, ◌*◌, ◌/◌, ◌<◌, ◌≤◌, Bool, true, false, ◌&&◌, T}
use Rattle.std.proofs.{Common.{lt-ltb, le-ltb, eqb, eq-eqb, List, pos, refl, sym, ap, subst, ◌∙◌, arith, if◌then◌else◌}, lemmas.Bool.{ne_eqb}}
use Rattle.std.proofs.Math.Nat.{div-mul-le_self, lt-div-mul-add}
use Rattle.std.specs.{Prelude.{Result, Ok, Err}, Int.{abs_diff}}
use Rattle.mdp_math.specs.Rational.{ℚ, ratio, le_ℚ, ◌≤ℚ◌}
use Rattle.mdp_math.proofs.Order.{ratio-le, le-ratio}
use Rattle.mdp_num.specs.Numeral.{limit}
use Rattle.mdp_spec.specs.{Mdp.{Entry}, Unit.{row_den}}
use Rattle.mdp_rows.specs.{Draft.{is_one, is_near_one, kept, row_total, scaled_row, within_limit, ruled_row, closed_row, ◌>>=◌}, Given.{row_of}, Parts.{parts}}
use Rattle.mdp_rows.specs.{declared.given.Given.{Given}, declared.error.RowsError.{RowsError}, declared.error.RowsError.TheVariants.{RowSum, RowWide}}
use Rattle.mdp_rows.specs.{declared.rule.RowRule.{RowRule}, declared.rule.RowRule.TheVariants.{Exact, Scaled}}
use Rattle.mdp_rows.proofs.{ClosedRows.Parts.{is_one-parts}, ClosedRows.Scaling.{total_is}}
use Rattle.mdp_spec.proofs.Units.{row_den-pos}

-- ---- a row that is too wide, or not

limited : Bool → ℕ → ℕ → List Entry → Result (List Entry) RowsError
limited b s c row = if b then Err (RowWide s c) else Ok row

pub too_wide : (s c : ℕ) (row : List Entry) → limit < row_den row → within_limit s c row ≡ Err (RowWide s c)
unfolding limited
too_wide s c row h = ap (λ (b : Bool). limited b s c row) (lt-ltb limit (row_den row) h)

pub not_wide : (s c : ℕ) (row : List Entry) → row_den row ≤ limit → within_limit s c row ≡ Ok row
unfolding limited
not_wide s c row h = ap (λ (b : Bool). limited b s c row) (le-ltb limit (row_den row) h)

abbrev pub ruled_from : RowRule → ℕ → ℕ → Result (List Entry) RowsError → Result (List Entry) RowsError
ruled_from rule s c r = r >>= λ given. ruled_row rule s c given >>= λ values. Ok (kept values)

abbrev pub kept_from : Result (List Entry) RowsError → Result (List Entry) RowsError
kept_from r = r >>= λ values. Ok (kept values)

module _ (s c : ℕ) (row : List Entry) where
  pub closed-wide : (rule : RowRule) → limit < row_den row → closed_row rule s c row ≡ Err (RowWide s c)
  closed-wide rule h = ap (ruled_from rule s c) (too_wide s c row h)

  closed-ruled : (rule : RowRule) (r : Result (List Entry) RowsError) → row_den row ≤ limit → ruled_row rule s c row ≡ r → closed_row rule s c row ≡ kept_from r
  closed-ruled rule r h e = ap (ruled_from rule s c) (not_wide s c row h) ∙ ap kept_from e

  pub exact-one : row_den row ≤ limit → is_one (row_total row) ≡ true → closed_row Exact s c row ≡ Ok (kept row)
  exact-one h e = closed-ruled Exact (Ok row) h (ap (λ (b : Bool). if b then Ok row else Err (RowSum s c)) e)

  pub exact-other : row_den row ≤ limit → is_one (row_total row) ≡ false → closed_row Exact s c row ≡ Err (RowSum s c)
  exact-other h e = closed-ruled Exact (Err (RowSum s c)) h (ap (λ (b : Bool). if b then Ok row else Err (RowSum s c)) e)

  pub scaled-far : row_den row ≤ limit → is_near_one (row_total row) ≡ false → closed_row Scaled s c row ≡ Err (RowSum s c)
  scaled-far h e = closed-ruled Scaled (Err (RowSum s c)) h (ap (λ (b : Bool). if b then within_limit s c (scaled_row row) else Err (RowSum s c)) e)

  pub scaled-near : (r : Result (List Entry) RowsError) → row_den row ≤ limit → is_near_one (row_total row) ≡ true → within_limit s c (scaled_row row) ≡ r → closed_row Scaled s c row ≡ kept_from r
  scaled-near r h e f = closed-ruled Scaled r h (ap (λ (b : Bool). if b then within_limit s c (scaled_row row) else Err (RowSum s c)) e ∙ f)

-- ---- nearly 1

true_of : (b : Bool) → T b → b ≡ true
true_of true h = refl
true_of false h = absurd h

false_of : (b : Bool) → (b ≡ true → ⊥) → b ≡ false
false_of true h = absurd (h refl)
false_of false h = refl

both_true : (a b : Bool) → (a && b) ≡ true → (a ≡ true) × (b ≡ true)
both_true true b e = (refl, e)
both_true false b e = absurd cc

pub near_low : (x : ℚ) → is_near_one x ≡ true → ratio (pos 999) 1000 ≤ℚ x
near_low x e = let p = both_true (le_ℚ (ratio (pos 999) 1000) x) (le_ℚ x (ratio (pos 1001) 1000)) e in record { le = subst T (sym p.0) tt }

near_high : (x : ℚ) → is_near_one x ≡ true → x ≤ℚ ratio (pos 1001) 1000
near_high x e = let p = both_true (le_ℚ (ratio (pos 999) 1000) x) (le_ℚ x (ratio (pos 1001) 1000)) e in record { le = subst T (sym p.1) tt }

pub near : (n d : ℕ) → 0 < d → 999 * d ≤ n * 1000 → n * 1000 ≤ 1001 * d → is_near_one (ratio (pos n) d) ≡ true
near n d h l k =
    let a = ratio-le 999 n 1000 d (omega arith) h l in
    let b = ratio-le n 1001 d 1000 h (omega arith) k in
    ap (λ (z : Bool). z && le_ℚ (ratio (pos n) d) (ratio (pos 1001) 1000)) (true_of (le_ℚ (ratio (pos 999) 1000) (ratio (pos n) d)) a.le)
    ∙ true_of (le_ℚ (ratio (pos n) d) (ratio (pos 1001) 1000)) b.le

pub not_near : (n d : ℕ) → 0 < d → ((999 * d ≤ n * 1000) × (n * 1000 ≤ 1001 * d) → ⊥) → is_near_one (ratio (pos n) d) ≡ false
not_near n d h f =
    false_of (is_near_one (ratio (pos n) d))
    (λ e. f (le-ratio 999 n 1000 d (omega arith) h (near_low (ratio (pos n) d) e), le-ratio n 1001 d 1000 h (omega arith) (near_high (ratio (pos n) d) e)))

-- ---- a row with its least common denominator, and its sum in parts of it

pub record IsSummed (row : List Given) (d n : ℕ) : Type 0 where
  pub common : d ≡ row_den (row_of row)
  pub within : row_den (row_of row) ≤ limit
  pub sum : n ≡ parts d row

module _ (s c : ℕ) (row : List Given) (d n : ℕ) (is : IsSummed row d n) where
  some_den : 0 < d
  some_den = rw is.common (row_den-pos (row_of row))

  total : row_total (row_of row) ≡ ratio (pos n) d
  total = sym (total_is row d n is.common is.sum)

  one_when : is_one (row_total (row_of row)) ≡ eqb n d
  one_when = is_one-parts row d is.common ∙ ap (λ (k : ℕ). eqb k d) (sym is.sum)

  pub closes_exact : n ≡ d → closed_row Exact s c (row_of row) ≡ Ok (kept (row_of row))
  closes_exact e = exact-one s c (row_of row) is.within (one_when ∙ eq-eqb n d e)

  pub refused_exact : n ≢ d → closed_row Exact s c (row_of row) ≡ Err (RowSum s c)
  refused_exact e = exact-other s c (row_of row) is.within (one_when ∙ ne_eqb n d e)

  pub refused_far : ((999 * d ≤ n * 1000) × (n * 1000 ≤ 1001 * d) → ⊥) → closed_row Scaled s c (row_of row) ≡ Err (RowSum s c)
  refused_far f = scaled-far s c (row_of row) is.within (ap is_near_one total ∙ not_near n d some_den f)

  is_near : abs_diff n d ≤ d / 1000 → is_near_one (row_total (row_of row)) ≡ true
  is_near h =
      let q : d / 1000 * 1000 ≤ d = div-mul-le_self d 1000 in
      ap is_near_one total ∙ near n d some_den (omega (arith, h, q)) (omega (arith, h, q))

  pub refused_diff : d / 1000 < abs_diff n d → closed_row Scaled s c (row_of row) ≡ Err (RowSum s c)
  refused_diff h =
      let q : d < d / 1000 * 1000 + 1000 = lt-div-mul-add (omega arith) in
      refused_far (λ p. omega (arith, h, q, p.0, p.1))

  pub some_parts : abs_diff n d ≤ d / 1000 → 0 < n
  some_parts h = let q : d / 1000 * 1000 ≤ d = div-mul-le_self d 1000 in let k = some_den in omega (arith, h, q, k)

  pub closes_scaled : (new : List Entry) → abs_diff n d ≤ d / 1000 → new ≡ scaled_row (row_of row) → row_den new ≤ limit → closed_row Scaled s c (row_of row) ≡ Ok (kept new)
  closes_scaled new h e w =
      scaled-near s c (row_of row) (Ok (scaled_row (row_of row))) is.within (is_near h) (not_wide s c (scaled_row (row_of row)) (let k = ap row_den e in omega arith))
      ∙ ap (λ (x : List Entry). Ok (kept x)) (sym e)

  pub refused_wide : abs_diff n d ≤ d / 1000 → limit < row_den (scaled_row (row_of row)) → closed_row Scaled s c (row_of row) ≡ Err (RowWide s c)
  refused_wide h w = scaled-near s c (row_of row) (Err (RowWide s c)) is.within (is_near h) (too_wide s c (scaled_row (row_of row)) w)

-- a sum above 2
pub refused_past : (rule : RowRule) (s c : ℕ) (row : List Given) (d : ℕ) → d ≡ row_den (row_of row) → row_den (row_of row) ≤ limit → 2 * d < parts d row
    → closed_row rule s c (row_of row) ≡ Err (RowSum s c)
refused_past Exact s c row d e w h = refused_exact s c row d (parts d row) (record { common = e; within = w; sum = refl }) (λ z. omega arith)
refused_past Scaled s c row d e w h =
    let k : 0 < d = rw e (row_den-pos (row_of row)) in
    refused_far s c row d (parts d row) (record { common = e; within = w; sum = refl }) (λ p. omega (arith, p.0, p.1, h, k))
