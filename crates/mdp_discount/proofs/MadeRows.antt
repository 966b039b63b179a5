-- The discounted rows in the code, state by state and choice by choice.
use Rattle.std.proofs.Common.{◌≡◌, ℕ, ◌<◌, Bool, true, false, true≢false, List, length, cond, Option, Some, None, refl, sym, ◌∙◌, ap, zero-add}
use Rattle.std.proofs.{lemmas.List.FromFn.{get_or-map-range_with_len, length-map-range_with_len}, Math.ListN.{get_or-map}, lemmas.List.{length-map}}
use Rattle.std.specs.{Prelude.{slice_index_or}, Option.{option_map, is_some}}
use Rattle.mdp_math.specs.Rational.{ℚ}
use Rattle.mdp_math.proofs.Options.{Some_same}
use Rattle.mdp_spec.specs.Mdp.{Mdp, Entry, states_of, choices_at, row_at}
use Rattle.mdp_rows.specs.declared.row.Row.{Row}
use Rattle.mdp_discount.specs.{Problem.{discounted_row, row_fits}, ScaledView.{row_in, rows_in, scaled_row, scaled_rows, AreScaled}}
use Rattle.mdp_discount.specs.declared.scaled.StateRows.{StateRows}

module _ (m : Mdp) (f : ℚ) (states : List StateRows) (made : AreScaled m f states) where
  pub made-len : length states ≡ states_of m
  made-len = sym (length-map states rows_in) ∙ ap length made ∙ length-map-range_with_len (scaled_rows m f) 0 (states_of m)

  pub made-rows : (s : ℕ) (d : StateRows) → s < states_of m → rows_in (slice_index_or states s d) ≡ scaled_rows m f s
  made-rows s d l =
      sym (get_or-map rows_in states s d)
      ∙ ap (λ (rows : List (List (Option (List Entry)))). slice_index_or rows s (rows_in d)) made
      ∙ get_or-map-range_with_len (scaled_rows m f) 0 (states_of m) s s (rows_in d) l (zero-add s)

  pub made-count : (s : ℕ) (d : StateRows) → s < states_of m → length (slice_index_or states s d).rows.now ≡ length (choices_at m s)
  made-count s d l =
      sym (length-map (slice_index_or states s d).rows.now (option_map row_in))
      ∙ ap length (made-rows s d l)
      ∙ length-map-range_with_len (λ c. scaled_row (states_of m) f (row_at m s c)) 0 (length (choices_at m s))

  pub made-row : (s c : ℕ) (d : StateRows) (e : Option Row) → s < states_of m → c < length (choices_at m s)
      → option_map row_in (slice_index_or (slice_index_or states s d).rows.now c e) ≡ scaled_row (states_of m) f (row_at m s c)
  made-row s c d e l h =
      sym (get_or-map (option_map row_in) (slice_index_or states s d).rows.now c e)
      ∙ ap (λ (rows : List (Option (List Entry))). slice_index_or rows c (option_map row_in e)) (made-rows s d l)
      ∙ get_or-map-range_with_len (λ c. scaled_row (states_of m) f (row_at m s c)) 0 (length (choices_at m s)) c c (option_map row_in e) h (zero-add c)

-- ---- a row, by whether its terms are in width

module _ (n : ℕ) (f : ℚ) (row : List Entry) where
  fits_by : (o : Option Row) (b : Bool) → option_map row_in o ≡ cond b (Some (discounted_row n f row)) None → is_some o ≡ b
  fits_by None true e = cc
  fits_by None false e = refl
  fits_by (Some x) true e = refl
  fits_by (Some x) false e = cc

  pub is_some-scaled : (o : Option Row) → option_map row_in o ≡ scaled_row n f row → is_some o ≡ row_fits f row
  is_some-scaled o e = fits_by o (row_fits f row) e

  scaled_by : (b : Bool) → b ≡ true → cond b (Some (discounted_row n f row)) None ≡ Some (discounted_row n f row)
  scaled_by true e = refl
  scaled_by false e = absurd (true≢false (sym e))

  pub scaled-some : row_fits f row ≡ true → scaled_row n f row ≡ Some (discounted_row n f row)
  scaled-some e = scaled_by (row_fits f row) e

  pub scaled-is : (x : Row) → Some (row_in x) ≡ scaled_row n f row → row_fits f row ≡ true → row_in x ≡ discounted_row n f row
  scaled-is x e fits = Some_same _ _ (e ∙ scaled-some fits)
