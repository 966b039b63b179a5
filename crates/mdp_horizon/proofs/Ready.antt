-- The choices of a state, as the code holds them, can be summed.
use Rattle.std.proofs.{Common.{◌≡◌, ◌∙◌, ℕ, ◌<◌, List, [], ◌∷◌, length, map, get_or, sym, ap, subst, arith, ℤ}, lemmas.List.{get_or-map, length-map}}
use Rattle.std.proofs.{lemmas.List.Elements.{All-map}, lemmas.List.FromFn.{get_or-map-range_with_len, length-map-range_with_len}}
use Rattle.mdp_math.specs.Rational.{ℚ, ◌<ℚ◌}
use Rattle.mdp_math.proofs.{Order.{0ℚ, <ℚ_irrefl}, Whole.{one-pos}}
use Rattle.mdp_spec.specs.{Mdp.{Entry, Choice, Mdp, states_of, choices_at, choice_at, no_choice}, Row.{IsRow, IsMdp}}
use Rattle.mdp_horizon.specs.{Objective.{Objective, gain_of}, declared.choice.Choices.{Choices}, Scaled.{Scaled, scaled, scale_of, term_of}}
use Rattle.mdp_horizon.specs.{Columns.{scaled_choice, scaled_state}, BoundsCode.{plain_choices, IsReady, AreReady, AreOf}}
use Rattle.mdp_horizon.specs.{declared.choice.Scale.{Scale}, declared.choice.Term.{Term}, declared.choice.ShortTerm.{ShortTerm}}
use Rattle.mdp_horizon.specs.{Short.{wide_term, wide_terms}}
use Rattle.std.specs.List.{All}
use Rattle.mdp_horizon.proofs.Making.{start-narrow}

some_entry : (n : ℕ) (row : List Entry) → IsRow n row → 0 < length row
some_entry n [] r = absurd (<ℚ_irrefl 0ℚ (subst (λ (x : ℚ). 0ℚ <ℚ x) (sym r.distribution.total) one-pos))
some_entry n (x ∷ row) r = omega arith

ready_row : (one : ℤ) (n : ℕ) (start : ℚ) (row : List Entry) → IsRow n row → IsReady n (scaled one start row)
ready_row one n start row r =
    let common : ℤ = Scale.common (scale_of one start row) in
    record {
      some = let h = some_entry n row r in omega (arith, length-map row (term_of common));
      targets = All-map (λ t. t.target < n) (term_of common) row r.in_range;
      narrow = start-narrow one start row;
    }

module _ (one : ℤ) (m : Mdp) (o : Objective) where
  pub count_of : (s : ℕ) (xs : List Scaled) → xs ≡ scaled_state one m o s → length xs ≡ length (choices_at m s)
  count_of s xs e = ap length e ∙ length-map (choices_at m s) (scaled_choice one o)

  pub ready_state : (s n : ℕ) (xs : List Scaled) → IsMdp m → s < states_of m → states_of m ≡ n → xs ≡ scaled_state one m o s → AreReady n xs
  ready_state s n xs known_ h q e = subst (AreReady n) (sym e) (λ k d l.
      let inside : k < length (choices_at m s) = omega (arith, length-map (choices_at m s) (scaled_choice one o)) in
      let row : IsRow (states_of m) (Choice.row (choice_at m s k)) = known_.row s k h inside in
      subst (λ (x : Scaled). IsReady n x) (sym (get_or-map (scaled_choice one o) (choices_at m s) k no_choice d inside))
      (subst (λ (n : ℕ). IsReady n (scaled_choice one o (choice_at m s k))) q
      (ready_row one (states_of m) (gain_of o (choice_at m s k)) (Choice.row (choice_at m s k)) row)))

  -- the choices of state s among those of all states
  pub rows_length : (rows : List Choices) → AreOf one m o rows → length rows ≡ states_of m
  rows_length rows e = sym (length-map rows plain_choices) ∙ ap length e ∙ length-map-range_with_len (scaled_state one m o) 0 (states_of m)

  pub rows_at : (rows : List Choices) (s : ℕ) (row : Choices) → AreOf one m o rows → s < states_of m → row ≡ get_or rows s row → plain_choices row ≡ scaled_state one m o s
  rows_at rows s row e h q =
      ap plain_choices q
      ∙ sym (get_or-map plain_choices rows s row [] (omega (arith, rows_length rows e)))
      ∙ ap (λ ys. get_or ys s []) e
      ∙ get_or-map-range_with_len (scaled_state one m o) 0 (states_of m) s s [] h (omega arith)

-- ---- short entries over short values

pub short_below : (n : ℕ) (ts : List ShortTerm) → All (λ t. t.target < n) (wide_terms ts) → All (λ t. t.target < n) ts
short_below n ts h = λ k d l.
    subst (λ (t : Term). t.target < n) (get_or-map wide_term ts k d (wide_term d) l) (h k (wide_term d) (omega (arith, l, length-map ts wide_term)))

-- the choice at a place is ready where all are
pub ready_at : {A : Type 0} (f : A → Scaled) (n : ℕ) (xs : List A) (k : ℕ) (x : A) → k < length xs → x ≡ get_or xs k x → AreReady n (map f xs) → IsReady n (f x)
ready_at f n xs k x l e h =
    subst (IsReady n) (get_or-map f xs k x (f x) l ∙ ap f (sym e)) (h k (f x) (omega (arith, l, length-map xs f)))
