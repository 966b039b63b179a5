-- The values of a policy don't see the numbers: where the small component has values the big one has the same at its states, and where a term is past width it
-- is past width at the same place.
use Rattle.std.proofs.Common.{◌≡◌, ℕ, ◌<◌, true, List, [], length, Result, Ok, Err, refl, sym, ◌∙◌, ap, pos}
use Rattle.std.specs.Prelude.{slice_index, slice_index_or}
use Rattle.mdp_math.specs.{Rational.{ℚ, of_int}, Result.{◌>>=◌}}
use Rattle.mdp_spec.specs.Mdp.{value_at}
use Rattle.mdp_elim.specs.Solve.{written_solution}
use Rattle.mdp_wide.specs.declared.too_wide.Kind.TheVariants.{Evaluate}
use Rattle.mdp_policy_iteration.specs.{Places.{Place, at_place}, Path.{evaluating, placed}}
use Rattle.mdp_policy_iteration.proofs.Results.{ok_same, ok_part, IsUpTo, up_to-is}
use Rattle.mdp_unichain.specs.{Component.{Component, count, is_state, IsPolicy}, Evaluation.{active}, Sums.{written_ratio, written_bias}}
use Rattle.mdp_unichain.specs.Written.{Values, rows_of, active_of, columns_of, written_columns, written_gain}
use Rattle.mdp_unichain.specs.Written.{bias_of, written_bias_list, with_biases, written_biases, from_columns, written_values}
use Rattle.mdp_gain.specs.Renumbering.{IsRenumbering, spread, spread_values, place_there, values_there, result_there}
use Rattle.mdp_gain.proofs.RenumberedSystem.{AreSameSolutions, renumbered_solution}
use Rattle.mdp_gain.proofs.RenumberedChoices.{place-below, active-there, active-outside, active-unlisted, choice-there, same-system}
use Rattle.mdp_gain.proofs.{RenumberedResults.{place-there, then-there, if-there, taken-false, up_to-there}, RenumberedSums.{AreSameValues, ratio-there}}

module _ (p : Component) (policy : List ℕ) (t : ℕ) where
  with-length : (x y : List ℚ) (gain : ℚ) (v : Values) → with_biases p policy t x y gain ≡ Ok v → length v.bias ≡ count p
  with-length x y gain v h =
      let made = ok_part (written_bias_list p policy t gain x y) (λ bias. (let r : Result Values Place = Ok (record { gain = gain; bias = bias }) in r)) v h in
      ap (λ (v : Values). length v.bias) (sym (ok_same (record { gain = gain; bias = made.0 }) v made.2))
      ∙ IsUpTo.len (up_to-is (bias_of p policy t gain x y) (count p) made.0 made.1)

  biases-length : (x y : List ℚ) (v : Values) → written_biases p policy t x y ≡ Ok v → length v.bias ≡ count p
  biases-length x y v h = let made = ok_part (written_gain p policy t x y) (with_biases p policy t x y) v h in with-length x y made.0 v made.2

  -- values that are made have a bias for each number
  pub bias-length : (v : Values) → written_values p policy t ≡ Ok v → length v.bias ≡ count p
  bias-length v h =
      let made = ok_part (written_columns p policy t) (from_columns p policy t) v h in
      biases-length (slice_index_or made.0 0 []) (slice_index_or made.0 1 []) v made.2

module _ (states : List ℕ) (small big : Component) (R : IsRenumbering states small big) (p : List ℕ) (is : IsPolicy small p) where
  abbrev there : List ℕ
  there = spread states (count big) p

  -- the place of a term of a state
  evaluating-there : (s : ℕ) → s < length states → evaluating there (slice_index states s) ≡ place_there states (evaluating p s)
  evaluating-there s l =
      ap (λ (c : ℕ). (let w : Place = record { kind = Evaluate; node = slice_index states s; choice = c } in w))
      (choice-there states small big R p is s l)

  module _ (t : ℕ) (state : is_state small t ≡ true) where
    abbrev target : ℕ
    target = slice_index states t

    below : t < length states
    below = place-below states small big R t state

    module _ (x y u v : List ℚ) (xs : AreSameValues states x u) (ys : AreSameValues states y v) where
      gain-there : written_gain big there target u v ≡ result_there (λ g. g) states (written_gain small p t x y)
      gain-there =
          ap (λ (w : Place). at_place w (written_ratio big there target u v)) (evaluating-there t below)
          ∙ ap (at_place (place_there states (evaluating p t))) (ratio-there states small big R p is x y u v xs ys t below)
          ∙ place-there states (evaluating p t) (written_ratio small p t x y)

      module _ (gain : ℚ) where
        -- the bias of a state
        term-there : (j : ℕ) → j < length states
            → at_place (evaluating there (slice_index states j)) (written_bias gain (value_at u (slice_index states j)) (value_at v (slice_index states j)))
            ≡ result_there (λ b. b) states (at_place (evaluating p j) (written_bias gain (value_at x j) (value_at y j)))
        term-there j l =
            ap (λ (w : Place). at_place w (written_bias gain (value_at u (slice_index states j)) (value_at v (slice_index states j)))) (evaluating-there j l)
            ∙ ap (λ (a : ℚ). at_place (place_there states (evaluating p j)) (written_bias gain a (value_at v (slice_index states j)))) (xs j l)
            ∙ ap (λ (b : ℚ). at_place (place_there states (evaluating p j)) (written_bias gain (value_at x j) b)) (ys j l)
            ∙ place-there states (evaluating p j) (written_bias gain (value_at x j) (value_at y j))

        bias-there : (j : ℕ) → j < length states
            → bias_of big there target gain u v (slice_index states j) ≡ result_there (λ b. b) states (bias_of small p t gain x y j)
        bias-there j l =
            if-there (λ b. b) states (active (is_state small) t j) (active (is_state big) target (slice_index states j))
            (sym (active-there states small big R j t l below)) (at_place (evaluating p j) (written_bias gain (value_at x j) (value_at y j)))
            (Ok (of_int (pos 0))) _ (Ok (of_int (pos 0))) (term-there j l) refl

        -- all biases
        biases-there : written_bias_list big there target gain u v
            ≡ result_there (spread_values states (count big)) states (written_bias_list small p t gain x y)
        biases-there =
            up_to-there (of_int (pos 0)) states R.ascend (bias_of big there target gain u v) (bias_of small p t gain x y) bias-there (count big)
            (count small) R.below R.few
            (λ s l no_place. taken-false (active (is_state big) target s) (active-unlisted states small big R s target no_place) _ (Ok (of_int (pos 0))))
            (λ j l. taken-false (active (is_state small) t j) (active-outside states small big R j t l) _ (Ok (of_int (pos 0))))

        with-there : with_biases big there target u v gain ≡ result_there (values_there states (count big)) states (with_biases small p t x y gain)
        with-there =
            then-there (spread_values states (count big)) (values_there states (count big)) states (written_bias_list small p t gain x y)
            (written_bias_list big there target gain u v)
            (λ bias. Ok (record { gain = gain; bias = bias })) (λ bias. Ok (record { gain = gain; bias = bias })) biases-there (λ bias e. refl)

      all-there : written_biases big there target u v ≡ result_there (values_there states (count big)) states (written_biases small p t x y)
      all-there =
          then-there (λ g. g) (values_there states (count big)) states (written_gain small p t x y) (written_gain big there target u v)
          (with_biases small p t x y) (with_biases big there target u v) gain-there (λ gain e. with-there gain)

    -- from the solutions of both systems
    by_solutions : (r q : Result (List (List ℚ)) ℕ) → AreSameSolutions states r q
        → (placed there q >>= from_columns big there target) ≡ result_there (values_there states (count big)) states (placed p r >>= from_columns small p t)
    by_solutions (Ok xs) (Ok ys) h =
        all-there (slice_index_or xs 0 []) (slice_index_or xs 1 []) (slice_index_or ys 0 []) (slice_index_or ys 1 []) (λ j l. h 0 j l) (λ j l. h 1 j l)
    by_solutions (Err s) (Err u) h =
        ap (λ (n : ℕ). (let r : Result Values Place = Err (evaluating there n) in r)) h.1
        ∙ ap (λ (w : Place). (let r : Result Values Place = Err w in r)) (evaluating-there s h.0)
    by_solutions (Ok xs) (Err u) h = absurd h
    by_solutions (Err s) (Ok ys) h = absurd h

    -- the values of the same policy in the big component, or the same term past width
    pub values-there :
        written_values big (spread states (count big) p) (slice_index states t)
        ≡ result_there (values_there states (count big)) states (written_values small p t)
    values-there =
        by_solutions (written_solution (rows_of small p) (active_of small t) (columns_of small p))
        (written_solution (rows_of big there) (active_of big target) (columns_of big there))
        (renumbered_solution states (rows_of small p) (active_of small t) (columns_of small p) (rows_of big there) (active_of big target) (columns_of big there)
        (same-system states small big R p is t state))
