-- The comparison of all choices doesn't see the numbers: the improved policy of the big component is that of the small one, or a term is past width at the same
-- place.
use Rattle.std.proofs.Common.{◌≡◌, ℕ, zero, suc, ◌<◌, List, length, Result, Ok, refl, sym, ◌∙◌, ap, arith}
use Rattle.std.specs.Prelude.{slice_index}
use Rattle.mdp_math.specs.{Rational.{ℚ}, Result.{◌>>=◌}, Written.{written_add}}
use Rattle.mdp_spec.specs.Mdp.{value_at}
use Rattle.mdp_rows.specs.declared.dir.Dir.{Dir}
use Rattle.mdp_policy_iteration.specs.{Places.{Place, at_place}, Candidates.{Best}, Path.{comparing, or_kept}}
use Rattle.mdp_unichain.specs.{Component.{Component, count, choices_at, choice_at, is_state, IsPolicy}, Sums.{compared}}
use Rattle.mdp_unichain.specs.Written.{Values, then_compared, best_of, present_of, choice_over, improved_choice, improved_at, written_improved}
use Rattle.mdp_gain.specs.Renumbering.{IsRenumbering, spread, spread_values, values_there, result_there}
use Rattle.mdp_gain.proofs.{Spread.{spread_values-at}, RenumberedChoices.{unlisted-state, choice-there}}
use Rattle.mdp_gain.proofs.{RenumberedResults.{place-there, then-there, if-there, taken-false, up_to-there}, RenumberedSums.{AreSameValues, compared-there}}

module _ (states : List ℕ) (small big : Component) (R : IsRenumbering states small big) (p : List ℕ) (is : IsPolicy small p) (v : Values)
    (len : length v.bias ≡ count small) where
  abbrev there : List ℕ
  there = spread states (count big) p

  abbrev same_values : Values
  same_values = values_there states (count big) v

  -- the biases of the values
  biases-same : AreSameValues states v.bias (spread_values states (count big) v.bias)
  biases-same j l = spread_values-at states (count big) v.bias R.ascend j l (let few = R.few in omega (arith, few, len)) (R.below j l)

  module _ (j : ℕ) (l : j < length states) where
    abbrev number : ℕ
    number = slice_index states j

    -- the present value of a state
    present-there : present_of there same_values number ≡ result_there (λ x. x) states (present_of p v j)
    present-there =
        ap (λ (c : ℕ). at_place (comparing number c) (written_add v.gain (value_at same_values.bias number))) (choice-there states small big R p is j l)
        ∙ ap (λ (b : ℚ). at_place (comparing number (slice_index p j)) (written_add v.gain b)) (biases-same j l)
        ∙ place-there states (comparing j (slice_index p j)) (written_add v.gain (value_at v.bias j))

    one-there : (c : ℕ) (best : Best) → then_compared big same_values.bias number c best ≡ result_there (λ x. x) states (then_compared small v.bias j c best)
    one-there c best =
        ap (λ (dir : Dir). at_place (comparing number c) (compared dir same_values.bias c (choice_at big number c) best)) (sym R.dir)
        ∙ ap (at_place (comparing number c))
        (compared-there states v.bias same_values.bias biases-same small.dir c (choice_at small j c) (choice_at big number c) (R.choices j c l) best)
        ∙ place-there states (comparing j c) (compared small.dir v.bias c (choice_at small j c) best)

    -- after the first choices
    best-there : (value : ℚ) (c : ℕ) → best_of big same_values.bias number value c ≡ result_there (λ x. x) states (best_of small v.bias j value c)
    best-there value zero = refl
    best-there value (suc c) =
        then-there (λ x. x) (λ x. x) states (best_of small v.bias j value c) (best_of big same_values.bias number value c) (then_compared small v.bias j c)
        (then_compared big same_values.bias number c) (best-there value c) (λ best e. one-there c best)

    over-there : (value : ℚ) → choice_over big there same_values number value ≡ result_there (λ x. x) states (choice_over small p v j value)
    over-there value =
        ap (λ (n : ℕ). best_of big same_values.bias number value n >>= (λ best. Ok (or_kept best.choice (slice_index there number)))) (sym (R.width j l))
        ∙ then-there (λ x. x) (λ x. x) states (best_of small v.bias j value (length (choices_at small j)))
        (best_of big same_values.bias number value (length (choices_at small j)))
        (λ best. Ok (or_kept best.choice (slice_index p j))) (λ best. Ok (or_kept best.choice (slice_index there number)))
        (best-there value (length (choices_at small j)))
        (λ best e. ap (λ (c : ℕ). (let r : Result ℕ Place = Ok (or_kept best.choice c) in r)) (choice-there states small big R p is j l))

    improved_choice-there : improved_choice big there same_values number ≡ result_there (λ x. x) states (improved_choice small p v j)
    improved_choice-there =
        then-there (λ x. x) (λ x. x) states (present_of p v j) (present_of there same_values number) (choice_over small p v j)
        (choice_over big there same_values number) present-there (λ value e. over-there value)

    improved_at-there : improved_at big there same_values number ≡ result_there (λ x. x) states (improved_at small p v j)
    improved_at-there =
        if-there (λ x. x) states (is_state small j) (is_state big number) (R.is_big j l ∙ sym (R.is_small j l)) (improved_choice small p v j) (Ok 0)
        (improved_choice big there same_values number) (Ok 0) improved_choice-there refl

  -- the improved policy of the big component, or the same term past width
  pub improved-there : written_improved big (spread states (count big) p) (values_there states (count big) v)
      ≡ result_there (spread states (count big)) states (written_improved small p v)
  improved-there =
      up_to-there 0 states R.ascend (improved_at big there same_values) (improved_at small p v) improved_at-there (count big) (count small) R.below R.few
      (λ s l no_place. taken-false (is_state big s) (unlisted-state states small big R s no_place) (improved_choice big there same_values s) (Ok 0))
      (λ j l. taken-false (is_state small j) (R.outside j l) (improved_choice small p v j) (Ok 0))
