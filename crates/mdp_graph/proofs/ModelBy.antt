-- A model whose states are listed, each with a row for each of its choices.
use Rattle.std.proofs.{Common.{◌<◌, ◌≤◌, ◌^◌, ℕ, Bool, true, ◌&&◌, [], ◌∷◌, length, refl, ap, arith, le-leb, pos}, lemmas.List.Elements.{All-from_recursion}}
use Rattle.std.specs.List.{AllByRecursion}
use Rattle.mdp_math.specs.{Gcd.{gcd, gcd_with_fuel}, Rational.{of_int, ratio, ◌+ℚ◌, ◌<ℚ◌, lt_ℚ}}
use Rattle.mdp_spec.specs.{Mdp.{Mdp, State, Choice, no_state, no_choice, states_of, choices_at}, Row.{IsRow, IsMdp}}
use Rattle.mdp_spec.proofs.Small.{entry, one}

abbrev pub HasRows : ℕ → State → Type 0
HasRows n x = (0 < length x.choices) × AllByRecursion (λ (y : Choice). IsRow n y.row) x.choices

pub model_by : (m : Mdp) → 0 < states_of m → states_of m ≤ 2 ^ 20 → AllByRecursion (HasRows (states_of m)) m.states → IsMdp m
model_by m some few all = record {
  some = some;
  few = few;
  choice = λ s h. (each s h).0;
  row = λ s c h l. All-from_recursion (λ (y : Choice). IsRow (states_of m) y.row) (choices_at m s) (each s h).1 c no_choice l;
}
  where
    each : (s : ℕ) → s < states_of m → (0 < length (choices_at m s)) × AllByRecursion (λ (y : Choice). IsRow (states_of m) y.row) (choices_at m s)
    each s h = All-from_recursion (HasRows (states_of m)) m.states all s no_state h

-- a row that leads to one state
pub one_row : (n t : ℕ) → t < n → IsRow n (entry t one ∷ [])
unfolding gcd gcd_with_fuel ratio of_int ◌+ℚ◌ lt_ℚ
one_row n t h = record {
  distribution = record { ascending = ap (λ (b : Bool). b && true) (le-leb 0 t (omega arith)); positive = All-from_recursion (λ x. of_int (pos 0) <ℚ x.prob) (entry t one ∷ []) (record { lt = tt }, tt); total = refl };
  in_range = All-from_recursion (λ x. x.target < n) (entry t one ∷ []) (h, tt);
}
