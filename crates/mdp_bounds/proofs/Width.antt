-- Where a written sum is in width, the sum that is told is.
use Rattle.std.proofs.Common.{Bool, true, false, true≢false, List, Option, Some, None, refl, sym, option_map, if◌then◌else◌}
use Rattle.std.specs.Option.{IsSome, option_and_then}
use Rattle.mdp_math.specs.{Rational.{ℚ}, Written.{written_add}}
use Rattle.mdp_num.specs.Equal.{eq_ℚ}
use Rattle.mdp_spec.specs.{Mdp.{Entry}, Written.{written_sum}}
use Rattle.mdp_farkas.specs.Compare.{0ℚ}
use Rattle.mdp_bounds.specs.Sum.{plain_add, targets_of, one_sum, or_else, told_sum}

asked_some : (f : ℚ → Option Bool) (g : ℚ → Bool) (o p : Option ℚ) → IsSome (option_and_then f o) → IsSome (option_map g (or_else p o))
asked_some f g o (Some v) w = refl
asked_some f g (Some v) None w = refl
asked_some f g None None w = absurd (true≢false (sym w))

pub some_by : (f : ℚ → Option Bool) (g : ℚ → Bool) (a : Bool) (o p : Option ℚ) → IsSome (option_and_then f o) → IsSome (if a then Some true else option_map g (or_else p o))
some_by f g true o p w = refl
some_by f g false o p w = asked_some f g o p w

-- the same of any row
pub told_some : (f : ℚ → Option Bool) (g : ℚ → Bool) (z : List ℚ) (start : ℚ) (row : List Entry) → IsSome (option_and_then f (written_sum z start row))
    → IsSome (option_map g (told_sum z start row))
told_some f g z start row w = asked_some f g (written_sum z start row) (one_sum z start (targets_of row)) w

-- and after the sum of two numbers
plain_by : (a b : Bool) (x y : ℚ) (o : Option ℚ) → IsSome o → IsSome (if a then Some y else (if b then Some x else o))
plain_by true b x y o w = refl
plain_by false true x y o w = refl
plain_by false false x y o w = w

pub plain_some : (x y : ℚ) → IsSome (written_add x y) → IsSome (plain_add x y)
plain_some x y w = plain_by (eq_ℚ x 0ℚ) (eq_ℚ y 0ℚ) x y (written_add x y) w

module _ {A B : Type 0} where
  pub first_some : (f : A → Option B) (o : Option A) → IsSome (option_and_then f o) → IsSome o
  first_some f None w = absurd (true≢false (sym w))
  first_some f (Some x) w = refl

  pub then_some : (f : A → Option B) (o : Option A) → IsSome (option_and_then f o) → (x : A) × IsSome (f x)
  then_some f None w = absurd (true≢false (sym w))
  then_some f (Some x) w = (x, w)

  pub both_some : (f : A → Option B) (o : Option A) → IsSome o → ((x : A) → IsSome (f x)) → IsSome (option_and_then f o)
  both_some f None w h = absurd (true≢false (sym w))
  both_some f (Some x) w h = h x

pub step_some : (f : ℚ → ℚ → Option Bool) (g : ℚ → ℚ → Bool) (x y : ℚ) (z : List ℚ) (start : ℚ) (row : List Entry)
    → IsSome (option_and_then (λ step. option_and_then (f step) (written_sum z start row)) (written_add x y))
    → IsSome (option_and_then (λ step. option_map (g step) (told_sum z start row)) (plain_add x y))
step_some f g x y z start row w =
    let after = then_some (λ step. option_and_then (f step) (written_sum z start row)) (written_add x y) w in
    both_some (λ step. option_map (g step) (told_sum z start row)) (plain_add x y)
    (plain_some x y (first_some (λ step. option_and_then (f step) (written_sum z start row)) (written_add x y) w))
    (λ step. told_some (f after.0) (g step) z start row after.1)
