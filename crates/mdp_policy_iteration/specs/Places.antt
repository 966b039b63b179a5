-- Where a term is past width, and computations that end at the first such place.
use Rattle.std.specs.Prelude.{ℕ, zero, suc, Bool, true, List, [], ◌∷◌, ◌++◌, Option, Some, None, Result, Ok, Err, if◌then◌else◌}
use Rattle.mdp_math.specs.Result.{◌>>=◌}
use Rattle.mdp_policy_iteration.specs.declared.errors.NodePlace.{NodePlace}

-- what was computed, and the node and the choice for which
abbrev pub Place : Type 0
Place = NodePlace

-- what can be made, or that a term is past width at r
abbrev pub at_place : {A R : Type 0} → R → Option A → Result A R
at_place r None = Err r
at_place r (Some x) = Ok x

-- f 0, .., f (n - 1), or the first refusal among them
abbrev pub up_to : {A R : Type 0} → (ℕ → Result A R) → ℕ → Result (List A) R
up_to f zero = Ok []
up_to f (suc s) = up_to f s >>= (λ xs. f s >>= (λ x. Ok (xs ++ x ∷ [])))

-- whether 0, .., n - 1 pass the test, or the place of the first that doesn't
abbrev pub all_pass : {R : Type 0} → (ℕ → Bool) → (ℕ → R) → ℕ → Result Bool R
all_pass test place zero = Ok true
all_pass test place (suc s) = all_pass test place s >>= (λ b. if test s then Ok true else Err (place s))
