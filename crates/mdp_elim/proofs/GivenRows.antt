-- The targets of a row that is given as a list of targets and one of probabilities.
use Rattle.std.proofs.{Common.{◌≡◌, ℕ, ◌<◌, List, [], ◌∷◌, length, arith}, lemmas.List.Elements.{All-nil, All-cons}}
use Rattle.std.specs.List.{All}
use Rattle.mdp_math.specs.Rational.{ℚ}
use Rattle.mdp_math.proofs.Kernel.{All-head, All-tail}
use Rattle.mdp_spec.specs.{Mdp.{Entry}, Row.{entries}}

-- the targets of a row
pub targets_below : (n : ℕ) (ts : List ℕ) (ps : List ℚ) → length ts ≡ length ps → All (λ x. x.target < n) (entries ts ps) → All (λ t. t < n) ts
targets_below n [] ps e h = All-nil (λ t. t < n)
targets_below n (t ∷ ts) [] e h = absurd (omega arith)
targets_below n (t ∷ ts) (p ∷ ps) e h = All-cons (λ t. t < n) t ts (All-head (λ x. x.target < n) (let x : Entry = record { target = t; prob = p } in x) (entries ts ps) h)
    (targets_below n ts ps (omega arith) (All-tail (λ x. x.target < n) (let x : Entry = record { target = t; prob = p } in x) (entries ts ps) h))
