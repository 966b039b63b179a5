-- Both directions at once: what a row weighs of negated values, and negation back.
use Rattle.std.proofs.Common.{◌≡◌, ℕ, List, [], ◌∷◌, refl, sym, negsuc}
use Rattle.mdp_math.specs.Rational.{ℚ}
use Rattle.mdp_math.proofs.{Ring.{⊖, lit}, Linear.{combine, equal}, Kernel.{weigh-neg}}
use Rattle.mdp_spec.specs.Mdp.{Entry}
use Rattle.mdp_rows.specs.{declared.dir.Dir.{Dir}, declared.dir.Dir.TheVariants.{Max, Min}}
use Rattle.mdp_policy_iteration.proofs.Turned.{turn}
use Rattle.mdp_unichain.specs.Evaluation.{mean}

pub turn-mean : (d : Dir) (row : List Entry) (x : ℕ → ℚ) → turn d (mean row x) ≡ mean row (λ s. turn d (x s))
turn-mean Max row x = refl
turn-mean Min row x = sym (weigh-neg (λ y. y.target) (λ y. y.prob) x row)

pub turn-back : (d : Dir) (x y : ℚ) → turn d x ≡ turn d y → x ≡ y
turn-back Max x y e = e
turn-back Min x y e = combine 2 (λ x y. x) (λ x y. y) (λ x y. equal (lit (negsuc 0)) (⊖ x) (⊖ y) ∷ []) refl x y e
