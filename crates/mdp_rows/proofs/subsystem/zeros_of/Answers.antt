use Rattle.std.proofs.{Common.{◌≡◌, ℕ, List, length, refl, ap₂, ◌∙◌}, lemmas.Simd.{splat_is_map}}
use Rattle.std.specs.Prelude.{Result, Ok, Err, IfOk, replicate}
use Rattle.mdp_math.specs.Rational.{ℚ}
use Rattle.mdp_math.proofs.Order.{0ℚ}
use Rattle.mdp_rows.specs.Replay.{no_rewards}
use Rattle.mdp_rows.proofs.subsystem.zeros_of.Goals as goal

if_ok-weaker : {T E : Type 0} (P Q : T → Type 0) (r : Result T E) → ((v : T) → P v → Q v) → IfOk r P → IfOk r Q
if_ok-weaker P Q (Ok v) f p = f v p
if_ok-weaker P Q (Err e) f p = tt

all_zero : (names : List (List ℕ)) (n : ℕ) (x : ℚ) → n ≡ length names → x ≡ 0ℚ → replicate n x ≡ no_rewards names
all_zero names n x e f = ap₂ (λ (k : ℕ) (y : ℚ). replicate k y) e f ∙ splat_is_map names (length names) 0ℚ refl

pub returns : goal.returns
returns c =
    if_ok-weaker (λ v. ((y : ℚ) → y ≡ c.whole.result → y ≡ c.whole.result) → v.items ≡ replicate c.names.result c.whole.result) (λ v. v.items ≡ no_rewards c.args.model.now.names) c.vec.result
    (λ v p. p (λ y e. e) ∙ all_zero c.args.model.now.names c.names.result c.whole.result c.names.ensures c.whole.ensures) c.vec.ensures.items_if_clones_equal
