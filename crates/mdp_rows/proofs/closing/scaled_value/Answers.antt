use Rattle.std.proofs.Common.{◌≡◌, ℕ, ◌*◌, ◌/◌, arith, ap, ap₂, sym, ◌∙◌, pos, Some}
use Rattle.mdp_math.specs.Rational.{ℚ, ratio}
use Rattle.mdp_rows.specs.Parts.{part}
use Rattle.mdp_rows.proofs.ClosedRows.Scaling.{divided_by, within_terms, some_same}
use Rattle.mdp_rows.proofs.closing.scaled_value.Goals as goal

pub returns-then-den_of-gt-MAX_TERM-clause-value : goal.returns-then-den_of-gt-MAX_TERM-clause-value
returns-then-den_of-gt-MAX_TERM-clause-value c =
    let q = ap₂ (λ (x y : ℕ). c.args.den / x * y) c.den_of.ensures c.num_of.ensures in
    let v = divided_by c.args.den c.args.parts c.args.given.now c.requires.some c.requires.positive c.requires.divides in
    let x : c.in_ok-scaled.scaled ≡ ratio (pos (part c.args.den c.args.given.now)) c.args.parts =
    some_same _ _ (sym (c.in_ok-scaled.was {u = tt}) ∙ c.ratio_of.ensures ∙ ap (λ (n : ℕ). Some (ratio (pos n) c.args.parts)) q) in
    rw (v, ← x) (omega (arith, c.den_of-2.ensures, c.if-den_of-gt-MAX_TERM.true))

pub returns-else-den_of-gt-MAX_TERM-clause-value : goal.returns-else-den_of-gt-MAX_TERM-clause-value
returns-else-den_of-gt-MAX_TERM-clause-value c =
    let q = ap₂ (λ (x y : ℕ). c.args.den / x * y) c.den_of.ensures c.num_of.ensures in
    let v = divided_by c.args.den c.args.parts c.args.given.now c.requires.some c.requires.positive c.requires.divides in
    some_same _ _ (sym (c.in_ok-scaled.was {u = tt}) ∙ c.ratio_of.ensures ∙ ap (λ (n : ℕ). Some (ratio (pos n) c.args.parts)) q) ∙ sym v

pub returns-else-den_of-gt-MAX_TERM-clause-term : goal.returns-else-den_of-gt-MAX_TERM-clause-term
returns-else-den_of-gt-MAX_TERM-clause-term c =
    let q = ap₂ (λ (x y : ℕ). c.args.den / x * y) c.den_of.ensures c.num_of.ensures in
    let x : c.in_ok-scaled.scaled ≡ ratio (pos (part c.args.den c.args.given.now)) c.args.parts =
    some_same _ _ (sym (c.in_ok-scaled.was {u = tt}) ∙ c.ratio_of.ensures ∙ ap (λ (n : ℕ). Some (ratio (pos n) c.args.parts)) q) in
    let e : c.in_ok-scaled.scaled.den ≡ ℚ.den (ratio (pos (part c.args.den c.args.given.now)) c.args.parts) = ap (λ (y : ℚ). y.den) x in
    rw x (within_terms (part c.args.den c.args.given.now) c.args.parts c.requires.positive c.requires.within (omega (arith, e, c.den_of-2.ensures, c.if-den_of-gt-MAX_TERM.false)))
