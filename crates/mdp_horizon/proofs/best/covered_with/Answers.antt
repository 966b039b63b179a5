use Rattle.std.proofs.Common.{◌≡◌, ◌∙◌, ℤ, Option, Some, sym, ap, ap₂, rules, to_z-of_z}
use mir.Syntax.{w128}
use mir.Val.{SFits}
use Rattle.mdp_math.specs.Written.{◌>>=◌}
use Rattle.mdp_horizon.specs.{Whole.{rounded, farther}, BoundsCode.{values_of, plain_choice}}
use Rattle.mdp_horizon.proofs.Past.{sum_divided, sum_trivial, farther_same}
use Rattle.mdp_horizon.proofs.best.covered_with.Goals as goal

pub returns-in-Some : goal.returns-in-Some
returns-in-Some c =
    let f : SFits w128 c.in-Some.sum = search rules in
    let g : SFits w128 c.args.choice.now.scale.common = search rules in
    let h : SFits w128 c.farther_quotient.result = search rules in
    let q : c.farther_quotient.result ≡ farther c.args.dir c.args.far (rounded c.args.dir c.in-Some.sum c.args.choice.now.scale.common) =
    farther_same c.args.dir c.farther_quotient.result c.args.far (rounded c.args.dir c.in-Some.sum c.args.choice.now.scale.common) _ _ c.farther_quotient.ensures (to_z-of_z c.ranges.far)
    (ap₂ (rounded c.args.dir) (to_z-of_z f) (to_z-of_z g))
    in
    ap (λ (z : ℤ). let o : Option ℤ = Some z in o) (to_z-of_z h ∙ q)
    ∙ sym (ap (λ (o : Option ℤ). o >>= (λ k. Some (farther c.args.dir c.args.far k)))
    (sum_divided c.args.dir (values_of c.args.column.now) (plain_choice c.args.choice.now) c.in-Some.sum c.in-Some.ensures.value))

pub returns-in_ok-trivial-in-None : goal.returns-in_ok-trivial-in-None
returns-in_ok-trivial-in-None c =
    let f : SFits w128 c.in_ok-trivial-in-None.field-0 = search rules in
    let h : SFits w128 c.farther.result = search rules in
    let q : c.farther.result ≡ farther c.args.dir c.args.far c.in_ok-trivial-in-None.field-0 =
    farther_same c.args.dir c.farther.result c.args.far c.in_ok-trivial-in-None.field-0 _ _ c.farther.ensures (to_z-of_z c.ranges.far) (to_z-of_z f)
    in
    ap (λ (z : ℤ). let o : Option ℤ = Some z in o) (to_z-of_z h ∙ q)
    ∙ sym (ap (λ (o : Option ℤ). o >>= (λ k. Some (farther c.args.dir c.args.far k)))
    (sum_trivial c.args.dir (values_of c.args.column.now) (plain_choice c.args.choice.now) c.in-None.ensures.value ∙ sym c.trivial.ensures ∙ c.in_ok-trivial-in-None.was {u = tt}))

pub returns-in_err-trivial-in-None : goal.returns-in_err-trivial-in-None
returns-in_err-trivial-in-None c =
    c.from_residual.ensures
    ∙ sym (ap (λ (o : Option ℤ). o >>= (λ k. Some (farther c.args.dir c.args.far k)))
    (sum_trivial c.args.dir (values_of c.args.column.now) (plain_choice c.args.choice.now) c.in-None.ensures.value ∙ sym c.trivial.ensures ∙ c.in_err-trivial-in-None.was {u = tt}))
