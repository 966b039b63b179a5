use Rattle.std.proofs.Common.{◌≡◌, ℕ, ◌∙◌, Option, Some, ℤ, map, ap, subst, arith}
use Rattle.std.specs.List.{range_with_len}
use Rattle.mdp_spec.specs.Mdp.{states_of}
use Rattle.mdp_num.proofs.Values.{result-bits}
use Rattle.mdp_horizon.specs.{Columns.{ended}, Code.{plain_objective}, BoundsCode.{values_of}}
use Rattle.mdp_horizon.proofs.More.{more}
use Rattle.mdp_horizon.proofs.columns.Query.end_column.Goals as goal

pub loop-s-preserved : goal.loop-s-preserved
loop-s-preserved c =
    c.in_ok-push.ensures
    ∙ more (λ s. let v : Option ℤ = Some (ended c.args.self.one (plain_objective c.args.self.objective) s) in v) c.loop-s.s (values_of c.loop-s.column) _ c.loop-s.invariant
    (ap (λ (z : ℤ). let v : Option ℤ = Some z in v) (result-bits c.ended.result c.ended.type_inv ∙ c.ended.ensures))

pub returns : goal.returns
returns c =
    let e : c.loop-s.s ≡ states_of c.args.self.model.now = omega arith in
    subst (λ (n : ℕ). (values_of c.loop-s.column) ≡ map (λ s. let v : Option ℤ = Some (ended c.args.self.one (plain_objective c.args.self.objective) s) in v) (range_with_len 0 n)) e c.loop-s.invariant
