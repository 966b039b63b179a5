use Rattle.std.proofs.Common.{◌≡◌, map, subst, sym, ap, ap₂, ◌∙◌, ◌++◌, ◌∷◌, [], List, length, arith, zero-add}
use Rattle.std.proofs.lemmas.List.FromFn.{map-range_with_len_more, length-map-range_with_len}
use Rattle.std.specs.List.{range_with_len}
use Rattle.mdp_elim.specs.System.{equation_of}
use Rattle.mdp_elim.specs.Equation as spec
use Rattle.mdp_elim.proofs.chain.system_of.Goals as goal

pub loop-s-preserved : goal.loop-s-preserved
loop-s-preserved g c =
    (c.in_ok-push.ensures {u = tt}).items
    ∙ ap₂ (λ (es : List spec.Equation) (e : spec.Equation). es ++ e ∷ []) c.loop-s.invariant (c.in_ok-equation_at.ensures {u = tt})
    ∙ sym (map-range_with_len_more _ 0 c.loop-s.s c.loop-s.s (zero-add c.loop-s.s))

pub returns-clause-few : goal.returns-clause-few
returns-clause-few g c =
    let n = ap length c.loop-s.invariant ∙ length-map-range_with_len _ 0 c.loop-s.s in
    omega (arith, n, c.loop-s.auto.s-end, c.count-s-end.type_inv)

pub returns-clause-value : goal.returns-clause-value
returns-clause-value g c =
    let n : c.loop-s.s ≡ length (g.R.RowsOf.rows c.args.rows.now) = omega (arith, c.count-s-end.ensures) in
    subst (λ k. c.loop-s.equations.items ≡ map (equation_of (g.R.RowsOf.rows c.args.rows.now) c.args.active.now (map (λ c. c.items) c.args.columns.now)) (range_with_len 0 k)) n c.loop-s.invariant
