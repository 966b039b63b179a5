use Rattle.std.proofs.{Common.{◌≡◌, map, subst, arith, ap₂, ◌∙◌, ◌++◌, ◌∷◌, [], List, sym, zero-add}, lemmas.List.FromFn.{map-range_with_len_more}}
use Rattle.std.specs.List.{range_with_len}
use Rattle.mdp_elim.specs.Equation as spec
use Rattle.mdp_elim.specs.Visits.{start_equation}
use Rattle.mdp_elim.proofs.Expected.{start-is}
use Rattle.mdp_elim.proofs.transposed.visits_start.Goals as goal

pub loop-s-preserved : goal.loop-s-preserved
loop-s-preserved c =
    (c.in_ok-push.ensures {u = tt}).items
    ∙ ap₂ (λ (es : List spec.Equation) (e : spec.Equation). es ++ e ∷ []) c.loop-s.invariant
    (start-is c.args.start c.loop-s.s c.new-equation.result _ _ _ c.new-equation.ensures c.new.ensures.items c.one_at.ensures c.whole.ensures)
    ∙ sym (map-range_with_len_more (start_equation c.args.start) 0 c.loop-s.s c.loop-s.s (zero-add c.loop-s.s))

pub returns : goal.returns
returns c = let n : c.loop-s.s ≡ c.args.states = omega arith in subst (λ k. c.loop-s.equations.items ≡ map (start_equation c.args.start) (range_with_len 0 k)) n c.loop-s.invariant
