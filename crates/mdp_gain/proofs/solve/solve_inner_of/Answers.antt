use Rattle.std.proofs.Common.{◌∙◌, sym, arith}
use Rattle.mdp_unichain.proofs.Parts.{member-below, part-count}
use Rattle.mdp_gain.proofs.{GainLaws.{solves_best}, OnlyAlone.{only-of}}
use Rattle.mdp_gain.proofs.solve.solve_inner_of.Goals as goal

pub invariant_of-component : goal.invariant_of-component
invariant_of-component c = record { mdp = c.known.ensures.mdp; found = ∣ c.requires.ends ∣₁; below = c.requires.part; named = c.requires.name }

pub is_only-requires : goal.is_only-requires
is_only-requires c =
    let m = c.args.model.now in
    let parts = c.args.ends.now.parts in
    let l = member-below m parts c.args.i (record { model = c.known.ensures.mdp; ends = c.requires.ends.ends; below = c.requires.part }) c.args.s c.requires.state in
    let n = part-count c.args.dir m parts c.args.i c.args.m in
    omega (arith, l, n)

pub invariant_of-only : goal.invariant_of-only
invariant_of-only c = record {
  only = only-of c.args.dir c.args.model.now c.args.ends.now.parts c.args.i c.args.m c.args.s (record { model = c.known.ensures.mdp; ends = c.requires.ends.ends; below = c.requires.part }) c.requires.state
      (sym c.is_only.ensures ∙ c.if-is_only.true);
}

pub returns-then-is_only-clause-best : goal.returns-then-is_only-clause-best
returns-then-is_only-clause-best c =
    solves_best c.solution_law.ensures.solves c.args.dir c.args.model.now c.args.ends.now.parts c.args.i c.args.m
    (record { model = c.known.ensures.mdp; ends = c.requires.ends.ends; below = c.requires.part }) c.solve.result c.solve.ensures
