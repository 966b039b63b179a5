use Rattle.std.proofs.Common.{ℕ, List, ◌++◌, [], ◌∷◌, sym, ap₂, ◌∙◌, arith}
use Rattle.std.proofs.lemmas.List.FromFn.{map-range_with_len_more}
use Rattle.mdp_spec.specs.Tree.{is_marked}
use Rattle.mdp_subsystem_bounds.specs.declared.mark.Mark.{Mark}
use Rattle.mdp_command_bounds_search.specs.WitnessMarks.{mark_of}
use Rattle.mdp_command_bounds_search.proofs.witness_marks.marks_of.Goals as goal

pub loop-s-preserved : goal.loop-s-preserved
loop-s-preserved c =
    c.in_ok-push.ensures.items ∙ ap₂ (λ (xs : List Mark) (x : Mark). xs ++ x ∷ []) c.loop-s.invariant (c.mark_of.ensures ∙ ap₂ mark_of c.at.ensures c.at-in-loop-s.ensures)
    ∙ sym (map-range_with_len_more (λ (s : ℕ). mark_of (is_marked c.args.kept.now s) (is_marked c.args.needed.now s)) 0 c.loop-s.s c.loop-s.s (omega arith))
