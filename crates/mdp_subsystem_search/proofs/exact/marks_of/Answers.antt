use Rattle.std.proofs.Common.{ℕ, ◌<◌, List, Bool, true, length, get_or, set, ◌∙◌, sym, ap, subst}
use Rattle.mdp_subsystem_rules.proofs.Kept.{kept_marks-none, kept_marks-more, length-kept_marks}
use Rattle.mdp_subsystem_search.proofs.exact.marks_of.Goals as goal

pub loop-s-init : goal.loop-s-init
loop-s-init c = c.in_ok-marks.ensures ∙ kept_marks-none c.args.states

pub set-requires : goal.set-requires
set-requires c =
    subst (λ (n : ℕ). get_or c.args.kept.now c.loop-s.s-index 0 < n)
    (sym (ap (λ (marks : List Bool). length marks) c.loop-s.invariant ∙ length-kept_marks c.args.states _)) (c.requires c.loop-s.s-index 0 c.loop-s-test.true)

pub loop-s-preserved : goal.loop-s-preserved
loop-s-preserved c =
    c.set.ensures
    ∙ ap (λ (marks : List Bool). set marks (get_or c.args.kept.now c.loop-s.s-index 0) true) c.loop-s.invariant
    ∙ kept_marks-more c.args.states c.args.kept.now c.loop-s.s-index c.loop-s-test.true (c.requires c.loop-s.s-index 0 c.loop-s-test.true)
