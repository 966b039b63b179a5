use Rattle.std.proofs.{Common.{ℕ, sym, subst, List}, lemmas.List.Sorted.{IsNonDecreasingBy-from_sort}}
use Rattle.mdp_policy_iteration.specs.Marked.{AreMarked}
use Rattle.mdp_policy_iteration.proofs.Marking.{sorted-among, sorted-marked, sorted-ascend, all-in_range, marks-cleared}
use Rattle.mdp_policy_iteration.proofs.affected.finish.Goals as goal

pub clear-requires : goal.clear-requires
clear-requires c = rw c.deref.ensures.value (all-in_range _ _ (sorted-marked _ _ c.requires _ c.sort_unstable.ensures.permutation))

pub returns-clause-same : goal.returns-clause-same
returns-clause-same c = sorted-among _ _ c.requires _ c.sort_unstable.ensures.permutation

pub returns-clause-in_range : goal.returns-clause-in_range
returns-clause-in_range c = all-in_range _ _ (sorted-marked _ _ c.requires _ c.sort_unstable.ensures.permutation)

pub returns-clause-ascend : goal.returns-clause-ascend
returns-clause-ascend c = sorted-ascend _ _ c.requires _ c.sort_unstable.ensures.permutation (IsNonDecreasingBy-from_sort (λ x. x) _ c.sort_unstable.ensures.sorted)

pub returns-clause-marks : goal.returns-clause-marks
returns-clause-marks c =
    let m = sorted-marked _ _ c.requires _ c.sort_unstable.ensures.permutation in
    marks-cleared _ _ _ (subst (λ (xs : List ℕ). AreMarked c.args.marks.now xs) (sym c.deref.ensures.value) m) c.clear.ensures.count c.clear.ensures.cleared
