use Rattle.std.proofs.Common.{ℕ, List, ◌++◌, ◌∷◌, [], ap, ◌∙◌, arith, subst, sym}
use Rattle.mdp_parts.specs.{Allowed.{allowed_at}, Targets.{AreTargets}}
use Rattle.mdp_parts.proofs.Targeting.{none_in_one, one_state_more, all_targets}
use Rattle.mdp_parts.proofs.edges.edges_of.Goals as goal

pub loop-s-init : goal.loop-s-init
loop-s-init c =
    none_in_one c.args.model.now (allowed_at c.args.allowed.now) _ _ c.new-targets.ensures.items
    (c.in_ok-push.ensures.items ∙ ap (λ (xs : List ℕ). xs ++ 0 ∷ []) c.in_ok-starts.ensures.items)

pub loop-s-preserved : goal.loop-s-preserved
loop-s-preserved c =
    one_state_more c.args.model.now (allowed_at c.args.allowed.now) c.loop-s.s c.loop-s.targets.items _ c.loop-s.starts.items _ c.len.result c.loop-s.invariant
    c.in_ok-push_targets.ensures c.in_ok-push-2.ensures.items (omega arith)

pub returns : goal.returns
returns c =
    subst (λ (x : List (List ℕ)). AreTargets c.args.model.now (allowed_at c.args.allowed.now) x) (sym c.from_places-lists.ensures)
    (all_targets c.args.model.now (allowed_at c.args.allowed.now) c.loop-s.s _ c.loop-s.invariant.below (omega arith))
