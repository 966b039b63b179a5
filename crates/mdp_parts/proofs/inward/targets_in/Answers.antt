use Rattle.std.proofs.Common.{◌≡◌, ap, ◌∙◌, map, ℕ, arith}
use Rattle.std.specs.List.{range_with_len}
use Rattle.mdp_ends.specs.Toward.{target_in}
use Rattle.mdp_graph.proofs.Collecting.{collected}
use Rattle.mdp_parts.proofs.inward.targets_in.Goals as goal

pub loop-s-init : goal.loop-s-init
loop-s-init c = c.in_ok-values.ensures.items

pub loop-s-preserved : goal.loop-s-preserved
loop-s-preserved c = collected (target_in c.args.ends.now.parts c.args.i c.args.target.now) c.loop-s.s c.loop-s.values.items _ _ c.loop-s.invariant c.in_ok-push.ensures.items c.is_target.ensures

pub returns : goal.returns
returns c =
    let all : c.loop-s.s ≡ c.args.states = omega arith in
    c.from_values.ensures ∙ c.loop-s.invariant ∙ ap (λ (n : ℕ). map (target_in c.args.ends.now.parts c.args.i c.args.target.now) (range_with_len 0 n)) all
