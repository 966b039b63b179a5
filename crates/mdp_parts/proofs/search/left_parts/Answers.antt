use Rattle.std.proofs.Common.{◌≡◌, ap, ◌∙◌, map, ℕ, arith}
use Rattle.std.specs.List.{range_with_len}
use Rattle.mdp_spec.specs.Mdp.{states_of}
use Rattle.mdp_parts.specs.Round.{key_of}
use Rattle.mdp_graph.proofs.Collecting.{collected}
use Rattle.mdp_parts.proofs.search.left_parts.Goals as goal

pub loop-s-init : goal.loop-s-init
loop-s-init c = c.in_ok-keys.ensures.items

pub loop-s-preserved : goal.loop-s-preserved
loop-s-preserved c = collected (key_of c.args.model.now c.args.allowed.now c.args.parts.now) c.loop-s.s c.loop-s.keys.items _ _ c.loop-s.invariant c.in_ok-push.ensures.items c.left_part.ensures

pub returns : goal.returns
returns c =
    let all : c.loop-s.s ≡ states_of c.args.model.now = omega arith in
    c.loop-s.invariant ∙ ap (λ (n : ℕ). map (key_of c.args.model.now c.args.allowed.now c.args.parts.now) (range_with_len 0 n)) all
