use Rattle.std.proofs.Common.{◌≡◌, ap, ◌∙◌, map, length, ℕ, arith}
use Rattle.std.specs.List.{range_with_len}
use Rattle.mdp_spec.specs.Mdp.{choices_at, states_of}
use Rattle.mdp_graph.specs.{Choices.{first_below}, Avoid.{keeps}}
use Rattle.mdp_graph.proofs.Collecting.{collected}
use Rattle.mdp_graph.proofs.avoid.keeping_choices.Goals as goal

pub loop-s-init : goal.loop-s-init
loop-s-init c = c.in_ok-choices.ensures.items

pub loop-s-preserved : goal.loop-s-preserved
loop-s-preserved c =
    collected (λ (s : ℕ). first_below (keeps c.args.model.now c.args.marks.now s) (length (choices_at c.args.model.now s))) c.loop-s.s
    c.loop-s.choices.items _ _ c.loop-s.invariant c.in_ok-push.ensures.items c.keeping_choice.ensures

pub returns : goal.returns
returns c =
    let all : c.loop-s.s ≡ states_of c.args.model.now = omega arith in
    c.loop-s.invariant
    ∙ ap (λ (n : ℕ). map (λ (s : ℕ). first_below (keeps c.args.model.now c.args.marks.now s) (length (choices_at c.args.model.now s))) (range_with_len 0 n)) all
