use Rattle.std.proofs.{Common.{◌≡◌, ◌++◌, ◌+◌, ◌*◌, []}, lemmas.Result.{on_ok_weaker}}
use Rattle.mdp_gen.specs.Pieces.{loop_text}
use Rattle.mdp_gen.proofs.Written.{appended-four, text-parts}
use Rattle.mdp_gen.proofs.writing.push_model.Goals as goal

pub returns-clause-text : goal.returns-clause-text
returns-clause-text c =
    on_ok_weaker c.push_failing.result
    (λ (e : c.push_failing.new.out.items ≡ c.push_goal.new.out.items ++ loop_text (c.args.layers * c.args.width + 1) []).
    appended-four c.args.out.now.items _ _ _ _ _ _ _ _ _ c.in_ok-push_header.ensures.text c.in_ok-push_layers.ensures.text c.in_ok-push_goal.ensures.text e
    (text-parts c.args.number c.args.layers c.args.width))
    c.push_failing.ensures.text
