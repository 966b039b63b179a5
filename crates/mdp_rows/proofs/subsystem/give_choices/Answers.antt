use Rattle.std.proofs.{Common.{◌+◌, List, drop, sym, ap, ◌∙◌, arith}, lemmas.List.{drop_more}}
use Rattle.mdp_spec.specs.Mdp.{Choice, choices_at, no_choice}
use Rattle.mdp_rows.specs.Replay.{with_choices}
use Rattle.mdp_rows.proofs.{CutModels.Handing.{choice_first}, Calls.Kept.{both_same}}
use Rattle.mdp_rows.proofs.subsystem.give_choices.Goals as goal

pub loop-c-preserved : goal.loop-c-preserved
loop-c-preserved c =
    let choices : List Choice = choices_at c.args.model.now c.args.s in
    let e = c.in_ok-give_choice.ensures {u = tt} in
    record {
      given =
          sym (choice_first _ (drop (c.loop-c.c + 1) choices) c.loop-c.builder c.give_choice.new.builder e.given)
          ∙ ap (λ (rest : List Choice). with_choices rest c.loop-c.builder) (sym (drop_more choices c.loop-c.c no_choice (omega arith)))
          ∙ c.loop-c.invariant.given;
      same = both_same c.args.builder.now c.loop-c.builder c.give_choice.new.builder c.loop-c.invariant.same e.same;
      state_open = e.state_open;
    }
