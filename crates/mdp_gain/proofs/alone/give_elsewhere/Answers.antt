use Rattle.std.proofs.lemmas.Result.{on_ok_weaker}
use Rattle.mdp_gain.proofs.Handing.{elsewhere-given}
use Rattle.mdp_gain.proofs.alone.give_elsewhere.Goals as goal

pub returns : goal.returns
returns c =
    on_ok_weaker c.give_entry_to.result
    (elsewhere-given c.args.n c.whole-zero.result c.args.builder.now c.state.new.self c.choice.new.self c.give_entry_to.new.builder
    c.whole-zero.ensures c.in-Ok.ensures.call.ok c.in-Ok-choice.ensures.call.ok)
    c.give_entry_to.ensures.given
