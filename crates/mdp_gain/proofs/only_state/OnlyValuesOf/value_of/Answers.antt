use Rattle.std.proofs.Common.{◌∙◌, sym}
use Rattle.mdp_unichain.specs.Component.{count}
use Rattle.mdp_gain.specs.Code.{component_in}
use Rattle.mdp_gain.proofs.OnlySums.{zero-at}
use Rattle.mdp_gain.proofs.only_state.OnlyValuesOf.value_of.Goals as goal

pub returns : goal.returns
returns c = c.whole.ensures ∙ sym (zero-at (count (component_in c.args.self.now.component)) c.args._t)
