use Rattle.mdp_gen.proofs.{Modelled.{layered-model, layered-mdp, length-layered, layered-choices}, Short.{text-short}}
use Rattle.mdp_gen.specs.Layered.{layered_model}
use Rattle.mdp_gen.proofs.laws.layered_law.Goals as goal

pub returns-clause-reads : goal.returns-clause-reads
returns-clause-reads c = λ number layers width shape. c.written_law.ensures.reads_back (layered_model number layers width) (layered-model number layers width shape)

pub returns-clause-model : goal.returns-clause-model
returns-clause-model c = layered-model

pub returns-clause-rows : goal.returns-clause-rows
returns-clause-rows c = layered-mdp

pub returns-clause-states : goal.returns-clause-states
returns-clause-states c = λ number layers width shape. length-layered number layers width

pub returns-clause-choices : goal.returns-clause-choices
returns-clause-choices c = λ number layers width shape. layered-choices number layers width

pub returns-clause-short : goal.returns-clause-short
returns-clause-short c = text-short
