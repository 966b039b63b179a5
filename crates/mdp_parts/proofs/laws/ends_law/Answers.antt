use Rattle.mdp_parts.proofs.Arriving.{share_none, each_within_one, maximal_are_parts, components_are_one, ends_are_one, toward_arrives}
use Rattle.mdp_parts.proofs.laws.ends_law.Goals as goal

pub returns-clause-apart : goal.returns-clause-apart
returns-clause-apart c = share_none

pub returns-clause-within : goal.returns-clause-within
returns-clause-within c = each_within_one

pub returns-clause-all : goal.returns-clause-all
returns-clause-all c = maximal_are_parts

pub returns-clause-one_components : goal.returns-clause-one_components
returns-clause-one_components c = components_are_one

pub returns-clause-one_ends : goal.returns-clause-one_ends
returns-clause-one_ends c = ends_are_one

pub returns-clause-arrives : goal.returns-clause-arrives
returns-clause-arrives c = toward_arrives
