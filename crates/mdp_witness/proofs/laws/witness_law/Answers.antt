use Rattle.std.proofs.Common.{Ok, subst}
use Rattle.mdp_rows.specs.declared.dir.Dir.{Dir}
use Rattle.mdp_witness.specs.Query.{EndsSo}
use Rattle.mdp_witness.proofs.{OneEnd.{one_query_end}, AnEnd.{has_an_end}}
use Rattle.mdp_witness.proofs.Showing.{reaches-max, policy-max, needed-max, marked-max, reaches-min, needed-min, marked-min, below-best}
use Rattle.mdp_witness.proofs.ByDirection.{shape-found, holds-found}
use Rattle.mdp_witness.proofs.laws.witness_law.Goals as goal

pub returns-clause-one_end : goal.returns-clause-one_end
returns-clause-one_end c = λ dir m goals start threshold r q a b.
    one_query_end m goals start threshold r q c.query_law.ensures.one_end c.left_law.ensures.max_one c.left_law.ensures.min_one dir c.query_law.ensures.one_round a b

pub returns-clause-ends : goal.returns-clause-ends
returns-clause-ends c =
    has_an_end c.query_law.ensures.rules c.query_law.ensures.ends c.query_law.ensures.one_end c.query_law.ensures.min c.first_law.ensures.least c.kept_law.ensures.min c.fewer_law.ensures.least
    c.fewer_law.ensures.whole c.listed_law.ensures.floor c.listed_law.ensures.floor_shape c.query_law.ensures.round

pub returns-clause-shape : goal.returns-clause-shape
returns-clause-shape c = λ dir m goals start threshold found known_ each inside end.
    shape-found dir m goals start threshold found known_ each inside end c.listed_law.ensures.flow_shape c.listed_law.ensures.floor_shape

pub returns-clause-holds : goal.returns-clause-holds
returns-clause-holds c = λ dir m goals start threshold found known_ each inside end.
    holds-found dir m goals start threshold found known_ each inside end c.listed_law.ensures.flow_shape c.listed_law.ensures.floor_shape

pub returns-clause-sub_max : goal.returns-clause-sub_max
returns-clause-sub_max c = λ dir m goals start threshold found known_ each inside end e.
    reaches-max m goals start threshold found known_ inside (subst (λ (dir : Dir). EndsSo dir m goals start threshold (Ok found)) e end) c.listed_law.ensures.flow_shape c.flow_law.ensures.shows

pub returns-clause-sub_min : goal.returns-clause-sub_min
returns-clause-sub_min c = λ dir m goals start threshold found known_ each inside end e.
    reaches-min m goals start threshold found known_ each inside (subst (λ (dir : Dir). EndsSo dir m goals start threshold (Ok found)) e end) c.listed_law.ensures.floor_shape c.floor_law.ensures.shows

pub returns-clause-policy : goal.returns-clause-policy
returns-clause-policy c = λ dir m goals start threshold found known_ each inside end e.
    policy-max m goals start threshold found known_ inside (subst (λ (dir : Dir). EndsSo dir m goals start threshold (Ok found)) e end) c.listed_law.ensures.flow_shape
    c.query_law.ensures.rules c.query_law.ensures.one_end c.kept_law.ensures.max c.flow_law.ensures.policy

pub returns-clause-needed_max : goal.returns-clause-needed_max
returns-clause-needed_max c = λ dir m goals start threshold found known_ each inside end e.
    needed-max m goals start threshold found known_ inside (subst (λ (dir : Dir). EndsSo dir m goals start threshold (Ok found)) e end) c.query_law.ensures.rules
    c.query_law.ensures.one_end c.listed_law.ensures.marks c.needed_law.ensures.max

pub returns-clause-needed_min : goal.returns-clause-needed_min
returns-clause-needed_min c = λ dir m goals start threshold found known_ each inside end e.
    needed-min m goals start threshold found known_ each inside (subst (λ (dir : Dir). EndsSo dir m goals start threshold (Ok found)) e end) c.listed_law.ensures.marks c.needed_law.ensures.min

pub returns-clause-wide_max : goal.returns-clause-wide_max
returns-clause-wide_max c = λ dir m goals start threshold found known_ each inside end e.
    marked-max m goals start threshold found known_ inside (subst (λ (dir : Dir). EndsSo dir m goals start threshold (Ok found)) e end) c.query_law.ensures.one_end c.listed_law.ensures.marks

pub returns-clause-wide_min : goal.returns-clause-wide_min
returns-clause-wide_min c = λ dir m goals start threshold found known_ each inside end e.
    marked-min m goals start threshold found known_ each inside (subst (λ (dir : Dir). EndsSo dir m goals start threshold (Ok found)) e end) c.query_law.ensures.one_end
    c.listed_law.ensures.marks

pub returns-clause-below : goal.returns-clause-below
returns-clause-below c = λ dir m goals start threshold v known_ end. below-best dir m goals start threshold v known_ end c.query_law.ensures.max c.query_law.ensures.min
