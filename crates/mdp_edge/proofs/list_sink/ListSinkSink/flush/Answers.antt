use Rattle.std.proofs.Common.{true, false, subst}
use Rattle.std.specs.Prelude.{◌↔◌, IsTrue}
use Rattle.mdp_edge.specs.{Kinds.{Stored}, Plan.{FailsNext}}
use Rattle.mdp_edge.proofs.list_sink.ListSinkSink.flush.Goals as goal

pub returns-then-next_fails-clause-fails : goal.returns-then-next_fails-clause-fails
returns-then-next_fails-clause-fails c = subst (λ (s : Stored). IsTrue true ↔ FailsNext s.plan) c.self.view_is c.if-next_fails.ensures.fails

pub returns-clause-fails : goal.returns-clause-fails
returns-clause-fails c = subst (λ (s : Stored). IsTrue false ↔ FailsNext s.plan) c.self.view_is c.if-next_fails.ensures.fails
