use Rattle.std.proofs.{Common.{true, false, refl, subst}, lemmas.List.{take_rest, drop-drop}}
use Rattle.std.specs.Prelude.{◌↔◌, IsTrue}
use Rattle.mdp_edge.specs.{Kinds.{Listed}, Plan.{FailsNext}}
use Rattle.mdp_edge.proofs.list_source.ListSourceSource.read.Goals as goal

pub returns-then-next_fails-clause-fails : goal.returns-then-next_fails-clause-fails
returns-then-next_fails-clause-fails c = subst (λ (s : Listed). IsTrue true ↔ FailsNext s.plan) c.self.view_is c.if-next_fails.ensures.fails

pub returns-clause-fails : goal.returns-clause-fails
returns-clause-fails c = subst (λ (s : Listed). IsTrue false ↔ FailsNext s.plan) c.self.view_is c.if-next_fails.ensures.fails

pub returns-clause-count : goal.returns-clause-count
returns-clause-count c = rw (← c.self.view_is) (rw (c.min.ensures, take_rest, c.deref.ensures.value) at c.min-count.ensures)

pub returns-clause-after : goal.returns-clause-after
returns-clause-after c = rw (← c.self.view_is, c.if-next_fails.ensures.called, drop-drop) refl

pub returns-clause-bytes : goal.returns-clause-bytes
returns-clause-bytes c = rw (← c.self.view_is, c.copy_from_slice.ensures.after, take_rest, c.deref.ensures.value) refl
