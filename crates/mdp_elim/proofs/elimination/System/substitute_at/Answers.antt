use Rattle.std.proofs.{Common.{◌≡◌, ◌∙◌, ◌<◌, ◌+◌, ◌⊎◌, ℕ, sym, ap, subst, List, length, Some, arith}, Math.ListN.{set}}
use Rattle.std.proofs.{lemmas.List.{with_items_is, length-set, get_or_default}, lemmas.Result.{on_ok_weaker}}
use Rattle.std.specs.List.{All}
use Rattle.smallvec.specs.SmallVec.{SmallVec}
use Rattle.mdp_spec.specs.Mdp.{Entry}
use Rattle.mdp_elim.specs.Equation as spec
use Rattle.mdp_elim.specs.{Elimination.{substituted}, Predecessors.{IsLinked, ListsMore, LeadsTo, IsListed, at}}
use Rattle.mdp_elim.proofs.{RowSums.{between-below}, Putting.{put_at, put_linked}}
use Rattle.mdp_elim.proofs.elimination.System.substitute_at.Goals as goal

pub list_new-requires : goal.list_new-requires
list_new-requires c =
    subst (λ (row : List Entry). All (λ x. x.target < length c.deref_mut.result.now) row) (sym c.entries-2.ensures)
    (λ k d l. let b = between-below 0 c.args.s c.args.pivot.now.entries c.requires.pivot k d l in omega (arith, b, c.requires.linked.as_many, ap length c.deref_mut.ensures.value))

pub returns-clause-linked : goal.returns-clause-linked
returns-clause-linked c =
    let lists = c.args.self.now.lists.items in
    let old = c.args.self.now.equations.items in
    let more = c.list_new.new.lists in
    let t = c.args.t in
    let within : t < length old = omega (arith, c.requires.state, c.requires.linked.count) in
    let is : c.index_mut-equation.result.now ≡ at old t = c.index_mut-equation.ensures.value ∙ get_or_default old t c.index_mut-equation.result.now spec.no_equation within in
    let kept : ListsMore lists more = subst (λ (ls : List (SmallVec ℕ)). ListsMore ls more) c.deref_mut.ensures.value (c.in_ok-list_new.ensures {u = tt}).more in
    let fresh : All (λ x. t < x.target → LeadsTo (at old t).entries x.target ⊎ IsListed more x.target t) c.args.pivot.now.entries =
    subst (λ (source : List Entry). All (λ x. t < x.target → LeadsTo (at old t).entries x.target ⊎ IsListed more x.target t) source) c.entries-2.ensures
    (subst (λ (row : List Entry). All (λ x. t < x.target → LeadsTo row x.target ⊎ IsListed more x.target t) c.entries-2.result.now)
    (c.entries.ensures ∙ ap spec.Equation.entries is) (c.in_ok-list_new.ensures {u = tt}).listed) in
    let same = with_items_is c.args.self.now.lists more (omega (arith, kept.count)) in
    on_ok_weaker c.substitute.result
    (λ h.
    subst (λ (ls : List (SmallVec ℕ)). IsLinked c.args.s (c.args.s + 1) ls (set old t c.substitute.new.self)) (sym same)
    (put_linked c.args.s t c.args.pivot.now c.requires.pivot lists more old (set old t c.substitute.new.self) c.requires.state c.requires.linked kept fresh
    (put_at c.args.s t c.args.pivot.now old c.substitute.new.self within (subst (λ (e : spec.Equation). substituted c.args.s c.args.pivot.now e ≡ Some c.substitute.new.self) is h))
    (length-set old t c.substitute.new.self)))
    c.substitute.ensures.ok
