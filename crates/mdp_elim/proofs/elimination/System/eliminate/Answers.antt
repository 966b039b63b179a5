use Rattle.std.proofs.{Common.{◌≡◌, ◌∙◌, ◌<◌, ◌+◌, ℕ, List, None, Some, Err, get_or, subst, sym, ap, rules, arith}, lemmas.List.{get_or_default}}
use Rattle.std.specs.List.{All, Contains, remove}
use Rattle.smallvec.specs.SmallVec.{SmallVec}
use Rattle.mdp_wide.specs.declared.unfinished.Unfinished.TheVariants as error
use Rattle.mdp_elim.specs.Equation as spec
use Rattle.mdp_elim.specs.{Entries.{each}, Elimination.{substituted}, Predecessors.{no_states, IsLinked, LeadsTo, at}}
use Rattle.mdp_elim.proofs.Equations.{eliminated-none_pivot}
use Rattle.mdp_elim.proofs.Putting.{linked_suc, rest_linked, rest_complete, taken_smaller, pivot_below, whole, whole_linked, whole_none}
use Rattle.mdp_elim.proofs.elimination.System.eliminate.Goals as goal

pub take_pivot-requires-clause-last : goal.take_pivot-requires-clause-last
take_pivot-requires-clause-last c = c.requires.linked.count

pub take_pivot-requires-clause-below : goal.take_pivot-requires-clause-below
take_pivot-requires-clause-below c = c.requires.linked.down c.args.s (omega arith)

pub take_pivot-requires-clause-other : goal.take_pivot-requires-clause-other
take_pivot-requires-clause-other c = c.requires.pivot

pub returns-in_err-pivot-clause-wide : goal.returns-in_err-pivot-clause-wide
returns-in_err-pivot-clause-wide c = λ h.
    let w : c.take_pivot.result ≡ Err (error.TooWide tt) = search rules in
    eliminated-none_pivot c.args.s c.args.self.now.equations.items (c.take_pivot.ensures.wide w)

pub substitute_in_each-requires-clause-linked : goal.substitute_in_each-requires-clause-linked
substitute_in_each-requires-clause-linked c =
    subst (λ (ls : List (SmallVec ℕ)). IsLinked c.args.s (c.args.s + 1) ls c.take_pivot.new.equations.items) (sym c.remove-states.ensures.items)
    (subst (λ (es : List spec.Equation). IsLinked c.args.s (c.args.s + 1) (remove c.args.self.now.lists.items c.args.s) es)
    (sym (c.in_ok-pivot.ensures {u = tt}).rest) (rest_linked c.args.s c.args.self.now.lists.items c.args.self.now.equations.items c.requires.linked))

pub substitute_in_each-requires-clause-pivot : goal.substitute_in_each-requires-clause-pivot
substitute_in_each-requires-clause-pivot c = pivot_below c.args.s c.args.self.now.lists.items c.args.self.now.equations.items c.requires.linked c.in_ok-pivot.pivot (c.in_ok-pivot.ensures {u = tt}).pivot

pub substitute_in_each-requires-clause-smaller : goal.substitute_in_each-requires-clause-smaller
substitute_in_each-requires-clause-smaller c =
    let list : c.remove-states.result ≡ get_or c.args.self.now.lists.items c.args.s no_states = c.remove-states.ensures.value
    ∙ get_or_default c.args.self.now.lists.items c.args.s _ no_states (omega (arith, c.requires.linked.as_many)) in
    let same : c.deref.result.now ≡ SmallVec.items (get_or c.args.self.now.lists.items c.args.s no_states) = c.deref.ensures ∙ ap SmallVec.items list in
    subst (λ (xs : List ℕ). All (λ t. t < c.args.s) xs) (sym same)
    (taken_smaller c.args.s c.args.self.now.lists.items c.args.self.now.equations.items (linked_suc c.args.s c.args.self.now.lists.items c.args.self.now.equations.items c.requires.linked))

pub substitute_in_each-requires-clause-complete : goal.substitute_in_each-requires-clause-complete
substitute_in_each-requires-clause-complete c =
    let list : c.remove-states.result ≡ get_or c.args.self.now.lists.items c.args.s no_states = c.remove-states.ensures.value
    ∙ get_or_default c.args.self.now.lists.items c.args.s _ no_states (omega (arith, c.requires.linked.as_many)) in
    let same : c.deref.result.now ≡ SmallVec.items (get_or c.args.self.now.lists.items c.args.s no_states) = c.deref.ensures ∙ ap SmallVec.items list in
    λ t l h.
    subst (λ (xs : List ℕ). Contains xs t) (sym same)
    (rest_complete c.args.s c.args.self.now.lists.items c.args.self.now.equations.items c.requires.linked t l
    (subst (λ (es : List spec.Equation). LeadsTo (at es t).entries c.args.s) (c.in_ok-pivot.ensures {u = tt}).rest h))

pub returns-in_err-substitute_in_each-clause-wide : goal.returns-in_err-substitute_in_each-clause-wide
returns-in_err-substitute_in_each-clause-wide c = λ h.
    let w : c.substitute_in_each.result ≡ Err (error.TooWide tt) = search rules in
    whole_none c.args.s c.args.self.now.lists.items c.args.self.now.equations.items c.requires.linked c.in_ok-pivot.pivot (c.in_ok-pivot.ensures {u = tt}).pivot
    (subst (λ (es : List spec.Equation). each (substituted c.args.s c.in_ok-pivot.pivot) es ≡ None) (c.in_ok-pivot.ensures {u = tt}).rest (c.substitute_in_each.ensures.wide w))

pub returns-clause-ok : goal.returns-clause-ok
returns-clause-ok c =
    whole c.args.s c.args.self.now.lists.items c.args.self.now.equations.items c.requires.linked c.in_ok-pivot.pivot (c.in_ok-pivot.ensures {u = tt}).pivot c.substitute_in_each.new.self.equations.items
    (subst (λ (es : List spec.Equation). each (substituted c.args.s c.in_ok-pivot.pivot) es ≡ Some c.substitute_in_each.new.self.equations.items)
    (c.in_ok-pivot.ensures {u = tt}).rest (c.in_ok-substitute_in_each.ensures {u = tt}).ok)

pub returns-clause-linked : goal.returns-clause-linked
returns-clause-linked c =
    whole_linked c.args.s c.args.self.now.lists.items c.args.self.now.equations.items c.requires.linked c.in_ok-pivot.pivot (c.in_ok-pivot.ensures {u = tt}).pivot c.substitute_in_each.new.self.equations.items
    (subst (λ (es : List spec.Equation). each (substituted c.args.s c.in_ok-pivot.pivot) es ≡ Some c.substitute_in_each.new.self.equations.items)
    (c.in_ok-pivot.ensures {u = tt}).rest (c.in_ok-substitute_in_each.ensures {u = tt}).ok)
    c.substitute_in_each.new.self.lists.items (c.in_ok-substitute_in_each.ensures {u = tt}).linked
