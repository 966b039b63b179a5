use Rattle.std.proofs.{Common.{◌≡◌, ◌∙◌, List, Some, Err, sym, ap, subst, rules, arith}, lemmas.List.{with_items_is}}
use Rattle.mdp_spec.specs.Mdp.{Entry}
use Rattle.mdp_wide.specs.declared.unfinished.Unfinished.TheVariants as error
use Rattle.mdp_elim.specs.Entries.{Between, plus_row}
use Rattle.mdp_elim.proofs.{InPlace.{none-left}, entries.add_row.Goals.{In_ok-left}}
use Rattle.mdp_elim.proofs.entries.add_row.Goals as goal

-- so far the sum is that of what is left and the new row
so_far : (c : In_ok-left) → plus_row c.args.times.now c.args.source.now c.args.row.now.items ≡ plus_row c.args.times.now c.in_ok-left.left.now c.add_known.new.row
so_far c = ap (plus_row c.args.times.now c.args.source.now) (sym c.deref_mut.ensures.value) ∙ (c.in_ok-left.ensures {u = tt}).ok

pub add_known-requires-clause-row : goal.add_known-requires-clause-row
add_known-requires-clause-row c = (c.requires.row.0, subst (Between 0 c.requires.row.0) (sym c.deref_mut.ensures.value) c.requires.row.1)

pub add_known-requires-clause-source : goal.add_known-requires-clause-source
add_known-requires-clause-source c = c.requires.source

pub returns-then-is_empty-clause-ok : goal.returns-then-is_empty-clause-ok
returns-then-is_empty-clause-ok c =
    let same = with_items_is c.args.row.now c.add_known.new.row (omega arith) in
    let none = none-left c.in_ok-left.left.now c.is_empty.result c.is_empty.ensures c.if-is_empty.true in
    so_far (goal.at.returns-then-is_empty-clause-ok c).In_ok-left ∙ ap (λ (xs : List Entry). plus_row c.args.times.now xs c.add_known.new.row) none ∙ ap Some (sym same)

pub merged-requires : goal.merged-requires
merged-requires c = (c.in_ok-left.ensures {u = tt}).left

pub returns-in_err-row-clause-wide : goal.returns-in_err-row-clause-wide
returns-in_err-row-clause-wide c = λ h.
    let w : c.merged.result ≡ Err (error.TooWide tt) = search rules in
    let same = with_items_is c.args.row.now c.add_known.new.row (omega arith) in
    so_far (goal.at.returns-in_err-row-clause-wide c).In_ok-left ∙ ap (plus_row c.args.times.now c.in_ok-left.left.now) (sym (c.deref.ensures.value ∙ same)) ∙ c.merged.ensures.wide w

pub returns-clause-ok : goal.returns-clause-ok
returns-clause-ok c =
    let same = with_items_is c.args.row.now c.add_known.new.row (omega arith) in
    so_far (goal.at.returns-clause-ok c).In_ok-left ∙ ap (plus_row c.args.times.now c.in_ok-left.left.now) (sym (c.deref.ensures.value ∙ same)) ∙ (c.in_ok-row.ensures {u = tt}).ok

pub returns-in_err-left-clause-wide : goal.returns-in_err-left-clause-wide
returns-in_err-left-clause-wide c = λ _. ap (plus_row c.args.times.now c.args.source.now) (sym c.deref_mut.ensures.value) ∙ (c.in_err-left.ensures {u = tt}).wide
