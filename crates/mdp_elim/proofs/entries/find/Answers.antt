use Rattle.std.proofs.{Common.{rules, sym, ◌∙◌}, lemmas.List.Sorted.{answers_always}}
use Rattle.mdp_spec.specs.Mdp.{Entry}
use Rattle.mdp_elim.proofs.Search.{search-found, search-none}
use Rattle.mdp_elim.proofs.entries.find.Goals as goal

pub returns-clause-found : goal.returns-clause-found
returns-clause-found c =
    let facts = c.binary_search_by_key.ensures in
    let by_target = facts.position Entry.target (answers_always _ _ _ (λ f a r g called. search rules)) in
    rw (c.ok.ensures.value) (search-found c.args.target c.args.row.now c.binary_search_by_key.result facts.bound by_target)

pub returns-clause-none : goal.returns-clause-none
returns-clause-none c =
    let facts = c.binary_search_by_key.ensures in
    let by_target = facts.position Entry.target (answers_always _ _ _ (λ f a r g called. search rules)) in
    λ e. search-none c.args.target c.args.row.now c.binary_search_by_key.result by_target (sym c.ok.ensures.value ∙ e)
