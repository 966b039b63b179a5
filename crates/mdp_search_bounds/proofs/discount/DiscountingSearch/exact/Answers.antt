use Rattle.std.proofs.Common.{ℕ, List, Ok, inr, subst}
use Rattle.mdp_discount_rules.specs.Plain.{plain}
use Rattle.mdp_discount.specs.Query.{EndsSo}
use Rattle.mdp_search_bounds.proofs.DiscountExact.{exact-near, exact_held}
use Rattle.mdp_search_bounds.proofs.discount.DiscountingSearch.exact.Goals as goal

pub returns-in-Ok-clause-near : goal.returns-in-Ok-clause-near
returns-in-Ok-clause-near c digits =
    let is = (c.in_ok-bounds_of-in-Ok.ensures {u = tt}).exact in
    exact-near digits c.args.self.now.model.now c.in-Ok.answer.values.items c.in_ok-bounds_of-in-Ok.field-0.lower.items c.in_ok-bounds_of-in-Ok.field-0.upper.items is.lower is.upper

pub returns-in-Ok-clause-held : goal.returns-in-Ok-clause-held
returns-in-Ok-clause-held c refused =
    let p = c.args.self.now in
    let answer = c.in-Ok.answer in
    let bounds = c.in_ok-bounds_of-in-Ok.field-0 in
    let made = c.in_ok-bounds_of-in-Ok.ensures {u = tt} in
    inr (
      plain answer,
      subst (λ (name : List ℕ). EndsSo p.dir p.model.now p.name name p.factor.now (Ok (plain answer))) c.name-name.ensures (c.in-Ok.ensures {u = tt}).path,
      λ all. refused (record {
        rules = exact_held p.model.now p.name p.factor.now answer.values.items answer.remainder answer.choices.items p.dir bounds made.exact (c.in-Ok.ensures {u = tt}).rules.rules all;
        sizes = made.sizes;
      }),
    )
