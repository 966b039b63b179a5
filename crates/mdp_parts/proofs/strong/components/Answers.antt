use Rattle.std.proofs.Common.{ℕ, List, Option, sym, ◌∙◌, subst, arith}
use Rattle.mdp_parts.specs.{Allowed.{allowed_at}, Numbered.{AreGrouped, IsRenumbered}}
use Rattle.mdp_parts.proofs.ComponentsFound.{targets_edges, edges_all, order_all, groups_below, components_found, order_below, back_edges}
use Rattle.mdp_parts.proofs.strong.components.Goals as goal

pub reversed-requires : goal.reversed-requires
reversed-requires c =
    let m = c.args.model.now in
    record {
      states = c.in_ok-edges.ensures.count ∙ sym c.states.ensures;
      edges = targets_edges m c.known.ensures.mdp (allowed_at c.args.allowed.now) c.in_ok-edges.edges c.states.result c.in_ok-edges.ensures c.states.ensures;
    }

pub depth_order-requires-clause-edges : goal.depth_order-requires-clause-edges
depth_order-requires-clause-edges c = edges_all c.args.model.now c.known.ensures.mdp (allowed_at c.args.allowed.now) c.in_ok-edges.edges c.in_ok-edges.ensures

pub group_back-requires-clause-all : goal.group_back-requires-clause-all
group_back-requires-clause-all c =
    order_all c.in_ok-edges.edges c.in_ok-order.order.items c.deref.result.now c.states-3.result c.in_ok-order.ensures c.deref.ensures.value (c.in_ok-edges.ensures.count ∙ sym c.states-3.ensures)

pub numbered-requires-clause-below : goal.numbered-requires-clause-below
numbered-requires-clause-below c = λ s k h e.
    (let l = groups_below c.in_ok-back.back c.deref.result.now c.states-3.result c.in_ok-groups.groups.items c.deref-2.result.now c.in_ok-groups.ensures c.deref-2.ensures.value s k h e in omega
    (arith, l, c.states-3.ensures, c.states-4.ensures))

pub returns : goal.returns
returns c =
    let m = c.args.model.now in
    rw (c.in_ok-plain_ranks.ensures, c.deref-3.ensures.value)
    (components_found m c.known.ensures.mdp (allowed_at c.args.allowed.now) c.in_ok-edges.edges c.in_ok-back.back c.in_ok-order.order.items c.in_ok-groups.groups.items
    c.in_ok-numbering.numbering.numbers.items c.states-3.result c.states-3.ensures c.in_ok-edges.ensures c.in_ok-back.ensures c.in_ok-order.ensures
    (subst (λ (xs : List ℕ). AreGrouped c.in_ok-back.back xs c.states-3.result c.in_ok-groups.groups.items) c.deref.ensures.value c.in_ok-groups.ensures)
    (subst (λ (xs : List (Option ℕ)). IsRenumbered xs c.in_ok-numbering.numbering.numbers.items) c.deref-2.ensures.value c.in_ok-numbering.ensures.numbers))

pub group_back-requires-clause-below : goal.group_back-requires-clause-below
group_back-requires-clause-below c =
    order_below c.in_ok-edges.edges c.in_ok-order.order.items c.deref.result.now c.states-3.result c.in_ok-order.ensures c.deref.ensures.value (c.in_ok-edges.ensures.count ∙ sym c.states-3.ensures)

pub group_back-requires-clause-edges : goal.group_back-requires-clause-edges
group_back-requires-clause-edges c = back_edges c.in_ok-edges.edges c.in_ok-back.back c.states-3.result c.in_ok-back.ensures (c.in_ok-edges.ensures.count ∙ sym c.states-3.ensures)
