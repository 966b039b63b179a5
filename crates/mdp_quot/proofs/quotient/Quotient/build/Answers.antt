use Rattle.std.proofs.Common.{◌≡◌, ℕ, ◌<◌, List, sym, ap, ◌∙◌, subst, arith, refl}
use Rattle.std.specs.List.{All}
use Rattle.mdp_rows.specs.declared.preds.Pred.{Pred}
use Rattle.mdp_ends.specs.Quotient.{nodes_in}
use Rattle.mdp_quot.specs.{Quotient.{Quotient, IsQuotient}, QuotientView.{quotient_in}}
use Rattle.mdp_quot.proofs.{NodesFound.{nodes_all_below}, QuotientFound.{lists-choices, quotient_laid, shaped}}
use Rattle.mdp_ends.proofs.Exits.{IsChoice}
use Rattle.mdp_quot.proofs.quotient.Quotient.build.Goals as goal

below_by : (ns ns' : List ℕ) (n n' : ℕ) → ns' ≡ ns → n' ≡ n → All (λ k. k < n) ns → All (λ k. k < n') ns'
below_by ns ns' n n' e f h = subst (λ z. All (λ k. k < z) ns') (sym f) (subst (λ (xs : List ℕ). All (λ k. k < n) xs) (sym e) h)

pub exit_lists-requires-clause-below : goal.exit_lists-requires-clause-below
exit_lists-requires-clause-below c = below_by _ _ _ _ c.deref.ensures.value c.len-count.ensures (nodes_all_below _ _ _ _ _ c.in_ok-numbering.ensures)

pub all_nodes-requires-clause-below : goal.all_nodes-requires-clause-below
all_nodes-requires-clause-below c = below_by _ _ _ _ refl c.in_ok-numbering.ensures.next (nodes_all_below _ _ _ _ _ c.in_ok-numbering.ensures)

pub all_nodes-requires-clause-exits : goal.all_nodes-requires-clause-exits
all_nodes-requires-clause-exits c =
    subst (λ (lists : List (List Pred)). All (All (IsChoice c.args.model.now)) lists) (sym c.deref-2.ensures.value)
    (lists-choices c.args.model.now c.args.ends.now.parts c.deref.result.now c.len-count.result c.in_ok-lists.lists.items c.in_ok-lists.ensures)

pub from_parts-requires : goal.from_parts-requires
from_parts-requires c =
    let i = c.in_ok-numbering.ensures in
    let e = ap nodes_in (c.in_ok-node_of.ensures ∙ c.deref-3.ensures.value) in
    shaped c.args.model.now c.known.ensures.mdp c.args.ends.now.parts c.requires.ends (quotient_in c.in_ok-node_of.node_of.now c.in_ok-nodes-2.nodes.now)
    (quotient_laid c.args.model.now c.args.ends.now.parts c.in_ok-numbering.numbering.nodes.items c.in_ok-numbering.numbering.components.items c.in_ok-numbering.numbering.first.items
    c.in_ok-lists.lists.items c.requires.ends.count c.in_ok-numbering.ensures _ c.deref.ensures.value _ c.len-count.ensures c.in_ok-lists.ensures _ c.deref-2.ensures.value _
    c.in_ok-nodes.ensures.components c.in_ok-nodes.ensures.exits c.in_ok-nodes.ensures.rows _ (c.in_ok-node_of.ensures ∙ c.deref-3.ensures.value) _ (c.in_ok-nodes-2.ensures ∙ c.deref-4.ensures.value))
    (let f = c.known.ensures.mdp.few in omega (arith, e, i.next, i.few, f))

pub returns : goal.returns
returns c =
    subst (λ (r : Quotient). IsQuotient c.args.model.now c.args.ends.now.parts r) (sym c.from_parts.ensures)
    (quotient_laid c.args.model.now c.args.ends.now.parts c.in_ok-numbering.numbering.nodes.items c.in_ok-numbering.numbering.components.items c.in_ok-numbering.numbering.first.items
    c.in_ok-lists.lists.items c.requires.ends.count c.in_ok-numbering.ensures _ c.deref.ensures.value _ c.len-count.ensures c.in_ok-lists.ensures _ c.deref-2.ensures.value _
    c.in_ok-nodes.ensures.components c.in_ok-nodes.ensures.exits c.in_ok-nodes.ensures.rows _ (c.in_ok-node_of.ensures ∙ c.deref-3.ensures.value) _ (c.in_ok-nodes-2.ensures ∙ c.deref-4.ensures.value))
