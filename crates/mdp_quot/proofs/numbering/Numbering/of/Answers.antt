use Rattle.std.proofs.Common.{sym, ◌∙◌, arith, replicate, None, rules, ◌≡◌, ℕ, subst}
use Rattle.mdp_quot.proofs.NodesFound.{if_below, part-below, nothing_numbered}
use Rattle.mdp_spec.specs.Mdp.{states_of}
use Rattle.mdp_quot.specs.Numbering.{IsNumbering}
use Rattle.mdp_quot.proofs.numbering.Numbering.of.Goals as goal

pub add-requires-clause-part : goal.add-requires-clause-part
add-requires-clause-part c =
    if_below _ _ (λ i e. (let l = part-below c.args.ends.now.parts c.loop-s.s c.requires.ends.numbered i (sym c.of.ensures ∙ e) in omega (arith, l, c.loop-s.invariant.room)))

pub add-requires-clause-few : goal.add-requires-clause-few
add-requires-clause-few c = omega (arith, c.loop-s.invariant.few)

pub loop-s-preserved : goal.loop-s-preserved
loop-s-preserved c = c.in_ok-add.ensures c.args.ends.now.parts c.loop-s.s c.loop-s.invariant c.of.ensures

pub returns : goal.returns
returns c =
    let all : c.loop-s.s ≡ states_of c.args.model.now = omega arith in
    subst (λ (n : ℕ). IsNumbering c.args.ends.now.parts n c.loop-s.numbering.nodes.items c.loop-s.numbering.components.items c.loop-s.numbering.first.items) all c.loop-s.invariant

pub loop-s-init : goal.loop-s-init
loop-s-init c =
    let none : c.in_ok-vec.field-0.items ≡ replicate c.count.result None = search rules in
    rw (c.new.ensures.items, c.new-2.ensures.items) (nothing_numbered c.args.ends.now.parts _ (rw c.count.ensures at none))
