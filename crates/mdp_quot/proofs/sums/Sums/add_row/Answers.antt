use Rattle.std.proofs.{Common.{◌≡◌, ◌<◌, length, slice_index, ap, ◌∙◌, subst, arith, None}, lemmas.List.{get_or_default}}
use Rattle.std.specs.Prelude.{slice_set}
use Rattle.mdp_math.specs.{Rational.{ℚ, ◌+ℚ◌}, Written.{written_add}}
use Rattle.mdp_math.proofs.Order.{0ℚ}
use Rattle.mdp_spec.specs.Mdp.{value_at}
use Rattle.mdp_quot.proofs.Summing.{clear_sums, add_fits, entry_more, take_all}
use Rattle.mdp_quot.proofs.sums.Sums.add_row.Goals as goal

pub loop-i-init : goal.loop-i-init
loop-i-init c = clear_sums _ (slice_index c.args.nodes.now) _ _ c.requires.clear

pub add-requires-clause-fits : goal.add-requires-clause-fits
add-requires-clause-fits c =
    let l : c.loop-i.i < length c.args.row.probs.now = omega (arith, c.args.row.same_length, c.loop-i-test.true) in
    subst (λ (z : ℚ). written_add (value_at c.loop-i.self.sums.items (slice_index c.args.nodes.now (slice_index c.args.row.targets.now c.loop-i.i))) z ≡ None → ⊥)
    (get_or_default c.args.row.probs.now c.loop-i.i 0ℚ c.index-row-i.result l)
    (add_fits (length c.args.self.now.sums.items) (slice_index c.args.nodes.now) c.args.row.targets.now c.args.row.probs.now
    c.loop-i.i c.loop-i.self.sums.items c.loop-i.self.seen.items c.args.row.same_length c.args.row.distribution c.requires.width
    c.loop-i.invariant c.loop-i-test.true (c.requires.nodes _ 0 (c.requires.targets c.loop-i.i 0 c.loop-i-test.true)))

pub loop-i-preserved : goal.loop-i-preserved
loop-i-preserved c =
    let l : c.loop-i.i < length c.args.row.probs.now = omega (arith, c.args.row.same_length, c.loop-i-test.true) in
    entry_more (length c.args.self.now.sums.items) (slice_index c.args.nodes.now) c.args.row.targets.now c.args.row.probs.now
    c.loop-i.i c.loop-i.self.sums.items c.add.new.self.sums.items c.loop-i.self.seen.items c.add.new.self.seen.items
    c.args.row.same_length c.args.row.distribution
    c.loop-i.invariant c.loop-i-test.true (c.requires.nodes _ 0 (c.requires.targets c.loop-i.i 0 c.loop-i-test.true))
    (c.in_ok-add.ensures.sums
    ∙ ap (λ (z : ℚ). slice_set c.loop-i.self.sums.items (slice_index c.args.nodes.now (slice_index c.args.row.targets.now c.loop-i.i))
    (value_at c.loop-i.self.sums.items (slice_index c.args.nodes.now (slice_index c.args.row.targets.now c.loop-i.i)) +ℚ z))
    (get_or_default c.args.row.probs.now c.loop-i.i c.index-row-i.result 0ℚ l))
    c.in_ok-add.ensures.first c.in_ok-add.ensures.later

pub returns : goal.returns
returns c = take_all (length c.args.self.now.sums.items) (slice_index c.args.nodes.now) c.args.row.targets.now c.args.row.probs.now
    c.loop-i.i c.loop-i.self.sums.items c.loop-i.self.seen.items c.args.row.same_length c.loop-i-test.false c.loop-i.invariant
