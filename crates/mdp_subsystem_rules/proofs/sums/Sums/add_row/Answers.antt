use Rattle.std.proofs.Common.{◌<◌, ℕ, length, get_or, sym, ◌∙◌, subst, arith}
use Rattle.mdp_subsystem_rules.proofs.{Adding.{row_next}, Sizes.{sized_entry}}
use Rattle.mdp_subsystem_rules.proofs.sums.Sums.add_row.Goals as goal

pub add_entry-requires-clause-inflows : goal.add_entry-requires-clause-inflows
add_entry-requires-clause-inflows c = subst (λ (n : ℕ). get_or c.args.row.targets.now c.loop-i.i 0 < n) (sym c.loop-i.invariant.1.inflows) (c.requires.targets c.loop-i.i 0 c.loop-i-test.true)

pub loop-i-preserved : goal.loop-i-preserved
loop-i-preserved c =
    let ts = c.args.row.targets.now in
    let ps = c.args.row.probs.now in
    let h : c.loop-i.i < length ts = c.loop-i-test.true in
    let k : c.loop-i.i < length ps = omega (arith, h, c.args.row.same_length) in (
      c.loop-i.invariant.0 ∙ row_next c.args.goals.now c.args.amount.now c.loop-i.self c.add_entry.new.self ts ps c.loop-i.i _ h k (c.in_ok-add_entry.ensures {u = tt}),
      sized_entry (length c.args.goals.now) c.args.goals.now c.args.amount.now c.loop-i.self c.add_entry.new.self _ c.loop-i.invariant.1 (sym (c.in_ok-add_entry.ensures {u = tt})),
    )
