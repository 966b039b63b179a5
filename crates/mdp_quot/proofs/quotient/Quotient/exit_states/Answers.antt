use Rattle.std.proofs.Common.{◌-◌, ◌<◌, ℕ, get_or, length, ap, arith}
use Rattle.mdp_rows.specs.Preds.{pair}
use Rattle.mdp_quot.specs.Laws.{AreSelected}
use Rattle.mdp_quot.proofs.{Selected.{are_selected}, LiftedFound.{exit-in, exit-taken, read-exit, taken_none, taken_more}}
use Rattle.mdp_quot.proofs.quotient.Quotient.exit_states.Goals.{then-taken-gt0, else-taken-gt0}
use Rattle.mdp_quot.proofs.quotient.Quotient.exit_states.Goals as goal

pub bounds-outer-q : goal.bounds-outer-q
bounds-outer-q c =
    let a = are_selected c.args.model.now c.args.ends.now.parts c.args.self.now c.requires.quotient in
    omega (arith, c.loop-q-test.true, c.nodes-q-end.ensures, c.requires.outer.count, AreSelected.count a)

pub bounds-exits-taken : goal.bounds-exits-taken
bounds-exits-taken c =
    let l = exit-taken c.args.model.now c.args.ends.now.parts c.requires.ends.ends.count c.args.self.now c.requires.quotient c.args.outer.now
    c.requires.outer c.loop-q.q (omega (arith, c.loop-q-test.true, c.nodes-q-end.ensures)) (omega (arith, c.if-taken-gt0.true)) in
    let e = ap length c.exits-exits.ensures in
    omega (arith, l, e)

pub set-requires : goal.set-requires
set-requires c =
    let n : ℕ = c.loop-q.q in
    let k : ℕ = get_or c.args.outer.now n 0 - 1 in
    let h : n < length c.args.self.now.exits = omega (arith, c.loop-q-test.true, c.nodes-q-end.ensures) in
    let l = exit-taken c.args.model.now c.args.ends.now.parts c.requires.ends.ends.count c.args.self.now c.requires.quotient c.args.outer.now c.requires.outer n h (omega (arith, c.if-taken-gt0.true)) in
    let w = exit-in c.args.model.now c.args.ends.now.parts c.requires.ends.ends.count c.args.self.now c.requires.quotient n k h l in
    let z = read-exit c.args.model.now c.args.ends.now.parts c.requires.ends.ends.count c.args.self.now c.requires.quotient n k c.exits-exits.result.now (pair 0 0) h l c.exits-exits.ensures in
    omega (arith, w.0, z, c.loop-q.invariant.count)

pub loop-q-preserved : goal.loop-q-preserved
loop-q-preserved c =
    let n : ℕ = c.loop-q.q in
    let k : ℕ = get_or c.args.outer.now n 0 - 1 in
    let h : n < length c.args.self.now.exits = omega (arith, c.loop-q-test.true, c.nodes-q-end.ensures) in
    elim c.if-taken-gt0.branch [
      | then-taken-gt0 w ↦
          (let l = exit-taken c.args.model.now c.args.ends.now.parts c.requires.ends.ends.count c.args.self.now c.requires.quotient c.args.outer.now c.requires.outer n h (omega (arith, w.if-taken-gt0.true)) in
          rw (w.states-is, w.set.ensures)
          (taken_more c.args.model.now c.args.ends.now.parts c.requires.ends.ends.count c.args.self.now
          c.requires.quotient c.args.outer.now n c.loop-q.states c.loop-q.invariant k h l (omega (arith, w.if-taken-gt0.true)) _
          (read-exit c.args.model.now c.args.ends.now.parts c.requires.ends.ends.count c.args.self.now c.requires.quotient n k w.exits-exits.result.now (pair 0 0) h l w.exits-exits.ensures)))
      | else-taken-gt0 w ↦ rw w.states-is (taken_none c.args.model.now c.args.ends.now.parts c.requires.ends.ends.count
          c.args.self.now c.requires.quotient c.args.outer.now n c.loop-q.states c.loop-q.invariant (omega (arith, w.if-taken-gt0.false)))
    ]
