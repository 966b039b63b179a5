use Rattle.std.proofs.{Common.{◌≡◌, ◌<◌, ◌∙◌, length, get_or, true, false, rules, arith}, lemmas.List.{get_or_default, length-set}}
use Rattle.mdp_math.proofs.Order.{0ℚ}
use Rattle.mdp_spec.specs.Row.{entries}
use Rattle.mdp_elim.specs.Equation as spec
use Rattle.mdp_elim.specs.System.{is_active}
use Rattle.mdp_elim.proofs.{Expected.{row_put, row_left}, transposed.push_row.Goals.{then-at+in_ok-push, else-at}}
use Rattle.mdp_elim.proofs.transposed.push_row.Goals as goal

pub loop-i-preserved : goal.loop-i-preserved
loop-i-preserved c =
    let ts = c.args.row.targets.now in
    let ps = c.args.row.probs.now in
    let i = c.loop-i.i in
    let v = get_or ts i 0 in
    let l : i < length ps = omega (arith, c.args.row.same_length) in
    let target = get_or_default ts i 0 v (omega arith) in
    let inside : v < length c.loop-i.equations = let t = c.requires.targets i 0 (omega arith) in omega (arith, t, c.requires.states, c.loop-i.invariant.count) in
    elim c.if-at.branch [
      | then-at+in_ok-push w ↦
          let on : is_active c.args.active.now v ≡ true = search rules in
          let p = get_or ps i w.index-row-i.result in
          rw w.equations-is
          (record {
            count = length-set c.loop-i.equations v w.push.new.self ∙ c.loop-i.invariant.count;
            row = row_put c.args.active.now c.args.t ts ps i v p (omega arith) c.args.row.same_length target
                (get_or_default ps i w.index-row-i.result p l) c.loop-i.equations (entries ts ps) c.args.equations.now c.loop-i.invariant.row
                w.push.new.self _ w.new.result inside (w.in_ok-push.ensures {u = tt}) (get_or_default c.loop-i.equations v _ spec.no_equation inside) w.new.ensures on;
          })
      | else-at w ↦
          let off : is_active c.args.active.now v ≡ false = search rules in
          rw w.equations-is
          (record {
            count = c.loop-i.invariant.count;
            row = row_left c.args.active.now c.args.t ts ps i v (get_or ps i 0ℚ) (omega arith) c.args.row.same_length target
                (get_or_default ps i 0ℚ _ l) c.loop-i.equations (entries ts ps) c.args.equations.now c.loop-i.invariant.row off;
          })
    ]
