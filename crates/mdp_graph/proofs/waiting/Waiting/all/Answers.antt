use Rattle.std.proofs.{Common.{ℕ, ◌+◌, arith, get_or}, lemmas.List.{get_or_default}}
use Rattle.std.specs.Vec.{vec_len}
use Rattle.mdp_spec.specs.Mdp.{states_of}
use Rattle.mdp_graph.proofs.{FlatWaiting.{one_more, all_there}, Releasing.{all_counted, all_waiting, lists_by_counts}}
use Rattle.mdp_graph.proofs.waiting.Waiting.all.Goals as goal

pub loop-count-preserved : goal.loop-count-preserved
loop-count-preserved c =
    let n : ℕ = get_or c.deref-count-items.result.now c.loop-count.count-index 0 in
    one_more c.loop-count.choices.items c.resize.new.self.items c.loop-count.starts.items c.push-in-loop-count.new.self.items c.deref-count-items.result.now
    c.loop-count.count-index n (vec_len c.loop-count.choices) (c.len-in-loop-count.result + n) c.len-in-loop-count-2.result
    (omega arith) c.loop-count.invariant c.loop-count-test.true
    (get_or_default c.deref-count-items.result.now c.loop-count.count-index 0 n c.loop-count-test.true)
    (omega arith) c.in_ok-resize.ensures.items c.in_ok-push-2.ensures.items (omega (arith, c.in_ok-resize.ensures.len))

pub invariant_of-result : goal.invariant_of-result
invariant_of-result c = record {
  places = c.loop-count.invariant.places;
  counts_are = all_counted _ _ (all_there _ _ _ _ _ c.loop-count.invariant c.loop-count-test.false c.deref-count-items.ensures.value);
}

pub returns : goal.returns
returns c =
    all_waiting c.args.model.now _
    (lists_by_counts c.args.model.now _ _ (states_of c.args.model.now)
    (all_there _ _ _ _ _ c.loop-count.invariant c.loop-count-test.false c.deref-count-items.ensures.value) c.in_ok-counts.ensures)
