use Rattle.std.proofs.Common.{◌≡◌, inl, inr, ◌<◌, ◌&&◌, false, not, [], get_or, length, refl, sym, ap, ◌∙◌, arith, List, Option, Some, None, is_some}
use Rattle.mdp_graph.specs.{declared.forest.Way.{Way}, Forest.{attached, way_at}}
use Rattle.mdp_graph.proofs.{Pruning.{cases_way}, Seeking.{found_taken, found_kept}, Taking.{grown_set, taken_set, taken_more, grown_start, taken_none}}
use Rattle.mdp_graph.proofs.forest.take_found.Goals.{in-Some+then-not-is_attached+in_ok-push, in-Some+else-not-is_attached, in_default}
use Rattle.mdp_math.proofs.Booleans.{and-false}
use Rattle.mdp_graph.proofs.forest.take_found.Goals as goal

pub loop-i-preserved : goal.loop-i-preserved
loop-i-preserved c =
    let i = c.loop-i.i in
    let states = c.args.states.now in
    let found = c.args.found.now in
    let goals = c.args.goals.now in
    let now = c.loop-i.ways.items in
    let s = get_or states i 0 in
    let inv = c.loop-i.invariant in
    let h : s < length now = let b = c.requires.below i 0 c.loop-i-test.true in let k = inv.grown.count in omega (arith, b, k) in
    elim c.match-found-i.branch [
      | in-Some+then-not-is_attached+in_ok-push w ↦
          (let out : attached goals now s ≡ false = sym (w.is_attached.ensures ∙ ap (λ (x : List (Option Way)). attached goals x s) w.deref.ensures.value) ∙ w.if-not-is_attached.true in
          let v = w.in-Some.way in
          let one = grown_set goals now _ s v h out refl in
          let is : way_at found i ≡ Some v = w.in-Some.is in
          rw (w.ways-is, w.layer-is)
          (record {
            grown = found_taken goals states found i c.args.ways.now.items now _ v is inv.grown one;
            taken = taken_more c.args.ways.now.items now _ [] c.loop-i.layer.items _ inv.grown.kept one.kept inv.taken
                (taken_set goals now _ c.loop-i.layer.items _ s v h out refl w.in_ok-push.ensures.items);
          }))
      | in-Some+else-not-is_attached w ↦
          (let on = sym (w.is_attached.ensures ∙ ap (λ (x : List (Option Way)). attached goals x s) w.deref.ensures.value) ∙ w.if-not-is_attached.false in
          rw (w.ways-is, w.layer-is)
          (record {
            grown = found_kept goals states found i c.args.ways.now.items now now inv.grown (ap (λ b. is_some (way_at found i) && not b) on ∙ and-false (is_some (way_at found i)));
            taken = inv.taken;
          }))
      | in_default w ↦
          (let is : way_at found i ≡ None = elim (cases_way (way_at found i)) [ inl none ↦ none | inr v ↦ absurd (w.in_default.not-Some v.0 v.1) ] in
          rw (w.ways-is, w.layer-is)
          (record {
            grown = found_kept goals states found i c.args.ways.now.items now now inv.grown (ap (λ (o : Option Way). is_some o && not (attached goals now s)) is);
            taken = inv.taken;
          }))
    ]

pub loop-i-init : goal.loop-i-init
loop-i-init c = record {
  grown = grown_start _ _ _ _ (λ s z. (let l = z.1.1 in absurd (omega (arith, l))));
  taken = rw c.new-layer.ensures.items (taken_none _ _);
}

pub is_attached-requires-clause-goals : goal.is_attached-requires-clause-goals
is_attached-requires-clause-goals c = omega (arith, c.requires.below c.loop-i.i 0 c.loop-i-test.true, c.requires.goals)

pub is_attached-requires-clause-ways : goal.is_attached-requires-clause-ways
is_attached-requires-clause-ways c = omega (arith, c.requires.below c.loop-i.i 0 c.loop-i-test.true, c.loop-i.invariant.grown.count, ap length c.deref.ensures.value)

pub index_mut-requires : goal.index_mut-requires
index_mut-requires c = omega (arith, c.requires.below c.loop-i.i 0 c.loop-i-test.true, c.loop-i.invariant.grown.count)
