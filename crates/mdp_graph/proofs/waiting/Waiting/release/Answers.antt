use Rattle.std.proofs.{Common.{ℕ, ◌+◌, arith, sym, ap, ◌∙◌, false, subst, map, length}, lemmas.List.{length-map, length-set}}
use Rattle.mdp_rows.specs.Pieces.{ArePlaces}
use Rattle.mdp_graph.specs.Waiting.{count_waiting}
use Rattle.mdp_graph.proofs.{FlatPieces.{place_after}, FlatWaiting.{choice_there, choice_read, choice_set, count_there}}
use Rattle.mdp_graph.proofs.Releasing.{some_counted, counted_less, last_waited, released_one, released_before}
use Rattle.mdp_graph.proofs.waiting.Waiting.release.Goals as goal

pub index-requires : goal.index-requires
index-requires c = omega (arith, place_after _ _ _ _ c.self.view_is c.requires.state)

pub overflow_add-place : goal.overflow_add-place
overflow_add-place c = omega (arith, choice_there _ _ _ _ c.args.s c.args.c _ c.self.invariant c.self.view_is c.requires.state c.requires.choice c.index.ensures)

pub index-requires-2 : goal.index-requires-2
index-requires-2 c = omega (arith, choice_there _ _ _ _ c.args.s c.args.c _ c.self.invariant c.self.view_is c.requires.state c.requires.choice c.index.ensures)

pub index_mut-requires : goal.index_mut-requires
index_mut-requires c = omega (arith, choice_there _ _ _ _ c.args.s c.args.c _ c.self.invariant c.self.view_is c.requires.state c.requires.choice c.index.ensures)

pub returns-then-not-index-clause-released : goal.returns-then-not-index-clause-released
returns-then-not-index-clause-released c =
    released_before c.args.self.now c.args.s c.args.c (sym (choice_read _ _ _ _ c.args.s c.args.c _ c.self.invariant
    c.self.view_is c.requires.state c.requires.choice c.index.ensures _ c.index-2.ensures) ∙ c.if-not-index.true)

pub overflow_sub-index_mut : goal.overflow_sub-index_mut
overflow_sub-index_mut c =
    let p = some_counted c.args.self.now c.self.inside.counts.items c.args.s c.args.c _
    (count_there _ _ _ _ c.args.s c.self.invariant c.self.view_is c.requires.state) c.requires.state
    (sym (choice_read _ _ _ _ c.args.s c.args.c _ c.self.invariant c.self.view_is c.requires.state c.requires.choice c.index.ensures _ c.index-2.ensures) ∙ c.if-not-index.false) c.index_mut-2.ensures.value in
    omega (arith, p)

pub invariant_of-self : goal.invariant_of-self
invariant_of-self c = record {
  places =
      subst (λ (n : ℕ). ArePlaces c.self.inside.starts.items n) (sym (length-set c.self.inside.choices.items (c.index.result.now + c.args.c) false))
      c.self.invariant.places;
  counts_are =
      counted_less c.args.self.now c.self.inside.counts.items c.args.s c.args.c _
      (count_there _ _ _ _ c.args.s c.self.invariant c.self.view_is c.requires.state) c.requires.state
      (sym (choice_read _ _ _ _ c.args.s c.args.c _ c.self.invariant c.self.view_is c.requires.state c.requires.choice c.index.ensures _ c.index-2.ensures) ∙ c.if-not-index.false) c.index_mut-2.ensures.value
      ∙ sym (ap (map count_waiting) (choice_set _ _ _ _ c.args.s c.args.c _ c.self.invariant c.self.view_is c.requires.state c.requires.choice c.index.ensures false));
}

pub returns-clause-released : goal.returns-clause-released
returns-clause-released c =
    rw (choice_set _ _ _ _ c.args.s c.args.c _ c.self.invariant c.self.view_is c.requires.state c.requires.choice c.index.ensures false)
    (released_one c.args.self.now c.args.s c.args.c c.requires.state)

pub returns-clause-last : goal.returns-clause-last
returns-clause-last c =
    rw (choice_set _ _ _ _ c.args.s c.args.c _ c.self.invariant c.self.view_is c.requires.state c.requires.choice c.index.ensures false)
    (last_waited c.args.self.now c.self.inside.counts.items c.args.s c.args.c _
    (count_there _ _ _ _ c.args.s c.self.invariant c.self.view_is c.requires.state) c.requires.state
    (sym (choice_read _ _ _ _ c.args.s c.args.c _ c.self.invariant c.self.view_is c.requires.state c.requires.choice c.index.ensures _ c.index-2.ensures) ∙ c.if-not-index.false)
    c.index_mut-2.ensures.value _ c.index-3.ensures)

pub index-requires-3 : goal.index-requires-3
index-requires-3 c =
    let n = ap length (count_there _ _ _ _ c.args.s c.self.invariant c.self.view_is c.requires.state) ∙ length-map c.args.self.now count_waiting in
    omega (arith, n, c.requires.state, c.self.inside.counts.ok.0)

pub index_mut-requires-2 : goal.index_mut-requires-2
index_mut-requires-2 c =
    let n = ap length (count_there _ _ _ _ c.args.s c.self.invariant c.self.view_is c.requires.state) ∙ length-map c.args.self.now count_waiting in
    omega (arith, n, c.requires.state)
