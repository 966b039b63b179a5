use Rattle.std.proofs.Common.{ℕ, ◌∙◌, sym, ap, subst, Bool, false, List}
use Rattle.std.specs.Prelude.{replicate}
use Rattle.mdp_witness.specs.First.{IsFirst}
use Rattle.mdp_witness.proofs.Finding.{finding_start, popped_inside, popped_next, popped_less, first_of}
use Rattle.mdp_witness.proofs.first.Query.first_set.Goals as goal

pub loop-s-init : goal.loop-s-init
loop-s-init c =
    finding_start c.args.self.now.dir c.args.self.now.model.now c.args.self.now.goals.now c.args.self.now.values.now c.args.self.now.policy.now c.args.start c.known.ensures.mdp
    c.args.self.now.chosen c.in_ok-front.front c.find.new.front c.requires.start ((c.in_ok-front.ensures {u = tt}).found ∙ ap (λ (n : ℕ). replicate n false) c.states.ensures)
    (c.in_ok-front.ensures {u = tt}).waiting
    (c.in_ok-find.ensures {u = tt}).found

pub find_next-requires-clause-state : goal.find_next-requires-clause-state
find_next-requires-clause-state c =
    popped_inside c.args.self.now.dir c.args.self.now.model.now c.args.self.now.goals.now c.args.self.now.values.now c.args.self.now.policy.now c.args.start c.known.ensures.mdp
    c.args.self.now.chosen c.loop-s.front c.next.new.self c.in-Some.s c.loop-s.invariant c.next.ensures.found (c.in-Some.ensures {u = tt}).last

pub loop-s-smaller : goal.loop-s-smaller
loop-s-smaller c =
    popped_less c.args.self.now.dir c.args.self.now.model.now c.args.self.now.goals.now c.args.self.now.values.now c.args.self.now.policy.now c.args.start c.known.ensures.mdp
    c.args.self.now.chosen c.loop-s.front c.next.new.self c.in-Some.s c.loop-s.invariant c.next.ensures.found (c.in-Some.ensures {u = tt}).last
    c.find_next.new.front (c.in_ok-find_next.ensures {u = tt}).found

pub loop-s-preserved : goal.loop-s-preserved
loop-s-preserved c =
    popped_next c.args.self.now.dir c.args.self.now.model.now c.args.self.now.goals.now c.args.self.now.values.now c.args.self.now.policy.now c.args.start c.known.ensures.mdp
    c.args.self.now.chosen c.loop-s.front c.next.new.self c.in-Some.s c.loop-s.invariant c.next.ensures.found (c.in-Some.ensures {u = tt}).last
    c.find_next.new.front (c.in_ok-find_next.ensures {u = tt}).found

pub returns : goal.returns
returns c = record {
  first = subst (λ (found : List Bool). IsFirst c.args.self.now.dir c.args.self.now.model.now c.args.self.now.goals.now c.args.self.now.values.now c.args.self.now.policy.now c.args.start found)
      (sym (c.into_found.ensures ∙ c.next.ensures.found))
      (first_of c.args.self.now.dir c.args.self.now.model.now c.args.self.now.goals.now c.args.self.now.values.now c.args.self.now.policy.now c.args.start c.known.ensures.mdp
      c.args.self.now.chosen c.loop-s.front c.loop-s.invariant (c.in_default.ensures {u = tt}).none);
}
