use Rattle.std.proofs.Common.{◌≡◌, ◌<◌, ◌+◌, ◌-◌, ◌∙◌, ℕ, length, sym, ap, subst, arith, false}
use Rattle.std.specs.Prelude.{replicate}
use Rattle.mdp_reach.specs.Query.{plain}
use Rattle.mdp_witness.specs.LeastEvaluation.{Evaluates, value_from}
use Rattle.mdp_witness.proofs.Trying.{AreLeftFrom, left_first, left_skip, left_step, left_all}
use Rattle.mdp_witness.proofs.min_trials.Subsystems.trials.Goals as goal

pub at-requires : goal.at-requires
at-requires c = let e = c.loop-s.invariant.one_kept_each in let f = c.requires.first in let g = c.states-s.ensures in let h = c.loop-s.auto.s in let k = c.loop-s-test.true in omega arith

pub loop-s-init : goal.loop-s-init
loop-s-init c =
    left_first (Evaluates c.args.self.now.model.now c.args.self.now.goals.now) (value_from c.args.self.now.start) c.args.threshold.now c.args.first c.states-s.result c.in_ok-wide.wide
    (plain c.args.found) (c.requires.first ∙ sym c.states-s.ensures)
    (c.in_ok-wide.ensures {u = tt} ∙ ap (λ (n : ℕ). replicate n false) (c.states.ensures ∙ sym c.states-s.ensures)) c.requires.found

pub loop-s-preserved : goal.loop-s-preserved
loop-s-preserved c =
    let again : c.loop-s.s ≡ c.loop-s.s - 1 + 1 = let k = c.loop-s-test.true in omega arith in
    let inside = let f = c.requires.first in let g = c.states-s.ensures in let h = c.loop-s.auto.s in let k = c.loop-s-test.true in let l : c.loop-s.s - 1 < length c.args.first = omega arith in l in
    left_skip (Evaluates c.args.self.now.model.now c.args.self.now.goals.now) (value_from c.args.self.now.start) c.args.threshold.now c.args.first (c.loop-s.s - 1) c.loop-s.kept
    c.loop-s.wide (plain c.loop-s.last) inside
    (subst (λ (x : ℕ). AreLeftFrom (Evaluates c.args.self.now.model.now c.args.self.now.goals.now) (value_from c.args.self.now.start) c.args.threshold.now c.args.first x c.loop-s.kept
    c.loop-s.wide (plain c.loop-s.last)) again c.loop-s.invariant)
    (sym c.at.ensures ∙ c.if-at.false)

pub loop-s-preserved-then-at : goal.loop-s-preserved-then-at
loop-s-preserved-then-at c =
    let again : c.loop-s.s ≡ c.loop-s.s - 1 + 1 = let k = c.loop-s-test.true in omega arith in
    let inside = let f = c.requires.first in let g = c.states-s.ensures in let h = c.loop-s.auto.s in let k = c.loop-s-test.true in let l : c.loop-s.s - 1 < length c.args.first = omega arith in l in
    left_step (Evaluates c.args.self.now.model.now c.args.self.now.goals.now) (value_from c.args.self.now.start) c.args.threshold.now c.args.first (c.loop-s.s - 1) c.loop-s.kept
    c.loop-s.wide (plain c.loop-s.last) inside
    (subst (λ (x : ℕ). AreLeftFrom (Evaluates c.args.self.now.model.now c.args.self.now.goals.now) (value_from c.args.self.now.start) c.args.threshold.now c.args.first x c.loop-s.kept
    c.loop-s.wide (plain c.loop-s.last)) again c.loop-s.invariant)
    c.try_state.new.kept c.try_state.new.wide (plain c.in_ok-last.last) (sym c.at.ensures ∙ c.if-at.true) (c.in_ok-last.ensures {u = tt}).step

pub returns : goal.returns
returns c = record {
  left =
      left_all (Evaluates c.args.self.now.model.now c.args.self.now.goals.now) (value_from c.args.self.now.start) c.args.threshold.now c.args.first c.loop-s.kept c.loop-s.wide (plain c.loop-s.last)
      (subst (λ (x : ℕ). AreLeftFrom (Evaluates c.args.self.now.model.now c.args.self.now.goals.now) (value_from c.args.self.now.start) c.args.threshold.now c.args.first x c.loop-s.kept
      c.loop-s.wide (plain c.loop-s.last))
      (let e : c.loop-s.s ≡ 0 = omega arith in e) c.loop-s.invariant);
}
