use Rattle.std.proofs.{Common.{◌≡◌, ℕ, ◌<◌, List, length, sym, ap, subst, arith}, lemmas.List.Elements.{All-push}}
use Rattle.std.specs.List.{All}
use Rattle.mdp_spec.specs.Mdp.{states_of}
use Rattle.mdp_parts.proofs.Forbidding.{passing_begins, passing_some, passing_none, passed}
use Rattle.mdp_parts.proofs.search.forbid_leaving.Goals.{then-forbid_at+in_ok-push, else-forbid_at}
use Rattle.mdp_parts.proofs.search.forbid_leaving.Goals as goal

pub loop-s-init : goal.loop-s-init
loop-s-init c = record {
  passing = passing_begins _ _ _ c.requires.allowed;
  below = λ k d l. (let n : length c.clear.new.self.items ≡ 0 = ap (λ (xs : List ℕ). length xs) c.clear.ensures.items in absurd (omega (arith, l, n)));
}

pub loop-s-preserved : goal.loop-s-preserved
loop-s-preserved c =
    let m = c.args.model.now in
    elim c.if-forbid_at.branch [
      | then-forbid_at+in_ok-push w ↦
          rw (w.any-is, w.changed-is)
          (record {
            passing = passing_some m c.args.parts.now c.args.allowed.now c.loop-s.s c.loop-s.allowed c.forbid_at.new.allowed
                c.loop-s.any c.forbid_at.result c.loop-s.invariant.passing c.forbid_at.ensures w.if-forbid_at.true;
            below = subst (λ (xs : List ℕ). All (λ s. s < states_of m) xs) (sym w.in_ok-push.ensures.items)
                (All-push (λ s. s < states_of m) c.loop-s.changed.items c.loop-s.s c.loop-s.invariant.below
                (omega (arith, c.loop-s-test.true, c.states-s-end.ensures)));
          })
      | else-forbid_at w ↦
          rw (w.any-is, w.changed-is)
          (record {
            passing = passing_none m c.args.parts.now c.args.allowed.now c.loop-s.s c.loop-s.allowed c.forbid_at.new.allowed
                c.loop-s.any c.forbid_at.result c.loop-s.invariant.passing c.forbid_at.ensures w.if-forbid_at.false;
            below = c.loop-s.invariant.below;
          })
    ]

pub returns-clause-round : goal.returns-clause-round
returns-clause-round c = passed _ _ _ c.loop-s.s _ _ c.loop-s.invariant.passing (omega arith)
