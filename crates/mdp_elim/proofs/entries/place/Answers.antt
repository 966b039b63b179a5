use Rattle.std.proofs.{Common.{ℕ, sym, ap, subst, ◌∙◌, ◌≤◌, arith}, lemmas.Bool.{le-leb}, lemmas.List.{get_or_default}}
use Rattle.mdp_spec.specs.Mdp.{Entry}
use Rattle.mdp_elim.proofs.Merge.{no_entry, place_is}
use Rattle.mdp_elim.proofs.entries.place.Goals as goal

pub returns-then-target : goal.returns-then-target
returns-then-target c =
    sym (place_is c.args.target c.args.row.now c.loop-i.i c.loop-i.invariant
    (λ l. le-leb _ _ (subst (λ (n : ℕ). c.args.target ≤ n) (c.target.ensures ∙ ap Entry.target (c.index-row-i.is ∙ get_or_default c.args.row.now c.loop-i.i _ no_entry l)) c.if-target.true))
    (omega arith))

pub returns : goal.returns
returns c = sym (place_is c.args.target c.args.row.now _ (λ k l. c.loop-i.invariant k (omega arith)) (λ l. absurd (omega arith)) (omega arith))
