use Rattle.std.proofs.{Common.{nat_le, sym, arith}, lemmas.Bool.{le-leb}, lemmas.List.Sums.{position_or_len_is}}
use Rattle.mdp_rows.proofs.assembly.place_of_label.Goals as goal

pub returns-then-places-i : goal.returns-then-places-i
returns-then-places-i c = sym (position_or_len_is (λ k. nat_le c.args.label k) c.args.places.now c.loop-i.i 0 (omega arith) c.loop-i.invariant (λ _. le-leb _ _ c.if-places-i.true))

pub returns : goal.returns
returns c = sym (position_or_len_is (λ k. nat_le c.args.label k) c.args.places.now _ 0 (omega arith) (λ k l. c.loop-i.invariant k (omega arith)) (λ l. absurd (omega arith)))
