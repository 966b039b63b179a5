use Rattle.std.proofs.Common.{◌≡◌, ◌++◌, drop}
use Rattle.mdp_text.specs.{Answer.{Keeps}, Parts.{parts_text}}
use Rattle.mdp_text.proofs.parts.append_parts.Given as goal

abbrev pub invariant-loop-part : goal.invariant-loop-part
invariant-loop-part l = record {
  rest : l.out.items ++ parts_text (drop l.part-index l.parts) ≡ l.initial.out.items ++ parts_text l.parts;
  front : Keeps l.initial.out.items l.out.items;
}
