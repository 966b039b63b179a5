use Rattle.std.proofs.Common.{◌≡◌, ◌++◌, take}
use Rattle.mdp_text.specs.Answer.{Keeps}
use Rattle.mdp_horizon.specs.Spelling.{choice_words}
use Rattle.mdp_horizon.proofs.push.push_choices.Given as goal

abbrev pub invariant-loop-choice : goal.invariant-loop-choice
invariant-loop-choice l = record {
  made : l.out.items ≡ l.initial.out.items ++ choice_words (take l.choice-index l.choices);
  front : Keeps l.initial.out.items l.out.items;
}
