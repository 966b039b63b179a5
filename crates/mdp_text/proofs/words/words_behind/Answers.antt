use Rattle.std.proofs.Common.{sym, ◌∙◌}
use Rattle.mdp_text.proofs.Cuts.{behind_shaped, behind_other, behind_none}
use Rattle.mdp_text.proofs.words.words_behind.Goals as goal

pub returns-clause-words : goal.returns-clause-words
returns-clause-words c = behind_shaped c.args.due.now c.args.count c.args.line c.args.text.now _ _ c.in-Some.ensures (sym c.has_shape.ensures ∙ c.if-not-has_shape.false)

pub returns-then-not-has_shape-clause-words : goal.returns-then-not-has_shape-clause-words
returns-then-not-has_shape-clause-words c = behind_other c.args.due.now c.args.count c.args.line c.args.text.now _ _ c.in-Some.ensures (sym c.has_shape.ensures ∙ c.if-not-has_shape.true)

pub returns-in_default-clause-words : goal.returns-in_default-clause-words
returns-in_default-clause-words c = behind_none c.args.due.now c.args.count c.args.line c.args.text.now c.requires c.in_default.ensures
