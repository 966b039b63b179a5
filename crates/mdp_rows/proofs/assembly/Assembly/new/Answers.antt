use Rattle.std.proofs.Common.{refl, ◌∙◌}
use Rattle.mdp_rows.proofs.Assembled.New.{new_is, is_new}
use Rattle.mdp_rows.proofs.assembly.Assembly.new.Goals as goal

pub invariant_of-result : goal.invariant_of-result
invariant_of-result c =
    is_new _ c.args.states c.args.rule _ c.requires.some c.requires.few refl refl (c.in_ok-choices.ensures {u = tt}) (c.in_ok-starts.ensures {u = tt}).items refl (c.in_ok-labels.ensures {u = tt})
    refl c.new-4.ensures.items refl c.new-6.ensures.items
    (c.from_values.ensures ∙ (c.in_ok-targets.ensures {u = tt}).items_if_clones_equal (λ y e. e)) refl refl

pub returns : goal.returns
returns c =
    new_is _ c.args.states c.args.rule _ c.requires.some c.requires.few refl refl (c.in_ok-choices.ensures {u = tt}) (c.in_ok-starts.ensures {u = tt}).items refl (c.in_ok-labels.ensures {u = tt})
    refl c.new-4.ensures.items refl c.new-6.ensures.items
    (c.from_values.ensures ∙ (c.in_ok-targets.ensures {u = tt}).items_if_clones_equal (λ y e. e)) refl refl
