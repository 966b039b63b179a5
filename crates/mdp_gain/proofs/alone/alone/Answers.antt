use Rattle.std.proofs.Common.{ℕ, ◌+◌, List, [], ◌∷◌, length, refl, sym, ap, ◌∙◌}
use Rattle.mdp_spec.specs.Mdp.{Mdp}
use Rattle.mdp_rows.specs.{Draft.{Draft, new_draft}, Replay.{with_states}, declared.rule.RowRule.TheVariants.{Exact}}
use Rattle.mdp_gain.specs.{Alone.{only_name}, PartCode.{model_in}}
use Rattle.mdp_gain.proofs.Handing.{comes_out}
use Rattle.mdp_gain.proofs.alone.alone.Goals as goal

pub returns : goal.returns
returns c =
    let x = c.args.part.now in
    let n : ℕ = length x.states.now + 1 in
    comes_out x c.requires c.known.ensures.model c.give_states.new.builder c.in-Ok.small n refl
    (ap (λ (start : Draft). with_states (only_name ∷ []) [] (Mdp.states (model_in x)) start)
    (sym (c.in_ok-builder.ensures {u = tt} ∙ ap (λ (names : List (List ℕ)). new_draft n Exact names) (c.in_ok-names.ensures {u = tt})))
    ∙ c.in_ok-give_states.ensures {u = tt})
    c.in-Ok.ensures.model
