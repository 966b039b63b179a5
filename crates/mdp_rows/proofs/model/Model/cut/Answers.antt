use Rattle.std.proofs.Common.{ℕ, List, sym, ap, ap₂, ◌∙◌}
use Rattle.mdp_spec.specs.{Mdp.{Mdp}, Sub.{sub_of}}
use Rattle.mdp_rows.specs.{Draft.{Draft, new_draft}, Replay.{with_states}, declared.rule.RowRule.TheVariants.{Exact}}
use Rattle.mdp_rows.proofs.CutModels.{sub_comes_out}
use Rattle.mdp_rows.proofs.model.Model.cut.Goals as goal

pub returns : goal.returns
returns c =
    let m : Mdp = c.args.self.now in
    let d : Draft = c.give_states.new.builder in
    sub_comes_out m c.args.goals.now c.args.kept.now d c.in-Ok.cut c.known.ensures.model
    (ap (λ (start : Draft). with_states m.names m.labels (Mdp.states (sub_of m c.args.goals.now c.args.kept.now)) start)
    (sym (c.in_ok-builder.ensures ∙ ap₂ (λ (n : ℕ) (names : List (List ℕ)). new_draft n Exact names) c.states.ensures c.in_ok-names.ensures))
    ∙ c.in_ok-give_states.ensures.given)
    c.in-Ok.ensures.model
