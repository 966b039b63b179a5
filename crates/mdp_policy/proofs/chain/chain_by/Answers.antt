use Rattle.std.proofs.Common.{ℕ, List, sym, ap, ap₂, ◌∙◌}
use Rattle.mdp_spec.specs.Mdp.{Mdp}
use Rattle.mdp_rows.specs.{Draft.{Draft, new_draft}, Replay.{with_states}, declared.rule.RowRule.TheVariants.{Exact}}
use Rattle.mdp_policy.specs.Chain.{chain_of}
use Rattle.mdp_policy.proofs.Handed.{chain_comes_out}
use Rattle.mdp_policy.proofs.chain.chain_by.Goals as goal

pub returns : goal.returns
returns c =
    let m : Mdp = c.args.model.now in
    let policy : List ℕ = c.args.policy.now in
    let d : Draft = c.give_states.new.builder in
    chain_comes_out m policy c.known.ensures.model c.requires d c.in-Ok.chain
    (ap (λ (start : Draft). with_states m.names m.labels (Mdp.states (chain_of m policy)) start)
    (sym (c.in_ok-builder.ensures ∙ ap₂ (λ (n : ℕ) (names : List (List ℕ)). new_draft n Exact names) c.states.ensures c.in_ok-names.ensures))
    ∙ c.in_ok-give_states.ensures.given)
    c.in-Ok.ensures.model
