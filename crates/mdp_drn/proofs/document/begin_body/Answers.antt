use Rattle.std.proofs.{Common.{◌≡◌, ℕ, Bool, List, length, Option, Some, None, sym, ap, ap₂, ◌∙◌, arith}, lemmas.List.{length-map}}
use Rattle.std.specs.Option.{unwrap_or}
use Rattle.mdp_rows.specs.Draft.{Draft, new_draft}
use Rattle.mdp_drn.specs.{Header.{or_else}, HeaderView.{view}, Reading.{InModel}}
use Rattle.mdp_drn.proofs.LinesRead.HeaderKeeps.{names_for_model}
use Rattle.mdp_drn.proofs.document.begin_body.Goals as goal

pub new-requires-clause-names : goal.new-requires-clause-names
new-requires-clause-names c = rw (c.in_ok-names.ensures, c.take.ensures.value) (names_for_model (view c.args.header.now).names c.requires.names)

or_none : (given : Option ℕ) (n : ℕ) → n ≡ unwrap_or given 0 → n ≡ or_else 0 given
or_none None n is = is
or_none (Some x) n is = is

pub returns-clause-body : goal.returns-clause-body
returns-clause-body c =
    let h = c.args.header.now in
    let names = rw c.take.ensures.value at c.in_ok-names.ensures in
    let draft = c.in_ok-builder.ensures
    ∙ ap₂ (λ (n : ℕ) (ns : List (List ℕ)). new_draft n c.args.rule ns) (or_none h.states c.unwrap_or-announced.result c.unwrap_or-announced.ensures) names in
    ap₂ (λ (d : Draft) (chain : Bool). InModel h.choices (record { draft = d; is_chain = chain; state_line = 0; action_line = 0 })) draft c.is_chain-is_chain.ensures

pub returns-clause-keeps : goal.returns-clause-keeps
returns-clause-keeps c =
    let new = c.in_ok-builder.ensures in
    let same : length c.in_ok-builder.builder.names ≡ length c.in_ok-names.names.items = ap (λ (d : Draft). length d.names) new ∙ length-map c.in_ok-names.names.items _ in
    record {
      announced = sym (ap (λ (d : Draft). d.announced) new);
      models = omega (arith, same, c.len-models.ensures, c.in_ok-names.names.ok.0);
      action = λ o e. absurd (let none : None ≡ Some o = sym (ap (λ (d : Draft). d.state) new) ∙ e in cc);
      unrefused = ap (λ (d : Draft). d.refused) new;
    }
