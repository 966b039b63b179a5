-- A new builder.
use Rattle.std.proofs.{Common.{◌≡◌, ℕ, ◌<◌, ◌≤◌, ◌^◌, false, List, [], ◌∷◌, length, None, refl, sym, ap, ap₂, ◌∙◌, arith}, lemmas.List.Elements.{All-nil}}
use Rattle.std.specs.{Prelude.{replicate}, List.{All}}
use Rattle.mdp_spec.specs.Mdp.{Choice}
use Rattle.mdp_rows.specs.{ChoiceTable.{ChoiceTable}, declared.rule.RowRule.{RowRule}, Pieces.{pieces}, Labelling.{Labelling}, FlatModel.{states_from}}
use Rattle.mdp_rows.specs.{Draft.{new_draft}, FlatDraft.{draft_in, open_in, state_in, choice_in, IsDraft}, declared.assembly.Stage.{Stage}}
use Rattle.mdp_rows.specs.{declared.assembly.Stage.TheVariants.{Between}, declared.assembly.Assembly.TheInside.{Inside}}
use Rattle.mdp_rows.proofs.{Assembled.Drafts.{same_draft}, Assembled.GivenRows.{none_marked}, Flat.Growth.{one_place}}

module _ (b : Inside) (states : ℕ) (rule : RowRule) (names : List (List ℕ)) (some : 1 ≤ states) (few : states ≤ 2 ^ 20) (announced : b.announced ≡ states) (ruled : b.rule ≡ rule)
    (choices : b.choices ≡ record { names = names; choices = [] }) (starts : b.starts.items ≡ 0 ∷ []) (first : b.first_choice ≡ 0)
    (labels : b.labels ≡ record { names = []; of_state = [] }) (stage : b.stage ≡ Between) (places : b.places.items ≡ []) (calls : b.label_calls ≡ 0) (row : b.row.items ≡ [])
    (marks : b.targets ≡ replicate states false) (entries : b.entries ≡ 0) (refused : b.refused ≡ None) where
  of_state_none : b.labels.of_state ≡ []
  of_state_none = ap (λ (l : Labelling). l.of_state) labels

  no_choices : b.choices.choices ≡ []
  no_choices = ap (λ (t : ChoiceTable). t.choices) choices

  pub new_is : draft_in b ≡ new_draft states rule names
  unfolding draft_in
  new_is =
      same_draft _ _ announced ruled (ap (λ (t : ChoiceTable). t.names) choices) (ap (λ (l : Labelling). l.names) labels) (ap₂ states_from (ap₂ pieces no_choices starts) of_state_none)
      (ap (λ (st : Stage). open_in st (state_in b) (choice_in b)) stage) entries refused

  pub is_new : IsDraft b
  is_new = record {
    states = record {
      some = omega arith;
      few = omega arith;
      places = rw (starts, first) one_place;
      choice = rw starts (λ s h. absurd (omega arith));
      labelled = rw (of_state_none, starts) refl;
      label_total = rw of_state_none (omega arith);
    };
    room = rw (starts, stage) (omega arith);
    head = record { few_places = rw places (omega arith); few_calls = omega arith; own = λ h. absurd (h stage); summed = λ e. absurd (let x = sym stage ∙ e in cc) };
    choices = record {
      inside = omega arith;
      closed_up = λ e. first ∙ ap length (sym no_choices);
      few_rows = rw (no_choices, stage) (omega arith);
      in_range = rw no_choices (All-nil (λ (c : Choice). All (λ x. x.target < b.announced) c.row));
    };
    row = record { idle = λ h. row; given = rw (row, marks, announced) (none_marked states); total = rw (no_choices, row) (omega arith); few_entries = omega arith };
  }
