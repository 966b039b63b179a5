-- What a label makes of a draft.
use Rattle.std.proofs.Common.{◌≡◌, ◌≢◌, ℕ, ◌+◌, ◌<◌, ◌≤◌, Bool, false, ◌||◌, List, length, Option}
use Rattle.std.proofs.Common.{None, refl, sym, ap, ◌∙◌, arith, leb, le-leb, ltb, lt-ltb, le-ltb, if◌then◌else◌}
use Rattle.std.specs.{Prelude.{Result, Ok, Err}, Global.{Vec}, List.{position_or_len}, Str.{bytes_eq}}
use borrow.Author.Tests.{lt-leb}
use Rattle.mdp_rows.specs.{Pieces.{pieces}, FlatModel.{states_from}, Labelling.{Labelling}}
use Rattle.mdp_rows.specs.Draft.{Draft, OpenState, OpenChoice, after_label, label_in, with_name, with_place}
use Rattle.mdp_rows.specs.{FlatDraft.{draft_in, open_in, state_in, choice_in, open_choices, IsDraft}, declared.error.RowsError.{RowsError}}
use Rattle.mdp_rows.specs.{declared.error.RowsError.TheVariants.{TooMany}, declared.assembly.Stage.{Stage}}
use Rattle.mdp_rows.specs.{declared.assembly.Stage.TheVariants.{Between, InState, InRow}, declared.assembly.Assembly.TheInside.{Inside}}
use Rattle.mdp_rows.proofs.{Assembled.Drafts.{same_draft}, Assembled.Places.{length-with_place}}

-- names that no state has as yet
pub is_named : (b : Inside) (labels : Labelling) (places : Vec ℕ) → IsDraft b → labels.of_state ≡ b.labels.of_state → places.items ≡ b.places.items
    → IsDraft (record b { labels = labels; places = places })
is_named b labels places ok same kept = record { states = rw same ok.states; room = ok.room; head = rw kept ok.head; choices = ok.choices; row = ok.row }

pub no_state_for_label : (b : Inside) (v : Draft) (name : List ℕ) → draft_in b ≡ v → b.stage ≡ Between → after_label v name ≡ Ok v
unfolding draft_in
no_state_for_label b v name is e =
    ap (λ (d : Draft). after_label d name) (sym is)
    ∙ ap (λ (st : Stage). label_in (draft_in b) name (open_in st (state_in b) (choice_in b))) e
    ∙ ap Ok is

-- the draft with the label
abbrev pub label_state : Inside → List ℕ → Option OpenState
label_state b name = open_in b.stage (record (state_in b) { labels = with_place (position_or_len (bytes_eq name) b.labels.names) b.places.items; label_calls = b.label_calls + 1 }) (choice_in b)

abbrev pub label_result : Inside → List ℕ → Bool → Bool → Result Draft RowsError
label_result b name calls names =
    if calls || names then Err TooMany else Ok (record (draft_in b) { labels = with_name b.labels.names name; state = label_state b name })

label_cases : (d : Draft) (name : List ℕ) (st : Stage) (o : OpenState) (c : OpenChoice) → st ≢ Between
    → label_in d name (open_in st o c) ≡ (if leb 64 o.label_calls || ltb 1024 (length (with_name d.labels name)) then Err TooMany
    else Ok (record d {
      labels = with_name d.labels name;
      state =
          open_in st (record o { labels = with_place (position_or_len (bytes_eq name) d.labels) o.labels; label_calls = o.label_calls + 1 }) c;
    }))
label_cases d name Between o c h = absurd (h refl)
label_cases d name InState o c h = refl
label_cases d name InRow o c h = refl

module _ (b : Inside) (v : Draft) (name : List ℕ) (is : draft_in b ≡ v) (open_state : b.stage ≢ Between) where
  label_by : after_label v name ≡ label_result b name (leb 64 b.label_calls) (ltb 1024 (length (with_name b.labels.names name)))
  unfolding draft_in
  label_by =
      ap (λ (d : Draft). after_label d name) (sym is)
      ∙ label_cases (draft_in b) name b.stage (state_in b) (choice_in b) open_state

  pub past_calls : 64 ≤ b.label_calls → after_label v name ≡ Err TooMany
  past_calls h = label_by ∙ ap (λ (x : Bool). label_result b name x (ltb 1024 (length (with_name b.labels.names name)))) (le-leb 64 b.label_calls h)

  fewer_calls : b.label_calls < 64 → after_label v name ≡ label_result b name false (ltb 1024 (length (with_name b.labels.names name)))
  fewer_calls h = label_by ∙ ap (λ (x : Bool). label_result b name x (ltb 1024 (length (with_name b.labels.names name)))) (lt-leb 64 b.label_calls h)

  pub past_names : b.label_calls < 64 → 1024 < length (with_name b.labels.names name) → after_label v name ≡ Err TooMany
  past_names h k = fewer_calls h ∙ ap (label_result b name false) (lt-ltb 1024 (length (with_name b.labels.names name)) k)

  label_goes : b.label_calls < 64 → length (with_name b.labels.names name) ≤ 1024 → after_label v name ≡ Ok (record (draft_in b) { labels = with_name b.labels.names name; state = label_state b name })
  label_goes h k = fewer_calls h ∙ ap (label_result b name false) (le-ltb 1024 (length (with_name b.labels.names name)) k)

  module _ (labels : Labelling) (places : Vec ℕ) (ok : IsDraft b) (calls : b.label_calls < 64) (names : length (with_name b.labels.names name) ≤ 1024)
      (seen : labels ≡ record { names = with_name b.labels.names name; of_state = b.labels.of_state })
      (added : places.items ≡ with_place (position_or_len (bytes_eq name) b.labels.names) b.places.items) where
    of_state_same : labels.of_state ≡ b.labels.of_state
    of_state_same = ap (λ (x : Labelling). x.of_state) seen

    labelled_is : draft_in (record b { labels = labels; places = places; label_calls = b.label_calls + 1 }) ≡ record (draft_in b) { labels = with_name b.labels.names name; state = label_state b name }
    unfolding draft_in
    labelled_is =
        same_draft _ _ refl refl refl (ap (λ (x : Labelling). x.names) seen) (ap (states_from (pieces b.choices.choices b.starts.items)) of_state_same)
        (ap (λ (x : List ℕ). open_in b.stage (let o : OpenState =
        record { rewards = b.rewards.items; labels = x; label_calls = b.label_calls + 1; choices = open_choices b; choice = None } in o) (choice_in b)) added) refl refl

    pub label_taken : after_label v name ≡ Ok (draft_in (record b { labels = labels; places = places; label_calls = b.label_calls + 1 }))
    label_taken = label_goes calls names ∙ ap Ok (sym labelled_is)

    pub is_labelled : IsDraft (record b { labels = labels; places = places; label_calls = b.label_calls + 1 })
    is_labelled = record {
      states = rw of_state_same ok.states;
      room = ok.room;
      head = record {
        few_places = let l = length-with_place (position_or_len (bytes_eq name) b.labels.names) b.places.items in let m = ap length added in omega (arith, ok.head.few_places);
        few_calls = omega arith;
        own = ok.head.own;
        summed = ok.head.summed;
      };
      choices = ok.choices;
      row = ok.row;
    }
