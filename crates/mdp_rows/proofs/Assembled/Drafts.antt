-- What a builder's vectors say of its draft.
use Rattle.std.proofs.Common.{◌≡◌, ◌≢◌, ℕ, ◌+◌, ◌-◌, ◌<◌, ◌≤◌, ◌^◌, Bool, true, false, not, List, [], ◌∷◌, ◌++◌, length, drop, sum_by, Option, Some, None, refl, sym, ap}
use Rattle.std.proofs.Common.{ap₂, subst, ◌∙◌, arith, length-append, eqb, eq-eqb, if◌then◌else◌}
use Rattle.std.proofs.{lemmas.List.{with_items_is, drop-append-le, length-map, length-drop}, lemmas.List.Elements.{All-append, All-filter}}
use Rattle.std.proofs.{lemmas.List.Sums.{sum_by-append, sum_by-cons}, lemmas.Bool.{ne_eqb}, Math.Seq.{drop-length}}
use Rattle.std.specs.{Prelude.{Result, Ok, Err}, List.{All}, Global.{Vec}, Vec.{with_items}}
use Rattle.mdp_math.specs.Rational.{ℚ}
use Rattle.mdp_spec.specs.Mdp.{Entry, Choice, State}
use Rattle.mdp_rows.specs.{ChoiceTable.{ChoiceTable}, Pieces.{pieces}, FlatModel.{states_from}, Given.{row_of, entry_of}, GivenRow.{in_order, IsGivenRow}}
use Rattle.mdp_rows.specs.Draft.{Draft, OpenState, OpenChoice, closed_row, kept, is_zero, choice_closed, choice_closed_in, with_choice_closed, state_closed}
use Rattle.mdp_rows.specs.Draft.{state_closed_in, state_opened, new_state, IsChoiceClosed, ◌>>=◌}
use Rattle.mdp_rows.specs.{FlatDraft.{draft_in, open_in, state_in, choice_in, open_choices, open_states, AreStatesIn, IsDraft}, declared.given.Given.{Given}}
use Rattle.mdp_rows.specs.{declared.error.RowsError.{RowsError}, declared.error.RowsError.TheVariants.{NoChoice, Count}, Labelling.{Labelling}}
use Rattle.mdp_rows.specs.{declared.assembly.Stage.{Stage}, declared.assembly.Stage.TheVariants.{Between, InState, InRow}}
use Rattle.mdp_rows.specs.declared.assembly.Assembly.TheInside.{Inside}
use Rattle.mdp_rows.proofs.{Flat.Growth.{pieces-kept, pieces-last, places-more, choice-more, sum_by-one}, Flat.Kept.{filter_le}, Flat.RowsGrown.{all_one}}
use Rattle.mdp_rows.proofs.{Flat.Models.{length-states_from, states_from-more}, Flat.Pieces.{length-pieces}}

pub same_draft : (x y : Draft) → x.announced ≡ y.announced → x.rule ≡ y.rule → x.names ≡ y.names → x.labels ≡ y.labels → x.closed ≡ y.closed → x.state ≡ y.state → x.entries ≡ y.entries
    → x.refused ≡ y.refused → x ≡ y
same_draft x y a u m l c s e r = λ i. record { announced = a i; rule = u i; names = m i; labels = l i; closed = c i; state = s i; entries = e i; refused = r i }

-- the closed states, and how many they are
abbrev pub closed_in : Inside → List State
closed_in b = states_from (pieces b.choices.choices b.starts.items) b.labels.of_state

pub closed_len : (b : Inside) → IsDraft b → length (closed_in b) ≡ length b.labels.of_state
closed_len b ok =
    let p = length-pieces b.choices.choices b.starts.items in
    let n : length (pieces b.choices.choices b.starts.items) ≡ length b.labels.of_state = omega (arith, ok.states.labelled) in
    length-states_from (pieces b.choices.choices b.starts.items) b.labels.of_state n ∙ n

pub open_len : (b : Inside) → length (open_choices b) ≡ length b.choices.choices - b.first_choice
open_len b = length-drop b.first_choice b.choices.choices

-- ---- the open row is closed

no_row : (st : Stage) (d : Draft) (o : OpenState) (c : OpenChoice) → o.choice ≡ None → st ≢ InRow → choice_closed_in d (open_in st o c) ≡ Ok d
no_row Between d o c n h = refl
no_row InState d o c n h = ap (with_choice_closed d o) n
no_row InRow d o c n h = absurd (h refl)

pub nothing_to_close : (b : Inside) (v : Draft) → draft_in b ≡ v → b.stage ≢ InRow → choice_closed v ≡ Ok v
unfolding draft_in
nothing_to_close b v is h = ap choice_closed (sym is) ∙ no_row b.stage (draft_in b) (state_in b) (choice_in b) refl h ∙ ap Ok is

-- the open state, with these choices and this open choice
abbrev pub state_of : Inside → List Choice → Option OpenChoice → OpenState
state_of b choices c = record (state_in b) { choices = choices; choice = c }

pub closing_is : (b : Inside) → b.stage ≡ InRow → choice_closed (draft_in b) ≡ with_choice_closed (draft_in b) (state_of b (open_choices b) (Some (choice_in b))) (Some (choice_in b))
unfolding draft_in
closing_is b e = ap (λ (st : Stage). choice_closed_in (draft_in b) (open_in st (state_in b) (choice_in b))) e

-- where the row and the state that are open stand
pub record IsOpenRow (b : Inside) (s c : ℕ) : Type 0 where
  pub stage : b.stage ≡ InRow
  pub state : s ≡ length b.labels.of_state
  pub choice : c ≡ length b.choices.choices - b.first_choice

-- the open choice, closed with this row
abbrev pub choice_with : Inside → List Entry → Choice
choice_with b k = record { row = k; rewards = b.sums.items }

abbrev pub row_result : Inside → Result (List Entry) RowsError → Result Draft RowsError
row_result b r = r >>= λ k. Ok (record (draft_in b) { state = Some (state_of b (open_choices b ++ choice_with b k ∷ []) None) })

closing_by : (b : Inside) (s c : ℕ) → IsDraft b → IsOpenRow b s c → choice_closed (draft_in b) ≡ row_result b (closed_row b.rule s c (in_order (row_of b.row.items)))
unfolding draft_in
closing_by b s c ok at =
    closing_is b at.stage
    ∙ ap₂ (λ (x y : ℕ). row_result b (closed_row b.rule x y (in_order (row_of b.row.items)))) (closed_len b ok ∙ sym at.state) (open_len b ∙ sym at.choice)

pub row_refused : (b : Inside) (v : Draft) (s c : ℕ) (e : RowsError) → draft_in b ≡ v → IsDraft b → IsOpenRow b s c → closed_row b.rule s c (in_order (row_of b.row.items)) ≡ Err e
    → choice_closed v ≡ Err e
row_refused b v s c e is ok at h = ap choice_closed (sym is) ∙ closing_by b s c ok at ∙ ap (row_result b) h

-- the builder with other values in its open row
pub is_with_values : (b : Inside) (row : Vec Given) → IsDraft b → IsGivenRow b.announced (row_of row.items) b.targets → length row.items ≡ length b.row.items → b.stage ≡ InRow
    → IsDraft (record b { row = row })
is_with_values b row ok given long stage = record {
  states = ok.states;
  room = ok.room;
  head = ok.head;
  choices = ok.choices;
  row = record { idle = λ h. absurd (h stage); given = given; total = omega (arith, ok.row.total); few_entries = ok.row.few_entries };
}

-- a vector with other items, as many
pub items_are : (v : Vec Given) (row : List Given) → length row ≡ length v.items → (let w : Vec Given = with_items v row in w.items) ≡ row
items_are v row e = with_items_is v row (e ∙ sym v.ok.0)

-- the builder with the row closed
abbrev pub with_row : Inside → ChoiceTable → Vec Given → List Bool → Inside
with_row b choices row marks = record b { choices = choices; row = row; targets = marks; stage = InState }

module _ (b : Inside) (choices : ChoiceTable) (row : Vec Given) (r : List Given) (s c : ℕ) (ok : IsDraft b) (at : IsOpenRow b s c) (marks : List Bool)
    (given : IsGivenRow b.announced (row_of r) b.targets) (long : length r ≡ length b.row.items) (unmarked : IsGivenRow b.announced [] marks)
    (grown : choices ≡ record { names = b.choices.names; choices = b.choices.choices ++ choice_with b (kept (row_of r)) ∷ [] }) (cleared : row.items ≡ []) where
  choices_are : choices.choices ≡ b.choices.choices ++ choice_with b (kept (row_of r)) ∷ []
  choices_are = ap (λ (x : ChoiceTable). x.choices) grown

  names_are : choices.names ≡ b.choices.names
  names_are = ap (λ (x : ChoiceTable). x.names) grown

  open_grown : open_choices (with_row b choices row marks) ≡ open_choices b ++ choice_with b (kept (row_of r)) ∷ []
  open_grown =
      ap (λ (x : List Choice). drop b.first_choice x) choices_are
      ∙ drop-append-le b.first_choice b.choices.choices (choice_with b (kept (row_of r)) ∷ []) ok.choices.inside

  closed_same : closed_in (with_row b choices row marks) ≡ closed_in b
  closed_same =
      ap (λ (x : List (List Choice)). states_from x b.labels.of_state)
      (ap (λ (x : List Choice). pieces x b.starts.items) choices_are
      ∙ pieces-kept b.choices.choices (choice_with b (kept (row_of r)) ∷ []) b.starts.items b.first_choice ok.states.places ok.choices.inside)

  pub draft_with_row : draft_in (with_row b choices row marks) ≡ record (draft_in b) { state = Some (state_of b (open_choices b ++ choice_with b (kept (row_of r)) ∷ []) None) }
  unfolding draft_in
  draft_with_row = same_draft _ _ refl refl names_are refl closed_same (ap (λ (x : List Choice). Some (state_of b x None)) open_grown) refl refl

  pub row_kept : (v : Draft) → draft_in b ≡ v → closed_row b.rule s c (in_order (row_of b.row.items)) ≡ Ok (kept (row_of r)) → choice_closed v ≡ Ok (draft_in (with_row b choices row marks))
  row_kept v is h = ap choice_closed (sym is) ∙ closing_by b s c ok at ∙ ap (row_result b) h ∙ ap Ok (sym draft_with_row)

  rows_len : length choices.choices ≡ length b.choices.choices + 1
  rows_len = ap length choices_are ∙ length-append b.choices.choices (choice_with b (kept (row_of r)) ∷ [])

  row_total : sum_by (λ (x : Choice). length x.row) choices.choices ≤ sum_by (λ (x : Choice). length x.row) b.choices.choices + length b.row.items
  row_total =
      let f : Choice → ℕ = λ (x : Choice). length x.row in
      let a : sum_by f choices.choices ≡ sum_by f b.choices.choices + sum_by f (choice_with b (kept (row_of r)) ∷ []) = ap (sum_by f) choices_are
      ∙ sum_by-append f b.choices.choices (choice_with b (kept (row_of r)) ∷ []) in
      let k : length (kept (row_of r)) ≤ length (row_of r) = filter_le (λ x. not (is_zero x.prob)) (row_of r) in
      let m : length (row_of r) ≡ length r = length-map r entry_of in
      let n : sum_by f (choice_with b (kept (row_of r)) ∷ []) ≡ length (kept (row_of r)) + 0 = sum_by-cons f (choice_with b (kept (row_of r))) [] in
      omega arith

  pub is_with_row : IsDraft (with_row b choices row marks)
  is_with_row = record {
    states = ok.states;
    room = rw at.stage at ok.room;
    head = record {
      few_places = ok.head.few_places;
      few_calls = ok.head.few_calls;
      own = λ h. ok.head.own (λ e. absurd (let x = sym at.stage ∙ e in cc)) ∙ ap length (sym names_are);
      summed = λ e. absurd cc;
    };
    choices = record {
      inside = let l = rows_len in omega (arith, ok.choices.inside);
      closed_up = λ e. absurd cc;
      few_rows = let l = rows_len in let f : length b.choices.choices + 1 ≤ 2 ^ 22 = rw at.stage at ok.choices.few_rows in omega arith;
      in_range =
          rw choices_are
          (All-append (λ (x : Choice). All (λ y. y.target < b.announced) x.row) b.choices.choices (choice_with b (kept (row_of r)) ∷ []) ok.choices.in_range
          (all_one (λ (x : Choice). All (λ y. y.target < b.announced) x.row) (choice_with b (kept (row_of r)))
          (All-filter (λ x. not (is_zero x.prob)) (λ x. x.target < b.announced) (row_of r) given.in_range)));
    };
    row = record {
      idle = λ h. cleared;
      given = rw cleared unmarked;
      total = let t = row_total in let z = ap length cleared in omega (arith, ok.row.total);
      few_entries = ok.row.few_entries;
    };
  }

-- ---- the open state is closed

no_state : (st : Stage) (d : Draft) (o : OpenState) (c : OpenChoice) → st ≢ InState → IsChoiceClosed (open_in st o c) → state_closed_in d (open_in st o c) ≡ Ok d
no_state Between d o c h k = refl
no_state InState d o c h k = absurd (h refl)
no_state InRow d o c h k = absurd cc

pub no_state_to_close : (b : Inside) (v : Draft) → draft_in b ≡ v → b.stage ≢ InState → IsChoiceClosed v.state → state_closed v ≡ Ok v
unfolding draft_in
no_state_to_close b v is h k =
    ap state_closed (sym is)
    ∙ no_state b.stage (draft_in b) (state_in b) (choice_in b) h (subst (λ (d : Draft). IsChoiceClosed d.state) (sym is) k)
    ∙ ap Ok is

closing_state : (b : Inside) → b.stage ≡ InState → state_closed (draft_in b) ≡ state_closed_in (draft_in b) (Some (state_in b))
unfolding draft_in
closing_state b e = ap (λ (st : Stage). state_closed_in (draft_in b) (open_in st (state_in b) (choice_in b))) e

abbrev pub state_result : Inside → Bool → ℕ → Result Draft RowsError
state_result b none s =
    if none then Err (NoChoice s)
    else Ok (record (draft_in b) { closed = closed_in b ++ record { labels = b.places.items; choices = open_choices b } ∷ []; state = None })

closing_state_by : (b : Inside) (s : ℕ) (none : Bool) → IsDraft b → b.stage ≡ InState → s ≡ length b.labels.of_state → eqb (length (open_choices b)) 0 ≡ none
    → state_closed (draft_in b) ≡ state_result b none s
unfolding draft_in
closing_state_by b s none ok e f g = closing_state b e ∙ ap₂ (state_result b) g (closed_len b ok ∙ sym f)

pub state_refused : (b : Inside) (v : Draft) (s n : ℕ) → draft_in b ≡ v → IsDraft b → b.stage ≡ InState → s ≡ length b.labels.of_state → n ≡ length b.choices.choices → n ≡ b.first_choice
    → state_closed v ≡ Err (NoChoice s)
state_refused b v s n is ok e f g h =
    ap state_closed (sym is) ∙ closing_state_by b s true ok e f (let l = open_len b in eq-eqb (length (open_choices b)) 0 (omega arith))

-- the builder with room for one more start
pub is_with_room : (b : Inside) (starts : Vec ℕ) → IsDraft b → starts.items ≡ b.starts.items → IsDraft (record b { starts = starts })
is_with_room b starts ok e = record {
  states = subst (λ (xs : List ℕ). AreStatesIn b.announced xs b.first_choice b.labels.of_state) (sym e) ok.states;
  room = subst (λ (xs : List ℕ). length xs + open_states b.stage ≤ b.announced + 1) (sym e) ok.room;
  head = ok.head;
  choices = ok.choices;
  row = ok.row;
}

-- the builder with the state closed
abbrev pub with_state : Inside → Vec ℕ → Labelling → ℕ → Inside
with_state b starts labels end = record b { starts = starts; labels = labels; first_choice = end; stage = Between }

module _ (b : Inside) (starts : Vec ℕ) (labels : Labelling) (end : ℕ) (ok : IsDraft b) (stage : b.stage ≡ InState) (ends : end ≡ length b.choices.choices) (some : end ≢ b.first_choice)
    (grown : labels ≡ record { names = b.labels.names; of_state = b.labels.of_state ++ b.places.items ∷ [] }) (placed : starts.items ≡ b.starts.items ++ end ∷ []) where
  before_end : b.first_choice < end
  before_end = omega (arith, ok.choices.inside)

  of_state_is : labels.of_state ≡ b.labels.of_state ++ b.places.items ∷ []
  of_state_is = ap (λ (x : Labelling). x.of_state) grown

  pieces_closed : pieces b.choices.choices starts.items ≡ pieces b.choices.choices b.starts.items ++ drop b.first_choice b.choices.choices ∷ []
  pieces_closed = ap (pieces b.choices.choices) placed ∙ pieces-last b.choices.choices b.starts.items b.first_choice end ok.states.places ends

  as_many : length (pieces b.choices.choices b.starts.items) ≡ length b.labels.of_state
  as_many = let p = length-pieces b.choices.choices b.starts.items in omega (arith, ok.states.labelled)

  closed_more : closed_in (with_state b starts labels end) ≡ closed_in b ++ record { labels = b.places.items; choices = open_choices b } ∷ []
  closed_more = ap₂ states_from pieces_closed of_state_is ∙ states_from-more (pieces b.choices.choices b.starts.items) b.labels.of_state (drop b.first_choice b.choices.choices) b.places.items as_many

  pub draft_with_state : draft_in (with_state b starts labels end) ≡ record (draft_in b) { closed = closed_in b ++ record { labels = b.places.items; choices = open_choices b } ∷ []; state = None }
  unfolding draft_in
  draft_with_state = same_draft _ _ refl refl refl (ap (λ (x : Labelling). x.names) grown) closed_more refl refl refl

  pub state_kept : (v : Draft) → draft_in b ≡ v → state_closed v ≡ Ok (draft_in (with_state b starts labels end))
  state_kept v is =
      ap state_closed (sym is)
      ∙ closing_state_by b (length b.labels.of_state) false ok stage refl (let l = open_len b in let k = before_end in ne_eqb (length (open_choices b)) 0 (λ e. omega arith))
      ∙ ap Ok (sym draft_with_state)

  starts_len : length starts.items ≡ length b.starts.items + 1
  starts_len = ap length placed ∙ length-append b.starts.items (end ∷ [])

  labels_len : length labels.of_state ≡ length b.labels.of_state + 1
  labels_len = ap length of_state_is ∙ length-append b.labels.of_state (b.places.items ∷ [])

  label_sum : sum_by length labels.of_state ≡ sum_by length b.labels.of_state + length b.places.items
  label_sum = ap (sum_by length) of_state_is ∙ sum_by-append length b.labels.of_state (b.places.items ∷ []) ∙ ap (λ (n : ℕ). sum_by length b.labels.of_state + n) (sum_by-one b.places.items)

  pub is_with_state : IsDraft (with_state b starts labels end)
  is_with_state = record {
    states = record {
      some = ok.states.some;
      few = ok.states.few;
      places = let k = before_end in rw placed (places-more b.starts.items b.first_choice end ok.states.places (omega arith));
      choice = rw placed (choice-more b.starts.items b.first_choice end ok.states.places ok.states.choice before_end);
      labelled = let l = starts_len in let m = labels_len in omega (arith, ok.states.labelled);
      label_total = let l = label_sum in let m = labels_len in omega (arith, ok.states.label_total, ok.head.few_places, ok.head.few_calls);
    };
    room = let l = starts_len in let f : length b.starts.items + 1 ≤ b.announced + 1 = rw stage at ok.room in omega arith;
    head = record { few_places = ok.head.few_places; few_calls = ok.head.few_calls; own = λ h. absurd (h refl); summed = λ e. absurd cc };
    choices = record {
      inside = omega arith;
      closed_up = λ e. ends;
      few_rows = let f : length b.choices.choices + 0 ≤ 2 ^ 22 = rw stage at ok.choices.few_rows in f;
      in_range = ok.choices.in_range;
    };
    row = record { idle = λ h. ok.row.idle (λ e. absurd (let x = sym stage ∙ e in cc)); given = ok.row.given; total = ok.row.total; few_entries = ok.row.few_entries };
  }

-- ---- the next state is opened

none_is : (st : Stage) (o : OpenState) (c : OpenChoice) → open_in st o c ≡ None → st ≡ Between
none_is Between o c h = refl
none_is InState o c h = absurd cc
none_is InRow o c h = absurd cc

pub closed_is : (b : Inside) (v : Draft) → draft_in b ≡ v → v.state ≡ None → b.stage ≡ Between
unfolding draft_in
closed_is b v is h = none_is b.stage (state_in b) (choice_in b) (ap (λ (d : Draft). d.state) is ∙ h)

opened_by : (b : Inside) (rewards : List ℚ) (e : Bool) → IsDraft b → eqb (length b.labels.of_state) b.announced ≡ e
    → state_opened (draft_in b) rewards ≡ (if e then Err Count else Ok (record (draft_in b) { state = Some (new_state rewards) }))
unfolding draft_in
opened_by b rewards e ok f = ap (λ (t : Bool). if t then Err Count else Ok (record (draft_in b) { state = Some (new_state rewards) })) (ap (λ (n : ℕ). eqb n b.announced) (closed_len b ok) ∙ f)

pub too_many_states : (b : Inside) (v : Draft) (rewards : List ℚ) (s : ℕ) → draft_in b ≡ v → IsDraft b → s ≡ length b.labels.of_state → s ≡ b.announced → state_opened v rewards ≡ Err Count
too_many_states b v rewards s is ok e f = ap (λ (d : Draft). state_opened d rewards) (sym is) ∙ opened_by b rewards true ok (eq-eqb (length b.labels.of_state) b.announced (omega arith))

pub names_in : (b : Inside) (v : Draft) → draft_in b ≡ v → b.choices.names ≡ v.names
unfolding draft_in
names_in b v is = ap (λ (d : Draft). d.names) is

-- the builder with other rewards of no open state
pub is_with_rewards : (b : Inside) (v : Draft) (rewards : Vec ℚ) → draft_in b ≡ v → IsDraft b → v.state ≡ None → IsDraft (record b { rewards = rewards })
is_with_rewards b v rewards is ok closed = record {
  states = ok.states;
  room = ok.room;
  head = record { few_places = ok.head.few_places; few_calls = ok.head.few_calls; own = λ h. absurd (h (closed_is b v is closed)); summed = ok.head.summed };
  choices = ok.choices;
  row = ok.row;
}

abbrev pub with_new_state : Inside → Vec ℚ → Vec ℕ → Inside
with_new_state b rewards places = record b { rewards = rewards; places = places; label_calls = 0; stage = InState }

module _ (b : Inside) (v : Draft) (given : List ℚ) (rewards : Vec ℚ) (places : Vec ℕ) (s : ℕ) (is : draft_in b ≡ v) (ok : IsDraft b) (closed : v.state ≡ None) (as_many : length given ≡ length v.names)
    (e : s ≡ length b.labels.of_state) (f : s ≢ b.announced) (filled : rewards.items ≡ given) (empty : places.items ≡ []) where
  between : b.stage ≡ Between
  between = closed_is b v is closed

  no_choices : open_choices b ≡ []
  no_choices = ap (λ (n : ℕ). drop n b.choices.choices) (ok.choices.closed_up between) ∙ drop-length b.choices.choices

  opened : draft_in (with_new_state b rewards places) ≡ record (draft_in b) { state = Some (new_state given) }
  unfolding draft_in
  opened =
      same_draft _ _ refl refl refl refl refl
      (ap (λ (x : List ℚ). Some (let o : OpenState = record { rewards = x; labels = places.items; label_calls = 0; choices = open_choices b; choice = None } in o)) filled
      ∙ ap₂ (λ (x : List ℕ) (y : List Choice). Some (let o : OpenState = record { rewards = given; labels = x; label_calls = 0; choices = y; choice = None } in o)) empty no_choices) refl refl

  pub state_is_opened : state_opened v given ≡ Ok (draft_in (with_new_state b rewards places))
  state_is_opened = ap (λ (d : Draft). state_opened d given) (sym is) ∙ opened_by b given false ok (ne_eqb (length b.labels.of_state) b.announced (λ h. f (e ∙ h))) ∙ ap Ok (sym opened)

  pub is_with_new_state : IsDraft (with_new_state b rewards places)
  is_with_new_state = record {
    states = ok.states;
    room = let g : length b.starts.items + 0 ≤ b.announced + 1 = rw between at ok.room in omega (arith, ok.states.labelled);
    head = record { few_places = rw empty (omega arith); few_calls = omega arith; own = λ h. ap length filled ∙ as_many ∙ ap length (sym (names_in b v is)); summed = λ e. absurd cc };
    choices = record {
      inside = ok.choices.inside;
      closed_up = λ e. absurd cc;
      few_rows = let g : length b.choices.choices + 0 ≤ 2 ^ 22 = rw between at ok.choices.few_rows in g;
      in_range = ok.choices.in_range;
    };
    row = record { idle = λ h. ok.row.idle (λ e. absurd (let x = sym between ∙ e in cc)); given = ok.row.given; total = ok.row.total; few_entries = ok.row.few_entries };
  }
