-- What an entry, and a choice, make of a draft.
use Rattle.std.proofs.Common.{◌≡◌, ◌≢◌, ℕ, ◌+◌, ◌<◌, ◌≤◌, ◌^◌, ◌==◌, Bool, true, false, List, []}
use Rattle.std.proofs.Common.{◌∷◌, ◌++◌, length, get_or, Some, None, refl, sym, ap, ap₂, subst, ◌∙◌}
use Rattle.std.proofs.{Common.{arith, leb, le-leb, ltb, lt-ltb, le-ltb, length-append, if◌then◌else◌}, lemmas.List.{map-append}}
use Rattle.std.specs.{Prelude.{Result, Ok, Err, slice_set}, List.{list_any}, Global.{Vec}}
use borrow.Author.Tests.{lt-leb}
use Rattle.mdp_math.specs.Rational.{ℚ}
use Rattle.mdp_spec.specs.Mdp.{Entry}
use Rattle.mdp_rows.specs.{Pieces.{pieces}, Given.{row_of, entry_of}, GivenRow.{in_order}}
use Rattle.mdp_rows.specs.Draft.{Draft, OpenState, OpenChoice, after_entry, entry_in, with_choice_entry, with_entry, choice_opened, choice_opened_in, closed_choices}
use Rattle.mdp_rows.specs.{Draft.{summed_rewards, IsChoiceClosed, ◌>>=◌}, FlatDraft.{draft_in, open_in, state_in, choice_in, open_choices, IsDraft}}
use Rattle.mdp_rows.specs.{declared.given.Given.{Given}, declared.error.RowsError.{RowsError}, declared.error.RowsError.TheVariants.{TooMany, Target, Twice}}
use Rattle.mdp_rows.specs.{declared.assembly.Stage.{Stage}, declared.assembly.Stage.TheVariants.{Between, InState, InRow}}
use Rattle.mdp_rows.specs.declared.assembly.Assembly.TheInside.{Inside}
use Rattle.mdp_rows.proofs.{Assembled.Drafts.{same_draft, state_of, open_len}, Flat.Growth.{pieces-sum-to}, Flat.Pieces.{length-pieces}}
use Rattle.mdp_rows.proofs.{Flat.Models.{choices-total}, Assembled.GivenRows.{with_one, is_there}, Assembled.InOrder.{in_order-push}}

-- ---- an entry

no_entry : (st : Stage) (d : Draft) (t : ℕ) (x : ℚ) (o : OpenState) (c : OpenChoice) → o.choice ≡ None → st ≢ InRow → entry_in d t x (open_in st o c) ≡ Ok d
no_entry Between d t x o c n h = refl
no_entry InState d t x o c n h = ap (with_choice_entry d t x o) n
no_entry InRow d t x o c n h = absurd (h refl)

pub no_row_for_entry : (b : Inside) (v : Draft) (t : ℕ) (x : ℚ) → draft_in b ≡ v → b.stage ≢ InRow → after_entry v t x ≡ Ok v
unfolding draft_in
no_row_for_entry b v t x is h = ap (λ (d : Draft). after_entry d t x) (sym is) ∙ no_entry b.stage (draft_in b) t x (state_in b) (choice_in b) refl h ∙ ap Ok is

abbrev pub entry_draft : Inside → ℕ → ℚ → Draft
entry_draft b t x = record (draft_in b) {
  entries = b.entries + 1;
  state =
      Some (state_of b (open_choices b) (Some (record (choice_in b) { row = with_entry (record { target = t; prob = x }) (in_order (row_of b.row.items)) })));
}

abbrev pub entry_result : Inside → ℕ → ℚ → Bool → Bool → Bool → Result Draft RowsError
entry_result b t x past twice full = if past then Err Target else (if twice then Err Twice else (if full then Err TooMany else Ok (entry_draft b t x)))

entry_by : (b : Inside) (t : ℕ) (x : ℚ) → b.stage ≡ InRow
    → after_entry (draft_in b) t x ≡ entry_result b t x (leb b.announced t) (list_any (λ y. y.target == t) (in_order (row_of b.row.items))) (leb (2 ^ 24) b.entries)
unfolding draft_in
entry_by b t x e = ap (λ (st : Stage). entry_in (draft_in b) t x (open_in st (state_in b) (choice_in b))) e

module _ (b : Inside) (v : Draft) (t : ℕ) (x : ℚ) (is : draft_in b ≡ v) (stage : b.stage ≡ InRow) where
  entry_here : after_entry v t x ≡ entry_result b t x (leb b.announced t) (list_any (λ y. y.target == t) (in_order (row_of b.row.items))) (leb (2 ^ 24) b.entries)
  entry_here = ap (λ (d : Draft). after_entry d t x) (sym is) ∙ entry_by b t x stage

  pub past_states : b.announced ≤ t → after_entry v t x ≡ Err Target
  past_states h = entry_here ∙ ap (λ (z : Bool). entry_result b t x z (list_any (λ y. y.target == t) (in_order (row_of b.row.items))) (leb (2 ^ 24) b.entries)) (le-leb b.announced t h)

  within_states : t < b.announced → after_entry v t x ≡ entry_result b t x false (list_any (λ y. y.target == t) (in_order (row_of b.row.items))) (leb (2 ^ 24) b.entries)
  within_states h = entry_here ∙ ap (λ (z : Bool). entry_result b t x z (list_any (λ y. y.target == t) (in_order (row_of b.row.items))) (leb (2 ^ 24) b.entries)) (lt-leb b.announced t h)

  pub there_already : t < b.announced → list_any (λ y. y.target == t) (in_order (row_of b.row.items)) ≡ true → after_entry v t x ≡ Err Twice
  there_already h n = within_states h ∙ ap (λ (z : Bool). entry_result b t x false z (leb (2 ^ 24) b.entries)) n

  new_there : t < b.announced → list_any (λ y. y.target == t) (in_order (row_of b.row.items)) ≡ false → after_entry v t x ≡ entry_result b t x false false (leb (2 ^ 24) b.entries)
  new_there h n = within_states h ∙ ap (λ (z : Bool). entry_result b t x false z (leb (2 ^ 24) b.entries)) n

  pub past_entries : t < b.announced → list_any (λ y. y.target == t) (in_order (row_of b.row.items)) ≡ false → 2 ^ 24 ≤ b.entries → after_entry v t x ≡ Err TooMany
  past_entries h n k = new_there h n ∙ ap (entry_result b t x false false) (le-leb (2 ^ 24) b.entries k)

  pub entry_taken : t < b.announced → list_any (λ y. y.target == t) (in_order (row_of b.row.items)) ≡ false → b.entries < 2 ^ 24 → after_entry v t x ≡ Ok (entry_draft b t x)
  entry_taken h n k = new_there h n ∙ ap (entry_result b t x false false) (lt-leb (2 ^ 24) b.entries k)

-- whether the target stands in the open row, by its mark
pub is_marked : (b : Inside) (t : ℕ) (a : Bool) → IsDraft b → t < b.announced → a ≡ get_or b.targets t false → list_any (λ y. y.target == t) (in_order (row_of b.row.items)) ≡ a
is_marked b t a ok h e = sym (is_there b.announced (row_of b.row.items) b.targets ok.row.given t h) ∙ sym e

-- the builder with one entry more
abbrev pub with_new_entry : Inside → Vec Given → List Bool → Inside
with_new_entry b row marks = record b { row = row; targets = marks; entries = b.entries + 1 }

module _ (b : Inside) (row : Vec Given) (marks : List Bool) (g : Given) (ok : IsDraft b) (stage : b.stage ≡ InRow) (new : list_any (λ y. y.target == g.target) (in_order (row_of b.row.items)) ≡ false)
    (in_range : g.target < b.announced) (room : b.entries < 2 ^ 24) (grown : row.items ≡ b.row.items ++ g ∷ []) (marked : marks ≡ slice_set b.targets g.target true) where
  entries_are : row_of row.items ≡ row_of b.row.items ++ entry_of g ∷ []
  entries_are = ap row_of grown ∙ map-append entry_of b.row.items (g ∷ [])

  row_grown : in_order (row_of row.items) ≡ with_entry (entry_of g) (in_order (row_of b.row.items))
  row_grown = ap in_order entries_are ∙ in_order-push (row_of b.row.items) (entry_of g)

  pub entry_is_in : draft_in (with_new_entry b row marks) ≡ entry_draft b g.target g.value
  unfolding draft_in
  entry_is_in = same_draft _ _ refl refl refl refl refl
      (ap₂ (λ (st : Stage) (r : List Entry). open_in st (state_in b) (let c : OpenChoice = record { rewards = b.sums.items; row = r } in c)) stage row_grown) refl refl

  row_longer : length row.items ≡ length b.row.items + 1
  row_longer = ap length grown ∙ length-append b.row.items (g ∷ [])

  pub is_with_entry : IsDraft (with_new_entry b row marks)
  is_with_entry = record {
    states = ok.states;
    room = ok.room;
    head = ok.head;
    choices = ok.choices;
    row = record {
      idle = λ h. absurd (h stage);
      given = rw (entries_are, marked) (with_one b.announced (row_of b.row.items) b.targets ok.row.given (entry_of g) in_range new);
      total = let l = row_longer in omega (arith, ok.row.total);
      few_entries = omega (arith, room);
    };
  }

-- ---- a choice

no_choice_for : (st : Stage) (d : Draft) (rewards : List ℚ) (o : OpenState) (c : OpenChoice) → st ≢ InState → IsChoiceClosed (open_in st o c) → choice_opened_in d rewards (open_in st o c) ≡ Ok d
no_choice_for Between d rewards o c h k = refl
no_choice_for InState d rewards o c h k = absurd (h refl)
no_choice_for InRow d rewards o c h k = absurd cc

pub no_state_for_choice : (b : Inside) (v : Draft) (rewards : List ℚ) → draft_in b ≡ v → b.stage ≢ InState → IsChoiceClosed v.state → choice_opened v rewards ≡ Ok v
unfolding draft_in
no_state_for_choice b v rewards is h k =
    ap (λ (d : Draft). choice_opened d rewards) (sym is)
    ∙ no_choice_for b.stage (draft_in b) rewards (state_in b) (choice_in b) h (subst (λ (d : Draft). IsChoiceClosed d.state) (sym is) k)
    ∙ ap Ok is

choice_count : (b : Inside) → IsDraft b → closed_choices (draft_in b) + length (open_choices b) ≡ length b.choices.choices
unfolding draft_in
choice_count b ok =
    let n : length (pieces b.choices.choices b.starts.items) ≡ length b.labels.of_state = (let p = length-pieces b.choices.choices b.starts.items in omega (arith, ok.states.labelled)) in
    let t = choices-total (pieces b.choices.choices b.starts.items) b.labels.of_state n in
    let s = pieces-sum-to b.choices.choices b.starts.items b.first_choice ok.states.places ok.choices.inside in
    let l = open_len b in
    omega (arith, ok.choices.inside)

abbrev pub sums_result : Inside → Result (List ℚ) RowsError → Result Draft RowsError
sums_result b r = r >>= λ sums. Ok (record (draft_in b) { state = Some (state_of b (open_choices b) (Some (record { rewards = sums; row = [] }))) })

abbrev pub choice_result : Inside → List ℚ → Bool → Result Draft RowsError
choice_result b rewards full = if full then Err TooMany else sums_result b (summed_rewards b.rewards.items rewards)

choice_by : (b : Inside) (rewards : List ℚ) (full : Bool) → IsDraft b → b.stage ≡ InState → ltb (2 ^ 22) (length b.choices.choices + 1) ≡ full
    → choice_opened (draft_in b) rewards ≡ choice_result b rewards full
unfolding draft_in
choice_by b rewards full ok e f =
    ap (λ (st : Stage). choice_opened_in (draft_in b) rewards (open_in st (state_in b) (choice_in b))) e
    ∙ ap (λ (n : ℕ). choice_result b rewards (ltb (2 ^ 22) (n + 1))) (choice_count b ok)
    ∙ ap (choice_result b rewards) f

pub past_choices : (b : Inside) (v : Draft) (rewards : List ℚ) → draft_in b ≡ v → IsDraft b → b.stage ≡ InState → 2 ^ 22 ≤ length b.choices.choices → choice_opened v rewards ≡ Err TooMany
past_choices b v rewards is ok e h = ap (λ (d : Draft). choice_opened d rewards) (sym is) ∙ choice_by b rewards true ok e (lt-ltb (2 ^ 22) (length b.choices.choices + 1) (omega arith))

module _ (b : Inside) (v : Draft) (given : List ℚ) (is : draft_in b ≡ v) (ok : IsDraft b) (stage : b.stage ≡ InState) (room : length b.choices.choices < 2 ^ 22) where
  choice_here : choice_opened v given ≡ sums_result b (summed_rewards b.rewards.items given)
  choice_here = ap (λ (d : Draft). choice_opened d given) (sym is) ∙ choice_by b given false ok stage (le-ltb (2 ^ 22) (length b.choices.choices + 1) (omega arith))

  pub sums_refused : (e : RowsError) → summed_rewards b.rewards.items given ≡ Err e → choice_opened v given ≡ Err e
  sums_refused e h = choice_here ∙ ap (sums_result b) h

  no_entries : b.row.items ≡ []
  no_entries = ok.row.idle (λ e. absurd (let x = sym stage ∙ e in cc))

  -- the builder with other sums of no open choice
  pub is_with_sums : (sums : Vec ℚ) → IsDraft (record b { sums = sums })
  is_with_sums sums = record {
    states = ok.states;
    room = ok.room;
    head = record { few_places = ok.head.few_places; few_calls = ok.head.few_calls; own = ok.head.own; summed = λ e. absurd (let x = sym stage ∙ e in cc) };
    choices = ok.choices;
    row = ok.row;
  }

  module _ (sums : Vec ℚ) (added : summed_rewards b.rewards.items given ≡ Ok sums.items) where
    choice_is_in : draft_in (record b { sums = sums; stage = InRow }) ≡ record (draft_in b) { state = Some (state_of b (open_choices b) (Some (record { rewards = sums.items; row = [] }))) }
    unfolding draft_in
    choice_is_in = same_draft _ _ refl refl refl refl refl
        (ap (λ (r : List Given). Some (state_of b (open_choices b) (Some (record { rewards = sums.items; row = in_order (row_of r) })))) no_entries) refl refl

    pub choice_is_opened : choice_opened v given ≡ Ok (draft_in (record b { sums = sums; stage = InRow }))
    choice_is_opened = choice_here ∙ ap (sums_result b) added ∙ ap Ok (sym choice_is_in)

    pub is_with_choice : length sums.items ≡ length b.choices.names → IsDraft (record b { sums = sums; stage = InRow })
    is_with_choice as_many = record {
      states = ok.states;
      room = let g : length b.starts.items + 1 ≤ b.announced + 1 = rw stage at ok.room in g;
      head = record { few_places = ok.head.few_places; few_calls = ok.head.few_calls; own = λ h. ok.head.own (λ e. absurd (let x = sym stage ∙ e in cc)); summed = λ e. as_many };
      choices = record { inside = ok.choices.inside; closed_up = λ e. absurd cc; few_rows = omega arith; in_range = ok.choices.in_range };
      row = record { idle = λ h. no_entries; given = ok.row.given; total = ok.row.total; few_entries = ok.row.few_entries };
    }
