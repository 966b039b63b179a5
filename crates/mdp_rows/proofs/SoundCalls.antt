-- What each call makes of a sound draft is sound.
pub mod Entries
pub mod Labels
pub mod Names
pub mod Rewards
pub mod Rows
use Rattle.std.proofs.Common.{◌≡◌, ℕ, ◌+◌, ◌≤◌, ◌<◌, ◌^◌, Bool, true, false, ◌||◌, IsTrue, leb, ltb, eqb, eqb→eq, T, List, [], ◌∷◌, ◌++◌, length, sum_by, Option, Some}
use Rattle.std.proofs.{Common.{None, refl, sym, ap, subst, arith, if◌then◌else◌, length-append, append-nil}, lemmas.Bool.{or_parts}}
use Rattle.std.proofs.{lemmas.List.Elements.{All-nil, All-push, All-weaker}, lemmas.List.Sums.{sum_by_push}}
use Rattle.std.specs.{Prelude.{Result, Ok, Err, slice_index_or}, List.{All, list_any, position_or_len}, Str.{bytes_eq}}
use borrow.Author.Tests.{leb-false, ltb-false, eqb-false}
use Rattle.mdp_math.specs.Rational.{ℚ, ◌≤ℚ◌}
use Rattle.mdp_math.proofs.Order.{0ℚ}
use Rattle.mdp_num.specs.Meaning.{IsWithinLimit}
use Rattle.mdp_spec.specs.{Mdp.{Entry, Choice, State, Mdp, no_state, no_choice}, Row.{IsRow, IsMdp}}
use Rattle.mdp_rows.specs.{Name.{IsName, AreRewardNames, are_different}, Limits.{places_ascend, in_order_of_sight, IsChoiceWithin, IsStateWithin, IsModel}}
use Rattle.mdp_rows.specs.Head.{IsSameHead}
use Rattle.mdp_rows.specs.Draft.{Draft, OpenState, OpenChoice, new_draft, new_state, closed_row, closed_choices, with_choice_closed, choice_closed_in, choice_closed}
use Rattle.mdp_rows.specs.Draft.{state_closed_in, state_closed, all_closed, state_opened, after_state, summed_rewards, choice_opened_in, choice_opened, after_choice}
use Rattle.mdp_rows.specs.Draft.{has_target, with_entry, with_choice_entry, entry_in, after_entry, with_name, with_place, label_in, after_label, finished, after_finish}
use Rattle.mdp_rows.specs.{Draft.{◌>>=◌}, Sound.{IsOpenChoice, IsOpenState, IsClosedState, IsSound, choice_count, entry_count, opened_choices, opened_entries}}
use Rattle.mdp_rows.specs.{declared.error.RowsError.{RowsError}, declared.error.RowsError.TheVariants.{NoChoice, Count, TooMany, Target, Twice}}
use Rattle.mdp_rows.specs.declared.rule.RowRule.{RowRule}
use Rattle.mdp_rows.proofs.{Calls.Closes.{all_are_closed}, Calls.Steps.{done, ok_same, then_ok, else_ok, if_ok}}
use Rattle.mdp_rows.proofs.{Calls.Kept.{IsKept, choice_closed-kept, all_closed-kept}, SoundCalls.Rows.{AreValues, IsClosedRow, closed_row-sound}}
use Rattle.mdp_rows.proofs.{SoundCalls.Rewards.{summed-sound}, SoundCalls.Entries.{ascends-with, all_with, length-with_entry}}
use Rattle.mdp_rows.proofs.SoundCalls.Labels.{ascend-with, length-with_place, sight_changed, IsLast, is_last, last_is, last_old, last_new}
use Rattle.mdp_rows.proofs.SoundCalls.Names.{place_found, place_missed, known_name, length-new_name, names_with, different-with}

pub new_draft-sound : (states : ℕ) (rule : RowRule) (names : List (List ℕ)) → 1 ≤ states → states ≤ 2 ^ 20 → AreRewardNames names → IsSound (new_draft states rule names)
new_draft-sound states rule names some few ok = record {
  names = ok;
  some = some;
  few = few;
  few_states = omega arith;
  labels = All-nil IsName;
  different = refl;
  few_labels = omega arith;
  sight = refl;
  closed = All-nil (IsClosedState states (length names));
  state = tt;
  few_choices = omega arith;
  counted = omega arith;
  few_entries = omega arith;
}

-- ---- another open state

abbrev row_count : List Choice → ℕ
row_count choices = sum_by (λ c. length c.row) choices

abbrev as_state : OpenState → State
as_state o = record { labels = o.labels; choices = o.choices }

choices_counted : (closed : List State) (o : OpenState) → choice_count (closed ++ as_state o ∷ []) ≡ choice_count closed + length o.choices
choices_counted closed o = sum_by_push (λ (x : State). length x.choices) closed (as_state o)

entries_counted : (closed : List State) (o : OpenState) → entry_count (closed ++ as_state o ∷ []) ≡ entry_count closed + row_count o.choices
entries_counted closed o = sum_by_push (λ (x : State). row_count x.choices) closed (as_state o)

-- what is counted of the open state
record AreCounted (closed : List State) (o : OpenState) (entries : ℕ) : Type 0 where
  few_choices : choice_count closed + (length o.choices + opened_choices o.choice) ≤ 2 ^ 22
  counted : entry_count closed + (row_count o.choices + opened_entries o.choice) ≤ entries
  few_entries : entries ≤ 2 ^ 24

are_counted : (d : Draft) (o : OpenState) → IsSound (record d { state = Some o }) → AreCounted d.closed o d.entries
are_counted d o s = record {
  few_choices = let e = choices_counted d.closed o in let h = s.few_choices in omega (arith, e, h);
  counted = let e = entries_counted d.closed o in let h = s.counted in omega (arith, e, h);
  few_entries = s.few_entries;
}

record AreNames (labels : List (List ℕ)) : Type 0 where
  each : All IsName labels
  different : IsTrue (are_different labels)
  few : length labels ≤ 1024

with_open : (d : Draft) (o n : OpenState) (labels : List (List ℕ)) (entries : ℕ) → IsSound (record d { state = Some o }) → AreNames labels
    → ((k : ℕ) → IsLast k (length d.labels) o.labels → IsLast k (length labels) n.labels) → IsOpenState d.announced (length d.names) n → AreCounted d.closed n entries
    → IsSound (record d { labels = labels; state = Some n; entries = entries })
with_open d o n labels entries s names last is count = record {
  names = s.names;
  some = s.some;
  few = s.few;
  few_states =
      let a = length-append d.closed (as_state o ∷ []) in
      let b = length-append d.closed (as_state n ∷ []) in
      let h = s.few_states in
      omega (arith, a, b, h);
  labels = names.each;
  different = names.different;
  few_labels = names.few;
  sight =
      sight_changed 0 (length d.labels) (length labels) d.closed (as_state o ∷ []) (as_state n ∷ []) s.sight
      (λ k t. last_is k (length labels) (as_state n) (last k (is_last k (length d.labels) (as_state o) t)));
  closed = s.closed;
  state = is;
  few_choices = let e = choices_counted d.closed n in let h = count.few_choices in omega (arith, e, h);
  counted = let e = entries_counted d.closed n in let h = count.counted in omega (arith, e, h);
  few_entries = count.few_entries;
}

same_names : (d : Draft) → IsSound d → AreNames d.labels
same_names d s = record { each = s.labels; different = s.different; few = s.few_labels }

-- ---- the open choice is closed

values_of : (announced names : ℕ) (c : OpenChoice) → IsOpenChoice announced names c → AreValues announced c.row
values_of announced names c ok = record {
  ascending = ok.ascending;
  in_range = ok.in_range;
  nonnegative = All-weaker (λ (x : Entry). IsWithinLimit x.prob) (λ (x : Entry). 0ℚ ≤ℚ x.prob) (λ x h. h.nonnegative) c.row ok.values;
}

abbrev with_closed : OpenState → OpenChoice → List Entry → OpenState
with_closed o c row = record o { choices = o.choices ++ record { row = row; rewards = c.rewards } ∷ []; choice = None }

closed_open : (announced names : ℕ) (o : OpenState) (c : OpenChoice) (row : List Entry) → IsOpenState announced names (record o { choice = Some c })
    → IsClosedRow announced (length c.row) row → IsOpenState announced names (with_closed o c row)
closed_open announced names o c row ok closed = record {
  rewards = ok.rewards;
  ascending = ok.ascending;
  few_labels = ok.few_labels;
  few_calls = ok.few_calls;
  choices = All-push (IsChoiceWithin names) o.choices (record { row = row; rewards = c.rewards }) ok.choices (record { den = closed.den; rewards = ok.choice.rewards; terms = ok.choice.terms });
  rows = All-push (λ (x : Choice). IsRow announced x.row) o.choices (record { row = row; rewards = c.rewards }) ok.rows closed.is_row;
  choice = tt;
}

closed_counted : (closed : List State) (o : OpenState) (c : OpenChoice) (row : List Entry) (entries : ℕ) → length row ≤ length c.row
    → AreCounted closed (record o { choice = Some c }) entries → AreCounted closed (with_closed o c row) entries
closed_counted closed o c row entries h count =
    let x : Choice = record { row = row; rewards = c.rewards } in
    record {
      few_choices = let l = length-append o.choices (x ∷ []) in let k = count.few_choices in omega (arith, l, k);
      counted = let l : row_count (o.choices ++ x ∷ []) ≡ row_count o.choices + length row = sum_by_push (λ (y : Choice). length y.row) o.choices x in let k = count.counted in omega (arith, l, k);
      few_entries = count.few_entries;
    }

close_choice : (d n : Draft) (o : OpenState) (c : Option OpenChoice) → IsSound (record d { state = Some (record o { choice = c }) })
    → with_choice_closed (record d { state = Some (record o { choice = c }) }) (record o { choice = c }) c ≡ Ok n → IsSound n
close_choice d n o None s e = subst IsSound (ok_same (record d { state = Some (record o { choice = None }) }) n e) s
close_choice d n o (Some c) s e =
    let f = then_ok (closed_row d.rule (length d.closed) (length o.choices) c.row) (λ row. Ok (record d { state = Some (with_closed o c row) })) n e in
    let r = closed_row-sound d.rule (length d.closed) (length o.choices) d.announced c.row f.0 (values_of d.announced (length d.names) c s.state.choice) f.1 in
    subst IsSound (ok_same (record d { state = Some (with_closed o c f.0) }) n f.2)
    (with_open d (record o { choice = Some c }) (with_closed o c f.0) d.labels d.entries s (same_names (record d { state = Some (record o { choice = Some c }) }) s) (λ k t. t)
    (closed_open d.announced (length d.names) o c f.0 s.state r)
    (closed_counted d.closed o c f.0 d.entries r.few (are_counted d (record o { choice = Some c }) s)))

close_in : (d n : Draft) (st : Option OpenState) → IsSound (record d { state = st }) → choice_closed_in (record d { state = st }) st ≡ Ok n → IsSound n
close_in d n None s e = subst IsSound (ok_same (record d { state = None }) n e) s
close_in d n (Some o) s e = close_choice d n o o.choice s e

pub choice_closed-sound : (d n : Draft) → IsSound d → choice_closed d ≡ Ok n → IsSound n
choice_closed-sound d n s e = close_in d n d.state s e

-- ---- the open state is closed

state_within : (announced names : ℕ) (o : OpenState) → IsOpenState announced names o → 0 < length o.choices → IsClosedState announced names (as_state o)
state_within announced names o ok some = record {
  some = some;
  within = record { ascending = ok.ascending; few_labels = let a = ok.few_labels in let b = ok.few_calls in omega (arith, a, b); choices = ok.choices };
  rows = ok.rows;
}

close_state : (d n : Draft) (o : OpenState) → IsSound (record d { state = Some o }) → state_closed_in (record d { state = Some o }) (Some o) ≡ Ok n → IsSound n
close_state d n o s e =
    let v : Draft = record d { closed = d.closed ++ as_state o ∷ []; state = None } in
    let f = else_ok (eqb (length o.choices) 0) (NoChoice (length d.closed)) (done v) n e in
    let z : (length o.choices ≡ 0) → ⊥ = eqb-false (length o.choices) 0 f.0 in
    let some : 0 < length o.choices = omega (arith, z) in
    let same : (d.closed ++ as_state o ∷ []) ++ [] ≡ d.closed ++ as_state o ∷ [] = append-nil (d.closed ++ as_state o ∷ []) in
    subst IsSound (ok_same v n f.1) (record {
      names = s.names;
      some = s.some;
      few = s.few;
      few_states = subst (λ (xs : List State). length xs ≤ d.announced) (sym same) s.few_states;
      labels = s.labels;
      different = s.different;
      few_labels = s.few_labels;
      sight = subst (λ (xs : List State). IsTrue (in_order_of_sight 0 xs (length d.labels))) (sym same) s.sight;
      closed = All-push (IsClosedState d.announced (length d.names)) d.closed (as_state o) s.closed (state_within d.announced (length d.names) o s.state some);
      state = tt;
      few_choices = subst (λ (xs : List State). choice_count xs + 0 ≤ 2 ^ 22) (sym same) (let h = s.few_choices in omega (arith, h));
      counted = subst (λ (xs : List State). entry_count xs + 0 ≤ d.entries) (sym same) (let h = s.counted in omega (arith, h));
      few_entries = s.few_entries;
    })

close_state_in : (d n : Draft) (st : Option OpenState) → IsSound (record d { state = st }) → state_closed_in (record d { state = st }) st ≡ Ok n → IsSound n
close_state_in d n None s e = subst IsSound (ok_same (record d { state = None }) n e) s
close_state_in d n (Some o) s e = close_state d n o s e

pub state_closed-sound : (d n : Draft) → IsSound d → state_closed d ≡ Ok n → IsSound n
state_closed-sound d n s e = close_state_in d n d.state s e

pub all_closed-sound : (d n : Draft) → IsSound d → all_closed d ≡ Ok n → IsSound n
all_closed-sound d n s e =
    let f = then_ok (choice_closed d) state_closed n e in
    state_closed-sound f.0 n (choice_closed-sound d f.0 s f.1) f.2

-- what a call is given: one reward for each name
abbrev pub AreRewards : List (List ℕ) → List ℚ → Type 0
AreRewards names rewards = length rewards ≡ length names

-- ---- a state

opened_state : (announced names : ℕ) (rewards : List ℚ) → length rewards ≡ names → IsOpenState announced names (new_state rewards)
opened_state announced names rewards l = record {
  rewards = l;
  ascending = refl;
  few_labels = omega arith;
  few_calls = omega arith;
  choices = All-nil (IsChoiceWithin names);
  rows = All-nil (λ (x : Choice). IsRow announced x.row);
  choice = tt;
}

open_state_in : (d n : Draft) (rewards : List ℚ) (st : Option OpenState) → st ≡ None → IsSound (record d { state = st }) → AreRewards d.names rewards
    → state_opened (record d { state = st }) rewards ≡ Ok n → IsSound n
open_state_in d n rewards (Some o) e s r h = absurd cc
open_state_in d n rewards None e s r h =
    let o : OpenState = new_state rewards in
    let v : Draft = record d { state = Some o } in
    let f = else_ok (eqb (length d.closed) d.announced) Count (done v) n h in
    let ne : length d.closed ≡ d.announced → ⊥ = eqb-false (length d.closed) d.announced f.0 in
    let none : d.closed ++ [] ≡ d.closed = append-nil d.closed in
    let few : length d.closed ≤ d.announced = subst (λ (xs : List State). length xs ≤ d.announced) none s.few_states in
    let choices : choice_count d.closed + 0 ≤ 2 ^ 22 = subst (λ (xs : List State). choice_count xs + 0 ≤ 2 ^ 22) none s.few_choices in
    let entries : entry_count d.closed + 0 ≤ d.entries = subst (λ (xs : List State). entry_count xs + 0 ≤ d.entries) none s.counted in
    let total : (k : ℕ) → IsTrue (eqb k (length d.labels)) → IsTrue (eqb k (length d.labels)) = λ k t. t in
    subst IsSound (ok_same v n f.1) (record {
      names = s.names;
      some = s.some;
      few = s.few;
      few_states = let a = length-append d.closed (as_state o ∷ []) in omega (arith, a, few, ne);
      labels = s.labels;
      different = s.different;
      few_labels = s.few_labels;
      sight = sight_changed 0 (length d.labels) (length d.labels) d.closed [] (as_state o ∷ []) s.sight total;
      closed = s.closed;
      state = opened_state d.announced (length d.names) rewards r;
      few_choices = let a = choices_counted d.closed o in omega (arith, a, choices);
      counted = let a = entries_counted d.closed o in omega (arith, a, entries);
      few_entries = s.few_entries;
    })

pub state_opened-sound : (d n : Draft) (rewards : List ℚ) → d.state ≡ None → IsSound d → AreRewards d.names rewards → state_opened d rewards ≡ Ok n → IsSound n
state_opened-sound d n rewards e s r h = open_state_in d n rewards d.state e s r h

pub after_state-sound : (d n : Draft) (rewards : List ℚ) → IsSound d → AreRewards d.names rewards → after_state d rewards ≡ Ok n → IsSound n
after_state-sound d n rewards s r e =
    let f = then_ok (all_closed d) (λ closed. state_opened closed rewards) n e in
    state_opened-sound f.0 n rewards (all_are_closed d f.0 f.1) (all_closed-sound d f.0 s f.1)
    (subst (λ (ns : List (List ℕ)). AreRewards ns rewards) (sym (IsSameHead.names (IsKept.head (all_closed-kept d f.0 f.1)))) r) f.2

-- ---- a choice

-- the open state with this choice open
with_choice : (announced names : ℕ) (o : OpenState) (c : OpenChoice) → IsOpenState announced names o → IsOpenChoice announced names c → IsOpenState announced names (record o { choice = Some c })
with_choice announced names o c ok is = record {
  rewards = ok.rewards;
  ascending = ok.ascending;
  few_labels = ok.few_labels;
  few_calls = ok.few_calls;
  choices = ok.choices;
  rows = ok.rows;
  choice = is;
}

open_choice_in : (d n : Draft) (rewards : List ℚ) (st : Option OpenState) → IsSound (record d { state = st }) → AreRewards d.names rewards
    → choice_opened_in (record d { state = st }) rewards st ≡ Ok n → IsSound n
open_choice_in d n rewards None s r e = subst IsSound (ok_same (record d { state = None }) n e) s
open_choice_in d n rewards (Some o) s r e =
    let f = else_ok (ltb (2 ^ 22) (closed_choices d + length o.choices + 1)) TooMany
    (summed_rewards o.rewards rewards >>= λ sums. Ok (record d { state = Some (record o { choice = Some (record { rewards = sums; row = [] }) }) })) n e in
    let few : closed_choices d + length o.choices + 1 ≤ 2 ^ 22 = ltb-false (2 ^ 22) (closed_choices d + length o.choices + 1) f.0 in
    let g = then_ok (summed_rewards o.rewards rewards) (λ sums. Ok (record d { state = Some (record o { choice = Some (record { rewards = sums; row = [] }) }) })) n f.1 in
    let ok = s.state in
    let a = summed-sound o.rewards rewards g.0 (length d.names) ok.rewards r g.1 in
    let m : OpenState = record o { choice = Some (record { rewards = g.0; row = [] }) } in
    let count = are_counted d o s in
    subst IsSound (ok_same (record d { state = Some m }) n g.2)
    (with_open d o m d.labels d.entries s (same_names (record d { state = Some o }) s) (λ k t. t)
    (with_choice d.announced (length d.names) o (record { rewards = g.0; row = [] }) ok (record {
      rewards = a.length;
      terms = a.terms;
      ascending = refl;
      in_range = All-nil (λ (x : Entry). x.target < d.announced);
      values = All-nil (λ (x : Entry). IsWithinLimit x.prob);
    }))
    (record {
      few_choices = omega (arith, few);
      counted = let h = count.counted in omega (arith, h);
      few_entries = count.few_entries;
    }))

pub choice_opened-sound : (d n : Draft) (rewards : List ℚ) → IsSound d → AreRewards d.names rewards → choice_opened d rewards ≡ Ok n → IsSound n
choice_opened-sound d n rewards s r e = open_choice_in d n rewards d.state s r e

pub after_choice-sound : (d n : Draft) (rewards : List ℚ) → IsSound d → AreRewards d.names rewards → after_choice d rewards ≡ Ok n → IsSound n
after_choice-sound d n rewards s r e =
    let f = then_ok (choice_closed d) (λ closed. choice_opened closed rewards) n e in
    choice_opened-sound f.0 n rewards (choice_closed-sound d f.0 s f.1)
    (subst (λ (ns : List (List ℕ)). AreRewards ns rewards) (sym (IsSameHead.names (IsKept.head (choice_closed-kept d f.0 f.1)))) r) f.2

-- ---- an entry

entry_choice : (d n : Draft) (target : ℕ) (value : ℚ) (o : OpenState) (c : Option OpenChoice) → IsSound (record d { state = Some (record o { choice = c }) }) → IsWithinLimit value
    → with_choice_entry (record d { state = Some (record o { choice = c }) }) target value (record o { choice = c }) c ≡ Ok n → IsSound n
entry_choice d n target value o None s w e = subst IsSound (ok_same (record d { state = Some (record o { choice = None }) }) n e) s
entry_choice d n target value o (Some c) s w e =
    let x : Entry = record { target = target; prob = value } in
    let m : OpenState = record o { choice = Some (record c { row = with_entry x c.row }) } in
    let v : Draft = record d { entries = d.entries + 1; state = Some m } in
    let r3 : Result Draft RowsError = if leb (2 ^ 24) d.entries then Err TooMany else Ok v in
    let r2 : Result Draft RowsError = if has_target c.row target then Err Twice else r3 in
    let f = else_ok (leb d.announced target) Target r2 n e in
    let g = else_ok (has_target c.row target) Twice r3 n f.1 in
    let h = else_ok (leb (2 ^ 24) d.entries) TooMany (done v) n g.1 in
    let below : target < d.announced = leb-false d.announced target f.0 in
    let room : d.entries < 2 ^ 24 = leb-false (2 ^ 24) d.entries h.0 in
    let ok = s.state in
    let ch = s.state.choice in
    let count = are_counted d (record o { choice = Some c }) s in
    subst IsSound (ok_same v n h.1)
    (with_open d (record o { choice = Some c }) m d.labels (d.entries + 1) s (same_names (record d { state = Some (record o { choice = Some c }) }) s) (λ k t. t)
    (with_choice d.announced (length d.names) (record o { choice = Some c }) (record c { row = with_entry x c.row }) ok (record {
      rewards = ch.rewards;
      terms = ch.terms;
      ascending = ascends-with 0 x c.row (omega arith) ch.ascending g.0;
      in_range = all_with (λ (y : Entry). y.target < d.announced) x c.row below ch.in_range;
      values = all_with (λ (y : Entry). IsWithinLimit y.prob) x c.row w ch.values;
    }))
    (record {
      few_choices = count.few_choices;
      counted = let k = count.counted in let l = length-with_entry x c.row in omega (arith, k, l);
      few_entries = omega (arith, room);
    }))

entry_state : (d n : Draft) (target : ℕ) (value : ℚ) (st : Option OpenState) → IsSound (record d { state = st }) → IsWithinLimit value
    → entry_in (record d { state = st }) target value st ≡ Ok n → IsSound n
entry_state d n target value None s w e = subst IsSound (ok_same (record d { state = None }) n e) s
entry_state d n target value (Some o) s w e = entry_choice d n target value o o.choice s w e

pub after_entry-sound : (d n : Draft) (target : ℕ) (value : ℚ) → IsSound d → IsWithinLimit value → after_entry d target value ≡ Ok n → IsSound n
after_entry-sound d n target value s w e = entry_state d n target value d.state s w e

-- ---- a label

last_with : (n : ℕ) (names : List (List ℕ)) (name : List ℕ) (places : List ℕ) (b : Bool) → list_any (bytes_eq name) names ≡ b → IsTrue (places_ascend 0 places) → IsLast n (length names) places
    → IsLast n (length (with_name names name)) (with_place (position_or_len (bytes_eq name) names) places)
last_with n names name places true e a s =
    subst (λ (ns : List (List ℕ)). IsLast n (length ns) (with_place (position_or_len (bytes_eq name) names) places)) (sym (known_name names name e))
    (last_old n (length names) (position_or_len (bytes_eq name) names) places a (place_found (bytes_eq name) names e) s)
last_with n names name places false e a s =
    subst (λ (k : ℕ). IsLast n k (with_place (position_or_len (bytes_eq name) names) places)) (sym (length-new_name names name e))
    (last_new n (length names) (position_or_len (bytes_eq name) names) places (place_missed (bytes_eq name) names e) s)

label_state : (d n : Draft) (name : List ℕ) (st : Option OpenState) → IsSound (record d { state = st }) → IsName name → label_in (record d { state = st }) name st ≡ Ok n → IsSound n
label_state d n name None s i e = subst IsSound (ok_same (record d { state = None }) n e) s
label_state d n name (Some o) s i e =
    let l : ℕ = position_or_len (bytes_eq name) d.labels in
    let m : OpenState = record o { labels = with_place l o.labels; label_calls = o.label_calls + 1 } in
    let v : Draft = record d { labels = with_name d.labels name; state = Some m } in
    let f = else_ok (leb 64 o.label_calls || ltb 1024 (length (with_name d.labels name))) TooMany (done v) n e in
    let p = or_parts (leb 64 o.label_calls) (ltb 1024 (length (with_name d.labels name))) f.0 in
    let few : o.label_calls < 64 = leb-false 64 o.label_calls p.0 in
    let ok = s.state in
    let count = are_counted d o s in
    subst IsSound (ok_same v n f.1)
    (with_open d o m (with_name d.labels name) d.entries s
    (record { each = names_with d.labels name s.labels i; different = different-with d.labels name s.different; few = ltb-false 1024 (length (with_name d.labels name)) p.1 })
    (λ k t. last_with k d.labels name o.labels (list_any (bytes_eq name) d.labels) refl ok.ascending t)
    (record {
      rewards = ok.rewards;
      ascending = ascend-with 0 l o.labels (omega arith) ok.ascending;
      few_labels = let a = length-with_place l o.labels in let b = ok.few_labels in omega (arith, a, b);
      few_calls = omega (arith, few);
      choices = ok.choices;
      rows = ok.rows;
      choice = ok.choice;
    })
    (record { few_choices = count.few_choices; counted = count.counted; few_entries = count.few_entries }))

pub after_label-sound : (d n : Draft) (name : List ℕ) → IsSound d → IsName name → after_label d name ≡ Ok n → IsSound n
after_label-sound d n name s i e = label_state d n name d.state s i e

-- ---- the model

closed_mdp : (d : Draft) → IsSound d → length d.closed ≡ d.announced → IsMdp (record { names = d.names; labels = d.labels; states = d.closed })
closed_mdp d s e = record {
  some = let h = s.some in omega (arith, e, h);
  few = let h = s.few in omega (arith, e, h);
  choice = λ i l. IsClosedState.some (s.closed i no_state l);
  row = λ i c l k. subst (λ (n : ℕ). IsRow n (Choice.row (slice_index_or (State.choices (slice_index_or d.closed i no_state)) c no_choice))) (sym e)
      (IsClosedState.rows (s.closed i no_state l) c no_choice k);
}

closed_model : (d : Draft) → IsSound (record d { state = None }) → length d.closed ≡ d.announced → IsModel (record { names = d.names; labels = d.labels; states = d.closed })
closed_model d s e =
    let none : d.closed ++ [] ≡ d.closed = append-nil d.closed in
    record {
      mdp = closed_mdp (record d { state = None }) s e;
      names = s.names;
      labels = s.labels;
      different = s.different;
      few_labels = s.few_labels;
      sight = subst (λ (xs : List State). IsTrue (in_order_of_sight 0 xs (length d.labels))) none s.sight;
      states = All-weaker (IsClosedState d.announced (length d.names)) (IsStateWithin (length d.names)) (λ x h. h.within) d.closed s.closed;
      few_choices = subst (λ (xs : List State). choice_count xs ≤ 2 ^ 22) none (let h = s.few_choices in omega (arith, h));
      few_entries = subst (λ (xs : List State). entry_count xs ≤ 2 ^ 24) none (let h = s.counted in let k = s.few_entries in omega (arith, h, k));
    }

finished_by : (d : Draft) (m : Mdp) (st : Option OpenState) → st ≡ None → IsSound (record d { state = st }) → finished (record d { state = st }) ≡ Ok m → IsModel m
finished_by d m (Some o) e s h = absurd cc
finished_by d m None e s h =
    let v : Mdp = record { names = d.names; labels = d.labels; states = d.closed } in
    let f = if_ok (eqb (length d.closed) d.announced) Count (done v) m h in
    subst IsModel (ok_same v m f.1) (closed_model d s (eqb→eq (length d.closed) d.announced (subst T (sym f.0) tt)))

pub finished-sound : (d : Draft) (m : Mdp) → d.state ≡ None → IsSound d → finished d ≡ Ok m → IsModel m
finished-sound d m e s h = finished_by d m d.state e s h

pub after_finish-sound : (d : Draft) (m : Mdp) → IsSound d → after_finish d ≡ Ok m → IsModel m
after_finish-sound d m s e =
    let f = then_ok (all_closed d) finished m e in
    finished-sound f.0 m (all_are_closed d f.0 f.1) (all_closed-sound d f.0 s f.1) f.2
