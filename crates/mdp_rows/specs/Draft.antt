-- A model while it is made, and what each call of a builder makes of it.
use Rattle.std.specs.Prelude.{false, ◌≡◌, ◌⊎◌, ℕ, ◌+◌, Bool, not, ◌||◌, ◌&&◌, List, [], ◌∷◌, ◌++◌, length, sum_by, filter, map, unsigned_abs, pos, Option, Some, None}
use Rattle.std.specs.{Prelude.{Result, Ok, Err, OnOk, IfErr, ◌==◌, nat_lt, nat_le, if◌then◌else◌}, List.{list_any, position_or_len}, Option.{IfSome, is_some}}
use Rattle.std.specs.{Result.{MatchResult, result_err}, Str.{bytes_eq}}
use Rattle.mdp_math.specs.{Rational.{ℚ, of_int, ratio, le_ℚ, ◌*ℚ◌, inv_ℚ}, Written.{written_add}, Sum.{sum_of}}
pub use Rattle.mdp_math.specs.Result.{◌>>=◌}
use Rattle.mdp_spec.specs.{Mdp.{Entry, Choice, State, Mdp}, Unit.{row_den}}
use Rattle.mdp_num.specs.Numeral.{limit}
use Rattle.mdp_rows.specs.{Limits.{max_choices, max_entries, max_labels, max_labels_of_state}, declared.error.RowsError.{RowsError}}
use Rattle.mdp_rows.specs.declared.error.RowsError.TheVariants.{RowSum, RowWide, Twice, NoChoice, TooMany, Target, Large, Count, Memory}
use Rattle.mdp_rows.specs.{declared.rule.RowRule.{RowRule}, declared.rule.RowRule.TheVariants.{Exact, Scaled}}

-- ---- rows

abbrev pub is_one : ℚ → Bool
is_one x = le_ℚ x (of_int (pos 1)) && le_ℚ (of_int (pos 1)) x

-- it differs from 1 by at most 1/1000
abbrev pub is_near_one : ℚ → Bool
is_near_one x = le_ℚ (ratio (pos 999) 1000) x && le_ℚ x (ratio (pos 1001) 1000)

abbrev pub is_zero : ℚ → Bool
is_zero x = unsigned_abs x.num == 0

-- the entries that are kept: those of value 0 go
abbrev pub kept : List Entry → List Entry
kept row = filter (λ x. not (is_zero x.prob)) row

abbrev pub row_total : List Entry → ℚ
row_total row = sum_of (λ x. x.prob) row

-- each value divided by the sum of the row
abbrev pub scaled_row : List Entry → List Entry
scaled_row row = map (λ x. record { target = x.target; prob = x.prob *ℚ inv_ℚ (row_total row) }) row

-- the row, where its least common denominator is within the limit
abbrev pub within_limit : ℕ → ℕ → List Entry → Result (List Entry) RowsError
within_limit s c row = if nat_lt limit (row_den row) then Err (RowWide s c) else Ok row

-- the values that a row of the values given has: under `Exact` they add to 1; under `Scaled` they add to 1 but for 1/1000, and each is divided by their sum
abbrev pub ruled_row : RowRule → ℕ → ℕ → List Entry → Result (List Entry) RowsError
ruled_row Exact s c row = if is_one (row_total row) then Ok row else Err (RowSum s c)
ruled_row Scaled s c row = if is_near_one (row_total row) then within_limit s c (scaled_row row) else Err (RowSum s c)

-- what a row of the values given closes as
abbrev pub closed_row : RowRule → ℕ → ℕ → List Entry → Result (List Entry) RowsError
closed_row rule s c row = within_limit s c row >>= λ given. ruled_row rule s c given >>= λ values. Ok (kept values)

-- with one entry more, targets ascending
abbrev pub with_entry : Entry → List Entry → List Entry
with_entry x [] = x ∷ []
with_entry x (y ∷ row) = if nat_lt x.target y.target then x ∷ y ∷ row else y ∷ with_entry x row

-- ---- the draft

-- the choice that is open: its rewards, those of the state added, and its row with all values given, targets ascending
pub record OpenChoice : Type 0 where
  pub rewards : List ℚ
  pub row : List Entry

-- the state that is open: its own rewards, its labels' places ascending, how often it was given one, its closed choices, and the choice
-- that is open
pub record OpenState : Type 0 where
  pub rewards : List ℚ
  pub labels : List ℕ
  pub label_calls : ℕ
  pub choices : List Choice
  pub choice : Option OpenChoice

pub record Draft : Type 0 where
  pub announced : ℕ
  pub rule : RowRule
  pub names : List (List ℕ)
  pub labels : List (List ℕ)
  pub closed : List State
  pub state : Option OpenState
  pub entries : ℕ
  pub refused : Option RowsError

abbrev pub new_state : List ℚ → OpenState
new_state rewards = record { rewards = rewards; labels = []; label_calls = 0; choices = []; choice = None }

abbrev pub new_draft : ℕ → RowRule → List (List ℕ) → Draft
new_draft states rule names = record { announced = states; rule = rule; names = names; labels = []; closed = []; state = None; entries = 0; refused = None }

-- how many choices a state that is open has, its open row not counted
abbrev pub choices_of : Option OpenState → List Choice
choices_of None = []
choices_of (Some o) = o.choices

abbrev pub closed_choices : Draft → ℕ
closed_choices d = sum_by (λ x. length x.choices) d.closed

-- the open choice of the open state is closed, where there is one
abbrev pub with_choice_closed : Draft → OpenState → Option OpenChoice → Result Draft RowsError
with_choice_closed d o None = Ok d
with_choice_closed d o (Some c) =
    closed_row d.rule (length d.closed) (length o.choices) c.row
    >>= λ row. Ok (record d { state = Some (record o { choices = o.choices ++ record { row = row; rewards = c.rewards } ∷ []; choice = None }) })

abbrev pub choice_closed_in : Draft → Option OpenState → Result Draft RowsError
choice_closed_in d None = Ok d
choice_closed_in d (Some o) = with_choice_closed d o o.choice

abbrev pub choice_closed : Draft → Result Draft RowsError
choice_closed d = choice_closed_in d d.state

-- the open state is closed, where there is one
abbrev pub state_closed_in : Draft → Option OpenState → Result Draft RowsError
state_closed_in d None = Ok d
state_closed_in d (Some o) =
    if length o.choices == 0 then Err (NoChoice (length d.closed))
    else Ok (record d { closed = d.closed ++ record { labels = o.labels; choices = o.choices } ∷ []; state = None })

abbrev pub state_closed : Draft → Result Draft RowsError
state_closed d = state_closed_in d d.state

abbrev pub all_closed : Draft → Result Draft RowsError
all_closed d = choice_closed d >>= state_closed

-- ---- the calls, of a draft that wasn't refused. Where nothing is open that a call needs, the draft stays: such calls don't come

abbrev pub state_opened : Draft → List ℚ → Result Draft RowsError
state_opened d rewards = if length d.closed == d.announced then Err Count else Ok (record d { state = Some (new_state rewards) })

abbrev pub after_state : Draft → List ℚ → Result Draft RowsError
after_state d rewards = all_closed d >>= λ closed. state_opened closed rewards

-- a sum of rewards: no written term past width, and lowest terms of magnitude at most 10^36
abbrev pub has_small_terms : ℚ → Bool
has_small_terms x = nat_le (unsigned_abs x.num) limit && nat_le x.den limit

abbrev pub kept_sum : Option ℚ → Result ℚ RowsError
kept_sum None = Err Large
kept_sum (Some x) = if has_small_terms x then Ok x else Err Large

-- the rewards of a state and of a choice, added name by name
abbrev pub summed_rewards : List ℚ → List ℚ → Result (List ℚ) RowsError
summed_rewards [] ys = Ok []
summed_rewards (x ∷ xs) [] = Ok []
summed_rewards (x ∷ xs) (y ∷ ys) = kept_sum (written_add x y) >>= λ sum. summed_rewards xs ys >>= λ sums. Ok (sum ∷ sums)

abbrev pub choice_opened_in : Draft → List ℚ → Option OpenState → Result Draft RowsError
choice_opened_in d rewards None = Ok d
choice_opened_in d rewards (Some o) =
    if nat_lt max_choices (closed_choices d + length o.choices + 1) then Err TooMany
    else (summed_rewards o.rewards rewards >>= λ sums. Ok (record d { state = Some (record o { choice = Some (record { rewards = sums; row = [] }) }) }))

abbrev pub choice_opened : Draft → List ℚ → Result Draft RowsError
choice_opened d rewards = choice_opened_in d rewards d.state

abbrev pub after_choice : Draft → List ℚ → Result Draft RowsError
after_choice d rewards = choice_closed d >>= λ closed. choice_opened closed rewards

abbrev pub has_target : List Entry → ℕ → Bool
has_target row target = list_any (λ x. x.target == target) row

abbrev pub with_choice_entry : Draft → ℕ → ℚ → OpenState → Option OpenChoice → Result Draft RowsError
with_choice_entry d target value o None = Ok d
with_choice_entry d target value o (Some c) =
    if nat_le d.announced target then Err Target
    else (if has_target c.row target then Err Twice
    else (if nat_le max_entries d.entries then Err TooMany
    else Ok (record d { entries = d.entries + 1; state = Some (record o { choice = Some (record c { row = with_entry (record { target = target; prob = value }) c.row }) }) })))

abbrev pub entry_in : Draft → ℕ → ℚ → Option OpenState → Result Draft RowsError
entry_in d target value None = Ok d
entry_in d target value (Some o) = with_choice_entry d target value o o.choice

abbrev pub after_entry : Draft → ℕ → ℚ → Result Draft RowsError
after_entry d target value = entry_in d target value d.state

-- the place of a label, which a new name gets at the end
abbrev pub with_name : List (List ℕ) → List ℕ → List (List ℕ)
with_name names name = if list_any (bytes_eq name) names then names else names ++ name ∷ []

abbrev pub with_place : ℕ → List ℕ → List ℕ
with_place l [] = l ∷ []
with_place l (k ∷ places) = if l == k then k ∷ places else (if nat_lt l k then l ∷ k ∷ places else k ∷ with_place l places)

abbrev pub label_in : Draft → List ℕ → Option OpenState → Result Draft RowsError
label_in d name None = Ok d
label_in d name (Some o) =
    if nat_le max_labels_of_state o.label_calls || nat_lt max_labels (length (with_name d.labels name)) then Err TooMany
    else Ok (record d { labels = with_name d.labels name; state = Some (record o { labels = with_place (position_or_len (bytes_eq name) d.labels) o.labels; label_calls = o.label_calls + 1 }) })

abbrev pub after_label : Draft → List ℕ → Result Draft RowsError
after_label d name = label_in d name d.state

abbrev pub finished : Draft → Result Mdp RowsError
finished d = if length d.closed == d.announced then Ok (record { names = d.names; labels = d.labels; states = d.closed }) else Err Count

abbrev pub after_finish : Draft → Result Mdp RowsError
after_finish d = all_closed d >>= finished

-- no choice is open
abbrev pub IsChoiceClosed : Option OpenState → Type 0
IsChoiceClosed None = Unit {0}
IsChoiceClosed (Some o) = o.choice ≡ None

-- nothing was refused
abbrev pub IsUnrefused : Draft → Type 0
IsUnrefused d = d.refused ≡ None

abbrev pub has_state : Draft → Bool
has_state d = is_some d.state

abbrev pub has_choice : Draft → Bool
has_choice d = elim d.state [ None ↦ false | Some o ↦ is_some o.choice ]

-- how many states were opened
abbrev pub states_opened : Draft → ℕ
states_opened d = elim d.state [ None ↦ length d.closed | Some o ↦ length d.closed + 1 ]

-- the open row has an entry to this target, of value 0 or not
abbrev pub has_open_target : Draft → ℕ → Bool
has_open_target d target = elim d.state [ None ↦ false | Some o ↦ elim o.choice [ None ↦ false | Some c ↦ has_target c.row target ] ]

-- ---- what a call answers

-- what a step does: its draft follows on Ok; a refusal is the one that is due, or want of memory
abbrev pub Follows : {A : Type 0} → Result A RowsError → Result (Unit {0}) RowsError → A → Type 0
Follows due result new = MatchResult result (λ _. due ≡ Ok new) (λ e. (e ≡ Memory) ⊎ (due ≡ Err e))

-- what a call of a builder does.
--     again   a builder that has refused answers the same refusal, and its draft is as before
--     ok      the draft is the one that is due
--     err     the first refusal is the one that is due, or want of memory
--     kept    what the call refuses is kept; after Ok nothing was refused
pub record IsCall (old new : Draft) (due : Result Draft RowsError) (result : Result (Unit {0}) RowsError) : Type 0 where
  pub again : IfSome old.refused (λ e. (result ≡ Err e) × (new ≡ old))
  pub ok : OnOk result (due ≡ Ok new)
  pub err : IfErr result (λ e. IsUnrefused old → (e ≡ Memory) ⊎ (due ≡ Err e))
  pub kept : new.refused ≡ result_err result
