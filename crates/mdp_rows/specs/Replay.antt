-- The calls that hand a model to a builder, state by state: the state with rewards 0, its labels, and each choice with its entries.
use Rattle.std.specs.Prelude.{◌≡◌, ℕ, List, [], ◌∷◌, map, slice_index_or, pos, Result, Ok}
use Rattle.mdp_math.specs.Rational.{ℚ, of_int}
use Rattle.mdp_spec.specs.Mdp.{Entry, Choice, State, Mdp, states_of}
use Rattle.mdp_rows.specs.{Draft.{Draft, new_draft, ◌>>=◌, after_state, after_label, after_choice, after_entry, after_finish}, Limits.{IsModel}}
use Rattle.mdp_rows.specs.{declared.error.RowsError.{RowsError}, declared.rule.RowRule.TheVariants.{Exact}}

-- a reward of 0 for each name
abbrev pub no_rewards : List (List ℕ) → List ℚ
no_rewards names = map (λ name. of_int (pos 0)) names

abbrev pub with_labels : List (List ℕ) → List ℕ → Draft → Result Draft RowsError
with_labels names [] d = Ok d
with_labels names (l ∷ places) d = after_label d (slice_index_or names l []) >>= with_labels names places

abbrev pub with_entries : List Entry → Draft → Result Draft RowsError
with_entries [] d = Ok d
with_entries (x ∷ row) d = after_entry d x.target x.prob >>= with_entries row

abbrev pub with_choices : List Choice → Draft → Result Draft RowsError
with_choices [] d = Ok d
with_choices (c ∷ choices) d = after_choice d c.rewards >>= λ opened. with_entries c.row opened >>= with_choices choices

abbrev pub with_states : List (List ℕ) → List (List ℕ) → List State → Draft → Result Draft RowsError
with_states names labels [] d = Ok d
with_states names labels (x ∷ states) d =
    after_state d (no_rewards names) >>= λ opened. with_labels labels x.labels opened >>= λ labelled. with_choices x.choices labelled >>= with_states names labels states

abbrev pub replayed : Mdp → Result Mdp RowsError
replayed m = with_states m.names m.labels m.states (new_draft (states_of m) Exact m.names) >>= after_finish

-- a model that is handed to a builder comes out as it is
abbrev pub IsReplayed : Type 0
IsReplayed = (m : Mdp) → IsModel m → replayed m ≡ Ok m
