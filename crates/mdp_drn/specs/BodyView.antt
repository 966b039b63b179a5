-- The model so far in the code, as the lines have spelled it.
use Rattle.std.specs.{List.{All}, Prelude.{◌≡◌, ℕ, List, length, map, sum_by, Bool, true, false, ◌||◌, Option, Some, None, Result, Ok, Err, nat_lt, ◌==◌}}
use Rattle.std.specs.Option.{is_some}
use Rattle.mdp_math.specs.Rational.{ℚ}
use Rattle.mdp_rows.specs.{declared.error.RowsError.{RowsError}, Draft.{Draft, OpenState}}
use Rattle.mdp_rows.specs.declared.error.RowsError.TheVariants as rows
use Rattle.mdp_drn.specs.{declared.body.Body.{Body}, declared.model_line.StateText.{StateText}, declared.error.DrnError.{DrnError}, Lines.{is_line_feed}}
use Rattle.mdp_drn.specs.{Body.{EntryRead, StateRead}, declared.error.DrnKind.TheVariants.{RowSum, RowWide, Twice, NoChoice, TooMany, Target, Large, Count}}
use Rattle.mdp_drn.specs.declared.error.DrnError.TheVariants as error
use Rattle.mdp_drn.specs.Body as spec
use Rattle.mdp_spec.specs.Mdp.{Mdp}

abbrev pub view : Body → spec.Body
view b = record { draft = b.builder; is_chain = b.is_chain; state_line = b.state_line; action_line = b.action_line }

-- the open state has a choice, closed or open
abbrev pub has_any_choice : OpenState → Bool
has_any_choice o = nat_lt 0 (length o.choices) || is_some o.choice

-- it is known whether the open state has a choice
abbrev pub Knows : Bool → Draft → Type 0
Knows known d = (o : OpenState) → d.state ≡ Some o → known ≡ has_any_choice o

-- it keeps how many states and reward models there are and whether the open state has a choice, and its builder hasn't refused
pub record IsBody (b : Body) : Type 0 where
  pub announced : b.announced ≡ b.builder.announced
  pub models : b.models ≡ length b.builder.names
  pub action : Knows b.has_action b.builder
  pub unrefused : b.builder.refused ≡ None

-- all but the builder is as it was, and what is known of the open state
pub record IsSameBeside (old new : Body) : Type 0 where
  pub announced : new.announced ≡ old.announced
  pub models : new.models ≡ old.models
  pub is_chain : new.is_chain ≡ old.is_chain
  pub state_line : new.state_line ≡ old.state_line
  pub action_line : new.action_line ≡ old.action_line

-- what a refusal of the builder is answered as, by the lines of the last `state` and `action` and this line
abbrev pub error_of : ℕ → ℕ → ℕ → RowsError → DrnError
error_of state action line (rows.RowSum s c) = error.At action RowSum
error_of state action line (rows.RowWide s c) = error.At action RowWide
error_of state action line rows.Twice = error.At line Twice
error_of state action line (rows.NoChoice s) = error.At state NoChoice
error_of state action line rows.TooMany = error.At line TooMany
error_of state action line rows.Target = error.At line Target
error_of state action line rows.Large = error.At line Large
error_of state action line rows.Count = error.At line Count
error_of state action line rows.Memory = error.Memory

-- what an answer of the builder is answered as
abbrev pub answer_of : ℕ → ℕ → ℕ → Result (Unit {0}) RowsError → Result (Unit {0}) DrnError
answer_of state action line (Ok done) = Ok done
answer_of state action line (Err e) = Err (error_of state action line e)

abbrev pub state_in : StateText → StateRead
state_in s = record { rewards = s.rewards.items; labels = map (λ label. label.now) s.labels.items }

abbrev pub entry_in : ℕ × ℚ → EntryRead
entry_in x = record { target = x.0; value = x.1 }

-- no line feed is in the text
abbrev pub IsOneLine : List ℕ → Type 0
IsOneLine text = All (λ b. is_line_feed b ≡ false) text

-- the model has as many choices as were announced, where a number was
abbrev pub as_announced : Option ℕ → Mdp → Bool
as_announced None m = true
as_announced (Some n) m = sum_by (λ x. length x.choices) m.states == n
