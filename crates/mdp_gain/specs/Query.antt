-- The query of the best gain of one end component, for the reward of name r: its start, its path, its answer.
use Rattle.std.specs.Prelude.{◌≡◌, ℕ, List, map, Option, slice_index, Result, Ok, Err}
use Rattle.mdp_math.specs.Rational.{ℚ}
use Rattle.mdp_spec.specs.Mdp.{Mdp, value_at}
use Rattle.mdp_rows.specs.declared.dir.Dir.{Dir}
use Rattle.mdp_wide.specs.{declared.too_wide.Part.TheVariants.{Inner}, Term.{WideTerm}}
use Rattle.mdp_policy_iteration.specs.{Path.{Refusal}, Laws.{first}, Queries.{term_of}}
use Rattle.mdp_unichain.specs.{Iteration.{EndsWith}, Path.{Found, Makes, IsFirst}}
pub use Rattle.mdp_unichain.specs.Part.{members, is_inner, inner_component}
use Rattle.mdp_gain.specs.declared.inner.Inner as code

-- what was found: the states, ascending, the gain, and for each of these states its bias and its choice
pub record Answer : Type 0 where
  pub states : List ℕ
  pub gain : ℚ
  pub bias : List ℚ
  pub choices : List ℕ

abbrev pub plain : code.Inner → Answer
plain x = record { states = x.states.items; gain = x.gain; bias = x.bias.items; choices = x.choices.items }

abbrev pub answer_of : List ℕ → Found → Answer
answer_of states found =
    record { states = states; gain = found.values.gain; bias = map (value_at found.values.bias) states; choices = map (slice_index found.policy) states }

-- the policy of the refused round lists these states alone
abbrev pub refusal_at : List ℕ → Refusal → Refusal
refusal_at states x = record { number = x.number; policy = map (slice_index x.policy) states; place = x.place }

-- what follows the path's end
abbrev pub after_path : List ℕ → ℕ → Result Found Refusal → Result Answer WideTerm
after_path states i (Ok found) = Ok (answer_of states found)
after_path states i (Err x) = Err (term_of (Inner i) (refusal_at states x))

-- the query ends so
pub record EndsSo (dir : Dir) (m : Mdp) (parts : List (Option ℕ)) (i r : ℕ) (q : Result Answer WideTerm) : Type 0 where
  pub start : List ℕ
  pub is_first : IsFirst (inner_component dir m parts i r) start
  pub end : Result Found Refusal
  pub path : EndsWith (Makes (inner_component dir m parts i r)) (first start) end
  pub after : q ≡ after_path (members m parts i) i end
