-- The text of lower and upper values and a table.
use Rattle.std.specs.Prelude.{ℕ, suc, List, [], ◌∷◌, ◌++◌, length, Option, Some, None, decimal, codes}
use Rattle.mdp_math.specs.Rational.{ℚ}
use Rattle.mdp_num.specs.Value.{spelling}
use Rattle.mdp_spec.specs.{Mdp.{Mdp, states_of}, Bounds.{reward_at}, Labels.{initial_of}}
use Rattle.mdp_rows.specs.declared.dir.Dir.{Dir}
use Rattle.mdp_text.specs.Spelling.{line, ◌␣◌, quoted, dir_text, states_text, end_text}
use Rattle.mdp_horizon.specs.{Spelling.{step_lines}, Columns.{Bounds}, declared.claim.Claim.{Claim}, declared.claim.Claim.TheVariants.{Until, Total}}

abbrev pub version_text : List ℕ
version_text = codes "mdp-horizon-bounds 1"

-- what was asked: to a goal by way of states that stay, or the total of a reward
pub data PlainClaim : Type 0 where
  until : List ℕ → List ℕ → PlainClaim
  total : List ℕ → PlainClaim

abbrev pub plain_claim : Claim → PlainClaim
plain_claim (Until stay label) = until stay.now label.now
plain_claim (Total name) = total name.now

abbrev pub objective_text : PlainClaim → List ℕ
objective_text (until stay label) = codes "until" ␣ quoted stay ␣ quoted label
objective_text (total name) = codes "total" ␣ quoted name

abbrev pub claim_text : Dir → PlainClaim → ℕ → List ℕ
claim_text dir claim steps = codes "claim" ␣ dir_text dir ␣ objective_text claim ␣ decimal steps

-- a value that is missing claims nothing
abbrev pub lower_text : Option ℚ → List ℕ
lower_text None = codes "-inf"
lower_text (Some x) = spelling x

abbrev pub upper_text : Option ℚ → List ℕ
upper_text None = codes "inf"
upper_text (Some x) = spelling x

-- the line of the initial state, where there is exactly one
abbrev pub start_text : ℕ → Option ℚ → Option ℚ → List ℕ
start_text s lower upper = codes "init" ␣ decimal s ␣ lower_text lower ␣ upper_text upper

abbrev pub init_text : Option ℕ → List (Option ℚ) → List (Option ℚ) → List ℕ
init_text None lower upper = codes "init -"
init_text (Some s) lower upper = start_text s (reward_at lower s) (reward_at upper s)

abbrev pub state_text : ℕ → Option ℚ → Option ℚ → List ℕ
state_text s lower upper = codes "state" ␣ decimal s ␣ lower_text lower ␣ upper_text upper

-- the states from this one on
abbrev pub state_lines : ℕ → List (Option ℚ) → List (Option ℚ) → List ℕ
state_lines s [] uppers = []
state_lines s (lower ∷ lowers) [] = []
state_lines s (lower ∷ lowers) (upper ∷ uppers) = line (state_text s lower upper) ++ state_lines (suc s) lowers uppers

-- the lines before those of the states
abbrev pub head_text : Dir → PlainClaim → Mdp → Bounds → List ℕ
head_text dir claim m b = line version_text ++ (line (claim_text dir claim (length b.steps)) ++ (line (states_text (states_of m)) ++ line (init_text (initial_of m) b.lower b.upper)))

unfoldable pub bounds_text : Dir → PlainClaim → Mdp → Bounds → List ℕ
bounds_text dir claim m b = head_text dir claim m b ++ (state_lines 0 b.lower b.upper ++ (step_lines b.steps ++ line end_text))
