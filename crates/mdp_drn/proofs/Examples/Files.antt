-- Worked files.
use Rattle.std.proofs.Common.{◌≡◌, ℕ, List, [], ◌∷◌, ◌++◌, Err, pos, negsuc, refl}
use Rattle.std.specs.Prelude.{codes, map}
use Rattle.mdp_math.specs.{Gcd.{gcd, gcd_with_fuel}, Rational.{ℚ, of_int, ratio, neg_ℚ, ◌+ℚ◌, ◌*ℚ◌, inv_ℚ, le_ℚ}, Written.{narrow, narrow_ℚ, written_add}}
use Rattle.mdp_num.specs.Numeral.{numeral_of, parts_of}
use Rattle.mdp_spec.specs.Mdp.{Mdp, State, Choice, Entry}
use Rattle.mdp_spec.proofs.Small.{entry, half, labelled, number}
use Rattle.mdp_rows.specs.declared.rule.RowRule.TheVariants.{Exact, Scaled}
use Rattle.mdp_drn.specs.{declared.error.DrnKind.{DrnKind}, Values.{value_of, reward_of, rewards_in}, Header.{names_in}, Labels.{labels_in}}
use Rattle.mdp_drn.specs.{Body.{state_read, action_read, entry_read, model_line}, Reading.{at_line, at_end, outcome, Refused, Reads}}
use Rattle.mdp_drn.specs.declared.error.DrnKind.TheVariants as kind
use Rattle.mdp_drn.specs.Header as header

-- ---- what is computed below

unfoldable lines : Unit {0}
unfolding at_line at_end model_line state_read action_read entry_read value_of reward_of rewards_in labels_in names_in header.entry_line
lines = tt

unfoldable numbers : Unit {0}
unfolding numeral_of parts_of written_add narrow narrow_ℚ le_ℚ ratio of_int neg_ℚ ◌+ℚ◌ ◌*ℚ◌ inv_ℚ gcd gcd_with_fuel
numbers = tt

unfoldable computed : Unit {0}
unfolding lines numbers
computed = tt

-- ---- how refusals are written below

-- a text, and the rule that it breaks, with the line
abbrev AreRefused : List (List ℕ × (DrnKind × ℕ)) → Type 0
AreRefused rows = map (λ row. outcome Exact row.0) rows ≡ map (λ row. Err (record { kind = row.1.0; line = row.1.1 })) rows

-- ---- how models are written below

abbrev choice : List ℚ → List Entry → Choice
choice rewards row = record { row = row; rewards = rewards }

abbrev no_reward : List ℚ
no_reward = number 0 ∷ []

-- a state with one loop
abbrev loop : List ℕ → ℕ → State
loop labels s = labelled labels (choice no_reward (entry s (number 1) ∷ []) ∷ [])

abbrev dash : List (List ℕ)
dash = codes "-" ∷ []

-- ---- three times 0.333333

abbrev thirds : List ℕ → List ℕ
thirds value =
    codes "@type: MDP\n@parameters\n\n@reward_models\n\n@nr_states\n4\n@model\nstate 0 init\naction a\n1 : " ++ value
    ++ codes "\n2 : 0.333333\n3 : 0.333333\nstate 1 goal\naction a\n1 : 1\nstate 2\naction a\n2 : 1\nstate 3\naction a\n3 : 1\n"

-- they differ from 1 by no more than 1/1000, and each is a third of their sum
scaled_thirds : Reads (thirds (codes "0.333333")) Scaled (record {
  names = dash;
  labels = codes "init" ∷ codes "goal" ∷ [];
  states =
      labelled (0 ∷ []) (choice no_reward (entry 1 (ratio (pos 1) 3) ∷ entry 2 (ratio (pos 1) 3) ∷ entry 3 (ratio (pos 1) 3) ∷ []) ∷ [])
      ∷ loop (1 ∷ []) 1 ∷ loop [] 2 ∷ loop [] 3 ∷ [];
})
unfolding computed
scaled_thirds = refl

-- 0.966666 is too far from 1
scaled_other : Refused (thirds (codes "0.3")) Scaled kind.RowSum 10
unfolding computed
scaled_other = refl

sums_refused : AreRefused (
    -- they don't add to 1
    (thirds (codes "0.333333"), (kind.RowSum, 10)) ∷
    (thirds (codes "0.3"), (kind.RowSum, 10)) ∷  -- exact other
    []
    )
unfolding computed
sums_refused = refl

-- ---- a file of 22 lines

abbrev front : List ℕ
front = codes "@type: MDP\n@parameters\n\n@reward_models\n\n@nr_states\n"

abbrev middle : List ℕ
middle = codes "\n@nr_choices\n4\n@model\nstate 0 init\naction a\n0 : 1\naction b\n"

abbrev back : List ℕ
back = codes "2 : 2/3\nstate 1 goal\naction a\n1 : 1\nstate 2\naction a\n2 : 1\n"

abbrev file : List ℕ → List ℕ
file count = front ++ count ++ middle ++ codes "1 : 1/3\n" ++ back

three : Reads (file (codes "3")) Exact (record {
  names = dash;
  labels = codes "init" ∷ codes "goal" ∷ [];
  states =
      labelled (0 ∷ []) (choice no_reward (entry 0 (number 1) ∷ []) ∷ choice no_reward (entry 1 (ratio (pos 1) 3) ∷ entry 2 (ratio (pos 2) 3) ∷ []) ∷ [])
      ∷ loop (1 ∷ []) 1 ∷ loop [] 2 ∷ [];
})
unfolding computed
three = refl

files_refused : AreRefused (
    (file (codes "4"), (kind.Count, 23)) ∷  -- one more announced
    (file (codes "1048577"), (kind.TooMany, 7)) ∷  -- too many announced
    -- cut inside of line 15, behind line 13 and behind line 15
    (front ++ codes "3" ++ middle ++ codes "1 : 1/", (kind.Number, 15)) ∷
    (front ++ codes "3" ++ middle ++ codes "1", (kind.Shape, 15)) ∷  -- cut behind a target
    -- what stands before line 14 is one choice, which is closed
    (front ++ codes "3" ++ codes "\n@nr_choices\n4\n@model\nstate 0 init\naction a\n0 : 1\n", (kind.Count, 14)) ∷
    (front ++ codes "3" ++ middle ++ codes "1 : 1/3\n", (kind.RowSum, 14)) ∷  -- cut in a row
    ([], (kind.End, 1)) ∷  -- empty
    []
    )
unfolding computed
files_refused = refl

-- ---- layouts

-- two reward models; a comment, CR, tabs, brackets, labels with and without quotes; a label twice; a value of 0, which is dropped
abbrev rich_text : List ℕ
rich_text =
    codes "// made by hand\r\n@type:MDP\r\n@value_type: double\n@reward_models\nfirst  second\n\n@nr_states\n\n2\n@model\n"
    ++ codes "state 0 [1/2, 2]\"is done\" init init\r\n//[s=0]\n\taction left [0.5,1]\n\t\t1:5e-1\n\t\t0 : 0.5\n"
    ++ codes "state 1[ ]\n\n\taction [name] []\n1 : 1.0\n0\t:\t0"

rich : Reads rich_text Exact (record {
  names = codes "first" ∷ codes "second" ∷ [];
  labels = codes "is done" ∷ codes "init" ∷ [];
  states =
      labelled (0 ∷ 1 ∷ []) (choice (number 1 ∷ number 3 ∷ []) (entry 0 (ratio (pos 1) 2) ∷ entry 1 (ratio (pos 1) 2) ∷ []) ∷ [])
      ∷ labelled [] (choice (number 0 ∷ number 0 ∷ []) (entry 1 (number 1) ∷ []) ∷ []) ∷ [];
})
unfolding computed
rich = refl

-- ---- the order of the rules

abbrev two : List ℕ → List ℕ
two rest = codes "@type: MDP\n@nr_states\n2\n@model\n" ++ rest

in_order : AreRefused (
    -- a row is closed before the next state or action is judged, and a state before the next state
    (two (codes "state 0\naction\n0 : 1/2\nstate 1x\n"), (kind.RowSum, 6)) ∷
    (two (codes "state 0\nstate 0\n"), (kind.NoChoice, 5)) ∷  -- choice before order
    -- but `state1` and `state -1` are no such lines
    (two (codes "state 0\naction\n0 : 1/2\nstate -1\n"), (kind.Shape, 8)) ∷
    -- a zero counts as an entry
    (two (codes "state 0\naction\n0 : 0\n0 : 1\n"), (kind.Twice, 8)) ∷
    -- the target is judged before the value
    (two (codes "state 0\naction\n99 : abc\n"), (kind.Target, 7)) ∷
    -- a bracket of an action runs from its last `[`
    (two (codes "state 0\naction [1]]\n"), (kind.Number, 6)) ∷
    -- the bracket of a state ends at its first `]`
    (two (codes "state 0 [1]] \"\n"), (kind.Label, 5)) ∷
    (two (codes "state 0\naction\n0 : -0.5\n"), (kind.Negative, 7)) ∷  -- negative
    (two (codes "state 1\n"), (kind.Order, 5)) ∷  -- order
    []
    )
unfolding computed
in_order = refl

-- ---- headers

headers_refused : AreRefused (
    (codes "@type: MDP\n@type: MDP\n", (kind.Header, 2)) ∷  -- twice typed
    (codes "@type: CTMC\n", (kind.Type, 1)) ∷  -- other type
    (codes "@type: MDP\n@model\n", (kind.Header, 2)) ∷  -- early model
    (codes "@placeholders\n", (kind.Parametric, 1)) ∷  -- placeholders
    -- a comment and a blank line count as lines
    (codes "// none\n\n@types\n", (kind.Header, 3)) ∷
    []
    )
unfolding computed
headers_refused = refl

-- ---- Markov chains

abbrev chain : List ℕ → List ℕ
chain rest = codes "@type: DTMC\n@nr_states\n2\n@model\n" ++ rest

-- each state has one choice
one_choice_each : Reads (chain (codes "state 0 init\naction\n0 : 1/2\n1 : 1/2\nstate 1\naction\n1 : 1\n")) Exact (record {
  names = dash;
  labels = codes "init" ∷ [];
  states = labelled (0 ∷ []) (choice no_reward (entry 0 half ∷ entry 1 half ∷ []) ∷ []) ∷ loop [] 1 ∷ [];
})
unfolding computed
one_choice_each = refl

chains_refused : AreRefused (
    (chain (codes "state 0\naction\n0 : 1\nstate 1\naction\n1 : 1\naction\n1 : 1\n"), (kind.Choices, 11)) ∷  -- second choice
    -- the row before is closed first, and the bracket is judged first
    (chain (codes "state 0\naction\n0 : 1/2\naction\n"), (kind.RowSum, 6)) ∷
    (chain (codes "state 0\naction\n0 : 1\naction [x]\n"), (kind.Number, 8)) ∷  -- bracket before choices
    -- too large a sum comes behind it
    (chain (codes "state 0 [1e36]\naction\n0 : 1\naction [1]\n"), (kind.Choices, 8)) ∷
    []
    )
unfolding computed
chains_refused = refl

-- ---- rewards of either sign

abbrev with_reward : List ℕ → List ℕ
with_reward value = codes "@type: MDP\n@nr_states\n1\n@model\nstate 0\naction [" ++ value ++ codes "]\n0 : 1"

abbrev loop_of : ℚ → Mdp
loop_of reward = record { names = dash; labels = []; states = labelled [] (choice (reward ∷ []) (entry 0 (number 1) ∷ []) ∷ []) ∷ [] }

minus_half : Reads (with_reward (codes "-1/2")) Exact (loop_of (ratio (negsuc 0) 2))
unfolding computed
minus_half = refl

minus_zero : Reads (with_reward (codes "-0")) Exact (loop_of (number 0))
unfolding computed
minus_zero = refl

least : Reads (with_reward (codes "-1e36")) Exact (loop_of (of_int (negsuc 999999999999999999999999999999999999)))
unfolding computed
least = refl

-- two reward models, and the sums of a state's and a choice's rewards, of which one is too large by magnitude
both_signs : Reads (codes "@type: MDP\n@reward_models\ncost gain\n@nr_states\n1\n@model\nstate 0 [-1,2]\naction [1, -3/2]\n0 : 1") Exact (record {
  names = codes "cost" ∷ codes "gain" ∷ [];
  labels = [];
  states = labelled [] (choice (number 0 ∷ half ∷ []) (entry 0 (number 1) ∷ []) ∷ []) ∷ [];
})
unfolding computed
both_signs = refl

rewards_refused : AreRefused (
    (with_reward (codes "--1"), (kind.Number, 6)) ∷  -- two signs
    (with_reward (codes "- 1"), (kind.Number, 6)) ∷  -- blank behind sign
    (with_reward (codes "-"), (kind.Number, 6)) ∷  -- sign alone
    (with_reward (codes "+1"), (kind.Number, 6)) ∷  -- plus
    (with_reward (codes "-1e37"), (kind.Large, 6)) ∷  -- large below
    (two (codes "state 0 [1e36]\naction [1]\n"), (kind.Large, 6)) ∷  -- large sum
    (two (codes "state 0 [-1e36]\naction [-1]\n"), (kind.Large, 6)) ∷  -- large sum below
    []
    )
unfolding computed
rewards_refused = refl
