-- A best gain of an end component, with a bias and a policy that has it (Puterman 1994, sections 8.4 and 9.5: the optimality equation of one end
-- component). Each step by a choice of the component earns at most the gain, as the bias sees it (for the least gain: at least), and each step of the
-- policy earns it exactly.
use Rattle.std.specs.Prelude.{◌≡◌, ℕ, ◌<◌, true, List, [], ◌∷◌, length, Option, ◌==◌, if◌then◌else◌, pos}
use Rattle.mdp_math.specs.Rational.{ℚ, of_int, ◌+ℚ◌}
use Rattle.mdp_spec.specs.{Mdp.{Mdp, states_of, choices_at, choice_at, row_at}, Unit.{reward_of}}
use Rattle.mdp_rows.specs.{declared.dir.Dir.{Dir}, Better.{IsAsGood}}
use Rattle.mdp_ends.specs.Ends.{in_part, is_inside}
use Rattle.mdp_unichain.specs.{Chain.{AllLeadTo}, Evaluation.{mean}}
use Rattle.mdp_gain.specs.Query.{Answer, members}

-- the entry of state s, where a list has one entry for each of these states; d elsewhere
abbrev pub entry_of : {A : Type 0} → A → List ℕ → List A → ℕ → A
entry_of d [] xs s = d
entry_of d (t ∷ states) [] s = d
entry_of d (t ∷ states) (x ∷ xs) s = if t == s then x else entry_of d states xs s

abbrev pub bias_at : Answer → ℕ → ℚ
bias_at a s = entry_of (of_int (pos 0)) a.states a.bias s

abbrev pub taken_at : Answer → ℕ → ℕ
taken_at a s = entry_of 0 a.states a.choices s

-- what choice c of state s earns at once, and then by the values h
abbrev pub worth_of : Mdp → ℕ → (ℕ → ℚ) → ℕ → ℕ → ℚ
worth_of m r h s c = reward_of (choice_at m s c) r +ℚ mean (row_at m s c) h

-- choice c of a state of part i is one of the part
pub record IsInnerChoice (m : Mdp) (parts : List (Option ℕ)) (i s c : ℕ) : Type 0 where
  pub state : s < states_of m
  pub member : in_part parts i s ≡ true
  pub choice : c < length (choices_at m s)
  pub inside : is_inside m parts s c ≡ true

pub record IsBestInner (dir : Dir) (m : Mdp) (parts : List (Option ℕ)) (i r : ℕ) (a : Answer) : Type 0 where
  pub states : a.states ≡ members m parts i
  pub biases : length a.bias ≡ length a.states
  pub choices : length a.choices ≡ length a.states
  -- the policy takes choices of the part
  pub takes : (s : ℕ) → s < states_of m → in_part parts i s ≡ true → IsInnerChoice m parts i s (taken_at a s)
  -- no choice of the part is better
  pub none_better : (s c : ℕ) → IsInnerChoice m parts i s c → IsAsGood dir (a.gain +ℚ bias_at a s) (worth_of m r (bias_at a) s c)
  -- the policy's choices are as good
  pub earns : (s : ℕ) → s < states_of m → in_part parts i s ≡ true → worth_of m r (bias_at a) s (taken_at a s) ≡ a.gain +ℚ bias_at a s
  -- and have one closed class: all states lead to one
  pub one_class : (t : ℕ) × AllLeadTo (in_part parts i) (λ s. row_at m s (taken_at a s)) t
