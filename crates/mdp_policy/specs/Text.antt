-- The text of a policy, and reading it line by line: the choices, or the first line that breaks a rule. Each line is judged by its shape first,
-- then by its numbers from left to right, then by what they count.
use Rattle.std.specs.{Prelude.{◌≡◌, ◌↔◌, ℕ, zero, suc, ◌<◌, ◌≤◌, ◌^◌, not, List, [], ◌∷◌, ◌++◌, length, drop, decimal, codes, Result, Ok, ◌==◌}, List.{All}}
use Rattle.mdp_text.specs.declared.error.CertKind.TheVariants as kind
use Rattle.mdp_text.specs.{declared.error.Refusal.{Refusal}, Lines.{◌>>=◌, refuse_if, is_line, Place, place, line_by, nothing_behind}}
use Rattle.mdp_text.specs.{Words.{first_of, words_behind, whole_at}, Spelling.{line, ◌␣◌, states_text, end_text}, Heads.{states_at}}

-- ---- the text

abbrev pub policy_version : List ℕ
policy_version = codes "mdp-policy 1"

abbrev pub choose_text : ℕ → ℕ → List ℕ
choose_text s c = codes "choose" ␣ decimal s ␣ decimal c

-- the states from s on
abbrev pub choose_lines : ℕ → List ℕ → List ℕ
choose_lines s [] = []
choose_lines s (c ∷ choices) = line (choose_text s c) ++ choose_lines (suc s) choices

unfoldable pub policy_text : List ℕ → List ℕ
policy_text choices = line policy_version ++ (line (states_text (length choices)) ++ (choose_lines 0 choices ++ line end_text))

-- the choices that have a text: of 1 to 2^20 states, each below 2^32
pub record FitsText (choices : List ℕ) : Type 0 where
  pub some : 0 < length choices
  pub limit : length choices ≤ 2 ^ 20
  pub width : All (λ c. c < 2 ^ 32) choices

-- ---- reading it

-- the choice of the state that is due
unfoldable pub choose_at : ℕ → ℕ → List ℕ → Result ℕ Refusal
choose_at due n text = do
  behind ← words_behind (codes "choose") 2 n text
  state ← whole_at n (first_of behind)
  choice ← whole_at n (first_of (drop 1 behind))
  order ← refuse_if kind.Count n (not (state == due))
  Ok choice

abbrev pub before_others : ℕ → Result (List ℕ × Place) Refusal → Result (List ℕ × Place) Refusal
before_others c others = others >>= λ p. Ok (c ∷ p.0, p.1)

-- so many states, from the one that is due on
unfoldable pub choices_from : ℕ → ℕ → Place → Result (List ℕ × Place) Refusal
choices_from zero due p = Ok ([], p)
choices_from (suc left) due p = line_by (choose_at due) p >>= λ said. before_others said.0 (choices_from left (suc due) said.1)

-- the choices of which the bytes are the text, or the first line that breaks a rule
unfoldable pub policy_outcome : List ℕ → Result (List ℕ) Refusal
policy_outcome bytes = do
  version ← line_by (is_line kind.Version policy_version) (place 1 bytes)
  states ← line_by states_at version.1
  choices ← choices_from states.0 0 states.1
  end ← line_by (is_line kind.Shape end_text) choices.1
  nothing ← nothing_behind end.1
  Ok choices.0

-- ---- the laws

-- what is read are the choices of which the bytes are the text
abbrev pub IsReadFromText : Type 0
IsReadFromText = (bytes choices : List ℕ) → (policy_outcome bytes ≡ Ok choices) ↔ (FitsText choices × (bytes ≡ policy_text choices))

-- so each has one text, which is read back
abbrev pub IsReadBack : Type 0
IsReadBack = (choices : List ℕ) → FitsText choices → policy_outcome (policy_text choices) ≡ Ok choices
