-- What a claim says state by state, and the lines that say it: in version 1 a line for each state, in version 2 a line for each longest run of
-- states with the same words. A claim gives the words that stand behind the state's number, and nothing else.
use Rattle.std.specs.Prelude.{ℕ, suc, Bool, List, [], ◌∷◌, ◌++◌, map, Option, if◌then◌else◌}
use Rattle.std.proofs.Math.ListN.{replicate}
use Rattle.mdp_cert.specs.{declared.version.Version.{Version}, declared.version.Version.TheVariants.{One, Two}}

-- the words behind a state's number: how many there are, what they say (none where one of them isn't the number that is due), how they are
-- spelled, and whether two states say the same
pub record Columns (A : Type 0) : Type 0 where
  pub width : ℕ
  pub parse : List (List ℕ) → Option A
  pub words : A → List (List ℕ)
  pub same : A → A → Bool

-- states that follow each other and say the same: their entry, and how many follow the first one
pub record Run (A : Type 0) : Type 0 where
  pub entry : A
  pub more : ℕ

abbrev pub run : {A : Type 0} → A → ℕ → Run A
run x more = record { entry = x; more = more }

abbrev pub single : {A : Type 0} → A → Run A
single x = run x 0

-- the entries of the states, one by one
abbrev pub entries_of : {A : Type 0} → List (Run A) → List A
entries_of [] = []
entries_of (r ∷ rs) = r.entry ∷ (replicate r.more r.entry ++ entries_of rs)

-- one more state before these runs: it is the first of the next run, where it says the same
abbrev pub before_runs : {A : Type 0} → Columns A → A → List (Run A) → List (Run A)
before_runs k x [] = single x ∷ []
before_runs k x (r ∷ rs) = if k.same x r.entry then run x (suc r.more) ∷ rs else single x ∷ r ∷ rs

-- each run as long as it can be
unfoldable pub longest_runs : {A : Type 0} → Columns A → List A → List (Run A)
longest_runs k [] = []
longest_runs k (x ∷ xs) = before_runs k x (longest_runs k xs)

-- what the lines of a version stand for
abbrev pub runs_in : {A : Type 0} → Version → Columns A → List A → List (Run A)
runs_in One k xs = map single xs
runs_in Two k xs = longest_runs k xs
