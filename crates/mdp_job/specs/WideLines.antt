-- The two lines of a term past width in what was to be solved, as they are appended.
use Rattle.std.specs.Prelude.{ℕ, List, [], ◌∷◌, ◌++◌, decimal, codes}
use Rattle.mdp_wide.specs.Term.{WideTerm}
use Rattle.mdp_job.specs.Text.{part_word, kind_word, place_text, policy_words}

-- the first line behind its first words
abbrev pub wide_place : WideTerm → List ℕ
wide_place w = part_word w.part ++ codes " round " ++ decimal w.number ++ codes " kind " ++ kind_word w.kind ++ place_text w.state w.choice

abbrev pub policy_line : List ℕ → List ℕ
policy_line policy = codes "policy" ++ policy_words policy ++ 10 ∷ []
