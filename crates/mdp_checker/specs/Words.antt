-- The words MODEL ROWS CERT. ROWS is `exact` or `scaled`.
use Rattle.std.specs.{Prelude.{ℕ, List, [], map, Result, Ok, Err}, declared.string.String.{String}, String.{string_bytes}, Global.{Global}}
use Rattle.mdp_rows.specs.declared.rule.RowRule.{RowRule}
use Rattle.mdp_job.specs.{Words.{word_at, rows_of}, declared.words_error.WordsError.{WordsError}}

-- the row rule, or why the words are refused
abbrev pub Asked : Type 0
Asked = Result RowRule WordsError

abbrev pub asked : List (String Global) → Asked
asked words = rows_of (map string_bytes words)

-- the word at a place, where the words aren't refused
abbrev pub path_at : Asked → List (List ℕ) → ℕ → List ℕ
path_at (Ok rule) words i = word_at words i
path_at (Err e) words i = []

-- the names of the files of the model and of the certificate
abbrev pub model_path : List (String Global) → List ℕ
model_path words = path_at (asked words) (map string_bytes words) 0

abbrev pub cert_path : List (String Global) → List ℕ
cert_path words = path_at (asked words) (map string_bytes words) 2
