-- The end of a text.
use Rattle.std.specs.Prelude.{ℕ, List, length, Result, Ok, nat_lt, if◌then◌else◌}
use Rattle.mdp_spec.specs.Mdp.{Mdp}
use Rattle.mdp_rows.specs.declared.rule.RowRule.{RowRule}
use Rattle.mdp_drn.specs.{Outcome.{◌>>=◌, Refusal}, Reading.{Document, at_line, at_end}}

-- behind a document and the bytes that came behind the last line feed: they are a line unless there are none
abbrev pub with_last : RowRule → Document → List ℕ → Result Document Refusal
with_last rule document tail = if nat_lt 0 (length tail) then at_line rule document tail else Ok document

abbrev pub ended : RowRule → Document → List ℕ → Result Mdp Refusal
ended rule document tail = with_last rule document tail >>= at_end
