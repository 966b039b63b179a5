-- The errors of queries, as contracts see them.
use Rattle.mdp_wide.specs.{declared.too_wide.TooWide.{TooWide}, declared.unfinished.Unfinished.{Unfinished}}

-- why a query isn't solved
abbrev pub SolveError : Type 0
SolveError = Unfinished TooWide
