-- A query that is answered by the end of a path: its answer is seen in what was found, or the first term past width is one of a part of the query.
use Rattle.std.specs.Prelude.{◌≡◌, ℕ, List, Result, Ok, Err}
use Rattle.mdp_wide.specs.{declared.too_wide.Part.{Part}, Term.{WideTerm}}
use Rattle.mdp_policy_iteration.specs.{Iteration.{EndsWith}, Problem.{Problem}, Path.{Found, Refusal, path_step}, Laws.{first}, Queries.{term_of}}

abbrev pub answered : {A : Type 0} → Part → (Found → A) → Result Found Refusal → Result A WideTerm
answered part view (Ok found) = Ok (view found)
answered part view (Err refusal) = Err (term_of part refusal)

-- the path from this start ends, and the query so
abbrev pub PathEndsSo : {A : Type 0} → Part → (Found → A) → Problem → List ℕ → Result A WideTerm → Type 0
PathEndsSo part view p start r = (end : Result Found Refusal) × EndsWith (path_step p) (first start) end × (r ≡ answered part view end)
