-- What a query ends with: an answer, or the first term past width in one of its parts.
use Rattle.std.specs.Prelude.{◌≡◌, ℕ, Option, Some, Result, Ok, Err}
use Rattle.mdp_wide.specs.{declared.too_wide.Part.{Part}, declared.too_wide.Kind.TheVariants.{Check}, Term.{WideTerm, shown}, Errors.{SolveError}}
use Rattle.mdp_wide.specs.declared.unfinished.Unfinished.TheVariants as solve
use Rattle.mdp_policy_iteration.specs.{Path.{Found, Refusal}, Ends.{capped}}

-- the term at which a path is refused
abbrev pub term_of : Part → Refusal → WideTerm
term_of part r = record { part = part; number = r.number; policy = r.policy; kind = r.place.kind; state = Some r.place.node; choice = Some r.place.choice }

-- a term in the check of what was found
abbrev pub term_of_check : Part → Found → Option ℕ → Option ℕ → WideTerm
term_of_check part found state choice = record { part = part; number = found.number; policy = found.policy; kind = Check; state = state; choice = choice }

-- what the code answers to a query that ends so: an answer, seen by a view; a term past width, a round above 2^64 - 1 given as 2^64 - 1; or want of
-- memory, of which nothing is said
abbrev pub Solves : {A B : Type 0} → (A → B) → (Result B WideTerm → Type 0) → Result A SolveError → Type 0
Solves view Ends (Ok x) = Ends (Ok (view x))
Solves view Ends (Err (solve.TooWide w)) = (n : ℕ) × (w.round ≡ capped n) × Ends (Err (shown w n))
Solves view Ends (Err solve.Memory) = Unit {0}
