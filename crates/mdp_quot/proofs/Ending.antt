-- The end of a query, from that of its path.
use Rattle.std.proofs.Common.{◌≡◌, ℕ, List, Result, Ok, Err, refl, sym, ◌∙◌, ap}
use Rattle.mdp_wide.specs.{declared.too_wide.Part.{Part}, Term.{WideTerm}}
use Rattle.mdp_policy_iteration.specs.{Iteration.{EndsWith}, Problem.{Problem}, Path.{Found, Refusal, path_step}}
use Rattle.mdp_policy_iteration.specs.{Laws.{first, IsSolvable, IsBest, HasOneEnd, EndsAtBest}, Ends.{Ends, error_of_part}, Queries.{term_of, Solves}}
use Rattle.mdp_policy_iteration.specs.{declared.solution.Solution.{Solution}, Errors.{PathError}}
use Rattle.mdp_wide.specs.declared.unfinished.Unfinished.TheVariants as path
use Rattle.mdp_policy_iteration.proofs.Iterations.{one_end}
use Rattle.mdp_quot.specs.PathEnds.{answered, PathEndsSo}

no_answer : {A : Type 0} (a : A) (w : WideTerm) → (let r : Result A WideTerm = Ok a in r) ≡ Err w → ⊥
no_answer a w e = cc

same_answer : {A : Type 0} (a b : A) → (let r : Result A WideTerm = Ok a in r) ≡ Ok b → a ≡ b
same_answer a b e = cc

module _ {A : Type 0} (part : Part) (view : Found → A) (p : Problem) (start : List ℕ) where
  pub path-refused : {B : Type 0} (seen : B → A) (e : PathError) → Ends p start (Err e) → Solves seen (PathEndsSo part view p start) (Err (error_of_part part e))
  path-refused seen (path.TooWide w) h = (h.0, h.1, (_, h.2, refl))
  path-refused seen path.Memory h = tt

  pub path-answered : (found : Solution) (a : A) → Ends p start (Ok found) → ((n : ℕ) → view (record { number = n; policy = found.policy.items; values = found.values.items }) ≡ a)
      → PathEndsSo part view p start (Ok a)
  path-answered found a h same = (_, h.2, ap (λ (x : A). let r : Result A WideTerm = Ok x in r) (sym (same h.0)))

  pub one_query_end : (a b : Result A WideTerm) → PathEndsSo part view p start a → PathEndsSo part view p start b → b ≡ a
  one_query_end a b h k = k.2 ∙ ap (answered part view) (one_end (path_step p) (first start) k.0 h.0 k.1 h.1) ∙ sym h.2

  pub has_query_end : HasOneEnd → IsSolvable p start → (r : Result A WideTerm) × PathEndsSo part view p start r
  has_query_end once solvable = let w = once p start solvable in (answered part view w.0, (w.0, w.1, refl))

  -- an answer is seen in a best policy and its values
  answer_by : (e : Result Found Refusal) (a : A) → EndsAtBest → IsSolvable p start → EndsWith (path_step p) (first start) e → Ok a ≡ answered part view e
      → (f : Found) × IsBest p f.policy f.values × (a ≡ view f)
  answer_by (Err w) a best solvable h e = absurd (no_answer a (term_of part w) e)
  answer_by (Ok f) a best solvable h e = (f, (best p start f solvable h).best, same_answer a (view f) e)

  pub best_answer : (a : A) → EndsAtBest → IsSolvable p start → PathEndsSo part view p start (Ok a) → (f : Found) × IsBest p f.policy f.values × (a ≡ view f)
  best_answer a best solvable h = answer_by h.0 a best solvable h.1 h.2
