-- The query of the greatest or the least discounted reward of name r: its start, its path, its remainder, its certificate.
use Rattle.std.specs.Prelude.{◌≡◌, ℕ, ◌+◌, List, take, replicate, Option, Some, None, Result, Ok, Err}
use Rattle.mdp_math.specs.Rational.{ℚ}
use Rattle.mdp_spec.specs.{Mdp.{Mdp, states_of, value_at}, Labels.{initial_of}}
use Rattle.mdp_rows.specs.declared.dir.Dir.{Dir}
use Rattle.mdp_wide.specs.{declared.too_wide.Part.TheVariants.{Whole}, declared.too_wide.Kind.TheVariants.{Compare}, Term.{WideTerm}}
use Rattle.mdp_policy_iteration.specs.{Iteration.{EndsWith}, Path.{Found, Refusal, path_step}, Laws.{first}, Queries.{term_of, term_of_check}}
use Rattle.mdp_farkas.specs.Verdict.{verdict_of}
use Rattle.mdp_claims.specs.{declared.verdict.Verdict.{Verdict}, declared.verdict.Verdict.TheVariants.{Yes, No, Wide}}
use Rattle.mdp_text.specs.Heads.{init_by}
use Rattle.mdp_discount_rules.specs.{Checks.{written_greatest, discount_checks}, Cert.{Certificate}}
use Rattle.mdp_discount.specs.Problem.{discount_problem}

-- choice 0 everywhere, and at the node behind the states
abbrev pub start_of : Mdp → List ℕ
start_of m = replicate (states_of m + 1) 0

-- a policy and values of so many states, without the node behind them
abbrev pub cut_found : ℕ → Found → Found
cut_found n found = record { number = found.number; policy = take n found.policy; values = take n found.values }

abbrev pub cut_refusal : ℕ → Refusal → Refusal
cut_refusal n refusal = record { number = refusal.number; policy = take n refusal.policy; place = refusal.place }

abbrev pub answer_of : Dir → Mdp → List ℕ → ℚ → Found → ℚ → Certificate
answer_of dir m name f found remainder = record {
  dir = dir;
  name = name;
  factor = f;
  init = init_by (initial_of m) (λ s. Some (value_at found.values s));
  remainder = remainder;
  values = found.values;
  choices = found.policy;
}

-- what was found, held against the rules of certificates: it is the answer, or a term of the check is past width
abbrev pub Held : Dir → Mdp → List ℕ → ℚ → Found → ℚ → Verdict → Result Certificate WideTerm → Type 0
Held dir m name f found remainder Yes q = q ≡ Ok (answer_of dir m name f found remainder)
Held dir m name f found remainder (Wide state choice) q = q ≡ Err (term_of_check Whole found state choice)
Held dir m name f found remainder (No fault) q = ⊥

-- a term past width where the remainder is found, after the last round
abbrev pub term_of_remainder : Found → WideTerm
term_of_remainder found = record { part = Whole; number = found.number; policy = found.policy; kind = Compare; state = None; choice = None }

-- what follows the remainder
abbrev pub AfterRemainder : Dir → Mdp → ℕ → List ℕ → ℚ → Found → Option ℚ → Result Certificate WideTerm → Type 0
AfterRemainder dir m r name f found None q = q ≡ Err (term_of_remainder found)
AfterRemainder dir m r name f found (Some remainder) q =
    Held dir m name f found remainder (verdict_of (discount_checks dir m r f found.values remainder found.policy)) q

abbrev pub AfterFound : Dir → Mdp → ℕ → List ℕ → ℚ → Found → Result Certificate WideTerm → Type 0
AfterFound dir m r name f found q = AfterRemainder dir m r name f found (written_greatest found.values) q

-- what follows the path's end
abbrev pub AfterPath : Dir → Mdp → ℕ → List ℕ → ℚ → Result Found Refusal → Result Certificate WideTerm → Type 0
AfterPath dir m r name f (Err refusal) q = q ≡ Err (term_of Whole (cut_refusal (states_of m) refusal))
AfterPath dir m r name f (Ok found) q = AfterFound dir m r name f (cut_found (states_of m) found) q

-- the query ends so
pub record EndsSo (dir : Dir) (m : Mdp) (r : ℕ) (name : List ℕ) (f : ℚ) (q : Result Certificate WideTerm) : Type 0 where
  pub end : Result Found Refusal
  pub path : EndsWith (path_step (discount_problem dir m r f)) (first (start_of m)) end
  pub after : AfterPath dir m r name f end q
