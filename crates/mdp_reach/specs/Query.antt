-- The query of the greatest or the least probability of reaching a goal: its start, its path, its certificate.
use Rattle.std.specs.{Prelude.{◌≡◌, ℕ, Bool, false, not, ◌||◌, List, length, map, replicate, slice_index, Result, Ok, Err, pos}, List.{range_with_len}}
use Rattle.mdp_math.specs.Rational.{ℚ, of_int, lt_ℚ}
use Rattle.mdp_spec.specs.{Mdp.{Mdp, Entry, states_of, row_at, value_at}, Tree.{is_marked}}
use Rattle.mdp_rows.specs.{declared.dir.Dir.{Dir}, declared.dir.Dir.TheVariants.{Max, Min}}
use Rattle.mdp_graph.specs.{Layers.{AreReached, AreLeastRanks}, Choices.{AreLeast}, Reach.{may_step, row_step, falls}, Meet.{must_step}}
use Rattle.mdp_graph.specs.Avoid.{IsGreatestAvoiding, keeps}
use Rattle.mdp_wide.specs.{declared.too_wide.Part.TheVariants.{Whole}, Term.{WideTerm}}
use Rattle.mdp_policy_iteration.specs.{Iteration.{EndsWith}, Path.{Found, Refusal, path_step}, Laws.{first}, Queries.{term_of, term_of_check}}
use Rattle.mdp_farkas.specs.{Verdict.{verdict_of}, Reach.{reach_checks}}
use Rattle.mdp_claims.specs.{declared.verdict.Verdict.{Verdict}, declared.verdict.Verdict.TheVariants.{Yes, No, Wide}, declared.exact.ReachCert.{ReachCert}}
use Rattle.mdp_reach.specs.Problem.{reach_problem}

-- ---- the start

-- no state is blocked
abbrev pub none_blocked : Mdp → List Bool
none_blocked m = replicate (states_of m) false

-- the states from which a goal can be reached, and the first choice of each that leads on a shortest way to one; 0 elsewhere
pub record IsMaxStart (m : Mdp) (goals marks : List Bool) (start : List ℕ) : Type 0 where
  pub ranks : List ℕ
  pub reached : AreReached (may_step m (none_blocked m)) (is_marked goals) (states_of m) marks
  pub least : AreLeastRanks (may_step m (none_blocked m)) (is_marked goals) (states_of m) marks ranks
  pub choices : AreLeast m goals marks (falls m marks ranks) start

-- the states at which goals can be avoided, and the first choice of each that does so; 0 elsewhere
pub record IsMinStart (m : Mdp) (goals marks : List Bool) (start : List ℕ) : Type 0 where
  pub avoids : IsGreatestAvoiding m goals marks
  pub choices : AreLeast m goals marks (keeps m marks) start

abbrev pub IsStart : Dir → Mdp → List Bool → List Bool → List ℕ → Type 0
IsStart Max = IsMaxStart
IsStart Min = IsMinStart

-- ---- the ranks of a certificate

abbrev pub policy_rows : Mdp → List ℕ → List (List Entry)
policy_rows m policy = map (λ s. row_at m s (slice_index policy s)) (range_with_len 0 (states_of m))

-- the goals and the states of value 0
abbrev pub ending : Mdp → List Bool → List ℚ → List Bool
ending m goals z = map (λ s. is_marked goals s || not (lt_ℚ (of_int (pos 0)) (value_at z s))) (range_with_len 0 (states_of m))

-- along the policy to a goal; 0 where it doesn't come to one
pub record AreMaxRanks (m : Mdp) (goals : List Bool) (policy ranks : List ℕ) : Type 0 where
  pub marks : List Bool
  pub reached : AreReached (row_step (policy_rows m policy)) (is_marked goals) (states_of m) marks
  pub least : AreLeastRanks (row_step (policy_rows m policy)) (is_marked goals) (states_of m) marks ranks

-- whatever is chosen, to a goal or a state of value 0
pub record AreMinRanks (m : Mdp) (goals : List Bool) (z : List ℚ) (ranks : List ℕ) : Type 0 where
  pub marks : List Bool
  pub reached : AreReached (must_step m) (is_marked (ending m goals z)) (states_of m) marks
  pub least : AreLeastRanks (must_step m) (is_marked (ending m goals z)) (states_of m) marks ranks

abbrev pub AreRanks : Dir → Mdp → List Bool → List ℚ → List ℕ → List ℕ → Type 0
AreRanks Max m goals z policy ranks = AreMaxRanks m goals policy ranks
AreRanks Min m goals z policy ranks = AreMinRanks m goals z ranks

-- ---- its end

-- what is printed of a query: values, policy and ranks
pub record Answer : Type 0 where
  pub values : List ℚ
  pub choices : List ℕ
  pub ranks : List ℕ

-- one of each for each state
pub record HasOneEach (m : Mdp) (a : Answer) : Type 0 where
  pub values : length a.values ≡ states_of m
  pub choices : length a.choices ≡ states_of m
  pub ranks : length a.ranks ≡ states_of m

abbrev pub plain : ReachCert → Answer
plain cert = record { values = cert.values.items; choices = cert.choices.items; ranks = cert.ranks.items }

-- what was found, held against the rules of certificates: it is the answer, or a term of the check is past width
abbrev pub Held : Found → List ℕ → Verdict → Result Answer WideTerm → Type 0
Held found ranks Yes r = r ≡ Ok (record { values = found.values; choices = found.policy; ranks = ranks })
Held found ranks (Wide state choice) r = r ≡ Err (term_of_check Whole found state choice)
Held found ranks (No fault) r = ⊥

-- what follows the path's end
abbrev pub AfterPath : Dir → Mdp → List Bool → Result Found Refusal → Result Answer WideTerm → Type 0
AfterPath dir m goals (Err refusal) r = r ≡ Err (term_of Whole refusal)
AfterPath dir m goals (Ok found) r =
    (ranks : List ℕ) × AreRanks dir m goals found.values found.policy ranks × Held found ranks (verdict_of (reach_checks dir m goals found.values found.policy ranks)) r

-- the query ends so
pub record EndsSo (dir : Dir) (m : Mdp) (goals : List Bool) (r : Result Answer WideTerm) : Type 0 where
  pub marks : List Bool
  pub start : List ℕ
  pub is_start : IsStart dir m goals marks start
  pub end : Result Found Refusal
  pub path : EndsWith (path_step (reach_problem dir m goals marks)) (first start) end
  pub after : AfterPath dir m goals end r
