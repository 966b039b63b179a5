-- The query of the greatest or the least reward of name r until a goal: its start, its path, its certificate.
use Rattle.std.specs.{Prelude.{◌≡◌, ℕ, Bool, not, List, length, map, slice_index, if◌then◌else◌, Option, Some, None, Result, Ok, Err}, List.{range_with_len}}
use Rattle.mdp_math.specs.Rational.{ℚ}
use Rattle.mdp_spec.specs.{Mdp.{Mdp, Entry, states_of, row_at, value_at}, Tree.{is_marked}}
use Rattle.mdp_rows.specs.{declared.dir.Dir.{Dir}, declared.dir.Dir.TheVariants.{Max, Min}}
use Rattle.mdp_graph.specs.{Layers.{AreReached, AreLeastRanks}, Choices.{AreLeast}, Reach.{may_step, row_step, falls}, Meet.{must_step}}
use Rattle.mdp_graph.specs.{Sure.{inside_step, IsGreatestSure, stays_and_falls}, Rounds.{AreRounds}, Avoid.{IsGreatestAvoiding, keeps}}
use Rattle.mdp_wide.specs.{declared.too_wide.Part.TheVariants.{Whole}, Term.{WideTerm}}
use Rattle.mdp_policy_iteration.specs.{Iteration.{EndsWith}, Path.{Found, Refusal, path_step}, Laws.{first}, Queries.{term_of, term_of_check}}
use Rattle.mdp_farkas.specs.{Verdict.{verdict_of}, Reward.{reward_checks}}
use Rattle.mdp_claims.specs.{declared.verdict.Verdict.{Verdict}, declared.verdict.Verdict.TheVariants.{Yes, No, Wide}, declared.exact.RewardCert.{RewardCert}}
use Rattle.mdp_reward.specs.Problem.{reward_problem}

-- ---- the start

-- one list at the marked states, another at the others
abbrev pub split : Mdp → List Bool → List ℕ → List ℕ → List ℕ
split m marks inside outside = map (λ s. if is_marked marks s then slice_index inside s else slice_index outside s) (range_with_len 0 (states_of m))

abbrev pub unmarked : Mdp → List Bool → List Bool
unmarked m marks = map (λ s. not (is_marked marks s)) (range_with_len 0 (states_of m))

-- the greatest reward: the states where goals can be avoided, with the first choice of each that does so; the states that come to these without
-- passing a goal, with ranks and the first choice of each that leads on a shortest way; the ranks by which states meet a goal whatever is chosen
pub record MaxPasses (m : Mdp) (goals avoiding infinite : List Bool) (keep far go near : List ℕ) : Type 0 where
  pub avoids : IsGreatestAvoiding m goals avoiding
  pub keeps : AreLeast m goals avoiding (keeps m avoiding) keep
  pub comes : AreReached (may_step m goals) (is_marked avoiding) (states_of m) infinite
  pub far_ranks : AreLeastRanks (may_step m goals) (is_marked avoiding) (states_of m) infinite far
  pub goes : AreLeast m avoiding infinite (falls m infinite far) go
  pub met : List Bool
  pub meets : AreReached (must_step m) (is_marked goals) (states_of m) met
  pub near_ranks : AreLeastRanks (must_step m) (is_marked goals) (states_of m) met near

-- the reward is infinite at the states that come to such a state. The start avoids goals where it can, and goes there from the other infinite
-- states; it is 0 elsewhere. Ranks are those of these ways, and at finite states those of `must_meet`
pub record IsMaxStart (m : Mdp) (goals finite : List Bool) (start known : List ℕ) : Type 0 where
  pub avoiding : List Bool
  pub infinite : List Bool
  pub keep : List ℕ
  pub far : List ℕ
  pub go : List ℕ
  pub near : List ℕ
  pub passes : MaxPasses m goals avoiding infinite keep far go near
  pub finite_is : finite ≡ unmarked m infinite
  pub start_is : start ≡ split m avoiding keep go
  pub known_is : known ≡ split m finite near far

-- the least reward is finite at the states from which some policy surely reaches a goal. The start is the first choice of each that keeps to these
-- states and leads on a shortest way among them; 0 elsewhere. The ranks that are known are the rounds of the other states
pub record IsMinStart (m : Mdp) (goals finite : List Bool) (start known : List ℕ) : Type 0 where
  pub near : List ℕ
  pub sure : IsGreatestSure m goals finite
  pub near_ranks : AreLeastRanks (inside_step m (is_marked finite)) (is_marked goals) (states_of m) finite near
  pub choices : AreLeast m goals finite (stays_and_falls m finite near) start
  pub rounds : AreRounds m goals known

-- the states of finite reward, the start policy, and the ranks that are known before the path
abbrev pub IsStart : Dir → Mdp → List Bool → List Bool → List ℕ → List ℕ → Type 0
IsStart Max = IsMaxStart
IsStart Min = IsMinStart

-- ---- the certificate

-- a finite reward, or infinite
abbrev pub reward_by : List Bool → List ℚ → ℕ → Option ℚ
reward_by finite x s = if is_marked finite s then Some (value_at x s) else None

abbrev pub rewards_of : Mdp → List Bool → List ℚ → List (Option ℚ)
rewards_of m finite x = map (reward_by finite x) (range_with_len 0 (states_of m))

abbrev pub policy_rows : Mdp → List ℕ → List (List Entry)
policy_rows m policy = map (λ s. row_at m s (slice_index policy s)) (range_with_len 0 (states_of m))

-- at finite states the ranks along the policy to a goal, at the others those that are known
pub record AreMinRanks (m : Mdp) (goals finite : List Bool) (known policy ranks : List ℕ) : Type 0 where
  pub marks : List Bool
  pub along : List ℕ
  pub reached : AreReached (row_step (policy_rows m policy)) (is_marked goals) (states_of m) marks
  pub least : AreLeastRanks (row_step (policy_rows m policy)) (is_marked goals) (states_of m) marks along
  pub ranks_are : ranks ≡ split m finite along known

abbrev pub AreRanks : Dir → Mdp → List Bool → List Bool → List ℕ → List ℕ → List ℕ → Type 0
AreRanks Max m goals finite known policy ranks = ranks ≡ known
AreRanks Min m goals finite known policy ranks = AreMinRanks m goals finite known policy ranks

-- ---- its end

-- what is printed of a query: values, policy and ranks
pub record Answer : Type 0 where
  pub values : List (Option ℚ)
  pub choices : List ℕ
  pub ranks : List ℕ

-- one of each for each state
pub record HasOneEach (m : Mdp) (a : Answer) : Type 0 where
  pub values : length a.values ≡ states_of m
  pub choices : length a.choices ≡ states_of m
  pub ranks : length a.ranks ≡ states_of m

abbrev pub plain : RewardCert → Answer
plain cert = record { values = cert.values.items; choices = cert.choices.items; ranks = cert.ranks.items }

-- what was found, held against the rules of certificates: it is the answer, or a term of the check is past width
abbrev pub Held : Found → List (Option ℚ) → List ℕ → Verdict → Result Answer WideTerm → Type 0
Held found values ranks Yes q = q ≡ Ok (record { values = values; choices = found.policy; ranks = ranks })
Held found values ranks (Wide state choice) q = q ≡ Err (term_of_check Whole found state choice)
Held found values ranks (No fault) q = ⊥

-- what follows the path's end
abbrev pub AfterPath : Dir → Mdp → ℕ → List Bool → List Bool → List ℕ → Result Found Refusal → Result Answer WideTerm → Type 0
AfterPath dir m r goals finite known (Err refusal) q = q ≡ Err (term_of Whole refusal)
AfterPath dir m r goals finite known (Ok found) q =
    (ranks : List ℕ) × AreRanks dir m goals finite known found.policy ranks
    × Held found (rewards_of m finite found.values) ranks (verdict_of (reward_checks dir m r goals (rewards_of m finite found.values) found.policy ranks)) q

-- the query ends so
pub record EndsSo (dir : Dir) (m : Mdp) (r : ℕ) (goals : List Bool) (q : Result Answer WideTerm) : Type 0 where
  pub finite : List Bool
  pub start : List ℕ
  pub known : List ℕ
  pub is_start : IsStart dir m goals finite start known
  pub end : Result Found Refusal
  pub path : EndsWith (path_step (reward_problem dir m r goals finite)) (first start) end
  pub after : AfterPath dir m r goals finite known end q
