-- A certificate of bounds of a witnessing subsystem: which states are kept, and for each state a lower value, a choice and a rank, by which the best
-- probability of reaching a goal on the kept states alone is at least the threshold.
use Rattle.std.specs.{Prelude.{◌≡◌, ℕ, ◌<◌, ◌≤◌, ◌^◌, Bool, true, false, IsTrue, List, length, map, Option}, List.{All}}
use Rattle.mdp_math.specs.Rational.{ℚ}
use Rattle.mdp_num.specs.Value.{IsNarrow}
use Rattle.mdp_rows.specs.{declared.dir.Dir.{Dir}, declared.dir.Dir.TheVariants.{Max, Min}}
use Rattle.mdp_cert.specs.Cert.{PlainClaim, witness, are_names, has_threshold, IsClaimInWidth}
use Rattle.mdp_subsystem_bounds.specs.{declared.mark.Mark.{Mark}, declared.mark.Mark.TheVariants.{Out, Kept, Open}}

-- some policy of the subsystem, or each, comes to the threshold, by way of states with the label `stay` alone where there is one
pub record SubsystemClaim : Type 0 where
  pub dir : Dir
  pub stay : Option (List ℕ)
  pub label : List ℕ
  pub threshold : ℚ

-- one of each per state
pub record Lists : Type 0 where
  pub lower : List ℚ
  pub choices : List ℕ
  pub ranks : List ℕ
  pub marks : List Mark

pub record Certificate : Type 0 where
  pub claim : SubsystemClaim
  pub start : ℕ
  pub lists : Lists

abbrev pub states_in : Certificate → ℕ
states_in c = length c.lists.lower

-- the claim as that of a certificate of exact values, which has the same words
abbrev pub plain_claim : SubsystemClaim → PlainClaim
plain_claim claim = witness claim.dir claim.stay claim.label claim.threshold

-- whether a state with this mark is kept
abbrev pub is_kept : Mark → Bool
is_kept Out = false
is_kept Kept = true
is_kept Open = true

abbrev pub kept_states : List Mark → List Bool
kept_states marks = map is_kept marks

-- for the least probability no choice is named: each is 0
abbrev pub AreNamed : Dir → List ℕ → Type 0
AreNamed Max choices = Unit {0}
AreNamed Min choices = All (λ c. c ≡ 0) choices

-- the certificates that have a text: of 1 to 2^20 states with one of each, all numbers in width
pub record Fits (c : Certificate) : Type 0 where
  pub some : 0 < states_in c
  pub limit : states_in c ≤ 2 ^ 20
  pub choice_each : length c.lists.choices ≡ states_in c
  pub rank_each : length c.lists.ranks ≡ states_in c
  pub mark_each : length c.lists.marks ≡ states_in c
  pub names : IsTrue (are_names (plain_claim c.claim))
  pub threshold : IsTrue (has_threshold (plain_claim c.claim))
  pub inside : c.start < states_in c
  pub named : AreNamed c.claim.dir c.lists.choices
  pub claim_width : IsClaimInWidth (plain_claim c.claim)
  pub lower_width : All IsNarrow c.lists.lower
  pub choices_width : All (λ x. x < 2 ^ 32) c.lists.choices
  pub ranks_width : All (λ x. x < 2 ^ 32) c.lists.ranks
