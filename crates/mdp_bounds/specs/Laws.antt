-- What a no to bounds means: what the named rule says of the named place is false, in exact numbers. So bounds that meet their rules are never
-- answered no.
use Rattle.std.specs.Prelude.{◌≡◌, ℕ, Bool, List, Option}
use Rattle.mdp_math.specs.Rational.{ℚ}
use Rattle.mdp_spec.specs.{Mdp.{Mdp}, Row.{IsMdp}}
use Rattle.mdp_farkas.specs.Verdict.{verdict_of}
use Rattle.mdp_bounds.specs.{Reach.{bounds_checks, MeetsReachBetween}, Reward.{reward_bounds_checks, NoneNegative, MeetsRewardBetween}}
use Rattle.mdp_bounds.specs.{Mean.{mean_bounds_checks, MeetsMeanBetween}, Says.{Column, IsFalseOfOne, ReachSays, RewardSays, MeanSays}}
use Rattle.mdp_rows.specs.declared.dir.Dir.{Dir}
use Rattle.mdp_claims.specs.{declared.rule.Rule.{Rule}, declared.verdict.Fault.{Fault}, declared.verdict.Verdict.TheVariants.{No}}

-- ---- bounds that meet their rules are never answered no

-- where two values for each state, a policy and ranks meet the rules of probabilities, the checks end with yes or with a sum past width
abbrev pub ReachBoundsNeverNo : Type 0
ReachBoundsNeverNo =
    (dir : Dir) (m : Mdp) (goals : List Bool) (lower upper : List ℚ) (policy ranks : List ℕ) (fault : Fault) → IsMdp m → MeetsReachBetween dir m goals lower upper policy ranks
    → verdict_of (bounds_checks dir m goals lower upper policy ranks) ≡ No fault → ⊥

-- and so where they meet those of rewards until a goal, where no reward is below 0
abbrev pub RewardBoundsNeverNo : Type 0
RewardBoundsNeverNo =
    (dir : Dir) (m : Mdp) (r : ℕ) (goals : List Bool) (lower upper : List (Option ℚ)) (policy ranks : List ℕ) (fault : Fault) → IsMdp m → NoneNegative m r
    → MeetsRewardBetween dir m r goals lower upper policy ranks → verdict_of (reward_bounds_checks dir m r goals lower upper policy ranks) ≡ No fault → ⊥

-- and where two gains for each state meet those of mean payoffs
abbrev pub MeanBoundsNeverNo : Type 0
MeanBoundsNeverNo =
    (dir : Dir) (m : Mdp) (r : ℕ) (lower upper a b : List ℚ) (spread : ℚ) (policy : List ℕ) (fault : Fault) → IsMdp m → MeetsMeanBetween dir m r lower upper a b spread policy
    → verdict_of (mean_bounds_checks dir m r lower upper a b spread policy) ≡ No fault → ⊥

-- ---- what a no means

-- what the rule that a no names says of the lower or of the upper values is false at the place that it names, of bounds of probabilities
abbrev pub ReachNoRefutes : Type 0
ReachNoRefutes =
    (dir : Dir) (m : Mdp) (goals : List Bool) (lower upper : List ℚ) (policy ranks : List ℕ) (fault : Fault) → IsMdp m
    → verdict_of (bounds_checks dir m goals lower upper policy ranks) ≡ No fault
    → IsFalseOfOne (λ side. ReachSays dir m goals lower upper policy ranks side fault.rule fault.state fault.choice)

-- of bounds of rewards until a goal
abbrev pub RewardNoRefutes : Type 0
RewardNoRefutes =
    (dir : Dir) (m : Mdp) (r : ℕ) (goals : List Bool) (lower upper : List (Option ℚ)) (policy ranks : List ℕ) (fault : Fault) → IsMdp m
    → verdict_of (reward_bounds_checks dir m r goals lower upper policy ranks) ≡ No fault
    → IsFalseOfOne (λ side. RewardSays dir m r goals lower upper policy ranks side fault.rule fault.state fault.choice)

-- and of bounds of mean payoffs, whose rules are each asked of one column
abbrev pub MeanNoRefutes : Type 0
MeanNoRefutes =
    (dir : Dir) (m : Mdp) (r : ℕ) (lower upper a b : List ℚ) (spread : ℚ) (policy : List ℕ) (fault : Fault) → IsMdp m
    → verdict_of (mean_bounds_checks dir m r lower upper a b spread policy) ≡ No fault → MeanSays dir m r lower upper a b spread policy fault.rule fault.state fault.choice → ⊥

-- no rule says more of a place than the rules in exact numbers
abbrev pub ReachMeetsSays : Type 0
ReachMeetsSays =
    (dir : Dir) (m : Mdp) (goals : List Bool) (lower upper : List ℚ) (policy ranks : List ℕ) → MeetsReachBetween dir m goals lower upper policy ranks
    → (side : Column) (rule : Rule) (state choice : Option ℕ) → ReachSays dir m goals lower upper policy ranks side rule state choice

abbrev pub RewardMeetsSays : Type 0
RewardMeetsSays =
    (dir : Dir) (m : Mdp) (r : ℕ) (goals : List Bool) (lower upper : List (Option ℚ)) (policy ranks : List ℕ) → NoneNegative m r → MeetsRewardBetween dir m r goals lower upper policy ranks
    → (side : Column) (rule : Rule) (state choice : Option ℕ) → RewardSays dir m r goals lower upper policy ranks side rule state choice

abbrev pub MeanMeetsSays : Type 0
MeanMeetsSays =
    (dir : Dir) (m : Mdp) (r : ℕ) (lower upper a b : List ℚ) (spread : ℚ) (policy : List ℕ) → MeetsMeanBetween dir m r lower upper a b spread policy
    → (rule : Rule) (state choice : Option ℕ) → MeanSays dir m r lower upper a b spread policy rule state choice
