-- What the rules say of all places is together what they ask in exact numbers.
use Rattle.std.proofs.Common.{◌≡◌, ℕ, ◌<◌, inr, ⊎_elim, Bool, true, false, true≢false, List, get_or, Option, Some, None, refl, sym, ◌∙◌, subst}
use Rattle.mdp_math.specs.Rational.{ℚ}
use Rattle.mdp_spec.specs.{Mdp.{Mdp, states_of}, Tree.{is_marked}}
use Rattle.mdp_claims.specs.{declared.subsystem.Flow.{Flow}, declared.rule.Rule.{Rule}}
use Rattle.mdp_claims.specs.declared.rule.Rule.TheVariants.{ChoiceExists, StateIsKept, FlowsBalance, FlowsReachGoals}
use Rattle.mdp_claims.specs.declared.rule.Rule.TheVariants.{Probability, ValueOnEachChoice, RankZero, RankFalls, StartReachesThreshold}
use Rattle.mdp_farkas.specs.Says.{IsChoice}
use Rattle.mdp_subsystem_rules.specs.{Flow.{IsFlow, MeetsFlow}, Floor.{MeetsFloor}, Says.{FlowSays, FloorSays}, Laws.{FlowSaysAll, FloorSaysAll}}

-- ---- a flow

module _ (m : Mdp) (goals kept : List Bool) (flows : List Flow) (start : ℕ) (threshold : ℚ) where
  flow_says : MeetsFlow m goals kept flows start threshold → (rule : Rule) (state choice : Option ℕ) → FlowSays m goals kept flows start threshold rule state choice
  flow_says r ChoiceExists (Some s) (Some c) = λ k d l at takes.
      subst (λ (s : ℕ). IsChoice m s c) at (subst (λ (c : ℕ). IsChoice m (Flow.state (get_or flows k d)) c) takes (IsFlow.choice (r.each k d l)))
  flow_says r StateIsKept (Some s) None = λ is. r.no_goal s is.0 is.1
  flow_says r StateIsKept (Some s) (Some c) = λ k d l at takes. (subst (λ (s : ℕ). is_marked kept s ≡ true) at (IsFlow.keeps (r.each k d l)), IsFlow.positive (r.each k d l))
  flow_says r FlowsBalance (Some s) None = λ is. r.balanced s is.0 is.1
  flow_says r FlowsReachGoals None None = r.reached
  flow_says r rule state choice = tt

  flow_meets : ((rule : Rule) (state choice : Option ℕ) → FlowSays m goals kept flows start threshold rule state choice) → MeetsFlow m goals kept flows start threshold
  flow_meets says = record {
    no_goal = λ s l k. says StateIsKept (Some s) None (l, k);
    each = λ k d l.
        let f = get_or flows k d in
        let pushed = says StateIsKept (Some f.state) (Some f.choice) k d l refl refl in
        record { keeps = pushed.0; choice = says ChoiceExists (Some f.state) (Some f.choice) k d l refl refl; positive = pushed.1 };
    balanced = λ s l k. says FlowsBalance (Some s) None (l, k);
    reached = says FlowsReachGoals None None;
  }

pub flow_says_all : FlowSaysAll
flow_says_all m goals kept flows start threshold = (flow_says m goals kept flows start threshold, flow_meets m goals kept flows start threshold)

-- ---- a floor

module _ (m : Mdp) (goals kept : List Bool) (z : List ℚ) (ranks : List ℕ) (start : ℕ) (threshold : ℚ) where
  floor_says : MeetsFloor m goals kept z ranks start threshold → (rule : Rule) (state choice : Option ℕ) → FloorSays m goals kept z ranks start threshold rule state choice
  floor_says r Probability (Some s) None = λ is. (r.at_least_zero s is.0 is.1, r.at_most_one s is.0 is.1)
  floor_says r ValueOnEachChoice (Some s) (Some c) = λ is free i. r.covered s c is.0 is.1 i
  floor_says r RankZero (Some s) None = λ is. ⊎_elim (λ g. absurd (true≢false (sym g ∙ r.no_goal s is.0 is.1))) (λ e. r.ends s is.0 is.1 e)
  floor_says r RankFalls (Some s) (Some c) = λ is free p i. r.falls s c is.0 is.1 p i
  floor_says r StateIsKept (Some s) None = λ is. r.no_goal s is.0 is.1
  floor_says r StartReachesThreshold None None = r.reached
  floor_says r rule state choice = tt

  floor_meets : ((rule : Rule) (state choice : Option ℕ) → FloorSays m goals kept z ranks start threshold rule state choice) → MeetsFloor m goals kept z ranks start threshold
  floor_meets says =
      let free : (s : ℕ) → s < states_of m → is_marked kept s ≡ true → is_marked goals s ≡ false = λ s l k. says StateIsKept (Some s) None (l, k) in
      record {
        no_goal = free;
        at_least_zero = λ s l k. (says Probability (Some s) None (l, k)).0;
        at_most_one = λ s l k. (says Probability (Some s) None (l, k)).1;
        covered = λ s c l k i. says ValueOnEachChoice (Some s) (Some c) (l, k) (free s l k) i;
        ends = λ s l k e. says RankZero (Some s) None (l, k) (inr e);
        falls = λ s c l k p i. says RankFalls (Some s) (Some c) (l, k) (free s l k) p i;
        reached = says StartReachesThreshold None None;
      }

pub floor_says_all : FloorSaysAll
floor_says_all m goals kept z ranks start threshold = (floor_says m goals kept z ranks start threshold, floor_meets m goals kept z ranks start threshold)
