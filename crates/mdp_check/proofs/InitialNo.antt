-- A no to a certificate names rule 1 exactly where what the line `init` says is false.
use Rattle.std.proofs.Common.{◌≡◌, ◌↔◌, ℕ, ◌<◌, Bool, true, false, cond, eqb, eqb-true, List, length, Option, Some, None, refl, sym, ap, subst, ◌∙◌}
use Rattle.mdp_math.specs.Rational.{ℚ}
use Rattle.mdp_spec.specs.{Mdp.{Mdp, states_of}, Labels.{initial_of}}
use Rattle.mdp_rows.specs.declared.dir.Dir.TheVariants.{Max, Min}
use Rattle.mdp_text.specs.declared.init.Init.{Init}
use Rattle.mdp_claims.specs.{declared.rule.Rule.TheVariants.{InitialState}, declared.verdict.Fault.{Fault}, declared.subsystem.Flow.{Flow}}
use Rattle.mdp_claims.specs.declared.verdict.Verdict.TheVariants as verdict
use Rattle.mdp_farkas.specs.{Initial.{init_fault}, Verdict.{verdict_of}, Says.{UpperSays, ReachSays, RewardSays, MeanSays}}
use Rattle.mdp_farkas.specs.Laws.{UpperNoRefutes, ReachNoRefutes, RewardNoRefutes, MeanNoRefutes}
use Rattle.mdp_subsystem_rules.specs.{Kept.{kept_marks}, FlowChecks.{flow_checks}, FloorChecks.{floor_checks, spread_values, spread_ranks}}
use Rattle.mdp_subsystem_rules.specs.{Says.{FlowSays, FloorSays}, Laws.{FlowNoRefutes, FloorNoRefutes}}
use Rattle.mdp_cert.specs.Cert.{PlainClaim, upper, reach, until, reward, mean, witness, PlainBody, bounds, policy, rewards, gains, flow, floor, Certificate, is_body_of}
use Rattle.mdp_check.specs.{Initial.{is_subsystem, init_check, start_of}, Says.{InitSays}, Laws.{NoOfInit}}
use Rattle.mdp_check.specs.Check.{reward_place, goal_marks, way_of, way_by, verdict_by, body_verdict, at_goals, at_reward}
use Rattle.mdp_check.specs.declared.answer.Answer.TheVariants.{No, Size}
use Rattle.mdp_check.proofs.{Accepting.{goals_count}, Shapes.{start_below, flow_shape, floor_shape}, Ways.{way_by_states}}
use Rattle.mdp_check.proofs.Starting.{init_is_checked, told, says_nothing, no_by}

-- ---- the rules of the claim don't name rule 1

module _ (upper_refuted : UpperNoRefutes) (reach_refuted : ReachNoRefutes) (reward_refuted : RewardNoRefutes) (mean_refuted : MeanNoRefutes)
    (flow_refuted : FlowNoRefutes) (floor_refuted : FloorNoRefutes)
    (m : Mdp) (r : ℕ) (goals : List Bool) (each : length goals ≡ states_of m) (init : Init) (states : ℕ) (size : states ≡ states_of m) (f : Fault) where
  abbrev start : ℕ
  start = start_of init

  module _ (stay : Option (List ℕ)) where
    abbrev way : Mdp
    way = way_by m goals stay

    there : (body : PlainBody) → is_subsystem body ≡ true → init_check init (initial_of m) body ≡ verdict.Yes → start < states_of way
    there body sub rule1 = subst (λ (n : ℕ). start < n) (sym (way_by_states m goals stay)) (start_below m init body sub rule1)

  flow_other : (stay : Option (List ℕ)) (label : List ℕ) (t : ℚ) (kept : List ℕ) (wide : List Bool) (flows : List Flow) → is_body_of (witness Max stay label t) states (flow kept wide flows) ≡ true
      → init_check init (initial_of m) (flow kept wide flows) ≡ verdict.Yes → verdict_of (flow_checks (way_by m goals stay) goals start t kept flows) ≡ verdict.No f → f.rule ≡ InitialState → ⊥
  flow_other stay label t kept wide flows fits rule1 e =
      let way : Mdp = way_by m goals stay in
      says_nothing (FlowSays way goals (kept_marks (states_of way) kept) flows start t) f tt
      (flow_refuted way goals start t kept wide flows f (there stay (flow kept wide flows) refl rule1)
      (flow_shape way states kept wide flows (size ∙ sym (way_by_states m goals stay)) fits) e).1

  floor_other : (stay : Option (List ℕ)) (label : List ℕ) (t : ℚ) (kept : List ℕ) (wide : List Bool) (values : List ℚ) (ranks : List ℕ)
      → is_body_of (witness Min stay label t) states (floor kept wide values ranks) ≡ true → init_check init (initial_of m) (floor kept wide values ranks) ≡ verdict.Yes
      → verdict_of (floor_checks (way_by m goals stay) goals start t kept values ranks) ≡ verdict.No f → f.rule ≡ InitialState → ⊥
  floor_other stay label t kept wide values ranks fits rule1 e =
      let way : Mdp = way_by m goals stay in
      says_nothing (FloorSays way goals (kept_marks (states_of way) kept) (spread_values way kept values) (spread_ranks way kept ranks) start t) f tt
      (floor_refuted way goals start t kept wide values ranks f (each ∙ sym (way_by_states m goals stay)) (there stay (floor kept wide values ranks) refl rule1)
      (floor_shape way states kept wide values ranks (size ∙ sym (way_by_states m goals stay)) fits) e).1

  other_rules : (claim : PlainClaim) (body : PlainBody) → is_body_of claim states body ≡ true → init_check init (initial_of m) body ≡ verdict.Yes
      → verdict_by m r goals start claim body ≡ verdict.No f → f.rule ≡ InitialState → ⊥
  other_rules (upper label) (bounds z) fits rule1 e = says_nothing (UpperSays m goals z) f tt (upper_refuted m goals z f e).1
  other_rules (upper label) (policy z choices ranks) fits rule1 e = absurd (let t = fits in cc)
  other_rules (upper label) (rewards v choices ranks) fits rule1 e = absurd (let t = fits in cc)
  other_rules (upper label) (gains g bound bias choices k) fits rule1 e = absurd (let t = fits in cc)
  other_rules (upper label) (flow kept wide flows) fits rule1 e = absurd (let t = fits in cc)
  other_rules (upper label) (floor kept wide values ranks) fits rule1 e = absurd (let t = fits in cc)
  other_rules (reach dir label) (bounds z) fits rule1 e = absurd (let t = fits in cc)
  other_rules (reach dir label) (policy z choices ranks) fits rule1 e = says_nothing (ReachSays dir m goals z choices ranks) f tt (reach_refuted dir m goals z choices ranks f e).1
  other_rules (reach dir label) (rewards v choices ranks) fits rule1 e = absurd (let t = fits in cc)
  other_rules (reach dir label) (gains g bound bias choices k) fits rule1 e = absurd (let t = fits in cc)
  other_rules (reach dir label) (flow kept wide flows) fits rule1 e = absurd (let t = fits in cc)
  other_rules (reach dir label) (floor kept wide values ranks) fits rule1 e = absurd (let t = fits in cc)
  other_rules (until dir stay label) (bounds z) fits rule1 e = absurd (let t = fits in cc)
  other_rules (until dir stay label) (policy z choices ranks) fits rule1 e =
      says_nothing (ReachSays dir (way_of m goals stay) goals z choices ranks) f tt (reach_refuted dir (way_of m goals stay) goals z choices ranks f e).1
  other_rules (until dir stay label) (rewards v choices ranks) fits rule1 e = absurd (let t = fits in cc)
  other_rules (until dir stay label) (gains g bound bias choices k) fits rule1 e = absurd (let t = fits in cc)
  other_rules (until dir stay label) (flow kept wide flows) fits rule1 e = absurd (let t = fits in cc)
  other_rules (until dir stay label) (floor kept wide values ranks) fits rule1 e = absurd (let t = fits in cc)
  other_rules (reward dir name label) (bounds z) fits rule1 e = absurd (let t = fits in cc)
  other_rules (reward dir name label) (policy z choices ranks) fits rule1 e = absurd (let t = fits in cc)
  other_rules (reward dir name label) (rewards v choices ranks) fits rule1 e = says_nothing (RewardSays dir m r goals v choices ranks) f tt (reward_refuted dir m r goals v choices ranks f e).1
  other_rules (reward dir name label) (gains g bound bias choices k) fits rule1 e = absurd (let t = fits in cc)
  other_rules (reward dir name label) (flow kept wide flows) fits rule1 e = absurd (let t = fits in cc)
  other_rules (reward dir name label) (floor kept wide values ranks) fits rule1 e = absurd (let t = fits in cc)
  other_rules (mean dir name) (bounds z) fits rule1 e = absurd (let t = fits in cc)
  other_rules (mean dir name) (policy z choices ranks) fits rule1 e = absurd (let t = fits in cc)
  other_rules (mean dir name) (rewards v choices ranks) fits rule1 e = absurd (let t = fits in cc)
  other_rules (mean dir name) (gains g bound bias choices k) fits rule1 e = says_nothing (MeanSays dir m r g bound bias k choices) f tt (mean_refuted dir m r g bound bias k choices f e).1
  other_rules (mean dir name) (flow kept wide flows) fits rule1 e = absurd (let t = fits in cc)
  other_rules (mean dir name) (floor kept wide values ranks) fits rule1 e = absurd (let t = fits in cc)
  other_rules (witness Max stay label t) (bounds z) fits rule1 e = absurd (let t = fits in cc)
  other_rules (witness Max stay label t) (policy z choices ranks) fits rule1 e = absurd (let t = fits in cc)
  other_rules (witness Max stay label t) (rewards v choices ranks) fits rule1 e = absurd (let t = fits in cc)
  other_rules (witness Max stay label t) (gains g bound bias choices k) fits rule1 e = absurd (let t = fits in cc)
  other_rules (witness Max stay label t) (flow kept wide flows) fits rule1 e = flow_other stay label t kept wide flows fits rule1 e
  other_rules (witness Max stay label t) (floor kept wide values ranks) fits rule1 e = absurd (let t = fits in cc)
  other_rules (witness Min stay label t) (bounds z) fits rule1 e = absurd (let t = fits in cc)
  other_rules (witness Min stay label t) (policy z choices ranks) fits rule1 e = absurd (let t = fits in cc)
  other_rules (witness Min stay label t) (rewards v choices ranks) fits rule1 e = absurd (let t = fits in cc)
  other_rules (witness Min stay label t) (gains g bound bias choices k) fits rule1 e = absurd (let t = fits in cc)
  other_rules (witness Min stay label t) (flow kept wide flows) fits rule1 e = absurd (let t = fits in cc)
  other_rules (witness Min stay label t) (floor kept wide values ranks) fits rule1 e = floor_other stay label t kept wide values ranks fits rule1 e

abbrev IsOfInit : Mdp → Certificate → Fault → Type 0
IsOfInit m c f = (f.rule ≡ InitialState) ↔ (InitSays c.init (initial_of m) c.body → ⊥)

pub no_of_init : UpperNoRefutes → ReachNoRefutes → RewardNoRefutes → MeanNoRefutes → FlowNoRefutes → FloorNoRefutes → NoOfInit
no_of_init upper_refuted reach_refuted reward_refuted mean_refuted flow_refuted floor_refuted m c f fits e = by_size (eqb c.states (states_of m)) refl e
  where
    at : (r : ℕ) (goals : List Bool) → c.states ≡ states_of m → goal_marks m c.claim ≡ Some goals → at_goals m c r (Some goals) ≡ No f → IsOfInit m c f
    at r goals size marked e =
        no_by (InitSays c.init (initial_of m) c.body) (init_check c.init (initial_of m) c.body) (body_verdict m r goals c) f (init_is_checked c.init (initial_of m) c.body)
        (told c.init (initial_of m) c.body)
        (λ rule1 no.
        other_rules upper_refuted reach_refuted reward_refuted mean_refuted flow_refuted floor_refuted m r goals (goals_count m c.claim goals marked) c.init c.states size f c.claim c.body fits rule1
        (ap (λ (b : Bool). cond b (verdict_by m r goals (start_of c.init) c.claim c.body) (init_fault None)) (sym fits) ∙ no)) e

    by_goals : (r : ℕ) (found : Option (List Bool)) → c.states ≡ states_of m → goal_marks m c.claim ≡ found → at_goals m c r found ≡ No f → IsOfInit m c f
    by_goals r None size marked e = cc
    by_goals r (Some goals) size marked e = at r goals size marked e

    by_reward : (named : Option ℕ) → c.states ≡ states_of m → at_reward m c named ≡ No f → IsOfInit m c f
    by_reward None size e = cc
    by_reward (Some r) size e = by_goals r (goal_marks m c.claim) size refl e

    by_size : (same : Bool) → eqb c.states (states_of m) ≡ same → cond same (at_reward m c (reward_place m c.claim)) Size ≡ No f → IsOfInit m c f
    by_size true same e = by_reward (reward_place m c.claim) (eqb-true c.states (states_of m) same) e
    by_size false same e = cc
