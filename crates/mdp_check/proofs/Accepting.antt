-- A certificate is answered yes exactly where it is accepted, and then its claim is true.
use Rattle.std.proofs.Common.{◌≡◌, ◌↔◌, ℕ, ◌<◌, Bool, true, false, cond, List, [], length, eqb, eqb-true, eq-eqb, Option, Some, None, refl, sym, ap, subst, ◌∙◌}
use Rattle.std.proofs.{Math.ListN.{replicate}, lemmas.List.{length-map, length-replicate}, lemmas.List.Quantifiers.{position-Some}}
use Rattle.std.specs.{Str.{bytes_eq}, Option.{option_map}}
use Rattle.mdp_math.specs.Rational.{ℚ}
use Rattle.mdp_spec.specs.{Mdp.{Mdp, states_of}, Labels.{place_of, marks_of, initial_of}, Row.{IsMdp}}
use Rattle.mdp_farkas.specs.{Verdict.{verdict_of, IfYes}, Upper.{upper_checks, IsUpper}, Reach.{reach_checks, IsReach}, Reward.{reward_checks, IsReward}}
use Rattle.mdp_farkas.specs.{Mean.{mean_checks, IsMean}, Initial.{init_fault}}
use Rattle.mdp_farkas.proofs.{MeanRules.{mean_rules, mean_max, mean_min}, UpperRules.{upper_rules, upper_bound}, ReachRules.{reach_rules, reach_max, reach_min}}
use Rattle.mdp_farkas.proofs.RewardRules.{reward_rules, reward_max, reward_min}
use Rattle.mdp_claims.specs.{declared.verdict.Verdict.{Verdict}, declared.subsystem.Flow.{Flow}}
use Rattle.mdp_claims.specs.declared.verdict.Verdict.TheVariants as verdict
use Rattle.mdp_rows.specs.{declared.dir.Dir.{Dir}, declared.dir.Dir.TheVariants.{Max, Min}}
use Rattle.mdp_cert.specs.Cert.{PlainClaim, upper, reach, until, reward, mean, witness, PlainBody, bounds, policy, rewards, gains, flow, floor, Certificate, is_body_of}
use Rattle.mdp_cert.proofs.Growth.{policy-entries, reward-entries, gains-entries}
use Rattle.mdp_subsystem_rules.specs.{Flow.{flow_total}, FlowChecks.{flow_checks, HoldsFlow}, FloorChecks.{floor_checks, HoldsFloor}}
use Rattle.mdp_subsystem_rules.proofs.{FlowRules.{flow_rules, flow_sub_max, flow_within}, FloorRules.{floor_rules, floor_sub_min}}
use Rattle.mdp_text.specs.declared.init.Init.{Init}
use Rattle.mdp_spec.proofs.{Subsystem.{sub-states, sub_is_mdp}, Until.{until_max_exact, until_min_exact}}
use Rattle.mdp_check.specs.Initial.{init_check, start_of, is_subsystem}
use Rattle.mdp_check.specs.Check.{reward_place, labelled_marks, marks_on_way, stay_marks, way_of, way_by, goal_marks, answer_of, verdict_by, body_verdict, after_init, at_goals, at_reward, answer_to, valid_by, IsAccepted, bound_by, IsBound}
use Rattle.mdp_check.specs.{declared.answer.Answer.{Answer}, declared.answer.Answer.TheVariants.{Yes, Size}}
use Rattle.mdp_check.proofs.{Shapes.{flow_shape, floor_shape, start_below}, Ways.{way_by_states, way_sub_max, way_sub_within, way_sub_min}}

-- ---- one step of the answer after the other

pub by_size : (same : Bool) (x : Answer) → cond same x Size ≡ Yes → (same ≡ true) × (x ≡ Yes)
by_size true x e = (refl, e)
by_size false x e = cc

pub yes_verdict : (v : Verdict) → answer_of v ≡ Yes → v ≡ verdict.Yes
yes_verdict verdict.Yes e = refl
yes_verdict (verdict.No f) e = cc
yes_verdict (verdict.Wide s c) e = cc

pub both_yes : (i v : Verdict) → after_init i v ≡ verdict.Yes → (i ≡ verdict.Yes) × (v ≡ verdict.Yes)
both_yes verdict.Yes v e = (refl, e)
both_yes (verdict.No f) v e = cc
both_yes (verdict.Wide s c) v e = cc

-- ---- the body

pub of_if_yes : (v : Verdict) (P : Type 0) → IfYes v P → v ≡ verdict.Yes → P
of_if_yes verdict.Yes P h e = h
of_if_yes (verdict.No f) P h e = cc
of_if_yes (verdict.Wide s c) P h e = cc

-- what is found in a list of names is one of its places
pub below_names : (name : List ℕ) (names : List (List ℕ)) (r : ℕ) → place_of name names ≡ Some r → r < length names
below_names name names r e = (position-Some (bytes_eq name) names r [] e).0

-- one mark for each state
one_mark_each : (m : Mdp) (label : List ℕ) (goals : List Bool) → labelled_marks m label ≡ Some goals → length goals ≡ states_of m
one_mark_each m label goals e = by (place_of label m.labels) e
  where
    by : (o : Option ℕ) → option_map (marks_of m) o ≡ Some goals → length goals ≡ states_of m
    by None e = cc e
    by (Some l) e = let is : marks_of m l ≡ goals = cc e in sym (ap (λ (xs : List Bool). length xs) is) ∙ length-map m.states _

-- the same where a way may be named
mark_each_on_way : (m : Mdp) (label : List ℕ) (o : Option ℕ) (goals : List Bool) → marks_on_way m label o ≡ Some goals → length goals ≡ states_of m
mark_each_on_way m label None goals e = cc e
mark_each_on_way m label (Some l) goals e = one_mark_each m label goals e

pub goals_count : (m : Mdp) (claim : PlainClaim) (goals : List Bool) → goal_marks m claim ≡ Some goals → length goals ≡ states_of m
goals_count m (upper label) goals e = one_mark_each m label goals e
goals_count m (reach dir label) goals e = one_mark_each m label goals e
goals_count m (until dir stay label) goals e = mark_each_on_way m label (place_of stay m.labels) goals e
goals_count m (reward dir name label) goals e = one_mark_each m label goals e
goals_count m (mean dir name) goals e =
    let is : replicate (states_of m) false ≡ goals = cc e in sym (ap (λ (xs : List Bool). length xs) is) ∙ length-replicate (states_of m) false
goals_count m (witness dir None label t) goals e = one_mark_each m label goals e
goals_count m (witness dir (Some stay) label t) goals e = mark_each_on_way m label (place_of stay m.labels) goals e

module _ (m : Mdp) (r : ℕ) (goals : List Bool) (init : Init) (states : ℕ) (size : states ≡ states_of m) where
  abbrev start : ℕ
  start = start_of init

  -- the verdict on a certificate of rewards
  abbrev rewards_verdict : Dir → List (Option ℚ) → List ℕ → List ℕ → Verdict
  rewards_verdict dir v choices ranks = verdict_of (reward_checks dir m r goals v choices ranks)

  abbrev mean_verdict : Dir → List ℚ → List ℚ → List ℚ → List ℕ → ℚ → Verdict
  mean_verdict dir g bound bias choices k = verdict_of (mean_checks dir m r g bound bias k choices)

  abbrev reach_verdict : Dir → List ℚ → List ℕ → List ℕ → Verdict
  reach_verdict dir z choices ranks = verdict_of (reach_checks dir m goals z choices ranks)

  abbrev until_verdict : Dir → List ℕ → List ℚ → List ℕ → List ℕ → Verdict
  until_verdict dir stay z choices ranks = verdict_of (reach_checks dir (way_of m goals stay) goals z choices ranks)

  -- the subsystem has the states of the model
  until_choices : (dir : Dir) (stay label : List ℕ) (z : List ℚ) (choices ranks : List ℕ) → is_body_of (until dir stay label) states (policy z choices ranks) ≡ true
      → length choices ≡ states_of (way_of m goals stay)
  until_choices dir stay label z choices ranks fits = (policy-entries (until dir stay label) states z choices ranks fits).choices ∙ size ∙ sym (sub-states m goals (stay_marks m stay))

  upper_rules_of : (z : List ℚ) → (verdict_of (upper_checks m goals z) ≡ verdict.Yes) ↔ IsUpper m goals z
  upper_rules_of z = upper_rules m goals z (verdict_of (upper_checks m goals z)) refl

  reach_rules_of : (dir : Dir) (label : List ℕ) (z : List ℚ) (choices ranks : List ℕ) → is_body_of (reach dir label) states (policy z choices ranks) ≡ true
      → (reach_verdict dir z choices ranks ≡ verdict.Yes) ↔ IsReach dir m goals z choices ranks
  reach_rules_of dir label z choices ranks fits =
      reach_rules m goals z choices ranks dir (reach_verdict dir z choices ranks) ((policy-entries (reach dir label) states z choices ranks fits).choices ∙ size) refl

  until_rules_of : (dir : Dir) (stay label : List ℕ) (z : List ℚ) (choices ranks : List ℕ) → is_body_of (until dir stay label) states (policy z choices ranks) ≡ true
      → (until_verdict dir stay z choices ranks ≡ verdict.Yes) ↔ IsReach dir (way_of m goals stay) goals z choices ranks
  until_rules_of dir stay label z choices ranks fits =
      reach_rules (way_of m goals stay) goals z choices ranks dir (until_verdict dir stay z choices ranks) (until_choices dir stay label z choices ranks fits) refl

  reward_rules_of : (dir : Dir) (name label : List ℕ) (v : List (Option ℚ)) (choices ranks : List ℕ) → place_of name m.names ≡ Some r
      → is_body_of (reward dir name label) states (rewards v choices ranks) ≡ true → (rewards_verdict dir v choices ranks ≡ verdict.Yes) ↔ IsReward dir m r goals v choices ranks
  reward_rules_of dir name label v choices ranks named fits =
      let entries = reward-entries (reward dir name label) states v choices ranks fits in
      reward_rules m r goals v choices ranks dir (rewards_verdict dir v choices ranks) (below_names name m.names r named) (entries.values ∙ size) (entries.choices ∙ size) refl

  mean_rules_of : (dir : Dir) (name : List ℕ) (g bound bias : List ℚ) (choices : List ℕ) (k : ℚ) → place_of name m.names ≡ Some r
      → is_body_of (mean dir name) states (gains g bound bias choices k) ≡ true → (mean_verdict dir g bound bias choices k ≡ verdict.Yes) ↔ IsMean dir m r g bound bias k choices
  mean_rules_of dir name g bound bias choices k named fits =
      let entries = gains-entries (mean dir name) states g bound bias choices k fits in
      mean_rules m r g bound bias k choices dir (mean_verdict dir g bound bias choices k) (below_names name m.names r named) (entries.bounds ∙ size) (entries.biases ∙ size)
      (entries.choices ∙ size) refl

  -- as many states there, and so on the way
  size_by : (stay : Option (List ℕ)) → states ≡ states_of (way_by m goals stay)
  size_by stay = size ∙ sym (way_by_states m goals stay)

  start_by : (stay : Option (List ℕ)) (body : PlainBody) → is_subsystem body ≡ true → init_check init (initial_of m) body ≡ verdict.Yes → start < states_of (way_by m goals stay)
  start_by stay body sub rule1 = subst (λ (n : ℕ). start < n) (sym (way_by_states m goals stay)) (start_below m init body sub rule1)

  marks_by : (stay : Option (List ℕ)) → length goals ≡ states_of m → length goals ≡ states_of (way_by m goals stay)
  marks_by stay each = each ∙ sym (way_by_states m goals stay)

  flow_rules_of : (stay : Option (List ℕ)) (label : List ℕ) (t : ℚ) (kept : List ℕ) (wide : List Bool) (flows : List Flow)
      → is_body_of (witness Max stay label t) states (flow kept wide flows) ≡ true → init_check init (initial_of m) (flow kept wide flows) ≡ verdict.Yes
      → (verdict_of (flow_checks (way_by m goals stay) goals start t kept flows) ≡ verdict.Yes) ↔ HoldsFlow (way_by m goals stay) goals start t kept flows
  flow_rules_of stay label t kept wide flows fits rule1 =
      let way : Mdp = way_by m goals stay in
      flow_rules way goals start t kept wide flows (start_by stay (flow kept wide flows) refl rule1) (flow_shape way states kept wide flows (size_by stay) fits)
      (verdict_of (flow_checks way goals start t kept flows)) refl

  floor_rules_of : (stay : Option (List ℕ)) (label : List ℕ) (t : ℚ) (kept : List ℕ) (wide : List Bool) (values : List ℚ) (ranks : List ℕ) → length goals ≡ states_of m
      → is_body_of (witness Min stay label t) states (floor kept wide values ranks) ≡ true → init_check init (initial_of m) (floor kept wide values ranks) ≡ verdict.Yes
      → (verdict_of (floor_checks (way_by m goals stay) goals start t kept values ranks) ≡ verdict.Yes) ↔ HoldsFloor (way_by m goals stay) goals start t kept values ranks
  floor_rules_of stay label t kept wide values ranks each fits rule1 =
      let way : Mdp = way_by m goals stay in
      floor_rules way goals start t kept wide values ranks (marks_by stay each) (start_by stay (floor kept wide values ranks) refl rule1)
      (floor_shape way states kept wide values ranks (size_by stay) fits)
      (verdict_of (floor_checks way goals start t kept values ranks)) refl

  body_rules : (claim : PlainClaim) (body : PlainBody) → reward_place m claim ≡ Some r → goal_marks m claim ≡ Some goals → is_body_of claim states body ≡ true
      → init_check init (initial_of m) body ≡ verdict.Yes → (verdict_by m r goals start claim body ≡ verdict.Yes) ↔ valid_by m r goals start claim body
  body_rules (upper label) (bounds z) named marked fits rule1 = upper_rules_of z
  body_rules (upper label) (policy z choices ranks) named marked fits rule1 = absurd (let t = fits in cc)
  body_rules (upper label) (rewards v choices ranks) named marked fits rule1 = absurd (let t = fits in cc)
  body_rules (upper label) (gains g bound bias choices k) named marked fits rule1 = absurd (let t = fits in cc)
  body_rules (upper label) (flow kept wide flows) named marked fits rule1 = absurd (let t = fits in cc)
  body_rules (upper label) (floor kept wide values ranks) named marked fits rule1 = absurd (let t = fits in cc)
  body_rules (reach dir label) (bounds z) named marked fits rule1 = absurd (let t = fits in cc)
  body_rules (reach dir label) (policy z choices ranks) named marked fits rule1 = reach_rules_of dir label z choices ranks fits
  body_rules (reach dir label) (rewards v choices ranks) named marked fits rule1 = absurd (let t = fits in cc)
  body_rules (reach dir label) (gains g bound bias choices k) named marked fits rule1 = absurd (let t = fits in cc)
  body_rules (reach dir label) (flow kept wide flows) named marked fits rule1 = absurd (let t = fits in cc)
  body_rules (reach dir label) (floor kept wide values ranks) named marked fits rule1 = absurd (let t = fits in cc)
  body_rules (until dir stay label) (bounds z) named marked fits rule1 = absurd (let t = fits in cc)
  body_rules (until dir stay label) (policy z choices ranks) named marked fits rule1 = until_rules_of dir stay label z choices ranks fits
  body_rules (until dir stay label) (rewards v choices ranks) named marked fits rule1 = absurd (let t = fits in cc)
  body_rules (until dir stay label) (gains g bound bias choices k) named marked fits rule1 = absurd (let t = fits in cc)
  body_rules (until dir stay label) (flow kept wide flows) named marked fits rule1 = absurd (let t = fits in cc)
  body_rules (until dir stay label) (floor kept wide values ranks) named marked fits rule1 = absurd (let t = fits in cc)
  body_rules (reward dir name label) (bounds z) named marked fits rule1 = absurd (let t = fits in cc)
  body_rules (reward dir name label) (policy z choices ranks) named marked fits rule1 = absurd (let t = fits in cc)
  body_rules (reward dir name label) (rewards v choices ranks) named marked fits rule1 = reward_rules_of dir name label v choices ranks named fits
  body_rules (reward dir name label) (gains g bound bias choices k) named marked fits rule1 = absurd (let t = fits in cc)
  body_rules (reward dir name label) (flow kept wide flows) named marked fits rule1 = absurd (let t = fits in cc)
  body_rules (reward dir name label) (floor kept wide values ranks) named marked fits rule1 = absurd (let t = fits in cc)
  body_rules (mean dir name) (bounds z) named marked fits rule1 = absurd (let t = fits in cc)
  body_rules (mean dir name) (policy z choices ranks) named marked fits rule1 = absurd (let t = fits in cc)
  body_rules (mean dir name) (rewards v choices ranks) named marked fits rule1 = absurd (let t = fits in cc)
  body_rules (mean dir name) (gains g bound bias choices k) named marked fits rule1 = mean_rules_of dir name g bound bias choices k named fits
  body_rules (mean dir name) (flow kept wide flows) named marked fits rule1 = absurd (let t = fits in cc)
  body_rules (mean dir name) (floor kept wide values ranks) named marked fits rule1 = absurd (let t = fits in cc)
  body_rules (witness Max stay label t) (bounds z) named marked fits rule1 = absurd (let t = fits in cc)
  body_rules (witness Max stay label t) (policy z choices ranks) named marked fits rule1 = absurd (let t = fits in cc)
  body_rules (witness Max stay label t) (rewards v choices ranks) named marked fits rule1 = absurd (let t = fits in cc)
  body_rules (witness Max stay label t) (gains g bound bias choices k) named marked fits rule1 = absurd (let t = fits in cc)
  body_rules (witness Max stay label t) (flow kept wide flows) named marked fits rule1 = flow_rules_of stay label t kept wide flows fits rule1
  body_rules (witness Max stay label t) (floor kept wide values ranks) named marked fits rule1 = absurd (let t = fits in cc)
  body_rules (witness Min stay label t) (bounds z) named marked fits rule1 = absurd (let t = fits in cc)
  body_rules (witness Min stay label t) (policy z choices ranks) named marked fits rule1 = absurd (let t = fits in cc)
  body_rules (witness Min stay label t) (rewards v choices ranks) named marked fits rule1 = absurd (let t = fits in cc)
  body_rules (witness Min stay label t) (gains g bound bias choices k) named marked fits rule1 = absurd (let t = fits in cc)
  body_rules (witness Min stay label t) (flow kept wide flows) named marked fits rule1 = absurd (let t = fits in cc)
  body_rules (witness Min stay label t) (floor kept wide values ranks) named marked fits rule1 =
      floor_rules_of stay label t kept wide values ranks (goals_count m (witness Min stay label t) goals marked) fits rule1

  reach_bound : (dir : Dir) (label : List ℕ) (z : List ℚ) (choices ranks : List ℕ) → IsMdp m → is_body_of (reach dir label) states (policy z choices ranks) ≡ true
      → reach_verdict dir z choices ranks ≡ verdict.Yes → bound_by m r goals start (reach dir label) (policy z choices ranks)
  reach_bound Max label z choices ranks is fits e =
      of_if_yes _ _ (reach_max m goals z choices ranks Max (reach_verdict Max z choices ranks) is ((policy-entries (reach Max label) states z choices ranks fits).choices ∙ size) refl refl) e
  reach_bound Min label z choices ranks is fits e =
      of_if_yes _ _ (reach_min m goals z choices ranks Min (reach_verdict Min z choices ranks) is ((policy-entries (reach Min label) states z choices ranks fits).choices ∙ size) refl refl) e

  until_bound : (dir : Dir) (stay label : List ℕ) (z : List ℚ) (choices ranks : List ℕ) → IsMdp m → is_body_of (until dir stay label) states (policy z choices ranks) ≡ true
      → until_verdict dir stay z choices ranks ≡ verdict.Yes → bound_by m r goals start (until dir stay label) (policy z choices ranks)
  until_bound Max stay label z choices ranks is fits e =
      until_max_exact m (stay_marks m stay) goals is z choices
      (of_if_yes _ _ (reach_max (way_of m goals stay) goals z choices ranks Max (until_verdict Max stay z choices ranks) (sub_is_mdp m goals (stay_marks m stay) is)
      (until_choices Max stay label z choices ranks fits) refl refl) e)
  until_bound Min stay label z choices ranks is fits e =
      until_min_exact m (stay_marks m stay) goals is z choices
      (of_if_yes _ _ (reach_min (way_of m goals stay) goals z choices ranks Min (until_verdict Min stay z choices ranks) (sub_is_mdp m goals (stay_marks m stay) is)
      (until_choices Min stay label z choices ranks fits) refl refl) e)

  reward_bound : (dir : Dir) (name label : List ℕ) (v : List (Option ℚ)) (choices ranks : List ℕ) → IsMdp m → place_of name m.names ≡ Some r
      → is_body_of (reward dir name label) states (rewards v choices ranks) ≡ true → rewards_verdict dir v choices ranks ≡ verdict.Yes
      → bound_by m r goals start (reward dir name label) (rewards v choices ranks)
  reward_bound Max name label v choices ranks is named fits e =
      let entries = reward-entries (reward Max name label) states v choices ranks fits in
      of_if_yes _ _ (reward_max m r goals v choices ranks Max (rewards_verdict Max v choices ranks) (below_names name m.names r named) (entries.values ∙ size) (entries.choices ∙ size) refl is refl) e
  reward_bound Min name label v choices ranks is named fits e =
      let entries = reward-entries (reward Min name label) states v choices ranks fits in
      of_if_yes _ _ (reward_min m r goals v choices ranks Min (rewards_verdict Min v choices ranks) (below_names name m.names r named) (entries.values ∙ size) (entries.choices ∙ size) refl is refl) e

  mean_bound : (dir : Dir) (name : List ℕ) (g bound bias : List ℚ) (choices : List ℕ) (k : ℚ) → IsMdp m → place_of name m.names ≡ Some r
      → is_body_of (mean dir name) states (gains g bound bias choices k) ≡ true → mean_verdict dir g bound bias choices k ≡ verdict.Yes
      → bound_by m r goals start (mean dir name) (gains g bound bias choices k)
  mean_bound Max name g bound bias choices k is named fits e =
      let entries = gains-entries (mean Max name) states g bound bias choices k fits in
      of_if_yes _ _
      (mean_max m r g bound bias k choices Max (mean_verdict Max g bound bias choices k) (below_names name m.names r named) (entries.bounds ∙ size) (entries.biases ∙ size)
      (entries.choices ∙ size) refl is refl) e
  mean_bound Min name g bound bias choices k is named fits e =
      let entries = gains-entries (mean Min name) states g bound bias choices k fits in
      of_if_yes _ _
      (mean_min m r g bound bias k choices Min (mean_verdict Min g bound bias choices k) (below_names name m.names r named) (entries.bounds ∙ size) (entries.biases ∙ size)
      (entries.choices ∙ size) refl is refl) e

  flow_bound_of : (stay : Option (List ℕ)) (label : List ℕ) (t : ℚ) (kept : List ℕ) (wide : List Bool) (flows : List Flow) → IsMdp m
      → is_body_of (witness Max stay label t) states (flow kept wide flows) ≡ true → init_check init (initial_of m) (flow kept wide flows) ≡ verdict.Yes
      → verdict_of (flow_checks (way_by m goals stay) goals start t kept flows) ≡ verdict.Yes → bound_by m r goals start (witness Max stay label t) (flow kept wide flows)
  flow_bound_of None label t kept wide flows is fits rule1 e =
      let v = verdict_of (flow_checks m goals start t kept flows) in
      let inside = start_below m init (flow kept wide flows) refl rule1 in
      let shape = flow_shape m states kept wide flows size fits in (
        of_if_yes _ _ (flow_sub_max m goals start t kept wide flows inside shape v is refl) e,
        of_if_yes _ _ (flow_within m goals start t kept wide flows inside shape v is refl) e,
      )
  flow_bound_of (Some stay) label t kept wide flows is fits rule1 e =
      let way : Mdp = way_of m goals stay in
      let known : IsMdp way = sub_is_mdp m goals (stay_marks m stay) is in
      let v = verdict_of (flow_checks way goals start t kept flows) in
      let inside = start_by (Some stay) (flow kept wide flows) refl rule1 in
      let shape = flow_shape way states kept wide flows (size_by (Some stay)) fits in (
        way_sub_max m goals stay kept start t is (of_if_yes _ _ (flow_sub_max way goals start t kept wide flows inside shape v known refl) e),
        way_sub_within m goals stay kept start t is (flow_total flows) (of_if_yes _ _ (flow_within way goals start t kept wide flows inside shape v known refl) e),
      )

  floor_bound_of : (stay : Option (List ℕ)) (label : List ℕ) (t : ℚ) (kept : List ℕ) (wide : List Bool) (values : List ℚ) (ranks : List ℕ) → IsMdp m → length goals ≡ states_of m
      → is_body_of (witness Min stay label t) states (floor kept wide values ranks) ≡ true → init_check init (initial_of m) (floor kept wide values ranks) ≡ verdict.Yes
      → verdict_of (floor_checks (way_by m goals stay) goals start t kept values ranks) ≡ verdict.Yes
      → bound_by m r goals start (witness Min stay label t) (floor kept wide values ranks)
  floor_bound_of None label t kept wide values ranks is each fits rule1 e =
      of_if_yes _ _
      (floor_sub_min m goals start t kept wide values ranks each (start_below m init (floor kept wide values ranks) refl rule1)
      (floor_shape m states kept wide values ranks size fits)
      (verdict_of (floor_checks m goals start t kept values ranks)) is refl) e
  floor_bound_of (Some stay) label t kept wide values ranks is each fits rule1 e =
      let way : Mdp = way_of m goals stay in
      way_sub_min m goals stay kept start t is
      (of_if_yes _ _
      (floor_sub_min way goals start t kept wide values ranks (marks_by (Some stay) each) (start_by (Some stay) (floor kept wide values ranks) refl rule1)
      (floor_shape way states kept wide values ranks (size_by (Some stay)) fits)
      (verdict_of (floor_checks way goals start t kept values ranks)) (sub_is_mdp m goals (stay_marks m stay) is) refl) e)

  body_bound : (claim : PlainClaim) (body : PlainBody) → IsMdp m → reward_place m claim ≡ Some r → goal_marks m claim ≡ Some goals → is_body_of claim states body ≡ true
      → init_check init (initial_of m) body ≡ verdict.Yes
      → verdict_by m r goals start claim body ≡ verdict.Yes → bound_by m r goals start claim body
  body_bound (upper label) (bounds z) is named marked fits rule1 e = of_if_yes _ _ (upper_bound m goals z (verdict_of (upper_checks m goals z)) is refl) e
  body_bound (upper label) (policy z choices ranks) is named marked fits rule1 e = absurd (let t = fits in cc)
  body_bound (upper label) (rewards v choices ranks) is named marked fits rule1 e = absurd (let t = fits in cc)
  body_bound (upper label) (gains g bound bias choices k) is named marked fits rule1 e = absurd (let t = fits in cc)
  body_bound (upper label) (flow kept wide flows) is named marked fits rule1 e = absurd (let t = fits in cc)
  body_bound (upper label) (floor kept wide values ranks) is named marked fits rule1 e = absurd (let t = fits in cc)
  body_bound (reach dir label) (bounds z) is named marked fits rule1 e = absurd (let t = fits in cc)
  body_bound (reach dir label) (policy z choices ranks) is named marked fits rule1 e = reach_bound dir label z choices ranks is fits e
  body_bound (reach dir label) (rewards v choices ranks) is named marked fits rule1 e = absurd (let t = fits in cc)
  body_bound (reach dir label) (gains g bound bias choices k) is named marked fits rule1 e = absurd (let t = fits in cc)
  body_bound (reach dir label) (flow kept wide flows) is named marked fits rule1 e = absurd (let t = fits in cc)
  body_bound (reach dir label) (floor kept wide values ranks) is named marked fits rule1 e = absurd (let t = fits in cc)
  body_bound (until dir stay label) (bounds z) is named marked fits rule1 e = absurd (let t = fits in cc)
  body_bound (until dir stay label) (policy z choices ranks) is named marked fits rule1 e = until_bound dir stay label z choices ranks is fits e
  body_bound (until dir stay label) (rewards v choices ranks) is named marked fits rule1 e = absurd (let t = fits in cc)
  body_bound (until dir stay label) (gains g bound bias choices k) is named marked fits rule1 e = absurd (let t = fits in cc)
  body_bound (until dir stay label) (flow kept wide flows) is named marked fits rule1 e = absurd (let t = fits in cc)
  body_bound (until dir stay label) (floor kept wide values ranks) is named marked fits rule1 e = absurd (let t = fits in cc)
  body_bound (reward dir name label) (bounds z) is named marked fits rule1 e = absurd (let t = fits in cc)
  body_bound (reward dir name label) (policy z choices ranks) is named marked fits rule1 e = absurd (let t = fits in cc)
  body_bound (reward dir name label) (rewards v choices ranks) is named marked fits rule1 e = reward_bound dir name label v choices ranks is named fits e
  body_bound (reward dir name label) (gains g bound bias choices k) is named marked fits rule1 e = absurd (let t = fits in cc)
  body_bound (reward dir name label) (flow kept wide flows) is named marked fits rule1 e = absurd (let t = fits in cc)
  body_bound (reward dir name label) (floor kept wide values ranks) is named marked fits rule1 e = absurd (let t = fits in cc)
  body_bound (mean dir name) (bounds z) is named marked fits rule1 e = absurd (let t = fits in cc)
  body_bound (mean dir name) (policy z choices ranks) is named marked fits rule1 e = absurd (let t = fits in cc)
  body_bound (mean dir name) (rewards v choices ranks) is named marked fits rule1 e = absurd (let t = fits in cc)
  body_bound (mean dir name) (gains g bound bias choices k) is named marked fits rule1 e = mean_bound dir name g bound bias choices k is named fits e
  body_bound (mean dir name) (flow kept wide flows) is named marked fits rule1 e = absurd (let t = fits in cc)
  body_bound (mean dir name) (floor kept wide values ranks) is named marked fits rule1 e = absurd (let t = fits in cc)
  body_bound (witness Max stay label t) (bounds z) is named marked fits rule1 e = absurd (let t = fits in cc)
  body_bound (witness Max stay label t) (policy z choices ranks) is named marked fits rule1 e = absurd (let t = fits in cc)
  body_bound (witness Max stay label t) (rewards v choices ranks) is named marked fits rule1 e = absurd (let t = fits in cc)
  body_bound (witness Max stay label t) (gains g bound bias choices k) is named marked fits rule1 e = absurd (let t = fits in cc)
  body_bound (witness Max stay label t) (flow kept wide flows) is named marked fits rule1 e = flow_bound_of stay label t kept wide flows is fits rule1 e
  body_bound (witness Max stay label t) (floor kept wide values ranks) is named marked fits rule1 e = absurd (let t = fits in cc)
  body_bound (witness Min stay label t) (bounds z) is named marked fits rule1 e = absurd (let t = fits in cc)
  body_bound (witness Min stay label t) (policy z choices ranks) is named marked fits rule1 e = absurd (let t = fits in cc)
  body_bound (witness Min stay label t) (rewards v choices ranks) is named marked fits rule1 e = absurd (let t = fits in cc)
  body_bound (witness Min stay label t) (gains g bound bias choices k) is named marked fits rule1 e = absurd (let t = fits in cc)
  body_bound (witness Min stay label t) (flow kept wide flows) is named marked fits rule1 e = absurd (let t = fits in cc)
  body_bound (witness Min stay label t) (floor kept wide values ranks) is named marked fits rule1 e =
      floor_bound_of stay label t kept wide values ranks is (goals_count m (witness Min stay label t) goals marked) fits rule1 e

-- a verdict of yes is one on a body that fits
pub by_body : (fits : Bool) (v : Verdict) → cond fits v (init_fault None) ≡ verdict.Yes → (fits ≡ true) × (v ≡ verdict.Yes)
by_body true v e = (refl, e)
by_body false v e = cc

-- ---- the whole

accepted_at : (m : Mdp) (c : Certificate) (r : ℕ) → c.states ≡ states_of m → reward_place m c.claim ≡ Some r → (found : Option (List Bool)) → goal_marks m c.claim ≡ found
    → at_goals m c r found ≡ Yes → IsAccepted m c
accepted_at m c r size named None f e = cc
accepted_at m c r size named (Some goals) f e =
    let both = both_yes (init_check c.init (initial_of m) c.body) (body_verdict m r goals c) (yes_verdict _ e) in
    let body = by_body (is_body_of c.claim c.states c.body) (verdict_by m r goals (start_of c.init) c.claim c.body) both.1 in
    record {
      states = size;
      entries = body.0;
      reward = r;
      named = named;
      goals = goals;
      marked = f;
      init = both.0;
      body = (body_rules m r goals c.init c.states size c.claim c.body named f body.0 both.0).0 body.1;
    }

accepted_named : (m : Mdp) (c : Certificate) → c.states ≡ states_of m → (named : Option ℕ) → reward_place m c.claim ≡ named → at_reward m c named ≡ Yes → IsAccepted m c
accepted_named m c size None f e = cc
accepted_named m c size (Some r) f e = accepted_at m c r size f (goal_marks m c.claim) refl e

accepted_of : (m : Mdp) (c : Certificate) → answer_to m c ≡ Yes → IsAccepted m c
accepted_of m c e =
    let size = by_size (eqb c.states (states_of m)) (at_reward m c (reward_place m c.claim)) e in
    accepted_named m c (eqb-true c.states (states_of m) size.0) (reward_place m c.claim) refl size.1

valid_body : (m : Mdp) (c : Certificate) (h : IsAccepted m c) → verdict_by m h.reward h.goals (start_of c.init) c.claim c.body ≡ verdict.Yes
valid_body m c h = (body_rules m h.reward h.goals c.init c.states h.states c.claim c.body h.named h.marked h.entries h.init).1 h.body

answer_accepted : (m : Mdp) (c : Certificate) → IsAccepted m c → answer_to m c ≡ Yes
answer_accepted m c h =
    ap (λ (same : Bool). cond same (at_reward m c (reward_place m c.claim)) Size) (eq-eqb c.states (states_of m) h.states)
    ∙ ap (λ (named : Option ℕ). at_reward m c named) h.named
    ∙ ap (λ (found : Option (List Bool)). at_goals m c h.reward found) h.marked
    ∙ ap (λ (i : Verdict). answer_of (after_init i (body_verdict m h.reward h.goals c))) h.init
    ∙ ap (λ (fits : Bool). answer_of (cond fits (verdict_by m h.reward h.goals (start_of c.init) c.claim c.body) (init_fault None))) h.entries
    ∙ ap answer_of (valid_body m c h)

pub yes_is_accepted : (m : Mdp) (c : Certificate) → (answer_to m c ≡ Yes) ↔ IsAccepted m c
yes_is_accepted m c = (accepted_of m c, answer_accepted m c)

pub accepted_is_bound : (m : Mdp) (c : Certificate) → IsMdp m → IsAccepted m c → IsBound m c
accepted_is_bound m c is h = record {
  reward = h.reward;
  named = h.named;
  goals = h.goals;
  marked = h.marked;
  holds = body_bound m h.reward h.goals c.init c.states h.states c.claim c.body is h.named h.marked h.entries h.init (valid_body m c h);
}
