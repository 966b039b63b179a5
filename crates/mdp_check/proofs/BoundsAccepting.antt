-- A certificate of bounds is answered yes exactly where it is accepted, and then its claim is true.
use Rattle.std.proofs.Common.{sym, ◌≡◌, ◌↔◌, ℕ, Bool, true, cond, List, length, eqb, eqb-true, eq-eqb, Option, Some, None, refl, ap, ◌∙◌}
use Rattle.mdp_math.specs.Rational.{ℚ}
use Rattle.mdp_spec.specs.{Mdp.{Mdp, states_of}, Labels.{place_of, initial_of}, Row.{IsMdp}}
use Rattle.mdp_rows.specs.{declared.dir.Dir.{Dir}, declared.dir.Dir.TheVariants.{Max, Min}}
use Rattle.mdp_farkas.specs.{Initial.{init_fault}, Verdict.{verdict_of}}
use Rattle.mdp_claims.specs.declared.verdict.Verdict.{Verdict}
use Rattle.mdp_claims.specs.declared.verdict.Verdict.TheVariants as verdict
use Rattle.mdp_bounds.specs.{Reach.{bounds_checks, IsReachBounds}, Reward.{reward_bounds_checks, IsRewardBounds}, Mean.{mean_bounds_checks, IsMeanBounds}}
use Rattle.mdp_bounds.proofs.{ReachRules.{bounds_rules, bounds_max, bounds_min}, RewardRules.{reward_bounds_rules, reward_bounds_max, reward_bounds_min}}
use Rattle.mdp_bounds.proofs.MeanRules.{mean_bounds_rules, mean_bounds_max, mean_bounds_min}
use Rattle.mdp_cert.specs.Cert.{PlainClaim, upper, reach, until, reward, mean, witness}
use Rattle.mdp_cert.specs.BoundsCert.{PlainBounds, probabilities, rewards, gains, Certificate, is_body_of}
use Rattle.mdp_spec.proofs.{Subsystem.{sub-states, sub_is_mdp}, Until.{until_max_of_sub, until_min_of_sub}}
use Rattle.mdp_check.proofs.{Accepting.{by_size, yes_verdict, both_yes, of_if_yes, below_names, by_body}, BoundsShapes.{are_four, are_five}}
use Rattle.mdp_check.specs.{Check.{reward_place, goal_marks, stay_marks, way_of, answer_of, after_init}, BoundsInitial.{bounds_init_check}}
use Rattle.mdp_check.specs.Bounds.{bounds_verdict_by, bounds_verdict, bounds_at_goals, bounds_at_reward, bounds_answer_to, valid_bounds_by, IsBoundsAccepted, between_by, IsBoundsTrue}
use Rattle.mdp_check.specs.declared.answer.Answer.TheVariants.{Yes, Size}

-- ---- the body

module _ (m : Mdp) (known : IsMdp m) (r : ℕ) (goals : List Bool) (states : ℕ) (size : states ≡ states_of m) where
  abbrev reach_verdict : Dir → List ℚ → List ℚ → List ℕ → List ℕ → Verdict
  reach_verdict dir low high choices ranks = verdict_of (bounds_checks dir m goals low high choices ranks)

  abbrev rewards_verdict : Dir → List (Option ℚ) → List (Option ℚ) → List ℕ → List ℕ → Verdict
  rewards_verdict dir low high choices ranks = verdict_of (reward_bounds_checks dir m r goals low high choices ranks)

  abbrev mean_verdict : Dir → List ℚ → List ℚ → List ℚ → List ℚ → List ℕ → ℚ → Verdict
  mean_verdict dir low high bound bias choices k = verdict_of (mean_bounds_checks dir m r low high bound bias k choices)

  module _ (dir : Dir) (low high : List ℚ) (choices ranks : List ℕ) (label : List ℕ) (fits : is_body_of (reach dir label) states (probabilities low high choices ranks) ≡ true) where
    one_choice : length choices ≡ states_of m
    one_choice = (are_four states (length low) (length high) (length choices) (length ranks) fits).third ∙ size

    reach_rules : (reach_verdict dir low high choices ranks ≡ verdict.Yes) ↔ IsReachBounds dir m goals low high choices ranks
    reach_rules = bounds_rules m known goals low high choices ranks dir (reach_verdict dir low high choices ranks) one_choice refl

  reach_between : (dir : Dir) (label : List ℕ) (low high : List ℚ) (choices ranks : List ℕ) → is_body_of (reach dir label) states (probabilities low high choices ranks) ≡ true
      → reach_verdict dir low high choices ranks ≡ verdict.Yes → between_by m r goals (reach dir label) (probabilities low high choices ranks)
  reach_between Max label low high choices ranks fits e =
      of_if_yes _ _
      (bounds_max m known goals low high choices ranks Max (reach_verdict Max low high choices ranks) (one_choice Max low high choices ranks label fits) refl refl) e
  reach_between Min label low high choices ranks fits e =
      of_if_yes _ _
      (bounds_min m known goals low high choices ranks Min (reach_verdict Min low high choices ranks) (one_choice Min low high choices ranks label fits) refl refl) e

  abbrev until_verdict : Dir → List ℕ → List ℚ → List ℚ → List ℕ → List ℕ → Verdict
  until_verdict dir stay low high choices ranks = verdict_of (bounds_checks dir (way_of m goals stay) goals low high choices ranks)

  way_known : (stay : List ℕ) → IsMdp (way_of m goals stay)
  way_known stay = sub_is_mdp m goals (stay_marks m stay) known

  module _ (dir : Dir) (low high : List ℚ) (choices ranks stay label : List ℕ) (fits : is_body_of (until dir stay label) states (probabilities low high choices ranks) ≡ true) where
    until_choices : length choices ≡ states_of (way_of m goals stay)
    until_choices = (are_four states (length low) (length high) (length choices) (length ranks) fits).third ∙ size ∙ sym (sub-states m goals (stay_marks m stay))

    until_rules : (until_verdict dir stay low high choices ranks ≡ verdict.Yes) ↔ IsReachBounds dir (way_of m goals stay) goals low high choices ranks
    until_rules = bounds_rules (way_of m goals stay) (way_known stay) goals low high choices ranks dir (until_verdict dir stay low high choices ranks) until_choices refl

  until_between : (dir : Dir) (stay label : List ℕ) (low high : List ℚ) (choices ranks : List ℕ) → is_body_of (until dir stay label) states (probabilities low high choices ranks) ≡ true
      → until_verdict dir stay low high choices ranks ≡ verdict.Yes → between_by m r goals (until dir stay label) (probabilities low high choices ranks)
  until_between Max stay label low high choices ranks fits e =
      until_max_of_sub m (stay_marks m stay) goals known low high choices
      (of_if_yes _ _ (bounds_max (way_of m goals stay) (way_known stay) goals low high choices ranks Max (until_verdict Max stay low high choices ranks)
      (until_choices Max low high choices ranks stay label fits) refl refl) e)
  until_between Min stay label low high choices ranks fits e =
      until_min_of_sub m (stay_marks m stay) goals known low high choices
      (of_if_yes _ _ (bounds_min (way_of m goals stay) (way_known stay) goals low high choices ranks Min (until_verdict Min stay low high choices ranks)
      (until_choices Min low high choices ranks stay label fits) refl refl) e)

  reward_rules : (dir : Dir) (name label : List ℕ) (low high : List (Option ℚ)) (choices ranks : List ℕ) → place_of name m.names ≡ Some r
      → is_body_of (reward dir name label) states (rewards low high choices ranks) ≡ true
      → (rewards_verdict dir low high choices ranks ≡ verdict.Yes) ↔ IsRewardBounds dir m r goals low high choices ranks
  reward_rules dir name label low high choices ranks named fits =
      let each = are_four states (length low) (length high) (length choices) (length ranks) fits in
      reward_bounds_rules m known r goals low high choices ranks dir (rewards_verdict dir low high choices ranks) (below_names name m.names r named) (each.first ∙ size) (each.second ∙ size)
      (each.third ∙ size) refl

  reward_between : (dir : Dir) (name label : List ℕ) (low high : List (Option ℚ)) (choices ranks : List ℕ) → place_of name m.names ≡ Some r
      → is_body_of (reward dir name label) states (rewards low high choices ranks) ≡ true
      → rewards_verdict dir low high choices ranks ≡ verdict.Yes → between_by m r goals (reward dir name label) (rewards low high choices ranks)
  reward_between Max name label low high choices ranks named fits e =
      let each = are_four states (length low) (length high) (length choices) (length ranks) fits in
      of_if_yes _ _
      (reward_bounds_max m known r goals low high choices ranks Max (rewards_verdict Max low high choices ranks) (below_names name m.names r named) (each.first ∙ size) (each.second ∙ size)
      (each.third ∙ size) refl refl) e
  reward_between Min name label low high choices ranks named fits e =
      let each = are_four states (length low) (length high) (length choices) (length ranks) fits in
      of_if_yes _ _
      (reward_bounds_min m known r goals low high choices ranks Min (rewards_verdict Min low high choices ranks) (below_names name m.names r named) (each.first ∙ size) (each.second ∙ size)
      (each.third ∙ size) refl refl) e

  mean_rules : (dir : Dir) (name : List ℕ) (low high bound bias : List ℚ) (choices : List ℕ) (k : ℚ) → place_of name m.names ≡ Some r
      → is_body_of (mean dir name) states (gains low high bound bias choices k) ≡ true
      → (mean_verdict dir low high bound bias choices k ≡ verdict.Yes) ↔ IsMeanBounds dir m r low high bound bias k choices
  mean_rules dir name low high bound bias choices k named fits =
      let each = are_five states (length low) (length high) (length bound) (length bias) (length choices) fits in
      mean_bounds_rules m known r low high bound bias k choices dir (mean_verdict dir low high bound bias choices k) (below_names name m.names r named) (each.four.third ∙ size)
      (each.four.fourth ∙ size) (each.fifth ∙ size) refl

  mean_between : (dir : Dir) (name : List ℕ) (low high bound bias : List ℚ) (choices : List ℕ) (k : ℚ) → place_of name m.names ≡ Some r
      → is_body_of (mean dir name) states (gains low high bound bias choices k) ≡ true
      → mean_verdict dir low high bound bias choices k ≡ verdict.Yes → between_by m r goals (mean dir name) (gains low high bound bias choices k)
  mean_between Max name low high bound bias choices k named fits e =
      let each = are_five states (length low) (length high) (length bound) (length bias) (length choices) fits in
      of_if_yes _ _
      (mean_bounds_max m known r low high bound bias k choices Max (mean_verdict Max low high bound bias choices k) (below_names name m.names r named) (each.four.third ∙ size)
      (each.four.fourth ∙ size) (each.fifth ∙ size) refl refl) e
  mean_between Min name low high bound bias choices k named fits e =
      let each = are_five states (length low) (length high) (length bound) (length bias) (length choices) fits in
      of_if_yes _ _
      (mean_bounds_min m known r low high bound bias k choices Min (mean_verdict Min low high bound bias choices k) (below_names name m.names r named) (each.four.third ∙ size)
      (each.four.fourth ∙ size) (each.fifth ∙ size) refl refl) e

  body_rules : (claim : PlainClaim) (body : PlainBounds) → reward_place m claim ≡ Some r → is_body_of claim states body ≡ true
      → (bounds_verdict_by m r goals claim body ≡ verdict.Yes) ↔ valid_bounds_by m r goals claim body
  body_rules (upper label) (probabilities low high choices ranks) named fits = absurd (let t = fits in cc)
  body_rules (upper label) (rewards low high choices ranks) named fits = absurd (let t = fits in cc)
  body_rules (upper label) (gains low high bound bias choices k) named fits = absurd (let t = fits in cc)
  body_rules (reach dir label) (probabilities low high choices ranks) named fits = reach_rules dir low high choices ranks label fits
  body_rules (reach dir label) (rewards low high choices ranks) named fits = absurd (let t = fits in cc)
  body_rules (reach dir label) (gains low high bound bias choices k) named fits = absurd (let t = fits in cc)
  body_rules (until dir stay label) (probabilities low high choices ranks) named fits = until_rules dir low high choices ranks stay label fits
  body_rules (until dir stay label) (rewards low high choices ranks) named fits = absurd (let t = fits in cc)
  body_rules (until dir stay label) (gains low high bound bias choices k) named fits = absurd (let t = fits in cc)
  body_rules (reward dir name label) (probabilities low high choices ranks) named fits = absurd (let t = fits in cc)
  body_rules (reward dir name label) (rewards low high choices ranks) named fits = reward_rules dir name label low high choices ranks named fits
  body_rules (reward dir name label) (gains low high bound bias choices k) named fits = absurd (let t = fits in cc)
  body_rules (mean dir name) (probabilities low high choices ranks) named fits = absurd (let t = fits in cc)
  body_rules (mean dir name) (rewards low high choices ranks) named fits = absurd (let t = fits in cc)
  body_rules (mean dir name) (gains low high bound bias choices k) named fits = mean_rules dir name low high bound bias choices k named fits
  body_rules (witness dir stay label t) (probabilities low high choices ranks) named fits = absurd (let t = fits in cc)
  body_rules (witness dir stay label t) (rewards low high choices ranks) named fits = absurd (let t = fits in cc)
  body_rules (witness dir stay label t) (gains low high bound bias choices k) named fits = absurd (let t = fits in cc)

  body_between : (claim : PlainClaim) (body : PlainBounds) → reward_place m claim ≡ Some r → is_body_of claim states body ≡ true
      → bounds_verdict_by m r goals claim body ≡ verdict.Yes → between_by m r goals claim body
  body_between (upper label) (probabilities low high choices ranks) named fits e = absurd (let t = fits in cc)
  body_between (upper label) (rewards low high choices ranks) named fits e = absurd (let t = fits in cc)
  body_between (upper label) (gains low high bound bias choices k) named fits e = absurd (let t = fits in cc)
  body_between (reach dir label) (probabilities low high choices ranks) named fits e = reach_between dir label low high choices ranks fits e
  body_between (reach dir label) (rewards low high choices ranks) named fits e = absurd (let t = fits in cc)
  body_between (reach dir label) (gains low high bound bias choices k) named fits e = absurd (let t = fits in cc)
  body_between (until dir stay label) (probabilities low high choices ranks) named fits e = until_between dir stay label low high choices ranks fits e
  body_between (until dir stay label) (rewards low high choices ranks) named fits e = absurd (let t = fits in cc)
  body_between (until dir stay label) (gains low high bound bias choices k) named fits e = absurd (let t = fits in cc)
  body_between (reward dir name label) (probabilities low high choices ranks) named fits e = absurd (let t = fits in cc)
  body_between (reward dir name label) (rewards low high choices ranks) named fits e = reward_between dir name label low high choices ranks named fits e
  body_between (reward dir name label) (gains low high bound bias choices k) named fits e = absurd (let t = fits in cc)
  body_between (mean dir name) (probabilities low high choices ranks) named fits e = absurd (let t = fits in cc)
  body_between (mean dir name) (rewards low high choices ranks) named fits e = absurd (let t = fits in cc)
  body_between (mean dir name) (gains low high bound bias choices k) named fits e = mean_between dir name low high bound bias choices k named fits e
  body_between (witness dir stay label t) (probabilities low high choices ranks) named fits e = absurd (let t = fits in cc)
  body_between (witness dir stay label t) (rewards low high choices ranks) named fits e = absurd (let t = fits in cc)
  body_between (witness dir stay label t) (gains low high bound bias choices k) named fits e = absurd (let t = fits in cc)

-- ---- the whole

module _ (m : Mdp) (c : Certificate) (known : IsMdp m) where
  accepted_named : (goals : List Bool) → c.states ≡ states_of m → goal_marks m c.claim ≡ Some goals → (named : Option ℕ) → reward_place m c.claim ≡ named
      → bounds_at_reward m c goals named ≡ Yes → IsBoundsAccepted m c
  accepted_named goals size marked None f e = cc e
  accepted_named goals size marked (Some r) f e =
      let both = both_yes (bounds_init_check c.init (initial_of m) c.body) (bounds_verdict m r goals c) (yes_verdict _ e) in
      let body = by_body (is_body_of c.claim c.states c.body) (bounds_verdict_by m r goals c.claim c.body) both.1 in
      record {
        states = size;
        entries = body.0;
        reward = r;
        named = f;
        goals = goals;
        marked = marked;
        init = both.0;
        body = (body_rules m known r goals c.states size c.claim c.body f body.0).0 body.1;
      }

  accepted_marked : c.states ≡ states_of m → (found : Option (List Bool)) → goal_marks m c.claim ≡ found → bounds_at_goals m c found ≡ Yes → IsBoundsAccepted m c
  accepted_marked size None f e = cc e
  accepted_marked size (Some goals) f e = accepted_named goals size f (reward_place m c.claim) refl e

  accepted_of : bounds_answer_to m c ≡ Yes → IsBoundsAccepted m c
  accepted_of e =
      let size = by_size (eqb c.states (states_of m)) (bounds_at_goals m c (goal_marks m c.claim)) e in
      accepted_marked (eqb-true c.states (states_of m) size.0) (goal_marks m c.claim) refl size.1

  valid_body : (h : IsBoundsAccepted m c) → bounds_verdict_by m h.reward h.goals c.claim c.body ≡ verdict.Yes
  valid_body h = (body_rules m known h.reward h.goals c.states h.states c.claim c.body h.named h.entries).1 h.body

  answer_accepted : IsBoundsAccepted m c → bounds_answer_to m c ≡ Yes
  answer_accepted h =
      ap (λ (same : Bool). cond same (bounds_at_goals m c (goal_marks m c.claim)) Size) (eq-eqb c.states (states_of m) h.states)
      ∙ ap (λ (found : Option (List Bool)). bounds_at_goals m c found) h.marked
      ∙ ap (λ (named : Option ℕ). bounds_at_reward m c h.goals named) h.named
      ∙ ap (λ (i : Verdict). answer_of (after_init i (bounds_verdict m h.reward h.goals c))) h.init
      ∙ ap (λ (fits : Bool). answer_of (cond fits (bounds_verdict_by m h.reward h.goals c.claim c.body) (init_fault None))) h.entries
      ∙ ap answer_of (valid_body h)

pub yes_accepts_bounds : (m : Mdp) (c : Certificate) → IsMdp m → (bounds_answer_to m c ≡ Yes) ↔ IsBoundsAccepted m c
yes_accepts_bounds m c known = (accepted_of m c known, answer_accepted m c known)

pub accepted_bounds_are_true : (m : Mdp) (c : Certificate) → IsMdp m → IsBoundsAccepted m c → IsBoundsTrue m c
accepted_bounds_are_true m c known h = record {
  reward = h.reward;
  named = h.named;
  goals = h.goals;
  marked = h.marked;
  holds = body_between m known h.reward h.goals c.states h.states c.claim c.body h.named h.entries (valid_body m c known h);
}
