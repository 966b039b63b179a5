-- The same of certificates of bounds.
use Rattle.std.proofs.Common.{◌≡◌, ◌↔◌, ℕ, Bool, true, false, cond, eqb, ◌&&◌, inl, inr, List, Option, Some, None, refl, sym, ap, ◌∙◌}
use Rattle.std.proofs.lemmas.Bool.{and_parts}
use Rattle.mdp_math.specs.Rational.{ℚ}
use Rattle.mdp_math.proofs.Booleans.{and-both}
use Rattle.mdp_spec.specs.{Mdp.{Mdp, states_of}, Row.{IsMdp}, Labels.{initial_of}}
use Rattle.mdp_spec.proofs.Subsystem.{sub_is_mdp}
use Rattle.mdp_claims.specs.{declared.rule.Rule.{Rule}, declared.rule.Rule.TheVariants.{InitialState}, declared.verdict.Fault.{Fault}}
use Rattle.mdp_claims.specs.declared.verdict.Verdict.TheVariants as verdict
use Rattle.mdp_farkas.specs.Initial.{init_fault, is_value}
use Rattle.mdp_bounds.specs.Says.{Column, IsFalseOfOne, ReachSays, RewardSays, MeanSays}
use Rattle.mdp_bounds.specs.Laws.{ReachNoRefutes, RewardNoRefutes, MeanNoRefutes}
use Rattle.mdp_cert.specs.{Cert.{PlainClaim, upper, reach, until, reward, mean, witness}, BoundsCert.{PlainBounds, probabilities, rewards, gains, Certificate, is_body_of}}
use Rattle.mdp_cert.specs.{declared.init.BoundsInit.{BoundsInit}, declared.init.BoundsInit.TheVariants.{Missing, Between}}
use Rattle.mdp_check.specs.{Initial.{is_reward}, Says.{IsValueAt, IsRewardAt}, BoundsInitial.{has_bounds, bounds_init_check}, BoundsSays.{HasBounds, BoundsInitSays}, BoundsLaws.{BoundsNoOfInit}}
use Rattle.mdp_check.specs.{Check.{reward_place, goal_marks, stay_marks, way_of}, Bounds.{bounds_verdict_by, bounds_verdict, bounds_at_goals, bounds_at_reward}}
use Rattle.mdp_check.specs.declared.answer.Answer.TheVariants.{No, Size}
use Rattle.mdp_check.proofs.Starting.{value_is, reward_is, never, state_is, HoldsOrNamed, state_told, says_nothing, no_by}

-- ---- the line

both_are : (a b : Bool) (P Q : Type 0) → ((a ≡ true) ↔ P) → ((b ≡ true) ↔ Q) → ((a && b) ≡ true) ↔ (P × Q)
both_are a b P Q p q = (λ e. (let r = and_parts a b e in (p.0 r.0, q.0 r.1)), λ h. and-both a b (p.1 h.0) (q.1 h.1))

has_bounds_is : (body : PlainBounds) (s : ℕ) (x y : Option ℚ) → (has_bounds body s x y ≡ true) ↔ HasBounds body s x y
has_bounds_is (probabilities low high choices ranks) s None y = never
has_bounds_is (probabilities low high choices ranks) s (Some x) None = never
has_bounds_is (probabilities low high choices ranks) s (Some x) (Some y) = both_are (is_value low s x) (is_value high s y) (IsValueAt low s x) (IsValueAt high s y) (value_is low s x) (value_is high s y)
has_bounds_is (rewards low high choices ranks) s x y = both_are (is_reward low s x) (is_reward high s y) (IsRewardAt low s x) (IsRewardAt high s y) (reward_is low s x) (reward_is high s y)
has_bounds_is (gains low high bound bias choices spread) s None y = never
has_bounds_is (gains low high bound bias choices spread) s (Some x) None = never
has_bounds_is (gains low high bound bias choices spread) s (Some x) (Some y) = both_are (is_value low s x) (is_value high s y) (IsValueAt low s x) (IsValueAt high s y) (value_is low s x) (value_is high s y)

init_is : (init : BoundsInit) (initial : Option ℕ) (body : PlainBounds) → (bounds_init_check init initial body ≡ verdict.Yes) ↔ BoundsInitSays init initial body
init_is Missing None body = (λ e. refl, λ e. refl)
init_is Missing (Some t) body = (λ e. cc, λ e. cc)
init_is (Between s x y) initial body = state_is s initial (has_bounds body s x y) (HasBounds body s x y) (has_bounds_is body s x y)

told : (init : BoundsInit) (initial : Option ℕ) (body : PlainBounds) → HoldsOrNamed (bounds_init_check init initial body)
told Missing None body = inl refl
told Missing (Some t) body = inr (None, refl)
told (Between s x y) initial body = state_told s initial (has_bounds body s x y)

-- ---- the rules of the claim don't name rule 1

-- a rule that says nothing of either column is named by no false check
nothing_of_one : (Says : Column → Rule → Option ℕ → Option ℕ → Type 0) (f : Fault) → ((side : Column) → Says side InitialState f.state f.choice)
    → IsFalseOfOne (λ side. Says side f.rule f.state f.choice) → f.rule ≡ InitialState → ⊥
nothing_of_one Says f nothing wrong = says_nothing (Says wrong.0) f (nothing wrong.0) wrong.1

module _ (reach_refuted : ReachNoRefutes) (reward_refuted : RewardNoRefutes) (mean_refuted : MeanNoRefutes) (m : Mdp) (known : IsMdp m) (r : ℕ) (goals : List Bool) (states : ℕ) (f : Fault) where
  other_rules : (claim : PlainClaim) (body : PlainBounds) → is_body_of claim states body ≡ true → bounds_verdict_by m r goals claim body ≡ verdict.No f → f.rule ≡ InitialState → ⊥
  other_rules (upper label) (probabilities low high choices ranks) fits e = absurd (let t = fits in cc)
  other_rules (upper label) (rewards low high choices ranks) fits e = absurd (let t = fits in cc)
  other_rules (upper label) (gains low high bound bias choices k) fits e = absurd (let t = fits in cc)
  other_rules (reach dir label) (probabilities low high choices ranks) fits e = nothing_of_one (ReachSays dir m goals low high choices ranks) f (λ side. tt) (reach_refuted dir m goals low high choices ranks f known e)
  other_rules (reach dir label) (rewards low high choices ranks) fits e = absurd (let t = fits in cc)
  other_rules (reach dir label) (gains low high bound bias choices k) fits e = absurd (let t = fits in cc)
  other_rules (until dir stay label) (probabilities low high choices ranks) fits e =
      nothing_of_one (ReachSays dir (way_of m goals stay) goals low high choices ranks) f (λ side. tt)
      (reach_refuted dir (way_of m goals stay) goals low high choices ranks f (sub_is_mdp m goals (stay_marks m stay) known) e)
  other_rules (until dir stay label) (rewards low high choices ranks) fits e = absurd (let t = fits in cc)
  other_rules (until dir stay label) (gains low high bound bias choices k) fits e = absurd (let t = fits in cc)
  other_rules (reward dir name label) (probabilities low high choices ranks) fits e = absurd (let t = fits in cc)
  other_rules (reward dir name label) (rewards low high choices ranks) fits e =
      nothing_of_one (RewardSays dir m r goals low high choices ranks) f (λ side. tt) (reward_refuted dir m r goals low high choices ranks f known e)
  other_rules (reward dir name label) (gains low high bound bias choices k) fits e = absurd (let t = fits in cc)
  other_rules (mean dir name) (probabilities low high choices ranks) fits e = absurd (let t = fits in cc)
  other_rules (mean dir name) (rewards low high choices ranks) fits e = absurd (let t = fits in cc)
  other_rules (mean dir name) (gains low high bound bias choices k) fits e = says_nothing (MeanSays dir m r low high bound bias k choices) f tt (mean_refuted dir m r low high bound bias k choices f known e)
  other_rules (witness dir stay label t) (probabilities low high choices ranks) fits e = absurd (let t = fits in cc)
  other_rules (witness dir stay label t) (rewards low high choices ranks) fits e = absurd (let t = fits in cc)
  other_rules (witness dir stay label t) (gains low high bound bias choices k) fits e = absurd (let t = fits in cc)

abbrev IsOfInit : Mdp → Certificate → Fault → Type 0
IsOfInit m c f = (f.rule ≡ InitialState) ↔ (BoundsInitSays c.init (initial_of m) c.body → ⊥)

pub bounds_no_of_init : ReachNoRefutes → RewardNoRefutes → MeanNoRefutes → BoundsNoOfInit
bounds_no_of_init reach_refuted reward_refuted mean_refuted m c f known fits e = by_size (eqb c.states (states_of m)) e
  where
    by_reward : (goals : List Bool) (named : Option ℕ) → bounds_at_reward m c goals named ≡ No f → IsOfInit m c f
    by_reward goals None e = cc
    by_reward goals (Some r) e =
        no_by (BoundsInitSays c.init (initial_of m) c.body) (bounds_init_check c.init (initial_of m) c.body) (bounds_verdict m r goals c) f (init_is c.init (initial_of m) c.body)
        (told c.init (initial_of m) c.body)
        (λ rule1 no.
        other_rules reach_refuted reward_refuted mean_refuted m known r goals c.states f c.claim c.body fits
        (ap (λ (b : Bool). cond b (bounds_verdict_by m r goals c.claim c.body) (init_fault None)) (sym fits) ∙ no)) e

    by_goals : (found : Option (List Bool)) → bounds_at_goals m c found ≡ No f → IsOfInit m c f
    by_goals None e = cc
    by_goals (Some goals) e = by_reward goals (reward_place m c.claim) e

    by_size : (same : Bool) → cond same (bounds_at_goals m c (goal_marks m c.claim)) Size ≡ No f → IsOfInit m c f
    by_size true e = by_goals (goal_marks m c.claim) e
    by_size false e = cc
