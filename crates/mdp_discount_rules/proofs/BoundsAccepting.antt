-- A check says yes exactly of what is accepted, and the claim of what is accepted is true.
use Rattle.std.proofs.{Common.{◌≡◌, ℕ, Bool, true, false, cond, length, eqb, Option, Some, None, refl, ◌∙◌, ap}, lemmas.Bool.Decides.{Decides-eqb}}
use Rattle.mdp_spec.specs.{Mdp.{Mdp, states_of}, Row.{IsMdp}, Labels.{place_of, initial_of}}
use Rattle.mdp_claims.specs.declared.verdict.Verdict.{Verdict}
use Rattle.mdp_claims.specs.declared.verdict.Verdict.TheVariants as verdict
use Rattle.mdp_discount_rules.specs.{Check.{answer_of, then_verdict}, declared.answer.DiscountAnswer.TheVariants.{Yes, Size}}
use Rattle.mdp_discount_rules.proofs.Accepting.{place_below, both-yes}
use Rattle.mdp_discount_rules.specs.{BoundsCert.{Certificate}, BoundsCheck.{init_check, checks_of, at_reward, answer_to, IsAccepted}, BoundsChecks.{IsDiscountBounds}}
use Rattle.mdp_discount_rules.specs.BoundsLaws.{YesIsAccepted, AcceptedIsBound}
use Rattle.mdp_discount_rules.proofs.{Between.{between_of_rules}, BoundsRules.{bounds_rules}}

module _ (m : Mdp) (c : Certificate) (known : IsMdp m) (above : length c.upper ≡ length c.lower) (each : length c.choices ≡ length c.lower) where
  checked : (r : ℕ) → length c.lower ≡ states_of m → place_of c.name m.names ≡ Some r
      → (checks_of m r c ≡ verdict.Yes → IsDiscountBounds c.dir m r c.factor c.lower c.upper c.remainder c.choices)
      × (IsDiscountBounds c.dir m r c.factor c.lower c.upper c.remainder c.choices → checks_of m r c ≡ verdict.Yes)
  checked r states named =
      let both = bounds_rules c.dir m r c.factor c.lower c.upper c.remainder c.choices known (checks_of m r c) (place_below m.names c.name r named) states (above ∙ states) (each ∙ states) refl in
      (both.0, both.1)

  reward_by : (o : Option ℕ) → length c.lower ≡ states_of m → place_of c.name m.names ≡ o → at_reward m c o ≡ Yes → IsAccepted m c
  reward_by None states named e = cc
  reward_by (Some r) states named e =
      let b = both-yes (init_check c.init (initial_of m) c.lower c.upper) (checks_of m r c) e in
      record { states = states; reward = r; named = named; init = b.0; rules = (checked r states named).0 b.1 }

  size_by : (b : Bool) → eqb (length c.lower) (states_of m) ≡ b → cond b (at_reward m c (place_of c.name m.names)) Size ≡ Yes → IsAccepted m c
  size_by true same e = reward_by (place_of c.name m.names) ((Decides-eqb (length c.lower) (states_of m)).0 same) refl e
  size_by false same e = cc

  yes_of : IsAccepted m c → answer_to m c ≡ Yes
  yes_of is =
      ap (λ (b : Bool). cond b (at_reward m c (place_of c.name m.names)) Size) ((Decides-eqb (length c.lower) (states_of m)).1 is.states)
      ∙ ap (at_reward m c) is.named
      ∙ ap (λ (u : Verdict). answer_of (then_verdict u (checks_of m is.reward c))) is.init
      ∙ ap answer_of ((checked is.reward is.states is.named).1 is.rules)

pub yes_is_accepted : YesIsAccepted
yes_is_accepted m c known above each = (λ e. size_by m c known above each (eqb (length c.lower) (states_of m)) refl e, λ is. yes_of m c known above each is)

pub accepted_is_bound : AcceptedIsBound
accepted_is_bound m c known factor is = record {
  reward = is.reward;
  named = is.named;
  holds = between_of_rules c.dir m is.reward c.factor c.lower c.upper c.remainder c.choices known factor (IsDiscountBounds.rules is.rules);
}
