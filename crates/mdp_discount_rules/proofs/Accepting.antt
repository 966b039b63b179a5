-- A check says yes exactly of what is accepted, and the claim of what is accepted is true.
use Rattle.std.proofs.Common.{◌≡◌, ℕ, ◌<◌, Bool, true, false, cond, List, [], length, eqb, Option, Some, None, refl, ◌∙◌, ap}
use Rattle.std.proofs.{lemmas.Bool.Decides.{Decides-eqb}, lemmas.List.Quantifiers.{position-Some}}
use Rattle.std.specs.Str.{bytes_eq}
use Rattle.mdp_spec.specs.{Mdp.{Mdp, states_of}, Labels.{place_of, initial_of}}
use Rattle.mdp_claims.specs.declared.verdict.Verdict.{Verdict}
use Rattle.mdp_claims.specs.declared.verdict.Verdict.TheVariants as verdict
use Rattle.mdp_discount_rules.specs.{Cert.{Certificate}, Check.{init_check, answer_of, then_verdict, checks_of, at_reward, answer_to, IsAccepted}}
use Rattle.mdp_discount_rules.specs.{Laws.{YesIsAccepted, AcceptedIsBound}, declared.answer.DiscountAnswer.TheVariants.{Yes, Size}}
use Rattle.mdp_discount_rules.proofs.{Discount.{discount_of_rules}, DiscountRules.{discount_rules}}

pub place_below : (names : List (List ℕ)) (name : List ℕ) (r : ℕ) → place_of name names ≡ Some r → r < length names
place_below names name r e = (position-Some (bytes_eq name) names r [] e).0

pub both-yes : (u v : Verdict) → answer_of (then_verdict u v) ≡ Yes → (u ≡ verdict.Yes) × (v ≡ verdict.Yes)
both-yes verdict.Yes verdict.Yes e = (refl, refl)
both-yes verdict.Yes (verdict.No f) e = cc
both-yes verdict.Yes (verdict.Wide s c) e = cc
both-yes (verdict.No f) v e = cc
both-yes (verdict.Wide s c) v e = cc

module _ (m : Mdp) (c : Certificate) (each : length c.choices ≡ length c.values) where
  accepted_by : (r : ℕ) → length c.values ≡ states_of m → place_of c.name m.names ≡ Some r → at_reward m c (Some r) ≡ Yes → IsAccepted m c
  accepted_by r states named e =
      let b = both-yes (init_check c.init (initial_of m) c.values) (checks_of m r c) e in
      record {
        states = states;
        reward = r;
        named = named;
        init = b.0;
        rules = (discount_rules c.dir m r c.factor c.values c.remainder c.choices (checks_of m r c) (place_below m.names c.name r named) states (each ∙ states) refl).0 b.1;
      }

  reward_by : (o : Option ℕ) → length c.values ≡ states_of m → place_of c.name m.names ≡ o → at_reward m c o ≡ Yes → IsAccepted m c
  reward_by None states named e = cc
  reward_by (Some r) states named e = accepted_by r states named e

  size_by : (b : Bool) → eqb (length c.values) (states_of m) ≡ b → cond b (at_reward m c (place_of c.name m.names)) Size ≡ Yes → IsAccepted m c
  size_by true same e = reward_by (place_of c.name m.names) ((Decides-eqb (length c.values) (states_of m)).0 same) refl e
  size_by false same e = cc

  yes_of : IsAccepted m c → answer_to m c ≡ Yes
  yes_of is =
      ap (λ (b : Bool). cond b (at_reward m c (place_of c.name m.names)) Size) ((Decides-eqb (length c.values) (states_of m)).1 is.states)
      ∙ ap (at_reward m c) is.named
      ∙ ap (λ (u : Verdict). answer_of (then_verdict u (checks_of m is.reward c))) is.init
      ∙ ap answer_of ((discount_rules c.dir m is.reward c.factor c.values c.remainder c.choices (checks_of m is.reward c) (place_below m.names c.name is.reward is.named) is.states (each
      ∙ is.states) refl).1 is.rules)

pub yes_is_accepted : YesIsAccepted
yes_is_accepted m c each = (λ e. size_by m c each (eqb (length c.values) (states_of m)) refl e, λ is. yes_of m c each is)

pub accepted_is_bound : AcceptedIsBound
accepted_is_bound m c known factor is = record {
  reward = is.reward;
  named = is.named;
  holds = discount_of_rules c.dir m is.reward c.factor c.values c.remainder c.choices known factor is.rules.rules;
}
