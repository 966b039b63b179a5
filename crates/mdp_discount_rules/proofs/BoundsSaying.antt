-- What a rule says of a place is no more than what the rules ask.
use Rattle.std.proofs.Common.{◌≡◌, ℕ, ◌<◌, List, length, slice_index, Some, None, sym, subst}
use Rattle.mdp_spec.specs.Mdp.{choices_at}
use Rattle.mdp_farkas.specs.Reach.{other}
use Rattle.mdp_claims.specs.declared.rule.Rule.TheVariants.{ChoiceExists, DiscountedOnEachChoice, DiscountedOnPolicy, RemainderIsGreatest}
use Rattle.mdp_bounds.specs.Says.{covering_rewards}
use Rattle.mdp_discount_rules.specs.{BoundsRules.{Allows}, BoundsLaws.{DiscountMeetsSays}}

-- what holds of the policy's choice holds of c, where the policy takes c
taken : (P : ℕ → Type 0) (policy : List ℕ) (s c : ℕ) → c ≡ slice_index policy s → P (slice_index policy s) → P c
taken P policy s c e h = subst P (sym e) h

pub discount_says : DiscountMeetsSays
discount_says dir m r f lower upper remainder policy rules ChoiceExists (Some s) (Some c) =
    λ l e. taken (λ c. c < length (choices_at m s)) policy s c e (rules.choices.in_range s l)
discount_says dir m r f lower upper remainder policy rules DiscountedOnEachChoice (Some s) (Some c) = λ l i. rules.covers s c l i
discount_says dir m r f lower upper remainder policy rules DiscountedOnPolicy (Some s) (Some c) =
    λ l e. taken (λ c. Allows (other dir) m r f (covering_rewards (other dir) lower upper) s c) policy s c e (rules.reached s l)
discount_says dir m r f lower upper remainder policy rules RemainderIsGreatest None None = rules.widest
discount_says dir m r f lower upper remainder policy rules rule state choice = tt
