-- What holds of the rules of bounds of discounted rewards and of their certificates.
use Rattle.std.specs.Prelude.{◌≡◌, ◌↔◌, ℕ, ◌<◌, List, length, Option, IfSome}
use Rattle.mdp_math.specs.Rational.{ℚ, ◌≤ℚ◌}
use Rattle.mdp_spec.specs.{Mdp.{Mdp, states_of, value_at}, Row.{IsMdp}, Bounds.{reward_at}}
use Rattle.mdp_rows.specs.declared.dir.Dir.{Dir}
use Rattle.mdp_farkas.specs.Verdict.{verdict_of}
use Rattle.mdp_claims.specs.{declared.rule.Rule.{Rule}, declared.verdict.Fault.{Fault}, declared.verdict.Verdict.TheVariants.{No}}
use Rattle.mdp_discount_rules.specs.{Rules.{IsFactor}, Bounds.{DiscountBound}, declared.answer.DiscountAnswer.TheVariants.{Yes}}
use Rattle.mdp_discount_rules.specs.{Between.{DiscountBetween}, BoundsRules.{MeetsDiscountBetween}, BoundsChecks.{discount_bounds_checks}, BoundsSays.{DiscountSays}}
use Rattle.mdp_discount_rules.specs.{BoundsCert.{Certificate}, BoundsCheck.{answer_to, IsAccepted, IsBound}}

-- ---- values

-- what meets the rules bounds what policies earn
abbrev pub RulesBetween : Type 0
RulesBetween =
    (dir : Dir) (m : Mdp) (r : ℕ) (f : ℚ) (lower upper : List (Option ℚ)) (remainder : ℚ) (policy : List ℕ) → IsMdp m → IsFactor f
    → MeetsDiscountBetween dir m r f lower upper remainder policy → DiscountBetween dir m r f lower upper remainder policy

-- exact values lie between the bounds of the same query
abbrev pub ExactIsBetween : Type 0
ExactIsBetween =
    (dir : Dir) (m : Mdp) (r : ℕ) (f : ℚ) (v : List ℚ) (lower upper : List (Option ℚ)) (k l : ℚ) (policy other : List ℕ) (s : ℕ) → IsMdp m → IsFactor f
    → DiscountBound dir m r f v k policy → DiscountBetween dir m r f lower upper l other → s < states_of m
    → IfSome (reward_at lower s) (λ x. x ≤ℚ value_at v s) × IfSome (reward_at upper s) (λ y. value_at v s ≤ℚ y)

-- ---- checking

-- the answer is yes exactly where the certificate is accepted
abbrev pub YesIsAccepted : Type 0
YesIsAccepted =
    (m : Mdp) (c : Certificate) → IsMdp m → length c.upper ≡ length c.lower → length c.choices ≡ length c.lower → (answer_to m c ≡ Yes) ↔ IsAccepted m c

-- the claim of an accepted certificate is true
abbrev pub AcceptedIsBound : Type 0
AcceptedIsBound = (m : Mdp) (c : Certificate) → IsMdp m → IsFactor c.factor → IsAccepted m c → IsBound m c

-- ---- what a no means

-- where values, policy and remainder meet the rules, the checks end with yes or with a term past width
abbrev pub DiscountBoundsNeverNo : Type 0
DiscountBoundsNeverNo =
    (dir : Dir) (m : Mdp) (r : ℕ) (f : ℚ) (lower upper : List (Option ℚ)) (remainder : ℚ) (policy : List ℕ) (fault : Fault) → IsMdp m
    → MeetsDiscountBetween dir m r f lower upper remainder policy → verdict_of (discount_bounds_checks dir m r f lower upper remainder policy) ≡ No fault → ⊥

-- the rule that a no names is false at the place that it names
abbrev pub DiscountNoRefutes : Type 0
DiscountNoRefutes =
    (dir : Dir) (m : Mdp) (r : ℕ) (f : ℚ) (lower upper : List (Option ℚ)) (remainder : ℚ) (policy : List ℕ) (fault : Fault) → IsMdp m
    → verdict_of (discount_bounds_checks dir m r f lower upper remainder policy) ≡ No fault
    → DiscountSays dir m r f lower upper remainder policy fault.rule fault.state fault.choice → ⊥

-- no rule says more of a place than the rules in exact numbers
abbrev pub DiscountMeetsSays : Type 0
DiscountMeetsSays =
    (dir : Dir) (m : Mdp) (r : ℕ) (f : ℚ) (lower upper : List (Option ℚ)) (remainder : ℚ) (policy : List ℕ)
    → MeetsDiscountBetween dir m r f lower upper remainder policy → (rule : Rule) (state choice : Option ℕ)
    → DiscountSays dir m r f lower upper remainder policy rule state choice
