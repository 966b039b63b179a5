-- What holds of the rules of discounted rewards and of their certificates.
use Rattle.std.specs.Prelude.{◌≡◌, ◌↔◌, ℕ, ◌<◌, List, length, Option}
use Rattle.mdp_math.specs.Rational.{ℚ}
use Rattle.mdp_spec.specs.{Mdp.{Mdp, states_of}, Row.{IsMdp}}
use Rattle.mdp_rows.specs.declared.dir.Dir.{Dir}
use Rattle.mdp_farkas.specs.{Verdict.{verdict_of}, Laws.{IsInModel}}
use Rattle.mdp_claims.specs.{declared.rule.Rule.{Rule}, declared.verdict.Fault.{Fault}, declared.verdict.Verdict.TheVariants.{No}}
use Rattle.mdp_discount_rules.specs.{Checks.{discount_checks}, Rules.{IsFactor, MeetsDiscount}, Says.{DiscountSays}, Bounds.{DiscountBound}, Cert.{Certificate}}
use Rattle.mdp_discount_rules.specs.{Check.{answer_to, IsAccepted, IsBound}, declared.answer.DiscountAnswer.TheVariants.{Yes}}

-- ---- values

-- what meets the rules is bounded by its remainder
abbrev pub RulesBound : Type 0
RulesBound =
    (dir : Dir) (m : Mdp) (r : ℕ) (f : ℚ) (v : List ℚ) (remainder : ℚ) (policy : List ℕ) → IsMdp m → IsFactor f
    → MeetsDiscount dir m r f v remainder policy → DiscountBound dir m r f v remainder policy

-- there is one list of such values at most
abbrev pub HasOneValue : Type 0
HasOneValue =
    (dir : Dir) (m : Mdp) (r : ℕ) (f : ℚ) (v w : List ℚ) (k l : ℚ) (policy other : List ℕ) → IsMdp m → IsFactor f
    → DiscountBound dir m r f v k policy → DiscountBound dir m r f w l other → w ≡ v

-- ---- checking

-- the answer is yes exactly where the certificate is accepted
abbrev pub YesIsAccepted : Type 0
YesIsAccepted = (m : Mdp) (c : Certificate) → length c.choices ≡ length c.values → (answer_to m c ≡ Yes) ↔ IsAccepted m c

-- the claim of an accepted certificate is true
abbrev pub AcceptedIsBound : Type 0
AcceptedIsBound = (m : Mdp) (c : Certificate) → IsMdp m → IsFactor c.factor → IsAccepted m c → IsBound m c

-- ---- what a no means

-- where values, policy and remainder meet the rules, the checks end with yes or with a term past width
abbrev pub DiscountNeverNo : Type 0
DiscountNeverNo =
    (dir : Dir) (m : Mdp) (r : ℕ) (f : ℚ) (v : List ℚ) (remainder : ℚ) (policy : List ℕ) (fault : Fault)
    → MeetsDiscount dir m r f v remainder policy → verdict_of (discount_checks dir m r f v remainder policy) ≡ No fault → ⊥

-- the state that a no names is one of the model, and what the rule that it names says of that place is false
abbrev pub DiscountNoRefutes : Type 0
DiscountNoRefutes =
    (dir : Dir) (m : Mdp) (r : ℕ) (f : ℚ) (v : List ℚ) (remainder : ℚ) (policy : List ℕ) (fault : Fault)
    → verdict_of (discount_checks dir m r f v remainder policy) ≡ No fault
    → IsInModel m fault × (DiscountSays dir m r f v remainder policy fault.rule fault.state fault.choice → ⊥)

-- what the rules say of all places is together what they ask in exact numbers, where there is a reward of name r, and a value and a choice for each
-- state
abbrev pub DiscountSaysAll : Type 0
DiscountSaysAll =
    (dir : Dir) (m : Mdp) (r : ℕ) (f : ℚ) (v : List ℚ) (remainder : ℚ) (policy : List ℕ)
    → r < length m.names → length v ≡ states_of m → length policy ≡ states_of m
    → MeetsDiscount dir m r f v remainder policy
    ↔ ((rule : Rule) (state choice : Option ℕ) → DiscountSays dir m r f v remainder policy rule state choice)
