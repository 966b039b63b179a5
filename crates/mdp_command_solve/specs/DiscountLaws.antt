-- Laws of what is due to `discount`, over the definitions alone.
use Rattle.std.specs.Prelude.{◌≡◌, ℕ, List, Some, Ok}
use Rattle.mdp_math.specs.Rational.{ℚ}
use Rattle.mdp_spec.specs.{Labels.{place_of}, Mdp.{Mdp}, Row.{IsMdp}}
use Rattle.mdp_rows.specs.{declared.dir.Dir.{Dir}, declared.rule.RowRule.{RowRule}}
use Rattle.mdp_discount_rules.specs.{Bounds.{DiscountBound}, Cert.{Certificate}, Checks.{IsDiscount}, Rules.{IsFactor}}
use Rattle.mdp_discount_text.specs.Spelling.{text_of}
use Rattle.mdp_command.specs.{Accepted.{IsTrueClaimBy}, Kinds.{discounted}, Said.{Said}, Shown.{IsShownOf}}
use Rattle.mdp_command_solve.specs.{DiscountDue.{IsDiscountDue}, DiscountShown.{ClaimsSo, IsDiscountPrinted}}

-- what is due is one thing
abbrev pub IsDueOnce : Type 0
IsDueOnce = (dir : Dir) (name : List ℕ) (f : ℚ) (m : Mdp) (said again : Said) → IsDiscountDue dir name f m said → IsDiscountDue dir name f m again → said ≡ again

-- where what `discount` prints is shown of a text and of the model's bytes, `discount-check` accepts the text with them, and its claim is true
abbrev pub TextIsAccepted : Type 0
TextIsAccepted =
    (rule : RowRule) (dir : Dir) (name : List ℕ) (f : ℚ) (model text : List ℕ) → IsShownOf (IsDiscountPrinted dir name f) rule model text → IsTrueClaimBy discounted rule model text

-- the text of an answer of this claim, which meets the rules of certificates; its values are the greatest, or the least, discounted rewards
pub record IsAnswerTo (dir : Dir) (name : List ℕ) (f : ℚ) (m : Mdp) (text : List ℕ) : Type 0 where
  pub reward : ℕ
  pub named : place_of name m.names ≡ Some reward
  pub answer : Certificate
  pub claim : ClaimsSo dir name f answer
  pub spelled : text ≡ text_of answer
  pub rules : IsDiscount dir m reward f answer.values answer.remainder answer.choices
  pub best : DiscountBound dir m reward f answer.values answer.remainder answer.choices

-- a text that is due is such a text
abbrev pub TextIsAnswer : Type 0
TextIsAnswer = (dir : Dir) (name : List ℕ) (f : ℚ) (m : Mdp) (text : List ℕ) → IsMdp m → IsFactor f → IsDiscountDue dir name f m (Ok text) → IsAnswerTo dir name f m text
