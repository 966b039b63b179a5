-- Laws of what is due to `bounds` of a discounted reward, over the definitions alone.
use Rattle.std.specs.Prelude.{◌≡◌, ℕ, List, Some, Ok, IsOk}
use Rattle.mdp_math.specs.Rational.{ℚ}
use Rattle.mdp_num.specs.Value.{IsNarrow}
use Rattle.mdp_spec.specs.{Labels.{place_of}, Mdp.{Mdp}, Row.{IsMdp}}
use Rattle.mdp_rows.specs.{Limits.{IsModel}, declared.dir.Dir.{Dir}, declared.rule.RowRule.{RowRule}}
use Rattle.mdp_discount_rules.specs.Rules.{IsFactor}
use Rattle.mdp_discount_rules.specs.{Between.{DiscountBetween}, BoundsCert.{Certificate}}
use Rattle.mdp_discount_text.specs.BoundsSpelling.{text_of}
use Rattle.mdp_command.specs.{Accepted.{IsTrueClaimBy}, Kinds.{discounted_between}, Said.{Said}, Shown.{IsShownOf}}
use Rattle.mdp_command_bounds_search.specs.{DiscountDue.{ClaimsSo, IsDiscountBoundsDue}, DiscountShown.{IsDiscountBoundsPrinted}}

-- some text is due to each name that its model has and each factor in width, with any digits, and all that is shown of what `bounds` prints is shown of it:
-- it reads as its certificate, the rules hold and the claim is true, and the values are as near as the digits say, or the exact query, or a check of its
-- answer as bounds, is too wide
abbrev pub HasADiscountText : Type 0
HasADiscountText =
    (dir : Dir) (name : List ℕ) (f : ℚ) (digits : ℕ) (m : Mdp) (r : ℕ) → IsModel m → IsFactor f → IsNarrow f → place_of name m.names ≡ Some r
    → (text : List ℕ) × IsDiscountBoundsDue dir name f m (Ok text) × IsDiscountBoundsPrinted dir name f digits m text

-- the text of a certificate of this claim; the greatest, or the least, discounted rewards of the name lie between its lower and its upper values, and
-- those of its policy do
pub record IsAnswerTo (dir : Dir) (name : List ℕ) (f : ℚ) (m : Mdp) (text : List ℕ) : Type 0 where
  pub reward : ℕ
  pub named : place_of name m.names ≡ Some reward
  pub answer : Certificate
  pub claim : ClaimsSo dir name f answer
  pub spelled : text ≡ text_of answer
  pub between : DiscountBetween dir m reward f answer.lower answer.upper answer.remainder answer.choices

-- a text that is due is such a text
abbrev pub DiscountTextLiesBetween : Type 0
DiscountTextLiesBetween =
    (dir : Dir) (name : List ℕ) (f : ℚ) (m : Mdp) (text : List ℕ) → IsMdp m → IsFactor f → IsDiscountBoundsDue dir name f m (Ok text) → IsAnswerTo dir name f m text

-- where a text is due, only texts are
abbrev pub OnlyDiscountTextsAreDue : Type 0
OnlyDiscountTextsAreDue =
    (dir : Dir) (name : List ℕ) (f : ℚ) (m : Mdp) (text : List ℕ) (said : Said) → IsDiscountBoundsDue dir name f m (Ok text) → IsDiscountBoundsDue dir name f m said → IsOk said

-- `bounds-check` accepts a text of which this is shown, with the bytes of the model, and its claim is true: the best discounted rewards lie between its lower
-- and its upper values
abbrev pub DiscountTextIsAccepted : Type 0
DiscountTextIsAccepted =
    (rule : RowRule) (dir : Dir) (name : List ℕ) (f : ℚ) (digits : ℕ) (model text : List ℕ) → IsShownOf (IsDiscountBoundsPrinted dir name f digits) rule model text
    → IsTrueClaimBy discounted_between rule model text
