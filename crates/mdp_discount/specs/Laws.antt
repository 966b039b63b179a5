-- What holds of the search for discounted rewards.
use Rattle.std.specs.Prelude.{◌≡◌, ℕ, ◌<◌, List, length, Result, Ok}
use Rattle.mdp_math.specs.Rational.{ℚ}
use Rattle.mdp_spec.specs.{Mdp.{Mdp}, Row.{IsMdp}}
use Rattle.mdp_rows.specs.declared.dir.Dir.{Dir}
use Rattle.mdp_wide.specs.Term.{WideTerm}
use Rattle.mdp_discount_rules.specs.{Rules.{IsFactor}, Bounds.{DiscountBound}, Checks.{IsDiscount}, Cert.{Certificate}}
use Rattle.mdp_discount.specs.Query.{EndsSo}

-- ---- the query

-- a model with reward name r, and a discount factor
pub record CanAsk (m : Mdp) (r : ℕ) (f : ℚ) : Type 0 where
  pub model : IsMdp m
  pub named : r < length m.names
  pub discount : IsFactor f

-- it has one end at most
abbrev pub HasOneEnd : Type 0
HasOneEnd =
    (dir : Dir) (m : Mdp) (r : ℕ) (name : List ℕ) (f : ℚ) (p q : Result Certificate WideTerm) → EndsSo dir m r name f p → EndsSo dir m r name f q → q ≡ p

-- it has one for each such model and factor
abbrev pub HasAnEnd : Type 0
HasAnEnd =
    (dir : Dir) (m : Mdp) (r : ℕ) (name : List ℕ) (f : ℚ) → CanAsk m r f → (q : Result Certificate WideTerm) × EndsSo dir m r name f q

-- an answer meets the rules of certificates, and no term of its check is past width
abbrev pub AnswersMeetRules : Type 0
AnswersMeetRules =
    (dir : Dir) (m : Mdp) (r : ℕ) (name : List ℕ) (f : ℚ) (a : Certificate) → CanAsk m r f → EndsSo dir m r name f (Ok a)
    → IsDiscount dir m r f a.values a.remainder a.choices

-- so its values are the greatest discounted rewards, or the least ones
abbrev pub AnswersAreBest : Type 0
AnswersAreBest =
    (dir : Dir) (m : Mdp) (r : ℕ) (name : List ℕ) (f : ℚ) (a : Certificate) → CanAsk m r f → EndsSo dir m r name f (Ok a)
    → DiscountBound dir m r f a.values a.remainder a.choices
