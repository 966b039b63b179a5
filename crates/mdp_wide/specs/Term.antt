-- The first term past width of a query, as contracts see it.
use Rattle.std.specs.Prelude.{ℕ, List, Option}
use Rattle.mdp_wide.specs.{declared.too_wide.Kind.{Kind}, declared.too_wide.Part.{Part}, declared.too_wide.TooWide.{TooWide}}

-- where: the part, the number of the round, that round's policy, what was computed, and the state and the choice where there is one
pub record WideTerm : Type 0 where
  pub part : Part
  pub number : ℕ
  pub policy : List ℕ
  pub kind : Kind
  pub state : Option ℕ
  pub choice : Option ℕ

-- the term that the code names, of round n
abbrev pub shown : TooWide → ℕ → WideTerm
shown w n = record { part = w.part; number = n; policy = w.policy.items; kind = w.kind; state = w.state; choice = w.choice }
