-- The marks of a subsystem that was found, and its certificate.
use Rattle.std.specs.{Prelude.{◌≡◌, ℕ, Bool, true, false, List, length, map, replicate}, List.{range_with_len}}
use Rattle.mdp_spec.specs.Tree.{is_marked}
use Rattle.mdp_farkas.specs.Compare.{1ℚ}
use Rattle.mdp_subsystem_bounds.specs.Cert.{SubsystemClaim, Lists, Certificate}
use Rattle.mdp_subsystem_search.specs.declared.subsystem.Subsystem.{Subsystem}
use Rattle.mdp_subsystem_bounds.specs.{declared.lists.SubsystemBounds.{SubsystemBounds}, declared.mark.Mark.{Mark}, declared.mark.Mark.TheVariants.{Out, Kept, Open}}

-- of a state that is kept or not, and needed or not
abbrev pub mark_of : Bool → Bool → Mark
mark_of false needed = Out
mark_of true false = Open
mark_of true true = Kept

abbrev pub marks_of : ℕ → List Bool → List Bool → List Mark
marks_of states kept needed = map (λ s. mark_of (is_marked kept s) (is_marked needed s)) (range_with_len 0 states)

-- one of each for each of so many states, and upper values of 1
pub record HasSizes (states : ℕ) (lists : SubsystemBounds) : Type 0 where
  pub lower : length lists.bounds.lower.items ≡ states
  pub upper : lists.bounds.upper.items ≡ replicate states 1ℚ
  pub choices : length lists.bounds.choices.items ≡ states
  pub ranks : length lists.bounds.ranks.items ≡ states
  pub marks : length lists.marks.items ≡ states

-- the certificate of this claim
abbrev pub certificate_of : SubsystemClaim → ℕ → Lists → Certificate
certificate_of claim start lists = record { claim = claim; start = start; lists = lists }

-- what was found: one of each for each of so many states, and upper values of 1
pub record IsSized (states : ℕ) (found : Subsystem) : Type 0 where
  pub lower : length found.bounds.lower.items ≡ states
  pub upper : found.bounds.upper.items ≡ replicate states 1ℚ
  pub choices : length found.bounds.choices.items ≡ states
  pub ranks : length found.bounds.ranks.items ≡ states
  pub kept : length found.kept ≡ states
  pub needed : length found.needed ≡ states

-- its lists
abbrev pub lists_of : ℕ → Subsystem → Lists
lists_of states found = record {
  lower = found.bounds.lower.items;
  choices = found.bounds.choices.items;
  ranks = found.bounds.ranks.items;
  marks = marks_of states found.kept found.needed;
}
