-- The parts in the code, without where they lie.
use Rattle.std.specs.{Prelude.{ℕ, Bool, List}, Borrow.{Bor}}
use Rattle.mdp_num.specs.Numeral as spec
use Rattle.mdp_num.specs.{declared.parts.Parts.{Parts}, declared.parts.Parts.TheVariants.{Decimal, Quotient}}

abbrev pub view : Parts → spec.Parts
view (Decimal whole places negative exponent) = spec.Decimal whole.now places.now negative exponent.now
view (Quotient over under) = spec.Quotient over.now under.now

abbrev pub view_signed : Bool × Bor (List ℕ) → Bool × List ℕ
view_signed x = (x.0, x.1.now)
