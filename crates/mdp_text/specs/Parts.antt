-- A text in parts.
use Rattle.std.specs.Prelude.{ℕ, List, [], ◌∷◌, ◌++◌, decimal}
use Rattle.mdp_num.specs.Value.{spelling}
use Rattle.mdp_text.specs.{declared.part.Part.{Part}, declared.part.Part.TheVariants.{Bytes, Whole, Fraction}}

abbrev pub part_text : Part → List ℕ
part_text (Bytes bytes) = bytes.now
part_text (Whole number) = decimal number
part_text (Fraction value) = spelling value

abbrev pub parts_text : List Part → List ℕ
parts_text [] = []
parts_text (part ∷ parts) = part_text part ++ parts_text parts
