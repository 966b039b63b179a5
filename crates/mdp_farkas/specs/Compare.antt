-- Comparisons by written terms: an answer, or nothing where a term is past width.
use Rattle.std.specs.{Prelude.{Bool, true, false, Option, option_map, pos}, declared.cmp.Ordering.{Ordering}}
use Rattle.std.specs.declared.cmp.Ordering.TheVariants.{Less, Equal, Greater}
use Rattle.mdp_math.specs.{Rational.{ℚ, of_int}, Written.{written_compare}}

abbrev pub 0ℚ : ℚ
0ℚ = of_int (pos 0)

abbrev pub 1ℚ : ℚ
1ℚ = of_int (pos 1)

abbrev pub not_less : Ordering → Bool
not_less Less = false
not_less Equal = true
not_less Greater = true

abbrev pub not_greater : Ordering → Bool
not_greater Less = true
not_greater Equal = true
not_greater Greater = false

abbrev pub no_order : Ordering → Bool
no_order Less = false
no_order Equal = true
no_order Greater = false

abbrev pub is_at_least : ℚ → ℚ → Option Bool
is_at_least x y = option_map not_less (written_compare x y)

abbrev pub is_at_most : ℚ → ℚ → Option Bool
is_at_most x y = option_map not_greater (written_compare x y)

abbrev pub is_equal : ℚ → ℚ → Option Bool
is_equal x y = option_map no_order (written_compare x y)
