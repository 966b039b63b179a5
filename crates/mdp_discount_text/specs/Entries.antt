-- The words behind the number of a state: VALUE CHOICE in a certificate of discounted rewards, and LOWER UPPER CHOICE in one of their bounds, where a value
-- that is missing is `-inf` as a lower one, and `inf` as an upper one.
use Rattle.std.specs.Prelude.{ℕ, List, map, codes, Option, Some, None, option_map, if◌then◌else◌}
use Rattle.std.specs.Str.{bytes_eq}
use Rattle.mdp_math.specs.Rational.{ℚ}
use Rattle.mdp_num.specs.{Value.{spelling}, Canonical.{canonical_of}}
use Rattle.mdp_cert.specs.{Runs.{Columns}, Claims.{Value, fraction_value, reward_value, reward_same}, declared.pair.Pair.{Pair}}
use Rattle.mdp_cert.specs.Pairs.{IsShort, number_value, word_columns, pair_columns, IsPairInWidth, pairs}
use Rattle.mdp_discount_rules.specs.BoundsCert.{IsValueNarrow}
use Rattle.mdp_discount_text.specs.declared.entry.Lower.{Lower}

abbrev pub priced_columns : Columns (Pair ℚ ℕ)
priced_columns = pair_columns fraction_value (word_columns number_value)

-- a lower value: a fraction, or `-inf`
abbrev pub lower_text : Option ℚ → List ℕ
lower_text None = codes "-inf"
lower_text (Some value) = spelling value

abbrev pub lower_parse : List ℕ → Option (Option ℚ)
lower_parse word = if bytes_eq word (codes "-inf") then Some None else option_map Some (canonical_of word)

abbrev pub lower : Option ℚ → Lower
lower value = record { value = value }

abbrev pub lower_value : Value Lower
lower_value = record { parse = λ word. option_map lower (lower_parse word); spell = λ l. lower_text l.value; same = λ l m. reward_same l.value m.value }

abbrev pub between_columns : Columns (Pair Lower (Pair (Option ℚ) ℕ))
between_columns = pair_columns lower_value (pair_columns reward_value (word_columns number_value))

abbrev pub IsEntryInWidth : Pair Lower (Pair (Option ℚ) ℕ) → Type 0
IsEntryInWidth x = IsPairInWidth (λ l. IsValueNarrow l.value) (IsPairInWidth IsValueNarrow IsShort) x

-- the entries of three lists
abbrev pub entries_of : List (Option ℚ) → List (Option ℚ) → List ℕ → List (Pair Lower (Pair (Option ℚ) ℕ))
entries_of ls us cs = pairs (map lower ls) (pairs us cs)
