-- The words behind the number of a state: LOWER CHOICE RANK MARK for the greatest probability, and LOWER RANK MARK for the least.
use Rattle.std.specs.{Prelude.{ℕ, Bool, true, false, List, codes, Option, Some, None, if◌then◌else◌}, Str.{bytes_eq}}
use Rattle.mdp_math.specs.Rational.{ℚ}
use Rattle.mdp_num.specs.Value.{IsNarrow}
use Rattle.mdp_cert.specs.{Runs.{Columns}, Claims.{Value, fraction_value}, declared.pair.Pair.{Pair}}
use Rattle.mdp_cert.specs.Pairs.{IsShort, number_value, word_columns, pair_columns, IsPairInWidth, pairs}
use Rattle.mdp_subsystem_bounds.specs.{declared.mark.Mark.{Mark}, declared.mark.Mark.TheVariants.{Out, Kept, Open}}

-- a state that isn't kept, one that was shown to be needed, and one that wasn't
abbrev pub mark_text : Mark → List ℕ
mark_text Out = codes "-"
mark_text Kept = codes "kept"
mark_text Open = codes "open"

abbrev pub mark_parse : List ℕ → Option Mark
mark_parse word =
    if bytes_eq word (mark_text Out) then Some Out
    else (if bytes_eq word (mark_text Kept) then Some Kept else (if bytes_eq word (mark_text Open) then Some Open else None))

abbrev pub same_mark : Mark → Mark → Bool
same_mark Out Out = true
same_mark Kept Kept = true
same_mark Open Open = true
same_mark x y = false

abbrev pub mark_value : Value Mark
mark_value = record { parse = mark_parse; spell = mark_text; same = same_mark }

-- ---- for the least probability: LOWER RANK MARK

abbrev pub Ranked : Type 0
Ranked = Pair ℚ (Pair ℕ Mark)

abbrev pub ranked_columns : Columns Ranked
ranked_columns = pair_columns fraction_value (pair_columns number_value (word_columns mark_value))

abbrev pub IsRankedInWidth : Ranked → Type 0
IsRankedInWidth x = IsPairInWidth IsNarrow (IsPairInWidth IsShort (λ mark. Unit {0})) x

abbrev pub ranked_of : List ℚ → List ℕ → List Mark → List Ranked
ranked_of lower ranks marks = pairs lower (pairs ranks marks)

-- ---- for the greatest: LOWER CHOICE RANK MARK

abbrev pub Led : Type 0
Led = Pair ℚ (Pair ℕ (Pair ℕ Mark))

abbrev pub led_columns : Columns Led
led_columns = pair_columns fraction_value (pair_columns number_value (pair_columns number_value (word_columns mark_value)))

abbrev pub IsLedInWidth : Led → Type 0
IsLedInWidth x = IsPairInWidth IsNarrow (IsPairInWidth IsShort (IsPairInWidth IsShort (λ mark. Unit {0}))) x

abbrev pub led_of : List ℚ → List ℕ → List ℕ → List Mark → List Led
led_of lower choices ranks marks = pairs lower (pairs choices (pairs ranks marks))
