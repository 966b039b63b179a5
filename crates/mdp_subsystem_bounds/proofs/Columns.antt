-- What is shown of the words of a state's line.
use Rattle.std.proofs.Common.{◌≡◌, ℕ, ◌<◌, ◌≤◌, Bool, true, false, cond, eqb, List, Some, None, refl, ap, ◌∙◌, arith}
use Rattle.std.proofs.lemmas.Bool.Decides.{nat_tests}
use Rattle.std.specs.Str.{bytes_eq}
use Rattle.mdp_num.specs.Value.{IsNarrow}
use Rattle.mdp_text.proofs.{Pieces.{Free}, Cuts.{bytes_same}}
use Rattle.mdp_cert.specs.{Claims.{fraction_value}, Pairs.{IsShort, number_value, word_columns, pair_columns, IsPairInWidth}}
use Rattle.mdp_cert.proofs.Columns.{IsColumns, IsValue, fraction-is_value, same-words}
use Rattle.mdp_cert.proofs.WordByWord.{number-is_value, word-is_columns, pair-is_columns}
use Rattle.mdp_subsystem_bounds.specs.{declared.mark.Mark.{Mark}, declared.mark.Mark.TheVariants.{Out, Kept, Open}}
use Rattle.mdp_subsystem_bounds.specs.Entries.{mark_text, mark_parse, same_mark, mark_value, ranked_columns, IsRankedInWidth, led_columns, IsLedInWidth}
use Rattle.mdp_subsystem_bounds.specs.Laws.{AreSameWords}

-- ---- a mark

abbrev pub AnyMark : Mark → Type 0
AnyMark mark = Unit {0}

mark-found : (w : List ℕ) (x : Mark) → mark_parse w ≡ Some x → w ≡ mark_text x
mark-found w x e = by (bytes_eq w (mark_text Out)) (bytes_eq w (mark_text Kept)) (bytes_eq w (mark_text Open)) refl refl refl e
  where
    by : (a b d : Bool) → bytes_eq w (mark_text Out) ≡ a → bytes_eq w (mark_text Kept) ≡ b → bytes_eq w (mark_text Open) ≡ d
        → cond a (Some Out) (cond b (Some Kept) (cond d (Some Open) None)) ≡ Some x → w ≡ mark_text x
    by true b d p q r e = let is : Out ≡ x = cc in bytes_same w (mark_text Out) p ∙ ap mark_text is
    by false true d p q r e = let is : Kept ≡ x = cc in bytes_same w (mark_text Kept) q ∙ ap mark_text is
    by false false true p q r e = let is : Open ≡ x = cc in bytes_same w (mark_text Open) r ∙ ap mark_text is
    by false false false p q r e = absurd cc

mark-again : (x : Mark) → mark_parse (mark_text x) ≡ Some x
mark-again Out = refl
mark-again Kept = refl
mark-again Open = refl

free-mark : (c : ℕ) (x : Mark) → c < 45 → Free c (mark_text x)
free-mark c Out lt = rw (other 45 (omega arith)) refl
  where
    other : (d : ℕ) → 45 ≤ d → eqb d c ≡ false
    other d le = grind (arith, nat_tests)
free-mark c Kept lt = rw (other 107 (omega arith), other 101 (omega arith), other 112 (omega arith), other 116 (omega arith)) refl
  where
    other : (d : ℕ) → 45 ≤ d → eqb d c ≡ false
    other d le = grind (arith, nat_tests)
free-mark c Open lt = rw (other 111 (omega arith), other 112 (omega arith), other 101 (omega arith), other 110 (omega arith)) refl
  where
    other : (d : ℕ) → 45 ≤ d → eqb d c ≡ false
    other d le = grind (arith, nat_tests)

mark-same : (x y : Mark) → same_mark x y ≡ true → x ≡ y
mark-same Out Out e = refl
mark-same Kept Kept e = refl
mark-same Open Open e = refl
mark-same Out Kept e = absurd cc
mark-same Out Open e = absurd cc
mark-same Kept Out e = absurd cc
mark-same Kept Open e = absurd cc
mark-same Open Out e = absurd cc
mark-same Open Kept e = absurd cc

mark-itself : (x : Mark) → same_mark x x ≡ true
mark-itself Out = refl
mark-itself Kept = refl
mark-itself Open = refl

mark-is_value : IsValue mark_value AnyMark
mark-is_value = record {
  found = λ w x e. (mark-found w x e, tt);
  again = λ x h. mark-again x;
  free = λ c x lt h. free-mark c x lt;
  same = mark-same;
  itself = mark-itself;
}

-- ---- the words of a line

mark-is_columns : IsColumns (word_columns mark_value) AnyMark
mark-is_columns = word-is_columns mark_value AnyMark mark-is_value

pub ranked-is_columns : IsColumns ranked_columns IsRankedInWidth
ranked-is_columns =
    pair-is_columns fraction_value IsNarrow fraction-is_value (pair_columns number_value (word_columns mark_value)) (IsPairInWidth IsShort AnyMark)
    (pair-is_columns number_value IsShort number-is_value (word_columns mark_value) AnyMark mark-is_columns)

pub led-is_columns : IsColumns led_columns IsLedInWidth
led-is_columns =
    pair-is_columns fraction_value IsNarrow fraction-is_value (pair_columns number_value (pair_columns number_value (word_columns mark_value)))
    (IsPairInWidth IsShort (IsPairInWidth IsShort AnyMark))
    (pair-is_columns number_value IsShort number-is_value (pair_columns number_value (word_columns mark_value)) (IsPairInWidth IsShort AnyMark)
    (pair-is_columns number_value IsShort number-is_value (word_columns mark_value) AnyMark mark-is_columns))

pub are-same-words : AreSameWords
are-same-words = record { led = same-words led_columns IsLedInWidth led-is_columns; ranked = same-words ranked_columns IsRankedInWidth ranked-is_columns }
