-- Cutting at the first line feed and at the first blank.
use Rattle.std.proofs.Common.{◌≡◌, ℕ, suc, ◌+◌, ◌-◌, ◌<◌, ◌≤◌, Bool, true, false, cond, eqb, ltb, ◌&&◌}
use Rattle.std.proofs.{Common.{List, [], ◌∷◌, length, take, drop, Ok, Err, refl, sym, ap, ap₂, ◌∙◌, arith}, lemmas.Bool.{and_parts}}
use Rattle.std.proofs.{lemmas.Bool.Decides.{nat_tests}, lemmas.List.{take_all, length-drop}, lemmas.List.Sums.{fails_before_first}}
use Rattle.std.proofs.lemmas.List.Splits.{slice_split_first, slice_split_none, length-slice_split, join_with_byte-slice_split}
use Rattle.std.specs.{Str.{bytes_eq}, Cmp.Lexicographic.{bytes_decides}, List.{position_or_len, count_by, join_with_byte}}
use Rattle.mdp_text.specs.{declared.error.CertKind.TheVariants.{End, Shape}, declared.error.Refusal.{Refusal}, Lines.{next_line, place, is_line_feed, refused}}
use Rattle.mdp_text.specs.Words.{is_blank, words, first_of, begins_with, words_behind}

pub bytes_same : (xs ys : List ℕ) → bytes_eq xs ys ≡ true → xs ≡ ys
bytes_same xs ys e = (bytes_decides xs ys).0 e

pub bytes_self : (xs : List ℕ) → bytes_eq xs xs ≡ true
bytes_self xs = (bytes_decides xs xs).1 refl

pub number-same : (a n : ℕ) → eqb a n ≡ true → a ≡ n
number-same a n e = grind (arith, nat_tests)

pub same-number : (a n : ℕ) → a ≡ n → eqb a n ≡ true
same-number a n e = grind (arith, nat_tests)

suc-same : (a b : ℕ) → eqb (suc a) (suc b) ≡ eqb a b
suc-same a b = grind (arith, nat_tests)

rest_is : (k : ℕ) (xs : List ℕ) → take (length xs - k) (drop k xs) ≡ drop k xs
rest_is k xs = take_all (length xs - k) (drop k xs) (omega (arith, length-drop k xs))

pub line_found : (n k : ℕ) (bytes : List ℕ) → k ≡ position_or_len is_line_feed bytes → k < length bytes
    → next_line (place n bytes) ≡ Ok (take k bytes, place (n + 1) (take (length bytes - (k + 1)) (drop (k + 1) bytes)))
unfolding next_line
line_found n k bytes e lt =
    let p : ltb (position_or_len is_line_feed bytes) (length bytes) ≡ true = grind (arith, nat_tests) in
    rw (p, rest_is (k + 1) bytes, e) refl

pub line_missing : (n k : ℕ) (bytes : List ℕ) → k ≡ position_or_len is_line_feed bytes → length bytes ≤ k → next_line (place n bytes) ≡ refused End n
unfolding next_line
line_missing n k bytes e le =
    let p : ltb (position_or_len is_line_feed bytes) (length bytes) ≡ false = grind (arith, nat_tests) in
    rw p refl

pub words_cut : (k : ℕ) (text : List ℕ) → k ≡ position_or_len is_blank text → k < length text → words text ≡ take k text ∷ words (take (length text - (k + 1)) (drop (k + 1) text))
words_cut k text e lt = rw (rest_is (k + 1) text, e) (slice_split_first is_blank text 0 (omega arith))

pub words_one : (k : ℕ) (text : List ℕ) → k ≡ position_or_len is_blank text → length text ≤ k → words text ≡ text ∷ []
words_one k text e le = slice_split_none is_blank text (λ i d lt. fails_before_first is_blank text i d (omega arith))

pub words_count : (text : List ℕ) (n : ℕ) → n ≡ count_by is_blank text → n + 1 ≡ length (words text)
words_count text n e = omega (arith, length-slice_split is_blank text)

-- a text of one word is that word
pub words_alone : (text : List ℕ) → length (words text) ≡ 1 → text ≡ first_of (words text)
words_alone text one = sym (join_with_byte-slice_split 32 text) ∙ by (words text) one
  where
    by : (ws : List (List ℕ)) → length ws ≡ 1 → join_with_byte 32 ws ≡ first_of ws
    by [] e = absurd (omega arith)
    by (w ∷ []) e = refl
    by (w ∷ v ∷ ws) e = absurd (omega arith)

-- ---- the words behind the first one

pub behind_shaped : (due : List ℕ) (count n : ℕ) (text first : List ℕ) (others : List (List ℕ)) → words text ≡ first ∷ others
    → (bytes_eq first due && eqb (length others) count) ≡ true → words_behind due count n text ≡ Ok others
unfolding words_behind
behind_shaped due count n text first others e shape = let same : eqb (suc (length others)) (suc count) ≡ eqb (length others) count = suc-same (length others) count in rw (e, same, shape) refl

pub behind_other : (due : List ℕ) (count n : ℕ) (text first : List ℕ) (others : List (List ℕ)) → words text ≡ first ∷ others
    → (bytes_eq first due && eqb (length others) count) ≡ false → words_behind due count n text ≡ refused Shape n
unfolding words_behind
behind_other due count n text first others e shape = let same : eqb (suc (length others)) (suc count) ≡ eqb (length others) count = suc-same (length others) count in rw (e, same, shape) refl

pub behind_none : (due : List ℕ) (count n : ℕ) (text : List ℕ) → 0 < count → words text ≡ text ∷ [] → words_behind due count n text ≡ refused Shape n
unfolding words_behind
behind_none due count n text some e =
    let no : eqb (suc 0) (suc count) ≡ false = grind (arith, nat_tests) in
    let none : (bytes_eq text due && eqb (suc 0) (suc count)) ≡ false = rw no (and_false (bytes_eq text due)) in
    rw (e, none) refl
  where
    and_false : (b : Bool) → (b && false) ≡ false
    and_false true = refl
    and_false false = refl

pub guard_ok : {A : Type 0} (b : Bool) (x y : A) (r : Refusal) → cond b (Ok x) (Err r) ≡ Ok y → (b ≡ true) × (x ≡ y)
guard_ok true x y r e = (refl, cc)
guard_ok false x y r e = absurd cc

pub record Behind (due : List ℕ) (count : ℕ) (text : List ℕ) (ws : List (List ℕ)) : Type 0 where
  pub all : words text ≡ due ∷ ws
  pub count_is : length ws ≡ count

pub behind_found : (due : List ℕ) (count n : ℕ) (text : List ℕ) (ws : List (List ℕ)) → words_behind due count n text ≡ Ok ws → Behind due count text ws
unfolding words_behind
behind_found due count n text ws e =
    let g = guard_ok (begins_with due (words text) && eqb (length (words text)) (suc count)) (drop 1 (words text)) ws (record { kind = Shape; line = n }) e in
    let p = and_parts (begins_with due (words text)) (eqb (length (words text)) (suc count)) g.0 in
    by (words text) refl (bytes_same _ due p.0) (number-same _ _ p.1) g.1
  where
    by : (us : List (List ℕ)) → words text ≡ us → first_of us ≡ due → length us ≡ suc count → drop 1 us ≡ ws → Behind due count text ws
    by [] is f l d = absurd (omega arith)
    by (u ∷ us) is f l d = record { all = is ∙ ap₂ (λ (v : List ℕ) (vs : List (List ℕ)). v ∷ vs) f d; count_is = omega (arith, ap (λ (vs : List (List ℕ)). length vs) d) }
