-- The text of a certificate of bounds of a subsystem has at most 2^30 bytes.
use Rattle.std.proofs.Common.{◌≡◌, ℕ, ◌+◌, ◌*◌, ◌<◌, ◌≤◌, ◌^◌, true, List, ◌++◌, length, codes, decimal, Option, Some, None, refl, arith, lit<}
use Rattle.std.proofs.{lemmas.Bool.{and_parts}, lemmas.List.{length-append}, lemmas.List.Elements.{recursion_from_All}}
use Rattle.std.specs.List.{AllByRecursion as Each}
use Rattle.mdp_math.specs.Rational.{ℚ}
use Rattle.mdp_num.specs.Value.{spelling, IsNarrow}
use Rattle.mdp_text.proofs.Lengths.{number_short, spelling_short, blank_length, line_length, name_short, quoted_length, states_short}
use Rattle.mdp_text.specs.Spelling.{line, ◌␣◌, quoted, states_text}
use Rattle.mdp_rows.specs.{Name.{is_name}, declared.dir.Dir.{Dir}, declared.dir.Dir.TheVariants.{Max, Min}}
use Rattle.mdp_cert.proofs.RunLengths.{lines_of, closed_short, pair_short, pairs_width, pairs_count}
use Rattle.mdp_cert.specs.{Cert.{witness, are_names}, Claims.{fraction_value}, Spelling.{claim_text}, BoundsSpelling.{version_text}}
use Rattle.mdp_cert.specs.Pairs.{IsShort, number_value, word_columns, pair_columns, IsPairInWidth, pairs}
use Rattle.mdp_subsystem_bounds.specs.{Cert.{Certificate, states_in, plain_claim, Fits}, Spelling.{start_text, head_text, lists_text, text_of}}
use Rattle.mdp_subsystem_bounds.specs.Entries.{mark_text, mark_value, ranked_columns, IsRankedInWidth, ranked_of, led_columns, IsLedInWidth, led_of}
use Rattle.mdp_subsystem_bounds.specs.{declared.mark.Mark.{Mark}, declared.mark.Mark.TheVariants.{Out, Kept, Open}}
use Rattle.mdp_command.specs.Files.{most_bytes}
use Rattle.mdp_command_bounds_search.proofs.TextLength.{two_words}

-- ---- the lines before those of the states

claim_short : (dir : Dir) (stay : Option (List ℕ)) (label : List ℕ) (t : ℚ) → are_names (witness dir stay label t) ≡ true → IsNarrow t → length (claim_text (witness dir stay label t)) ≤ 800
claim_short dir None label t named narrow =
    let a = two_words dir (codes "witness") (quoted label ␣ spelling t) in
    let b = blank_length (quoted label) (spelling t) in
    let q = quoted_length label in
    let n = name_short label named in
    let s = spelling_short t narrow in
    omega (arith, a, b, q, n, s)
claim_short dir (Some stay) label t named narrow =
    let a = two_words dir (codes "witness") (codes "until" ␣ quoted stay ␣ quoted label ␣ spelling t) in
    let b = blank_length (codes "until") (quoted stay ␣ quoted label ␣ spelling t) in
    let d = blank_length (quoted stay) (quoted label ␣ spelling t) in
    let e = blank_length (quoted label) (spelling t) in
    let names = and_parts (is_name stay) (is_name label) named in
    let q = quoted_length stay in
    let r = quoted_length label in
    let n = name_short stay names.0 in
    let o = name_short label names.1 in
    let s = spelling_short t narrow in
    omega (arith, a, b, d, e, q, r, n, o, s)

mark_short : (x : Mark) → length (mark_text x) ≤ 4
mark_short Out = omega arith
mark_short Kept = omega arith
mark_short Open = omega arith

-- ---- the lines of the states

each_mark : (marks : List Mark) → Each (λ mark. Unit {0}) marks
each_mark marks = recursion_from_All (λ mark. Unit {0}) marks (λ i d l. tt)

module _ (states : ℕ) (limit : states ≤ 2 ^ 20) where
  ranked_short : (ls : List ℚ) (rs : List ℕ) (ms : List Mark) → length ls ≡ states → Each IsNarrow ls → Each IsShort rs
      → length (lines_of ranked_columns (ranked_of ls rs ms)) ≤ 380 * states + 4
  ranked_short ls rs ms size p n =
      let count = pairs_count ls (pairs rs ms) in
      let two = pair_short IsShort (λ mark. Unit {0}) number_value (word_columns mark_value) 10 4 number_short (λ x h. mark_short x) in
      let words = pair_short IsNarrow (IsPairInWidth IsShort (λ mark. Unit {0})) fraction_value (pair_columns number_value (word_columns mark_value)) 80 15 spelling_short two in
      let l = closed_short ranked_columns IsRankedInWidth (λ x h. let w = words x h in omega (arith, w)) (ranked_of ls rs ms) (omega (arith, count, size, limit))
      (pairs_width IsNarrow (IsPairInWidth IsShort (λ mark. Unit {0})) ls (pairs rs ms) p (pairs_width IsShort (λ mark. Unit {0}) rs ms n (each_mark ms))) in
      omega (arith, l, count, size)

  led_short : (ls : List ℚ) (cs rs : List ℕ) (ms : List Mark) → length ls ≡ states → Each IsNarrow ls → Each IsShort cs → Each IsShort rs
      → length (lines_of led_columns (led_of ls cs rs ms)) ≤ 380 * states + 4
  led_short ls cs rs ms size p o n =
      let count = pairs_count ls (pairs cs (pairs rs ms)) in
      let two = pair_short IsShort (λ mark. Unit {0}) number_value (word_columns mark_value) 10 4 number_short (λ x h. mark_short x) in
      let three = pair_short IsShort (IsPairInWidth IsShort (λ mark. Unit {0})) number_value (pair_columns number_value (word_columns mark_value)) 10 15 number_short two in
      let words = pair_short IsNarrow (IsPairInWidth IsShort (IsPairInWidth IsShort (λ mark. Unit {0}))) fraction_value
      (pair_columns number_value (pair_columns number_value (word_columns mark_value))) 80 26 spelling_short three in
      let l = closed_short led_columns IsLedInWidth (λ x h. let w = words x h in omega (arith, w)) (led_of ls cs rs ms) (omega (arith, count, size, limit))
      (pairs_width IsNarrow (IsPairInWidth IsShort (IsPairInWidth IsShort (λ mark. Unit {0}))) ls (pairs cs (pairs rs ms)) p
      (pairs_width IsShort (IsPairInWidth IsShort (λ mark. Unit {0})) cs (pairs rs ms) o (pairs_width IsShort (λ mark. Unit {0}) rs ms n (each_mark ms)))) in
      omega (arith, l, count, size)

-- ---- the whole

module _ (c : Certificate) (fits : Fits c) where
  head_short : length (head_text c) ≤ 1000
  head_short =
      let limit = fits.limit in
      let inside = fits.inside in
      let p : 2 ^ 20 < 2 ^ 32 = lit< tt in
      let claim = claim_text (plain_claim c.claim) in
      let states = states_text (states_in c) in
      let start = start_text c.start in
      let a = length-append (line version_text) (line claim ++ (line states ++ line start)) in
      let b = length-append (line claim) (line states ++ line start) in
      let x = length-append (line states) (line start) in
      let d = line_length claim in
      let e = line_length states in
      let f = line_length start in
      let g = claim_short c.claim.dir c.claim.stay c.claim.label c.claim.threshold fits.names fits.claim_width in
      let h = states_short (states_in c) (omega (arith, p, limit)) in
      let i = blank_length (codes "init") (decimal c.start) in
      let j = number_short c.start (omega (arith, p, limit, inside)) in
      omega (arith, a, b, x, d, e, f, g, h, i, j)

  lists_short : (dir : Dir) → length (lists_text dir c.lists) ≤ 380 * states_in c + 4
  lists_short Max =
      led_short (states_in c) fits.limit c.lists.lower c.lists.choices c.lists.ranks c.lists.marks refl (recursion_from_All IsNarrow c.lists.lower fits.lower_width)
      (recursion_from_All IsShort c.lists.choices fits.choices_width) (recursion_from_All IsShort c.lists.ranks fits.ranks_width)
  lists_short Min =
      ranked_short (states_in c) fits.limit c.lists.lower c.lists.ranks c.lists.marks refl (recursion_from_All IsNarrow c.lists.lower fits.lower_width)
      (recursion_from_All IsShort c.lists.ranks fits.ranks_width)

  pub text_short : length (text_of c) ≤ most_bytes
  unfolding text_of
  text_short =
      let a = length-append (head_text c) (lists_text c.claim.dir c.lists) in
      let h = head_short in
      let l = lists_short c.claim.dir in
      let limit = fits.limit in
      let p : 380 * 2 ^ 20 + 2000 < 2 ^ 30 = lit< tt in
      omega (arith, a, h, l, limit, p)
