-- The text of a certificate of bounds of discounted rewards has at most 2^30 bytes.
use Rattle.std.proofs.Common.{◌≡◌, ℕ, ◌+◌, ◌*◌, ◌<◌, ◌≤◌, ◌^◌, true, List, [], ◌∷◌, length, map, codes, decimal, Option, Some, None, IfSome, arith, lit<, ltb→lt, T, sym, subst}
use Rattle.std.proofs.{lemmas.List.{length-append, length-map}, lemmas.List.Elements.{recursion_from_All}}
use Rattle.std.specs.{Prelude.{IsTrue}, List.{AllByRecursion as Each}}
use Rattle.mdp_math.specs.Rational.{ℚ}
use Rattle.mdp_num.specs.Value.{spelling, IsNarrow}
use Rattle.mdp_text.proofs.Lengths.{number_short, spelling_short, blank_length, name_short, quoted_length, states_short}
use Rattle.mdp_text.specs.Spelling.{◌␣◌, quoted, states_text}
use Rattle.mdp_rows.specs.{Name.{is_name}, declared.dir.Dir.{Dir}}
use Rattle.mdp_cert.specs.Claims.{reward_text}
use Rattle.mdp_discount_text.specs.{Spelling.{claim_text, remainder_text}, Entries.{lower, lower_text, lower_value, between_columns, IsEntryInWidth, entries_of}}
use Rattle.mdp_cert.specs.{Claims.{reward_value}, Pairs.{IsShort, number_value, word_columns, pair_columns, IsPairInWidth, pairs}}
use Rattle.mdp_discount_text.specs.BoundsSpelling.{version_text, init_text, head_text, text_of}
use Rattle.mdp_discount_rules.specs.{BoundsCert.{Certificate, Fits, IsValueNarrow, is_init}, declared.bounds_init.InitialBounds.{InitialBounds}}
use Rattle.mdp_command.specs.Files.{most_bytes}
use Rattle.mdp_command.proofs.HeadLengths.{five_lines}
use Rattle.mdp_cert.proofs.RunLengths.{lines_of, closed_short, pair_short, pairs_width, pairs_count}
use Rattle.mdp_command_bounds_search.proofs.TextLength.{two_words}

-- ---- the lines before those of the states

claim_short : (dir : Dir) (name : List ℕ) (f : ℚ) → is_name name ≡ true → IsNarrow f → length (claim_text dir name f) ≤ 600
claim_short dir name f named narrow =
    let a = two_words dir (codes "discount") (quoted name ␣ spelling f) in
    let b = blank_length (quoted name) (spelling f) in
    let q = quoted_length name in
    let n = name_short name named in
    let s = spelling_short f narrow in
    omega (arith, a, b, q, n, s)

lower_short : (v : Option ℚ) → IsValueNarrow v → length (lower_text v) ≤ 80
lower_short None h = omega arith
lower_short (Some x) h = spelling_short x h

upper_short : (v : Option ℚ) → IsValueNarrow v → length (reward_text v) ≤ 80
upper_short None h = omega arith
upper_short (Some x) h = spelling_short x h

init_short : (n : ℕ) (init : Option InitialBounds) → n ≤ 2 ^ 20 → IsTrue (is_init n init) → IfSome init (λ i. IsValueNarrow i.lower × IsValueNarrow i.upper)
    → length (init_text init) ≤ 200
init_short n None limit inside w = omega arith
init_short n (Some i) limit inside w =
    let p : 2 ^ 20 < 2 ^ 32 = lit< tt in
    let below = ltb→lt i.state n (subst T (sym inside) tt) in
    let a = blank_length (codes "init") (decimal i.state ␣ lower_text i.lower ␣ reward_text i.upper) in
    let b = blank_length (decimal i.state) (lower_text i.lower ␣ reward_text i.upper) in
    let c = blank_length (lower_text i.lower) (reward_text i.upper) in
    let l = number_short i.state (omega (arith, limit, p, below)) in
    let u = lower_short i.lower w.0 in
    let v = upper_short i.upper w.1 in
    omega (arith, a, b, c, l, u, v)

remainder_short : (x : ℚ) → IsNarrow x → length (remainder_text x) ≤ 100
remainder_short x h = let a = blank_length (codes "remainder") (spelling x) in let s = spelling_short x h in omega (arith, a, s)

-- ---- the whole

module _ (c : Certificate) (fits : Fits c) where
  head_short : length (head_text c) ≤ 1200
  head_short =
      let p : 2 ^ 20 < 2 ^ 32 = lit< tt in
      let few = fits.limit in
      let a = claim_short c.dir c.name c.factor fits.named fits.factor_width in
      let b = states_short (length c.lower) (omega (arith, few, p)) in
      let d = init_short (length c.lower) c.init few fits.inside fits.init_width in
      let e = remainder_short c.remainder fits.remainder_width in
      let all = five_lines version_text (claim_text c.dir c.name c.factor) (states_text (length c.lower)) (init_text c.init) (remainder_text c.remainder) in
      omega (arith, a, b, d, e, all)

  lines_short : length (lines_of between_columns (entries_of c.lower c.upper c.choices)) ≤ 380 * length c.lower + 4
  lines_short =
      let few = fits.limit in
      let size = length-map c.lower lower in
      let count = pairs_count (map lower c.lower) (pairs c.upper c.choices) in
      let two = pair_short IsValueNarrow IsShort reward_value (word_columns number_value) 80 10 upper_short number_short in
      let words = pair_short (λ l. IsValueNarrow l.value) (IsPairInWidth IsValueNarrow IsShort) lower_value (pair_columns reward_value (word_columns number_value)) 80 91 (λ l h. lower_short l.value h) two in
      let l = closed_short between_columns IsEntryInWidth (λ x h. let w = words x h in omega (arith, w)) (entries_of c.lower c.upper c.choices) (omega (arith, count, size, few))
      (pairs_width (λ l. IsValueNarrow l.value) _ (map lower c.lower) (pairs c.upper c.choices) (each c.lower (recursion_from_All IsValueNarrow c.lower fits.lower_width))
      (pairs_width IsValueNarrow IsShort c.upper c.choices (recursion_from_All IsValueNarrow c.upper fits.upper_width) (recursion_from_All IsShort c.choices fits.choices_width))) in
      omega (arith, l, count, size)
    where
      each : (ls : List (Option ℚ)) → Each IsValueNarrow ls → Each (λ l. IsValueNarrow l.value) (map lower ls)
      each [] h = tt
      each (l ∷ ls) h = (h.0, each ls h.1)

  pub text_short : length (text_of c) ≤ most_bytes
  unfolding text_of
  text_short =
      let few = fits.limit in
      let h = head_short in
      let l = lines_short in
      let a = length-append (head_text c) (lines_of between_columns (entries_of c.lower c.upper c.choices)) in
      let p : 380 * 2 ^ 20 + 2000 < 2 ^ 30 = lit< tt in
      omega (arith, a, h, l, few, p)
