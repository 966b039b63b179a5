-- The text of a certificate of the discounted reward has at most 2^30 bytes.
use Rattle.std.proofs.Common.{◌≡◌, ℕ, ◌<◌, ◌≤◌, ◌^◌, true, List, length, codes, arith, lit<, ltb→lt, T, sym, subst}
use Rattle.std.proofs.{lemmas.List.{length-append}, lemmas.List.Elements.{recursion_from_All}}
use Rattle.std.specs.{Prelude.{IsTrue}}
use Rattle.mdp_math.specs.Rational.{ℚ}
use Rattle.mdp_num.specs.Value.{spelling, IsNarrow}
use Rattle.mdp_rows.specs.{Name.{is_name}, declared.dir.Dir.{Dir}}
use Rattle.mdp_text.specs.{declared.init.Init.{Init}, declared.init.Init.TheVariants.{Missing, Finite, Infinite, Start}}
use Rattle.mdp_text.specs.{Spelling.{◌␣◌, quoted, dir_text, states_text, init_text}, Heads.{IsInitInWidth}}
use Rattle.mdp_text.proofs.Lengths.{number_short, spelling_short, blank_length, name_short, dir_length, quoted_length, states_short, IsShortInit, init_short}
use Rattle.mdp_discount_rules.specs.Cert.{is_init, IsInitNarrow, Certificate, Fits}
use Rattle.mdp_discount_text.specs.Spelling.{version_text, claim_text, remainder_text, head_text, text_of}
use Rattle.mdp_cert.specs.{declared.version.Version.TheVariants.{One}, Claims.{fraction_value}, Pairs.{IsShort, number_value, word_columns, IsPairInWidth, pairs}, Spelling.{closed_lines}}
use Rattle.mdp_cert.proofs.RunLengths.{singles_short, pair_short, pairs_width, pairs_count}
use Rattle.mdp_discount_text.specs.Entries.{priced_columns}
use Rattle.mdp_command.specs.Files.{most_bytes}
use Rattle.mdp_command.proofs.HeadLengths.{five_lines}

-- ---- the lines before those of the states

claim_short : (dir : Dir) (name : List ℕ) (f : ℚ) → is_name name ≡ true → IsNarrow f → length (claim_text dir name f) ≤ 400
claim_short dir name f named narrow =
    let a = blank_length (codes "claim") (dir_text dir ␣ codes "discount" ␣ quoted name ␣ spelling f) in
    let b = blank_length (dir_text dir) (codes "discount" ␣ quoted name ␣ spelling f) in
    let c = blank_length (codes "discount") (quoted name ␣ spelling f) in
    let d = blank_length (quoted name) (spelling f) in
    let l = dir_length dir in
    let q = quoted_length name in
    let n = name_short name named in
    let s = spelling_short f narrow in
    omega (arith, a, b, c, d, l, q, n, s)

-- the initial state is a state, and its value is in width
start_inside : (n : ℕ) (init : Init) → n ≤ 2 ^ 20 → IsTrue (is_init n init) → IsInitNarrow init → IsShortInit init
start_inside n Missing limit inside narrow = tt
start_inside n (Finite state value) limit inside narrow =
    let p : 2 ^ 20 < 2 ^ 32 = lit< tt in
    let below = ltb→lt state n (subst T (sym inside) tt) in
    omega (arith, limit, p, below)
start_inside n (Infinite state) limit inside narrow = absurd narrow
start_inside n (Start state) limit inside narrow = absurd narrow

in_width : (init : Init) → IsInitNarrow init → IsInitInWidth init
in_width Missing narrow = tt
in_width (Finite state value) narrow = narrow
in_width (Infinite state) narrow = tt
in_width (Start state) narrow = tt

remainder_short : (x : ℚ) → IsNarrow x → length (remainder_text x) ≤ 100
remainder_short x h = let a = blank_length (codes "remainder") (spelling x) in let s = spelling_short x h in omega (arith, a, s)

-- ---- the whole

module _ (c : Certificate) (fits : Fits c) where
  head_short : length (head_text c) ≤ 1000
  head_short =
      let p : 2 ^ 20 < 2 ^ 32 = lit< tt in
      let few = fits.limit in
      let a = claim_short c.dir c.name c.factor fits.named fits.factor_width in
      let b = states_short (length c.values) (omega (arith, few, p)) in
      let d = init_short c.init (start_inside (length c.values) c.init few fits.inside fits.init_width) (in_width c.init fits.init_width) in
      let e = remainder_short c.remainder fits.remainder_width in
      let all = five_lines version_text (claim_text c.dir c.name c.factor) (states_text (length c.values)) (init_text c.init) (remainder_text c.remainder) in
      omega (arith, a, b, d, e, all)

  pub text_short : length (text_of c) ≤ most_bytes
  unfolding text_of
  text_short =
      let few = fits.limit in
      let h = head_short in
      let xs = pairs c.values c.choices in
      let n = pairs_count c.values c.choices in
      let words = pair_short IsNarrow IsShort fraction_value (word_columns number_value) 80 10 spelling_short number_short in
      let l = singles_short priced_columns (IsPairInWidth IsNarrow IsShort) (λ x w. let s = words x w in omega (arith, s)) xs (omega (arith, few, n))
      (pairs_width IsNarrow IsShort c.values c.choices (recursion_from_All _ _ fits.values_width) (recursion_from_All _ _ fits.choices_width)) in
      let a = length-append (head_text c) (closed_lines One priced_columns xs) in
      omega (arith, few, n, h, l, a)
