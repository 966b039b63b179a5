-- The text of a certificate whose claim is no subsystem's has at most 2^30 bytes.
use Rattle.std.proofs.Common.{◌≡◌, ℕ, ◌+◌, ◌*◌, ◌<◌, ◌≤◌, ◌^◌, Bool, true, false, List, ◌++◌, length, codes, Option, Some, None, arith, lit<}
use Rattle.std.proofs.{Common.{ltb→lt, T, sym, subst, not}, lemmas.Bool.{and_parts}, lemmas.List.{length-append}, lemmas.List.Elements.{recursion_from_All}}
use Rattle.std.specs.List.{AllByRecursion as Each}
use Rattle.mdp_math.specs.Rational.{ℚ}
use Rattle.mdp_num.specs.Value.{spelling, IsNarrow}
use Rattle.mdp_rows.specs.{Name.{is_name}, declared.dir.Dir.{Dir}}
use Rattle.mdp_text.specs.{declared.init.Init.{Init}, declared.init.Init.TheVariants.{Missing, Finite, Infinite, Start}}
use Rattle.mdp_text.specs.Spelling.{line, ◌␣◌, quoted, dir_text, states_text, init_text}
use Rattle.mdp_claims.specs.declared.subsystem.Flow.{Flow}
use Rattle.mdp_cert.proofs.{RunLengths.{lines_of, closed_short, pair_short, pairs_width, pairs_count}, Growth.{bounds-entries, Entries, policy-entries, reward-entries, MeanEntries, gains-entries}}
use Rattle.mdp_cert.specs.Cert.{PlainClaim, upper, reach, until, reward, mean, witness, are_names, may_be_infinite, is_witness, IsValueNarrow, IsBodyInWidth, Certificate, Fits}
use Rattle.mdp_cert.specs.Cert.{PlainBody, bounds, policy, rewards, gains, flow, floor, is_init_of, is_body_of}
use Rattle.mdp_cert.specs.Claims.{Value, fraction_value, reward_value, reward_text}
use Rattle.mdp_cert.specs.Pairs.{IsShort, number_value, word_columns, pair_columns, IsPairInWidth, pairs}
use Rattle.mdp_cert.specs.Entries.{bound_columns, policy_columns, IsPolicyInWidth, policies, mean_columns, IsMeanInWidth, means}
use Rattle.mdp_cert.specs.Spelling.{claim_text, head_text, spread_text, text_in, text_of}
use Rattle.mdp_text.proofs.Lengths.{number_short, spelling_short, blank_length, line_length, name_short, dir_length, quoted_length, states_short, IsShortInit, init_short}

-- ---- the lines before those of the states

two_words : (dir : Dir) (word rest : List ℕ) → length (codes "claim" ␣ dir_text dir ␣ word ␣ rest) ≡ 5 + (1 + (3 + (1 + (length word + (1 + length rest)))))
two_words dir word rest =
    let a = blank_length (codes "claim") (dir_text dir ␣ word ␣ rest) in
    let b = blank_length (dir_text dir) (word ␣ rest) in
    let c = blank_length word rest in
    let n = dir_length dir in
    omega (arith, a, b, c, n)

-- of a claim that is no subsystem's
claim_short : (claim : PlainClaim) → is_witness claim ≡ false → are_names claim ≡ true → length (claim_text claim) ≤ 600
claim_short (upper label) plain h =
    let a = blank_length (codes "claim") (codes "upper" ␣ codes "reach" ␣ quoted label) in
    let b = blank_length (codes "upper") (codes "reach" ␣ quoted label) in
    let c = blank_length (codes "reach") (quoted label) in
    let d = quoted_length label in
    let l = name_short label h in
    omega (arith, a, b, c, d, l)
claim_short (reach dir label) plain h =
    let a = two_words dir (codes "reach") (quoted label) in
    let d = quoted_length label in
    let l = name_short label h in
    omega (arith, a, d, l)
claim_short (until dir stay label) plain h =
    let a = two_words dir (codes "until") (quoted stay ␣ quoted label) in
    let b = blank_length (quoted stay) (quoted label) in
    let c = quoted_length stay in
    let d = quoted_length label in
    let names = and_parts (is_name stay) (is_name label) h in
    let n = name_short stay names.0 in
    let l = name_short label names.1 in
    omega (arith, a, b, c, d, n, l)
claim_short (reward dir name label) plain h =
    let a = two_words dir (codes "reward") (quoted name ␣ quoted label) in
    let b = blank_length (quoted name) (quoted label) in
    let c = quoted_length name in
    let d = quoted_length label in
    let names = and_parts (is_name name) (is_name label) h in
    let n = name_short name names.0 in
    let l = name_short label names.1 in
    omega (arith, a, b, c, d, n, l)
claim_short (mean dir name) plain h =
    let a = two_words dir (codes "mean") (quoted name) in
    let d = quoted_length name in
    let l = name_short name h in
    omega (arith, a, d, l)
claim_short (witness dir stay label threshold) plain h = cc plain

-- ---- the lines of the states

reward_short : (v : Option ℚ) → IsValueNarrow v → length (reward_text v) ≤ 80
reward_short None h = omega arith
reward_short (Some x) h = spelling_short x h

-- ---- the whole

inside_short : (claim : PlainClaim) (n : ℕ) (init : Init) → n ≤ 2 ^ 20 → is_init_of claim n init ≡ true → IsShortInit init
inside_short claim n Missing limit h = tt
inside_short claim n (Finite state value) limit h =
    let p : 2 ^ 20 < 2 ^ 32 = lit< tt in let l = ltb→lt state n (subst T (sym (and_parts (not (is_witness claim)) _ h).1) tt) in omega (arith, limit, p, l)
inside_short claim n (Infinite state) limit h =
    let p : 2 ^ 20 < 2 ^ 32 = lit< tt in let l = ltb→lt state n (subst T (sym (and_parts (may_be_infinite claim) _ h).1) tt) in omega (arith, limit, p, l)
inside_short claim n (Start state) limit h =
    let p : 2 ^ 20 < 2 ^ 32 = lit< tt in let l = ltb→lt state n (subst T (sym (and_parts (is_witness claim) _ h).1) tt) in omega (arith, limit, p, l)

-- the body of a claim that is no subsystem's isn't that of a subsystem
no_flow : (claim : PlainClaim) (n : ℕ) (kept : List ℕ) (wide : List Bool) (flows : List Flow) → is_witness claim ≡ false → is_body_of claim n (flow kept wide flows) ≡ true → ⊥
no_flow (upper label) n kept wide flows plain h = cc h
no_flow (reach dir label) n kept wide flows plain h = cc h
no_flow (until dir stay label) n kept wide flows plain h = cc h
no_flow (reward dir name label) n kept wide flows plain h = cc h
no_flow (mean dir name) n kept wide flows plain h = cc h
no_flow (witness dir stay label threshold) n kept wide flows plain h = cc plain

no_floor : (claim : PlainClaim) (n : ℕ) (kept : List ℕ) (wide : List Bool) (zs : List ℚ) (rs : List ℕ) → is_witness claim ≡ false → is_body_of claim n (floor kept wide zs rs) ≡ true → ⊥
no_floor (upper label) n kept wide zs rs plain h = cc h
no_floor (reach dir label) n kept wide zs rs plain h = cc h
no_floor (until dir stay label) n kept wide zs rs plain h = cc h
no_floor (reward dir name label) n kept wide zs rs plain h = cc h
no_floor (mean dir name) n kept wide zs rs plain h = cc h
no_floor (witness dir stay label threshold) n kept wide zs rs plain h = cc plain

module _ (states : ℕ) (limit : states ≤ 2 ^ 20) where
  three_short :
      {V : Type 0} (k : Value V) (P : V → Type 0) → ((v : V) → P v → length (k.spell v) ≤ 80) → (zs : List V) (cs rs : List ℕ) → Entries states zs cs rs → Each P zs → Each (λ c. c < 2 ^ 32) cs
      → Each (λ r. r < 2 ^ 32) rs → length (lines_of (policy_columns k) (policies zs cs rs)) ≤ 380 * states + 4
  three_short k P short zs cs rs sizes p q o =
      let x = sizes.values in
      let n = pairs_count zs (pairs cs rs) in
      let words = pair_short P (IsPairInWidth IsShort IsShort) k (pair_columns number_value (word_columns number_value)) 80 21 short
      (pair_short IsShort IsShort number_value (word_columns number_value) 10 10 number_short number_short) in
      let l = closed_short (policy_columns k) (IsPolicyInWidth P) (λ p h. let w = words p h in omega (arith, w)) (policies zs cs rs) (omega (arith, x, n, limit))
      (pairs_width P (IsPairInWidth IsShort IsShort) zs (pairs cs rs) p (pairs_width IsShort IsShort cs rs q o)) in
      omega (arith, x, n, l)

  bounds_short : (zs : List ℚ) → length zs ≡ states → Each IsNarrow zs → length (lines_of bound_columns zs) ≤ 380 * states + 4
  bounds_short zs x w =
      let l = closed_short bound_columns IsNarrow (λ v n. let s = spelling_short v n in omega (arith, s)) zs (omega (arith, x, limit)) w in
      omega (arith, x, l)

  means_lines_short :
      (gs zs bs : List ℚ) (cs : List ℕ) → MeanEntries states gs zs bs cs → Each IsNarrow gs → Each IsNarrow zs → Each IsNarrow bs → Each (λ c. c < 2 ^ 32) cs
      → length (lines_of mean_columns (means gs zs bs cs)) ≤ 380 * states + 4
  means_lines_short gs zs bs cs sizes p q o n =
      let x = sizes.gains in
      let count = pairs_count gs (pairs zs (pairs bs cs)) in
      let two = pair_short IsNarrow IsShort fraction_value (word_columns number_value) 80 10 spelling_short number_short in
      let three = pair_short IsNarrow (IsPairInWidth IsNarrow IsShort) fraction_value (pair_columns fraction_value (word_columns number_value)) 80 91 spelling_short two in
      let words = pair_short IsNarrow (IsPairInWidth IsNarrow (IsPairInWidth IsNarrow IsShort)) fraction_value (pair_columns fraction_value (pair_columns fraction_value (word_columns number_value))) 80 172
      spelling_short three in
      let l = closed_short mean_columns IsMeanInWidth (λ x h. let w = words x h in omega (arith, w)) (means gs zs bs cs) (omega (arith, x, count, limit))
      (pairs_width IsNarrow _ gs (pairs zs (pairs bs cs)) p (pairs_width IsNarrow _ zs (pairs bs cs) q (pairs_width IsNarrow IsShort bs cs o n))) in
      omega (arith, x, count, l)

module _ (c : Certificate) (fits : Fits c) (plain : is_witness c.claim ≡ false) where
  head_short : length (head_text c) ≤ 800
  head_short =
      let limit = fits.limit in
      let p : 2 ^ 20 < 2 ^ 32 = lit< tt in
      let a = length-append (line (claim_text c.claim)) (line (states_text c.states) ++ line (init_text c.init)) in
      let b = length-append (line (states_text c.states)) (line (init_text c.init)) in
      let x = line_length (claim_text c.claim) in
      let d = line_length (states_text c.states) in
      let e = line_length (init_text c.init) in
      let f = claim_short c.claim plain fits.names in
      let g = states_short c.states (omega (arith, p, limit)) in
      let h = init_short c.init (inside_short c.claim c.states c.init limit fits.inside) fits.init_width in
      omega (arith, a, b, x, d, e, f, g, h)

  whole_short : (lines : List ℕ) → length lines ≤ 380 * c.states + 104 → length (line (codes "mdp-certificate 2") ++ (head_text c ++ lines)) ≤ 2 ^ 30
  whole_short lines k =
      let a = length-append (line (codes "mdp-certificate 2")) (head_text c ++ lines) in
      let b = length-append (head_text c) lines in
      let h = head_short in
      let limit = fits.limit in
      let p : 380 * 2 ^ 20 + 1000 < 2 ^ 30 = lit< tt in
      omega (arith, a, b, h, k, limit, p)

  -- behind the line of the spread
  spread_lines_short : (spread : ℚ) (lines : List ℕ) → IsNarrow spread → length lines ≤ 380 * c.states + 4 → length (line (spread_text spread) ++ lines) ≤ 380 * c.states + 104
  spread_lines_short spread lines narrow l =
      let a = length-append (line (spread_text spread)) lines in
      let b = line_length (spread_text spread) in
      let d = blank_length (codes "spread") (spelling spread) in
      let v = spelling_short spread narrow in
      omega (arith, a, b, d, v, l)

  plain_lines_short : (lines : List ℕ) → length lines ≤ 380 * c.states + 4 → length lines ≤ 380 * c.states + 104
  plain_lines_short lines l = omega (arith, l)

  by_body : (body : PlainBody) → is_body_of c.claim c.states body ≡ true → IsBodyInWidth body → length (text_of (record c { body = body })) ≤ 2 ^ 30
  unfolding text_in
  by_body (bounds zs) h w = whole_short (lines_of bound_columns zs) (plain_lines_short _ (bounds_short c.states fits.limit zs (bounds-entries c.claim c.states zs h) (recursion_from_All IsNarrow zs w)))
  by_body (policy zs cs rs) h w =
      whole_short (lines_of (policy_columns fraction_value) (policies zs cs rs))
      (plain_lines_short _ (three_short c.states fits.limit fraction_value IsNarrow spelling_short zs cs rs (policy-entries c.claim c.states zs cs rs h) (recursion_from_All IsNarrow zs w.0)
      (recursion_from_All (λ c. c < 2 ^ 32) cs w.1) (recursion_from_All (λ r. r < 2 ^ 32) rs w.2)))
  by_body (rewards vs cs rs) h w =
      whole_short (lines_of (policy_columns reward_value) (policies vs cs rs))
      (plain_lines_short _ (three_short c.states fits.limit reward_value IsValueNarrow reward_short vs cs rs (reward-entries c.claim c.states vs cs rs h) (recursion_from_All IsValueNarrow vs w.0)
      (recursion_from_All (λ c. c < 2 ^ 32) cs w.1) (recursion_from_All (λ r. r < 2 ^ 32) rs w.2)))
  by_body (gains gs zs bs cs k) h w =
      whole_short (line (spread_text k) ++ lines_of mean_columns (means gs zs bs cs))
      (spread_lines_short k _ w.4 (means_lines_short c.states fits.limit gs zs bs cs (gains-entries c.claim c.states gs zs bs cs k h) (recursion_from_All IsNarrow gs w.0)
      (recursion_from_All IsNarrow zs w.1) (recursion_from_All IsNarrow bs w.2) (recursion_from_All (λ c. c < 2 ^ 32) cs w.3)))
  by_body (flow kept wide flows) h w = absurd (no_flow c.claim c.states kept wide flows plain h)
  by_body (floor kept wide zs rs) h w = absurd (no_floor c.claim c.states kept wide zs rs plain h)

  pub text_short : length (text_of c) ≤ 2 ^ 30
  text_short = by_body c.body fits.entries fits.body_width
