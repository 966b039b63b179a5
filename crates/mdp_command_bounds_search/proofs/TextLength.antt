-- The text of a certificate of bounds has at most 2^30 bytes.
use Rattle.std.proofs.Common.{◌≡◌, ℕ, ◌+◌, ◌*◌, ◌<◌, ◌≤◌, ◌^◌, true, List, ◌++◌, length}
use Rattle.std.proofs.{Common.{codes, decimal, Option, Some, None, arith, lit<, ltb→lt, T, sym, subst}, lemmas.Bool.{and_parts}, lemmas.List.{length-append}}
use Rattle.std.proofs.lemmas.List.Elements.{recursion_from_All}
use Rattle.std.specs.List.{AllByRecursion as Each}
use Rattle.mdp_math.specs.Rational.{ℚ}
use Rattle.mdp_num.specs.Value.{spelling, IsNarrow}
use Rattle.mdp_text.proofs.Lengths.{number_short, spelling_short, blank_length, line_length, name_short, dir_length, quoted_length, states_short}
use Rattle.mdp_text.specs.Spelling.{line, ◌␣◌, quoted, dir_text, states_text}
use Rattle.mdp_rows.specs.{Name.{is_name}, declared.dir.Dir.{Dir}}
use Rattle.mdp_cert.proofs.{RunLengths.{lines_of, closed_short, pair_short, pairs_width, pairs_count}, BoundsBodies.{reach-counts, reward-counts, mean-counts}}
use Rattle.mdp_cert.specs.Cert.{PlainClaim, upper, reach, until, reward, mean, witness, are_names, IsValueNarrow}
use Rattle.mdp_cert.specs.{Claims.{Value, fraction_value, reward_value, reward_text}, Spelling.{claim_text, spread_text}}
use Rattle.mdp_cert.specs.BoundsCert.{PlainBounds, probabilities, rewards, gains, Certificate, Fits, is_init_of, is_body_of, IsInitInWidth, IsBodyInWidth}
use Rattle.mdp_cert.specs.Pairs.{number_value, word_columns, pair_columns, IsPairInWidth, pairs}
use Rattle.mdp_cert.specs.Pairs.{IsShort as IsSmall}
use Rattle.mdp_cert.specs.Entries.{policy_columns, IsPolicyInWidth, policies, mean_columns, IsMeanInWidth, means, ranked_columns, IsRankedInWidth, ranked_of, gains_columns, IsGainsInWidth, gains_of}
use Rattle.mdp_cert.specs.{BoundsSpelling.{version_text, init_text, head_text, body_text, text_of}, declared.init.BoundsInit.{BoundsInit}}
use Rattle.mdp_cert.specs.declared.init.BoundsInit.TheVariants.{Missing, Between}
use Rattle.mdp_command.specs.Files.{most_bytes}

-- ---- the lines before those of the states

pub two_words : (dir : Dir) (word rest : List ℕ) → length (codes "claim" ␣ dir_text dir ␣ word ␣ rest) ≡ 5 + (1 + (3 + (1 + (length word + (1 + length rest)))))
two_words dir word rest =
    let a = blank_length (codes "claim") (dir_text dir ␣ word ␣ rest) in
    let b = blank_length (dir_text dir) (word ␣ rest) in
    let c = blank_length word rest in
    let n = dir_length dir in
    omega (arith, a, b, c, n)

-- of a claim of bounds
claim_short : (claim : PlainClaim) (n : ℕ) (body : PlainBounds) → is_body_of claim n body ≡ true → are_names claim ≡ true → length (claim_text claim) ≤ 600
claim_short (upper label) n body e h = absurd cc
claim_short (reach dir label) n body e h =
    let a = two_words dir (codes "reach") (quoted label) in
    let d = quoted_length label in
    let l = name_short label h in
    omega (arith, a, d, l)
claim_short (until dir stay label) n body e h =
    let a = two_words dir (codes "until") (quoted stay ␣ quoted label) in
    let b = blank_length (quoted stay) (quoted label) in
    let c = quoted_length stay in
    let d = quoted_length label in
    let names = and_parts (is_name stay) (is_name label) h in
    let x = name_short stay names.0 in
    let l = name_short label names.1 in
    omega (arith, a, b, c, d, x, l)
claim_short (reward dir name label) n body e h =
    let a = two_words dir (codes "reward") (quoted name ␣ quoted label) in
    let b = blank_length (quoted name) (quoted label) in
    let c = quoted_length name in
    let d = quoted_length label in
    let names = and_parts (is_name name) (is_name label) h in
    let x = name_short name names.0 in
    let l = name_short label names.1 in
    omega (arith, a, b, c, d, x, l)
claim_short (mean dir name) n body e h =
    let a = two_words dir (codes "mean") (quoted name) in
    let d = quoted_length name in
    let l = name_short name h in
    omega (arith, a, d, l)
claim_short (witness dir stay label threshold) n body e h = absurd cc

reward_short : (v : Option ℚ) → IsValueNarrow v → length (reward_text v) ≤ 80
reward_short None h = omega arith
reward_short (Some x) h = spelling_short x h

init_line_short : (claim : PlainClaim) (n : ℕ) (init : BoundsInit) → n ≤ 2 ^ 20 → is_init_of claim n init ≡ true → IsInitInWidth init → length (init_text init) ≤ 200
init_line_short claim n Missing limit inside w = omega arith
init_line_short claim n (Between s x y) limit inside w =
    let p : 2 ^ 20 < 2 ^ 32 = lit< tt in
    let below = ltb→lt s n (subst T (sym (and_parts _ _ (and_parts _ _ inside).0).0) tt) in
    let a = blank_length (codes "init") (decimal s ␣ reward_text x ␣ reward_text y) in
    let b = blank_length (decimal s) (reward_text x ␣ reward_text y) in
    let c = blank_length (reward_text x) (reward_text y) in
    let l = number_short s (omega (arith, limit, p, below)) in
    let u = reward_short x w.0 in
    let v = reward_short y w.1 in
    omega (arith, a, b, c, l, u, v)

-- ---- the whole

-- at most so many bytes for each state, and a line of the spread
abbrev IsShort : ℕ → List ℕ → Type 0
IsShort states lines = length lines ≤ 380 * states + 104

module _ (states : ℕ) (limit : states ≤ 2 ^ 20) where
  ranked_lines_short : {V : Type 0} (k : Value V) (P : V → Type 0) → ((v : V) → P v → length (k.spell v) ≤ 80) → (ls us : List V) (cs rs : List ℕ) → length ls ≡ states
      → Each P ls → Each P us → Each (λ c. c < 2 ^ 32) cs → Each (λ r. r < 2 ^ 32) rs → IsShort states (lines_of (ranked_columns k) (ranked_of ls us cs rs))
  ranked_lines_short k P short ls us cs rs size p q o n =
      let count = pairs_count ls (policies us cs rs) in
      let two = pair_short IsSmall IsSmall number_value (word_columns number_value) 10 10 number_short number_short in
      let three = pair_short P (IsPairInWidth IsSmall IsSmall) k (pair_columns number_value (word_columns number_value)) 80 21 short two in
      let words = pair_short P (IsPolicyInWidth P) k (policy_columns k) 80 102 short three in
      let l = closed_short (ranked_columns k) (IsRankedInWidth P) (λ x h. let w = words x h in omega (arith, w)) (ranked_of ls us cs rs) (omega (arith, count, size, limit))
      (pairs_width P (IsPolicyInWidth P) ls (policies us cs rs) p (pairs_width P (IsPairInWidth IsSmall IsSmall) us (pairs cs rs) q (pairs_width IsSmall IsSmall cs rs o n))) in
      omega (arith, l, count, size)

  gains_lines_short : (ls us zs bs : List ℚ) (cs : List ℕ) (spread : ℚ) → length ls ≡ states → Each IsNarrow ls → Each IsNarrow us → Each IsNarrow zs → Each IsNarrow bs
      → Each (λ c. c < 2 ^ 32) cs → IsNarrow spread → IsShort states (line (spread_text spread) ++ lines_of gains_columns (gains_of ls us zs bs cs))
  gains_lines_short ls us zs bs cs spread size p q r o n narrow =
      let count = pairs_count ls (means us zs bs cs) in
      let lines = lines_of gains_columns (gains_of ls us zs bs cs) in
      let two = pair_short IsNarrow IsSmall fraction_value (word_columns number_value) 80 10 spelling_short number_short in
      let three = pair_short IsNarrow (IsPairInWidth IsNarrow IsSmall) fraction_value (pair_columns fraction_value (word_columns number_value)) 80 91 spelling_short two in
      let four = pair_short IsNarrow (IsPairInWidth IsNarrow (IsPairInWidth IsNarrow IsSmall)) fraction_value (pair_columns fraction_value (pair_columns fraction_value (word_columns number_value))) 80 172
      spelling_short three in
      let words = pair_short IsNarrow IsMeanInWidth fraction_value mean_columns 80 253 spelling_short four in
      let l = closed_short gains_columns IsGainsInWidth (λ x h. let w = words x h in omega (arith, w)) (gains_of ls us zs bs cs) (omega (arith, count, size, limit))
      (pairs_width IsNarrow IsMeanInWidth ls (means us zs bs cs) p (pairs_width IsNarrow _ us (pairs zs (pairs bs cs)) q (pairs_width IsNarrow _ zs (pairs bs cs) r
      (pairs_width IsNarrow IsSmall bs cs o n)))) in
      let a = length-append (line (spread_text spread)) lines in
      let b = line_length (spread_text spread) in
      let d = blank_length (codes "spread") (spelling spread) in
      let v = spelling_short spread narrow in
      omega (arith, l, count, size, a, b, d, v)

  body_short : (claim : PlainClaim) (body : PlainBounds) → is_body_of claim states body ≡ true → IsBodyInWidth body → IsShort states (body_text body)
  body_short claim (probabilities ls us cs rs) e w =
      ranked_lines_short fraction_value IsNarrow spelling_short ls us cs rs (let k = reach-counts claim states ls us cs rs e in k.lower)
      (recursion_from_All IsNarrow ls w.0) (recursion_from_All IsNarrow us w.1) (recursion_from_All (λ c. c < 2 ^ 32) cs w.2) (recursion_from_All (λ r. r < 2 ^ 32) rs w.3)
  body_short claim (rewards ls us cs rs) e w =
      ranked_lines_short reward_value IsValueNarrow reward_short ls us cs rs (let k = reward-counts claim states ls us cs rs e in k.lower)
      (recursion_from_All IsValueNarrow ls w.0) (recursion_from_All IsValueNarrow us w.1) (recursion_from_All (λ c. c < 2 ^ 32) cs w.2)
      (recursion_from_All (λ r. r < 2 ^ 32) rs w.3)
  body_short claim (gains ls us zs bs cs spread) e w =
      gains_lines_short ls us zs bs cs spread (let k = mean-counts claim states ls us zs bs cs spread e in k.lower) (recursion_from_All IsNarrow ls w.0)
      (recursion_from_All IsNarrow us w.1) (recursion_from_All IsNarrow zs w.2) (recursion_from_All IsNarrow bs w.3) (recursion_from_All (λ c. c < 2 ^ 32) cs w.4) w.5

module _ (c : Certificate) (fits : Fits c) where
  head_short : length (head_text c) ≤ 1000
  head_short =
      let limit = fits.limit in
      let p : 2 ^ 20 < 2 ^ 32 = lit< tt in
      let a = length-append (line version_text) (line (claim_text c.claim) ++ (line (states_text c.states) ++ line (init_text c.init))) in
      let b = length-append (line (claim_text c.claim)) (line (states_text c.states) ++ line (init_text c.init)) in
      let x = length-append (line (states_text c.states)) (line (init_text c.init)) in
      let d = line_length (claim_text c.claim) in
      let e = line_length (states_text c.states) in
      let f = line_length (init_text c.init) in
      let g = claim_short c.claim c.states c.body fits.entries fits.names in
      let h = states_short c.states (omega (arith, p, limit)) in
      let i = init_line_short c.claim c.states c.init limit fits.inside fits.init_width in
      omega (arith, a, b, x, d, e, f, g, h, i)

  pub text_short : length (text_of c) ≤ most_bytes
  unfolding text_of
  text_short =
      let a = length-append (head_text c) (body_text c.body) in
      let h = head_short in
      let l = body_short c.states fits.limit c.claim c.body fits.entries fits.body_width in
      let limit = fits.limit in
      let p : 380 * 2 ^ 20 + 2000 < 2 ^ 30 = lit< tt in
      omega (arith, a, h, l, limit, p)
