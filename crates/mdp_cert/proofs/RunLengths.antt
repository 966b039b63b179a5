-- How long the lines of the states are in a text of runs: where the words of an entry have at most 340 bytes, at most 380 bytes for each state.
use Rattle.std.proofs.Common.{◌≡◌, ℕ, suc, ◌+◌, ◌*◌, ◌<◌, ◌≤◌, ◌^◌, Bool, true, false, cond, eqb, List, [], ◌∷◌, ◌++◌, length, map, codes, decimal, refl, arith, lit<}
use Rattle.std.proofs.lemmas.List.{length-append}
use Rattle.std.specs.List.{join_with_byte, AllByRecursion as Each}
use Rattle.mdp_cert.specs.{Claims.{Value}, declared.pair.Pair.{Pair}, Pairs.{pair_columns, IsPairInWidth, pairs}}
use Rattle.mdp_text.proofs.Lengths.{number_short, blank_length, line_length}
use Rattle.mdp_text.specs.Spelling.{line, ◌␣◌, end_text}
use Rattle.mdp_cert.specs.{Runs.{Columns, Run, run, single, before_runs, longest_runs}, Spelling.{entry_text, run_text, run_lines}}

-- the lines of the states, and the line `end`
abbrev pub lines_of : {A : Type 0} → Columns A → List A → List ℕ
lines_of k xs = run_lines k 0 (longest_runs k xs) ++ line end_text

-- of entries whose words have at most 340 bytes
module _ {A : Type 0} (k : Columns A) (P : A → Type 0) (short : (x : A) → P x → length (entry_text k x) ≤ 340) where
  abbrev state_text : ℕ → A → List ℕ
  state_text state x = codes "state" ␣ decimal state ␣ entry_text k x

  abbrev states_from : ℕ → ℕ → A → List ℕ
  states_from state more x = codes "run" ␣ decimal state ␣ decimal (state + more) ␣ entry_text k x

  one_short : (state : ℕ) (x : A) → state < 2 ^ 32 → P x → length (state_text state x) ≤ 379
  one_short state x lt h =
      let a = blank_length (codes "state") (decimal state ␣ entry_text k x) in
      let b = blank_length (decimal state) (entry_text k x) in
      let n = number_short state lt in
      let e = short x h in
      omega (arith, a, b, n, e)

  many_short : (state more : ℕ) (x : A) → state + more < 2 ^ 32 → P x → length (states_from state more x) ≤ 379
  many_short state more x lt h =
      let a = blank_length (codes "run") (decimal state ␣ decimal (state + more) ␣ entry_text k x) in
      let b = blank_length (decimal state) (decimal (state + more) ␣ entry_text k x) in
      let c = blank_length (decimal (state + more)) (entry_text k x) in
      let n = number_short state (omega (arith, lt)) in
      let m = number_short (state + more) lt in
      let e = short x h in
      omega (arith, a, b, c, n, m, e)

  either_short : (b : Bool) (x y : List ℕ) → length x ≤ 379 → length y ≤ 379 → length (line (cond b x y)) ≤ 380
  either_short true x y h l = let n = line_length x in omega (arith, n, h)
  either_short false x y h l = let n = line_length y in omega (arith, n, l)

  run_short : (state : ℕ) (r : Run A) → state + r.more < 2 ^ 32 → P r.entry → length (line (run_text k state r)) ≤ 380
  unfolding run_text
  run_short state r lt h =
      either_short (eqb r.more 0) (state_text state r.entry) (states_from state r.more r.entry) (one_short state r.entry (omega (arith, lt)) h) (many_short state r.more r.entry lt h)

  -- the states that the lines stand for
  abbrev size : List (Run A) → ℕ
  size [] = 0
  size (r ∷ rs) = r.more + 1 + size rs

  abbrev AreInWidth : List (Run A) → Type 0
  AreInWidth [] = Unit {0}
  AreInWidth (r ∷ rs) = P r.entry × AreInWidth rs

  lines_short : (state : ℕ) (rs : List (Run A)) → state + size rs ≤ 2 ^ 20 → AreInWidth rs → length (run_lines k state rs) ≤ 380 * size rs
  unfolding run_lines
  lines_short state [] h w = omega arith
  lines_short state (r ∷ rs) h w =
      let p : 2 ^ 20 < 2 ^ 32 = lit< tt in
      let a = run_short state r (omega (arith, h, p)) w.0 in
      let b = lines_short (state + r.more + 1) rs (omega (arith, h)) w.1 in
      let e = length-append (line (run_text k state r)) (run_lines k (state + r.more + 1) rs) in
      omega (arith, a, b, e)

  -- ---- the longest runs

  before_size : (x : A) (rs : List (Run A)) → size (before_runs k x rs) ≡ size rs + 1
  before_size x [] = refl
  before_size x (r ∷ rs) = by (k.same x r.entry)
    where
      by : (b : Bool) → size (cond b (run x (suc r.more) ∷ rs) (single x ∷ r ∷ rs)) ≡ r.more + 1 + size rs + 1
      by true = omega arith
      by false = omega arith

  before_width : (x : A) (rs : List (Run A)) → P x → AreInWidth rs → AreInWidth (before_runs k x rs)
  before_width x [] h w = (h, tt)
  before_width x (r ∷ rs) h w = by (k.same x r.entry)
    where
      by : (b : Bool) → AreInWidth (cond b (run x (suc r.more) ∷ rs) (single x ∷ r ∷ rs))
      by true = (h, w.1)
      by false = (h, w)

  runs_size : (xs : List A) → size (longest_runs k xs) ≡ length xs
  unfolding longest_runs
  runs_size [] = refl
  runs_size (x ∷ xs) = let a = before_size x (longest_runs k xs) in let b = runs_size xs in omega (arith, a, b)

  runs_width : (xs : List A) → Each P xs → AreInWidth (longest_runs k xs)
  unfolding longest_runs
  runs_width [] h = tt
  runs_width (x ∷ xs) h = before_width x (longest_runs k xs) h.0 (runs_width xs h.1)

  states_lines_short : (xs : List A) → length xs ≤ 2 ^ 20 → Each P xs → length (run_lines k 0 (longest_runs k xs)) ≤ 380 * length xs
  states_lines_short xs limit h = let n = runs_size xs in let l = lines_short 0 (longest_runs k xs) (omega (arith, n, limit)) (runs_width xs h) in omega (arith, n, l)

  -- with the line `end`
  pub closed_short : (xs : List A) → length xs ≤ 2 ^ 20 → Each P xs → length (lines_of k xs) ≤ 380 * length xs + 4
  closed_short xs limit h =
      let l = states_lines_short xs limit h in
      let a = length-append (run_lines k 0 (longest_runs k xs)) (line end_text) in
      omega (arith, l, a)

  -- a line for each state
  singles_size : (xs : List A) → size (map single xs) ≡ length xs
  singles_size [] = refl
  singles_size (x ∷ xs) = let n = singles_size xs in omega (arith, n)

  singles_width : (xs : List A) → Each P xs → AreInWidth (map single xs)
  singles_width [] h = tt
  singles_width (x ∷ xs) h = (h.0, singles_width xs h.1)

  pub singles_short : (xs : List A) → length xs ≤ 2 ^ 20 → Each P xs → length (run_lines k 0 (map single xs) ++ line end_text) ≤ 380 * length xs + 4
  singles_short xs limit h =
      let n = singles_size xs in
      let l = lines_short 0 (map single xs) (omega (arith, n, limit)) (singles_width xs h) in
      let a = length-append (run_lines k 0 (map single xs)) (line end_text) in
      omega (arith, n, l, a)

-- ---- entries of several words

joined : (w : List ℕ) (ws : List (List ℕ)) → length (join_with_byte 32 (w ∷ ws)) ≤ length w + (1 + length (join_with_byte 32 ws))
joined w [] = omega arith
joined w (u ∷ ws) = let a = length-append w (32 ∷ join_with_byte 32 (u ∷ ws)) in omega (arith, a)

module _ {V E : Type 0} (P : V → Type 0) (Q : E → Type 0) where
  pub pair_short : (k : Value V) (l : Columns E) (a b : ℕ) → ((v : V) → P v → length (k.spell v) ≤ a) → ((x : E) → Q x → length (entry_text l x) ≤ b)
      → (p : Pair V E) → IsPairInWidth P Q p → length (entry_text (pair_columns k l) p) ≤ a + (1 + b)
  pair_short k l a b h g p w = let i = h p.first w.first in let j = g p.others w.others in let n = joined (k.spell p.first) (l.words p.others) in omega (arith, i, j, n)

  pub pairs_width : (vs : List V) (xs : List E) → Each P vs → Each Q xs → Each (IsPairInWidth P Q) (pairs vs xs)
  pairs_width [] xs h k = tt
  pairs_width (v ∷ vs) [] h k = tt
  pairs_width (v ∷ vs) (x ∷ xs) h k = (record { first = h.0; others = k.0 }, pairs_width vs xs h.1 k.1)

pub pairs_count : {V E : Type 0} (vs : List V) (xs : List E) → length (pairs vs xs) ≤ length vs
pairs_count [] xs = omega arith
pairs_count (v ∷ vs) [] = omega arith
pairs_count (v ∷ vs) (x ∷ xs) = let n = pairs_count vs xs in omega (arith, n)
