-- The text of a witness has at most 2^30 bytes: a line for each kept state, and at most one flow for each state.
use Rattle.std.proofs.Common.{◌≡◌, ℕ, zero, suc, ◌+◌, ◌*◌, ◌<◌, ◌≤◌, ◌^◌, Bool, true, false, List, [], ◌∷◌, ◌++◌, length, get_or, arith, lit<}
use Rattle.std.proofs.Common.{codes, decimal, Option, Some, None, refl}
use Rattle.std.proofs.{lemmas.Bool.{and_parts}, lemmas.List.{length-append}, lemmas.List.Elements.{recursion_from_All}}
use Rattle.std.specs.List.{All, AllByRecursion as Each, join_with_byte}
use Rattle.mdp_math.specs.Rational.{ℚ}
use Rattle.mdp_num.specs.Value.{spelling, IsNarrow}
use Rattle.mdp_spec.specs.Mdp.{Mdp, states_of}
use Rattle.mdp_rows.specs.{Name.{is_name}, declared.dir.Dir.{Dir}, declared.dir.Dir.TheVariants.{Max, Min}}
use Rattle.mdp_claims.specs.declared.subsystem.Flow.{Flow}
use Rattle.mdp_subsystem_rules.specs.{Kept.{Ascends}, Shape.{IsFlowShape, IsFloorShape}}
use Rattle.mdp_text.specs.{declared.init.Init.TheVariants.{Start}, Spelling.{line, ◌␣◌, quoted, dir_text, states_text, init_text}}
use Rattle.mdp_cert.specs.{Cert.{witness, are_names, IsFlowInWidth, Fits}, Listed.{Listed}, Spelling.{claim_text, head_text, listed_lines, text_in, text_of}}
use Rattle.mdp_cert.specs.Witness.{mark_text, flow_listed, flow_lines, keep_lines, floor_listed, floor_lines}
use Rattle.mdp_text.proofs.Lengths.{number_short, spelling_short, blank_length, line_length, name_short, dir_length, quoted_length, states_short, init_short}
use Rattle.mdp_witness.specs.{Query.{PlainSubsystem, flow, floor}, Shown.{HasShape}}
use Rattle.mdp_command_solve.specs.WitnessCertificate.{certificate_of}
use Rattle.mdp_command_solve.proofs.WitnessFew.{HasFewFlows}

mark_short : (wide : Bool) → length (mark_text wide) ≡ 4
mark_short true = refl
mark_short false = refl

-- ---- the lines before those of the kept states

claim_short : (dir : Dir) (stay : Option (List ℕ)) (label : List ℕ) (threshold : ℚ) → are_names (witness dir stay label threshold) ≡ true → IsNarrow threshold
    → length (claim_text (witness dir stay label threshold)) ≤ 700
claim_short dir None label threshold h w =
    let a = blank_length (codes "claim") (dir_text dir ␣ codes "witness" ␣ quoted label ␣ spelling threshold) in
    let b = blank_length (dir_text dir) (codes "witness" ␣ quoted label ␣ spelling threshold) in
    let c = blank_length (codes "witness") (quoted label ␣ spelling threshold) in
    let d = blank_length (quoted label) (spelling threshold) in
    let e = quoted_length label in
    let n = dir_length dir in
    let l = name_short label h in
    let t = spelling_short threshold w in
    omega (arith, a, b, c, d, e, n, l, t)
claim_short dir (Some stay) label threshold h w =
    let a = blank_length (codes "claim") (dir_text dir ␣ codes "witness" ␣ codes "until" ␣ quoted stay ␣ quoted label ␣ spelling threshold) in
    let b = blank_length (dir_text dir) (codes "witness" ␣ codes "until" ␣ quoted stay ␣ quoted label ␣ spelling threshold) in
    let c = blank_length (codes "witness") (codes "until" ␣ quoted stay ␣ quoted label ␣ spelling threshold) in
    let d = blank_length (codes "until") (quoted stay ␣ quoted label ␣ spelling threshold) in
    let e = blank_length (quoted stay) (quoted label ␣ spelling threshold) in
    let f = blank_length (quoted label) (spelling threshold) in
    let g = quoted_length stay in
    let i = quoted_length label in
    let n = dir_length dir in
    let names = and_parts (is_name stay) (is_name label) h in
    let k = name_short stay names.0 in
    let l = name_short label names.1 in
    let t = spelling_short threshold w in
    omega (arith, a, b, c, d, e, f, g, i, n, k, l, t)

-- ---- the lines of the kept states and of the flows

abbrev words_text : {A : Type 0} → Listed A → A → List ℕ
words_text k x = join_with_byte 32 (k.words x)

-- a line of at most 200 bytes
abbrev IsShortLine : {A : Type 0} → Listed A → A → Type 0
IsShortLine k x = length (words_text k x) ≤ 199

-- such lines, and the line `end`
module _ {A : Type 0} (k : Listed A) where
  listed_short : (xs : List A) → Each (IsShortLine k) xs → length (listed_lines k xs) ≤ 200 * length xs + 4
  unfolding listed_lines
  listed_short [] h = omega arith
  listed_short (x ∷ xs) h =
      let a = length-append (line (words_text k x)) (listed_lines k xs) in
      let b = line_length (words_text k x) in
      let s = h.0 in
      let l = listed_short xs h.1 in
      omega (arith, a, b, s, l)

append_each : {A : Type 0} (P : A → Type 0) (xs ys : List A) → Each P xs → Each P ys → Each P (xs ++ ys)
append_each P [] ys h k = k
append_each P (x ∷ xs) ys h k = (h.0, append_each P xs ys h.1 k)

-- for the greatest probability: the kept states, and the flows, which are the lines where no state is kept
keep_short : (state : ℕ) (wide : Bool) → state < 2 ^ 32 → length (codes "keep" ␣ decimal state ␣ mark_text wide) ≤ 199
keep_short state wide h =
    let a = blank_length (codes "keep") (decimal state ␣ mark_text wide) in
    let b = blank_length (decimal state) (mark_text wide) in
    let n = number_short state h in
    let m = mark_short wide in
    omega (arith, a, b, n, m)

flow_short : (f : Flow) → f.state < 2 ^ 32 → IsFlowInWidth f → length (codes "flow" ␣ decimal f.state ␣ decimal f.choice ␣ spelling f.amount) ≤ 199
flow_short f h w =
    let a = blank_length (codes "flow") (decimal f.state ␣ decimal f.choice ␣ spelling f.amount) in
    let b = blank_length (decimal f.state) (decimal f.choice ␣ spelling f.amount) in
    let c = blank_length (decimal f.choice) (spelling f.amount) in
    let n = number_short f.state h in
    let m = number_short f.choice w.choice in
    let v = spelling_short f.amount w.amount in
    omega (arith, a, b, c, n, m, v)

keep_lines_short : (kept : List ℕ) (wide : List Bool) → Each (λ s. s < 2 ^ 32) kept → Each (IsShortLine flow_listed) (keep_lines kept wide)
keep_lines_short [] wide h = tt
keep_lines_short (s ∷ kept) [] h = tt
keep_lines_short (s ∷ kept) (mark ∷ wide) h = (keep_short s mark h.0, keep_lines_short kept wide h.1)

keep_lines_few : (kept : List ℕ) (wide : List Bool) → length (keep_lines kept wide) ≤ length kept
keep_lines_few [] wide = omega arith
keep_lines_few (s ∷ kept) [] = omega arith
keep_lines_few (s ∷ kept) (mark ∷ wide) = let l = keep_lines_few kept wide in omega (arith, l)

send_lines_short : (flows : List Flow) → Each (λ f. f.state < 2 ^ 32) flows → Each IsFlowInWidth flows → Each (IsShortLine flow_listed) (flow_lines [] [] flows)
send_lines_short [] h w = tt
send_lines_short (f ∷ flows) h w = (flow_short f h.0 w.0, send_lines_short flows h.1 w.1)

send_lines_count : (flows : List Flow) → length (flow_lines [] [] flows) ≡ length flows
send_lines_count [] = refl
send_lines_count (f ∷ flows) = let e = send_lines_count flows in omega (arith, e)

-- for the least one
floor_line_short : (s : ℕ) (value : ℚ) (rank : ℕ) (wide : Bool) → s < 2 ^ 32 → IsNarrow value → rank < 2 ^ 32
    → length (codes "keep" ␣ decimal s ␣ spelling value ␣ decimal rank ␣ mark_text wide) ≤ 199
floor_line_short s value rank wide h w k =
    let a = blank_length (codes "keep") (decimal s ␣ spelling value ␣ decimal rank ␣ mark_text wide) in
    let b = blank_length (decimal s) (spelling value ␣ decimal rank ␣ mark_text wide) in
    let c = blank_length (spelling value) (decimal rank ␣ mark_text wide) in
    let d = blank_length (decimal rank) (mark_text wide) in
    let n = number_short s h in
    let v = spelling_short value w in
    let r = number_short rank k in
    let m = mark_short wide in
    omega (arith, a, b, c, d, n, v, r, m)

floor_lines_short : (kept : List ℕ) (wide : List Bool) (values : List ℚ) (ranks : List ℕ) → Each (λ s. s < 2 ^ 32) kept → Each IsNarrow values → Each (λ r. r < 2 ^ 32) ranks
    → Each (IsShortLine floor_listed) (floor_lines kept wide values ranks)
floor_lines_short [] wide values ranks h v r = tt
floor_lines_short (s ∷ kept) [] values ranks h v r = tt
floor_lines_short (s ∷ kept) (mark ∷ wide) [] ranks h v r = tt
floor_lines_short (s ∷ kept) (mark ∷ wide) (z ∷ values) [] h v r = tt
floor_lines_short (s ∷ kept) (mark ∷ wide) (z ∷ values) (rank ∷ ranks) h v r = (floor_line_short s z rank mark h.0 v.0 r.0, floor_lines_short kept wide values ranks h.1 v.1 r.1)

floor_lines_few : (kept : List ℕ) (wide : List Bool) (values : List ℚ) (ranks : List ℕ) → length (floor_lines kept wide values ranks) ≤ length kept
floor_lines_few [] wide values ranks = omega arith
floor_lines_few (s ∷ kept) [] values ranks = omega arith
floor_lines_few (s ∷ kept) (mark ∷ wide) [] ranks = omega arith
floor_lines_few (s ∷ kept) (mark ∷ wide) (z ∷ values) [] = omega arith
floor_lines_few (s ∷ kept) (mark ∷ wide) (z ∷ values) (rank ∷ ranks) = let l = floor_lines_few kept wide values ranks in omega (arith, l)

-- ---- how many states are kept

ascends_at : (kept : List ℕ) → Ascends kept → (i : ℕ) → i < length kept → i ≤ get_or kept i 0
ascends_at kept a zero h = omega arith
ascends_at kept a (suc i) h = let l = ascends_at kept a i (omega arith) in let k = a i (suc i) (omega arith) h in omega (arith, l, k)

kept_few : (n : ℕ) (kept : List ℕ) → Ascends kept → All (λ s. s < n) kept → length kept ≤ n
kept_few n kept a inside = by (length kept) refl
  where
    by : (k : ℕ) → length kept ≡ k → k ≤ n
    by zero e = omega arith
    by (suc k) e = let l = ascends_at kept a k (omega (arith, e)) in let i = inside k 0 (omega (arith, e)) in omega (arith, l, i)

below_32 : (n : ℕ) (kept : List ℕ) → n ≤ 2 ^ 20 → All (λ s. s < n) kept → Each (λ s. s < 2 ^ 32) kept
below_32 n kept limit inside =
    recursion_from_All (λ s. s < 2 ^ 32) kept (λ i d l. let p : 2 ^ 20 < 2 ^ 32 = lit< tt in let h = inside i d l in omega (arith, limit, p, h))

flows_below_32 : (n : ℕ) (flows : List Flow) → n ≤ 2 ^ 20 → All (λ f. f.state < n) flows → Each (λ f. f.state < 2 ^ 32) flows
flows_below_32 n flows limit inside =
    recursion_from_All (λ (f : Flow). f.state < 2 ^ 32) flows (λ i d l. let p : 2 ^ 20 < 2 ^ 32 = lit< tt in let h = inside i d l in omega (arith, limit, p, h))

-- ---- the whole

module _ (dir : Dir) (stay : Option (List ℕ)) (label : List ℕ) (threshold : ℚ) (start : ℕ) (m : Mdp) (inside : start < states_of m) where
  module _ (found : PlainSubsystem) (fits : Fits (certificate_of dir stay label threshold start m found)) where
    head_short : length (head_text (certificate_of dir stay label threshold start m found)) ≤ 900
    head_short =
        let limit = fits.limit in
        let p : 2 ^ 20 < 2 ^ 32 = lit< tt in
        let a = length-append (line (claim_text (witness dir stay label threshold))) (line (states_text (states_of m)) ++ line (init_text (Start start))) in
        let b = length-append (line (states_text (states_of m))) (line (init_text (Start start))) in
        let x = line_length (claim_text (witness dir stay label threshold)) in
        let y = line_length (states_text (states_of m)) in
        let z = line_length (init_text (Start start)) in
        let c = claim_short dir stay label threshold fits.names fits.claim_width in
        let s = states_short (states_of m) (omega (arith, p, limit)) in
        let i = init_short (Start start) (omega (arith, p, limit, inside)) tt in
        omega (arith, a, b, x, y, z, c, s, i)

    whole_short : (lines : List ℕ) → length lines ≤ 400 * states_of m + 4
        → length (line (codes "mdp-certificate 2") ++ (head_text (certificate_of dir stay label threshold start m found) ++ lines)) ≤ 2 ^ 30
    whole_short lines k =
        let head = head_text (certificate_of dir stay label threshold start m found) in
        let a = length-append (line (codes "mdp-certificate 2")) (head ++ lines) in
        let b = length-append head lines in
        let h = head_short in
        let limit = fits.limit in
        let p : 400 * 2 ^ 20 + 1000 < 2 ^ 30 = lit< tt in
        omega (arith, a, b, h, k, limit, p)

  pub flow_text_short : (kept : List ℕ) (wide : List Bool) (flows : List Flow) → Fits (certificate_of dir stay label threshold start m (flow kept wide flows)) → IsFlowShape m kept wide flows
      → length flows ≤ states_of m → length (text_of (certificate_of dir stay label threshold start m (flow kept wide flows))) ≤ 2 ^ 30
  unfolding text_in
  flow_text_short kept wide flows fits shape few =
      let lines = flow_lines kept wide flows in
      let each = append_each (IsShortLine flow_listed) (keep_lines kept wide) (flow_lines [] [] flows) (keep_lines_short kept wide (below_32 (states_of m) kept fits.limit shape.kept_in_range))
      (send_lines_short flows (flows_below_32 (states_of m) flows fits.limit shape.flows_in_range) (recursion_from_All IsFlowInWidth flows fits.body_width)) in
      let l = listed_short flow_listed lines each in
      let a = length-append (keep_lines kept wide) (flow_lines [] [] flows) in
      let b = send_lines_count flows in
      let k = keep_lines_few kept wide in
      let n = kept_few (states_of m) kept shape.kept_ascends shape.kept_in_range in
      whole_short (flow kept wide flows) fits (listed_lines flow_listed lines) (omega (arith, l, a, b, k, n, few))

  pub floor_text_short : (kept : List ℕ) (wide : List Bool) (values : List ℚ) (ranks : List ℕ) → Fits (certificate_of dir stay label threshold start m (floor kept wide values ranks))
      → IsFloorShape m kept wide values ranks → length (text_of (certificate_of dir stay label threshold start m (floor kept wide values ranks))) ≤ 2 ^ 30
  unfolding text_in
  floor_text_short kept wide values ranks fits shape =
      let lines = floor_lines kept wide values ranks in
      let each = floor_lines_short kept wide values ranks (below_32 (states_of m) kept fits.limit shape.kept_in_range) (recursion_from_All IsNarrow values fits.body_width.0)
      (recursion_from_All (λ r. r < 2 ^ 32) ranks fits.body_width.1) in
      let l = listed_short floor_listed lines each in
      let k = floor_lines_few kept wide values ranks in
      let n = kept_few (states_of m) kept shape.kept_ascends shape.kept_in_range in
      whole_short (floor kept wide values ranks) fits (listed_lines floor_listed lines) (omega (arith, l, k, n))

  -- so is the text of a subsystem that a query ends with
  pub witness_text_short : (d : Dir) (found : PlainSubsystem) → Fits (certificate_of dir stay label threshold start m found) → HasShape d m found → HasFewFlows m found
      → length (text_of (certificate_of dir stay label threshold start m found)) ≤ 2 ^ 30
  witness_text_short Max (flow kept wide flows) fits shape few = flow_text_short kept wide flows fits shape few
  witness_text_short Max (floor kept wide values ranks) fits shape few = absurd shape
  witness_text_short Min (flow kept wide flows) fits shape few = absurd shape
  witness_text_short Min (floor kept wide values ranks) fits shape few = floor_text_short kept wide values ranks fits shape
