-- The line of each place of a subsystem's lists.
use Rattle.std.proofs.Common.{◌≡◌, ℕ, zero, suc, ◌-◌, ◌<◌, ◌≤◌, min, Bool, List, [], ◌∷◌, ◌++◌, length, map, get_or, refl, sym, ap, ◌∙◌, arith}
use Rattle.std.proofs.{lemmas.Bool.Decides.{nat_tests}, lemmas.List.{length-append, length-map}}
use Rattle.mdp_math.specs.Rational.{ℚ}
use Rattle.mdp_claims.specs.declared.subsystem.Flow.{Flow}
use Rattle.mdp_cert.specs.{declared.flow_line.FlowLine.{FlowLine}, declared.flow_line.FlowLine.TheVariants.{Keep, Send}}
use Rattle.mdp_cert.specs.{declared.floor_line.FloorLine.{FloorLine}, Witness.{keep_lines, flow_lines, floor_lines}}

-- ---- for `max`

pub keep-count : (kept : List ℕ) (wide : List Bool) → length (keep_lines kept wide) ≡ min (length kept) (length wide)
keep-count [] wide = grind (arith, nat_tests)
keep-count (s ∷ kept) [] = grind (arith, nat_tests)
keep-count (s ∷ kept) (w ∷ wide) = let e = keep-count kept wide in grind (arith, nat_tests)

pub keep-inside : (kept : List ℕ) (wide : List Bool) (i : ℕ) → i < length (keep_lines kept wide) → (i < length kept) × (i < length wide)
keep-inside [] wide i h = absurd (omega arith)
keep-inside (s ∷ kept) [] i h = absurd (omega arith)
keep-inside (s ∷ kept) (w ∷ wide) zero h = (omega arith, omega arith)
keep-inside (s ∷ kept) (w ∷ wide) (suc i) h = let p = keep-inside kept wide i (omega arith) in (omega (arith, p.0), omega (arith, p.1))

pub keep-at : (kept : List ℕ) (wide : List Bool) (flows : List Flow) (i s : ℕ) (w : Bool) (d : FlowLine) → i < length (keep_lines kept wide) → s ≡ get_or kept i s → w ≡ get_or wide i w
    → Keep s w ≡ get_or (flow_lines kept wide flows) i d
keep-at [] wide flows i s w d h p q = absurd (omega arith)
keep-at (t ∷ kept) [] flows i s w d h p q = absurd (omega arith)
keep-at (t ∷ kept) (u ∷ wide) flows zero s w d h p q = rw (p, q) refl
keep-at (t ∷ kept) (u ∷ wide) flows (suc i) s w d h p q = keep-at kept wide flows i s w d (omega arith) p q

pub sent-inside : (kept : List ℕ) (wide : List Bool) (flows : List Flow) (i : ℕ) → length (keep_lines kept wide) ≤ i → i < length (flow_lines kept wide flows)
    → i - length (keep_lines kept wide) < length flows
sent-inside kept wide flows i le lt = omega (arith, length-append (keep_lines kept wide) (map (λ f. Send f) flows), length-map flows (λ (f : Flow). Send f))

sent-first : (flows : List Flow) (i : ℕ) (f : Flow) (d : FlowLine) → i < length flows → f ≡ get_or flows i f → Send f ≡ get_or (map (λ g. Send g) flows) i d
sent-first [] i f d h p = absurd (omega arith)
sent-first (g ∷ flows) zero f d h p = ap (λ (x : Flow). Send x) p
sent-first (g ∷ flows) (suc i) f d h p = sent-first flows i f d (omega arith) p

behind : (xs ys : List FlowLine) (i : ℕ) (d : FlowLine) → length xs ≤ i → get_or (xs ++ ys) i d ≡ get_or ys (i - length xs) d
behind [] ys i d h = let all : i - 0 ≡ i = omega arith in rw all refl
behind (x ∷ xs) ys zero d h = absurd (omega arith)
behind (x ∷ xs) ys (suc i) d h = let less : suc i - suc (length xs) ≡ i - length xs = omega arith in rw less (behind xs ys i d (omega arith))

pub sent-at : (kept : List ℕ) (wide : List Bool) (flows : List Flow) (i : ℕ) (f : Flow) (d : FlowLine) → length (keep_lines kept wide) ≤ i → i < length (flow_lines kept wide flows)
    → f ≡ get_or flows (i - length (keep_lines kept wide)) f → Send f ≡ get_or (flow_lines kept wide flows) i d
sent-at kept wide flows i f d le lt p =
    sent-first flows (i - length (keep_lines kept wide)) f d (sent-inside kept wide flows i le lt) p ∙ sym (behind (keep_lines kept wide) (map (λ g. Send g) flows) i d le)

-- ---- for `min`

pub record FloorInside (kept : List ℕ) (wide : List Bool) (values : List ℚ) (ranks : List ℕ) (i : ℕ) : Type 0 where
  pub in_kept : i < length kept
  pub in_wide : i < length wide
  pub in_values : i < length values
  pub in_ranks : i < length ranks

pub floor-inside : (kept : List ℕ) (wide : List Bool) (values : List ℚ) (ranks : List ℕ) (i : ℕ) → i < length (floor_lines kept wide values ranks) → FloorInside kept wide values ranks i
floor-inside (s ∷ kept) (w ∷ wide) (z ∷ values) (r ∷ ranks) zero h =
    record { in_kept = omega arith; in_wide = omega arith; in_values = omega arith; in_ranks = omega arith }
floor-inside (s ∷ kept) (w ∷ wide) (z ∷ values) (r ∷ ranks) (suc i) h =
    let p = floor-inside kept wide values ranks i (omega arith) in
    record { in_kept = omega (arith, p.in_kept); in_wide = omega (arith, p.in_wide); in_values = omega (arith, p.in_values); in_ranks = omega (arith, p.in_ranks) }
floor-inside kept wide values ranks i h = absurd (omega arith)

pub floor-at : (kept : List ℕ) (wide : List Bool) (values : List ℚ) (ranks : List ℕ) (i s : ℕ) (w : Bool) (z : ℚ) (r : ℕ) (d : FloorLine) → i < length (floor_lines kept wide values ranks)
    → s ≡ get_or kept i s → w ≡ get_or wide i w → z ≡ get_or values i z → r ≡ get_or ranks i r
    → (let x : FloorLine = record { state = s; value = z; rank = r; wide = w } in x) ≡ get_or (floor_lines kept wide values ranks) i d
floor-at (t ∷ kept) (u ∷ wide) (y ∷ values) (q ∷ ranks) zero s w z r d h a b e f = rw (a, b, e, f) refl
floor-at (t ∷ kept) (u ∷ wide) (y ∷ values) (q ∷ ranks) (suc i) s w z r d h a b e f = floor-at kept wide values ranks i s w z r d (omega arith) a b e f
floor-at kept wide values ranks i s w z r d h a b e f = absurd (omega arith)
