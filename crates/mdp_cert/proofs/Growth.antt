-- A text that grows line by line.
use Rattle.std.proofs.Common.{◌≡◌, ℕ, suc, ◌+◌, ◌-◌, ◌<◌, ◌≤◌, List, [], ◌∷◌, ◌++◌, length, drop}
use Rattle.std.proofs.{Common.{get_or, refl, sym, ap, ◌∙◌, append_assoc, arith, Bool, true, eqb, ◌&&◌, Option, None}, Math.Seq.{drop-cons}}
use Rattle.std.proofs.{lemmas.List.{drop_all, drop-drop, length-drop, length-map}, lemmas.Bool.{and_parts}}
use Rattle.mdp_math.specs.Rational.{ℚ}
use Rattle.mdp_cert.specs.{declared.version.Version.{Version}, declared.version.Version.TheVariants.{One, Two}}
use Rattle.mdp_cert.specs.Cert.{PlainClaim, upper, reach, until, reward, mean, witness, bounds, policy, rewards, gains, flow, floor, are_kept, are_flows, is_body_of}
use Rattle.mdp_cert.specs.{declared.flow_line.FlowLine.TheVariants.{Send}, Witness.{flow_lines, floor_lines}, Runs.{Columns, run, longest_runs, runs_in}}
use Rattle.mdp_cert.specs.{Spelling.{run_text, run_lines}, Answer.{more_in}}
use Rattle.mdp_rows.specs.declared.dir.Dir.TheVariants.{Max, Min}
use Rattle.mdp_claims.specs.declared.subsystem.Flow.{Flow}
use Rattle.mdp_text.specs.Spelling.{line}
use Rattle.mdp_text.proofs.Cuts.{number-same}
use Rattle.mdp_cert.proofs.Runs.{runs-first, more-inside}

-- ---- one line more

module _ {A : Type 0} (k : Columns A) (v : Version) where
  next-line : (xs ys : List A) (first last : ℕ) (x : A) → drop first xs ≡ x ∷ ys → last ≡ first + more_in v k (x ∷ ys)
      → run_lines k first (runs_in v k (drop first xs)) ≡ line (run_text k first (run x (last - first))) ++ run_lines k (last + 1) (runs_in v k (drop (last + 1) xs))
  unfolding run_lines
  next-line xs ys first last x e l =
      let more : more_in v k (x ∷ ys) ≡ last - first = omega arith in
      let next : first + (last - first) + 1 ≡ last + 1 = omega arith in
      let steps : suc first + (last - first) ≡ last + 1 = omega arith in
      let tail : drop (suc first) xs ≡ ys = behind xs first e in
      let rest : drop (last - first) ys ≡ drop (last + 1) xs = ap (drop (last - first)) (sym tail) ∙ drop-drop (last - first) (suc first) xs ∙ ap (λ (n : ℕ). drop n xs) steps in
      rw (e, runs-first k v x ys, more, rest, next) refl
    where
      behind : (zs : List A) (n : ℕ) → drop n zs ≡ x ∷ ys → drop (suc n) zs ≡ ys
      behind zs n e = let one : suc n ≡ n + 1 = omega arith in ap (λ (m : ℕ). drop m zs) one ∙ sym (drop-drop 1 n zs) ∙ ap (drop 1) e

  at-first : (xs : List A) (first : ℕ) (x : A) → first < length xs → x ≡ get_or xs first x → drop first xs ≡ x ∷ drop (suc first) xs
  at-first xs first x lt is = drop-cons xs first x lt ∙ ap (λ (y : A). y ∷ drop (suc first) xs) (sym is)

  pub lines-written : (out new total : List ℕ) (xs : List A) (first last : ℕ) (x : A) → first < length xs → x ≡ get_or xs first x
      → last ≡ first + more_in v k (drop first xs) → out ++ run_lines k first (runs_in v k (drop first xs)) ≡ total
      → new ≡ out ++ line (run_text k first (run x (last - first))) → new ++ run_lines k (last + 1) (runs_in v k (drop (last + 1) xs)) ≡ total
  lines-written out new total xs first last x lt is l e made =
      let f = at-first xs first x lt is in
      let m : last ≡ first + more_in v k (x ∷ drop (suc first) xs) = l ∙ ap (λ (zs : List A). first + more_in v k zs) f in
      ap (λ (t : List ℕ). t ++ run_lines k (last + 1) (runs_in v k (drop (last + 1) xs))) made
      ∙ append_assoc out (line (run_text k first (run x (last - first)))) (run_lines k (last + 1) (runs_in v k (drop (last + 1) xs)))
      ∙ ap (λ (t : List ℕ). out ++ t) (sym (next-line xs (drop (suc first) xs) first last x f m)) ∙ e

  pub last-inside : (xs : List A) (first last : ℕ) → first < length xs → last ≡ first + more_in v k (drop first xs) → last < length xs
  last-inside xs first last lt l = by (drop first xs) refl
    where
      by : (ys : List A) → drop first xs ≡ ys → last < length xs
      by [] e = absurd (omega (arith, length-drop first xs, ap (λ (zs : List A). length zs) e))
      by (y ∷ ys) e = omega (arith, more-inside k v y ys, length-drop first xs, ap (λ (zs : List A). length zs) e, ap (λ (zs : List A). more_in v k zs) e)

  pub written-all : (xs : List A) (first : ℕ) → length xs ≤ first → run_lines k first (runs_in v k (drop first xs)) ≡ []
  unfolding run_lines longest_runs
  written-all xs first le = rw drop_all (by v)
    where
      by : (w : Version) → run_lines k first (runs_in w k []) ≡ []
      by One = refl
      by Two = refl

-- ---- a body has an entry per state, or one per kept state

pub bounds-entries : (claim : PlainClaim) (states : ℕ) (zs : List ℚ) → is_body_of claim states (bounds zs) ≡ true → length zs ≡ states
bounds-entries (upper label) states zs e = number-same _ states e
bounds-entries (reach dir label) states zs e = absurd cc
bounds-entries (until dir stay label) states zs e = absurd cc
bounds-entries (reward dir name label) states zs e = absurd cc
bounds-entries (mean dir name) states zs e = absurd cc
bounds-entries (witness Max stay label t) states zs e = absurd cc
bounds-entries (witness Min stay label t) states zs e = absurd cc

-- as many values, choices and ranks as states
pub record Entries {V : Type 0} (states : ℕ) (zs : List V) (cs rs : List ℕ) : Type 0 where
  pub values : length zs ≡ states
  pub choices : length cs ≡ states
  pub ranks : length rs ≡ states

pub three-entries : {V : Type 0} (states : ℕ) (zs : List V) (cs rs : List ℕ) → (eqb (length zs) states && eqb (length cs) states && eqb (length rs) states) ≡ true → Entries states zs cs rs
three-entries states zs cs rs e =
    let t = and_parts (eqb (length zs) states && eqb (length cs) states) (eqb (length rs) states) e in
    let u = and_parts (eqb (length zs) states) (eqb (length cs) states) t.0 in
    record { values = number-same _ states u.0; choices = number-same _ states u.1; ranks = number-same _ states t.1 }

pub policy-entries : (claim : PlainClaim) (states : ℕ) (zs : List ℚ) (cs rs : List ℕ) → is_body_of claim states (policy zs cs rs) ≡ true → Entries states zs cs rs
policy-entries (upper label) states zs cs rs e = absurd cc
policy-entries (reach dir label) states zs cs rs e = three-entries states zs cs rs e
policy-entries (until dir stay label) states zs cs rs e = three-entries states zs cs rs e
policy-entries (reward dir name label) states zs cs rs e = absurd cc
policy-entries (mean dir name) states zs cs rs e = absurd cc
policy-entries (witness Max stay label t) states zs cs rs e = absurd cc
policy-entries (witness Min stay label t) states zs cs rs e = absurd cc

pub reward-entries : (claim : PlainClaim) (states : ℕ) (vs : List (Option ℚ)) (cs rs : List ℕ) → is_body_of claim states (rewards vs cs rs) ≡ true → Entries states vs cs rs
reward-entries (upper label) states vs cs rs e = absurd cc
reward-entries (reach dir label) states vs cs rs e = absurd cc
reward-entries (until dir stay label) states vs cs rs e = absurd cc
reward-entries (reward dir name label) states vs cs rs e = three-entries states vs cs rs e
reward-entries (mean dir name) states vs cs rs e = absurd cc
reward-entries (witness Max stay label t) states vs cs rs e = absurd cc
reward-entries (witness Min stay label t) states vs cs rs e = absurd cc

-- as many gains, bounds, biases and choices as states
pub record MeanEntries (states : ℕ) (gs zs bs : List ℚ) (cs : List ℕ) : Type 0 where
  pub gains : length gs ≡ states
  pub bounds : length zs ≡ states
  pub biases : length bs ≡ states
  pub choices : length cs ≡ states

pub four-entries : (states : ℕ) (gs zs bs : List ℚ) (cs : List ℕ) → (eqb (length gs) states && eqb (length zs) states && eqb (length bs) states && eqb (length cs) states) ≡ true
    → MeanEntries states gs zs bs cs
four-entries states gs zs bs cs e =
    let t = and_parts (eqb (length gs) states && eqb (length zs) states && eqb (length bs) states) (eqb (length cs) states) e in
    let u = and_parts (eqb (length gs) states && eqb (length zs) states) (eqb (length bs) states) t.0 in
    let v = and_parts (eqb (length gs) states) (eqb (length zs) states) u.0 in
    record { gains = number-same _ states v.0; bounds = number-same _ states v.1; biases = number-same _ states u.1; choices = number-same _ states t.1 }

pub gains-entries : (claim : PlainClaim) (states : ℕ) (gs zs bs : List ℚ) (cs : List ℕ) (k : ℚ) → is_body_of claim states (gains gs zs bs cs k) ≡ true → MeanEntries states gs zs bs cs
gains-entries (upper label) states gs zs bs cs k e = absurd cc
gains-entries (reach dir label) states gs zs bs cs k e = absurd cc
gains-entries (until dir stay label) states gs zs bs cs k e = absurd cc
gains-entries (reward dir name label) states gs zs bs cs k e = absurd cc
gains-entries (mean dir name) states gs zs bs cs k e = four-entries states gs zs bs cs e
gains-entries (witness Max stay label t) states gs zs bs cs k e = absurd cc
gains-entries (witness Min stay label t) states gs zs bs cs k e = absurd cc

pub flow-lists : (claim : PlainClaim) (states : ℕ) (kept : List ℕ) (wide : List Bool) (flows : List Flow) → is_body_of claim states (flow kept wide flows) ≡ true
    → (are_kept states None kept && eqb (length wide) (length kept) && are_flows states None flows) ≡ true
flow-lists (upper label) states kept wide flows e = absurd cc
flow-lists (reach dir label) states kept wide flows e = absurd cc
flow-lists (until dir stay label) states kept wide flows e = absurd cc
flow-lists (reward dir name label) states kept wide flows e = absurd cc
flow-lists (mean dir name) states kept wide flows e = absurd cc
flow-lists (witness Max stay label t) states kept wide flows e = e
flow-lists (witness Min stay label t) states kept wide flows e = absurd cc

-- as many lines as kept states and flows
pub flow-count : (kept : List ℕ) (wide : List Bool) (flows : List Flow) → length wide ≡ length kept → length (flow_lines kept wide flows) ≡ length kept + length flows
flow-count [] wide flows e = omega (arith, length-map flows (λ (f : Flow). Send f))
flow-count (s ∷ kept) [] flows e = absurd (omega arith)
flow-count (s ∷ kept) (w ∷ wide) flows e = omega (arith, flow-count kept wide flows (omega arith))

pub lines-of-flow : (claim : PlainClaim) (states : ℕ) (kept : List ℕ) (wide : List Bool) (flows : List Flow) → is_body_of claim states (flow kept wide flows) ≡ true
    → length (flow_lines kept wide flows) ≡ length kept + length flows
lines-of-flow claim states kept wide flows e =
    let p = and_parts (are_kept states None kept && eqb (length wide) (length kept)) (are_flows states None flows) (flow-lists claim states kept wide flows e) in
    let q = and_parts (are_kept states None kept) (eqb (length wide) (length kept)) p.0 in
    flow-count kept wide flows (number-same _ _ q.1)

pub floor-lists : (claim : PlainClaim) (states : ℕ) (kept : List ℕ) (wide : List Bool) (values : List ℚ) (ranks : List ℕ) → is_body_of claim states (floor kept wide values ranks) ≡ true
    → (are_kept states None kept && eqb (length wide) (length kept) && eqb (length values) (length kept) && eqb (length ranks) (length kept)) ≡ true
floor-lists (upper label) states kept wide values ranks e = absurd cc
floor-lists (reach dir label) states kept wide values ranks e = absurd cc
floor-lists (until dir stay label) states kept wide values ranks e = absurd cc
floor-lists (reward dir name label) states kept wide values ranks e = absurd cc
floor-lists (mean dir name) states kept wide values ranks e = absurd cc
floor-lists (witness Max stay label t) states kept wide values ranks e = absurd cc
floor-lists (witness Min stay label t) states kept wide values ranks e = e

-- as many lines as kept states
floor-count : (kept : List ℕ) (wide : List Bool) (values : List ℚ) (ranks : List ℕ) → length wide ≡ length kept → length values ≡ length kept → length ranks ≡ length kept
    → length (floor_lines kept wide values ranks) ≡ length kept
floor-count [] wide values ranks p q o = refl
floor-count (s ∷ kept) (w ∷ wide) (z ∷ values) (r ∷ ranks) p q o = ap suc (floor-count kept wide values ranks (omega arith) (omega arith) (omega arith))
floor-count (s ∷ kept) wide values ranks p q o = absurd (omega arith)

pub lines-of-floor : (claim : PlainClaim) (states : ℕ) (kept : List ℕ) (wide : List Bool) (values : List ℚ) (ranks : List ℕ) → is_body_of claim states (floor kept wide values ranks) ≡ true
    → length (floor_lines kept wide values ranks) ≡ length kept
lines-of-floor claim states kept wide values ranks e =
    let p = and_parts (are_kept states None kept && eqb (length wide) (length kept) && eqb (length values) (length kept)) (eqb (length ranks) (length kept))
    (floor-lists claim states kept wide values ranks e) in
    let q = and_parts (are_kept states None kept && eqb (length wide) (length kept)) (eqb (length values) (length kept)) p.0 in
    let r = and_parts (are_kept states None kept) (eqb (length wide) (length kept)) q.0 in
    floor-count kept wide values ranks (number-same _ _ r.1) (number-same _ _ q.1) (number-same _ _ p.1)
