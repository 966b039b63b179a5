-- The text of a layered model has at most 2^30 bytes.
use Rattle.std.proofs.Common.{◌≡◌, ℕ, zero, suc, ◌+◌, ◌*◌, ◌<◌, ◌≤◌, ◌^◌, min, max, Bool, true, false, cond}
use Rattle.std.proofs.{Common.{eqb, List, [], ◌∷◌, ◌++◌, length, map, codes, decimal, refl, ap, ◌∙◌, sym, subst, arith, lit<}, lemmas.Fmt.{length-decimal-le}}
use Rattle.std.proofs.lemmas.List.{length-append}
use Rattle.std.specs.List.{range_with_len}
use Rattle.mdp_drn.specs.Writing.{states_text}
use Rattle.mdp_gen.specs.{Draws.{next, draw}, Layered.{IsShape, target, state_behind, of_states, layer_states}, Text.{generated_text}}
use Rattle.mdp_gen.specs.Pieces.{header_text, entry_text, row_text, choice_line_text, choice_text, state_line_text, initial_text, drawn_text, state_text, loop_text}
use Rattle.mdp_gen.proofs.{Rows.{target-below}, Written.{states-one, text-parts}}

number-short : (n : ℕ) → n < 2 ^ 32 → length (decimal n) ≤ 10
number-short n h = let p : 2 ^ 32 < 10 ^ 10 = lit< tt in let q : 2 ^ 32 < 2 ^ 64 = lit< tt in length-decimal-le 10 n (omega arith) (omega (arith, p, h)) (omega (arith, q, h))

entry-short : (a : ℕ) (prob : List ℕ) → a < 2 ^ 32 → length prob ≤ 3 → length (entry_text a prob) ≤ 20
entry-short a prob h l = let n = number-short a h in simp length-append (omega arith)

row-short : (a b : ℕ) → a < 2 ^ 32 → b < 2 ^ 32 → length (row_text a b) ≤ 40
row-short a b h k = by (eqb a b)
  where
    by : (t : Bool) → length (cond t (entry_text a (codes "1")) (entry_text (min a b) (codes "1/2") ++ entry_text (max a b) (codes "1/2"))) ≤ 40
    by true = let l = entry-short a (codes "1") h (omega arith) in omega (arith, l)
    by false =
        let l = entry-short (min a b) (codes "1/2") (omega arith) (omega arith) in
        let m = entry-short (max a b) (codes "1/2") (omega arith) (omega arith) in
        let e = length-append (entry_text (min a b) (codes "1/2")) (entry_text (max a b) (codes "1/2")) in
        omega (arith, l, m, e)

choice-short : (c a b : ℕ) → c < 2 ^ 32 → a < 2 ^ 32 → b < 2 ^ 32 → length (choice_text c a b) ≤ 70
choice-short c a b h k l =
    let n = number-short c h in
    let r = row-short a b k l in
    let e : length (choice_text c a b) ≡ length (choice_line_text c) + length (row_text a b) = length-append (choice_line_text c) (row_text a b) in
    let f : length (choice_line_text c) ≤ 30 = simp length-append (omega arith) in
    omega (arith, r, e, f)

line-short : (s : ℕ) (labels : List ℕ) → s < 2 ^ 32 → length labels ≤ 7 → length (state_line_text s labels) ≤ 30
line-short s labels h l = let n = number-short s h in simp length-append (omega arith)

initial-short : (s : ℕ) → length (initial_text s) ≤ 7
initial-short s = by (eqb s 0)
  where
    by : (b : Bool) → length (cond b (codes " \"init\"") []) ≤ 7
    by true = omega arith
    by false = omega arith

target-short : (layers width s d : ℕ) → IsShape layers width → target layers width s d < 2 ^ 32
target-short layers width s d shape = let t = target-below layers width s d shape in let few = shape.few_states in omega (arith, t, few)

state-short : (layers width s x : ℕ) → IsShape layers width → s < 2 ^ 32 → length (state_text layers width s x) ≤ 170
state-short layers width s x shape h =
    let a = next x in
    let b = next a in
    let c = next b in
    let d = next c in
    let t = target-short layers width s in
    let l = line-short s (initial_text s) h (initial-short s) in
    let p = choice-short 0 (target layers width s a) (target layers width s b) (omega arith) (t a shape) (t b shape) in
    let q = choice-short 1 (target layers width s c) (target layers width s d) (omega arith) (t c shape) (t d shape) in
    let e = length-append (state_line_text s (initial_text s) ++ drawn_text layers width s 0 a b) (drawn_text layers width s 1 c d) in
    let f = length-append (state_line_text s (initial_text s)) (drawn_text layers width s 0 a b) in
    omega (arith, l, p, q, e, f)

loop-short : (s : ℕ) (labels : List ℕ) → s < 2 ^ 32 → length labels ≤ 7 → length (loop_text s labels) ≤ 100
loop-short s labels h l =
    let a = line-short s labels h l in
    let b = choice-short 0 s s (omega arith) h h in
    let e = length-append (state_line_text s labels) (choice_text 0 s s) in
    omega (arith, a, b, e)

header-short : (n c : ℕ) → n < 2 ^ 32 → c < 2 ^ 32 → length (header_text n c) ≤ 100
header-short n c h k = let a = number-short n h in let b = number-short c k in simp length-append (omega arith)

module _ (number layers width : ℕ) (shape : IsShape layers width) where
  layers-short : (s n : ℕ) → s + n ≤ layers * width → length (states_text (of_states []) s (map (λ k. state_behind layers width k (draw number (4 * k))) (range_with_len s n))) ≤ 170 * n
  layers-short s zero h = omega arith
  layers-short s (suc n) h =
      let few = shape.few_states in
      let state = λ (k : ℕ). state_behind layers width k (draw number (4 * k)) in
      let f : s + 1 ≡ suc s = omega arith in
      let rest = subst (λ (k : ℕ). length (states_text (of_states []) k (map state (range_with_len (s + 1) n))) ≤ 170 * n) f (layers-short (s + 1) n (omega arith)) in
      let one = state-short layers width s (draw number (4 * s)) shape (omega (arith, few)) in
      let e = ap (λ (t : List ℕ). length t) (states-one layers width s (draw number (4 * s)) (map state (range_with_len (s + 1) n))) in
      let g = length-append (state_text layers width s (draw number (4 * s))) (states_text (of_states []) (suc s) (map state (range_with_len (s + 1) n))) in
      omega (arith, rest, one, e, g)

  pub text-short : length (generated_text number layers width) ≤ 2 ^ 30
  text-short =
      let few = shape.few_states in
      let header = header_text (layers * width + 2) (2 * (layers * width) + 2) in
      let states = states_text (of_states []) 0 (layer_states number layers width) in
      let goal = loop_text (layers * width) (codes " \"goal\"") in
      let failing = loop_text (layers * width + 1) [] in
      let a = header-short (layers * width + 2) (2 * (layers * width) + 2) (omega (arith, few)) (omega (arith, few)) in
      let b = layers-short 0 (layers * width) (omega arith) in
      let c = loop-short (layers * width) (codes " \"goal\"") (omega (arith, few)) (omega arith) in
      let d = loop-short (layers * width + 1) [] (omega (arith, few)) (omega arith) in
      let e = length-append (header ++ states ++ goal) failing in
      let f = length-append (header ++ states) goal in
      let g = length-append header states in
      let h : length (header ++ states ++ goal ++ failing) ≡ length (generated_text number layers width) = ap (λ (t : List ℕ). length t) (text-parts number layers width) in
      omega (arith, few, a, b, c, d, e, f, g, h)
