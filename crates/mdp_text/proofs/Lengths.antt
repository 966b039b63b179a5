-- How long words and lines are.
use Rattle.std.proofs.Common.{◌≡◌, ℕ, suc, ◌+◌, ◌<◌, ◌≤◌, ◌^◌, Bool, true, false, cond, eqb, List}
use Rattle.std.proofs.{Common.{[], ◌∷◌, ◌++◌, length, codes, decimal, refl, arith, lit<, ℤ, pos, negsuc, unsigned_abs}, lemmas.Bool.{and_parts, leb-true}}
use Rattle.std.proofs.{lemmas.Fmt.{length-decimal-le, length-decimal-le_wide}, lemmas.List.{length-append}}
use Rattle.std.specs.Fmt.{signed_decimal}
use Rattle.mdp_math.specs.Rational.{ℚ}
use Rattle.mdp_num.specs.Value.{spelling, IsNarrow}
use Rattle.mdp_rows.specs.{Name.{is_name}, declared.dir.Dir.{Dir}, declared.dir.Dir.TheVariants.{Max, Min}}
use Rattle.mdp_text.specs.{declared.init.Init.{Init}, declared.init.Init.TheVariants.{Missing, Finite, Infinite, Start}, Heads.{IsInitInWidth}}
use Rattle.mdp_text.specs.Spelling.{line, ◌␣◌, quoted, dir_text, states_text, init_text}

-- ---- words

pub number_short : (n : ℕ) → n < 2 ^ 32 → length (decimal n) ≤ 10
number_short n h = let p : 2 ^ 32 < 10 ^ 10 = lit< tt in let q : 2 ^ 32 < 2 ^ 64 = lit< tt in length-decimal-le 10 n (omega arith) (omega (arith, p, h)) (omega (arith, q, h))

pub term_short : (n : ℕ) → n < 2 ^ 127 → length (decimal n) ≤ 39
term_short n h = let p : 2 ^ 127 < 10 ^ 39 = lit< tt in let q : 2 ^ 127 < 10 ^ 64 = lit< tt in length-decimal-le_wide 39 n (omega arith) (omega (arith, p, h)) (omega (arith, q, h))

pub signed_short : (z : ℤ) → unsigned_abs z < 2 ^ 127 → length (signed_decimal z) ≤ 40
signed_short (pos n) h = let l = term_short n h in omega (arith, l)
signed_short (negsuc n) h = let l = term_short (suc n) h in omega (arith, l)

pub spelling_short : (x : ℚ) → IsNarrow x → length (spelling x) ≤ 80
unfolding spelling
spelling_short x h = by (eqb x.den 1)
  where
    by : (b : Bool) → length (cond b (signed_decimal x.num) (signed_decimal x.num ++ 47 ∷ decimal x.den)) ≤ 80
    by true = let l = signed_short x.num h.top in omega (arith, l)
    by false = let l = signed_short x.num h.top in let k = term_short x.den h.bottom in let e = length-append (signed_decimal x.num) (47 ∷ decimal x.den) in omega (arith, l, k, e)

pub blank_length : (a b : List ℕ) → length (a ␣ b) ≡ length a + (1 + length b)
blank_length a b = let e = length-append a (32 ∷ b) in omega (arith, e)

pub line_length : (a : List ℕ) → length (line a) ≡ length a + 1
line_length a = length-append a (10 ∷ [])

-- ---- the lines before those of the states

pub name_short : (name : List ℕ) → is_name name ≡ true → length name ≤ 255
name_short name h = leb-true (length name) 255 (and_parts _ _ (and_parts _ _ h).0).1

pub dir_length : (dir : Dir) → length (dir_text dir) ≡ 3
dir_length Max = refl
dir_length Min = refl

pub quoted_length : (name : List ℕ) → length (quoted name) ≡ length name + 2
quoted_length name = let d = length-append name (34 ∷ []) in omega (arith, d)

pub states_short : (n : ℕ) → n < 2 ^ 32 → length (states_text n) ≤ 30
states_short n h = let a = blank_length (codes "states") (decimal n) in let l = number_short n h in omega (arith, a, l)

-- the number of the initial state is short
abbrev pub IsShortInit : Init → Type 0
IsShortInit Missing = Unit {0}
IsShortInit (Finite state value) = state < 2 ^ 32
IsShortInit (Infinite state) = state < 2 ^ 32
IsShortInit (Start state) = state < 2 ^ 32

pub init_short : (init : Init) → IsShortInit init → IsInitInWidth init → length (init_text init) ≤ 150
init_short Missing h w = omega arith
init_short (Finite state value) h w =
    let a = blank_length (codes "init") (decimal state ␣ spelling value) in
    let b = blank_length (decimal state) (spelling value) in
    let l = number_short state h in
    let v = spelling_short value w in
    omega (arith, a, b, l, v)
init_short (Infinite state) h w =
    let a = blank_length (codes "init") (decimal state ␣ codes "inf") in
    let b = blank_length (decimal state) (codes "inf") in
    let l = number_short state h in
    omega (arith, a, b, l)
init_short (Start state) h w = let a = blank_length (codes "init") (decimal state) in let l = number_short state h in omega (arith, a, l)
