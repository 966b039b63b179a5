-- How great a number of few digits can be.
use Rattle.std.proofs.Common.{◌≡◌, ℕ, suc, ◌+◌, ◌-◌, ◌*◌, ◌^◌, ◌<◌, ◌≤◌, true, List, [], ◌∷◌, length, min, nat_lt, ◌==◌, ap, arith}
use Rattle.std.proofs.{lemmas.Bool.Decides.{nat_tests}, Math.Nat.{pow-zero, pow-succ', pow-le-pow_right, mul_assoc, mul-le-mul_right}}
use Rattle.std.specs.{Char.{is_ascii_digit}, List.{prefix_len, list_all}}
use Rattle.mdp_math.proofs.Booleans.{and-left, and-right}
use Rattle.mdp_num.specs.Digits.{number_after, number, is_digits}
use Rattle.mdp_num.proofs.Plain.{digit-bounds}
use Rattle.mdp_drn.proofs.TextWritten.Bytes.{Pass, all-prefix}

number_after-below : (n : ℕ) (ds : List ℕ) → Pass is_ascii_digit ds → number_after n ds < suc n * 10 ^ length ds
number_after-below n [] p = let e = pow-zero 10 in omega (arith, e)
number_after-below n (c ∷ cs) p =
    let bounds = digit-bounds c (and-left (is_ascii_digit c) (list_all is_ascii_digit cs) p) in
    let behind = number_after-below (n * 10 + (c - 48)) cs (and-right (is_ascii_digit c) (list_all is_ascii_digit cs) p) in
    let first : suc (n * 10 + (c - 48)) ≤ suc n * 10 = omega (arith, bounds.0, bounds.1) in
    let more = mul-le-mul_right (10 ^ length cs) first in
    let same = mul_assoc (suc n) 10 (10 ^ length cs) in
    let power = ap (λ (k : ℕ). suc n * k) (pow-succ' 10 (length cs)) in
    omega (arith, behind, more, same, power)

-- digits, at most so many, write a number below this power of ten
pub number-below : (most : ℕ) (ds : List ℕ) → is_digits ds ≡ true → length ds ≤ most → number ds < 10 ^ most
number-below most ds are few =
    let test = and-right (nat_lt 0 (length ds)) (prefix_len is_ascii_digit ds == length ds) are in
    let whole : prefix_len is_ascii_digit ds ≡ length ds = grind (arith, nat_tests) in
    let below = number_after-below 0 ds (all-prefix is_ascii_digit ds whole) in
    let more = pow-le-pow_right {n = 10} (omega arith) few in
    omega (arith, below, more)

pub whole_word-is : (most : ℕ) (ds : List ℕ) (n : ℕ) → most ≤ 20 → is_digits ds ≡ true → length ds ≤ most → n ≡ min (number ds) (2 ^ 127) → n ≡ number ds
whole_word-is most ds n short are few is =
    let below = number-below most ds are few in
    let more = pow-le-pow_right {n = 10} (omega arith) short in
    omega (arith, below, more, is)
