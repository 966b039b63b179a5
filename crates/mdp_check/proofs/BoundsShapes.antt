-- The lists of a certificate of bounds that fit its claim have an entry for each state.
use Rattle.std.proofs.{Common.{◌≡◌, ℕ, eqb, eqb-true, ◌&&◌, true}, lemmas.Bool.{and_parts}}

-- four numbers that are all this one
pub record AreFour (n a b c d : ℕ) : Type 0 where
  pub first : a ≡ n
  pub second : b ≡ n
  pub third : c ≡ n
  pub fourth : d ≡ n

pub are_four : (n a b c d : ℕ) → (eqb a n && eqb b n && eqb c n && eqb d n) ≡ true → AreFour n a b c d
are_four n a b c d e =
    let t = and_parts (eqb a n && eqb b n && eqb c n) (eqb d n) e in
    let u = and_parts (eqb a n && eqb b n) (eqb c n) t.0 in
    let v = and_parts (eqb a n) (eqb b n) u.0 in
    record { first = eqb-true a n v.0; second = eqb-true b n v.1; third = eqb-true c n u.1; fourth = eqb-true d n t.1 }

-- and five
pub record AreFive (n a b c d k : ℕ) : Type 0 where
  pub four : AreFour n a b c d
  pub fifth : k ≡ n

pub are_five : (n a b c d k : ℕ) → (eqb a n && eqb b n && eqb c n && eqb d n && eqb k n) ≡ true → AreFive n a b c d k
are_five n a b c d k e =
    let t = and_parts (eqb a n && eqb b n && eqb c n && eqb d n) (eqb k n) e in
    record { four = are_four n a b c d t.0; fifth = eqb-true k n t.1 }
