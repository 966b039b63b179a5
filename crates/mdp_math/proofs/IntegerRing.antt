-- ℤ as a ring, and its equations by computation.
use Rattle.std.proofs.{Common.{◌≡◌, refl, ℤ, pos, negsuc, ◌+ℤ◌, ◌*ℤ◌, neg_ℤ, arith}, lemmas.Int.{ints}}
use lib.IntN.{+ℤ_assoc, +ℤ_comm, *ℤ_comm, +ℤ_idl, zero-*ℤ}
use Rattle.mdp_math.specs.Integers.{*ℤ_assoc, *ℤ-+ℤ}
use Rattle.mdp_math.proofs.Ring.{CommRing}

pub one-*ℤ : (a : ℤ) → pos 1 *ℤ a ≡ a
one-*ℤ a = omega (arith, ints)

pub minus_one : (a : ℤ) → neg_ℤ a ≡ negsuc 0 *ℤ a
minus_one a = omega (arith, ints)

abbrev pub int_ring : CommRing
int_ring = record {
  El = ℤ;
  add = ◌+ℤ◌;
  mul = ◌*ℤ◌;
  neg = neg_ℤ;
  int = λ z. z;
  add_assoc = +ℤ_assoc;
  add_comm = +ℤ_comm;
  mul_assoc = *ℤ_assoc;
  mul_comm = *ℤ_comm;
  mul-add = *ℤ-+ℤ;
  zero-add = +ℤ_idl;
  zero-mul = zero-*ℤ;
  one-mul = one-*ℤ;
  neg_is = minus_one;
  int_add = λ a b. refl;
  int_mul = λ a b. refl;
}
