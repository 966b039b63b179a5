-- Cases and tests on whole numbers.
use Rattle.std.proofs.Common.{◌≡◌, ℕ, suc, ◌<◌, ◌≤◌, ◌⊎◌, true, false, eqb, arith}

-- a number below n + 1 is n or below n
pub last_or : (n s : ℕ) → s < suc n → (s ≡ n) ⊎ (s < n)
last_or n s h = grind arith

pub le_or : (n k : ℕ) → (n ≤ k) ⊎ (k < n)
le_or n k = grind arith

pub eqb-same : (n : ℕ) → eqb n n ≡ true
eqb-same n = grind arith

pub eqb-smaller : (k n : ℕ) → k < n → eqb k n ≡ false
eqb-smaller k n h = grind arith

pub eqb-greater : (k n : ℕ) → n < k → eqb k n ≡ false
eqb-greater k n h = grind arith
