-- Written sums of biases that are 0.
use Rattle.std.proofs.Common.{◌≡◌, ℕ, ◌<◌, ◌≤◌, ◌⊎◌, inl, inr, List, [], ◌∷◌, length, Option, Some, None, refl, sym, ◌∙◌, ap, subst, arith, zero-add, pos}
use Rattle.std.proofs.{Math.ListN.{get_or-eq_default}, lemmas.List.FromFn.{get_or-map-range_with_len, length-map-range_with_len}}
use Rattle.std.specs.List.{All}
use Rattle.mdp_math.specs.{Rational.{ℚ, ◌+ℚ◌}, Sum.{sum_of}, Written.{written_add, written_mul, ◌>>=◌}}
use Rattle.mdp_math.proofs.{Numbers.{le_or}, Kernel.{weigh-const}, Laws.{rat_ring}, Order.{0ℚ, 1ℚ, ≤ℚ_of_eq}, Ring.{◌⊕◌, ◌⊗◌, lit, ring}}
use Rattle.mdp_spec.specs.{Mdp.{Entry, value_at}, Written.{written_sum}}
use Rattle.mdp_unichain.specs.Evaluation.{mean}
use Rattle.mdp_gain.specs.OnlyTerms.{zeros}
use Rattle.mdp_gain.proofs.Told.{not_zero}

zero_by : (n t : ℕ) → (n ≤ t) ⊎ (t < n) → value_at (zeros n) t ≡ 0ℚ
zero_by n t (inl l) = let k = length-map-range_with_len (λ t. 0ℚ) 0 n in get_or-eq_default (zeros n) 0ℚ (omega (arith, k, l))
zero_by n t (inr l) = get_or-map-range_with_len (λ t. 0ℚ) 0 n t t 0ℚ l (zero-add t)

pub zero-at : (n t : ℕ) → value_at (zeros n) t ≡ 0ℚ
zero-at n t = zero_by n t (le_or n t)

-- there is one for each of the states
pub zeros-length : (n : ℕ) → length (zeros n) ≡ n
zeros-length n = length-map-range_with_len (λ t. 0ℚ) 0 n

pub zeros-cover : (n : ℕ) (ts : List ℕ) → All (λ t. t < n) ts → All (λ t. t < length (zeros n)) ts
zeros-cover n ts h = subst (λ (k : ℕ). All (λ t. t < k) ts) (sym (zeros-length n)) h

then_same : (o : Option ℚ) (f g : ℚ → Option ℚ) → ((x : ℚ) → f x ≡ g x) → (o >>= f) ≡ (o >>= g)
then_same None f g h = refl
then_same (Some x) f g h = h x

zeros-sum : (n : ℕ) (row : List Entry) (acc : ℚ) → written_sum (zeros n) acc row ≡ written_sum [] acc row
zeros-sum n [] acc = refl
zeros-sum n (x ∷ row) acc =
    ap (λ (v : ℚ). written_mul x.prob v >>= (λ term. written_add acc term >>= (λ sum. written_sum (zeros n) sum row))) (zero-at n x.target)
    ∙ then_same (written_mul x.prob 0ℚ) (λ term. written_add acc term >>= (λ sum. written_sum (zeros n) sum row)) (λ term. written_add acc term >>= (λ sum. written_sum [] sum row))
    (λ term. then_same (written_add acc term) (λ sum. written_sum (zeros n) sum row) (λ sum. written_sum [] sum row) (zeros-sum n row))

-- a sum from 1 is 1
pub one-not_zero : (n : ℕ) (row : List Entry) (v : ℚ) → written_sum (zeros n) 1ℚ row ≡ Some v → v ≡ 0ℚ → ⊥
one-not_zero n row v told =
    not_zero [] row v
    (≤ℚ_of_eq 1ℚ (1ℚ +ℚ mean row (value_at []))
    (ring rat_ring 1 (λ m. lit (pos 1)) (λ m. lit (pos 1) ⊕ lit (pos 0) ⊗ m) refl (sum_of (λ (y : Entry). y.prob) row)
    ∙ ap (λ (x : ℚ). 1ℚ +ℚ x) (sym (weigh-const (λ (y : Entry). y.target) (λ (y : Entry). y.prob) 0ℚ row))))
    (sym (zeros-sum n row 1ℚ) ∙ told)
