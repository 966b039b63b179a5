-- When all of a list, or all numbers below n, pass a test.
use Rattle.std.proofs.Common.{◌≡◌, ℕ, ◌<◌, ◌≤◌, ◌+◌, Bool, true, false, true≢false, not, List, [], ◌∷◌, ◌&&◌, ◌||◌, get_or, inl, inr, refl, sym, ap, ◌∙◌, arith}
use Rattle.std.proofs.{lemmas.List.FromFn.{length-range_with_len, get_or-range_with_len}, lemmas.Bool.{cases_eq}}
use Rattle.std.specs.List.{list_all, list_any, range_with_len}
use Rattle.mdp_math.proofs.Booleans.{false_of_not}
use Rattle.mdp_graph.proofs.RowSets.{list_all-at, list_all-by}

pub all-not : {A : Type 0} → (test : A → Bool) (xs : List A) → list_all test xs ≡ not (list_any (λ x. not (test x)) xs)
all-not test [] = refl
all-not test (x ∷ xs) = elim (test x) as (λ b. (b && list_all test xs) ≡ not (not b || list_any (λ y. not (test y)) xs)) [
  | true ↦ all-not test xs
  | false ↦ refl
]

at-range : (n k : ℕ) → k < n → get_or (range_with_len 0 n) k 0 ≡ k
at-range n k l = get_or-range_with_len 0 n k 0 l ∙ omega arith

pub all_below : (test : ℕ → Bool) (n c : ℕ) → n ≤ c → ((k : ℕ) → k < c → test k ≡ true) → true ≡ list_all test (range_with_len 0 n)
all_below test n c h each =
    sym (list_all-by test (range_with_len 0 n) 0 (λ k l. (let b : k < n = omega (arith, l, length-range_with_len 0 n) in ap test (at-range n k b) ∙ each k (omega arith))))

pub not_all_below : (test : ℕ → Bool) (n c : ℕ) → c < n → test c ≡ false → false ≡ list_all test (range_with_len 0 n)
not_all_below test n c h fails =
    sym (false_of_not (list_all test (range_with_len 0 n)) (λ e.
    true≢false (sym (ap test (sym (at-range n c h)) ∙ list_all-at test (range_with_len 0 n) 0 e c (omega (arith, h, length-range_with_len 0 n))) ∙ fails)))

pub each_more : (test : ℕ → Bool) (c : ℕ) → ((k : ℕ) → k < c → test k ≡ true) → test c ≡ true → (k : ℕ) → k < c + 1 → test k ≡ true
each_more test c each is k l = elim (cases_eq k c) [
  | inl same ↦ ap test same ∙ is
  | inr other ↦ each k (omega arith)
]
