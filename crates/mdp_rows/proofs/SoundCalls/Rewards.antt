-- The rewards of a state and of a choice together.
use Rattle.std.proofs.Common.{◌≡◌, ℕ, true, leb, List, [], ◌∷◌, length, Option, Some, None, unsigned_abs, refl, subst, arith}
use Rattle.std.proofs.lemmas.List.Elements.{All-from_recursion}
use Rattle.std.specs.{Prelude.{Ok}, List.{All, AllByRecursion}}
use borrow.Author.Tests.{leb-true}
use Rattle.mdp_math.proofs.Booleans.{and-left, and-right}
use Rattle.mdp_math.specs.{Rational.{ℚ}, Written.{written_add}}
use Rattle.mdp_num.specs.Numeral.{limit}
use Rattle.mdp_rows.specs.{Limits.{HasSmallTerms}, Draft.{has_small_terms, kept_sum, summed_rewards, ◌>>=◌}, declared.error.RowsError.TheVariants.{Large}}
use Rattle.mdp_rows.proofs.Calls.Steps.{done, ok_same, then_ok, if_ok}

pub small_by : (x : ℚ) → has_small_terms x ≡ true → HasSmallTerms x
small_by x e = record {
  num = leb-true (unsigned_abs x.num) limit (and-left (leb (unsigned_abs x.num) limit) (leb x.den limit) e);
  den = leb-true x.den limit (and-right (leb (unsigned_abs x.num) limit) (leb x.den limit) e);
}

-- a sum that is kept has small terms
pub kept_sum-sound : (o : Option ℚ) (z : ℚ) → kept_sum o ≡ Ok z → HasSmallTerms z
kept_sum-sound None z e = absurd cc
kept_sum-sound (Some s) z e = let f = if_ok (has_small_terms s) Large (done s) z e in subst HasSmallTerms (ok_same s z f.1) (small_by s f.0)

summed : (xs ys zs : List ℚ) (n : ℕ) → length xs ≡ n → length ys ≡ n → summed_rewards xs ys ≡ Ok zs → (length zs ≡ n) × AllByRecursion HasSmallTerms zs
summed [] ys zs n lx ly e = subst (λ (r : List ℚ). (length r ≡ n) × AllByRecursion HasSmallTerms r) (ok_same [] zs e) (lx, tt)
summed (x ∷ xs) [] zs n lx ly e = absurd (omega arith)
summed (x ∷ xs) (y ∷ ys) zs n lx ly e =
    let f = then_ok (kept_sum (written_add x y)) (λ sum. summed_rewards xs ys >>= λ sums. Ok (sum ∷ sums)) zs e in
    let g = then_ok (summed_rewards xs ys) (λ sums. Ok (f.0 ∷ sums)) zs f.2 in
    let r = summed xs ys g.0 (length xs) refl (omega arith) g.1 in
    subst (λ (r : List ℚ). (length r ≡ n) × AllByRecursion HasSmallTerms r) (ok_same (f.0 ∷ g.0) zs g.2)
    (let l = r.0 in omega (arith, l), (kept_sum-sound (written_add x y) f.0 f.1, r.1))

pub record AreSums (n : ℕ) (rewards : List ℚ) : Type 0 where
  pub length : length rewards ≡ n
  pub terms : All HasSmallTerms rewards

-- one sum per name, each with small terms
pub summed-sound : (xs ys zs : List ℚ) (n : ℕ) → length xs ≡ n → length ys ≡ n → summed_rewards xs ys ≡ Ok zs → AreSums n zs
summed-sound xs ys zs n lx ly e = let r = summed xs ys zs n lx ly e in record { length = r.0; terms = All-from_recursion HasSmallTerms zs r.1 }
