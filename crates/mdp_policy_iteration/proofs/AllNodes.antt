-- The list of all nodes.
use Rattle.std.proofs.Common.{◌≡◌, ℕ, ◌<◌, true, List, get_or, sym, ◌∙◌, ap, subst, zero-add, arith}
use Rattle.std.proofs.{lemmas.List.FromFn.{get_or-range_with_len, length-range_with_len}, lemmas.List.Folds.{list_any_at}}
use Rattle.std.specs.{List.{All, range_with_len}, Prelude.{◌==◌}}
use Rattle.mdp_math.proofs.Numbers.{eqb-same}
use Rattle.mdp_rows.specs.Preds.{is_among}
use Rattle.mdp_policy_iteration.specs.Changes.{Ascend}

module _ (n : ℕ) where
  abbrev pub all : List ℕ
  all = range_with_len 0 n

  pub at : (i d : ℕ) → i < n → get_or all i d ≡ i
  at i d l = get_or-range_with_len 0 n i d l ∙ zero-add i

  pub all-below : All (λ s. s < n) all
  all-below = λ k d l. let m = length-range_with_len 0 n in let h : k < n = omega (arith, l) in subst (λ s. s < n) (sym (at k d h)) h

  pub all-ascend : Ascend all
  all-ascend = λ i j l h. let m = length-range_with_len 0 n in let a = at i 0 (omega (arith, l, h)) in let b = at j 0 (omega (arith, h)) in omega (arith, l)

  pub all-among : (s : ℕ) → s < n → is_among s all ≡ true
  all-among s l = list_any_at (λ x. x == s) all s 0 (let m = length-range_with_len 0 n in omega (arith, l)) (ap (λ x. x == s) (at s 0 l) ∙ eqb-same s)
