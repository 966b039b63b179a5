-- Rewards of a state and of a choice, added name by name.
use Rattle.std.proofs.Common.{◌≡◌, ℕ, suc, ◌+◌, ◌<◌, List, [], ◌∷◌, ◌++◌, length, drop, drop-cons, get_or, add-one, append_assoc, append-nil, refl, sym, ap, ap₂, ◌∙◌, arith}
use Rattle.std.proofs.Math.Seq.{drop-length}
use Rattle.std.specs.Prelude.{Result, Ok, Err}
use Rattle.mdp_math.specs.{Rational.{ℚ}, Written.{written_add}}
use Rattle.mdp_rows.specs.{Draft.{kept_sum, summed_rewards, ◌>>=◌}, declared.error.RowsError.{RowsError}}

-- these sums, and then the others
abbrev pub sums_then : List ℚ → Result (List ℚ) RowsError → Result (List ℚ) RowsError
sums_then xs r = r >>= λ ys. Ok (xs ++ ys)

pub sums_start : (own given sums : List ℚ) → sums ≡ [] → summed_rewards own given ≡ sums_then sums (summed_rewards own given)
sums_start own given sums e = rw e (by_cases (summed_rewards own given))
  where
    by_cases : (r : Result (List ℚ) RowsError) → r ≡ sums_then [] r
    by_cases (Ok xs) = refl
    by_cases (Err x) = refl

one_first : (sums : List ℚ) (x : ℚ) (r : Result (List ℚ) RowsError) → sums_then sums (r >>= λ ys. Ok (x ∷ ys)) ≡ sums_then (sums ++ x ∷ []) r
one_first sums x (Ok ys) = ap (λ (l : List ℚ). Ok l) (sym (append_assoc sums (x ∷ []) ys))
one_first sums x (Err e) = refl

step_ok : (sums xs ys : List ℚ) (x y s : ℚ) (k : Result ℚ RowsError) → k ≡ kept_sum (written_add x y) → k ≡ Ok s
    → sums_then sums (summed_rewards (x ∷ xs) (y ∷ ys)) ≡ sums_then (sums ++ s ∷ []) (summed_rewards xs ys)
step_ok sums xs ys x y s k e f =
    ap (λ (r : Result ℚ RowsError). sums_then sums (r >>= λ sum. summed_rewards xs ys >>= λ sums. Ok (sum ∷ sums))) (sym e ∙ f) ∙ one_first sums s (summed_rewards xs ys)

step_err : (sums xs ys : List ℚ) (x y : ℚ) (w : RowsError) (k : Result ℚ RowsError) → k ≡ kept_sum (written_add x y) → k ≡ Err w → sums_then sums (summed_rewards (x ∷ xs) (y ∷ ys)) ≡ Err w
step_err sums xs ys x y w k e f = ap (λ (r : Result ℚ RowsError). sums_then sums (r >>= λ sum. summed_rewards xs ys >>= λ sums. Ok (sum ∷ sums))) (sym e ∙ f)

drop_at : (xs : List ℚ) (i : ℕ) (x : ℚ) → i < length xs → drop i xs ≡ get_or xs i x ∷ drop (i + 1) xs
drop_at xs i x h = rw add-one (drop-cons xs i x h)

module _ (own given sums : List ℚ) (i : ℕ) (x y : ℚ) (k : Result ℚ RowsError) (h : i < length own) (l : length own ≡ length given)
    (so : summed_rewards own given ≡ sums_then sums (summed_rewards (drop i own) (drop i given))) (e : k ≡ kept_sum (written_add (get_or own i x) (get_or given i y))) where
  here : summed_rewards own given ≡ sums_then sums (summed_rewards (get_or own i x ∷ drop (i + 1) own) (get_or given i y ∷ drop (i + 1) given))
  here = so ∙ ap₂ (λ (xs ys : List ℚ). sums_then sums (summed_rewards xs ys)) (drop_at own i x h) (drop_at given i y (omega arith))

  pub sums_more : (s : ℚ) → k ≡ Ok s → summed_rewards own given ≡ sums_then (sums ++ s ∷ []) (summed_rewards (drop (i + 1) own) (drop (i + 1) given))
  sums_more s f = here ∙ step_ok sums (drop (i + 1) own) (drop (i + 1) given) (get_or own i x) (get_or given i y) s k e f

  pub sums_stop : (w : RowsError) → k ≡ Err w → summed_rewards own given ≡ Err w
  sums_stop w f = here ∙ step_err sums (drop (i + 1) own) (drop (i + 1) given) (get_or own i x) (get_or given i y) w k e f

pub sums_end : (own given sums : List ℚ) (i : ℕ) → i ≡ length own → length own ≡ length given → summed_rewards own given ≡ sums_then sums (summed_rewards (drop i own) (drop i given))
    → summed_rewards own given ≡ Ok sums
sums_end own given sums i e l so =
    so ∙ ap₂ (λ (xs ys : List ℚ). sums_then sums (summed_rewards xs ys)) (ap (λ (n : ℕ). drop n own) e ∙ drop-length own) (ap (λ (n : ℕ). drop n given) (e ∙ l) ∙ drop-length given)
    ∙ ap (λ (l : List ℚ). Ok l) (append-nil sums)

-- as many sums as rewards
len_then : (xs ys sums : List ℚ) (x : ℚ) (n : ℕ) (r : Result (List ℚ) RowsError) → ((zs : List ℚ) → r ≡ Ok zs → length zs ≡ n) → (r >>= λ zs. Ok (x ∷ zs)) ≡ Ok sums → length sums ≡ suc n
len_then xs ys sums x n (Ok zs) h e = ap length (sym (ok_list (x ∷ zs) sums e)) ∙ ap (λ m. suc m) (h zs refl)
  where
    ok_list : (us vs : List ℚ) → (let r : Result (List ℚ) RowsError = Ok us in r) ≡ Ok vs → us ≡ vs
    ok_list us vs e = cc
len_then xs ys sums x n (Err w) h e = absurd cc

len_first : (xs ys sums : List ℚ) (n : ℕ) (k : Result ℚ RowsError) (r : Result (List ℚ) RowsError) → ((zs : List ℚ) → r ≡ Ok zs → length zs ≡ n)
    → (k >>= λ sum. r >>= λ zs. Ok (sum ∷ zs)) ≡ Ok sums → length sums ≡ suc n
len_first xs ys sums n (Ok x) r h e = len_then xs ys sums x n r h e
len_first xs ys sums n (Err w) r h e = absurd cc

pub sums_len : (own given sums : List ℚ) → length own ≡ length given → summed_rewards own given ≡ Ok sums → length sums ≡ length given
sums_len [] [] sums l e = ap length (let f : sums ≡ [] = cc in f)
sums_len [] (y ∷ ys) sums l e = absurd (omega arith)
sums_len (x ∷ xs) [] sums l e = absurd (omega arith)
sums_len (x ∷ xs) (y ∷ ys) sums l e = len_first xs ys sums (length ys) (kept_sum (written_add x y)) (summed_rewards xs ys) (λ zs f. sums_len xs ys zs (omega arith) f) e
