-- The longest runs of a list, entry by entry.
use Rattle.std.proofs.Common.{◌≡◌, ℕ, suc, ◌+◌, ◌<◌, ◌≤◌, Bool, true, false, cond, List, [], ◌∷◌, length, drop, get_or, refl, sym, ap, ◌∙◌, arith}
use Rattle.std.proofs.{lemmas.List.{length-drop, drop-drop}, Math.Seq.{drop-cons}}
use Rattle.mdp_cert.specs.{declared.version.Version.{Version}, declared.version.Version.TheVariants.{One, Two}}
use Rattle.mdp_cert.specs.{Runs.{Columns, Run, run, single, before_runs, longest_runs, runs_in}, Answer.{same_next, more_same, more_in}}

module _ {A : Type 0} (k : Columns A) where
  longest-first : (x : A) (xs : List A) → longest_runs k (x ∷ xs) ≡ run x (more_same k (x ∷ xs)) ∷ longest_runs k (drop (more_same k (x ∷ xs)) xs)
  unfolding longest_runs more_same
  longest-first x [] = refl
  longest-first x (y ∷ ys) = ap (before_runs k x) (longest-first y ys) ∙ by (k.same x y) (longest-first y ys)
    where
      by : (b : Bool) → longest_runs k (y ∷ ys) ≡ run y (more_same k (y ∷ ys)) ∷ longest_runs k (drop (more_same k (y ∷ ys)) ys)
          → cond b (run x (suc (more_same k (y ∷ ys))) ∷ longest_runs k (drop (more_same k (y ∷ ys)) ys))
          (single x ∷ run y (more_same k (y ∷ ys)) ∷ longest_runs k (drop (more_same k (y ∷ ys)) ys)) ≡ run x (cond b (suc (more_same k (y ∷ ys))) 0) ∷ longest_runs k
          (drop (cond b (suc (more_same k (y ∷ ys))) 0) (y ∷ ys))
      by true e = refl
      by false e = ap (λ (rs : List (Run A)). single x ∷ rs) (sym e)

  longest-inside : (x : A) (xs : List A) → more_same k (x ∷ xs) ≤ length xs
  unfolding more_same
  longest-inside x [] = omega arith
  longest-inside x (y ∷ ys) = by (k.same x y) (longest-inside y ys)
    where
      by : (b : Bool) → more_same k (y ∷ ys) ≤ length ys → cond b (suc (more_same k (y ∷ ys))) 0 ≤ suc (length ys)
      by true h = omega arith
      by false h = omega arith

  -- the first line of a list, and the lines behind it
  pub runs-first : (v : Version) (x : A) (xs : List A) → runs_in v k (x ∷ xs) ≡ run x (more_in v k (x ∷ xs)) ∷ runs_in v k (drop (more_in v k (x ∷ xs)) xs)
  runs-first One x xs = refl
  runs-first Two x xs = longest-first x xs

  pub more-inside : (v : Version) (x : A) (xs : List A) → more_in v k (x ∷ xs) ≤ length xs
  more-inside One x xs = omega arith
  more-inside Two x xs = longest-inside x xs

  pub record Next (xs : List A) (i : ℕ) : Type 0 where
    pub inside : i + 1 < length xs
    pub more : more_same k (drop i xs) ≡ suc (more_same k (drop (i + 1) xs))

  pub more-next : (xs : List A) (i : ℕ) → same_next k (drop i xs) ≡ true → Next xs i
  unfolding more_same
  more-next xs i t = by (drop i xs) refl t
    where
      by : (ys : List A) → drop i xs ≡ ys → same_next k ys ≡ true → Next xs i
      by [] e t = absurd cc
      by (y ∷ []) e t = absurd cc
      by (y ∷ z ∷ zs) e t =
          let rest : drop (i + 1) xs ≡ z ∷ zs = sym (drop-drop 1 i xs) ∙ ap (drop 1) e in
          record {
            inside = omega (arith, length-drop i xs, ap (λ (l : List A). length l) e);
            more = rw (e, rest, t) refl;
          }

  pub more-none : (xs : List A) → same_next k xs ≡ false → more_same k xs ≡ 0
  unfolding more_same
  more-none [] e = refl
  more-none (x ∷ []) e = refl
  more-none (x ∷ y ∷ ys) e = rw e refl

  pub next-same : (xs : List A) (i : ℕ) (x y : A) → i + 1 < length xs → x ≡ get_or xs i x → y ≡ get_or xs (i + 1) y → same_next k (drop i xs) ≡ k.same x y
  next-same xs i x y lt p q =
      let one : i + 1 ≡ suc i = omega arith in
      let e : drop i xs ≡ x ∷ drop (suc i) xs = drop-cons xs i x (omega arith) ∙ ap (λ (z : A). z ∷ drop (suc i) xs) (sym p) in
      let f : drop (suc i) xs ≡ y ∷ drop (suc (suc i)) xs = drop-cons xs (suc i) y (omega arith) ∙ ap (λ (z : A). z ∷ drop (suc (suc i)) xs) (sym (q ∙ ap (λ (n : ℕ). get_or xs n y) one)) in
      rw (e, f) refl

  -- at a last entry, or where the next state isn't there
  pub next-none : (xs : List A) (i : ℕ) → length xs ≤ i + 1 → same_next k (drop i xs) ≡ false
  next-none xs i h = by (drop i xs) (omega (arith, length-drop i xs))
    where
      by : (ys : List A) → length ys ≤ 1 → same_next k ys ≡ false
      by [] h = refl
      by (y ∷ []) h = refl
      by (y ∷ z ∷ zs) h = absurd (omega arith)
