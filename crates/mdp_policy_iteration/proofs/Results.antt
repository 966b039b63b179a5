-- Computations that end at the first refusal: the parts of one that is made, and what it says of each number.
use Rattle.std.proofs.Common.{◌≡◌, ℕ, zero, suc, ◌<◌, inl, inr, Bool, true, false, if◌then◌else◌, List, [], ◌∷◌, ◌++◌}
use Rattle.std.proofs.Common.{length, get_or, Option, Some, None, Result, Ok, Err, refl, sym, ◌∙◌, ap, subst, arith, length-append}
use Rattle.std.proofs.{lemmas.List.{get_or_append_left}, Math.Seq.{get_or-append_seam}}
use Rattle.mdp_math.specs.Result.{◌>>=◌}
use Rattle.mdp_math.proofs.Numbers.{last_or}
use Rattle.mdp_policy_iteration.specs.Places.{at_place, up_to, all_pass}

pub ok_same : {A R : Type 0} (x y : A) → (let r : Result A R = Ok x in r) ≡ Ok y → x ≡ y
ok_same x y h = cc

pub ok_part : {A B R : Type 0} (r : Result A R) (g : A → Result B R) (y : B) → (r >>= g) ≡ Ok y → (x : A) × (r ≡ Ok x) × (g x ≡ Ok y)
ok_part (Err s) g y h = cc
ok_part (Ok x) g y h = (x, refl, h)

pub place_part : {A R : Type 0} (r : R) (o : Option A) (x : A) → at_place r o ≡ Ok x → o ≡ Some x
place_part r None x h = cc
place_part r (Some y) x h = cc

-- ---- up to a number

module _ {A R : Type 0} (f : ℕ → Result A R) where
  -- the list is made of the values at each number
  pub record IsUpTo (n : ℕ) (xs : List A) : Type 0 where
    pub len : length xs ≡ n
    pub at : (s : ℕ) (d : A) → s < n → f s ≡ Ok (get_or xs s d)

  pushed : (n : ℕ) (xs : List A) (x : A) → IsUpTo n xs → f n ≡ Ok x → IsUpTo (suc n) (xs ++ x ∷ [])
  pushed n xs x h e = record {
    len = let m = length-append xs (x ∷ []) in let l = h.len in omega arith;
    at = λ s d l. elim (last_or n s l) as (λ _. f s ≡ Ok (get_or (xs ++ x ∷ []) s d)) [
      | inl q ↦ subst (λ k. f k ≡ Ok (get_or (xs ++ x ∷ []) k d)) (sym q) (e ∙ ap Ok (sym (subst (λ k. get_or (xs ++ x ∷ []) k d ≡ x) h.len (get_or-append_seam xs x [] d))))
      | inr k ↦ h.at s d k ∙ ap Ok (sym (get_or_append_left xs (x ∷ []) d s (let l2 = h.len in omega arith)))
    ];
  }

  pub up_to-is : (n : ℕ) (xs : List A) → up_to f n ≡ Ok xs → IsUpTo n xs
  up_to-is zero xs h = subst (IsUpTo 0) (ok_same [] xs h) (record { len = refl; at = λ s d l. absurd (omega arith) })
  up_to-is (suc n) xs h =
      let a = ok_part (up_to f n) (λ ys. f n >>= (λ x. Ok (ys ++ x ∷ []))) xs h in
      let b = ok_part (f n) (λ x. Ok (a.0 ++ x ∷ [])) xs a.2 in
      subst (IsUpTo (suc n)) (ok_same (a.0 ++ b.0 ∷ []) xs b.2) (pushed n a.0 b.0 (up_to-is n a.0 a.1) b.1)

-- ---- a test of each number

module _ {R : Type 0} (test : ℕ → Bool) (place : ℕ → R) where
  abbrev after_one : ℕ → Bool → Result Bool R
  after_one n b = if test n then Ok true else Err (place n)

  passed : (b : Bool) (r : R) (c : Bool) → (let q : Result Bool R = if b then Ok true else Err r in q) ≡ Ok c → b ≡ true
  passed true r c h = refl
  passed false r c h = cc

  pub all_pass-at : (n : ℕ) (b : Bool) → all_pass test place n ≡ Ok b → (s : ℕ) → s < n → test s ≡ true
  all_pass-at zero b h s l = absurd (omega arith)
  all_pass-at (suc n) b h s l =
      let a = ok_part (all_pass test place n) (after_one n) b h in
      elim (last_or n s l) as (λ _. test s ≡ true) [
        | inl e ↦ subst (λ k. test k ≡ true) (sym e) (passed (test n) (place n) b a.2)
        | inr m ↦ all_pass-at n a.0 a.1 s m
      ]

  -- one more
  pub all_pass-more : (n m : ℕ) → all_pass test place n ≡ Ok true → test n ≡ true → m ≡ suc n → all_pass test place m ≡ Ok true
  all_pass-more n m h e q =
      ap (all_pass test place) q
      ∙ ap (λ (r : Result Bool R). r >>= (after_one n)) h
      ∙ ap (λ (b : Bool). let r : Result Bool R = if b then Ok true else Err (place n) in r) e

  refused_here : (n : ℕ) → all_pass test place n ≡ Ok true → test n ≡ false → all_pass test place (suc n) ≡ Err (place n)
  refused_here n h e =
      ap (λ (r : Result Bool R). r >>= (after_one n)) h ∙ ap (λ (b : Bool). let r : Result Bool R = if b then Ok true else Err (place n) in r) e

  -- the first number that doesn't pass decides
  pub all_pass-refused : (n m : ℕ) → all_pass test place n ≡ Ok true → test n ≡ false → n < m → all_pass test place m ≡ Err (place n)
  all_pass-refused n zero h e l = absurd (omega arith)
  all_pass-refused n (suc m) h e l = elim (last_or m n l) as (λ _. all_pass test place (suc m) ≡ Err (place n)) [
    | inl q ↦ ap (λ k. all_pass test place (suc k)) (sym q) ∙ refused_here n h e
    | inr k ↦ ap (λ (r : Result Bool R). r >>= (after_one m)) (all_pass-refused n m h e k)
  ]
