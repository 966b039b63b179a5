-- Computations that go on in turn until one is refused, and what the code answers of them.
use Rattle.std.proofs.Common.{◌≡◌, ℕ, zero, suc, ◌<◌, ◌≤◌, inl, inr, Option, Some, None, Result, Ok, Err, refl, sym, ◌∙◌, ap, subst, arith}
use Rattle.mdp_math.specs.Result.{◌>>=◌}
use Rattle.mdp_math.proofs.Numbers.{last_or}
use Rattle.mdp_num.specs.declared.errors.Wide.{Wide}
use Rattle.mdp_horizon.specs.{Written.{Place, at_place, in_turn}, Answer.{Says, Answers, placed}, Errors.{HorizonError}}
use Rattle.mdp_wide.specs.declared.unfinished.Unfinished.TheVariants as error

pub ok_same : {A R : Type 0} (x y : A) → (let r : Result A R = Ok x in r) ≡ Ok y → x ≡ y
ok_same x y h = cc

pub ok_part : {A B R : Type 0} (r : Result A R) (g : A → Result B R) (y : B) → (r >>= g) ≡ Ok y → (x : A) × (r ≡ Ok x) × (g x ≡ Ok y)
ok_part (Err s) g y h = cc
ok_part (Ok x) g y h = (x, refl, h)

pub place_part : {A : Type 0} (depth s c : ℕ) (o : Option A) (x : A) → at_place depth s c o ≡ Ok x → o ≡ Some x
place_part depth s c None x h = cc
place_part depth s c (Some y) x h = cc

module _ {A R : Type 0} (f : ℕ → A → Result A R) (start : Result A R) where
  -- one more
  pub in_turn-more : (n m : ℕ) (b c : A) → in_turn f start n ≡ Ok b → f n b ≡ Ok c → m ≡ suc n → in_turn f start m ≡ Ok c
  in_turn-more n m b c h e q = ap (in_turn f start) q ∙ ap (λ (r : Result A R). r >>= f n) h ∙ e

  -- the first refusal decides
  pub in_turn-refused : (n m : ℕ) (b : A) (r : R) → in_turn f start n ≡ Ok b → f n b ≡ Err r → n < m → in_turn f start m ≡ Err r
  in_turn-refused n zero b r h e l = absurd (omega arith)
  in_turn-refused n (suc m) b r h e l = elim (last_or m n l) as (λ _. in_turn f start (suc m) ≡ Err r) [
    | inl q ↦ ap (λ k. in_turn f start (suc k)) (sym q) ∙ ap (λ (x : Result A R). x >>= f n) h ∙ e
    | inr k ↦ ap (λ (x : Result A R). x >>= f m) (in_turn-refused n m b r h e k)
  ]

  pub refused_start : (m : ℕ) (r : R) → start ≡ Err r → in_turn f start m ≡ Err r
  refused_start zero r h = h
  refused_start (suc m) r h = ap (λ (x : Result A R). x >>= f m) (refused_start m r h)

  -- what the start has and each step keeps
  pub in_turn-keeps : (P : ℕ → A → Type 0) (k : ℕ) → ((b : A) → start ≡ Ok b → P 0 b) → ((n : ℕ) (b c : A) → n < k → P n b → f n b ≡ Ok c → P (suc n) c)
      → (n : ℕ) (b : A) → n ≤ k → in_turn f start n ≡ Ok b → P n b
  in_turn-keeps P k first step zero b l h = first b h
  in_turn-keeps P k first step (suc n) b l h =
      let a = ok_part (in_turn f start n) (f n) b h in
      step n a.0 b (omega arith) (in_turn-keeps P k first step n a.0 (omega arith) a.1) a.2

-- ---- errors

-- an error of a step: its term is past width, and the error names the place
pub record IsPlaced {A : Type 0} (depth s c : ℕ) (step : Result A Wide) (e : HorizonError) : Type 0 where
  pub cause : Wide
  pub step_is : step ≡ Err cause
  pub error_is : e ≡ error.TooWide (record { depth = depth; state = s; choice = c })

pub placed-err : {A : Type 0} (depth s c : ℕ) (step : Result A Wide) (e : HorizonError) → placed depth s c step ≡ Err e → IsPlaced depth s c step e
placed-err depth s c (Ok x) e h = cc
placed-err depth s c (Err w) e h = record { cause = w; step_is = refl; error_is = cc }

pub placed-ok : {A : Type 0} (depth s c : ℕ) (step : Result A Wide) (x : A) → placed depth s c step ≡ Ok x → step ≡ Ok x
placed-ok depth s c (Ok y) x h = cc
placed-ok depth s c (Err w) x h = cc

-- a placed error says so
pub says : {B : Type 0} (depth s c : ℕ) (e : HorizonError) (r : Result B Place) → e ≡ error.TooWide (record { depth = depth; state = s; choice = c })
    → r ≡ Err (let w : Place = record { depth = depth; state = s; choice = c } in w) → Says e r
says depth s c e r q h = subst (λ (e : HorizonError). Says e r) (sym q) h

-- what a computation is refused at, another one that begins with it is refused at
pub says_then : {A B : Type 0} (e : HorizonError) (r : Result A Place) (q : Result B Place) → ((w : Place) → r ≡ Err w → q ≡ Err w) → Says e r → Says e q
says_then (error.TooWide place) r q h k = h place k
says_then error.Memory r q h k = tt

-- an error that is returned
pub answers_err : {A B : Type 0} (f : A → B) (result : Result A HorizonError) (e : HorizonError) (r : Result B Place) → result ≡ Err e → Says e r → Answers f result r
answers_err f result e r q h = subst (λ (x : Result _ HorizonError). Answers f x r) (sym q) h

pub says_of : {A B : Type 0} (f : A → B) (result : Result A HorizonError) (e : HorizonError) (r : Result B Place) → Answers f result r → result ≡ Err e → Says e r
says_of f (Ok x) e r h q = cc
says_of f (Err d) e r h q = let same : d ≡ e = cc in subst (λ (e : HorizonError). Says e r) same h

pub says_same : {B : Type 0} (d e : HorizonError) (r : Result B Place) → d ≡ e → Says e r → Says d r
says_same d e r q h = subst (λ (e : HorizonError). Says e r) (sym q) h
