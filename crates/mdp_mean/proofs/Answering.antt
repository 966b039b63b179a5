-- Answers of steps at a place, and computations that take the steps 0, .., n - 1.
use Rattle.std.proofs.Common.{◌≡◌, ℕ, zero, suc, ◌<◌, inl, inr, Option, Result, Ok, Err, refl, sym, ap, ◌∙◌, subst, arith}
use Rattle.std.specs.Result.{result_ok}
use Rattle.mdp_math.specs.Result.{◌>>=◌}
use Rattle.mdp_math.proofs.Numbers.{last_or}
use Rattle.mdp_num.specs.declared.errors.Wide.{Wide}
use Rattle.mdp_wide.specs.declared.too_wide.Kind.{Kind}
use Rattle.mdp_policy_iteration.specs.Places.{at_place}
use Rattle.mdp_mean.specs.{Join.{Place, steps_to}, Faults.{placed_at, Says, Answers}, Errors.{JoinError}}
use Rattle.mdp_wide.specs.declared.unfinished.Unfinished.TheVariants as fault

-- an error of a step: its term is past width, and the error names the place
pub record IsPlaced {A : Type 0} (kind : Kind) (s c : Option ℕ) (step : Result A Wide) (e : JoinError) : Type 0 where
  pub cause : Wide
  pub step_is : step ≡ Err cause
  pub error_is : e ≡ fault.TooWide (record { kind = kind; state = s; choice = c })

pub placed-err : {A : Type 0} (kind : Kind) (s c : Option ℕ) (step : Result A Wide) (e : JoinError) → placed_at kind s c step ≡ Err e → IsPlaced kind s c step e
placed-err kind s c (Ok x) e h = cc
placed-err kind s c (Err w) e h = record { cause = w; step_is = refl; error_is = cc }

pub placed-ok : {A : Type 0} (kind : Kind) (s c : Option ℕ) (step : Result A Wide) (x : A) → placed_at kind s c step ≡ Ok x → step ≡ Ok x
placed-ok kind s c (Ok y) x h = cc
placed-ok kind s c (Err w) x h = cc

abbrev pub place_of : Kind → Option ℕ → Option ℕ → Place
place_of kind s c = record { kind = kind; state = s; choice = c }

-- a placed error says so
pub says : {B : Type 0} (kind : Kind) (s c : Option ℕ) (e : JoinError) (r : Result B Place) → e ≡ fault.TooWide (record { kind = kind; state = s; choice = c }) → r ≡ Err (place_of kind s c) → Says e r
says kind s c e r q h = subst (λ (e : JoinError). Says e r) (sym q) h

pub says_memory : {B : Type 0} (e : JoinError) (r : Result B Place) → e ≡ fault.Memory → Says e r
says_memory e r q = subst (λ (e : JoinError). Says e r) (sym q) tt

-- what a computation is refused at, another one that begins with it is refused at
pub Says-then : {A B : Type 0} (e : JoinError) (r : Result A Place) (q : Result B Place) → ((w : Place) → r ≡ Err w → q ≡ Err w) → Says e r → Says e q
Says-then (fault.TooWide place) r q h k = h (place_of place.kind place.state place.choice) k
Says-then fault.Memory r q h k = tt

-- an error that is returned
pub answers_err : {A B : Type 0} (f : A → B) (result : Result A JoinError) (e : JoinError) (r : Result B Place) → result ≡ Err e → Says e r → Answers f result r
answers_err f result e r q h = subst (λ (x : Result _ JoinError). Answers f x r) (sym q) h

pub says_of : {A B : Type 0} (f : A → B) (result : Result A JoinError) (e : JoinError) (r : Result B Place) → Answers f result r → result ≡ Err e → Says e r
says_of f (Ok x) e r h q = cc
says_of f (Err d) e r h q = let same : d ≡ e = cc in subst (λ (e : JoinError). Says e r) same h

pub says_same : {B : Type 0} (d e : JoinError) (r : Result B Place) → d ≡ e → Says e r → Says d r
says_same d e r q h = subst (λ (e : JoinError). Says e r) (sym q) h

-- a chain of steps ends where its first one does
pub then_refused : {A B R : Type 0} (r : Result A R) (f : A → Result B R) (w : R) → r ≡ Err w → (r >>= f) ≡ Err w
then_refused r f w e = ap (λ (x : Result _ _). x >>= f) e

pub then_goes : {A B R : Type 0} (r : Result A R) (f : A → Result B R) (x : A) → r ≡ Ok x → (r >>= f) ≡ f x
then_goes r f x e = ap (λ (y : Result _ _). y >>= f) e

-- ---- steps

module _ {A R : Type 0} (f : ℕ → A → Result A R) (first : A) where
  pub steps-more : (k n : ℕ) (x : A) → steps_to f first k ≡ Ok x → n ≡ suc k → steps_to f first n ≡ f k x
  steps-more k n x h q = ap (steps_to f first) q ∙ then_goes (steps_to f first k) (f k) x h

  pub steps-refused : (k n : ℕ) (x : A) (r : R) → steps_to f first k ≡ Ok x → f k x ≡ Err r → k < n → steps_to f first n ≡ Err r
  steps-refused k zero x r h e l = absurd (omega arith)
  steps-refused k (suc n) x r h e l = elim (last_or n k l) as (λ _. steps_to f first (suc n) ≡ Err r) [
    | inl q ↦ ap (λ i. steps_to f first (suc i)) (sym q) ∙ then_goes (steps_to f first k) (f k) x h ∙ e
    | inr l ↦ then_refused (steps_to f first n) (f n) r (steps-refused k n x r h e l)
  ]

-- ---- a step at a place, from what the code answers

pub at-ok : {A R : Type 0} (r : R) (o : Option A) (step : Result A Wide) (x : A) → result_ok step ≡ o → step ≡ Ok x → at_place r o ≡ Ok x
at-ok r o step x d e = ap (at_place r) (sym d ∙ ap result_ok e)

pub at-err : {A R : Type 0} (r : R) (o : Option A) (step : Result A Wide) (w : Wide) → result_ok step ≡ o → step ≡ Err w → at_place r o ≡ Err r
at-err r o step w d e = ap (at_place r) (sym d ∙ ap result_ok e)
