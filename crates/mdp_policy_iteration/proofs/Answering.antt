-- Where a computation over numbers is refused, and what the errors of the code say of it.
use Rattle.std.proofs.Common.{◌≡◌, ℕ, zero, suc, ◌<◌, ◌≤◌, ◌⊎◌, inl, inr, List, [], ◌∷◌, ◌++◌}
use Rattle.std.proofs.Common.{length, Some, None, Result, Ok, Err, refl, sym, ◌∙◌, ap, subst, arith}
use Rattle.std.specs.Result.{result_ok}
use Rattle.mdp_math.specs.{Rational.{ℚ}, Result.{◌>>=◌}}
use Rattle.mdp_policy_iteration.specs.{Problem.{Problem, choices_at, choice_at, active_of, taken}, Candidates.{Best, compared}}
use Rattle.mdp_policy_iteration.specs.Path.{boundary, constant_by, evaluating, constant, comparing, then_compared, best_of, improvement}
use Rattle.mdp_policy_iteration.specs.{Places.{Place, at_place, up_to}, Faults.{placed_at, Says, Answers}, Errors.{RoundError}}
use Rattle.mdp_math.proofs.Numbers.{last_or}
use Rattle.mdp_num.specs.declared.errors.Wide.{Wide}
use Rattle.mdp_wide.specs.declared.too_wide.Kind.{Kind}
use Rattle.mdp_wide.specs.declared.unfinished.Unfinished.TheVariants as fault

module _ {A R : Type 0} (f : ℕ → Result A R) where
  abbrev after_next : ℕ → Result (List A) R → Result (List A) R
  after_next n r = r >>= (λ xs. f n >>= (λ x. Ok (xs ++ x ∷ [])))

  abbrev with_next : List A → Result A R → Result (List A) R
  with_next xs r = r >>= (λ x. Ok (xs ++ x ∷ []))

  -- one more
  pub up_to-more : (n m : ℕ) (xs : List A) (x : A) → up_to f n ≡ Ok xs → f n ≡ Ok x → m ≡ suc n → up_to f m ≡ Ok (xs ++ x ∷ [])
  up_to-more n m xs x h e q = ap (up_to f) q ∙ ap (after_next n) h ∙ ap (with_next xs) e

  stopped : (n : ℕ) (xs : List A) (r : R) → up_to f n ≡ Ok xs → f n ≡ Err r → up_to f (suc n) ≡ Err r
  stopped n xs r h e = ap (after_next n) h ∙ ap (with_next xs) e

  stays : (n : ℕ) (r : R) → up_to f n ≡ Err r → up_to f (suc n) ≡ Err r
  stays n r h = ap (after_next n) h

  -- the first refusal decides
  pub up_to-refused : (n m : ℕ) (xs : List A) (r : R) → up_to f n ≡ Ok xs → f n ≡ Err r → n < m → up_to f m ≡ Err r
  up_to-refused n zero xs r h e l = absurd (omega arith)
  up_to-refused n (suc m) xs r h e l =
      elim (last_or m n l) as (λ _. up_to f (suc m) ≡ Err r) [ inl q ↦ ap (λ k. up_to f (suc k)) (sym q) ∙ stopped n xs r h e | inr k ↦ stays m r (up_to-refused n m xs r h e k) ]

-- an error of a step: its term is past width, and the error names the place
pub record IsPlaced {A : Type 0} (kind : Kind) (s c : ℕ) (step : Result A Wide) (e : RoundError) : Type 0 where
  pub cause : Wide
  pub step_is : step ≡ Err cause
  pub error_is : e ≡ fault.TooWide (record { kind = kind; node = s; choice = c })

pub placed-err : {A : Type 0} (kind : Kind) (s c : ℕ) (step : Result A Wide) (e : RoundError) → placed_at kind s c step ≡ Err e → IsPlaced kind s c step e
placed-err kind s c (Ok x) e h = cc
placed-err kind s c (Err w) e h = record { cause = w; step_is = refl; error_is = cc }

pub placed-ok : {A : Type 0} (kind : Kind) (s c : ℕ) (step : Result A Wide) (x : A) → placed_at kind s c step ≡ Ok x → step ≡ Ok x
placed-ok kind s c (Ok y) x h = cc
placed-ok kind s c (Err w) x h = cc

-- a placed error says so
pub says : {B : Type 0} (kind : Kind) (s c : ℕ) (e : RoundError) (r : Result B Place) → e ≡ fault.TooWide (record { kind = kind; node = s; choice = c }) → r ≡ Err (record { kind = kind; node = s; choice = c })
    → Says e r
says kind s c e r q h = subst (λ (e : RoundError). Says e r) (sym q) h

pub says_memory : {B : Type 0} (e : RoundError) (r : Result B Place) → e ≡ fault.Memory → Says e r
says_memory e r q = subst (λ (e : RoundError). Says e r) (sym q) tt

-- what a computation is refused at, another one that begins with it is refused at
pub Says-then : {A B : Type 0} (e : RoundError) (r : Result A Place) (q : Result B Place) → ((w : Place) → r ≡ Err w → q ≡ Err w) → Says e r → Says e q
Says-then (fault.TooWide place) r q h k = h place k
Says-then fault.Memory r q h k = tt

-- ---- the constant of a node, from what was computed

module _ (p : Problem) (policy : List ℕ) (s : ℕ) (step : Result ℚ Wide) (told : result_ok step ≡ constant_by (active_of p policy) (boundary p policy) (taken p policy s)) where
  pub constant-ok : (x : ℚ) → step ≡ Ok x → constant p policy s ≡ Ok x
  constant-ok x e = ap (at_place (evaluating policy s)) (sym told ∙ ap result_ok e)

  pub constant-err : (w : Wide) → step ≡ Err w → constant p policy s ≡ Err (evaluating policy s)
  constant-err w e = ap (at_place (evaluating policy s)) (sym told ∙ ap result_ok e)

-- an error that is returned
pub answers_err : {A B : Type 0} (f : A → B) (result : Result A RoundError) (e : RoundError) (r : Result B Place) → result ≡ Err e → Says e r → Answers f result r
answers_err f result e r q h = subst (λ (x : Result _ RoundError). Answers f x r) (sym q) h

pub says_of : {A B : Type 0} (f : A → B) (result : Result A RoundError) (e : RoundError) (r : Result B Place) → Answers f result r → result ≡ Err e → Says e r
says_of f (Ok x) e r h q = cc
says_of f (Err d) e r h q = let same : d ≡ e = cc in subst (λ (e : RoundError). Says e r) same h

pub says_same : {B : Type 0} (d e : RoundError) (r : Result B Place) → d ≡ e → Says e r → Says d r
says_same d e r q h = subst (λ (e : RoundError). Says e r) (sym q) h

-- ---- the comparison at a node

module _ (p : Problem) (x : List ℚ) (s : ℕ) where
  abbrev after_choice : ℕ → Result Best Place → Result Best Place
  after_choice c r = r >>= then_compared p x s c

  wide_at : (c : ℕ) (best : Best) → best_of p x s c ≡ Ok best → compared p.dir x c (choice_at p s c) best ≡ None → best_of p x s (suc c) ≡ Err (comparing s c)
  wide_at c best h e = ap (after_choice c) h ∙ ap (at_place (comparing s c)) e

  wide_stays : (c n : ℕ) (w : Place) → best_of p x s c ≡ Err w → c ≤ n → best_of p x s n ≡ Err w
  wide_stays c zero w h l = let e : c ≡ 0 = omega arith in ap (best_of p x s) (sym e) ∙ h
  wide_stays c (suc n) w h l = elim (le_or_next c n l) as (λ _. best_of p x s (suc n) ≡ Err w) [
    | inl q ↦ ap (best_of p x s) (sym q) ∙ h
    | inr m ↦ ap (after_choice n) (wide_stays c n w h m)
  ]
    where
      le_or_next : (c n : ℕ) → c ≤ suc n → (c ≡ suc n) ⊎ (c ≤ n)
      le_or_next c n l = grind arith

  pub improvement-wide : (c : ℕ) (best : Best) → best_of p x s c ≡ Ok best → compared p.dir x c (choice_at p s c) best ≡ None → c < length (choices_at p s)
      → improvement p x s ≡ Err (comparing s c)
  improvement-wide c best h e l =
      ap (λ (r : Result Best Place). r >>= (λ b. Ok b.choice)) (wide_stays (suc c) (length (choices_at p s)) (comparing s c) (wide_at c best h e) (omega arith))

  pub best_of-more : (c n : ℕ) (best after : Best) → best_of p x s c ≡ Ok best → compared p.dir x c (choice_at p s c) best ≡ Some after → n ≡ suc c
      → best_of p x s n ≡ Ok after
  best_of-more c n best after h e q = ap (best_of p x s) q ∙ ap (after_choice c) h ∙ ap (at_place (comparing s c)) e
