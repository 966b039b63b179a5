-- The arrivals from the states of a set: a term past width at one state is one of all.
use Rattle.std.proofs.Common.{Vec, IfOk, ◌≡◌, ℕ, zero, suc, ◌+◌, ◌<◌, ◌≤◌, inl, inr, Bool, true, false, List, length, get_or, Result, Ok, Err, ◌∙◌, ap, subst, arith, if◌then◌else◌}
use Rattle.std.specs.Global.{Global}
use Rattle.mdp_math.specs.{Rational.{ℚ}, Result.{◌>>=◌}}
use Rattle.mdp_math.proofs.Numbers.{le_or}
use Rattle.mdp_spec.specs.{Mdp.{Entry, Mdp, row_at, value_at}, Tree.{is_marked}}
use Rattle.mdp_elim.specs.{Visits.{AreVisits}, Errors.{ElimError}}
use Rattle.mdp_wide.specs.declared.unfinished.Unfinished.TheVariants as refused
use Rattle.mdp_witness.specs.{Evaluation.{with_arrivals, placed, arrivals_below}, EvaluationCode.{Answers}}

module _ (m : Mdp) (goals : List Bool) (policy : List ℕ) (start : ℕ) (set : List Bool) (y : List ℚ) where
  abbrev below : ℕ → Result ℚ ℕ
  below n = arrivals_below m goals policy start set y n

  abbrev at : ℕ → ℚ → Result ℚ ℕ
  at s sum = placed s (with_arrivals goals (value_at y s) sum (row_at m s (get_or policy s 0)))

  step : (s : ℕ) (sum : ℚ) → below s ≡ Ok sum → below (suc s) ≡ (if is_marked set s then at s sum else Ok sum)
  step s sum e = ap (λ (r : Result ℚ ℕ). r >>= λ sum. if is_marked set s then at s sum else Ok sum) e

  next : (s : ℕ) → s + 1 ≡ suc s
  next s = omega arith

  -- a state of the set, and one that isn't in it
  pub below-in : (s : ℕ) (sum : ℚ) (r : Result ℚ ℕ) → below s ≡ Ok sum → is_marked set s ≡ true → at s sum ≡ r → below (s + 1) ≡ r
  below-in s sum r e a h = ap below (next s) ∙ step s sum e ∙ ap (λ (b : Bool). if b then at s sum else Ok sum) a ∙ h

  pub below-out : (s : ℕ) (sum : ℚ) → below s ≡ Ok sum → is_marked set s ≡ false → below (s + 1) ≡ Ok sum
  below-out s sum e a = ap below (next s) ∙ step s sum e ∙ ap (λ (b : Bool). if b then at s sum else Ok sum) a

  err_up : (t n k : ℕ) → k ≤ n → below k ≡ Err t → below n ≡ Err t
  err_up t zero k l e = let z : k ≡ 0 = omega arith in subst (λ (j : ℕ). below j ≡ Err t) z e
  err_up t (suc n) k l e = elim (le_or k n) as (λ _. below (suc n) ≡ Err t) [
    | inl i ↦ ap (λ (r : Result ℚ ℕ). r >>= λ sum. if is_marked set n then at n sum else Ok sum) (err_up t n k i e)
    | inr i ↦ (let z : k ≡ suc n = omega arith in subst (λ (j : ℕ). below j ≡ Err t) z e)
  ]

  pub below-err : (e : ElimError) (s n : ℕ) (sum : ℚ) → s < n → below s ≡ Ok sum → is_marked set s ≡ true → Answers (λ (x : ℚ). x) (Err e) (at s sum) → Answers (λ (x : ℚ). x) (Err e) (below n)
  below-err (refused.TooWide t) s n sum l b a h = err_up t n (s + 1) (omega arith) (below-in s sum (Err t) b a h)
  below-err refused.Memory s n sum l b a h = tt

-- there is one number of visits per state
pub visits-count : (rows : List (List Entry)) (set : List Bool) (start n : ℕ) (r : Result (Vec ℚ Global) ElimError) → length rows ≡ n → IfOk r (λ y. AreVisits rows set start y.items)
    → IfOk r (λ y. length y.items ≡ n)
visits-count rows set start n (Ok y) e h = h.len ∙ e
visits-count rows set start n (Err e) l h = tt

pub answers_wide : {A B : Type 0} (f : A → B) (e : ElimError) (s : ℕ) (r : Result B ℕ) → e ≡ refused.TooWide s → Answers f (Err e) r → r ≡ Err s
answers_wide f e s r is h = subst (λ (e : ElimError). Answers f (Err e) r) is h
