-- Equations that are eliminated one after the other, and then evaluated in the opposite order.
use Rattle.std.proofs.Common.{◌≡◌, ℕ, suc, ◌+◌, ◌<◌, List, [], ◌∷◌, ◌++◌, length, Some, None, Result, Ok, Err, refl, sym, ◌∙◌, ap, subst, arith}
use Rattle.std.proofs.lemmas.List.{length-append}
use Rattle.std.specs.List.{All}
use Rattle.mdp_elim.specs.{Equation.{Equation, Values}, Elimination.{CanEliminate, evaluated, at_state, ◌and_then◌, eliminated, Eliminated, solution}}
use Rattle.mdp_elim.specs.{Finish.{finish, LeadDown, placed}, Errors.{StepError, ElimError}}
use Rattle.mdp_wide.specs.declared.unfinished.Unfinished.TheVariants as error

-- one more
pub finish-more : (m : ℕ) (done : List Equation) (e : Equation) (r : Result Values ℕ) → finish m (done ++ e ∷ []) r ≡ finish (m + 1) done (r and_then (λ v. at_state m (evaluated e v)))
finish-more m [] e r = let z : m + 0 ≡ m = omega arith in ap (λ k. r and_then (λ v. at_state k (evaluated e v))) z
finish-more m (d ∷ done) e r =
    let n : length (done ++ e ∷ []) ≡ length done + 1 = length-append done (e ∷ []) in
    let z : m + length (done ++ e ∷ []) ≡ m + 1 + length done = omega arith in
    ap (λ (s : Result Values ℕ). s and_then (λ v. at_state (m + length (done ++ e ∷ [])) (evaluated d v))) (finish-more m done e r)
    ∙ ap (λ k. finish (m + 1) done (r and_then (λ v. at_state m (evaluated e v))) and_then (λ v. at_state k (evaluated d v))) z

pub finish-err : (m s : ℕ) (done : List Equation) → finish m done (Err s) ≡ Err s
finish-err m s [] = refl
finish-err m s (d ∷ done) = ap (λ (r : Result Values ℕ). r and_then (λ v. at_state (m + length done) (evaluated d v))) (finish-err m s done)

pub lead_down-more : (m : ℕ) (done : List Equation) (e : Equation) → All (λ x. x.target < m) e.entries → LeadDown (m + 1) done → LeadDown m (done ++ e ∷ [])
lead_down-more m [] e h k = let z : m ≡ m + 0 = omega arith in (subst (λ n. All (λ x. x.target < n) e.entries) z h, tt)
lead_down-more m (d ∷ done) e h k =
    let n : length (done ++ e ∷ []) ≡ length done + 1 = length-append done (e ∷ []) in
    let z : m + 1 + length done ≡ m + length (done ++ e ∷ []) = omega arith in
    (subst (λ n. All (λ x. x.target < n) d.entries) z k.0, lead_down-more m done e h k.1)

pub lead_down-last : (m : ℕ) (done : List Equation) (e : Equation) → LeadDown m (done ++ e ∷ []) → All (λ x. x.target < m) e.entries × LeadDown (m + 1) done
lead_down-last m [] e h = let z : m + 0 ≡ m = omega arith in (subst (λ n. All (λ x. x.target < n) e.entries) z h.0, tt)
lead_down-last m (d ∷ done) e h =
    let n : length (done ++ e ∷ []) ≡ length done + 1 = length-append done (e ∷ []) in
    let z : m + length (done ++ e ∷ []) ≡ m + 1 + length done = omega arith in
    let more = lead_down-last m done e h.1 in
    (more.0, (subst (λ n. All (λ x. x.target < n) d.entries) z h.0, more.1))

module _ (s : ℕ) (left done : List Equation) where
  -- state s is eliminated
  pub solution-step : (e : Eliminated) → eliminated s left ≡ Some e → finish (s + 1) done (solution (suc s) left) ≡ finish s (done ++ e.pivot ∷ []) (solution s e.rest)
  solution-step e h =
      ap (λ o. finish (s + 1) done (at_state s o and_then (λ e. solution s e.rest and_then (λ values. at_state s (evaluated e.pivot values))))) h ∙ sym (finish-more s done e.pivot (solution s e.rest))

  -- or a term at it is past width
  pub solution-stop : eliminated s left ≡ None → finish (s + 1) done (solution (suc s) left) ≡ Err s
  solution-stop h = ap (λ o. finish (s + 1) done (at_state s o and_then (λ e. solution s e.rest and_then (λ values. at_state s (evaluated e.pivot values))))) h ∙ finish-err (s + 1) s done

module _ (m : ℕ) (done : List Equation) (e : Equation) (v : Values) where
  -- the least state is evaluated
  pub finish-step : (w : Values) → evaluated e v ≡ Some w → finish m (done ++ e ∷ []) (Ok v) ≡ finish (m + 1) done (Ok w)
  finish-step w h = finish-more m done e (Ok v) ∙ ap (λ o. finish (m + 1) done (at_state m o)) h

  pub finish-stop : evaluated e v ≡ None → finish m (done ++ e ∷ []) (Ok v) ≡ Err m
  finish-stop h = finish-more m done e (Ok v) ∙ ap (λ o. finish (m + 1) done (at_state m o)) h ∙ finish-err (m + 1) m done

-- ---- as the loops of the code take them

module _ (n s : ℕ) (same : n ≡ suc s) (left done : List Equation) where
  one_more : s + 1 ≡ n
  one_more = omega arith

  pub all_stop : eliminated s left ≡ None → finish n done (solution n left) ≡ Err s
  all_stop h = subst (λ k. finish k done (solution n left) ≡ Err s) one_more (subst (λ k. finish (s + 1) done (solution k left) ≡ Err s) (sym same) (solution-stop s left done h))

  pub all_step : (e : Eliminated) → eliminated s left ≡ Some e → finish n done (solution n left) ≡ finish s (done ++ e.pivot ∷ []) (solution s e.rest)
  all_step e h =
      subst (λ k. finish k done (solution n left) ≡ finish s (done ++ e.pivot ∷ []) (solution s e.rest)) one_more
      (subst (λ k. finish (s + 1) done (solution k left) ≡ finish s (done ++ e.pivot ∷ []) (solution s e.rest)) (sym same) (solution-step s left done e h))

  pub can_step : (e : Eliminated) → CanEliminate n left → eliminated s left ≡ Some e → All (λ x. x.target < s) e.pivot.entries × CanEliminate s e.rest
  can_step e can h = (subst (λ k. CanEliminate k left) same can).1 e h

  pub down_step : (e : Equation) → All (λ x. x.target < s) e.entries → LeadDown n done → LeadDown s (done ++ e ∷ [])
  down_step e h k = lead_down-more s done e h (subst (λ m. LeadDown m done) (sym one_more) k)

pub placed-wide : {A : Type 0} → (state s : ℕ) (step : Result A StepError) → placed state step ≡ Err (error.TooWide s) → (step ≡ Err (error.TooWide tt)) × (state ≡ s)
placed-wide state s (Ok x) h = cc
placed-wide state s (Err (error.TooWide _)) h = (refl, cc)
placed-wide state s (Err error.Memory) h = cc

pub placed-ok : {A : Type 0} → (state : ℕ) (x : A) (step : Result A StepError) → placed state step ≡ Ok x → step ≡ Ok x
placed-ok state x (Ok y) h = cc
placed-ok state x (Err (error.TooWide _)) h = cc
placed-ok state x (Err error.Memory) h = cc

pub wide_state : {A : Type 0} → (a b : ℕ) → (let r : Result A ElimError = Err (error.TooWide a) in r) ≡ Err (error.TooWide b) → a ≡ b
wide_state a b e = cc

-- a value is no error
pub ok_no_err : {A R : Type 0} → (x : A) (y : R) → (let r : Result A R = Ok x in r) ≡ Err y → ⊥
ok_no_err x y e = cc
