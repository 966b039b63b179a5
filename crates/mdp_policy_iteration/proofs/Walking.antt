-- A round of the loop as a step of the path.
use Rattle.std.proofs.Common.{◌≡◌, ◌≢◌, ℕ, ◌+◌, ◌-◌, ◌^◌, min, List, [], ◌∷◌, length, Result, Ok, Err, Vec, Global, refl, sym, ◌∙◌, ap, subst}
use Rattle.mdp_math.specs.Rational.{ℚ}
use Rattle.mdp_rows.specs.declared.preds.Pred.{Pred}
use Rattle.mdp_policy_iteration.specs.{Iteration.{next, done, EndsWith}, Problem.{Problem}, Path.{Found, Refusal, improved, path_step}}
use Rattle.mdp_policy_iteration.specs.{Changes.{spread, step_by}, Ends.{Makes, Ends, path_error}, Laws.{first}, Errors.{RoundError}}
use Rattle.mdp_policy_iteration.proofs.Iterations.{ends-refused}
use Rattle.mdp_wide.specs.declared.unfinished.Unfinished.TheVariants as fault

-- where there are changes, the path goes on
pub next_by : (n : ℕ) (policy : List ℕ) (values : List ℚ) (changes : List Pred) → changes ≢ []
    → step_by n policy values changes ≡ next (record { number = n + 1; policy = improved policy (spread (length policy) changes) })
next_by n policy values [] some = absurd (some refl)
next_by n policy values (c ∷ changes) some = refl

module _ (p : Problem) (n : ℕ) (now policy : List ℕ) (values : List ℚ) (result : Result (Vec Pred Global) RoundError) (same : now ≡ policy)
    (made : Makes n now values result (path_step p (record { number = n; policy = now }))) where
  made_at : (r : Result (Vec Pred Global) RoundError) → result ≡ r → Makes n policy values r (path_step p (record { number = n; policy = policy }))
  made_at r e =
      subst (λ (policy : List ℕ). Makes n policy values r (path_step p (record { number = n; policy = policy }))) same
      (subst (λ (r : Result (Vec Pred Global) RoundError). Makes n now values r (path_step p (record { number = n; policy = now }))) e made)

  pub done_at : (changes : Vec Pred Global) → result ≡ Ok changes → changes.items ≡ []
      → path_step p (record { number = n; policy = policy }) ≡ done (record { number = n; policy = policy; values = values })
  done_at changes e none = made_at (Ok changes) e ∙ ap (step_by n policy values) none

  -- an error is the path's end, where the path goes on with this round
  pub ends_by : (start : List ℕ) (round : ℕ) (held : Vec ℕ Global) (e : RoundError) → held.items ≡ policy → round ≡ min n (2 ^ 64 - 1)
      → ((r : Result Found Refusal) → EndsWith (path_step p) (record { number = n; policy = policy }) r → EndsWith (path_step p) (first start) r) → result ≡ Err e
      → Ends p start (Err (path_error e round held))
  ends_by start round held (fault.TooWide place) q m rest h = (
    n,
    m,
    subst (λ (policy : List ℕ). EndsWith (path_step p) (first start) (let e : Result Found Refusal = Err (record { number = n; policy = policy; place = place }) in e)) (sym q)
        (rest (Err (record { number = n; policy = policy; place = place }))
        (ends-refused (path_step p) (record { number = n; policy = policy }) (record { number = n; policy = policy; place = place }) (made_at (Err (fault.TooWide place)) h))),
  )
  ends_by start round held fault.Memory q m rest h = tt
