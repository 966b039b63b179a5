-- What the code answers to a round, as a step of the path.
use Rattle.std.proofs.Common.{◌≡◌, ◌≢◌, ℕ, ◌+◌, ◌-◌, ◌<◌, ◌^◌, min, inl, inr, suc, List, length, Result, Ok, Err, Vec, refl, sym, subst}
use Rattle.std.specs.Global.{Global}
use Rattle.mdp_spec.specs.Mdp.{value_at}
use Rattle.mdp_elim.specs.Laws.{GivesSolutions}
use Rattle.mdp_policy_iteration.specs.{Iteration.{Step, next, done, refused}, Path.{Round, Refusal}, Places.{Place}, Laws.{first}, Faults.{Says}}
use Rattle.mdp_policy_iteration.specs.Errors.{RoundError}
use Rattle.mdp_unichain.specs.{Chain.{IsReference}, Component.{Component, count, is_state, row_by, IsComponent}, Iteration.{EndsWith}}
use Rattle.mdp_unichain.specs.{Improvement.{IsEvaluated}, Next.{IsExactNext}, Path.{Found, AfterEvaluation, AfterComparison, IsStart}}
use Rattle.mdp_unichain.specs.Written.{written_values, written_improved}
use Rattle.mdp_unichain.specs.Path as path
use Rattle.mdp_unichain.specs.Written as written
use Rattle.mdp_unichain.proofs.{Classes.{one_reference}, Ending.{better_left, next_by}, Nexts.{exact_is_next}}
use Rattle.mdp_unichain.proofs.Paths.{Goes_on, evaluation_next, now, imp, after, keeps, some_changed}
use Rattle.mdp_gain.specs.{Code.{component_in, HasEnds, Makes, Ends, HasEntries, path_error}, declared.component.EndComponent.{EndComponent}}
use Rattle.mdp_gain.specs.declared.round.RoundEnd.{RoundEnd}
use Rattle.mdp_wide.specs.declared.unfinished.Unfinished.TheVariants as fault
use Rattle.mdp_gain.specs.declared.round.RoundEnd.TheVariants as end
use Rattle.mdp_gain.proofs.Given.{is-component}

-- ---- one round

module _ (p : Component) (policy : List ℕ) (t : ℕ) (is : IsReference (is_state p) (row_by p policy) t) (n : ℕ) where
  abbrev a : Round
  a = record { number = n; policy = policy }

  -- a term of the evaluation is past width
  pub values_refused : (e : RoundError) → Says e (written_values p policy t) → Makes p n policy (Err e)
  values_refused (fault.TooWide place) h = (
    t,
    is,
    subst (λ (r : Result written.Values Place). AfterEvaluation p a t r (refused (record { number = n; policy = policy; place = place })))
        (sym h) refl,
  )
  values_refused fault.Memory h = tt

  module _ (v : written.Values) (told : written_values p policy t ≡ Ok v) where
    after_values : (step : Step Round Found Refusal) → AfterComparison p a t v (written_improved p policy v) step → path.Makes p a step
    after_values step h = (t, is, subst (λ (r : Result written.Values Place). AfterEvaluation p a t r step) (sym told) h)

    -- a term of the comparison is past width
    pub improved_refused : (e : RoundError) → Says e (written_improved p policy v) → Makes p n policy (Err e)
    improved_refused (fault.TooWide place) h =
        after_values (refused (record { number = n; policy = policy; place = place }))
        (subst (λ (r : Result (List ℕ) Place). AfterComparison p a t v r (refused (record { number = n; policy = policy; place = place }))) (sym h) refl)
    improved_refused fault.Memory h = tt

    module _ (improved : List ℕ) (made : written_improved p policy v ≡ Ok improved) where
      after_improved : (step : Step Round Found Refusal) → AfterComparison p a t v (Ok improved) step → path.Makes p a step
      after_improved step h = after_values step (subst (λ (r : Result (List ℕ) Place). AfterComparison p a t v r step) (sym made) h)

      -- no choice is better
      pub round_done : improved ≡ policy → path.Makes p a (done (record { policy = policy; reference = t; values = v }))
      round_done same = after_improved (done (record { policy = policy; reference = t; values = v })) (inl (same, refl))

      -- the next policy
      pub round_next : improved ≢ policy → (after : List ℕ) → IsExactNext p policy improved after → path.Makes p a (next (record { number = n + 1; policy = after }))
      round_next other after exact = after_improved (next (record { number = n + 1; policy = after })) (inr (other, (after, exact, refl)))

pub makes_err : (p : Component) (n : ℕ) (policy : List ℕ) (result : Result RoundEnd RoundError) (e : RoundError) → result ≡ Err e → Makes p n policy (Err e) → Makes p n policy result
makes_err p n policy result e q h = subst (Makes p n policy) (sym q) h

-- what was answered to a round of the same policy
pub made_at : (p : Component) (n : ℕ) (held policy : List ℕ) (result : Result RoundEnd RoundError) → held ≡ policy → ((k : ℕ) → Makes p k held result)
    → (r : Result RoundEnd RoundError) → result ≡ r → Makes p n policy r
made_at p n held policy result same made r e = subst (λ (xs : List ℕ). Makes p n xs r) same (subst (λ (q : Result RoundEnd RoundError). Makes p n held q) e (made n))

-- ---- the path

pub goes_on : (p : Component) (a b : Round) (r : Result Found Refusal) → path.Makes p a (next b) → EndsWith (path.Makes p) b r → EndsWith (path.Makes p) a r
goes_on p a b r m e = (suc e.0, (next b, m, e.1))

pub ends_done : (p : Component) (a : Round) (f : Found) → path.Makes p a (done f) → EndsWith (path.Makes p) a (Ok f)
ends_done p a f m = (1, (done f, m, refl))

ends_refused : (p : Component) (a : Round) (x : Refusal) → path.Makes p a (refused x) → EndsWith (path.Makes p) a (Err x)
ends_refused p a x m = (1, (refused x, m, refl))

-- an error is the path's end, where the path goes on with this round
pub ends_by : (p : Component) (n : ℕ) (policy start : List ℕ) (round : ℕ) (held : Vec ℕ Global) (e : RoundError) → held.items ≡ policy → round ≡ min n (2 ^ 64 - 1)
    → ((r : Result Found Refusal) → EndsWith (path.Makes p) (record { number = n; policy = policy }) r → EndsWith (path.Makes p) (first start) r) → Makes p n policy (Err e)
    → Ends p start (Err (path_error e round held))
ends_by p n policy start round held (fault.TooWide place) q m rest h = (
  n,
  m,
  subst (λ (policy : List ℕ). EndsWith (path.Makes p) (first start)
      (let e : Result Found Refusal = Err (record { number = n; policy = policy; place = place }) in e))
      (sym q)
      (rest (Err (record { number = n; policy = policy; place = place }))
      (ends_refused p (record { number = n; policy = policy }) (record { number = n; policy = policy; place = place }) h)),
)
ends_by p n policy start round held fault.Memory q m rest h = tt

pub error_entries : (p : Component) (e : RoundError) (round : ℕ) (held : Vec ℕ Global) → length held.items ≡ count p → HasEntries p (Err (path_error e round held))
error_entries p (fault.TooWide place) round held h = h
error_entries p fault.Memory round held h = tt

-- ---- a next round is a start, and fewer policies are better

module _ (p : Component) (known : IsComponent p) (gives : GivesSolutions) (a b : Round) (k : IsStart p a.policy) (m : path.Makes p a (next b)) where
  on : Goes_on p known gives a b m.0
  on = evaluation_next p known gives a b m.0 (written_values p a.policy m.0) refl m.2

  pub next_start : IsStart p b.policy
  next_start = keeps p known gives a b k m.0 m.1 on

  pub next_fewer : (t u : ℕ) → IsReference (is_state p) (row_by p a.policy) t → IsReference (is_state p) (row_by p b.policy) u → better_left p u b.policy < better_left p t a.policy
  next_fewer t u r h =
      let e = after p known gives a b k m.0 m.1 on in
      let c = some_changed p known gives a b k m.0 m.1 on in
      let same : e.0 ≡ u = one_reference (is_state p) (row_by p b.policy) e.0 u (IsEvaluated.reference e.3) h in
      let own : m.0 ≡ t = one_reference (is_state p) (row_by p a.policy) m.0 t m.1 r in
      subst (λ (w : ℕ). better_left p w b.policy < better_left p t a.policy) same
      (subst (λ (w : ℕ). better_left p e.0 b.policy < better_left p w a.policy) own
      (next_by p known a.policy (Goes_on.improved on) b.policy m.0 e.0 (written.Values.gain (Goes_on.v on)) e.1 (value_at (written.Values.bias (Goes_on.v on))) e.2
      (now p known gives a b k m.0 m.1 on) (imp p known gives a b k m.0 m.1 on) c.0 c.1 e.3
      (exact_is_next p a.policy (Goes_on.improved on) b.policy (Goes_on.exact on))))

-- a round that goes on: the next policy is a start, and fewer policies are better than it
pub record IsTurn (p : Component) (n : ℕ) (policy after : List ℕ) : Type 0 where
  pub step : path.Makes p (record { number = n; policy = policy }) (next (record { number = n + 1; policy = after }))
  pub start : IsStart p after
  pub fewer : (t u : ℕ) → IsReference (is_state p) (row_by p policy) t → IsReference (is_state p) (row_by p after) u → better_left p u after < better_left p t policy

pub turned : (x : EndComponent) → HasEnds x → GivesSolutions → (n : ℕ) (policy : List ℕ) → IsStart (component_in x) policy → (held : List ℕ) → held ≡ policy
    → (result : Result RoundEnd RoundError) → ((k : ℕ) → Makes (component_in x) k held result) → (after : Vec ℕ Global) → result ≡ Ok (end.Next after)
    → IsTurn (component_in x) n policy after.items
turned x ends gives n policy k held same result made after was =
    let p = component_in x in
    let a : Round = record { number = n; policy = policy } in
    let b : Round = record { number = n + 1; policy = after.items } in
    let step : path.Makes p a (next b) = made_at p n held policy result same made (Ok (end.Next after)) was in
    record { step = step; start = next_start p (is-component x ends) gives a b k step; fewer = next_fewer p (is-component x ends) gives a b k step }
