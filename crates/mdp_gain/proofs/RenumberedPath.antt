-- The path of a component is that of the component with other numbers: each round makes the same there, and the end is the same.
use Rattle.std.proofs.Common.{◌≡◌, ℕ, zero, suc, inl, inr, List, Result, Ok, Err, refl, sym, ap, subst}
use Rattle.std.specs.Prelude.{slice_index}
use Rattle.mdp_elim.proofs.OneSolution.{gives_solutions}
use Rattle.mdp_policy_iteration.specs.{Iteration.{Step, next, done, refused}, Laws.{first}, Path.{Round, Refusal}, Places.{Place}}
use Rattle.mdp_unichain.specs.{Chain.{IsReference, AllLeadTo}, Component.{Component, count, IsPolicy, IsComponent}, Improvement.{IsImproved}}
use Rattle.mdp_unichain.specs.{Iteration.{Follows, EndsWithin, EndsWith}, Path.{Found, AfterComparison, AfterEvaluation, Makes, IsStart}}
use Rattle.mdp_unichain.specs.Written.{Values, written_values, written_improved}
use Rattle.mdp_unichain.proofs.{Compares.{improves_exactly}, Paths.{kept}}
use Rattle.mdp_gain.specs.Renumbering.{IsRenumbering, spread, place_there, values_there, result_there}
use Rattle.mdp_gain.proofs.{RenumberedClasses.{next-spread}, RenumberedComparisons.{improved-there}, RenumberedPolicies.{reference-spread, spread-injective}}
use Rattle.mdp_gain.proofs.RenumberedValues.{values-there, bias-length}

-- a round of the small component in the big one, what it makes, and the path's end
abbrev pub round_there : List ℕ → ℕ → Round → Round
round_there states n a = record { number = a.number; policy = spread states n a.policy }

abbrev pub found_there : List ℕ → ℕ → Found → Found
found_there states n x = record { policy = spread states n x.policy; reference = slice_index states x.reference; values = values_there states n x.values }

abbrev pub refusal_there : List ℕ → ℕ → Refusal → Refusal
refusal_there states n x = record { number = x.number; policy = spread states n x.policy; place = place_there states x.place }

abbrev pub step_there : List ℕ → ℕ → Step Round Found Refusal → Step Round Found Refusal
step_there states n (next a) = next (round_there states n a)
step_there states n (done x) = done (found_there states n x)
step_there states n (refused x) = refused (refusal_there states n x)

abbrev pub end_there : List ℕ → ℕ → Result Found Refusal → Result Found Refusal
end_there states n (Ok x) = Ok (found_there states n x)
end_there states n (Err x) = Err (refusal_there states n x)

module _ (states : List ℕ) (small big : Component) (R : IsRenumbering states small big) (known : IsComponent small) where
  abbrev there : List ℕ → List ℕ
  there = spread states (count big)

  abbrev step : Step Round Found Refusal → Step Round Found Refusal
  step = step_there states (count big)

  abbrev end : Result Found Refusal → Result Found Refusal
  end = end_there states (count big)

  -- ---- a round

  abbrev AfterComparisonThere : Round → ℕ → Values → Step Round Found Refusal → Result (List ℕ) Place → Type 0
  AfterComparisonThere a t v s r =
      AfterComparison big (round_there states (count big) a) (slice_index states t) (values_there states (count big) v) r (step s)

  -- after the comparison of choices the same step is made there: the next policies differ from the policy exactly where they do here
  comparison-there : (a : Round) (t : ℕ) (v : Values) (r : Result (List ℕ) Place) (s : Step Round Found Refusal) → IsPolicy small a.policy
      → written_improved small a.policy v ≡ r → AfterComparison small a t v r s
      → AfterComparisonThere a t v s (result_there there states r)
  comparison-there a t v (Err place) s is made h = ap step h
  comparison-there a t v (Ok improved) s is made (inl h) = inl (ap there h.0, ap step h.1)
  comparison-there a t v (Ok improved) s is made (inr h) =
      let now = IsImproved.is (improves_exactly small a.policy improved v is made) in
      inr (
        λ e. h.0 (spread-injective states small big R improved a.policy now is e),
        (there h.1.0, next-spread states small big R a.policy improved is now h.1.0 h.1.1, ap step h.1.2),
      )

  -- and after the evaluation of the policy
  evaluation-there : (a : Round) (t : ℕ) (r : Result Values Place) (s : Step Round Found Refusal) → IsPolicy small a.policy
      → written_values small a.policy t ≡ r → AfterEvaluation small a t r s
      → AfterEvaluation big (round_there states (count big) a) (slice_index states t) (result_there (values_there states (count big)) states r) (step s)
  evaluation-there a t (Err place) s is made h = ap step h
  evaluation-there a t (Ok v) s is made h =
      subst (AfterComparisonThere a t v s)
      (sym (improved-there states small big R a.policy is v (bias-length small a.policy t v made)))
      (comparison-there a t v (written_improved small a.policy v) s is refl h)

  -- each round makes the same there
  pub makes-there : (a : Round) (s : Step Round Found Refusal) → IsPolicy small a.policy → Makes small a s
      → Makes big (round_there states (count big) a) (step s)
  makes-there a s is h = (
    slice_index states h.0,
    reference-spread states small big R a.policy is h.0 h.1,
    subst (λ (x : Result Values Place). AfterEvaluation big (round_there states (count big) a) (slice_index states h.0) x (step s))
        (sym (values-there states small big R a.policy is h.0 (AllLeadTo.state (IsReference.leads h.1))))
        (evaluation-there a h.0 (written_values small a.policy h.0) s is refl h.2),
  )

  -- ---- the path

  -- what follows a step follows it there; the next policy has one closed class again
  follows-there : (n : ℕ) (a : Round) (s : Step Round Found Refusal) (r : Result Found Refusal) → IsStart small a.policy → Makes small a s
      → ((b : Round) → IsStart small b.policy → EndsWithin (Makes small) n b r → EndsWithin (Makes big) n (round_there states (count big) b) (end r))
      → Follows (EndsWithin (Makes small) n) s r → Follows (EndsWithin (Makes big) n) (step s) (end r)
  follows-there n a (next b) r start m ih h = ih b (kept small known gives_solutions a b start m) h
  follows-there n a (done x) r start m ih h = ap end h
  follows-there n a (refused x) r start m ih h = ap end h

  within-there : (n : ℕ) (a : Round) (r : Result Found Refusal) → IsStart small a.policy → EndsWithin (Makes small) n a r
      → EndsWithin (Makes big) n (round_there states (count big) a) (end r)
  within-there zero a r start h = absurd h
  within-there (suc n) a r start h =
      (step h.0, makes-there a h.0 (IsStart.is start) h.1, follows-there n a h.0 r start h.1 (λ b later i. within-there n b r later i) h.2)

  -- the path from a start ends so
  pub path-there : (start : List ℕ) (r : Result Found Refusal) → IsStart small start → EndsWith (Makes small) (first start) r
      → EndsWith (Makes big) (first (there start)) (end r)
  path-there start r is h = (h.0, within-there h.0 (first start) r is h.1)
