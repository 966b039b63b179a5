-- The end of a query from the end of its path, and that it has one end at most.
use Rattle.std.proofs.Common.{◌≡◌, ℕ, List, take, Result, Ok, Err, ◌∙◌, ap, ap₂, subst}
use Rattle.mdp_math.specs.Rational.{ℚ}
use Rattle.mdp_spec.specs.Mdp.{Mdp, states_of}
use Rattle.mdp_rows.specs.declared.dir.Dir.{Dir}
use Rattle.mdp_wide.specs.{declared.too_wide.Part.TheVariants.{Whole}, declared.too_wide.TooWide.{TooWide}, Errors.{SolveError}, Term.{shown}}
use Rattle.mdp_wide.specs.declared.unfinished.Unfinished.TheVariants as error
use Rattle.mdp_policy_iteration.specs.{Iteration.{EndsWith}, Path.{Found, Refusal, path_step}, Laws.{first}, Ends.{Ends, capped}, Queries.{Solves, term_of}}
use Rattle.mdp_policy_iteration.specs.{declared.solution.Solution.{Solution}, declared.solution.WideAt.{WideAt}}
use Rattle.mdp_discount.specs.{Problem.{discount_problem}, Query.{start_of, AfterFound, EndsSo}, Code.{found_of, PathEnds}}
use Rattle.mdp_discount_rules.specs.{Plain.{plain}, declared.cert.DiscountCert.{DiscountCert}}

module _ (dir : Dir) (m : Mdp) (r : ℕ) (f : ℚ) (start : List ℕ) (same : start ≡ start_of m) where
  begun : (end : Result Found Refusal) → EndsWith (path_step (discount_problem dir m r f)) (first start) end → EndsWith (path_step (discount_problem dir m r f)) (first (start_of m)) end
  begun end h = subst (λ (start : List ℕ). EndsWith (path_step (discount_problem dir m r f)) (first start) end) same h

  pub path-found : (found cut : Solution) → Ends (discount_problem dir m r f) start (Ok found) → cut.round ≡ found.round → cut.policy.items ≡ take (states_of m) found.policy.items
      → cut.values.items ≡ take (states_of m) found.values.items → PathEnds dir m r f (Ok cut)
  path-found found cut h round policy values = (
    h.0,
    round ∙ h.1,
    record { number = h.0; policy = found.policy.items; values = found.values.items },
    begun _ h.2,
    ap₂ (λ (p : List ℕ) (v : List ℚ). let x : Found = record { number = h.0; policy = p; values = v } in x) policy values,
  )

  pub path-wide : (wide : WideAt) (cut : TooWide) → Ends (discount_problem dir m r f) start (Err (error.TooWide wide)) → cut.round ≡ wide.round
      → ((n : ℕ) → shown cut n ≡ term_of Whole (record { number = n; policy = take (states_of m) wide.policy.items; place = record { kind = wide.kind; node = wide.node; choice = wide.choice } }))
      → PathEnds dir m r f (Err (error.TooWide cut))
  path-wide wide cut h round term = (
    h.0,
    round ∙ h.1,
    record { number = h.0; policy = wide.policy.items; place = record { kind = wide.kind; node = wide.node; choice = wide.choice } },
    begun _ h.2,
    term h.0,
  )

module _ (dir : Dir) (m : Mdp) (r : ℕ) (name : List ℕ) (f : ℚ) where
  -- a refused path ends the query
  pub ends-refused : (e : SolveError) → PathEnds dir m r f (Err e) → Solves plain (EndsSo dir m r name f) (Err e)
  ends-refused (error.TooWide w) h = (h.0, h.1, record { end = Err h.2; path = h.3; after = ap Err h.4 })
  ends-refused error.Memory h = tt

  -- and what follows the path's end is what the query ends with
  pub ends-after : (found : Solution) (result : Result DiscountCert SolveError) → PathEnds dir m r f (Ok found)
      → ((n : ℕ) → found.round ≡ capped n → Solves plain (AfterFound dir m r name f (found_of n found)) result) → Solves plain (EndsSo dir m r name f) result
  ends-after found (Ok cert) h after =
      record { end = Ok h.2; path = h.3; after = subst (λ (x : Found). AfterFound dir m r name f x (Ok (plain cert))) h.4 (after h.0 h.1) }
  ends-after found (Err (error.TooWide w)) h after =
      let a = after h.0 h.1 in
      (a.0, a.1, record { end = Ok h.2; path = h.3; after = subst (λ (x : Found). AfterFound dir m r name f x (Err (shown w a.0))) h.4 a.2 })
  ends-after found (Err error.Memory) h after = tt
