use Rattle.std.proofs.Common.{◌≡◌, ◌∙◌, ◌<◌, ℕ, List, Ok, Err, length, sym, ap, ap₂, subst, slice_index}
use Rattle.mdp_math.specs.Rational.{ℚ}
use Rattle.mdp_spec.specs.Tree.{IsPolicy}
use Rattle.mdp_elim.specs.System.{Leaves}
use Rattle.mdp_wide.specs.Errors.{SolveError}
use Rattle.mdp_policy_iteration.specs.Queries.{Solves}
use Rattle.mdp_ends.specs.Toward.{IsOuter, lifted}
use Rattle.mdp_quot.specs.Lifting.{IsInner}
use Rattle.mdp_quot.proofs.InModel.{node_below}
use Rattle.mdp_farkas.specs.Mean.{MeetsMean}
use Rattle.mdp_mean.specs.{Terms.{Joining}, Join.{policy_rows, written_join}, Code.{shown}, Faults.{Says}, PartsCode.{inners_in, joining_of}}
use Rattle.mdp_mean.specs.Query.{Answer, plain, at_nodes, leaving, JoinEndsSo}
use Rattle.mdp_quot.specs.Outer as outer
use Rattle.mdp_mean.proofs.Meets.{is_outer, choice-inner, policy-is, gains-len, steps-len, marks-len, can_leave, meets}
use Rattle.mdp_mean.proofs.Passing.{same-joining, join-refused, join-held}
use Rattle.mdp_mean.proofs.parts.join_parts.Goals as goal

pub lift-requires-clause-outer : goal.lift-requires-clause-outer
lift-requires-clause-outer c =
    let P = c.args.parts.now in
    subst (λ (policy : List ℕ). IsOuter c.args.model.now P.ends.now.parts P.quotient.now.nodes policy) (sym c.deref.ensures.value)
    (is_outer c.args.dir c.args.model.now c.known.ensures.mdp c.args.m P.ends.now.parts c.requires.ends.ends P.quotient.now c.requires.quotient (inners_in P.inner.now) c.requires.inner
    (outer.plain P.outer.now) c.requires.outer P.steps.now c.requires.steps)

pub lift-requires-clause-inner : goal.lift-requires-clause-inner
lift-requires-clause-inner c =
    let P = c.args.parts.now in
    subst (λ (choices : List ℕ). IsInner c.args.model.now P.ends.now.parts choices) (sym c.deref-2.ensures.value)
    (record {
      count = c.requires.inner.choice_each;
      in_range = λ s i h e.
          (choice-inner c.args.dir c.args.model.now c.known.ensures.mdp c.args.m P.ends.now.parts c.requires.ends.ends P.quotient.now c.requires.quotient (inners_in P.inner.now) c.requires.inner
          (outer.plain P.outer.now) c.requires.outer P.steps.now c.requires.steps s i h e).0;
      is_inner = λ s i h e.
          (choice-inner c.args.dir c.args.model.now c.known.ensures.mdp c.args.m P.ends.now.parts c.requires.ends.ends P.quotient.now c.requires.quotient (inners_in P.inner.now) c.requires.inner
          (outer.plain P.outer.now) c.requires.outer P.steps.now c.requires.steps s i h e).1;
    })

pub leaving-requires-clause-below : goal.leaving-requires-clause-below
leaving-requires-clause-below c =
    let P = c.args.parts.now in
    let n = ap length c.deref-3.ensures.value ∙ c.requires.outer.policy.count in
    λ s h. subst (λ k. slice_index P.quotient.now.nodes s < k) (sym n) (node_below c.args.model.now c.known.ensures.mdp P.ends.now.parts c.requires.ends.ends P.quotient.now c.requires.quotient s h)

pub at_nodes-requires-clause-below : goal.at_nodes-requires-clause-below
at_nodes-requires-clause-below c =
    let P = c.args.parts.now in
    let n = ap length c.deref-4.ensures.value ∙ c.requires.outer.worth.count in
    λ s h. subst (λ k. slice_index P.quotient.now.nodes s < k) (sym n) (node_below c.args.model.now c.known.ensures.mdp P.ends.now.parts c.requires.ends.ends P.quotient.now c.requires.quotient s h)

pub at_nodes-requires-2-clause-below : goal.at_nodes-requires-2-clause-below
at_nodes-requires-2-clause-below c =
    let P = c.args.parts.now in
    λ s h. subst (λ k. slice_index P.quotient.now.nodes s < k) (sym c.requires.steps.count)
    (node_below c.args.model.now c.known.ensures.mdp P.ends.now.parts c.requires.ends.ends P.quotient.now c.requires.quotient s h)

pub invariant_of-join : goal.invariant_of-join
invariant_of-join c =
    let P = c.args.parts.now in
    let m = c.args.model.now in
    let k = joining_of c.args.dir m c.args.m P in
    let policy : c.in_ok-policy.policy.items ≡ k.policy =
    c.in_ok-policy.ensures {u = tt} ∙ ap₂ (λ (o x : List ℕ). lifted m P.ends.now.parts P.quotient.now.nodes o x) c.deref.ensures.value c.deref-2.ensures.value in
    let active : c.in_ok-active.active ≡ k.active = c.in_ok-active.ensures {u = tt} ∙ ap (leaving m P.quotient.now) c.deref-3.ensures.value in
    let gains : c.in_ok-gains.gains.items ≡ k.gains = c.in_ok-gains.ensures {u = tt} ∙ ap (at_nodes m P.quotient.now) c.deref-4.ensures.value in
    let steps : c.in_ok-steps.steps.items ≡ k.steps = c.in_ok-steps.ensures {u = tt} in
    record {
      named = c.requires.name;
      found = c.requires.ends.count;
      width = c.requires.ends.width;
      inside = c.requires.ends.inner;
      chosen = subst (λ (xs : List ℕ). IsPolicy m xs) (sym (c.deref-5.ensures.value ∙ policy))
          (policy-is c.args.dir c.args.model.now c.known.ensures.mdp c.args.m P.ends.now.parts c.requires.ends.ends P.quotient.now c.requires.quotient (inners_in P.inner.now) c.requires.inner
          (outer.plain P.outer.now) c.requires.outer P.steps.now c.requires.steps);
      marks = ap length active ∙ marks-len c.args.dir c.args.model.now c.known.ensures.mdp c.args.m P.ends.now.parts c.requires.ends.ends P.quotient.now c.requires.quotient (inners_in P.inner.now) c.requires.inner
          (outer.plain P.outer.now) c.requires.outer P.steps.now c.requires.steps;
      gain_each = ap length (c.deref-6.ensures.value ∙ gains) ∙ gains-len c.args.dir c.args.model.now c.known.ensures.mdp
          c.args.m P.ends.now.parts c.requires.ends.ends P.quotient.now c.requires.quotient (inners_in P.inner.now) c.requires.inner
          (outer.plain P.outer.now) c.requires.outer P.steps.now c.requires.steps;
      steps_each = ap length (c.deref-7.ensures.value ∙ steps) ∙ steps-len c.args.dir c.args.model.now c.known.ensures.mdp
          c.args.m P.ends.now.parts c.requires.ends.ends P.quotient.now c.requires.quotient (inners_in P.inner.now) c.requires.inner
          (outer.plain P.outer.now) c.requires.outer P.steps.now c.requires.steps;
      bias_each = ap length c.deref-8.ensures.value ∙ c.requires.inner.bias_each;
    }

pub joined-requires : goal.joined-requires
joined-requires c =
    let P = c.args.parts.now in
    let m = c.args.model.now in
    let k = joining_of c.args.dir m c.args.m P in
    let policy : c.in_ok-policy.policy.items ≡ k.policy =
    c.in_ok-policy.ensures {u = tt} ∙ ap₂ (λ (o x : List ℕ). lifted m P.ends.now.parts P.quotient.now.nodes o x) c.deref.ensures.value c.deref-2.ensures.value in
    let active : c.in_ok-active.active ≡ k.active = c.in_ok-active.ensures {u = tt} ∙ ap (leaving m P.quotient.now) c.deref-3.ensures.value in
    let gains : c.in_ok-gains.gains.items ≡ k.gains = c.in_ok-gains.ensures {u = tt} ∙ ap (at_nodes m P.quotient.now) c.deref-4.ensures.value in
    let steps : c.in_ok-steps.steps.items ≡ k.steps = c.in_ok-steps.ensures {u = tt} in
    let same =
    same-joining k c.deref-5.result.now c.in_ok-active.active c.deref-6.result.now c.deref-7.result.now c.deref-8.result.now (c.deref-5.ensures.value ∙ policy) active (c.deref-6.ensures.value ∙ gains)
    (c.deref-7.ensures.value ∙ steps) c.deref-8.ensures.value in
    record {
      leaves = subst (λ (j : Joining). (ranks : List ℕ) × Leaves (policy_rows j) j.active ranks) (sym same)
          (can_leave c.args.dir c.args.model.now c.known.ensures.mdp c.args.m P.ends.now.parts c.requires.ends.ends P.quotient.now c.requires.quotient (inners_in P.inner.now) c.requires.inner
          (outer.plain P.outer.now) c.requires.outer P.steps.now c.requires.steps);
    }

pub returns-in-Err-clause-join : goal.returns-in-Err-clause-join
returns-in-Err-clause-join c =
    let P = c.args.parts.now in
    let m = c.args.model.now in
    let k = joining_of c.args.dir m c.args.m P in
    let policy : c.in_ok-policy.policy.items ≡ k.policy =
    c.in_ok-policy.ensures {u = tt} ∙ ap₂ (λ (o x : List ℕ). lifted m P.ends.now.parts P.quotient.now.nodes o x) c.deref.ensures.value c.deref-2.ensures.value in
    let active : c.in_ok-active.active ≡ k.active = c.in_ok-active.ensures {u = tt} ∙ ap (leaving m P.quotient.now) c.deref-3.ensures.value in
    let gains : c.in_ok-gains.gains.items ≡ k.gains = c.in_ok-gains.ensures {u = tt} ∙ ap (at_nodes m P.quotient.now) c.deref-4.ensures.value in
    let steps : c.in_ok-steps.steps.items ≡ k.steps = c.in_ok-steps.ensures {u = tt} in
    let same =
    same-joining k c.deref-5.result.now c.in_ok-active.active c.deref-6.result.now c.deref-7.result.now c.deref-8.result.now (c.deref-5.ensures.value ∙ policy) active (c.deref-6.ensures.value ∙ gains)
    (c.deref-7.ensures.value ∙ steps) c.deref-8.ensures.value in
    subst (λ (e : SolveError). Solves plain (JoinEndsSo k) (Err e)) (sym c.in_join.ensures)
    (join-refused k c.in-Err.error c.in_ok-policy.policy policy (subst (λ (j : Joining). Says c.in-Err.error (written_join j)) same (c.in-Err.ensures {u = tt})))

pub held-requires-clause-rules : goal.held-requires-clause-rules
held-requires-clause-rules c =
    let P = c.args.parts.now in
    let m = c.args.model.now in
    let k = joining_of c.args.dir m c.args.m P in
    let policy : c.in_ok-policy.policy.items ≡ k.policy =
    c.in_ok-policy.ensures {u = tt} ∙ ap₂ (λ (o x : List ℕ). lifted m P.ends.now.parts P.quotient.now.nodes o x) c.deref.ensures.value c.deref-2.ensures.value in
    let active : c.in_ok-active.active ≡ k.active = c.in_ok-active.ensures {u = tt} ∙ ap (leaving m P.quotient.now) c.deref-3.ensures.value in
    let gains : c.in_ok-gains.gains.items ≡ k.gains = c.in_ok-gains.ensures {u = tt} ∙ ap (at_nodes m P.quotient.now) c.deref-4.ensures.value in
    let steps : c.in_ok-steps.steps.items ≡ k.steps = c.in_ok-steps.ensures {u = tt} in
    let same =
    same-joining k c.deref-5.result.now c.in_ok-active.active c.deref-6.result.now c.deref-7.result.now c.deref-8.result.now (c.deref-5.ensures.value ∙ policy) active (c.deref-6.ensures.value ∙ gains)
    (c.deref-7.ensures.value ∙ steps) c.deref-8.ensures.value in
    let made : written_join k ≡ Ok (shown c.in-Ok.values) = ap written_join (sym same) ∙ c.in-Ok.ensures {u = tt} in
    let v = shown c.in-Ok.values in
    subst (λ (g : List ℚ). MeetsMean c.args.dir m c.args.m g v.bound v.bias v.spread c.in_ok-policy.policy.items) (sym gains)
    (subst (λ (xs : List ℕ). MeetsMean c.args.dir m c.args.m k.gains v.bound v.bias v.spread xs) (sym policy)
    (meets c.args.dir c.args.model.now c.known.ensures.mdp c.args.m P.ends.now.parts c.requires.ends.ends P.quotient.now c.requires.quotient (inners_in P.inner.now) c.requires.inner
    (outer.plain P.outer.now) c.requires.outer P.steps.now c.requires.steps c.requires.name v made))

pub returns-clause-join : goal.returns-clause-join
returns-clause-join c =
    let P = c.args.parts.now in
    let m = c.args.model.now in
    let k = joining_of c.args.dir m c.args.m P in
    let policy : c.in_ok-policy.policy.items ≡ k.policy =
    c.in_ok-policy.ensures {u = tt} ∙ ap₂ (λ (o x : List ℕ). lifted m P.ends.now.parts P.quotient.now.nodes o x) c.deref.ensures.value c.deref-2.ensures.value in
    let active : c.in_ok-active.active ≡ k.active = c.in_ok-active.ensures {u = tt} ∙ ap (leaving m P.quotient.now) c.deref-3.ensures.value in
    let gains : c.in_ok-gains.gains.items ≡ k.gains = c.in_ok-gains.ensures {u = tt} ∙ ap (at_nodes m P.quotient.now) c.deref-4.ensures.value in
    let steps : c.in_ok-steps.steps.items ≡ k.steps = c.in_ok-steps.ensures {u = tt} in
    let same =
    same-joining k c.deref-5.result.now c.in_ok-active.active c.deref-6.result.now c.deref-7.result.now c.deref-8.result.now (c.deref-5.ensures.value ∙ policy) active (c.deref-6.ensures.value ∙ gains)
    (c.deref-7.ensures.value ∙ steps) c.deref-8.ensures.value in
    let made : written_join k ≡ Ok (shown c.in-Ok.values) = ap written_join (sym same) ∙ c.in-Ok.ensures {u = tt} in
    let v = shown c.in-Ok.values in
    let e = ap₂ (λ (g : List ℚ) (xs : List ℕ). let a : Answer = record { gains = g; bound = v.bound; bias = v.bias; choices = xs; spread = v.spread } in a) gains policy in
    join-held k (let a : Answer = record { gains = c.in_ok-gains.gains.items; bound = v.bound; bias = v.bias; choices = c.in_ok-policy.policy.items; spread = v.spread } in a) v c.held.result e made c.held.ensures.held
