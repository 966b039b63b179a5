use Rattle.std.proofs.Common.{◌≡◌, ◌∙◌, ℕ, List, ◌++◌, true, false, Ok, length, take, drop, sym, ap, subst, arith}
use Rattle.mdp_math.specs.Rational.{ℚ}
use Rattle.mdp_spec.specs.Mdp.{value_at}
use Rattle.mdp_rows.specs.Preds.{is_among}
use Rattle.mdp_elim.specs.System.{is_active}
use Rattle.mdp_elim.specs.Kept as elimination
use Rattle.mdp_policy_iteration.specs.{Problem.{count}, Path.{evaluating, fits}, Evaluated.{Evaluation, StopsWith, equations_of}}
use Rattle.mdp_policy_iteration.proofs.Results.{all_pass-at}
use Rattle.mdp_policy_iteration.proofs.EvaluatedAgain.{written_back, kept-len, filled-elsewhere, others-fit, others-marked, others-stop, others-constant, others-filled, serves-elimination}
use Rattle.mdp_policy_iteration.proofs.evaluation.Evaluation.evaluate.Goals as goal

pub mark_active-requires-clause-others : goal.mark_active-requires-clause-others
mark_active-requires-clause-others g c = λ s l out.
    ap (λ (e : Evaluation). is_active e.active s) c.self.view_is
    ∙ others-marked (g.P.ShortestPath.problem c.args.problem.now) c.args.nodes.now c.args.policy.now c.args.self.now c.requires.others s l out

pub put_stop_values-requires-clause-others : goal.put_stop_values-requires-clause-others
put_stop_values-requires-clause-others g c = λ s l out stops.
    ap (λ (v : List ℚ). value_at v s) c.deref_mut.ensures.value ∙ ap (λ (e : Evaluation). value_at e.values s) c.self.view_is
    ∙ others-stop (g.P.ShortestPath.problem c.args.problem.now) c.args.nodes.now c.args.policy.now c.args.self.now c.requires.others s l out stops

pub put_constants-requires-clause-fit : goal.put_constants-requires-clause-fit
put_constants-requires-clause-fit g c =
    let p = g.P.ShortestPath.problem c.args.problem.now in
    all_pass-at (fits p c.args.policy.now) (evaluating c.args.policy.now) (count p) true (c.in_ok-check_rows_at.ensures {u = tt})

pub put_constants-requires-clause-others : goal.put_constants-requires-clause-others
put_constants-requires-clause-others g c = λ s l out.
    others-constant (g.P.ShortestPath.problem c.args.problem.now) c.args.nodes.now c.args.policy.now c.args.self.now c.requires.others s l out
    ∙ ap Ok (sym (ap (λ (v : List ℚ). value_at v s) c.deref_mut-2.ensures.value ∙ ap (λ (e : Evaluation). value_at e.constants s) c.self.view_is))

pub invariant_of-rows : goal.invariant_of-rows
invariant_of-rows g c = let p = g.P.ShortestPath.problem c.args.problem.now in record {
  is = c.requires.policy;
  fit = all_pass-at (fits p c.args.policy.now) (evaluating c.args.policy.now) (count p) true (c.in_ok-check_rows_at.ensures {u = tt});
  enough = c.requires.loops;
}

pub solve_at-requires-clause-others : goal.solve_at-requires-clause-others
solve_at-requires-clause-others g c =
    let p = g.P.ShortestPath.problem c.args.problem.now in
    let new = c.put_constants.new.constants in
    let same : length new ≡ length c.self.inside.constants.items = c.put_constants.auto.constants ∙ ap length c.deref_mut-2.ensures.value in
    let filled : c.self.inside.constants.len ≡ length c.self.inside.constants.items = let k = c.self.inside.constants.ok.0 in omega arith in
    let served = serves-elimination p c.args.nodes.now c.args.policy.now c.args.self.now c.requires.others new (c.in_ok-put_constants.ensures {u = tt}).made in
    subst (λ (cs : List ℚ). elimination.CanServe c.args.nodes.now (equations_of p c.args.policy.now cs) c.self.inside.kept)
    (sym (written_back c.self.inside.constants.len new c.self.inside.constants.items same filled))
    (subst (λ (e : Evaluation). elimination.CanServe c.args.nodes.now (equations_of p c.args.policy.now new) e.kept) (sym c.self.view_is) served)

pub put_values-requires-clause-solution : goal.put_values-requires-clause-solution
put_values-requires-clause-solution g c =
    let p = g.P.ShortestPath.problem c.args.problem.now in
    ap length c.values.ensures ∙ kept-len p c.args.policy.now _ c.solve_at.new.kept (c.in_ok-solve_at.ensures {u = tt}).kept

pub put_values-requires-clause-others : goal.put_values-requires-clause-others
put_values-requires-clause-others g c = λ s l out.
    let p = g.P.ShortestPath.problem c.args.problem.now in
    let new = c.put_stop_values.new.values in
    let same : length new ≡ length c.self.inside.values.items = c.put_stop_values.auto.values ∙ ap length c.deref_mut.ensures.value in
    let back : c.deref_mut-3.result.now ≡ new =
    c.deref_mut-3.ensures.value ∙ written_back c.self.inside.values.len new c.self.inside.values.items same (let k = c.self.inside.values.ok.0 in omega arith) in
    let kept : (t : ℕ) → is_among t c.args.nodes.now ≡ false → value_at c.values.result.now t ≡ value_at c.args.self.now.kept.first t = λ t o.
    ap (λ (v : List ℚ). value_at v t) c.values.ensures ∙ (c.in_ok-solve_at.ensures {u = tt}).others t o ∙ ap (λ (e : Evaluation). value_at e.kept.first t) c.self.view_is in
    ap (λ (v : List ℚ). value_at v s) back
    ∙ c.put_stop_values.ensures.others s l out
    ∙ ap (λ (v : List ℚ). value_at v s) c.deref_mut.ensures.value ∙ ap (λ (e : Evaluation). value_at e.values s) c.self.view_is
    ∙ others-filled p c.args.nodes.now c.args.policy.now c.args.self.now c.requires.others c.values.result.now kept s l out

pub returns-clause-others : goal.returns-clause-others
returns-clause-others g c = λ s out.
    let p = g.P.ShortestPath.problem c.args.problem.now in
    let n : c.self.inside.values.len ≡ length c.self.inside.values.items = let k = c.self.inside.values.ok.0 in omega arith in
    let same : length c.put_stop_values.new.values ≡ length c.self.inside.values.items = c.put_stop_values.auto.values ∙ ap length c.deref_mut.ensures.value in
    let first = written_back c.self.inside.values.len c.put_stop_values.new.values c.self.inside.values.items same n in
    let again : length c.put_values.new.values ≡ length c.put_stop_values.new.values = c.put_values.auto.values ∙ ap length (c.deref_mut-3.ensures.value ∙ first) in
    let kept : (t : ℕ) → is_among t c.args.nodes.now ≡ false → value_at c.values.result.now t ≡ value_at c.args.self.now.kept.first t = λ t o.
    ap (λ (v : List ℚ). value_at v t) c.values.ensures ∙ (c.in_ok-solve_at.ensures {u = tt}).others t o ∙ ap (λ (e : Evaluation). value_at e.kept.first t) c.self.view_is in
    ap (λ (v : List ℚ). value_at (take c.self.inside.values.len (c.put_values.new.values ++ drop (length c.put_values.new.values) v)) s) first
    ∙ ap (λ (v : List ℚ). value_at v s) (written_back c.self.inside.values.len c.put_values.new.values c.put_stop_values.new.values again (n ∙ sym same))
    ∙ filled-elsewhere p c.args.nodes.now c.args.policy.now c.args.self.now c.requires.others c.values.result.now kept c.put_values.new.values c.put_values.ensures s out

pub check_rows_at-requires-clause-others : goal.check_rows_at-requires-clause-others
check_rows_at-requires-clause-others g c = others-fit (g.P.ShortestPath.problem c.args.problem.now) c.args.nodes.now c.args.policy.now c.args.self.now c.requires.others

pub check_rows_at-requires-clause-policy : goal.check_rows_at-requires-clause-policy
check_rows_at-requires-clause-policy g c = c.requires.policy

pub check_rows_at-requires-clause-in_range : goal.check_rows_at-requires-clause-in_range
check_rows_at-requires-clause-in_range g c = c.requires.in_range

pub mark_active-requires-clause-policy : goal.mark_active-requires-clause-policy
mark_active-requires-clause-policy g c = c.requires.policy

pub mark_active-requires-clause-in_range : goal.mark_active-requires-clause-in_range
mark_active-requires-clause-in_range g c = c.requires.in_range

pub put_stop_values-requires-clause-policy : goal.put_stop_values-requires-clause-policy
put_stop_values-requires-clause-policy g c = c.requires.policy

pub put_stop_values-requires-clause-in_range : goal.put_stop_values-requires-clause-in_range
put_stop_values-requires-clause-in_range g c = c.requires.in_range

pub put_constants-requires-clause-policy : goal.put_constants-requires-clause-policy
put_constants-requires-clause-policy g c = c.requires.policy

pub put_constants-requires-clause-in_range : goal.put_constants-requires-clause-in_range
put_constants-requires-clause-in_range g c = c.requires.in_range

pub put_values-requires-clause-policy : goal.put_values-requires-clause-policy
put_values-requires-clause-policy g c = c.requires.policy

pub put_values-requires-clause-in_range : goal.put_values-requires-clause-in_range
put_values-requires-clause-in_range g c = c.requires.in_range

pub check_rows_at-requires-clause-ascend : goal.check_rows_at-requires-clause-ascend
check_rows_at-requires-clause-ascend g c = c.requires.ascend

pub put_constants-requires-clause-ascend : goal.put_constants-requires-clause-ascend
put_constants-requires-clause-ascend g c = c.requires.ascend

pub solve_at-requires-clause-ascend : goal.solve_at-requires-clause-ascend
solve_at-requires-clause-ascend g c = c.requires.ascend

pub solve_at-requires-clause-in_range : goal.solve_at-requires-clause-in_range
solve_at-requires-clause-in_range g c = c.requires.in_range

pub solve_at-requires-clause-leaves : goal.solve_at-requires-clause-leaves
solve_at-requires-clause-leaves g c = c.requires.leaves

pub mark_active-requires-clause-room : goal.mark_active-requires-clause-room
mark_active-requires-clause-room g c = ap (λ (e : Evaluation). length e.active) c.self.view_is ∙ c.requires.others.room.active

pub put_stop_values-requires-clause-room : goal.put_stop_values-requires-clause-room
put_stop_values-requires-clause-room g c = ap length c.deref_mut.ensures.value ∙ ap (λ (e : Evaluation). length e.values) c.self.view_is ∙ c.requires.others.room.values

pub put_constants-requires-clause-room : goal.put_constants-requires-clause-room
put_constants-requires-clause-room g c = ap length c.deref_mut-2.ensures.value ∙ ap (λ (e : Evaluation). length e.constants) c.self.view_is ∙ c.requires.others.room.constants

pub put_constants-requires-clause-active : goal.put_constants-requires-clause-active
put_constants-requires-clause-active g c = c.mark_active.ensures

pub solve_at-requires-clause-active : goal.solve_at-requires-clause-active
solve_at-requires-clause-active g c = c.mark_active.ensures

pub put_constants-requires-clause-values : goal.put_constants-requires-clause-values
put_constants-requires-clause-values g c =
    let n : c.self.inside.values.len ≡ length c.self.inside.values.items = let k = c.self.inside.values.ok.0 in omega arith in
    let same : length c.put_stop_values.new.values ≡ length c.self.inside.values.items = c.put_stop_values.auto.values ∙ ap length c.deref_mut.ensures.value in
    let first = written_back c.self.inside.values.len c.put_stop_values.new.values c.self.inside.values.items same n in
    ap length (c.deref.ensures.value ∙ first) ∙ same ∙ ap (λ (e : Evaluation). length e.values) c.self.view_is ∙ c.requires.others.room.values

pub put_constants-requires-clause-stops : goal.put_constants-requires-clause-stops
put_constants-requires-clause-stops g c = λ s l.
    let n : c.self.inside.values.len ≡ length c.self.inside.values.items = let k = c.self.inside.values.ok.0 in omega arith in
    let same : length c.put_stop_values.new.values ≡ length c.self.inside.values.items = c.put_stop_values.auto.values ∙ ap length c.deref_mut.ensures.value in
    let first = written_back c.self.inside.values.len c.put_stop_values.new.values c.self.inside.values.items same n in
    subst (λ (v : List ℚ). StopsWith (g.P.ShortestPath.problem c.args.problem.now) c.args.policy.now v s) (sym (c.deref.ensures.value ∙ first)) (c.put_stop_values.ensures.stops s l)

pub put_values-requires-clause-room : goal.put_values-requires-clause-room
put_values-requires-clause-room g c =
    let n : c.self.inside.values.len ≡ length c.self.inside.values.items = let k = c.self.inside.values.ok.0 in omega arith in
    let same : length c.put_stop_values.new.values ≡ length c.self.inside.values.items = c.put_stop_values.auto.values ∙ ap length c.deref_mut.ensures.value in
    let first = written_back c.self.inside.values.len c.put_stop_values.new.values c.self.inside.values.items same n in
    ap length (c.deref_mut-3.ensures.value ∙ first) ∙ same ∙ ap (λ (e : Evaluation). length e.values) c.self.view_is ∙ c.requires.others.room.values

pub solve_at-requires-clause-constants : goal.solve_at-requires-clause-constants
solve_at-requires-clause-constants g c =
    let new = c.put_constants.new.constants in
    let same : length new ≡ length c.self.inside.constants.items = c.put_constants.auto.constants ∙ ap length c.deref_mut-2.ensures.value in
    let n : c.self.inside.constants.len ≡ length c.self.inside.constants.items = let k = c.self.inside.constants.ok.0 in omega arith in
    ap length (written_back c.self.inside.constants.len new c.self.inside.constants.items same n) ∙ same ∙ ap (λ (e : Evaluation). length e.constants) c.self.view_is
    ∙ c.requires.others.room.constants
