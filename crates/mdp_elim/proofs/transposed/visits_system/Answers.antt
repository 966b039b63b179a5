use Rattle.std.proofs.{Common.{ℕ, sym, ap, subst, ◌≡◌, ◌∙◌, ◌<◌, ◌+◌, List, length, rules, arith}, lemmas.List.{with_items_is}}
use Rattle.std.proofs.lemmas.List.FromFn.{length-map-range_with_len}
use Rattle.mdp_spec.specs.Row.{entries}
use Rattle.mdp_elim.specs.Equation as spec
use Rattle.mdp_elim.specs.{Predecessors.{at}, Visits.{start_equation, visits_below}}
use Rattle.mdp_elim.proofs.Expected.{visits_first, visits_put, visits_same, visits_system-is}
use Rattle.mdp_elim.proofs.transposed.visits_system.Goals.{then-at+in_ok-push_row, else-at}
use Rattle.mdp_elim.proofs.transposed.visits_system.Goals as goal

pub loop-t-init : goal.loop-t-init
loop-t-init g c =
    let is = c.in_ok-equations.ensures {u = tt} in
    let n : length c.in_ok-equations.equations.items ≡ length (g.R.RowsOf.rows c.args.chain.now.rows.now) = ap length is ∙ length-map-range_with_len (start_equation c.args.start) 0 _ ∙ c.count.ensures in
    record {
      count = n;
      rows = λ s l. ap (λ (es : List spec.Equation). at es s) is ∙ visits_first (g.R.RowsOf.rows c.args.chain.now.rows.now)
          c.args.chain.now.active.now c.args.start c.count.result s c.requires.start (omega (arith, l, c.count.ensures));
    }

pub loop-t-preserved : goal.loop-t-preserved
loop-t-preserved g c = elim c.if-at.branch [
  | then-at+in_ok-push_row w ↦
      let put = w.in_ok-push_row.ensures {u = tt} in
      let same = with_items_is c.loop-t.equations w.push_row.new.equations (omega (arith, put.count, ap length w.deref_mut.ensures.value)) in
      rw (w.equations-is)
      (record {
        count = ap length same ∙ put.count ∙ ap length w.deref_mut.ensures.value ∙ c.loop-t.invariant.count;
        rows = subst (λ (es : List spec.Equation). (s : ℕ) → s < length (g.R.RowsOf.rows c.args.chain.now.rows.now)
            → at es s ≡ visits_below (g.R.RowsOf.rows c.args.chain.now.rows.now) c.args.chain.now.active.now c.args.start (c.loop-t.t + 1) s) (sym same)
            (visits_put (g.R.RowsOf.rows c.args.chain.now.rows.now) c.args.chain.now.active.now c.args.start c.loop-t.t (length (g.R.RowsOf.rows c.args.chain.now.rows.now))
            (entries w.row.result.targets.now w.row.result.probs.now) c.loop-t.equations.items w.deref_mut.result.now w.push_row.new.equations
            w.deref_mut.ensures.value put.row w.row.ensures.row (search rules) c.loop-t.invariant.rows);
      })
  | else-at w ↦
      rw (w.equations-is)
      (record {
        count = c.loop-t.invariant.count;
        rows = λ s l. c.loop-t.invariant.rows s l ∙ visits_same (g.R.RowsOf.rows c.args.chain.now.rows.now) c.args.chain.now.active.now c.args.start c.loop-t.t s (search rules);
      })
]

pub returns-clause-value : goal.returns-clause-value
returns-clause-value g c =
    let n : c.loop-t.t ≡ length (g.R.RowsOf.rows c.args.chain.now.rows.now) = omega (arith, c.loop-t-test.false, c.loop-t.auto.t-end, c.count-t-end.ensures) in
    visits_system-is (g.R.RowsOf.rows c.args.chain.now.rows.now) c.args.chain.now.active.now c.args.start c.requires.active c.loop-t.equations.items c.loop-t.invariant.count
    (λ s l. c.loop-t.invariant.rows s l ∙ ap (λ k. visits_below (g.R.RowsOf.rows c.args.chain.now.rows.now) c.args.chain.now.active.now c.args.start k s) n)
