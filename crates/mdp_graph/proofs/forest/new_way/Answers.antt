use Rattle.std.proofs.{Common.{◌≡◌, true, inl, inr, sym, ap, ◌∙◌, arith}, lemmas.Bool.{false≢true, cases_eq}}
use Rattle.mdp_spec.specs.Mdp.{row_at}
use Rattle.mdp_rows.specs.Preds.{is_among, leads_to}
use Rattle.mdp_graph.specs.{Forest.{attached}, Waiting.{waits}}
use Rattle.mdp_graph.proofs.{Among.{among-below}, EdgeFacts.{leads-as-among}, Seeking.{found_some}, forest.new_way.Goals.{then-at+in_default, else-at}}
use Rattle.mdp_math.proofs.Booleans.{and-left, and-right}
use Rattle.mdp_graph.proofs.forest.new_way.Goals as goal

pub returns-in-Some : goal.returns-in-Some
returns-in-Some c =
    let t = c.in-Some.target in
    let z = c.attached_target.ensures.some t c.in-Some.is in
    let among : is_among t c.row.result.targets.now ≡ true = and-left (is_among t c.row.result.targets.now) (attached c.args.goals.now c.args.ways.now t) z in
    found_some _ _ _ _ _ _ (record {
      target = among-below t _ c.row.result.targets.now c.row.ensures.in_range among;
      choice = (let l = c.loop-c-test.true in let n = c.choices-c-end.ensures in omega (arith, l, n));
      leads = ap (leads_to t) (sym c.row.ensures.row) ∙ leads-as-among c.row.result.targets.now c.row.result.probs.now t c.row.result.same_length ∙ among;
      allowed = sym c.at.ensures ∙ c.if-at.true;
    }) (and-right (is_among t c.row.result.targets.now) (attached c.args.goals.now c.args.ways.now t) z)

pub loop-c-preserved : goal.loop-c-preserved
loop-c-preserved c = λ d t h w l q. elim (cases_eq d c.loop-c.c) [
  | inr other ↦ c.loop-c.invariant d t (omega (arith, h, other)) w l q
  | inl same ↦ (elim c.if-at.branch [
    | then-at+in_default u ↦
        u.attached_target.ensures.none u.in_default.is t
        (sym (leads-as-among u.row.result.targets.now u.row.result.probs.now t u.row.result.same_length) ∙ ap
        (leads_to t) u.row.ensures.row ∙ ap (λ j. leads_to t (row_at c.args.model.now c.args.s j)) (sym same) ∙ q)
    | else-at u ↦ absurd (false≢true (sym u.if-at.false ∙ c.at.ensures ∙ ap (waits c.args.allowed.now c.args.s) (sym same) ∙ w))
  ])
]
