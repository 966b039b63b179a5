use Rattle.std.proofs.{Common.{◌≡◌, sym, ap, ap₂, ◌∙◌, List}, lemmas.List.{get_or_default}}
use Rattle.std.specs.{Prelude.{slice_set}, Result.{result_ok}}
use Rattle.mdp_math.proofs.{Order.{0ℚ}, Written.{written_add-some}}
use Rattle.mdp_math.specs.Rational.{ℚ, ◌+ℚ◌}
use Rattle.mdp_spec.specs.Mdp.{value_at}
use Rattle.mdp_quot.specs.declared.sums.Sums.{Sums}
use Rattle.mdp_quot.proofs.sums.Sums.add.Goals as goal
use Rattle.mdp_quot.proofs.sums.Sums.add.Goals.{then-eq+in_ok-push, else-eq}

pub returns-clause-sums : goal.returns-clause-sums
returns-clause-sums c =
    let at : c.index.result.now ≡ value_at c.args.self.now.sums.items c.args.node = c.index.ensures ∙ get_or_default c.args.self.now.sums.items c.args.node c.index.result.now 0ℚ c.requires.node in
    let e : c.unwrap.result ≡ value_at c.args.self.now.sums.items c.args.node +ℚ c.args.prob.now =
    written_add-some _ _ c.unwrap.result (sym (ap result_ok c.unwrap.ensures) ∙ c.add.ensures) ∙ ap (λ (z : ℚ). z +ℚ c.args.prob.now) at
    in
    let same : c.if-eq.self.sums.items ≡ c.args.self.now.sums.items =
    elim c.if-eq.branch [ then-eq+in_ok-push w ↦ ap (λ (s : Sums). s.sums.items) w.self-is | else-eq w ↦ ap (λ (s : Sums). s.sums.items) w.self-is ]
    in
    ap₂ (λ (xs : List ℚ) (x : ℚ). slice_set xs c.args.node x) same e
