use Rattle.std.proofs.{Common.{sym, ◌∙◌, subst, List, ℕ, length, ◌<◌, map, [], ◌∷◌, ◌++◌}, lemmas.List.{map-append}, lemmas.Result.{err_from_is_err_and}}
use Rattle.std.specs.Borrow.{Bor}
use Rattle.mdp_drn.specs.Lines.{without_blanks_before}
use Rattle.mdp_drn.proofs.LinesRead.LabelsFrom.{LabelsFrom, some-left, none-left, no_label_done, label_done, label_fails, labels_done, label-takes, labels_in-from}
use Rattle.mdp_drn.proofs.labels.read_labels.Goals as goal

abbrev texts : List (Bor (List ℕ)) → List (List ℕ)
texts labels = map (λ label. label.now) labels

pub loop-rest-init : goal.loop-rest-init
loop-rest-init c = rw (c.new-labels.ensures.items, c.trim_start-rest.ensures) (no_label_done (without_blanks_before c.args.bytes.now))

pub next_label-requires : goal.next_label-requires
next_label-requires c = some-left (length c.loop-rest.rest.now) _ c.is_empty.ensures c.loop-rest-test.true

pub returns-in_err-label : goal.returns-in_err-label
returns-in_err-label c =
    let p = err_from_is_err_and c.from_residual.result c.from_residual.ensures.1 in
    record {
      labels = rw (p.1, p.2) (labels_in-from c.args.bytes.now
          ∙ label_fails (without_blanks_before c.args.bytes.now) c.loop-rest.rest.now (texts c.loop-rest.labels.items) c.in_err-label.field-0.0
          (some-left (length c.loop-rest.rest.now) _ c.is_empty.ensures c.loop-rest-test.true) (sym c.in_err-label.ensures) c.loop-rest.invariant);
    }

pub loop-rest-smaller : goal.loop-rest-smaller
loop-rest-smaller c =
    subst (λ (rest : List ℕ). length rest < length c.loop-rest.rest.now) (sym c.trim_start-rest-in-loop-rest.ensures)
    (label-takes c.loop-rest.rest.now c.in_ok-label.label.now c.in_ok-label.behind.now
    (some-left (length c.loop-rest.rest.now) _ c.is_empty.ensures c.loop-rest-test.true) (sym c.in_ok-label.ensures))

pub loop-rest-preserved : goal.loop-rest-preserved
loop-rest-preserved c =
    let all = without_blanks_before c.args.bytes.now in
    subst (λ (labels : List (Bor (List ℕ))). LabelsFrom all c.trim_start-rest-in-loop-rest.result.now (texts labels)) (sym c.in_ok-push.ensures.items)
    (subst (λ (names : List (List ℕ)). LabelsFrom all c.trim_start-rest-in-loop-rest.result.now names)
    (sym (map-append (λ (label : Bor (List ℕ)). label.now) c.loop-rest.labels.items (c.in_ok-label.label ∷ [])))
    (subst (λ (rest : List ℕ). LabelsFrom all rest (texts c.loop-rest.labels.items ++ c.in_ok-label.label.now ∷ [])) (sym c.trim_start-rest-in-loop-rest.ensures)
    (label_done all c.loop-rest.rest.now c.in_ok-label.label.now c.in_ok-label.behind.now (texts c.loop-rest.labels.items)
    (some-left (length c.loop-rest.rest.now) _ c.is_empty.ensures c.loop-rest-test.true) (sym c.in_ok-label.ensures) c.loop-rest.invariant)))

pub returns : goal.returns
returns c = record {
  labels = labels_in-from c.args.bytes.now ∙ labels_done (without_blanks_before c.args.bytes.now) (texts c.loop-rest.labels.items)
      (subst (λ (rest : List ℕ). LabelsFrom (without_blanks_before c.args.bytes.now) rest (texts c.loop-rest.labels.items))
      (none-left c.loop-rest.rest.now _ c.is_empty.ensures c.loop-rest-test.false) c.loop-rest.invariant);
}
