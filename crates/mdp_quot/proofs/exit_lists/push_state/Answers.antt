use Rattle.std.proofs.{Common.{◌≡◌, ◌<◌, ◌++◌, ◌∷◌, [], List, length, get_or, sym, ap, ◌∙◌, subst, arith}, lemmas.List.{get_or_default, length-set}}
use Rattle.std.specs.Prelude.{slice_set}
use Rattle.mdp_spec.specs.Mdp.{choices_at}
use Rattle.mdp_rows.specs.{declared.preds.Pred.{Pred}, Preds.{pair, first_choices}}
use Rattle.mdp_ends.specs.Ends.{is_inside}
use Rattle.mdp_quot.specs.ExitLists.{AreExits}
use Rattle.mdp_quot.proofs.{ExitsFound.{inside_more, exit_more, choice_more}, exit_lists.push_state.Goals.{then-not-inside+in_ok-push, else-not-inside}}
use Rattle.mdp_quot.proofs.exit_lists.push_state.Goals as goal

pub loop-c-preserved : goal.loop-c-preserved
loop-c-preserved c =
    let is : c.inside.result ≡ is_inside c.args.model.now c.args.ends.now.parts c.args.s c.loop-c.c
    = c.inside.ensures ∙ c.requires.ends.inner c.args.s c.loop-c.c c.requires.state (omega (arith, c.loop-c-test.true, c.choices-c-end.ensures)) in
    let low : get_or c.args.nodes.now c.args.s 0 < length c.args.lists.now.items = c.requires.below c.args.s 0 (omega (arith, c.requires.state, c.requires.nodes)) in
    elim c.if-not-inside.branch [
      | then-not-inside+in_ok-push w ↦
          rw w.lists-is (
            length-set c.loop-c.lists.items (get_or c.args.nodes.now c.args.s 0) w.push.new.self ∙ c.loop-c.invariant.0,
            λ choices a. choice_more c.args.model.now c.args.ends.now.parts c.args.nodes.now (length c.args.lists.now.items) c.args.s c.loop-c.c choices _
                (exit_more c.args.model.now c.args.ends.now.parts c.args.nodes.now (length c.args.lists.now.items)
                (choices ++ first_choices c.args.s c.loop-c.c) c.loop-c.lists.items (c.loop-c.invariant.1 choices a) (pair c.args.s c.loop-c.c) _ (sym is ∙ w.if-not-inside.true) low
                (ap (λ (ys : List Pred). slice_set c.loop-c.lists.items (get_or c.args.nodes.now c.args.s 0) ys)
                (w.in_ok-push.ensures
                ∙ ap (λ (ys : List Pred). ys ++ pair c.args.s c.loop-c.c ∷ [])
                (w.index_mut.ensures.value ∙ get_or_default c.loop-c.lists.items (get_or c.args.nodes.now c.args.s 0) w.index_mut.result.now [] (omega (arith, low, c.loop-c.invariant.0)))))),
          )
      | else-not-inside w ↦
          rw w.lists-is (
            c.loop-c.invariant.0,
            λ choices a. choice_more c.args.model.now c.args.ends.now.parts c.args.nodes.now (length c.args.lists.now.items) c.args.s c.loop-c.c choices _
                (inside_more c.args.model.now c.args.ends.now.parts c.args.nodes.now (length c.args.lists.now.items)
                (choices ++ first_choices c.args.s c.loop-c.c) c.loop-c.lists.items (c.loop-c.invariant.1 choices a) (pair c.args.s c.loop-c.c) (sym is ∙ w.if-not-inside.false)),
          )
    ]

pub returns : goal.returns
returns c = λ choices a.
    subst (λ n. AreExits c.args.model.now c.args.ends.now.parts c.args.nodes.now (length c.args.lists.now.items) (choices ++ first_choices c.args.s n) c.loop-c.lists.items)
    (let e : c.loop-c.c ≡ length (choices_at c.args.model.now c.args.s) = omega (arith, c.choices-c-end.ensures, c.loop-c-test.false, c.loop-c.auto.c-end) in e) (c.loop-c.invariant.1 choices a)
