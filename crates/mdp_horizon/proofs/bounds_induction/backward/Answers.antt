use Rattle.std.proofs.Common.{◌≡◌, ℕ, ◌∙◌, length, ap, subst, arith}
use Rattle.mdp_horizon.specs.{Columns.{cover, follow, cover_next, follow_next, choices_next}, Code.{plain_objective}, BoundsCode.{values_of}}
use Rattle.mdp_horizon.proofs.StepsLemmas.{cover_states, follow_states, cover_more, follow_more, table_more}
use Rattle.mdp_horizon.proofs.bounds_induction.backward.Goals as goal

pub next-requires-clause-cover : goal.next-requires-clause-cover
next-requires-clause-cover c =
    ap length c.loop-done.invariant.covers
    ∙ cover_states c.args.query.dir c.args.query.one c.args.query.model.now (plain_objective c.args.query.objective) c.loop-done.done

pub next-requires-clause-follow : goal.next-requires-clause-follow
next-requires-clause-follow c =
    ap length c.loop-done.invariant.follows
    ∙ follow_states c.args.query.dir c.args.query.one c.args.query.model.now (plain_objective c.args.query.objective) c.loop-done.done

pub loop-done-preserved : goal.loop-done-preserved
loop-done-preserved c =
    let dir = c.args.query.dir in
    let one = c.args.query.one in
    let m = c.args.query.model.now in
    let o = plain_objective c.args.query.objective in
    let made = c.in_ok-next.ensures {u = tt} in
    record {
      covers = made.cover ∙ ap (cover_next dir one m o) c.loop-done.invariant.covers ∙ cover_more dir one m o c.loop-done.done;
      follows = made.follow ∙ ap (follow_next dir one m o) c.loop-done.invariant.follows ∙ follow_more dir one m o c.loop-done.done;
      choices = table_more dir one m o c.loop-done.done c.loop-done.table.items _ _ (c.in_ok-push.ensures {u = tt}).items c.loop-done.invariant.choices
          (made.choices ∙ ap (choices_next dir one m o) c.loop-done.invariant.follows);
    }

pub returns-clause-cover : goal.returns-clause-cover
returns-clause-cover c =
    let e : c.loop-done.done ≡ c.args.steps = omega arith in
    subst (λ (n : ℕ). values_of c.loop-done.cover ≡ cover c.args.query.dir c.args.query.one c.args.query.model.now (plain_objective c.args.query.objective) n) e c.loop-done.invariant.covers

pub returns-clause-follow : goal.returns-clause-follow
returns-clause-follow c =
    let e : c.loop-done.done ≡ c.args.steps = omega arith in
    subst (λ (n : ℕ). values_of c.loop-done.follow ≡ follow c.args.query.dir c.args.query.one c.args.query.model.now (plain_objective c.args.query.objective) n) e c.loop-done.invariant.follows
