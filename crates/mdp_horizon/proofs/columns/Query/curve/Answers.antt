use Rattle.std.proofs.Common.{◌≡◌, ◌∙◌, ℕ, ℤ, suc, ◌+◌, List, Option, map, length, ap, ap₂, arith}
use Rattle.std.specs.List.{range_with_len}
use Rattle.mdp_horizon.specs.{Whole.{whole_at}, Columns.{cover_next, follow_next}, Curve.{point_by, point_of, curve_of}, Code.{plain_objective}}
use Rattle.mdp_horizon.proofs.{More.{more}, StepsLemmas.{cover_states, follow_states, cover_more, follow_more}}
use Rattle.mdp_horizon.proofs.columns.Query.curve.Goals as goal

pub values_at-lower-requires-clause-cover : goal.values_at-lower-requires-clause-cover
values_at-lower-requires-clause-cover c =
    let e = ap length (c.in_ok-cover.ensures {u = tt}) ∙ cover_states c.args.self.dir c.args.self.one c.args.self.model.now (plain_objective c.args.self.objective) 0 in
    omega (arith, e, c.requires.state)

pub values_at-lower-requires-clause-follow : goal.values_at-lower-requires-clause-follow
values_at-lower-requires-clause-follow c =
    let e = ap length (c.in_ok-follow.ensures {u = tt}) ∙ follow_states c.args.self.dir c.args.self.one c.args.self.model.now (plain_objective c.args.self.objective) 0 in
    omega (arith, e, c.requires.state)

pub next-requires-clause-cover : goal.next-requires-clause-cover
next-requires-clause-cover c =
    ap length (c.loop-done.invariant.covers)
    ∙ cover_states c.args.self.dir c.args.self.one c.args.self.model.now (plain_objective c.args.self.objective) c.loop-done.done

pub next-requires-clause-follow : goal.next-requires-clause-follow
next-requires-clause-follow c =
    ap length (c.loop-done.invariant.follows)
    ∙ follow_states c.args.self.dir c.args.self.one c.args.self.model.now (plain_objective c.args.self.objective) c.loop-done.done

pub values_at-lower-requires-in-loop-done-clause-cover : goal.values_at-lower-requires-in-loop-done-clause-cover
values_at-lower-requires-in-loop-done-clause-cover c =
    let dir = c.args.self.dir in
    let one = c.args.self.one in
    let m = c.args.self.model.now in
    let o = plain_objective c.args.self.objective in
    let made = (c.in_ok-next.ensures {u = tt}).cover ∙ ap (cover_next dir one m o) (c.loop-done.invariant.covers) ∙ cover_more dir one m o c.loop-done.done in
    let e = ap length (made) ∙ cover_states dir one m o (c.loop-done.done + 1) in
    omega (arith, e, c.requires.state)

pub values_at-lower-requires-in-loop-done-clause-follow : goal.values_at-lower-requires-in-loop-done-clause-follow
values_at-lower-requires-in-loop-done-clause-follow c =
    let dir = c.args.self.dir in
    let one = c.args.self.one in
    let m = c.args.self.model.now in
    let o = plain_objective c.args.self.objective in
    let made = (c.in_ok-next.ensures {u = tt}).follow ∙ ap (follow_next dir one m o) (c.loop-done.invariant.follows) ∙ follow_more dir one m o c.loop-done.done in
    let e = ap length (made) ∙ follow_states dir one m o (c.loop-done.done + 1) in
    omega (arith, e, c.requires.state)

pub loop-done-preserved : goal.loop-done-preserved
loop-done-preserved c =
    let dir = c.args.self.dir in
    let one = c.args.self.one in
    let m = c.args.self.model.now in
    let o = plain_objective c.args.self.objective in
    let covers = (c.in_ok-next.ensures {u = tt}).cover ∙ ap (cover_next dir one m o) (c.loop-done.invariant.covers) ∙ cover_more dir one m o c.loop-done.done in
    let follows = (c.in_ok-next.ensures {u = tt}).follow ∙ ap (follow_next dir one m o) (c.loop-done.invariant.follows)
    ∙ follow_more dir one m o c.loop-done.done in
    record {
      covers = covers;
      follows = follows;
      points = (c.in_ok-push-2.ensures {u = tt}).items
          ∙ more (point_of dir one m o c.args.s) (c.loop-done.done + 1) c.loop-done.curve.items _ c.loop-done.invariant.points
          (c.values_at-lower-in-loop-done.ensures
          ∙ ap₂ (λ (covering following : List (Option ℤ)). point_by dir one (whole_at covering c.args.s) (whole_at following c.args.s))
          (covers) (follows));
    }

pub returns : goal.returns
unfolding curve_of
returns c =
    let e : c.loop-done.done + 1 ≡ suc c.args.steps = omega arith in
    c.loop-done.invariant.points
    ∙ ap (λ (k : ℕ). map (point_of c.args.self.dir c.args.self.one c.args.self.model.now (plain_objective c.args.self.objective) c.args.s) (range_with_len 0 k)) e
