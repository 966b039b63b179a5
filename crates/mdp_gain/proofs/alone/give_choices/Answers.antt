use Rattle.std.proofs.{Common.{ℕ, ◌+◌, ◌<◌, ◌≤◌, List, drop, map, length, sym, ap, subst, ◌∙◌, arith}, lemmas.List.{drop_all}}
use Rattle.std.proofs.lemmas.List.FromFn.{length-map-range_with_len}
use Rattle.std.specs.List.{range_with_len}
use Rattle.mdp_spec.specs.Mdp.{Choice, choices_at}
use Rattle.mdp_rows.specs.Replay.{with_choices}
use Rattle.mdp_rows.proofs.{CutModels.Handing.{choice_first}, Calls.Kept.{both_same}}
use Rattle.mdp_gain.specs.PartCode.{choice_in}
use Rattle.mdp_gain.proofs.Handing.{map-next}
use Rattle.mdp_gain.proofs.alone.give_choices.Goals as goal

pub loop-c-preserved : goal.loop-c-preserved
loop-c-preserved c =
    let x = c.args.part.now in
    let n : ℕ = length (choices_at x.model.now c.args.s) in
    let f : ℕ → Choice = choice_in x c.args.s in
    let l : c.loop-c.c < n = subst (λ (k : ℕ). c.loop-c.c < k) c.choices-c-end.ensures c.loop-c-test.true in
    let rest : List Choice = drop (c.loop-c.c + 1) (map f (range_with_len 0 n)) in
    record {
      given =
          sym (choice_first (f c.loop-c.c) rest c.loop-c.builder c.give_choice.new.builder c.in_ok-give_choice.ensures.given)
          ∙ ap (λ (xs : List Choice). with_choices xs c.loop-c.builder) (sym (map-next f n c.loop-c.c l))
          ∙ c.loop-c.invariant.given;
      same = both_same c.args.builder.now c.loop-c.builder c.give_choice.new.builder c.loop-c.invariant.same c.in_ok-give_choice.ensures.same;
      state_open = c.in_ok-give_choice.ensures.state_open;
    }

pub returns-clause-given : goal.returns-clause-given
returns-clause-given c =
    let x = c.args.part.now in
    let n : ℕ = length (choices_at x.model.now c.args.s) in
    let f : ℕ → Choice = choice_in x c.args.s in
    let h : n ≤ c.loop-c.c = subst (λ (k : ℕ). k ≤ c.loop-c.c) c.choices-c-end.ensures c.loop-c-test.false in
    let k = length-map-range_with_len f 0 n in
    sym c.loop-c.invariant.given
    ∙ ap (λ (xs : List Choice). with_choices xs c.loop-c.builder) (drop_all c.loop-c.c (map f (range_with_len 0 n)) (omega (arith, h, k)))
