use Rattle.std.proofs.{Common.{Bool, List, length, map, ap, ◌∙◌}, lemmas.List.FromFn.{length-map-range_with_len}, lemmas.Result.{IfOk-weaker}}
use Rattle.std.specs.List.{range_with_len}
use Rattle.mdp_graph.specs.declared.pass.Pass.{Pass}
use Rattle.mdp_ends.specs.Toward.{target_in}
use Rattle.mdp_parts.proofs.TowardParts.{is_toward, part_marked}
use Rattle.mdp_parts.proofs.inward.toward.Goals as goal

pub toward_targets-requires-clause-target : goal.toward_targets-requires-clause-target
toward_targets-requires-clause-target c =
    ap (λ (xs : List Bool). length xs) (c.in_ok-first.ensures)
    ∙ length-map-range_with_len (target_in c.args.ends.now.parts c.args.i c.args.target.now) 0 c.states.result ∙ c.states.ensures

pub returns-clause-toward : goal.returns-clause-toward
returns-clause-toward c =
    IfOk-weaker c.toward_targets.result _ _ (λ (pass : Pass) a.
    is_toward c.args.model.now c.known.ensures.mdp c.args.ends.now.parts c.requires.ends.ends c.args.i c.requires.part
    c.args.target.now c.requires.some c.in_ok-first.first pass.marks pass.ranks.items pass.choices.items
    (c.in_ok-first.ensures ∙ ap (λ n. map (target_in c.args.ends.now.parts c.args.i c.args.target.now) (range_with_len 0 n)) c.states.ensures) a)
    c.toward_targets.ensures.toward

pub returns-clause-marks : goal.returns-clause-marks
returns-clause-marks c =
    IfOk-weaker c.toward_targets.result _ _ (λ (pass : Pass) a.
    part_marked c.args.model.now c.known.ensures.mdp c.args.ends.now.parts c.requires.ends.ends c.args.i c.requires.part
    c.args.target.now c.requires.some c.in_ok-first.first pass.marks pass.ranks.items pass.choices.items
    (c.in_ok-first.ensures ∙ ap (λ n. map (target_in c.args.ends.now.parts c.args.i c.args.target.now) (range_with_len 0 n)) c.states.ensures) a)
    c.toward_targets.ensures.toward
