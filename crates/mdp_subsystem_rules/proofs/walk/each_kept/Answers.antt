use Rattle.std.proofs.{Common.{ℕ, ◌+◌, List, [], ◌∷◌, drop, get_or, map, refl, sym, ap, ◌∙◌}, lemmas.List.{drop_more}}
use Rattle.mdp_farkas.specs.Verdict.{objection_to}
use Rattle.mdp_farkas.proofs.Objections.{goes_on}
use Rattle.mdp_subsystem_rules.proofs.walk.each_kept.Goals as goal

pub loop-s-preserved : goal.loop-s-preserved
loop-s-preserved g c =
    let check = g.C.OneCheck.check c.args.check in
    let kept = c.args.kept.now in
    let rest = drop (c.loop-s.s-index + 1) kept in
    c.loop-s.invariant
    ∙ ap (λ (states : List ℕ). objection_to (map check states)) (drop_more kept c.loop-s.s-index 0 c.loop-s-test.true)
    ∙ sym (goes_on (check (get_or kept c.loop-s.s-index 0) ∷ []) (map check rest) tt (objection_to (map check rest)) (c.in_ok-check_at.ensures {u = tt}) refl)
