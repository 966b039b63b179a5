use Rattle.std.proofs.Common.{◌≡◌, Bool, List, [], ◌∷◌, sym, ap, ◌∙◌}
use Rattle.mdp_math.specs.Rational.{ℚ}
use Rattle.mdp_spec.specs.{Mdp.{Mdp}, Sub.{sub_of}}
use Rattle.mdp_claims.specs.declared.verdict.Verdict.{Verdict}
use Rattle.mdp_farkas.specs.Verdict.{verdict_of}
use Rattle.mdp_bounds.specs.Reach.{bounds_checks}
use Rattle.mdp_check.specs.Check.{after_init}
use Rattle.mdp_subsystem_bounds.specs.{Cert.{kept_states}, Rules.{ones, start_check, subsystem_checks}}
use Rattle.mdp_subsystem_bounds.proofs.Rules.{as_many, verdict_append, subsystem_rules, subsystem_reaches}
use Rattle.mdp_subsystem_bounds.proofs.holds.holds_subsystem_bounds.Goals as goal

pub holds_bounds_reach-before-requires-clause-goals : goal.holds_bounds_reach-before-requires-clause-goals
holds_bounds_reach-before-requires-clause-goals c = as_many c.args.model.now c.in_ok-part.part c.args.goals.now c.in_ok-kept.kept _ c.in_ok-part.ensures c.requires.goals

pub holds_bounds_reach-before-requires-clause-lower : goal.holds_bounds_reach-before-requires-clause-lower
holds_bounds_reach-before-requires-clause-lower c = as_many c.args.model.now c.in_ok-part.part c.args.goals.now c.in_ok-kept.kept _ c.in_ok-part.ensures c.requires.lower

pub holds_bounds_reach-before-requires-clause-upper : goal.holds_bounds_reach-before-requires-clause-upper
holds_bounds_reach-before-requires-clause-upper c = as_many c.args.model.now c.in_ok-part.part c.args.goals.now c.in_ok-kept.kept _ c.in_ok-part.ensures c.requires.upper

pub holds_bounds_reach-before-requires-clause-choices : goal.holds_bounds_reach-before-requires-clause-choices
holds_bounds_reach-before-requires-clause-choices c = as_many c.args.model.now c.in_ok-part.part c.args.goals.now c.in_ok-kept.kept _ c.in_ok-part.ensures c.requires.choices

pub holds_bounds_reach-before-requires-clause-ranks : goal.holds_bounds_reach-before-requires-clause-ranks
holds_bounds_reach-before-requires-clause-ranks c = as_many c.args.model.now c.in_ok-part.part c.args.goals.now c.in_ok-kept.kept _ c.in_ok-part.ensures c.requires.ranks

pub returns : goal.returns
returns c =
    let dir = c.args.dir in
    let m = c.args.model.now in
    let goals = c.args.goals.now in
    let marks = c.args.lists.now.marks.items in
    let lower = c.args.lists.now.bounds.lower.items in
    let choices = c.args.lists.now.bounds.choices.items in
    let ranks = c.args.lists.now.bounds.ranks.items in
    let before = c.holds_bounds_reach-before.result in
    let part = sub_of m goals (kept_states marks) in
    let last = start_check c.args.start c.args.threshold lower ∷ [] in
    let known = c.known.ensures.mdp in
    let is : c.in_ok-part.part ≡ part = c.in_ok-part.ensures ∙ ap (λ (kept : List Bool). sub_of m goals kept) (c.in_ok-kept.ensures ∙ ap kept_states c.deref.ensures.value) in
    let first : before ≡ verdict_of (bounds_checks dir part goals lower (ones m) choices ranks) =
    c.holds_bounds_reach-before.ensures.verdict
    ∙ ap (λ (b : Mdp). verdict_of (bounds_checks dir b goals lower c.args.lists.now.bounds.upper.items choices ranks)) is
    ∙ ap (λ (us : List ℚ). verdict_of (bounds_checks dir part goals lower us choices ranks)) c.requires.ones in
    let e : c.with_start.result ≡ verdict_of (subsystem_checks dir m goals c.args.start c.args.threshold (kept_states marks) lower choices ranks) =
    c.with_start.ensures
    ∙ ap (λ (l : List ℚ). after_init before (verdict_of (start_check c.args.start c.args.threshold l ∷ []))) c.deref-2.ensures.value
    ∙ ap (λ (v : Verdict). after_init v (verdict_of last)) first
    ∙ sym (verdict_append (bounds_checks dir part goals lower (ones m) choices ranks) last) in
    record {
      verdict = e;
      rules = subsystem_rules dir m goals c.args.start c.args.threshold (kept_states marks) lower choices ranks known c.requires.choices c.with_start.result e;
      reaches = subsystem_reaches dir m goals c.args.start c.args.threshold (kept_states marks) lower choices ranks known c.requires.choices c.with_start.result c.requires.start e;
    }
