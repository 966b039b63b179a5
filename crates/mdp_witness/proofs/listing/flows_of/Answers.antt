use Rattle.std.proofs.{Common.{◌≡◌, ◌<◌, ◌∙◌, ◌∷◌, [], ◌++◌, List, Vec, length, sym, ap, ap₂, arith}, lemmas.List.{get_or_default}}
use Rattle.std.specs.Global.{Global}
use Rattle.mdp_math.specs.Rational.{lt_ℚ}
use Rattle.mdp_math.proofs.Order.{0ℚ}
use Rattle.mdp_spec.specs.Mdp.{value_at}
use Rattle.mdp_claims.specs.declared.subsystem.Flow.{Flow}
use Rattle.mdp_witness.proofs.{OneMore.{flows-more, flows-skip, flow-is}, listing.flows_of.Goals.{then-is_positive+in_ok-push, else-is_positive}}
use Rattle.mdp_witness.proofs.listing.flows_of.Goals as goal

pub loop-s-preserved : goal.loop-s-preserved
loop-s-preserved c =
    let y = c.args.visits.now in
    let s = c.loop-s.s in
    let inside : s < length y = let t = c.loop-s-test.true in let e = c.requires.visits in omega arith in
    let amount : c.index-visits-s.result ≡ value_at y s = c.index-visits-s.is ∙ get_or_default y s c.index-visits-s.result 0ℚ inside in
    elim c.if-is_positive.branch [
      | then-is_positive+in_ok-push w ↦
          ap (λ (v : Vec Flow Global). v.items) w.flows-is ∙ (w.in_ok-push.ensures {u = tt}).items
          ∙ ap₂ (λ (xs : List Flow) (f : Flow). xs ++ f ∷ []) c.loop-s.invariant (flow-is c.args.policy.now y s c.index-visits-s.result amount)
          ∙ sym (flows-more s c.args.policy.now y (ap (lt_ℚ 0ℚ) (sym amount) ∙ sym c.is_positive.ensures ∙ w.if-is_positive.true))
      | else-is_positive w ↦
          ap (λ (v : Vec Flow Global). v.items) w.flows-is ∙ c.loop-s.invariant
          ∙ sym (flows-skip s c.args.policy.now y (ap (lt_ℚ 0ℚ) (sym amount) ∙ sym c.is_positive.ensures ∙ w.if-is_positive.false))
    ]
