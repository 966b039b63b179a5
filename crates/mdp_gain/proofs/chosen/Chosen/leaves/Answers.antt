use Rattle.std.proofs.Common.{◌∙◌, Bool, ◌&&◌, ◌==◌, not, List, sym, ap}
use Rattle.std.specs.{List.{list_any}, Prelude.{slice_index}}
use Rattle.mdp_spec.specs.Mdp.{Entry}
use Rattle.mdp_unichain.specs.Component.{row_by}
use Rattle.mdp_gain.specs.Code.{component_in}
use Rattle.mdp_gain.proofs.{Flagging.{any-targets}, Given.{policy-below}}
use Rattle.mdp_gain.proofs.chosen.Chosen.leaves.Goals as goal

pub row-row-requires-clause-choice : goal.row-row-requires-clause-choice
row-row-requires-clause-choice c = policy-below c.args.self.now c.args.s c.requires.state

pub returns-then-holds : goal.returns-then-holds
returns-then-holds c =
    let out : List Entry → Bool = list_any (λ (y : Entry). not (slice_index c.args.parts.now y.target == slice_index c.args.parts.now c.args.s)) in
    c.has_other-other.ensures
    ∙ sym (any-targets (λ t. not (slice_index c.args.parts.now t == slice_index c.args.parts.now c.args.s)) c.row-row.result.targets.now c.row-row.result.probs.now c.row-row.result.same_length)
    ∙ ap out c.row-row.ensures.row
    ∙ sym (ap (λ (b : Bool). b && out (row_by (component_in c.args.self.now.component) c.args.self.now.policy.now c.args.s)) (sym c.holds.ensures ∙ c.if-holds.true))
