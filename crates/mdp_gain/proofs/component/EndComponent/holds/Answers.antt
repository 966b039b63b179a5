use Rattle.std.proofs.Common.{◌∙◌, ℕ, sym, ap, arith, Option, Some, eqb}
use Rattle.mdp_ends.specs.Ends.{part_of}
use Rattle.std.specs.Option.{option_eq}
use Rattle.mdp_gain.proofs.Given.{state-below, parts-len, member-is, number-eq}
use Rattle.mdp_gain.proofs.component.EndComponent.holds.Goals as goal

pub of-requires : goal.of-requires
of-requires c =
    let n = parts-len c.args.self.now in
    let l = state-below c.args.self.now c.args.s c.requires.state in
    omega arith

pub returns : goal.returns
returns c =
    c.eq.ensures ∙ ap (λ (o : Option ℕ). option_eq eqb o (Some c.args.self.now.number)) c.of.ensures
    ∙ number-eq c.args.self.now.number (part_of c.args.self.now.ends.now.parts c.args.s)
    ∙ sym (member-is c.args.self.now c.args.s)
