use Rattle.std.proofs.Common.{◌∙◌, ℕ, List, length, sym, ap}
use Rattle.mdp_graph.specs.Choices.{AreLeast}
use Rattle.mdp_ends.specs.Toward.{IsToward}
use Rattle.mdp_gain.specs.Code.{joined}
use Rattle.mdp_gain.proofs.{NextPolicy.{some_target, exact_next}, Given.{count-is}}
use Rattle.mdp_gain.proofs.chosen.Chosen.toward_class.Goals as goal

pub toward-requires-clause-some : goal.toward-requires-clause-some
toward-requires-clause-some c = some_target c.args.self.now c.requires.given c.args.policy.now c.args.class.now c.requires.picked

pub toward-requires-clause-target : goal.toward-requires-clause-target
toward-requires-clause-target c = c.requires.count ∙ count-is c.args.self.now.component

pub joined-requires-clause-marks : goal.joined-requires-clause-marks
joined-requires-clause-marks c =
    c.requires.count ∙ count-is c.args.self.now.component ∙ sym (ap length c.deref.ensures.value ∙ AreLeast.count (IsToward.chosen (c.in_ok-pass.ensures {u = tt}).toward))

pub joined-requires-clause-inside : goal.joined-requires-clause-inside
joined-requires-clause-inside c =
    c.args.self.now.is.len ∙ count-is c.args.self.now.component ∙ sym (ap length c.deref.ensures.value ∙ AreLeast.count (IsToward.chosen (c.in_ok-pass.ensures {u = tt}).toward))

pub returns : goal.returns
returns c =
    exact_next c.args.self.now c.requires.given c.args.policy.now c.args.class.now c.requires.picked c.in_ok-pass.pass.marks c.in_ok-pass.pass.ranks.items c.in_ok-pass.pass.choices.items
    (c.in_ok-pass.ensures {u = tt}).toward (c.in_ok-pass.ensures {u = tt}).marks c.in_ok-joined.field-0.items
    (c.in_ok-joined.ensures {u = tt} ∙ ap (λ (xs : List ℕ). joined c.args.class.now c.args.self.now.policy.now xs) c.deref.ensures.value)
