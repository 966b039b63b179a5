use Rattle.std.proofs.{Common.{length, if◌then◌else◌, ap, ◌∙◌}, lemmas.List.{length-replicate}, lemmas.List.FromFn.{length-map-range_with_len}}
use Rattle.mdp_spec.specs.Tree.{is_marked}
use Rattle.mdp_farkas.specs.Compare.{0ℚ, 1ℚ}
use Rattle.mdp_subsystem_search.proofs.query.Query.upper_sided.Goals as goal

pub returns : goal.returns
returns c = record {
  lower =
      ap length (c.in_ok-least_values.ensures {u = tt}) ∙ length-map-range_with_len (λ s. if is_marked c.args.self.now.goals.now s then 1ℚ else 0ℚ) 0 c.states-states.result
      ∙ c.states-states.ensures;
  upper = c.requires.upper;
  choices = c.requires.choices;
  ranks = ap length ((c.in_ok-vec.ensures {u = tt}).items_if_clones_equal (λ y e. e)) ∙ length-replicate c.states-states.result 0 ∙ c.states-states.ensures;
}
