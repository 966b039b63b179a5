use Rattle.std.proofs.Common.{◌≡◌, ◌∙◌, List, ap, length, subst, sym}
use Rattle.mdp_math.specs.Rational.{ℚ}
use Rattle.mdp_farkas.specs.Mean.{IsMean}
use Rattle.mdp_bounds.proofs.MeanExact.{mean_of_exact}
use Rattle.mdp_search_bounds.proofs.Sizes.{policy_each, spread_each}
use Rattle.mdp_search_bounds.proofs.mean.Averaging.bounds_of.Goals as goal

pub returns-clause-same : goal.returns-clause-same
returns-clause-same c = sym ((c.in_ok-lower.ensures {u = tt}).items_if_clones_equal (λ x y e. e) ∙ c.deref.ensures.value)

pub returns-clause-held : goal.returns-clause-held
returns-clause-held c =
    let m = c.args.self.model.now in
    let answer = c.args.answer in
    let same : c.in_ok-lower.lower.items ≡ answer.gains.items = (c.in_ok-lower.ensures {u = tt}).items_if_clones_equal (λ x y e. e) ∙ c.deref.ensures.value in
    let spread = spread_each m c.args.self.name answer.gains.items answer.bound.items answer.bias.items answer.spread answer.choices.items c.args.self.dir c.requires.rules.rules in
    let policy = policy_each m c.args.self.name answer.gains.items answer.bound.items answer.bias.items answer.spread answer.choices.items c.args.self.dir c.requires.rules.rules in
    record {
      rules = mean_of_exact c.args.self.dir m c.args.self.name c.in_ok-lower.lower.items answer.gains.items answer.bound.items answer.bias.items answer.spread answer.choices.items (sym same)
          (subst (λ (g : List ℚ). IsMean c.args.self.dir m c.args.self.name g answer.bound.items answer.bias.items answer.spread answer.choices.items) (sym same) c.requires.rules);
      sizes = record { lower = ap length same ∙ c.requires.gains; upper = c.requires.gains; bound = spread.bounds; bias = spread.biases; choices = policy.one_each };
    }
