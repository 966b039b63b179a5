-- What kept states that reach the threshold say, over the model's states.
use Rattle.std.proofs.Common.{◌≡◌, ◌∙◌, ℕ, Bool, List, ap, subst, replicate}
use Rattle.mdp_math.specs.Rational.{ℚ}
use Rattle.mdp_spec.specs.{Mdp.{Mdp, states_of}, Sub.{sub_of}}
use Rattle.mdp_spec.proofs.Subsystem.{sub-states}
use Rattle.mdp_rows.specs.declared.dir.Dir.{Dir}
use Rattle.mdp_bounds.specs.Reach.{IsReachBounds}
use Rattle.mdp_farkas.specs.Compare.{1ℚ}
use Rattle.mdp_subsystem_search.specs.{Kept.{IsFound}, Shown.{ones}, Steps.{HasSizes}, declared.found.Found.{Found}}

module _ (dir : Dir) (m : Mdp) (goals : List Bool) (start : ℕ) (threshold : ℚ) (found : Found) (is : IsFound dir m goals start threshold found) where
  pub found_ones : found.cert.upper.items ≡ ones m
  found_ones = is.reaching.sided.ones ∙ ap (λ (n : ℕ). replicate n 1ℚ) (sub-states m goals found.kept)

  pub found_sizes : HasSizes (states_of m) found.cert
  found_sizes = subst (λ (n : ℕ). HasSizes n found.cert) (sub-states m goals found.kept) is.reaching.sided.sizes

  pub found_rules : IsReachBounds dir (sub_of m goals found.kept) goals found.cert.lower.items (ones m) found.cert.choices.items found.cert.ranks.items
  found_rules = subst (λ (z : List ℚ). IsReachBounds dir (sub_of m goals found.kept) goals found.cert.lower.items z found.cert.choices.items found.cert.ranks.items) found_ones is.reaching.rules
