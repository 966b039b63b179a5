use Rattle.std.specs.Prelude.{ℕ, ◌<◌}
use Rattle.mdp_spec.specs.Mdp.{value_at}
use Rattle.mdp_search_bounds.specs.{Gap.{ShowsNear}, Near.{IsNear}}
use Rattle.mdp_search_bounds.proofs.gap.Gap.between.Given as goal

abbrev pub invariant-loop-place : goal.invariant-loop-place
invariant-loop-place l = (digits : ℕ) → ShowsNear l.gap digits → (s : ℕ) → s < l.place → IsNear digits (value_at l.lower s) (value_at l.upper s)
