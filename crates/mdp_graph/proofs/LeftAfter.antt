-- The states that are left after rounds.
use Rattle.std.proofs.Common.{◌≡◌, ℕ, ◌<◌, ◌≤◌, Bool, ◌||◌, ◌==◌, nat_lt, le-ltb, List, sym, ◌∙◌}
use Rattle.mdp_spec.specs.{Mdp.{Mdp, states_of}, Row.{IsMdp}}
use Rattle.mdp_graph.specs.{Sets.{marked}, Rounds.{CanStay}}
use Rattle.mdp_graph.proofs.StepsInside.{reached-more}
use Rattle.mdp_math.proofs.Booleans.{or-false}

-- equal sets can be stayed in alike
pub stays-alike : (m : Mdp) (ok : IsMdp m) (goals : List Bool) (p q : ℕ → Bool) → ((t : ℕ) → t < states_of m → p t ≡ q t) → (s : ℕ) → s < states_of m → CanStay m goals p s → CanStay m goals q s
stays-alike m ok goals p q same s h w = (w.0, reached-more m ok p q (marked goals) (λ t l e. sym (same t l) ∙ e) w.0 s h w.1)

-- after the last round no more states are removed
pub left-top : (r i : ℕ) → r ≤ i → ((r == 0) || nat_lt i r) ≡ (r == 0)
left-top r i h = rw (le-ltb i r h) (or-false (r == 0))
