-- What a policy does on a subsystem: how close it comes to a threshold there, and when it falls short of it.
use Rattle.std.specs.Prelude.{◌≡◌, ℕ, ◌≤◌, Bool, List, slice_index, All}
use Rattle.mdp_math.specs.Rational.{ℚ, ◌+ℚ◌, ◌*ℚ◌, ◌≤ℚ◌}
use Rattle.mdp_spec.specs.{Mdp.{Mdp}, Tree.{unfolded}, Hit.{hit}, Sub.{sub_of}, Bounds.{part, whole}}
use Rattle.mdp_claims.specs.declared.subsystem.Flow.{Flow}

-- each flow takes the choice of the policy
abbrev pub AreOfPolicy : List ℕ → List Flow → Type 0
AreOfPolicy policy flows = All (λ f. f.choice ≡ slice_index policy f.state) flows

-- with which probability a policy of the subsystem meets a goal within n steps
abbrev pub hit_on : Mdp → List Bool → List Bool → List ℕ → ℕ → ℕ → ℚ
hit_on m goals kept policy n s = hit (sub_of m goals kept) goals 1 n (unfolded (sub_of m goals kept) policy n s) s

-- the policy comes close to the threshold, at a depth of at most k times the sum of the flows, rounded up
pub record PolicyWithin (m : Mdp) (goals kept : List Bool) (start : ℕ) (threshold flows : ℚ) (policy : List ℕ) : Type 0 where
  pub close : (k : ℕ) → 1 ≤ k → (n : ℕ) × (threshold ≤ℚ hit_on m goals kept policy n start +ℚ part k) × ((d : ℕ) → whole k *ℚ flows ≤ℚ whole d → n ≤ d)

-- the policy misses the threshold by some 1/q at every depth
pub record FallsShort (m : Mdp) (goals kept : List Bool) (start : ℕ) (threshold : ℚ) (policy : List ℕ) : Type 0 where
  pub misses : (q : ℕ) × (1 ≤ q) × ((n : ℕ) → hit_on m goals kept policy n start +ℚ part q ≤ℚ threshold)
