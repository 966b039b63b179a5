-- The rounds so far, each round none while a state is left.
use Rattle.std.specs.Prelude.{◌≡◌, ℕ, ◌+◌, ◌<◌, ◌≤◌, ◌↔◌, Bool, true, false, ◌||◌, not, nat_lt, List, length, Option, Some, None, is_some}
use Rattle.mdp_spec.specs.Mdp.{Mdp, states_of}
use Rattle.mdp_rows.specs.Preds.{is_among}
use Rattle.mdp_graph.specs.{declared.forest.Way.{Way}, Layers.{rank_at}, Ranking.{unranked}, Rounds.{CanStay}, Waiting.{AreWaiting}}
use Rattle.mdp_graph.specs.Forest.{attached, IsForest}

-- whether a state of this round is left after round i
abbrev pub left_by : ℕ → Option ℕ → Bool
left_by i None = true
left_by i (Some r) = nat_lt i r

abbrev pub left_at : List (Option ℕ) → ℕ → ℕ → Bool
left_at rounds i s = left_by i (rank_at rounds s)

-- the first k rounds are done
pub record IsFalling (m : Mdp) (goals : List Bool) (rounds : List (Option ℕ)) (k : ℕ) : Type 0 where
  pub count : length rounds ≡ states_of m
  pub range : (s r : ℕ) → s < states_of m → rank_at rounds s ≡ Some r → (1 ≤ r) × (r ≤ k)
  pub each : (i s : ℕ) → i < k → s < states_of m → (left_at rounds (i + 1) s ≡ true) ↔ CanStay m goals (left_at rounds i) s
  pub small : k + unranked rounds ≤ states_of m

-- and the forest of those that stay, and the states that fall next, are known
pub record IsRound (m : Mdp) (goals : List Bool) (rounds : List (Option ℕ)) (k : ℕ) (lists : List (List Bool)) (ways : List (Option Way)) (fell : List ℕ) : Type 0 where
  pub falling : IsFalling m goals rounds k
  pub waiting : AreWaiting m (λ t. is_some (rank_at rounds t)) lists
  pub forest : IsForest m goals lists ways (λ _. false)
  pub stays : (s : ℕ) → s < states_of m → (attached goals ways s ≡ true) ↔ CanStay m goals (left_at rounds k) s
  pub out : (s : ℕ) → s < states_of m → (is_some (rank_at rounds s) || is_among s fell) ≡ not (attached goals ways s)
  pub below : (s : ℕ) → is_among s fell ≡ true → s < states_of m
  pub fresh : (s : ℕ) → is_among s fell ≡ true → is_some (rank_at rounds s) ≡ false
