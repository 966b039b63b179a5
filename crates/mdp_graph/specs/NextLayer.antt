-- Ranks that are given layer by layer, while the choices wait for a successor with a rank.
use Rattle.std.specs.Prelude.{◌≡◌, ℕ, ◌<◌, Bool, true, ◌&&◌, not, List, [], length, Option, is_none, is_some}
use Rattle.mdp_spec.specs.Mdp.{Mdp, states_of}
use Rattle.mdp_rows.specs.{Preds.{is_among}, declared.preds.Pred.{Pred}}
use Rattle.mdp_graph.specs.{Layers.{rank_at}, Ranking.{IsGiven}, Meet.{must_step}, Waiting.{AreWaiting, AreReleased, leading_to}, Forest.{all_preds}}

-- the states that have a rank
abbrev pub is_ranked : List (Option ℕ) → ℕ → Bool
is_ranked ranks s = is_some (rank_at ranks s)

-- all choices by the states that they lead to, and those none of whose successors has a rank
pub record AreLayers (m : Mdp) (preds : List (List Pred)) (lists : List (List Bool)) (ranks : List (Option ℕ)) : Type 0 where
  pub preds_are : preds ≡ all_preds m
  pub count : length ranks ≡ states_of m
  pub waiting : AreWaiting m (is_ranked ranks) lists

-- a rank was given to these states; the states were met without one each of whose choices now has a successor with a rank, and before had not
pub record IsNext (m : Mdp) (preds : List (List Pred)) (lists after : List (List Bool)) (ranks new : List (Option ℕ)) (states : List ℕ) (rank : ℕ) (met : List ℕ) : Type 0 where
  pub layer : List ℕ
  pub given : IsGiven ranks [] new layer states rank
  pub released : AreReleased lists after (leading_to preds layer)
  pub listed : (s : ℕ) → s < states_of m → is_among s met ≡ (is_none (rank_at new s) && (not (must_step m (is_ranked ranks) s) && must_step m (is_ranked new) s))
  pub below : (s : ℕ) → is_among s met ≡ true → s < states_of m
