-- Values that are 0 at marked states and infinite at the others: they are `rewards_of` of no numbers, so what is known of these holds of them.
use Rattle.std.proofs.Common.{◌≡◌, ℕ, ◌<◌, Bool, true, false, List, [], length, Option, Some, None, ◌∙◌, ap, zero-add, if◌then◌else◌}
use Rattle.std.proofs.lemmas.List.FromFn.{get_or-map-range_with_len}
use Rattle.mdp_math.specs.Rational.{ℚ}
use Rattle.mdp_math.proofs.Order.{0ℚ}
use Rattle.mdp_spec.specs.{Mdp.{Mdp, states_of}, Tree.{is_marked}, Bounds.{reward_at}}
use Rattle.mdp_reward.proofs.Certificate.{rewards-len, reward-finite, some-value}
use Rattle.mdp_search_bounds.specs.Values.{zero_by, zeros_of}

module _ (m : Mdp) (marks : List Bool) where
  abbrev pub zeros : List (Option ℚ)
  zeros = zeros_of (states_of m) marks

  pub zeros-len : length zeros ≡ states_of m
  zeros-len = rewards-len m marks marks []

  pub zero-at : (s : ℕ) → s < states_of m → is_marked marks s ≡ true → reward_at zeros s ≡ Some 0ℚ
  zero-at s l e = reward-finite m marks marks [] s l e

  pub none-at : (s : ℕ) → s < states_of m → is_marked marks s ≡ false → reward_at zeros s ≡ None
  none-at s l e =
      get_or-map-range_with_len (zero_by marks) 0 (states_of m) s s (Some 0ℚ) l (zero-add s) ∙ ap (λ (b : Bool). let o : Option ℚ = if b then Some 0ℚ else None in o) e

  pub value-zero : (s : ℕ) (x : ℚ) → s < states_of m → reward_at zeros s ≡ Some x → x ≡ 0ℚ
  value-zero s x l h = some-value m marks marks [] s x l h
