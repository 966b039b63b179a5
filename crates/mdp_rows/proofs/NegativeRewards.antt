-- A model has a reward below 0 exactly where one of its choices does.
use Rattle.std.proofs.{Common.{◌≡◌, ℕ, ◌<◌, Bool, true, false, T, List, length, get_or, refl, subst, inl, inr}, lemmas.List.Folds.{list_any_at}}
use Rattle.std.specs.List.{list_any}
use Rattle.mdp_math.specs.Rational.{ℚ, ◌≤ℚ◌, ◌<ℚ◌}
use Rattle.mdp_math.proofs.Order.{0ℚ, ≤ℚ_or_gt}
use Rattle.mdp_spec.specs.{Mdp.{Choice, State, Mdp, no_choice, no_state, states_of, choices_at}, Unit.{reward_of}}
use Rattle.mdp_rows.specs.Negative.{is_negative, any_negative, has_negative}

none_at : {X : Type 0} (test : X → Bool) (xs : List X) (i : ℕ) (d : X) → i < length xs → list_any test xs ≡ false → test (get_or xs i d) ≡ false
none_at test xs i d h none = by (test (get_or xs i d)) refl
  where
    by : (b : Bool) → test (get_or xs i d) ≡ b → b ≡ false
    by true e = absurd (let some = list_any_at test xs i d h e in cc)
    by false e = refl

at_least_0 : (x : ℚ) → is_negative x ≡ false → 0ℚ ≤ℚ x
at_least_0 x e = elim (≤ℚ_or_gt 0ℚ x) as (λ _. 0ℚ ≤ℚ x) [ inl h ↦ h | inr h ↦ absurd (subst T e h.lt) ]

is_below_0 : (b : Bool) → T b → b ≡ true
is_below_0 true h = refl
is_below_0 false h = absurd h

abbrev reward_at : Mdp → ℕ → ℕ → ℕ → ℚ
reward_at m r s c = reward_of (get_or (choices_at m s) c no_choice) r

module _ (m : Mdp) (r s c : ℕ) (in_range : s < states_of m) (has : c < length (choices_at m s)) where
  -- where the answer is no, each reward is at least 0
  pub reward-at_least_0 : has_negative m r ≡ false → 0ℚ ≤ℚ reward_at m r s c
  reward-at_least_0 none =
      let here : any_negative r (choices_at m s) ≡ false = none_at (λ (x : State). any_negative r x.choices) m.states s no_state in_range none in
      at_least_0 (reward_at m r s c) (none_at (λ (x : Choice). is_negative (reward_of x r)) (choices_at m s) c no_choice has here)

  -- and one reward below 0 makes it yes
  pub reward-below_0 : reward_at m r s c <ℚ 0ℚ → has_negative m r ≡ true
  reward-below_0 below =
      list_any_at (λ (x : State). any_negative r x.choices) m.states s no_state in_range
      (list_any_at (λ (x : Choice). is_negative (reward_of x r)) (choices_at m s) c no_choice has (is_below_0 (is_negative (reward_at m r s c)) below.lt))
