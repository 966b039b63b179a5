-- A no on mean payoffs: what the named rule says of the named place is false.
use Rattle.std.proofs.Common.{◌≡◌, ℕ, ◌<◌, lt-ltb, List, [], ◌∷◌, ◌++◌, length, slice_index, Some, refl, ap}
use Rattle.mdp_math.specs.Rational.{ℚ, ◌+ℚ◌}
use Rattle.mdp_spec.specs.{Mdp.{Mdp, states_of, choices_at, row_at, value_at}, Row.{row_sum}, RewardRules.{backup}, MeanRules.{spread_of}}
use Rattle.mdp_farkas.specs.{Verdict.{verdict_of, at_choices}, Compare.{is_equal}, Reach.{choice_exists}, Spread.{written_spread}}
use Rattle.mdp_farkas.specs.Mean.{gain_check, relative_check, policy_gain_check, policy_bias_check, spread_check, mean_checks_at, state_checks, mean_checks}
use Rattle.mdp_farkas.specs.Says.{IsBound, IsChoice, IsRowBound, MeanSays}
use Rattle.mdp_rows.specs.declared.dir.Dir.{Dir}
use Rattle.mdp_claims.specs.{declared.verdict.Fault.{Fault}, declared.verdict.Verdict.TheVariants.{No}}
use Rattle.mdp_farkas.proofs.{Comparing.{equal_of_same}, Asking.{asked_sound}, Inequalities.{of_stands_at}, Spreading.{written_spread-some}}
use Rattle.mdp_farkas.proofs.{MeanRules.{of_bound, of_keeps, of_earns}, Telling.{refuted, Tells, tells_first, tells_one, tells_append, tells_flat, tells_map}}

module _ (dir : Dir) (m : Mdp) (r : ℕ) (g a b : List ℚ) (spread : ℚ) (policy : List ℕ) where
  abbrev Refutes : Fault → Type 0
  Refutes f = MeanSays dir m r g a b spread policy f.rule f.state f.choice → ⊥

  module _ (s : ℕ) (l : s < states_of m) where
    abbrev taken : ℕ
    taken = slice_index policy s

    gains_tell : Tells Refutes (at_choices m s (gain_check dir m g s))
    gains_tell =
        tells_map Refutes (gain_check dir m g s) (length (choices_at m s))
        (λ c i wrong says. refuted (IsRowBound dir m g s c) _ (λ h w. of_stands_at m g dir s c h w) wrong (says l i))

    bounds_tell : Tells Refutes (at_choices m s (relative_check dir m r g a s))
    bounds_tell =
        tells_map Refutes (relative_check dir m r g a s) (length (choices_at m s))
        (λ c i wrong says. refuted (IsBound dir (value_at g s +ℚ value_at a s) (backup m r s c a)) _ (λ h w. of_bound m r g s c dir a h w) wrong (says l i))

    policy_tells : Tells Refutes (policy_gain_check m g s taken ∷ policy_bias_check m r g b s taken ∷ [])
    policy_tells =
        tells_first Refutes (policy_gain_check m g s taken) (policy_bias_check m r g b s taken ∷ [])
        (λ wrong says. refuted (row_sum (row_at m s taken) g ≡ value_at g s) _ (λ h w. of_keeps m r g s taken h w) wrong (says l refl))
        (λ held.
        tells_one Refutes (policy_bias_check m r g b s taken)
        (λ wrong says. refuted (backup m r s taken b ≡ value_at g s +ℚ value_at b s) _ (λ h w. of_earns m r g s taken b h w) wrong (says l refl)))

    state_tells : Tells Refutes (mean_checks_at dir m r g a b s taken)
    state_tells =
        tells_first Refutes (choice_exists m s taken)
        (at_choices m s (gain_check dir m g s) ++ (at_choices m s (relative_check dir m r g a s) ++ policy_gain_check m g s taken ∷ policy_bias_check m r g b s taken ∷ []))
        (λ wrong says. refuted (IsChoice m s taken) _ (λ i w. ap Some (lt-ltb taken (length (choices_at m s)) i)) wrong (says l refl))
        (λ takes.
        tells_append Refutes (at_choices m s (gain_check dir m g s))
        (at_choices m s (relative_check dir m r g a s) ++ policy_gain_check m g s taken ∷ policy_bias_check m r g b s taken ∷ []) gains_tell
        (λ covers.
        tells_append Refutes (at_choices m s (relative_check dir m r g a s)) (policy_gain_check m g s taken ∷ policy_bias_check m r g b s taken ∷ []) bounds_tell (λ held. policy_tells)))

  all_tell : Tells Refutes (mean_checks dir m r g a b spread policy)
  all_tell =
      tells_append Refutes (state_checks dir m r g a b policy) (spread_check a b spread ∷ [])
      (tells_flat Refutes (λ s. mean_checks_at dir m r g a b s (slice_index policy s)) (states_of m) state_tells)
      (λ held.
      tells_one Refutes (spread_check a b spread)
      (λ wrong says.
      refuted (spread ≡ spread_of a b) _
      (λ e w. asked_sound (is_equal spread) (spread_of a b) (written_spread a b) (λ x f. written_spread-some a b x f) (λ i. equal_of_same spread (spread_of a b) e i) w) wrong says))

pub mean_refuted : (dir : Dir) (m : Mdp) (r : ℕ) (g a b : List ℚ) (spread : ℚ) (policy : List ℕ) (fault : Fault)
    → verdict_of (mean_checks dir m r g a b spread policy) ≡ No fault → MeanSays dir m r g a b spread policy fault.rule fault.state fault.choice → ⊥
mean_refuted dir m r g a b spread policy fault = all_tell dir m r g a b spread policy fault
