-- A no on bounds of mean payoffs: what the named rule says of the named place is false.
use Rattle.std.proofs.Common.{◌≡◌, ℕ, ◌<◌, Some, lt-ltb, ltb-true, List, [], ◌∷◌, ◌++◌, length, slice_index, refl, ap}
use Rattle.mdp_math.specs.Rational.{ℚ}
use Rattle.mdp_math.proofs.Options.{Some_same}
use Rattle.mdp_num.specs.{Equal.{eq_ℚ}, OrderView.{equal_decides}}
use Rattle.mdp_spec.specs.{Mdp.{Mdp, states_of, choices_at}, Row.{IsMdp}, MeanRules.{spread_of}}
use Rattle.mdp_farkas.specs.{Verdict.{verdict_of, at_choices}, Reach.{other, choice_exists}}
use Rattle.mdp_rows.specs.declared.dir.Dir.{Dir}
use Rattle.mdp_claims.specs.{declared.verdict.Fault.{Fault}, declared.verdict.Verdict.TheVariants.{No}}
use Rattle.mdp_bounds.specs.Reach.{covering, followed}
use Rattle.mdp_bounds.specs.Mean.{gain_check, relative_check, follow_gain_check, follow_bias_check, told_spread, spread_check, gains_cover, gains_follow}
use Rattle.mdp_bounds.specs.{Mean.{mean_bounds_at, state_bounds_checks, mean_bounds_checks}, Says.{IsChoice, IsRowBound, IsStepBound, MeanSays}}
use Rattle.mdp_bounds.proofs.{Gains.{of_gain, of_bound}, Spreading.{told_spread-some}, Sums.{mapped_sound}, ReachTelling.{stands_of_bound}}
use Rattle.mdp_farkas.proofs.Telling.{refuted, Tells, tells_first, tells_one, tells_append, tells_flat, tells_map}

module _ (dir : Dir) (m : Mdp) (known : IsMdp m) (r : ℕ) (lower upper a b : List ℚ) (spread : ℚ) (policy : List ℕ) where
  abbrev Refutes : Fault → Type 0
  Refutes f = MeanSays dir m r lower upper a b spread policy f.rule f.state f.choice → ⊥

  abbrev cover : List ℚ
  cover = covering dir lower upper

  abbrev follow : List ℚ
  follow = followed dir lower upper

  module _ (s : ℕ) (l : s < states_of m) where
    cover_tells : Tells Refutes (gains_cover dir m r cover a s)
    cover_tells =
        tells_append Refutes (at_choices m s (gain_check dir m cover s)) (at_choices m s (relative_check dir m r cover a s))
        (tells_map Refutes (gain_check dir m cover s) (length (choices_at m s))
        (λ c i wrong says. refuted (IsRowBound dir m cover s c) _ (λ h w. of_gain m known s c l i dir cover (stands_of_bound dir _ _ h) w) wrong (says l i)))
        (λ held.
        tells_map Refutes (relative_check dir m r cover a s) (length (choices_at m s))
        (λ c i wrong says. refuted (IsStepBound dir m r cover a s c) _ (λ h w. of_bound m known s c l i r dir cover a (stands_of_bound dir _ _ h) w) wrong (says l i)))

    follow_tells : slice_index policy s < length (choices_at m s) → Tells Refutes (gains_follow dir m r follow b s (slice_index policy s))
    follow_tells i =
        tells_first Refutes (follow_gain_check dir m follow s (slice_index policy s)) (follow_bias_check dir m r follow b s (slice_index policy s) ∷ [])
        (λ wrong says.
        refuted (IsRowBound (other dir) m follow s (slice_index policy s)) _
        (λ h w. of_gain m known s (slice_index policy s) l i (other dir) follow (stands_of_bound (other dir) _ _ h) w) wrong (says l refl))
        (λ held.
        tells_one Refutes (follow_bias_check dir m r follow b s (slice_index policy s))
        (λ wrong says.
        refuted (IsStepBound (other dir) m r follow b s (slice_index policy s)) _
        (λ h w. of_bound m known s (slice_index policy s) l i r (other dir) follow b (stands_of_bound (other dir) _ _ h) w) wrong (says l refl)))

    state_tells : Tells Refutes (mean_bounds_at dir m r lower upper a b s (slice_index policy s))
    state_tells =
        tells_first Refutes (choice_exists m s (slice_index policy s)) (gains_cover dir m r cover a s ++ gains_follow dir m r follow b s (slice_index policy s))
        (λ wrong says. refuted (IsChoice m s (slice_index policy s)) _ (λ i w. ap Some (lt-ltb (slice_index policy s) (length (choices_at m s)) i)) wrong (says l refl))
        (λ takes.
        tells_append Refutes (gains_cover dir m r cover a s) (gains_follow dir m r follow b s (slice_index policy s)) cover_tells
        (λ covers. follow_tells (ltb-true (slice_index policy s) (length (choices_at m s)) (Some_same _ _ takes))))

  all_tell : Tells Refutes (mean_bounds_checks dir m r lower upper a b spread policy)
  all_tell =
      tells_append Refutes (state_bounds_checks dir m r lower upper a b policy) (spread_check a b spread ∷ [])
      (tells_flat Refutes (λ s. mean_bounds_at dir m r lower upper a b s (slice_index policy s)) (states_of m) state_tells)
      (λ held.
      tells_one Refutes (spread_check a b spread)
      (λ wrong says.
      refuted (spread ≡ spread_of a b) _
      (λ e w. mapped_sound (eq_ℚ spread) (spread_of a b) (told_spread a b) (λ x f. told_spread-some a b x f) ((equal_decides spread (spread_of a b)).1 e) w) wrong says))

pub mean_refuted : (dir : Dir) (m : Mdp) (r : ℕ) (lower upper a b : List ℚ) (spread : ℚ) (policy : List ℕ) (fault : Fault) → IsMdp m
    → verdict_of (mean_bounds_checks dir m r lower upper a b spread policy) ≡ No fault → MeanSays dir m r lower upper a b spread policy fault.rule fault.state fault.choice → ⊥
mean_refuted dir m r lower upper a b spread policy fault known = all_tell dir m known r lower upper a b spread policy fault
