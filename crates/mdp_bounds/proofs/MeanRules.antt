-- The verdict on a lower and an upper gain for each state and a policy is yes exactly where the rules hold in exact numbers and no sum is
-- past width.
use Rattle.std.proofs.Common.{◌≡◌, ℕ, ◌<◌, lt-ltb, ltb-true, List, [], ◌∷◌, length, slice_index, Some, ◌↔◌, sym, ap, subst, ◌∙◌}
use Rattle.std.proofs.lemmas.List.Elements.{All-from_recursion, recursion_from_All}
use Rattle.mdp_math.specs.Rational.{ℚ, ◌+ℚ◌}
use Rattle.mdp_math.proofs.Options.{Some_same}
use Rattle.mdp_spec.specs.{Mdp.{Mdp, states_of, choices_at, row_at, value_at}, Row.{IsMdp, row_sum}, Tree.{IsPolicy}, Between.{MeanMaxBetween, MeanMinBetween}}
use Rattle.mdp_spec.specs.{RewardRules.{backup}, MeanRules.{spread_of, HasSpread}}
use Rattle.mdp_spec.proofs.Mean.{mean_max_between_of_rules, mean_min_between_of_rules}
use Rattle.mdp_farkas.specs.{Verdict.{Check, verdict_of, InWidth, at_choices, IsYes, IfYes}, Reach.{other}}
use Rattle.mdp_num.specs.{Equal.{eq_ℚ}, OrderView.{equal_decides}}
use Rattle.mdp_bounds.specs.{Reach.{covering, followed}, Mean.{MeetsMeanBetween}}
use Rattle.mdp_bounds.specs.Mean.{gain_check, relative_check, told_spread, spread_check, gains_cover, gains_follow, mean_bounds_at, state_bounds_checks, mean_bounds_checks, IsMeanBounds}
use Rattle.mdp_rows.specs.{declared.dir.Dir.{Dir}, declared.dir.Dir.TheVariants.{Max, Min}}
use Rattle.mdp_claims.specs.{declared.verdict.Fault.{Fault}, declared.verdict.Verdict.{Verdict}, declared.verdict.Verdict.TheVariants.{No}}
use Rattle.mdp_farkas.proofs.Holds.{Each, Holds, Sound, each_of_yes, yes_of_each, told_of_each, if_yes, holds_of_sound, never_no}
use Rattle.mdp_farkas.proofs.{Holds.{each_append, each_left, each_right, each_flat, each_flat_at, each_map, each_map_at}, Inequalities.{Stands}}
use Rattle.mdp_bounds.proofs.{Sums.{mapped_holds, mapped_sound}, Gains.{gain_of, of_gain, bound_of, of_bound}, Spreading.{told_spread-some}}

-- what the two halves say of gains and a relative value, in exact numbers
abbrev GainsCover : Dir → Mdp → List ℚ → Type 0
GainsCover dir m g = (s c : ℕ) → s < states_of m → c < length (choices_at m s) → Stands dir (value_at g s) (row_sum (row_at m s c) g)

abbrev EarningsCover : Dir → Mdp → ℕ → List ℚ → List ℚ → Type 0
EarningsCover dir m r g a = (s c : ℕ) → s < states_of m → c < length (choices_at m s) → Stands dir (value_at g s +ℚ value_at a s) (backup m r s c a)

abbrev GainsFollow : Dir → Mdp → List ℚ → List ℕ → Type 0
GainsFollow dir m g policy = (s : ℕ) → s < states_of m → Stands (other dir) (value_at g s) (row_sum (row_at m s (slice_index policy s)) g)

abbrev EarningsFollow : Dir → Mdp → ℕ → List ℚ → List ℚ → List ℕ → Type 0
EarningsFollow dir m r g b policy = (s : ℕ) → s < states_of m → Stands (other dir) (value_at g s +ℚ value_at b s) (backup m r s (slice_index policy s) b)

module _ (dir : Dir) (m : Mdp) (known : IsMdp m) (r : ℕ) (lower upper a b : List ℚ) (spread : ℚ) (policy : List ℕ) where
  abbrev checks : List Check
  checks = mean_bounds_checks dir m r lower upper a b spread policy

  abbrev cover : ℕ → List Check
  cover s = gains_cover dir m r (covering dir lower upper) a s

  abbrev follow : ℕ → List Check
  follow s = gains_follow dir m r (followed dir lower upper) b s (slice_index policy s)

  -- ---- what holds, in exact numbers

  module _ (h : Each Holds checks) where
    at : (s : ℕ) → s < states_of m → Each Holds (mean_bounds_at dir m r lower upper a b s (slice_index policy s))
    at s l =
        each_flat_at Holds (λ s. mean_bounds_at dir m r lower upper a b s (slice_index policy s)) (states_of m) s
        (each_left Holds (state_bounds_checks dir m r lower upper a b policy) (spread_check a b spread ∷ []) h) l

    cover_holds : (s : ℕ) → s < states_of m → Each Holds (cover s)
    cover_holds s l = each_left Holds (cover s) (follow s) (at s l).1

    follow_holds : (s : ℕ) → s < states_of m → Each Holds (follow s)
    follow_holds s l = each_right Holds (cover s) (follow s) (at s l).1

    choices_hold : length policy ≡ states_of m → IsPolicy m policy
    choices_hold each = record { one_each = each; in_range = λ s l. ltb-true (slice_index policy s) (length (choices_at m s)) (Some_same _ _ (at s l).0) }

    gains_cover_holds : GainsCover dir m (covering dir lower upper)
    gains_cover_holds s c l i =
        gain_of m known s c l i dir (covering dir lower upper)
        (each_map_at Holds (gain_check dir m (covering dir lower upper) s) (length (choices_at m s)) c
        (each_left Holds (at_choices m s (gain_check dir m (covering dir lower upper) s)) (at_choices m s (relative_check dir m r (covering dir lower upper) a s)) (cover_holds s l)) i)

    earnings_cover_holds : EarningsCover dir m r (covering dir lower upper) a
    earnings_cover_holds s c l i =
        bound_of m known s c l i r dir (covering dir lower upper) a
        (each_map_at Holds (relative_check dir m r (covering dir lower upper) a s) (length (choices_at m s)) c
        (each_right Holds (at_choices m s (gain_check dir m (covering dir lower upper) s)) (at_choices m s (relative_check dir m r (covering dir lower upper) a s)) (cover_holds s l)) i)

    takes_at : (s : ℕ) → s < states_of m → slice_index policy s < length (choices_at m s)
    takes_at s l = ltb-true (slice_index policy s) (length (choices_at m s)) (Some_same _ _ (at s l).0)

    gains_follow_holds : GainsFollow dir m (followed dir lower upper) policy
    gains_follow_holds s l = gain_of m known s (slice_index policy s) l (takes_at s l) (other dir) (followed dir lower upper) (follow_holds s l).0

    earnings_follow_holds : EarningsFollow dir m r (followed dir lower upper) b policy
    earnings_follow_holds s l = bound_of m known s (slice_index policy s) l (takes_at s l) r (other dir) (followed dir lower upper) b (follow_holds s l).1.0

    spread_holds : length a ≡ states_of m → length b ≡ states_of m → HasSpread m a b spread
    spread_holds bounds biases = record {
      bounds = bounds;
      biases = biases;
      widest = (equal_decides spread (spread_of a b)).0
          (mapped_holds (eq_ℚ spread) (spread_of a b) (told_spread a b) (λ w e. told_spread-some a b w e)
          (each_right Holds (state_bounds_checks dir m r lower upper a b policy) (spread_check a b spread ∷ []) h).0);
    }

  -- ---- and the other way round: no check is false

  module _ (takes : IsPolicy m policy) (spreads : HasSpread m a b spread) (gains : GainsCover dir m (covering dir lower upper)) (earnings : EarningsCover dir m r (covering dir lower upper) a)
      (keeps : GainsFollow dir m (followed dir lower upper) policy) (earns : EarningsFollow dir m r (followed dir lower upper) b policy) where
    state_sound : (s : ℕ) → s < states_of m → Each Sound (mean_bounds_at dir m r lower upper a b s (slice_index policy s))
    state_sound s l = (
      λ w. ap Some (lt-ltb (slice_index policy s) (length (choices_at m s)) (takes.in_range s l)),
      each_append Sound (cover s) (follow s)
          (each_append Sound (at_choices m s (gain_check dir m (covering dir lower upper) s)) (at_choices m s (relative_check dir m r (covering dir lower upper) a s))
          (each_map Sound (gain_check dir m (covering dir lower upper) s) (length (choices_at m s)) (λ c i w. of_gain m known s c l i dir (covering dir lower upper) (gains s c l i) w))
          (each_map Sound (relative_check dir m r (covering dir lower upper) a s) (length (choices_at m s)) (λ c i w. of_bound m known s c l i r dir (covering dir lower upper) a (earnings s c l i) w))) (
            λ w. of_gain m known s (slice_index policy s) l (takes.in_range s l) (other dir) (followed dir lower upper) (keeps s l) w,
            (λ w. of_bound m known s (slice_index policy s) l (takes.in_range s l) r (other dir) (followed dir lower upper) b (earns s l) w, tt),
          ),
    )

    all_sound : Each Sound checks
    all_sound =
        each_append Sound (state_bounds_checks dir m r lower upper a b policy) (spread_check a b spread ∷ [])
        (each_flat Sound (λ s. mean_bounds_at dir m r lower upper a b s (slice_index policy s)) (states_of m) state_sound)
        (λ w. mapped_sound (eq_ℚ spread) (spread_of a b) (told_spread a b) (λ x e. told_spread-some a b x e) ((equal_decides spread (spread_of a b)).1 spreads.widest) w, tt)

-- ---- each direction

module _ (m : Mdp) (known : IsMdp m) (r : ℕ) (lower upper a b : List ℚ) (spread : ℚ) (policy : List ℕ) where
  meets_of_holds : (dir : Dir) → r < length m.names → length a ≡ states_of m → length b ≡ states_of m → length policy ≡ states_of m
      → Each Holds (mean_bounds_checks dir m r lower upper a b spread policy) → MeetsMeanBetween dir m r lower upper a b spread policy
  meets_of_holds Max named bounds biases each h = record {
    named = named;
    choices = choices_hold Max m known r lower upper a b spread policy h each;
    spreads = spread_holds Max m known r lower upper a b spread policy h bounds biases;
    gain_covers = gains_cover_holds Max m known r lower upper a b spread policy h;
    bound_covers = earnings_cover_holds Max m known r lower upper a b spread policy h;
    gain_reached = gains_follow_holds Max m known r lower upper a b spread policy h;
    bias_reached = earnings_follow_holds Max m known r lower upper a b spread policy h;
  }
  meets_of_holds Min named bounds biases each h = record {
    named = named;
    choices = choices_hold Min m known r lower upper a b spread policy h each;
    spreads = spread_holds Min m known r lower upper a b spread policy h bounds biases;
    gain_covered = gains_cover_holds Min m known r lower upper a b spread policy h;
    bound_covered = earnings_cover_holds Min m known r lower upper a b spread policy h;
    gain_reached = gains_follow_holds Min m known r lower upper a b spread policy h;
    bias_reached = earnings_follow_holds Min m known r lower upper a b spread policy h;
  }

  pub mean_bounds_sound : (dir : Dir) → MeetsMeanBetween dir m r lower upper a b spread policy → Each Sound (mean_bounds_checks dir m r lower upper a b spread policy)
  mean_bounds_sound Max rules =
      all_sound Max m known r lower upper a b spread policy rules.choices rules.spreads rules.gain_covers rules.bound_covers rules.gain_reached rules.bias_reached
  mean_bounds_sound Min rules =
      all_sound Min m known r lower upper a b spread policy rules.choices rules.spreads rules.gain_covered rules.bound_covered rules.gain_reached rules.bias_reached

  -- so what meets the rules is never answered no
  pub mean_bounds_never_no : (dir : Dir) → MeetsMeanBetween dir m r lower upper a b spread policy → (f : Fault) → verdict_of (mean_bounds_checks dir m r lower upper a b spread policy) ≡ No f → ⊥
  mean_bounds_never_no dir rules = never_no (mean_bounds_checks dir m r lower upper a b spread policy) (mean_bounds_sound dir rules)

  module _ (dir : Dir) (verdict : Verdict) (named : r < length m.names) (bounds : length a ≡ states_of m) (biases : length b ≡ states_of m)
      (each : length policy ≡ states_of m) (e : verdict ≡ verdict_of (mean_bounds_checks dir m r lower upper a b spread policy)) where
    is_of_yes : IsYes verdict → IsMeanBounds dir m r lower upper a b spread policy
    is_of_yes yes_ =
        let h = each_of_yes (mean_bounds_checks dir m r lower upper a b spread policy) (sym e ∙ yes_) in
        record {
          rules = meets_of_holds dir named bounds biases each h;
          in_width = All-from_recursion InWidth (mean_bounds_checks dir m r lower upper a b spread policy) (told_of_each (mean_bounds_checks dir m r lower upper a b spread policy) h);
        }

    pub mean_bounds_rules : IsYes verdict ↔ IsMeanBounds dir m r lower upper a b spread policy
    mean_bounds_rules = (
      is_of_yes,
      λ is.
          e ∙ yes_of_each (mean_bounds_checks dir m r lower upper a b spread policy)
          (holds_of_sound (mean_bounds_checks dir m r lower upper a b spread policy) (mean_bounds_sound dir is.rules)
          (recursion_from_All InWidth (mean_bounds_checks dir m r lower upper a b spread policy) is.in_width)),
    )

    pub mean_bounds_max : dir ≡ Max → IfYes verdict (MeanMaxBetween m r lower upper spread policy)
    mean_bounds_max is =
        if_yes verdict (MeanMaxBetween m r lower upper spread policy)
        (λ yes_. mean_max_between_of_rules m r lower upper a b spread policy known
        (subst (λ (d : Dir). MeetsMeanBetween d m r lower upper a b spread policy) is (IsMeanBounds.rules (is_of_yes yes_))))

    pub mean_bounds_min : dir ≡ Min → IfYes verdict (MeanMinBetween m r lower upper spread policy)
    mean_bounds_min is =
        if_yes verdict (MeanMinBetween m r lower upper spread policy)
        (λ yes_. mean_min_between_of_rules m r lower upper a b spread policy known
        (subst (λ (d : Dir). MeetsMeanBetween d m r lower upper a b spread policy) is (IsMeanBounds.rules (is_of_yes yes_))))
