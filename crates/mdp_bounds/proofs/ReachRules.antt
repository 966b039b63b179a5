-- The verdict on a lower and an upper value for each state and a policy is yes exactly where the rules hold in exact numbers and no sum is
-- past width.
use Rattle.std.proofs.Common.{◌≡◌, ℕ, ◌<◌, Bool, false, lt-ltb, ltb-true, List, ◌++◌, length, slice_index, Some, ◌↔◌, sym, ap, subst, ◌∙◌}
use Rattle.std.proofs.lemmas.List.Elements.{All-from_recursion, recursion_from_All}
use Rattle.mdp_math.specs.Rational.{ℚ, ◌<ℚ◌}
use Rattle.mdp_math.proofs.Options.{Some_same}
use Rattle.mdp_spec.specs.{Mdp.{Mdp, states_of, choices_at, row_at, value_at}, Row.{IsMdp, row_sum}, Rules.{AreProbabilities, RanksEnd}}
use Rattle.mdp_spec.specs.{Between.{ReachMaxBetween, ReachMinBetween}, Tree.{IsPolicy, is_marked}}
use Rattle.mdp_spec.proofs.Reach.{reach_max_between_of_rules, reach_min_between_of_rules}
use Rattle.mdp_farkas.specs.{Verdict.{Check, verdict_of, InWidth, IsYes, IfYes}, Compare.{0ℚ}, Reach.{other, fall_check, fall_checks, rank_checks}}
use Rattle.mdp_bounds.specs.Reach.{covering, followed, MeetsReachBetween, cover_at, follow_at, bounds_at, bounds_checks, IsReachBounds}
use Rattle.mdp_rows.specs.{declared.dir.Dir.{Dir}, declared.dir.Dir.TheVariants.{Max, Min}}
use Rattle.mdp_claims.specs.{declared.verdict.Fault.{Fault}, declared.verdict.Verdict.{Verdict}, declared.verdict.Verdict.TheVariants.{No}}
use Rattle.mdp_farkas.proofs.Holds.{Each, Holds, Sound, each_of_yes, yes_of_each, told_of_each, if_yes, sound_of_holds, holds_of_sound, never_no}
use Rattle.mdp_farkas.proofs.{Holds.{each_append, each_left, each_right, each_flat, each_flat_at, each_map, each_map_at}, Inequalities.{Stands}}
use Rattle.mdp_farkas.proofs.ReachRules.{ranks_end, ranks_fall, ranks_hold, max_falls, falls_max, min_falls, falls_min}
use Rattle.mdp_bounds.proofs.Halves.{cover_probabilities, cover_bounds, cover_sound, follow_probabilities, follow_meets, follow_sound}

-- ---- the checks at a state

module _ (dir : Dir) (m : Mdp) (known : IsMdp m) (goals : List Bool) (lower upper : List ℚ) (policy ranks : List ℕ) where
  at : (P : Check → Type 0) (s : ℕ) → Each P (bounds_checks dir m goals lower upper policy ranks) → s < states_of m → Each P (bounds_at dir m goals lower upper ranks s (slice_index policy s))
  at P s h l = each_flat_at P (λ s. bounds_at dir m goals lower upper ranks s (slice_index policy s)) (states_of m) s h l

  abbrev cover : ℕ → List Check
  cover s = cover_at dir m goals (covering dir lower upper) s

  abbrev follow : ℕ → List Check
  follow s = follow_at dir m goals (followed dir lower upper) s (slice_index policy s)

  abbrev rank : ℕ → List Check
  rank s = rank_checks dir m goals lower ranks s (slice_index policy s)

  cover_of : (P : Check → Type 0) (s : ℕ) → Each P (bounds_at dir m goals lower upper ranks s (slice_index policy s)) → Each P (cover s)
  cover_of P s h = each_left P (cover s) (follow s ++ rank s) h.1

  follow_of : (P : Check → Type 0) (s : ℕ) → Each P (bounds_at dir m goals lower upper ranks s (slice_index policy s)) → Each P (follow s)
  follow_of P s h = each_left P (follow s) (rank s) (each_right P (cover s) (follow s ++ rank s) h.1)

  rank_of : (P : Check → Type 0) (s : ℕ) → Each P (bounds_at dir m goals lower upper ranks s (slice_index policy s)) → Each P (rank s)
  rank_of P s h = each_right P (follow s) (rank s) (each_right P (cover s) (follow s ++ rank s) h.1)

  -- ---- what holds, in exact numbers

  module _ (each : length policy ≡ states_of m) (h : Each Holds (bounds_checks dir m goals lower upper policy ranks)) where
    choices_of : IsPolicy m policy
    choices_of = record { one_each = each; in_range = λ s l. ltb-true (slice_index policy s) (length (choices_at m s)) (Some_same _ _ (at Holds s h l).0) }

    covering_of : AreProbabilities m goals (covering dir lower upper)
    covering_of = cover_probabilities dir m known goals (covering dir lower upper) (λ s l. cover_of Holds s (at Holds s h l))

    followed_of : AreProbabilities m goals (followed dir lower upper)
    followed_of = follow_probabilities dir m known goals (followed dir lower upper) policy (λ s l. follow_of Holds s (at Holds s h l))

    bounds_of : (s c : ℕ) → s < states_of m → is_marked goals s ≡ false → c < length (choices_at m s)
        → Stands dir (value_at (covering dir lower upper) s) (row_sum (row_at m s c) (covering dir lower upper))
    bounds_of s c l g i = cover_bounds dir m known goals (covering dir lower upper) s c l g i covering_of (cover_of Holds s (at Holds s h l))

    meets_of : (s : ℕ) → s < states_of m → is_marked goals s ≡ false
        → Stands (other dir) (value_at (followed dir lower upper) s) (row_sum (row_at m s (slice_index policy s)) (followed dir lower upper))
    meets_of s l g = follow_meets dir m known goals (followed dir lower upper) policy s l (IsPolicy.in_range choices_of s l) g followed_of (follow_of Holds s (at Holds s h l))

    ends_of : RanksEnd m goals lower ranks
    ends_of = ranks_end dir m goals lower policy ranks (λ s l. rank_of Holds s (at Holds s h l))

    falls_of : (s : ℕ) → s < states_of m → is_marked goals s ≡ false → 0ℚ <ℚ value_at lower s → Each Holds (fall_checks dir m lower ranks s (slice_index policy s))
    falls_of s l g p = ranks_fall dir m goals lower policy ranks s g p (rank_of Holds s (at Holds s h l))

  -- ---- and the other way round: no check is false

  state_sound : (s : ℕ) → slice_index policy s < length (choices_at m s) → Each Sound (cover s) → Each Sound (follow s) → Each Holds (rank s)
      → Each Sound (bounds_at dir m goals lower upper ranks s (slice_index policy s))
  state_sound s choice covers follows falls = (
    λ w. ap Some (lt-ltb (slice_index policy s) (length (choices_at m s)) choice),
    each_append Sound (cover s) (follow s ++ rank s) covers (each_append Sound (follow s) (rank s) follows (sound_of_holds (rank s) falls)),
  )

-- ---- each direction

module _ (m : Mdp) (known : IsMdp m) (goals : List Bool) (lower upper : List ℚ) (policy ranks : List ℕ) where
  meets_of_holds : (dir : Dir) → length policy ≡ states_of m → Each Holds (bounds_checks dir m goals lower upper policy ranks) → MeetsReachBetween dir m goals lower upper policy ranks
  meets_of_holds Max each h = record {
    choices = choices_of Max m known goals lower upper policy ranks each h;
    lower_values = followed_of Max m known goals lower upper policy ranks each h;
    upper_values = covering_of Max m known goals lower upper policy ranks each h;
    covers = bounds_of Max m known goals lower upper policy ranks each h;
    reached = meets_of Max m known goals lower upper policy ranks each h;
    ends = ends_of Max m known goals lower upper policy ranks each h;
    falls = λ s l g p. max_falls m lower ranks s (slice_index policy s) (Some_same _ _ (falls_of Max m known goals lower upper policy ranks each h s l g p).0);
  }
  meets_of_holds Min each h = record {
    choices = choices_of Min m known goals lower upper policy ranks each h;
    lower_values = covering_of Min m known goals lower upper policy ranks each h;
    upper_values = followed_of Min m known goals lower upper policy ranks each h;
    covered = bounds_of Min m known goals lower upper policy ranks each h;
    reached = meets_of Min m known goals lower upper policy ranks each h;
    ends = ends_of Min m known goals lower upper policy ranks each h;
    falls = λ s c l g p i. min_falls m lower ranks s c
        (Some_same _ _ (each_map_at Holds (fall_check Min m lower ranks s) (length (choices_at m s)) c (falls_of Min m known goals lower upper policy ranks each h s l g p) i));
  }

  sound_at : (dir : Dir) (s : ℕ) → s < states_of m → MeetsReachBetween dir m goals lower upper policy ranks → Each Sound (bounds_at dir m goals lower upper ranks s (slice_index policy s))
  sound_at Max s l r =
      state_sound Max m known goals lower upper policy ranks s (r.choices.in_range s l) (cover_sound Max m known goals upper s l r.upper_values (λ c g i. r.covers s c l g i))
      (follow_sound Max m known goals lower policy s l (r.choices.in_range s l) r.lower_values (λ g. r.reached s l g))
      (ranks_hold Max m goals lower policy ranks s l r.lower_values r.ends (λ g p. (ap Some (falls_max m lower ranks s (slice_index policy s) (r.falls s l g p)), tt)))
  sound_at Min s l r =
      state_sound Min m known goals lower upper policy ranks s (r.choices.in_range s l) (cover_sound Min m known goals lower s l r.lower_values (λ c g i. r.covered s c l g i))
      (follow_sound Min m known goals upper policy s l (r.choices.in_range s l) r.upper_values (λ g. r.reached s l g))
      (ranks_hold Min m goals lower policy ranks s l r.lower_values r.ends
      (λ g p. each_map Holds (fall_check Min m lower ranks s) (length (choices_at m s)) (λ c i. ap Some (falls_min m lower ranks s c (r.falls s c l g p i)))))

  pub reach_bounds_sound : (dir : Dir) → MeetsReachBetween dir m goals lower upper policy ranks → Each Sound (bounds_checks dir m goals lower upper policy ranks)
  reach_bounds_sound dir r = each_flat Sound (λ s. bounds_at dir m goals lower upper ranks s (slice_index policy s)) (states_of m) (λ s l. sound_at dir s l r)

  -- so what meets the rules is never answered no
  pub reach_bounds_never_no : (dir : Dir) → MeetsReachBetween dir m goals lower upper policy ranks → (f : Fault)
      → verdict_of (bounds_checks dir m goals lower upper policy ranks) ≡ No f → ⊥
  reach_bounds_never_no dir r = never_no (bounds_checks dir m goals lower upper policy ranks) (reach_bounds_sound dir r)

  pub bounds_rules : (dir : Dir) (v : Verdict) → length policy ≡ states_of m → v ≡ verdict_of (bounds_checks dir m goals lower upper policy ranks)
      → IsYes v ↔ IsReachBounds dir m goals lower upper policy ranks
  bounds_rules dir v each e = (
    (λ yes_.
        let h = each_of_yes (bounds_checks dir m goals lower upper policy ranks) (sym e ∙ yes_) in
        record {
          rules = meets_of_holds dir each h;
          in_width = All-from_recursion InWidth (bounds_checks dir m goals lower upper policy ranks) (told_of_each (bounds_checks dir m goals lower upper policy ranks) h);
        }),
    (λ is.
        e ∙ yes_of_each (bounds_checks dir m goals lower upper policy ranks)
        (holds_of_sound (bounds_checks dir m goals lower upper policy ranks) (reach_bounds_sound dir is.rules)
        (recursion_from_All InWidth (bounds_checks dir m goals lower upper policy ranks) is.in_width))),
  )

  pub bounds_max : (dir : Dir) (v : Verdict) → length policy ≡ states_of m → v ≡ verdict_of (bounds_checks dir m goals lower upper policy ranks) → dir ≡ Max
      → IfYes v (ReachMaxBetween m goals lower upper policy)
  bounds_max dir v each e is =
      if_yes v (ReachMaxBetween m goals lower upper policy)
      (λ yes_. reach_max_between_of_rules m goals lower upper policy ranks known
      (subst (λ (d : Dir). MeetsReachBetween d m goals lower upper policy ranks) is (IsReachBounds.rules ((bounds_rules dir v each e).0 yes_))))

  pub bounds_min : (dir : Dir) (v : Verdict) → length policy ≡ states_of m → v ≡ verdict_of (bounds_checks dir m goals lower upper policy ranks) → dir ≡ Min
      → IfYes v (ReachMinBetween m goals lower upper policy)
  bounds_min dir v each e is =
      if_yes v (ReachMinBetween m goals lower upper policy)
      (λ yes_. reach_min_between_of_rules m goals lower upper policy ranks known
      (subst (λ (d : Dir). MeetsReachBetween d m goals lower upper policy ranks) is (IsReachBounds.rules ((bounds_rules dir v each e).0 yes_))))
