-- The verdict on two values for each state, a policy and a remainder is yes exactly where the rules hold in exact numbers and no written term is past width.
use Rattle.std.proofs.Common.{◌≡◌, ℕ, ◌<◌, lt-ltb, ltb-true, List, [], ◌∷◌, length, slice_index, Option, Some, ◌↔◌, sym, ap, subst, ◌∙◌}
use Rattle.std.proofs.lemmas.List.Elements.{All-from_recursion, recursion_from_All}
use Rattle.mdp_math.specs.Rational.{ℚ}
use Rattle.mdp_math.proofs.Options.{Some_same}
use Rattle.mdp_num.specs.OrderView.{equal_decides}
use Rattle.mdp_spec.specs.{Mdp.{Mdp, states_of, choices_at}, Row.{IsMdp}}
use Rattle.mdp_farkas.specs.{Reach.{other}, Verdict.{Check, verdict_of, InWidth, at_choices, IsYes, IfYes}}
use Rattle.mdp_claims.specs.{declared.verdict.Fault.{Fault}, declared.verdict.Verdict.{Verdict}, declared.verdict.Verdict.TheVariants.{No}}
use Rattle.mdp_farkas.proofs.Holds.{Each, Holds, Sound, each_of_yes, yes_of_each, told_of_each, if_yes, holds_of_sound, never_no}
use Rattle.mdp_farkas.proofs.Holds.{each_append, each_left, each_right, each_flat, each_flat_at, each_map, each_map_at}
use Rattle.mdp_rows.specs.{declared.dir.Dir.{Dir}, declared.dir.Dir.TheVariants.{Max, Min}}
use Rattle.mdp_bounds.specs.Says.{covering_rewards}
use Rattle.mdp_discount_rules.specs.Rules.{IsFactor}
use Rattle.mdp_discount_rules.specs.{Between.{DiscountMaxBetween, DiscountMinBetween, DiscountBetween}, BoundsRules.{greatest_magnitude, MeetsDiscountBetween}}
use Rattle.mdp_discount_rules.specs.BoundsChecks.{each_check, policy_check, remainder_check, bounds_at, state_checks, discount_bounds_checks, IsDiscountBounds}
use Rattle.mdp_discount_rules.proofs.{BoundsValues.{allows_of, of_allows}, Between.{between_of_rules}}

module _ (dir : Dir) (m : Mdp) (r : ℕ) (f : ℚ) (lower upper : List (Option ℚ)) (remainder : ℚ) (policy : List ℕ) (known : IsMdp m) where
  abbrev checks : List Check
  checks = discount_bounds_checks dir m r f lower upper remainder policy

  abbrev at : ℕ → List Check
  at s = bounds_at dir m r f lower upper s (slice_index policy s)

  abbrev cover : List (Option ℚ)
  cover = covering_rewards dir lower upper

  abbrev follow : List (Option ℚ)
  follow = covering_rewards (other dir) lower upper

  -- ---- what holds, in exact numbers

  module _ (h : Each Holds checks) where
    state : (s : ℕ) → s < states_of m → Each Holds (at s)
    state s l = each_flat_at Holds at (states_of m) s (each_left Holds (state_checks dir m r f lower upper policy) (remainder_check lower upper remainder ∷ []) h) l

    takes_at : (s : ℕ) → s < states_of m → slice_index policy s < length (choices_at m s)
    takes_at s l = ltb-true (slice_index policy s) (length (choices_at m s)) (Some_same _ _ (state s l).0)

    abbrev last : ℕ → List Check
    last s = policy_check (other dir) m r f follow s (slice_index policy s) ∷ []

    meets_of_holds : r < length m.names → length lower ≡ states_of m → length upper ≡ states_of m → length policy ≡ states_of m
        → MeetsDiscountBetween dir m r f lower upper remainder policy
    meets_of_holds named low high choices = record {
      named = named;
      one_each = low;
      one_above = high;
      choices = record { one_each = choices; in_range = takes_at };
      covers = λ s c l i.
          allows_of m known r f cover s c l i dir
          (each_map_at Holds (each_check dir m r f cover s) (length (choices_at m s)) c (each_left Holds (at_choices m s (each_check dir m r f cover s)) (last s) (state s l).1) i);
      reached = λ s l.
          allows_of m known r f follow s (slice_index policy s) l (takes_at s l) (other dir) (each_right Holds (at_choices m s (each_check dir m r f cover s)) (last s) (state s l).1).0;
      widest = (equal_decides remainder (greatest_magnitude lower upper)).0
          (Some_same _ _ (each_right Holds (state_checks dir m r f lower upper policy) (remainder_check lower upper remainder ∷ []) h).0);
    }

  -- ---- and the other way round: no check is false

  module _ (rules : MeetsDiscountBetween dir m r f lower upper remainder policy) where
    state_sound : (s : ℕ) → s < states_of m → Each Sound (at s)
    state_sound s l =
        let i = rules.choices.in_range s l in (
          λ w. ap Some (lt-ltb (slice_index policy s) (length (choices_at m s)) i),
          each_append Sound (at_choices m s (each_check dir m r f cover s)) (policy_check (other dir) m r f follow s (slice_index policy s) ∷ [])
              (each_map Sound (each_check dir m r f cover s) (length (choices_at m s)) (λ c j w. of_allows m known r f cover s c l j dir (rules.covers s c l j) w))
              (λ w. of_allows m known r f follow s (slice_index policy s) l i (other dir) (rules.reached s l) w, tt),
        )

    all_sound : Each Sound checks
    all_sound =
        each_append Sound (state_checks dir m r f lower upper policy) (remainder_check lower upper remainder ∷ []) (each_flat Sound at (states_of m) state_sound)
        (λ w. ap Some ((equal_decides remainder (greatest_magnitude lower upper)).1 rules.widest), tt)

    -- so what meets the rules is never answered no
    pub discount_never_no : (fault : Fault) → verdict_of checks ≡ No fault → ⊥
    discount_never_no = never_no checks all_sound

  -- ---- the verdict

  module _ (verdict : Verdict) (named : r < length m.names) (low : length lower ≡ states_of m) (high : length upper ≡ states_of m) (choices : length policy ≡ states_of m)
      (e : verdict ≡ verdict_of checks) where
    is_of_yes : IsYes verdict → IsDiscountBounds dir m r f lower upper remainder policy
    is_of_yes yes_ =
        let h = each_of_yes checks (sym e ∙ yes_) in
        record { rules = meets_of_holds h named low high choices; in_width = All-from_recursion InWidth checks (told_of_each checks h) }

    pub bounds_rules : IsYes verdict ↔ IsDiscountBounds dir m r f lower upper remainder policy
    bounds_rules = (is_of_yes, λ is. e ∙ yes_of_each checks (holds_of_sound checks (all_sound is.rules) (recursion_from_All InWidth checks is.in_width)))

    between_of_yes : IsFactor f → IsYes verdict → DiscountBetween dir m r f lower upper remainder policy
    between_of_yes factor yes_ = between_of_rules dir m r f lower upper remainder policy known factor (IsDiscountBounds.rules (is_of_yes yes_))

    pub bounds_max : IsFactor f → dir ≡ Max → IfYes verdict (DiscountMaxBetween m r f lower upper remainder policy)
    bounds_max factor is =
        if_yes verdict (DiscountMaxBetween m r f lower upper remainder policy)
        (λ yes_. subst (λ (d : Dir). DiscountBetween d m r f lower upper remainder policy) is (between_of_yes factor yes_))

    pub bounds_min : IsFactor f → dir ≡ Min → IfYes verdict (DiscountMinBetween m r f lower upper remainder policy)
    bounds_min factor is =
        if_yes verdict (DiscountMinBetween m r f lower upper remainder policy)
        (λ yes_. subst (λ (d : Dir). DiscountBetween d m r f lower upper remainder policy) is (between_of_yes factor yes_))
