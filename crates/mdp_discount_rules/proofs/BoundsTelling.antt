-- A no on bounds of discounted rewards: what the named rule says of the named place is false.
use Rattle.std.proofs.Common.{◌≡◌, ℕ, ◌<◌, Option, Some, lt-ltb, ltb-true, List, [], ◌∷◌, ◌++◌, length, slice_index, refl, ap}
use Rattle.mdp_math.specs.Rational.{ℚ}
use Rattle.mdp_math.proofs.Options.{Some_same}
use Rattle.mdp_num.specs.OrderView.{equal_decides}
use Rattle.mdp_spec.specs.{Mdp.{Mdp, states_of, choices_at}, Row.{IsMdp}}
use Rattle.mdp_farkas.specs.{Verdict.{at_choices}, Reach.{other, choice_exists}}
use Rattle.mdp_rows.specs.declared.dir.Dir.{Dir}
use Rattle.mdp_claims.specs.declared.verdict.Fault.{Fault}
use Rattle.mdp_bounds.specs.Says.{IsChoice, covering_rewards}
use Rattle.mdp_farkas.proofs.Telling.{refuted, Tells, tells_first, tells_one, tells_append, tells_flat, tells_map}
use Rattle.mdp_discount_rules.specs.BoundsRules.{Allows, greatest_magnitude}
use Rattle.mdp_discount_rules.specs.{BoundsChecks.{each_check, policy_check, remainder_check, bounds_at, state_checks, discount_bounds_checks}, BoundsSays.{DiscountSays}}
use Rattle.mdp_discount_rules.specs.BoundsLaws.{DiscountNoRefutes}
use Rattle.mdp_discount_rules.proofs.BoundsValues.{of_allows}

module _ (dir : Dir) (m : Mdp) (known : IsMdp m) (r : ℕ) (f : ℚ) (lower upper : List (Option ℚ)) (remainder : ℚ) (policy : List ℕ) where
  abbrev Refutes : Fault → Type 0
  Refutes fault = DiscountSays dir m r f lower upper remainder policy fault.rule fault.state fault.choice → ⊥

  abbrev cover : List (Option ℚ)
  cover = covering_rewards dir lower upper

  abbrev follow : List (Option ℚ)
  follow = covering_rewards (other dir) lower upper

  module _ (s : ℕ) (l : s < states_of m) where
    policy_tells : slice_index policy s < length (choices_at m s) → Tells Refutes (policy_check (other dir) m r f follow s (slice_index policy s) ∷ [])
    policy_tells i =
        tells_one Refutes (policy_check (other dir) m r f follow s (slice_index policy s))
        (λ wrong says.
        refuted (Allows (other dir) m r f follow s (slice_index policy s)) _ (λ h w. of_allows m known r f follow s (slice_index policy s) l i (other dir) h w) wrong (says l refl))

    state_tells : Tells Refutes (bounds_at dir m r f lower upper s (slice_index policy s))
    state_tells =
        tells_first Refutes (choice_exists m s (slice_index policy s)) (at_choices m s (each_check dir m r f cover s) ++ policy_check (other dir) m r f follow s (slice_index policy s) ∷ [])
        (λ wrong says. refuted (IsChoice m s (slice_index policy s)) _ (λ i w. ap Some (lt-ltb (slice_index policy s) (length (choices_at m s)) i)) wrong (says l refl))
        (λ takes.
        tells_append Refutes (at_choices m s (each_check dir m r f cover s)) (policy_check (other dir) m r f follow s (slice_index policy s) ∷ [])
        (tells_map Refutes (each_check dir m r f cover s) (length (choices_at m s))
        (λ c i wrong says. refuted (Allows dir m r f cover s c) _ (λ h w. of_allows m known r f cover s c l i dir h w) wrong (says l i)))
        (λ covers. policy_tells (ltb-true (slice_index policy s) (length (choices_at m s)) (Some_same _ _ takes))))

  all_tell : Tells Refutes (discount_bounds_checks dir m r f lower upper remainder policy)
  all_tell =
      tells_append Refutes (state_checks dir m r f lower upper policy) (remainder_check lower upper remainder ∷ [])
      (tells_flat Refutes (λ s. bounds_at dir m r f lower upper s (slice_index policy s)) (states_of m) state_tells)
      (λ held.
      tells_one Refutes (remainder_check lower upper remainder)
      (λ wrong says.
      refuted (remainder ≡ greatest_magnitude lower upper) _ (λ e w. ap Some ((equal_decides remainder (greatest_magnitude lower upper)).1 e)) wrong says))

pub discount_refuted : DiscountNoRefutes
discount_refuted dir m r f lower upper remainder policy fault known = all_tell dir m known r f lower upper remainder policy fault
