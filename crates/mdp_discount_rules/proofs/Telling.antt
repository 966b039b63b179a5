-- A no on discounted rewards: the named state is one of the model, and what the named rule says of the named place is false.
use Rattle.std.proofs.Common.{◌≡◌, ℕ, ◌<◌, lt-ltb, List, [], ◌∷◌, ◌++◌, length, map, slice_index, Some, refl, ap, subst}
use Rattle.mdp_math.specs.{Rational.{ℚ}, Extremes.{greatest}}
use Rattle.mdp_math.proofs.Options.{Some_same}
use Rattle.mdp_spec.specs.Mdp.{Mdp, states_of, choices_at, value_at}
use Rattle.mdp_farkas.specs.{Verdict.{Check, at_choices}, Reach.{choice_exists}, Says.{IsChoice}, Laws.{IsInModel}}
use Rattle.mdp_farkas.proofs.Telling.{refuted, Tells, tells_first, tells_one, tells_append, tells_flat, tells_map}
use Rattle.mdp_rows.specs.{declared.dir.Dir.{Dir}, Better.{IsAsGood}}
use Rattle.mdp_claims.specs.declared.verdict.Fault.{Fault}
use Rattle.mdp_discount_rules.specs.{Rules.{discounted, magnitude}, Says.{DiscountSays}, Laws.{DiscountNoRefutes}}
use Rattle.mdp_discount_rules.specs.Checks.{covers_check, reached_check, checks_at, remainder_check, state_checks, discount_checks}
use Rattle.mdp_discount_rules.proofs.DiscountRules.{of_covers, of_reached, of_remainder}

module _ (dir : Dir) (m : Mdp) (r : ℕ) (f : ℚ) (v : List ℚ) (remainder : ℚ) (policy : List ℕ) where
  abbrev Refutes : Fault → Type 0
  Refutes fault = IsInModel m fault × (DiscountSays dir m r f v remainder policy fault.rule fault.state fault.choice → ⊥)

  module _ (s : ℕ) (l : s < states_of m) where
    abbrev taken : ℕ
    taken = slice_index policy s

    abbrev covers : List Check
    covers = at_choices m s (covers_check dir m r f v s)

    inside : (t : ℕ) → Some s ≡ Some t → t < states_of m
    inside t e = subst (λ (t : ℕ). t < states_of m) (Some_same s t e) l

    state_tells : Tells Refutes (checks_at dir m r f v s taken)
    state_tells =
        tells_first Refutes (choice_exists m s taken) (covers ++ reached_check m r f v s taken ∷ [])
        (λ wrong. (inside, λ says. refuted (IsChoice m s taken) _ (λ i w. ap Some (lt-ltb taken (length (choices_at m s)) i)) wrong (says l refl)))
        (λ takes.
        tells_append Refutes covers (reached_check m r f v s taken ∷ [])
        (tells_map Refutes (covers_check dir m r f v s) (length (choices_at m s))
        (λ c i wrong. (inside, λ says. refuted (IsAsGood dir (value_at v s) (discounted m r f s c v)) _ (λ h w. of_covers dir m r f v s c h w) wrong (says l i))))
        (λ held.
        tells_one Refutes (reached_check m r f v s taken)
        (λ wrong. (inside, λ says. refuted (value_at v s ≡ discounted m r f s taken v) _ (λ h w. of_reached dir m r f v s taken h w) wrong (says l refl)))))

  all_tell : Tells Refutes (discount_checks dir m r f v remainder policy)
  all_tell =
      tells_append Refutes (state_checks dir m r f v policy) (remainder_check v remainder ∷ [])
      (tells_flat Refutes (λ s. checks_at dir m r f v s (slice_index policy s)) (states_of m) state_tells)
      (λ held.
      tells_one Refutes (remainder_check v remainder)
      (λ wrong. (λ t e. cc, λ says. refuted (remainder ≡ greatest (map magnitude v)) _ (λ h w. of_remainder v remainder h w) wrong says)))

pub discount_refuted : DiscountNoRefutes
discount_refuted dir m r f v remainder policy fault = all_tell dir m r f v remainder policy fault
