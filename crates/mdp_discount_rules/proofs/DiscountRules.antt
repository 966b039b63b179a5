-- The verdict on discounted rewards is yes exactly where the rules hold in exact numbers and no written term is past width.
use Rattle.std.proofs.Common.{◌≡◌, ℕ, ◌<◌, lt-ltb, ltb-true, List, [], ◌∷◌, length, map, slice_index, true, Some, ◌↔◌, sym, ap, ◌∙◌}
use Rattle.std.proofs.lemmas.List.Elements.{All-from_recursion, recursion_from_All}
use Rattle.std.specs.Option.{IsSome, option_and_then}
use Rattle.mdp_math.specs.{Rational.{ℚ, ◌+ℚ◌, ◌*ℚ◌}, Extremes.{greatest}, Written.{written_mul, written_add}}
use Rattle.mdp_math.proofs.{Laws.{zero-+ℚ}, Options.{Some_same, step_told}, Written.{written_add-some, written_mul-some}}
use Rattle.mdp_spec.specs.{Mdp.{Mdp, states_of, choices_at, choice_at, row_at, value_at}, Row.{IsMdp, row_sum}, Unit.{reward_of}, Written.{written_sum}}
use Rattle.mdp_farkas.specs.{Verdict.{Check, verdict_of, InWidth, at_choices, IsYes, IfYes}, Compare.{0ℚ, is_equal}, Bellman.{stands}}
use Rattle.mdp_claims.specs.{declared.verdict.Fault.{Fault}, declared.verdict.Verdict.{Verdict}, declared.verdict.Verdict.TheVariants.{No}}
use Rattle.mdp_farkas.proofs.Holds.{Each, Holds, Sound, each_of_yes, yes_of_each, told_of_each, if_yes, holds_of_sound, never_no}
use Rattle.mdp_farkas.proofs.Holds.{each_append, each_left, each_right, each_flat, each_flat_at, each_map, each_map_at}
use Rattle.mdp_farkas.proofs.Comparing.{le_of_at_least, at_least_of_le, le_of_at_most, at_most_of_le, same_of_equal, equal_of_same}
use Rattle.mdp_farkas.proofs.Asking.{asked_holds, asked_sound}
use Rattle.mdp_spec.proofs.Summed.{written_sum-some}
use Rattle.mdp_rows.specs.{declared.dir.Dir.{Dir}, declared.dir.Dir.TheVariants.{Max, Min}, Better.{IsAsGood}}
use Rattle.mdp_discount_rules.specs.{Rules.{IsFactor, discounted, magnitude, MeetsDiscount}, Bounds.{DiscountBound}}
use Rattle.mdp_discount_rules.specs.Checks.{written_discounted, covers_check, reached_check, checks_at, written_greatest, remainder_check}
use Rattle.mdp_discount_rules.specs.Checks.{state_checks, discount_checks, IsDiscount}
use Rattle.mdp_discount_rules.proofs.{Greatest.{written_greatest-some}, Discount.{discount_of_rules}}

-- ---- what each rule says of the numbers

stands_of : (dir : Dir) (x y : ℚ) → stands dir x y ≡ Some true → IsAsGood dir x y
stands_of Max x y h = le_of_at_least x y h
stands_of Min x y h = le_of_at_most x y h

of_stands : (dir : Dir) (x y : ℚ) → IsAsGood dir x y → IsSome (stands dir x y) → stands dir x y ≡ Some true
of_stands Max x y h w = at_least_of_le x y h w
of_stands Min x y h w = at_most_of_le x y h w

-- what is made by written operations is what the choice earns
pub written_discounted-some : (m : Mdp) (r : ℕ) (f : ℚ) (s c : ℕ) (v : List ℚ) (w : ℚ) → Some w ≡ written_discounted m r f s c v → w ≡ discounted m r f s c v
written_discounted-some m r f s c v w e =
    let reward : ℚ = reward_of (choice_at m s c) r in
    let p = step_told (written_sum v 0ℚ (row_at m s c)) (λ sum. option_and_then (λ later. written_add reward later) (written_mul f sum)) w e in
    let q = step_told (written_mul f p.0) (λ later. written_add reward later) w p.2 in
    written_add-some reward q.0 w q.2
    ∙ ap (λ (x : ℚ). reward +ℚ x)
    (written_mul-some f p.0 q.0 q.1 ∙ ap (λ (x : ℚ). f *ℚ x) (written_sum-some v 0ℚ (row_at m s c) p.0 p.1 ∙ zero-+ℚ (row_sum (row_at m s c) v)))

module _ (dir : Dir) (m : Mdp) (r : ℕ) (f : ℚ) (v : List ℚ) where
  covers_of : (s c : ℕ) → Holds (covers_check dir m r f v s c) → IsAsGood dir (value_at v s) (discounted m r f s c v)
  covers_of s c h =
      stands_of dir (value_at v s) (discounted m r f s c v)
      (asked_holds (stands dir (value_at v s)) (discounted m r f s c v) (written_discounted m r f s c v) (λ w e. written_discounted-some m r f s c v w e) h)

  pub of_covers : (s c : ℕ) → IsAsGood dir (value_at v s) (discounted m r f s c v) → Sound (covers_check dir m r f v s c)
  of_covers s c good w =
      asked_sound (stands dir (value_at v s)) (discounted m r f s c v) (written_discounted m r f s c v) (λ w e. written_discounted-some m r f s c v w e)
      (λ i. of_stands dir (value_at v s) (discounted m r f s c v) good i) w

  reached_of : (s c : ℕ) → Holds (reached_check m r f v s c) → value_at v s ≡ discounted m r f s c v
  reached_of s c h =
      same_of_equal (value_at v s) (discounted m r f s c v)
      (asked_holds (is_equal (value_at v s)) (discounted m r f s c v) (written_discounted m r f s c v) (λ w e. written_discounted-some m r f s c v w e) h)

  pub of_reached : (s c : ℕ) → value_at v s ≡ discounted m r f s c v → Sound (reached_check m r f v s c)
  of_reached s c same w =
      asked_sound (is_equal (value_at v s)) (discounted m r f s c v) (written_discounted m r f s c v) (λ w e. written_discounted-some m r f s c v w e)
      (λ i. equal_of_same (value_at v s) (discounted m r f s c v) same i) w

module _ (v : List ℚ) (remainder : ℚ) where
  remainder_of : Holds (remainder_check v remainder) → remainder ≡ greatest (map magnitude v)
  remainder_of h =
      same_of_equal remainder (greatest (map magnitude v))
      (asked_holds (is_equal remainder) (greatest (map magnitude v)) (written_greatest v) (λ w e. written_greatest-some v w e) h)

  pub of_remainder : remainder ≡ greatest (map magnitude v) → Sound (remainder_check v remainder)
  of_remainder same w =
      asked_sound (is_equal remainder) (greatest (map magnitude v)) (written_greatest v) (λ w e. written_greatest-some v w e) (λ i. equal_of_same remainder (greatest (map magnitude v)) same i) w

module _ (dir : Dir) (m : Mdp) (r : ℕ) (f : ℚ) (v : List ℚ) (remainder : ℚ) (policy : List ℕ) where
  abbrev checks : List Check
  checks = discount_checks dir m r f v remainder policy

  abbrev at : ℕ → List Check
  at s = checks_at dir m r f v s (slice_index policy s)

  -- ---- what holds, in exact numbers

  module _ (h : Each Holds checks) where
    states : Each Holds (state_checks dir m r f v policy)
    states = each_left Holds (state_checks dir m r f v policy) (remainder_check v remainder ∷ []) h

    last : Each Holds (remainder_check v remainder ∷ [])
    last = each_right Holds (state_checks dir m r f v policy) (remainder_check v remainder ∷ []) h

    module _ (s : ℕ) (l : s < states_of m) where
      state : Each Holds (at s)
      state = each_flat_at Holds at (states_of m) s states l

      abbrev policy_checks : List Check
      policy_checks = reached_check m r f v s (slice_index policy s) ∷ []

      choice_holds : (c : ℕ) → c < length (choices_at m s) → Holds (covers_check dir m r f v s c)
      choice_holds c i =
          each_map_at Holds (covers_check dir m r f v s) (length (choices_at m s)) c (each_left Holds (at_choices m s (covers_check dir m r f v s)) policy_checks state.1) i

      policy_holds : Each Holds policy_checks
      policy_holds = each_right Holds (at_choices m s (covers_check dir m r f v s)) policy_checks state.1

    meets_of_holds : r < length m.names → length v ≡ states_of m → length policy ≡ states_of m → MeetsDiscount dir m r f v remainder policy
    meets_of_holds named values choices = record {
      named = named;
      one_each = values;
      choices = record { one_each = choices; in_range = λ s l. ltb-true (slice_index policy s) (length (choices_at m s)) (Some_same _ _ (state s l).0) };
      covers = λ s c l i. covers_of dir m r f v s c (choice_holds s l c i);
      reached = λ s l. reached_of dir m r f v s (slice_index policy s) (policy_holds s l).0;
      greatest_magnitude = remainder_of v remainder last.0;
    }

  -- ---- and the other way round: no check is false

  module _ (rules : MeetsDiscount dir m r f v remainder policy) where
    state_sound : (s : ℕ) → s < states_of m → Each Sound (at s)
    state_sound s l = (
      λ w. ap Some (lt-ltb (slice_index policy s) (length (choices_at m s)) (rules.choices.in_range s l)),
      each_append Sound (at_choices m s (covers_check dir m r f v s)) (reached_check m r f v s (slice_index policy s) ∷ [])
          (each_map Sound (covers_check dir m r f v s) (length (choices_at m s)) (λ c i. of_covers dir m r f v s c (rules.covers s c l i)))
          (of_reached dir m r f v s (slice_index policy s) (rules.reached s l), tt),
    )

    pub discount_sound : Each Sound checks
    discount_sound =
        each_append Sound (state_checks dir m r f v policy) (remainder_check v remainder ∷ []) (each_flat Sound at (states_of m) state_sound)
        (of_remainder v remainder rules.greatest_magnitude, tt)

    -- so what meets the rules is never answered no
    pub discount_never_no : (fault : Fault) → verdict_of checks ≡ No fault → ⊥
    discount_never_no = never_no checks discount_sound

  -- ---- the verdict

  module _ (verdict : Verdict) (named : r < length m.names) (values : length v ≡ states_of m) (choices : length policy ≡ states_of m) (e : verdict ≡ verdict_of checks) where
    pub is_of_yes : IsYes verdict → IsDiscount dir m r f v remainder policy
    is_of_yes yes_ =
        let h = each_of_yes checks (sym e ∙ yes_) in
        record { rules = meets_of_holds h named values choices; in_width = All-from_recursion InWidth checks (told_of_each checks h) }

    pub discount_rules : IsYes verdict ↔ IsDiscount dir m r f v remainder policy
    discount_rules = (is_of_yes, λ is. e ∙ yes_of_each checks (holds_of_sound checks (discount_sound is.rules) (recursion_from_All InWidth checks is.in_width)))

    pub discount_bound : IsMdp m → IsFactor f → IfYes verdict (DiscountBound dir m r f v remainder policy)
    discount_bound known_ factor =
        if_yes verdict (DiscountBound dir m r f v remainder policy)
        (λ yes_. discount_of_rules dir m r f v remainder policy known_ factor (IsDiscount.rules (is_of_yes yes_)))
