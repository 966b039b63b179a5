-- What a check of a value on a choice says of the numbers.
use Rattle.std.proofs.Common.{◌≡◌, ℕ, ◌<◌, Bool, true, false, true≢false, List, [], Option, Some, None, length, refl, sym, ap, ◌∙◌, option_map, if◌then◌else◌}
use Rattle.std.specs.Option.{IsSome, IfSome, option_and_then}
use Rattle.mdp_math.specs.{Rational.{ℚ, neg_ℚ, ◌+ℚ◌, ◌*ℚ◌}, Written.{written_mul}}
use Rattle.mdp_math.proofs.{Extremes.{le_of_test, test_of_le}, Laws.{zero-+ℚ}, Options.{Some_same, step_told}, Written.{written_mul-some}}
use Rattle.mdp_spec.specs.{Mdp.{Mdp, states_of, choices_at, choice_at, row_at}, Row.{IsMdp, row_sum}, Unit.{reward_of}, Bounds.{reward_at, finite_part}}
use Rattle.mdp_spec.specs.RewardRules.{StaysFinite}
use Rattle.mdp_farkas.specs.{Compare.{0ℚ}, Reward.{stays_finite}}
use Rattle.mdp_farkas.proofs.RewardRules.{stays_of_test, test_of_stays}
use Rattle.mdp_rows.specs.{declared.dir.Dir.{Dir}, declared.dir.Dir.TheVariants.{Max, Min}, Better.{IsAsGood}}
use Rattle.mdp_bounds.specs.Sum.{stands, plain_add, told_sum}
use Rattle.mdp_bounds.proofs.Sums.{plain_add-some, told_sum-some, mapped_holds, mapped_sound}
use Rattle.mdp_discount_rules.specs.{BoundsRules.{left_for, Allows}, BoundsChecks.{told_left, value_allows, allows}}

good_of : (dir : Dir) (x y : ℚ) → stands dir x y ≡ true → IsAsGood dir x y
good_of Max x y h = le_of_test y x h
good_of Min x y h = le_of_test x y h

of_good : (dir : Dir) (x y : ℚ) → IsAsGood dir x y → stands dir x y ≡ true
of_good Max x y h = test_of_le y x h
of_good Min x y h = test_of_le x y h

module _ (m : Mdp) (known : IsMdp m) (r : ℕ) (f : ℚ) (v : List (Option ℚ)) (s c : ℕ) (l : s < states_of m) (i : c < length (choices_at m s)) where
  abbrev reward : ℚ
  reward = reward_of (choice_at m s c) r

  left_means : (x w : ℚ) → Some w ≡ told_left m f s c v x → w ≡ left_for m f s c v x
  left_means x w e =
      let p = step_told (told_sum (finite_part v) 0ℚ (row_at m s c)) (λ sum. option_and_then (λ later. plain_add x (neg_ℚ later)) (written_mul f sum)) w e in
      let q = step_told (written_mul f p.0) (λ later. plain_add x (neg_ℚ later)) w p.2 in
      plain_add-some x (neg_ℚ q.0) w q.2
      ∙ ap (λ (y : ℚ). x +ℚ neg_ℚ y)
      (written_mul-some f p.0 q.0 q.1
      ∙ ap (λ (y : ℚ). f *ℚ y) (told_sum-some (states_of m) (row_at m s c) (known.row s c l i) (finite_part v) 0ℚ p.0 p.1 ∙ zero-+ℚ (row_sum (row_at m s c) (finite_part v))))

  abbrev Leaves : Dir → ℚ → Type 0
  Leaves dir x = StaysFinite m v s c × IsAsGood dir (left_for m f s c v x) (reward_of (choice_at m s c) r)

  holds_by : (dir : Dir) (x : ℚ) (b : Bool) → stays_finite m v s c ≡ b
      → (if b then option_map (λ left. stands dir left (reward_of (choice_at m s c) r)) (told_left m f s c v x) else Some false) ≡ Some true → Leaves dir x
  holds_by dir x true e h = (
    stays_of_test m v [] s c e,
    good_of dir (left_for m f s c v x) reward (mapped_holds (λ left. stands dir left (reward_of (choice_at m s c) r)) (left_for m f s c v x) (told_left m f s c v x) (left_means x) h),
  )
  holds_by dir x false e h = absurd (true≢false (Some_same true false (sym h)))

  sound_by : (dir : Dir) (x : ℚ) (b : Bool) → stays_finite m v s c ≡ b → Leaves dir x
      → IsSome (if b then option_map (λ left. stands dir left (reward_of (choice_at m s c) r)) (told_left m f s c v x) else Some false)
      → (if b then option_map (λ left. stands dir left (reward_of (choice_at m s c) r)) (told_left m f s c v x) else Some false) ≡ Some true
  sound_by dir x true e h w =
      mapped_sound (λ left. stands dir left (reward_of (choice_at m s c) r)) (left_for m f s c v x) (told_left m f s c v x) (left_means x) (of_good dir (left_for m f s c v x) reward h.1) w
  sound_by dir x false e h w = absurd (true≢false (sym (test_of_stays m v [] s c h.0) ∙ e))

  value_of : (dir : Dir) (o : Option ℚ) → value_allows dir m r f v s c o ≡ Some true → IfSome o (Leaves dir)
  value_of dir None h = tt
  value_of dir (Some x) h = holds_by dir x (stays_finite m v s c) refl h

  of_value : (dir : Dir) (o : Option ℚ) → IfSome o (Leaves dir) → IsSome (value_allows dir m r f v s c o) → value_allows dir m r f v s c o ≡ Some true
  of_value dir None h w = refl
  of_value dir (Some x) h w = sound_by dir x (stays_finite m v s c) refl h w

  pub allows_of : (dir : Dir) → allows dir m r f v s c ≡ Some true → Allows dir m r f v s c
  allows_of dir h = value_of dir (reward_at v s) h

  pub of_allows : (dir : Dir) → Allows dir m r f v s c → IsSome (allows dir m r f v s c) → allows dir m r f v s c ≡ Some true
  of_allows dir h w = of_value dir (reward_at v s) h w
