-- What a check of a value and of what a choice earns says of the numbers, where no value and no reward is below 0.
use Rattle.std.proofs.Common.{◌≡◌, ℕ, ◌<◌, Bool, true, false, true≢false, List, Option, Some, None, length, refl, sym, ap, subst, ◌∙◌, option_map, if◌then◌else◌}
use Rattle.std.specs.Option.{IsSome}
use Rattle.mdp_math.specs.Rational.{ℚ, ◌≤ℚ◌}
use Rattle.mdp_math.proofs.{Extremes.{le_of_test, test_of_le}, Order.{add-nonneg}}
use Rattle.mdp_num.specs.OrderView.{equal_decides}
use Rattle.mdp_spec.specs.{Mdp.{Mdp, states_of, choices_at, choice_at, row_at, value_at}, Row.{IsMdp, row_sum}, Unit.{reward_of}, Bounds.{finite_part}}
use Rattle.mdp_spec.specs.RewardRules.{backup}
use Rattle.mdp_farkas.specs.Compare.{0ℚ}
use Rattle.mdp_farkas.proofs.Inequalities.{Stands}
use Rattle.mdp_rows.specs.{declared.dir.Dir.{Dir}, declared.dir.Dir.TheVariants.{Max, Min}}
use Rattle.mdp_bounds.specs.{Sum.{stands, told_sum}, Reward.{is_nonneg, is_zero, is_least, earning_stands}}
use Rattle.mdp_bounds.proofs.{Comparing.{stands_of, of_stands}, Sums.{told_sum-some, sum_at_least, mapped_holds, mapped_sound}}

-- ---- values that may be infinite

pub some_nonneg : (o : Option ℚ) (x : ℚ) → o ≡ Some x → is_nonneg o ≡ true → 0ℚ ≤ℚ x
some_nonneg o x e h = le_of_test 0ℚ x (subst (λ (o : Option ℚ). is_nonneg o ≡ true) e h)

pub nonneg_true : (o : Option ℚ) → ((x : ℚ) → o ≡ Some x → 0ℚ ≤ℚ x) → is_nonneg o ≡ true
nonneg_true None h = refl
nonneg_true (Some x) h = test_of_le 0ℚ x (h x refl)

pub zero_of_test : (o : Option ℚ) → is_zero o ≡ true → o ≡ Some 0ℚ
zero_of_test None h = absurd (true≢false (sym h))
zero_of_test (Some x) h = ap Some ((equal_decides x 0ℚ).0 h)

pub zero_true : (o : Option ℚ) → o ≡ Some 0ℚ → is_zero o ≡ true
zero_true o e = ap is_zero e ∙ (equal_decides 0ℚ 0ℚ).1 refl

-- ---- what a choice earns

module _ (m : Mdp) (known : IsMdp m) (r : ℕ) (v : List (Option ℚ)) (s c : ℕ) (l : s < states_of m) (i : c < length (choices_at m s)) where
  means : (x : ℚ) → Some x ≡ told_sum (finite_part v) (reward_of (choice_at m s c) r) (row_at m s c) → x ≡ backup m r s c (finite_part v)
  means x e = told_sum-some (states_of m) (row_at m s c) (known.row s c l i) (finite_part v) (reward_of (choice_at m s c) r) x e

  -- a choice earns at least 0
  backup-nonneg : ((t : ℕ) → t < states_of m → 0ℚ ≤ℚ value_at (finite_part v) t) → 0ℚ ≤ℚ reward_of (choice_at m s c) r → 0ℚ ≤ℚ backup m r s c (finite_part v)
  backup-nonneg values reward =
      add-nonneg (reward_of (choice_at m s c) r) (row_sum (row_at m s c) (finite_part v)) reward (sum_at_least (states_of m) (row_at m s c) (known.row s c l i) (finite_part v) 0ℚ values)

  least_stands : (dir : Dir) (x : ℚ) → 0ℚ ≤ℚ backup m r s c (finite_part v) → is_least dir x ≡ true → Stands dir x (backup m r s c (finite_part v))
  least_stands Max x h e = absurd (true≢false (sym e))
  least_stands Min x h e = subst (λ (u : ℚ). u ≤ℚ backup m r s c (finite_part v)) (sym ((equal_decides x 0ℚ).0 e)) h

  holds_by : (dir : Dir) (x : ℚ) (b : Bool) → 0ℚ ≤ℚ backup m r s c (finite_part v) → is_least dir x ≡ b
      → (if b then Some true else option_map (stands dir x) (told_sum (finite_part v) (reward_of (choice_at m s c) r) (row_at m s c))) ≡ Some true → Stands dir x (backup m r s c (finite_part v))
  holds_by dir x true h e t = least_stands dir x h e
  holds_by dir x false h e t =
      stands_of dir x (backup m r s c (finite_part v))
      (mapped_holds (stands dir x) (backup m r s c (finite_part v)) (told_sum (finite_part v) (reward_of (choice_at m s c) r) (row_at m s c)) means t)

  pub earning_of : (dir : Dir) → ((t : ℕ) → t < states_of m → 0ℚ ≤ℚ value_at (finite_part v) t) → 0ℚ ≤ℚ reward_of (choice_at m s c) r → earning_stands dir m r v s c ≡ Some true
      → Stands dir (value_at (finite_part v) s) (backup m r s c (finite_part v))
  earning_of dir values reward t = holds_by dir (value_at (finite_part v) s) (is_least dir (value_at (finite_part v) s)) (backup-nonneg values reward) refl t

  sound_by : (dir : Dir) (x : ℚ) (b : Bool) → Stands dir x (backup m r s c (finite_part v))
      → IsSome (if b then Some true else option_map (stands dir x) (told_sum (finite_part v) (reward_of (choice_at m s c) r) (row_at m s c)))
      → (if b then Some true else option_map (stands dir x) (told_sum (finite_part v) (reward_of (choice_at m s c) r) (row_at m s c))) ≡ Some true
  sound_by dir x true h w = refl
  sound_by dir x false h w =
      mapped_sound (stands dir x) (backup m r s c (finite_part v)) (told_sum (finite_part v) (reward_of (choice_at m s c) r) (row_at m s c)) means
      (of_stands dir x (backup m r s c (finite_part v)) h) w

  pub earning_sound : (dir : Dir) → Stands dir (value_at (finite_part v) s) (backup m r s c (finite_part v)) → IsSome (earning_stands dir m r v s c) → earning_stands dir m r v s c ≡ Some true
  earning_sound dir h w = sound_by dir (value_at (finite_part v) s) (is_least dir (value_at (finite_part v) s)) h w

  -- a lower value of 0 stands with no sum
  pub zero_earns : value_at (finite_part v) s ≡ 0ℚ → earning_stands Min m r v s c ≡ Some true
  zero_earns e =
      ap (λ (b : Bool). if b then Some true else option_map (stands Min (value_at (finite_part v) s)) (told_sum (finite_part v) (reward_of (choice_at m s c) r) (row_at m s c)))
      ((equal_decides (value_at (finite_part v) s) 0ℚ).1 e)
