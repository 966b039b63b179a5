-- What the checks of a gain, and of a gain with a relative value, say of the numbers.
use Rattle.std.proofs.Common.{◌≡◌, ℕ, ◌<◌, true, List, Some, length, sym, subst, option_map}
use Rattle.std.specs.Option.{IsSome}
use Rattle.mdp_math.specs.Rational.{ℚ, ◌+ℚ◌}
use Rattle.mdp_math.proofs.Laws.{zero-+ℚ}
use Rattle.mdp_spec.specs.{Mdp.{Mdp, states_of, choices_at, choice_at, row_at, value_at}, Row.{IsMdp, row_sum}, Unit.{reward_of}, RewardRules.{backup}}
use Rattle.mdp_farkas.specs.Compare.{0ℚ}
use Rattle.mdp_farkas.proofs.{Asking.{asked_holds, asked_sound}, Inequalities.{Stands}}
use Rattle.mdp_rows.specs.declared.dir.Dir.{Dir}
use Rattle.mdp_bounds.specs.{Sum.{stands, told_sum}, Mean.{gain_stands, told_step, bound_stands}}
use Rattle.mdp_bounds.proofs.{Comparing.{stands_of, of_stands}, Sums.{plain_add-some, told_sum-some, mapped_holds, mapped_sound}}

module _ (m : Mdp) (known : IsMdp m) (s c : ℕ) (l : s < states_of m) (i : c < length (choices_at m s)) where
  told : (z : List ℚ) (start v : ℚ) → Some v ≡ told_sum z start (row_at m s c) → v ≡ start +ℚ row_sum (row_at m s c) z
  told z start v e = told_sum-some (states_of m) (row_at m s c) (known.row s c l i) z start v e

  pub gain_of : (dir : Dir) (g : List ℚ) → gain_stands dir m g s c ≡ Some true → Stands dir (value_at g s) (row_sum (row_at m s c) g)
  gain_of dir g h =
      subst (λ (u : ℚ). Stands dir (value_at g s) u) (zero-+ℚ (row_sum (row_at m s c) g))
      (stands_of dir (value_at g s) (0ℚ +ℚ row_sum (row_at m s c) g)
      (mapped_holds (stands dir (value_at g s)) (0ℚ +ℚ row_sum (row_at m s c) g) (told_sum g 0ℚ (row_at m s c)) (told g 0ℚ) h))

  pub of_gain : (dir : Dir) (g : List ℚ) → Stands dir (value_at g s) (row_sum (row_at m s c) g) → IsSome (gain_stands dir m g s c) → gain_stands dir m g s c ≡ Some true
  of_gain dir g h w =
      mapped_sound (stands dir (value_at g s)) (0ℚ +ℚ row_sum (row_at m s c) g) (told_sum g 0ℚ (row_at m s c)) (told g 0ℚ)
      (of_stands dir (value_at g s) (0ℚ +ℚ row_sum (row_at m s c) g) (subst (λ (u : ℚ). Stands dir (value_at g s) u) (sym (zero-+ℚ (row_sum (row_at m s c) g))) h)) w

  module _ (r : ℕ) (dir : Dir) (g a : List ℚ) where
    abbrev reward : ℚ
    reward = reward_of (choice_at m s c) r

    pub bound_of : bound_stands dir m r g a s c ≡ Some true → Stands dir (value_at g s +ℚ value_at a s) (backup m r s c a)
    bound_of h =
        stands_of dir (value_at g s +ℚ value_at a s) (backup m r s c a)
        (mapped_holds (stands dir (value_at g s +ℚ value_at a s)) (backup m r s c a) (told_sum a reward (row_at m s c)) (told a reward)
        (asked_holds (λ step. option_map (stands dir step) (told_sum a reward (row_at m s c))) (value_at g s +ℚ value_at a s) (told_step g a s)
        (λ v e. plain_add-some (value_at g s) (value_at a s) v e) h))

    pub of_bound : Stands dir (value_at g s +ℚ value_at a s) (backup m r s c a) → IsSome (bound_stands dir m r g a s c) → bound_stands dir m r g a s c ≡ Some true
    of_bound h w =
        asked_sound (λ step. option_map (stands dir step) (told_sum a reward (row_at m s c))) (value_at g s +ℚ value_at a s) (told_step g a s)
        (λ v e. plain_add-some (value_at g s) (value_at a s) v e)
        (λ k. mapped_sound (stands dir (value_at g s +ℚ value_at a s)) (backup m r s c a) (told_sum a reward (row_at m s c)) (told a reward)
        (of_stands dir (value_at g s +ℚ value_at a s) (backup m r s c a) h) k) w
