-- The bounds 0 and infinite get yes wherever the ranks show where the reward is finite: each of their checks holds, and none makes a sum.
use Rattle.std.proofs.Common.{◌≡◌, ℕ, zero, suc, ◌<◌, Bool, true, false, true≢false, List, [], ◌∷◌, ◌++◌, cond, length, lt-ltb, eq-eqb, not}
use Rattle.std.proofs.Common.{slice_index, Option, Some, None, refl, sym, ap, ◌∙◌}
use Rattle.std.specs.Prelude.{unwrap_or}
use Rattle.mdp_math.specs.Rational.{ℚ, ◌≤ℚ◌}
use Rattle.mdp_math.proofs.{Extremes.{test_of_le}, Order.{≤ℚ_of_eq}, Options.{Some_same}}
use Rattle.mdp_spec.specs.{Mdp.{Mdp, states_of, choices_at, choice_at, value_at}, Row.{IsMdp}, Unit.{reward_of}, Tree.{IsPolicy, is_marked}}
use Rattle.mdp_spec.specs.{Bounds.{reward_at, finite_part, infinite}, RewardRules.{IsTransient}}
use Rattle.mdp_spec.proofs.Values.{finite_of_some, infinite_of_none}
use Rattle.mdp_farkas.specs.{Verdict.{Check, verdict_of}, Compare.{0ℚ}}
use Rattle.mdp_farkas.specs.Reward.{stay_check, stay_checks, is_looked_at, rank_fall_check, rank_fall_checks, all_miss_check, infinite_checks}
use Rattle.mdp_claims.specs.declared.verdict.Verdict.TheVariants.{Yes}
use Rattle.mdp_bounds.specs.Reward.{lower_on_each, goal_checks, earning_check, sign_check, sign_checks, half_checks, finite_checks, kind_checks}
use Rattle.mdp_bounds.specs.Reward.{lower_checks, upper_value_checks, reward_bounds_at, reward_bounds_checks, Arrives, Misses, IsTrivialReward}
use Rattle.mdp_rows.specs.{declared.dir.Dir.{Dir}, declared.dir.Dir.TheVariants.{Max, Min}}
use Rattle.mdp_farkas.proofs.Holds.{Each, Holds, yes_of_each, each_append, each_map, each_flat, each_if}
use Rattle.mdp_farkas.proofs.RewardRules.{test_of_stays, test_of_falls, test_of_misses, test_of_all_misses}
use Rattle.mdp_bounds.proofs.{RewardRules.{implies}, Earnings.{nonneg_true, zero_true, zero_earns}}

part_by : (v : List (Option ℚ)) (s : ℕ) → value_at (finite_part v) s ≡ unwrap_or (reward_at v s) 0ℚ
part_by [] s = refl
part_by (x ∷ v) zero = refl
part_by (x ∷ v) (suc s) = part_by v s

zero_by : (o : Option ℚ) → ((x : ℚ) → o ≡ Some x → x ≡ 0ℚ) → unwrap_or o 0ℚ ≡ 0ℚ
zero_by None h = refl
zero_by (Some x) h = h x refl

-- what holds of a value by its kind
kind_holds : (goals : List Bool) (v : List (Option ℚ)) (ranks : List ℕ) (s : ℕ) (without within : List Check)
    → (is_marked goals s ≡ true → (reward_at v s ≡ Some 0ℚ) × (slice_index ranks s ≡ 0)) → (is_marked goals s ≡ false → is_marked (infinite v) s ≡ true → Each Holds without)
    → (is_marked goals s ≡ false → is_marked (infinite v) s ≡ false → Each Holds within) → Each Holds (kind_checks goals v ranks s without within)
kind_holds goals v ranks s without within at outside inside =
    each_if Holds (is_marked goals s) (goal_checks v ranks s) (cond (is_marked (infinite v) s) without within)
    (λ g. (ap Some (zero_true (reward_at v s) (at g).0), (ap Some (eq-eqb (slice_index ranks s) 0 (at g).1), tt)))
    (λ g. each_if Holds (is_marked (infinite v) s) without within (outside g) (inside g))

module _ (m : Mdp) (goals : List Bool) (v : List (Option ℚ)) (policy ranks : List ℕ) (s : ℕ) where
  stays_hold : (dir : Dir) → Arrives dir m goals v policy ranks → IsTransient m goals v s → Each Holds (stay_checks dir m v s (slice_index policy s))
  stays_hold Max h t = each_map Holds (stay_check m v s) (length (choices_at m s)) (λ c i. ap Some (test_of_stays m v ranks s c (h s c t i).0))
  stays_hold Min h t = (ap Some (test_of_stays m v ranks s (slice_index policy s) (h s t).0), tt)

  falls_hold : (dir : Dir) → Arrives dir m goals v policy ranks → IsTransient m goals v s → Each Holds (rank_fall_checks dir m ranks s (slice_index policy s))
  falls_hold Max h t = each_map Holds (rank_fall_check m ranks s) (length (choices_at m s)) (λ c i. ap Some (test_of_falls m v ranks s c (h s c t i).1))
  falls_hold Min h t = (ap Some (test_of_falls m v ranks s (slice_index policy s) (h s t).1), tt)

  misses_hold : (dir : Dir) → Misses dir m v policy ranks → s < states_of m → is_marked (infinite v) s ≡ true → Each Holds (infinite_checks dir m v ranks s (slice_index policy s))
  misses_hold Max h l i = (ap Some (test_of_misses m v ranks s (slice_index policy s) (h s (l, i))), tt)
  misses_hold Min h l i = each_map Holds (all_miss_check m v ranks s) (length (choices_at m s)) (λ c j. ap Some (test_of_all_misses m v ranks s c (h s c (l, i) j)))

module _ (m : Mdp) (known : IsMdp m) (r : ℕ) (v : List (Option ℚ)) (s choice : ℕ) (l : s < states_of m) (i : choice < length (choices_at m s)) (e : value_at (finite_part v) s ≡ 0ℚ) where
  half_holds : (dir : Dir) → Each Holds (half_checks (lower_on_each dir) dir m r v s choice)
  half_holds Max = (zero_earns m known r v s choice l i e, tt)
  half_holds Min =
      each_flat Holds (λ c. cond (is_looked_at Min m v s c) (earning_check Min m r v s c ∷ []) []) (length (choices_at m s))
      (λ c j. each_if Holds (is_looked_at Min m v s c) (earning_check Min m r v s c ∷ []) [] (λ k. (zero_earns m known r v s c l j e, tt)) (λ k. tt))

module _ (dir : Dir) (m : Mdp) (known : IsMdp m) (r : ℕ) (goals : List Bool) (lower upper : List (Option ℚ)) (policy ranks : List ℕ)
    (t : IsTrivialReward dir m r goals lower upper policy ranks) where
  low_holds : (s : ℕ) → s < states_of m → Each Holds (lower_checks dir m r goals lower ranks s (slice_index policy s))
  low_holds s l =
      let choice : ℕ = slice_index policy s in
      let stays : List Check = stay_checks dir m lower s (slice_index policy s) in
      let half : List Check = half_checks (lower_on_each dir) dir m r lower s (slice_index policy s) in
      let falls : List Check = rank_fall_checks dir m ranks s (slice_index policy s) in (
        ap Some (nonneg_true (reward_at lower s) (λ x e. ≤ℚ_of_eq 0ℚ x (sym (t.zero s x l e)))),
        kind_holds goals lower ranks s (infinite_checks dir m lower ranks s (slice_index policy s)) (finite_checks (lower_on_each dir) dir m r lower s (slice_index policy s) ++ falls)
            (λ g. let at = t.at_goal s l g in (at.0, at.2)) (λ g i. misses_hold m goals lower policy ranks s dir t.misses l i)
            (λ g f.
            each_append Holds (stays ++ half) falls
            (each_append Holds stays half (stays_hold m goals lower policy ranks s dir t.arrives (l, g, f))
            (half_holds m known r lower s (slice_index policy s) l (IsPolicy.in_range t.takes s l) (part_by lower s ∙ zero_by (reward_at lower s) (λ x e. t.zero s x l e)) dir))
            (falls_hold m goals lower policy ranks s dir t.arrives (l, g, f))),
      )

  upper_nonneg : (s : ℕ) → s < states_of m → (b : Bool) → is_marked goals s ≡ b → (x : ℚ) → reward_at upper s ≡ Some x → 0ℚ ≤ℚ x
  upper_nonneg s l true g x e = ≤ℚ_of_eq 0ℚ x (Some_same 0ℚ x (sym (t.at_goal s l g).1 ∙ e))
  upper_nonneg s l false g x e = let n : None ≡ Some x = sym (t.above s l g) ∙ e in absurd cc

  high_holds : (s : ℕ) → s < states_of m → Each Holds (upper_value_checks dir m r goals upper ranks s (slice_index policy s))
  high_holds s l = (
    ap Some (nonneg_true (reward_at upper s) (upper_nonneg s l (is_marked goals s) refl)),
    kind_holds goals upper ranks s [] (finite_checks (not (lower_on_each dir)) dir m r upper s (slice_index policy s)) (λ g. let at = t.at_goal s l g in (at.1, at.2)) (λ g i. tt)
        (λ g f. absurd (true≢false (sym (infinite_of_none upper s (t.above s l g)) ∙ f))),
  )

  ordered : (s : ℕ) → s < states_of m → (b : Bool) → is_marked goals s ≡ b → is_marked (infinite lower) s ≡ true → is_marked (infinite upper) s ≡ true
  ordered s l true g i = absurd (true≢false (sym i ∙ finite_of_some lower s 0ℚ (t.at_goal s l g).0))
  ordered s l false g i = infinite_of_none upper s (t.above s l g)

  state_holds : (s : ℕ) → s < states_of m → Each Holds (reward_bounds_at dir m r goals lower upper ranks s (slice_index policy s))
  state_holds s l =
      let low : List Check = lower_checks dir m r goals lower ranks s (slice_index policy s) in
      let high : List Check = upper_value_checks dir m r goals upper ranks s (slice_index policy s) in (
        ap Some (lt-ltb (slice_index policy s) (length (choices_at m s)) (IsPolicy.in_range t.takes s l)),
        (
          ap Some (implies (is_marked (infinite lower) s) (is_marked (infinite upper) s) (ordered s l (is_marked goals s) refl)),
          each_append Holds low (high ++ sign_checks m r s) (low_holds s l)
              (each_append Holds high (sign_checks m r s) (high_holds s l)
              (each_map Holds (sign_check m r s) (length (choices_at m s)) (λ c i. ap Some (test_of_le 0ℚ (reward_of (choice_at m s c) r) (t.nonneg s c l i))))),
        ),
      )

  pub trivial_yes : verdict_of (reward_bounds_checks dir m r goals lower upper policy ranks) ≡ Yes
  trivial_yes =
      yes_of_each (reward_bounds_checks dir m r goals lower upper policy ranks)
      (each_flat Holds (λ s. reward_bounds_at dir m r goals lower upper ranks s (slice_index policy s)) (states_of m) state_holds)
