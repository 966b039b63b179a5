-- The verdict on rewards until a goal is yes exactly where the rules hold in exact numbers and no written term is past width.
use Rattle.std.proofs.Common.{◌≡◌, ℕ, ◌<◌, ◌⊎◌, inl, inr, ⊎_elim, Bool, true, false, true≢false, not, ◌&&◌, ◌||◌, ltb, lt-ltb, ltb-true, eqb, eqb-true, eq-eqb}
use Rattle.std.proofs.Common.{List, [], ◌∷◌, ◌++◌, cond, length, slice_index, Option, Some, None, ◌↔◌, refl, sym, ap, subst, ◌∙◌}
use Rattle.std.proofs.lemmas.List.Elements.{All-from_recursion, recursion_from_All}
use Rattle.std.specs.Option.{IsSome}
use Rattle.mdp_math.specs.Rational.{ℚ, ◌≤ℚ◌}
use Rattle.mdp_math.proofs.{Booleans.{and-parts, and-both, not_true}, Options.{Some_same}}
use Rattle.mdp_spec.specs.{Mdp.{Entry, Mdp, states_of, choices_at, choice_at, row_at, value_at}, Row.{IsMdp}, Unit.{reward_of}, Tree.{IsPolicy, is_marked}}
use Rattle.mdp_spec.specs.Bounds.{RewardMax, RewardMin, reward_at, finite_part, infinite}
use Rattle.mdp_spec.specs.RewardRules.{backup, IsInfinite, IsTransient, StaysFinite, Falls, FallsInfinite, StaysInfinite, AreRewards}
use Rattle.mdp_spec.proofs.{Values.{finite_of_some}, Reward.{reward_max_of_rules, reward_min_of_rules}}
use Rattle.mdp_farkas.specs.{Verdict.{Check, verdict_of, InWidth, IsYes, IfYes}, Compare.{0ℚ}, Reach.{other}}
use Rattle.mdp_farkas.specs.Reward.{is_nonneg, is_zero, goal_checks, stays_finite, stay_check, stay_checks, is_looked_at, earning_check, earning_checks, policy_earning_check}
use Rattle.mdp_farkas.specs.Reward.{falls, rank_fall_check, rank_fall_checks, transient_checks, falls_infinite, stays_infinite, all_miss_check, infinite_checks, place_checks}
use Rattle.mdp_farkas.specs.Reward.{sign_check, sign_checks, reward_checks_at, reward_checks, MeetsReward, IsReward}
use Rattle.mdp_rows.specs.{declared.dir.Dir.{Dir}, declared.dir.Dir.TheVariants.{Max, Min}}
use Rattle.mdp_claims.specs.{declared.verdict.Fault.{Fault}, declared.verdict.Verdict.{Verdict}, declared.verdict.Verdict.TheVariants.{No}}
use Rattle.mdp_farkas.proofs.Holds.{Each, Holds, Sound, each_of_yes, yes_of_each, told_of_each, if_yes, holds_of_sound, never_no}
use Rattle.mdp_farkas.proofs.Holds.{each_append, each_left, each_right, each_flat, each_flat_at, each_map, each_map_at, each_if, each_if_true, each_if_false}
use Rattle.mdp_farkas.proofs.{Comparing.{le_of_at_least, at_least_of_le, same_of_equal, equal_of_same}, Inequalities.{Stands, sum_stands_of, of_sum_stands}}
use Rattle.mdp_farkas.proofs.Tests.{or-parts, or-first, or-second, all_passed, all_pass, some_passed, some_passes}

-- ---- values that may be infinite

some_nonneg : (o : Option ℚ) (x : ℚ) → o ≡ Some x → is_nonneg o ≡ Some true → 0ℚ ≤ℚ x
some_nonneg o x e h = le_of_at_least x 0ℚ (subst (λ (o : Option ℚ). is_nonneg o ≡ Some true) e h)

pub nonneg_sound : (o : Option ℚ) → ((x : ℚ) → o ≡ Some x → 0ℚ ≤ℚ x) → IsSome (is_nonneg o) → is_nonneg o ≡ Some true
nonneg_sound None h w = refl
nonneg_sound (Some x) h w = at_least_of_le x 0ℚ (h x refl) w

zero_of_test : (o : Option ℚ) → is_zero o ≡ Some true → o ≡ Some 0ℚ
zero_of_test None h = absurd (true≢false (sym (Some_same _ _ h)))
zero_of_test (Some x) h = ap Some (same_of_equal x 0ℚ h)

pub zero_sound : (o : Option ℚ) → o ≡ Some 0ℚ → IsSome (is_zero o) → is_zero o ≡ Some true
zero_sound o e = subst (λ (o : Option ℚ). IsSome (is_zero o) → is_zero o ≡ Some true) (sym e) (λ w. equal_of_same 0ℚ 0ℚ refl w)

-- ---- tests of rows

module _ (m : Mdp) (v : List (Option ℚ)) (ranks : List ℕ) (s c : ℕ) where
  pub stays_of_test : stays_finite m v s c ≡ true → StaysFinite m v s c
  stays_of_test e =
      all_passed (λ (y : Entry). not (is_marked (infinite v) y.target)) (λ (y : Entry). is_marked (infinite v) y.target ≡ false) (λ y h. not_true (is_marked (infinite v) y.target) h) (row_at m s c) e

  pub test_of_stays : StaysFinite m v s c → stays_finite m v s c ≡ true
  test_of_stays h =
      all_pass (λ (y : Entry). not (is_marked (infinite v) y.target)) (λ (y : Entry). is_marked (infinite v) y.target ≡ false) (λ y h. ap not h) (row_at m s c) h

  pub falls_of_test : falls m ranks s c ≡ true → Falls m ranks s c
  falls_of_test e =
      some_passed (λ (y : Entry). ltb (slice_index ranks y.target) (slice_index ranks s)) (λ (y : Entry). slice_index ranks y.target < slice_index ranks s)
      (λ y h. ltb-true (slice_index ranks y.target) (slice_index ranks s) h) (row_at m s c) e

  pub test_of_falls : Falls m ranks s c → falls m ranks s c ≡ true
  test_of_falls h =
      some_passes (λ (y : Entry). ltb (slice_index ranks y.target) (slice_index ranks s)) (λ (y : Entry). slice_index ranks y.target < slice_index ranks s)
      (λ y h. lt-ltb (slice_index ranks y.target) (slice_index ranks s) h) (row_at m s c) h

  falls_infinite_of_test : falls_infinite m v ranks s c ≡ true → FallsInfinite m v ranks s c
  falls_infinite_of_test e =
      some_passed (λ (y : Entry). is_marked (infinite v) y.target && ltb (slice_index ranks y.target) (slice_index ranks s))
      (λ (y : Entry). (is_marked (infinite v) y.target ≡ true) × (slice_index ranks y.target < slice_index ranks s))
      (λ y h. let p = and-parts (is_marked (infinite v) y.target) (ltb (slice_index ranks y.target) (slice_index ranks s)) h in (p.0, ltb-true (slice_index ranks y.target) (slice_index ranks s) p.1))
      (row_at m s c) e

  test_of_falls_infinite : FallsInfinite m v ranks s c → falls_infinite m v ranks s c ≡ true
  test_of_falls_infinite h =
      some_passes (λ (y : Entry). is_marked (infinite v) y.target && ltb (slice_index ranks y.target) (slice_index ranks s))
      (λ (y : Entry). (is_marked (infinite v) y.target ≡ true) × (slice_index ranks y.target < slice_index ranks s))
      (λ y h. and-both (is_marked (infinite v) y.target) (ltb (slice_index ranks y.target) (slice_index ranks s)) h.0 (lt-ltb (slice_index ranks y.target) (slice_index ranks s) h.1))
      (row_at m s c) h

  stays_infinite_of_test : stays_infinite m v ranks s c ≡ true → StaysInfinite m v ranks (slice_index ranks s) s c
  stays_infinite_of_test e =
      all_passed (λ (y : Entry). is_marked (infinite v) y.target && eqb (slice_index ranks y.target) (slice_index ranks s))
      (λ (y : Entry). (is_marked (infinite v) y.target ≡ true) × (slice_index ranks y.target ≡ slice_index ranks s))
      (λ y h. let p = and-parts (is_marked (infinite v) y.target) (eqb (slice_index ranks y.target) (slice_index ranks s)) h in (p.0, eqb-true (slice_index ranks y.target) (slice_index ranks s) p.1))
      (row_at m s c) e

  test_of_stays_infinite : StaysInfinite m v ranks (slice_index ranks s) s c → stays_infinite m v ranks s c ≡ true
  test_of_stays_infinite h =
      all_pass (λ (y : Entry). is_marked (infinite v) y.target && eqb (slice_index ranks y.target) (slice_index ranks s))
      (λ (y : Entry). (is_marked (infinite v) y.target ≡ true) × (slice_index ranks y.target ≡ slice_index ranks s))
      (λ y h. and-both (is_marked (infinite v) y.target) (eqb (slice_index ranks y.target) (slice_index ranks s)) h.0 (eq-eqb (slice_index ranks y.target) (slice_index ranks s) h.1))
      (row_at m s c) h

  -- rule 14
  pub misses_of_test : (falls_infinite m v ranks s c || (eqb (slice_index ranks s) 0 && stays_infinite m v ranks s c)) ≡ true
      → ((slice_index ranks s ≡ 0) × StaysInfinite m v ranks 0 s c) ⊎ FallsInfinite m v ranks s c
  misses_of_test e =
      ⊎_elim (λ f. inr (falls_infinite_of_test f))
      (λ b.
      let p = and-parts (eqb (slice_index ranks s) 0) (stays_infinite m v ranks s c) b in
      let zero_at = eqb-true (slice_index ranks s) 0 p.0 in
      inl (zero_at, subst (λ (k : ℕ). StaysInfinite m v ranks k s c) zero_at (stays_infinite_of_test p.1)))
      (or-parts (falls_infinite m v ranks s c) (eqb (slice_index ranks s) 0 && stays_infinite m v ranks s c) e)

  pub test_of_misses : ((slice_index ranks s ≡ 0) × StaysInfinite m v ranks 0 s c) ⊎ FallsInfinite m v ranks s c
      → (falls_infinite m v ranks s c || (eqb (slice_index ranks s) 0 && stays_infinite m v ranks s c)) ≡ true
  test_of_misses h =
      ⊎_elim (λ p.
      or-second (falls_infinite m v ranks s c) (eqb (slice_index ranks s) 0 && stays_infinite m v ranks s c)
      (and-both (eqb (slice_index ranks s) 0) (stays_infinite m v ranks s c) (eq-eqb (slice_index ranks s) 0 p.0)
      (test_of_stays_infinite (subst (λ (k : ℕ). StaysInfinite m v ranks k s c) (sym p.0) p.1))))
      (λ f. or-first (falls_infinite m v ranks s c) (eqb (slice_index ranks s) 0 && stays_infinite m v ranks s c) (test_of_falls_infinite f)) h

  -- rule 15
  pub all_misses_of_test : (falls_infinite m v ranks s c || stays_infinite m v ranks s c) ≡ true → FallsInfinite m v ranks s c ⊎ StaysInfinite m v ranks (slice_index ranks s) s c
  all_misses_of_test e = ⊎_elim (λ f. inl (falls_infinite_of_test f)) (λ k. inr (stays_infinite_of_test k)) (or-parts (falls_infinite m v ranks s c) (stays_infinite m v ranks s c) e)

  pub test_of_all_misses : FallsInfinite m v ranks s c ⊎ StaysInfinite m v ranks (slice_index ranks s) s c → (falls_infinite m v ranks s c || stays_infinite m v ranks s c) ≡ true
  test_of_all_misses h =
      ⊎_elim (λ f. or-first (falls_infinite m v ranks s c) (stays_infinite m v ranks s c) (test_of_falls_infinite f))
      (λ k. or-second (falls_infinite m v ranks s c) (stays_infinite m v ranks s c) (test_of_stays_infinite k)) h

-- ---- the checks at a state

module _ (dir : Dir) (m : Mdp) (r : ℕ) (goals : List Bool) (v : List (Option ℚ)) (policy ranks : List ℕ) where
  abbrev earnings_by : ℕ → ℕ → List Check
  earnings_by s c = cond (is_looked_at dir m v s c) (earning_check dir m r v s c ∷ []) []

  module _ (P : Check → Type 0) (s : ℕ) where
    abbrev choice_ : ℕ
    choice_ = slice_index policy s

    abbrev inner_checks : List Check
    inner_checks = cond (is_marked (infinite v) s) (infinite_checks dir m v ranks s (slice_index policy s)) (transient_checks dir m r v ranks s (slice_index policy s))

    abbrev last_checks : List Check
    last_checks = policy_earning_check dir m r v s (slice_index policy s) ∷ rank_fall_checks dir m ranks s (slice_index policy s)

    at : Each P (reward_checks dir m r goals v policy ranks) → s < states_of m → Each P (reward_checks_at dir m r goals v ranks s (slice_index policy s))
    at h l = each_flat_at P (λ s. reward_checks_at dir m r goals v ranks s (slice_index policy s)) (states_of m) s h l

    module _ (h : Each P (reward_checks_at dir m r goals v ranks s (slice_index policy s))) where
      place_of : Each P (place_checks dir m r goals v ranks s (slice_index policy s))
      place_of = each_left P (place_checks dir m r goals v ranks s (slice_index policy s)) (sign_checks m r s) h.1.1

      sign_of : (c : ℕ) → c < length (choices_at m s) → P (sign_check m r s c)
      sign_of c i = each_map_at P (sign_check m r s) (length (choices_at m s)) c (each_right P (place_checks dir m r goals v ranks s (slice_index policy s)) (sign_checks m r s) h.1.1) i

      goal_of : is_marked goals s ≡ true → Each P (goal_checks v ranks s)
      goal_of g = each_if_true P (is_marked goals s) (goal_checks v ranks s) inner_checks g place_of

      infinite_of : is_marked goals s ≡ false → is_marked (infinite v) s ≡ true → Each P (infinite_checks dir m v ranks s (slice_index policy s))
      infinite_of g i =
          each_if_true P (is_marked (infinite v) s) (infinite_checks dir m v ranks s (slice_index policy s)) (transient_checks dir m r v ranks s (slice_index policy s)) i
          (each_if_false P (is_marked goals s) (goal_checks v ranks s) inner_checks g place_of)

      module _ (g : is_marked goals s ≡ false) (f : is_marked (infinite v) s ≡ false) where
        transient_of : Each P (transient_checks dir m r v ranks s (slice_index policy s))
        transient_of =
            each_if_false P (is_marked (infinite v) s) (infinite_checks dir m v ranks s (slice_index policy s)) (transient_checks dir m r v ranks s (slice_index policy s)) f
            (each_if_false P (is_marked goals s) (goal_checks v ranks s) inner_checks g place_of)

        stays_of : Each P (stay_checks dir m v s (slice_index policy s))
        stays_of = each_left P (stay_checks dir m v s (slice_index policy s)) (earning_checks dir m r v s ++ last_checks) transient_of

        earnings_of : Each P (earning_checks dir m r v s ++ last_checks)
        earnings_of = each_right P (stay_checks dir m v s (slice_index policy s)) (earning_checks dir m r v s ++ last_checks) transient_of

        earning_of : (c : ℕ) → c < length (choices_at m s) → is_looked_at dir m v s c ≡ true → P (earning_check dir m r v s c)
        earning_of c i e =
            (each_if_true P (is_looked_at dir m v s c) (earning_check dir m r v s c ∷ []) [] e
            (each_flat_at P (earnings_by s) (length (choices_at m s)) c (each_left P (earning_checks dir m r v s) last_checks earnings_of) i)).0

        policy_of : P (policy_earning_check dir m r v s (slice_index policy s))
        policy_of = (each_right P (earning_checks dir m r v s) last_checks earnings_of).0

        falls_of : Each P (rank_fall_checks dir m ranks s (slice_index policy s))
        falls_of = (each_right P (earning_checks dir m r v s) last_checks earnings_of).1

  -- ---- what holds, in exact numbers

  module _ (each : length policy ≡ states_of m) (h : Each Holds (reward_checks dir m r goals v policy ranks)) where
    choices_of : IsPolicy m policy
    choices_of = record { one_each = each; in_range = λ s l. ltb-true (slice_index policy s) (length (choices_at m s)) (Some_same _ _ (at Holds s h l).0) }

    zero_at_goal : (s : ℕ) → s < states_of m → is_marked goals s ≡ true → reward_at v s ≡ Some 0ℚ
    zero_at_goal s l g = zero_of_test (reward_at v s) (goal_of Holds s (at Holds s h l) g).0

    values_of : AreRewards m goals v ranks
    values_of = record {
      at_least_zero = λ s x l e. some_nonneg (reward_at v s) x e (at Holds s h l).1.0;
      at_goal = λ s l g. (zero_at_goal s l g, eqb-true (slice_index ranks s) 0 (Some_same _ _ (goal_of Holds s (at Holds s h l) g).1.0));
    }

    nonneg_of : (s c : ℕ) → s < states_of m → c < length (choices_at m s) → 0ℚ ≤ℚ reward_of (choice_at m s c) r
    nonneg_of s c l i = le_of_at_least (reward_of (choice_at m s c) r) 0ℚ (sign_of Holds s (at Holds s h l) c i)

    -- a goal has no infinite value
    no_goal : (s : ℕ) → s < states_of m → is_marked (infinite v) s ≡ true → (b : Bool) → is_marked goals s ≡ b → b ≡ false
    no_goal s l i true g = absurd (true≢false (sym i ∙ finite_of_some v s 0ℚ (zero_at_goal s l g)))
    no_goal s l i false g = refl

    infinite_hold : (s : ℕ) → IsInfinite m v s → Each Holds (infinite_checks dir m v ranks s (slice_index policy s))
    infinite_hold s at_ = infinite_of Holds s (at Holds s h at_.0) (no_goal s at_.0 at_.1 (is_marked goals s) refl) at_.1

    stays_hold : (s : ℕ) → IsTransient m goals v s → Each Holds (stay_checks dir m v s (slice_index policy s))
    stays_hold s t = stays_of Holds s (at Holds s h t.0) t.1 t.2

    earnings_hold : (s c : ℕ) → IsTransient m goals v s → c < length (choices_at m s) → is_looked_at dir m v s c ≡ true
        → Stands dir (value_at (finite_part v) s) (backup m r s c (finite_part v))
    earnings_hold s c t i e = sum_stands_of dir (value_at (finite_part v) s) (finite_part v) (reward_of (choice_at m s c) r) (row_at m s c) (earning_of Holds s (at Holds s h t.0) t.1 t.2 c i e)

    policy_holds : (s : ℕ) → IsTransient m goals v s → Stands (other dir) (value_at (finite_part v) s) (backup m r s (slice_index policy s) (finite_part v))
    policy_holds s t =
        sum_stands_of (other dir) (value_at (finite_part v) s) (finite_part v) (reward_of (choice_at m s (slice_index policy s)) r) (row_at m s (slice_index policy s))
        (policy_of Holds s (at Holds s h t.0) t.1 t.2)

    falls_hold : (s : ℕ) → IsTransient m goals v s → Each Holds (rank_fall_checks dir m ranks s (slice_index policy s))
    falls_hold s t = falls_of Holds s (at Holds s h t.0) t.1 t.2

  -- ---- and the other way round: no check is false

  module _ (s : ℕ) (l : s < states_of m) (takes : slice_index policy s < length (choices_at m s)) (are : AreRewards m goals v ranks)
      (nonneg : (c : ℕ) → c < length (choices_at m s) → 0ℚ ≤ℚ reward_of (choice_at m s c) r)
      (missing : is_marked (infinite v) s ≡ true → Each Sound (infinite_checks dir m v ranks s (slice_index policy s)))
      (staying : IsTransient m goals v s → Each Sound (stay_checks dir m v s (slice_index policy s)))
      (earning : (c : ℕ) → IsTransient m goals v s → c < length (choices_at m s) → is_looked_at dir m v s c ≡ true
      → Stands dir (value_at (finite_part v) s) (backup m r s c (finite_part v)))
      (reached : IsTransient m goals v s → Stands (other dir) (value_at (finite_part v) s) (backup m r s (slice_index policy s) (finite_part v)))
      (falling : IsTransient m goals v s → Each Sound (rank_fall_checks dir m ranks s (slice_index policy s))) where
    goal_sound : is_marked goals s ≡ true → Each Sound (goal_checks v ranks s)
    goal_sound g =
        let at_goal = AreRewards.at_goal are s l g in (λ w. zero_sound (reward_at v s) at_goal.0 w, (λ w. ap Some (eq-eqb (slice_index ranks s) 0 at_goal.1), tt))

    earnings_sound : IsTransient m goals v s → Each Sound (earning_checks dir m r v s)
    earnings_sound t =
        each_flat Sound (earnings_by s) (length (choices_at m s))
        (λ c i.
        each_if Sound (is_looked_at dir m v s c) (earning_check dir m r v s c ∷ []) []
        (λ e. (λ w. of_sum_stands dir (value_at (finite_part v) s) (finite_part v) (reward_of (choice_at m s c) r) (row_at m s c) (earning c t i e) w, tt)) (λ e. tt))

    transient_sound : IsTransient m goals v s → Each Sound (transient_checks dir m r v ranks s (slice_index policy s))
    transient_sound t =
        each_append Sound (stay_checks dir m v s (slice_index policy s))
        (earning_checks dir m r v s ++ (policy_earning_check dir m r v s (slice_index policy s) ∷ rank_fall_checks dir m ranks s (slice_index policy s))) (staying t)
        (each_append Sound (earning_checks dir m r v s) (policy_earning_check dir m r v s (slice_index policy s) ∷ rank_fall_checks dir m ranks s (slice_index policy s)) (earnings_sound t)
        (λ w. of_sum_stands (other dir) (value_at (finite_part v) s) (finite_part v) (reward_of (choice_at m s (slice_index policy s)) r) (row_at m s (slice_index policy s)) (reached t) w, falling t))

    place_sound : Each Sound (place_checks dir m r goals v ranks s (slice_index policy s))
    place_sound =
        each_if Sound (is_marked goals s) (goal_checks v ranks s)
        (cond (is_marked (infinite v) s) (infinite_checks dir m v ranks s (slice_index policy s)) (transient_checks dir m r v ranks s (slice_index policy s))) goal_sound
        (λ g.
        each_if Sound (is_marked (infinite v) s) (infinite_checks dir m v ranks s (slice_index policy s)) (transient_checks dir m r v ranks s (slice_index policy s)) missing
        (λ f. transient_sound (l, g, f)))

    state_sound : Each Sound (reward_checks_at dir m r goals v ranks s (slice_index policy s))
    state_sound = (
      λ w. ap Some (lt-ltb (slice_index policy s) (length (choices_at m s)) takes),
      (
        λ w. nonneg_sound (reward_at v s) (λ x e. AreRewards.at_least_zero are s x l e) w,
        each_append Sound (place_checks dir m r goals v ranks s (slice_index policy s)) (sign_checks m r s) place_sound
            (each_map Sound (sign_check m r s) (length (choices_at m s)) (λ c i w. at_least_of_le (reward_of (choice_at m s c) r) 0ℚ (nonneg c i) w)),
      ),
    )

-- ---- each direction

module _ (m : Mdp) (r : ℕ) (goals : List Bool) (v : List (Option ℚ)) (policy ranks : List ℕ) where
  meets_of_holds : (dir : Dir) → r < length m.names → length v ≡ states_of m → length policy ≡ states_of m → Each Holds (reward_checks dir m r goals v policy ranks)
      → MeetsReward dir m r goals v policy ranks
  meets_of_holds Max named one each h = record {
    named = named;
    one_each = one;
    choices = choices_of Max m r goals v policy ranks each h;
    values = values_of Max m r goals v policy ranks each h;
    stays = λ s c t i. stays_of_test m v ranks s c (Some_same _ _ (each_map_at Holds (stay_check m v s) (length (choices_at m s)) c (stays_hold Max m r goals v policy ranks each h s t) i));
    covers = λ s c t i. earnings_hold Max m r goals v policy ranks each h s c t i refl;
    reached = λ s t. policy_holds Max m r goals v policy ranks each h s t;
    falls = λ s c t i. falls_of_test m v ranks s c (Some_same _ _ (each_map_at Holds (rank_fall_check m ranks s) (length (choices_at m s)) c (falls_hold Max m r goals v policy ranks each h s t) i));
    misses = λ s t. misses_of_test m v ranks s (slice_index policy s) (Some_same _ _ (infinite_hold Max m r goals v policy ranks each h s t).0);
  }
  meets_of_holds Min named one each h = record {
    named = named;
    one_each = one;
    choices = choices_of Min m r goals v policy ranks each h;
    values = values_of Min m r goals v policy ranks each h;
    stays = λ s t. stays_of_test m v ranks s (slice_index policy s) (Some_same _ _ (stays_hold Min m r goals v policy ranks each h s t).0);
    covered = λ s c t i f. earnings_hold Min m r goals v policy ranks each h s c t i (test_of_stays m v ranks s c f);
    reached = λ s t. policy_holds Min m r goals v policy ranks each h s t;
    falls = λ s t. falls_of_test m v ranks s (slice_index policy s) (Some_same _ _ (falls_hold Min m r goals v policy ranks each h s t).0);
    misses = λ s c t i.
        all_misses_of_test m v ranks s c
        (Some_same _ _ (each_map_at Holds (all_miss_check m v ranks s) (length (choices_at m s)) c (infinite_hold Min m r goals v policy ranks each h s t) i));
  }

  module _ (nonneg : (s c : ℕ) → s < states_of m → c < length (choices_at m s) → 0ℚ ≤ℚ reward_of (choice_at m s c) r) where
    sound_at : (dir : Dir) (s : ℕ) → s < states_of m → MeetsReward dir m r goals v policy ranks → Each Sound (reward_checks_at dir m r goals v ranks s (slice_index policy s))
    sound_at Max s l rules =
        state_sound Max m r goals v policy ranks s l (rules.choices.in_range s l) rules.values (λ c i. nonneg s c l i)
        (λ i. (λ w. ap Some (test_of_misses m v ranks s (slice_index policy s) (rules.misses s (l, i))), tt))
        (λ t. each_map Sound (stay_check m v s) (length (choices_at m s)) (λ c i w. ap Some (test_of_stays m v ranks s c (rules.stays s c t i))))
        (λ c t i e. rules.covers s c t i) (λ t. rules.reached s t)
        (λ t. each_map Sound (rank_fall_check m ranks s) (length (choices_at m s)) (λ c i w. ap Some (test_of_falls m v ranks s c (rules.falls s c t i))))
    sound_at Min s l rules =
        state_sound Min m r goals v policy ranks s l (rules.choices.in_range s l) rules.values (λ c i. nonneg s c l i)
        (λ i. each_map Sound (all_miss_check m v ranks s) (length (choices_at m s)) (λ c j w. ap Some (test_of_all_misses m v ranks s c (rules.misses s c (l, i) j))))
        (λ t. (λ w. ap Some (test_of_stays m v ranks s (slice_index policy s) (rules.stays s t)), tt))
        (λ c t i e. rules.covered s c t i (stays_of_test m v ranks s c e)) (λ t. rules.reached s t)
        (λ t. (λ w. ap Some (test_of_falls m v ranks s (slice_index policy s) (rules.falls s t)), tt))

    pub reward_sound : (dir : Dir) → MeetsReward dir m r goals v policy ranks → Each Sound (reward_checks dir m r goals v policy ranks)
    reward_sound dir rules = each_flat Sound (λ s. reward_checks_at dir m r goals v ranks s (slice_index policy s)) (states_of m) (λ s l. sound_at dir s l rules)

    -- so what meets the rules is never answered no
    pub reward_never_no : (dir : Dir) → MeetsReward dir m r goals v policy ranks → (f : Fault) → verdict_of (reward_checks dir m r goals v policy ranks) ≡ No f → ⊥
    reward_never_no dir rules = never_no (reward_checks dir m r goals v policy ranks) (reward_sound dir rules)

  module _ (dir : Dir) (verdict : Verdict) (named : r < length m.names) (one : length v ≡ states_of m) (each : length policy ≡ states_of m)
      (e : verdict ≡ verdict_of (reward_checks dir m r goals v policy ranks)) where
    is_of_yes : IsYes verdict → IsReward dir m r goals v policy ranks
    is_of_yes yes_ =
        let h = each_of_yes (reward_checks dir m r goals v policy ranks) (sym e ∙ yes_) in
        record {
          rules = meets_of_holds dir named one each h;
          nonneg = nonneg_of dir m r goals v policy ranks each h;
          in_width = All-from_recursion InWidth (reward_checks dir m r goals v policy ranks) (told_of_each (reward_checks dir m r goals v policy ranks) h);
        }

    pub reward_rules : IsYes verdict ↔ IsReward dir m r goals v policy ranks
    reward_rules = (
      is_of_yes,
      λ is.
          e ∙ yes_of_each (reward_checks dir m r goals v policy ranks)
          (holds_of_sound (reward_checks dir m r goals v policy ranks) (reward_sound is.nonneg dir is.rules)
          (recursion_from_All InWidth (reward_checks dir m r goals v policy ranks) is.in_width)),
    )

    pub reward_max : IsMdp m → dir ≡ Max → IfYes verdict (RewardMax m r goals policy v)
    reward_max known_ is =
        if_yes verdict (RewardMax m r goals policy v)
        (λ yes_. reward_max_of_rules m r goals v policy ranks known_ (subst (λ (d : Dir). MeetsReward d m r goals v policy ranks) is (IsReward.rules (is_of_yes yes_))))

    pub reward_min : IsMdp m → dir ≡ Min → IfYes verdict (RewardMin m r goals policy v)
    reward_min known_ is =
        if_yes verdict (RewardMin m r goals policy v)
        (λ yes_. reward_min_of_rules m r goals v policy ranks known_ (subst (λ (d : Dir). MeetsReward d m r goals v policy ranks) is (IsReward.rules (is_of_yes yes_))))
