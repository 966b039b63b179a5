-- Certificates of two small models that meet the rules of rewards and of the mean payoff, so they meet the bounds; and other values that don't.
use Rattle.std.proofs.Common.{◌≡◌, ℕ, zero, suc, ◌<◌, ◌⊎◌, Bool, true, false, true≢false, List, [], ◌∷◌, length, get_or, slice_index, Option, Some, None, is_some}
use Rattle.std.proofs.{Common.{refl, sym, ap, subst, arith, pos, inl, inr}, lemmas.List.Elements.{All-from_recursion}}
use Rattle.std.specs.Prelude.{unwrap_or}
use Rattle.mdp_math.specs.{Gcd.{gcd, gcd_with_fuel}, Rational.{ℚ, of_int, ratio, ◌+ℚ◌, ◌*ℚ◌, neg_ℚ, le_ℚ, lt_ℚ, ◌≤ℚ◌, ◌<ℚ◌}}
use Rattle.mdp_math.proofs.{Order.{0ℚ, ≤ℚ_of_eq}, Options.{Some_same}}
use Rattle.mdp_spec.specs.Mdp.{Entry, Choice, State, Mdp, choices_at, row_at, value_at}
use Rattle.mdp_spec.specs.{Bounds.{RewardMax, RewardMin, MeanMax, greatest_finite, finite_part, reward_at, infinite}, Row.{IsRow, IsMdp, row_sum}}
use Rattle.mdp_spec.specs.Tree.{is_marked}
use Rattle.mdp_spec.specs.RewardRules.{backup, IsTransient, StaysFinite, Falls, FallsInfinite, StaysInfinite, MeetsRewardMax, MeetsRewardMin}
use Rattle.mdp_spec.specs.MeanRules.{spread_of, MeetsMeanMax}
use Rattle.mdp_spec.proofs.{Subsystem.{loop_is_row}, Reward.{reward_max_of_rules, reward_min_of_rules}, Mean.{mean_max_of_rules}}
use Rattle.mdp_spec.proofs.{Unique.{reward_max_unique, reward_min_unique, mean_max_unique}, Small.{entry, number, state}}

abbrev choice : List Entry → ℚ → Choice
choice row reward = record { row = row; rewards = reward ∷ [] }

abbrev model : List State → Mdp
model states = record { names = (99 ∷ []) ∷ []; labels = []; states = states }

-- ---- cases

below_1 : (P : ℕ → Type 0) → P 0 → (s : ℕ) → s < 1 → P s
below_1 P a zero h = a
below_1 P a (suc s) h = absurd (omega (arith, h))

below_2 : (P : ℕ → Type 0) → P 0 → P 1 → (s : ℕ) → s < 2 → P s
below_2 P a b zero h = a
below_2 P a b (suc s) h = below_1 (λ k. P (suc k)) b s (omega (arith, h))

below_4 : (P : ℕ → Type 0) → P 0 → P 1 → P 2 → P 3 → (s : ℕ) → s < 4 → P s
below_4 P a b c d zero h = a
below_4 P a b c d (suc zero) h = b
below_4 P a b c d (suc (suc s)) h = below_2 (λ k. P (suc (suc k))) c d s (omega (arith, h))

some_nonneg : (x y : ℚ) → 0ℚ ≤ℚ x → Some x ≡ Some y → 0ℚ ≤ℚ y
some_nonneg x y h e = subst (λ (o : Option ℚ). 0ℚ ≤ℚ unwrap_or o x) e h

not_some : (y : ℚ) → None ≡ Some y → ⊥
not_some y e = true≢false (sym (ap is_some e))

-- ---- rewards: state 0 tries for 1 and is done with 1/2, or pays 3 and is done; 1 is the goal; 2 waits for 1 in each step, or goes on to 0
-- for nothing; 3 is left nowhere

abbrev pub trip : Mdp
trip = model
    (state (choice (entry 0 (ratio (pos 1) 2) ∷ entry 1 (ratio (pos 1) 2) ∷ []) (number 1) ∷ choice (entry 1 (number 1) ∷ []) (number 3) ∷ [])
    ∷ state (choice (entry 1 (number 1) ∷ []) (number 1) ∷ [])
    ∷ state (choice (entry 2 (number 1) ∷ []) (number 1) ∷ choice (entry 0 (number 1) ∷ []) (number 0) ∷ [])
    ∷ state (choice (entry 3 (number 1) ∷ []) (number 0) ∷ [])
    ∷ [])

abbrev goals : List Bool
goals = false ∷ true ∷ false ∷ false ∷ []

-- the greatest rewards: 3 by paying, and no bound where a policy waits for ever
abbrev pub most : List (Option ℚ)
most = Some (number 3) ∷ Some (number 0) ∷ None ∷ None ∷ []

abbrev pub pays : List ℕ
pays = 1 ∷ 0 ∷ 0 ∷ 0 ∷ []

abbrev pays_ranks : List ℕ
pays_ranks = 1 ∷ 0 ∷ 0 ∷ 0 ∷ []

-- the least: 2 by trying, from state 2 as well
abbrev pub least : List (Option ℚ)
least = Some (number 2) ∷ Some (number 0) ∷ Some (number 2) ∷ None ∷ []

abbrev pub tries : List ℕ
tries = 0 ∷ 0 ∷ 1 ∷ 0 ∷ []

abbrev tries_ranks : List ℕ
tries_ranks = 1 ∷ 0 ∷ 2 ∷ 1 ∷ []

backup-tries : backup trip 0 0 0 (finite_part least) ≡ number 2
unfolding gcd gcd_with_fuel of_int ratio ◌+ℚ◌ ◌*ℚ◌
backup-tries = refl

greatest_finite-most : greatest_finite most ≡ number 3
unfolding of_int le_ℚ
greatest_finite-most = refl

transient_max : (P : ℕ → Type 0) → P 0 → (s : ℕ) → IsTransient trip goals most s → P s
transient_max P a s (h, g, f) =
    below_4 (λ s. is_marked goals s ≡ false → is_marked (infinite most) s ≡ false → P s) (λ g f. a) (λ g f. absurd (true≢false g)) (λ g f. absurd (true≢false f))
    (λ g f. absurd (true≢false f)) s h g f

trip_max : MeetsRewardMax trip 0 goals most pays pays_ranks
unfolding gcd gcd_with_fuel of_int ratio ◌+ℚ◌ ◌*ℚ◌ le_ℚ
trip_max = record {
  named = omega arith;
  one_each = refl;
  choices = record { one_each = refl; in_range = below_4 (λ s. slice_index pays s < length (choices_at trip s)) (omega arith) (omega arith) (omega arith) (omega arith) };
  values = record {
    at_least_zero = λ s x h.
        below_4 (λ s. reward_at most s ≡ Some x → 0ℚ ≤ℚ x) (some_nonneg (number 3) x (record { le = tt })) (some_nonneg (number 0) x (record { le = tt })) (λ e. absurd (not_some x e))
        (λ e. absurd (not_some x e)) s h;
    at_goal =
        below_4 (λ s. is_marked goals s ≡ true → (reward_at most s ≡ Some (number 0)) × (slice_index pays_ranks s ≡ 0))
        (λ g. absurd (true≢false (sym g))) (λ g. (refl, refl)) (λ g. absurd (true≢false (sym g))) (λ g. absurd (true≢false (sym g)));
  };
  stays = λ s c at.
      transient_max (λ s. c < length (choices_at trip s) → StaysFinite trip most s c)
      (below_2 (λ c. StaysFinite trip most 0 c) (λ k d. below_2 (λ k. is_marked (infinite most) (Entry.target (get_or (row_at trip 0 0) k d)) ≡ false) refl refl k)
      (λ k d. below_1 (λ k. is_marked (infinite most) (Entry.target (get_or (row_at trip 0 1) k d)) ≡ false) refl k) c)
      s at;
  covers = λ s c at.
      transient_max (λ s. c < length (choices_at trip s) → backup trip 0 s c (finite_part most) ≤ℚ value_at (finite_part most) s)
      (below_2 (λ c. backup trip 0 0 c (finite_part most) ≤ℚ number 3) (record { le = tt }) (record { le = tt }) c) s at;
  reached = transient_max (λ s. value_at (finite_part most) s ≤ℚ backup trip 0 s (slice_index pays s) (finite_part most)) (record { le = tt });
  falls = λ s c at.
      transient_max (λ s. c < length (choices_at trip s) → Falls trip pays_ranks s c)
      (below_2 (λ c. Falls trip pays_ranks 0 c) (1, entry 1 (ratio (pos 1) 2), omega arith, refl, omega arith) (0, entry 1 (number 1), omega arith, refl, omega arith) c) s at;
  misses = λ s (h, i).
      below_4 (λ s. is_marked (infinite most) s ≡ true → ((slice_index pays_ranks s ≡ 0) × StaysInfinite trip most pays_ranks 0 s (slice_index pays s))
      ⊎ FallsInfinite trip most pays_ranks s (slice_index pays s))
      (λ i. absurd (true≢false (sym i))) (λ i. absurd (true≢false (sym i)))
      (λ i. inl (
        refl,
        λ k d. below_1 (λ k. (is_marked (infinite most) (Entry.target (get_or (row_at trip 2 0) k d)) ≡ true)
            × (slice_index pays_ranks (Entry.target (get_or (row_at trip 2 0) k d)) ≡ 0)) (refl, refl) k,
      ))
      (λ i. inl (
        refl,
        λ k d. below_1 (λ k. (is_marked (infinite most) (Entry.target (get_or (row_at trip 3 0) k d)) ≡ true)
            × (slice_index pays_ranks (Entry.target (get_or (row_at trip 3 0) k d)) ≡ 0)) (refl, refl) k,
      ))
      s h i;
}

transient_min : (P : ℕ → Type 0) → P 0 → P 2 → (s : ℕ) → IsTransient trip goals least s → P s
transient_min P a b s (h, g, f) =
    below_4 (λ s. is_marked goals s ≡ false → is_marked (infinite least) s ≡ false → P s) (λ g f. a) (λ g f. absurd (true≢false g)) (λ g f. b) (λ g f. absurd (true≢false f)) s h g f

trip_min : MeetsRewardMin trip 0 goals least tries tries_ranks
unfolding gcd gcd_with_fuel of_int ratio ◌+ℚ◌ ◌*ℚ◌ le_ℚ
trip_min = record {
  named = omega arith;
  one_each = refl;
  choices = record { one_each = refl; in_range = below_4 (λ s. slice_index tries s < length (choices_at trip s)) (omega arith) (omega arith) (omega arith) (omega arith) };
  values = record {
    at_least_zero = λ s x h.
        below_4 (λ s. reward_at least s ≡ Some x → 0ℚ ≤ℚ x)
        (some_nonneg (number 2) x (record { le = tt })) (some_nonneg (number 0) x (record { le = tt })) (some_nonneg (number 2) x (record { le = tt })) (λ e. absurd (not_some x e)) s h;
    at_goal =
        below_4 (λ s. is_marked goals s ≡ true → (reward_at least s ≡ Some (number 0)) × (slice_index tries_ranks s ≡ 0))
        (λ g. absurd (true≢false (sym g))) (λ g. (refl, refl)) (λ g. absurd (true≢false (sym g))) (λ g. absurd (true≢false (sym g)));
  };
  stays =
      transient_min (λ s. StaysFinite trip least s (slice_index tries s))
      (λ k d. below_2 (λ k. is_marked (infinite least) (Entry.target (get_or (row_at trip 0 0) k d)) ≡ false) refl refl k)
      (λ k d. below_1 (λ k. is_marked (infinite least) (Entry.target (get_or (row_at trip 2 1) k d)) ≡ false) refl k);
  covered = λ s c at.
      transient_min (λ s. c < length (choices_at trip s) → StaysFinite trip least s c → value_at (finite_part least) s ≤ℚ backup trip 0 s c (finite_part least))
      (below_2 (λ c. StaysFinite trip least 0 c → number 2 ≤ℚ backup trip 0 0 c (finite_part least)) (λ f. record { le = tt }) (λ f. record { le = tt }) c)
      (below_2 (λ c. StaysFinite trip least 2 c → number 2 ≤ℚ backup trip 0 2 c (finite_part least)) (λ f. record { le = tt }) (λ f. record { le = tt }) c) s at;
  reached = transient_min (λ s. backup trip 0 s (slice_index tries s) (finite_part least) ≤ℚ value_at (finite_part least) s) (record { le = tt }) (record { le = tt });
  falls = transient_min (λ s. Falls trip tries_ranks s (slice_index tries s)) (1, entry 1 (ratio (pos 1) 2), omega arith, refl, omega arith)
      (0, entry 0 (number 1), omega arith, refl, omega arith);
  misses = λ s c (h, i).
      below_4 (λ s. is_marked (infinite least) s ≡ true → c < length (choices_at trip s) → FallsInfinite trip least tries_ranks s c
      ⊎ StaysInfinite trip least tries_ranks (slice_index tries_ranks s) s c)
      (λ i. absurd (true≢false (sym i))) (λ i. absurd (true≢false (sym i))) (λ i. absurd (true≢false (sym i)))
      (λ i. below_1 (λ c. FallsInfinite trip least tries_ranks 3 c ⊎ StaysInfinite trip least tries_ranks 1 3 c)
      (inr (λ k d. below_1 (λ k. (is_marked (infinite least) (Entry.target (get_or (row_at trip 3 0) k d)) ≡ true)
      × (slice_index tries_ranks (Entry.target (get_or (row_at trip 3 0) k d)) ≡ 1)) (refl, refl) k)) c)
      s h i;
}

-- ---- a mean payoff: state 0 earns 1 in each step, or once 5 and nothing from then on

abbrev pub job : Mdp
job = model (state (choice (entry 0 (number 1) ∷ []) (number 1) ∷ choice (entry 1 (number 1) ∷ []) (number 5) ∷ []) ∷ state (choice (entry 1 (number 1) ∷ []) (number 0) ∷ []) ∷ [])

-- the gains; with the bound 4 to leave is no better than to stay; the policy's own bias is 0
abbrev pub gains : List ℚ
gains = number 1 ∷ number 0 ∷ []

abbrev bound : List ℚ
bound = number 4 ∷ number 0 ∷ []

abbrev bias : List ℚ
bias = number 0 ∷ number 0 ∷ []

spread_of-job : spread_of bound bias ≡ number 4
unfolding gcd gcd_with_fuel of_int ratio ◌+ℚ◌ neg_ℚ le_ℚ
spread_of-job = refl

job_max : MeetsMeanMax job 0 gains bound bias (number 4) (0 ∷ 0 ∷ [])
unfolding gcd gcd_with_fuel of_int ratio ◌+ℚ◌ ◌*ℚ◌ neg_ℚ le_ℚ
job_max = record {
  named = omega arith;
  choices = record { one_each = refl; in_range = below_2 (λ s. slice_index (0 ∷ 0 ∷ []) s < length (choices_at job s)) (omega arith) (omega arith) };
  spreads = record { bounds = refl; biases = refl; widest = refl };
  gain_covers = λ s c h.
      below_2 (λ s. c < length (choices_at job s) → row_sum (row_at job s c) gains ≤ℚ value_at gains s)
      (below_2 (λ c. row_sum (row_at job 0 c) gains ≤ℚ number 1) (record { le = tt }) (record { le = tt }) c)
      (below_1 (λ c. row_sum (row_at job 1 c) gains ≤ℚ number 0) (record { le = tt }) c) s h;
  bound_covers = λ s c h.
      below_2 (λ s. c < length (choices_at job s) → backup job 0 s c bound ≤ℚ value_at gains s +ℚ value_at bound s)
      (below_2 (λ c. backup job 0 0 c bound ≤ℚ number 1 +ℚ number 4) (record { le = tt }) (record { le = tt }) c)
      (below_1 (λ c. backup job 0 1 c bound ≤ℚ number 0 +ℚ number 0) (record { le = tt }) c) s h;
  evaluation = record {
    gain = below_2 (λ s. row_sum (row_at job s (slice_index (0 ∷ 0 ∷ []) s)) gains ≡ value_at gains s) refl refl;
    bias = below_2 (λ s. backup job 0 s (slice_index (0 ∷ 0 ∷ []) s) bias ≡ value_at gains s +ℚ value_at bias s) refl refl;
  };
}

-- ---- so they meet the bounds, and no other values do

half_half : IsRow 4 (row_at trip 0 0)
unfolding gcd gcd_with_fuel ratio of_int ◌+ℚ◌ lt_ℚ
half_half = record {
  distribution = record { ascending = refl; positive = All-from_recursion (λ x. 0ℚ <ℚ x.prob) (row_at trip 0 0) (record { lt = tt }, (record { lt = tt }, tt)); total = refl };
  in_range = All-from_recursion (λ x. x.target < 4) (row_at trip 0 0) (omega arith, (omega arith, tt));
}

pub trip_model : IsMdp trip
trip_model = record {
  some = omega arith;
  few = omega arith;
  choice = below_4 (λ s. 0 < length (choices_at trip s)) (omega arith) (omega arith) (omega arith) (omega arith);
  row = λ s c h.
      below_4 (λ s. c < length (choices_at trip s) → IsRow 4 (row_at trip s c))
      (below_2 (λ c. IsRow 4 (row_at trip 0 c)) half_half (loop_is_row 4 1 (omega arith)) c) (below_1 (λ c. IsRow 4 (row_at trip 1 c)) (loop_is_row 4 1 (omega arith)) c)
      (below_2 (λ c. IsRow 4 (row_at trip 2 c)) (loop_is_row 4 2 (omega arith)) (loop_is_row 4 0 (omega arith)) c) (below_1 (λ c. IsRow 4 (row_at trip 3 c)) (loop_is_row 4 3 (omega arith)) c)
      s h;
}

pub trip_most : RewardMax trip 0 goals pays most
trip_most = reward_max_of_rules trip 0 goals most pays pays_ranks trip_model trip_max

pub trip_least : RewardMin trip 0 goals tries least
trip_least = reward_min_of_rules trip 0 goals least tries tries_ranks trip_model trip_min

-- nothing comes close to 4, and nothing is as little as 1
four_too_much : (policy : List ℕ) → RewardMax trip 0 goals policy (Some (number 4) ∷ Some (number 0) ∷ None ∷ None ∷ []) → ⊥
unfolding of_int le_ℚ
four_too_much policy b =
    let e : Some (number 4) ≡ Some (number 3) = reward_max_unique trip 0 goals trip_model (Some (number 4) ∷ Some (number 0) ∷ None ∷ None ∷ []) most policy pays 0 b trip_most (omega arith) in
    let h : number 4 ≤ℚ number 3 = ≤ℚ_of_eq _ _ (Some_same _ _ e) in h.le

one_too_little : (policy : List ℕ) → RewardMin trip 0 goals policy (Some (number 1) ∷ Some (number 0) ∷ Some (number 1) ∷ None ∷ []) → ⊥
unfolding of_int le_ℚ
one_too_little policy b =
    let e : Some (number 1) ≡ Some (number 2) = reward_min_unique trip 0 goals trip_model
    (Some (number 1) ∷ Some (number 0) ∷ Some (number 1) ∷ None ∷ []) least policy tries b trip_least 0 (omega arith) in
    let h : number 2 ≤ℚ number 1 = ≤ℚ_of_eq _ _ (sym (Some_same _ _ e)) in h.le

-- where a policy waits for ever, no finite value is the greatest
not_finite : (policy : List ℕ) (x : ℚ) → RewardMax trip 0 goals policy (Some (number 3) ∷ Some (number 0) ∷ Some x ∷ None ∷ []) → ⊥
not_finite policy x b =
    let e : Some x ≡ None = reward_max_unique trip 0 goals trip_model (Some (number 3) ∷ Some (number 0) ∷ Some x ∷ None ∷ []) most policy pays 2 b trip_most (omega arith) in
    not_some x (sym e)

pub job_model : IsMdp job
job_model = record {
  some = omega arith;
  few = omega arith;
  choice = below_2 (λ s. 0 < length (choices_at job s)) (omega arith) (omega arith);
  row = λ s c h.
      below_2 (λ s. c < length (choices_at job s) → IsRow 2 (row_at job s c))
      (below_2 (λ c. IsRow 2 (row_at job 0 c)) (loop_is_row 2 0 (omega arith)) (loop_is_row 2 1 (omega arith)) c) (below_1 (λ c. IsRow 2 (row_at job 1 c)) (loop_is_row 2 1 (omega arith)) c) s h;
}

pub job_gains : MeanMax job 0 gains (number 4) (0 ∷ 0 ∷ [])
job_gains = mean_max_of_rules job 0 gains bound bias (number 4) (0 ∷ 0 ∷ []) job_model job_max

-- no spread makes 2 the gain of state 0
two_too_much : (policy : List ℕ) (spread : ℚ) → MeanMax job 0 (number 2 ∷ number 0 ∷ []) spread policy → ⊥
unfolding of_int le_ℚ
two_too_much policy spread b =
    let e : number 2 ≡ number 1 = mean_max_unique job 0 (number 2 ∷ number 0 ∷ []) gains spread (number 4) policy (0 ∷ 0 ∷ []) job_model b job_gains 0 (omega arith) in
    let h : number 2 ≤ℚ number 1 = ≤ℚ_of_eq _ _ e in h.le
