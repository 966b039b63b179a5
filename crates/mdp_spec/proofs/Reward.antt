-- What the rules of a reward certificate say of trees: for a lower and an upper value for each state, and for values that are both.
use Rattle.std.proofs.Common.{◌≡◌, ℕ, ◌<◌, ◌≤◌, ◌⊎◌, ⊎_elim, inl, inr, Bool, true, false, List, length, get_or, Option, Some, None, not, refl, sym, ap, subst, arith}
use Rattle.mdp_math.specs.Rational.{ℚ, ◌+ℚ◌, ◌*ℚ◌, ◌-ℚ◌, ◌≤ℚ◌}
use Rattle.mdp_math.proofs.{Order.{0ℚ, 1ℚ, ≤ℚ_of_eq}, Booleans.{not_true}, SumsAt.{EachAt-from_All}}
use Rattle.mdp_spec.specs.{Mdp.{Mdp, states_of, choices_at, row_at, value_at}, Row.{IsMdp}, Tree.{Tree, Fits, is_marked, unfolded}, Hit.{hit}}
use Rattle.mdp_spec.specs.{Pay.{pay, Enters}, Bounds.{greatest_finite, finite_part, reward_at, infinite, part, MaxValue, MinValue, RewardMax, RewardMin}}
use Rattle.mdp_spec.specs.Between.{MaxLower, MaxUpper, MinLower, MinUpper, RewardMaxBetween, RewardMinBetween}
use Rattle.mdp_spec.specs.BetweenRules.{MeetsRewardMaxBetween, MeetsRewardMinBetween}
use Rattle.mdp_spec.specs.RewardRules.{backup, IsTransient, StaysFinite, Falls, FallsInfinite, StaysInfinite, AreRewards, MeetsRewardMax, MeetsRewardMin}
use Rattle.mdp_spec.proofs.{Keeping.{Keeps, HasChoice, Follows, keeps_of_Fits, keeps_unfolded}, Steps.{Uses, staying_uses}, Arrives.{arrives_by_ranks}}
use Rattle.mdp_spec.proofs.Misses.{misses_by_ranks}
use Rattle.mdp_spec.proofs.Values.{part_of_some, finite_of_some, infinite_of_none, part-nonneg, part-le_greatest, greatest_finite-nonneg}
use Rattle.mdp_spec.proofs.{Pays.{pay-le_by, pay-covers_by, near_enough}, Enters.{enters_or_not, avoiding_uses, Avoids}}

-- C at each choice of a transient state that meets P
abbrev AtTransient : Mdp → List Bool → List (Option ℚ) → (ℕ → ℕ → Type 0) → (ℕ → ℕ → Type 0) → Type 0
AtTransient m goals v P C = (s c : ℕ) → IsTransient m goals v s → P s c → c < length (choices_at m s) → C s c

-- a state of finite value, and the trees from there that keep a rule
abbrev HasFinite : Mdp → List (Option ℚ) → ℕ → Type 0
HasFinite m v s = (s < states_of m) × (is_marked (infinite v) s ≡ false)

abbrev KeepsFinite : Mdp → List (Option ℚ) → (ℕ → ℕ → Type 0) → ℕ → ℕ → Tree → ℕ → Type 0
KeepsFinite m v P u n t s = HasFinite m v s × Keeps m P u n t s

module _ (m : Mdp) (r : ℕ) (goals : List Bool) (v : List (Option ℚ)) (ranks : List ℕ) (known_ : IsMdp m) (are : AreRewards m goals v ranks) where
  -- a goal has the value 0
  goal_value : (s : ℕ) → s < states_of m → is_marked goals s ≡ true → value_at (finite_part v) s ≤ℚ 0ℚ
  goal_value s h g = ≤ℚ_of_eq _ _ (part_of_some v s 0ℚ (are.at_goal s h g).0)

  goal_finite : (s : ℕ) → s < states_of m → is_marked goals s ≡ true → is_marked (infinite v) s ≡ false
  goal_finite s h g = finite_of_some v s 0ℚ (are.at_goal s h g).0

  module _ (P : ℕ → ℕ → Type 0) (stays : AtTransient m goals v P (λ s c. StaysFinite m v s c)) where
    -- the trees of a rule by which finite values are never left
    finite_uses : (u : ℕ) → Uses m u (is_marked goals) P (HasFinite m v) (KeepsFinite m v P u)
    finite_uses u =
        staying_uses m u (is_marked goals) P (λ s. is_marked (infinite v) s ≡ false) known_
        (λ s c h f g ok i. EachAt-from_All (row_at m s c) (λ y. is_marked (infinite v) y.target ≡ false) (stays s c (h, g, f) ok i))

    -- they earn no more than values that cover their choices
    earns_at_most : AtTransient m goals v P (λ s c. backup m r s c (finite_part v) ≤ℚ value_at (finite_part v) s)
        → (n u : ℕ) (t : Tree) (s : ℕ) → 1 ≤ u → KeepsFinite m v P u n t s → pay m r goals u n t s ≤ℚ value_at (finite_part v) s
    earns_at_most covers n u t s hu ok =
        pay-le_by m r goals u known_ hu P (HasFinite m v) (KeepsFinite m v P u) (finite_uses u) (value_at (finite_part v)) (λ s i. part-nonneg m goals v ranks s are i.0)
        (λ s c i g p j. covers s c (i.0, g, i.1) p j) n t s ok

    -- they earn at least values that their choices cover, up to the greatest on the paths that haven't arrived
    earns_at_least : AtTransient m goals v P (λ s c. value_at (finite_part v) s ≤ℚ backup m r s c (finite_part v))
        → (n u : ℕ) (t : Tree) (s : ℕ) → 1 ≤ u → KeepsFinite m v P u n t s → value_at (finite_part v) s ≤ℚ pay m r goals u n t s +ℚ greatest_finite v *ℚ (1ℚ -ℚ hit m goals u n t s)
    earns_at_least covered n u t s hu ok =
        pay-covers_by m r goals u known_ hu P (HasFinite m v) (KeepsFinite m v P u) (finite_uses u) (value_at (finite_part v)) (greatest_finite v)
        (λ s i. i.0) (λ s i. part-le_greatest v s) (λ s i g. goal_value s i.0 g) (λ s c i g p j. covered s c (i.0, g, i.1) p j) n t s ok

    -- deep ones arrive
    arrives : AtTransient m goals v P (λ s c. Falls m ranks s c) → (k : ℕ) → 1 ≤ k
        → (n : ℕ) × ((d u : ℕ) (t : Tree) (s : ℕ) → n ≤ d → 1 ≤ u → KeepsFinite m v P u d t s → 1ℚ ≤ℚ hit m goals u d t s +ℚ part k)
    arrives falls k hk =
        let near =
        arrives_by_ranks m goals known_ P (λ s. not (is_marked (infinite v) s)) (λ s. get_or ranks s 0)
        (λ s c h g f ok i. let all = stays s c (h, g, not_true (is_marked (infinite v) s) f) ok i in λ k d l. ap not (all k d l))
        (λ s c h g f ok i. falls s c (h, g, not_true (is_marked (infinite v) s) f) ok i) k hk
        in (near.0, λ d u t s l hu ok. near.1 d u t s l hu ok.0.0 (ap not ok.0.1) ok.1)

  -- a tree that enters no state of infinite value earns them as well, where each choice that leads to finite values alone covers them
  earns_or_enters : AtTransient m goals v (StaysFinite m v) (λ s c. value_at (finite_part v) s ≤ℚ backup m r s c (finite_part v))
      → (n u : ℕ) (t : Tree) (s : ℕ) → 1 ≤ u → s < states_of m → Fits m u n t s
      → Enters m goals (infinite v) n t s ⊎ (value_at (finite_part v) s ≤ℚ pay m r goals u n t s +ℚ greatest_finite v *ℚ (1ℚ -ℚ hit m goals u n t s))
  earns_or_enters covered n u t s hu h fits =
      ⊎_elim (λ enters. inl enters)
      (λ never. inr
      (pay-covers_by m r goals u known_ hu (Avoids m (infinite v)) (HasFinite m v) (λ n t s. (s < states_of m) × Fits m u n t s × (Enters m goals (infinite v) n t s → ⊥))
      (avoiding_uses m goals (infinite v) u known_) (value_at (finite_part v)) (greatest_finite v)
      (λ s i. i.0) (λ s i. part-le_greatest v s) (λ s i g. goal_value s i.0 g) (λ s c i g p j. covered s c (i.0, g, i.1) p j) n t s (h, fits, never)))
      (enters_or_not m goals (infinite v) n t s)

  -- trees of a rule that keeps to infinite values with some chance
  misses : (P : ℕ → ℕ → Type 0)
      → ((s c : ℕ) → s < states_of m → is_marked (infinite v) s ≡ true → P s c → c < length (choices_at m s) → FallsInfinite m v ranks s c ⊎ StaysInfinite m v ranks (get_or ranks s 0) s c)
      → (s : ℕ) → s < states_of m → is_marked (infinite v) s ≡ true → (q : ℕ) × (1 ≤ q) × ((n u : ℕ) (t : Tree) → 1 ≤ u → Keeps m P u n t s → hit m goals u n t s +ℚ part q ≤ℚ 1ℚ)
  misses P at_choice = misses_by_ranks m goals known_ P (is_marked (infinite v)) (λ s. get_or ranks s 0) goal_finite at_choice

-- what holds of the policy's choice holds of each that the policy takes
of_policy : (m : Mdp) (goals : List Bool) (v : List (Option ℚ)) (policy : List ℕ) (C : ℕ → ℕ → Type 0) → ((s : ℕ) → IsTransient m goals v s → C s (get_or policy s 0))
    → AtTransient m goals v (Follows policy) C
of_policy m goals v policy C h s c at is i = subst (λ (d : ℕ). C s d) (sym is) (h s at)

module _ (m : Mdp) (r : ℕ) (goals : List Bool) (lower upper : List (Option ℚ)) (policy ranks : List ℕ) (known_ : IsMdp m) where
  -- ---- the greatest reward

  module _ (rules : MeetsRewardMaxBetween m r goals lower upper policy ranks) where
    max_choice : (s c : ℕ) → s < states_of m → is_marked (infinite lower) s ≡ true → Follows policy s c → c < length (choices_at m s) → FallsInfinite m lower ranks s c
        ⊎ StaysInfinite m lower ranks (get_or ranks s 0) s c
    max_choice s c h i is j =
        subst (λ (d : ℕ). FallsInfinite m lower ranks s d ⊎ StaysInfinite m lower ranks (get_or ranks s 0) s d) (sym is)
        (⊎_elim (λ stay. inr (subst (λ (k : ℕ). StaysInfinite m lower ranks k s (get_or policy s 0)) (sym stay.0) stay.1)) (λ fall. inl fall) (rules.misses s (h, i)))

    max_lower : (s : ℕ) (o : Option ℚ) → s < states_of m → reward_at lower s ≡ o → MaxLower m r goals policy s o
    max_lower s (Some x) h e =
        let at : HasFinite m lower s = (h, finite_of_some lower s x e) in
        record {
          arrives = λ k hk.
              let near = arrives m r goals lower ranks known_ rules.lower_values (HasChoice m) (λ s c at ok i. rules.stays s c at i) (λ s c at ok i. rules.falls s c at i) k hk in
              (near.0, λ d u t l tree. near.1 d u t s l tree.mixes (at, keeps_of_Fits m u d t s tree.fits));
          close = λ k hk.
              let enough = near_enough (greatest_finite lower) k (greatest_finite-nonneg lower) hk in
              let near = arrives m r goals lower ranks known_ rules.lower_values (Follows policy) (λ s c at ok i. rules.stays s c at i) (λ s c at ok i. rules.falls s c at i) enough.0 enough.1 in (
                near.0,
                λ d l.
                    let ok : KeepsFinite m lower (Follows policy) 1 d (unfolded m policy d s) s = (at, keeps_unfolded m policy d s known_ rules.choices h) in
                    subst (λ (w : ℚ). w ≤ℚ pay m r goals 1 d (unfolded m policy d s) s +ℚ part k) (part_of_some lower s x e)
                    (enough.2 (value_at (finite_part lower) s) (pay m r goals 1 d (unfolded m policy d s) s) (hit m goals 1 d (unfolded m policy d s) s)
                    (earns_at_least m r goals lower ranks known_ rules.lower_values (Follows policy) (λ s c at ok i. rules.stays s c at i)
                    (of_policy m goals lower policy (λ s c. value_at (finite_part lower) s ≤ℚ backup m r s c (finite_part lower)) rules.reached) d 1 (unfolded m policy d s) s (omega arith)
                    ok)
                    (near.1 d 1 (unfolded m policy d s) s l (omega arith) ok)),
              );
        }
    max_lower s None h e =
        let missed = misses m r goals lower ranks known_ rules.lower_values (Follows policy) max_choice s h (infinite_of_none lower s e) in
        record { misses = (missed.0, missed.1, λ n. missed.2 n 1 (unfolded m policy n s) (omega arith) (keeps_unfolded m policy n s known_ rules.choices h)) }

    max_upper : (s : ℕ) (o : Option ℚ) → s < states_of m → reward_at upper s ≡ o → MaxUpper m r goals policy s o
    max_upper s (Some y) h e =
        λ n u t tree.
        subst (λ (w : ℚ). pay m r goals u n t s ≤ℚ w) (part_of_some upper s y e)
        (earns_at_most m r goals upper ranks known_ rules.upper_values (HasChoice m) (λ s c at ok i. rules.upper_stays s c at i) (λ s c at ok i. rules.covers s c at i) n u t s tree.mixes
        ((h, finite_of_some upper s y e), keeps_of_Fits m u n t s tree.fits))
    max_upper s None h e = tt

    pub reward_max_between_of_rules : RewardMaxBetween m r goals policy lower upper
    reward_max_between_of_rules = record {
      takes = rules.choices;
      named = rules.named;
      one_each = rules.one_each;
      one_above = rules.one_above;
      ordered = λ s h i. rules.ordered s (h, i);
      at_least = λ s h. max_lower s (reward_at lower s) h refl;
      at_most = λ s h. max_upper s (reward_at upper s) h refl;
    }

  -- ---- the least reward

  module _ (rules : MeetsRewardMinBetween m r goals lower upper policy ranks) where
    min_lower : (s : ℕ) (o : Option ℚ) → s < states_of m → reward_at lower s ≡ o → MinLower m r goals policy lower s o
    min_lower s (Some x) h e =
        let at : HasFinite m lower s = (h, finite_of_some lower s x e) in
        record {
          arrives = λ k hk.
              let near = arrives m r goals lower ranks known_ rules.lower_values (Follows policy) (of_policy m goals lower policy (λ s c. StaysFinite m lower s c) rules.stays)
              (of_policy m goals lower policy (λ s c. Falls m ranks s c) rules.falls) k hk in
              (near.0, near.1 near.0 1 (unfolded m policy near.0 s) s (omega arith) (omega arith) (at, keeps_unfolded m policy near.0 s known_ rules.choices h));
          covered = λ n u t tree.
              subst (λ (w : ℚ). Enters m goals (infinite lower) n t s ⊎ (w ≤ℚ pay m r goals u n t s +ℚ greatest_finite lower *ℚ (1ℚ -ℚ hit m goals u n t s))) (part_of_some lower s x e)
              (earns_or_enters m r goals lower ranks known_ rules.lower_values (λ s c at ok i. rules.covered s c at i ok) n u t s tree.mixes h tree.fits);
        }
    min_lower s None h e =
        let missed = misses m r goals lower ranks known_ rules.lower_values (HasChoice m) (λ s c h i ok j. rules.misses s c (h, i) j) s h (infinite_of_none lower s e) in
        record { misses = (missed.0, missed.1, λ n u t tree. missed.2 n u t tree.mixes (keeps_of_Fits m u n t s tree.fits)) }

    min_upper : (s : ℕ) (o : Option ℚ) → s < states_of m → reward_at upper s ≡ o → MinUpper m r goals policy s o
    min_upper s (Some y) h e =
        λ n.
        subst (λ (w : ℚ). pay m r goals 1 n (unfolded m policy n s) s ≤ℚ w) (part_of_some upper s y e)
        (earns_at_most m r goals upper ranks known_ rules.upper_values (Follows policy) (of_policy m goals upper policy (λ s c. StaysFinite m upper s c) rules.upper_stays)
        (of_policy m goals upper policy (λ s c. backup m r s c (finite_part upper) ≤ℚ value_at (finite_part upper) s) rules.reached) n 1 (unfolded m policy n s) s (omega arith)
        ((h, finite_of_some upper s y e), keeps_unfolded m policy n s known_ rules.choices h))
    min_upper s None h e = tt

    pub reward_min_between_of_rules : RewardMinBetween m r goals policy lower upper
    reward_min_between_of_rules = record {
      takes = rules.choices;
      named = rules.named;
      one_each = rules.one_each;
      one_above = rules.one_above;
      ordered = λ s h i. rules.ordered s (h, i);
      at_least = λ s h. min_lower s (reward_at lower s) h refl;
      at_most = λ s h. min_upper s (reward_at upper s) h refl;
    }

-- ---- the same values below and above

module _ (m : Mdp) (r : ℕ) (goals : List Bool) (v : List (Option ℚ)) (policy : List ℕ) where
  max_value : (s : ℕ) (o : Option ℚ) → MaxLower m r goals policy s o → MaxUpper m r goals policy s o → MaxValue m r goals policy s o
  max_value s (Some x) low high = record { above = high; arrives = low.arrives; close = low.close }
  max_value s None low high = low

  max_lower_of : (s : ℕ) (o : Option ℚ) → MaxValue m r goals policy s o → MaxLower m r goals policy s o
  max_lower_of s (Some x) value = record { arrives = value.arrives; close = value.close }
  max_lower_of s None value = value

  max_upper_of : (s : ℕ) (o : Option ℚ) → MaxValue m r goals policy s o → MaxUpper m r goals policy s o
  max_upper_of s (Some x) value = value.above
  max_upper_of s None value = tt

  pub reward_max_between : RewardMax m r goals policy v → RewardMaxBetween m r goals policy v v
  reward_max_between w = record {
    takes = w.takes;
    named = w.named;
    one_each = w.one_each;
    one_above = w.one_each;
    ordered = λ s h i. i;
    at_least = λ s h. max_lower_of s (reward_at v s) (w.value s h);
    at_most = λ s h. max_upper_of s (reward_at v s) (w.value s h);
  }

  min_value : (s : ℕ) (o : Option ℚ) → MinLower m r goals policy v s o → MinUpper m r goals policy s o → MinValue m r goals policy v s o
  min_value s (Some x) low high = record { below = high; arrives = low.arrives; covered = low.covered }
  min_value s None low high = low

  min_lower_of : (s : ℕ) (o : Option ℚ) → MinValue m r goals policy v s o → MinLower m r goals policy v s o
  min_lower_of s (Some x) value = record { arrives = value.arrives; covered = value.covered }
  min_lower_of s None value = value

  min_upper_of : (s : ℕ) (o : Option ℚ) → MinValue m r goals policy v s o → MinUpper m r goals policy s o
  min_upper_of s (Some x) value = value.below
  min_upper_of s None value = tt

  pub reward_min_between : RewardMin m r goals policy v → RewardMinBetween m r goals policy v v
  reward_min_between w = record {
    takes = w.takes;
    named = w.named;
    one_each = w.one_each;
    one_above = w.one_each;
    ordered = λ s h i. i;
    at_least = λ s h. min_lower_of s (reward_at v s) (w.value s h);
    at_most = λ s h. min_upper_of s (reward_at v s) (w.value s h);
  }

  pub reward_max_exact : RewardMaxBetween m r goals policy v v → RewardMax m r goals policy v
  reward_max_exact b = record { takes = b.takes; named = b.named; one_each = b.one_each; value = λ s h. max_value s (reward_at v s) (b.at_least s h) (b.at_most s h) }

  pub reward_min_exact : RewardMinBetween m r goals policy v v → RewardMin m r goals policy v
  reward_min_exact b = record { takes = b.takes; named = b.named; one_each = b.one_each; value = λ s h. min_value s (reward_at v s) (b.at_least s h) (b.at_most s h) }

  module _ (ranks : List ℕ) where
    -- values that meet the rules meet them as lower and as upper values
    pub reward_max_both : MeetsRewardMax m r goals v policy ranks → MeetsRewardMaxBetween m r goals v v policy ranks
    reward_max_both rules = record {
      named = rules.named;
      one_each = rules.one_each;
      one_above = rules.one_each;
      choices = rules.choices;
      lower_values = rules.values;
      upper_values = rules.values;
      ordered = λ s i. i.1;
      upper_stays = rules.stays;
      covers = rules.covers;
      stays = rules.stays;
      reached = rules.reached;
      falls = rules.falls;
      misses = rules.misses;
    }

    pub reward_min_both : MeetsRewardMin m r goals v policy ranks → MeetsRewardMinBetween m r goals v v policy ranks
    reward_min_both rules = record {
      named = rules.named;
      one_each = rules.one_each;
      one_above = rules.one_each;
      choices = rules.choices;
      lower_values = rules.values;
      upper_values = rules.values;
      ordered = λ s i. i.1;
      upper_stays = rules.stays;
      reached = rules.reached;
      stays = rules.stays;
      covered = rules.covered;
      falls = rules.falls;
      misses = rules.misses;
    }

    pub reward_max_of_rules : IsMdp m → MeetsRewardMax m r goals v policy ranks → RewardMax m r goals policy v
    reward_max_of_rules known_ rules = reward_max_exact (reward_max_between_of_rules m r goals v v policy ranks known_ (reward_max_both rules))

    pub reward_min_of_rules : IsMdp m → MeetsRewardMin m r goals v policy ranks → RewardMin m r goals policy v
    reward_min_of_rules known_ rules = reward_min_exact (reward_min_between_of_rules m r goals v v policy ranks known_ (reward_min_both rules))
