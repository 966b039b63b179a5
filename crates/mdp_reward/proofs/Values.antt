-- The values of a policy that leaves its transient states: 0 at all others, at a transient state what it earns and what its row sums to; and at least
-- 0 where no reward is below 0.
use Rattle.std.proofs.Common.{◌≡◌, ℕ, ◌<◌, ◌≤◌, ◌⊎◌, inl, inr, Bool, true, false, List, [], ◌∷◌, length, refl, sym, ◌∙◌, ap, subst, arith, pos}
use Rattle.std.proofs.{Math.ListN.{get_or-eq_default}, lemmas.List.Folds.{list_any_at}}
use Rattle.std.specs.{List.{list_any}, Prelude.{slice_index, slice_index_or}}
use Rattle.mdp_math.specs.{Rational.{ℚ, ◌≤ℚ◌}, Sum.{sum_of}, Kernel.{weigh}}
use Rattle.mdp_math.proofs.{Ring.{◌⊕◌, ◌⊗◌, lit}, Linear.{linear, equal, known}, Booleans.{false_of_not}, Extremes.{le_of_no_test}, Numbers.{le_or}}
use Rattle.mdp_math.proofs.{Order.{0ℚ, ≤ℚ_of_eq}, Kernel.{weigh-const}, Solutions.{le_of_rows}}
use Rattle.mdp_spec.specs.{Mdp.{Mdp, Entry, State, Choice, no_state, no_choice, states_of, choices_at, choice_at, value_at}, Row.{IsMdp}, RewardRules.{backup}}
use Rattle.mdp_spec.specs.Unit.{reward_of}
use Rattle.mdp_rows.specs.{Negative.{any_negative, is_negative, has_negative}, declared.dir.Dir.{Dir}}
use Rattle.mdp_elim.specs.System.{is_active, row_of}
use Rattle.mdp_policy_iteration.specs.{Problem.{Problem, count, active_of, rows_of, taken, amount, IsProblem, IsPolicy, worth}, Values.{IsValue, CanLeave}}
use Rattle.mdp_policy_iteration.proofs.{Chain.{target, prob, active-below, ChainShrinks, chain-shrinks}, Exact.{value-active}}
use Rattle.mdp_reward.specs.Problem.{reward_problem}
use Rattle.mdp_reward.proofs.Nodes.{reward-count, reward-known}
use Rattle.mdp_reward.proofs.Policies.{transient, is_node, transient-choice, transient-active, given-move, transient-move, active-open, open-amount}

-- ---- no reward is below 0

list_any-none : {A : Type 0} (test : A → Bool) (xs : List A) (k : ℕ) (d : A) → k < length xs → list_any test xs ≡ false → test (slice_index_or xs k d) ≡ false
list_any-none test xs k d l e = false_of_not (test (slice_index_or xs k d)) (λ f. let h = list_any_at test xs k d l f in cc)

pub reward-nonneg : (m : Mdp) (r : ℕ) → has_negative m r ≡ false → (s c : ℕ) → s < states_of m → c < length (choices_at m s) → 0ℚ ≤ℚ reward_of (choice_at m s c) r
reward-nonneg m r none s c l i =
    le_of_no_test (reward_of (choice_at m s c) r) 0ℚ
    (list_any-none (λ (x : Choice). is_negative (reward_of x r)) (choices_at m s) c no_choice i (list_any-none (λ (x : State). any_negative r x.choices) m.states s no_state l none))

module _ (dir : Dir) (m : Mdp) (r : ℕ) (goals finite : List Bool) (model : IsMdp m) (policy : List ℕ) (is : IsPolicy (reward_problem dir m r goals finite) policy)
    (leaves : CanLeave (reward_problem dir m r goals finite) policy) (x : List ℚ) (value : IsValue (reward_problem dir m r goals finite) policy x) where
  abbrev q : Problem
  q = reward_problem dir m r goals finite

  abbrev problem : IsProblem q
  problem = reward-known dir m r goals finite model

  abbrev z : ℕ → ℚ
  z = value_at x

  abbrev active : ℕ → Bool
  active = is_active (active_of q policy)

  abbrev row : ℕ → List Entry
  row = row_of (rows_of q policy)

  abbrev choice : ℕ → ℕ
  choice s = slice_index policy s

  -- ---- state by state

  pub given-value : (s : ℕ) → s < states_of m → transient dir m r goals finite s ≡ false → z s ≡ 0ℚ
  given-value s l e = value.at s (is_node dir m r goals finite s l) ∙ ap (worth x) (given-move dir m r goals finite policy is s l e)

  pub transient-value : (s : ℕ) → s < states_of m → transient dir m r goals finite s ≡ true → z s ≡ backup m r s (choice s) x
  transient-value s l e = value.at s (is_node dir m r goals finite s l) ∙ ap (worth x) (transient-move dir m r goals finite policy is s l e)

  -- past the last state it is 0
  past-value : (s : ℕ) → states_of m ≤ s → z s ≡ 0ℚ
  past-value s l = let n = value.len in let c = reward-count dir m r goals finite in let k : length x ≤ s = omega arith in get_or-eq_default x 0ℚ k

  inactive_by : (s : ℕ) (b : Bool) → s < states_of m → transient dir m r goals finite s ≡ b → active s ≡ false → z s ≡ 0ℚ
  inactive_by s true l e a = absurd (let f : true ≡ false = sym (transient-active dir m r goals finite policy is s l e) ∙ a in cc)
  inactive_by s false l e a = given-value s l e

  inactive_or : (s : ℕ) → active s ≡ false → (states_of m ≤ s) ⊎ (s < states_of m) → z s ≡ 0ℚ
  inactive_or s a (inl l) = past-value s l
  inactive_or s a (inr l) = inactive_by s (transient dir m r goals finite s) l refl a

  pub inactive-value : (s : ℕ) → active s ≡ false → z s ≡ 0ℚ
  inactive-value s a = inactive_or s a (le_or (states_of m) s)

  -- ---- at least 0

  abbrev K : ChainShrinks q policy problem is
  K = chain-shrinks q policy problem is leaves

  abbrev earns : ℕ → ℚ
  earns s = amount (taken q policy s)

  earns_nonneg : has_negative m r ≡ false → (s : ℕ) → active s ≡ true → 0ℚ ≤ℚ earns s
  earns_nonneg none s a =
      let o = active-open dir m r goals finite policy is s a in
      subst (λ (v : ℚ). 0ℚ ≤ℚ v) (sym (open-amount dir m r goals finite policy is s o))
      (reward-nonneg m r none s (choice s) o.below (transient-choice dir m r goals finite policy is s o.below o.is_open))

  pub nonneg : has_negative m r ≡ false → (s : ℕ) → 0ℚ ≤ℚ z s
  nonneg none s =
      le_of_rows K (count q) (active-below q policy) row (λ s a. refl) earns z (λ s. 0ℚ)
      (λ s a. ≤ℚ_of_eq 0ℚ (z s) (sym (inactive-value s a)))
      (λ s a. ≤ℚ_of_eq _ _ (sym (value-active q policy problem is x value s a)))
      (λ s a.
      let w = weigh-const target prob 0ℚ (row s) in
      linear 3 (λ w t e. lit (pos 0)) (λ w t e. e ⊕ w) (λ w t e. equal (lit (pos 1)) (lit (pos 0) ⊗ t) w ∷ known (lit (pos 0)) e ∷ []) refl (weigh target prob (λ v. 0ℚ) (row s))
      (sum_of prob (row s)) (earns s) (sym w) (earns_nonneg none s a))
      s
