-- Policies on subsystems: flows of a policy show how close it comes, and a policy that falls short on a subsystem does so on each smaller one.
use Rattle.std.proofs.Common.{◌≡◌, ℕ, suc, ◌*◌, ◌<◌, ◌≤◌, ⊎_elim, Bool, true, ◌||◌, List, [], ◌∷◌, get_or, length, refl, sym, ◌∙◌, ap, subst, arith, pos}
use Rattle.std.proofs.lemmas.Bool.{cases_Bool}
use Rattle.mdp_math.specs.Rational.{ℚ, ratio, ◌+ℚ◌, ◌-ℚ◌, ◌≤ℚ◌, ◌<ℚ◌}
use Rattle.mdp_math.proofs.{Ring.{◌⊕◌, ⊖}, Laws.{den-pos}, Linear.{linear, known}, Order.{≤ℚ_trans, ≤ℚ_of_eq, sub-pos, le-ratio}, Powers.{unit_fraction-le}}
use Rattle.mdp_spec.specs.{Mdp.{Entry, Choice, Mdp, states_of, row_at, value_at}, Row.{IsMdp}, Tree.{IsPolicy, is_marked, unfolded}, Sub.{sub_of, policy_on}}
use Rattle.mdp_spec.specs.Bounds.{ReachMin, SubMin, part}
use Rattle.mdp_spec.proofs.{Hits.{hit-goal}, Above.{row_weigh, hit-nonneg, hit-le_one}, Keeping.{unfolded_fits, unfolded_is_strategy}}
use Rattle.mdp_spec.proofs.Subsystem.{stays, stays-goal, stays-kept, sub-states, sub-stays, stays-row, sub_is_mdp, policy_on-stays, policy_on_is, policy_on_sub}
use Rattle.mdp_claims.specs.declared.subsystem.Flow.{Flow}
use Rattle.mdp_subsystem_rules.specs.{Flow.{IsFlow, MeetsFlow, flow_row, flow_total}, Fewer.{IsIncluded}}
use Rattle.mdp_subsystem_rules.specs.Policy.{AreOfPolicy, hit_on, PolicyWithin, FallsShort}
use Rattle.mdp_subsystem_rules.proofs.{Extremal.{hit-unfolded}, Flows.{inside_of_choice, close_by_flow}, Fewer.{policy-fewer, in_large}}

-- ---- flows of a policy

module _ (m : Mdp) (goals kept : List Bool) (flows : List Flow) (start : ℕ) (threshold : ℚ) (policy : List ℕ) (known_ : IsMdp m) (choice : IsPolicy m policy) (h : start < states_of m)
    (f : MeetsFlow m goals kept flows start threshold) (along : AreOfPolicy policy flows) where
  abbrev sub : Mdp
  sub = sub_of m goals kept

  abbrev there : List ℕ
  there = policy_on goals kept policy

  sub_known : IsMdp sub
  sub_known = sub_is_mdp m goals kept known_

  is_there : IsPolicy sub there
  is_there = policy_on_sub m goals kept policy choice

  inside_back : (s : ℕ) → s < states_of m → s < states_of sub
  inside_back s l = subst (λ (n : ℕ). s < n) (sym (sub-states m goals kept)) l

  step : (n : ℕ) (x : Flow) → IsFlow m kept x → x.choice ≡ get_or policy x.state 0 → row_weigh (λ s. hit_on m goals kept there n s) (flow_row m x) ≤ℚ hit_on m goals kept there (suc n) x.state
  step n x is e =
      let l : x.state < states_of m = inside_of_choice m x.state x.choice is.choice in
      let k = stays-kept goals kept x.state is.keeps in
      ≤ℚ_of_eq _ _
      (sym (hit-unfolded sub goals there n x.state sub_known (is_there.in_range x.state (inside_back x.state l)) (f.no_goal x.state l is.keeps)
      ∙ ap (λ (c : ℕ). row_weigh (λ s. hit_on m goals kept there n s) (row_at sub x.state c)) (policy_on-stays goals kept policy x.state k ∙ sym e)
      ∙ ap (λ (row : List Entry). row_weigh (λ s. hit_on m goals kept there n s) row) (stays-row m goals kept x.state x.choice l k)))

  -- the policy itself comes close to the threshold
  pub policy_within_of_flow : PolicyWithin m goals kept start threshold (flow_total flows) (policy_on goals kept policy)
  policy_within_of_flow = record {
    close = λ k hk.
        close_by_flow m goals kept flows start threshold known_ h f (λ n s. hit_on m goals kept there n s)
        (λ n s l. hit-nonneg sub goals 1 n (unfolded sub there n s) s (omega arith))
        (λ n s l. hit-le_one sub goals 1 n (unfolded sub there n s) s sub_known (omega arith) (inside_back s l) (unfolded_fits sub there n s sub_known is_there (inside_back s l)))
        (λ n s g. hit-goal sub goals 1 n (unfolded sub there n s) s (omega arith) g)
        (λ n. λ i d l. step n (get_or flows i d) (f.each i d l) (along i d l)) k hk;
  }

-- ---- falling short

-- a state that stays in a subsystem stays in a larger one
stays_on : (m : Mdp) (goals kept more : List Bool) → IsIncluded m kept more → (s : ℕ) → s < states_of m → stays goals kept s ≡ true → stays goals more s ≡ true
stays_on m goals kept more inc s h e =
    ⊎_elim (λ g. stays-goal goals more s g) (λ g. stays-kept goals more s (inc s h (sym (ap (λ (b : Bool). b || is_marked kept s) g) ∙ e))) (cases_Bool (is_marked goals s))

short_by : (x y t q : ℚ) → y ≤ℚ x → q ≤ℚ t -ℚ x → y +ℚ q ≤ℚ t
short_by x y t q le less = linear 4 (λ x y t q. y ⊕ q) (λ x y t q. t) (λ x y t q. known y x ∷ known q (t ⊕ ⊖ x) ∷ []) refl x y t q le less

-- a policy of the larger subsystem that stays below a number under the threshold, and one of the smaller subsystem that agrees with it
short_by_other : (m : Mdp) (goals kept more : List Bool) (start : ℕ) (threshold x : ℚ) (p q : List ℕ) → IsMdp m
    → IsIncluded m kept more → start < states_of m → IsPolicy (sub_of m goals kept) p → IsPolicy (sub_of m goals more) q
    → ((s : ℕ) → s < states_of m → stays goals kept s ≡ true → get_or p s 0 ≡ get_or q s 0)
    → ((n : ℕ) → hit_on m goals more q n start ≤ℚ x) → x <ℚ threshold → FallsShort m goals kept start threshold p
short_by_other m goals kept more start threshold x p q known_ inc h is_p is_q agree bound less = record {
  misses = (
    ℚ.den (threshold -ℚ x),
    den-pos (threshold -ℚ x),
    λ n.
        short_by x (hit_on m goals kept p n start) threshold (part (ℚ.den (threshold -ℚ x)))
        (≤ℚ_trans _ _ _ (policy-fewer m goals kept more known_ inc p q is_p is_q (λ s l g e. agree s l e) n start h) (bound n))
        (unit_fraction-le (threshold -ℚ x) (sub-pos x threshold less)),
  );
}

module _ (m : Mdp) (goals kept more : List Bool) (start : ℕ) (threshold : ℚ) (policy : List ℕ) (known_ : IsMdp m) (inc : IsIncluded m kept more) (h : start < states_of m) where
  -- a policy of the model
  pub short_of_bound : (x : ℚ) → IsPolicy m policy → ((n : ℕ) → hit_on m goals more (policy_on goals more policy) n start ≤ℚ x)
      → x <ℚ threshold → FallsShort m goals kept start threshold (policy_on goals kept policy)
  short_of_bound x choice bound less =
      short_by_other m goals kept more start threshold x (policy_on goals kept policy) (policy_on goals more policy) known_ inc h
      (policy_on_sub m goals kept policy choice) (policy_on_sub m goals more policy choice)
      (λ s l e. policy_on-stays goals kept policy s e ∙ sym (policy_on-stays goals more policy s (stays_on m goals kept more inc s l e)))
      bound less

  -- the policy of least probability on the larger subsystem, where that is under the threshold
  pub short_of_min : (z : List ℚ) → ReachMin (sub_of m goals more) goals z policy → value_at z start <ℚ threshold → FallsShort m goals kept start threshold (policy_on goals kept policy)
  short_of_min z r less =
      short_by_other m goals kept more start threshold (value_at z start) (policy_on goals kept policy) policy known_ inc h
      (policy_on_is m goals kept policy (r.takes.one_each ∙ sub-states m goals more)
      (λ s l e. subst (λ (cs : List Choice). get_or policy s 0 < length cs) (sub-stays m goals more s l (stays_on m goals kept more inc s l e))
      (r.takes.in_range s (in_large m goals kept more known_ inc s l))))
      r.takes
      (λ s l e. policy_on-stays goals kept policy s e)
      (λ n. r.below n start (in_large m goals kept more known_ inc start h)) less

-- where a policy falls short, not all deep trees come close to the threshold
pub not_sub_min : (m : Mdp) (goals kept : List Bool) (start : ℕ) (threshold : ℚ) (policy : List ℕ) → IsMdp m → start < states_of m → IsPolicy (sub_of m goals kept) policy
    → FallsShort m goals kept start threshold policy → SubMin m goals kept start threshold → ⊥
not_sub_min m goals kept start threshold policy known_ h choice short sub =
    let q : ℕ = short.misses.0 in
    let p : 1 ≤ q = short.misses.1 in
    let c = SubMin.close sub (suc q) (omega arith) in
    let strategy = unfolded_is_strategy (sub_of m goals kept) policy c.0 start (sub_is_mdp m goals kept known_) choice (subst (λ (n : ℕ). start < n) (sym (sub-states m goals kept)) h) in
    let le : ratio (pos 1) q ≤ℚ ratio (pos 1) (suc q) =
    linear 4 (λ q k t x. q) (λ q k t x. k) (λ q k t x. known (x ⊕ q) t ∷ known t (x ⊕ k) ∷ []) refl (part q) (part (suc q)) threshold (hit_on m goals kept policy c.0 start)
    (short.misses.2 c.0) (c.1 c.0 1 (unfolded (sub_of m goals kept) policy c.0 start) (omega arith) strategy)
    in
    let wrong : 1 * suc q ≤ 1 * q = le-ratio 1 1 q (suc q) p (omega arith) le in
    absurd (omega (arith, wrong))
