-- Each tree of a policy's chain has what the policy's own tree has on the model, by induction on the depth: at each state there is one choice,
-- the policy's, and its weight is the whole.
use Rattle.std.proofs.Common.{◌≡◌, ℕ, suc, ◌≤◌, ◌<◌, ⊎_elim, Bool, true, false, true≢false, not, ◌||◌, cond, eqb, List, length, get_or, refl, sym, ap, subst, ◌∙◌, arith, pos}
use Rattle.std.proofs.lemmas.Bool.{cases_Bool}
use Rattle.mdp_math.specs.{Rational.{ℚ, ◌+ℚ◌, ◌*ℚ◌, ◌≤ℚ◌}, Sum.{sum_at}}
use Rattle.mdp_math.proofs.{Ring.{◌⊕◌, ◌⊗◌, lit, ring}, Laws.{rat_ring}, Order.{0ℚ, 1ℚ, ≤ℚ_of_lt}, Whole.{one-pos}}
use Rattle.mdp_math.proofs.SumsAt.{sum_at-same, sum_at-sum_of, EachAt_all, EachAt_mono}
use Rattle.mdp_spec.specs.{Mdp.{Choice, Mdp, no_choice, states_of, choices_at, choice_at}, Row.{IsMdp}, Unit.{reward_of}}
use Rattle.mdp_spec.specs.{Tree.{Tree, Fits, IsPolicy, unfolded, target_at, is_marked}, Hit.{hit}, Pay.{pay, total}}
use Rattle.mdp_spec.proofs.{Hits.{share, hit-goal, hit-end}, Earnings.{pay-goal, pay-end, total-end}}
use Rattle.mdp_spec.proofs.{Keeping.{HasChoice, keeps_of_Fits, count_at-one, chosen, target_placed}, Rows.{row_weigh}}
use Rattle.mdp_spec.proofs.Steps.{placed_choice, hit_goes, pay_goes, total_goes}
use Rattle.mdp_spec.proofs.Steps as plain
use Rattle.mdp_rows.specs.{declared.dir.Dir.{Dir}, declared.dir.Dir.TheVariants.{Max, Min}}
use Rattle.mdp_spec.specs.Until.{until}
use Rattle.mdp_spec.proofs.Untils.{until-goal, until-away, until-end, until-node}
use Rattle.mdp_discount_rules.specs.{Disc.{disc}, Rules.{IsFactor}}
use Rattle.mdp_discount_rules.proofs.{Directions.{NoBetter, no_better_of_eq, no_better_antisymm}, Discs.{disc-end, disc_goes}}
use Rattle.mdp_discount_rules.proofs.Steps.{GoesBy, average-no_better, no_better_by_steps}
use Rattle.mdp_policy.specs.{Chain.{chain_of}, ChainLaws.{TreesAreOwn}, Own.{IsOwn}}
use Rattle.mdp_policy.proofs.Chains.{chain-states, chain-choices, chain_is_mdp}

-- what is no better and no worse is the same
same_of_both : (x y : ℚ) → ((dir : Dir) → NoBetter dir x y) → x ≡ y
same_of_both x y both = no_better_antisymm Max x y (both Max) (both Min)

-- ---- the policy's own tree, by its first step

module _ (m : Mdp) (policy : List ℕ) (is : IsPolicy m policy) (ends : ℕ → Bool) (gain : Choice → ℚ) (k : ℚ) (W : ℕ → Tree → ℕ → ℚ) (goes : GoesBy m 1 ends gain k W) where
  -- what the policy's choice at s gains, and what comes behind it
  abbrev by_policy : ℕ → ℕ → Choice → ℚ
  by_policy n s x = gain x +ℚ k *ℚ row_weigh (λ t. W n (unfolded m policy n t) t) x.row

  behind : (n s c : ℕ) (x : Choice) → choice_at m s c ≡ x
      → gain x +ℚ k *ℚ sum_at x.row (λ e y. y.prob *ℚ W n (unfolded m policy n (target_at m s c e)) y.target) ≡ by_policy n s x
  behind n s c x same =
      ap (λ (w : ℚ). gain x +ℚ k *ℚ w)
      (sum_at-same x.row (λ e y. y.prob *ℚ W n (unfolded m policy n (target_at m s c e)) y.target) (λ e y. y.prob *ℚ W n (unfolded m policy n y.target) y.target)
      (EachAt_mono x.row (λ e y. target_at m s c e ≡ y.target)
      (λ e y. y.prob *ℚ W n (unfolded m policy n (target_at m s c e)) y.target ≡ y.prob *ℚ W n (unfolded m policy n y.target) y.target)
      (λ e y q. ap (λ (t : ℕ). y.prob *ℚ W n (unfolded m policy n t) y.target) q)
      (target_placed m s c x.row (ap (λ (y : Choice). y.row) same)))
      ∙ sum_at-sum_of x.row (λ y. y.prob *ℚ W n (unfolded m policy n y.target) y.target))

  pub unfolded_step : (n s : ℕ) → s < states_of m → ends s ≡ false → W (suc n) (unfolded m policy (suc n) s) s ≡ by_policy n s (choice_at m s (get_or policy s 0))
  unfolded_step n s h e =
      let p : ℕ = get_or policy s 0 in
      let weights : ℕ → ℕ = λ c. cond (eqb p c) 1 0 in
      goes n weights (λ c e. unfolded m policy n (target_at m s c e)) s h e
      ∙ same_of_both _ (by_policy n s (choice_at m s p))
      (λ dir.
      average-no_better dir m 1 weights gain k (λ c e y. W n (unfolded m policy n (target_at m s c e)) y.target) s (by_policy n s (choice_at m s p)) (omega arith)
      (count_at-one (choices_at m s) p (is.in_range s h))
      (EachAt_mono (choices_at m s) (λ c x. (c < length (choices_at m s)) × (choice_at m s c ≡ x))
      (λ c x. 0 < weights c → NoBetter dir (gain x +ℚ k *ℚ sum_at x.row (λ e y. y.prob *ℚ W n (unfolded m policy n (target_at m s c e)) y.target)) (by_policy n s (choice_at m s p)))
      (λ c x q used.
      no_better_of_eq dir _ _
      (behind n s c x q.1 ∙ ap (by_policy n s) (sym q.1 ∙ ap (λ (d : ℕ). choice_at m s d) (chosen p c used))))
      (placed_choice m s)))

-- ---- the chain's trees

module _ (m : Mdp) (policy : List ℕ) (known_ : IsMdp m) (is : IsPolicy m policy) (u : ℕ) (hu : 1 ≤ u) (ends : ℕ → Bool) (gain : Choice → ℚ) (k : ℚ) (hk : 0ℚ ≤ℚ k)
    (V W : ℕ → Tree → ℕ → ℚ) (goes : GoesBy (chain_of m policy) u ends gain k V) (other : GoesBy m 1 ends gain k W)
    (stop : (n : ℕ) (t w : Tree) (s : ℕ) → ends s ≡ true → V n t s ≡ W n w s)
    (last : (t w : Tree) (s : ℕ) → ends s ≡ false → V 0 t s ≡ W 0 w s) where
  -- the one choice
  one : (s c : ℕ) → s < states_of m → c < length (choices_at (chain_of m policy) s) → choice_at (chain_of m policy) s c ≡ choice_at m s (get_or policy s 0)
  one s c h l =
      let same = chain-choices m policy is s h in
      let less : c < 1 = subst (λ (cs : List Choice). c < length cs) same l in
      let first : c ≡ 0 = omega (arith, less) in
      ap (λ (d : ℕ). choice_at (chain_of m policy) s d) first ∙ ap (λ (cs : List Choice). get_or cs 0 no_choice) same

  pub tree_same : (n : ℕ) (t : Tree) (s : ℕ) → s < states_of m → Fits (chain_of m policy) u n t s → V n t s ≡ W n (unfolded m policy n s) s
  tree_same n t s h fits =
      let count = chain-states m policy is in
      same_of_both _ _
      (λ dir.
      no_better_by_steps dir (chain_of m policy) u (chain_is_mdp m policy is known_) hu ends (HasChoice (chain_of m policy)) gain k hk V goes (λ n s. W n (unfolded m policy n s) s)
      (λ n t s h e. no_better_of_eq dir _ _ (stop n t (unfolded m policy n s) s e))
      (λ t s h e. no_better_of_eq dir _ _ (last t (unfolded m policy 0 s) s e))
      (λ n s c h e ok l.
      let i : s < states_of m = subst (λ (n : ℕ). s < n) count h in
      no_better_of_eq dir _ _
      (ap (λ (x : Choice). gain x +ℚ k *ℚ row_weigh (λ t. W n (unfolded m policy n t) t) x.row) (one s c i l) ∙ sym (unfolded_step m policy is ends gain k W other n s i e)))
      n t s (subst (λ (n : ℕ). s < n) (sym count) h) (keeps_of_Fits (chain_of m policy) u n t s fits))

-- ---- hit, pay, total, until and the discounted reward

-- a number that goes by the first step, as one whose later steps count in full
in_full : (m : Mdp) (u : ℕ) (ends : ℕ → Bool) (gain : Choice → ℚ) (V : ℕ → Tree → ℕ → ℚ) → plain.GoesBy m u ends gain V → GoesBy m u ends gain 1ℚ V
in_full m u ends gain V goes n weights kids s h e =
    goes n weights kids s e
    ∙ sum_at-same (choices_at m s) (λ c x. share u weights c *ℚ (gain x +ℚ sum_at x.row (λ e y. y.prob *ℚ V n (kids c e) y.target)))
    (λ c x. share u weights c *ℚ (gain x +ℚ 1ℚ *ℚ sum_at x.row (λ e y. y.prob *ℚ V n (kids c e) y.target)))
    (EachAt_all (choices_at m s) (λ c x. share u weights c *ℚ (gain x +ℚ sum_at x.row (λ e y. y.prob *ℚ V n (kids c e) y.target))
    ≡ share u weights c *ℚ (gain x +ℚ 1ℚ *ℚ sum_at x.row (λ e y. y.prob *ℚ V n (kids c e) y.target)))
    (λ c x. ring rat_ring 3 (λ a g r. a ⊗ (g ⊕ r)) (λ a g r. a ⊗ (g ⊕ lit (pos 1) ⊗ r)) refl (share u weights c) (gain x) (sum_at x.row (λ e y. y.prob *ℚ V n (kids c e) y.target))))

one_nonneg : 0ℚ ≤ℚ 1ℚ
one_nonneg = ≤ℚ_of_lt 0ℚ 1ℚ one-pos

pub hits_kept : (goals : List Bool) (m : Mdp) (policy : List ℕ) → IsMdp m → IsPolicy m policy → IsOwn m policy (chain_of m policy) (λ k u n t s. hit k goals u n t s)
hits_kept goals m policy known is u n t s h tree =
    let ok = chain_is_mdp m policy is known in
    tree_same m policy known is u tree.mixes (is_marked goals) (λ x. 0ℚ) 1ℚ one_nonneg (λ n t s. hit (chain_of m policy) goals u n t s) (λ n t s. hit m goals 1 n t s)
    (in_full (chain_of m policy) u (is_marked goals) (λ x. 0ℚ) (λ n t s. hit (chain_of m policy) goals u n t s) (hit_goes (chain_of m policy) goals u ok tree.mixes))
    (in_full m 1 (is_marked goals) (λ x. 0ℚ) (λ n t s. hit m goals 1 n t s) (hit_goes m goals 1 known (omega arith)))
    (λ n t w s g. hit-goal (chain_of m policy) goals u n t s tree.mixes g ∙ sym (hit-goal m goals 1 n w s (omega arith) g))
    (λ t w s g. hit-end (chain_of m policy) goals u t s tree.mixes g ∙ sym (hit-end m goals 1 w s (omega arith) g)) n t s h tree.fits

pub pays_kept : (r : ℕ) (goals : List Bool) (m : Mdp) (policy : List ℕ) → IsMdp m → IsPolicy m policy → IsOwn m policy (chain_of m policy) (λ k u n t s. pay k r goals u n t s)
pays_kept r goals m policy known is u n t s h tree =
    let ok = chain_is_mdp m policy is known in
    tree_same m policy known is u tree.mixes (is_marked goals) (λ x. reward_of x r) 1ℚ one_nonneg (λ n t s. pay (chain_of m policy) r goals u n t s) (λ n t s. pay m r goals 1 n t s)
    (in_full (chain_of m policy) u (is_marked goals) (λ x. reward_of x r) (λ n t s. pay (chain_of m policy) r goals u n t s) (pay_goes (chain_of m policy) r goals u ok tree.mixes))
    (in_full m 1 (is_marked goals) (λ x. reward_of x r) (λ n t s. pay m r goals 1 n t s) (pay_goes m r goals 1 known (omega arith)))
    (λ n t w s g. pay-goal (chain_of m policy) r goals u n t s tree.mixes g ∙ sym (pay-goal m r goals 1 n w s (omega arith) g))
    (λ t w s g. pay-end (chain_of m policy) r goals u t s tree.mixes ∙ sym (pay-end m r goals 1 w s (omega arith))) n t s h tree.fits

pub totals_kept : (r : ℕ) (m : Mdp) (policy : List ℕ) → IsMdp m → IsPolicy m policy → IsOwn m policy (chain_of m policy) (λ k u n t s. total k r u n t s)
totals_kept r m policy known is u n t s h tree =
    let ok = chain_is_mdp m policy is known in
    tree_same m policy known is u tree.mixes (λ s. false) (λ x. reward_of x r) 1ℚ one_nonneg (λ n t s. total (chain_of m policy) r u n t s) (λ n t s. total m r 1 n t s)
    (in_full (chain_of m policy) u (λ s. false) (λ x. reward_of x r) (λ n t s. total (chain_of m policy) r u n t s) (total_goes (chain_of m policy) r u ok tree.mixes))
    (in_full m 1 (λ s. false) (λ x. reward_of x r) (λ n t s. total m r 1 n t s) (total_goes m r 1 known (omega arith)))
    (λ n t w s e. absurd (true≢false (sym e)))
    (λ t w s e. total-end (chain_of m policy) r u t s tree.mixes ∙ sym (total-end m r 1 w s (omega arith))) n t s h tree.fits

pub discounts_kept : (r : ℕ) (f : ℚ) → IsFactor f → (m : Mdp) (policy : List ℕ) → IsMdp m → IsPolicy m policy → IsOwn m policy (chain_of m policy) (λ k u n t s. disc k r f u n t s)
discounts_kept r f factor m policy known is u n t s h tree =
    let ok = chain_is_mdp m policy is known in
    tree_same m policy known is u tree.mixes (λ s. false) (λ x. reward_of x r) f factor.at_least_zero (λ n t s. disc (chain_of m policy) r f u n t s) (λ n t s. disc m r f 1 n t s)
    (disc_goes (chain_of m policy) r f u ok tree.mixes) (disc_goes m r f 1 known (omega arith))
    (λ n t w s e. absurd (true≢false (sym e)))
    (λ t w s e. disc-end (chain_of m policy) r f u t s tree.mixes ∙ sym (disc-end m r f 1 w s (omega arith))) n t s h tree.fits

-- ---- bounded until

-- it ends at goals, and at states that don't stay
abbrev away : List Bool → List Bool → ℕ → Bool
away stay goals s = is_marked goals s || not (is_marked stay s)

stopped : (goal stays : Bool) → (goal || not stays) ≡ true → goal ≡ false → stays ≡ false
stopped false false e g = refl
stopped false true e g = cc
stopped true stays e g = cc

goes_on : (goal stays : Bool) → (goal || not stays) ≡ false → (goal ≡ false) × (stays ≡ true)
goes_on false true e = (refl, refl)
goes_on false false e = cc
goes_on true stays e = cc

until_goes : (m : Mdp) (stay goals : List Bool) (u : ℕ) → IsMdp m → 1 ≤ u → GoesBy m u (away stay goals) (λ x. 0ℚ) 1ℚ (λ n t s. until m stay goals u n t s)
until_goes m stay goals u known hu n weights kids s h e =
    let on = goes_on (is_marked goals s) (is_marked stay s) e in
    until-node m stay goals u n weights kids s known hu on.0 on.1
    ∙ sum_at-same (choices_at m s) (λ c x. share u weights c *ℚ sum_at x.row (λ e y. y.prob *ℚ until m stay goals u n (kids c e) y.target))
    (λ c x. share u weights c *ℚ (0ℚ +ℚ 1ℚ *ℚ sum_at x.row (λ e y. y.prob *ℚ until m stay goals u n (kids c e) y.target)))
    (EachAt_all (choices_at m s) (λ c x. share u weights c *ℚ sum_at x.row (λ e y. y.prob *ℚ until m stay goals u n (kids c e) y.target)
    ≡ share u weights c *ℚ (0ℚ +ℚ 1ℚ *ℚ sum_at x.row (λ e y. y.prob *ℚ until m stay goals u n (kids c e) y.target)))
    (λ c x. ring rat_ring 2 (λ a r. a ⊗ r) (λ a r. a ⊗ (lit (pos 0) ⊕ lit (pos 1) ⊗ r)) refl (share u weights c) (sum_at x.row (λ e y. y.prob *ℚ until m stay goals u n (kids c e) y.target))))

until_stop : (m k : Mdp) (stay goals : List Bool) (u n : ℕ) (t w : Tree) (s : ℕ) → 1 ≤ u → away stay goals s ≡ true → until k stay goals u n t s ≡ until m stay goals 1 n w s
until_stop m k stay goals u n t w s hu e =
    ⊎_elim (λ g. until-goal k stay goals u n t s hu g ∙ sym (until-goal m stay goals 1 n w s (omega arith) g))
    (λ g.
    let a = stopped (is_marked goals s) (is_marked stay s) e g in
    until-away k stay goals u n t s hu g a ∙ sym (until-away m stay goals 1 n w s (omega arith) g a)) (cases_Bool (is_marked goals s))

pub untils_kept : (stay goals : List Bool) (m : Mdp) (policy : List ℕ) → IsMdp m → IsPolicy m policy → IsOwn m policy (chain_of m policy) (λ k u n t s. until k stay goals u n t s)
untils_kept stay goals m policy known is u n t s h tree =
    let ok = chain_is_mdp m policy is known in
    tree_same m policy known is u tree.mixes (away stay goals) (λ x. 0ℚ) 1ℚ one_nonneg (λ n t s. until (chain_of m policy) stay goals u n t s) (λ n t s. until m stay goals 1 n t s)
    (until_goes (chain_of m policy) stay goals u ok tree.mixes) (until_goes m stay goals 1 known (omega arith))
    (λ n t w s e. until_stop m (chain_of m policy) stay goals u n t w s tree.mixes e)
    (λ t w s e.
    let on = goes_on (is_marked goals s) (is_marked stay s) e in
    until-end (chain_of m policy) stay goals u t s tree.mixes on.0 ∙ sym (until-end m stay goals 1 w s (omega arith) on.0)) n t s h tree.fits

pub trees_are_own : TreesAreOwn
trees_are_own m policy known is = record {
  hits = λ goals. hits_kept goals m policy known is;
  pays = λ r goals. pays_kept r goals m policy known is;
  totals = λ r. totals_kept r m policy known is;
  untils = λ stay goals. untils_kept stay goals m policy known is;
  discounts = λ r f factor. discounts_kept r f factor m policy known is;
}
