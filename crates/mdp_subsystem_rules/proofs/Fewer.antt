-- With fewer kept states no chance is greater: the best hit and the least of each depth fall, and so do the values.
use Rattle.std.proofs.Common.{◌≡◌, ℕ, zero, suc, ◌<◌, ⊎_elim, Bool, true, false, true≢false, ◌||◌, List, [], ◌∷◌, get_or, length, refl, sym, ◌∙◌, ap, subst, arith, pos}
use Rattle.std.proofs.lemmas.Bool.{cases_Bool}
use Rattle.mdp_math.specs.Rational.{ℚ, ◌≤ℚ◌}
use Rattle.mdp_math.proofs.{Ring.{◌⊕◌, ◌⊗◌, lit, ring}, Laws.{rat_ring}, Linear.{linear, known}, Order.{0ℚ, ≤ℚ_refl, ≤ℚ_trans, ≤ℚ_of_eq}}
use Rattle.mdp_spec.specs.{Mdp.{Entry, Choice, Mdp, no_choice, states_of, choices_at, row_at, value_at}, Row.{IsMdp}, Tree.{is_marked, unfolded, IsPolicy}}
use Rattle.mdp_spec.specs.{Hit.{hit}, Sub.{sub_of, loop_at}, Bounds.{ReachMax, ReachMin, part}, Tree.Tree.{leaf}}
use Rattle.mdp_spec.proofs.{Hits.{hit-goal, hit-end}, Above.{row_weigh, hit-nonneg}, Reach.{le_of_parts}, Keeping.{unfolded_fits, unfolded_is_strategy}}
use Rattle.mdp_spec.proofs.Subsystem.{stays, stays-kept, sub-states, sub-stays, sub-loops, sub_is_mdp}
use Rattle.mdp_subsystem_rules.specs.Fewer.{IsIncluded, ReachesMore}
use Rattle.mdp_subsystem_rules.proofs.Picks.{greatest_place, greatest_place-below, least_place, least_place-below}
use Rattle.mdp_subsystem_rules.proofs.Extremal.{IsPick, extreme, extreme-goal, extreme-end, extreme-suc, extreme-nonneg, picked, picks_choice, best}
use Rattle.mdp_subsystem_rules.proofs.Extremal.{worst, best-ge, worst-le, hit-le_best, worst-le_hit, extreme_tree, extreme_fits, hit-extreme, hit-unfolded, row_weigh-mono}

-- ---- a state that is left with its loop never meets a goal

neither : (a b : Bool) → a || b ≡ false → a ≡ false
neither true b e = absurd (true≢false e)
neither false b e = refl

loop_choice : (c n : ℕ) → c < n → n ≡ 1 → c ≡ 0
loop_choice c n l e = omega (arith, l, e)

module _ (m : Mdp) (goals kept : List Bool) (pick : (ℕ → ℚ) → ℕ → ℕ) (known_ : IsMdp m) (is_pick : IsPick pick) where
  pub lost-none : (n s : ℕ) → s < states_of m → stays goals kept s ≡ false → extreme (sub_of m goals kept) goals pick n s ≡ 0ℚ
  lost-none zero s h e = extreme-end (sub_of m goals kept) goals pick s (neither (is_marked goals s) (is_marked kept s) e)
  lost-none (suc n) s h e =
      let b : Mdp = sub_of m goals kept in
      let loops : choices_at b s ≡ loop_at m.names s ∷ [] = sub-loops m goals kept s h e in
      let first : picked b goals pick n s ≡ 0 =
      loop_choice (picked b goals pick n s) (length (choices_at b s))
      (picks_choice b goals pick (sub_is_mdp m goals kept known_) is_pick n s (subst (λ (k : ℕ). s < k) (sym (sub-states m goals kept)) h)) (ap length loops)
      in
      extreme-suc b goals pick n s (neither (is_marked goals s) (is_marked kept s) e)
      ∙ ap (λ (c : ℕ). row_weigh (λ v. extreme b goals pick n v) (row_at b s c)) first
      ∙ ap (λ (cs : List Choice). row_weigh (λ v. extreme b goals pick n v) (Choice.row (get_or cs 0 no_choice))) loops
      ∙ ring rat_ring 1 (λ x. lit (pos 1) ⊗ x ⊕ lit (pos 0)) (λ x. x) refl (extreme b goals pick n s)
      ∙ lost-none n s h e

-- ---- the best hit and the least

module _ (m : Mdp) (goals kept more : List Bool) (known_ : IsMdp m) (inc : IsIncluded m kept more) where
  abbrev small : Mdp
  small = sub_of m goals kept

  abbrev large : Mdp
  large = sub_of m goals more

  pub small_known : IsMdp small
  small_known = sub_is_mdp m goals kept known_

  pub large_known : IsMdp large
  large_known = sub_is_mdp m goals more known_

  pub in_small : (s : ℕ) → s < states_of m → s < states_of small
  in_small s h = subst (λ (n : ℕ). s < n) (sym (sub-states m goals kept)) h

  pub in_large : (s : ℕ) → s < states_of m → s < states_of large
  in_large s h = subst (λ (n : ℕ). s < n) (sym (sub-states m goals more)) h

  -- a state that stays and is no goal is kept, so it stays in the larger subsystem
  stays_more : (s : ℕ) → s < states_of m → is_marked goals s ≡ false → stays goals kept s ≡ true → stays goals more s ≡ true
  stays_more s h g e = stays-kept goals more s (inc s h (sym (ap (λ (b : Bool). b || is_marked kept s) g) ∙ e))

  same_choices : (s : ℕ) → s < states_of m → is_marked goals s ≡ false → stays goals kept s ≡ true → choices_at small s ≡ choices_at large s
  same_choices s h g e = sub-stays m goals kept s h e ∙ sym (sub-stays m goals more s h (stays_more s h g e))

  same_row : (s c : ℕ) → s < states_of m → is_marked goals s ≡ false → stays goals kept s ≡ true → row_at small s c ≡ row_at large s c
  same_row s c h g e = ap (λ (cs : List Choice). Choice.row (get_or cs c no_choice)) (same_choices s h g e)

  -- what grows at each state weighs more in a row of the larger subsystem
  weighs_more : (n s c : ℕ) (f g : ℕ → ℚ) → s < states_of m → c < length (choices_at large s) → ((v : ℕ) → v < states_of m → f v ≤ℚ g v)
      → row_weigh f (row_at large s c) ≤ℚ row_weigh g (row_at large s c)
  weighs_more n s c f g h l less =
      row_weigh-mono (states_of large) (row_at large s c) f g (large_known.row s c (in_large s h) l) (λ v i. less v (subst (λ (k : ℕ). v < k) (sub-states m goals more) i))

  pub best-fewer : (n s : ℕ) → s < states_of m → best small goals n s ≤ℚ best large goals n s
  best-fewer zero s h = ≤ℚ_refl (best small goals 0 s)
  best-fewer (suc n) s h =
      ⊎_elim (λ g. ≤ℚ_of_eq _ _ (extreme-goal small goals greatest_place (suc n) s g ∙ sym (extreme-goal large goals greatest_place (suc n) s g)))
      (λ g. ⊎_elim
      (λ e.
      let c : ℕ = picked small goals greatest_place n s in
      let l : c < length (choices_at large s) = subst (λ (cs : List Choice). c < length cs) (same_choices s h g e)
      (picks_choice small goals greatest_place small_known greatest_place-below n s (in_small s h)) in
      ≤ℚ_trans _ _ _ (≤ℚ_of_eq _ _ (extreme-suc small goals greatest_place n s g ∙ ap (λ (row : List Entry). row_weigh (λ v. best small goals n v) row) (same_row s c h g e)))
      (≤ℚ_trans _ _ _ (weighs_more n s c (λ v. best small goals n v) (λ v. best large goals n v) h l (λ v i. best-fewer n v i)) (best-ge large goals large_known n s c g l)))
      (λ e. ≤ℚ_trans _ _ _ (≤ℚ_of_eq _ _ (lost-none m goals kept greatest_place known_ greatest_place-below (suc n) s h e))
      (extreme-nonneg large goals greatest_place large_known greatest_place-below (suc n) s (in_large s h)))
      (cases_Bool (stays goals kept s)))
      (cases_Bool (is_marked goals s))

  pub worst-fewer : (n s : ℕ) → s < states_of m → worst small goals n s ≤ℚ worst large goals n s
  worst-fewer zero s h = ≤ℚ_refl (worst small goals 0 s)
  worst-fewer (suc n) s h =
      ⊎_elim (λ g. ≤ℚ_of_eq _ _ (extreme-goal small goals least_place (suc n) s g ∙ sym (extreme-goal large goals least_place (suc n) s g)))
      (λ g. ⊎_elim
      (λ e.
      let c : ℕ = picked large goals least_place n s in
      let l : c < length (choices_at large s) = picks_choice large goals least_place large_known least_place-below n s (in_large s h) in
      ≤ℚ_trans _ _ _ (worst-le small goals small_known n s c g (subst (λ (cs : List Choice). c < length cs) (sym (same_choices s h g e)) l))
      (≤ℚ_trans _ _ _ (≤ℚ_of_eq _ _ (ap (λ (row : List Entry). row_weigh (λ v. worst small goals n v) row) (same_row s c h g e)))
      (≤ℚ_trans _ _ _ (weighs_more n s c (λ v. worst small goals n v) (λ v. worst large goals n v) h l (λ v i. worst-fewer n v i)) (≤ℚ_of_eq _ _ (sym (extreme-suc large goals least_place n s g))))))
      (λ e. ≤ℚ_trans _ _ _ (≤ℚ_of_eq _ _ (lost-none m goals kept least_place known_ least_place-below (suc n) s h e))
      (extreme-nonneg large goals least_place large_known least_place-below (suc n) s (in_large s h)))
      (cases_Bool (stays goals kept s)))
      (cases_Bool (is_marked goals s))

  -- ---- a policy

  -- two policies that agree at the states that stay in the smaller subsystem: there the probability is at most that on the larger one
  pub policy-fewer : (p q : List ℕ) → IsPolicy small p → IsPolicy large q
      → ((s : ℕ) → s < states_of m → is_marked goals s ≡ false → stays goals kept s ≡ true → get_or p s 0 ≡ get_or q s 0)
      → (n s : ℕ) → s < states_of m → hit small goals 1 n (unfolded small p n s) s ≤ℚ hit large goals 1 n (unfolded large q n s) s
  policy-fewer p q is_p is_q agree zero s h =
      ⊎_elim (λ g. ≤ℚ_of_eq _ _ (hit-goal small goals 1 0 leaf s (omega arith) g ∙ sym (hit-goal large goals 1 0 leaf s (omega arith) g)))
      (λ g. ≤ℚ_of_eq _ _ (hit-end small goals 1 leaf s (omega arith) g ∙ sym (hit-end large goals 1 leaf s (omega arith) g)))
      (cases_Bool (is_marked goals s))
  policy-fewer p q is_p is_q agree (suc n) s h =
      ⊎_elim (λ g. ≤ℚ_of_eq _ _ (hit-goal small goals 1 (suc n) (unfolded small p (suc n) s) s (omega arith) g ∙ sym (hit-goal large goals 1 (suc n) (unfolded large q (suc n) s) s (omega arith) g)))
      (λ g. ⊎_elim
      (λ e.
      let c : ℕ = get_or q s 0 in
      ≤ℚ_trans _ _ _
      (≤ℚ_of_eq _ _ (hit-unfolded small goals p n s small_known (is_p.in_range s (in_small s h)) g
      ∙ ap (λ (d : ℕ). row_weigh (λ v. hit small goals 1 n (unfolded small p n v) v) (row_at small s d)) (agree s h g e)
      ∙ ap (λ (row : List Entry). row_weigh (λ v. hit small goals 1 n (unfolded small p n v) v) row) (same_row s c h g e)))
      (≤ℚ_trans _ _ _
      (weighs_more n s c (λ v. hit small goals 1 n (unfolded small p n v) v) (λ v. hit large goals 1 n (unfolded large q n v) v) h
      (is_q.in_range s (in_large s h)) (λ v i. policy-fewer p q is_p is_q agree n v i))
      (≤ℚ_of_eq _ _ (sym (hit-unfolded large goals q n s large_known (is_q.in_range s (in_large s h)) g)))))
      (λ e.
      ≤ℚ_trans _ _ _ (hit-le_best small goals 1 small_known (omega arith) (suc n) (unfolded small p (suc n) s) s (in_small s h) (unfolded_fits small p (suc n) s small_known is_p (in_small s h)))
      (≤ℚ_trans _ _ _ (≤ℚ_of_eq _ _ (lost-none m goals kept greatest_place known_ greatest_place-below (suc n) s h e)) (hit-nonneg large goals 1 (suc n) (unfolded large q (suc n) s) s (omega arith))))
      (cases_Bool (stays goals kept s)))
      (cases_Bool (is_marked goals s))

  -- ---- trees

  pub reaches_more : ReachesMore m goals kept more
  reaches_more = record {
    most = λ n u t s h strategy. (
      extreme_tree large goals greatest_place large_known greatest_place-below n s,
      record { mixes = omega arith; fits = extreme_fits large goals greatest_place large_known greatest_place-below n s (in_large s h) },
      ≤ℚ_trans _ _ _ (hit-le_best small goals u small_known strategy.mixes n t s (in_small s h) strategy.fits)
          (≤ℚ_trans _ _ _ (best-fewer n s h) (≤ℚ_of_eq _ _ (sym (hit-extreme large goals greatest_place large_known greatest_place-below n s (in_large s h))))),
    );
    least = λ n u t s h strategy. (
      extreme_tree small goals least_place small_known least_place-below n s,
      record { mixes = omega arith; fits = extreme_fits small goals least_place small_known least_place-below n s (in_small s h) },
      ≤ℚ_trans _ _ _ (≤ℚ_of_eq _ _ (hit-extreme small goals least_place small_known least_place-below n s (in_small s h)))
          (≤ℚ_trans _ _ _ (worst-fewer n s h) (worst-le_hit large goals u large_known strategy.mixes n t s (in_large s h) strategy.fits)),
    );
  }

-- ---- values

module _ (m : Mdp) (goals kept more : List Bool) (known_ : IsMdp m) (inc : IsIncluded m kept more) (z w : List ℚ) (policy other : List ℕ) (s : ℕ) (h : s < states_of m) where
  -- the greatest probability of the smaller subsystem is at most that of the larger one
  pub reach_max_fewer : ReachMax (sub_of m goals kept) goals z policy → ReachMax (sub_of m goals more) goals w other → value_at z s ≤ℚ value_at w s
  reach_max_fewer r t =
      le_of_parts (value_at z s) (value_at w s)
      (λ k hk.
      let c = r.close s k (in_small m goals kept more known_ inc s h) hk in
      let strategy = unfolded_is_strategy (sub_of m goals kept) policy c.0 s (sub_is_mdp m goals kept known_) r.takes (in_small m goals kept more known_ inc s h) in
      let x = ReachesMore.most (reaches_more m goals kept more known_ inc) c.0 1 (unfolded (sub_of m goals kept) policy c.0 s) s h strategy in
      let a = t.above.above c.0 1 x.0 s (in_large m goals kept more known_ inc s h) x.1 in
      linear 5 (λ z w x y q. z) (λ z w x y q. w ⊕ q) (λ z w x y q. known z (x ⊕ q) ∷ known x y ∷ known y w ∷ []) refl
      (value_at z s) (value_at w s) (hit (sub_of m goals kept) goals 1 c.0 (unfolded (sub_of m goals kept) policy c.0 s) s) (hit (sub_of m goals more) goals 1 c.0 x.0 s) (part k) c.1 x.2 a)

  -- and so is the least
  pub reach_min_fewer : ReachMin (sub_of m goals kept) goals z policy → ReachMin (sub_of m goals more) goals w other → value_at z s ≤ℚ value_at w s
  reach_min_fewer r t =
      le_of_parts (value_at z s) (value_at w s)
      (λ k hk.
      let c = r.close s k (in_small m goals kept more known_ inc s h) hk in
      let strategy = unfolded_is_strategy (sub_of m goals more) other c.0 s (sub_is_mdp m goals more known_) t.takes (in_large m goals kept more known_ inc s h) in
      let x = ReachesMore.least (reaches_more m goals kept more known_ inc) c.0 1 (unfolded (sub_of m goals more) other c.0 s) s h strategy in
      let a = c.1 c.0 1 x.0 (omega arith) x.1 in
      let b = t.below c.0 s (in_large m goals kept more known_ inc s h) in
      linear 5 (λ z w x y q. z) (λ z w x y q. w ⊕ q) (λ z w x y q. known z (x ⊕ q) ∷ known x y ∷ known y w ∷ []) refl
      (value_at z s) (value_at w s) (hit (sub_of m goals kept) goals 1 c.0 x.0 s) (hit (sub_of m goals more) goals 1 c.0 (unfolded (sub_of m goals more) other c.0 s) s) (part k) a x.2 b)
