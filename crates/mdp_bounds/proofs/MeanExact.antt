-- Exact gains that meet the rules by written terms meet those of bounds, as lower and as upper gains.
use Rattle.std.proofs.Common.{◌≡◌, ℕ, cond, List, [], ◌∷◌, ◌++◌, length, slice_index, Option, Some, None, refl, sym, ap, subst, ◌∙◌}
use Rattle.std.proofs.lemmas.List.Elements.{All-from_recursion, recursion_from_All}
use Rattle.std.specs.{Option.{IsSome, option_and_then, option_map}, declared.cmp.Ordering.{Ordering}}
use Rattle.mdp_math.specs.{Rational.{ℚ, neg_ℚ}, Written.{written_compare}}
use Rattle.mdp_math.proofs.{Options.{Some_same, step_told}, Written.{written_compare-some}}
use Rattle.mdp_num.specs.{Equal.{eq_ℚ}, Written.{written_sub}}
use Rattle.mdp_spec.specs.{Mdp.{Mdp, states_of, choices_at, choice_at, row_at, value_at}, Unit.{reward_of}}
use Rattle.mdp_spec.proofs.Mean.{mean_max_both, mean_min_both}
use Rattle.mdp_farkas.specs.{Verdict.{Check, InWidth, at_choices}, Compare.{is_equal}, Reach.{other}}
use Rattle.mdp_farkas.specs.Spread.{written_best, written_extreme, written_width, written_spread}
use Rattle.mdp_farkas.specs.Mean.{mean_checks_at, state_checks, mean_checks, MeetsMean, IsMean}
use Rattle.mdp_farkas.specs.Bellman as bellman
use Rattle.mdp_rows.specs.{Better.{is_better}, declared.dir.Dir.{Dir}, declared.dir.Dir.TheVariants.{Max, Min}}
use Rattle.mdp_farkas.specs.Mean as mean
use Rattle.mdp_farkas.proofs.Holds.{Each, each_append, each_left, each_right, each_flat, each_flat_at, each_map, each_map_at}
use Rattle.mdp_bounds.specs.{Sum.{stands}, Mean.{gain_check, relative_check, exact_best, exact_extreme, told_width, told_spread, spread_check}}
use Rattle.mdp_bounds.specs.Mean.{gains_cover, gains_follow, mean_bounds_at, state_bounds_checks, mean_bounds_checks, MeetsMeanBetween, IsMeanBounds}
use Rattle.mdp_bounds.proofs.Width.{plain_some, first_some, then_some, told_some, step_some}

-- ---- the spread

best_same : (dir : Dir) (best : ℚ) (xs : List ℚ) (w : ℚ) → Some w ≡ written_best dir best xs → w ≡ exact_best dir best xs
best_same dir best [] w e = Some_same w best e
best_same dir best (x ∷ xs) w e =
    let p = step_told (written_compare x best) (λ order. written_best dir (cond (is_better dir order) x best) xs) w e in
    best_same dir (cond (is_better dir p.0) x best) xs w p.2
    ∙ ap (λ (o : Ordering). exact_best dir (cond (is_better dir o) x best) xs) (written_compare-some x best p.0 p.1)

extreme_same : (dir : Dir) (z : List ℚ) (w : ℚ) → Some w ≡ written_extreme dir z → w ≡ exact_extreme dir z
extreme_same dir [] w e = Some_same w _ e
extreme_same dir (x ∷ xs) w e = best_same dir x xs w e

told_of : {A : Type 0} (o : Option A) → IsSome o → (x : A) × (Some x ≡ o)
told_of None w = absurd cc
told_of (Some x) w = (x, refl)

width_some : (z : List ℚ) → IsSome (written_width z) → IsSome (told_width z)
width_some z some =
    let w = told_of (written_width z) some in
    let p = step_told (written_extreme Max z) (λ high. option_and_then (λ low. written_sub high low) (written_extreme Min z)) w.0 w.1 in
    let q = step_told (written_extreme Min z) (λ low. written_sub p.0 low) w.0 p.2 in
    plain_some (exact_extreme Max z) (neg_ℚ (exact_extreme Min z))
    (subst (λ (x : ℚ). IsSome (written_sub x (exact_extreme Min z))) (extreme_same Max z p.0 p.1)
    (subst (λ (y : ℚ). IsSome (written_sub p.0 y)) (extreme_same Min z q.0 q.1) (subst (λ (o : Option ℚ). IsSome o) q.2 refl)))

both_widths : (f g : ℚ → ℚ → Option ℚ) (o p q t : Option ℚ) → (IsSome o → IsSome q) → (IsSome p → IsSome t) → ((x y : ℚ) → IsSome (g x y))
    → IsSome (option_and_then (λ x. option_and_then (f x) p) o) → IsSome (option_and_then (λ x. option_and_then (g x) t) q)
both_widths f g o p q t left right all w =
    let x = then_some (λ x. option_and_then (f x) p) o w in
    let a = told_of q (left (first_some (λ x. option_and_then (f x) p) o w)) in
    let b = told_of t (right (first_some (f x.0) p x.1)) in
    subst (λ (o : Option ℚ). IsSome (option_and_then (λ x. option_and_then (g x) t) o)) a.1
    (subst (λ (o : Option ℚ). IsSome (option_and_then (g a.0) o)) b.1 (all a.0 b.0))

spread_some : (a b : List ℚ) (spread : ℚ) → IsSome (option_and_then (is_equal spread) (written_spread a b)) → IsSome (option_map (eq_ℚ spread) (told_spread a b))
spread_some a b spread w =
    let both = both_widths (λ x y. written_best Max x (y ∷ [])) (λ x y. Some (exact_best Max x (y ∷ []))) (written_width a) (written_width b) (told_width a) (told_width b) (width_some a)
    (width_some b) (λ x y. refl) (first_some (is_equal spread) (written_spread a b) w) in
    mapped (told_spread a b) both
  where
    mapped : (o : Option ℚ) → IsSome o → IsSome (option_map (eq_ℚ spread) o)
    mapped None w = w
    mapped (Some x) w = refl

-- ---- the checks at a state

module _ (dir : Dir) (m : Mdp) (r : ℕ) (g a b : List ℚ) (policy : List ℕ) (s : ℕ) (w : Each InWidth (mean_checks_at dir m r g a b s (slice_index policy s))) where
  abbrev last : List Check
  last = mean.policy_gain_check m g s (slice_index policy s) ∷ mean.policy_bias_check m r g b s (slice_index policy s) ∷ []

  rest_some : Each InWidth (at_choices m s (mean.relative_check dir m r g a s) ++ last)
  rest_some = each_right InWidth (at_choices m s (mean.gain_check dir m g s)) (at_choices m s (mean.relative_check dir m r g a s) ++ last) w.1

  last_some : Each InWidth last
  last_some = each_right InWidth (at_choices m s (mean.relative_check dir m r g a s)) last rest_some

  cover_some : Each InWidth (gains_cover dir m r g a s)
  cover_some =
      each_append InWidth (at_choices m s (gain_check dir m g s)) (at_choices m s (relative_check dir m r g a s))
      (each_map InWidth (gain_check dir m g s) (length (choices_at m s))
      (λ c i.
      told_some (bellman.stands dir (value_at g s)) (stands dir (value_at g s)) g _ (row_at m s c)
      (each_map_at InWidth (mean.gain_check dir m g s) (length (choices_at m s)) c
      (each_left InWidth (at_choices m s (mean.gain_check dir m g s)) (at_choices m s (mean.relative_check dir m r g a s) ++ last) w.1) i)))
      (each_map InWidth (relative_check dir m r g a s) (length (choices_at m s))
      (λ c i.
      step_some (bellman.stands dir) (stands dir) (value_at g s) (value_at a s) a (reward_of (choice_at m s c) r) (row_at m s c)
      (each_map_at InWidth (mean.relative_check dir m r g a s) (length (choices_at m s)) c (each_left InWidth (at_choices m s (mean.relative_check dir m r g a s)) last rest_some) i)))

  follow_some : Each InWidth (gains_follow dir m r g b s (slice_index policy s))
  follow_some = (
    told_some (is_equal (value_at g s)) (stands (other dir) (value_at g s)) g _ (row_at m s (slice_index policy s)) last_some.0,
    (
      step_some is_equal (stands (other dir)) (value_at g s) (value_at b s) b (reward_of (choice_at m s (slice_index policy s)) r) (row_at m s (slice_index policy s)) last_some.1.0,
      tt,
    ),
  )

  both_some : Each InWidth (gains_cover dir m r g a s ++ gains_follow dir m r g b s (slice_index policy s))
  both_some = each_append InWidth (gains_cover dir m r g a s) (gains_follow dir m r g b s (slice_index policy s)) cover_some follow_some

-- ---- all rules

module _ (m : Mdp) (r : ℕ) (g a b : List ℚ) (spread : ℚ) (policy : List ℕ) where
  meets_both : (dir : Dir) → MeetsMean dir m r g a b spread policy → MeetsMeanBetween dir m r g g a b spread policy
  meets_both Max k = mean_max_both m r g a b spread policy k
  meets_both Min k = mean_min_both m r g a b spread policy k

  state_some : (dir : Dir) (s : ℕ) → Each InWidth (mean_checks_at dir m r g a b s (slice_index policy s)) → Each InWidth (mean_bounds_at dir m r g g a b s (slice_index policy s))
  state_some Max s w = (refl, both_some Max m r g a b policy s w)
  state_some Min s w = (refl, both_some Min m r g a b policy s w)

  all_some : (dir : Dir) → Each InWidth (mean_checks dir m r g a b spread policy) → Each InWidth (mean_bounds_checks dir m r g g a b spread policy)
  all_some dir w =
      each_append InWidth (state_bounds_checks dir m r g g a b policy) (spread_check a b spread ∷ [])
      (each_flat InWidth (λ s. mean_bounds_at dir m r g g a b s (slice_index policy s)) (states_of m)
      (λ s l.
      state_some dir s
      (each_flat_at InWidth (λ s. mean_checks_at dir m r g a b s (slice_index policy s)) (states_of m) s
      (each_left InWidth (state_checks dir m r g a b policy) (mean.spread_check a b spread ∷ []) w) l)))
      (spread_some a b spread (each_right InWidth (state_checks dir m r g a b policy) (mean.spread_check a b spread ∷ []) w).0, tt)

  exact_same : (dir : Dir) → IsMean dir m r g a b spread policy → IsMeanBounds dir m r g g a b spread policy
  exact_same dir is = record {
    rules = meets_both dir is.rules;
    in_width = All-from_recursion InWidth (mean_bounds_checks dir m r g g a b spread policy)
        (all_some dir (recursion_from_All InWidth (mean_checks dir m r g a b spread policy) is.in_width));
  }

pub mean_of_exact : (dir : Dir) (m : Mdp) (r : ℕ) (lower upper a b : List ℚ) (spread : ℚ) (policy : List ℕ) → upper ≡ lower → IsMean dir m r lower a b spread policy
    → IsMeanBounds dir m r lower upper a b spread policy
mean_of_exact dir m r lower upper a b spread policy e is =
    subst (λ (u : List ℚ). IsMeanBounds dir m r lower u a b spread policy) (sym e) (exact_same m r lower a b spread policy dir is)
