-- What the bounds mean.
use Rattle.std.proofs.Common.{◌≡◌, ◌∙◌, ℕ, zero, suc, ◌<◌, List, length, map, Option, Some, refl, sym, ap, subst, arith, ℤ, pos}
use Rattle.std.proofs.{lemmas.List.{get_or-map, length-map}}
use Rattle.mdp_math.specs.Rational.{ℚ}
use Rattle.mdp_math.proofs.Order.{0ℚ}
use Rattle.mdp_spec.specs.{Mdp.{Mdp, states_of}, Row.{IsMdp}, Bounds.{reward_at}}
use Rattle.mdp_rows.specs.{declared.dir.Dir.{Dir}, declared.dir.Dir.TheVariants.{Max, Min}}
use Rattle.mdp_horizon.specs.{Objective.{Objective}, Between.{Claimed, MaxBetween, MinBetween}, Whole.{fractions, whole_at}}
use Rattle.mdp_horizon.specs.Columns.{cover, follow, table, choices_next, shown, Bounds, bounds_of}
use Rattle.mdp_horizon.proofs.Halves.{CoversStep, FollowsStep, IsCovering, IsFollowing, max_between_of_halves, min_between_of_halves}
use Rattle.mdp_horizon.proofs.{Units.{fraction_at, claimed_shown}, Covering.{cover_length, follow_length, is_covering, is_following}}

module _ (one : ℕ) (above : 0 < one) (m : Mdp) (o : Objective) (known_ : IsMdp m) (dir : Dir) where
  -- what is claimed of a column is claimed of it as it is shown
  shown_claim : (column : List (Option ℤ)) (s : ℕ) (f : ℚ → Type 0) → s < length column → Claimed (reward_at (fractions (pos one) column) s) f
      → Claimed (reward_at (map (shown (pos one)) column) s) f
  shown_claim column s f h claim =
      subst (λ (w : Option ℚ). Claimed w f) (sym (get_or-map (shown (pos one)) column s (Some (pos 0)) (Some 0ℚ) h))
      (claimed_shown one (whole_at column s) f (subst (λ (w : Option ℚ). Claimed w f) (fraction_at one column s h) claim))

  covers_shown : (z : List (Option ℚ)) (column : List (Option ℤ)) → states_of m ≡ length column → CoversStep dir m o z (fractions (pos one) column)
      → CoversStep dir m o z (map (shown (pos one)) column)
  covers_shown z column e step = record {
    stopped = λ s x h st. shown_claim column s _ (omega (arith, e)) (step.stopped s x h st);
    each = λ s c h st l. shown_claim column s _ (omega (arith, e)) (step.each s c h st l);
  }

  follows_shown : (z : List (Option ℚ)) (choices : List ℕ) (column : List (Option ℤ)) → states_of m ≡ length column → FollowsStep dir m o z choices (fractions (pos one) column)
      → FollowsStep dir m o z choices (map (shown (pos one)) column)
  follows_shown z choices column e step = record {
    policy = step.policy;
    stopped = λ s x h st. shown_claim column s _ (omega (arith, e)) (step.stopped s x h st);
    taken = λ s h st. shown_claim column s _ (omega (arith, e)) (step.taken s h st);
  }

  covering_shown : (n : ℕ) → IsCovering dir m o n (map (shown (pos one)) (cover dir (pos one) m o n))
  covering_shown zero = λ s h. shown_claim (cover dir (pos one) m o 0) s _ (omega (arith, cover_length one above m o known_ dir 0)) (is_covering one above m o known_ dir 0 s h)
  covering_shown (suc n) =
      let all = is_covering one above m o known_ dir (suc n) in
      (all.0, all.1, covers_shown all.0 (cover dir (pos one) m o (suc n)) (cover_length one above m o known_ dir (suc n)) all.2)

  following_shown : (n : ℕ) → IsFollowing dir m o n (map (shown (pos one)) (follow dir (pos one) m o n)) (table dir (pos one) m o n)
  following_shown zero = λ s h. shown_claim (follow dir (pos one) m o 0) s _ (omega (arith, follow_length one above m o known_ dir 0)) (is_following one above m o known_ dir 0 s h)
  following_shown (suc n) =
      let all = is_following one above m o known_ dir (suc n) in
      (all.0, all.1, follows_shown all.0 (choices_next dir (pos one) m o (follow dir (pos one) m o n)) (follow dir (pos one) m o (suc n)) (follow_length one above m o known_ dir (suc n)) all.2)

  cover_shown_length : (n : ℕ) → length (map (shown (pos one)) (cover dir (pos one) m o n)) ≡ states_of m
  cover_shown_length n = length-map (cover dir (pos one) m o n) (shown (pos one)) ∙ sym (cover_length one above m o known_ dir n)

  follow_shown_length : (n : ℕ) → length (map (shown (pos one)) (follow dir (pos one) m o n)) ≡ states_of m
  follow_shown_length n = length-map (follow dir (pos one) m o n) (shown (pos one)) ∙ sym (follow_length one above m o known_ dir n)

pub bounds-max : (one : ℕ) (m : Mdp) (o : Objective) (n : ℕ) → 0 < one → IsMdp m
    → MaxBetween m o n (Bounds.lower (bounds_of Max (pos one) m o n)) (Bounds.upper (bounds_of Max (pos one) m o n)) (Bounds.steps (bounds_of Max (pos one) m o n))
unfolding bounds_of
bounds-max one m o n h k =
    max_between_of_halves m o k n (map (shown (pos one)) (follow Max (pos one) m o n)) (map (shown (pos one)) (cover Max (pos one) m o n)) (table Max (pos one) m o n)
    (follow_shown_length one h m o k Max n) (cover_shown_length one h m o k Max n) (covering_shown one h m o k Max n) (following_shown one h m o k Max n)

pub bounds-min : (one : ℕ) (m : Mdp) (o : Objective) (n : ℕ) → 0 < one → IsMdp m
    → MinBetween m o n (Bounds.lower (bounds_of Min (pos one) m o n)) (Bounds.upper (bounds_of Min (pos one) m o n)) (Bounds.steps (bounds_of Min (pos one) m o n))
unfolding bounds_of
bounds-min one m o n h k =
    min_between_of_halves m o k n (map (shown (pos one)) (cover Min (pos one) m o n)) (map (shown (pos one)) (follow Min (pos one) m o n)) (table Min (pos one) m o n)
    (cover_shown_length one h m o k Min n) (follow_shown_length one h m o k Min n) (covering_shown one h m o k Min n) (following_shown one h m o k Min n)

-- the same of what the code answers, for a direction that is known
pub bounds-max_by : (dir : Dir) (one : ℕ) (m : Mdp) (o : Objective) (n : ℕ) (b : Bounds) → dir ≡ Max → 0 < one → IsMdp m
    → b ≡ bounds_of dir (pos one) m o n → MaxBetween m o n b.lower b.upper b.steps
bounds-max_by dir one m o n b e h k q =
    subst (λ (b : Bounds). MaxBetween m o n b.lower b.upper b.steps) (sym (q ∙ ap (λ (d : Dir). bounds_of d (pos one) m o n) e)) (bounds-max one m o n h k)

pub bounds-min_by : (dir : Dir) (one : ℕ) (m : Mdp) (o : Objective) (n : ℕ) (b : Bounds) → dir ≡ Min → 0 < one → IsMdp m
    → b ≡ bounds_of dir (pos one) m o n → MinBetween m o n b.lower b.upper b.steps
bounds-min_by dir one m o n b e h k q =
    subst (λ (b : Bounds). MinBetween m o n b.lower b.upper b.steps) (sym (q ∙ ap (λ (d : Dir). bounds_of d (pos one) m o n) e)) (bounds-min one m o n h k)

-- and there is one of each for each state
pub bounds-each : (dir : Dir) (one : ℕ) (m : Mdp) (o : Objective) (n : ℕ) (b : Bounds) → 0 < one → IsMdp m → b ≡ bounds_of dir (pos one) m o n
    → (length b.lower ≡ states_of m) × (length b.upper ≡ states_of m)
bounds-each Max one m o n b h k q = let r = bounds-max_by Max one m o n b refl h k q in (r.one_each, r.one_above)
bounds-each Min one m o n b h k q = let r = bounds-min_by Min one m o n b refl h k q in (r.one_each, r.one_above)
