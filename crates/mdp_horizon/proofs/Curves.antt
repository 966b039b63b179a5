-- What a curve says at each number of steps.
use Rattle.std.proofs.Common.{◌≡◌, ◌∙◌, ℕ, suc, ◌+◌, ◌*◌, ◌<◌, ◌≤◌, ◌^◌, Bool, List, length, Option, Some, sym, ap, subst, arith, ℤ, pos}
use Rattle.std.proofs.{lemmas.List.{get_or-map}, lemmas.List.FromFn.{get_or-map-range_with_len, length-map-range_with_len}}
use Rattle.std.proofs.Math.Nat.{one-le-pow}
use Rattle.mdp_math.specs.Rational.{ℚ, ◌≤ℚ◌}
use Rattle.mdp_math.proofs.{Order.{0ℚ}}
use Rattle.mdp_spec.specs.{Mdp.{Mdp, states_of}, Row.{IsMdp}}
use Rattle.mdp_rows.specs.{declared.dir.Dir.{Dir}, declared.dir.Dir.TheVariants.{Max, Min}}
use Rattle.mdp_horizon.specs.{declared.point.Point.{Point}, Objective.{Objective, value_of}, Objective.Objective.{until}, Between.{Claimed}}
use Rattle.mdp_horizon.specs.{Columns.{cover, follow, shown, Bounds, bounds_of}, Gap.{NoneIsWide}, Table.{unfolded_steps}}
use Rattle.mdp_horizon.specs.Curve.{point_of, curve_of, no_point, point_at, MaxLies, MinLies, IsMaxCurve, IsMinCurve, IsFinite, IsFiniteCurve}
use Rattle.mdp_horizon.specs.Curve.{IsNearPoint, IsNearCurve, IsPointOf, IsCurveOfBounds}
use Rattle.mdp_horizon.proofs.{Between.{bounds-max, bounds-min}, Finite.{finite_is}, Gap.{units_apart, near_by_units}, StepsLemmas.{cover_states, follow_states}}

-- ---- the point of each number of steps

pub point_is : (dir : Dir) (one : ℤ) (m : Mdp) (o : Objective) (s n k : ℕ) → k ≤ n → point_at (curve_of dir one m o s n) k ≡ point_of dir one m o s k
unfolding curve_of
point_is dir one m o s n k l = get_or-map-range_with_len (point_of dir one m o s) 0 (suc n) k k no_point (omega (arith, l)) (omega arith)

pub curve_length : (dir : Dir) (one : ℤ) (m : Mdp) (o : Objective) (s n : ℕ) → length (curve_of dir one m o s n) ≡ n + 1
unfolding curve_of
curve_length dir one m o s n = let e = length-map-range_with_len (point_of dir one m o s) 0 (suc n) in omega (arith, e)

-- what holds of each of these points holds along the curve
pub along : (P : ℕ → Point → Type 0) (dir : Dir) (one : ℤ) (m : Mdp) (o : Objective) (s n : ℕ) (curve : List Point) → curve ≡ curve_of dir one m o s n
    → ((k : ℕ) → k ≤ n → P k (point_of dir one m o s k)) → (k : ℕ) → k ≤ n → P k (point_at curve k)
along P dir one m o s n curve e h k l =
    subst (P k) (sym (ap (λ (c : List Point). point_at c k) e ∙ point_is dir one m o s n k l)) (h k l)

-- it has the values of the bounds
pub bounds_point : (dir : Dir) (one : ℤ) (m : Mdp) (o : Objective) (s k : ℕ) → s < states_of m → IsPointOf (bounds_of dir one m o k) s (point_of dir one m o s k)
unfolding bounds_of
bounds_point Max one m o s k h = (
  sym (get_or-map (shown one) (follow Max one m o k) s (Some (pos 0)) (Some 0ℚ) (omega (arith, follow_states Max one m o k))),
  sym (get_or-map (shown one) (cover Max one m o k) s (Some (pos 0)) (Some 0ℚ) (omega (arith, cover_states Max one m o k))),
)
bounds_point Min one m o s k h = (
  sym (get_or-map (shown one) (cover Min one m o k) s (Some (pos 0)) (Some 0ℚ) (omega (arith, cover_states Min one m o k))),
  sym (get_or-map (shown one) (follow Min one m o k) s (Some (pos 0)) (Some 0ℚ) (omega (arith, follow_states Min one m o k))),
)

module _ (one : ℕ) (above : 0 < one) (m : Mdp) (known_ : IsMdp m) (s : ℕ) (h : s < states_of m) where
  max_point : (o : Objective) (k : ℕ) → MaxLies m o s k (point_of Max (pos one) m o s k)
  max_point o k =
      let b = bounds-max one m o k above known_ in
      let is = bounds_point Max (pos one) m o s k h in
      record {
        above = λ u t i. subst (λ (v : Option ℚ). Claimed v (λ y. value_of m o u k t s ≤ℚ y)) (sym is.1) (b.above u t s h i);
        table = Bounds.steps (bounds_of Max (pos one) m o k);
        takes = b.takes;
        reached = subst (λ (v : Option ℚ). Claimed v (λ x. x ≤ℚ value_of m o 1 k (unfolded_steps m (Bounds.steps (bounds_of Max (pos one) m o k)) s) s)) (sym is.0) (b.reached s h);
      }

  min_point : (o : Objective) (k : ℕ) → MinLies m o s k (point_of Min (pos one) m o s k)
  min_point o k =
      let b = bounds-min one m o k above known_ in
      let is = bounds_point Min (pos one) m o s k h in
      record {
        below = λ u t i. subst (λ (v : Option ℚ). Claimed v (λ x. x ≤ℚ value_of m o u k t s)) (sym is.0) (b.below u t s h i);
        table = Bounds.steps (bounds_of Min (pos one) m o k);
        takes = b.takes;
        reached = subst (λ (v : Option ℚ). Claimed v (λ y. value_of m o 1 k (unfolded_steps m (Bounds.steps (bounds_of Min (pos one) m o k)) s) s ≤ℚ y)) (sym is.1) (b.reached s h);
      }

  finite_point : (dir : Dir) (stay goals : List Bool) (k : ℕ) → one < 2 ^ 127 → IsFinite (point_of dir (pos one) m (until stay goals) s k)
  finite_point dir stay goals k small =
      let f = finite_is dir one m stay goals k above small known_ in
      let is = bounds_point dir (pos one) m (until stay goals) s k h in
      let low = f.0 s h in
      let high = f.1 s h in
      record { low = low.0; high = high.0; lower = is.0 ∙ low.1; upper = is.1 ∙ high.1; from_0 = (low.2, high.2); to_1 = (low.3, high.3) }

  -- at most 1/u apart, where no row is wide and the unit is fine enough
  near_point : (dir : Dir) (o : Objective) (u n k : ℕ) → 0 < u → k ≤ n → n * u ≤ one → NoneIsWide dir (pos one) m o n → IsNearPoint u (point_of dir (pos one) m o s k)
  near_point dir o u n k some l fine wide low high p q =
      let is = bounds_point dir (pos one) m o s k h in
      near_by_units u one n k low high some above l fine
      (units_apart dir one m o k s low high above known_ (λ left s c i. wide left s c (omega (arith, i, l))) h (sym is.0 ∙ p) (sym is.1 ∙ q))

-- ---- of what the code answers

module _ (one : ℕ) (above : 0 < one) (m : Mdp) (o : Objective) (known_ : IsMdp m) (s n : ℕ) (h : s < states_of m) (curve : List Point) where
  pub length_by : (dir : Dir) → curve ≡ curve_of dir (pos one) m o s n → length curve ≡ n + 1
  length_by dir e = ap length e ∙ curve_length dir (pos one) m o s n

  pub bounds_by : (dir : Dir) → curve ≡ curve_of dir (pos one) m o s n → IsCurveOfBounds dir (pos one) m o s n curve
  bounds_by dir e = along (λ k p. IsPointOf (bounds_of dir (pos one) m o k) s p) dir (pos one) m o s n curve e (λ k l. bounds_point dir (pos one) m o s k h)

  pub max_by : (dir : Dir) → curve ≡ curve_of dir (pos one) m o s n → dir ≡ Max → IsMaxCurve m o s n curve
  max_by dir e is = along (MaxLies m o s) Max (pos one) m o s n curve (e ∙ ap (λ (d : Dir). curve_of d (pos one) m o s n) is) (λ k l. max_point one above m known_ s h o k)

  pub min_by : (dir : Dir) → curve ≡ curve_of dir (pos one) m o s n → dir ≡ Min → IsMinCurve m o s n curve
  min_by dir e is = along (MinLies m o s) Min (pos one) m o s n curve (e ∙ ap (λ (d : Dir). curve_of d (pos one) m o s n) is) (λ k l. min_point one above m known_ s h o k)

  pub near_by : (dir : Dir) (digits : ℕ) → curve ≡ curve_of dir (pos one) m o s n → NoneIsWide dir (pos one) m o n → n * 10 ^ digits ≤ one → IsNearCurve (10 ^ digits) n curve
  near_by dir digits e wide fine =
      along (λ k p. IsNearPoint (10 ^ digits) p) dir (pos one) m o s n curve e
      (λ k l. near_point one above m known_ s h dir o (10 ^ digits) n k (let p = one-le-pow digits 10 (omega arith) in omega (arith, p)) l fine wide)

pub finite_by : (one : ℕ) (m : Mdp) (stay goals : List Bool) (dir : Dir) (s n : ℕ) (curve : List Point) → 0 < one → one < 2 ^ 127 → IsMdp m → s < states_of m
    → curve ≡ curve_of dir (pos one) m (until stay goals) s n → IsFiniteCurve n curve
finite_by one m stay goals dir s n curve above small known_ h e =
    along (λ k p. IsFinite p) dir (pos one) m (until stay goals) s n curve e (λ k l. finite_point one above m known_ s h dir stay goals k small)
