-- The least and the greatest reward, with bound, bias and spread 0, get yes on every model: each of their checks holds, and none makes a sum of
-- numbers that aren't 0.
use Rattle.std.proofs.Common.{◌≡◌, ℕ, ◌<◌, Bool, true, false, List, [], ◌∷◌, length, slice_index, Option, Some, None, refl, sym}
use Rattle.std.proofs.{Common.{zero, suc, arith, ap, ap₂, subst, ◌∙◌, lt-ltb, pos, subst, if◌then◌else◌, option_map}, lemmas.List.Elements.{recursion_from_All}}
use Rattle.std.specs.{List.{All, AllByRecursion, list_all}, Option.{option_and_then}}
use Rattle.mdp_math.specs.{Rational.{ℚ, neg_ℚ, ◌<ℚ◌}, Written.{written_add}}
use Rattle.mdp_math.proofs.{Booleans.{and-both, and-left, and-right}, Ring.{⊖, lit, ring}, Laws.{rat_ring}, Order.{≤ℚ_of_eq, <ℚ_irrefl}, Whole.{one-pos}}
use Rattle.mdp_math.proofs.Kernel.{All-head}
use Rattle.mdp_num.specs.{Equal.{eq_ℚ}, OrderView.{equal_decides}}
use Rattle.mdp_spec.specs.{Mdp.{Entry, Mdp, states_of, choices_at, choice_at, row_at, value_at}, Row.{IsRow, IsMdp}, Unit.{reward_of}, Tree.{IsPolicy}}
use Rattle.mdp_spec.specs.Written.{written_sum}
use Rattle.mdp_farkas.specs.{Verdict.{Check, verdict_of, at_choices}, Compare.{0ℚ}, Reach.{other}}
use Rattle.mdp_claims.specs.declared.verdict.Verdict.TheVariants.{Yes}
use Rattle.mdp_bounds.specs.{Reach.{covering, followed}, Sum.{stands, first_value, plain_add, targets_of, or_else, told_sum}}
use Rattle.mdp_bounds.specs.Mean.{gain_stands, bound_stands, gain_check, relative_check, exact_best, exact_extreme, told_width, told_spread, spread_check}
use Rattle.mdp_bounds.specs.Mean.{gains_cover, gains_follow, mean_bounds_at, state_bounds_checks, mean_bounds_checks, IsTrivialMean}
use Rattle.mdp_rows.specs.{declared.dir.Dir.{Dir}, declared.dir.Dir.TheVariants.{Max, Min}}
use Rattle.mdp_farkas.proofs.{Holds.{Each, Holds, yes_of_each, each_append, each_map, each_flat}, Inequalities.{Stands}}
use Rattle.mdp_bounds.proofs.{Comparing.{of_stands}, Sums.{plain_zero_left}, Spreading.{best_keeps}}

-- ---- sums with 0, and over values that are all the same

zero_right_by : (x : ℚ) (b : Bool) → eq_ℚ x 0ℚ ≡ b → (if b then Some 0ℚ else (if eq_ℚ 0ℚ 0ℚ then Some x else written_add x 0ℚ)) ≡ Some x
zero_right_by x true e = ap Some (sym ((equal_decides x 0ℚ).0 e))
zero_right_by x false e = ap (λ (b : Bool). if b then Some x else written_add x 0ℚ) ((equal_decides 0ℚ 0ℚ).1 refl)

plain_zero_right : (x : ℚ) → plain_add x 0ℚ ≡ Some x
plain_zero_right x = zero_right_by x (eq_ℚ x 0ℚ) refl

module _ (n : ℕ) (z : List ℚ) (v : ℚ) (same : (t : ℕ) → t < n → value_at z t ≡ v) where
  all_same : (u : ℚ) (row : List Entry) → u ≡ v → AllByRecursion (λ x. x.target < n) row → list_all (λ t. eq_ℚ (value_at z t) u) (targets_of row) ≡ true
  all_same u [] e h = refl
  all_same u (x ∷ row) e h = and-both (eq_ℚ (value_at z x.target) u) (list_all (λ t. eq_ℚ (value_at z t) u) (targets_of row))
      ((equal_decides (value_at z x.target) u).1 (same x.target h.0 ∙ sym e)) (all_same u row e h.1)

  first_same : (row : List Entry) → IsRow n row → first_value z (targets_of row) ≡ v
  first_same [] known = absurd (<ℚ_irrefl 0ℚ (subst (λ (x : ℚ). 0ℚ <ℚ x) (sym known.distribution.total) one-pos))
  first_same (x ∷ row) known = same x.target (All-head (λ (y : Entry). y.target < n) x row known.in_range)

  same_told : (row : List Entry) (start w : ℚ) → IsRow n row → plain_add start v ≡ Some w → told_sum z start row ≡ Some w
  same_told row start w known e =
      ap (λ (o : Option ℚ). or_else o (written_sum z start row))
      (ap (λ (b : Bool). if b then plain_add start (first_value z (targets_of row)) else None)
      (all_same (first_value z (targets_of row)) row (first_same row known) (recursion_from_All (λ x. x.target < n) row known.in_range))
      ∙ ap (λ (u : ℚ). plain_add start u) (first_same row known)
      ∙ e)

-- numbers that all pass the test are one
pub one_by_test : (x : ℚ) (xs : List ℚ) → list_all (eq_ℚ x) xs ≡ true → (s : ℕ) → s < length xs → value_at xs s ≡ x
one_by_test x [] e s h = absurd (omega (arith, h))
one_by_test x (y ∷ ys) e zero h = sym ((equal_decides x y).0 (and-left (eq_ℚ x y) (list_all (eq_ℚ x) ys) e))
one_by_test x (y ∷ ys) e (suc s) h = one_by_test x ys (and-right (eq_ℚ x y) (list_all (eq_ℚ x) ys) e) s (omega (arith, h))

stands_same : (dir : Dir) (x v : ℚ) → x ≡ v → Stands dir x v
stands_same Max x v e = ≤ℚ_of_eq v x (sym e)
stands_same Min x v e = ≤ℚ_of_eq x v e

module _ (m : Mdp) (known : IsMdp m) (r s c : ℕ) (l : s < states_of m) (i : c < length (choices_at m s)) where
  pub gain_trivial : (dir : Dir) (g : List ℚ) (v : ℚ) → ((t : ℕ) → t < states_of m → value_at g t ≡ v) → gain_stands dir m g s c ≡ Some true
  gain_trivial dir g v same =
      ap (λ (o : Option ℚ). option_map (stands dir (value_at g s)) o) (same_told (states_of m) g v same (row_at m s c) 0ℚ v (known.row s c l i) (plain_zero_left v))
      ∙ ap Some (of_stands dir (value_at g s) v (stands_same dir (value_at g s) v (same s l)))

  bound_trivial : (dir : Dir) (g a : List ℚ) (v : ℚ) → ((t : ℕ) → t < states_of m → value_at g t ≡ v) → ((t : ℕ) → t < states_of m → value_at a t ≡ 0ℚ)
      → Stands dir v (reward_of (choice_at m s c) r) → bound_stands dir m r g a s c ≡ Some true
  bound_trivial dir g a v same none h =
      ap (λ (o : Option ℚ). option_and_then (λ step. option_map (stands dir step) (told_sum a (reward_of (choice_at m s c) r) (row_at m s c))) o)
      (ap₂ (λ (x y : ℚ). plain_add x y) (same s l) (none s l) ∙ plain_zero_right v)
      ∙ ap (λ (o : Option ℚ). option_map (stands dir v) o)
      (same_told (states_of m) a 0ℚ none (row_at m s c) (reward_of (choice_at m s c) r) (reward_of (choice_at m s c) r) (known.row s c l i) (plain_zero_right (reward_of (choice_at m s c) r)))
      ∙ ap Some (of_stands dir v (reward_of (choice_at m s c) r) h)

-- ---- the spread of zeros

zero_extreme : (dir : Dir) (z : List ℚ) → AllByRecursion (λ x. x ≡ 0ℚ) z → exact_extreme dir z ≡ 0ℚ
zero_extreme dir [] h = refl
zero_extreme dir (x ∷ xs) h = best_keeps dir (λ y. y ≡ 0ℚ) x xs h.0 h.1

neg_zero : neg_ℚ 0ℚ ≡ 0ℚ
neg_zero = ring rat_ring 1 (λ x. ⊖ (lit (pos 0))) (λ x. lit (pos 0)) refl 0ℚ

zero_width : (z : List ℚ) → All (λ x. x ≡ 0ℚ) z → told_width z ≡ Some 0ℚ
zero_width z h =
    ap₂ (λ (x y : ℚ). plain_add x (neg_ℚ y)) (zero_extreme Max z (recursion_from_All (λ x. x ≡ 0ℚ) z h)) (zero_extreme Min z (recursion_from_All (λ x. x ≡ 0ℚ) z h))
    ∙ plain_zero_left (neg_ℚ 0ℚ)
    ∙ ap Some neg_zero

zero_spread : (a b : List ℚ) → All (λ x. x ≡ 0ℚ) a → All (λ x. x ≡ 0ℚ) b → told_spread a b ≡ Some 0ℚ
zero_spread a b h k =
    ap₂ (λ (x y : Option ℚ). option_and_then (λ first. option_and_then (λ second. Some (exact_best Max first (second ∷ []))) y) x) (zero_width a h) (zero_width b k)
    ∙ ap Some (best_keeps Max (λ y. y ≡ 0ℚ) 0ℚ (0ℚ ∷ []) refl (refl, tt))

-- ---- all checks

module _ (m : Mdp) (known : IsMdp m) (r : ℕ) (lower upper a b : List ℚ) (spread : ℚ) (policy : List ℕ) (t : IsTrivialMean m r lower upper a b spread policy)
    (bounds : length a ≡ states_of m) (biases : length b ≡ states_of m) where
  no_bound : (s : ℕ) → s < states_of m → value_at a s ≡ 0ℚ
  no_bound s l = t.bounds s 0ℚ (subst (λ (n : ℕ). s < n) (sym bounds) l)

  no_bias : (s : ℕ) → s < states_of m → value_at b s ≡ 0ℚ
  no_bias s l = t.biases s 0ℚ (subst (λ (n : ℕ). s < n) (sym biases) l)

  half_cover : (dir : Dir) (g : List ℚ) (v : ℚ) → ((s : ℕ) → s < states_of m → value_at g s ≡ v)
      → ((s c : ℕ) → s < states_of m → c < length (choices_at m s) → Stands dir v (reward_of (choice_at m s c) r)) → (s : ℕ) → s < states_of m → Each Holds (gains_cover dir m r g a s)
  half_cover dir g v same h s l =
      each_append Holds (at_choices m s (gain_check dir m g s)) (at_choices m s (relative_check dir m r g a s))
      (each_map Holds (gain_check dir m g s) (length (choices_at m s)) (λ c i. gain_trivial m known r s c l i dir g v same))
      (each_map Holds (relative_check dir m r g a s) (length (choices_at m s)) (λ c i. bound_trivial m known r s c l i dir g a v same no_bound (h s c l i)))

  half_follow : (dir : Dir) (g : List ℚ) (v : ℚ) → ((s : ℕ) → s < states_of m → value_at g s ≡ v)
      → ((s c : ℕ) → s < states_of m → c < length (choices_at m s) → Stands (other dir) v (reward_of (choice_at m s c) r)) → (s : ℕ) → s < states_of m
      → Each Holds (gains_follow dir m r g b s (slice_index policy s))
  half_follow dir g v same h s l =
      let i = IsPolicy.in_range t.takes s l in (
        gain_trivial m known r s (slice_index policy s) l i (other dir) g v same,
        (bound_trivial m known r s (slice_index policy s) l i (other dir) g b v same no_bias (h s (slice_index policy s) l i), tt),
      )

  halves : (dir : Dir) (s : ℕ) → s < states_of m
      → Each Holds (gains_cover dir m r (covering dir lower upper) a s) × Each Holds (gains_follow dir m r (followed dir lower upper) b s (slice_index policy s))
  halves Max s l =
      (half_cover Max upper t.high t.upper_values (λ s c l i. (t.rewards s c l i).1) s l, half_follow Max lower t.low t.lower_values (λ s c l i. (t.rewards s c l i).0) s l)
  halves Min s l =
      (half_cover Min lower t.low t.lower_values (λ s c l i. (t.rewards s c l i).0) s l, half_follow Min upper t.high t.upper_values (λ s c l i. (t.rewards s c l i).1) s l)

  state_trivial : (dir : Dir) (s : ℕ) → s < states_of m → Each Holds (mean_bounds_at dir m r lower upper a b s (slice_index policy s))
  state_trivial dir s l =
      let h = halves dir s l in (
        ap Some (lt-ltb (slice_index policy s) (length (choices_at m s)) (IsPolicy.in_range t.takes s l)),
        each_append Holds (gains_cover dir m r (covering dir lower upper) a s) (gains_follow dir m r (followed dir lower upper) b s (slice_index policy s)) h.0 h.1,
      )

  spread_trivial : Check.holds (spread_check a b spread) ≡ Some true
  spread_trivial = ap (λ (o : Option ℚ). option_map (eq_ℚ spread) o) (zero_spread a b t.bounds t.biases) ∙ ap Some ((equal_decides spread 0ℚ).1 t.no_spread)

  pub trivial_yes : (dir : Dir) → verdict_of (mean_bounds_checks dir m r lower upper a b spread policy) ≡ Yes
  trivial_yes dir =
      yes_of_each (mean_bounds_checks dir m r lower upper a b spread policy)
      (each_append Holds (state_bounds_checks dir m r lower upper a b policy) (spread_check a b spread ∷ [])
      (each_flat Holds (λ s. mean_bounds_at dir m r lower upper a b s (slice_index policy s)) (states_of m) (state_trivial dir)) (spread_trivial, tt))
