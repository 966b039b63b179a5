-- The bounds that say nothing get yes on every model: each of their checks holds, and none makes a sum.
use Rattle.std.proofs.Common.{◌≡◌, ℕ, ◌<◌, Bool, true, false, List, [], ◌∷◌, ◌++◌, length, slice_index, Some, sym, ap, subst, ◌∙◌, lt-ltb, if◌then◌else◌}
use Rattle.std.specs.Option.{option_map}
use Rattle.mdp_math.specs.Rational.{ℚ, ◌≤ℚ◌, ◌<ℚ◌}
use Rattle.mdp_math.proofs.{Order.{≤ℚ_of_lt, ≤ℚ_of_eq, <ℚ_irrefl}, Whole.{one-pos}}
use Rattle.mdp_num.specs.OrderView.{equal_decides}
use Rattle.mdp_spec.specs.{Mdp.{Mdp, states_of, choices_at, row_at, value_at}, Tree.{IsPolicy, is_marked}, Rules.{AreProbabilities}}
use Rattle.mdp_farkas.specs.{Verdict.{Check, verdict_of, at_choices}, Compare.{0ℚ, 1ℚ}, Reach.{other, rank_checks}}
use Rattle.mdp_claims.specs.declared.verdict.Verdict.TheVariants.{Yes}
use Rattle.mdp_bounds.specs.Reach.{covering, followed, outermost, stands_at, bound_check, policy_check, cover_at, follow_at, bounds_at, bounds_checks, IsTrivialReach}
use Rattle.mdp_bounds.specs.Sum.{stands, told_sum}
use Rattle.mdp_rows.specs.{declared.dir.Dir.{Dir}, declared.dir.Dir.TheVariants.{Max, Min}}
use Rattle.mdp_farkas.proofs.{Holds.{Each, Holds, yes_of_each, each_append, each_map, each_flat}, ReachRules.{ranks_hold}}
use Rattle.mdp_bounds.proofs.Halves.{values_hold}

one_of : (b : Bool) (v : ℚ) → v ≡ (if b then 1ℚ else 0ℚ) → (0ℚ ≤ℚ v) × (v ≤ℚ 1ℚ)
one_of true v e = (subst (λ (x : ℚ). 0ℚ ≤ℚ x) (sym e) (≤ℚ_of_lt 0ℚ 1ℚ one-pos), ≤ℚ_of_eq v 1ℚ e)
one_of false v e = (≤ℚ_of_eq 0ℚ v (sym e), subst (λ (x : ℚ). x ≤ℚ 1ℚ) (sym e) (≤ℚ_of_lt 0ℚ 1ℚ one-pos))

module _ (dir : Dir) (m : Mdp) (z : List ℚ) where
  -- the outermost value stands to any row, with no sum
  outermost_stands : (s c : ℕ) → value_at z s ≡ outermost dir → stands_at dir m z s c ≡ Some true
  outermost_stands s c e = ap (λ (b : Bool). if b then Some true else option_map (stands dir (value_at z s)) (told_sum z 0ℚ (row_at m s c))) ((equal_decides (value_at z s) (outermost dir)).1 e)

module _ (m : Mdp) (goals : List Bool) (z : List ℚ) (known : AreProbabilities m goals z) where
  cover_trivial : (dir : Dir) (s : ℕ) → s < states_of m → (is_marked goals s ≡ false → value_at z s ≡ outermost dir) → Each Holds (cover_at dir m goals z s)
  cover_trivial dir s l e =
      values_hold m goals z (λ s. at_choices m s (bound_check dir m z s)) s l known
      (λ g. each_map Holds (bound_check dir m z s) (length (choices_at m s)) (λ c i. outermost_stands dir m z s c (e g)))

  follow_trivial : (dir : Dir) (s choice : ℕ) → s < states_of m → (is_marked goals s ≡ false → value_at z s ≡ outermost (other dir)) → Each Holds (follow_at dir m goals z s choice)
  follow_trivial dir s choice l e = values_hold m goals z (λ s. policy_check dir m z s choice ∷ []) s l known (λ g. (outermost_stands (other dir) m z s choice (e g), tt))

module _ (m : Mdp) (goals : List Bool) (lower upper : List ℚ) (policy ranks : List ℕ) (t : IsTrivialReach m goals lower upper policy ranks) where
  lower_known : AreProbabilities m goals lower
  lower_known = record {
    at_least_zero = λ s l. (one_of (is_marked goals s) (value_at lower s) (t.lower_values s l)).0;
    at_most_one = λ s l. (one_of (is_marked goals s) (value_at lower s) (t.lower_values s l)).1;
    at_goal = λ s l g. t.lower_values s l ∙ ap (λ (b : Bool). if b then 1ℚ else 0ℚ) g;
  }

  upper_known : AreProbabilities m goals upper
  upper_known = record {
    at_least_zero = λ s l. (one_of true (value_at upper s) (t.upper_values s l)).0;
    at_most_one = λ s l. (one_of true (value_at upper s) (t.upper_values s l)).1;
    at_goal = λ s l g. t.upper_values s l;
  }

  zero_elsewhere : (s : ℕ) → s < states_of m → is_marked goals s ≡ false → value_at lower s ≡ 0ℚ
  zero_elsewhere s l g = t.lower_values s l ∙ ap (λ (b : Bool). if b then 1ℚ else 0ℚ) g

  halves : (dir : Dir) (s : ℕ) → s < states_of m
      → Each Holds (cover_at dir m goals (covering dir lower upper) s) × Each Holds (follow_at dir m goals (followed dir lower upper) s (slice_index policy s))
  halves Max s l = (cover_trivial m goals upper upper_known Max s l (λ g. t.upper_values s l), follow_trivial m goals lower lower_known Max s (slice_index policy s) l (zero_elsewhere s l))
  halves Min s l = (cover_trivial m goals lower lower_known Min s l (zero_elsewhere s l), follow_trivial m goals upper upper_known Min s (slice_index policy s) l (λ g. t.upper_values s l))

  rank_trivial : (dir : Dir) (s : ℕ) → s < states_of m → Each Holds (rank_checks dir m goals lower ranks s (slice_index policy s))
  rank_trivial dir s l =
      ranks_hold dir m goals lower policy ranks s l lower_known (λ s l h. t.no_ranks s l)
      (λ g p. absurd (<ℚ_irrefl 0ℚ (subst (λ (x : ℚ). 0ℚ <ℚ x) (zero_elsewhere s l g) p)))

  state_trivial : (dir : Dir) (s : ℕ) → s < states_of m → Each Holds (bounds_at dir m goals lower upper ranks s (slice_index policy s))
  state_trivial dir s l =
      let h = halves dir s l in
      let cover : List Check = cover_at dir m goals (covering dir lower upper) s in
      let follow : List Check = follow_at dir m goals (followed dir lower upper) s (slice_index policy s) in
      let rank : List Check = rank_checks dir m goals lower ranks s (slice_index policy s) in (
        ap Some (lt-ltb (slice_index policy s) (length (choices_at m s)) (IsPolicy.in_range t.takes s l)),
        each_append Holds cover (follow ++ rank) h.0 (each_append Holds follow rank h.1 (rank_trivial dir s l)),
      )

  pub trivial_yes : (dir : Dir) → verdict_of (bounds_checks dir m goals lower upper policy ranks) ≡ Yes
  trivial_yes dir =
      yes_of_each (bounds_checks dir m goals lower upper policy ranks)
      (each_flat Holds (λ s. bounds_at dir m goals lower upper ranks s (slice_index policy s)) (states_of m) (state_trivial dir))
