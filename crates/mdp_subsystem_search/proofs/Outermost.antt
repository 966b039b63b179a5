-- 0 and 1 for each state, and 1 and 1 at a goal, with first choices and ranks of 0, are the bounds that say nothing.
use Rattle.std.proofs.Common.{◌≡◌, ◌∙◌, ℕ, ◌<◌, Bool, List, length, map, replicate, slice_index, if◌then◌else◌, sym, ap, subst, zero-add}
use Rattle.std.proofs.{lemmas.List.{get_or-replicate, length-replicate}, lemmas.List.FromFn.{get_or-map-range_with_len}}
use Rattle.std.specs.List.{range_with_len}
use Rattle.mdp_math.specs.Rational.{ℚ}
use Rattle.mdp_spec.specs.{Mdp.{Mdp, states_of, choices_at, value_at}, Row.{IsMdp}, Tree.{is_marked}}
use Rattle.mdp_farkas.specs.Compare.{0ℚ, 1ℚ}
use Rattle.mdp_bounds.specs.Reach.{IsTrivialReach}

module _ (m : Mdp) (known : IsMdp m) (goals : List Bool) (lower upper : List ℚ) (policy ranks : List ℕ) where
  pub trivial_of : lower ≡ map (λ s. if is_marked goals s then 1ℚ else 0ℚ) (range_with_len 0 (states_of m)) → upper ≡ replicate (states_of m) 1ℚ
      → policy ≡ replicate (states_of m) 0 → ranks ≡ replicate (states_of m) 0 → IsTrivialReach m goals lower upper policy ranks
  trivial_of l u p r = record {
    takes = record {
      one_each = ap length p ∙ length-replicate (states_of m) 0;
      in_range = λ s i.
          subst (λ (c : ℕ). c < length (choices_at m s)) (sym (ap (λ (z : List ℕ). slice_index z s) p ∙ get_or-replicate (states_of m) s 0 0 i)) (IsMdp.choice known s i);
    };
    lower_values = λ s i.
        ap (λ (z : List ℚ). value_at z s) l ∙ get_or-map-range_with_len (λ s. if is_marked goals s then 1ℚ else 0ℚ) 0 (states_of m) s s 0ℚ i (zero-add s);
    upper_values = λ s i. ap (λ (z : List ℚ). value_at z s) u ∙ get_or-replicate (states_of m) s 1ℚ 0ℚ i;
    no_ranks = λ s i. ap (λ (z : List ℕ). slice_index z s) r ∙ get_or-replicate (states_of m) s 0 0 i;
  }
