-- No value for each state, with first choices, is what the bounds of discounted rewards are that say nothing.
use Rattle.std.proofs.Common.{◌≡◌, ℕ, ◌<◌, List, length, slice_index, map, replicate, Option, None, refl, sym, ◌∙◌, ap, subst}
use Rattle.std.proofs.{lemmas.List.{get_or-replicate, length-replicate}, lemmas.List.Elements.{All-map, All-from_get_or}}
use Rattle.std.specs.List.{All}
use Rattle.mdp_math.specs.Rational.{ℚ}
use Rattle.mdp_spec.specs.{Mdp.{Mdp, states_of, choices_at}, Row.{IsMdp}}
use Rattle.mdp_farkas.specs.Compare.{0ℚ}
use Rattle.mdp_discount_rules.specs.BoundsChecks.{IsTrivialDiscount}

all_none : (states : List ℕ) (values : List (Option ℚ)) → values ≡ map (λ s. None) states → All (λ x. x ≡ None) values
all_none states values e =
    let none : ℕ → Option ℚ = λ s. None in
    subst (All (λ x. x ≡ None)) (sym e) (All-map (λ x. x ≡ None) none states (All-from_get_or (λ s. none s ≡ None) states 0 (λ i l. refl)))

module _ (m : Mdp) (known : IsMdp m) (lower upper : List (Option ℚ)) (policy : List ℕ) where
  pub nothing_said : (states : List ℕ) → lower ≡ map (λ s. None) states → upper ≡ map (λ s. None) states → policy ≡ replicate (states_of m) 0
      → IsTrivialDiscount m lower upper 0ℚ policy
  nothing_said states l u p = record {
    takes = record {
      one_each = ap length p ∙ length-replicate (states_of m) 0;
      in_range = λ s i.
          subst (λ (c : ℕ). c < length (choices_at m s)) (sym (ap (λ (z : List ℕ). slice_index z s) p ∙ get_or-replicate (states_of m) s 0 0 i)) (IsMdp.choice known s i);
    };
    no_lower = all_none states lower l;
    no_upper = all_none states upper u;
    no_remainder = refl;
  }
