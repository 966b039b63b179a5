-- The least and the greatest reward for each state, with bounds and biases of 0 and first choices, are the bounds of mean payoffs that say nothing.
use Rattle.std.proofs.{Common.{◌≡◌, ℕ, ◌<◌, List, length, slice_index, replicate, refl, sym, ◌∙◌, ap, subst}, lemmas.List.{get_or-replicate, length-replicate}}
use Rattle.std.proofs.lemmas.List.Elements.{All-replicate}
use Rattle.std.specs.List.{All}
use Rattle.mdp_math.specs.Rational.{ℚ}
use Rattle.mdp_spec.specs.{Mdp.{Mdp, states_of, choices_at, value_at}, Row.{IsMdp}}
use Rattle.mdp_farkas.specs.Compare.{0ℚ}
use Rattle.mdp_rows.specs.{declared.dir.Dir.{Dir}, declared.dir.Dir.TheVariants.{Max, Min}}
use Rattle.mdp_bounds.specs.Mean.{IsTrivialMean}
use Rattle.mdp_search_bounds.specs.Extent.{IsExtreme, AreAllExtreme}

-- a number for each state
pub same_each : {A : Type 0} (n k : ℕ) (x y : A) → n ≡ k → x ≡ y → replicate n x ≡ replicate k y
same_each n k x y e f = ap (λ i. replicate i x) e ∙ ap (λ z. replicate k z) f

pub length_same : (n : ℕ) (x : ℚ) (gains : List ℚ) → gains ≡ replicate n x → length gains ≡ n
length_same n x gains e = ap length e ∙ length-replicate n x

value_same : (n : ℕ) (x : ℚ) (gains : List ℚ) (s : ℕ) → gains ≡ replicate n x → s < n → value_at gains s ≡ x
value_same n x gains s e l = ap (λ (z : List ℚ). value_at z s) e ∙ get_or-replicate n s x 0ℚ l

pub all_extreme : (dir : Dir) (m : Mdp) (r : ℕ) (x : ℚ) (gains : List ℚ) → IsExtreme dir m r x → gains ≡ replicate (states_of m) x → AreAllExtreme dir m r gains
all_extreme dir m r x gains h e = λ s l. subst (IsExtreme dir m r) (sym (value_same (states_of m) x gains s e l)) h

module _ (m : Mdp) (r : ℕ) (lower upper bound bias : List ℚ) (policy : List ℕ) (least most : ℚ) (known : IsMdp m) (is_least : IsExtreme Min m r least) (is_most : IsExtreme Max m r most) where
  pub mean-trivial : lower ≡ replicate (states_of m) least → upper ≡ replicate (states_of m) most → bound ≡ replicate (states_of m) 0ℚ → bias ≡ replicate (states_of m) 0ℚ
      → policy ≡ replicate (states_of m) 0 → IsTrivialMean m r lower upper bound bias 0ℚ policy
  mean-trivial l u a b p = record {
    takes = record {
      one_each = ap length p ∙ length-replicate (states_of m) 0;
      in_range = λ s i.
          subst (λ (c : ℕ). c < length (choices_at m s)) (sym (ap (λ (z : List ℕ). slice_index z s) p ∙ get_or-replicate (states_of m) s 0 0 i)) (IsMdp.choice known s i);
    };
    low = least;
    high = most;
    lower_values = λ s i. value_same (states_of m) least lower s l i;
    upper_values = λ s i. value_same (states_of m) most upper s u i;
    rewards = λ s c i j. (is_least.as_each s c i j, is_most.as_each s c i j);
    bounds = subst (All (λ x. x ≡ 0ℚ)) (sym a) (All-replicate (λ x. x ≡ 0ℚ) (states_of m) 0ℚ refl);
    biases = subst (All (λ x. x ≡ 0ℚ)) (sym b) (All-replicate (λ x. x ≡ 0ℚ) (states_of m) 0ℚ refl);
    no_spread = refl;
  }
