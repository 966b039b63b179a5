-- The written bias solves the policy's equation where nodes are left, and is the inner one elsewhere.
use Rattle.std.proofs.Common.{◌≡◌, ℕ, ◌<◌, inl, Bool, true, false, not, if◌then◌else◌, List, [], ◌∷◌, length}
use Rattle.std.proofs.Common.{Some, Result, Ok, Err, refl, sym, ap, ◌∙◌, subst, arith, pos, zero-add}
use Rattle.std.proofs.lemmas.List.FromFn.{get_or-map-range_with_len, length-map-range_with_len}
use Rattle.std.specs.Prelude.{slice_index, slice_index_or}
use Rattle.mdp_math.specs.{Rational.{ℚ, ◌+ℚ◌, ◌-ℚ◌, ◌*ℚ◌}, Kernel.{weigh}}
use Rattle.mdp_math.proofs.{Laws.{zero-+ℚ}, Options.{step_told}, Written.{written_add-some}, Ring.{◌⊕◌, ◌⊗◌, lit}, Linear.{combine, equal}, Kernel.{weigh-same}}
use Rattle.mdp_spec.specs.{Mdp.{Entry, states_of, row_at, value_at}, Row.{row_sum, IsRow, AreRows}, Written.{written_sum}}
use Rattle.mdp_num.specs.Written.{written_sub}
use Rattle.mdp_elim.specs.{System.{is_active, row_of, IsSolution, SolveEach, Leaves}, Solve.{written_solution}}
use Rattle.mdp_elim.proofs.OneSolution.{gives_solutions}
use Rattle.mdp_policy_iteration.specs.{Path.{outer}, Places.{up_to}}
use Rattle.mdp_policy_iteration.proofs.Results.{ok_same, ok_part, place_part, IsUpTo, up_to-is}
use Rattle.mdp_farkas.specs.Compare.{0ℚ}
use Rattle.mdp_spec.proofs.Summed.{written_sum-some}
use Rattle.mdp_mean.specs.Terms.{Joining, reward_at, constant_by}
use Rattle.mdp_mean.specs.Join.{evaluating, constant, policy_rows, placed, eliminated, filled_by, filled, solved, written_bias}

-- the values of active states, and others elsewhere
abbrev mixed : List Bool → List ℚ → List ℚ → ℕ → ℚ
mixed active x inner s = filled_by x inner s (is_active active s)

-- the entries to states that aren't active, and all entries by values that are 0 there, make a sum over both kinds of values
module _ (active : List Bool) (inner x : List ℚ) (outside : (s : ℕ) → is_active active s ≡ false → value_at x s ≡ 0ℚ) where
  both_by : (y : Entry) (row : List Entry) (b : Bool) → is_active active y.target ≡ b
      → row_sum (outer active row) inner +ℚ row_sum row x ≡ weigh (λ (y : Entry). y.target) (λ (y : Entry). y.prob) (mixed active x inner) row
      → row_sum (if not b then y ∷ outer active row else outer active row) inner +ℚ row_sum (y ∷ row) x
      ≡ y.prob *ℚ filled_by x inner y.target b +ℚ weigh (λ (y : Entry). y.target) (λ (y : Entry). y.prob) (mixed active x inner) row
  both_by y row true e h =
      combine 5 (λ o r w p x. o ⊕ (p ⊗ x ⊕ r)) (λ o r w p x. p ⊗ x ⊕ w) (λ o r w p x. equal (lit (pos 1)) (o ⊕ r) w ∷ []) refl
      (row_sum (outer active row) inner) (row_sum row x) (weigh (λ (y : Entry). y.target) (λ (y : Entry). y.prob) (mixed active x inner) row) y.prob (value_at x y.target) h
  both_by y row false e h =
      combine 6 (λ o r w p x i. (p ⊗ i ⊕ o) ⊕ (p ⊗ x ⊕ r)) (λ o r w p x i. p ⊗ i ⊕ w) (λ o r w p x i. equal (lit (pos 1)) (o ⊕ r) w ∷ equal p x (lit (pos 0)) ∷ []) refl
      (row_sum (outer active row) inner) (row_sum row x) (weigh (λ (y : Entry). y.target) (λ (y : Entry). y.prob) (mixed active x inner) row) y.prob (value_at x y.target) (value_at inner y.target) h
      (outside y.target e)

  both : (row : List Entry) → row_sum (outer active row) inner +ℚ row_sum row x ≡ weigh (λ (y : Entry). y.target) (λ (y : Entry). y.prob) (mixed active x inner) row
  both [] = zero-+ℚ 0ℚ
  both (y ∷ row) = both_by y row (is_active active y.target) refl (both row)

-- what the bias is
pub record IsBias (j : Joining) (b : List ℚ) : Type 0 where
  pub len : length b ≡ states_of j.model
  pub outside : (s : ℕ) → s < states_of j.model → is_active j.active s ≡ false → value_at b s ≡ value_at j.inner s
  pub inside : (s : ℕ) → s < states_of j.model → is_active j.active s ≡ true
      → value_at b s ≡ (reward_at j s (slice_index j.policy s) -ℚ value_at j.gains s) +ℚ row_sum (row_at j.model s (slice_index j.policy s)) b

module _ (j : Joining) (rows : AreRows (policy_rows j)) (marks : length j.active ≡ states_of j.model) (ranks : List ℕ) (leaves : Leaves (policy_rows j) j.active ranks) where
  rows-len : length (policy_rows j) ≡ states_of j.model
  rows-len = length-map-range_with_len (λ s. row_at j.model s (slice_index j.policy s)) 0 (states_of j.model)

  row-at : (s : ℕ) → s < states_of j.model → row_of (policy_rows j) s ≡ row_at j.model s (slice_index j.policy s)
  row-at s l = get_or-map-range_with_len (λ s. row_at j.model s (slice_index j.policy s)) 0 (states_of j.model) s s [] l (zero-add s)

  filled-at : (x : List ℚ) (s : ℕ) → s < states_of j.model → value_at (filled j x) s ≡ filled_by x j.inner s (is_active j.active s)
  filled-at x s l = get_or-map-range_with_len (λ s. filled_by x j.inner s (is_active j.active s)) 0 (states_of j.model) s s 0ℚ l (zero-add s)

  constant-is : (s c : ℕ) (e : ℚ) → constant_by j s c true ≡ Some e → e ≡ (reward_at j s c -ℚ value_at j.gains s) +ℚ row_sum (outer j.active (row_at j.model s c)) j.inner
  constant-is s c e h =
      let p = step_told (written_sub (reward_at j s c) (value_at j.gains s)) (λ earned. written_sum j.inner earned (outer j.active (row_at j.model s c))) e (sym h) in
      written_sum-some j.inner p.0 (outer j.active (row_at j.model s c)) e p.2
      ∙ ap (λ (z : ℚ). z +ℚ row_sum (outer j.active (row_at j.model s c)) j.inner) (written_add-some (reward_at j s c) _ p.0 p.1)

  placed_part : {A : Type 0} (r : Result A ℕ) (x : A) → placed j.policy r ≡ Ok x → r ≡ Ok x
  placed_part (Ok y) x h = cc
  placed_part (Err s) x h = cc

  module _ (constants x : List ℚ) (made : IsUpTo (constant j) (states_of j.model) constants) (sol : IsSolution (policy_rows j) j.active constants x) where
    row_sum-filled : (s : ℕ) → s < states_of j.model
        → row_sum (outer j.active (row_at j.model s (slice_index j.policy s))) j.inner +ℚ row_sum (row_at j.model s (slice_index j.policy s)) x ≡ row_sum (row_at j.model s (slice_index j.policy s)) (filled j x)
    row_sum-filled s l =
        let row = row_at j.model s (slice_index j.policy s) in
        let is : IsRow (states_of j.model) row = subst (λ n. IsRow n row) rows-len (subst (λ (r : List Entry). IsRow (length (policy_rows j)) r) (row-at s l) (rows s [] (omega (arith, l, rows-len)))) in
        both j.active j.inner x sol.outside row
        ∙ weigh-same (λ (y : Entry). y.target) (λ (y : Entry). y.prob) (mixed j.active x j.inner) (value_at (filled j x)) row (λ k d u. sym (filled-at x _ (is.in_range k d u)))

    solved-inside : (s : ℕ) → s < states_of j.model → is_active j.active s ≡ true
        → value_at (filled j x) s ≡ (reward_at j s (slice_index j.policy s) -ℚ value_at j.gains s) +ℚ row_sum (row_at j.model s (slice_index j.policy s)) (filled j x)
    solved-inside s l a =
        let c = slice_index j.policy s in
        let e : constant_by j s c true ≡ Some (value_at constants s) = subst (λ (b : Bool). constant_by j s c b ≡ Some (value_at constants s)) a
        (place_part (evaluating j.policy s) (constant_by j s c (is_active j.active s)) (value_at constants s) (made.at s 0ℚ l)) in
        combine 7 (λ f x k e o r w. f) (λ f x k e o r w. e ⊕ w)
        (λ f x k e o r w. equal (lit (pos 1)) f x ∷ equal (lit (pos 1)) x (k ⊕ r) ∷ equal (lit (pos 1)) k (e ⊕ o) ∷ equal (lit (pos 1)) (o ⊕ r) w ∷ []) refl
        (value_at (filled j x) s) (value_at x s) (value_at constants s) (reward_at j s c -ℚ value_at j.gains s) (row_sum (outer j.active (row_at j.model s c)) j.inner) (row_sum (row_at j.model s c) x)
        (row_sum (row_at j.model s c) (filled j x))
        (filled-at x s l ∙ ap (filled_by x j.inner s) a) (sol.inside s a ∙ ap (λ (r : List Entry). value_at constants s +ℚ row_sum r x) (row-at s l)) (constant-is s c (value_at constants s) e)
        (row_sum-filled s l)

    filled-bias : IsBias j (filled j x)
    filled-bias = record {
      len = length-map-range_with_len (λ s. filled_by x j.inner s (is_active j.active s)) 0 (states_of j.model);
      outside = λ s l a. filled-at x s l ∙ ap (filled_by x j.inner s) a;
      inside = solved-inside;
    }

  pub bias-is : (b : List ℚ) → written_bias j ≡ Ok b → IsBias j b
  bias-is b h =
      let a = ok_part (up_to (constant j) (states_of j.model)) (solved j) b h in
      let p = ok_part (eliminated j a.0) (λ xs. Ok (filled j (slice_index_or xs 0 []))) b a.2 in
      let each : SolveEach (policy_rows j) j.active (a.0 ∷ []) p.0 =
      gives_solutions (policy_rows j) j.active ranks (a.0 ∷ []) p.0 (record { distributions = rows; marks = marks ∙ sym rows-len; leaves = leaves }) (inl refl)
      (placed_part (written_solution (policy_rows j) j.active (a.0 ∷ [])) p.0 p.1) in
      subst (IsBias j) (ok_same (filled j (slice_index_or p.0 0 [])) b p.2)
      (filled-bias a.0 (slice_index_or p.0 0 []) (up_to-is (constant j) (states_of j.model) a.0 a.1) (each.1 0 (omega arith)))
