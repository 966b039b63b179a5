-- Written sums over the rows of two components whose values are the same at the states.
use Rattle.std.proofs.Common.{◌≡◌, ℕ, ◌<◌, Bool, true, false, if◌then◌else◌, List, [], ◌∷◌, length, map, Option, Some, None, refl, sym, ◌∙◌, ap, pos}
use Rattle.std.specs.{List.{All}, Prelude.{slice_index}}
use Rattle.mdp_math.specs.{Rational.{ℚ, of_int}, Written.{written_add, written_mul, ◌>>=◌}}
use Rattle.mdp_math.proofs.Kernel.{All-head, All-tail}
use Rattle.mdp_num.specs.Written.{written_div}
use Rattle.mdp_spec.specs.{Mdp.{Entry, value_at}, Written.{written_sum}}
use Rattle.mdp_rows.specs.declared.dir.Dir.{Dir}
use Rattle.mdp_policy_iteration.specs.Candidates.{Best, judged}
use Rattle.mdp_unichain.specs.{Component.{Component, Choice, count, row_by, reward_by, IsPolicy}, Sums.{written_ratio, written_worth, compared}}
use Rattle.mdp_gain.specs.Renumbering.{renamed, IsSameChoice, IsRenumbering, spread}
use Rattle.mdp_gain.proofs.RenumberedChoices.{row-there, reward-there, targets-below}

-- u has at each state what x has at its place
abbrev pub AreSameValues : List ℕ → List ℚ → List ℚ → Type 0
AreSameValues states x u = (j : ℕ) → j < length states → value_at u (slice_index states j) ≡ value_at x j

then_same : (o : Option ℚ) (f g : ℚ → Option ℚ) → ((x : ℚ) → f x ≡ g x) → (o >>= f) ≡ (o >>= g)
then_same None f g h = refl
then_same (Some x) f g h = h x

module _ (states : List ℕ) (x u : List ℚ) (same : AreSameValues states x u) where
  -- a row of the small component sums to the same in the big one
  pub sum-there : (row : List Entry) (acc : ℚ) → All (λ e. e.target < length states) row → written_sum u acc (map (renamed states) row) ≡ written_sum x acc row
  sum-there [] acc h = refl
  sum-there (e ∷ row) acc h =
      ap (λ (v : ℚ). written_mul e.prob v >>= (λ term. written_add acc term >>= (λ sum. written_sum u sum (map (renamed states) row))))
      (same e.target (All-head (λ e. e.target < length states) e row h))
      ∙ then_same (written_mul e.prob (value_at x e.target)) (λ term. written_add acc term >>= (λ sum. written_sum u sum (map (renamed states) row)))
      (λ term. written_add acc term >>= (λ sum. written_sum x sum row))
      (λ term. then_same (written_add acc term) (λ sum. written_sum u sum (map (renamed states) row)) (λ sum. written_sum x sum row)
      (λ sum. sum-there row sum (All-tail (λ e. e.target < length states) e row h)))

  -- what a choice of the component is worth
  worth-there : (a b : Choice) → IsSameChoice states a b → b.inner ≡ true → written_worth u b ≡ written_worth x a
  worth-there a b k e =
      ap (λ (reward : ℚ). written_sum u reward b.row) (k.reward e) ∙ ap (written_sum u a.reward) (k.row e) ∙ sum-there a.row a.reward (k.targets e)

  module _ (dir : Dir) (c : ℕ) (a b : Choice) (k : IsSameChoice states a b) (best : Best) where
    compared_by : (i : Bool) → b.inner ≡ i
        → (if i then (written_worth u b >>= judged dir c best) else Some best) ≡ (if i then (written_worth x a >>= judged dir c best) else Some best)
    compared_by true e = ap (λ (o : Option ℚ). o >>= judged dir c best) (worth-there a b k e)
    compared_by false e = refl

    -- a choice takes the place of the best one in both or in none
    pub compared-there : compared dir u c b best ≡ compared dir x c a best
    compared-there =
        compared_by b.inner refl ∙ ap (λ (i : Bool). if i then (written_worth x a >>= judged dir c best) else Some best) (sym k.inner)

-- what is earned from t back to t by the number of steps
module _ (states : List ℕ) (small big : Component) (R : IsRenumbering states small big) (p : List ℕ) (is : IsPolicy small p) (x y u v : List ℚ)
    (xs : AreSameValues states x u) (ys : AreSameValues states y v) (t : ℕ) (l : t < length states) where
  abbrev there : List ℕ
  there = spread states (count big) p

  abbrev target : ℕ
  target = slice_index states t

  earned-there : written_sum u (reward_by big there target) (row_by big there target) ≡ written_sum x (reward_by small p t) (row_by small p t)
  earned-there =
      ap (λ (reward : ℚ). written_sum u reward (row_by big there target)) (reward-there states small big R p is t l)
      ∙ ap (written_sum u (reward_by small p t)) (row-there states small big R p is t l)
      ∙ sum-there states x u xs (row_by small p t) (reward_by small p t) (targets-below states small big R p is t l)

  steps-there : written_sum v (of_int (pos 1)) (row_by big there target) ≡ written_sum y (of_int (pos 1)) (row_by small p t)
  steps-there =
      ap (written_sum v (of_int (pos 1))) (row-there states small big R p is t l)
      ∙ sum-there states y v ys (row_by small p t) (of_int (pos 1)) (targets-below states small big R p is t l)

  pub ratio-there : written_ratio big (spread states (count big) p) (slice_index states t) u v ≡ written_ratio small p t x y
  ratio-there =
      ap (λ (o : Option ℚ). o >>= (λ earned. written_sum v (of_int (pos 1)) (row_by big there target) >>= (λ steps. written_div earned steps))) earned-there
      ∙ ap (λ (o : Option ℚ). written_sum x (reward_by small p t) (row_by small p t) >>= (λ earned. o >>= (λ steps. written_div earned steps))) steps-there
