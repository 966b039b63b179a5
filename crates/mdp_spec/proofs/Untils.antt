-- Until, by the first step of the tree: 1 at a goal, 0 at any other state that doesn't stay or where the tree ends, and at a node the
-- average over the choices, by the weights, of the sum over the row of probability times what comes behind.
use Rattle.std.proofs.{Common.{◌≡◌, ℕ, zero, suc, ◌*◌, ◌≤◌, Bool, true, false, cond, List, sym, ◌∙◌, ap, pos}, Math.Nat.{pow-zero}}
use Rattle.mdp_math.specs.Rational.{ℚ, of_int, ratio, ◌*ℚ◌}
use Rattle.mdp_math.proofs.Order.{0ℚ, 1ℚ, div-of_int}
use Rattle.mdp_spec.specs.{Mdp.{Entry, Mdp}, Row.{IsMdp}, Unit.{unit_of}, Tree.{Tree, paths, is_marked}, Tree.Tree.{leaf, node}}
use Rattle.mdp_spec.proofs.Hits.{mixed, paths-pos, of_nat-paths_suc, ratio-is, ratio-self, ratio-none, node_counts}
use Rattle.mdp_spec.specs.Until.{untils, until}

marked : (b : Bool) (x y : ℕ) → b ≡ true → cond b x y ≡ x
marked b x y e = ap (λ (c : Bool). cond c x y) e

unmarked : (b : Bool) (x y : ℕ) → b ≡ false → cond b x y ≡ y
unmarked b x y e = ap (λ (c : Bool). cond c x y) e

module _ (m : Mdp) (stay goals : List Bool) (u : ℕ) where
  untils-goal : (n : ℕ) (t : Tree) (s : ℕ) → is_marked goals s ≡ true → untils m stay goals u n t s ≡ paths m u n
  untils-goal zero t s g = marked (is_marked goals s) 1 0 g ∙ sym (pow-zero (u * unit_of m))
  untils-goal (suc n) leaf s g = marked (is_marked goals s) _ _ g
  untils-goal (suc n) (node a kids) s g = marked (is_marked goals s) _ _ g

  untils-away : (n : ℕ) (t : Tree) (s : ℕ) → is_marked goals s ≡ false → is_marked stay s ≡ false → untils m stay goals u n t s ≡ 0
  untils-away zero t s g a = unmarked (is_marked goals s) 1 0 g
  untils-away (suc n) leaf s g a = unmarked (is_marked goals s) _ 0 g
  untils-away (suc n) (node weights kids) s g a = unmarked (is_marked goals s) _ _ g ∙ unmarked (is_marked stay s) _ 0 a

  pub until-goal : (n : ℕ) (t : Tree) (s : ℕ) → 1 ≤ u → is_marked goals s ≡ true → until m stay goals u n t s ≡ 1ℚ
  unfolding until
  until-goal n t s h g = ap (λ (k : ℕ). ratio (pos k) (paths m u n)) (untils-goal n t s g) ∙ ratio-self (paths m u n) (paths-pos m u n h)

  pub until-away : (n : ℕ) (t : Tree) (s : ℕ) → 1 ≤ u → is_marked goals s ≡ false → is_marked stay s ≡ false → until m stay goals u n t s ≡ 0ℚ
  unfolding until
  until-away n t s h g a = ap (λ (k : ℕ). ratio (pos k) (paths m u n)) (untils-away n t s g a) ∙ ratio-none (paths m u n) (paths-pos m u n h)

  pub until-end : (t : Tree) (s : ℕ) → 1 ≤ u → is_marked goals s ≡ false → until m stay goals u 0 t s ≡ 0ℚ
  unfolding until
  until-end t s h g = ap (λ (k : ℕ). ratio (pos k) (paths m u 0)) (unmarked (is_marked goals s) 1 0 g) ∙ ratio-none (paths m u 0) (paths-pos m u 0 h)

  of_nat-untils : (n : ℕ) (t : Tree) (s : ℕ) → 1 ≤ u → of_int (pos (untils m stay goals u n t s)) ≡ until m stay goals u n t s *ℚ of_int (pos (paths m u n))
  unfolding until
  of_nat-untils n t s h = sym (div-of_int (pos (untils m stay goals u n t s)) (paths m u n) (paths-pos m u n h))

  pub until-node : (n : ℕ) (weights : ℕ → ℕ) (kids : ℕ → ℕ → Tree) (s : ℕ) → IsMdp m → 1 ≤ u → is_marked goals s ≡ false → is_marked stay s ≡ true
      → until m stay goals u (suc n) (node weights kids) s ≡ mixed m u weights (λ c e y. until m stay goals u n (kids c e) y.target) s
  unfolding until
  until-node n weights kids s known hu g a =
      let f : ℕ → ℕ → Entry → ℚ = λ c e y. until m stay goals u n (kids c e) y.target in
      ap (λ (k : ℕ). ratio (pos k) (paths m u (suc n))) (unmarked (is_marked goals s) (paths m u (suc n)) _ g ∙ marked (is_marked stay s) _ 0 a)
      ∙ ratio-is (pos _) (paths m u (suc n)) (mixed m u weights f s) (paths-pos m u (suc n) hu)
      (node_counts m u (paths m u n) s weights (λ c e y. untils m stay goals u n (kids c e) y.target) f known hu (λ c e y. of_nat-untils n (kids c e) y.target hu)
      ∙ ap (λ (w : ℚ). mixed m u weights f s *ℚ w) (sym (of_nat-paths_suc m u n)))
