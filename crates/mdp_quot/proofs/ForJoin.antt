-- What the two answers give for joining the values of the nodes to values of the states.
use Rattle.std.proofs.Common.{◌≡◌, ℕ, ◌<◌, false, List, length, get_or, ◌∙◌, subst, Option, Some, pos}
use Rattle.mdp_math.specs.Rational.{ℚ, of_int, ◌+ℚ◌, ◌≤ℚ◌}
use Rattle.mdp_spec.specs.{Mdp.{Mdp, Entry, states_of, choices_at, value_at}, Row.{IsMdp, row_sum}}
use Rattle.mdp_rows.specs.{declared.dir.Dir.{Dir}, declared.dir.Dir.TheVariants.{Max, Min}}
use Rattle.mdp_ends.specs.{Ends.{AreEnds, part_of, is_inside}, Quotient.{node_row}, Join.{over}}
use Rattle.mdp_ends.specs.Join as join
use Rattle.mdp_rows.specs.Better as better
use Rattle.mdp_quot.specs.{Quotient.{Quotient, IsQuotient}, Steps.{IsLongest}, Outer.{Answer, IsBestOuter}}
use Rattle.mdp_quot.proofs.InModel.{node_below, component-is, exit_place}

as_good : (dir : Dir) (x y : ℚ) → better.IsAsGood dir x y → join.IsAsGood dir x y
as_good Max x y h = h
as_good Min x y h = h

module _ (m : Mdp) (ok : IsMdp m) (parts : List (Option ℕ)) (are : AreEnds m parts) (q : Quotient) (is : IsQuotient m parts q) where
  abbrev node_of : ℕ → ℕ
  node_of s = get_or q.nodes s 0

  -- ---- the best gains

  module _ (dir : Dir) (gains : List ℚ) (a : Answer) (best : IsBestOuter dir q gains a) where
    pub at_part : (s i : ℕ) → s < states_of m → part_of parts s ≡ Some i → join.IsAsGood dir (value_at a.values (node_of s)) (value_at gains i)
    at_part s i l e =
        as_good dir (value_at a.values (node_of s)) (value_at gains i)
        (best.gain (node_of s) i (node_below m ok parts are q is s l) (component-is m ok parts are q is s l ∙ e))

    pub at_exit : (s c : ℕ) → s < states_of m → c < length (choices_at m s) → is_inside m parts s c ≡ false
        → join.IsAsGood dir (value_at a.values (node_of s)) (over (value_at a.values) (node_row m q.nodes s c))
    at_exit s c l h out =
        let w = exit_place m ok parts are q is s c l h out in
        subst (λ (row : List Entry). join.IsAsGood dir (value_at a.values (node_of s)) (row_sum row a.values)) w.2
        (as_good dir (value_at a.values (node_of s)) _ (best.exit (node_of s) w.0 (node_below m ok parts are q is s l) w.1))

  -- ---- the greatest number of exits

  pub falls : (n : List ℚ) → IsLongest q n → (s c : ℕ) → s < states_of m → c < length (choices_at m s) → is_inside m parts s c ≡ false
      → of_int (pos 1) +ℚ over (value_at n) (node_row m q.nodes s c) ≤ℚ value_at n (node_of s)
  falls n longest s c l h out =
      let w = exit_place m ok parts are q is s c l h out in
      subst (λ (row : List Entry). of_int (pos 1) +ℚ row_sum row n ≤ℚ value_at n (node_of s)) w.2 (longest.each (node_of s) w.0 (node_below m ok parts are q is s l) w.1)
