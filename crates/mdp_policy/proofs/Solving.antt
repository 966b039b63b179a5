-- The values of a policy that written evaluation gives meet the rules for them.
use Rattle.std.proofs.Common.{◌≡◌, ℕ, ◌<◌, ◌≤◌, ◌⊎◌, inl, inr, Bool, true, false, not, if◌then◌else◌, List, [], ◌∷◌}
use Rattle.std.proofs.{Common.{length, get_or, Some, Result, Ok, Err, refl, sym, ◌∙◌, ap, ap₂, subst, arith, pos, zero-add}, Math.ListN.{get_or-eq_default}}
use Rattle.std.proofs.{lemmas.List.FromFn.{get_or-map-range_with_len, length-map-range_with_len}, lemmas.List.{get_or_default}}
use Rattle.std.specs.{List.{Any}, Prelude.{slice_index, slice_index_or, ◌&&◌}}
use Rattle.mdp_math.specs.Rational.{ℚ, ◌+ℚ◌}
use Rattle.mdp_math.proofs.{Booleans.{false_of_not}, Numbers.{le_or}, Ring.{◌⊕◌, lit, ring}, Laws.{rat_ring}, Order.{0ℚ, 1ℚ}, Kernel.{weigh-same, weigh-add}}
use Rattle.mdp_spec.specs.{Mdp.{Entry, Mdp, states_of, row_at, value_at}, Row.{IsMdp, IsRow, AreRows, row_sum}, Written.{written_sum}}
use Rattle.mdp_spec.specs.Tree.{IsPolicy, is_marked}
use Rattle.mdp_elim.specs.{System.{is_active, row_of, Leaves, IsSolution}, Solve.{written_solution}, Laws.{LeavingChain, GivesSolutions}}
use Rattle.mdp_graph.specs.{Sets.{marked}, Layers.{AreReached, AreLeastRanks}, Reach.{row_step}, Laws.{RowsFall, RowsStay}}
use Rattle.mdp_policy_iteration.specs.{Path.{outer, evaluating, placed}, Places.{Place, up_to}}
use Rattle.mdp_policy_iteration.proofs.{Compares.{written_sum-is}, Exact.{outer-same}, Results.{ok_same, ok_part, place_part, IsUpTo, up_to-is}}
use Rattle.mdp_reach.specs.Query.{policy_rows, AreMaxRanks}
use Rattle.mdp_reach.proofs.Rows.{row-known, goal-along, row-falls, row-stays}
use Rattle.mdp_policy.specs.Written.{is_under_way, under_way, goal_value, goal_values, constant_of, constant, value_by, values_by, eliminated, solved, evaluated}
use Rattle.mdp_policy.proofs.Values.{policy_row, IsUnderWay, MeetsPolicyValue}

module _ (m : Mdp) (policy : List ℕ) where
  pub policy_rows-len : length (policy_rows m policy) ≡ states_of m
  policy_rows-len = length-map-range_with_len (λ s. row_at m s (slice_index policy s)) 0 (states_of m)

  pub policy_rows-at : (s : ℕ) → s < states_of m → row_of (policy_rows m policy) s ≡ row_at m s (slice_index policy s)
  policy_rows-at s l = get_or-map-range_with_len (λ s. row_at m s (slice_index policy s)) 0 (states_of m) s s [] l (zero-add s)

-- the ranks along its rows
abbrev pub along_ranks : (m : Mdp) (goals : List Bool) (policy : List ℕ) (marks : List Bool) (ranks : List ℕ)
    → AreReached (row_step (policy_rows m policy)) (is_marked goals) (length (policy_rows m policy)) marks
    → AreLeastRanks (row_step (policy_rows m policy)) (is_marked goals) (length (policy_rows m policy)) marks ranks → AreMaxRanks m goals policy ranks
along_ranks m goals policy marks ranks reached least = record {
  marks = marks;
  reached = subst (λ (k : ℕ). AreReached (row_step (policy_rows m policy)) (is_marked goals) k marks) (policy_rows-len m policy) reached;
  least = subst (λ (k : ℕ). AreLeastRanks (row_step (policy_rows m policy)) (is_marked goals) k marks ranks) (policy_rows-len m policy) least;
}

if_true : {A : Type 0} (b : Bool) (x y : A) → b ≡ true → (if b then x else y) ≡ x
if_true b x y e = ap (λ (c : Bool). if c then x else y) e

if_false : {A : Type 0} (b : Bool) (x y : A) → b ≡ false → (if b then x else y) ≡ y
if_false b x y e = ap (λ (c : Bool). if c then x else y) e

way_by : (g r : Bool) → g ≡ false → r ≡ true → (not g && r) ≡ true
way_by g r e f = ap₂ (λ (a b : Bool). not a && b) e f

parts_by : (g r : Bool) → (not g && r) ≡ true → (g ≡ false) × (r ≡ true)
parts_by false true e = (refl, refl)
parts_by false false e = cc
parts_by true r e = cc

no_way : (g r : Bool) → r ≡ false → (not g && r) ≡ false
no_way false r e = e
no_way true r e = refl

placed_ok : {A : Type 0} (policy : List ℕ) (r : Result A ℕ) (x : A) → placed policy r ≡ Ok x → r ≡ Ok x
placed_ok policy (Ok y) x h = cc
placed_ok policy (Err s) x h = cc

any_mono : (P Q : Entry → Type 0) (es : List Entry) → ((y : Entry) → P y → Q y) → Any P es → Any Q es
any_mono P Q es f h = (h.0, h.1, h.2, h.3, f h.1 h.4)

module _ (m : Mdp) (goals marks : List Bool) where
  abbrev active : List Bool
  active = under_way m goals marks

  pub under_way-len : length active ≡ states_of m
  under_way-len = length-map-range_with_len (is_under_way goals marks) 0 (states_of m)

  active-at : (s : ℕ) → s < states_of m → is_active active s ≡ is_under_way goals marks s
  active-at s l = get_or-map-range_with_len (is_under_way goals marks) 0 (states_of m) s s false l (zero-add s)

  active-below : (s : ℕ) → is_active active s ≡ true → s < states_of m
  active-below s a = elim (le_or (states_of m) s) as (λ _. s < states_of m) [
    | inl past ↦ absurd (let n = under_way-len in let j : length active ≤ s = omega arith in let e = sym (get_or-eq_default active false j) ∙ a in cc)
    | inr l ↦ l
  ]

  active-parts : (s : ℕ) → is_active active s ≡ true → IsUnderWay m goals marks s
  active-parts s a =
      let l = active-below s a in
      let p = parts_by (is_marked goals s) (is_marked marks s) (sym (active-at s l) ∙ a) in
      (l, p.0, p.1)

  goal_values-at : (s : ℕ) → s < states_of m → value_at (goal_values m goals) s ≡ goal_value goals s
  goal_values-at s l = get_or-map-range_with_len (goal_value goals) 0 (states_of m) s s 0ℚ l (zero-add s)

  goal_values-active : (s : ℕ) → is_active active s ≡ true → value_at (goal_values m goals) s ≡ 0ℚ
  goal_values-active s a = let p = active-parts s a in goal_values-at s p.0 ∙ if_false (is_marked goals s) 1ℚ 0ℚ p.1

  pub values-len : (x : List ℚ) → length (values_by m goals x) ≡ states_of m
  values-len x = length-map-range_with_len (value_by goals x) 0 (states_of m)

  values-at : (x : List ℚ) (s : ℕ) → s < states_of m → value_at (values_by m goals x) s ≡ value_by goals x s
  values-at x s l = get_or-map-range_with_len (value_by goals x) 0 (states_of m) s s 0ℚ l (zero-add s)

module _ (m : Mdp) (goals : List Bool) (policy ranks : List ℕ) (known_ : IsMdp m) (is : IsPolicy m policy) (along : AreMaxRanks m goals policy ranks)
    (falls : RowsFall) (stays : RowsStay) where
  abbrev marks_ : List Bool
  marks_ = AreMaxRanks.marks along

  falling : (s : ℕ) → IsUnderWay m goals marks_ s → Any (λ y. get_or ranks y.target 0 < get_or ranks s 0) (policy_row m policy s)
  falling s p =
      any_mono (λ y. (y.target < states_of m) × (marked marks_ y.target ≡ true) × (slice_index ranks y.target < slice_index ranks s)) (λ y. get_or ranks y.target 0 < get_or ranks s 0)
      (policy_row m policy s)
      (λ y h. h.2) (row-falls m policy known_ is goals ranks along falls s p.0 p.2 p.1)

  -- the policy leaves the states under way
  pub policy_leaves : Leaves (policy_rows m policy) (under_way m goals marks_) ranks
  policy_leaves = record {
    falls = λ s l a.
        let p = active-parts m goals marks_ s a in
        subst (λ (row : List Entry). Any (λ y. (is_active (under_way m goals marks_) y.target ≡ false) ⊎ (slice_index ranks y.target < slice_index ranks s)) row) (sym (policy_rows-at m policy s p.0))
        (any_mono (λ y. get_or ranks y.target 0 < get_or ranks s 0) (λ y. (is_active (under_way m goals marks_) y.target ≡ false) ⊎ (slice_index ranks y.target < slice_index ranks s))
        (policy_row m policy s) (λ y h. inr h) (falling s p));
  }

  are_rows : AreRows (policy_rows m policy)
  are_rows = λ k d l.
      let n = policy_rows-len m policy in
      let i : k < states_of m = omega arith in
      subst (λ (r : List Entry). IsRow (length (policy_rows m policy)) r) (get_or_default (policy_rows m policy) k [] d l)
      (subst (λ (r : List Entry). IsRow (length (policy_rows m policy)) r) (sym (policy_rows-at m policy k i))
      (subst (λ (j : ℕ). IsRow j (policy_row m policy k)) (sym n) (row-known m policy known_ is k i)))

  chain : LeavingChain (policy_rows m policy) (under_way m goals marks_) ranks
  chain = record { distributions = are_rows; marks = under_way-len m goals marks_ ∙ sym (policy_rows-len m policy); leaves = policy_leaves }

  no_goal_at : (s : ℕ) → s < states_of m → is_marked marks_ s ≡ false → is_marked goals s ≡ false
  no_goal_at s l e = false_of_not (is_marked goals s) (λ g. let k : true ≡ false = sym (goal-along m policy known_ is goals ranks along s l g) ∙ e in cc)

  module _ (constants x : List ℚ) (made : up_to (constant m goals marks_ policy) (states_of m) ≡ Ok constants)
      (solution : IsSolution (policy_rows m policy) (under_way m goals marks_) constants x) where
    abbrev z : List ℚ
    z = values_by m goals x

    -- the constant of a state under way is what its row weighs of the goals
    constant_is : (s : ℕ) → IsUnderWay m goals marks_ s → value_at constants s ≡ row_sum (policy_row m policy s) (goal_values m goals)
    constant_is s p =
        let told : constant_of m goals marks_ policy s ≡ Some (value_at constants s) =
        place_part (evaluating policy s) (constant_of m goals marks_ policy s) (value_at constants s) (IsUpTo.at (up_to-is (constant m goals marks_ policy) (states_of m) constants made) s 0ℚ p.0) in
        let summed : written_sum (goal_values m goals) 0ℚ (outer (under_way m goals marks_) (policy_row m policy s)) ≡ Some (value_at constants s) =
        sym (if_true (is_under_way goals marks_ s) (written_sum (goal_values m goals) 0ℚ (outer (under_way m goals marks_) (policy_row m policy s))) (Some 0ℚ)
        (way_by (is_marked goals s) (is_marked marks_ s) p.1 p.2)) ∙ told in
        written_sum-is (goal_values m goals) 0ℚ (value_at constants s) (outer (under_way m goals marks_) (policy_row m policy s)) summed
        ∙ ring rat_ring 1 (λ a. lit (pos 0) ⊕ a) (λ a. a) refl (row_sum (outer (under_way m goals marks_) (policy_row m policy s)) (goal_values m goals))
        ∙ outer-same (under_way m goals marks_) (goal_values m goals) (goal_values-active m goals marks_) (policy_row m policy s)

    -- a value is what it counts at once and what was solved for
    value_parts : (t : ℕ) → t < states_of m → (b : Bool) → is_marked goals t ≡ b → value_at (goal_values m goals) t +ℚ value_at x t ≡ value_at z t
    value_parts t l true g =
        ap₂ (λ (u v : ℚ). u +ℚ v) (goal_values-at m goals marks_ t l ∙ if_true (is_marked goals t) 1ℚ 0ℚ g)
        (solution.outside t (active-at m goals marks_ t l ∙ ap (λ (c : Bool). not c && is_marked marks_ t) g))
        ∙ ring rat_ring 0 (lit (pos 1) ⊕ lit (pos 0)) (lit (pos 1)) refl
        ∙ sym (values-at m goals marks_ x t l ∙ if_true (is_marked goals t) 1ℚ (value_at x t) g)
    value_parts t l false g =
        ap (λ (u : ℚ). u +ℚ value_at x t) (goal_values-at m goals marks_ t l ∙ if_false (is_marked goals t) 1ℚ 0ℚ g)
        ∙ ring rat_ring 1 (λ a. lit (pos 0) ⊕ a) (λ a. a) refl (value_at x t)
        ∙ sym (values-at m goals marks_ x t l ∙ if_false (is_marked goals t) 1ℚ (value_at x t) g)

    solution_meets : MeetsPolicyValue m goals z policy marks_ ranks
    solution_meets = record {
      lengths = values-len m goals marks_ x;
      choices = is;
      at_goal = λ s l g. values-at m goals marks_ x s l ∙ if_true (is_marked goals s) 1ℚ (value_at x s) g;
      rest = λ s l e. (
        values-at m goals marks_ x s l
            ∙ if_false (is_marked goals s) 1ℚ (value_at x s) (no_goal_at s l e)
            ∙ solution.outside s (active-at m goals marks_ s l ∙ no_way (is_marked goals s) (is_marked marks_ s) e),
        row-stays m policy known_ is goals ranks along stays s l e,
      );
      evaluation = λ s p.
          values-at m goals marks_ x s p.0
          ∙ if_false (is_marked goals s) 1ℚ (value_at x s) p.1
          ∙ solution.inside s (active-at m goals marks_ s p.0 ∙ way_by (is_marked goals s) (is_marked marks_ s) p.1 p.2)
          ∙ ap₂ (λ (u v : ℚ). u +ℚ v) (constant_is s p) (ap (λ (row : List Entry). row_sum row x) (policy_rows-at m policy s p.0))
          ∙ sym (weigh-add (λ (y : Entry). y.target) (λ (y : Entry). y.prob) (value_at (goal_values m goals)) (value_at x) (policy_row m policy s))
          ∙ weigh-same (λ (y : Entry). y.target) (λ (y : Entry). y.prob) (λ v. value_at (goal_values m goals) v +ℚ value_at x v) (value_at z) (policy_row m policy s)
          (λ k d l.
          let t : ℕ = Entry.target (get_or (policy_row m policy s) k d) in
          value_parts t ((row-known m policy known_ is s p.0).in_range k d l) (is_marked goals t) refl);
      falls = falling;
    }

  pub evaluated_meets : GivesSolutions → (values : List ℚ) → evaluated m goals marks_ policy ≡ Ok values → MeetsPolicyValue m goals values policy marks_ ranks
  evaluated_meets gives values h =
      let a = ok_part (up_to (constant m goals marks_ policy) (states_of m)) (solved m goals marks_ policy) values h in
      let after : List (List ℚ) → Result (List ℚ) Place = λ xs. Ok (values_by m goals (slice_index_or xs 0 [])) in
      let b = ok_part (eliminated m goals marks_ policy a.0) after values a.2 in
      let each = gives (policy_rows m policy) (under_way m goals marks_) ranks (a.0 ∷ []) b.0 chain (inl refl)
      (placed_ok policy (written_solution (policy_rows m policy) (under_way m goals marks_) (a.0 ∷ [])) b.0 b.1) in
      subst (λ (v : List ℚ). MeetsPolicyValue m goals v policy marks_ ranks) (ok_same (values_by m goals (slice_index_or b.0 0 [])) values b.2)
      (solution_meets a.0 (slice_index_or b.0 0 []) a.1 (each.1 0 (omega arith)))

pub evaluated-len : (m : Mdp) (goals marks : List Bool) (policy : List ℕ) (values : List ℚ) → evaluated m goals marks policy ≡ Ok values → length values ≡ states_of m
evaluated-len m goals marks policy values h =
    let a = ok_part (up_to (constant m goals marks policy) (states_of m)) (solved m goals marks policy) values h in
    let after : List (List ℚ) → Result (List ℚ) Place = λ xs. Ok (values_by m goals (slice_index_or xs 0 [])) in
    let b = ok_part (eliminated m goals marks policy a.0) after values a.2 in
    ap length (sym (ok_same (values_by m goals (slice_index_or b.0 0 [])) values b.2)) ∙ values-len m goals marks (slice_index_or b.0 0 [])
