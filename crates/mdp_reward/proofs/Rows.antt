-- Sets of states that rows lead into or stay in, and the rows of a policy with the ranks along them.
use Rattle.std.proofs.Common.{◌≡◌, ℕ, ◌<◌, Bool, true, false, ◌&&◌, nat_lt, List, [], ◌∷◌, length, refl, sym, subst, zero-add, arith, if◌then◌else◌}
use Rattle.std.proofs.{lemmas.Bool.Decides.{nat_tests}, lemmas.List.FromFn.{get_or-map-range_with_len}, lemmas.List.Folds.{Any-from_list_any, list_any_at}}
use Rattle.std.specs.{List.{All, Any}, Prelude.{slice_index}}
use Rattle.mdp_math.proofs.Booleans.{and-right, false_of_not}
use Rattle.mdp_spec.specs.{Mdp.{Mdp, Entry, Choice, no_choice, states_of, row_at, choices_at}, Row.{IsMdp}, Tree.{IsPolicy, is_marked}}
use Rattle.mdp_rows.proofs.Queries.Policies.{rows-len, row-is, are_rows}
use Rattle.mdp_graph.specs.{Sets.{marked, can_enter, stays_in, each_choice}, Layers.{reached, AreReached, AreLeastRanks}, Reach.{row_step}}
use Rattle.mdp_graph.specs.Laws.{RowsFall, RowsStay}
use Rattle.mdp_graph.proofs.RowSets.{list_all-at, list_all-by}
use Rattle.mdp_reward.specs.Query.{split, policy_rows}

pub any_mono : (P Q : Entry → Type 0) (row : List Entry) → ((x : Entry) → P x → Q x) → Any P row → Any Q row
any_mono P Q row f h = (h.0, h.1, h.2, h.3, f h.1 h.4)

pub lt_of_test : (i k : ℕ) → nat_lt i k ≡ true → i < k
lt_of_test i k e = grind (arith, nat_tests)

-- ---- tests of rows

pub none_in : (set : ℕ → Bool) (row : List Entry) → can_enter set row ≡ false → All (λ y. set y.target ≡ false) row
none_in set row e = λ k d l. false_of_not (set _) (λ f. let h = list_any_at (λ (y : Entry). set y.target) row k d l f in cc)

pub all_in : (set : ℕ → Bool) (row : List Entry) → stays_in set row ≡ true → All (λ y. set y.target ≡ true) row
all_in set row e = λ k d l. list_all-at (λ (y : Entry). set y.target) row d e k l

pub stays_by_all : (set : ℕ → Bool) (row : List Entry) → All (λ y. set y.target ≡ true) row → stays_in set row ≡ true
stays_by_all set [] h = refl
stays_by_all set (y ∷ row) h = list_all-by (λ (y : Entry). set y.target) (y ∷ row) y (λ k l. h k y l)

pub each-true : (test : List Entry → Bool) (m : Mdp) (s c : ℕ) → c < length (choices_at m s) → each_choice test m s ≡ true → test (row_at m s c) ≡ true
each-true test m s c l e = list_all-at (λ (x : Choice). test x.row) (choices_at m s) no_choice e c l

-- ---- two lists, one at the marked states and one at the others

pub split-at : (m : Mdp) (marks : List Bool) (inside outside : List ℕ) (s : ℕ) → s < states_of m
    → slice_index (split m marks inside outside) s ≡ (if is_marked marks s then slice_index inside s else slice_index outside s)
split-at m marks inside outside s l =
    get_or-map-range_with_len (λ s. if is_marked marks s then slice_index inside s else slice_index outside s) 0 (states_of m) s s 0 l (zero-add s)

-- ---- the rows of a policy

module _ (m : Mdp) (policy : List ℕ) where
  abbrev row : ℕ → List Entry
  row s = row_at m s (slice_index policy s)

  module _ (model : IsMdp m) (is : IsPolicy m policy) where
    -- ---- the ranks along them

    module _ (goals marks : List Bool) (along : List ℕ) (marking : AreReached (row_step (policy_rows m policy)) (is_marked goals) (states_of m) marks)
        (ranking : AreLeastRanks (row_step (policy_rows m policy)) (is_marked goals) (states_of m) marks along) where
      abbrev rank : ℕ → ℕ
      rank s = slice_index along s

      as_rows : AreReached (row_step (policy_rows m policy)) (marked goals) (length (policy_rows m policy)) marks
      as_rows = subst (λ (n : ℕ). AreReached (row_step (policy_rows m policy)) (marked goals) n marks) (sym (rows-len m policy)) marking

      least_as_rows : AreLeastRanks (row_step (policy_rows m policy)) (marked goals) (length (policy_rows m policy)) marks along
      least_as_rows = subst (λ (n : ℕ). AreLeastRanks (row_step (policy_rows m policy)) (marked goals) n marks along) (sym (rows-len m policy)) ranking

      below_rows : (s : ℕ) → s < states_of m → s < length (policy_rows m policy)
      below_rows s l = let n = rows-len m policy in omega arith

      -- a goal is marked and has rank 0
      pub goal-along : (s : ℕ) → s < states_of m → is_marked goals s ≡ true → is_marked marks s ≡ true
      unfolding reached
      goal-along s l g = (marking.marks_reached s l).1 (0, g)

      pub goal-along_rank : (s : ℕ) → s < states_of m → is_marked goals s ≡ true → rank s ≡ 0
      unfolding reached
      goal-along_rank s l g = let h = ranking.least s 0 l g in omega arith

      abbrev falling : ℕ → ℕ → Bool
      falling s t = marked marks t && nat_lt (rank t) (rank s)

      -- the row of another marked state leads to a smaller rank
      pub row-falls : RowsFall → (s : ℕ) → s < states_of m → is_marked marks s ≡ true → is_marked goals s ≡ false → Any (λ y. rank y.target < rank s) (row s)
      row-falls falls s l e g =
          let h = falls (policy_rows m policy) goals marks along (are_rows m policy model is) as_rows least_as_rows s (below_rows s l) e g in
          any_mono (λ y. falling s y.target ≡ true) (λ y. rank y.target < rank s) (row s)
          (λ y f. lt_of_test (rank y.target) (rank s) (and-right (marked marks y.target) (nat_lt (rank y.target) (rank s)) f))
          (Any-from_list_any (λ (y : Entry). falling s y.target) (row s) (subst (λ (r : List Entry). can_enter (falling s) r ≡ true) (row-is m policy s l) h))

      -- that of a state that isn't marked leads to no marked one
      pub row-stays : RowsStay → (s : ℕ) → s < states_of m → is_marked marks s ≡ false → All (λ y. is_marked marks y.target ≡ false) (row s)
      row-stays stays s l e =
          none_in (marked marks) (row s)
          (subst (λ (r : List Entry). can_enter (marked marks) r ≡ false) (row-is m policy s l) (stays (policy_rows m policy) goals marks (are_rows m policy model is) as_rows s (below_rows s l) e))
