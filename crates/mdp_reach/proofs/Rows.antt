-- Sets of states that rows lead into or not, and the rows of a policy with the ranks along them.
use Rattle.std.proofs.Common.{◌≡◌, ℕ, zero, suc, ◌<◌, Bool, true, false, ◌&&◌, nat_lt, List, [], ◌∷◌, get_or, length, replicate, refl, sym, subst, arith}
use Rattle.std.proofs.lemmas.List.Folds.{Any-from_list_any, list_any_at}
use Rattle.std.specs.{List.{All, Any, list_all}, Prelude.{slice_index}}
use Rattle.mdp_math.proofs.{Booleans.{and-left, and-right, false_of_not}, Kernel.{Any-and}}
use Rattle.mdp_spec.specs.{Mdp.{Mdp, Entry, Choice, no_choice, states_of, row_at, choices_at}, Row.{IsMdp}, Tree.{IsPolicy, is_marked}}
pub use Rattle.mdp_rows.proofs.Queries.Policies.{row-known}
use Rattle.mdp_rows.proofs.Queries.Policies.{rows-len, row-is, are_rows}
use Rattle.mdp_graph.specs.{Sets.{marked, can_enter, stays_in, some_choice, each_choice}, Layers.{reached, AreReached, AreLeastRanks}, Reach.{row_step}}
use Rattle.mdp_graph.specs.Laws.{RowsFall, RowsStay}
use Rattle.mdp_reach.specs.Query.{policy_rows, AreMaxRanks}
use Rattle.mdp_reach.proofs.Starts.{lt_of_test}

-- ---- tests of rows

pub none_in : (set : ℕ → Bool) (row : List Entry) → can_enter set row ≡ false → All (λ y. set y.target ≡ false) row
none_in set row e = λ k d l. false_of_not (set _) (λ f. let h = list_any_at (λ (y : Entry). set y.target) row k d l f in cc)

pub some-false : (test : List Entry → Bool) (m : Mdp) (s c : ℕ) → c < length (choices_at m s) → some_choice test m s ≡ false → test (row_at m s c) ≡ false
some-false test m s c l e = false_of_not (test (row_at m s c)) (λ f. let h = list_any_at (λ (x : Choice). test x.row) (choices_at m s) c no_choice l f in cc)

list_all-at : {A : Type 0} (test : A → Bool) (xs : List A) (k : ℕ) (d : A) → k < length xs → list_all test xs ≡ true → test (get_or xs k d) ≡ true
list_all-at test [] k d l e = absurd (omega arith)
list_all-at test (x ∷ xs) zero d l e = and-left (test x) (list_all test xs) e
list_all-at test (x ∷ xs) (suc k) d l e = list_all-at test xs k d (omega arith) (and-right (test x) (list_all test xs) e)

pub all_in : (set : ℕ → Bool) (row : List Entry) → stays_in set row ≡ true → All (λ y. set y.target ≡ true) row
all_in set row e = λ k d l. list_all-at (λ (y : Entry). set y.target) row k d l e

pub each-true : (test : List Entry → Bool) (m : Mdp) (s c : ℕ) → c < length (choices_at m s) → each_choice test m s ≡ true → test (row_at m s c) ≡ true
each-true test m s c l e = list_all-at (λ (x : Choice). test x.row) (choices_at m s) c no_choice l e

pub no_mark : (n s : ℕ) → marked (replicate n false) s ≡ false
no_mark zero s = refl
no_mark (suc n) zero = refl
no_mark (suc n) (suc s) = no_mark n s

-- ---- the rows of a policy

module _ (m : Mdp) (policy : List ℕ) where
  abbrev row : ℕ → List Entry
  row s = row_at m s (slice_index policy s)

  module _ (model : IsMdp m) (is : IsPolicy m policy) where
    -- ---- the ranks along them

    module _ (goals : List Bool) (ranks : List ℕ) (along : AreMaxRanks m goals policy ranks) where
      abbrev rank : ℕ → ℕ
      rank s = slice_index ranks s

      as_rows : AreReached (row_step (policy_rows m policy)) (marked goals) (length (policy_rows m policy)) along.marks
      as_rows = subst (λ (n : ℕ). AreReached (row_step (policy_rows m policy)) (marked goals) n along.marks) (sym (rows-len m policy)) along.reached

      least_as_rows : AreLeastRanks (row_step (policy_rows m policy)) (marked goals) (length (policy_rows m policy)) along.marks ranks
      least_as_rows = subst (λ (n : ℕ). AreLeastRanks (row_step (policy_rows m policy)) (marked goals) n along.marks ranks) (sym (rows-len m policy)) along.least

      below_rows : (s : ℕ) → s < states_of m → s < length (policy_rows m policy)
      below_rows s l = let n = rows-len m policy in omega arith

      pub goal-along : (s : ℕ) → s < states_of m → is_marked goals s ≡ true → marked along.marks s ≡ true
      unfolding reached
      goal-along s l g = (along.reached.marks_reached s l).1 (0, g)

      -- a marked state has rank 0 where it is a goal
      pub goal-rank : (s : ℕ) → s < states_of m → is_marked goals s ≡ true → rank s ≡ 0
      unfolding reached
      goal-rank s l g = let h = along.least.least s 0 l g in omega arith

      abbrev falling : ℕ → ℕ → Bool
      falling s t = marked along.marks t && nat_lt (rank t) (rank s)

      -- the row of another marked state leads to a marked one of smaller rank
      pub row-falls : RowsFall → (s : ℕ) → s < states_of m → marked along.marks s ≡ true → is_marked goals s ≡ false
          → Any (λ y. (y.target < states_of m) × (marked along.marks y.target ≡ true) × (rank y.target < rank s)) (row s)
      row-falls falls s l e g =
          let h = falls (policy_rows m policy) goals along.marks ranks (are_rows m policy model is) as_rows least_as_rows s (below_rows s l) e g in
          let a = Any-and (λ y. y.target < states_of m) (λ y. falling s y.target ≡ true) (row s) (row-known m policy model is s l).in_range
          (Any-from_list_any (λ (y : Entry). falling s y.target) (row s) (subst (λ (r : List Entry). can_enter (falling s) r ≡ true) (row-is m policy s l) h)) in
          let t = Entry.target a.1 in (
            a.0,
            a.1,
            a.2,
            a.3,
            (a.4.0, and-left (marked along.marks t) (nat_lt (rank t) (rank s)) a.4.1, lt_of_test (rank t) (rank s) (and-right (marked along.marks t) (nat_lt (rank t) (rank s)) a.4.1)),
          )

      -- that of a state that isn't marked leads to no marked one
      pub row-stays : RowsStay → (s : ℕ) → s < states_of m → marked along.marks s ≡ false → All (λ y. marked along.marks y.target ≡ false) (row s)
      row-stays stays s l e =
          none_in (marked along.marks) (row s)
          (subst (λ (r : List Entry). can_enter (marked along.marks) r ≡ false) (row-is m policy s l) (stays (policy_rows m policy) goals along.marks (are_rows m policy model is) as_rows s (below_rows s l) e))
