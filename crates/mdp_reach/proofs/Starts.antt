-- The start of a query is a policy of its problem and leaves its open states: for the greatest probability by the ranks of shortest ways, for the
-- least one since goals can't be avoided there.
use Rattle.std.proofs.Common.{◌≡◌, ℕ, zero, suc, ◌<◌, ◌≤◌, ◌⊎◌, inl, inr, Bool, true, false, ◌&&◌, ◌||◌, nat_lt, List, length, map, refl, sym, ◌∙◌, subst, arith}
use Rattle.std.proofs.{Common.{zero-add, if◌then◌else◌}, lemmas.Bool.Decides.{nat_tests}}
use Rattle.std.proofs.{lemmas.List.FromFn.{get_or-map-range_with_len, length-map-range_with_len}, lemmas.List.Folds.{Any-from_list_any}}
use Rattle.std.specs.{Prelude.{slice_index}, List.{Any, range_with_len}}
use Rattle.mdp_math.proofs.{Booleans.{and-right, not_true}, Kernel.{Any-and}, Numbers.{le_or}}
use Rattle.mdp_spec.specs.{Mdp.{Mdp, Entry, states_of, row_at}, Row.{IsMdp, IsRow}, Tree.{is_marked}}
use Rattle.mdp_spec.specs.Tree as tree
use Rattle.mdp_rows.specs.{declared.dir.Dir.{Dir}, declared.dir.Dir.TheVariants.{Max, Min}}
use Rattle.mdp_graph.specs.{Sets.{marked}, Layers.{reached}, Choices.{AreLeast}, Laws.{policy_step, RestMeets}}
use Rattle.mdp_elim.specs.System.{is_active, row_of}
use Rattle.mdp_policy_iteration.specs.{Problem.{Problem, active_of, rows_of, IsPolicy}, Values.{CanLeave}, Laws.{IsSolvable}}
use Rattle.mdp_reach.specs.{Problem.{reach_problem}, Query.{IsMaxStart, IsMinStart, IsStart}}
use Rattle.mdp_reach.proofs.{Nodes.{reach-count, reach-known, reach-keeps}, Policies.{is-policy, IsOpen, active-open, open-row}}

-- the choices of a pass are a policy of the model
pub least-policy : (m : Mdp) (targets marks : List Bool) (test : ℕ → ℕ → Bool) (choices : List ℕ) → AreLeast m targets marks test choices → tree.IsPolicy m choices
least-policy m targets marks test choices l = record { one_each = l.count; in_range = l.in_range }

any_mono : (P Q : Entry → Type 0) (row : List Entry) → ((x : Entry) → P x → Q x) → Any P row → Any Q row
any_mono P Q row f h = (h.0, h.1, h.2, h.3, f h.1 h.4)

pub lt_of_test : (i k : ℕ) → nat_lt i k ≡ true → i < k
lt_of_test i k e = grind (arith, nat_tests)

-- ---- the greatest probability

module _ (m : Mdp) (goals marks : List Bool) (start : List ℕ) (known : IsMdp m) (s : IsMaxStart m goals marks start) where
  abbrev q : Problem
  q = reach_problem Max m goals marks

  start-is : IsPolicy q start
  start-is = is-policy Max m goals marks start (least-policy m goals marks _ start s.choices)

  abbrev rank : ℕ → ℕ
  rank t = slice_index s.ranks t

  falls_at : (t : ℕ) → IsOpen Max m goals marks start start-is t
      → Any (λ y. (is_active (active_of q start) y.target ≡ false) ⊎ (rank y.target < rank t)) (row_of (rows_of q start) t)
  falls_at t h =
      subst (Any (λ y. (is_active (active_of q start) y.target ≡ false) ⊎ (rank y.target < rank t))) (sym (open-row Max m goals marks start start-is t h))
      (any_mono (λ y. (marked marks y.target && nat_lt (rank y.target) (rank t)) ≡ true) (λ y. (is_active (active_of q start) y.target ≡ false) ⊎ (rank y.target < rank t))
      (row_at m t (slice_index start t))
      (λ y e. inr (lt_of_test (rank y.target) (rank t) (and-right (marked marks y.target) (nat_lt (rank y.target) (rank t)) e)))
      (Any-from_list_any (λ y. marked marks y.target && nat_lt (rank y.target) (rank t)) (row_at m t (slice_index start t)) (s.choices.passes t h.below h.is_open h.no_goal)))

  max_leaves : CanLeave q start
  max_leaves = (s.ranks, s.least.count ∙ sym (reach-count Max m goals marks), record { falls = λ t l a. falls_at t (active-open Max m goals marks start start-is t a) })

  pub max-solvable : IsSolvable q start
  max-solvable = record { problem = reach-known Max m goals marks known; policy = start-is; leaves = max_leaves; keeps = reach-keeps Max m goals marks }

-- ---- the first number that passes a test

abbrev first_true : (ℕ → Bool) → ℕ → ℕ
first_true test zero = zero
first_true test (suc k) = if test (first_true test k) then first_true test k else suc k

module _ (test : ℕ → Bool) where
  at_most_by : (b : Bool) (k i : ℕ) → i ≤ k → (if b then i else suc k) ≤ suc k
  at_most_by true k i l = omega arith
  at_most_by false k i l = omega arith

  first_true-le : (k : ℕ) → first_true test k ≤ k
  first_true-le zero = omega arith
  first_true-le (suc k) = at_most_by (test (first_true test k)) k (first_true test k) (first_true-le k)

  least_by : (b : Bool) (k j i : ℕ) → test i ≡ b → test j ≡ true → j ≤ suc k → i ≤ k
      → (j ≤ k → (i ≤ j) × (test i ≡ true)) → ((if b then i else suc k) ≤ j) × (test (if b then i else suc k) ≡ true)
  least_by true k j i e t l m h = (least_of (le_or (suc k) j), e)
    where
      least_of : (suc k ≤ j) ⊎ (j < suc k) → i ≤ j
      least_of (inl g) = omega arith
      least_of (inr g) = (h (omega arith)).0
  least_by false k j i e t l m h = last (le_or (suc k) j)
    where
      last : (suc k ≤ j) ⊎ (j < suc k) → (suc k ≤ j) × (test (suc k) ≡ true)
      last (inl g) = let same : j ≡ suc k = omega arith in (g, subst (λ i. test i ≡ true) same t)
      last (inr g) = absurd (let q = (h (omega arith)).1 in let r : true ≡ false = sym q ∙ e in cc)

  -- where some number up to k passes, it is at most that one, and passes
  first_true-is : (k j : ℕ) → test j ≡ true → j ≤ k → (first_true test k ≤ j) × (test (first_true test k) ≡ true)
  first_true-is zero j t l = let same : j ≡ 0 = omega arith in (omega arith, subst (λ i. test i ≡ true) same t)
  first_true-is (suc k) j t l = least_by (test (first_true test k)) k j (first_true test k) refl t l (first_true-le k) (λ h. first_true-is k j t h)

-- ---- the least probability

module _ (m : Mdp) (goals marks : List Bool) (start : List ℕ) (known : IsMdp m) (s : IsMinStart m goals marks start) (meets : RestMeets) where
  abbrev r : Problem
  r = reach_problem Min m goals marks

  abbrev taking : tree.IsPolicy m start
  taking = least-policy m goals marks _ start s.choices

  min_start-is : IsPolicy r start
  min_start-is = is-policy Min m goals marks start taking

  -- whether state t comes to a goal within k steps
  abbrev comes : ℕ → ℕ → Bool
  comes t k = reached (policy_step m start) (is_marked goals) k t

  -- within so many it does, where goals can't be avoided
  steps_by : (t : ℕ) (b : Bool) → is_marked marks t ≡ b → (states_of m ≤ t) ⊎ (t < states_of m) → ℕ
  steps_by t true e l = 0
  steps_by t false e (inl l) = 0
  steps_by t false e (inr l) = (meets m goals marks start known s.avoids taking t l e).0

  steps : ℕ → ℕ
  steps t = steps_by t (is_marked marks t) refl (le_or (states_of m) t)

  comes_by : (t : ℕ) (b : Bool) (e : is_marked marks t ≡ b) (l : (states_of m ≤ t) ⊎ (t < states_of m)) → t < states_of m → b ≡ false → comes t (steps_by t b e l) ≡ true
  unfolding steps_by
  comes_by t true e l i f = cc
  comes_by t false e (inl l) i f = absurd (omega arith)
  comes_by t false e (inr l) i f = (meets m goals marks start known s.avoids taking t l e).1

  comes-at : (t : ℕ) → t < states_of m → is_marked marks t ≡ false → comes t (steps t) ≡ true
  unfolding steps
  comes-at t l e = comes_by t (is_marked marks t) refl (le_or (states_of m) t) l e

  near : ℕ → ℕ
  near t = first_true (comes t) (steps t)

  -- a state that comes to a goal within k steps has a rank of at most k
  near_by : (t k : ℕ) → t < states_of m → is_marked marks t ≡ false → comes t k ≡ true → (steps t ≤ k) ⊎ (k < steps t) → near t ≤ k
  unfolding near
  near_by t k l e h (inl i) = let f = first_true-le (comes t) (steps t) in omega arith
  near_by t k l e h (inr i) = (first_true-is (comes t) (steps t) k h (omega arith)).0

  near-le : (t k : ℕ) → t < states_of m → is_marked marks t ≡ false → comes t k ≡ true → near t ≤ k
  near-le t k l e h = near_by t k l e h (le_or (steps t) k)

  near-comes : (t : ℕ) → t < states_of m → is_marked marks t ≡ false → comes t (near t) ≡ true
  unfolding near
  near-comes t l e = (first_true-is (comes t) (steps t) (steps t) (comes-at t l e) (omega arith)).1

  or_right : (a b : Bool) → (a || b) ≡ true → a ≡ false → b ≡ true
  or_right true b h e = cc
  or_right false b h e = h

  -- an entry of its row leads to a state that comes there sooner
  sooner : (t k : ℕ) → IsOpen Min m goals marks start min_start-is t → near t ≡ k → comes t k ≡ true
      → Any (λ y. (is_active (active_of r start) y.target ≡ false) ⊎ (near y.target < k)) (row_at m t (slice_index start t))
  unfolding reached
  sooner t zero h e c = absurd (let f : true ≡ false = sym c ∙ h.no_goal in cc)
  sooner t (suc k) h e c =
      let not_yet : comes t k ≡ false = none (comes t k) (λ f. let g = near-le t k h.below (not_true (is_marked marks t) h.is_open) f in omega arith) in
      let row = row_at m t (slice_index start t) in
      let enters = Any-from_list_any (λ y. comes y.target k) row (or_right (comes t k) _ c not_yet) in
      let range = IsRow.in_range (known.row t (slice_index start t) h.below (s.choices.in_range t h.below)) in
      any_mono (λ y. (y.target < states_of m) × (comes y.target k ≡ true)) (λ y. (is_active (active_of r start) y.target ≡ false) ⊎ (near y.target < suc k)) row
      (λ y f. one y.target (is_active (active_of r start) y.target) refl f.0 f.1)
      (Any-and (λ y. y.target < states_of m) (λ y. comes y.target k ≡ true) row range enters)
    where
      none : (b : Bool) → (b ≡ true → ⊥) → b ≡ false
      none true f = absurd (f refl)
      none false f = refl

      one : (u : ℕ) (a : Bool) → is_active (active_of r start) u ≡ a → u < states_of m → comes u k ≡ true → (is_active (active_of r start) u ≡ false) ⊎ (near u < suc k)
      one u false e l f = inl e
      one u true e l f =
          let o = active-open Min m goals marks start min_start-is u e in
          let g = near-le u k l (not_true (is_marked marks u) o.is_open) f in
          inr (omega arith)

  nears : List ℕ
  nears = map near (range_with_len 0 (states_of m))

  nears-at : (t : ℕ) → t < states_of m → slice_index nears t ≡ near t
  unfolding nears
  nears-at t l = get_or-map-range_with_len near 0 (states_of m) t t 0 l (zero-add t)

  leaves_at : (t : ℕ) → IsOpen Min m goals marks start min_start-is t
      → Any (λ y. (is_active (active_of r start) y.target ≡ false) ⊎ (slice_index nears y.target < slice_index nears t)) (row_of (rows_of r start) t)
  leaves_at t h =
      let row = row_at m t (slice_index start t) in
      let range = IsRow.in_range (known.row t (slice_index start t) h.below (s.choices.in_range t h.below)) in
      subst (Any (λ y. (is_active (active_of r start) y.target ≡ false) ⊎ (slice_index nears y.target < slice_index nears t))) (sym (open-row Min m goals marks start min_start-is t h))
      (any_mono (λ y. (y.target < states_of m) × ((is_active (active_of r start) y.target ≡ false) ⊎ (near y.target < near t)))
      (λ y. (is_active (active_of r start) y.target ≡ false) ⊎ (slice_index nears y.target < slice_index nears t)) row
      (λ y f. listed y.target f.0 f.1)
      (Any-and (λ y. y.target < states_of m) (λ y. (is_active (active_of r start) y.target ≡ false) ⊎ (near y.target < near t)) row range
      (sooner t (near t) h refl (near-comes t h.below (not_true (is_marked marks t) h.is_open)))))
    where
      listed : (u : ℕ) → u < states_of m → (is_active (active_of r start) u ≡ false) ⊎ (near u < near t) → (is_active (active_of r start) u ≡ false) ⊎ (slice_index nears u < slice_index nears t)
      listed u l (inl e) = inl e
      listed u l (inr k) = let a = nears-at u l in let b = nears-at t h.below in inr (omega arith)

  min_leaves : CanLeave r start
  unfolding nears
  min_leaves = (
    nears,
    length-map-range_with_len near 0 (states_of m) ∙ sym (reach-count Min m goals marks),
    record { falls = λ t l a. leaves_at t (active-open Min m goals marks start min_start-is t a) },
  )

  pub min-solvable : IsSolvable r start
  min-solvable = record { problem = reach-known Min m goals marks known; policy = min_start-is; leaves = min_leaves; keeps = reach-keeps Min m goals marks }

-- ---- either

pub start-solvable : (dir : Dir) (m : Mdp) (goals marks : List Bool) (start : List ℕ) → IsMdp m → RestMeets → IsStart dir m goals marks start → IsSolvable (reach_problem dir m goals marks) start
start-solvable Max m goals marks start known meets s = max-solvable m goals marks start known s
start-solvable Min m goals marks start known meets s = min-solvable m goals marks start known s meets

-- its choices are in range
pub start-choices : (dir : Dir) (m : Mdp) (goals marks : List Bool) (start : List ℕ) → IsStart dir m goals marks start → tree.IsPolicy m start
start-choices Max m goals marks start s = least-policy m goals marks _ start s.choices
start-choices Min m goals marks start s = least-policy m goals marks _ start s.choices

-- and it marks each state or not
pub start-marks : (dir : Dir) (m : Mdp) (goals marks : List Bool) (start : List ℕ) → IsStart dir m goals marks start → length marks ≡ states_of m
start-marks Max m goals marks start s = s.reached.count
start-marks Min m goals marks start s = s.avoids.count
