-- What the passes of the least reward say: goals are finite, the start keeps to finite states and leads on a shortest way among them, and from any other
-- state each choice leads to such a state of smaller round, or to states of the same round alone.
use Rattle.std.proofs.Common.{◌≡◌, ℕ, ◌<◌, ◌⊎◌, inl, inr, Bool, true, false, not, ◌&&◌, ◌==◌, nat_lt, List, length, sym, ◌∙◌, ap, arith}
use Rattle.std.proofs.{lemmas.Bool.{eqb-true}, lemmas.List.Folds.{Any-from_list_any}}
use Rattle.std.specs.{List.{All, Any}, Prelude.{slice_index}}
use Rattle.mdp_math.proofs.{Booleans.{and-left, and-right, false_of_not, not_true}, Kernel.{Any-and}}
use Rattle.mdp_spec.specs.{Mdp.{Mdp, Entry, states_of, row_at, choices_at}, Row.{IsMdp}, Tree.{is_marked, IsPolicy}}
use Rattle.mdp_graph.specs.{Sets.{can_enter, stays_in}, Laws.{earlier, RoundsFall, ZeroIsSure}, Reach.{falls}}
use Rattle.mdp_reward.specs.{Problem.{is_transient}, Query.{IsMinStart}}
use Rattle.mdp_reward.proofs.Rows.{any_mono, lt_of_test, all_in}

module _ (m : Mdp) (goals finite : List Bool) (start known : List ℕ) (model : IsMdp m) (is : IsMinStart m goals finite start known) where
  pub goal-finite : (s : ℕ) → s < states_of m → is_marked goals s ≡ true → is_marked finite s ≡ true
  goal-finite s l g = is.sure.sure.goals_in s l g

  -- ---- the start

  pub min_policy : IsPolicy m start
  min_policy = record { one_each = is.choices.count; in_range = is.choices.in_range }

  abbrev choice : ℕ → ℕ
  choice s = slice_index start s

  abbrev near : ℕ → ℕ
  near s = slice_index is.near s

  passes : (s : ℕ) → s < states_of m → is_transient goals finite s ≡ true → (stays_in (is_marked finite) (row_at m s (choice s)) && falls m finite is.near s (choice s)) ≡ true
  passes s l e =
      is.choices.passes s l (and-right (not (is_marked goals s)) (is_marked finite s) e)
      (not_true (is_marked goals s) (and-left (not (is_marked goals s)) (is_marked finite s) e))

  pub start-stays : (s : ℕ) → s < states_of m → is_transient goals finite s ≡ true → stays_in (is_marked finite) (row_at m s (choice s)) ≡ true
  start-stays s l e = and-left (stays_in (is_marked finite) (row_at m s (choice s))) (falls m finite is.near s (choice s)) (passes s l e)

  pub start-falls : (s : ℕ) → s < states_of m → is_transient goals finite s ≡ true → Any (λ y. near y.target < near s) (row_at m s (choice s))
  start-falls s l e =
      any_mono (λ y. (is_marked finite y.target && nat_lt (near y.target) (near s)) ≡ true) (λ y. near y.target < near s) (row_at m s (choice s))
      (λ y f. lt_of_test (near y.target) (near s) (and-right (is_marked finite y.target) (nat_lt (near y.target) (near s)) f))
      (Any-from_list_any (λ (y : Entry). is_marked finite y.target && nat_lt (near y.target) (near s)) (row_at m s (choice s))
      (and-right (stays_in (is_marked finite) (row_at m s (choice s))) (falls m finite is.near s (choice s)) (passes s l e)))

  -- ---- the other states, by their rounds

  abbrev round : ℕ → ℕ
  round s = slice_index known s

  round-pos : ZeroIsSure → (s : ℕ) → s < states_of m → is_marked finite s ≡ false → 0 < round s
  round-pos zero s l e = above (round s) (zero m goals known finite model is.rounds is.sure s l ∙ e)
    where
      above : (k : ℕ) → (k == 0) ≡ false → 0 < k
      above k f = let n : (k ≡ 0 → ⊥) = λ h. let g : true ≡ false = sym (ap (λ (i : ℕ). i == 0) h) ∙ f in cc in omega (arith, n)

  pos-outside : ZeroIsSure → (s : ℕ) → s < states_of m → 0 < round s → is_marked finite s ≡ false
  pos-outside zero s l p = sym (zero m goals known finite model is.rounds is.sure s l) ∙ none (round s) p
    where
      none : (k : ℕ) → 0 < k → (k == 0) ≡ false
      none k h = false_of_not (k == 0) (λ f. let e = eqb-true k 0 f in absurd (omega (arith, e, h)))

  abbrev Misses : ℕ → ℕ → Type 0
  Misses s c =
      Any (λ y. (is_marked finite y.target ≡ false) × (y.target < states_of m) × (round y.target < round s)) (row_at m s c)
      ⊎ All (λ y. (is_marked finite y.target ≡ false) × (y.target < states_of m) × (round y.target ≡ round s)) (row_at m s c)

  module _ (zero : ZeroIsSure) (s c : ℕ) (l : s < states_of m) (e : is_marked finite s ≡ false) (i : c < length (choices_at m s)) where
    abbrev row : List Entry
    row = row_at m s c

    range : All (λ y. y.target < states_of m) row
    range = (model.row s c l i).in_range

    enters : can_enter (earlier known s) row ≡ true → Misses s c
    enters h =
        inl (any_mono (λ y. (y.target < states_of m) × ((nat_lt 0 (round y.target) && nat_lt (round y.target) (round s)) ≡ true))
        (λ y. (is_marked finite y.target ≡ false) × (y.target < states_of m) × (round y.target < round s)) row
        (λ y f. (
          pos-outside zero y.target f.0 (lt_of_test 0 (round y.target) (and-left (nat_lt 0 (round y.target)) (nat_lt (round y.target) (round s)) f.1)),
          f.0,
          lt_of_test (round y.target) (round s) (and-right (nat_lt 0 (round y.target)) (nat_lt (round y.target) (round s)) f.1),
        ))
        (Any-and (λ y. y.target < states_of m) (λ y. (nat_lt 0 (round y.target) && nat_lt (round y.target) (round s)) ≡ true) row range
        (Any-from_list_any (λ (y : Entry). earlier known s y.target) row h)))

    same : stays_in (λ t. round t == round s) row ≡ true → Misses s c
    same h =
        inr (λ k d j.
        let a = range k d j in
        let b = eqb-true _ _ (all_in (λ t. round t == round s) row h k d j) in
        let p = round-pos zero s l e in
        (pos-outside zero _ a (omega (arith, b, p)), a, b))

    misses_by : (can_enter (earlier known s) row ≡ true) ⊎ (stays_in (λ t. round t == round s) row ≡ true) → Misses s c
    misses_by (inl h) = enters h
    misses_by (inr h) = same h

    pub min_misses : RoundsFall → Misses s c
    min_misses fall = misses_by (fall m goals known model is.rounds s c l (round-pos zero s l e) i)
