-- The steps of the passes lead from more states where they may lead to more, and the choices of shortest ways exist.
use Rattle.std.proofs.Common.{◌≡◌, ℕ, ◌<◌, Bool, true, ◌&&◌, not, List, [], map, replicate, Option, is_some, refl, ◌∙◌, ap}
use Rattle.std.specs.{Prelude.{slice_index_or}, List.{All}}
use Rattle.mdp_math.proofs.Booleans.{and-left, and-right, and-both}
use Rattle.mdp_spec.specs.{Mdp.{Mdp, Entry, Choice, no_choice, states_of, choices_at, row_at}, Row.{IsMdp}}
use Rattle.mdp_graph.specs.{Sets.{marked, can_enter, stays_in, some_choice}, Layers.{rank_at, AreRanks}}
use Rattle.mdp_graph.specs.{Choices.{plain_rank, is_before, may_fall, first_passing, AreLeast}, Reach.{may_step, row_step, falls}, Meet.{must_step}}
use Rattle.mdp_graph.specs.Sure.{inside_step}
use Rattle.mdp_graph.proofs.Passes.{least_choices, falls-is}
use Rattle.mdp_graph.proofs.{RowSets.{list_any-at, list_any-by, list_all-at, list_all-by, enters-at, enters-by, stays-everywhere}, StepsInside.{step-more}}
use Rattle.mdp_graph.proofs.Settling.{Rises}

-- ---- steps lead from more states where they may lead to more

enters-rise : (p q : ℕ → Bool) (n : ℕ) (row : List Entry) → All (λ y. y.target < n) row
    → ((t : ℕ) → t < n → p t ≡ true → q t ≡ true) → can_enter p row ≡ true → can_enter q row ≡ true
enters-rise p q n row range more e = let z = enters-at p row n range e in enters-by q row z.0 z.2 (more z.0 z.1 z.3)

pub row_rises : (rows : List (List Entry)) (n : ℕ) → ((s : ℕ) → s < n → All (λ y. y.target < n) (slice_index_or rows s [])) → Rises (row_step rows) n
row_rises rows n range p q more s h e = enters-rise p q n (slice_index_or rows s []) (range s h) more e

module _ (m : Mdp) (ok : IsMdp m) where
  pub may_rises : (blocked : List Bool) → Rises (may_step m blocked) (states_of m)
  may_rises blocked p q more s h e =
      let w = list_any-at (λ (x : Choice). can_enter p x.row) (choices_at m s) no_choice (and-right (not (marked blocked s)) (some_choice (can_enter p) m s) e) in
      let row = ok.row s w.0 h w.1 in
      and-both (not (marked blocked s)) (some_choice (can_enter q) m s) (and-left (not (marked blocked s)) (some_choice (can_enter p) m s) e)
      (list_any-by (λ (x : Choice). can_enter q x.row) (choices_at m s) no_choice w.0 w.1 (enters-rise p q (states_of m) (row_at m s w.0) row.in_range more w.2))

  pub must_rises : Rises (must_step m) (states_of m)
  must_rises p q more s h e =
      list_all-by (λ (x : Choice). can_enter q x.row) (choices_at m s) no_choice
      (λ c k. (let row = ok.row s c h k in
      enters-rise p q (states_of m) (row_at m s c) row.in_range more (list_all-at (λ (x : Choice). can_enter p x.row) (choices_at m s) no_choice e c k)))

  pub inside_rises : (inside : ℕ → Bool) → Rises (inside_step m inside) (states_of m)
  inside_rises inside p q more s h e = step-more m ok inside inside p q (λ t l f. f) more s h e

  -- ---- the choices of shortest ways

  abbrev everywhere : List Bool
  everywhere = replicate (states_of m) true

  pub ways_exist : (blocked targets : List Bool) (ranks : List (Option ℕ)) → AreRanks (may_step m blocked) (marked targets) (states_of m) ranks
      → (choices : List ℕ) × AreLeast m targets (map is_some ranks) (falls m (map is_some ranks) (map plain_rank ranks)) choices
  ways_exist blocked targets ranks a = (
    first_passing m (may_fall m everywhere ranks),
    least_choices m ok (λ s c. stays_in (marked everywhere) (row_at m s c)) targets (may_step m blocked) ranks a
        (λ set s h e. (let w = list_any-at (λ (x : Choice). can_enter set x.row) (choices_at m s) no_choice (and-right (not (marked blocked s)) (some_choice (can_enter set) m s) e) in
        let row = ok.row s w.0 h w.1 in (w.0, w.1, stays-everywhere (states_of m) (row_at m s w.0) row.in_range, w.2)))
        (falls m (map is_some ranks) (map plain_rank ranks))
        (λ s c h k. (let row = ok.row s c h k in
        ap (λ b. b && can_enter (λ t. is_before (plain_rank (rank_at ranks s)) (rank_at ranks t)) (row_at m s c)) (stays-everywhere (states_of m) (row_at m s c) row.in_range)
        ∙ falls-is m ok ranks a.count s c h k))
        (first_passing m (may_fall m everywhere ranks)) refl,
  )
