-- Ways of states towards the goals: of each state at most one choice and one of its targets.
use Rattle.std.specs.Prelude.{◌≡◌, ℕ, ◌+◌, ◌<◌, ◌⊎◌, Bool, true, false, ◌||◌, ◌&&◌, ◌==◌, not}
use Rattle.std.specs.{Prelude.{List, [], length, Option, Some, None, cond, is_some, is_none, map, slice_index, slice_index_or}, List.{count_by, range_with_len}}
use Rattle.mdp_spec.specs.Mdp.{Mdp, states_of, choices_at, row_at}
use Rattle.mdp_rows.specs.{Preds.{is_among, leads_to, preds_to}, declared.preds.Pred.{Pred}}
use Rattle.mdp_graph.specs.{declared.forest.Way.{Way}, Sets.{marked}, Waiting.{waits, is_one_of}}

-- the way of a state; whether it is a goal or has one
abbrev pub way_at : List (Option Way) → ℕ → Option Way
way_at ways s = slice_index_or ways s None

abbrev pub attached : List Bool → List (Option Way) → ℕ → Bool
attached goals ways s = marked goals s || is_some (way_at ways s)

abbrev pub with_way : List (Option Way) → ℕ
with_way ways = count_by is_some ways

abbrev pub without_way : List (Option Way) → ℕ
without_way ways = count_by is_none ways

-- ---- ways that are cut

abbrev pub goes : Option ℕ → ℕ → Bool
goes None t = true
goes (Some b) t = t == b

-- a way that uses choice c and, where a target is given, goes there
abbrev pub uses : Option Way → ℕ → Option ℕ → Bool
uses None c only = false
uses (Some w) c only = (c == w.choice) && goes only w.target

-- a way that uses one of these choices
abbrev pub is_cut : List Pred → Option ℕ → ℕ → Option Way → Bool
is_cut pairs only s None = false
is_cut pairs only s (Some w) = is_one_of pairs s w.choice && goes only w.target

-- these ways were taken away, and their states were added to a list
pub record IsCut (old : List (Option Way)) (old_list : List ℕ) (new : List (Option Way)) (new_list : List ℕ) (pairs : List Pred) (only : Option ℕ) : Type 0 where
  pub count : length new ≡ length old
  pub at : (s : ℕ) → way_at new s ≡ cond (is_cut pairs only s (way_at old s)) None (way_at old s)
  pub listed : (s : ℕ) → is_among s new_list ≡ (is_among s old_list || is_cut pairs only s (way_at old s))
  pub left : with_way new + length new_list ≡ with_way old + length old_list

-- the states of the choices are below n
abbrev pub AreFrom : ℕ → List Pred → Type 0
AreFrom n pairs = (s c : ℕ) → is_one_of pairs s c ≡ true → s < n

-- each way uses a choice that the lists have
abbrev pub AreKnown : List (List Pred) → List (Option Way) → Type 0
AreKnown preds ways = (s : ℕ) (w : Way) → way_at ways s ≡ Some w → is_one_of (slice_index_or preds w.target []) s w.choice ≡ true

-- the ways that lead over states without one were taken away, from the first ones on
pub record IsPruned (old new : List (Option Way)) (first broken : List ℕ) : Type 0 where
  pub count : length new ≡ length old
  pub kept : (s : ℕ) (w : Way) → way_at new s ≡ Some w → way_at old s ≡ Some w
  pub gone : (s : ℕ) → is_some (way_at old s) ≡ true → way_at new s ≡ None → is_among s broken ≡ true
  pub from : (s : ℕ) → is_among s first ≡ true → is_among s broken ≡ true
  pub over : (s : ℕ) (w : Way) → way_at new s ≡ Some w → is_among w.target broken ≡ false
  pub below : (s : ℕ) → is_among s broken ≡ true → (is_among s first ≡ true) ⊎ (is_some (way_at old s) ≡ true)

-- the ways that use these choices were taken away, and those that lead over states without one
pub record IsUncut (old new : List (Option Way)) (pairs : List Pred) (broken : List ℕ) : Type 0 where
  pub count : length new ≡ length old
  pub kept : (s : ℕ) (w : Way) → way_at new s ≡ Some w → (way_at old s ≡ Some w) × (is_one_of pairs s w.choice ≡ false)
  pub gone : (s : ℕ) → is_some (way_at old s) ≡ true → way_at new s ≡ None → is_among s broken ≡ true
  pub over : (s : ℕ) (w : Way) → way_at new s ≡ Some w → is_among w.target broken ≡ false
  pub below : (s : ℕ) → is_among s broken ≡ true → is_some (way_at old s) ≡ true

-- ---- the forest

-- an allowed choice of s and one of its targets
pub record IsStep (m : Mdp) (lists : List (List Bool)) (s : ℕ) (w : Way) : Type 0 where
  pub target : w.target < states_of m
  pub choice : w.choice < length (choices_at m s)
  pub leads : leads_to w.target (row_at m s w.choice) ≡ true
  pub allowed : waits lists s w.choice ≡ true

-- each way is an allowed step to a state that is attached, or is in a set; it leads down
pub record IsForest (m : Mdp) (goals : List Bool) (lists : List (List Bool)) (ways : List (Option Way)) (pending : ℕ → Bool) : Type 0 where
  pub count : length ways ≡ states_of m
  pub step : (s : ℕ) (w : Way) → way_at ways s ≡ Some w → IsStep m lists s w
  pub over : (s : ℕ) (w : Way) → way_at ways s ≡ Some w → (attached goals ways w.target || pending w.target) ≡ true
  pub height : ℕ → ℕ
  pub lower : (s : ℕ) (w : Way) → way_at ways s ≡ Some w → height w.target < height s

-- those of the states that aren't attached have no allowed choice with a target that is, but for targets in a set
abbrev pub IsClosed : Mdp → List Bool → List (List Bool) → List (Option Way) → List ℕ → (ℕ → Bool) → Type 0
IsClosed m goals lists ways states pending =
    (s c t : ℕ) → is_among s states ≡ true → s < states_of m → attached goals ways s ≡ false → c < length (choices_at m s) → waits lists s c ≡ true
    → t < states_of m → leads_to t (row_at m s c) ≡ true → attached goals ways t ≡ true → pending t ≡ true

-- ---- ways that are given

-- what was found for s: a step to an attached state, or there is none
pub record IsFound (m : Mdp) (goals : List Bool) (lists : List (List Bool)) (ways : List (Option Way)) (s : ℕ) (found : Option Way) : Type 0 where
  pub some : (w : Way) → found ≡ Some w → IsStep m lists s w × (attached goals ways w.target ≡ true)
  pub none : found ≡ None → (c t : ℕ) → c < length (choices_at m s) → waits lists s c ≡ true → t < states_of m → leads_to t (row_at m s c) ≡ true → attached goals ways t ≡ false

-- ways were given to states that weren't attached, each as it may be; the states that must be attached are
pub record IsGrown (goals : List Bool) (old new : List (Option Way)) (may : ℕ → Way → Type 0) (must : ℕ → Type 0) : Type 0 where
  pub count : length new ≡ length old
  pub kept : (s : ℕ) (w : Way) → way_at old s ≡ Some w → way_at new s ≡ Some w
  pub new_way : (s : ℕ) (w : Way) → way_at new s ≡ Some w → (way_at old s ≡ Some w) ⊎ ((attached goals old s ≡ false) × may s w)
  pub taken : (s : ℕ) → must s → attached goals new s ≡ true

-- the states that took one were added to a list
pub record IsTaken (old : List (Option Way)) (old_list : List ℕ) (new : List (Option Way)) (new_list : List ℕ) : Type 0 where
  pub listed : (s : ℕ) → is_among s new_list ≡ (is_among s old_list || (is_none (way_at old s) && is_some (way_at new s)))
  pub left : without_way new + length new_list ≡ without_way old + length old_list

-- a way that was found for one of the states
abbrev pub IsFoundWay : List ℕ → List (Option Way) → ℕ → Way → Type 0
IsFoundWay states found s w = (i : ℕ) × (i < length states) × (slice_index states i ≡ s) × (way_at found i ≡ Some w)

abbrev pub HasFound : List ℕ → List (Option Way) → ℕ → Type 0
HasFound states found s = (w : Way) × IsFoundWay states found s w

-- a way over t by one of these choices
abbrev pub IsWayTo : List (List Bool) → List Pred → ℕ → ℕ → Way → Type 0
IsWayTo lists pairs t s w = (w.target ≡ t) × (is_one_of pairs s w.choice ≡ true) × (waits lists s w.choice ≡ true)

abbrev pub HasWayTo : List (List Bool) → List Pred → ℕ → Type 0
HasWayTo lists pairs s = (c : ℕ) × (is_one_of pairs s c ≡ true) × (waits lists s c ≡ true)

-- a way over one of the states of a layer
abbrev pub IsWayInto : List (List Bool) → List (List Pred) → List ℕ → ℕ → Way → Type 0
IsWayInto lists preds layer s w =
    (is_among w.target layer ≡ true) × (is_one_of (slice_index_or preds w.target []) s w.choice ≡ true) × (waits lists s w.choice ≡ true)

abbrev pub HasWayInto : List (List Bool) → List (List Pred) → List ℕ → ℕ → Type 0
HasWayInto lists preds layer s = (t : ℕ) × (is_among t layer ≡ true) × HasWayTo lists (slice_index_or preds t []) s

-- the choices by the states that they lead to
abbrev pub all_preds : Mdp → List (List Pred)
all_preds m = map (preds_to m) (range_with_len 0 (states_of m))

-- as many lists as states, as long as their choices
pub record AreWide (m : Mdp) (lists : List (List Bool)) : Type 0 where
  pub count : length lists ≡ states_of m
  pub width : (s : ℕ) → s < states_of m → length (slice_index_or lists s []) ≡ length (choices_at m s)

-- what looking for ways leaves: a forest that can't grow at the broken states. Those of them that aren't attached are answered.
pub record IsAttaching (m : Mdp) (goals : List Bool) (lists : List (List Bool)) (old new : List (Option Way)) (broken fell : List ℕ) : Type 0 where
  pub forest : IsForest m goals lists new (λ _. false)
  pub closed : IsClosed m goals lists new broken (λ _. false)
  pub kept : (s : ℕ) → attached goals old s ≡ true → attached goals new s ≡ true
  pub fell_is : (s : ℕ) → s < states_of m → is_among s fell ≡ (is_among s broken && not (attached goals new s))
  pub below : (s : ℕ) → is_among s fell ≡ true → is_among s broken ≡ true
