-- What the passes of the greatest reward say: goals are finite, each choice of a transient state leads to finite states alone and to a smaller rank,
-- and the policy at infinite states leads, with some chance, to states that it never leaves.
use Rattle.std.proofs.Common.{◌≡◌, ℕ, zero, suc, ◌<◌, ◌⊎◌, inl, inr, Bool, true, false, not, ◌||◌}
use Rattle.std.proofs.Common.{◌&&◌, nat_lt, List, length, refl, sym, ◌∙◌, ap, subst, arith, zero-add, if◌then◌else◌}
use Rattle.std.proofs.{lemmas.List.FromFn.{get_or-map-range_with_len, length-map-range_with_len}, lemmas.List.Folds.{Any-from_list_any}}
use Rattle.std.specs.{List.{All, Any}, Prelude.{slice_index}}
use Rattle.mdp_math.proofs.{Booleans.{and-left, and-right, false_of_not, not_true}, Kernel.{Any-and}}
use Rattle.mdp_spec.specs.{Mdp.{Mdp, Entry, states_of, row_at, choices_at}, Row.{IsMdp}, Tree.{is_marked, IsPolicy}}
use Rattle.mdp_graph.specs.{Sets.{can_enter, stays_in, some_choice}, Layers.{reached}, Reach.{may_step}, Meet.{must_step}, SureAll.{IsSureAll}}
use Rattle.mdp_graph.specs.Laws.{StaysSure, RestAvoids}
use Rattle.mdp_reward.specs.{Problem.{is_transient}, Query.{IsMaxStart}}
use Rattle.mdp_reward.proofs.Rows.{any_mono, lt_of_test, all_in, each-true, split-at}

module _ (m : Mdp) (goals finite : List Bool) (start known : List ℕ) (model : IsMdp m) (is : IsMaxStart m goals finite start known) where
  finite-at : (s : ℕ) → s < states_of m → is_marked finite s ≡ not (is_marked is.infinite s)
  finite-at s l =
      ap (λ (f : List Bool). is_marked f s) is.finite_is ∙ get_or-map-range_with_len (λ s. not (is_marked is.infinite s)) 0 (states_of m) s s false l (zero-add s)

  pub finite-count : length finite ≡ states_of m
  finite-count = ap length is.finite_is ∙ length-map-range_with_len (λ s. not (is_marked is.infinite s)) 0 (states_of m)

  infinite_not : (s : ℕ) → s < states_of m → is_marked is.infinite s ≡ true → is_marked finite s ≡ false
  infinite_not s l e = finite-at s l ∙ ap not e

  pub infinite-of : (s : ℕ) → s < states_of m → is_marked finite s ≡ false → is_marked is.infinite s ≡ true
  infinite-of s l e = true_of_not (is_marked is.infinite s) (sym (finite-at s l) ∙ e)
    where
      true_of_not : (b : Bool) → not b ≡ false → b ≡ true
      true_of_not true e = refl
      true_of_not false e = cc

  -- ---- the states where goals can be avoided, and those that come to them

  abbrev comes : ℕ → ℕ → Bool
  comes k s = reached (may_step m goals) (is_marked is.avoiding) k s

  pub avoided-infinite : (s : ℕ) → s < states_of m → is_marked is.avoiding s ≡ true → is_marked finite s ≡ false
  unfolding reached
  avoided-infinite s l e = infinite_not s l ((is.passes.comes.marks_reached s l).1 (0, e))

  goal_not : (s : ℕ) → s < states_of m → is_marked goals s ≡ true → is_marked is.avoiding s ≡ false
  goal_not s l g = false_of_not (is_marked is.avoiding s) (λ e. let f : true ≡ false = sym g ∙ is.passes.avoids.avoiding.outside s l e in cc)

  goal_never : (k s : ℕ) → s < states_of m → is_marked goals s ≡ true → comes k s ≡ false
  unfolding reached
  goal_never zero s l g = goal_not s l g
  goal_never (suc k) s l g =
      ap (λ (b : Bool). b || may_step m goals (comes k) s) (goal_never k s l g) ∙ ap (λ (b : Bool). not b && some_choice (can_enter (comes k)) m s) g

  never_finite : (s : ℕ) → s < states_of m → ((k : ℕ) → comes k s ≡ false) → is_marked finite s ≡ true
  never_finite s l never =
      finite-at s l
      ∙ ap not (false_of_not (is_marked is.infinite s) (λ e. let k = (is.passes.comes.marks_reached s l).0 e in let f : true ≡ false = sym k.1 ∙ never k.0 in cc))

  pub goal-finite : (s : ℕ) → s < states_of m → is_marked goals s ≡ true → is_marked finite s ≡ true
  goal-finite s l g = never_finite s l (λ k. goal_never k s l g)

  finite_never : (s : ℕ) → s < states_of m → is_marked finite s ≡ true → (k : ℕ) → comes k s ≡ false
  finite_never s l e k = false_of_not (comes k s) (λ f. let g : true ≡ false = sym e ∙ infinite_not s l ((is.passes.comes.marks_reached s l).1 (k, f)) in cc)

  -- ---- each choice of a transient state leads to finite states alone

  sure : IsSureAll m goals finite
  sure = (is.avoiding, is.passes.avoids, record { count = finite-count; never = λ s l. (λ e. finite_never s l e, λ h. never_finite s l h) })

  pub stays-finite : StaysSure → (s c : ℕ) → s < states_of m → is_transient goals finite s ≡ true → c < length (choices_at m s) → stays_in (is_marked finite) (row_at m s c) ≡ true
  stays-finite law s c l e i =
      law m goals finite model sure s c l (and-right (not (is_marked goals s)) (is_marked finite s) e)
      (not_true (is_marked goals s) (and-left (not (is_marked goals s)) (is_marked finite s) e)) i

  -- ---- and to a smaller rank

  abbrev near : ℕ → ℕ
  near s = slice_index is.near s

  abbrev meets : ℕ → ℕ → Bool
  meets k s = reached (must_step m) (is_marked goals) k s

  met_by : RestAvoids → (s : ℕ) (b : Bool) → s < states_of m → is_marked is.passes.met s ≡ b → is_marked finite s ≡ true → is_marked is.passes.met s ≡ true
  unfolding reached
  met_by rest s true l e f = e
  met_by rest s false l e f =
      let avoided = is.passes.avoids.greatest (λ t. not (is_marked is.passes.met t)) (record {
        outside = λ t i h. false_of_not (is_marked goals t) (λ g.
            let k : true ≡ false = sym ((is.passes.meets.marks_reached t i).1 (0, g)) ∙ not_true (is_marked is.passes.met t) h in cc);
        stays = λ t i h. rest m goals is.passes.met model is.passes.meets t i (not_true (is_marked is.passes.met t) h);
      }) s l (ap not e) in
      absurd (let k : true ≡ false = sym f ∙ avoided-infinite s l avoided in cc)

  or_other : (a b : Bool) → (a || b) ≡ true → a ≡ false → b ≡ true
  or_other true b h e = cc
  or_other false b h e = h

  near_by : (s k c : ℕ) → s < states_of m → near s ≡ k → meets k s ≡ true → is_marked goals s ≡ false → c < length (choices_at m s)
      → Any (λ y. (y.target < states_of m) × (near y.target < k)) (row_at m s c)
  unfolding reached
  near_by s zero c l e h g i = absurd (let f : true ≡ false = sym h ∙ g in cc)
  near_by s (suc k) c l e h g i =
      let before : meets k s ≡ false = false_of_not _ (λ f. let n = is.passes.near_ranks.least s k l f in omega arith) in
      let each : must_step m (meets k) s ≡ true = or_other (meets k s) _ h before in
      let enters : can_enter (meets k) (row_at m s c) ≡ true = each-true (can_enter (meets k)) m s c i each in
      any_mono (λ y. (y.target < states_of m) × (meets k y.target ≡ true)) (λ y. (y.target < states_of m) × (near y.target < suc k)) (row_at m s c)
      (λ y f. (f.0, let n = is.passes.near_ranks.least y.target k f.0 f.1 in omega arith))
      (Any-and (λ y. y.target < states_of m) (λ y. meets k y.target ≡ true) (row_at m s c) (model.row s c l i).in_range
      (Any-from_list_any (λ (y : Entry). meets k y.target) (row_at m s c) enters))

  -- the ranks that are known
  known_at : (s : ℕ) → s < states_of m → slice_index known s ≡ (if is_marked finite s then near s else slice_index is.far s)
  known_at s l = ap (λ (ranks : List ℕ). slice_index ranks s) is.known_is ∙ split-at m finite is.near is.far s l

  pub known-count : length known ≡ states_of m
  known-count = ap length is.known_is ∙ length-map-range_with_len (λ s. if is_marked finite s then near s else slice_index is.far s) 0 (states_of m)

  pub known-near : (s : ℕ) → s < states_of m → is_marked finite s ≡ true → slice_index known s ≡ near s
  known-near s l e = known_at s l ∙ ap (λ (b : Bool). if b then near s else slice_index is.far s) e

  pub known-far : (s : ℕ) → s < states_of m → is_marked finite s ≡ false → slice_index known s ≡ slice_index is.far s
  known-far s l e = known_at s l ∙ ap (λ (b : Bool). if b then near s else slice_index is.far s) e

  pub goal-rank : (s : ℕ) → s < states_of m → is_marked goals s ≡ true → slice_index known s ≡ 0
  unfolding reached
  goal-rank s l g = known-near s l (goal-finite s l g) ∙ (let h = is.passes.near_ranks.least s 0 l g in omega arith)

  pub falls-finite : StaysSure → RestAvoids → (s c : ℕ) → s < states_of m → is_transient goals finite s ≡ true → c < length (choices_at m s)
      → Any (λ y. slice_index known y.target < slice_index known s) (row_at m s c)
  falls-finite law rest s c l e i =
      let f = and-right (not (is_marked goals s)) (is_marked finite s) e in
      let g = not_true (is_marked goals s) (and-left (not (is_marked goals s)) (is_marked finite s) e) in
      let here = known-near s l f in
      any_mono (λ y. (is_marked finite y.target ≡ true) × ((y.target < states_of m) × (near y.target < near s))) (λ y. slice_index known y.target < slice_index known s) (row_at m s c)
      (λ y h. let there = known-near y.target h.1.0 h.0 in let k = h.1.1 in omega arith)
      (Any-and (λ y. is_marked finite y.target ≡ true) (λ y. (y.target < states_of m) × (near y.target < near s)) (row_at m s c)
      (all_in (is_marked finite) (row_at m s c) (stays-finite law s c l e i))
      (near_by s (near s) c l refl (is.passes.near_ranks.reaches s l (met_by rest s (is_marked is.passes.met s) l refl f)) g i))

  -- ---- the start

  start_at : (s : ℕ) → s < states_of m → slice_index start s ≡ (if is_marked is.avoiding s then slice_index is.keep s else slice_index is.go s)
  start_at s l = ap (λ (policy : List ℕ). slice_index policy s) is.start_is ∙ split-at m is.avoiding is.keep is.go s l

  start_keeps : (s : ℕ) → s < states_of m → is_marked is.avoiding s ≡ true → slice_index start s ≡ slice_index is.keep s
  start_keeps s l e = start_at s l ∙ ap (λ (b : Bool). if b then slice_index is.keep s else slice_index is.go s) e

  start_goes : (s : ℕ) → s < states_of m → is_marked is.avoiding s ≡ false → slice_index start s ≡ slice_index is.go s
  start_goes s l e = start_at s l ∙ ap (λ (b : Bool). if b then slice_index is.keep s else slice_index is.go s) e

  range_by : (s : ℕ) (b : Bool) → s < states_of m → is_marked is.avoiding s ≡ b → slice_index start s < length (choices_at m s)
  range_by s true l e = subst (λ (c : ℕ). c < length (choices_at m s)) (sym (start_keeps s l e)) (is.passes.keeps.in_range s l)
  range_by s false l e = subst (λ (c : ℕ). c < length (choices_at m s)) (sym (start_goes s l e)) (is.passes.goes.in_range s l)

  pub max_policy : IsPolicy m start
  max_policy = record {
    one_each = ap length is.start_is ∙ length-map-range_with_len (λ s. if is_marked is.avoiding s then slice_index is.keep s else slice_index is.go s) 0 (states_of m);
    in_range = λ s l. range_by s (is_marked is.avoiding s) l refl;
  }

  -- ---- at an infinite state its choice leads to an infinite state of smaller rank, or the rank is 0 and it leads to such states alone

  abbrev far : ℕ → ℕ
  far s = slice_index is.far s

  far_zero : (s : ℕ) → s < states_of m → is_marked is.avoiding s ≡ true → slice_index known s ≡ 0
  unfolding reached
  far_zero s l e = known-far s l (avoided-infinite s l e) ∙ (let h = is.passes.far_ranks.least s 0 l e in omega arith)

  abbrev Misses : ℕ → ℕ → Type 0
  Misses s c =
      ((slice_index known s ≡ 0) × All (λ y. (is_marked finite y.target ≡ false) × (slice_index known y.target ≡ 0)) (row_at m s c))
      ⊎ Any (λ y. (is_marked finite y.target ≡ false) × (y.target < states_of m) × (slice_index known y.target < slice_index known s)) (row_at m s c)

  kept_misses : (s : ℕ) → s < states_of m → is_marked is.avoiding s ≡ true → Misses s (slice_index is.keep s)
  kept_misses s l e =
      let row = row_at m s (slice_index is.keep s) in
      let stays : stays_in (is_marked is.avoiding) row ≡ true =
      and-right (is_marked is.avoiding s) (stays_in (is_marked is.avoiding) row)
      (is.passes.keeps.passes s l e (is.passes.avoids.avoiding.outside s l e)) in
      let range = (model.row s (slice_index is.keep s) l (is.passes.keeps.in_range s l)).in_range in
      inl (
        far_zero s l e,
        λ k d i. let a = all_in (is_marked is.avoiding) row stays k d i in let b = range k d i in (avoided-infinite _ b a, far_zero _ b a),
      )

  gone_misses : (s : ℕ) → s < states_of m → is_marked is.avoiding s ≡ false → is_marked finite s ≡ false → Misses s (slice_index is.go s)
  gone_misses s l e f =
      let row = row_at m s (slice_index is.go s) in
      let here = known-far s l f in
      inr (any_mono (λ y. (y.target < states_of m) × ((is_marked is.infinite y.target && nat_lt (far y.target) (far s)) ≡ true))
      (λ y. (is_marked finite y.target ≡ false) × (y.target < states_of m) × (slice_index known y.target < slice_index known s)) row
      (λ y h.
      let i = infinite_not y.target h.0 (and-left (is_marked is.infinite y.target) (nat_lt (far y.target) (far s)) h.1) in
      let k = lt_of_test (far y.target) (far s) (and-right (is_marked is.infinite y.target) (nat_lt (far y.target) (far s)) h.1) in
      let there = known-far y.target h.0 i in
      (i, h.0, omega arith))
      (Any-and (λ y. y.target < states_of m) (λ y. (is_marked is.infinite y.target && nat_lt (far y.target) (far s)) ≡ true) row
      (model.row s (slice_index is.go s) l (is.passes.goes.in_range s l)).in_range
      (Any-from_list_any (λ (y : Entry). is_marked is.infinite y.target && nat_lt (far y.target) (far s)) row (is.passes.goes.passes s l (infinite-of s l f) e))))

  misses_by : (s : ℕ) (b : Bool) → s < states_of m → is_marked is.avoiding s ≡ b → is_marked finite s ≡ false → Misses s (slice_index start s)
  misses_by s true l e f = subst (Misses s) (sym (start_keeps s l e)) (kept_misses s l e)
  misses_by s false l e f = subst (Misses s) (sym (start_goes s l e)) (gone_misses s l e f)

  pub max_misses : (s : ℕ) → s < states_of m → is_marked finite s ≡ false → Misses s (slice_index start s)
  max_misses s l f = misses_by s (is_marked is.avoiding s) l refl f
