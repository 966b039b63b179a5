-- What the marks, ranks and choices of the passes mean for policies and for rows.
use Rattle.std.proofs.Common.{◌≡◌, inl, inr, ℕ, suc, zero, ◌+◌, ◌<◌, ◌≤◌, Bool, true, false, not, ◌||◌}
use Rattle.std.proofs.Common.{◌&&◌, nat_lt, lt-ltb, ltb-true, List, [], length, get_or, refl, sym, ap, ◌∙◌, arith}
use Rattle.std.proofs.lemmas.Bool.{false≢true, cases_Bool, cases_eq}
use Rattle.mdp_spec.specs.{Mdp.{Mdp, Choice, no_choice, states_of, choices_at, row_at}, Row.{IsMdp}, Tree.{IsPolicy}}
use Rattle.mdp_graph.specs.{Sets.{marked, can_enter, stays_in, some_choice}, Layers.{reached, AreReached, AreLeastRanks}, Reach.{may_step, row_step, falls}}
use Rattle.mdp_graph.specs.{Meet.{must_step}, Sure.{inside_step, IsSure, IsGreatestSure}}
use Rattle.mdp_graph.specs.Laws.{policy_step, ChoicesReach, RestStays, RowsFall, RowsStay, EachPolicyMeets, RestAvoids, IsSurePolicy, ChoicesAreSure, SureAreMarked}
use Rattle.mdp_graph.proofs.{Reaching.{step-reaches, stays-reached, first-reached, never-reached}, StepsInside.{choice-inside}}
use Rattle.mdp_graph.proofs.RowSets.{list_any-at, list_any-by, list_all-at, list_all-by, list_all-fails, enters-at, enters-by, stays-at, stays-more, stays-outside}
use Rattle.mdp_math.proofs.Booleans.{or-true, and-left, and-right, and-both}

-- ---- policies by which ranks fall

-- where the policy's row leads to a marked state of smaller rank, a state is reached within as many steps as its rank
module _ (m : Mdp) (first : ℕ → Bool) (marks : List Bool) (ranks policy : List ℕ) (ok : IsMdp m) (in_range : (s : ℕ) → s < states_of m → get_or policy s 0 < length (choices_at m s))
    (fall : (s : ℕ) → s < states_of m → marked marks s ≡ true → first s ≡ false → falls m marks ranks s (get_or policy s 0) ≡ true) where
  lower : (s : ℕ) → s < states_of m → marked marks s ≡ true → first s ≡ false
      → (t : ℕ) × (t < states_of m) × (marked marks t ≡ true) × (get_or ranks t 0 < get_or ranks s 0) × ((set : ℕ → Bool) → set t ≡ true → policy_step m policy set s ≡ true)
  lower s h e not_first =
      let row = ok.row s (get_or policy s 0) h (in_range s h) in
      let z = enters-at (λ t. marked marks t && nat_lt (get_or ranks t 0) (get_or ranks s 0)) (row_at m s (get_or policy s 0)) (states_of m) row.in_range (fall s h e not_first) in (
        z.0,
        z.1,
        and-left (marked marks z.0) (nat_lt (get_or ranks z.0 0) (get_or ranks s 0)) z.3,
        ltb-true (get_or ranks z.0 0) (get_or ranks s 0) (and-right (marked marks z.0) (nat_lt (get_or ranks z.0 0) (get_or ranks s 0)) z.3),
        λ set is. enters-by set (row_at m s (get_or policy s 0)) z.0 z.2 is,
      )

  pub fall_reaches : (k s : ℕ) → s < states_of m → marked marks s ≡ true → get_or ranks s 0 ≤ k → reached (policy_step m policy) first k s ≡ true
  fall_reaches zero s h e low = elim (cases_Bool (first s)) [
    | inl is ↦ first-reached (policy_step m policy) first 0 s is
    | inr not_first ↦ (let w = lower s h e not_first in absurd (omega (arith, w.3, low)))
  ]
  fall_reaches (suc k) s h e low = elim (cases_Bool (first s)) [
    | inl is ↦ first-reached (policy_step m policy) first (suc k) s is
    | inr not_first ↦ (let w = lower s h e not_first in step-reaches (policy_step m policy) first k s
        (w.4 (reached (policy_step m policy) first k) (fall_reaches k w.0 w.1 w.2 (omega (arith, w.3, low)))))
  ]

pub choices_reach : ChoicesReach
choices_reach m targets blocked marks ranks policy ok a r l s h e = fall_reaches m (marked targets) marks ranks policy ok l.in_range l.passes (get_or ranks s 0) s h e (omega arith)

-- ---- steps from a state that isn't marked

pub rest_stays : RestStays
rest_stays m targets blocked marks ok a s h out free = elim (cases_Bool (some_choice (can_enter (marked marks)) m s)) [
  | inl is ↦
      (let w = list_any-at (λ (x : Choice). can_enter (marked marks) x.row) (choices_at m s) no_choice is in
      let row = ok.row s w.0 h w.1 in
      let z = enters-at (marked marks) (row_at m s w.0) (states_of m) row.in_range w.2 in
      let there = a.marks_reached z.0 z.1 in
      let k = there.0 z.3 in
      let set = reached (may_step m blocked) (marked targets) k.0 in
      let stepped : may_step m blocked set s ≡ true =
      and-both (not (marked blocked s)) (some_choice (can_enter set) m s) (ap not free)
      (list_any-by (λ (x : Choice). can_enter set x.row) (choices_at m s) no_choice w.0 w.1 (enters-by set (row_at m s w.0) z.0 z.2 k.1)) in
      absurd (false≢true (never-reached (may_step m blocked) (marked targets) (states_of m) marks a (suc k.0) s h out (step-reaches (may_step m blocked) (marked targets) k.0 s stepped))))
  | inr not ↦ not
]

pub rows_stay : RowsStay
rows_stay rows targets marks ok a s h out = elim (cases_Bool (can_enter (marked marks) (get_or rows s []))) [
  | inl is ↦
      (let row = ok s [] h in
      let z = enters-at (marked marks) (get_or rows s []) (length rows) row.in_range is in
      let there = a.marks_reached z.0 z.1 in
      let k = there.0 z.3 in
      let set = reached (row_step rows) (marked targets) k.0 in
      absurd (false≢true (never-reached (row_step rows) (marked targets) (length rows) marks a (suc k.0) s h out
      (step-reaches (row_step rows) (marked targets) k.0 s (enters-by set (get_or rows s []) z.0 z.2 k.1)))))
  | inr not ↦ not
]

-- ---- the step that gives a marked state its least rank

pub least_step : (step : (ℕ → Bool) → ℕ → Bool) (first : ℕ → Bool) (n : ℕ) (marks : List Bool) (ranks : List ℕ) → AreLeastRanks step first n marks ranks
    → (s r : ℕ) → s < n → get_or ranks s 0 ≡ r → marked marks s ≡ true → first s ≡ false
    → (q : ℕ) × (r ≡ suc q) × (step (reached step first q) s ≡ true)
unfolding reached
least_step step first n marks ranks l s zero h e is not_first = absurd (false≢true (sym not_first ∙ sym (ap (λ k. reached step first k s) e) ∙ l.reaches s h is))
least_step step first n marks ranks l s (suc q) h e is not_first = elim (cases_Bool (reached step first q s)) [
  | inl before ↦ (let k = l.least s q h before in absurd (omega (arith, k, e)))
  | inr new ↦ (q, refl, sym (ap (λ b. b || step (reached step first q) s) new) ∙ sym (ap (λ k. reached step first k s) e) ∙ l.reaches s h is)
]

pub rows_fall : RowsFall
rows_fall rows targets marks ranks ok a l s h is not_target =
    let first = marked targets in
    let r : ℕ = get_or ranks s 0 in
    let w = least_step (row_step rows) first (length rows) marks ranks l s r h refl is not_target in
    let row = ok s [] h in
    let z = enters-at (reached (row_step rows) first w.0) (get_or rows s []) (length rows) row.in_range w.2 in
    let there = a.marks_reached z.0 z.1 in
    let low = l.least z.0 w.0 z.1 z.3 in
    enters-by (λ t. marked marks t && nat_lt (get_or ranks t 0) r) (get_or rows s []) z.0 z.2
    (and-both (marked marks z.0) (nat_lt (get_or ranks z.0 0) r) (there.1 (w.0, z.3)) (lt-ltb (get_or ranks z.0 0) r (omega (arith, low, w.1))))

-- ---- must_meet

-- what is met whatever is chosen is met by a policy
met_by_policy : (m : Mdp) (first : ℕ → Bool) (policy : List ℕ) → IsMdp m → IsPolicy m policy → (k s : ℕ) → s < states_of m
    → reached (must_step m) first k s ≡ true → reached (policy_step m policy) first k s ≡ true
unfolding reached
met_by_policy m first policy ok p zero s h e = e
met_by_policy m first policy ok p (suc k) s h e = elim (cases_Bool (reached (must_step m) first k s)) [
  | inl before ↦ ap (λ b. b || policy_step m policy (reached (policy_step m policy) first k) s) (met_by_policy m first policy ok p k s h before)
  | inr new ↦
      (let set = reached (must_step m) first k in
      let c : ℕ = get_or policy s 0 in
      let stepped : must_step m set s ≡ true = sym (ap (λ b. b || must_step m set s) new) ∙ e in
      let enters = list_all-at (λ (x : Choice). can_enter set x.row) (choices_at m s) no_choice stepped c (p.in_range s h) in
      let row = ok.row s c h (p.in_range s h) in
      let z = enters-at set (row_at m s c) (states_of m) row.in_range enters in
      step-reaches (policy_step m policy) first k s (enters-by (reached (policy_step m policy) first k) (row_at m s c) z.0 z.2 (met_by_policy m first policy ok p k z.0 z.1 z.3)))
]

pub each_policy_meets : EachPolicyMeets
each_policy_meets m targets marks ranks policy ok a l p s h is = met_by_policy m (marked targets) policy ok p (get_or ranks s 0) s h (l.reaches s h is)

-- a number of steps after which all marked states below j are reached
all_reached : (step : (ℕ → Bool) → ℕ → Bool) (first : ℕ → Bool) (n : ℕ) (marks : List Bool) → AreReached step first n marks → (j : ℕ) → j ≤ n
    → (k : ℕ) × ((t : ℕ) → t < j → marked marks t ≡ true → reached step first k t ≡ true)
all_reached step first n marks a zero low = (0, λ t h. absurd (omega arith))
all_reached step first n marks a (suc j) low =
    let w = all_reached step first n marks a j (omega (arith, low)) in
    elim (cases_Bool (marked marks j)) [
      | inl is ↦
          (let there = a.marks_reached j (omega (arith, low)) in
          let k = there.0 is in (
            k.0 + w.0,
            λ t h e. elim (cases_eq t j) [
              | inl same ↦ (let z : k.0 + w.0 ≡ w.0 + k.0 = omega arith in ap (λ i. reached step first i t) z ∙ stays-reached step first w.0 k.0 t (ap (reached step first k.0) same ∙ k.1))
              | inr other ↦ stays-reached step first k.0 w.0 t (w.1 t (omega (arith, h, other)) e)
            ],
          ))
      | inr not ↦ (w.0, λ t h e. elim (cases_eq t j) [ inl same ↦ absurd (false≢true (sym not ∙ sym (ap (marked marks) same) ∙ e)) | inr other ↦ w.1 t (omega (arith, h, other)) e ])
    ]

pub rest_avoids : RestAvoids
rest_avoids m targets marks ok a s h out = elim (cases_Bool (must_step m (marked marks) s)) [
  | inl is ↦
      (let first = marked targets in
      let w = all_reached (must_step m) first (states_of m) marks a (states_of m) (omega arith) in
      let set = reached (must_step m) first w.0 in
      let stepped : must_step m set s ≡ true = list_all-by (λ (x : Choice). can_enter set x.row) (choices_at m s) no_choice (λ c k.
      (let row = ok.row s c h k in
      let z = enters-at (marked marks) (row_at m s c) (states_of m) row.in_range (list_all-at (λ (x : Choice). can_enter (marked marks) x.row) (choices_at m s) no_choice is c k) in
      enters-by set (row_at m s c) z.0 z.2 (w.1 z.0 z.1 z.3))) in
      absurd (false≢true (never-reached (must_step m) first (states_of m) marks a (suc w.0) s h out (step-reaches (must_step m) first w.0 s stepped))))
  | inr not_met ↦
      (let w = list_all-fails (λ (x : Choice). can_enter (marked marks) x.row) (choices_at m s) no_choice not_met in
      let row = ok.row s w.0 h w.1 in
      list_any-by (λ (x : Choice). stays_in (λ t. not (marked marks t)) x.row) (choices_at m s) no_choice w.0 w.1
      (stays-outside (marked marks) (λ t. not (marked marks t)) (row_at m s w.0) (states_of m) row.in_range (λ t l e. ap not e) w.2))
]

-- ---- sure_some

pub choices_are_sure : ChoicesAreSure
choices_are_sure m goals marks ranks policy ok g r l = record {
  stays = λ s h e not_goal. and-left (stays_in (marked marks) (row_at m s (get_or policy s 0))) (falls m marks ranks s (get_or policy s 0)) (l.passes s h e not_goal);
  reaches = λ s h e. (
    get_or ranks s 0,
    fall_reaches m (marked goals) marks ranks policy ok l.in_range
        (λ t k is not_goal. and-right (stays_in (marked marks) (row_at m t (get_or policy t 0))) (falls m marks ranks t (get_or policy t 0)) (l.passes t k is not_goal))
        (get_or ranks s 0) s h e (omega arith),
  );
}

-- a policy that keeps a set comes to a goal by choices that stay in the set and the goals
module _ (m : Mdp) (goals : List Bool) (policy : List ℕ) (set : ℕ → Bool) (ok : IsMdp m) (p : IsPolicy m policy) (v : IsSurePolicy m goals policy set) where
  larger : ℕ → Bool
  larger s = set s || marked goals s

  goal-larger : (s : ℕ) → marked goals s ≡ true → larger s ≡ true
  unfolding larger
  goal-larger s e = ap (λ b. set s || b) e ∙ or-true (set s)

  set-larger : (s : ℕ) → set s ≡ true → larger s ≡ true
  unfolding larger
  set-larger s e = ap (λ b. b || marked goals s) e

  in-set : (s : ℕ) → larger s ≡ true → marked goals s ≡ false → set s ≡ true
  unfolding larger
  in-set s e not_goal = elim (cases_Bool (set s)) [
    | inl is ↦ is
    | inr out ↦ absurd (false≢true (sym not_goal ∙ sym (ap (λ b. b || marked goals s) out) ∙ e))
  ]

  reaches_inside : (k s : ℕ) → s < states_of m → set s ≡ true → reached (policy_step m policy) (marked goals) k s ≡ true → reached (inside_step m larger) (marked goals) k s ≡ true
  unfolding reached
  reaches_inside zero s h is e = e
  reaches_inside (suc k) s h is e = elim (cases_Bool (marked goals s)) [
    | inl goal ↦ first-reached (inside_step m larger) (marked goals) (suc k) s goal
    | inr not_goal ↦ (elim (cases_Bool (reached (policy_step m policy) (marked goals) k s)) [
      | inl before ↦ ap (λ b. b || inside_step m larger (reached (inside_step m larger) (marked goals) k) s) (reaches_inside k s h is before)
      | inr new ↦
          (let there = reached (policy_step m policy) (marked goals) k in
          let c : ℕ = get_or policy s 0 in
          let row = ok.row s c h (p.in_range s h) in
          let stepped : can_enter there (row_at m s c) ≡ true = sym (ap (λ b. b || policy_step m policy there s) new) ∙ e in
          let kept = v.stays s h is not_goal in
          let z = enters-at there (row_at m s c) (states_of m) row.in_range stepped in
          step-reaches (inside_step m larger) (marked goals) k s
          (choice-inside m larger (reached (inside_step m larger) (marked goals) k) s c (p.in_range s h)
          (stays-more set larger (row_at m s c) (states_of m) row.in_range (λ t l i. set-larger t i) kept)
          (enters-by (reached (inside_step m larger) (marked goals) k) (row_at m s c) z.0 z.2 (reaches_inside k z.0 z.1 (stays-at set (row_at m s c) z.0 kept z.2) z.3))))
    ])
  ]

  larger_is_sure : IsSure m goals larger
  larger_is_sure = record {
    goals_in = λ s h e. goal-larger s e;
    reaches = λ s h e. elim (cases_Bool (marked goals s)) [
      | inl goal ↦ (0, first-reached (inside_step m larger) (marked goals) 0 s goal)
      | inr not_goal ↦ (let is = in-set s e not_goal in let w = v.reaches s h is in (w.0, reaches_inside w.0 s h is w.1))
    ];
  }

  pub marked_by_policy : (marks : List Bool) → IsGreatestSure m goals marks → (s : ℕ) → s < states_of m → set s ≡ true → marked marks s ≡ true
  marked_by_policy marks g s h e = g.greatest larger larger_is_sure s h (set-larger s e)

pub sure_are_marked : SureAreMarked
sure_are_marked m goals marks policy set ok g p v s h e = marked_by_policy m goals policy set ok p v marks g s h e
