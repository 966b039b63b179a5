-- Sets that are kept, and in which ranks fall, arrive at a goal with probability 1.
use Rattle.std.proofs.Common.{◌≡◌, inl, inr, ℕ, ◌<◌, ◌≤◌, Bool, true, false, cond, not, ◌&&◌, nat_lt, lt-ltb}
use Rattle.std.proofs.{Common.{ltb-true, List, [], ◌∷◌, length, get_or, refl, sym, ap, ◌∙◌, subst, arith, pos}, lemmas.Bool.{false≢true, cases_Bool}}
use Rattle.std.proofs.lemmas.List.Folds.{Any-from_list_any}
use Rattle.mdp_math.specs.Rational.{ℚ, ◌+ℚ◌, ◌*ℚ◌, ◌≤ℚ◌}
use Rattle.mdp_math.proofs.{Kernel.{weigh-le_mass}, Order.{0ℚ, 1ℚ, ≤ℚ_of_eq, ≤ℚ_trans, ≤ℚ_antisymm}, Ring.{◌⊕◌, ◌⊗◌, lit, ring}, Laws.{rat_ring}}
use Rattle.mdp_math.proofs.{Whole.{of_nat-nonneg}, Booleans.{and-left, and-right}}
use Rattle.mdp_spec.specs.{Bounds.{part}, Hit.{hit}, Mdp.{Entry, Choice, Mdp, no_choice, states_of, choices_at, row_at}, Row.{IsMdp}, Tree.{Tree, unfolded}}
use Rattle.mdp_spec.proofs.{Above.{row_weigh, hit-le_by, hit-nonneg}, Arrives.{arrives_by_ranks}}
use Rattle.mdp_spec.proofs.{Keeping.{HasChoice, Follows, Keeps, keeps_of_Fits, keeps_unfolded}, Rows.{probs_nonneg}}
use Rattle.mdp_graph.specs.{Sets.{marked, can_enter, stays_in}, Layers.{reached}, Reach.{falls}, Meet.{must_step}}
use Rattle.mdp_graph.specs.Laws.{ChoicesArrive, ChoicesMiss, TreesArrive}
use Rattle.mdp_graph.proofs.{PassLaws.{stays_sure}, PolicyLaws.{least_step}, RowSets.{list_all-at, enters-at, enters-by}}

-- where choices that meet a rule keep to the marked states, and lead to a smaller rank, deep trees meet a goal with nearly all their paths
module _ (m : Mdp) (goals marks : List Bool) (ok : IsMdp m) (P : ℕ → ℕ → Type 0) (rank : ℕ → ℕ)
    (kept : (s c : ℕ) → s < states_of m → marked marks s ≡ true → marked goals s ≡ false → P s c → c < length (choices_at m s) → stays_in (marked marks) (row_at m s c) ≡ true)
    (fall : (s c : ℕ) → s < states_of m → marked marks s ≡ true → marked goals s ≡ false → P s c → c < length (choices_at m s)
    → can_enter (λ t. nat_lt (rank t) (rank s)) (row_at m s c) ≡ true) where
  pub arrives : (k : ℕ) → 1 ≤ k
      → (n : ℕ) × ((d u : ℕ) (t : Tree) (s : ℕ) → n ≤ d → 1 ≤ u → s < states_of m → marked marks s ≡ true → Keeps m P u d t s → 1ℚ ≤ℚ hit m goals u d t s +ℚ part k)
  arrives =
      arrives_by_ranks m goals ok P (marked marks) rank
      (λ s c h g is p i. λ k d l. list_all-at (λ (y : Entry). marked marks y.target) (row_at m s c) d (kept s c h is g p i) k l)
      (λ s c h g is p i.
      let f = Any-from_list_any (λ (y : Entry). nat_lt (rank y.target) (rank s)) (row_at m s c) (fall s c h is g p i) in
      (f.0, f.1, f.2, f.3, ltb-true _ (rank s) f.4))

-- ---- sure_some

pub choices_arrive : ChoicesArrive
choices_arrive m goals marks ranks policy ok g r l s k h is hk =
    let lower : ℕ → ℕ → Bool = λ s t. nat_lt (get_or ranks t 0) (get_or ranks s 0) in
    let kept : (s c : ℕ) → s < states_of m → marked marks s ≡ true → marked goals s ≡ false → Follows policy s c → c < length (choices_at m s) → stays_in (marked marks) (row_at m s c) ≡ true =
    λ s c h e not_goal p i. subst (λ (d : ℕ). stays_in (marked marks) (row_at m s d) ≡ true) (sym p)
    (and-left (stays_in (marked marks) (row_at m s (get_or policy s 0))) (falls m marks ranks s (get_or policy s 0)) (l.passes s h e not_goal)) in
    let fall : (s c : ℕ) → s < states_of m → marked marks s ≡ true → marked goals s ≡ false → Follows policy s c → c < length (choices_at m s)
    → can_enter (λ t. nat_lt (get_or ranks t 0) (get_or ranks s 0)) (row_at m s c) ≡ true =
    λ s c h e not_goal p i.
    (let d : ℕ = get_or policy s 0 in
    let z = enters-at (λ t. marked marks t && nat_lt (get_or ranks t 0) (get_or ranks s 0)) (row_at m s d) (states_of m) (ok.row s d h (l.in_range s h)).in_range
    (and-right (stays_in (marked marks) (row_at m s d)) (falls m marks ranks s d) (l.passes s h e not_goal)) in
    subst (λ (d : ℕ). can_enter (λ t. nat_lt (get_or ranks t 0) (get_or ranks s 0)) (row_at m s d) ≡ true) (sym p)
    (enters-by (λ t. nat_lt (get_or ranks t 0) (get_or ranks s 0)) (row_at m s d) z.0 z.2 (and-right (marked marks z.0) (nat_lt (get_or ranks z.0 0) (get_or ranks s 0)) z.3))) in
    let a = arrives m goals marks ok (Follows policy) (λ t. get_or ranks t 0) kept fall k hk in
    (a.0, a.1 a.0 1 (unfolded m policy a.0 s) s (omega arith) (omega arith) h is (keeps_unfolded m policy a.0 s ok (record { one_each = l.count; in_range = l.in_range }) h))

-- ---- sure_all

pub trees_arrive : TreesArrive
trees_arrive m goals marks ranks ok w r s k h is hk =
    let first = marked goals in
    let fall : (s c : ℕ) → s < states_of m → marked marks s ≡ true → marked goals s ≡ false → HasChoice m s c → c < length (choices_at m s)
    → can_enter (λ t. nat_lt (get_or ranks t 0) (get_or ranks s 0)) (row_at m s c) ≡ true =
    λ s c h e not_goal p i.
    (let q = least_step (must_step m) first (states_of m) marks ranks r s (get_or ranks s 0) h refl e not_goal in
    let enters = list_all-at (λ (x : Choice). can_enter (reached (must_step m) first q.0) x.row) (choices_at m s) no_choice q.2 c i in
    let z = enters-at (reached (must_step m) first q.0) (row_at m s c) (states_of m) (ok.row s c h i).in_range enters in
    let low = r.least z.0 q.0 z.1 z.3 in
    enters-by (λ t. nat_lt (get_or ranks t 0) (get_or ranks s 0)) (row_at m s c) z.0 z.2 (lt-ltb (get_or ranks z.0 0) (get_or ranks s 0) (omega (arith, low, q.1)))) in
    let a = arrives m goals marks ok (HasChoice m) (λ t. get_or ranks t 0) (λ s c h e not_goal p i. stays_sure m goals marks ok w s c h e not_goal i) fall k hk in
    (a.0, λ d u t deep strategy. a.1 d u t s deep strategy.mixes h is (keeps_of_Fits m u d t s strategy.fits))

-- ---- may_avoid

-- 0 at the marked states, 1 at the others
abbrev missed_value : List Bool → ℕ → ℚ
missed_value marks s = cond (marked marks s) 0ℚ 1ℚ

times_zero : (x : ℚ) → x *ℚ 0ℚ ≡ 0ℚ
times_zero = ring rat_ring 1 (λ x. x ⊗ lit (pos 0)) (λ x. lit (pos 0)) refl

plus_zero : (x : ℚ) → x +ℚ 0ℚ ≡ x
plus_zero = ring rat_ring 1 (λ x. x ⊕ lit (pos 0)) (λ x. x) refl

missed-nonneg : (marks : List Bool) (s : ℕ) → 0ℚ ≤ℚ missed_value marks s
missed-nonneg marks s = elim (cases_Bool (marked marks s)) [
  | inl is ↦ ≤ℚ_of_eq _ _ (sym (ap (λ b. cond b 0ℚ 1ℚ) is))
  | inr not ↦ subst (λ (b : Bool). 0ℚ ≤ℚ cond b 0ℚ 1ℚ) (sym not) (of_nat-nonneg 1)
]

missed-at-most-one : (marks : List Bool) (s : ℕ) → missed_value marks s ≤ℚ 1ℚ
missed-at-most-one marks s = elim (cases_Bool (marked marks s)) [
  | inl is ↦ subst (λ (b : Bool). cond b 0ℚ 1ℚ ≤ℚ 1ℚ) (sym is) (of_nat-nonneg 1)
  | inr not ↦ ≤ℚ_of_eq _ _ (ap (λ b. cond b 0ℚ 1ℚ) not)
]

-- a row that stays inside weighs nothing
inside-misses : (marks : List Bool) (row : List Entry) → stays_in (marked marks) row ≡ true → row_weigh (missed_value marks) row ≡ 0ℚ
inside-misses marks [] e = refl
inside-misses marks (x ∷ row) e =
    let here : x.prob *ℚ missed_value marks x.target ≡ 0ℚ = ap (λ b. x.prob *ℚ cond b 0ℚ 1ℚ) (and-left (marked marks x.target) (stays_in (marked marks) row) e) ∙ times_zero x.prob in
    ap (λ (v : ℚ). v +ℚ row_weigh (missed_value marks) row) here ∙ ap (λ (v : ℚ). 0ℚ +ℚ v) (inside-misses marks row (and-right (marked marks x.target) (stays_in (marked marks) row) e)) ∙ plus_zero 0ℚ

pub choices_miss : ChoicesMiss
choices_miss m goals marks policy ok g l n s h is =
    let at_goal : (s : ℕ) → s < states_of m → marked goals s ≡ true → 1ℚ ≤ℚ missed_value marks s =
    λ s h e. elim (cases_Bool (marked marks s)) [
      | inl in_set ↦ absurd (false≢true (sym (g.avoiding.outside s h in_set) ∙ e))
      | inr not ↦ ≤ℚ_of_eq _ _ (sym (ap (λ b. cond b 0ℚ 1ℚ) not))
    ] in
    let at_choice : (s c : ℕ) → s < states_of m → marked goals s ≡ false → Follows policy s c → c < length (choices_at m s) → row_weigh (missed_value marks) (row_at m s c) ≤ℚ missed_value marks s =
    λ s c h e p i. elim (cases_Bool (marked marks s)) [
      | inl in_set ↦
          (let kept = and-right (marked marks s) (stays_in (marked marks) (row_at m s (get_or policy s 0))) (l.passes s h in_set e) in
          ≤ℚ_of_eq _ _ (inside-misses marks (row_at m s c) (subst (λ (d : ℕ). stays_in (marked marks) (row_at m s d) ≡ true) (sym p) kept) ∙ sym (ap (λ b. cond b 0ℚ 1ℚ) in_set)))
      | inr not ↦
          ≤ℚ_trans _ _ _ (weigh-le_mass (λ (y : Entry). y.target) (λ (y : Entry). y.prob) (missed_value marks) (row_at m s c)
          (probs_nonneg (states_of m) (row_at m s c) (ok.row s c h i)) (missed-at-most-one marks))
          (≤ℚ_of_eq _ _ ((ok.row s c h i).distribution.total ∙ sym (ap (λ b. cond b 0ℚ 1ℚ) not)))
    ] in
    let below = hit-le_by m goals 1 ok (omega arith) (Follows policy) (missed_value marks) (λ v k. missed-nonneg marks v) at_goal at_choice n
    (unfolded m policy n s) s h (keeps_unfolded m policy n s ok (record { one_each = l.count; in_range = l.in_range }) h) in
    ≤ℚ_antisymm _ _ (≤ℚ_trans _ _ _ below (≤ℚ_of_eq _ _ (ap (λ b. cond b 0ℚ 1ℚ) is))) (hit-nonneg m goals 1 n (unfolded m policy n s) s (omega arith))
