-- There is exactly one next policy: one class has the least state, there is one list of least ranks, and one least choice at each state.
use Rattle.std.proofs.Common.{◌≡◌, ◌≢◌, ℕ, zero, suc, ◌<◌, ◌≤◌, ◌⊎◌, inl, inr, Bool, true, false, ◌&&◌, ◌||◌, nat_lt, List, get_or, refl, sym, ◌∙◌, ap, subst, arith}
use Rattle.std.proofs.{lemmas.List.FromFn.{fill_by_all}, lemmas.List.Folds.{Any-from_list_any, list_any_at}, lemmas.List.{get_or_default}}
use Rattle.std.specs.{List.{Any, list_any}, Prelude.{slice_index}}
use Rattle.mdp_math.proofs.{Booleans.{and-left, and-right, and-both}, Numbers.{le_or, last_or}}
use Rattle.mdp_spec.specs.Mdp.{Entry}
use Rattle.mdp_unichain.specs.Chain.{IsChain, IsClosedClass}
use Rattle.mdp_unichain.specs.Component.{Component, Choice, no_choice, count, choices_at, choice_at, IsInner, is_state, row_by, IsPolicy, CanReach, IsComponent}
use Rattle.mdp_unichain.specs.Improvement.{KeepsClasses}
use Rattle.mdp_unichain.specs.Next.{HoldsChanged, IsPicked, LeadsNearer, AreRanksToward, IsNearest, GoesExactly, IsExactNext, ExactIsNext, HasOneExactNext}
use Rattle.mdp_unichain.proofs.{Chains.{target, same_or_other}, Reaching.{search_below, test_or_not, clash_test, least_of}, Classes.{holds, class-chain}}
use Rattle.mdp_unichain.proofs.{Improving.{policy-chain, state-below, inner-below, state-of}, Deciding.{in_class}, Best.{listed, listed-at, listed-policy}}

-- ---- it is a next policy

pub exact_is_next : ExactIsNext
exact_is_next p policy improved after (inl k) = inl k
exact_is_next p policy improved after (inr g) = inr (
  g.0,
  record {
    class_is = IsPicked.class_is g.2.picked;
    changed = IsPicked.changed g.2.picked;
    kept = g.2.kept;
    toward = record { rank = g.1; falls = λ s h e. let a = (IsNearest.nearer (g.2.toward s h e)).1 in (a.0, a.1, a.2, a.3, inr a.4) };
    is = g.2.is;
  },
)

-- ---- one class

-- closed classes that share a state are the same
pub class-within : (states : ℕ → Bool) (n : ℕ) (row : ℕ → List Entry) → IsChain states n row → (one other : ℕ → Bool) → IsClosedClass states row one → IsClosedClass states row other
    → (t : ℕ) → one t ≡ true → other t ≡ true → (s : ℕ) → one s ≡ true → other s ≡ true
class-within states n row chain one other c d t h k s i =
    and-right (one s) (other s)
    (holds one n row (class-chain states n row chain one c) (λ v. one v && other v) (λ v q. and-left (one v) (other v) q)
    (λ v q j x l. and-both _ _ (c.closed v (and-left (one v) (other v) q) j x l) (d.closed v (and-right (one v) (other v) q) j x l)) s (c.connected s i) t (and-both (one t) (other t) h k))

pub same_tests : (a b : Bool) → (a ≡ true → b ≡ true) → (b ≡ true → a ≡ true) → a ≡ b
same_tests true b h k = sym (h refl)
same_tests false true h k = k refl
same_tests false false h k = refl

module _ (p : Component) (known : IsComponent p) (policy improved : List ℕ) (is : IsPolicy p improved) where
  abbrev chain : IsChain (is_state p) (count p) (row_by p improved)
  chain = policy-chain p improved known is

  picked_within : (one other : ℕ → Bool) → IsPicked p policy improved one → IsPicked p policy improved other → (s : ℕ) → one s ≡ true → other s ≡ true
  picked_within one other a b s h =
      let l = a.least.2 other b.class_is b.changed b.least.0 b.least.1 in
      let k = b.least.2 one a.class_is a.changed a.least.0 a.least.1 in
      let e : b.least.0 ≡ a.least.0 = omega arith in
      class-within (is_state p) (count p) (row_by p improved) chain one other a.class_is b.class_is a.least.0 a.least.1 (subst (λ (v : ℕ). other v ≡ true) e b.least.1) s h

  one_class : (one other : ℕ → Bool) → IsPicked p policy improved one → IsPicked p policy improved other → (s : ℕ) → one s ≡ other s
  one_class one other a b s = same_tests (one s) (other s) (picked_within one other a b s) (picked_within other one b a s)

  -- ---- one list of ranks

  module _ (class other : ℕ → Bool) (rank ranks : ℕ → ℕ) (same : (s : ℕ) → class s ≡ other s) (a : AreRanksToward p class rank) (b : AreRanksToward p other ranks) where
    rank_le : (fuel s : ℕ) → ranks s < fuel → is_state p s ≡ true → rank s ≤ ranks s
    rank_le zero s l h = absurd (omega arith)
    rank_le (suc fuel) s l h = elim (test_or_not (class s)) as (λ _. rank s ≤ ranks s) [
      | inl k ↦ let e = a.zero s k in omega arith
      | inr k ↦
          let f = b.falls s h (sym (same s) ∙ k) in
          let y = f.1.1 in
          let step : rank s ≤ suc (rank (target y.1)) = subst (λ (x : Entry). rank s ≤ suc (rank x.target)) y.3 (a.least s f.0 f.1.0 y.0 y.1 y.2) in
          let st : is_state p (target y.1) ≡ true = subst (λ (x : Entry). is_state p x.target ≡ true) y.3 (known.stays s f.0 f.1.0 y.0 y.1 y.2) in
          let ih = rank_le fuel (target y.1) (omega (arith, y.4, l)) st in
          omega (arith, y.4)
    ]

  module _ (class other : ℕ → Bool) (rank ranks : ℕ → ℕ) (same : (s : ℕ) → class s ≡ other s) (a : AreRanksToward p class rank) (b : AreRanksToward p other ranks) where
    pub one_rank : (s : ℕ) → is_state p s ≡ true → rank s ≡ ranks s
    one_rank s h =
        let l = rank_le class other rank ranks same a b (suc (ranks s)) s (omega arith) h in
        let k = rank_le other class ranks rank (λ s. sym (same s)) b a (suc (rank s)) s (omega arith) h in
        omega arith

    pub nearer_same : (s c : ℕ) → LeadsNearer p rank s c → LeadsNearer p ranks s c
    nearer_same s c h =
        let y = h.1 in
        let st : is_state p (target y.1) ≡ true = subst (λ (x : Entry). is_state p x.target ≡ true) y.3 (known.stays s c h.0 y.0 y.1 y.2) in
        (h.0, (y.0, y.1, y.2, y.3, smaller (one_rank (target y.1) st) (one_rank s (state-of p s c h.0)) y.4))
      where
        smaller : {i j k l : ℕ} → i ≡ k → j ≡ l → i < j → k < l
        smaller e f h = omega arith

  -- ---- one policy

  module _ (a b : List ℕ) (class other : ℕ → Bool) (rank ranks : ℕ → ℕ) (g : GoesExactly p policy improved a class rank) (h : GoesExactly p policy improved b other ranks) where
    same : (s : ℕ) → class s ≡ other s
    same s = one_class class other g.picked h.picked s

    at_same : (s : ℕ) → slice_index a s ≡ slice_index b s
    at_same s = elim (test_or_not (is_state p s)) as (λ _. slice_index a s ≡ slice_index b s) [
      | inr o ↦ IsPolicy.outside g.is s o ∙ sym (IsPolicy.outside h.is s o)
      | inl k ↦ elim (test_or_not (class s)) as (λ _. slice_index a s ≡ slice_index b s) [
        | inl e ↦ g.kept s e ∙ sym (h.kept s (sym (same s) ∙ e))
        | inr e ↦
            let x = g.toward s k e in
            let y = h.toward s k (sym (same s) ∙ e) in
            let l = IsNearest.least x (slice_index b s) (nearer_same other class ranks rank (λ v. sym (same v)) h.ranks g.ranks s (slice_index b s) (IsNearest.nearer y)) in
            let m = IsNearest.least y (slice_index a s) (nearer_same class other rank ranks same g.ranks h.ranks s (slice_index a s) (IsNearest.nearer x)) in
            omega arith
      ]
    ]

    one_toward : a ≡ b
    one_toward =
        fill_by_all (slice_index b) a (count p) 0 (IsPolicy.len g.is) (λ k l. at_same k)
        ∙ sym (fill_by_all (slice_index b) b (count p) 0 (IsPolicy.len h.is) (λ k l. refl))

  pub one_next : (a b : List ℕ) → IsExactNext p policy improved a → IsExactNext p policy improved b → a ≡ b
  one_next a b (inl k) (inl h) = k.0 ∙ sym h.0
  one_next a b (inl k) (inr h) = let c = IsPicked.changed h.2.picked in absurd (c.2 (k.1 h.0 (IsPicked.class_is h.2.picked) c.0 c.1))
  one_next a b (inr k) (inl h) = let c = IsPicked.changed k.2.picked in absurd (c.2 (h.1 k.0 (IsPicked.class_is k.2.picked) c.0 c.1))
  one_next a b (inr k) (inr h) = one_toward a b k.0 h.0 k.1 h.1 k.2 h.2

  -- ---- the class

  abbrev Holder : ℕ → Type 0
  Holder s = (class : ℕ → Bool) × IsClosedClass (is_state p) (row_by p improved) class × (class s ≡ true) × HoldsChanged policy improved class

  abbrev NoHolder : ℕ → Type 0
  NoHolder s = (class : ℕ → Bool) → IsClosedClass (is_state p) (row_by p improved) class → class s ≡ true → HoldsChanged policy improved class → ⊥

  changed_or_not : (class : ℕ → Bool) → IsClosedClass (is_state p) (row_by p improved) class
      → HoldsChanged policy improved class ⊎ ((s : ℕ) → class s ≡ true → slice_index improved s ≡ slice_index policy s)
  changed_or_not class c =
      elim (search_below (λ s. (class s ≡ true) × (slice_index improved s ≢ slice_index policy s)) (λ s. class s ≡ true → slice_index improved s ≡ slice_index policy s) (count p)
      (λ s l. by s (test_or_not (class s)) (same_or_other (slice_index improved s) (slice_index policy s)))) as
      (λ _. HoldsChanged policy improved class ⊎ ((s : ℕ) → class s ≡ true → slice_index improved s ≡ slice_index policy s)) [
        | inl f ↦ inl (f.0, f.2.0, f.2.1)
        | inr q ↦ inr (λ s h. q s (state-below p s (c.states s h)) h)
      ]
    where
      by : (s : ℕ) → (class s ≡ true) ⊎ (class s ≡ false) → (slice_index improved s ≡ slice_index policy s) ⊎ (slice_index improved s ≢ slice_index policy s)
          → ((class s ≡ true) × (slice_index improved s ≢ slice_index policy s)) ⊎ (class s ≡ true → slice_index improved s ≡ slice_index policy s)
      by s (inl h) (inl e) = inr (λ k. e)
      by s (inl h) (inr o) = inl (h, o)
      by s (inr h) q = inr (λ k. absurd (clash_test (class s) k h))

  holder : (s : ℕ) → (is_state p s ≡ true) ⊎ (is_state p s ≡ false) → Holder s ⊎ NoHolder s
  holder s (inr o) = inr (λ class c h d. clash_test (is_state p s) (IsClosedClass.states c s h) o)
  holder s (inl k) = elim (in_class (is_state p) (count p) (row_by p improved) chain s k) as (λ _. Holder s ⊎ NoHolder s) [
    | inr out ↦ inr (λ class c h d. clash_test (class s) h (out class c))
    | inl i ↦ elim (changed_or_not i.0 i.1) as (λ _. Holder s ⊎ NoHolder s) [
      | inl d ↦ inl (i.0, i.1, i.2, d)
      | inr q ↦ inr (λ class c h d. d.2 (q d.0 (class-within (is_state p) (count p) (row_by p improved) chain class i.0 c i.1 s h i.2 d.0 d.1)))
    ]
  ]

  -- the first number with a property
  first_below : (P Q : ℕ → Type 0) (n : ℕ) → ((s : ℕ) → P s ⊎ Q s) → ((s : ℕ) × P s × ((u : ℕ) → u < s → Q u)) ⊎ ((s : ℕ) → s < n → Q s)
  first_below P Q zero h = inr (λ s l. absurd (omega arith))
  first_below P Q (suc n) h = elim (first_below P Q n h) as (λ _. ((s : ℕ) × P s × ((u : ℕ) → u < s → Q u)) ⊎ ((s : ℕ) → s < suc n → Q s)) [
    | inl f ↦ inl f
    | inr q ↦ elim (h n) as (λ _. ((s : ℕ) × P s × ((u : ℕ) → u < s → Q u)) ⊎ ((s : ℕ) → s < suc n → Q s)) [
      | inl x ↦ inl (n, x, q)
      | inr r ↦ inr (λ s l. elim (last_or n s l) as (λ _. Q s) [ inl e ↦ subst Q (sym e) r | inr k ↦ q s k ])
    ]
  ]

  none_before : (t u : ℕ) → ((u : ℕ) → u < t → NoHolder u) → Holder u → (t ≤ u) ⊎ (u < t) → t ≤ u
  none_before t u q h (inl l) = l
  none_before t u q h (inr l) = absurd (q u l h.0 h.1 h.2 h.3)

  pick : ((class : ℕ → Bool) × IsPicked p policy improved class) ⊎ KeepsClasses p policy improved
  pick = elim (first_below Holder NoHolder (count p) (λ s. holder s (test_or_not (is_state p s)))) as (λ _. ((class : ℕ → Bool) × IsPicked p policy improved class) ⊎ KeepsClasses p policy improved) [
    | inl f ↦ inl (f.1.0, record { class_is = f.1.1; changed = f.1.3; least = (f.0, f.1.2, λ other c d u h. none_before f.0 u f.2 (other, c, h, d) (le_or f.0 u)) })
    | inr q ↦ inr (λ class c s h. elim (same_or_other (slice_index improved s) (slice_index policy s)) as (λ _. slice_index improved s ≡ slice_index policy s) [
      | inl e ↦ e
      | inr o ↦ absurd (q s (state-below p s (IsClosedClass.states c s h)) class c h (s, h, o))
    ])
  ]

-- ---- the ranks

module _ (p : Component) (known : IsComponent p) (class : ℕ → Bool) (u : ℕ) (is : class u ≡ true) (u_is : is_state p u ≡ true) where
  -- an entry of the choice leads to a set
  abbrev enters : (ℕ → Bool) → Choice → Bool
  enters set c = c.inner && list_any (λ y. set y.target) c.row

  -- the states at most k steps away
  abbrev near : ℕ → ℕ → Bool
  near zero s = class s
  near (suc k) s = near k s || list_any (enters (near k)) (choices_at p s)

  or_right : (a b : Bool) → b ≡ true → (a || b) ≡ true
  or_right true b e = refl
  or_right false b e = e

  or_rest : (a b : Bool) → (a || b) ≡ true → a ≡ false → b ≡ true
  or_rest true b e h = cc
  or_rest false b e h = e

  near_by : (k s c : ℕ) → IsInner p s c → Any (λ y. near k y.target ≡ true) (Choice.row (choice_at p s c)) → near (suc k) s ≡ true
  near_by k s c h a =
      or_right (near k s) (list_any (enters (near k)) (choices_at p s))
      (list_any_at (enters (near k)) (choices_at p s) c no_choice (inner-below p s c h)
      (and-both (Choice.inner (choice_at p s c)) (list_any (λ y. near k y.target) (Choice.row (choice_at p s c))) h
      (list_any_at (λ y. near k y.target) (Choice.row (choice_at p s c)) a.0 a.1 a.2 (ap (λ (y : Entry). near k y.target) a.3 ∙ a.4))))

  far : (fuel s : ℕ) → CanReach.rank (known.connected u u_is) s < fuel → is_state p s ≡ true → (k : ℕ) × (near k s ≡ true)
  far zero s l h = absurd (omega arith)
  far (suc fuel) s l h = elim (same_or_other s u) as (λ _. (k : ℕ) × (near k s ≡ true)) [
    | inl e ↦ (zero, ap class e ∙ is)
    | inr o ↦
        let f = CanReach.falls (known.connected u u_is) s h o in
        let y = f.2 in
        let st : is_state p (target y.1) ≡ true = subst (λ (x : Entry). is_state p x.target ≡ true) y.3 (known.stays s f.0 f.1 y.0 y.1 y.2) in
        let k = far fuel (target y.1) (omega (arith, y.4, l)) st in
        (suc k.0, near_by k.0 s f.0 f.1 (y.0, y.1, y.2, y.3, k.1))
  ]

  rank_by : (s : ℕ) → (is_state p s ≡ true) ⊎ (is_state p s ≡ false) → ℕ
  rank_by s (inl h) = let k = far (suc (CanReach.rank (known.connected u u_is) s)) s (omega arith) h in (least_of (λ i. near i s) (suc k.0) k.0 (omega arith) k.1).0
  rank_by s (inr o) = 0

  rank_near : (s : ℕ) (a : (is_state p s ≡ true) ⊎ (is_state p s ≡ false)) → is_state p s ≡ true → near (rank_by s a) s ≡ true
  unfolding rank_by
  rank_near s (inl h) k = let i = far (suc (CanReach.rank (known.connected u u_is) s)) s (omega arith) h in (least_of (λ i. near i s) (suc i.0) i.0 (omega arith) i.1).1
  rank_near s (inr o) k = absurd (clash_test (is_state p s) k o)

  rank_least : (s : ℕ) (a : (is_state p s ≡ true) ⊎ (is_state p s ≡ false)) (k : ℕ) → near k s ≡ true → rank_by s a ≤ k
  unfolding rank_by
  rank_least s (inl h) k e = let i = far (suc (CanReach.rank (known.connected u u_is) s)) s (omega arith) h in (least_of (λ i. near i s) (suc i.0) i.0 (omega arith) i.1).2 k e
  rank_least s (inr o) k e = omega arith

  pub rank_of : ℕ → ℕ
  rank_of s = rank_by s (test_or_not (is_state p s))

  no_less : (k s : ℕ) → rank_of s ≡ suc k → (b : Bool) → near k s ≡ b → b ≡ false
  unfolding rank_of
  no_less k s e true h = absurd (let l = rank_least s (test_or_not (is_state p s)) k h in omega arith)
  no_less k s e false h = refl

  falls_by : (s k : ℕ) → rank_of s ≡ k → is_state p s ≡ true → class s ≡ false → (c : ℕ) × LeadsNearer p rank_of s c
  unfolding rank_of
  falls_by s zero e h o = absurd (clash_test (near zero s) (subst (λ i. near i s ≡ true) e (rank_near s (test_or_not (is_state p s)) h)) o)
  falls_by s (suc k) e h o =
      let n : near (suc k) s ≡ true = subst (λ i. near i s ≡ true) e (rank_near s (test_or_not (is_state p s)) h) in
      let a = Any-from_list_any (enters (near k)) (choices_at p s) (or_rest (near k s) (list_any (enters (near k)) (choices_at p s)) n (no_less k s e (near k s) refl)) in
      let is_choice : choice_at p s a.0 ≡ a.1 = get_or_default (choices_at p s) a.0 no_choice a.1 a.2 ∙ a.3 in
      let i : IsInner p s a.0 = ap Choice.inner is_choice ∙ and-left (Choice.inner a.1) (list_any (λ y. near k y.target) (Choice.row a.1)) a.4 in
      let y = Any-from_list_any (λ y. near k y.target) (Choice.row a.1) (and-right (Choice.inner a.1) (list_any (λ y. near k y.target) (Choice.row a.1)) a.4) in (
        a.0,
        (
          i,
          subst (λ (r : List Entry). Any (λ y. rank_of y.target < rank_of s) r) (ap Choice.row (sym is_choice))
              (y.0, y.1, y.2, y.3, let l = rank_least (target y.1) (test_or_not (is_state p (target y.1))) k y.4 in omega arith),
        ),
      )

  pub ranks_toward : AreRanksToward p class rank_of
  unfolding rank_of
  ranks_toward = record {
    zero = λ s h. let l = rank_least s (test_or_not (is_state p s)) zero h in omega arith;
    falls = λ s h o. falls_by s (rank_of s) refl h o;
    least = λ s c i j d l.
        let y = get_or (Choice.row (choice_at p s c)) j d in
        rank_least s (test_or_not (is_state p s)) (suc (rank_of (target y)))
        (near_by (rank_of (target y)) s c i (j, y, l, get_or_default (Choice.row (choice_at p s c)) j y d l, rank_near (target y) (test_or_not (is_state p (target y))) (known.stays s c i j d l)));
  }

  -- ---- the least choice

  nearest_test : ℕ → ℕ → Bool
  nearest_test s c = Choice.inner (choice_at p s c) && list_any (λ y. nat_lt (rank_of y.target) (rank_of s)) (Choice.row (choice_at p s c))

  test_of : (s c : ℕ) → LeadsNearer p rank_of s c → nearest_test s c ≡ true
  unfolding nearest_test
  test_of s c h =
      and-both (Choice.inner (choice_at p s c)) (list_any (λ y. nat_lt (rank_of y.target) (rank_of s)) (Choice.row (choice_at p s c))) h.0
      (list_any_at (λ y. nat_lt (rank_of y.target) (rank_of s)) (Choice.row (choice_at p s c)) h.1.0 h.1.1 h.1.2
      (ap (λ (y : Entry). nat_lt (rank_of y.target) (rank_of s)) h.1.3 ∙ lt_test (rank_of (target h.1.1)) (rank_of s) h.1.4))
    where
      lt_test : (i k : ℕ) → i < k → nat_lt i k ≡ true
      lt_test i k h = grind arith

  of_test : (s c : ℕ) → nearest_test s c ≡ true → LeadsNearer p rank_of s c
  unfolding nearest_test
  of_test s c h =
      let a =
      Any-from_list_any (λ y. nat_lt (rank_of y.target) (rank_of s)) (Choice.row (choice_at p s c))
      (and-right (Choice.inner (choice_at p s c)) (list_any (λ y. nat_lt (rank_of y.target) (rank_of s)) (Choice.row (choice_at p s c))) h) in (
        and-left (Choice.inner (choice_at p s c)) (list_any (λ y. nat_lt (rank_of y.target) (rank_of s)) (Choice.row (choice_at p s c))) h,
        (a.0, a.1, a.2, a.3, test_lt (rank_of (target a.1)) (rank_of s) a.4),
      )
    where
      test_lt : (i k : ℕ) → nat_lt i k ≡ true → i < k
      test_lt i k h = grind arith

  pub nearest : (s : ℕ) → is_state p s ≡ true → class s ≡ false → (c : ℕ) × IsNearest p rank_of s c
  nearest s h o =
      let f = AreRanksToward.falls ranks_toward s h o in
      let l = least_of (nearest_test s) (suc f.0) f.0 (omega arith) (test_of s f.0 f.1) in
      (l.0, record { nearer = of_test s l.0 l.1; least = λ d k. l.2 d (test_of s d k) })

  -- ---- the policy

  module _ (improved : List ℕ) (improved_is : IsPolicy p improved) (inside : (s : ℕ) → class s ≡ true → is_state p s ≡ true) where
    go_by : (s : ℕ) → (is_state p s ≡ true) ⊎ (is_state p s ≡ false) → (class s ≡ true) ⊎ (class s ≡ false) → ℕ
    go_by s (inr o) b = 0
    go_by s (inl h) (inl k) = slice_index improved s
    go_by s (inl h) (inr k) = (nearest s h k).0

    go_inner : (s : ℕ) (a : (is_state p s ≡ true) ⊎ (is_state p s ≡ false)) (b : (class s ≡ true) ⊎ (class s ≡ false)) → is_state p s ≡ true → IsInner p s (go_by s a b)
    unfolding go_by
    go_inner s (inr o) b h = absurd (clash_test (is_state p s) h o)
    go_inner s (inl h) (inl k) i = IsPolicy.inner improved_is s h
    go_inner s (inl h) (inr k) i = (IsNearest.nearer (nearest s h k).1).0

    go_outside : (s : ℕ) (a : (is_state p s ≡ true) ⊎ (is_state p s ≡ false)) (b : (class s ≡ true) ⊎ (class s ≡ false)) → is_state p s ≡ false → go_by s a b ≡ 0
    unfolding go_by
    go_outside s (inr o) b h = refl
    go_outside s (inl h) b i = absurd (clash_test (is_state p s) h i)

    go_kept : (s : ℕ) (a : (is_state p s ≡ true) ⊎ (is_state p s ≡ false)) (b : (class s ≡ true) ⊎ (class s ≡ false)) → class s ≡ true → go_by s a b ≡ slice_index improved s
    unfolding go_by
    go_kept s (inr o) b h = absurd (clash_test (is_state p s) (inside s h) o)
    go_kept s (inl h) (inl k) i = refl
    go_kept s (inl h) (inr k) i = absurd (clash_test (class s) i k)

    go_toward : (s : ℕ) (a : (is_state p s ≡ true) ⊎ (is_state p s ≡ false)) (b : (class s ≡ true) ⊎ (class s ≡ false))
        → is_state p s ≡ true → class s ≡ false → IsNearest p rank_of s (go_by s a b)
    unfolding go_by
    go_toward s (inr o) b h k = absurd (clash_test (is_state p s) h o)
    go_toward s (inl h) (inl k) i j = absurd (clash_test (class s) k j)
    go_toward s (inl h) (inr k) i j = (nearest s h k).1

    go : ℕ → ℕ
    go s = go_by s (test_or_not (is_state p s)) (test_or_not (class s))

    pub goes : List ℕ
    goes = listed p go

    pub goes-is : IsPolicy p goes
    unfolding goes go
    goes-is = listed-policy p go (λ s h. go_inner s (test_or_not (is_state p s)) (test_or_not (class s)) h) (λ s h. go_outside s (test_or_not (is_state p s)) (test_or_not (class s)) h)

    pub goes-kept : (s : ℕ) → class s ≡ true → slice_index goes s ≡ slice_index improved s
    unfolding goes go
    goes-kept s h = listed-at p go s (state-below p s (inside s h)) ∙ go_kept s (test_or_not (is_state p s)) (test_or_not (class s)) h

    pub goes-toward : (s : ℕ) → is_state p s ≡ true → class s ≡ false → IsNearest p rank_of s (slice_index goes s)
    unfolding goes go
    goes-toward s h k = subst (IsNearest p rank_of s) (sym (listed-at p go s (state-below p s h))) (go_toward s (test_or_not (is_state p s)) (test_or_not (class s)) h k)

-- ---- the law

some_next : (p : Component) (policy improved : List ℕ) → IsComponent p → IsPolicy p improved → ((class : ℕ → Bool) × IsPicked p policy improved class) ⊎ KeepsClasses p policy improved
    → (after : List ℕ) × IsExactNext p policy improved after
some_next p policy improved known is (inr k) = (improved, inl (refl, k))
some_next p policy improved known is (inl c) =
    let some = IsClosedClass.some (IsPicked.class_is c.1) in
    let inside = IsClosedClass.states (IsPicked.class_is c.1) in
    let u_is = inside some.0 some.1 in (
      goes p known c.0 some.0 some.1 u_is improved is inside,
      inr (
        c.0,
        rank_of p known c.0 some.0 some.1 u_is,
        record {
          picked = c.1;
          ranks = ranks_toward p known c.0 some.0 some.1 u_is;
          kept = goes-kept p known c.0 some.0 some.1 u_is improved is inside;
          toward = goes-toward p known c.0 some.0 some.1 u_is improved is inside;
          is = goes-is p known c.0 some.0 some.1 u_is improved is inside;
        },
      ),
    )

pub has_one_exact_next : HasOneExactNext
has_one_exact_next p policy improved known is =
    let s = some_next p policy improved known is (pick p known policy improved is) in
    (s.0, s.1, λ other h. one_next p known policy improved is other s.0 h s.1)
