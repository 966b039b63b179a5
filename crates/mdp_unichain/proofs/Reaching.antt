-- Search in a finite chain: all its states lead to t, or some of them form a closed set without t. And each closed set holds a closed class.
use Rattle.std.proofs.Common.{◌≡◌, ◌≢◌, ℕ, zero, suc, ◌<◌, ◌≤◌, ◌⊎◌, inl, inr, Bool, true, false, not}
use Rattle.std.proofs.{Common.{◌&&◌, ◌||◌, eqb, if◌then◌else◌, List, [], ◌∷◌, refl, sym, ◌∙◌, ap, subst, arith}, lemmas.List.Elements.{All-nil, All-cons}}
use Rattle.std.proofs.lemmas.Bool.{or_left, or_right, or_cases}
use Rattle.std.specs.List.{All, Any}
use Rattle.mdp_math.proofs.Numbers.{last_or, le_or, eqb-same}
use Rattle.mdp_spec.specs.Mdp.{Entry}
use Rattle.mdp_unichain.specs.Chain.{IsChain, AllLeadTo, IsClosedClass}
use Rattle.mdp_unichain.proofs.Chains.{target, same_number, other_number}
use Rattle.mdp_policy_iteration.proofs.Counting.{count_below, count-lt}

-- ---- search

-- some number below n has P, or all have Q
pub search_below : (P Q : ℕ → Type 0) (n : ℕ) → ((s : ℕ) → s < n → P s ⊎ Q s) → ((s : ℕ) × (s < n) × P s) ⊎ ((s : ℕ) → s < n → Q s)
search_below P Q zero h = inr (λ s l. absurd (omega arith))
search_below P Q (suc n) h = elim (search_below P Q n (λ s l. h s (omega arith))) as (λ _. ((s : ℕ) × (s < suc n) × P s) ⊎ ((s : ℕ) → s < suc n → Q s)) [
  | inl f ↦ inl (f.0, omega (arith, f.1), f.2)
  | inr q ↦ elim (h n (omega arith)) as (λ _. ((s : ℕ) × (s < suc n) × P s) ⊎ ((s : ℕ) → s < suc n → Q s)) [
    | inl p ↦ inl (n, omega arith, p)
    | inr r ↦ inr (λ s l. elim (last_or n s l) as (λ _. Q s) [ inl e ↦ subst Q (sym e) r | inr k ↦ q s k ])
  ]
]

-- the least number that passes a test
none_below : (test : ℕ → Bool) (s u : ℕ) → ((u : ℕ) → u < s → test u ≡ false) → test u ≡ true → (s ≤ u) ⊎ (u < s) → s ≤ u
none_below test s u q h (inl l) = l
none_below test s u q h (inr l) = absurd (let k : test u ≡ false = q u l in cc)

pub test_or_not : (b : Bool) → (b ≡ true) ⊎ (b ≡ false)
test_or_not true = inl refl
test_or_not false = inr refl

abbrev pub LeastOf : (ℕ → Bool) → Type 0
LeastOf test = (t : ℕ) × (test t ≡ true) × ((u : ℕ) → test u ≡ true → t ≤ u)

pub least_of : (test : ℕ → Bool) (n s : ℕ) → s < n → test s ≡ true → LeastOf test
least_of test zero s l e = absurd (omega arith)
least_of test (suc n) s l e = elim (search_below (λ u. test u ≡ true) (λ u. test u ≡ false) s (λ u i. test_or_not (test u))) as (λ _. LeastOf test) [
  | inl f ↦ least_of test n f.0 (omega (arith, f.1)) f.2
  | inr q ↦ (s, e, λ u h. none_below test s u q h (le_or s u))
]

-- ---- tests

pub and_true : (a b : Bool) → a ≡ true → b ≡ false → (a && not b) ≡ true
and_true true true e h = cc
and_true true false e h = refl
and_true false b e h = cc

pub and_first : (a b : Bool) → (a && not b) ≡ true → a ≡ true
and_first true b e = refl
and_first false b e = e

pub and_second : (a b : Bool) → (a && not b) ≡ true → b ≡ false
and_second true true e = cc
and_second true false e = refl
and_second false b e = cc

or_neither : (a b : Bool) → (a || b) ≡ false → (a ≡ false) × (b ≡ false)
or_neither true b e = cc
or_neither false b e = (refl, e)

pub clash_test : (b : Bool) → b ≡ true → b ≡ false → ⊥
clash_test true e h = cc
clash_test false e h = cc

pub rank_then : (b : Bool) (i k : ℕ) → b ≡ true → (if b then i else k) ≡ i
rank_then true i k e = refl
rank_then false i k e = cc

pub rank_else : (b : Bool) (i k : ℕ) → b ≡ false → (if b then i else k) ≡ k
rank_else true i k e = cc
rank_else false i k e = refl

any_or_all : {A : Type 0} (test : A → Bool) (xs : List A) → Any (λ x. test x ≡ true) xs ⊎ All (λ x. test x ≡ false) xs
any_or_all test [] = inr (All-nil (λ x. test x ≡ false))
any_or_all test (x ∷ xs) = elim (test_or_not (test x)) as (λ _. Any (λ y. test y ≡ true) (x ∷ xs) ⊎ All (λ y. test y ≡ false) (x ∷ xs)) [
  | inl e ↦ inl (0, x, omega arith, refl, e)
  | inr e ↦ elim (any_or_all test xs) as (λ _. Any (λ y. test y ≡ true) (x ∷ xs) ⊎ All (λ y. test y ≡ false) (x ∷ xs)) [
    | inl h ↦ inl (suc h.0, h.1, omega (arith, h.2), h.3, h.4)
    | inr h ↦ inr (All-cons (λ y. test y ≡ false) x xs e h)
  ]
]

-- ---- all lead to t, or some are closed without it

-- some of the states, that no entry leaves
pub record IsPart (states : ℕ → Bool) (n : ℕ) (row : ℕ → List Entry) (part : ℕ → Bool) : Type 0 where
  pub some : (s : ℕ) × (part s ≡ true)
  pub inside : (s : ℕ) → part s ≡ true → states s ≡ true
  pub closed : (s : ℕ) → part s ≡ true → All (λ y. part y.target ≡ true) (row s)

pub part-chain : (states : ℕ → Bool) (n : ℕ) (row : ℕ → List Entry) (part : ℕ → Bool) → IsChain states n row → IsPart states n row part → IsChain part n row
part-chain states n row part chain p = record {
  below = λ s h. chain.below s (p.inside s h);
  rows = λ s h. chain.rows s (p.inside s h);
  stays = p.closed;
}

-- which states lead into a set of them: along ranks that fall, and from the other states no entry does
pub record Split (states : ℕ → Bool) (row : ℕ → List Entry) (start : ℕ → Bool) : Type 0 where
  pub reached : ℕ → Bool
  pub starts : (s : ℕ) → start s ≡ true → reached s ≡ true
  pub rank : ℕ → ℕ
  pub falls : (s : ℕ) → reached s ≡ true → start s ≡ false → Any (λ y. (reached y.target ≡ true) × (rank y.target < rank s)) (row s)
  pub closed : (s : ℕ) → states s ≡ true → reached s ≡ false → All (λ y. reached y.target ≡ false) (row s)

module _ (states : ℕ → Bool) (n : ℕ) (row : ℕ → List Entry) (chain : IsChain states n row) (start : ℕ → Bool) where
  -- the states found so far
  record Found (reached : ℕ → Bool) : Type 0 where
    starts : (s : ℕ) → start s ≡ true → reached s ≡ true
    rank : ℕ → ℕ
    most : ℕ
    at_most : (s : ℕ) → reached s ≡ true → rank s ≤ most
    falls : (s : ℕ) → reached s ≡ true → start s ≡ false → Any (λ y. (reached y.target ≡ true) × (rank y.target < rank s)) (row s)

  abbrev left : (ℕ → Bool) → ℕ → Bool
  left reached s = states s && not (reached s)

  -- one more state
  module _ (reached : ℕ → Bool) (f : Found reached) (new : ℕ) (is_left : left reached new ≡ true) (leads : Any (λ y. reached y.target ≡ true) (row new)) where
    abbrev more : ℕ → Bool
    more s = reached s || eqb s new

    abbrev rank_more : ℕ → ℕ
    rank_more s = if eqb s new then suc f.most else f.rank s

    not_new : (s : ℕ) → reached s ≡ true → eqb s new ≡ false
    not_new s h = other_number s new (eqb s new) refl (λ e. clash_test (reached s) h (ap reached e ∙ and_second (states new) (reached new) is_left))

    rank_old : (s : ℕ) → reached s ≡ true → rank_more s ≡ f.rank s
    rank_old s h = rank_else (eqb s new) (suc f.most) (f.rank s) (not_new s h)

    rank_new : (s : ℕ) → eqb s new ≡ true → rank_more s ≡ suc f.most
    rank_new s e = rank_then (eqb s new) (suc f.most) (f.rank s) e

    at_most_more : (s : ℕ) → more s ≡ true → rank_more s ≤ suc f.most
    at_most_more s h = elim (or_cases (reached s) (eqb s new) h) as (λ _. rank_more s ≤ suc f.most) [
      | inl o ↦ let e = rank_old s o in let l = f.at_most s o in omega arith
      | inr k ↦ let e = rank_new s k in omega arith
    ]

    falls_more : (s : ℕ) → more s ≡ true → start s ≡ false → Any (λ y. (more y.target ≡ true) × (rank_more y.target < rank_more s)) (row s)
    falls_more s h o = elim (or_cases (reached s) (eqb s new) h) as (λ _. Any (λ y. (more y.target ≡ true) × (rank_more y.target < rank_more s)) (row s)) [
      | inl k ↦
          let a = f.falls s k o in
          (a.0, a.1, a.2, a.3, (or_left (reached (target a.1)) (eqb (target a.1) new) a.4.0, smaller (rank_old (target a.1) a.4.0) (rank_old s k) a.4.1))
      | inr k ↦
          let a = subst (λ i. Any (λ y. reached y.target ≡ true) (row i)) (sym (same_number s new k)) leads in
          (a.0, a.1, a.2, a.3, (or_left (reached (target a.1)) (eqb (target a.1) new) a.4, below (rank_old (target a.1) a.4) (rank_new s k) (f.at_most (target a.1) a.4)))
    ]
      where
        smaller : {i j a b : ℕ} → i ≡ a → j ≡ b → a < b → i < j
        smaller e f l = omega arith

        below : {i j a m : ℕ} → i ≡ a → j ≡ suc m → a ≤ m → i < j
        below e f l = omega arith

    found_more : Found more
    found_more = record { starts = λ s h. or_left (reached s) (eqb s new) (f.starts s h); rank = rank_more; most = suc f.most; at_most = at_most_more; falls = falls_more }

    fewer : count_below (left more) n < count_below (left reached) n
    fewer =
        count-lt (left more) (left reached) n new
        (λ s l h. and_true (states s) (reached s) (and_first (states s) (more s) h) (or_neither (reached s) (eqb s new) (and_second (states s) (more s) h)).0)
        (chain.below new (and_first (states new) (reached new) is_left))
        (gone (states new) (more new) (or_right (reached new) (eqb new new) (eqb-same new)))
        is_left
      where
        gone : (a b : Bool) → b ≡ true → (a && not b) ≡ false
        gone true b e = ap not e
        gone false b e = refl

  -- no state is left that leads to one that was reached
  ends : (reached : ℕ → Bool) → Found reached → ((s : ℕ) → s < n → left reached s ≡ true → All (λ y. reached y.target ≡ false) (row s)) → Split states row start
  ends reached f none = record {
    reached = reached;
    starts = f.starts;
    rank = f.rank;
    falls = f.falls;
    closed = λ s h e. none s (chain.below s h) (and_true (states s) (reached s) h e);
  }

  grows : (fuel : ℕ) (reached : ℕ → Bool) → Found reached → count_below (left reached) n < fuel → Split states row start
  grows zero reached f l = absurd (omega arith)
  grows (suc fuel) reached f l =
      elim (search_below (λ s. (left reached s ≡ true) × Any (λ y. reached y.target ≡ true) (row s)) (λ s. left reached s ≡ true → All (λ y. reached y.target ≡ false) (row s)) n
      (λ s i. decide s (left reached s) refl)) as (λ _. Split states row start) [
        | inl h ↦ grows fuel (more reached f h.0 h.2.0 h.2.1) (found_more reached f h.0 h.2.0 h.2.1) (let k = fewer reached f h.0 h.2.0 h.2.1 in omega arith)
        | inr q ↦ ends reached f q
      ]
    where
      decide : (s : ℕ) (b : Bool) → left reached s ≡ b
          → ((left reached s ≡ true) × Any (λ y. reached y.target ≡ true) (row s)) ⊎ (left reached s ≡ true → All (λ y. reached y.target ≡ false) (row s))
      decide s false e = inr (λ h. absurd (clash_test (left reached s) h e))
      decide s true e =
          elim (any_or_all (λ y. reached y.target) (row s)) as
          (λ _. ((left reached s ≡ true) × Any (λ y. reached y.target ≡ true) (row s)) ⊎ (left reached s ≡ true → All (λ y. reached y.target ≡ false) (row s))) [
            | inl a ↦ inl (e, a)
            | inr a ↦ inr (λ h. a)
          ]

  pub split : Split states row start
  split =
      grows (suc (count_below (left start) n)) start
      (record {
        starts = λ s h. h;
        rank = λ s. 0;
        most = 0;
        at_most = λ s h. omega arith;
        falls = λ s h e. absurd (clash_test (start s) h e);
      }) (omega arith)

-- the states that don't lead into the set
module _ (states : ℕ → Bool) (n : ℕ) (row : ℕ → List Entry) (chain : IsChain states n row) (start : ℕ → Bool) (f : Split states row start) where
  abbrev pub others : ℕ → Bool
  others s = states s && not (f.reached s)

  pub others-part : (s : ℕ) → others s ≡ true → IsPart states n row others
  others-part s h = record {
    some = (s, h);
    inside = λ u k. and_first (states u) (f.reached u) k;
    closed = λ u k j d l. and_true _ _ (chain.stays u (and_first (states u) (f.reached u) k) j d l) (f.closed u (and_first (states u) (f.reached u) k) (and_second (states u) (f.reached u) k) j d l);
  }

  pub others-not : (s : ℕ) → start s ≡ true → others s ≡ false
  others-not s h = not_left (states s) (f.reached s) (f.starts s h)
    where
      not_left : (a b : Bool) → b ≡ true → (a && not b) ≡ false
      not_left true b e = ap not e
      not_left false b e = refl

  pub reached_of : (s : ℕ) → states s ≡ true → others s ≡ false → f.reached s ≡ true
  reached_of s h e = is_reached (states s) (f.reached s) h e
    where
      is_reached : (a b : Bool) → a ≡ true → (a && not b) ≡ false → b ≡ true
      is_reached true true e h = refl
      is_reached true false e h = cc
      is_reached false b e h = cc

module _ (states : ℕ → Bool) (n : ℕ) (row : ℕ → List Entry) (chain : IsChain states n row) (t : ℕ) where
  abbrev pub alone : ℕ → Bool
  alone s = eqb s t

  -- the states that lead to t
  pub split_to : Split states row alone
  split_to = split states n row chain alone

  pub to_falls : (s : ℕ) → Split.reached split_to s ≡ true → s ≢ t → Any (λ y. (Split.reached split_to y.target ≡ true) × (Split.rank split_to y.target < Split.rank split_to s)) (row s)
  to_falls s h o = Split.falls split_to s h (other_number s t (eqb s t) refl o)

  abbrev Outcome : Type 0
  Outcome = AllLeadTo states row t ⊎ ((part : ℕ → Bool) × IsPart states n row part × (part t ≡ false))

  pub all_or_part : states t ≡ true → Outcome
  all_or_part is =
      elim (search_below (λ s. others states n row chain alone split_to s ≡ true) (λ s. others states n row chain alone split_to s ≡ false) n
      (λ s l. test_or_not (others states n row chain alone split_to s))) as (λ _. Outcome) [
        | inl h ↦ inr (others states n row chain alone split_to, others-part states n row chain alone split_to h.0 h.2, others-not states n row chain alone split_to t (eqb-same t))
        | inr h ↦ inl (record {
          state = is;
          rank = Split.rank split_to;
          falls = λ s k o. let a = to_falls s (reached_of states n row chain alone split_to s k (h s (chain.below s k))) o in (a.0, a.1, a.2, a.3, a.4.1);
        })
      ]

-- ---- each chain has a closed class

abbrev pub ClassOf : (ℕ → Bool) → (ℕ → List Entry) → Type 0
ClassOf states row = (class : ℕ → Bool) × IsClosedClass states row class

abbrev Smaller : (ℕ → Bool) → ℕ → (ℕ → List Entry) → ℕ → Type 0
Smaller states n row t = (states t ≡ true) × ((part : ℕ → Bool) × IsPart states n row part × (part t ≡ false))

abbrev LeadIfState : (ℕ → Bool) → (ℕ → List Entry) → ℕ → Type 0
LeadIfState states row t = states t ≡ true → AllLeadTo states row t

lead_or_smaller : (states : ℕ → Bool) (n : ℕ) (row : ℕ → List Entry) → IsChain states n row → (t : ℕ) (b : Bool) → states t ≡ b → Smaller states n row t ⊎ LeadIfState states row t
lead_or_smaller states n row chain t false e = inr (λ k. absurd (clash_test (states t) k e))
lead_or_smaller states n row chain t true e = elim (all_or_part states n row chain t e) as (λ _. Smaller states n row t ⊎ LeadIfState states row t) [ inl a ↦ inr (λ k. a) | inr p ↦ inl (e, p) ]

class_within : (fuel n : ℕ) (row : ℕ → List Entry) (states : ℕ → Bool) → IsChain states n row → (s : ℕ) → states s ≡ true → count_below states n < fuel → ClassOf states row
class_within zero n row states chain s h l = absurd (omega arith)
class_within (suc fuel) n row states chain s h l =
    elim (search_below (Smaller states n row) (LeadIfState states row) n (λ t i. lead_or_smaller states n row chain t (states t) refl)) as (λ _. ClassOf states row) [
      | inl f ↦
          let part = f.2.1 in
          let k : count_below part.0 n < count_below states n = count-lt part.0 states n f.0 (λ u i e. IsPart.inside part.1 u e) f.1 part.2 f.2.0 in
          let some = IsPart.some part.1 in
          let c = class_within fuel n row part.0 (part-chain states n row part.0 chain part.1) some.0 some.1 (omega arith) in (
            c.0,
            record {
              some = IsClosedClass.some c.1;
              states = λ u e. IsPart.inside part.1 u
                  (IsClosedClass.states c.1 u e);
              closed = IsClosedClass.closed c.1;
              connected = IsClosedClass.connected c.1;
            },
          )
      | inr q ↦ (states, record { some = (s, h); states = λ u e. e; closed = chain.stays; connected = λ t e. q t (chain.below t e) e })
    ]

pub has_class : (states : ℕ → Bool) (n : ℕ) (row : ℕ → List Entry) → IsChain states n row → (s : ℕ) → states s ≡ true → ClassOf states row
has_class states n row chain s h = class_within (suc (count_below states n)) n row states chain s h (omega arith)
