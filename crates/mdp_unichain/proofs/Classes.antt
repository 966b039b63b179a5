-- Closed classes: a chain where all lead into one class has one closed class, and where a change of rows touches no closed class, that one stays.
use Rattle.std.proofs.Common.{◌≡◌, ◌≢◌, ℕ, zero, suc, ◌+◌, ◌<◌, ◌≤◌, ◌⊎◌, inl, inr, Bool, true, false, if◌then◌else◌, List, sym, ◌∙◌, ap, subst, arith}
use Rattle.std.specs.List.{All, Any}
use Rattle.mdp_math.proofs.Floors.{greatest_rank}
use Rattle.mdp_spec.specs.Mdp.{Entry}
use Rattle.mdp_unichain.specs.Chain.{IsChain, AllLeadTo, IsReference, IsClosedClass, AllLeadInto}
use Rattle.mdp_unichain.proofs.Chains.{target, same_or_other}
use Rattle.mdp_unichain.proofs.Reaching.{test_or_not, clash_test, rank_then, rank_else, least_of, all_or_part, has_class, part-chain}

module _ (states : ℕ → Bool) (n : ℕ) (row : ℕ → List Entry) (chain : IsChain states n row) where
  -- a closed set with a state holds each state to which all lead
  module _ (part : ℕ → Bool) (inside : (s : ℕ) → part s ≡ true → states s ≡ true) (closed : (s : ℕ) → part s ≡ true → All (λ y. part y.target ≡ true) (row s)) (t : ℕ)
      (leads : AllLeadTo states row t) where
    holds_within : (fuel s : ℕ) → leads.rank s < fuel → part s ≡ true → part t ≡ true
    holds_within zero s l h = absurd (omega arith)
    holds_within (suc fuel) s l h = elim (same_or_other s t) as (λ _. part t ≡ true) [
      | inl e ↦ ap part (sym e) ∙ h
      | inr o ↦
          let a = leads.falls s (inside s h) o in
          holds_within fuel (target a.1) (omega (arith, a.4, l)) (subst (λ (y : Entry). part y.target ≡ true) a.3 (closed s h a.0 a.1 a.2))
    ]

    pub holds : (s : ℕ) → part s ≡ true → part t ≡ true
    holds s h = holds_within (suc (leads.rank s)) s (omega arith) h

  -- a closed class is a chain
  pub class-chain : (class : ℕ → Bool) → IsClosedClass states row class → IsChain class n row
  class-chain class c = record { below = λ s h. chain.below s (c.states s h); rows = λ s h. chain.rows s (c.states s h); stays = c.closed }

  -- ---- all lead into one class

  module _ (class : ℕ → Bool) (c : IsClosedClass states row class) (into : AllLeadInto states row class) (t : ℕ) (is : class t ≡ true) where
    abbrev within : AllLeadTo class row t
    within = c.connected t is

    abbrev most : ℕ
    most = (greatest_rank within.rank n).0

    abbrev rank : ℕ → ℕ
    rank s = if class s then within.rank s else suc (most + into.rank s)

    rank_in : (s : ℕ) → class s ≡ true → rank s ≡ within.rank s
    rank_in s h = rank_then (class s) (within.rank s) (suc (most + into.rank s)) h

    rank_out : (s : ℕ) → class s ≡ false → rank s ≡ suc (most + into.rank s)
    rank_out s h = rank_else (class s) (within.rank s) (suc (most + into.rank s)) h

    rank_most : (s : ℕ) → class s ≡ true → within.rank s ≤ most
    rank_most s h = (greatest_rank within.rank n).1 s (chain.below s (c.states s h))

    smaller : {i j a b : ℕ} → i ≡ a → j ≡ b → a < b → i < j
    smaller e f l = omega arith

    enters : (i j a m k : ℕ) → i ≡ a → j ≡ suc (m + k) → a ≤ m → i < j
    enters i j a m k e f l = omega arith

    nearer : (i j m k h : ℕ) → i ≡ suc (m + k) → j ≡ suc (m + h) → k < h → i < j
    nearer i j m k h e f l = omega arith

    out_by : (s u : ℕ) → class s ≡ false → (class u ≡ true) ⊎ (into.rank u < into.rank s) → (class u ≡ true) ⊎ (class u ≡ false) → rank u < rank s
    out_by s u e h (inl k) = enters (rank u) (rank s) (within.rank u) most (into.rank s) (rank_in u k) (rank_out s e) (rank_most u k)
    out_by s u e (inl k) (inr o) = absurd (clash_test (class u) k o)
    out_by s u e (inr l) (inr o) = nearer (rank u) (rank s) most (into.rank u) (into.rank s) (rank_out u o) (rank_out s e) l

    falls_by : (s : ℕ) → states s ≡ true → s ≢ t → (class s ≡ true) ⊎ (class s ≡ false) → Any (λ y. rank y.target < rank s) (row s)
    falls_by s h o (inl k) =
        let a = within.falls s k o in
        let b : class (target a.1) ≡ true = subst (λ (y : Entry). class y.target ≡ true) a.3 (c.closed s k a.0 a.1 a.2) in
        (a.0, a.1, a.2, a.3, smaller (rank_in (target a.1) b) (rank_in s k) a.4)
    falls_by s h o (inr k) =
        let a = into.falls s h k in
        (a.0, a.1, a.2, a.3, out_by s (target a.1) k a.4 (test_or_not (class (target a.1))))

    pub leads_into : AllLeadTo states row t
    leads_into = record { state = c.states t is; rank = rank; falls = λ s h o. falls_by s h o (test_or_not (class s)) }

  -- the least state of the class is the reference
  pub class-reference : (class : ℕ → Bool) (c : IsClosedClass states row class) → AllLeadInto states row class → (t : ℕ) × (class t ≡ true) × IsReference states row t
  class-reference class c into =
      let l = least_of class n c.some.0 (chain.below c.some.0 (c.states c.some.0 c.some.1)) c.some.1 in (
        l.0,
        l.1,
        record {
          leads = leads_into class c into l.0 l.1;
          least = λ u to. l.2 u (holds class c.states c.closed u to c.some.0 c.some.1);
        },
      )

  -- ranks to a state of the class lead into it
  pub into_class : (class : ℕ → Bool) (t : ℕ) → class t ≡ true → AllLeadTo states row t → AllLeadInto states row class
  into_class class t is leads = record {
    rank = leads.rank;
    falls = λ s h e.
        let a = leads.falls s h (λ q. clash_test (class t) is (ap class (sym q) ∙ e)) in (a.0, a.1, a.2, a.3, inr a.4);
  }

-- there is one reference
pub one_reference : (states : ℕ → Bool) (row : ℕ → List Entry) (t u : ℕ) → IsReference states row t → IsReference states row u → t ≡ u
one_reference states row t u h k = let a = h.least u k.leads in let b = k.least t h.leads in omega arith

-- ---- a change of rows that touches no closed class

-- the same rows make the same class
pub class-same : (states : ℕ → Bool) (row other : ℕ → List Entry) (class : ℕ → Bool)
    → ((s : ℕ) → class s ≡ true → row s ≡ other s) → IsClosedClass states row class → IsClosedClass states other class
class-same states row other class same c = record {
  some = c.some;
  states = c.states;
  closed = λ s h. subst (λ (r : List Entry). All (λ y. class y.target ≡ true) r) (same s h) (c.closed s h);
  connected = λ t is. let k = c.connected t is in record {
    state = k.state;
    rank = k.rank;
    falls = λ s h o. subst (λ (r : List Entry). Any (λ y. k.rank y.target < k.rank s) r) (same s h) (k.falls s h o);
  };
}

module _ (states : ℕ → Bool) (n : ℕ) (row other : ℕ → List Entry) (chain : IsChain states n row) (next : IsChain states n other)
    (untouched : (class : ℕ → Bool) → IsClosedClass states other class → (s : ℕ) → class s ≡ true → other s ≡ row s) (t : ℕ) (reference : IsReference states row t) where
  -- each closed class holds t
  holds_t : (class : ℕ → Bool) → IsClosedClass states other class → class t ≡ true
  holds_t class c =
      let k = class-same states other row class (untouched class c) c in
      holds states n row chain class k.states k.closed t reference.leads k.some.0 k.some.1

  pub still_leads : AllLeadTo states other t
  still_leads = elim (all_or_part states n other next t reference.leads.state) as (λ _. AllLeadTo states other t) [
    | inl a ↦ a
    | inr p ↦
        let part = p.1 in
        let c = has_class p.0 n other (part-chain states n other p.0 next p.1) p.1.some.0 p.1.some.1 in
        let k : IsClosedClass states other c.0 = record { some = c.1.some; states = λ s h. p.1.inside s (c.1.states s h); closed = c.1.closed; connected = c.1.connected } in
        absurd (clash_test (p.0 t) (c.1.states t (holds_t c.0 k)) p.2)
  ]

  -- the class of t, in which nothing was changed
  pub class_of_t : (class : ℕ → Bool) × IsClosedClass states other class × (class t ≡ true)
  class_of_t = let c = has_class states n other next t reference.leads.state in (c.0, c.1, holds_t c.0 c.1)

  -- t is the reference still
  pub still_reference : IsReference states other t
  still_reference = record {
    leads = still_leads;
    least = λ u to.
        let c = class_of_t in
        let k = class-same states other row c.0 (untouched c.0 c.1) c.1 in
        reference.least u (leads_into states n row chain c.0 k (into_class states n row chain c.0 t c.2 reference.leads) u
        (holds states n other next c.0 k.states (IsClosedClass.closed c.1) u to t c.2));
  }
