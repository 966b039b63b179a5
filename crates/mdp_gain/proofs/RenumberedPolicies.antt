-- Policies under other numbers: a policy of the small component, spread over the big numbers, is a policy of the big one and makes the same choices.
use Rattle.std.proofs.Common.{◌≡◌, ◌≢◌, ℕ, suc, ◌<◌, ◌≤◌, ◌⊎◌, inl, inr, Bool, true, false, eqb, List, length, map, sym, ◌∙◌, ap, subst, arith}
use Rattle.std.proofs.lemmas.Bool.{cases_lt, false≢true, eqb-true, eq-eqb}
use Rattle.std.specs.{List.{All, Any}, Prelude.{slice_index}}
use Rattle.mdp_math.proofs.Booleans.{same_truth}
use Rattle.mdp_spec.specs.Mdp.{Entry}
use Rattle.mdp_unichain.specs.{Chain.{AllLeadTo, IsReference}, Component.{Component, Choice, count, choice_at, IsInner, is_state, chosen, row_by, IsPolicy}}
use Rattle.mdp_unichain.specs.{Next.{LeadsNearer, AreRanksToward, IsNearest}, Path.{IsFirst}}
use Rattle.mdp_unichain.proofs.Improving.{state-of}
use Rattle.mdp_gain.specs.Renumbering.{renamed, IsSameChoice, IsRenumbering, spread}
use Rattle.mdp_gain.proofs.Spread.{IsUnlisted, place-unique, ascend-le, place_in-at, spread-length, spread-at, spread-other, spread-same}
use Rattle.mdp_gain.proofs.RenumberedChains.{any-renamed, any-from_renamed, all-renamed, IsSameSet, AreSameRows, raised, leads-renamed, reference-renamed}

module _ (states : List ℕ) (small big : Component) (R : IsRenumbering states small big) where
  abbrev wide : List ℕ → List ℕ
  wide policy = spread states (count big) policy

  -- ---- states

  state_place : (j : ℕ) → is_state small j ≡ true → (j < length states) ⊎ (length states ≤ j) → j < length states
  state_place j h (inl l) = l
  state_place j h (inr past) = absurd (false≢true (sym (R.outside j past) ∙ h))

  -- the states of the small component are the places of those of the big one
  pub same_states : IsSameSet states (is_state small) (is_state big)
  same_states = record {
    below = λ j h. state_place j h (cases_lt j (length states));
    listed = R.listed;
    same = λ j l. R.is_small j l ∙ sym (R.is_big j l);
  }

  -- a number that is no state isn't in the list
  pub unlisted : (s : ℕ) → is_state big s ≡ false → IsUnlisted states s
  unlisted s h j l e = false≢true (sym h ∙ ap (is_state big) (sym e) ∙ R.is_big j l)

  -- ---- choices

  pub inner-renamed : (j c : ℕ) → j < length states → IsInner small j c → IsInner big (slice_index states j) c
  inner-renamed j c l h = sym (IsSameChoice.inner (R.choices j c l)) ∙ h

  pub inner-from_renamed : (j c : ℕ) → j < length states → IsInner big (slice_index states j) c → IsInner small j c
  inner-from_renamed j c l h = IsSameChoice.inner (R.choices j c l) ∙ h

  -- the small component's row of an inner choice, and the big one's
  row-renamed : (j c : ℕ) → j < length states → IsInner small j c
      → Choice.row (choice_at big (slice_index states j) c) ≡ map (renamed states) (Choice.row (choice_at small j c))
  row-renamed j c l h = IsSameChoice.row (R.choices j c l) (inner-renamed j c l h)

  targets-renamed : (j c : ℕ) → j < length states → IsInner small j c → All (λ e. e.target < length states) (Choice.row (choice_at small j c))
  targets-renamed j c l h = IsSameChoice.targets (R.choices j c l) (inner-renamed j c l h)

  -- ---- a policy

  module _ (policy : List ℕ) (is : IsPolicy small policy) where
    few : length states ≤ length policy
    few = let m = IsPolicy.len is in let l = R.few in omega arith

    -- the spread policy takes the same choice
    pub taken-spread : (j : ℕ) → j < length states → slice_index (wide policy) (slice_index states j) ≡ slice_index policy j
    taken-spread j l = spread-at states (count big) policy R.ascend j l few (R.below j l)

    pub choice-at : (j : ℕ) → j < length states → IsSameChoice states (chosen small policy j) (chosen big (wide policy) (slice_index states j))
    choice-at j l =
        subst (λ (c : ℕ). IsSameChoice states (chosen small policy j) (choice_at big (slice_index states j) c)) (sym (taken-spread j l))
        (R.choices j (slice_index policy j) l)

    pub choice-inner : (j : ℕ) → j < length states → IsInner big (slice_index states j) (slice_index (wide policy) (slice_index states j))
    choice-inner j l = sym (IsSameChoice.inner (choice-at j l)) ∙ is.inner j (R.is_small j l)

    pub policy-spread : IsPolicy big (wide policy)
    policy-spread = record {
      len = spread-length states (count big) policy;
      inner = λ s h. let w = R.listed s h in subst (λ (v : ℕ). IsInner big v (slice_index (wide policy) v)) w.2 (choice-inner w.0 w.1);
      outside = λ s h. spread-other states (count big) policy s (unlisted s h);
    }

    -- its chain is the same
    pub policy-rows : AreSameRows states (is_state small) (row_by small policy) (row_by big (wide policy))
    policy-rows = record {
      row = λ j h. let l = IsSameSet.below same_states j h in IsSameChoice.row (choice-at j l) (choice-inner j l);
      targets = λ j h. let l = IsSameSet.below same_states j h in IsSameChoice.targets (choice-at j l) (choice-inner j l);
    }

    pub leads-spread : (t : ℕ) → AllLeadTo (is_state small) (row_by small policy) t
        → AllLeadTo (is_state big) (row_by big (wide policy)) (slice_index states t)
    leads-spread t leads =
        leads-renamed states R.ascend (is_state small) (is_state big) same_states (row_by small policy) (row_by big (wide policy)) policy-rows t leads

    pub reference-spread : (t : ℕ) → IsReference (is_state small) (row_by small policy) t
        → IsReference (is_state big) (row_by big (wide policy)) (slice_index states t)
    reference-spread t r =
        reference-renamed states R.ascend (is_state small) (is_state big) same_states (row_by small policy) (row_by big (wide policy)) policy-rows t r

  -- policies that are spread to one list are one
  pub spread-injective : (p q : List ℕ) → IsPolicy small p → IsPolicy small q → wide p ≡ wide q → p ≡ q
  spread-injective p q is also e =
      spread-same states (count big) p q R.ascend R.below (is.len ∙ sym also.len) (few p is)
      (λ j past l. (is.outside j (R.outside j past), also.outside j (R.outside j past))) e

  -- ---- ranks

  module _ (rank : ℕ → ℕ) where
    abbrev far : ℕ → ℕ
    far = raised states rank

    raised-at : (j : ℕ) → j < length states → far (slice_index states j) ≡ rank j
    raised-at j l = ap rank (place_in-at states R.ascend j l)

    pub nearer-renamed : (j c : ℕ) → j < length states → LeadsNearer small rank j c → LeadsNearer big far (slice_index states j) c
    nearer-renamed j c l h = (
      inner-renamed j c l h.0,
      subst (λ (es : List Entry). Any (λ y. far y.target < far (slice_index states j)) es) (sym (row-renamed j c l h.0))
          (any-renamed states (Choice.row (choice_at small j c)) (λ i. rank i < rank j) (λ v. far v < far (slice_index states j))
          (targets-renamed j c l h.0) (λ i m q. let a = raised-at i m in let b = raised-at j l in omega arith) h.1),
    )

    pub nearer-from_renamed : (j c : ℕ) → j < length states → LeadsNearer big far (slice_index states j) c → LeadsNearer small rank j c
    nearer-from_renamed j c l h =
        let inner = inner-from_renamed j c l h.0 in (
          inner,
          any-from_renamed states (Choice.row (choice_at small j c)) (λ i. rank i < rank j) (λ v. far v < far (slice_index states j))
              (targets-renamed j c l inner) (λ i m q. let a = raised-at i m in let b = raised-at j l in omega arith)
              (subst (λ (es : List Entry). Any (λ y. far y.target < far (slice_index states j)) es) (row-renamed j c l inner) h.1),
        )

    pub nearest-renamed : (j c : ℕ) → j < length states → IsNearest small rank j c → IsNearest big far (slice_index states j) c
    nearest-renamed j c l n = record { nearer = nearer-renamed j c l n.nearer; least = λ d h. n.least d (nearer-from_renamed j d l h) }

    -- how far states are away from a set
    module _ (class wide_class : ℕ → Bool) (of : IsSameSet states class wide_class) (ranks : AreRanksToward small class rank) where
      falls_at : (j : ℕ) → j < length states → wide_class (slice_index states j) ≡ false → (c : ℕ) × LeadsNearer big far (slice_index states j) c
      falls_at j l o = let w = ranks.falls j (R.is_small j l) (of.same j l ∙ o) in (w.0, nearer-renamed j w.0 l w.1)

      least_at : (j c : ℕ) → j < length states → IsInner big (slice_index states j) c
          → All (λ y. far (slice_index states j) ≤ suc (far y.target)) (Choice.row (choice_at big (slice_index states j) c))
      least_at j c l h =
          let inner = inner-from_renamed j c l h in
          subst (λ (es : List Entry). All (λ y. far (slice_index states j) ≤ suc (far y.target)) es) (sym (row-renamed j c l inner))
          (all-renamed states (Choice.row (choice_at small j c)) (λ i. rank j ≤ suc (rank i)) (λ v. far (slice_index states j) ≤ suc (far v))
          (targets-renamed j c l inner) (λ i m q. let a = raised-at i m in let b = raised-at j l in omega arith) (ranks.least j c inner))

      pub ranks-renamed : AreRanksToward big wide_class far
      ranks-renamed = record {
        zero = λ s h.
            let w = of.listed s h in
            ap far (sym w.2) ∙ raised-at w.0 w.1 ∙ ranks.zero w.0 (of.same w.0 w.1 ∙ ap wide_class w.2 ∙ h);
        falls = λ s h o.
            let w = R.listed s h in
            subst (λ (v : ℕ). wide_class v ≡ false → (c : ℕ) × LeadsNearer big far v c) w.2 (falls_at w.0 w.1) o;
        least = λ s c h.
            let w = R.listed s (state-of big s c h) in
            subst (λ (v : ℕ). IsInner big v c → All (λ y. far v ≤ suc (far y.target)) (Choice.row (choice_at big v c))) w.2
            (least_at w.0 c w.1) h;
      }

  -- ---- the start

  module _ (start : List ℕ) (first : IsFirst small start) where
    abbrev t : ℕ
    t = first.least

    t_below : t < length states
    t_below = IsSameSet.below same_states t first.is_least.0

    -- the least state alone
    same_least : IsSameSet states (λ j. eqb j t) (λ s. eqb s (slice_index states t))
    same_least = record {
      below = λ j h. subst (λ (i : ℕ). i < length states) (sym (eqb-true j t h)) t_below;
      listed = λ s h. (t, t_below, sym (eqb-true s (slice_index states t) h));
      same = λ j l.
          same_truth (eqb j t) (eqb (slice_index states j) (slice_index states t))
          (λ h. eq-eqb (slice_index states j) (slice_index states t) (ap (slice_index states) (eqb-true j t h)))
          (λ h. eq-eqb j t (place-unique states R.ascend j t l t_below (eqb-true (slice_index states j) (slice_index states t) h)));
    }

    start_policy : IsPolicy small start
    start_policy = first.is

    toward_at : (j : ℕ) → j < length states → slice_index states j ≢ slice_index states t
        → IsNearest big (raised states first.rank) (slice_index states j) (slice_index (wide start) (slice_index states j))
    toward_at j l o =
        subst (λ (c : ℕ). IsNearest big (raised states first.rank) (slice_index states j) c) (sym (taken-spread start start_policy j l))
        (nearest-renamed first.rank j (slice_index start j) l (first.toward j (R.is_small j l) (λ e. o (ap (slice_index states) e))))

    pub first-spread : IsFirst big (wide start)
    first-spread = record {
      least = slice_index states t;
      is_least = (
        R.is_big t t_below,
        λ s h.
            let w = R.listed s h in
            subst (λ (v : ℕ). slice_index states t ≤ v) w.2 (ascend-le states R.ascend t w.0 (first.is_least.1 w.0 (R.is_small w.0 w.1)) w.1),
      );
      own = (
        choice-inner start start_policy t t_below,
        λ c h. subst (λ (d : ℕ). d ≤ c) (sym (taken-spread start start_policy t t_below)) (first.own.1 c (inner-from_renamed t c t_below h)),
      );
      rank = raised states first.rank;
      ranks = ranks-renamed first.rank (λ j. eqb j t) (λ s. eqb s (slice_index states t)) same_least first.ranks;
      toward = λ s h o.
          let w = R.listed s h in
          subst (λ (v : ℕ). v ≢ slice_index states t → IsNearest big (raised states first.rank) v (slice_index (wide start) v)) w.2
          (toward_at w.0 w.1) o;
      is = policy-spread start start_policy;
    }
