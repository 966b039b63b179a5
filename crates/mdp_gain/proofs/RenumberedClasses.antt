-- The next policy under other numbers: closed classes, the class that is picked and the way toward it are the same at the small numbers and at the big ones.
use Rattle.std.proofs.Common.{◌≡◌, ℕ, ◌<◌, ◌≤◌, inl, inr, Bool, true, false, List, length, sym, ◌∙◌, ap, subst}
use Rattle.std.specs.Prelude.{slice_index}
use Rattle.mdp_unichain.specs.{Chain.{IsClosedClass}, Component.{Component, count, is_state, row_by, IsPolicy}, Improvement.{KeepsClasses}}
use Rattle.mdp_unichain.specs.Next.{HoldsChanged, IsPicked, IsNearest, GoesExactly, IsExactNext}
use Rattle.mdp_gain.specs.Renumbering.{IsRenumbering, spread}
use Rattle.mdp_gain.proofs.{Spread.{ascend-le}, RenumberedChains.{IsSameSet, raised, lowered, raised-same, lowered-same, class-renamed, class-from_renamed}}
use Rattle.mdp_gain.proofs.RenumberedPolicies.{taken-spread, same_states, policy-rows, policy-spread, nearest-renamed, ranks-renamed}

module _ (states : List ℕ) (small big : Component) (R : IsRenumbering states small big) where
  abbrev wide : List ℕ → List ℕ
  wide policy = spread states (count big) policy

  -- ---- closed classes

  -- a class of states is a set of places, and back
  pub class_raised : (class : ℕ → Bool) → ((j : ℕ) → class j ≡ true → is_state small j ≡ true) → IsSameSet states class (raised states class)
  class_raised class inside = raised-same states R.ascend class (λ j h. IsSameSet.below (same_states states small big R) j (inside j h))

  pub class_lowered : (class : ℕ → Bool) → ((s : ℕ) → class s ≡ true → is_state big s ≡ true) → IsSameSet states (lowered states class) class
  class_lowered class inside = lowered-same states R.ascend class (λ s h. R.listed s (inside s h))

  module _ (policy : List ℕ) (is : IsPolicy small policy) where
    pub class-spread : (class : ℕ → Bool) → IsClosedClass (is_state small) (row_by small policy) class
        → IsClosedClass (is_state big) (row_by big (wide policy)) (raised states class)
    class-spread class c =
        class-renamed states R.ascend (is_state small) (is_state big) (same_states states small big R) (row_by small policy) (row_by big (wide policy))
        (policy-rows states small big R policy is) class (raised states class) (class_raised class c.states) c

    pub class-from_spread : (class : ℕ → Bool) → IsClosedClass (is_state big) (row_by big (wide policy)) class
        → IsClosedClass (is_state small) (row_by small policy) (lowered states class)
    class-from_spread class c =
        class-from_renamed states R.ascend (is_state small) (is_state big) (same_states states small big R) (row_by small policy) (row_by big (wide policy))
        (policy-rows states small big R policy is) (lowered states class) class (class_lowered class c.states) c

  -- ---- where two policies differ

  module _ (p q : List ℕ) (is : IsPolicy small p) (also : IsPolicy small q) where
    same_choice : (j : ℕ) → j < length states → slice_index q j ≡ slice_index p j
        → slice_index (wide q) (slice_index states j) ≡ slice_index (wide p) (slice_index states j)
    same_choice j l e = taken-spread states small big R q also j l ∙ e ∙ sym (taken-spread states small big R p is j l)

    from_same_choice : (j : ℕ) → j < length states → slice_index (wide q) (slice_index states j) ≡ slice_index (wide p) (slice_index states j)
        → slice_index q j ≡ slice_index p j
    from_same_choice j l e = sym (taken-spread states small big R q also j l) ∙ e ∙ taken-spread states small big R p is j l

    module _ (class wide_class : ℕ → Bool) (of : IsSameSet states class wide_class) where
      changed-spread : HoldsChanged p q class → HoldsChanged (wide p) (wide q) wide_class
      changed-spread h =
          let l = of.below h.0 h.1 in
          (slice_index states h.0, sym (of.same h.0 l) ∙ h.1, λ e. h.2 (from_same_choice h.0 l e))

      changed-from_spread : HoldsChanged (wide p) (wide q) wide_class → HoldsChanged p q class
      changed-from_spread h =
          let w = of.listed h.0 h.1 in (
            w.0,
            of.same w.0 w.1 ∙ ap wide_class w.2 ∙ h.1,
            λ e. h.2 (subst (λ (v : ℕ). slice_index (wide q) v ≡ slice_index (wide p) v) w.2 (same_choice w.0 w.1 e)),
          )

    pub keeps-spread : KeepsClasses small p q → KeepsClasses big (wide p) (wide q)
    keeps-spread keeps class c s h =
        let of = class_lowered class c.states in
        let w = of.listed s h in
        subst (λ (v : ℕ). slice_index (wide q) v ≡ slice_index (wide p) v) w.2
        (same_choice w.0 w.1 (keeps (lowered states class) (class-from_spread q also class c) w.0 (of.same w.0 w.1 ∙ ap class w.2 ∙ h)))

    -- ---- the class that is picked

    module _ (class : ℕ → Bool) (picked : IsPicked small p q class) where
      abbrev of : IsSameSet states class (raised states class)
      of = class_raised class (IsClosedClass.states picked.class_is)

      abbrev least_state : ℕ
      least_state = picked.least.0

      -- no other class with a changed state has a smaller one
      least_at : (other : ℕ → Bool) → IsClosedClass (is_state big) (row_by big (wide q)) other → HoldsChanged (wide p) (wide q) other → (u : ℕ) → other u ≡ true
          → slice_index states least_state ≤ u
      least_at other c h u k =
          let to = class_lowered other c.states in
          let w = to.listed u k in
          subst (λ (v : ℕ). slice_index states least_state ≤ v) w.2
          (ascend-le states R.ascend least_state w.0
          (picked.least.2 (lowered states other) (class-from_spread q also other c) (changed-from_spread (lowered states other) other to h) w.0
          (to.same w.0 w.1 ∙ ap other w.2 ∙ k)) w.1)

      pub picked-spread : IsPicked big (wide p) (wide q) (raised states class)
      picked-spread = record {
        class_is = class-spread q also class picked.class_is;
        changed = changed-spread class (raised states class) of picked.changed;
        least = (
          slice_index states least_state,
          sym (of.same least_state (of.below least_state picked.least.1)) ∙ picked.least.1,
          least_at,
        );
      }

    -- ---- the next policy

    module _ (after : List ℕ) (class : ℕ → Bool) (rank : ℕ → ℕ) (g : GoesExactly small p q after class rank) where
      abbrev set : IsSameSet states class (raised states class)
      set = class_raised class (IsClosedClass.states (IsPicked.class_is g.picked))

      kept_at : (j : ℕ) → j < length states → raised states class (slice_index states j) ≡ true
          → slice_index (wide after) (slice_index states j) ≡ slice_index (wide q) (slice_index states j)
      kept_at j l h =
          taken-spread states small big R after g.is j l ∙ g.kept j (set.same j l ∙ h) ∙ sym (taken-spread states small big R q also j l)

      toward_at : (j : ℕ) → j < length states → raised states class (slice_index states j) ≡ false
          → IsNearest big (raised states rank) (slice_index states j) (slice_index (wide after) (slice_index states j))
      toward_at j l o =
          subst (λ (c : ℕ). IsNearest big (raised states rank) (slice_index states j) c)
          (sym (taken-spread states small big R after g.is j l))
          (nearest-renamed states small big R rank j (slice_index after j) l (g.toward j (R.is_small j l) (set.same j l ∙ o)))

      pub goes-spread : GoesExactly big (wide p) (wide q) (wide after) (raised states class) (raised states rank)
      goes-spread = record {
        picked = picked-spread class g.picked;
        ranks = ranks-renamed states small big R rank class (raised states class) set g.ranks;
        kept = λ s h.
            let w = set.listed s h in
            subst (λ (v : ℕ). raised states class v ≡ true → slice_index (wide after) v ≡ slice_index (wide q) v) w.2 (kept_at w.0 w.1) h;
        toward = λ s h o.
            let w = R.listed s h in
            subst (λ (v : ℕ). raised states class v ≡ false → IsNearest big (raised states rank) v (slice_index (wide after) v)) w.2
            (toward_at w.0 w.1) o;
        is = policy-spread states small big R after g.is;
      }

    pub next-spread : (after : List ℕ) → IsExactNext small p q after → IsExactNext big (wide p) (wide q) (wide after)
    next-spread after (inl k) = inl (ap wide k.0, keeps-spread k.1)
    next-spread after (inr g) = inr (raised states g.0, raised states g.1, goes-spread after g.0 g.1 g.2)
