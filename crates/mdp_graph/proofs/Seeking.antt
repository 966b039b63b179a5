-- Ways that are looked for.
use Rattle.std.proofs.Common.{◌≡◌, inl, inr, ℕ, ◌+◌, ◌<◌, Bool, true, false, ◌&&◌, not, List, [], ◌∷◌, ◌++◌, length, get_or, ap, sym, subst, ◌∙◌, arith, Option, Some, None, is_some}
use Rattle.std.proofs.{lemmas.List.{length-append, get_or_append_left}, Math.Seq.{get_or-append_seam}, lemmas.Bool.{false≢true, cases_eq}}
use Rattle.mdp_spec.specs.Mdp.{Mdp}
use Rattle.mdp_graph.specs.{declared.forest.Way.{Way}, Forest.{way_at, attached, IsStep, IsFound, IsGrown}}
use Rattle.mdp_graph.proofs.Taking.{some-way, on, grown_next, IsFoundBelow, HasBelow}

pub found_some : (m : Mdp) (goals : List Bool) (lists : List (List Bool)) (ways : List (Option Way)) (s : ℕ) (v : Way) → IsStep m lists s v → attached goals ways v.target ≡ true
    → IsFound m goals lists ways s (Some v)
found_some m goals lists ways s v step on = record {
  some = λ w e. subst (λ (x : Way). IsStep m lists s x × (attached goals ways x.target ≡ true)) (some-way v w e) (step, on);
  none = λ e. absurd (false≢true (sym (ap is_some e)));
}

pub record AreFound (m : Mdp) (goals : List Bool) (lists : List (List Bool)) (ways : List (Option Way)) (states : List ℕ) (found : List (Option Way)) (i : ℕ) : Type 0 where
  pub count : length found ≡ i
  pub each : (k : ℕ) → k < i → IsFound m goals lists ways (get_or states k 0) (way_at found k)

pub found_more : (m : Mdp) (goals : List Bool) (lists : List (List Bool)) (ways : List (Option Way)) (states : List ℕ) (found more : List (Option Way)) (i : ℕ) (o : Option Way)
    → AreFound m goals lists ways states found i → IsFound m goals lists ways (get_or states i 0) o → more ≡ found ++ o ∷ [] → AreFound m goals lists ways states more (i + 1)
found_more m goals lists ways states found more i o f g e =
    let none : Option Way = None in
    let c = f.count in
    record {
      count = ap length e ∙ length-append found (o ∷ []) ∙ omega (arith, c);
      each = λ k h. elim (cases_eq k i) [
        | inl same ↦
            (let z : way_at more k ≡ o = ap (λ (l : List (Option Way)). way_at l k) e ∙ ap (way_at (found ++ o ∷ [])) (same ∙ sym c) ∙ get_or-append_seam found o [] none in
            rw (z, same) g)
        | inr other ↦
            (let z : way_at more k ≡ way_at found k = ap (λ (l : List (Option Way)). way_at l k) e ∙ get_or_append_left found (o ∷ []) none k (omega (arith, h, other, c)) in
            rw z (f.each k (omega (arith, h, other))))
      ];
    }

module _ (goals : List Bool) (states : List ℕ) (found : List (Option Way)) (i : ℕ) (old now new : List (Option Way)) where
  first-ones : (s : ℕ) (w : Way) → IsFoundBelow i states found s w → IsFoundBelow (i + 1) states found s w
  first-ones s w z = (z.0, omega (arith, z.1), z.2, z.3)

  pub found_taken : (v : Way) → way_at found i ≡ Some v → IsGrown goals old now (IsFoundBelow i states found) (HasBelow i states found)
      → IsGrown goals now new (λ s w. (s ≡ get_or states i 0) × (w ≡ v)) (λ s. s ≡ get_or states i 0)
      → IsGrown goals old new (IsFoundBelow (i + 1) states found) (HasBelow (i + 1) states found)
  found_taken v e f g =
      grown_next goals old now new (IsFoundBelow i states found) (λ s w. (s ≡ get_or states i 0) × (w ≡ v)) (IsFoundBelow (i + 1) states found)
      (HasBelow i states found) (λ s. s ≡ get_or states i 0) (HasBelow (i + 1) states found) f g first-ones
      (λ s w z. (i, omega arith, sym z.0, e ∙ ap (λ (x : Way). Some x) (sym z.1)))
      (λ s z. (let u = z.1 in elim (cases_eq u.0 i) [
        | inl same ↦ inr (sym u.2 ∙ ap (λ j. get_or states j 0) same)
        | inr other ↦ inl (z.0, (u.0, omega (arith, u.1, other), u.2, u.3))
      ]))

  pub found_kept : IsGrown goals old now (IsFoundBelow i states found) (HasBelow i states found) → (is_some (way_at found i) && not (attached goals now (get_or states i 0))) ≡ false
      → IsGrown goals old now (IsFoundBelow (i + 1) states found) (HasBelow (i + 1) states found)
  found_kept f either = record {
    count = f.count;
    kept = f.kept;
    new_way = λ s w e. elim (f.new_way s w e) [ inl y ↦ inl y | inr y ↦ inr (y.0, first-ones s w y.1) ];
    taken = λ s z.
        (let u = z.1 in
        elim (cases_eq u.0 i) [
          | inl same ↦
              ap (attached goals now) (sym u.2 ∙ ap (λ j. get_or states j 0) same)
              ∙ on (is_some (way_at found i)) (attached goals now (get_or states i 0)) (ap is_some (ap (way_at found) (sym same) ∙ u.3)) either
          | inr other ↦ f.taken s (z.0, (u.0, omega (arith, u.1, other), u.2, u.3))
        ]);
  }
