-- A state of an end component at which each choice of the component stays is its only state.
use Rattle.std.proofs.Common.{◌≡◌, ◌≢◌, ℕ, ◌<◌, ◌⊎◌, inl, inr, Bool, true, false, not, ◌&&◌, ◌||◌}
use Rattle.std.proofs.{Common.{◌==◌, List, [], ◌∷◌, length, Option, refl, sym, ◌∙◌, ap, arith, zero-add}, lemmas.Bool.{eqb-true}}
use Rattle.std.proofs.lemmas.List.FromFn.{length-range_with_len, get_or-range_with_len}
use Rattle.std.specs.List.{All, Any, list_all, range_with_len}
use Rattle.mdp_math.specs.Rational.{ℚ}
use Rattle.mdp_math.proofs.Kernel.{Any-and}
use Rattle.mdp_spec.specs.{Mdp.{Entry, Mdp}, Row.{entries}}
use Rattle.mdp_graph.proofs.RowSets.{list_all-at}
use Rattle.mdp_rows.specs.declared.dir.Dir.{Dir}
use Rattle.mdp_ends.specs.Ends.{in_part}
use Rattle.mdp_unichain.specs.{Component.{Component, choices_at, choice_at, IsInner, is_state, CanReach, IsComponent}, Part.{IsPart, inner_component}}
use Rattle.mdp_unichain.proofs.{Chains.{same_or_other}, Improving.{inner-below}, Parts.{part-state, part-component}}
use Rattle.mdp_gain.specs.Only.{IsOnly, leads_to_only, stays}

entries-all : (s : ℕ) (ts : List ℕ) (ps : List ℚ) → length ts ≡ length ps → list_all (λ t. t == s) ts ≡ leads_to_only s (entries ts ps)
entries-all s [] ps e = refl
entries-all s (t ∷ ts) [] e = absurd (omega arith)
entries-all s (t ∷ ts) (q ∷ ps) e = ap (λ (b : Bool). (t == s) && b) (entries-all s ts ps (omega arith))

pub all-targets : (s : ℕ) (ts : List ℕ) (ps : List ℚ) (row : List Entry) → length ts ≡ length ps → entries ts ps ≡ row → list_all (λ t. t == s) ts ≡ leads_to_only s row
all-targets s ts ps row e spells = entries-all s ts ps e ∙ ap (leads_to_only s) spells

module _ (p : Component) (s : ℕ) (all : list_all (stays p s) (range_with_len 0 (length (choices_at p s))) ≡ true) where
  stays-at : (c : ℕ) → c < length (choices_at p s) → stays p s c ≡ true
  stays-at c l =
      let n = length-range_with_len 0 (length (choices_at p s)) in
      sym (ap (stays p s) (get_or-range_with_len 0 (length (choices_at p s)) c 0 l ∙ zero-add c))
      ∙ list_all-at (stays p s) (range_with_len 0 (length (choices_at p s))) 0 all c (omega (arith, l, n))

  or_by : (a b : Bool) → a ≡ true → (not a || b) ≡ true → b ≡ true
  or_by true b e h = h
  or_by false b e h = cc

  leads-only : (c : ℕ) → IsInner p s c → leads_to_only s (choice_at p s c).row ≡ true
  leads-only c i = or_by (choice_at p s c).inner (leads_to_only s (choice_at p s c).row) i (stays-at c (inner-below p s c i))

  -- so no choice leads nearer to another state
  none-nearer : (rank : ℕ → ℕ) (c : ℕ) → IsInner p s c → Any (λ y. rank y.target < rank s) (choice_at p s c).row → ⊥
  none-nearer rank c i nearer =
      let row : List Entry = (choice_at p s c).row in
      let at : All (λ y. y.target ≡ s) row = λ k d l. eqb-true _ s (list_all-at (λ (y : Entry). y.target == s) row d (leads-only c i) k l) in
      let both = Any-and (λ (y : Entry). y.target ≡ s) (λ (y : Entry). rank y.target < rank s) row at nearer in
      clash (ap rank both.4.0) both.4.1
    where
      clash : {a b : ℕ} → a ≡ b → a < b → ⊥
      clash e l = omega (arith, e, l)

  other_by : (known : IsComponent p) → is_state p s ≡ true → (t : ℕ) → is_state p t ≡ true → (s ≡ t) ⊎ (s ≢ t) → t ≡ s
  other_by known own t h (inl e) = sym e
  other_by known own t h (inr n) =
      let reach = known.connected t h in
      let c = CanReach.falls reach s own n in
      absurd (none-nearer (CanReach.rank reach) c.0 c.1 c.2)

  pub is-only : IsComponent p → is_state p s ≡ true → IsOnly p s
  is-only known own = record { state = own; only = λ t h. other_by known own t h (same_or_other s t) }

pub only-of : (dir : Dir) (m : Mdp) (parts : List (Option ℕ)) (i r s : ℕ) → IsPart m parts i → in_part parts i s ≡ true
    → list_all (stays (inner_component dir m parts i r) s) (range_with_len 0 (length (choices_at (inner_component dir m parts i r) s))) ≡ true
    → IsOnly (inner_component dir m parts i r) s
only-of dir m parts i r s k own all =
    is-only (inner_component dir m parts i r) s all (part-component m parts i k dir r) (part-state m parts i k dir r s ∙ own)
