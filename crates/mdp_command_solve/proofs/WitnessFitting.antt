-- The lists of a subsystem that have the shape that its rules ask for fit its claim.
use Rattle.std.proofs.Common.{◌≡◌, ℕ, suc, ◌<◌, Bool, true, eqb, ◌&&◌, List, [], ◌∷◌, length, get_or, Option}
use Rattle.std.proofs.{Common.{Some, None, refl, sym, subst, ap₂, arith, eq-eqb, lt-ltb}, lemmas.List.Elements.{All-head, All-tail}}
use Rattle.std.specs.List.{All}
use Rattle.mdp_math.specs.Rational.{ℚ}
use Rattle.mdp_rows.specs.declared.dir.Dir.{Dir}
use Rattle.mdp_spec.specs.Mdp.{Mdp, states_of}
use Rattle.mdp_claims.specs.declared.subsystem.Flow.{Flow}
use Rattle.mdp_subsystem_rules.specs.{Kept.{Ascends}, Shape.{no_flow, FlowsAscend, IsFlowShape, IsFloorShape}}
use Rattle.mdp_text.specs.declared.init.Init.TheVariants.{Start}
use Rattle.mdp_cert.specs.Cert.{witness, is_init_of, is_next, is_next_flow, are_kept, are_flows}

-- ---- kept states

ascends-tail : (s : ℕ) (kept : List ℕ) → Ascends (s ∷ kept) → Ascends kept
ascends-tail s kept a i j l h = a (suc i) (suc j) (omega arith) (omega arith)

-- the first of what ascends stands behind nothing, or behind what is less
next_first : (s : ℕ) (kept : List ℕ) → Ascends (s ∷ kept) → (i : ℕ) → i < length kept → s < get_or kept i 0
next_first s kept a i l = a 0 (suc i) (omega arith) (omega arith)

kept_behind : (n : ℕ) (before : Option ℕ) (kept : List ℕ) → ((i : ℕ) → i < length kept → is_next before (get_or kept i 0) ≡ true)
    → Ascends kept → All (λ s. s < n) kept → are_kept n before kept ≡ true
kept_behind n before [] next a inside = refl
kept_behind n before (s ∷ kept) next a inside =
    ap₂ (λ (p q : Bool). p && q) (ap₂ (λ (p q : Bool). p && q) (next 0 (omega arith)) (lt-ltb s n (All-head (λ s. s < n) s kept inside)))
    (kept_behind n (Some s) kept (λ i l. lt-ltb s (get_or kept i 0) (next_first s kept a i l)) (ascends-tail s kept a) (All-tail (λ s. s < n) s kept inside))

kept_fit : (n : ℕ) (kept : List ℕ) → Ascends kept → All (λ s. s < n) kept → are_kept n None kept ≡ true
kept_fit n kept a inside = kept_behind n None kept (λ i l. refl) a inside

-- ---- flows

flows-tail : (f : Flow) (flows : List Flow) → FlowsAscend (f ∷ flows) → FlowsAscend flows
flows-tail f flows a i j l h = a (suc i) (suc j) (omega arith) (omega arith)

flows_behind : (n : ℕ) (before : Option Flow) (flows : List Flow) → ((i : ℕ) → i < length flows → is_next_flow before (get_or flows i no_flow) ≡ true) → FlowsAscend flows
    → All (λ f. f.state < n) flows → are_flows n before flows ≡ true
flows_behind n before [] next a inside = refl
flows_behind n before (f ∷ flows) next a inside =
    ap₂ (λ (p q : Bool). p && q) (ap₂ (λ (p q : Bool). p && q) (next 0 (omega arith)) (lt-ltb f.state n (All-head (λ (f : Flow). f.state < n) f flows inside)))
    (flows_behind n (Some f) flows (λ i l. a 0 (suc i) (omega arith) (omega arith)) (flows-tail f flows a) (All-tail (λ (f : Flow). f.state < n) f flows inside))

-- ---- bodies

module _ (m : Mdp) (n : ℕ) (size : n ≡ states_of m) where
  kept_inside : (kept : List ℕ) → Ascends kept → All (λ s. s < states_of m) kept → are_kept n None kept ≡ true
  kept_inside kept ascends inside = kept_fit n kept ascends (subst (λ (k : ℕ). All (λ s. s < k) kept) (sym size) inside)

  pub flow_fits : (kept : List ℕ) (wide : List Bool) (flows : List Flow) → IsFlowShape m kept wide flows → (are_kept n None kept && eqb (length wide) (length kept) && are_flows n None flows) ≡ true
  flow_fits kept wide flows shape =
      ap₂ (λ (p q : Bool). p && q)
      (ap₂ (λ (p q : Bool). p && q) (kept_inside kept shape.kept_ascends shape.kept_in_range) (eq-eqb (length wide) (length kept) shape.one_wide_each))
      (flows_behind n None flows (λ i l. refl) shape.flows_ascend (subst (λ (k : ℕ). All (λ (f : Flow). f.state < k) flows) (sym size) shape.flows_in_range))

  pub floor_fits : (kept : List ℕ) (wide : List Bool) (values : List ℚ) (ranks : List ℕ) → IsFloorShape m kept wide values ranks
      → (are_kept n None kept && eqb (length wide) (length kept) && eqb (length values) (length kept) && eqb (length ranks) (length kept)) ≡ true
  floor_fits kept wide values ranks shape =
      ap₂ (λ (p q : Bool). p && q)
      (ap₂ (λ (p q : Bool). p && q)
      (ap₂ (λ (p q : Bool). p && q) (kept_inside kept shape.kept_ascends shape.kept_in_range) (eq-eqb (length wide) (length kept) shape.one_wide_each))
      (eq-eqb (length values) (length kept) shape.one_value_each)) (eq-eqb (length ranks) (length kept) shape.one_rank_each)

-- ---- the initial state

pub start_fits : (dir : Dir) (stay : Option (List ℕ)) (label : List ℕ) (t : ℚ) (n start : ℕ) → start < n → is_init_of (witness dir stay label t) n (Start start) ≡ true
start_fits dir stay label t n start h = lt-ltb start n h
