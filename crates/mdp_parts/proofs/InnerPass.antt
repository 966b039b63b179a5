-- A pass within a part, by inner choices.
use Rattle.std.proofs.Common.{◌≡◌, ◌↔◌, ℕ, ◌<◌, Bool, true, ◌&&◌, ◌==◌, List, length, map, refl, sym, ap, ◌∙◌, subst, Option, is_some}
use Rattle.std.proofs.lemmas.Bool.{eqb-true, eq-eqb}
use Rattle.std.specs.List.{list_any}
use Rattle.mdp_math.specs.Rational.{ℚ}
use Rattle.mdp_spec.specs.{Mdp.{Mdp, states_of, choices_at, row_at}, Row.{IsMdp, entries}}
use Rattle.mdp_graph.specs.{Sets.{marked, can_enter}, Layers.{rank_at, AreRanks}, Ranking.{AreRankedBy}}
use Rattle.mdp_graph.specs.Choices.{plain_rank, is_before, first_passing, AreLeast}
use Rattle.mdp_graph.proofs.{RowSets.{enters-by}, Passes.{reached_marks, least_ranks, least_choices, falls-is}, Reached.{LeadsAlong, Follows, ranked}}
use Rattle.mdp_ends.specs.{Ends.{is_inside}, Toward.{inner_step, inner_falls}}
use Rattle.mdp_ends.proofs.Walking.{step-has, step-by, target-below}
use Rattle.mdp_parts.specs.{Targets.{AreTargets, AreReversed}, Numbered.{AreSources}, Inner.{may_fall_inside}, TowardTargets.{IsTowardTargets, HasTarget}}
use Rattle.mdp_parts.specs.{Allowed.{allowed_at}, FoundEnds.{FoundEnds, AreEndsOf}}
use Rattle.mdp_parts.proofs.{TowardParts.{marks_targets}, ComponentsFound.{sources}, TargetFacts.{any-as-enters}}

-- ---- what the code tests

pub falls_by : (m : Mdp) (ends ranks : List (Option ℕ)) (s c r : ℕ) (ts : List ℕ) (ps : List ℚ) → length ts ≡ length ps → entries ts ps ≡ row_at m s c → r ≡ plain_rank (rank_at ranks s)
    → (inside : Bool) → inside ≡ is_inside m ends s c
    → (inside && list_any (λ t. is_before r (rank_at ranks t)) ts) ≡ may_fall_inside m ends ranks s c
falls_by m ends ranks s c r ts ps same row er inside is =
    ap (λ b. b && list_any (λ t. is_before r (rank_at ranks t)) ts) is
    ∙ ap (λ b. is_inside m ends s c && b) (ap (λ q. list_any (λ t. is_before q (rank_at ranks t)) ts) er
    ∙ sym (any-as-enters (λ t. is_before (plain_rank (rank_at ranks s)) (rank_at ranks t)) ts ps same) ∙ ap (can_enter (λ t. is_before (plain_rank (rank_at ranks s)) (rank_at ranks t))) row)

-- ---- the step by inner choices, along the edges of the choices that are marked as inside

module _ (m : Mdp) (ok : IsMdp m) (ends : List (Option ℕ)) (inner : ℕ → ℕ → Bool) (are : (s c : ℕ) → s < states_of m → c < length (choices_at m s)
    → inner s c ≡ is_inside m ends s c) (back : List (List ℕ)) (src : AreSources m inner back) where
  along : LeadsAlong (inner_step m ends) (states_of m) back
  along set s h e =
      let z = step-has m (is_inside m ends) set s e in
      let b = target-below m ok s z.0 z.1 h z.2 z.4 in
      (z.1, b, src.leads s z.1 h b ∙ step-by m inner (λ x. x == z.1) s z.0 z.1 z.2 (are s z.0 h z.2 ∙ z.3) z.4 (eq-eqb z.1 z.1 refl), z.5)

  follows : Follows (inner_step m ends) (states_of m) back
  follows set s t hs ht edge is =
      let z = step-has m inner (λ x. x == t) s (sym (src.leads s t hs ht) ∙ edge) in
      step-by m (is_inside m ends) set s z.0 z.1 z.2 (sym (are s z.0 hs z.2) ∙ z.3) z.4 (ap set (eqb-true z.1 t z.5) ∙ is)

  pub inner_ranks : (first : List Bool) (ranks : List (Option ℕ)) → AreRankedBy back (marked first) (states_of m) ranks → AreRanks (inner_step m ends) (marked first) (states_of m) ranks
  inner_ranks first ranks by = ranked (inner_step m ends) (marked first) (states_of m) back ranks by along follows

-- ---- the choices

module _ (m : Mdp) (ok : IsMdp m) (ends : List (Option ℕ)) (target : List Bool) (ranks : List (Option ℕ)) (a : AreRanks (inner_step m ends) (marked target) (states_of m) ranks) where
  way : (set : ℕ → Bool) (s : ℕ) → s < states_of m → inner_step m ends set s ≡ true
      → (c : ℕ) × (c < length (choices_at m s)) × (is_inside m ends s c ≡ true) × (can_enter set (row_at m s c) ≡ true)
  way set s h e = let z = step-has m (is_inside m ends) set s e in (z.0, z.2, z.3, enters-by set (row_at m s z.0) z.1 z.4 z.5)

  pub inner_choices : (choices : List ℕ) → choices ≡ first_passing m (may_fall_inside m ends ranks)
      → AreLeast m target (map is_some ranks) (inner_falls m ends (map is_some ranks) (map plain_rank ranks)) choices
  inner_choices choices is =
      least_choices m ok (is_inside m ends) target (inner_step m ends) ranks a way (inner_falls m ends (map is_some ranks) (map plain_rank ranks))
      (λ s c h k. ap (λ b. is_inside m ends s c && b) (falls-is m ok ranks a.count s c h k)) choices is

-- ---- the pass

module _ (m : Mdp) (ok : IsMdp m) (e : FoundEnds) (are : AreEndsOf m e) (target : List Bool) where
  pub ranks_are : (inner : List (List Bool)) → inner ≡ e.inner → (edges back : List (List ℕ)) → AreTargets m (allowed_at inner) edges → AreReversed edges back
      → (k : ℕ) → k ≡ states_of m → (ranks : List (Option ℕ)) → AreRankedBy back (marked target) k ranks → AreRanks (inner_step m e.parts) (marked target) (states_of m) ranks
  ranks_are inner is edges back to rev k all ranks by =
      inner_ranks m ok e.parts (allowed_at inner) (λ s c h l. ap (λ (xs : List (List Bool)). allowed_at xs s c) is
      ∙ are.inner s c h l) back (sources m (allowed_at inner) edges back to rev) target ranks
      (subst (λ (j : ℕ). AreRankedBy back (marked target) j ranks) all by)

  module _ (ranks : List (Option ℕ)) (a : AreRanks (inner_step m e.parts) (marked target) (states_of m) ranks) where
    pub is_toward_targets : (choices : List ℕ) (read : List (Option ℕ)) → read ≡ ranks → choices ≡ first_passing m (may_fall_inside m e.parts read)
        → IsTowardTargets m e.parts target (map is_some ranks) (map plain_rank ranks) choices
    is_toward_targets choices read same are_least = record {
      reaches = reached_marks (inner_step m e.parts) (marked target) (states_of m) ranks a;
      ranked = least_ranks (inner_step m e.parts) (marked target) (states_of m) ranks a;
      chosen = inner_choices m ok e.parts target ranks a choices (are_least ∙ ap (λ (xs : List (Option ℕ)). first_passing m (may_fall_inside m e.parts xs)) same);
    }

    pub has_target_marked : (s : ℕ) → s < states_of m → (marked (map is_some ranks) s ≡ true) ↔ HasTarget m e.parts target s
    has_target_marked = marks_targets m ok e.parts are.ends target (map is_some ranks) (reached_marks (inner_step m e.parts) (marked target) (states_of m) ranks a)
