-- What may_reach answers, from the edges and the ranks that it finds.
use Rattle.std.proofs.Common.{◌≡◌, ℕ, ◌<◌, Bool, true, not, ◌&&◌, List, length, map, replicate, ap, ◌∙◌, Option, is_some}
use Rattle.mdp_spec.specs.{Mdp.{Choice, Mdp, no_choice, states_of, choices_at, row_at}, Row.{IsMdp}}
use Rattle.mdp_graph.specs.{Sets.{marked, can_enter, stays_in, some_choice}, Layers.{rank_at, AreRanks}, Edges.{has_edge, leads}, Ranking.{AreRanksAlong}}
use Rattle.mdp_graph.specs.{Choices.{plain_rank, is_before, may_fall, first_passing, AreLeast}, Reach.{may_step, falls}}
use Rattle.mdp_graph.proofs.{Reached.{ranked}, Steps.{may_leads, may_follows}, Passes.{ranks_seen, least_choices, falls-is}}
use Rattle.mdp_graph.proofs.RowSets.{list_any-at, stays-everywhere}
use Rattle.mdp_math.proofs.Booleans.{and-right}

module _ (m : Mdp) (known : IsMdp m) (inside blocked target : List Bool) (all_inside : inside ≡ replicate (states_of m) true) (ranks : List (Option ℕ))
    (f : AreRanksAlong m inside blocked target ranks) where
  are : (s t : ℕ) → s < states_of m → t < states_of m → has_edge f.edges s t ≡ leads m (replicate (states_of m) true) blocked s t
  are s t hs ht = f.leading s t hs ht ∙ ap (λ (x : List Bool). leads m x blocked s t) all_inside

  pub may_ranks : AreRanks (may_step m blocked) (marked target) (states_of m) ranks
  may_ranks =
      ranked (may_step m blocked) (marked target) (states_of m) f.edges ranks f.by_edges (may_leads m known blocked f.edges are) (may_follows m known blocked f.edges are)

  pub may_seen : (seen : List (Option ℕ)) → seen ≡ ranks → AreRanks (may_step m blocked) (marked target) (states_of m) seen
  may_seen seen e = ranks_seen (may_step m blocked) (marked target) (states_of m) ranks seen e may_ranks

  inside_row : (s c : ℕ) → s < states_of m → c < length (choices_at m s) → stays_in (marked inside) (row_at m s c) ≡ true
  inside_row s c h k = let row = known.row s c h k in ap (λ (x : List Bool). stays_in (marked x) (row_at m s c)) all_inside ∙ stays-everywhere (states_of m) (row_at m s c) row.in_range

  way : (set : ℕ → Bool) (s : ℕ) → s < states_of m → may_step m blocked set s ≡ true
      → (c : ℕ) × (c < length (choices_at m s)) × (stays_in (marked inside) (row_at m s c) ≡ true) × (can_enter set (row_at m s c) ≡ true)
  way set s h e =
      let w = list_any-at (λ (x : Choice). can_enter set x.row) (choices_at m s) no_choice (and-right (not (marked blocked s)) (some_choice (can_enter set) m s) e) in
      (w.0, w.1, inside_row s w.0 h w.1, w.2)

  pub may_choices : (choices : List ℕ) (seen : List (Option ℕ)) → seen ≡ ranks → choices ≡ first_passing m (may_fall m inside seen)
      → AreLeast m target (map is_some ranks) (falls m (map is_some ranks) (map plain_rank ranks)) choices
  may_choices choices seen e is =
      least_choices m known (λ s c. stays_in (marked inside) (row_at m s c)) target (may_step m blocked) ranks may_ranks way (falls m (map is_some ranks) (map plain_rank ranks))
      (λ s c h k. ap (λ b. b && can_enter (λ t. is_before (plain_rank (rank_at ranks s)) (rank_at ranks t)) (row_at m s c)) (inside_row s c h k) ∙ falls-is m known ranks (AreRanks.count may_ranks) s c h k)
      choices (is ∙ ap (λ (x : List (Option ℕ)). first_passing m (may_fall m inside x)) e)
