-- Each model has the quotient by its end components.
use Rattle.std.proofs.Common.{◌≡◌, ◌⊎◌, inl, inr, ℕ, ◌<◌, ◌≤◌, List, length, map, Option, None, refl, sym, ap, ◌∙◌, arith, zero-add}
use Rattle.std.proofs.lemmas.List.FromFn.{get_or-map-range_with_len, length-map-range_with_len}
use Rattle.std.specs.{List.{range_with_len}, Prelude.{slice_index, slice_index_or}}
use Rattle.mdp_math.proofs.Numbers.{le_or}
use Rattle.mdp_spec.specs.Mdp.{Mdp}
use Rattle.mdp_ends.specs.{Ends.{part_of, AreEnds}, Quotient.{ShareAPart, AreNodes, nodes_in, exits_of}}
use Rattle.mdp_ends.proofs.{ByTest.{nodes_exist}, Exits.{node-below, node-has}}
use Rattle.mdp_quot.specs.Quotient.{Quotient, IsQuotient, node_rows}

-- ---- the nodes

module _ (parts : List (Option ℕ)) where
  abbrev IsOneNode : ℕ → ℕ → Type 0
  IsOneNode s t = (s ≡ t) ⊎ ShareAPart parts s t

  one_part : (s t : ℕ) → IsOneNode s t → part_of parts s ≡ part_of parts t
  one_part s t (inl e) = ap (part_of parts) e
  one_part s t (inr w) = w.1 ∙ sym w.2

  -- ---- the end component of a node: that of a state of it

  module _ (nodes : List ℕ) (are : AreNodes parts nodes) where
    abbrev component_by : (k : ℕ) → (nodes_in nodes ≤ k) ⊎ (k < nodes_in nodes) → Option ℕ
    component_by k (inl l) = None
    component_by k (inr l) = part_of parts (node-has parts nodes are k l).0

    abbrev component : ℕ → Option ℕ
    component k = component_by k (le_or (nodes_in nodes) k)

    component-by : (s : ℕ) (o : (nodes_in nodes ≤ slice_index nodes s) ⊎ (slice_index nodes s < nodes_in nodes)) → s < length parts → component_by (slice_index nodes s) o ≡ part_of parts s
    component-by s (inl l) h = let below = node-below parts nodes are s h in absurd (omega (arith, l, below))
    component-by s (inr l) h =
        let w = node-has parts nodes are (slice_index nodes s) l in
        one_part w.0 s ((are.same w.0 s w.1 h).0 w.2)

    abbrev components : List (Option ℕ)
    components = map component (range_with_len 0 (nodes_in nodes))

    component-at : (s : ℕ) → s < length parts → slice_index_or components (slice_index nodes s) None ≡ part_of parts s
    component-at s h =
        get_or-map-range_with_len component 0 (nodes_in nodes) (slice_index nodes s) (slice_index nodes s) None (node-below parts nodes are s h) (zero-add (slice_index nodes s))
        ∙ component-by s (le_or (nodes_in nodes) (slice_index nodes s)) h

pub quotient_exists : (m : Mdp) (parts : List (Option ℕ)) → AreEnds m parts → (q : Quotient) × IsQuotient m parts q
quotient_exists m parts ends =
    let w = nodes_exist parts in
    let nodes : List ℕ = w.0 in (
      record {
        nodes = nodes;
        components = components parts nodes w.1;
        exits = map (exits_of m parts nodes) (range_with_len 0 (nodes_in nodes));
        rows = map (node_rows m parts nodes) (range_with_len 0 (nodes_in nodes));
      },
      record {
        nodes = w.1;
        count = length-map-range_with_len (component parts nodes w.1) 0 (nodes_in nodes);
        components = λ s h. component-at parts nodes w.1 s (omega (arith, h, ends.count));
        exits = refl;
        rows = refl;
      },
    )
