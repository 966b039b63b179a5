-- Edges from states below a number.
use Rattle.std.proofs.Common.{◌≡◌, inl, inr, ℕ, ◌+◌, ◌<◌, true, false, ◌||◌, ◌&&◌, ◌==◌, List, [], length, replicate, sym, ap, ◌∙◌, arith}
use Rattle.std.proofs.lemmas.{Bool.{false≢true, or_cases, and_parts, eqb-true}, List.{length-replicate, get_or-replicate}}
use Rattle.mdp_graph.specs.Edges.{has_edge}
use Rattle.mdp_rows.specs.Preds.{is_among}

-- edges to states below n, which lead from states below s
pub record AreBelow (n s : ℕ) (edges : List (List ℕ)) : Type 0 where
  pub count : length edges ≡ n
  pub below : (x t : ℕ) → t < n → has_edge edges x t ≡ true → x < s

nothing : (n x t : ℕ) → t < n → has_edge (replicate n []) x t ≡ false
nothing n x t h = let empty : List ℕ = [] in ap (is_among x) (get_or-replicate n t empty empty h)

pub none_below : (n : ℕ) → AreBelow n 0 (replicate n [])
none_below n = record { count = length-replicate n []; below = λ x t h e. absurd (false≢true (sym (nothing n x t h) ∙ e)) }

pub more_below : (n s : ℕ) (ts : List ℕ) (old new : List (List ℕ)) → AreBelow n s old → length new ≡ length old
    → ((x t : ℕ) → t < length old → has_edge new x t ≡ (has_edge old x t || ((s == x) && is_among t ts))) → AreBelow n (s + 1) new
more_below n s ts old new was count at = record {
  count = count ∙ was.count;
  below = λ x t h e. elim (or_cases (has_edge old x t) ((s == x) && is_among t ts) (sym (at x t (omega (arith, h, was.count))) ∙ e)) [
    | inl before ↦ (let l = was.below x t h before in omega (arith, l))
    | inr own ↦ (let same = eqb-true s x (and_parts (s == x) (is_among t ts) own).0 in omega (arith, same))
  ];
}
