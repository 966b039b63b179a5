-- Edges lead where steps lead.
use Rattle.std.proofs.Common.{◌≡◌, ℕ, ◌<◌, Bool, true, ◌&&◌, not, List, [], length, get_or, replicate, sym, ◌∙◌}
use Rattle.mdp_spec.specs.{Mdp.{Entry, Choice, Mdp, no_choice, states_of, choices_at, row_at}, Row.{IsMdp, AreRows}}
use Rattle.mdp_rows.specs.Preds.{leads_to}
use Rattle.mdp_graph.specs.{Sets.{marked, can_enter, stays_in, some_choice}, Edges.{has_edge, has_choice_to, leads}, Reach.{may_step, row_step}}
use Rattle.mdp_graph.proofs.{Reached.{LeadsAlong, Follows}, RowSets.{list_any-at, list_any-by, enters-at, enters-by, stays-everywhere}}
use Rattle.mdp_math.proofs.Booleans.{and-left, and-right, and-both}

-- a way to t is a choice
pub way-choice : (m : Mdp) (inside : List Bool) (s t : ℕ) → has_choice_to m inside s t ≡ true
    → (c : ℕ) × (c < length (choices_at m s)) × (stays_in (marked inside) (row_at m s c) ≡ true) × (leads_to t (row_at m s c) ≡ true)
way-choice m inside s t e =
    let w = list_any-at (λ (x : Choice). stays_in (marked inside) x.row && leads_to t x.row) (choices_at m s) no_choice e in
    (w.0, w.1, and-left _ _ w.2, and-right (stays_in (marked inside) (row_at m s w.0)) _ w.2)

module _ (m : Mdp) (ok : IsMdp m) (blocked : List Bool) (edges : List (List ℕ))
    (are : (s t : ℕ) → s < states_of m → t < states_of m → has_edge edges s t ≡ leads m (replicate (states_of m) true) blocked s t) where
  pub may_leads : LeadsAlong (may_step m blocked) (states_of m) edges
  may_leads set s h e =
      let n = states_of m in
      let open_s = and-left (not (marked blocked s)) (some_choice (can_enter set) m s) e in
      let w = list_any-at (λ (x : Choice). can_enter set x.row) (choices_at m s) no_choice (and-right (not (marked blocked s)) (some_choice (can_enter set) m s) e) in
      let row = ok.row s w.0 h w.1 in
      let z = enters-at set (row_at m s w.0) n row.in_range w.2 in
      let way : has_choice_to m (replicate n true) s z.0 ≡ true =
      list_any-by (λ (x : Choice). stays_in (marked (replicate n true)) x.row && leads_to z.0 x.row) (choices_at m s) no_choice w.0 w.1
      (and-both (stays_in (marked (replicate n true)) (row_at m s w.0)) (leads_to z.0 (row_at m s w.0)) (stays-everywhere n (row_at m s w.0) row.in_range) z.2) in
      (z.0, z.1, are s z.0 h z.1 ∙ and-both (not (marked blocked s)) (has_choice_to m (replicate n true) s z.0) open_s way, z.3)

  pub may_follows : Follows (may_step m blocked) (states_of m) edges
  may_follows set s t hs ht e h =
      let n = states_of m in
      let l = sym (are s t hs ht) ∙ e in
      let w = way-choice m (replicate n true) s t (and-right (not (marked blocked s)) (has_choice_to m (replicate n true) s t) l) in
      and-both (not (marked blocked s)) (some_choice (can_enter set) m s) (and-left (not (marked blocked s)) (has_choice_to m (replicate n true) s t) l)
      (list_any-by (λ (x : Choice). can_enter set x.row) (choices_at m s) no_choice w.0 w.1 (enters-by set (row_at m s w.0) t w.3 h))

module _ (rows : List (List Entry)) (ok : AreRows rows) (edges : List (List ℕ)) (are : (s t : ℕ) → s < length rows → t < length rows → has_edge edges s t ≡ leads_to t (get_or rows s [])) where
  pub row_leads : LeadsAlong (row_step rows) (length rows) edges
  row_leads set s h e =
      let row = ok s [] h in
      let z = enters-at set (get_or rows s []) (length rows) row.in_range e in
      (z.0, z.1, are s z.0 h z.1 ∙ z.2, z.3)

  pub row_follows : Follows (row_step rows) (length rows) edges
  row_follows set s t hs ht e h = enters-by set (get_or rows s []) t (sym (are s t hs ht) ∙ e) h
