-- Steps by choices that stay inside a set of states.
use Rattle.std.proofs.{Common.{◌≡◌, inl, inr, ℕ, suc, zero, ◌<◌, Bool, true, ◌||◌, ◌&&◌, List, length, sym, ap, ◌∙◌, Option, is_some}, lemmas.Bool.{cases_Bool}}
use Rattle.mdp_spec.specs.{Mdp.{Choice, Mdp, no_choice, states_of, choices_at, row_at}, Row.{IsMdp}}
use Rattle.mdp_rows.specs.Preds.{leads_to}
use Rattle.mdp_graph.specs.{Sets.{marked, can_enter, stays_in}, Edges.{has_edge, has_choice_to}, Layers.{reached, rank_at, AreRanks}, Sure.{inside_step}}
use Rattle.mdp_graph.proofs.{Reached.{LeadsAlong, Follows, rank_of}, Steps.{way-choice}, RowSets.{list_any-at, list_any-by, enters-at, enters-by, stays-more}}
use Rattle.mdp_math.proofs.Booleans.{or-true, and-left, and-right, and-both}

-- a step inside is a choice
pub inside-choice : (m : Mdp) (inside set : ℕ → Bool) (s : ℕ) → inside_step m inside set s ≡ true
    → (c : ℕ) × (c < length (choices_at m s)) × (stays_in inside (row_at m s c) ≡ true) × (can_enter set (row_at m s c) ≡ true)
inside-choice m inside set s e =
    let w = list_any-at (λ (x : Choice). stays_in inside x.row && can_enter set x.row) (choices_at m s) no_choice e in
    (w.0, w.1, and-left _ (can_enter set (row_at m s w.0)) w.2, and-right (stays_in inside (row_at m s w.0)) _ w.2)

pub choice-inside : (m : Mdp) (inside set : ℕ → Bool) (s c : ℕ) → c < length (choices_at m s) → stays_in inside (row_at m s c) ≡ true
    → can_enter set (row_at m s c) ≡ true → inside_step m inside set s ≡ true
choice-inside m inside set s c h a b =
    list_any-by (λ (x : Choice). stays_in inside x.row && can_enter set x.row) (choices_at m s) no_choice c h (and-both (stays_in inside (row_at m s c)) (can_enter set (row_at m s c)) a b)

-- edges lead where steps inside lead
module _ (m : Mdp) (ok : IsMdp m) (inside : List Bool) (edges : List (List ℕ)) (are : (s t : ℕ) → s < states_of m → t < states_of m → has_edge edges s t ≡ has_choice_to m inside s t) where
  pub inside_leads : LeadsAlong (inside_step m (marked inside)) (states_of m) edges
  inside_leads set s h e =
      let w = inside-choice m (marked inside) set s e in
      let row = ok.row s w.0 h w.1 in
      let z = enters-at set (row_at m s w.0) (states_of m) row.in_range w.3 in (
        z.0,
        z.1,
        are s z.0 h z.1 ∙ list_any-by (λ (x : Choice). stays_in (marked inside) x.row && leads_to z.0 x.row) (choices_at m s) no_choice w.0 w.1
            (and-both (stays_in (marked inside) (row_at m s w.0)) (leads_to z.0 (row_at m s w.0)) w.2 z.2),
        z.3,
      )

  pub inside_follows : Follows (inside_step m (marked inside)) (states_of m) edges
  inside_follows set s t hs ht e h =
      let w = way-choice m inside s t (sym (are s t hs ht) ∙ e) in
      choice-inside m (marked inside) set s w.0 w.1 w.2 (enters-by set (row_at m s w.0) t w.3 h)

pub step-more : (m : Mdp) (ok : IsMdp m) (p q set more : ℕ → Bool) → ((t : ℕ) → t < states_of m → p t ≡ true → q t ≡ true)
    → ((t : ℕ) → t < states_of m → set t ≡ true → more t ≡ true) → (s : ℕ) → s < states_of m
    → inside_step m p set s ≡ true → inside_step m q more s ≡ true
step-more m ok p q set more wider larger s h e =
    let w = inside-choice m p set s e in
    let row = ok.row s w.0 h w.1 in
    let z = enters-at set (row_at m s w.0) (states_of m) row.in_range w.3 in
    choice-inside m q more s w.0 w.1 (stays-more p q (row_at m s w.0) (states_of m) row.in_range wider w.2) (enters-by more (row_at m s w.0) z.0 z.2 (larger z.0 z.1 z.3))

pub reached-more : (m : Mdp) (ok : IsMdp m) (p q first : ℕ → Bool) → ((t : ℕ) → t < states_of m → p t ≡ true → q t ≡ true) → (k s : ℕ) → s < states_of m
    → reached (inside_step m p) first k s ≡ true → reached (inside_step m q) first k s ≡ true
unfolding reached
reached-more m ok p q first wider zero s h e = e
reached-more m ok p q first wider (suc k) s h e = elim (cases_Bool (reached (inside_step m p) first k s)) [
  | inl before ↦ ap (λ b. b || inside_step m q (reached (inside_step m q) first k) s) (reached-more m ok p q first wider k s h before)
  | inr new ↦
      ap (λ b. reached (inside_step m q) first k s || b)
      (step-more m ok p q (reached (inside_step m p) first k) (reached (inside_step m q) first k) wider (reached-more m ok p q first wider k) s h
      (sym (ap (λ b. b || inside_step m p (reached (inside_step m p) first k) s) new) ∙ e))
      ∙ or-true (reached (inside_step m q) first k s)
]

-- a state has a rank where it is reached
pub rank-reached : (m : Mdp) (goals inside : List Bool) (ranks : List (Option ℕ)) → AreRanks (inside_step m (marked inside)) (marked goals) (states_of m) ranks → (s k : ℕ) → s < states_of m
    → reached (inside_step m (marked inside)) (marked goals) k s ≡ true → is_some (rank_at ranks s) ≡ true
rank-reached m goals inside ranks a s k h e = let w = rank_of k (rank_at ranks s) (a.least k s h ∙ e) in ap is_some w.1
