-- The states that are met next, by the choices that wait.
use Rattle.std.proofs.Common.{◌≡◌, inl, inr, ℕ, zero, suc, ◌==◌, ◌<◌, Bool, true, false, ◌||◌, ◌&&◌, not, List, [], ◌∷◌, length, map, get_or, replicate, refl, sym, ap, subst}
use Rattle.std.proofs.{Common.{◌∙◌, arith, Option, Some, None, is_some, is_none}, lemmas.Bool.{false≢true, eqb-true}}
use Rattle.std.proofs.{lemmas.List.{length-replicate, get_or-replicate}, lemmas.List.FromFn.{length-map-range_with_len}}
use Rattle.std.specs.List.{range_with_len}
use Rattle.mdp_spec.specs.{Mdp.{Entry, Choice, Mdp, no_choice, states_of, choices_at, row_at}, Row.{IsMdp}}
use Rattle.mdp_rows.specs.{Preds.{is_among, preds_to}, declared.preds.Pred.{Pred}}
use Rattle.mdp_graph.specs.{Sets.{can_enter}, Layers.{rank_at}, Ranking.{given, IsGiven}, Meet.{must_step}}
use Rattle.mdp_graph.specs.{Waiting.{some_waits, is_one_of, AreWaiting, AreWithin, AreReleased, AreMet, leading_to}, NextLayer.{is_ranked, AreLayers, IsNext}}
use Rattle.mdp_graph.specs.Forest.{all_preds}
use Rattle.mdp_graph.proofs.{Meeting.{IsMeeting, must_respects}, PredLists.{leading-in, leading-back}, Releasing.{true-some, some-in-range}}
use Rattle.mdp_graph.proofs.RowSets.{list_any-at, list_all-false_by, list_all-fails, enters-same, enters-never}
use Rattle.mdp_math.proofs.Booleans.{or-true, not_true, not-not, and-left, and-right, same_truth}

-- ---- the ranks that were given

-- states to which a rank was given are in range, and have one
pub given_below : (old new : List (Option ℕ)) (none_yet layer states : List ℕ) (k n : ℕ) → IsGiven old none_yet new layer states k → none_yet ≡ []
    → length old ≡ n → (t : ℕ) → is_among t layer ≡ true → t < n
given_below old new none_yet layer states k n g e many t a = elim (g.below t a) [ inl before ↦ absurd (false≢true (sym (ap (is_among t) e) ∙ before)) | inr l ↦ omega (arith, l, many) ]

given-ranked : (k : ℕ) (b : Bool) (o : Option ℕ) → is_some (given k b o) ≡ (is_some o || (is_none o && b))
given-ranked k b (Some r) = refl
given-ranked k true None = refl
given-ranked k false None = refl

pub ranked_more : (old new : List (Option ℕ)) (none_yet layer states : List ℕ) (k n : ℕ) → IsGiven old none_yet new layer states k → none_yet ≡ []
    → length old ≡ n → (t : ℕ) → t < n → is_ranked new t ≡ (is_ranked old t || is_among t layer)
ranked_more old new none_yet layer states k n g e many t h =
    ap is_some (g.at t (omega (arith, h, many))) ∙ given-ranked k (is_among t states) (rank_at old t)
    ∙ ap (λ b. is_some (rank_at old t) || b) (sym (g.listed t (omega (arith, h, many)) ∙ ap (λ (x : List ℕ). is_among t x || (is_none (rank_at old t) && is_among t states)) e))

given-none : (k : ℕ) (b : Bool) (o : Option ℕ) → is_none (given k b o) ≡ true → (is_none o ≡ true) × (b ≡ false)
given-none k b (Some r) e = absurd (false≢true e)
given-none k true None e = absurd (false≢true e)
given-none k false None e = (refl, refl)

-- a state that has no rank after those that were met got theirs was not met
pub unmet : (step : (ℕ → Bool) → ℕ → Bool) (first : ℕ → Bool) (n : ℕ) (ranks new : List (Option ℕ)) (met seen layer : List ℕ) (k j : ℕ)
    → IsMeeting step first n ranks met k → IsGiven ranks [] new layer seen j → seen ≡ met
    → (s : ℕ) → s < n → is_none (rank_at new s) ≡ true → step (is_ranked ranks) s ≡ false
unmet step first n ranks new met seen layer k j l g e s h none =
    let w = given-none j (is_among s seen) (rank_at ranks s) (sym (ap is_none (g.at s (omega (arith, h, l.count)))) ∙ none) in
    sym (ap (λ b. b && step (is_ranked ranks) s) w.0) ∙ sym (l.met s h) ∙ sym (ap (is_among s) e) ∙ w.1

-- ---- the choices that wait

or-or : (a b c d : Bool) → ((a || b) || (c || d)) ≡ ((a || c) || (b || d))
or-or true b c d = refl
or-or false true c d = sym (or-true c)
or-or false false c d = refl

-- a state some of whose choices wait isn't met
pub some-waits-is : (m : Mdp) (set : ℕ → Bool) (lists : List (List Bool)) → AreWaiting m set lists → (s : ℕ) → s < states_of m → some_waits lists s ≡ not (must_step m set s)
some-waits-is m set lists w s h =
    same_truth (some_waits lists s) (not (must_step m set s))
    (λ e.
    (let z = list_any-at (λ (b : Bool). b) (get_or lists s []) false e in
    let k = w.width s h in
    let c : z.0 < length (choices_at m s) = omega (arith, z.1, k) in
    ap not (list_all-false_by (λ (x : Choice). can_enter set x.row) (choices_at m s) no_choice z.0 c (not_true (can_enter set (row_at m s z.0)) (sym (w.at s z.0 h c) ∙ z.2)))))
    (λ e.
    (let z = list_all-fails (λ (x : Choice). can_enter set x.row) (choices_at m s) no_choice (not_true (must_step m set s) e) in
    true-some (get_or lists s []) z.0 (w.at s z.0 h z.1 ∙ ap not z.2)))

-- no state is met where none has a rank
none_met : (m : Mdp) → IsMdp m → (s : ℕ) → s < states_of m → must_step m (λ _. false) s ≡ false
none_met m ok s h = list_all-false_by (λ (x : Choice). can_enter (λ _. false) x.row) (choices_at m s) no_choice 0 (ok.choice s h) (enters-never (row_at m s 0) (λ _. false) (λ t. refl))

enters-or : (p q : ℕ → Bool) (row : List Entry) → can_enter (λ t. p t || q t) row ≡ (can_enter p row || can_enter q row)
enters-or p q [] = refl
enters-or p q (x ∷ row) = ap (λ b. (p x.target || q x.target) || b) (enters-or p q row) ∙ or-or (p x.target) (q x.target) (can_enter p row) (can_enter q row)

not-or : (a b : Bool) → (not a && not b) ≡ not (a || b)
not-or true b = refl
not-or false b = refl

met_when : (n before after : Bool) → (n ≡ true → before ≡ false) → (n && (not before && after)) ≡ (n && after)
met_when true before after none = rw (none refl) refl
met_when false before after none = refl

pub in_preds : (m : Mdp) (preds : List (List Pred)) → preds ≡ map (preds_to m) (range_with_len 0 (states_of m)) → length preds ≡ states_of m
in_preds m preds are = ap length are ∙ length-map-range_with_len (preds_to m) 0 (states_of m)

unranked_at : (n : ℕ) (ranks : List (Option ℕ)) → ranks ≡ replicate n None → (t : ℕ) → t < n → is_ranked ranks t ≡ false
unranked_at n ranks e t h = let none : Option ℕ = None in ap is_some (ap (λ (x : List (Option ℕ)). rank_at x t) e ∙ get_or-replicate n t none none h)

pub none_met_yet : (m : Mdp) → IsMdp m → (ranks : List (Option ℕ)) → ranks ≡ replicate (states_of m) None → (s : ℕ) → s < states_of m → must_step m (is_ranked ranks) s ≡ false
none_met_yet m ok ranks e s h = must_respects m ok (is_ranked ranks) (λ _. false) (unranked_at (states_of m) ranks e) s h ∙ none_met m ok s h

-- where no state has a rank, all choices wait
pub first_layers : (m : Mdp) → IsMdp m → (preds : List (List Pred)) (lists : List (List Bool)) (ranks : List (Option ℕ)) → preds ≡ all_preds m → AreWaiting m (λ _. false) lists
    → ranks ≡ replicate (states_of m) None → AreLayers m preds lists ranks
first_layers m ok preds lists ranks are w e = record {
  preds_are = are;
  count = (let none : Option ℕ = None in ap length e ∙ length-replicate (states_of m) none);
  waiting = record {
    count = w.count;
    width = w.width;
    at = λ s c h k. w.at s c h k ∙ ap not (let row = ok.row s c h k in enters-same (λ _. false) (is_ranked ranks) (row_at m s c) (states_of m) row.in_range (λ t l. sym (unranked_at (states_of m) ranks e t l)));
  };
}

-- after a rank was given to some states, and the choices with an entry to them no longer wait
module _ (m : Mdp) (ok : IsMdp m) (preds : List (List Pred)) (old : List (List Bool)) (ranks : List (Option ℕ)) (l : AreLayers m preds old ranks) (new : List (Option ℕ)) (none_yet layer states : List ℕ)
    (k : ℕ) (g : IsGiven ranks none_yet new layer states k) (none : none_yet ≡ []) (seen : List ℕ) (same : seen ≡ layer) where
  seen_below : (t : ℕ) → is_among t seen ≡ true → t < states_of m
  seen_below t e = given_below ranks new none_yet layer states k (states_of m) g none l.count t (sym (ap (is_among t) same) ∙ e)

  pub layer_in : (t : ℕ) → is_among t seen ≡ true → t < length preds
  layer_in t e = let h = seen_below t e in let n = in_preds m preds l.preds_are in omega (arith, h, n)

  pub layer_within : AreWithin old (leading_to preds seen)
  layer_within s c e =
      let z = leading-in m preds l.preds_are seen seen_below s c e in
      let w = l.waiting in
      let j = w.width s z.0 in
      (omega (arith, z.0, w.count), omega (arith, z.1, j))

  more : (t : ℕ) → t < states_of m → is_ranked new t ≡ (is_ranked ranks t || is_among t seen)
  more t h = ranked_more ranks new none_yet layer states k (states_of m) g none l.count t h ∙ ap (λ (x : List ℕ). is_ranked ranks t || is_among t x) (sym same)

  module _ (after : List (List Bool)) (r : AreReleased old after (leading_to preds seen)) where
    ranked-enters : (s c : ℕ) → s < states_of m → c < length (choices_at m s)
        → (can_enter (is_ranked ranks) (row_at m s c) || can_enter (λ t. is_among t seen) (row_at m s c)) ≡ can_enter (is_ranked new) (row_at m s c)
    ranked-enters s c h j =
        let row = ok.row s c h j in
        sym (enters-or (is_ranked ranks) (λ t. is_among t seen) (row_at m s c))
        ∙ enters-same (λ t. is_ranked ranks t || is_among t seen) (is_ranked new) (row_at m s c) (states_of m) row.in_range (λ t i. sym (more t i))

    released-is : (s c : ℕ) → s < states_of m → c < length (choices_at m s) → is_one_of (leading_to preds seen) s c ≡ can_enter (λ t. is_among t seen) (row_at m s c)
    released-is s c h j =
        same_truth (is_one_of (leading_to preds seen) s c) (can_enter (λ t. is_among t seen) (row_at m s c))
        (λ e. (let z = leading-in m preds l.preds_are seen seen_below s c e in z.2)) (leading-back m preds l.preds_are ok seen s c h j)

    pub next_layers : AreLayers m preds after new
    next_layers = (let w = l.waiting in record {
      preds_are = l.preds_are;
      count = g.count ∙ l.count;
      waiting = record {
        count = r.count ∙ w.count;
        width = λ s h. r.width s ∙ w.width s h;
        at = λ s c h j.
            r.at s c ∙ ap (λ b. b && not (is_one_of (leading_to preds seen) s c)) (w.at s c h j) ∙ ap (λ b. not (can_enter (is_ranked ranks) (row_at m s c)) && not b) (released-is s c h j)
            ∙ not-or (can_enter (is_ranked ranks) (row_at m s c)) (can_enter (λ t. is_among t seen) (row_at m s c)) ∙ ap not (ranked-enters s c h j);
      };
    })

  pub is_next : (after : List (List Bool)) (seen_ranks : List (Option ℕ)) (met : List ℕ) → seen_ranks ≡ new → AreMet old after (leading_to preds seen) seen_ranks [] met
      → IsNext m preds old after ranks new states k met
  is_next after seen_ranks met same_ranks a =
      let now = next_layers after a.released in record {
        layer = layer;
        given = subst (λ (x : List ℕ). IsGiven ranks x new layer states k) none g;
        released = subst (λ (x : List ℕ). AreReleased old after (leading_to preds x)) same a.released;
        listed = λ s h.
            a.listed s ∙ ap (λ (x : List (Option ℕ)). is_none (rank_at x s) && (some_waits old s && not (some_waits after s))) same_ranks
            ∙ ap (λ b. is_none (rank_at new s) && (b && not (some_waits after s))) (some-waits-is m (is_ranked ranks) old l.waiting s h)
            ∙ ap (λ b. is_none (rank_at new s) && (not (must_step m (is_ranked ranks) s) && not b)) (some-waits-is m (is_ranked new) after now.waiting s h)
            ∙ ap (λ b. is_none (rank_at new s) && (not (must_step m (is_ranked ranks) s) && b)) (not-not (must_step m (is_ranked new) s));
        below = λ s e.
            (let some = and-left (some_waits old s) (not (some_waits after s)) (and-right (is_none (rank_at seen_ranks s)) (some_waits old s && not (some_waits after s)) (sym (a.listed s) ∙ e)) in
            let i = some-in-range old s some in let w = l.waiting in omega (arith, i, w.count));
      }

-- the states that are met, where none without a rank was met before
pub met_next : (m : Mdp) (preds : List (List Pred)) (lists after : List (List Bool)) (ranks new : List (Option ℕ)) (states : List ℕ) (k : ℕ) (met : List ℕ)
    → IsNext m preds lists after ranks new states k met → ((s : ℕ) → s < states_of m → is_none (rank_at new s) ≡ true → must_step m (is_ranked ranks) s ≡ false)
    → (s : ℕ) → s < states_of m → is_among s met ≡ (is_none (rank_at new s) && must_step m (is_ranked new) s)
met_next m preds lists after ranks new states k met n not_met s h =
    n.listed s h ∙ met_when (is_none (rank_at new s)) (must_step m (is_ranked ranks) s) (must_step m (is_ranked new) s) (not_met s h)

-- what the test of a list's length says
pub is_zero : (n : ℕ) → true ≡ (n == 0) → n ≡ 0
is_zero n e = eqb-true n 0 (sym e)

pub above_zero : (n : ℕ) → false ≡ (n == 0) → 0 < n
above_zero zero e = absurd (false≢true e)
above_zero (suc n) e = omega arith
