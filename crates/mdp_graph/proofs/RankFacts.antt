-- The ranks and the last layer of a search, layer by layer.
use Rattle.std.proofs.Common.{◌≡◌, ◌≢◌, ◌⊎◌, inl, inr, ℕ, ◌+◌, ◌<◌, ◌≤◌, Bool, true, false, ◌||◌, ◌&&◌, ◌==◌, le-leb, cond, List, [], ◌∷◌, ◌++◌, length, get_or}
use Rattle.std.proofs.Common.{replicate, refl, sym, ap, subst, ◌∙◌, arith, eq-eqb, Option, Some, None, is_none}
use Rattle.std.proofs.{lemmas.Bool.{ne_eqb, false≢true, cases_Bool, cases_eq}, lemmas.List.{length-replicate, get_or-replicate}}
use Rattle.std.proofs.lemmas.List.Folds.{sum_by-replicate}
use borrow.Author.Tests.{leb-true}
use Rattle.mdp_rows.specs.Preds.{is_among}
use Rattle.mdp_graph.specs.{Sets.{marked}, Edges.{has_edge, predecessors_of}, Layers.{rank_at, at_most}, Ranking.{given, unranked, IsGiven, AreRankedBy}}
use Rattle.mdp_graph.proofs.Among.{cases_rank, among-append}
use Rattle.mdp_math.proofs.Booleans.{or-true, or-false}

-- the marked states below n
pub record AreMarked (marks : List Bool) (n : ℕ) (list : List ℕ) : Type 0 where
  pub at : (s : ℕ) → s < n → is_among s list ≡ marked marks s
  pub below : (s : ℕ) → is_among s list ≡ true → s < n

pub none_marked : (marks : List Bool) → AreMarked marks 0 []
none_marked marks = record { at = λ s h. absurd (omega arith); below = λ s e. absurd (false≢true e) }

pub among-last : (s n : ℕ) (list : List ℕ) → s ≢ n → is_among s (list ++ n ∷ []) ≡ is_among s list
among-last s n list other = among-append s list (n ∷ []) ∙ ap (λ b. is_among s list || (b || false)) (ne_eqb n s (λ q. other (sym q))) ∙ or-false (is_among s list)

pub marked_more : (marks : List Bool) (n : ℕ) (list : List ℕ) → AreMarked marks n list → marked marks n ≡ true → AreMarked marks (n + 1) (list ++ n ∷ [])
marked_more marks n list was is = record {
  at = λ s h. elim (cases_eq s n) [
    | inl same ↦ among-append s list (n ∷ []) ∙ ap (λ b. is_among s list || (b || false)) (eq-eqb n s (sym same)) ∙ or-true (is_among s list) ∙ sym (ap (marked marks) same ∙ is)
    | inr other ↦ among-last s n list other ∙ was.at s (omega arith)
  ];
  below = λ s e. elim (cases_eq s n) [
    | inl same ↦ omega arith
    | inr other ↦ (let l = was.below s (sym (among-last s n list other) ∙ e) in omega (arith, l))
  ];
}

pub marked_skip : (marks : List Bool) (n : ℕ) (list : List ℕ) → AreMarked marks n list → marked marks n ≡ false → AreMarked marks (n + 1) list
marked_skip marks n list was is = record {
  at = λ s h. elim (cases_eq s n) [
    | inl same ↦ (elim (cases_Bool (is_among s list)) [
      | inl e ↦ (let l = was.below s e in absurd (omega (arith, l, same)))
      | inr e ↦ e ∙ sym (ap (marked marks) same ∙ is)
    ])
    | inr other ↦ was.at s (omega arith)
  ];
  below = λ s e. (let l = was.below s e in omega (arith, l));
}

-- the edges into a layer
pub entered : (edges : List (List ℕ)) (layer : List ℕ) (s : ℕ) → is_among s (predecessors_of edges layer) ≡ true → (t : ℕ) × (is_among t layer ≡ true) × (has_edge edges s t ≡ true)
entered edges [] s e = absurd (false≢true e)
entered edges (x ∷ layer) s e = elim (cases_Bool (has_edge edges s x)) [
  | inl here ↦ (x, rw (eq-eqb x x refl) refl, here)
  | inr not_here ↦
      (let rest : is_among s (predecessors_of edges layer) ≡ true = sym
      (among-append s (get_or edges x []) (predecessors_of edges layer) ∙ ap (λ b. b || is_among s (predecessors_of edges layer)) not_here) ∙ e in
      let w = entered edges layer s rest in (w.0, ap (λ b. (x == w.0) || b) w.1 ∙ or-true (x == w.0), w.2))
]

pub enters : (edges : List (List ℕ)) (layer : List ℕ) (s t : ℕ) → is_among t layer ≡ true → has_edge edges s t ≡ true → is_among s (predecessors_of edges layer) ≡ true
enters edges [] s t m e = absurd (false≢true m)
enters edges (x ∷ layer) s t m e = among-append s (get_or edges x []) (predecessors_of edges layer) ∙ (elim (cases_eq x t) [
  | inl same ↦ ap (λ b. b || is_among s (predecessors_of edges layer)) (ap (λ j. has_edge edges s j) same ∙ e)
  | inr other ↦ ap (λ b. has_edge edges s x || b) (enters edges layer s t (sym (ap (λ b. b || is_among t layer) (ne_eqb x t other)) ∙ m) e) ∙ or-true (has_edge edges s x)
])

-- all states of rank at most k have their ranks, the layer holds those of rank k, and each state with an edge to another one has a rank of at most one more
pub record IsLayered (edges : List (List ℕ)) (first : ℕ → Bool) (n : ℕ) (ranks : List (Option ℕ)) (layer : List ℕ) (k : ℕ) : Type 0 where
  pub count : length ranks ≡ n
  pub first_ranked : (s : ℕ) → s < n → first s ≡ true → rank_at ranks s ≡ Some 0
  pub from : (s r : ℕ) → s < n → rank_at ranks s ≡ Some r → ((r ≡ 0) × (first s ≡ true)) ⊎
      ((t : ℕ) × (q : ℕ) × (t < n) × (has_edge edges s t ≡ true) × (rank_at ranks t ≡ Some q) × (r ≡ q + 1))
  pub top : (s r : ℕ) → s < n → rank_at ranks s ≡ Some r → r ≤ k
  pub raised : (s t j : ℕ) → s < n → t < n → is_among t layer ≡ false → has_edge edges s t ≡ true → at_most j (rank_at ranks t) ≡ true → at_most (j + 1) (rank_at ranks s) ≡ true
  pub last : (t : ℕ) → is_among t layer ≡ true → rank_at ranks t ≡ Some k
  pub below : (t : ℕ) → is_among t layer ≡ true → t < n
  pub left : k + unranked ranks + length layer ≤ n

unfoldable pub value : Option ℕ → ℕ
value None = 0
value (Some r) = r

pub some-same : (r q : ℕ) (o : Option ℕ) → o ≡ Some r → o ≡ Some q → r ≡ q
unfolding value
some-same r q o e f = ap value (sym e ∙ f)

pub none-some : (r : ℕ) (o : Option ℕ) → o ≡ None → o ≡ Some r → ⊥
none-some r o e f = false≢true (sym (ap is_none f) ∙ ap is_none e)

pub cond_some : (b : Bool) (k r : ℕ) (o : Option ℕ) → o ≡ cond b (Some k) None → o ≡ Some r → (r ≡ k) × (b ≡ true)
cond_some true k r o e f = (some-same r k o f e, refl)
cond_some false k r o e f = absurd (none-some r o e f)

unranked_all : (n : ℕ) → unranked (replicate n None) ≡ n
unranked_all n = let none : Option ℕ = None in let one : cond {A = ℕ} (is_none none) 1 0 ≡ 1 = refl in omega (arith, sum_by-replicate (λ (o : Option ℕ). cond (is_none o) 1 0) n none, one)

-- before a rank is given
pub started : (edges : List (List ℕ)) (first : ℕ → Bool) (n : ℕ) (old : List (Option ℕ)) (none_yet : List ℕ) (ranks : List (Option ℕ)) (layer list : List ℕ)
    → old ≡ replicate n None → none_yet ≡ [] → IsGiven old none_yet ranks layer list 0 → ((s : ℕ) → s < n → is_among s list ≡ first s) → IsLayered edges first n ranks layer 0
started edges first n old none_yet ranks layer list e1 e2 g at =
    let none : Option ℕ = None in
    let many : length old ≡ n = ap length e1 ∙ length-replicate n none in
    let within : (s : ℕ) → s < n → s < length old = λ s h. omega (arith, many) in
    let start : (s : ℕ) → s < n → rank_at old s ≡ None = λ s h. ap (λ (x : List (Option ℕ)). rank_at x s) e1 ∙ get_or-replicate n s none none h in
    let rank : (s : ℕ) → s < n → rank_at ranks s ≡ cond (first s) (Some 0) None = λ s h. g.at s (within s h) ∙ ap (given 0 (is_among s list)) (start s h) ∙ ap (λ b. cond b (Some 0) None) (at s h) in
    let below : (t : ℕ) → is_among t layer ≡ true → t < n = λ t m. elim (g.below t m) [ inl e ↦ absurd (false≢true (sym (ap (is_among t) e2) ∙ e)) | inr l ↦ omega (arith, many) ] in
    let listed : (t : ℕ) → t < n → is_among t layer ≡ first t = λ t h. g.listed t (within t h)
    ∙ ap (λ (x : List ℕ). is_among t x || (is_none (rank_at old t) && is_among t list)) e2 ∙ ap (λ o. is_none o && is_among t list) (start t h) ∙ at t h in
    record {
      count = g.count ∙ many;
      first_ranked = λ s h e. rank s h ∙ ap (λ b. cond b (Some 0) None) e;
      from = λ s r h e. inl (cond_some (first s) 0 r (rank_at ranks s) (rank s h) e);
      top = λ s r h e. (let z = cond_some (first s) 0 r (rank_at ranks s) (rank s h) e in omega (arith, z.0));
      raised = λ s t j hs ht out edge m.
          absurd (false≢true (sym (ap (at_most j) (rank t ht ∙ ap (λ b. cond b (Some 0) None) (sym (listed t ht) ∙ out))) ∙ m));
      last = λ t m. rank t (below t m) ∙ ap (λ b. cond b (Some 0) None) (sym (listed t (below t m)) ∙ m);
      below = below;
      left = (let l = g.left in let u = ap unranked e1 ∙ unranked_all n in let v = ap length e2 in omega (arith, l, u, v));
    }

at_most_given : (k j : ℕ) (b : Bool) (o : Option ℕ) → at_most j o ≡ true → at_most j (given k b o) ≡ true
at_most_given k j b None e = absurd (false≢true e)
at_most_given k j b (Some r) e = e

raised_given : (k j : ℕ) (o : Option ℕ) → ((r : ℕ) → o ≡ Some r → r ≤ k) → k ≤ j → at_most (j + 1) (given (k + 1) true o) ≡ true
raised_given k j None top h = le-leb (k + 1) (j + 1) (omega arith)
raised_given k j (Some r) top h = let l = top r refl in le-leb r (j + 1) (omega (arith, l))

listed_none : (e : Bool) (o : Option ℕ) → (is_none o && e) ≡ true → (o ≡ None) × (e ≡ true)
listed_none e None h = (refl, h)
listed_none e (Some r) h = absurd (false≢true h)

-- the next layer
pub layered : (edges : List (List ℕ)) (first : ℕ → Bool) (n : ℕ) (ranks : List (Option ℕ)) (layer : List ℕ) (k : ℕ) (new : List (Option ℕ)) (next : List ℕ)
    → IsLayered edges first n ranks layer k → IsGiven ranks [] new next (predecessors_of edges layer) (k + 1) → 0 < length layer → IsLayered edges first n new next (k + 1)
layered edges first n ranks layer k new next l g some =
    let within : (s : ℕ) → s < n → s < length ranks = λ s h. omega (arith, l.count) in
    let kept : (s r : ℕ) → s < n → rank_at ranks s ≡ Some r → rank_at new s ≡ Some r = λ s r h e. g.at s (within s h) ∙ ap (given (k + 1) (is_among s (predecessors_of edges layer))) e in
    let fresh : (s : ℕ) → s < n → rank_at ranks s ≡ None → rank_at new s ≡ cond (is_among s (predecessors_of edges layer)) (Some (k + 1)) None =
    λ s h e. g.at s (within s h) ∙ ap (given (k + 1) (is_among s (predecessors_of edges layer))) e in
    let below : (t : ℕ) → is_among t next ≡ true → t < n = λ t m. elim (g.below t m) [ inl e ↦ absurd (false≢true e) | inr h ↦ omega (arith, l.count) ] in
    let listed : (t : ℕ) → t < n → is_among t next ≡ (is_none (rank_at ranks t) && is_among t (predecessors_of edges layer)) = λ t h. g.listed t (within t h) in
    record {
      count = g.count ∙ l.count;
      first_ranked = λ s h e. kept s 0 h (l.first_ranked s h e);
      from = λ s r h e. elim (cases_rank (rank_at ranks s)) [
        | inl none ↦
            (let z = cond_some (is_among s (predecessors_of edges layer)) (k + 1) r (rank_at new s) (fresh s h none) e in
            let w = entered edges layer s z.1 in
            inr (w.0, k, l.below w.0 w.1, w.2, kept w.0 k (l.below w.0 w.1) (l.last w.0 w.1), z.0))
        | inr has ↦
            (let same : r ≡ has.0 = some-same r has.0 (rank_at new s) e (kept s has.0 h has.1) in
            elim (l.from s r h (has.1 ∙ ap (λ (j : ℕ). Some j) (sym same))) [
              | inl z ↦ inl z
              | inr w ↦ inr (w.0, w.1, w.2, w.3, kept w.0 w.1 w.2 w.4, w.5)
            ])
      ];
      top = λ s r h e. elim (cases_rank (rank_at ranks s)) [
        | inl none ↦ (let z = cond_some (is_among s (predecessors_of edges layer)) (k + 1) r (rank_at new s) (fresh s h none) e in omega (arith, z.0))
        | inr has ↦ (let same : r ≡ has.0 = some-same r has.0 (rank_at new s) e (kept s has.0 h has.1) in let t = l.top s has.0 h has.1 in omega (arith, same, t))
      ];
      raised = λ s t j hs ht out edge m. elim (cases_rank (rank_at ranks t)) [
        | inl none ↦ (elim (cases_Bool (is_among t (predecessors_of edges layer))) [
          | inl e ↦ absurd (false≢true (sym out ∙ listed t ht ∙ ap (λ o. is_none o && is_among t (predecessors_of edges layer)) none ∙ e))
          | inr e ↦ absurd (false≢true (sym (ap (at_most j) (fresh t ht none ∙ ap (λ b. cond b (Some (k + 1)) None) e)) ∙ m))
        ])
        | inr has ↦
            (let old : at_most j (rank_at ranks t) ≡ true = ap (at_most j) (has.1 ∙ sym (kept t has.0 ht has.1)) ∙ m in
            elim (cases_Bool (is_among t layer)) [
              | inl e ↦
                  (let low : k ≤ j = leb-true k j (sym (ap (at_most j) (l.last t e)) ∙ old) in
                  ap (at_most (j + 1)) (g.at s (within s hs) ∙ ap (λ b. given (k + 1) b (rank_at ranks s)) (enters edges layer s t e edge))
                  ∙ raised_given k j (rank_at ranks s) (λ r q. l.top s r hs q) low)
              | inr e ↦ ap (at_most (j + 1)) (g.at s (within s hs)) ∙ at_most_given (k + 1) (j + 1) (is_among s (predecessors_of edges layer)) (rank_at ranks s) (l.raised s t j hs ht e edge old)
            ])
      ];
      last = λ t m.
          (let z = listed_none (is_among t (predecessors_of edges layer)) (rank_at ranks t) (sym (listed t (below t m)) ∙ m) in
          fresh t (below t m) z.0 ∙ ap (λ b. cond b (Some (k + 1)) None) z.1);
      below = below;
      left = (let u = g.left in let v = l.left in omega (arith, u, v, some));
    }

pub none_among : (t : ℕ) (layer : List ℕ) → length layer ≡ 0 → is_among t layer ≡ false
none_among t [] e = refl
none_among t (x ∷ layer) e = absurd (omega arith)

-- where a layer is empty, all ranks are given
pub ended : (edges : List (List ℕ)) (first : ℕ → Bool) (n : ℕ) (ranks : List (Option ℕ)) (layer : List ℕ) (k : ℕ) → IsLayered edges first n ranks layer k
    → length layer ≡ 0 → AreRankedBy edges first n ranks
ended edges first n ranks layer k l e = record {
  count = l.count;
  first_ranked = l.first_ranked;
  from = l.from;
  raised = λ s t j hs ht edge m. l.raised s t j hs ht (none_among t layer e) edge m;
}

pub layered_from : (edges : List (List ℕ)) (first : ℕ → Bool) (n : ℕ) (ranks : List (Option ℕ)) (layer seen : List ℕ) (k : ℕ) (new : List (Option ℕ)) (next : List ℕ)
    → IsLayered edges first n ranks layer k → IsGiven ranks [] new next (predecessors_of edges seen) (k + 1) → seen ≡ layer → 0 < length layer → IsLayered edges first n new next (k + 1)
layered_from edges first n ranks layer seen k new next l g e some =
    layered edges first n ranks layer k new next l (subst (λ (x : List ℕ). IsGiven ranks [] new next (predecessors_of edges x) (k + 1)) e g) some
