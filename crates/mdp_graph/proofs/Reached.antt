-- Ranks by edges are the ranks of a step, where a step leads along an edge.
use Rattle.std.proofs.Common.{◌≡◌, inl, inr, ℕ, suc, zero, ◌+◌, ◌<◌, ◌≤◌, Bool, true, ◌||◌, le-leb, List, refl, sym, ap, ◌∙◌, arith, Option, Some, None}
use Rattle.std.proofs.lemmas.Bool.{false≢true, cases_Bool}
use borrow.Author.Tests.{leb-true}
use Rattle.mdp_graph.specs.{Edges.{has_edge}, Layers.{reached, rank_at, at_most, AreRanks}, Ranking.{AreRankedBy}}
use Rattle.mdp_math.proofs.Booleans.{or-true, same_truth}

-- a rank of at most k
pub rank_of : (k : ℕ) (o : Option ℕ) → at_most k o ≡ true → (r : ℕ) × (o ≡ Some r) × (r ≤ k)
rank_of k None e = absurd (false≢true e)
rank_of k (Some r) e = (r, refl, leb-true r k e)

pub at_most-some : (k r : ℕ) (o : Option ℕ) → o ≡ Some r → r ≤ k → at_most k o ≡ true
at_most-some k r o e h = ap (at_most k) e ∙ le-leb r k h

abbrev pub LeadsAlong : ((ℕ → Bool) → ℕ → Bool) → ℕ → List (List ℕ) → Type 0
LeadsAlong step n edges = (set : ℕ → Bool) (s : ℕ) → s < n → step set s ≡ true → (t : ℕ) × (t < n) × (has_edge edges s t ≡ true) × (set t ≡ true)

abbrev pub Follows : ((ℕ → Bool) → ℕ → Bool) → ℕ → List (List ℕ) → Type 0
Follows step n edges = (set : ℕ → Bool) (s t : ℕ) → s < n → t < n → has_edge edges s t ≡ true → set t ≡ true → step set s ≡ true

zero_least : (first : ℕ → Bool) (n : ℕ) (edges : List (List ℕ)) (ranks : List (Option ℕ)) (s : ℕ) → AreRankedBy edges first n ranks → s < n → at_most 0 (rank_at ranks s) ≡ first s
zero_least first n edges ranks s a h = same_truth (at_most 0 (rank_at ranks s)) (first s)
    (λ e. (let w = rank_of 0 (rank_at ranks s) e in elim (a.from s w.0 h w.1) [ inl z ↦ z.1 | inr z ↦ absurd (omega (arith, w.2, z.5)) ]))
    (λ e. at_most-some 0 0 (rank_at ranks s) (a.first_ranked s h e) (omega arith))

module _ (step : (ℕ → Bool) → ℕ → Bool) (first : ℕ → Bool) (n : ℕ) (edges : List (List ℕ)) (ranks : List (Option ℕ)) (a : AreRankedBy edges first n ranks)
    (along : LeadsAlong step n edges) (follows : Follows step n edges) where
  least_more : (k s : ℕ) → s < n → ((t : ℕ) → t < n → at_most k (rank_at ranks t) ≡ reached step first k t)
      → at_most (suc k) (rank_at ranks s) ≡ (reached step first k s || step (reached step first k) s)
  least_more k s h known = same_truth (at_most (suc k) (rank_at ranks s)) (reached step first k s || step (reached step first k) s)
      (λ e. (let w = rank_of (suc k) (rank_at ranks s) e in
      elim (cases_Bool (at_most k (rank_at ranks s))) [
        | inl m ↦ ap (λ b. b || step (reached step first k) s) (sym (known s h) ∙ m)
        | inr m ↦ (elim (a.from s w.0 h w.1) [
          | inl z ↦ absurd (false≢true (sym m ∙ at_most-some k w.0 (rank_at ranks s) w.1 (omega (arith, z.0))))
          | inr z ↦
              ap (λ b. reached step first k s || b) (follows (reached step first k) s z.0 h z.2 z.3
              (sym (known z.0 z.2) ∙ at_most-some k z.1 (rank_at ranks z.0) z.4 (omega (arith, w.2, z.5)))) ∙ or-true (reached step first k s)
        ])
      ]))
      (λ e. elim (cases_Bool (reached step first k s)) [
        | inl m ↦ (let w = rank_of k (rank_at ranks s) (known s h ∙ m) in at_most-some (suc k) w.0 (rank_at ranks s) w.1 (omega (arith, w.2)))
        | inr m ↦
            (let w = along (reached step first k) s h (sym (ap (λ b. b || step (reached step first k) s) m) ∙ e) in
            let up = a.raised s w.0 k h w.1 w.2 (known w.0 w.1 ∙ w.3) in
            let v = rank_of (k + 1) (rank_at ranks s) up in at_most-some (suc k) v.0 (rank_at ranks s) v.1 (omega (arith, v.2)))
      ])

  least : (k s : ℕ) → s < n → at_most k (rank_at ranks s) ≡ reached step first k s
  unfolding reached
  least zero s h = zero_least first n edges ranks s a h
  least (suc k) s h = least_more k s h (least k)

  pub ranked : AreRanks step first n ranks
  ranked = record { count = a.count; least = least }
