-- What a pass answers, from the ranks that were found.
use Rattle.std.proofs.Common.{◌≡◌, inl, inr, ℕ, zero, suc, ◌<◌, Bool, true, false, ◌||◌, ◌&&◌, nat_lt, lt-ltb, le-ltb, List, length, map, get_or, refl, sym, ap, subst, ◌∙◌}
use Rattle.std.proofs.{Common.{arith, Option, Some, None, is_some}, lemmas.Bool.{false≢true, cases_Bool}, lemmas.List.{get_or-map, length-map}}
use Rattle.mdp_spec.specs.{Mdp.{Mdp, states_of, choices_at, row_at}, Row.{IsMdp}}
use Rattle.mdp_graph.specs.{Sets.{marked, can_enter}, Layers.{reached, rank_at, AreRanks, AreReached, AreLeastRanks}}
use Rattle.mdp_graph.specs.{Choices.{plain_rank, is_before, first_passing, AreLeast}, Reach.{falls}}
use Rattle.mdp_graph.proofs.{Falls.{IsFirst, case-any, firsts, firsts_count}, RankFacts.{some-same}, Reached.{rank_of, at_most-some}}
use Rattle.mdp_graph.proofs.RowSets.{enters-at, enters-by, enters-same, enters-never}
use Rattle.mdp_math.proofs.Booleans.{and-false}

-- the marks and the plain ranks, state by state
pub mark-is : (ranks : List (Option ℕ)) (s : ℕ) → s < length ranks → marked (map is_some ranks) s ≡ is_some (rank_at ranks s)
mark-is ranks s h = get_or-map is_some ranks s None false h

pub plain-is : (ranks : List (Option ℕ)) (s : ℕ) → s < length ranks → get_or (map plain_rank ranks) s 0 ≡ plain_rank (rank_at ranks s)
plain-is ranks s h = get_or-map plain_rank ranks s None 0 h

pub has_rank : (o : Option ℕ) → is_some o ≡ true → (r : ℕ) × (o ≡ Some r)
has_rank None e = absurd (false≢true e)
has_rank (Some r) e = (r, refl)

pub no_rank : (o : Option ℕ) → is_some o ≡ false → o ≡ None
no_rank None e = refl
no_rank (Some r) e = absurd (false≢true (sym e))

module _ (step : (ℕ → Bool) → ℕ → Bool) (first : ℕ → Bool) (n : ℕ) (ranks : List (Option ℕ)) (a : AreRanks step first n ranks) where
  within : (s : ℕ) → s < n → s < length ranks
  within s h = omega (arith, a.count)

  pub reached_marks : AreReached step first n (map is_some ranks)
  reached_marks = record {
    count = length-map ranks is_some ∙ a.count;
    marks_reached = λ s h. (
      (λ e. (let w = has_rank (rank_at ranks s) (sym (mark-is ranks s (within s h)) ∙ e) in (w.0, sym (a.least w.0 s h) ∙ at_most-some w.0 w.0 (rank_at ranks s) w.1 (omega arith)))),
      (λ w. (let r = rank_of w.0 (rank_at ranks s) (a.least w.0 s h ∙ w.1) in mark-is ranks s (within s h) ∙ ap is_some r.1)),
    );
  }

  pub least_ranks : AreLeastRanks step first n (map is_some ranks) (map plain_rank ranks)
  least_ranks = record {
    count = length-map ranks plain_rank ∙ a.count;
    reaches = λ s h e.
        (let w = has_rank (rank_at ranks s) (sym (mark-is ranks s (within s h)) ∙ e) in
        ap (λ k. reached step first k s) (plain-is ranks s (within s h) ∙ ap plain_rank w.1) ∙ sym (a.least w.0 s h) ∙ at_most-some w.0 w.0 (rank_at ranks s) w.1 (omega arith));
    least = λ s k h e.
        (let r = rank_of k (rank_at ranks s) (a.least k s h ∙ e) in
        let p : get_or (map plain_rank ranks) s 0 ≡ r.0 = plain-is ranks s (within s h) ∙ ap plain_rank r.1 in omega (arith, p, r.2));
    zero = λ s h e. plain-is ranks s (within s h) ∙ ap plain_rank (no_rank (rank_at ranks s) (sym (mark-is ranks s (within s h)) ∙ e));
  }

pub ranks_seen : (step : (ℕ → Bool) → ℕ → Bool) (first : ℕ → Bool) (n : ℕ) (ranks seen : List (Option ℕ)) → seen ≡ ranks → AreRanks step first n ranks → AreRanks step first n seen
ranks_seen step first n ranks seen e a = subst (λ (x : List (Option ℕ)). AreRanks step first n x) (sym e) a

-- the choices
before-is : (r : ℕ) (o : Option ℕ) → is_before r o ≡ (is_some o && nat_lt (plain_rank o) r)
before-is r None = refl
before-is r (Some q) = refl

before-zero : (o : Option ℕ) → is_before 0 o ≡ false
before-zero None = refl
before-zero (Some q) = le-ltb q 0 (omega arith)

-- a successor of smaller rank, by the ranks that were found and by the marks and ranks that are answered
pub falls-is : (m : Mdp) (ok : IsMdp m) (ranks : List (Option ℕ)) → length ranks ≡ states_of m → (s c : ℕ) → s < states_of m → c < length (choices_at m s)
    → can_enter (λ t. is_before (plain_rank (rank_at ranks s)) (rank_at ranks t)) (row_at m s c) ≡ falls m (map is_some ranks) (map plain_rank ranks) s c
falls-is m ok ranks count s c h k =
    let row = ok.row s c h k in
    enters-same (λ t. is_before (plain_rank (rank_at ranks s)) (rank_at ranks t))
    (λ t. marked (map is_some ranks) t && nat_lt (get_or (map plain_rank ranks) t 0) (get_or (map plain_rank ranks) s 0)) (row_at m s c) (states_of m) row.in_range
    (λ t l.
    before-is (plain_rank (rank_at ranks s)) (rank_at ranks t) ∙ rw (
      mark-is ranks t (omega (arith, l, count)),
      plain-is ranks t
          (omega (arith, l, count)),
      plain-is ranks s (omega (arith, h, count)),
    ) refl)

-- a choice that is one of some, and has a successor of a rank below that of its state
abbrev pub can_lower : Mdp → (ℕ → ℕ → Bool) → List (Option ℕ) → ℕ → ℕ → Bool
can_lower m may ranks s c = may s c && can_enter (λ t. is_before (plain_rank (rank_at ranks s)) (rank_at ranks t)) (row_at m s c)

-- where each step is one of these choices, the least choices are found by the ranks
module _ (m : Mdp) (ok : IsMdp m) (may : ℕ → ℕ → Bool) (targets : List Bool) (step : (ℕ → Bool) → ℕ → Bool) (ranks : List (Option ℕ)) (a : AreRanks step (marked targets) (states_of m) ranks)
    (way : (set : ℕ → Bool) (s : ℕ) → s < states_of m → step set s ≡ true
    → (c : ℕ) × (c < length (choices_at m s)) × (may s c ≡ true) × (can_enter set (row_at m s c) ≡ true))
    (test : ℕ → ℕ → Bool) (same : (s c : ℕ) → s < states_of m → c < length (choices_at m s) → can_lower m may ranks s c ≡ test s c) where
  here : (s : ℕ) → s < states_of m → s < length ranks
  here s h = omega (arith, a.count)

  -- a step from the ranks below q leads below q + 1
  by-step : (s q : ℕ) → s < states_of m → rank_at ranks s ≡ Some (suc q) → step (reached step (marked targets) q) s ≡ true
      → (c : ℕ) × (c < length (choices_at m s)) × (can_lower m may ranks s c ≡ true)
  by-step s q h e stepped =
      let w = way (reached step (marked targets) q) s h stepped in
      let row = ok.row s w.0 h w.1 in
      let z = enters-at (reached step (marked targets) q) (row_at m s w.0) (states_of m) row.in_range w.3 in
      let r = rank_of q (rank_at ranks z.0) (a.least q z.0 z.1 ∙ z.3) in (
        w.0,
        w.1,
        ap (λ b. b && can_enter (λ t. is_before (plain_rank (rank_at ranks s)) (rank_at ranks t)) (row_at m s w.0)) w.2
            ∙ enters-by (λ t. is_before (plain_rank (rank_at ranks s)) (rank_at ranks t)) (row_at m s w.0) z.0 z.2 (rw (e, r.1) (lt-ltb r.0 (suc q) (omega (arith, r.2)))),
      )

  -- a marked state that is no target has such a choice
  some-falls : (s r : ℕ) → s < states_of m → rank_at ranks s ≡ Some r → marked targets s ≡ false → (c : ℕ) × (c < length (choices_at m s)) × (can_lower m may ranks s c ≡ true)
  unfolding reached
  some-falls s zero h e not_target = absurd (false≢true (sym not_target ∙ sym (a.least 0 s h) ∙ at_most-some 0 0 (rank_at ranks s) e (omega arith)))
  some-falls s (suc q) h e not_target = elim (cases_Bool (reached step (marked targets) q s)) [
    | inl before ↦
        (let w = rank_of q (rank_at ranks s) (a.least q s h ∙ before) in
        let k : suc q ≡ w.0 = some-same (suc q) w.0 (rank_at ranks s) e w.1 in absurd (omega (arith, k, w.2)))
    | inr new ↦
        by-step s q h e
        (sym (ap (λ b. b || step (reached step (marked targets) q) s) new) ∙ sym (a.least (suc q) s h) ∙ at_most-some (suc q) (suc q) (rank_at ranks s) e (omega arith))
  ]

  -- a state of rank 0 has none
  none-falls : (s c : ℕ) → plain_rank (rank_at ranks s) ≡ 0 → can_lower m may ranks s c ≡ false
  none-falls s c e =
      ap (λ b. may s c && b) (enters-never (row_at m s c) (λ t. is_before (plain_rank (rank_at ranks s)) (rank_at ranks t))
      (λ t. ap (λ r. is_before r (rank_at ranks t)) e ∙ before-zero (rank_at ranks t)))
      ∙ and-false (may s c)

  target-zero : (s : ℕ) → s < states_of m → marked targets s ≡ true → plain_rank (rank_at ranks s) ≡ 0
  unfolding reached
  target-zero s h e = let w = rank_of 0 (rank_at ranks s) (a.least 0 s h ∙ e) in ap plain_rank w.1 ∙ omega (arith, w.2)

  pub least_choices : (choices : List ℕ) → choices ≡ first_passing m (can_lower m may ranks) → AreLeast m targets (map is_some ranks) test choices
  least_choices choices is =
      let count = firsts_count m (can_lower m may ranks) choices is in
      let first = firsts m (can_lower m may ranks) choices is in
      let in_range : (s : ℕ) → s < states_of m → get_or choices s 0 < length (choices_at m s) = λ s h. elim (case-any (can_lower m may ranks s) (length (choices_at m s))) [
        | inl w ↦ (let l = IsFirst.least (first s h) w.0 w.1 w.2 in omega (arith, l.1, w.1))
        | inr none ↦ (let z = IsFirst.none (first s h) none in let k = ok.choice s h in omega (arith, z, k))
      ] in
      record {
        count = count;
        in_range = in_range;
        passes = λ s h e not_target.
            (let r = has_rank (rank_at ranks s) (sym (mark-is ranks s (here s h)) ∙ e) in
            let w = some-falls s r.0 h r.1 not_target in
            let l = IsFirst.least (first s h) w.0 w.1 w.2 in
            sym (same s (get_or choices s 0) h (in_range s h)) ∙ l.0);
        least = λ s c h e k. (let l = IsFirst.least (first s h) c k (same s c h k ∙ e) in l.1);
        zero = λ s h e. IsFirst.none (first s h) (λ d k. none-falls s d (elim e [
          | inl unmarked ↦ ap plain_rank (no_rank (rank_at ranks s) (sym (mark-is ranks s (here s h)) ∙ unmarked))
          | inr target ↦ target-zero s h target
        ]));
      }
