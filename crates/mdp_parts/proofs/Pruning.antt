-- The choices that lead from outside into a set that no allowed choice leaves are forbidden, one after the other.
use Rattle.std.proofs.Common.{◌≡◌, ◌⊎◌, inl, inr, ℕ, ◌+◌, ◌<◌, ◌≤◌, Bool, true, false, ◌&&◌, ◌==◌, List, [], length, map, get_or, set, refl, sym, ap, ◌∙◌, arith}
use Rattle.std.proofs.lemmas.Bool.{false≢true, cases_Bool, cases_eq, eq-eqb, and_parts}
use Rattle.std.specs.List.{range_with_len}
use Rattle.mdp_math.proofs.Booleans.{and-both, and-false}
use Rattle.mdp_spec.specs.{Mdp.{Mdp, states_of, choices_at, row_at}, Row.{IsMdp}}
use Rattle.mdp_rows.specs.{declared.preds.Pred.{Pred}, Preds.{leads_to, preds_to}}
use Rattle.mdp_graph.specs.Waiting.{is_one_of}
use Rattle.mdp_graph.proofs.{PredLists.{led-in, list-is}, RowSets.{list_any-by}}
use Rattle.mdp_ends.specs.{Ends.{IsEnd}, Rounds.{keeps_part, KeepsEnds}}
use Rattle.mdp_ends.proofs.{Existing.{total_below, total-less}, Walking.{stays-at, walk_to}}
use Rattle.mdp_parts.specs.{declared.losing.Seed.{Seed}, Allowed.{allowed_at, AreChoices}, Losing.{IsPruned, AreLosing}, Region.{IsClosed}, Round.{IsRound}}
use Rattle.mdp_parts.proofs.Forbidding.{forbidden_here, forbidden_there, forbidden_else, forbidden_sizes}

module _ (m : Mdp) where
  pub pruned_both : (a b c : List (List Bool)) → IsPruned m a b → IsPruned m b c → IsPruned m a c
  pruned_both a b c p q = record { sizes = q.sizes; fewer = λ s d h l e. p.fewer s d h l (q.fewer s d h l e); keeps = λ k. q.keeps (p.keeps k) }

  still_false : (old new : List (List Bool)) → IsPruned m old new → (s c : ℕ) → s < states_of m → c < length (choices_at m s) → allowed_at old s c ≡ false → allowed_at new s c ≡ false
  still_false old new p s c h l out = elim (cases_Bool (allowed_at new s c)) [
    | inr e ↦ e
    | inl is ↦ absurd (false≢true (sym out ∙ p.fewer s c h l is))
  ]

  pub pruned_none : (a : List (List Bool)) → AreChoices m a → IsPruned m a a
  pruned_none a sizes = record { sizes = sizes; fewer = λ s d h l e. e; keeps = λ k. k }

  -- ---- sets that no allowed choice leaves

  pub closed_kept : (old new : List (List Bool)) (set : ℕ → Bool) → IsPruned m old new → IsClosed m old set → IsClosed m new set
  closed_kept old new set p a s h is c l e = a s h is c l (p.fewer s c h l e)

  -- no end component has a choice that leads into one from outside
  pub closed_apart : IsMdp m → (lists : List (List Bool)) (set : ℕ → Bool) → IsClosed m lists set → KeepsEnds m (allowed_at lists)
      → (states : ℕ → Bool) (chosen : ℕ → ℕ → Bool) → IsEnd m states chosen → (s c t : ℕ) → s < states_of m → states s ≡ true
      → c < length (choices_at m s) → chosen s c ≡ true
      → leads_to t (row_at m s c) ≡ true → t < states_of m → set t ≡ true → set s ≡ true
  closed_apart ok lists set closed keeps states chosen b s c t hs is hc e to ht inside =
      let there : states t ≡ true = stays-at states (row_at m s c) t (b.closed s c hs is hc e) to in
      walk_to m ok chosen s (λ x. states x ≡ true → set x ≡ true → set s ≡ true) (λ _ i. i)
      (λ x d y hx l f on hy way known in_states in_set.
      known (stays-at states (row_at m x d) y (b.closed x d hx in_states l f) on)
      (stays-at set (row_at m x d) y (closed x hx in_set d l (keeps states chosen b x d hx in_states l f)) on))
      t ht (b.joined t s ht hs there is) there inside

  -- ---- a choice is forbidden

  module _ (ok : IsMdp m) (lists : List (List Bool)) (a : AreChoices m lists) (set_in : ℕ → Bool) (closed : IsClosed m lists set_in)
      (s c t : ℕ) (hs : s < states_of m)
      (hc : c < length (choices_at m s)) (to : leads_to t (row_at m s c) ≡ true) (ht : t < states_of m)
      (inside : set_in t ≡ true) (outside : set_in s ≡ false) where
    same_place : (x d : ℕ) → x ≡ s → d ≡ c → allowed_at (set lists s (set (get_or lists s []) c false)) x d ≡ false
    same_place x d same it =
        ap (λ y. allowed_at (set lists s (set (get_or lists s []) c false)) y d) same ∙ ap (allowed_at (set lists s (set (get_or lists s []) c false)) s) it ∙ forbidden_here m lists a s c hs hc

    other_place : (x d : ℕ) → (x ≡ s → ⊥) ⊎ (d ≡ c → ⊥) → allowed_at (set lists s (set (get_or lists s []) c false)) x d ≡ allowed_at lists x d
    other_place x d (inl other) = forbidden_else m lists a s c hs hc x d other
    other_place x d (inr differs) = elim (cases_eq x s) [
      | inr other ↦ forbidden_else m lists a s c hs hc x d other
      | inl same ↦
          ap (λ y. allowed_at (set lists s (set (get_or lists s []) c false)) y d) same ∙ forbidden_there m lists a s c hs hc d differs ∙ sym (ap (λ y. allowed_at lists y d) same)
    ]

    place : (x d : ℕ) → ((x ≡ s) × (d ≡ c)) ⊎ ((x ≡ s → ⊥) ⊎ (d ≡ c → ⊥))
    place x d = elim (cases_eq x s) [
      | inr other ↦ inr (inl other)
      | inl same ↦ (elim (cases_eq d c) [ inl it ↦ inl (same, it) | inr differs ↦ inr (inr differs) ])
    ]

    pub forbidden_pruned : IsPruned m lists (set lists s (set (get_or lists s []) c false))
    forbidden_pruned = record {
      sizes = forbidden_sizes m lists a s c hs hc;
      fewer = λ x d h l e. elim (place x d) [
        | inr other ↦ sym (other_place x d other) ∙ e
        | inl w ↦ absurd (false≢true (sym (same_place x d w.0 w.1) ∙ e))
      ];
      keeps = λ keeps states chosen b x d h is l e. elim (place x d) [
        | inr other ↦ other_place x d other ∙ keeps states chosen b x d h is l e
        | inl w ↦
            (let row = ap (λ y. leads_to t (row_at m y d)) w.0 ∙ ap (λ y. leads_to t (row_at m s y)) w.1 ∙ to in
            absurd (false≢true (sym outside ∙ ap set_in (sym w.0) ∙ closed_apart ok lists set_in closed keeps states chosen b x d t h is l e row ht inside)))
      ];
    }

    pub forbidden_less : allowed_at lists s c ≡ true
        → total_below m (allowed_at (set lists s (set (get_or lists s []) c false))) (states_of m) < total_below m (allowed_at lists) (states_of m)
    forbidden_less is =
        total-less m (allowed_at (set lists s (set (get_or lists s []) c false))) (allowed_at lists) (states_of m) s c (IsPruned.fewer forbidden_pruned) hs hc is (forbidden_here m lists a s c hs hc)

  -- ---- the choices that lead to a state

  pub pred_at : (preds : List (List Pred)) → preds ≡ map (preds_to m) (range_with_len 0 (states_of m)) → (t : ℕ)
      → t < states_of m → (xs : List Pred) → xs ≡ get_or preds t [] → (i : ℕ) (d : Pred) → i < length xs
      → (Pred.state (get_or xs i d) < states_of m) × (Pred.choice (get_or xs i d) < length (choices_at m (Pred.state (get_or xs i d)))) ×
      (leads_to t (row_at m (Pred.state (get_or xs i d)) (Pred.choice (get_or xs i d))) ≡ true)
  pred_at preds are t h xs e i d l =
      led-in m t (Pred.state (get_or xs i d)) (Pred.choice (get_or xs i d))
      (sym (ap (λ (ys : List Pred). is_one_of ys (Pred.state (get_or xs i d)) (Pred.choice (get_or xs i d))) (e ∙ list-is m preds are t h))
      ∙ list_any-by (λ (p : Pred). (p.state == Pred.state (get_or xs i d)) && (p.choice == Pred.choice (get_or xs i d))) xs d i l
      (and-both _ _ (eq-eqb (Pred.state (get_or xs i d)) (Pred.state (get_or xs i d)) refl) (eq-eqb (Pred.choice (get_or xs i d)) (Pred.choice (get_or xs i d)) refl)))

  -- and is one of the lists
  pub pred_within : (lists : List (List Bool)) → AreChoices m lists → (preds : List (List Pred)) → preds ≡ map (preds_to m) (range_with_len 0 (states_of m)) → (t : ℕ)
      → t < states_of m → (xs : List Pred) → xs ≡ get_or preds t [] → (i : ℕ) (d : Pred) → i < length xs
      → (Pred.state (get_or xs i d) < length lists) × (Pred.choice (get_or xs i d) < length (get_or lists (Pred.state (get_or xs i d)) []))
  pred_within lists sizes preds are t h xs e i d l =
      let w = pred_at preds are t h xs e i d l in
      let k = AreChoices.width sizes (Pred.state (get_or xs i d)) w.0 in
      (omega (arith, w.0, AreChoices.count sizes), omega (arith, w.1, k))

  -- what was forbidden so far, and the states that are lost
  pub record IsForbiddingInto (old now : List (List Bool)) (first old_lost lost : List ℕ) (seeds : List Seed) : Type 0 where
    pub pruned : IsPruned m old now
    pub losing : AreLosing m now first lost seeds
    pub less : total_below m (allowed_at now) (states_of m) + length lost ≤ total_below m (allowed_at old) (states_of m) + length old_lost

  module _ (ok : IsMdp m) (old now : List (List Bool)) (first old_lost lost : List ℕ) (seeds : List Seed) (a : IsForbiddingInto old now first old_lost lost seeds)
      (set_in : ℕ → Bool) (closed : IsClosed m old set_in) (s c t : ℕ) (hs : s < states_of m) (hc : c < length (choices_at m s)) (to : leads_to t (row_at m s c) ≡ true)
      (ht : t < states_of m) (inside : set_in t ≡ true) (outside : set_in s ≡ false) where
    pub one_pruned : IsPruned m now (set now s (set (get_or now s []) c false))
    one_pruned = forbidden_pruned ok now (IsPruned.sizes a.pruned) set_in (closed_kept old now set_in a.pruned closed) s c t hs hc to ht inside outside

    pub into_more : (new : List (List Bool)) (more_first more_lost : List ℕ) (more_seeds : List Seed) → new ≡ set now s (set (get_or now s []) c false) → allowed_at now s c ≡ true
        → AreLosing m new more_first more_lost more_seeds → length more_lost ≤ length lost + 1 → IsForbiddingInto old new more_first old_lost more_lost more_seeds
    into_more new more_first more_lost more_seeds e is l more = record {
      pruned = rw e (pruned_both old now (set now s (set (get_or now s []) c false)) a.pruned one_pruned);
      losing = l;
      less =
          (let k = forbidden_less ok now (IsPruned.sizes a.pruned) set_in (closed_kept old now set_in a.pruned closed) s c t hs hc to ht inside outside is in
          rw e (omega (arith, k, more, a.less)));
    }

  -- ---- in a round

  pub pruned_less : (parts : List ℕ) (old new after : List (List Bool)) → IsRound m parts old new true → IsPruned m new after
      → total_below m (allowed_at after) (states_of m) < total_below m (allowed_at old) (states_of m)
  pruned_less parts old new after r p =
      let w = r.some refl in
      let v = w.2 in
      let was : (s c : ℕ) → s < states_of m → c < length (choices_at m s) → allowed_at new s c ≡ true → allowed_at old s c ≡ true = λ s c h l e.
      (let q = and_parts (allowed_at old s c) (keeps_part m parts s c) (sym (r.at s c h l) ∙ e) in q.0) in
      let gone : allowed_at new w.0 v.0 ≡ false = r.at w.0 v.0 w.1 v.1 ∙ ap (λ b. allowed_at old w.0 v.0 && b) v.3 ∙ and-false (allowed_at old w.0 v.0) in
      total-less m (allowed_at after) (allowed_at old) (states_of m) w.0 v.0 (λ s c h l e. was s c h l (p.fewer s c h l e)) w.1 v.1 v.2 (still_false new after p w.0 v.0 w.1 v.1 gone)
