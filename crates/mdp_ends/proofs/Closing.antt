-- A set of states that is closed under its chosen choices holds an end component.
use Rattle.std.proofs.{Common.{◌≡◌, inl, inr, ℕ, ◌<◌, ◌≤◌, Bool, true, length, sym, ◌∙◌}, lemmas.Bool.{false≢true}}
use Rattle.mdp_spec.specs.{Mdp.{Mdp, states_of, choices_at, row_at}, Row.{IsMdp}}
use Rattle.mdp_graph.specs.Sets.{stays_in}
use Rattle.mdp_ends.specs.{Walks.{chosen_step, comes_to, Reaches}, Ends.{IsEnd}}
use Rattle.mdp_ends.proofs.Walking.{stays-by, step-has, step-by, here, one_more, target-below, and_then, stays_along}
use Rattle.mdp_ends.proofs.Saturating.{count-same, least_below, saturated}
use Rattle.mdp_graph.proofs.Settling.{count_below}

module _ (m : Mdp) (ok : IsMdp m) (chosen : ℕ → ℕ → Bool) where
  pub chosen-rises : (p q : ℕ → Bool) → ((t : ℕ) → t < states_of m → p t ≡ true → q t ≡ true)
      → (s : ℕ) → s < states_of m → chosen_step m chosen p s ≡ true → chosen_step m chosen q s ≡ true
  chosen-rises p q more s h e =
      let w = step-has m chosen p s e in
      step-by m chosen q s w.0 w.1 w.2 w.3 w.4 (more w.1 (target-below m ok s w.0 w.1 h w.2 w.4) w.5)

  -- t is reached from s: a test
  abbrev pub reaches : ℕ → ℕ → Bool
  reaches s t = comes_to m chosen t (states_of m) s

  pub reaches_by : (s t : ℕ) → s < states_of m → Reaches m chosen s t → reaches s t ≡ true
  reaches_by s t h w = saturated (chosen_step m chosen) _ (states_of m) chosen-rises w.0 s h w.1

  module _ (set : ℕ → Bool) (x : ℕ) (hx : x < states_of m) (inset : set x ≡ true)
      (choice : (s : ℕ) → s < states_of m → set s ≡ true → (c : ℕ) × (c < length (choices_at m s)) × (chosen s c ≡ true))
      (closed : (s c : ℕ) → s < states_of m → set s ≡ true → c < length (choices_at m s) → chosen s c ≡ true → stays_in set (row_at m s c) ≡ true) where
    abbrev reached_from : ℕ → ℕ
    reached_from s = count_below (reaches s) (states_of m)

    -- a state of the set that reaches the fewest
    fewest : (s : ℕ) × (s < states_of m) × (set s ≡ true) × ((t : ℕ) → t < states_of m → set t ≡ true → reached_from s ≤ reached_from t)
    fewest = elim (least_below reached_from set (states_of m)) [
      | inl none ↦ absurd (false≢true (sym (none x hx) ∙ inset))
      | inr w ↦ w
    ]

    -- the states that it reaches are an end component
    pub bottom : (s : ℕ) × (s < states_of m) × (set s ≡ true) × IsEnd m (reaches s) chosen × ((t : ℕ) → t < states_of m → reaches s t ≡ true → set t ≡ true)
    bottom =
        let w = fewest in
        let s : ℕ = w.0 in
        let h : s < states_of m = w.1 in
        let inside : (t : ℕ) → t < states_of m → reaches s t ≡ true → set t ≡ true = λ t k e. stays_along m ok set chosen closed s t h w.2 (states_of m, e) in
        let back : (t : ℕ) → t < states_of m → reaches s t ≡ true → Reaches m chosen t s = λ t k e. (
          states_of m,
          count-same (reaches t) (reaches s) (states_of m) (λ u l f. reaches_by s u h (and_then m ok chosen s t u h (states_of m, e) (states_of m, f))) (w.3 t k (inside t k e)) s h (reaches_by s s h (here m chosen s)),
        ) in (
          s,
          h,
          w.2,
          record {
            some = (s, h, reaches_by s s h (here m chosen s));
            choice = λ t k e. choice t k (inside t k e);
            closed = λ t c k e l a.
                stays-by (reaches s) (row_at m t c)
                (λ u to. (let hu = target-below m ok t c u k l to in reaches_by s u h (and_then m ok chosen s t u h (states_of m, e) (one_more m chosen t c u u l a to (here m chosen u)))));
            joined = λ t u ht hu et eu. and_then m ok chosen t s u ht (back t ht et) (states_of m, eu);
          },
          inside,
        )
