-- The states without a rank are the greatest avoiding set.
use Rattle.std.proofs.Common.{◌≡◌, inl, inr, ℕ, suc, zero, ◌+◌, ◌<◌, ◌≤◌, Bool, true, false, ◌||◌, ◌&&◌, List, [], ◌∷◌, length, map, get_or, refl, sym, ap, ◌∙◌, arith}
use Rattle.std.proofs.{Common.{Option, Some, None, is_some, is_none}, lemmas.Bool.{false≢true, cases_Bool}, lemmas.List.{get_or-map, length-map}}
use Rattle.std.specs.List.{list_all}
use Rattle.mdp_math.specs.Rational.{ℚ}
use Rattle.mdp_spec.specs.{Mdp.{Entry, Mdp, Choice, no_choice, states_of, choices_at, row_at}, Row.{entries, IsMdp}}
use Rattle.mdp_graph.specs.{Sets.{marked, can_enter, stays_in}, Layers.{reached, rank_at, at_most, AreRanks}, Choices.{first_passing, AreLeast}}
use Rattle.mdp_graph.specs.{Meet.{must_step}, Avoid.{IsAvoiding, IsGreatestAvoiding, keeps}, NextLayer.{is_ranked}}
use Rattle.mdp_graph.proofs.{Among.{cases_rank}, EdgeFacts.{all-as-stays}, Falls.{IsFirst, case-any, firsts, firsts_count}, RankFacts.{some-same}}
use Rattle.mdp_graph.proofs.{Reached.{at_most-some}, Meeting.{none_is, must_respects, some_at_most}}
use Rattle.mdp_graph.proofs.RowSets.{list_any-at, list_any-by, list_all-at, list_all-fails, enters-at, stays-at, stays-outside}
use Rattle.mdp_math.proofs.Booleans.{and-both, or-right_false}

-- the choice as the code tests it
pub keeps_is : (m : Mdp) (marks : List Bool) (s c : ℕ) (ts : List ℕ) (ps : List ℚ) → length ts ≡ length ps → entries ts ps ≡ row_at m s c
    → keeps m marks s c ≡ (marked marks s && list_all (marked marks) ts)
keeps_is m marks s c ts ps same e = ap (λ (row : List Entry). marked marks s && stays_in (marked marks) row) (sym e) ∙ ap (λ b. marked marks s && b) (all-as-stays (marked marks) ts ps same)

pub keeps_unmarked : (m : Mdp) (marks : List Bool) (s c : ℕ) → marked marks s ≡ false → keeps m marks s c ≡ false
keeps_unmarked m marks s c e = ap (λ b. b && stays_in (marked marks) (row_at m s c)) e

pub keeps_all : (m : Mdp) (marks : List Bool) (s c : ℕ) (ts : List ℕ) (ps : List ℚ) → length ts ≡ length ps → entries ts ps ≡ row_at m s c → marked marks s ≡ true
    → keeps m marks s c ≡ list_all (marked marks) ts
keeps_all m marks s c ts ps same e is = keeps_is m marks s c ts ps same e ∙ ap (λ b. b && list_all (marked marks) ts) is

pub without-is : (ranks : List (Option ℕ)) (s : ℕ) → s < length ranks → marked (map is_none ranks) s ≡ is_none (rank_at ranks s)
without-is ranks s h = get_or-map is_none ranks s None false h

not_some : (o : Option ℕ) → is_some o ≡ false → is_none o ≡ true
not_some None e = refl
not_some (Some r) e = absurd (false≢true (sym e))

top_of : (o : Option ℕ) (ranks : List (Option ℕ)) (k j : ℕ) → ((r : ℕ) → o ≡ Some r → r ≤ j) → ((t r : ℕ) → t < length ranks → rank_at ranks t ≡ Some r → r ≤ k)
    → k ≤ j → (t r : ℕ) → t < length (o ∷ ranks) → rank_at (o ∷ ranks) t ≡ Some r → r ≤ j
top_of o ranks k j at rest less zero r h e = at r e
top_of o ranks k j at rest less (suc t) r h e = let l = rest t r (omega arith) e in omega (arith, l, less)

-- all ranks of a list are at most a number
pub greatest_rank : (ranks : List (Option ℕ)) → (k : ℕ) × ((t r : ℕ) → t < length ranks → rank_at ranks t ≡ Some r → r ≤ k)
greatest_rank [] = (0, λ t r h e. absurd (omega arith))
greatest_rank (o ∷ ranks) = let w = greatest_rank ranks in elim (cases_rank o) [
  | inl none ↦ (w.0, top_of o ranks w.0 w.0 (λ r e. absurd (false≢true (sym (ap is_some none) ∙ ap is_some e))) w.1 (omega arith))
  | inr has ↦ (w.0 + has.0, top_of o ranks w.0 (w.0 + has.0) (λ r e. (let same : r ≡ has.0 = some-same r has.0 o e has.1 in omega (arith, same))) w.1 (omega arith))
]

module _ (m : Mdp) (ok : IsMdp m) (goals : List Bool) (ranks : List (Option ℕ)) (a : AreRanks (must_step m) (marked goals) (states_of m) ranks) where
  here : (s : ℕ) → s < states_of m → s < length ranks
  here s h = omega (arith, h, a.count)

  unranked_at : (s : ℕ) → s < states_of m → marked (map is_none ranks) s ≡ true → rank_at ranks s ≡ None
  unranked_at s h e = none_is (rank_at ranks s) (sym (without-is ranks s (here s h)) ∙ e)

  never_reached : (s k : ℕ) → s < states_of m → rank_at ranks s ≡ None → reached (must_step m) (marked goals) k s ≡ false
  never_reached s k h e = sym (a.least k s h) ∙ ap (at_most k) e

  -- a state without a rank has a choice without a successor of any rank
  no_step : (s : ℕ) → s < states_of m → rank_at ranks s ≡ None → must_step m (is_ranked ranks) s ≡ false
  unfolding reached
  no_step s h e =
      let w = greatest_rank ranks in
      let top = w.1 in
      must_respects m ok (is_ranked ranks) (reached (must_step m) (marked goals) w.0) (λ t l. sym (some_at_most w.0 (rank_at ranks t) (λ r x. top t r (here t l) x)) ∙ a.least w.0 t l) s h
      ∙ or-right_false (reached (must_step m) (marked goals) w.0 s) (must_step m (reached (must_step m) (marked goals) w.0) s) (never_reached s (suc w.0) h e)

  way_out : (s : ℕ) → s < states_of m → marked (map is_none ranks) s ≡ true → (c : ℕ) × (c < length (choices_at m s)) × (stays_in (marked (map is_none ranks)) (row_at m s c) ≡ true)
  way_out s h e =
      let w = list_all-fails (λ (x : Choice). can_enter (is_ranked ranks) x.row) (choices_at m s) no_choice (no_step s h (unranked_at s h e)) in
      let row = ok.row s w.0 h w.1 in (
        w.0,
        w.1,
        stays-outside (is_ranked ranks) (marked (map is_none ranks)) (row_at m s w.0) (states_of m) row.in_range (λ t l u. without-is ranks t (here t l) ∙ not_some (rank_at ranks t) u) w.2,
      )

  outside : (s : ℕ) → s < states_of m → marked (map is_none ranks) s ≡ true → marked goals s ≡ false
  unfolding reached
  outside s h e = never_reached s 0 h (unranked_at s h e)

  -- no state of an avoiding set is reached
  kept_out : (set : ℕ → Bool) → IsAvoiding m goals set → (k s : ℕ) → s < states_of m → reached (must_step m) (marked goals) k s ≡ true → set s ≡ true → false ≡ true
  unfolding reached
  kept_out set v zero s h e is = sym (v.outside s h is) ∙ e
  kept_out set v (suc k) s h e is = elim (cases_Bool (reached (must_step m) (marked goals) k s)) [
    | inl before ↦ kept_out set v k s h before is
    | inr new ↦
        (let w = list_any-at (λ (x : Choice). stays_in set x.row) (choices_at m s) no_choice (v.stays s h is) in
        let row = ok.row s w.0 h w.1 in
        let stepped : must_step m (reached (must_step m) (marked goals) k) s ≡ true = sym (ap (λ b. b || must_step m (reached (must_step m) (marked goals) k) s) new) ∙ e in
        let enters = list_all-at (λ (x : Choice). can_enter (reached (must_step m) (marked goals) k) x.row) (choices_at m s) no_choice stepped w.0 w.1 in
        let z = enters-at (reached (must_step m) (marked goals) k) (row_at m s w.0) (states_of m) row.in_range enters in
        kept_out set v k z.0 z.1 z.3 (stays-at set (row_at m s w.0) z.0 w.2 z.2))
  ]

  pub avoid_marks : IsGreatestAvoiding m goals (map is_none ranks)
  avoid_marks = record {
    count = length-map ranks is_none ∙ a.count;
    avoiding = record {
      outside = outside;
      stays = λ s h e. (let w = way_out s h e in list_any-by (λ (x : Choice). stays_in (marked (map is_none ranks)) x.row) (choices_at m s) no_choice w.0 w.1 w.2);
    };
    greatest = λ set v s h is. without-is ranks s (here s h) ∙ (elim (cases_rank (rank_at ranks s)) [
      | inl none ↦ ap is_none none
      | inr has ↦ absurd (false≢true (kept_out set v has.0 s h (sym (a.least has.0 s h) ∙ at_most-some has.0 has.0 (rank_at ranks s) has.1 (omega arith)) is))
    ]);
  }

  avoid_firsts : (choices : List ℕ) → length choices ≡ states_of m → ((s : ℕ) → s < states_of m → IsFirst (keeps m (map is_none ranks) s) (length (choices_at m s)) (get_or choices s 0))
      → AreLeast m goals (map is_none ranks) (keeps m (map is_none ranks)) choices
  avoid_firsts choices count first = record {
    count = count;
    in_range = λ s h. elim (case-any (keeps m (map is_none ranks) s) (length (choices_at m s))) [
      | inl w ↦ (let l = IsFirst.least (first s h) w.0 w.1 w.2 in omega (arith, l.1, w.1))
      | inr none ↦ (let z = IsFirst.none (first s h) none in let k = ok.choice s h in omega (arith, z, k))
    ];
    passes = λ s h e not_goal.
        (let w = way_out s h e in
        let l = IsFirst.least (first s h) w.0 w.1 (and-both (marked (map is_none ranks) s) (stays_in (marked (map is_none ranks)) (row_at m s w.0)) e w.2) in l.0);
    least = λ s c h e k. (let l = IsFirst.least (first s h) c k e in l.1);
    zero = λ s h e. IsFirst.none (first s h) (λ d k. keeps_unmarked m (map is_none ranks) s d (elim e [
      | inl unmarked ↦ unmarked
      | inr goal ↦ (elim (cases_Bool (marked (map is_none ranks) s)) [
        | inl is ↦ absurd (false≢true (sym (outside s h is) ∙ goal))
        | inr unmarked ↦ unmarked
      ])
    ]));
  }

  pub avoid_choices : (marks : List Bool) → marks ≡ map is_none ranks → (choices : List ℕ) → choices ≡ first_passing m (keeps m marks)
      → AreLeast m goals (map is_none ranks) (keeps m (map is_none ranks)) choices
  avoid_choices marks e choices seen =
      let is : choices ≡ first_passing m (keeps m (map is_none ranks)) = seen ∙ ap (λ (x : List Bool). first_passing m (keeps m x)) e in
      avoid_firsts choices (firsts_count m (keeps m (map is_none ranks)) choices is) (firsts m (keeps m (map is_none ranks)) choices is)
