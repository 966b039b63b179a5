-- The layers of a search for the states that meet a set whatever is chosen.
use Rattle.std.proofs.Common.{◌≡◌, inl, inr, ℕ, suc, zero, ◌+◌, ◌-◌, ◌<◌, ◌≤◌, Bool, true, false, ◌||◌, ◌&&◌, nat_le, le-leb, lt-ltb, map, List, [], ◌∷◌, length}
use Rattle.std.proofs.Common.{replicate, refl, sym, ap, subst, ◌∙◌, arith, eq-eqb, Option, Some, None, is_some, is_none}
use Rattle.std.proofs.{lemmas.Bool.{false≢true, cases_lt, cases_Bool}}
use borrow.Author.Tests.{leb-true}
use Rattle.mdp_spec.specs.{Mdp.{Mdp, Choice, no_choice, states_of, choices_at, row_at}, Row.{IsMdp}}
use Rattle.mdp_rows.specs.Preds.{is_among}
use Rattle.mdp_graph.specs.{Sets.{marked, can_enter}, Layers.{reached, rank_at, at_most, AreRanks}, Choices.{plain_rank, is_before}}
use Rattle.mdp_graph.specs.{Ranking.{given, unranked, IsGiven}, Meet.{must_step, AllFall}, NextLayer.{is_ranked}}
use Rattle.mdp_graph.proofs.{Among.{cases_rank}, RankFacts.{none_among, started, some-same, cond_some}, Reached.{rank_of, at_most-some}}
use Rattle.mdp_graph.proofs.{Passes.{has_rank, mark-is, falls-is}, RowSets.{list_all-at, list_all-same, enters-at, enters-by, enters-same}}
use Rattle.mdp_math.proofs.Booleans.{and-left, same_truth}

-- a step depends on the states below n alone
abbrev pub Respects : ((ℕ → Bool) → ℕ → Bool) → ℕ → Type 0
Respects step n = (p q : ℕ → Bool) → ((t : ℕ) → t < n → p t ≡ q t) → (s : ℕ) → s < n → step p s ≡ step q s

pub must_respects : (m : Mdp) → IsMdp m → Respects (must_step m) (states_of m)
must_respects m ok p q same s h =
    list_all-same (λ (x : Choice). can_enter p x.row) (λ (x : Choice). can_enter q x.row) (choices_at m s) no_choice
    (λ c k. (let row = ok.row s c h k in enters-same p q (row_at m s c) (states_of m) row.in_range same))

-- all states of rank at most k have their ranks, and the layer holds those of rank k + 1
pub record IsMeeting (step : (ℕ → Bool) → ℕ → Bool) (first : ℕ → Bool) (n : ℕ) (ranks : List (Option ℕ)) (layer : List ℕ) (k : ℕ) : Type 0 where
  pub count : length ranks ≡ n
  pub at : (j s : ℕ) → j ≤ k → s < n → at_most j (rank_at ranks s) ≡ reached step first j s
  pub top : (s r : ℕ) → s < n → rank_at ranks s ≡ Some r → r ≤ k
  pub met : (s : ℕ) → s < n → is_among s layer ≡ (is_none (rank_at ranks s) && step (is_ranked ranks) s)
  pub below : (s : ℕ) → is_among s layer ≡ true → s < n
  pub left : k + unranked ranks ≤ n

seen_as : (ranks : List (Option ℕ)) (layer : List ℕ) (k : ℕ) (new : List (Option ℕ)) (given_now seen : List ℕ)
    → IsGiven ranks [] new given_now seen (k + 1) → seen ≡ layer → IsGiven ranks [] new given_now layer (suc k)
seen_as ranks layer k new given_now seen g same =
    let e : k + 1 ≡ suc k = omega arith in
    subst (λ (j : ℕ). IsGiven ranks [] new given_now layer j) e (subst (λ (x : List ℕ). IsGiven ranks [] new given_now x (k + 1)) same g)

pub meeting : (step : (ℕ → Bool) → ℕ → Bool) (first : ℕ → Bool) (n : ℕ) (old ranks : List (Option ℕ)) (given_now list layer : List ℕ)
    → old ≡ replicate n None → IsGiven old [] ranks given_now list 0 → ((s : ℕ) → s < n → is_among s list ≡ first s)
    → ((s : ℕ) → s < n → is_among s layer ≡ (is_none (rank_at ranks s) && step (is_ranked ranks) s)) → ((s : ℕ) → is_among s layer ≡ true → s < n) → IsMeeting step first n ranks layer 0
unfolding reached
meeting step first n old ranks given_now list layer e g at met below =
    let l = started [] first n old [] ranks given_now list e refl g at in
    record {
      count = l.count;
      at = λ j s low h. (let z : j ≡ 0 = omega (arith, low) in
          ap (λ i. at_most i (rank_at ranks s)) z
          ∙ same_truth (at_most 0 (rank_at ranks s)) (first s)
          (λ e. (let w = rank_of 0 (rank_at ranks s) e in elim (l.from s w.0 h w.1) [ inl y ↦ y.1 | inr y ↦ absurd (omega (arith, w.2, y.5)) ]))
          (λ e. at_most-some 0 0 (rank_at ranks s) (l.first_ranked s h e) (omega arith))
          ∙ ap (λ i. reached step first i s) (sym z));
      top = l.top;
      met = met;
      below = below;
      left = (let u = l.left in omega (arith, u));
    }

low_given : (k j : ℕ) (b : Bool) (o : Option ℕ) → j < k → at_most j (given k b o) ≡ at_most j o
low_given k j true None h = elim (cases_Bool (nat_le k j)) [ inl e ↦ absurd (let l = leb-true k j e in omega (arith, l, h)) | inr e ↦ e ]
low_given k j false None h = refl
low_given k j b (Some r) h = refl

top_given : (k : ℕ) (st : Bool) (o : Option ℕ) → ((r : ℕ) → o ≡ Some r → r ≤ k) → at_most (suc k) (given (suc k) (is_none o && st) o) ≡ (is_some o || st)
top_given k true None top = le-leb (suc k) (suc k) (omega arith)
top_given k false None top = refl
top_given k st (Some r) top = let h = top r refl in le-leb r (suc k) (omega (arith, h))

pub some_at_most : (k : ℕ) (o : Option ℕ) → ((r : ℕ) → o ≡ Some r → r ≤ k) → at_most k o ≡ is_some o
some_at_most k None top = refl
some_at_most k (Some r) top = le-leb r k (top r refl)

head_among : (layer : List ℕ) → 0 < length layer → (x : ℕ) × (is_among x layer ≡ true)
head_among [] h = absurd (omega arith)
head_among (x ∷ layer) h = (x, rw (eq-eqb x x refl) refl)

among_some : (x : ℕ) (layer : List ℕ) → is_among x layer ≡ true → 0 < length layer
among_some x [] e = absurd (false≢true e)
among_some x (y ∷ layer) e = omega arith

pub none_is : (o : Option ℕ) → is_none o ≡ true → o ≡ None
none_is None e = refl
none_is (Some r) e = absurd (false≢true e)

absorbs : (a b : Bool) (o : Option ℕ) → is_some o ≡ a → (is_none o && b) ≡ false → (a || b) ≡ a
absorbs a b None e f = rw (sym e, f) refl
absorbs a b (Some r) e f = rw (sym e) refl

module _ (step : (ℕ → Bool) → ℕ → Bool) (first : ℕ → Bool) (n : ℕ) (respects : Respects step n) (ranks : List (Option ℕ)) (layer : List ℕ) (k : ℕ) (l : IsMeeting step first n ranks layer k) where
  ranked-is : (t : ℕ) → t < n → is_ranked ranks t ≡ reached step first k t
  ranked-is t h = sym (some_at_most k (rank_at ranks t) (λ r e. l.top t r h e)) ∙ l.at k t (omega arith) h

  step-is : (s : ℕ) → s < n → step (is_ranked ranks) s ≡ step (reached step first k) s
  step-is s h = respects (is_ranked ranks) (reached step first k) ranked-is s h

  -- a state of the layer has no rank yet
  unranked_one : 0 < length layer → (x : ℕ) × (x < n) × (is_among x layer ≡ true) × (rank_at ranks x ≡ None)
  unranked_one some =
      let w = head_among layer some in
      (w.0, l.below w.0 w.1, w.1, none_is (rank_at ranks w.0) (and-left (is_none (rank_at ranks w.0)) (step (is_ranked ranks) w.0) (sym (l.met w.0 (l.below w.0 w.1)) ∙ w.1)))

  module _ (new : List (Option ℕ)) (given_now : List ℕ) (g : IsGiven ranks [] new given_now layer (suc k)) where
    new-is : (s : ℕ) → s < n → rank_at new s ≡ given (suc k) (is_none (rank_at ranks s) && step (is_ranked ranks) s) (rank_at ranks s)
    new-is s h = g.at s (omega (arith, h, l.count)) ∙ ap (λ b. given (suc k) b (rank_at ranks s)) (l.met s h)

    at_more : (s : ℕ) → s < n → at_most (suc k) (rank_at new s) ≡ reached step first (suc k) s
    unfolding reached
    at_more s h =
        ap (at_most (suc k)) (new-is s h) ∙ top_given k (step (is_ranked ranks) s) (rank_at ranks s) (λ r e. l.top s r h e)
        ∙ ap (λ b. b || step (is_ranked ranks) s) (ranked-is s h) ∙ ap (λ b. reached step first k s || b) (step-is s h)

    top_more : (s r : ℕ) → s < n → rank_at new s ≡ Some r → r ≤ suc k
    top_more s r h e = elim (cases_rank (rank_at ranks s)) [
      | inl none ↦
          (let z = cond_some (is_among s layer) (suc k) r (rank_at new s) (g.at s (omega (arith, h, l.count)) ∙ ap (given (suc k) (is_among s layer)) none) e in omega (arith, z.0))
      | inr has ↦
          (let same : r ≡ has.0 = some-same r has.0 (rank_at new s) e (g.at s (omega (arith, h, l.count)) ∙ ap (given (suc k) (is_among s layer)) has.1) in
          let t = l.top s has.0 h has.1 in omega (arith, same, t))
    ]

    pub fewer_left : 0 < length layer → unranked new < unranked ranks
    fewer_left some =
        let w = unranked_one some in
        let u = among_some w.0 given_now (g.listed w.0 (omega (arith, w.1, l.count)) ∙ ap (λ o. is_none o && is_among w.0 layer) w.3 ∙ w.2) in
        let v = g.left in omega (arith, u, v)

    pub meeting_more : (next : List ℕ) → ((s : ℕ) → s < n → is_among s next ≡ (is_none (rank_at new s) && step (is_ranked new) s)) → ((s : ℕ) → is_among s next ≡ true → s < n)
        → 0 < length layer → IsMeeting step first n new next (suc k)
    meeting_more next met below some = record {
      count = g.count ∙ l.count;
      at = λ j s low h. elim (cases_lt k j) [
        | inl more ↦ (let e : j ≡ suc k = omega (arith, low, more) in rw e (at_more s h))
        | inr less ↦ ap (at_most j) (new-is s h) ∙ low_given (suc k) j (is_none (rank_at ranks s) && step (is_ranked ranks) s) (rank_at ranks s) (omega (arith, less))
            ∙ l.at j s (omega (arith, less)) h
      ];
      top = top_more;
      met = met;
      below = below;
      left = (let u = fewer_left some in let v = l.left in omega (arith, u, v));
    }

  -- where the layer is empty, no further state is reached
  module _ (none : length layer ≡ 0) where
    closed : (s : ℕ) → s < n → (reached step first k s || step (reached step first k) s) ≡ reached step first k s
    closed s h = absorbs (reached step first k s) (step (reached step first k) s) (rank_at ranks s) (ranked-is s h)
        (ap (λ b. is_none (rank_at ranks s) && b) (sym (step-is s h)) ∙ sym (l.met s h) ∙ none_among s layer none)

    settles : (d s : ℕ) → s < n → reached step first (d + k) s ≡ reached step first k s
    unfolding reached
    settles zero s h = let z : 0 + k ≡ k = omega arith in ap (λ i. reached step first i s) z
    settles (suc d) s h =
        let z : suc d + k ≡ suc (d + k) = omega arith in
        ap (λ i. reached step first i s) z ∙ ap (λ b. b || step (reached step first (d + k)) s) (settles d s h)
        ∙ ap (λ b. reached step first k s || b) (respects (reached step first (d + k)) (reached step first k) (settles d) s h) ∙ closed s h

    later : (s j : ℕ) → s < n → k < j → reached step first j s ≡ reached step first k s
    later s j h more = let w : (d : ℕ) × (j ≡ d + k) = (j - k, omega (arith, more)) in ap (λ i. reached step first i s) w.1 ∙ settles w.0 s h

    pub met_all : AreRanks step first n ranks
    met_all = record {
      count = l.count;
      least = λ j s h. elim (cases_lt k j) [
        | inl more ↦
            some_at_most j (rank_at ranks s) (λ r e. (let t = l.top s r h e in omega (arith, t, more))) ∙ ranked-is s h ∙ sym (later s j h more)
        | inr less ↦ l.at j s less h
      ];
    }

-- the same with the lists as the code lends them
pub fewer_seen : (step : (ℕ → Bool) → ℕ → Bool) (first : ℕ → Bool) (n : ℕ) (respects : Respects step n) (ranks : List (Option ℕ)) (layer : List ℕ) (k : ℕ) → IsMeeting step first n ranks layer k
    → (new : List (Option ℕ)) (given_now seen : List ℕ) → IsGiven ranks [] new given_now seen (k + 1) → seen ≡ layer → 0 < length layer → unranked new < unranked ranks
fewer_seen step first n respects ranks layer k l new given_now seen g same some =
    fewer_left step first n respects ranks layer k l new given_now (seen_as ranks layer k new given_now seen g same) some

pub meeting_seen : (step : (ℕ → Bool) → ℕ → Bool) (first : ℕ → Bool) (n : ℕ) (respects : Respects step n) (ranks : List (Option ℕ)) (layer : List ℕ) (k : ℕ) → IsMeeting step first n ranks layer k
    → (new : List (Option ℕ)) (given_now seen : List ℕ) → IsGiven ranks [] new given_now seen (k + 1) → seen ≡ layer → 0 < length layer
    → (next : List ℕ) → ((s : ℕ) → s < n → is_among s next ≡ (is_none (rank_at new s) && step (is_ranked new) s)) → ((s : ℕ) → is_among s next ≡ true → s < n)
    → IsMeeting step first n new next (k + 1)
meeting_seen step first n respects ranks layer k l new given_now seen g same some next met below =
    let more : IsMeeting step first n new next (suc k) = meeting_more step first n respects ranks layer k l new given_now
    (seen_as ranks layer k new given_now seen g same) next met below some in
    let e : suc k ≡ k + 1 = omega arith in
    subst (λ (j : ℕ). IsMeeting step first n new next j) e more

-- where a marked state has its rank from
pub step_below : (step : (ℕ → Bool) → ℕ → Bool) (first : ℕ → Bool) (n : ℕ) (ranks : List (Option ℕ))
    → AreRanks step first n ranks → (s r : ℕ) → s < n → rank_at ranks s ≡ Some r → first s ≡ false
    → (q : ℕ) × (r ≡ suc q) × (step (reached step first q) s ≡ true)
unfolding reached
step_below step first n ranks a s zero h e not_first = absurd (false≢true (sym not_first ∙ sym (a.least 0 s h) ∙ at_most-some 0 0 (rank_at ranks s) e (omega arith)))
step_below step first n ranks a s (suc q) h e not_first = elim (cases_Bool (reached step first q s)) [
  | inl before ↦
      (let w = rank_of q (rank_at ranks s) (a.least q s h ∙ before) in
      let k : suc q ≡ w.0 = some-same (suc q) w.0 (rank_at ranks s) e w.1 in absurd (omega (arith, k, w.2)))
  | inr new ↦ (q, refl, sym (ap (λ b. b || step (reached step first q) s) new) ∙ sym (a.least (suc q) s h) ∙ at_most-some (suc q) (suc q) (rank_at ranks s) e (omega arith))
]

pub all_fall : (m : Mdp) → IsMdp m → (target : List Bool) (ranks : List (Option ℕ)) → AreRanks (must_step m) (marked target) (states_of m) ranks
    → AllFall m target (map is_some ranks) (map plain_rank ranks)
all_fall m ok target ranks a s c h e not_target k =
    let n = states_of m in
    let r = has_rank (rank_at ranks s) (sym (mark-is ranks s (omega (arith, h, a.count))) ∙ e) in
    let w = step_below (must_step m) (marked target) n ranks a s r.0 h r.1 not_target in
    let row = ok.row s c h k in
    let enters = list_all-at (λ (x : Choice). can_enter (reached (must_step m) (marked target) w.0) x.row) (choices_at m s) no_choice w.2 c k in
    let z = enters-at (reached (must_step m) (marked target) w.0) (row_at m s c) n row.in_range enters in
    let q = rank_of w.0 (rank_at ranks z.0) (a.least w.0 z.0 z.1 ∙ z.3) in
    sym (falls-is m ok ranks a.count s c h k) ∙ enters-by (λ t. is_before (plain_rank (rank_at ranks s)) (rank_at ranks t)) (row_at m s c) z.0 z.2
    (ap (λ o. is_before (plain_rank o) (rank_at ranks z.0)) r.1 ∙ ap (is_before r.0) q.1 ∙ lt-ltb q.0 r.0 (omega (arith, q.2, w.1)))
