-- The rounds, each from the states that fell in the one before.
use Rattle.std.proofs.Common.{◌≡◌, inl, inr, ℕ, zero, suc, ◌+◌, ◌<◌, ◌≤◌, ◌↔◌, Bool, true, false, ◌||◌, ◌&&◌}
use Rattle.std.proofs.Common.{◌==◌, not, nat_lt, lt-ltb, le-ltb, eq-eqb, cond, List, [], ◌∷◌, ◌++◌, length, map, get_or}
use Rattle.std.proofs.Common.{replicate, refl, sym, ap, ◌∙◌, arith, Option, Some, None, is_some, is_none}
use Rattle.std.proofs.{lemmas.Bool.{false≢true, cases_lt, cases_Bool, cases_eq, ne_eqb, eqb-true}, lemmas.List.{get_or-replicate, length-replicate, length-map}}
use Rattle.std.proofs.lemmas.List.Folds.{sum_by-replicate}
use Rattle.std.specs.List.{range_with_len}
use Rattle.mdp_spec.specs.{Mdp.{Mdp, states_of}, Row.{IsMdp}}
use Rattle.mdp_rows.specs.{Preds.{is_among}, declared.preds.Pred.{Pred}}
use Rattle.mdp_graph.specs.{declared.forest.Way.{Way}, Sets.{marked}, Layers.{rank_at}, Choices.{plain_rank}, Ranking.{given, unranked, IsGiven}}
use Rattle.mdp_graph.specs.{Rounds.{left_after, CanStay, AreRounds}, Waiting.{is_one_of, AreWaiting, leading_to}}
use Rattle.mdp_graph.specs.Forest.{way_at, attached, IsUncut, IsForest, IsAttaching, AreFrom, AreKnown, all_preds}
use Rattle.mdp_graph.specs.{Falling.{left_by, left_at, IsFalling, IsRound}, NextLayer.{is_ranked}}
use Rattle.mdp_graph.proofs.{Cutting.{led-none}, Growing.{nothing, attached_stays, stays_attached}, NextMet.{in_preds}, PredLists.{list-is, led-in, led-back}}
use Rattle.mdp_graph.proofs.{Passes.{plain-is}, Pruning.{cases_way, or-cases, or-left, or-right, some-in, way-in}, RankFacts.{some-same}}
use Rattle.mdp_graph.proofs.{LeftAfter.{stays-alike}, StepsInside.{reached-more}}
use Rattle.mdp_math.proofs.Booleans.{or-false, and-right, and-both, same_truth, not_true, not-not}

among-range : (s a n : ℕ) → a ≤ s → s < a + n → is_among s (range_with_len a n) ≡ true
among-range s a zero l h = absurd (omega (arith, l, h))
among-range s a (suc n) l h = elim (cases_eq a s) [
  | inl same ↦ or-left (a == s) (is_among s (range_with_len (a + 1) n)) (eq-eqb a s same)
  | inr other ↦ or-right (a == s) (is_among s (range_with_len (a + 1) n)) (among-range s (a + 1) n (omega (arith, l, other)) (omega (arith, h)))
]

pub range-below : (s a n : ℕ) → is_among s (range_with_len a n) ≡ true → s < a + n
range-below s a zero e = absurd (false≢true e)
range-below s a (suc n) e = elim (or-cases (a == s) (is_among s (range_with_len (a + 1) n)) e) [
  | inl here ↦ (let same = eqb-true a s here in omega (arith, same))
  | inr later ↦ (let h = range-below s (a + 1) n later in omega (arith, h))
]

pub range-more : (a n j : ℕ) → a + n ≡ j → range_with_len a (n + 1) ≡ range_with_len a n ++ j ∷ []
range-more a zero j e = let z : a ≡ j = omega (arith, e) in ap (λ (x : ℕ). x ∷ []) z
range-more a (suc n) j e = let z : suc n + 1 ≡ suc (n + 1) = omega arith in ap (range_with_len a) z ∙ ap (λ (l : List ℕ). a ∷ l) (range-more (a + 1) n j (omega (arith, e)))

-- ---- the lists of choices, and the forest without ways

pub preds-from : (m : Mdp) (preds : List (List Pred)) → preds ≡ all_preds m → (n : ℕ) → n ≡ states_of m → (t : ℕ) → t < length preds → AreFrom n (get_or preds t [])
preds-from m preds are n e t h s c x =
    let all = in_preds m preds are in
    let l = led-in m t s c (ap (λ (y : List Pred). is_one_of y s c) (sym (list-is m preds are t (omega (arith, h, all)))) ∙ x) in
    omega (arith, l.0, e)

pub known_ways : (m : Mdp) (preds : List (List Pred)) → preds ≡ all_preds m → (goals : List Bool) (lists : List (List Bool)) (ways : List (Option Way)) → IsForest m goals lists ways nothing
    → AreKnown preds ways
known_ways m preds are goals lists ways f s w e =
    let p = f.step s w e in
    let h = way-in ways s w e in
    ap (λ (y : List Pred). is_one_of y s w.choice) (list-is m preds are w.target p.target) ∙ led-back m w.target s w.choice (omega (arith, h, f.count)) p.choice p.leads

no-way : (n s : ℕ) → way_at (replicate n None) s ≡ None
no-way zero s = refl
no-way (suc n) zero = refl
no-way (suc n) (suc s) = no-way n s

pub no_forest : (m : Mdp) (goals : List Bool) (lists : List (List Bool)) (ways : List (Option Way)) (n : ℕ) → ways ≡ replicate n None → n ≡ states_of m → IsForest m goals lists ways nothing
no_forest m goals lists ways n e en =
    let none : Option Way = None in
    let not_any : (s : ℕ) (w : Way) → way_at ways s ≡ Some w → ⊥ = λ s w q. false≢true (ap is_some (sym (ap (λ (x : List (Option Way)). way_at x s) e ∙ no-way n s) ∙ q)) in
    record {
      count = ap length e ∙ length-replicate n none ∙ en;
      step = λ s w q. absurd (not_any s w q);
      over = λ s w q. absurd (not_any s w q);
      height = λ s. 0;
      lower = λ s w q. absurd (not_any s w q);
    }

all-unranked : (n : ℕ) → unranked (replicate n None) ≡ n
all-unranked n = let none : Option ℕ = None in let one : cond {A = ℕ} (is_none none) 1 0 ≡ 1 = refl in omega (arith, sum_by-replicate (λ (o : Option ℕ). cond (is_none o) 1 0) n none, one)

-- before the first round
pub first_round : (m : Mdp) (ok : IsMdp m) (goals : List Bool) (rounds : List (Option ℕ)) (lists : List (List Bool)) (old ways : List (Option Way)) (broken fell : List ℕ)
    → rounds ≡ replicate (states_of m) None → AreWaiting m (is_ranked rounds) lists → broken ≡ range_with_len 0 (states_of m) → IsAttaching m goals lists old ways broken fell
    → IsRound m goals rounds 0 lists ways fell
first_round m ok goals rounds lists old ways broken fell e waiting eb a =
    let n = states_of m in
    let none : Option ℕ = None in
    let at : (s : ℕ) → s < n → rank_at rounds s ≡ None = λ s h. ap (λ (x : List (Option ℕ)). rank_at x s) e ∙ get_or-replicate n s none none h in
    let free : (s : ℕ) → s < n → is_ranked rounds s ≡ false = λ s h. ap is_some (at s h) in
    let all : (s : ℕ) → s < n → is_among s broken ≡ true = λ s h. ap (is_among s) eb ∙ among-range s 0 n (omega arith) (omega (arith, h)) in
    let below : (s : ℕ) → is_among s fell ≡ true → s < n = λ s x. (let h = range-below s 0 n (sym (ap (is_among s) eb) ∙ a.below s x) in omega (arith, h)) in
    record {
      falling = record {
        count = ap length e ∙ length-replicate n none;
        range = λ s r h q. absurd (false≢true (ap is_some (sym (at s h) ∙ q)));
        each = λ i s l h. absurd (omega arith);
        small = (let u = ap unranked e ∙ all-unranked n in omega (arith, u));
      };
      waiting = waiting;
      forest = a.forest;
      stays = λ s h. (
        attached_stays m ok goals lists ways (is_ranked rounds) (left_at rounds 0) waiting a.forest (λ t l f. ap (left_by 0) (at t l)) s h,
        stays_attached m ok goals lists ways (is_ranked rounds) (left_at rounds 0) waiting broken a.closed (λ t l f. free t l) (λ t l f g. all t l) s h,
      );
      out = λ s h. ap (λ b. b || is_among s fell) (free s h) ∙ a.fell_is s h ∙ ap (λ b. b && not (attached goals ways s)) (all s h);
      below = below;
      fresh = λ s x. free s (below s x);
    }

-- ---- one more round

left-given : (k j : ℕ) (b : Bool) (o : Option ℕ) → j ≤ k → left_by j (given (k + 1) b o) ≡ left_by j o
left-given k j b (Some r) h = refl
left-given k j true None h = lt-ltb j (k + 1) (omega (arith, h))
left-given k j false None h = refl

left-last : (k : ℕ) (b : Bool) (o : Option ℕ) → ((r : ℕ) → o ≡ Some r → r ≤ k) → left_by (k + 1) (given (k + 1) b o) ≡ not (is_some o || b)
left-last k b (Some r) top = le-ltb (k + 1) r (let l = top r refl in omega (arith, l))
left-last k true None top = le-ltb (k + 1) (k + 1) (omega arith)
left-last k false None top = refl

given-range : (k : ℕ) (b : Bool) (o : Option ℕ) (r : ℕ) → ((q : ℕ) → o ≡ Some q → (1 ≤ q) × (q ≤ k)) → given (k + 1) b o ≡ Some r → (1 ≤ r) × (r ≤ k + 1)
given-range k b (Some q) r top e =
    let same : q ≡ r = some-same q r (Some q) refl e in
    let t = top q refl in
    (omega (arith, t.0, same), omega (arith, t.1, same))
given-range k true None r top e = let same : k + 1 ≡ r = some-same (k + 1) r (Some (k + 1)) refl e in (omega (arith, same), omega (arith, same))
given-range k false None r top e = absurd (false≢true (ap is_some e))

given-some : (k : ℕ) (b : Bool) (o : Option ℕ) → is_some (given k b o) ≡ (is_some o || b)
given-some k b (Some r) = refl
given-some k true None = refl
given-some k false None = refl

has-one : (x : ℕ) (xs : List ℕ) → is_among x xs ≡ true → 0 < length xs
has-one x [] e = absurd (false≢true e)
has-one x (y ∷ xs) e = omega arith

first-one : (xs : List ℕ) → 0 < length xs → (x : ℕ) × (is_among x xs ≡ true)
first-one [] h = absurd (omega arith)
first-one (x ∷ xs) h = (x, or-left (x == x) (is_among x xs) (eq-eqb x x refl))

both-none : (a b : Bool) → (a || b) ≡ false → (a ≡ false) × (b ≡ false)
both-none true b e = absurd (false≢true (sym e))
both-none false b e = (refl, e)

unranked-none : (o : Option ℕ) → is_some o ≡ false → is_none o ≡ true
unranked-none None e = refl
unranked-none (Some r) e = absurd (false≢true (sym e))

left-of : (k : ℕ) (o : Option ℕ) → is_some o ≡ false → left_by k o ≡ true
left-of k None e = refl
left-of k (Some r) e = absurd (false≢true (sym e))

module _ (m : Mdp) (ok : IsMdp m) (goals : List Bool) (rounds : List (Option ℕ)) (k : ℕ) (lists : List (List Bool)) (ways : List (Option Way)) (fell : List ℕ)
    (r : IsRound m goals rounds k lists ways fell) (new : List (Option ℕ)) (noted : List ℕ) (g : IsGiven rounds [] new noted fell (k + 1)) where
  at : (s : ℕ) → s < states_of m → rank_at new s ≡ given (k + 1) (is_among s fell) (rank_at rounds s)
  at s h = g.at s (let f = r.falling in let c = f.count in omega (arith, h, c))

  alike : (j s : ℕ) → j ≤ k → s < states_of m → left_at new j s ≡ left_at rounds j s
  alike j s l h = ap (left_by j) (at s h) ∙ left-given k j (is_among s fell) (rank_at rounds s) l

  last : (s : ℕ) → s < states_of m → left_at new (k + 1) s ≡ attached goals ways s
  last s h =
      ap (left_by (k + 1)) (at s h) ∙ left-last k (is_among s fell) (rank_at rounds s) (λ q e. (let f = r.falling in let t = f.range s q h e in t.1))
      ∙ ap not (r.out s h) ∙ not-not (attached goals ways s)

  ranked : (s : ℕ) → s < states_of m → is_ranked new s ≡ not (attached goals ways s)
  ranked s h = ap is_some (at s h) ∙ given-some (k + 1) (is_among s fell) (rank_at rounds s) ∙ r.out s h

  listed : (s : ℕ) → s < states_of m → is_among s noted ≡ is_among s fell
  listed s h =
      g.listed s (let f = r.falling in let c = f.count in omega (arith, h, c))
      ∙ same_truth (is_none (rank_at rounds s) && is_among s fell) (is_among s fell)
      (and-right (is_none (rank_at rounds s)) (is_among s fell)) (λ e. and-both (is_none (rank_at rounds s)) (is_among s fell) (unranked-none (rank_at rounds s) (r.fresh s e)) e)

  noted_fell : (s : ℕ) → is_among s noted ≡ true → is_among s fell ≡ true
  noted_fell s e = elim (g.below s e) [
    | inl x ↦ absurd (false≢true x)
    | inr h ↦ (let f = r.falling in let c = f.count in sym (listed s (omega (arith, h, c))) ∙ e)
  ]

  -- the choices that lead to the states that fell are those that lead to the states whose round was noted
  pub uncut_noted : (preds : List (List Pred)) (cut : List (Option Way)) (broken : List ℕ) → IsUncut ways cut (leading_to preds fell) broken → IsUncut ways cut (leading_to preds noted) broken
  uncut_noted preds cut broken u = record {
    count = u.count;
    kept = λ s w e. (let k = u.kept s w e in (k.0, led-none preds noted fell noted_fell s w.choice k.1));
    gone = u.gone;
    over = u.over;
    below = u.below;
  }

  pub fewer : 0 < length fell → unranked new < unranked rounds
  fewer some =
      let x = first-one fell some in
      let h = r.below x.0 x.1 in
      let l = has-one x.0 noted (listed x.0 h ∙ x.1) in
      let left = g.left in
      omega (arith, left, l)

  falling_more : 0 < length fell → IsFalling m goals new (k + 1)
  falling_more some =
      let f = r.falling in
      record {
        count = g.count ∙ f.count;
        range = λ s q h e. given-range k (is_among s fell) (rank_at rounds s) q (λ p x. f.range s p h x) (sym (at s h) ∙ e);
        each = λ i s l h. elim (cases_lt i k) [
          | inl before ↦
              (let w = f.each i s before h in (
                (λ q. stays-alike m ok goals (left_at rounds i) (left_at new i) (λ t u. sym (alike i t (omega (arith, before)) u)) s h (w.0 (sym (alike (i + 1) s (omega (arith, before)) h) ∙ q))),
                (λ q. alike (i + 1) s (omega (arith, before)) h ∙ w.1 (stays-alike m ok goals (left_at new i) (left_at rounds i) (λ t u. alike i t (omega (arith, before)) u) s h q)),
              ))
          | inr past ↦
              (let w = r.stays s h in
              let is_k : i ≡ k = omega (arith, l, past) in
              rw is_k (
                (λ q. stays-alike m ok goals (left_at rounds k) (left_at new k) (λ t u. sym (alike k t (omega arith) u)) s h (w.0 (sym (last s h) ∙ q))),
                (λ q. last s h ∙ w.1 (stays-alike m ok goals (left_at new k) (left_at rounds k) (λ t u. alike k t (omega arith) u) s h q)),
              ))
        ];
        small = (let l = fewer some in let u = f.small in omega (arith, l, u));
      }

  pub next_round : 0 < length fell → (after : List (List Bool)) (cut more : List (Option Way)) (pairs : List Pred) (broken next : List ℕ)
      → AreWaiting m (is_ranked new) after → IsUncut ways cut pairs broken → IsAttaching m goals after cut more broken next → IsRound m goals new (k + 1) after more next
  next_round some after cut more pairs broken next w u a =
      let n = states_of m in
      let falling = falling_more some in
      let lower : (t : ℕ) → t < n → left_at new (k + 1) t ≡ true → left_at rounds k t ≡ true = λ t h e.
      (let on : attached goals ways t ≡ true = sym (last t h) ∙ e in
      left-of k (rank_at rounds t) (both-none (is_ranked rounds t) (is_among t fell) (r.out t h ∙ ap not on)).0) in
      let was : (s : ℕ) → s < n → CanStay m goals (left_at new (k + 1)) s → attached goals ways s ≡ true = λ s h z.
      (let back = r.stays s h in back.1 (z.0, reached-more m ok (left_at new (k + 1)) (left_at rounds k) (marked goals) lower z.0 s h z.1)) in
      let broke : (s : ℕ) → attached goals ways s ≡ true → attached goals more s ≡ false → is_among s broken ≡ true = λ s on off.
      elim (or-cases (marked goals s) (is_some (way_at ways s)) on) [
        | inl goal ↦ absurd (false≢true (sym off ∙ or-left (marked goals s) (is_some (way_at more s)) goal))
        | inr had ↦ (elim (cases_way (way_at cut s)) [
          | inl none ↦ u.gone s had none
          | inr v ↦ absurd (false≢true (sym off ∙ a.kept s (or-right (marked goals s) (is_some (way_at cut s)) (ap is_some v.1))))
        ])
      ] in
      let stays : (s : ℕ) → s < n → (attached goals more s ≡ true) ↔ CanStay m goals (left_at new (k + 1)) s = λ s h. (
        attached_stays m ok goals after more (is_ranked new) (left_at new (k + 1)) w a.forest (λ t l f. left-of (k + 1) (rank_at new t) f) s h,
        stays_attached m ok goals after more (is_ranked new) (left_at new (k + 1)) w broken a.closed
            (λ t l f. ranked t l ∙ ap not (sym (last t l) ∙ f)) (λ t l off z. broke t (was t l z) off) s h,
      ) in
      let had : (s : ℕ) → is_among s broken ≡ true → attached goals ways s ≡ true = λ s e. or-right (marked goals s) (is_some (way_at ways s)) (u.below s e) in
      let below : (s : ℕ) → is_among s next ≡ true → s < n = λ s e. (let h = some-in ways s (u.below s (a.below s e)) in let f = r.forest in let c = f.count in omega (arith, h, c)) in
      record {
        falling = falling;
        waiting = w;
        forest = a.forest;
        stays = stays;
        out = λ s h. ap (λ b. is_ranked new s || b) (a.fell_is s h) ∙ same_truth (is_ranked new s || (is_among s broken && not (attached goals more s))) (not (attached goals more s))
            (λ e. elim (or-cases (is_ranked new s) (is_among s broken && not (attached goals more s)) e) [
              | inl x ↦ (elim (cases_Bool (attached goals more s)) [
                | inr off ↦ ap not off
                | inl on ↦
                    (let st = stays s h in
                    let can = was s h (st.0 on) in
                    absurd (false≢true (sym (ranked s h ∙ ap not can) ∙ x)))
              ])
              | inr x ↦ and-right (is_among s broken) (not (attached goals more s)) x
            ])
            (λ e. elim (cases_Bool (attached goals ways s)) [
              | inl on ↦
                  or-right (is_ranked new s) (is_among s broken && not (attached goals more s))
                  (and-both (is_among s broken) (not (attached goals more s)) (broke s on (not_true (attached goals more s) e)) e)
              | inr off ↦ or-left (is_ranked new s) (is_among s broken && not (attached goals more s)) (ranked s h ∙ ap not off)
            ]);
        below = below;
        fresh = λ s e. ranked s (below s e) ∙ ap not (had s (a.below s e));
      }

-- ---- after the last round

left-plain : (i : ℕ) (o : Option ℕ) → ((r : ℕ) → o ≡ Some r → 1 ≤ r) → ((plain_rank o == 0) || nat_lt i (plain_rank o)) ≡ left_by i o
left-plain i None f = refl
left-plain i (Some r) f = ap (λ b. b || nat_lt i r) (ne_eqb r 0 (λ z. absurd (let l = f r refl in omega (arith, l, z))))

left-past : (k i : ℕ) (o : Option ℕ) → ((r : ℕ) → o ≡ Some r → r ≤ k) → k ≤ i → left_by i o ≡ not (is_some o)
left-past k i None f h = refl
left-past k i (Some r) f h = le-ltb i r (let l = f r refl in omega (arith, l, h))

none-in : (s : ℕ) (xs : List ℕ) → length xs ≡ 0 → is_among s xs ≡ false
none-in s [] e = refl
none-in s (x ∷ xs) e = absurd (omega arith)

pub last_round : (m : Mdp) (ok : IsMdp m) (goals : List Bool) (rounds : List (Option ℕ)) (k : ℕ) (lists : List (List Bool)) (ways : List (Option Way)) (fell : List ℕ)
    → IsRound m goals rounds k lists ways fell → length fell ≡ 0 → AreRounds m goals (map plain_rank rounds)
last_round m ok goals rounds k lists ways fell r e =
    let n = states_of m in
    let f = r.falling in
    let c = f.count in
    let is : (i s : ℕ) → s < n → left_after (map plain_rank rounds) i s ≡ left_at rounds i s = λ i s h.
    ap (λ x. (x == 0) || nat_lt i x) (plain-is rounds s (omega (arith, h, c))) ∙ left-plain i (rank_at rounds s) (λ q x. (let t = f.range s q h x in t.0)) in
    let past : (i s : ℕ) → k ≤ i → s < n → left_at rounds i s ≡ attached goals ways s = λ i s l h.
    left-past k i (rank_at rounds s) (λ q x. (let t = f.range s q h x in t.1)) l
    ∙ ap not (sym (or-false (is_ranked rounds s)) ∙ ap (λ b. is_ranked rounds s || b) (sym (none-in s fell e)) ∙ r.out s h) ∙ not-not (attached goals ways s) in
    record {
      count = length-map rounds plain_rank ∙ c;
      next = λ i s h. elim (cases_lt i k) [
        | inl before ↦
            (let w = f.each i s before h in (
              (λ q. stays-alike m ok goals (left_at rounds i) (left_after (map plain_rank rounds) i) (λ t u. sym (is i t u)) s h (w.0 (sym (is (i + 1) s h) ∙ q))),
              (λ q. is (i + 1) s h ∙ w.1 (stays-alike m ok goals (left_after (map plain_rank rounds) i) (left_at rounds i) (λ t u. is i t u) s h q)),
            ))
        | inr l ↦
            (let w = r.stays s h in
            let then : (t : ℕ) → t < n → left_after (map plain_rank rounds) i t ≡ left_at rounds k t = λ t u. is i t u ∙ past i t (omega (arith, l)) u ∙ sym (past k t (omega arith) u) in (
              (λ q. stays-alike m ok goals (left_at rounds k) (left_after (map plain_rank rounds) i) (λ t u. sym (then t u)) s h
                  (w.0 (sym (past (i + 1) s (omega (arith, l)) h) ∙ sym (is (i + 1) s h) ∙ q))),
              (λ q. is (i + 1) s h ∙ past (i + 1) s (omega (arith, l)) h ∙ w.1 (stays-alike m ok goals (left_after (map plain_rank rounds) i) (left_at rounds k) then s h q)),
            ))
      ];
    }
