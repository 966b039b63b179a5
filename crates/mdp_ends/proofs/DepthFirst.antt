-- A search in depth, and the components in the order of its end.
use Rattle.std.proofs.Common.{◌≡◌, ◌⊎◌, inl, inr, ℕ, suc, ◌<◌, ◌≤◌, Bool, true, false, not, ◌&&◌}
use Rattle.std.proofs.Common.{◌==◌, List, [], ◌∷◌, ◌++◌, length, get_or, refl, sym, ap, ◌∙◌, subst, arith}
use Rattle.std.proofs.lemmas.Bool.{false≢true, cases_eq, eq-eqb, not_from_false, false_from_ne_true, or_right, and_from}
use Rattle.mdp_spec.specs.{Mdp.{Mdp, states_of, choices_at, row_at}, Row.{IsMdp}}
use Rattle.mdp_rows.specs.Preds.{leads_to}
use Rattle.mdp_graph.specs.Layers.{reached}
use Rattle.mdp_ends.specs.{Walks.{chosen_step, Reaches, AreJoined}, DepthFirst.{StandsIn, IsSearching}}
use Rattle.mdp_ends.proofs.{Walking.{step-by, here, one_more, walk_to, and_then}, NumberingFound.{length-more, at_before, at_last}}

pub begins : (m : Mdp) (chosen : ℕ → ℕ → Bool) → IsSearching m chosen [] []
begins m chosen = record {
  way_below = λ k h. absurd (omega (arith, h));
  done_below = λ k h. absurd (omega (arith, h));
  goes = λ j k le h. absurd (omega (arith, h));
  met = λ f c t h l e to. absurd (omega (arith, h));
  held = λ f k h l w. absurd (omega (arith, h));
  later = λ f g h l w. absurd (omega (arith, h));
}

-- a place of a list with one more is one of the list, or the last
pub place_cases : (xs : List ℕ) (x k : ℕ) → k < length (xs ++ x ∷ []) → ((k < length xs) × (get_or (xs ++ x ∷ []) k 0 ≡ get_or xs k 0)) ⊎ ((k ≡ length xs) × (get_or (xs ++ x ∷ []) k 0 ≡ x))
place_cases xs x k h = elim (cases_eq k (length xs)) as (λ _. ((k < length xs) × (get_or (xs ++ x ∷ []) k 0 ≡ get_or xs k 0)) ⊎ ((k ≡ length xs) × (get_or (xs ++ x ∷ []) k 0 ≡ x))) [
  | inl same ↦ inr (same, ap (λ j. get_or (xs ++ x ∷ []) j 0) same ∙ at_last xs x 0)
  | inr other ↦ (let l : k < length xs = omega (arith, h, other, length-more xs x) in inl (l, at_before xs x 0 k l))
]

pub last_place : (xs : List ℕ) (x : ℕ) → length xs < length (xs ++ x ∷ [])
last_place xs x = omega (arith, length-more xs x)

pub stands-more : (xs : List ℕ) (x s : ℕ) → StandsIn s xs → StandsIn s (xs ++ x ∷ [])
stands-more xs x s w = (w.0, omega (arith, w.1, length-more xs x), at_before xs x 0 w.0 w.1 ∙ w.2)

pub stands-last : (xs : List ℕ) (x : ℕ) → StandsIn x (xs ++ x ∷ [])
stands-last xs x = (length xs, last_place xs x, at_last xs x 0)

pub stands-cases : (xs : List ℕ) (x s : ℕ) → StandsIn s (xs ++ x ∷ []) → StandsIn s xs ⊎ (s ≡ x)
stands-cases xs x s w = elim (place_cases xs x w.0 w.1) as (λ _. StandsIn s xs ⊎ (s ≡ x)) [
  | inl old ↦ inl (w.0, old.0, sym old.1 ∙ w.2)
  | inr new ↦ inr (sym w.2 ∙ new.1)
]

module _ (m : Mdp) (ok : IsMdp m) (chosen : ℕ → ℕ → Bool) where
  abbrev To : ℕ → ℕ → Type 0
  To s t = Reaches m chosen s t

  -- what is done with reaches what isn't through the way
  through : (way done : List ℕ) → IsSearching m chosen way done → (s t : ℕ) → s < states_of m → StandsIn s done
      → (StandsIn t done → ⊥) → To s t → (k : ℕ) × (k < length way) × To s (get_or way k 0) × To (get_or way k 0) t
  through way done a s t h is out w =
      walk_to m ok chosen t (λ x. StandsIn x done → (k : ℕ) × (k < length way) × To x (get_or way k 0) × To (get_or way k 0) t) (λ it. absurd (out it))
      (λ x c y hx l e to hy rest known it. elim (a.met it.0 c y it.1 (subst (λ z. c < length (choices_at m z)) (sym it.2) l)
      (subst (λ z. chosen z c ≡ true) (sym it.2) e) (subst (λ z. leads_to y (row_at m z c) ≡ true) (sym it.2) to)) [
        | inl y_done ↦ (let v = known y_done in (v.0, v.1, one_more m chosen x c y (get_or way v.0 0) l e to v.2, v.3))
        | inr y_way ↦ (y_way.0, y_way.1, subst (λ z. To x z) (sym y_way.2) (one_more m chosen x c y y l e to (here m chosen y)), subst (λ z. To z t) (sym y_way.2) rest)
      ]) s h w is

  -- ---- a state that wasn't met is put on the way: at its begin, or where the last one leads to it

  pub pushed : (way done : List ℕ) (g : ℕ) → IsSearching m chosen way done → g < states_of m → (StandsIn g done → ⊥)
      → ((k : ℕ) → k < length way → To (get_or way k 0) g) → IsSearching m chosen (way ++ g ∷ []) done
  pushed way done g a hg out led = record {
    way_below = λ k h. (elim (place_cases way g k h) [ inl old ↦ (let l = a.way_below k old.0 in omega (arith, l, old.1)) | inr new ↦ omega (arith, hg, new.1) ]);
    done_below = a.done_below;
    goes = λ j k le h. (elim (place_cases way g k h) as (λ _. To (get_or (way ++ g ∷ []) j 0) (get_or (way ++ g ∷ []) k 0)) [
      | inl old ↦ (let l : j < length way = omega (arith, le, old.0) in subst (λ z. To (get_or (way ++ g ∷ []) j 0) z)
          (sym old.1) (subst (λ z. To z (get_or way k 0)) (sym (at_before way g 0 j l)) (a.goes j k le old.0)))
      | inr new ↦ (elim (place_cases way g j (omega (arith, le, h))) as (λ _. To (get_or (way ++ g ∷ []) j 0) (get_or (way ++ g ∷ []) k 0)) [
        | inl first ↦ subst (λ z. To (get_or (way ++ g ∷ []) j 0) z) (sym new.1) (subst (λ z. To z g) (sym first.1) (led j first.0))
        | inr both ↦ subst (λ z. To (get_or (way ++ g ∷ []) j 0) z) (sym new.1) (subst (λ z. To z g) (sym both.1) (here m chosen g))
      ])
    ]);
    met = λ f c t h l e to. (elim (a.met f c t h l e to) as (λ _. StandsIn t done ⊎ StandsIn t (way ++ g ∷ [])) [ inl d ↦ inl d | inr w ↦ inr (stands-more way g t w) ]);
    held = λ f k h l w. (elim (place_cases way g k l) as (λ _. (j : ℕ) × (j ≤ k) × AreJoined m chosen (get_or done f 0) (get_or (way ++ g ∷ []) j 0)) [
      | inl old ↦ kept f k k h old.0 (omega arith) (subst (λ z. To (get_or done f 0) z) old.1 w)
      | inr new ↦ (let v = through way done a (get_or done f 0) g (a.done_below f h) (f, h, refl) out (subst (λ z. To (get_or done f 0) z) new.1 w) in kept f v.0 k h v.1 (omega (arith, v.1, new.0)) v.2)
    ]);
    later = λ f i h l w. (elim (a.later f i h l w) as (λ _. To (get_or done i 0) (get_or done f 0) ⊎ ((h : ℕ) × (i < h) × (h < length done) × AreJoined m chosen
        (get_or done f 0) (get_or done h 0)) ⊎ ((k : ℕ) × (k < length (way ++ g ∷ [])) × AreJoined m chosen (get_or done f 0) (get_or (way ++ g ∷ []) k 0))) [
          | inl back ↦ inl back
          | inr (inl v) ↦ inr (inl v)
          | inr (inr v) ↦ inr (inr (v.0, omega (arith, v.1, length-more way g), subst (λ z. AreJoined m chosen (get_or done f 0) z) (sym (at_before way g 0 v.0 v.1)) v.2))
        ]);
  } where
    kept : (f k n : ℕ) → f < length done → k < length way → k ≤ n → To (get_or done f 0) (get_or way k 0) → (j : ℕ) × (j ≤ n) × AreJoined m chosen (get_or done f 0) (get_or (way ++ g ∷ []) j 0)
    kept f k n h l le w = let v = a.held f k h l w in (v.0, omega (arith, v.1, le), subst (λ z. AreJoined m chosen (get_or done f 0) z) (sym (at_before way g 0 v.0 (omega (arith, v.1, l)))) v.2)

  -- ---- the last state on the way is done with, where all that it leads to has been met

  module _ (way done : List ℕ) (g : ℕ) (a : IsSearching m chosen (way ++ g ∷ []) done)
      (all_met : (c t : ℕ) → c < length (choices_at m g) → chosen g c ≡ true → leads_to t (row_at m g c) ≡ true → StandsIn t done ⊎ StandsIn t (way ++ g ∷ [])) where
    on_way : (k : ℕ) → k < length way → get_or (way ++ g ∷ []) k 0 ≡ get_or way k 0
    on_way k h = at_before way g 0 k h

    is_top : get_or (way ++ g ∷ []) (length way) 0 ≡ g
    is_top = at_last way g 0

    Late : ℕ → ℕ → Type 0
    Late s i = (h : ℕ) × (i < h) × (h < length (done ++ g ∷ [])) × AreJoined m chosen s (get_or (done ++ g ∷ []) h 0)

    Held : ℕ → Type 0
    Held s = (k : ℕ) × (k < length way) × AreJoined m chosen s (get_or way k 0)

    -- joined with a state of the old way: g, which is done with last, or one of the way that is left
    sorted : (s i k : ℕ) → i < length done → k < length (way ++ g ∷ []) → AreJoined m chosen s (get_or (way ++ g ∷ []) k 0) → Late s i ⊎ Held s
    unfolding Late Held
    sorted s i k h l j = elim (place_cases way g k l) as (λ _. Late s i ⊎ Held s) [
      | inl old ↦ inr (k, old.0, subst (λ z. AreJoined m chosen s z) old.1 j)
      | inr top ↦ inl (length done, h, last_place done g, subst (λ z. AreJoined m chosen s z) (top.1 ∙ sym (at_last done g 0)) j)
    ]

    from_g : (k : ℕ) → k < length way → To g (get_or way k 0) → AreJoined m chosen g (get_or way k 0)
    from_g k h w = (w, subst (λ z. To z g) (on_way k h) (subst (λ z. To (get_or (way ++ g ∷ []) k 0) z) is_top (a.goes k (length way) (omega (arith, h)) (last_place way g))))

    meets : (t : ℕ) → StandsIn t done ⊎ StandsIn t (way ++ g ∷ []) → StandsIn t (done ++ g ∷ []) ⊎ StandsIn t way
    meets t (inl d) = inl (stands-more done g t d)
    meets t (inr w) = elim (stands-cases way g t w) as (λ _. StandsIn t (done ++ g ∷ []) ⊎ StandsIn t way) [
      | inl old ↦ inr old
      | inr top ↦ inl (subst (λ z. StandsIn z (done ++ g ∷ [])) (sym top) (stands-last done g))
    ]

    held_old : (f k : ℕ) → f < length done → k < length way → To (get_or done f 0) (get_or way k 0) → (j : ℕ) × (j ≤ k) × AreJoined m chosen (get_or done f 0) (get_or way j 0)
    held_old f k h l w =
        let v = a.held f k h (omega (arith, l, length-more way g)) (subst (λ z. To (get_or done f 0) z) (sym (on_way k l)) w) in
        (v.0, v.1, subst (λ z. AreJoined m chosen (get_or done f 0) z) (on_way v.0 (omega (arith, v.1, l))) v.2)

    later_old : (f i : ℕ) → f < length done → i < length done → To (get_or done f 0) (get_or done i 0) → To (get_or done i 0) (get_or done f 0) ⊎ Late (get_or done f 0) i ⊎ Held (get_or done f 0)
    unfolding Late
    later_old f i h l w = elim (a.later f i h l w) as (λ _. To (get_or done i 0) (get_or done f 0) ⊎ Late (get_or done f 0) i ⊎ Held (get_or done f 0)) [
      | inl back ↦ inl back
      | inr (inl v) ↦ inr (inl (v.0, v.1, omega (arith, v.2, length-more done g), subst (λ z. AreJoined m chosen (get_or done f 0) z) (sym (at_before done g 0 v.0 v.2)) v.3))
      | inr (inr v) ↦ inr (sorted (get_or done f 0) i v.0 l v.1 v.2)
    ]

    later_g : (f : ℕ) → f < length done → To (get_or done f 0) g → To g (get_or done f 0) ⊎ Held (get_or done f 0)
    unfolding Held
    later_g f h w =
        let v = a.held f (length way) h (last_place way g) (subst (λ z. To (get_or done f 0) z) (sym is_top) w) in
        elim (place_cases way g v.0 (omega (arith, v.1, last_place way g))) as (λ _. To g (get_or done f 0) ⊎ Held (get_or done f 0)) [
          | inl old ↦ inr (v.0, old.0, subst (λ z. AreJoined m chosen (get_or done f 0) z) old.1 v.2)
          | inr top ↦ inl (subst (λ z. To z (get_or done f 0)) top.1 v.2.1)
        ]

    pub popped : IsSearching m chosen way (done ++ g ∷ [])
    unfolding Late Held
    popped = record {
      way_below = λ k h. (let l = a.way_below k (omega (arith, h, length-more way g)) in omega (arith, l, on_way k h));
      done_below = λ k h. (elim (place_cases done g k h) [
        | inl old ↦ (let l = a.done_below k old.0 in omega (arith, l, old.1))
        | inr new ↦ (let l = a.way_below (length way) (last_place way g) in omega (arith, l, new.1, is_top))
      ]);
      goes = λ j k le h. subst (λ z. To (get_or way j 0) z) (on_way k h) (subst (λ z. To z (get_or (way ++ g ∷ []) k 0)) (on_way j (omega (arith, le, h))) (a.goes j k le (omega (arith, h, length-more way g))));
      met = λ f c t h l e to. (elim (place_cases done g f h) as (λ _. StandsIn t (done ++ g ∷ []) ⊎ StandsIn t way) [
        | inl old ↦ meets t (a.met f c t old.0 (subst (λ z. c < length (choices_at m z)) old.1 l) (subst (λ z. chosen z c ≡ true) old.1 e) (subst (λ z. leads_to t (row_at m z c) ≡ true) old.1 to))
        | inr new ↦ meets t (all_met c t (subst (λ z. c < length (choices_at m z)) new.1 l) (subst (λ z. chosen z c ≡ true) new.1 e) (subst (λ z. leads_to t (row_at m z c) ≡ true) new.1 to))
      ]);
      held = λ f k h l w. (elim (place_cases done g f h) as (λ _. (j : ℕ) × (j ≤ k) × AreJoined m chosen (get_or (done ++ g ∷ []) f 0) (get_or way j 0)) [
        | inl old ↦
            (let v = held_old f k old.0 l (subst (λ z. To z (get_or way k 0)) old.1 w) in (v.0, v.1, subst (λ z. AreJoined m chosen z (get_or way v.0 0)) (sym old.1) v.2))
        | inr new ↦ (k, omega arith, subst (λ z. AreJoined m chosen z (get_or way k 0)) (sym new.1) (from_g k l (subst (λ z. To z (get_or way k 0)) new.1 w)))
      ]);
      later = λ f i h l w. later_all f i (place_cases done g f h) (place_cases done g i l) w;
    } where
      later_all : (f i : ℕ) → ((f < length done) × (get_or (done ++ g ∷ []) f 0 ≡ get_or done f 0)) ⊎ ((f ≡ length done) × (get_or (done ++ g ∷ []) f 0 ≡ g))
          → ((i < length done) × (get_or (done ++ g ∷ []) i 0 ≡ get_or done i 0)) ⊎ ((i ≡ length done) × (get_or (done ++ g ∷ []) i 0 ≡ g))
          → To (get_or (done ++ g ∷ []) f 0) (get_or (done ++ g ∷ []) i 0)
          → To (get_or (done ++ g ∷ []) i 0) (get_or (done ++ g ∷ []) f 0) ⊎
          ((h : ℕ) × (i < h) × (h < length (done ++ g ∷ [])) × AreJoined m chosen (get_or (done ++ g ∷ []) f 0) (get_or (done ++ g ∷ []) h 0))
          ⊎ ((k : ℕ) × (k < length way) × AreJoined m chosen (get_or (done ++ g ∷ []) f 0) (get_or way k 0))
      later_all f i (inl p) (inl q) w = rw (p.1, q.1) (later_old f i p.0 q.0 (rw (p.1, q.1) at w))
      later_all f i (inl p) (inr q) w = elim (later_g f p.0 (rw (p.1, q.1) at w)) [
        | inl back ↦ inl (rw (p.1, q.1) back)
        | inr v ↦ inr (inr (rw p.1 v))
      ]
      later_all f i (inr p) (inl q) w = inr (inl (length done, q.0, last_place done g, rw (p.1, at_last done g 0) (here m chosen g, here m chosen g)))
      later_all f i (inr p) (inr q) w = inl (rw (p.1, q.1) (here m chosen g))

  -- ---- at the end of the search, from the last state that is done with to the first: of those that are left, those that reach it are its component

  pub component_by_order : (done : List ℕ) → IsSearching m chosen [] done → (taken : ℕ → Bool)
      → ((s t : ℕ) → s < states_of m → t < states_of m → AreJoined m chosen s t → taken t ≡ true → taken s ≡ true)
      → (g : ℕ) → g < length done → ((h : ℕ) → g < h → h < length done → taken (get_or done h 0) ≡ true)
      → (s : ℕ) → StandsIn s done → taken s ≡ false → To s (get_or done g 0) → AreJoined m chosen s (get_or done g 0)
  component_by_order done a taken whole g h after s is left w = subst (λ z. AreJoined m chosen z (get_or done g 0)) is.2
      (elim (a.later is.0 g is.1 h (subst (λ z. To z (get_or done g 0)) (sym is.2) w)) as (λ _. AreJoined m chosen (get_or done is.0 0) (get_or done g 0)) [
        | inl back ↦ (subst (λ z. To z (get_or done g 0)) (sym is.2) w, back)
        | inr (inl v) ↦ absurd (false≢true (sym left ∙ ap taken (sym is.2) ∙ whole (get_or done is.0 0) (get_or done v.0 0) (a.done_below is.0 is.1) (a.done_below v.0 v.2) v.3 (after v.0 v.1 v.2)))
        | inr (inr v) ↦ absurd (omega (arith, v.1))
      ])

  -- and each of these reaches it through states that are left
  pub left_walk : (taken : ℕ → Bool) → ((s t : ℕ) → s < states_of m → t < states_of m → AreJoined m chosen s t → taken t ≡ true → taken s ≡ true)
      → (r : ℕ) → r < states_of m → taken r ≡ false → (s : ℕ) → s < states_of m → AreJoined m chosen s r
      → (k : ℕ) × (reached (λ set x. not (taken x) && chosen_step m chosen set x) (λ x. x == r) k s ≡ true)
  unfolding reached
  left_walk taken whole r hr left s h j =
      walk_to m ok chosen r (λ x. To r x → (k : ℕ) × (reached (λ set x. not (taken x) && chosen_step m chosen set x) (λ x. x == r) k x ≡ true)) (λ w. (0, eq-eqb r r refl))
      (λ x c y hx l e to hy rest known back.
      (let on = known (and_then m ok chosen r x y hr back (one_more m chosen x c y y l e to (here m chosen y))) in
      let free : not (taken x) ≡ true = not_from_false (taken x) (false_from_ne_true (taken x) (λ it. false≢true (sym left ∙ whole r x hr hx (back, one_more m chosen x c y r l e to rest) it))) in (
        suc on.0,
        or_right (reached (λ set x. not (taken x) && chosen_step m chosen set x) (λ x. x == r) on.0 x)
            (not (taken x) && chosen_step m chosen (reached (λ set x. not (taken x) && chosen_step m chosen set x) (λ x. x == r) on.0) x)
            (and_from (not (taken x)) (chosen_step m chosen (reached (λ set x. not (taken x) && chosen_step m chosen set x) (λ x. x == r) on.0) x) free
            (step-by m chosen (reached (λ set x. not (taken x) && chosen_step m chosen set x) (λ x. x == r) on.0) x c y l e to on.1)),
      ))) s h j.0 j.1
