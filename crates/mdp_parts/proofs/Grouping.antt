-- Groups of states that are taken backwards, one after the other.
use Rattle.std.proofs.Common.{◌≡◌, ◌⊎◌, inl, inr, ℕ, suc, zero, ◌+◌, ◌<◌, ◌≤◌, Bool, true, false, ◌||◌, ◌&&◌, ◌==◌, cond}
use Rattle.std.proofs.Common.{List, [], ◌∷◌, length, get_or, replicate, refl, sym, ap, ◌∙◌, subst, arith, Option, Some, None, is_none, is_some}
use Rattle.std.proofs.{lemmas.Bool.{false≢true, cases_Bool, cases_eq, eqb-true, eq-eqb, or_cases}, lemmas.List.{length-replicate, get_or-replicate}}
use Rattle.std.proofs.{lemmas.List.Folds.{sum_by-replicate}, lemmas.List.Sums.{sum_by-set}}
use Rattle.mdp_spec.specs.{Mdp.{Mdp, states_of}, Row.{IsMdp}}
use Rattle.mdp_rows.specs.Preds.{is_among}
use Rattle.mdp_graph.specs.{Edges.{has_edge, predecessors_of, AreEdges}, Layers.{rank_at}, Ranking.{given, unranked, IsGiven}}
use Rattle.mdp_graph.proofs.{Among.{cases_rank}, RankFacts.{some-same, none-some, cond_some, entered, enters, none_among}}
use Rattle.mdp_ends.specs.{Walks.{Reaches, AreJoined}, DepthFirst.{StandsIn, IsSearching}}
use Rattle.mdp_ends.proofs.{Walking.{step-has, step-by, here, one_more, walk_to, and_then, joined_trans}, Closing.{reaches, reaches_by}}
use Rattle.mdp_ends.proofs.DepthFirst.{component_by_order}
use Rattle.mdp_parts.specs.Numbered.{IsTaken, AreSources, AreClasses, AreGrouped}
use Rattle.mdp_parts.proofs.TargetFacts.{listed_none}

given_true : (k : ℕ) (o : Option ℕ) → given k true o ≡ None → ⊥
given_true k None e = none-some k None refl (sym e)
given_true k (Some r) e = none-some r None refl (sym e)

pub record IsTaking (back : List (List ℕ)) (root number : ℕ) (old now : List (Option ℕ)) (layer : List ℕ) : Type 0 where
  pub count : length now ≡ length old
  pub kept : (s i : ℕ) → s < length old → rank_at old s ≡ Some i → rank_at now s ≡ Some i
  pub fresh : (s i : ℕ) → s < length old → rank_at old s ≡ None → rank_at now s ≡ Some i → i ≡ number
  pub root_taken : rank_at now root ≡ Some number
  pub open_at : (s t : ℕ) → s < length old → t < length old → has_edge back s t ≡ true → rank_at old t ≡ None
      → rank_at now t ≡ Some number → is_among t layer ≡ false → rank_at now s ≡ None → ⊥
  pub least : (set : ℕ → Bool) → set root ≡ true → ((s t : ℕ) → s < length old → t < length old → has_edge back s t ≡ true → set t ≡ true → set s ≡ true)
      → (s : ℕ) → s < length old → rank_at old s ≡ None → rank_at now s ≡ Some number → set s ≡ true
  pub listed : (t : ℕ) → is_among t layer ≡ true → (t < length old) × (rank_at old t ≡ None) × (rank_at now t ≡ Some number)
  pub fewer : unranked now < unranked old

module _ (back : List (List ℕ)) (root number : ℕ) (old : List (Option ℕ)) (hr : root < length old) (free : rank_at old root ≡ None) where
  at_root : (s : ℕ) → is_among s (root ∷ []) ≡ true → s ≡ root
  at_root s e = elim (or_cases (root == s) false e) [ inl same ↦ sym (eqb-true root s same) | inr bad ↦ absurd (false≢true bad) ]

  root_at : is_among root (root ∷ []) ≡ true
  root_at = ap (λ b. b || false) (eq-eqb root root refl)

  pub taking_begins : (none now : List (Option ℕ)) (list layer states : List ℕ) → list ≡ [] → states ≡ root ∷ [] → none ≡ old → IsGiven none list now layer states number
      → IsTaking back root number old now layer
  taking_begins none now list layer states no_list is was given_it =
      let f : IsGiven old [] now layer (root ∷ []) number = subst (λ (xs : List (Option ℕ)). IsGiven xs [] now layer (root ∷ []) number) was (subst (λ (xs : List ℕ). IsGiven none xs now layer
      (root ∷ []) number) no_list (subst (λ (xs : List ℕ). IsGiven none list now layer xs number) is given_it)) in
      let new_at : (s : ℕ) → s < length old → rank_at old s ≡ None → rank_at now s ≡ cond (is_among s (root ∷ [])) (Some number) None = λ s h e. f.at s h
      ∙ ap (given number (is_among s (root ∷ []))) e in
      let listed_at : (t : ℕ) → t < length old → is_among t layer ≡ (is_none (rank_at old t) && is_among t (root ∷ [])) = f.listed in
      let root_layer : is_among root layer ≡ true = listed_at root hr ∙ ap (λ o. is_none o && is_among root (root ∷ [])) free ∙ root_at in
      record {
        count = f.count;
        kept = λ s i h e. f.at s h ∙ ap (given number (is_among s (root ∷ []))) e;
        fresh = λ s i h e g. (let w = cond_some (is_among s (root ∷ [])) number i (rank_at now s) (new_at s h e) g in w.0);
        root_taken = new_at root hr free ∙ ap (λ b. cond b (Some number) None) root_at;
        open_at = λ s t hs ht edge e g out bad.
            (let w = cond_some (is_among t (root ∷ [])) number number (rank_at now t) (new_at t ht e) g in
            false≢true (sym out ∙ listed_at t ht ∙ ap (λ o. is_none o && is_among t (root ∷ [])) e ∙ w.1));
        least = λ set is_in closed s h e g.
            (let w = cond_some (is_among s (root ∷ [])) number number (rank_at now s) (new_at s h e) g in ap set (at_root s w.1) ∙ is_in);
        listed = λ t m. (elim (f.below t m) [
          | inl bad ↦ absurd (false≢true bad)
          | inr h ↦ (let z = listed_none (is_among t (root ∷ [])) (rank_at old t) (sym (listed_at t h) ∙ m) in (h, z.0, new_at t h z.0 ∙ ap (λ b. cond b (Some number) None) z.1))
        ]);
        fewer =
            (elim (cases_eq (length layer) 0) [
              | inl none ↦ absurd (false≢true (sym (none_among root layer none) ∙ root_layer))
              | inr some ↦ (let l = f.left in omega (arith, l, some))
            ]);
      }

  pub taking_more : (now new : List (Option ℕ)) (layer seen next : List ℕ) → IsTaking back root number old now layer → seen ≡ layer → IsGiven now [] new next (predecessors_of back seen) number
      → IsTaking back root number old new next
  taking_more now new layer seen next a same given_it =
      let f : IsGiven now [] new next (predecessors_of back layer) number = subst (λ (xs : List ℕ). IsGiven now [] new next (predecessors_of back xs) number) same given_it in
      let within : (s : ℕ) → s < length old → s < length now = λ s h. omega (arith, h, a.count) in
      let still : (s i : ℕ) → s < length old → rank_at now s ≡ Some i → rank_at new s ≡ Some i = λ s i h e. f.at s (within s h) ∙ ap (given number (is_among s (predecessors_of back layer))) e in
      let new_at : (s : ℕ) → s < length old → rank_at now s ≡ None → rank_at new s ≡ cond (is_among s (predecessors_of back layer)) (Some number) None = λ s h e. f.at s (within s h)
      ∙ ap (given number (is_among s (predecessors_of back layer))) e in
      let listed_at : (t : ℕ) → t < length old → is_among t next ≡ (is_none (rank_at now t) && is_among t (predecessors_of back layer)) = λ t h. f.listed t (within t h) in
      record {
        count = f.count ∙ a.count;
        kept = λ s i h e. still s i h (a.kept s i h e);
        fresh = λ s i h e g. (elim (cases_rank (rank_at now s)) [
          | inl none ↦ (let w = cond_some (is_among s (predecessors_of back layer)) number i (rank_at new s) (new_at s h none) g in w.0)
          | inr has ↦ (let k = a.fresh s has.0 h e has.1 in some-same i has.0 (rank_at new s) g (still s has.0 h has.1) ∙ k)
        ]);
        root_taken = still root number hr a.root_taken;
        open_at = λ s t hs ht edge e g out bad. (elim (cases_rank (rank_at now t)) [
          | inl none ↦
              (let w = cond_some (is_among t (predecessors_of back layer)) number number (rank_at new t) (new_at t ht none) g in
              false≢true (sym out ∙ listed_at t ht ∙ ap (λ o. is_none o && is_among t (predecessors_of back layer)) none ∙ w.1))
          | inr has ↦ (elim (cases_Bool (is_among t layer)) [
            | inl on ↦ given_true number (rank_at now s) (sym (f.at s (within s hs) ∙ ap (λ b. given number b (rank_at now s)) (enters back layer s t on edge)) ∙ bad)
            | inr off ↦
                a.open_at s t hs ht edge e (has.1 ∙ ap Some (a.fresh t has.0 ht e has.1)) off (elim (cases_rank (rank_at now s)) [
                  | inl none ↦ none
                  | inr some ↦ absurd (none-some some.0 (rank_at new s) bad (still s some.0 hs some.1))
                ])
          ])
        ]);
        least = λ set is_in closed s h e g. (elim (cases_rank (rank_at now s)) [
          | inl none ↦
              (let w = cond_some (is_among s (predecessors_of back layer)) number number (rank_at new s) (new_at s h none) g in
              let t = entered back layer s w.1 in
              let l = a.listed t.0 t.1 in
              closed s t.0 h l.0 t.2 (a.least set is_in closed t.0 l.0 l.1 l.2))
          | inr has ↦ a.least set is_in closed s h e (has.1 ∙ ap Some (a.fresh s has.0 h e has.1))
        ]);
        listed = λ t m. (elim (f.below t m) [
          | inl bad ↦ absurd (false≢true bad)
          | inr l ↦
              (let h : t < length old = omega (arith, l, a.count) in
              let z = listed_none (is_among t (predecessors_of back layer)) (rank_at now t) (sym (listed_at t h) ∙ m) in (
                h,
                elim (cases_rank (rank_at old t)) [ inl none ↦ none | inr has ↦ absurd (none-some has.0 (rank_at now t) z.0 (a.kept t has.0 h has.1)) ],
                new_at t h z.0 ∙ ap (λ b. cond b (Some number) None) z.1,
              ))
        ]);
        fewer = (let l = f.left in let k = a.fewer in omega (arith, l, k));
      }

  pub taking_ends : (now : List (Option ℕ)) (layer : List ℕ) → IsTaking back root number old now layer → length layer ≡ 0 → IsTaken back root number old now
  taking_ends now layer a e = record {
    count = a.count;
    kept = a.kept;
    fresh = a.fresh;
    root_taken = a.root_taken;
    closed = λ s t hs ht edge was is bad. a.open_at s t hs ht edge was is (none_among t layer e) bad;
    least = a.least;
    fewer = a.fewer;
  }

-- ---- all groups

pub record IsGrouping (back : List (List ℕ)) (order : List ℕ) (n left : ℕ) (numbers : List (Option ℕ)) (number : ℕ) : Type 0 where
  pub count : length numbers ≡ n
  pub below : (s i : ℕ) → s < n → rank_at numbers s ≡ Some i → i < number
  pub after : (k : ℕ) → left ≤ k → k < length order → (i : ℕ) × (rank_at numbers (get_or order k 0) ≡ Some i)
  pub few : number + unranked numbers ≤ n
  pub classes : (m : Mdp) (chosen : ℕ → ℕ → Bool) → IsMdp m → AreSources m chosen back → IsSearching m chosen [] order → AreClasses m chosen numbers

unranked_all : (n : ℕ) → unranked (replicate n None) ≡ n
unranked_all n = let none : Option ℕ = None in let one : cond {A = ℕ} (is_none none) 1 0 ≡ 1 = refl in omega (arith, sum_by-replicate (λ (o : Option ℕ). cond (is_none o) 1 0) n none, one)

some_unranked : (xs : List (Option ℕ)) (s : ℕ) → s < length xs → rank_at xs s ≡ None → 0 < unranked xs
some_unranked xs s h e =
    let none : Option ℕ = None in
    let n = sum_by-set (λ (o : Option ℕ). cond (is_none o) 1 0) xs s (Some 0) none h in
    let was : cond {A = ℕ} (is_none (rank_at xs s)) 1 0 ≡ 1 = rw e refl in
    omega (arith, n, was)

module _ (back : List (List ℕ)) (order : List ℕ) (n : ℕ) (edges : AreEdges n back) where
  pub grouping_begins : (left : ℕ) → length order ≤ left → IsGrouping back order n left (replicate n None) 0
  grouping_begins left le =
      let none : Option ℕ = None in
      let empty : (s : ℕ) → s < n → rank_at (replicate n None) s ≡ None = λ s h. get_or-replicate n s none none h in
      record {
        count = length-replicate n none;
        below = λ s i h e. absurd (none-some i (rank_at (replicate n None) s) (empty s h) e);
        after = λ k l h. absurd (omega (arith, le, l, h));
        few = (let u = unranked_all n in omega (arith, u));
        classes = λ m chosen ok src srch. (let size : states_of m ≡ n = sym src.count ∙ edges.count in record {
          same = λ s t i hs ht es et. absurd (none-some i (rank_at (replicate n None) s) (empty s (omega (arith, hs, size))) es);
          joined = λ s t i hs ht j et. absurd (none-some i (rank_at (replicate n None) t) (empty t (omega (arith, ht, size))) et);
        });
      }

  module _ (below : (k : ℕ) → k < length order → get_or order k 0 < n) (all : (s : ℕ) → s < n
      → StandsIn s order) (k : ℕ) (hk : k < length order) (numbers : List (Option ℕ)) (number : ℕ) (a : IsGrouping back order n (k + 1) numbers number) where
    pub grouping_skip : is_none (rank_at numbers (get_or order k 0)) ≡ false → IsGrouping back order n k numbers number
    grouping_skip has = record {
      count = a.count;
      below = a.below;
      after = λ j l h. (elim (cases_eq j k) as (λ _. (i : ℕ) × (rank_at numbers (get_or order j 0) ≡ Some i)) [
        | inl same ↦ (elim (cases_rank (rank_at numbers (get_or order k 0))) as (λ _. (i : ℕ) × (rank_at numbers (get_or order j 0) ≡ Some i)) [
          | inl none ↦ absurd (false≢true (sym has ∙ ap is_none none))
          | inr w ↦ (w.0, ap (λ x. rank_at numbers (get_or order x 0)) same ∙ w.1)
        ])
        | inr other ↦ a.after j (omega (arith, l, other)) h
      ]);
      few = a.few;
      classes = a.classes;
    }

    -- one more group
    module _ (root : ℕ) (is : root ≡ get_or order k 0) (free : rank_at numbers root ≡ None) (new : List (Option ℕ)) (taken : IsTaken back root number numbers new) where
      root_below : root < n
      root_below = let b = below k hk in omega (arith, b, is)

      size : (s : ℕ) → s < n → s < length numbers
      size s h = omega (arith, h, a.count)

      -- what a number of the new list says of the old one
      was_free : (s i : ℕ) → s < n → rank_at new s ≡ Some i → ((rank_at numbers s ≡ None) × (i ≡ number)) ⊎ ((rank_at numbers s ≡ Some i) × (i < number))
      was_free s i h e = elim (cases_rank (rank_at numbers s)) as (λ _. ((rank_at numbers s ≡ None) × (i ≡ number)) ⊎ ((rank_at numbers s ≡ Some i) × (i < number))) [
        | inl none ↦ inl (none, taken.fresh s i (size s h) none e)
        | inr has ↦
            (let same = some-same has.0 i (rank_at new s) (taken.kept s has.0 (size s h) has.1) e in
            let old : rank_at numbers s ≡ Some i = has.1 ∙ ap Some same in inr (old, a.below s i h old))
      ]

      module _ (m : Mdp) (chosen : ℕ → ℕ → Bool) (ok : IsMdp m) (src : AreSources m chosen back) (srch : IsSearching m chosen [] order) where
        old_classes : AreClasses m chosen numbers
        old_classes = a.classes m chosen ok src srch

        many : states_of m ≡ n
        many = sym src.count ∙ edges.count

        in_n : (s : ℕ) → s < states_of m → s < n
        in_n s h = omega (arith, h, many)

        in_m : (s : ℕ) → s < n → s < states_of m
        in_m s h = omega (arith, h, many)

        has_number : ℕ → Bool
        has_number s = is_some (rank_at numbers s)

        numbered : (s i : ℕ) → rank_at numbers s ≡ Some i → has_number s ≡ true
        unfolding has_number
        numbered s i e = ap is_some e

        number_of : (s : ℕ) → has_number s ≡ true → (i : ℕ) × (rank_at numbers s ≡ Some i)
        unfolding has_number
        number_of s e = elim (cases_rank (rank_at numbers s)) [ inl none ↦ absurd (false≢true (sym (ap is_some none) ∙ e)) | inr w ↦ w ]

        unnumbered : (s : ℕ) → rank_at numbers s ≡ None → has_number s ≡ false
        unfolding has_number
        unnumbered s e = ap is_some e

        whole : (s t : ℕ) → s < states_of m → t < states_of m → AreJoined m chosen s t → has_number t ≡ true → has_number s ≡ true
        whole s t hs ht j e = let w = number_of t e in numbered s w.0 (old_classes.joined s t w.0 hs ht j w.1)

        -- a state that takes the number comes to the root
        comes : (s : ℕ) → s < n → rank_at numbers s ≡ None → rank_at new s ≡ Some number → Reaches m chosen s root
        comes s h e g = (
          states_of m,
          taken.least (λ x. reaches m ok chosen x root) (reaches_by m ok chosen root root (in_m root root_below) (here m chosen root))
              (λ x y hx hy edge known.
              (let lx = in_m x (omega (arith, hx, a.count)) in
              let ly = in_m y (omega (arith, hy, a.count)) in
              let z = step-has m chosen (λ u. u == y) x (sym (src.leads x y lx ly) ∙ edge) in
              reaches_by m ok chosen x root lx (one_more m chosen x z.0 z.1 root z.2 z.3 z.4 (subst (λ u. Reaches m chosen u root) (sym (eqb-true z.1 y z.5)) (states_of m, known))))) s (size s h) e g,
        )

        -- so it is joined with the root
        joined_root : (s : ℕ) → s < n → rank_at numbers s ≡ None → rank_at new s ≡ Some number → AreJoined m chosen s root
        joined_root s h e g =
            subst (λ x. AreJoined m chosen s x) (sym is)
            (component_by_order m ok chosen order srch has_number whole k hk (λ j l hj. (let w = a.after j (omega (arith, l)) hj in numbered (get_or order j 0) w.0 w.1)) s (all s h)
            (unnumbered s e) (subst (λ x. Reaches m chosen s x) is (comes s h e g)))

        back_joined : (s t : ℕ) → AreJoined m chosen s t → AreJoined m chosen t s
        back_joined s t j = (j.1, j.0)

        same_class : (s t i : ℕ) → s < n → t < n → rank_at new s ≡ Some i → rank_at new t ≡ Some i → AreJoined m chosen s t
        same_class s t i hs ht es et = elim (was_free s i hs es) [
          | inl p ↦ (elim (was_free t i ht et) [
            | inl q ↦
                joined_trans m ok chosen s root t (in_m s hs) (in_m t ht) (joined_root s hs p.0 (es ∙ ap Some p.1)) (back_joined t root (joined_root t ht q.0 (et ∙ ap Some q.1)))
            | inr q ↦ absurd (omega (arith, p.1, q.1))
          ])
          | inr p ↦ (elim (was_free t i ht et) [
            | inl q ↦ absurd (omega (arith, p.1, q.1))
            | inr q ↦ old_classes.same s t i (in_m s hs) (in_m t ht) p.0 q.0
          ])
        ]

        -- a state that is joined with the root had bad number, and takes it
        root_class : (s : ℕ) → s < n → AreJoined m chosen s root → rank_at numbers s ≡ None
        root_class s h j = elim (cases_rank (rank_at numbers s)) [
          | inl none ↦ none
          | inr has ↦ absurd (none-some has.0 (rank_at numbers root) free (old_classes.joined root s has.0 (in_m root root_below) (in_m s h) (back_joined s root j) has.1))
        ]

        takes : (s : ℕ) → s < n → (rank_at new s ≡ None → ⊥) → rank_at numbers s ≡ None → rank_at new s ≡ Some number
        takes s h some none = elim (cases_rank (rank_at new s)) [
          | inl bad ↦ absurd (some bad)
          | inr has ↦ has.1 ∙ ap Some (taken.fresh s has.0 (size s h) none has.1)
        ]

        walk_takes : (s : ℕ) → s < states_of m → Reaches m chosen s root → Reaches m chosen root s → rank_at new s ≡ None → ⊥
        walk_takes s hs w =
            walk_to m ok chosen root (λ x. Reaches m chosen root x → rank_at new x ≡ None → ⊥) (λ _ none. none-some number (rank_at new root) none taken.root_taken)
            (λ x c y hx l e to hy rest known on none.
            (let edge : Reaches m chosen x y = one_more m chosen x c y y l e to (here m chosen y) in
            let to_y : Reaches m chosen root y = and_then m ok chosen root x y (in_m root root_below) on edge in
            let free_y = root_class y (in_n y hy) (rest, to_y) in
            let lx = in_n x hx in
            let ly = in_n y hy in
            taken.closed x y (size x lx) (size y ly) (src.leads x y hx hy ∙ step-by m chosen (λ u. u == y) x c y l e to (eq-eqb y y refl)) free_y (takes y ly (known to_y) free_y) none)) s hs w

        takes_all : (s : ℕ) → s < n → AreJoined m chosen s root → rank_at new s ≡ Some number
        takes_all s h j = takes s h (walk_takes s (in_m s h) j.0 j.1) (root_class s h j)

        joined_class : (s t i : ℕ) → s < n → t < n → AreJoined m chosen s t → rank_at new t ≡ Some i → rank_at new s ≡ Some i
        joined_class s t i hs ht j et = elim (was_free t i ht et) [
          | inl p ↦ takes_all s hs (joined_trans m ok chosen s t root (in_m s hs) (in_m root root_below) j (joined_root t ht p.0 (et ∙ ap Some p.1))) ∙ ap Some (sym p.1)
          | inr p ↦ taken.kept s i (size s hs) (old_classes.joined s t i (in_m s hs) (in_m t ht) j p.0)
        ]

        new_classes : AreClasses m chosen new
        new_classes = record {
          same = λ s t i hs ht es et. same_class s t i (in_n s hs) (in_n t ht) es et;
          joined = λ s t i hs ht j et. joined_class s t i (in_n s hs) (in_n t ht) j et;
        }

      pub grouping_more : IsGrouping back order n k new (number + 1)
      grouping_more = record {
        count = taken.count ∙ a.count;
        below = λ s i h e. (elim (was_free s i h e) [ inl p ↦ omega (arith, p.1) | inr p ↦ omega (arith, p.1) ]);
        after = λ j l h. (elim (cases_eq j k) as (λ _. (i : ℕ) × (rank_at new (get_or order j 0) ≡ Some i)) [
          | inl same ↦ (number, ap (λ x. rank_at new (get_or order x 0)) same ∙ ap (rank_at new) (sym is) ∙ taken.root_taken)
          | inr other ↦ (let w = a.after j (omega (arith, l, other)) h in let b = below j h in (w.0, taken.kept (get_or order j 0) w.0 (omega (arith, b, a.count)) w.1))
        ]);
        few = (let l = taken.fewer in let f = a.few in omega (arith, l, f));
        classes = new_classes;
      }

    -- a root is left, so a number is free
    pub number_below : rank_at numbers (get_or order k 0) ≡ None → number < n
    number_below free = let b = below k hk in let u = some_unranked numbers (get_or order k 0) (omega (arith, b, a.count)) free in let f = a.few in omega (arith, u, f)

  pub grouped : (all : (s : ℕ) → s < n → StandsIn s order) (numbers : List (Option ℕ)) (number : ℕ) → IsGrouping back order n 0 numbers number → AreGrouped back order n numbers
  grouped all numbers number a = record {
    count = a.count;
    each = λ s h.
        (let w = all s h in
        let i = a.after w.0 (omega arith) w.1 in
        let e : rank_at numbers s ≡ Some i.0 = ap (rank_at numbers) (sym w.2) ∙ i.1 in
        let l = a.below s i.0 h e in
        let f = a.few in
        (i.0, e, omega (arith, l, f)));
    classes = a.classes;
  }

-- what was read at a place of a list
pub read_at : (xs : List (Option ℕ)) (i : ℕ) (d : Option ℕ) → i < length xs → d ≡ get_or xs i d → rank_at xs i ≡ d
read_at xs i d h e = at_any xs i None d h ∙ sym e where
  at_any : (xs : List (Option ℕ)) (i : ℕ) (d f : Option ℕ) → i < length xs → get_or xs i d ≡ get_or xs i f
  at_any [] i d f h = absurd (omega (arith, h))
  at_any (x ∷ xs) zero d f h = refl
  at_any (x ∷ xs) (suc i) d f h = at_any xs i d f (omega (arith, h))

pub free_root : (o : Option ℕ) → is_none o ≡ true → o ≡ None
free_root None e = refl
free_root (Some r) e = absurd (false≢true e)
