-- What a search in depth keeps.
use Rattle.std.proofs.Common.{◌≡◌, ◌⊎◌, inl, inr, ℕ, zero, suc, ◌+◌, ◌-◌, ◌<◌, ◌≤◌, Bool, true, false, not, ◌==◌}
use Rattle.std.proofs.Common.{cond, List, [], ◌∷◌, ◌++◌, length, get_or, set, take, replicate, refl, sym, ap, ◌∙◌, subst, arith}
use Rattle.std.proofs.lemmas.Bool.{false≢true, cases_eq, cases_lt, eqb-true, eq-eqb}
use Rattle.std.proofs.{lemmas.List.{length-replicate, get_or-replicate, length-set, get_or-set_other, take_more, take_all}, lemmas.List.Sums.{sum_by-set}}
use Rattle.std.proofs.lemmas.Grind.{get_or-set_at}
use Rattle.std.specs.List.{count_by, All}
use Rattle.mdp_spec.specs.{Mdp.{Mdp, states_of}, Row.{IsMdp}}
use Rattle.mdp_graph.specs.{Sets.{marked}, Edges.{AreEdges}}
use Rattle.mdp_graph.proofs.Among.{below-all}
use Rattle.mdp_ends.specs.{Walks.{Reaches}, DepthFirst.{StandsIn, IsSearching}}
use Rattle.mdp_ends.proofs.Walking.{any-some, some-any, step-has, step-by, here, one_more, and_then, target-below}
use Rattle.mdp_ends.proofs.NumberingFound.{length-more, at_before, at_last}
use Rattle.mdp_ends.proofs.DepthFirst.{begins, place_cases, last_place, stands-more, stands-last, stands-cases, pushed, popped}
use Rattle.mdp_parts.specs.{Targets.{AreTargets}, Searched.{target_at, IsSearch, work_left, IsOrder}}

-- ---- marks

pub kept_mark : (met : List Bool) (t s : ℕ) → t < length met → marked met s ≡ true → marked (set met t true) s ≡ true
kept_mark met t s h e = elim (cases_eq s t) [
  | inl same ↦ get_or-set_at met t s true false same h
  | inr other ↦ get_or-set_other met t s true false other ∙ e
]

pub new_mark : (met : List Bool) (t : ℕ) → t < length met → marked (set met t true) t ≡ true
new_mark met t h = get_or-set_at met t t true false refl h

-- one more is met
fewer_unmet : (met : List Bool) (t : ℕ) → t < length met → marked met t ≡ false → count_by not (set met t true) + 1 ≡ count_by not met
fewer_unmet met t h e =
    let n = sum_by-set (λ b. cond (not b) 1 0) met t true false h in
    let was : cond {A = ℕ} (not (marked met t)) 1 0 ≡ 1 = rw e refl in
    omega (arith, n, was)

-- ---- lists that end

pub split_last : (xs : List ℕ) (x : ℕ) → 0 < length xs → x ≡ get_or xs (length xs - 1) 0 → take (length xs - 1) xs ++ x ∷ [] ≡ xs
split_last xs x some e =
    let n : ℕ = length xs - 1 in
    let h : n < length xs = omega (arith, some) in
    let k : n + 1 ≡ length xs = omega (arith, some) in
    ap (λ y. take n xs ++ y ∷ []) e ∙ sym (take_more xs n 0 h) ∙ ap (λ j. take j xs) k ∙ take_all (length xs) xs (omega arith)

module _ (edges : List (List ℕ)) where
  pub search_begins : (n : ℕ) → length edges ≡ n → IsSearch edges [] (replicate n 0) (replicate n false) []
  search_begins n count = record {
    count_next = length-replicate {A = ℕ} n 0 ∙ sym count;
    count_met = length-replicate n false ∙ sym count;
    way_below = λ k h. absurd (omega (arith, h));
    done_below = λ k h. absurd (omega (arith, h));
    way_met = λ k h. absurd (omega (arith, h));
    done_met = λ k h. absurd (omega (arith, h));
    stands = λ s h e. absurd (false≢true (sym (get_or-replicate n s false false (omega (arith, h, count))) ∙ e));
    within = λ s h. (let z = get_or-replicate {A = ℕ} n s 0 0 (omega (arith, h, count)) in omega (arith, z));
    looked = λ s k h l. (let z = get_or-replicate {A = ℕ} n s 0 0 (omega (arith, h, count)) in absurd (omega (arith, z, l)));
    searching = λ m chosen ok are. begins m chosen;
  }

  module _ (way next : List ℕ) (met : List Bool) (done : List ℕ) where
    -- a state that wasn't met and to which the way leads is put on the way
    pub entered : (t : ℕ) → IsSearch edges way next met done → t < length edges → marked met t ≡ false
        → ((m : Mdp) (chosen : ℕ → ℕ → Bool) → IsMdp m → AreTargets m chosen edges → (k : ℕ) → k < length way → Reaches m chosen (get_or way k 0) t)
        → IsSearch edges (way ++ t ∷ []) next (set met t true) done
    entered t a ht out led =
        let h : t < length met = omega (arith, ht, a.count_met) in
        record {
          count_next = a.count_next;
          count_met = length-set met t true ∙ a.count_met;
          way_below = λ k l. (elim (place_cases way t k l) [ inl old ↦ (let b = a.way_below k old.0 in omega (arith, b, old.1)) | inr new ↦ omega (arith, ht, new.1) ]);
          done_below = a.done_below;
          way_met = λ k l. (elim (place_cases way t k l) as (λ _. marked (set met t true) (get_or (way ++ t ∷ []) k 0) ≡ true) [
            | inl old ↦ ap (marked (set met t true)) old.1 ∙ kept_mark met t (get_or way k 0) h (a.way_met k old.0)
            | inr new ↦ ap (marked (set met t true)) new.1 ∙ new_mark met t h
          ]);
          done_met = λ k l. kept_mark met t (get_or done k 0) h (a.done_met k l);
          stands = λ s hs e. (elim (cases_eq s t) as (λ _. StandsIn s done ⊎ StandsIn s (way ++ t ∷ [])) [
            | inl same ↦ inr (subst (λ x. StandsIn x (way ++ t ∷ [])) (sym same) (stands-last way t))
            | inr other ↦ (elim (a.stands s hs (sym (get_or-set_other met t s true false other) ∙ e)) as (λ _. StandsIn s done
                ⊎ StandsIn s (way ++ t ∷ [])) [ inl d ↦ inl d | inr w ↦ inr (stands-more way t s w) ])
          ]);
          within = a.within;
          looked = λ s k hs l. kept_mark met t (target_at edges s k) h (a.looked s k hs l);
          searching = λ m chosen ok are.
              pushed m ok chosen way done t (a.searching m chosen ok are) (omega (arith, ht, are.count)) (λ d. false≢true (sym out ∙ ap (marked met) (sym d.2)
              ∙ a.done_met d.0 d.1)) (led m chosen ok are);
        }

    -- more of a state's targets were met
    pub looked_more : (t n : ℕ) → IsSearch edges way next met done → t < length edges → n ≤ length (get_or edges t []) → ((k : ℕ) → k < n → marked met (target_at edges t k) ≡ true)
        → IsSearch edges way (set next t n) met done
    looked_more t n a ht le known =
        let h : t < length next = omega (arith, ht, a.count_next) in
        record {
          count_next = length-set next t n ∙ a.count_next;
          count_met = a.count_met;
          way_below = a.way_below;
          done_below = a.done_below;
          way_met = a.way_met;
          done_met = a.done_met;
          stands = a.stands;
          within = λ s hs. (elim (cases_eq s t) [
            | inl same ↦ (let e = get_or-set_at next t s n 0 same h in let l : n ≤ length (get_or edges s []) = subst (λ x. n ≤ length (get_or edges x [])) (sym same) le in omega (arith, e, l))
            | inr other ↦ (let e = get_or-set_other next t s n 0 other in let l = a.within s hs in omega (arith, e, l))
          ]);
          looked = λ s k hs l. (elim (cases_eq s t) as (λ _. marked met (target_at edges s k) ≡ true) [
            | inl same ↦ (let e = get_or-set_at next t s n 0 same h in ap (λ x. marked met (target_at edges x k)) same ∙ known k (omega (arith, e, l)))
            | inr other ↦ (let e = get_or-set_other next t s n 0 other in a.looked s k hs (omega (arith, e, l)))
          ]);
          searching = a.searching;
        }

    -- the last state on the way is done with, where all its targets were met
    pub finished : (t : ℕ) → IsSearch edges (way ++ t ∷ []) next met done → ((k : ℕ) → k < length (get_or edges t []) → marked met (target_at edges t k) ≡ true)
        → IsSearch edges way next met (done ++ t ∷ [])
    finished t a known =
        let top : get_or (way ++ t ∷ []) (length way) 0 ≡ t = at_last way t 0 in
        let ht : t < length edges = (let l = a.way_below (length way) (last_place way t) in omega (arith, l, top)) in
        let met_t : marked met t ≡ true = ap (marked met) (sym top) ∙ a.way_met (length way) (last_place way t) in
        record {
          count_next = a.count_next;
          count_met = a.count_met;
          way_below = λ k l. (let b = a.way_below k (omega (arith, l, length-more way t)) in let e = at_before way t 0 k l in omega (arith, b, e));
          done_below = λ k l. (elim (place_cases done t k l) [ inl old ↦ (let b = a.done_below k old.0 in omega (arith, b, old.1)) | inr new ↦ omega (arith, ht, new.1) ]);
          way_met = λ k l. ap (marked met) (sym (at_before way t 0 k l)) ∙ a.way_met k (omega (arith, l, length-more way t));
          done_met = λ k l. (elim (place_cases done t k l) as (λ _. marked met (get_or (done ++ t ∷ []) k 0) ≡ true) [
            | inl old ↦ ap (marked met) old.1 ∙ a.done_met k old.0
            | inr new ↦ ap (marked met) new.1 ∙ met_t
          ]);
          stands = λ s hs e. (elim (a.stands s hs e) as (λ _. StandsIn s (done ++ t ∷ []) ⊎ StandsIn s way) [
            | inl d ↦ inl (stands-more done t s d)
            | inr w ↦ (elim (stands-cases way t s w) as (λ _. StandsIn s (done ++ t ∷ [])
                ⊎ StandsIn s way) [ inl old ↦ inr old | inr is ↦ inl (subst (λ x. StandsIn x (done ++ t ∷ [])) (sym is) (stands-last done t)) ])
          ]);
          within = a.within;
          looked = a.looked;
          searching = λ m chosen ok are.
              popped m ok chosen way done t (a.searching m chosen ok are)
              (λ c u l e to.
              (let on = any-some (λ x. x == u) (get_or edges t []) 0 (are.leads t u (omega (arith, ht, are.count)) ∙ step-by m chosen (λ x. x == u) t c u l e to (eq-eqb u u refl)) in
              let is : target_at edges t on.0 ≡ u = eqb-true (get_or (get_or edges t []) on.0 0) u on.2 in
              let hu = target-below m ok t c u (omega (arith, ht, are.count)) l to in
              a.stands u (omega (arith, hu, are.count)) (ap (marked met) (sym is) ∙ known on.0 on.1)));
        }

    -- the way leads to the targets of its last state
    pub led_on : (top k u : ℕ) → IsSearch edges way next met done → 0 < length way → top ≡ get_or way (length way - 1) 0 → k < length (get_or edges top []) → u ≡ target_at edges top k
        → (m : Mdp) (chosen : ℕ → ℕ → Bool) → IsMdp m → AreTargets m chosen edges → (j : ℕ) → j < length way → Reaches m chosen (get_or way j 0) u
    led_on top k u a some is l e m chosen ok are j h =
        let b = a.way_below (length way - 1) (omega (arith, some)) in
        let ht : top < states_of m = omega (arith, b, is, are.count) in
        let hj = a.way_below j h in
        let w : Reaches m chosen (get_or way j 0) top = subst (λ x. Reaches m chosen (get_or way j 0) x) (sym is) (IsSearching.goes (a.searching m chosen ok are) j (length way - 1) (omega
        (arith, h)) (omega (arith, some))) in
        let z = step-has m chosen (λ x. x == u) top (sym (are.leads top u ht) ∙ some-any (λ x. x == u) (get_or edges top []) 0 k l (eq-eqb (target_at edges top k) u (sym e))) in
        and_then m ok chosen (get_or way j 0) top u (omega (arith, hj, are.count)) w (one_more m chosen top z.0 z.1 u z.2 z.3 z.4 (subst (λ x. Reaches m chosen x u) (sym (eqb-true z.1 u z.5))
        (here m chosen u)))

  -- ---- a step of the search

  module _ (way next : List ℕ) (met : List Bool) (done : List ℕ) (top : ℕ) (a : IsSearch edges way next met done) (some : 0 < length way) (is : top ≡ get_or way (length way - 1) 0) where
    pub top_below : top < length edges
    top_below = let b = a.way_below (length way - 1) (omega (arith, some)) in omega (arith, b, is)

    -- to a target that wasn't met
    pub goes_on : (k u : ℕ) → k < length (get_or edges top []) → u ≡ target_at edges top k → u < length edges → marked met u ≡ false → ((j : ℕ) → j < k → marked met (target_at edges top j) ≡ true)
        → IsSearch edges (way ++ u ∷ []) (set next top (k + 1)) (set met u true) done
    goes_on k u l e hu out before =
        let h : u < length met = omega (arith, hu, a.count_met) in
        looked_more (way ++ u ∷ []) next (set met u true) done top (k + 1) (entered way next met done u a hu out (led_on way next met done top k u a some is l e)) top_below (omega (arith, l))
        (λ j lj. elim (cases_eq j k) as (λ _. marked (set met u true) (target_at edges top j) ≡ true) [
          | inl same ↦ ap (λ i. marked (set met u true) (target_at edges top i)) same ∙ ap (marked (set met u true)) (sym e) ∙ new_mark met u h
          | inr other ↦ kept_mark met u (target_at edges top j) h (before j (omega (arith, lj, other)))
        ])

    pub goes_on-less : (u : ℕ) → u < length edges → marked met u ≡ false → work_left (way ++ u ∷ []) (set met u true) < work_left way met
    goes_on-less u hu out =
        let f = fewer_unmet met u (omega (arith, hu, a.count_met)) out in
        omega (arith, f, length-more way u)

    -- or it is done with the state
    pub goes_back : ((k : ℕ) → k < length (get_or edges top []) → marked met (target_at edges top k) ≡ true) → IsSearch edges (take (length way - 1) way) next met (done ++ top ∷ [])
    goes_back known = finished (take (length way - 1) way) next met done top (subst (λ xs. IsSearch edges xs next met done) (sym (split_last way top some is)) a) known

    pub goes_back-less : work_left (take (length way - 1) way) met < work_left way met
    goes_back-less = let e = ap length (split_last way top some is) in omega (arith, e, length-more (take (length way - 1) way) top)

    -- what is known of the targets before a place
    pub known_before : (k : ℕ) → ((j : ℕ) → j < k → get_or next top 0 ≤ j → marked met (target_at edges top j) ≡ true) → (j : ℕ) → j < k → marked met (target_at edges top j) ≡ true
    known_before k found j l = elim (cases_lt j (get_or next top 0)) [
      | inl low ↦ a.looked top j top_below low
      | inr high ↦ found j l high
    ]

-- ---- as the code has it

pub search_as : (edges : List (List ℕ)) (way next : List ℕ) (met : List Bool) (done way_is next_is : List ℕ) (met_is : List Bool) (done_is : List ℕ) → way ≡ way_is → next ≡ next_is
    → met ≡ met_is → done ≡ done_is
    → IsSearch edges way_is next_is met_is done_is → IsSearch edges way next met done
search_as edges way next met done way_is next_is met_is done_is e f g h a = rw (e, f, g, h) a

pub targets_below : (edges : List (List ℕ)) (n s : ℕ) → AreEdges (length edges) edges → n ≡ length edges → s < length edges → All (λ t. t < n) (get_or edges s [])
targets_below edges n s are e h = below-all n (get_or edges s []) (λ t m. (let l = are.below t s h m in omega (arith, l, e)))

pub target_below : (edges : List (List ℕ)) (n s k : ℕ) (targets : List ℕ) → AreEdges (length edges) edges → n ≡ length edges → s < length edges → targets ≡ get_or edges s []
    → k < length targets → get_or targets k 0 < n
target_below edges n s k targets are e h is l = subst (λ (xs : List ℕ). All (λ t. t < n) xs) (sym is) (targets_below edges n s are e h) k 0 l

pub at_default : (xs : List ℕ) (i d : ℕ) → i < length xs → get_or xs i d ≡ get_or xs i 0
at_default [] i d h = absurd (omega (arith, h))
at_default (x ∷ xs) zero d h = refl
at_default (x ∷ xs) (suc i) d h = at_default xs i d (omega (arith, h))

-- at the end of the search
pub order_found : (edges : List (List ℕ)) (way next : List ℕ) (met : List Bool) (done : List ℕ) (n : ℕ) → IsSearch edges way next met done → way ≡ [] → ((s : ℕ) → s < n → marked met s ≡ true)
    → length edges ≤ n → IsOrder edges done
order_found edges way next met done n a none seen le = record {
  below = a.done_below;
  all = λ s h. (elim (a.stands s h (seen s (omega (arith, h, le)))) [
    | inl d ↦ d
    | inr w ↦ (let l = w.1 in let z = ap (λ (xs : List ℕ). length xs) none in absurd (omega (arith, l, z)))
  ]);
  searched = λ m chosen ok are. subst (λ (xs : List ℕ). IsSearching m chosen xs done) none (a.searching m chosen ok are);
}

-- at its begin from a root
pub root_entered : (edges : List (List ℕ)) (way next : List ℕ) (met : List Bool) (done : List ℕ) (root : ℕ) → IsSearch edges way next met done → way ≡ [] → root < length edges
    → marked met root ≡ false → IsSearch edges (way ++ root ∷ []) next (set met root true) done
root_entered edges way next met done root a none h out =
    entered edges way next met done root a h out (λ m chosen ok are k l. let z = ap (λ (xs : List ℕ). length xs) none in absurd (omega (arith, l, z)))
