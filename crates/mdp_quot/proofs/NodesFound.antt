-- One more state has its node, and the nodes of all states.
use Rattle.std.proofs.Common.{◌≡◌, ◌⊎◌, inl, inr, ℕ, ◌+◌, ◌<◌, ◌≤◌, Bool, true, nat_lt, cond, List, [], ◌∷◌}
use Rattle.std.proofs.Common.{◌++◌, length, get_or, map, replicate, refl, sym, ap, ◌∙◌, arith, Option, Some, None, IfSome}
use Rattle.std.proofs.lemmas.Bool.{cases_Bool, cases_eq, cases_lt, lt-ltb, le-ltb}
use Rattle.std.proofs.lemmas.List.{get_or-map, map-append, get_or-replicate, length-replicate, get_or_past, get_or_default}
use Rattle.std.specs.List.{All}
use Rattle.mdp_ends.specs.{Numbers.{is_numbered, count_from}, Ends.{part_of, count_of}, Quotient.{AreNodes, ShareAPart, nodes_in}}
use Rattle.mdp_ends.proofs.{Numbering.{some-same, some≢none, case-number, numbered-below}, NumberingFound.{numbered-some, length-more, at_before, at_last}}
use Rattle.mdp_quot.specs.Numbering.{IsNumbering}

count_from-append : (next : ℕ) (xs ys : List (Option ℕ)) → count_from next (xs ++ ys) ≡ count_from (count_from next xs) ys
count_from-append next [] ys = refl
count_from-append next (None ∷ xs) ys = count_from-append next xs ys
count_from-append next (Some i ∷ xs) ys = elim (cases_Bool (nat_lt i next)) as (λ _. count_from next (Some i ∷ (xs ++ ys)) ≡ count_from (count_from next (Some i ∷ xs)) ys) [
  | inl e ↦ rw e (count_from-append next xs ys)
  | inr e ↦ rw e (count_from-append (next + 1) xs ys)
]

nodes-more : (nodes : List ℕ) (q : ℕ) → nodes_in (nodes ++ q ∷ []) ≡ cond (nat_lt q (nodes_in nodes)) (nodes_in nodes) (nodes_in nodes + 1)
nodes-more nodes q = ap (count_from 0) (map-append Some nodes (q ∷ [])) ∙ count_from-append 0 (map Some nodes) (Some q ∷ [])

numbered-more : (nodes : List ℕ) (q : ℕ) → is_numbered 0 (map Some nodes) ≡ true → q ≤ nodes_in nodes → is_numbered 0 (map Some (nodes ++ q ∷ [])) ≡ true
numbered-more nodes q e h = ap (is_numbered 0) (map-append Some nodes (q ∷ [])) ∙ numbered-some 0 (map Some nodes) q e h

module _ (parts : List (Option ℕ)) (n : ℕ) (nodes : List ℕ) (components first : List (Option ℕ)) (a : IsNumbering parts n nodes components first) where
  node-below : (s : ℕ) → s < n → get_or nodes s 0 < length components
  node-below s h =
      let l = numbered-below 0 (map Some nodes) s (get_or nodes s 0) a.numbered (get_or-map Some nodes s 0 None (omega (arith, h, a.count))) in
      omega (arith, l, a.next)

  pub nodes_all_below : All (λ k. k < length components) nodes
  nodes_all_below s d h = let l = node-below s (omega (arith, h, a.count)) in let e = get_or_default nodes s 0 d h in omega (arith, l, e)

  old_at : (q s : ℕ) → s < n → get_or (nodes ++ q ∷ []) s 0 ≡ get_or nodes s 0
  old_at q s h = at_before nodes q 0 s (omega (arith, h, a.count))

  new_at : (q : ℕ) → get_or (nodes ++ q ∷ []) n 0 ≡ q
  new_at q = ap (λ k. get_or (nodes ++ q ∷ []) k 0) (sym a.count) ∙ at_last nodes q 0

  -- the next state is in an end component that was seen
  pub known_more : (i q : ℕ) → part_of parts n ≡ Some i → get_or first i None ≡ Some q → IsNumbering parts (n + 1) (nodes ++ q ∷ []) components first
  known_more i q is e =
      let w = a.given i q e in
      let low : q < length components = (let l = node-below w.0 w.1 in omega (arith, l, w.3)) in
      record {
        count = length-more nodes q ∙ omega (arith, a.count);
        numbered = numbered-more nodes q a.numbered (omega (arith, low, a.next));
        next = nodes-more nodes q ∙ ap (λ (b : Bool). cond b (nodes_in nodes) (nodes_in nodes + 1)) (lt-ltb q (nodes_in nodes) (omega (arith, low, a.next))) ∙ a.next;
        few = omega (arith, a.few);
        room = a.room;
        part = λ s h. elim (cases_eq s n) [
          | inl same ↦ ap (λ k. get_or components (get_or (nodes ++ q ∷ []) k 0) None) same ∙ ap
              (λ k. get_or components k None) (new_at q ∙ sym w.3) ∙ a.part w.0 w.1 ∙ w.2 ∙ sym is ∙ ap (part_of parts) (sym same)
          | inr other ↦ (let l : s < n = omega (arith, h, other) in ap (λ k. get_or components k None) (old_at q s l) ∙ a.part s l)
        ];
        given = λ j r e'. (let v = a.given j r e' in (v.0, omega (arith, v.1), v.2, old_at q v.0 v.1 ∙ v.3));
        fresh = λ j s e' h at. elim (cases_eq s n) [
          | inl same ↦ some≢none q (sym e ∙ ap (λ k. get_or first k None) (some-same i j (sym is ∙ ap (part_of parts) (sym same) ∙ at)) ∙ e')
          | inr other ↦ a.fresh j s e' (omega (arith, h, other)) at
        ];
        single = λ s t hs ht none e'. elim (cases_eq s n) [
          | inl same ↦ absurd (some≢none i (sym is ∙ ap (part_of parts) (sym same) ∙ none))
          | inr other ↦
              (let ls : s < n = omega (arith, hs, other) in
              elim (cases_eq t n) [
                | inl last ↦
                    (let same : get_or nodes s 0 ≡ get_or nodes w.0 0 = sym (old_at q s ls) ∙ e' ∙ ap (λ k. get_or (nodes ++ q ∷ []) k 0) last ∙ new_at q ∙ sym w.3 in
                    absurd (some≢none i (sym w.2 ∙ sym (a.part w.0 w.1) ∙ ap (λ k. get_or components k None) (sym same) ∙ a.part s ls ∙ none)))
                | inr also ↦ (let lt : t < n = omega (arith, ht, also) in a.single s t ls lt none (sym (old_at q s ls) ∙ e' ∙ old_at q t lt))
              ])
        ];
        joined = λ s t j hs ht es et. elim (cases_eq s n) [
          | inl same ↦ (let ij : i ≡ j = some-same i j (sym is ∙ ap (part_of parts) (sym same) ∙ es) in to_q s hs (es ∙ ap Some (sym ij)) ∙ sym (to_q t ht (et ∙ ap Some (sym ij))))
          | inr other ↦ (elim (cases_eq t n) [
            | inl last ↦ (let ij : i ≡ j = some-same i j (sym is ∙ ap (part_of parts) (sym last) ∙ et) in to_q s hs (es ∙ ap Some (sym ij)) ∙ sym (to_q t ht (et ∙ ap Some (sym ij))))
            | inr also ↦
                (let ls : s < n = omega (arith, hs, other) in
                let lt : t < n = omega (arith, ht, also) in
                old_at q s ls ∙ a.joined s t j ls lt es et ∙ sym (old_at q t lt))
          ])
        ];
      } where
        to_q : (s : ℕ) → s < n + 1 → part_of parts s ≡ Some i → get_or (nodes ++ q ∷ []) s 0 ≡ q
        to_q s h at = elim (cases_eq s n) [
          | inl same ↦ ap (λ k. get_or (nodes ++ q ∷ []) k 0) same ∙ new_at q
          | inr other ↦
              (let w = a.given i q e in
              let l : s < n = omega (arith, h, other) in
              old_at q s l ∙ a.joined s w.0 i l w.1 at w.2 ∙ w.3)
        ]

  -- the next state has a node of its own
  pub new_more : (more : List (Option ℕ)) → ((i : ℕ) → part_of parts n ≡ Some i → get_or first i None ≡ None) → length more ≡ length first
      → ((i : ℕ) → part_of parts n ≡ Some i → get_or more i None ≡ Some (length components))
      → ((j : ℕ) → (part_of parts n ≡ Some j → ⊥) → get_or more j None ≡ get_or first j None)
      → IsNumbering parts (n + 1) (nodes ++ length components ∷ []) (components ++ part_of parts n ∷ []) more
  new_more more unseen room here there = record {
    count = length-more nodes (length components) ∙ omega (arith, a.count);
    numbered = numbered-more nodes (length components) a.numbered (omega (arith, a.next));
    next =
        nodes-more nodes (length components) ∙ ap (λ (b : Bool). cond b (nodes_in nodes) (nodes_in nodes + 1)) (le-ltb (length components) (nodes_in nodes) (omega (arith, a.next)))
        ∙ omega (arith, a.next, length-more components (part_of parts n));
    few = omega (arith, a.few, length-more components (part_of parts n));
    room = room ∙ a.room;
    part = λ s h. elim (cases_eq s n) [
      | inl same ↦
          ap (λ k. get_or (components ++ part_of parts n ∷ []) (get_or (nodes ++ length components ∷ []) k 0) None) same ∙ ap
          (λ k. get_or (components ++ part_of parts n ∷ []) k None) (new_at (length components)) ∙ at_last components (part_of parts n) None
          ∙ ap (part_of parts) (sym same)
      | inr other ↦
          (let l : s < n = omega (arith, h, other) in
          ap (λ k. get_or (components ++ part_of parts n ∷ []) k None) (old_at (length components) s l) ∙ at_before components (part_of parts n) None (get_or nodes s 0) (node-below s l) ∙ a.part s l)
    ];
    given = λ j r e. from_more j r e (here_or j);
    fresh = λ j s e h at. elim (cases_eq s n) [
      | inl same ↦ some≢none (length components) (sym (here j (ap (part_of parts) (sym same) ∙ at)) ∙ e)
      | inr other ↦
          (elim (here_or j) [
            | inl it ↦ some≢none (length components) (sym (here j it) ∙ e)
            | inr not_it ↦ a.fresh j s (sym (there j not_it) ∙ e) (omega (arith, h, other)) at
          ])
    ];
    single = λ s t hs ht none e. elim (cases_eq s n) [
      | inl same ↦ (elim (cases_eq t n) [
        | inl last ↦ same ∙ sym last
        | inr also ↦ absurd
            (not_old t (omega (arith, ht, also)) (sym e ∙ ap (λ k. get_or (nodes ++ length components ∷ []) k 0) same ∙ new_at (length components)))
      ])
      | inr other ↦
          (let ls : s < n = omega (arith, hs, other) in
          elim (cases_eq t n) [
            | inl last ↦ absurd (not_old s ls (e ∙ ap (λ k. get_or (nodes ++ length components ∷ []) k 0) last ∙ new_at (length components)))
            | inr also ↦ (let lt : t < n = omega (arith, ht, also) in a.single s t ls lt none (sym (old_at (length components) s ls) ∙ e ∙ old_at (length components) t lt))
          ])
    ];
    joined = λ s t j hs ht es et. elim (cases_eq s n) [
      | inl same ↦ (elim (cases_eq t n) [
        | inl last ↦ ap (λ k. get_or (nodes ++ length components ∷ []) k 0) (same ∙ sym last)
        | inr also ↦ absurd (a.fresh j t (unseen j (ap (part_of parts) (sym same) ∙ es)) (omega (arith, ht, also)) et)
      ])
      | inr other ↦ (elim (cases_eq t n) [
        | inl last ↦ absurd (a.fresh j s (unseen j (ap (part_of parts) (sym last) ∙ et)) (omega (arith, hs, other)) es)
        | inr also ↦
            (let ls : s < n = omega (arith, hs, other) in
            let lt : t < n = omega (arith, ht, also) in
            old_at (length components) s ls ∙ a.joined s t j ls lt es et ∙ sym (old_at (length components) t lt))
      ])
    ];
  } where
    not_old : (s : ℕ) → s < n → get_or (nodes ++ length components ∷ []) s 0 ≡ length components → ⊥
    not_old s h e = let l = node-below s h in let k = old_at (length components) s h in omega (arith, l, k, e)

    here_or : (j : ℕ) → (part_of parts n ≡ Some j) ⊎ (part_of parts n ≡ Some j → ⊥)
    here_or j = by_number (case-number (part_of parts n)) where
      by_number : (part_of parts n ≡ None) ⊎ ((i : ℕ) × (part_of parts n ≡ Some i)) → (part_of parts n ≡ Some j) ⊎ (part_of parts n ≡ Some j → ⊥)
      by_number (inl none) = inr (λ e. some≢none j (sym e ∙ none))
      by_number (inr w) = elim (cases_eq w.0 j) [ inl same ↦ inl (w.1 ∙ ap Some same) | inr other ↦ inr (λ e. other (some-same w.0 j (sym w.1 ∙ e))) ]

    from_more : (j r : ℕ) → get_or more j None ≡ Some r → (part_of parts n ≡ Some j) ⊎ (part_of parts n ≡ Some j → ⊥)
        → (s : ℕ) × (s < n + 1) × (part_of parts s ≡ Some j) × (get_or (nodes ++ length components ∷ []) s 0 ≡ r)
    from_more j r e (inl it) = (n, omega arith, it, new_at (length components) ∙ some-same (length components) r (sym (here j it) ∙ e))
    from_more j r e (inr not_it) = let v = a.given j r (sym (there j not_it) ∙ e) in (v.0, omega (arith, v.1), v.2, old_at (length components) v.0 v.1 ∙ v.3)

  -- the nodes of all states
  pub all_numbered : length parts ≡ n → AreNodes parts nodes
  all_numbered e = record {
    count = a.count ∙ sym e;
    same = λ s t hs ht. (
      (λ same. by_part s t (omega (arith, hs, e)) (omega (arith, ht, e)) same (case-number (part_of parts s))),
      (λ o. shared s t (omega (arith, hs, e)) (omega (arith, ht, e)) o),
    );
    numbered = a.numbered;
  } where
    by_part : (s t : ℕ) → s < n → t < n → get_or nodes s 0 ≡ get_or nodes t 0 → (part_of parts s ≡ None) ⊎ ((i : ℕ) × (part_of parts s ≡ Some i)) → (s ≡ t) ⊎ ShareAPart parts s t
    by_part s t hs ht same (inl none) = inl (a.single s t hs ht none same)
    by_part s t hs ht same (inr w) = inr (w.0, w.1, sym (a.part t ht) ∙ ap (λ k. get_or components k None) (sym same) ∙ a.part s hs ∙ w.1)

    shared : (s t : ℕ) → s < n → t < n → (s ≡ t) ⊎ ShareAPart parts s t → get_or nodes s 0 ≡ get_or nodes t 0
    shared s t hs ht (inl same) = ap (λ k. get_or nodes k 0) same
    shared s t hs ht (inr w) = a.joined s t w.0 hs ht w.1 w.2

pub nothing_numbered : (parts first : List (Option ℕ)) → first ≡ replicate (count_of parts) None → IsNumbering parts 0 [] [] first
nothing_numbered parts first e = record {
  count = refl;
  numbered = refl;
  next = refl;
  few = omega arith;
  room = ap length e ∙ length-replicate (count_of parts) None;
  part = λ s h. absurd (omega (arith, h));
  given = λ i q is. absurd (some≢none q (sym is ∙ nowhere i));
  fresh = λ i s none h at. omega (arith, h);
  single = λ s t hs ht none same. absurd (omega (arith, hs));
  joined = λ s t i hs ht es et. absurd (omega (arith, hs));
} where
  nowhere : (i : ℕ) → get_or first i None ≡ None
  nowhere i = elim (cases_lt i (count_of parts)) [
    | inl h ↦ ap (λ (xs : List (Option ℕ)). get_or xs i None) e ∙ get_or-replicate (count_of parts) i None None h
    | inr past ↦ get_or_past first i None (let l = ap length e ∙ length-replicate {A = Option ℕ} (count_of parts) None in omega (arith, l, past))
  ]

pub if_below : (o : Option ℕ) (n : ℕ) → ((i : ℕ) → o ≡ Some i → i < n) → IfSome o (λ i. i < n)
if_below None n h = tt
if_below (Some i) n h = h i refl

-- each end component's number is below their count
pub part-below : (parts : List (Option ℕ)) (s : ℕ) → is_numbered 0 parts ≡ true → (i : ℕ) → part_of parts s ≡ Some i → i < count_of parts
part-below parts s e i is = numbered-below 0 parts s i e is
