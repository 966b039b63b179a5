-- From the last round of the search to the maximal end components.
use Rattle.std.proofs.Common.{◌≡◌, inl, inr, ℕ, ◌+◌, ◌<◌, ◌≤◌, Bool, true, false, nat_lt, cond, List, [], ◌∷◌, length, get_or, map, refl, sym, ap, ◌∙◌, arith, Option, Some, None}
use Rattle.std.proofs.{lemmas.Bool.{false≢true, cases_Bool}, lemmas.List.FromFn.{get_or-map-range_with_len, length-map-range_with_len}}
use Rattle.std.proofs.lemmas.List.{get_or-map, length-map}
use Rattle.std.specs.List.{range_with_len}
use Rattle.mdp_spec.specs.{Mdp.{Mdp, states_of, choices_at, row_at}, Row.{IsMdp}}
use Rattle.mdp_graph.specs.Layers.{rank_at}
use Rattle.mdp_graph.proofs.{Among.{cases_rank}, RankFacts.{some-same, none-some}}
use Rattle.mdp_ends.specs.{Walks.{AreComponents}, Ends.{part_of, stays_with, is_inside, AreEnds}, Rounds.{KeepsEnds, AreLeft}, Numbers.{count_from}}
use Rattle.mdp_ends.proofs.{Walking.{any-range, range-any}, Numbering.{numbered-below}, RoundLaws.{ends_found, allowed_inside, allowed_is_inside}}
use Rattle.mdp_parts.specs.{Allowed.{allowed_at, AreChoices}, FoundEnds.{AreEndsOf}, Round.{some_allowed, key_of, IsRound}, Numbered.{IsRenumbered}}
use Rattle.mdp_parts.proofs.Forbidding.{round_settled, round_same}

module _ (m : Mdp) (ok : IsMdp m) (old new : List (List Bool)) (parts : List ℕ) (keys numbers : List (Option ℕ)) (r : IsRound m parts old new false) (comp : AreComponents m
    (allowed_at old) parts) (keeps : KeepsEnds m (allowed_at old))
    (is : keys ≡ map (key_of m new parts) (range_with_len 0 (states_of m))) (n : IsRenumbered keys numbers) where
  many : length keys ≡ states_of m
  many = ap length is ∙ length-map-range_with_len (key_of m new parts) 0 (states_of m)

  in_keys : (s : ℕ) → s < states_of m → s < length keys
  in_keys s h = omega (arith, h, many)

  key_at : (s : ℕ) → s < states_of m → rank_at keys s ≡ key_of m new parts s
  key_at s h = ap (λ (xs : List (Option ℕ)). rank_at xs s) is ∙ get_or-map-range_with_len (key_of m new parts) 0 (states_of m) s s None h (omega arith)

  same_allowed : (s c : ℕ) → s < states_of m → c < length (choices_at m s) → allowed_at new s c ≡ allowed_at old s c
  same_allowed = round_same m parts old new false r refl

  has_key : (s : ℕ) → s < states_of m → some_allowed m new s ≡ true → rank_at keys s ≡ Some (get_or parts s 0)
  has_key s h e = key_at s h ∙ ap (λ b. cond b (Some (get_or parts s 0)) None) e

  no_key : (s : ℕ) → s < states_of m → some_allowed m new s ≡ false → rank_at keys s ≡ None
  no_key s h e = key_at s h ∙ ap (λ b. cond b (Some (get_or parts s 0)) None) e

  is_left : (s i : ℕ) → s < states_of m → part_of numbers s ≡ Some i → some_allowed m new s ≡ true
  is_left s i h e = elim (cases_Bool (some_allowed m new s)) [
    | inl it ↦ it
    | inr out ↦ absurd (none-some i (rank_at numbers s) (n.none s (in_keys s h) (no_key s h out)) e)
  ]

  left : AreLeft m (allowed_at old) parts numbers
  left = record {
    count = n.count ∙ many;
    none = λ s c h e l. (elim (cases_Bool (allowed_at old s c)) [
      | inr out ↦ out
      | inl it ↦
          (let any = range-any (allowed_at new s) (length (choices_at m s)) c l (same_allowed s c h l ∙ it) in
          let w = n.some s (get_or parts s 0) (in_keys s h) (has_key s h any) in absurd (none-some w.0 (rank_at numbers s) e w.1))
    ]);
    some = λ s i h e. (let w = any-range (allowed_at new s) (length (choices_at m s)) (is_left s i h e) in (w.0, w.1, sym (same_allowed s w.0 h w.1) ∙ w.2));
    same = λ s t i j hs ht es et. n.same s t (get_or parts s 0) (get_or parts t 0) i j (in_keys s hs) (in_keys t ht) (has_key s hs (is_left s i hs es)) (has_key t ht (is_left t j ht et)) es et;
    numbered = n.in_order;
  }

  pub ends_are : AreEnds m numbers
  ends_are = ends_found m ok (allowed_at old) parts comp keeps (round_settled m parts old new false r refl) numbers left

  inner_is : (s c : ℕ) → s < states_of m → c < length (choices_at m s) → allowed_at new s c ≡ is_inside m numbers s c
  inner_is s c h l = elim (cases_rank (part_of numbers s)) [
    | inl none ↦ same_allowed s c h l ∙ left.none s c h none l ∙ sym (ap (λ o. stays_with numbers o (row_at m s c)) none)
    | inr w ↦ (elim (cases_Bool (allowed_at old s c)) [
      | inl it ↦ same_allowed s c h l ∙ it ∙ sym (allowed_inside m ok (allowed_at old) parts comp keeps (round_settled m parts old new false r refl) numbers left s c w.0 h w.1 l it)
      | inr out ↦ (elim (cases_Bool (is_inside m numbers s c)) [
        | inr no_way ↦ same_allowed s c h l ∙ out ∙ sym no_way
        | inl inside ↦
            absurd (false≢true (sym out ∙ allowed_is_inside m ok (allowed_at old) parts comp keeps (round_settled m parts old new false r refl) numbers left s c w.0 h w.1 l inside))
      ])
    ])
  ]

  pub found : AreEndsOf m (record { parts = numbers; inner = new })
  found = record { ends = ends_are; count = AreChoices.count (IsRound.sizes r); width = AreChoices.width (IsRound.sizes r); inner = inner_is }

-- ---- the numbers of components, and the keys, are below the number of states

count-le : (next : ℕ) (xs : List (Option ℕ)) → count_from next xs ≤ next + length xs
count-le next [] = omega arith
count-le next (None ∷ xs) = let l = count-le next xs in omega (arith, l)
count-le next (Some j ∷ xs) = elim (cases_Bool (nat_lt j next)) [
  | inl e ↦ rw e (let l = count-le next xs in omega (arith, l))
  | inr e ↦ rw e (let l = count-le (next + 1) xs in omega (arith, l))
]

pub part-below : (m : Mdp) (allowed : ℕ → ℕ → Bool) (parts : List ℕ) → AreComponents m allowed parts → (s : ℕ) → s < states_of m → get_or parts s 0 < states_of m
part-below m allowed parts comp s h =
    let at : get_or (map Some parts) s None ≡ Some (get_or parts s 0) = get_or-map Some parts s 0 None (omega (arith, h, comp.count)) in
    let l = numbered-below 0 (map Some parts) s (get_or parts s 0) comp.numbered at in
    let k = count-le 0 (map Some parts) in
    let n = length-map parts (λ (j : ℕ). Some j) in
    omega (arith, l, k, n, comp.count)

pub key-below : (m : Mdp) (new : List (List Bool)) (allowed : ℕ → ℕ → Bool) (parts : List ℕ) (keys : List (Option ℕ)) → AreComponents m allowed parts
    → keys ≡ map (key_of m new parts) (range_with_len 0 (states_of m))
    → (s k : ℕ) → s < length keys → rank_at keys s ≡ Some k → k < states_of m
key-below m new allowed parts keys comp is s k h e =
    let n = ap length is ∙ length-map-range_with_len (key_of m new parts) 0 (states_of m) in
    let hs : s < states_of m = omega (arith, h, n) in
    let at : rank_at keys s ≡ key_of m new parts s = ap (λ (xs : List (Option ℕ)). rank_at xs s) is ∙ get_or-map-range_with_len (key_of m new parts) 0 (states_of m) s s None hs (omega arith) in
    let b = part-below m allowed parts comp s hs in
    elim (cases_Bool (some_allowed m new s)) [
      | inl some ↦ (let same = some-same k (get_or parts s 0) (rank_at keys s) e (at ∙ ap (λ b. cond b (Some (get_or parts s 0)) None) some) in omega (arith, same, b))
      | inr none ↦ absurd (none-some k (rank_at keys s) (at ∙ ap (λ b. cond b (Some (get_or parts s 0)) None) none) e)
    ]
