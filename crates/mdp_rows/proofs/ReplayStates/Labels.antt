-- The labels of a state, given in the order of their places, make these places, and the names so far are the first of the model's.
use Rattle.std.proofs.Common.{◌≡◌, ℕ, zero, suc, ◌+◌, ◌≤◌, ◌<◌, Bool, true, false, not, ◌||◌, IsTrue, leb, ltb, le-ltb, eqb, List, [], ◌∷◌, ◌++◌, length, take, get_or}
use Rattle.std.proofs.Common.{Some, refl, sym, ap, ap₂, ◌∙◌, subst, arith, if◌then◌else◌, append_assoc, append-nil, inl, inr}
use Rattle.std.proofs.lemmas.Bool.{ne_eqb, eq-eqb, eqb-true, lt-leb, cases_lt, not-true, or_from, or_parts}
use Rattle.std.proofs.{lemmas.List.{get_or-take, length-take, length-take-le, take_more}, lemmas.List.Sums.{position_or_len_is}}
use Rattle.std.proofs.lemmas.Slice.Eq.{bytes_eq-Decides}
use Rattle.std.specs.{Prelude.{Result, Ok, Err}, List.{AllByRecursion, list_any, position_or_len}, Str.{bytes_eq}}
use Rattle.mdp_math.proofs.Booleans.{and-left, and-right}
use Rattle.mdp_spec.specs.Mdp.{State}
use Rattle.mdp_rows.specs.{Name.{are_different}, Limits.{places_ascend, known_after, all_below}}
use Rattle.mdp_rows.specs.{Draft.{Draft, OpenState, with_name, with_place, after_label, ◌>>=◌}, Replay.{with_labels}, declared.error.RowsError.{RowsError}}
use Rattle.mdp_rows.specs.declared.error.RowsError.TheVariants.{TooMany}
use Rattle.mdp_rows.proofs.SoundCalls.Labels.{ascend_head, ascend_tail, below_head, below_tail, known_above, known_skip}
use Rattle.mdp_rows.proofs.{SoundCalls.Names.{some_passes, none_passes, known_name, new_name, other_way}, ReplayStates.Rows.{draft_of}}

-- ---- different names at different places

differs_from : (name : List ℕ) (names : List (List ℕ)) (k : ℕ) → list_any (bytes_eq name) names ≡ false → k < length names → bytes_eq name (get_or names k []) ≡ false
differs_from name [] k e h = absurd (omega arith)
differs_from name (x ∷ names) zero e h = (or_parts (bytes_eq name x) (list_any (bytes_eq name) names) e).0
differs_from name (x ∷ names) (suc k) e h = differs_from name names k (or_parts (bytes_eq name x) (list_any (bytes_eq name) names) e).1 (omega arith)

different_at : (names : List (List ℕ)) (i j : ℕ) → IsTrue (are_different names) → i < j → j < length names → bytes_eq (get_or names i []) (get_or names j []) ≡ false
different_at [] i j d l h = absurd (omega arith)
different_at (x ∷ names) i zero d l h = absurd (omega arith)
different_at (x ∷ names) zero (suc j) d l h =
    differs_from x names j (not-true (list_any (bytes_eq x) names) (and-left (not (list_any (bytes_eq x) names)) (are_different names) d)) (omega arith)
different_at (x ∷ names) (suc i) (suc j) d l h = different_at names i j (and-right (not (list_any (bytes_eq x) names)) (are_different names) d) (omega arith) (omega arith)

-- ---- the place of a name among the first n

module _ (labels : List (List ℕ)) (n l : ℕ) (different : IsTrue (are_different labels)) (few : n ≤ length labels) (inside : l < length labels) (known : l ≤ n) where
  first_len : length (take n labels) ≡ n
  first_len = length-take-le n labels few

  place_is : position_or_len (bytes_eq (get_or labels l [])) (take n labels) ≡ l
  place_is =
      position_or_len_is (bytes_eq (get_or labels l [])) (take n labels) l [] (let e = first_len in omega arith)
      (λ k h.
      ap (bytes_eq (get_or labels l [])) (get_or-take n labels k [] (omega arith))
      ∙ other_way (get_or labels k []) (get_or labels l []) (different_at labels k l different h inside))
      (λ h.
      ap (bytes_eq (get_or labels l [])) (get_or-take n labels l [] (let e = first_len in omega arith))
      ∙ (bytes_eq-Decides (get_or labels l []) (get_or labels l [])).1 refl)

  -- a new one comes next
  names_are : with_name (take n labels) (get_or labels l []) ≡ take (if eqb l n then n + 1 else n) labels
  names_are = elim (cases_lt l n) as (λ _. with_name (take n labels) (get_or labels l []) ≡ take (if eqb l n then n + 1 else n) labels) [
    | inl h ↦
        known_name (take n labels) (get_or labels l [])
        (some_passes (bytes_eq (get_or labels l [])) (take n labels) (let e = first_len in let p = place_is in omega arith))
        ∙ ap (λ (b : Bool). take (if b then n + 1 else n) labels) (sym (ne_eqb l n (λ e. omega arith)))
    | inr h ↦
        (let s : l ≡ n = omega arith in
        new_name (take n labels) (get_or labels l [])
        (none_passes (bytes_eq (get_or labels l [])) (take n labels) (let e = first_len in let p = place_is in omega arith))
        ∙ ap (λ (i : ℕ). take n labels ++ get_or labels i [] ∷ []) s
        ∙ sym (take_more labels n [] (omega arith))
        ∙ ap (λ (b : Bool). take (if b then n + 1 else n) labels) (sym (eq-eqb l n s)))
  ]

-- ---- places that ascend

reaches : (low : ℕ) (places : List ℕ) (l : ℕ) (rest : List ℕ) → IsTrue (places_ascend low (places ++ l ∷ rest)) → low ≤ l
reaches low [] l rest a = ascend_head low l rest a
reaches low (k ∷ places) l rest a =
    let f = ascend_head low k (places ++ l ∷ rest) a in
    let g = reaches (k + 1) places l rest (ascend_tail low k (places ++ l ∷ rest) a) in
    omega arith

all_before : (low : ℕ) (places : List ℕ) (l : ℕ) (rest : List ℕ) → IsTrue (places_ascend low (places ++ l ∷ rest)) → AllByRecursion (λ k. k < l) places
all_before low [] l rest a = tt
all_before low (k ∷ places) l rest a =
    let t = ascend_tail low k (places ++ l ∷ rest) a in
    (let g = reaches (k + 1) places l rest t in omega arith, all_before (k + 1) places l rest t)

rest_ascends : (low : ℕ) (places : List ℕ) (l : ℕ) (rest : List ℕ) → IsTrue (places_ascend low (places ++ l ∷ rest)) → IsTrue (places_ascend (l + 1) rest)
rest_ascends low [] l rest a = ascend_tail low l rest a
rest_ascends low (k ∷ places) l rest a = rest_ascends (k + 1) places l rest (ascend_tail low k (places ++ l ∷ rest) a)

goes_last : (l : ℕ) (places : List ℕ) → AllByRecursion (λ k. k < l) places → with_place l places ≡ places ++ l ∷ []
goes_last l [] all = refl
goes_last l (k ∷ places) all =
    let h : k < l = all.0 in
    ap₂ (λ (a b : Bool). if a then k ∷ places else (if b then l ∷ k ∷ places else k ∷ with_place l places)) (ne_eqb l k (λ e. omega arith)) (le-ltb l k (omega arith))
    ∙ ap (λ (r : List ℕ). k ∷ r) (goes_last l places all.1)

-- a label that is known after the state is known before, or the next
known_or_next : (n l : ℕ) (rest : List ℕ) → IsTrue (places_ascend (l + 1) rest) → l < known_after n (l ∷ rest) → l ≤ n
known_or_next n l rest a h = elim (cases_lt n l) as (λ _. l ≤ n) [
  | inl k ↦ (let e = known_skip n l rest (λ e. omega arith) in let f = known_above n (l + 1) rest (omega arith) a in omega arith)
  | inr k ↦ k
]

-- ---- the labels

module _ (announced : ℕ) (names labels : List (List ℕ)) (closed : List State) (o : OpenState) (entries : ℕ) (different : IsTrue (are_different labels)) (few : length labels ≤ 1024) where
  abbrev labelled : ℕ → List ℕ → ℕ → Draft
  labelled n places calls = draft_of announced names (take n labels) closed (Some (record o { labels = places; label_calls = calls })) entries

  one_label : (n l calls : ℕ) (places : List ℕ) → n ≤ length labels → l < length labels → l ≤ n → AllByRecursion (λ k. k < l) places → calls < 64
      → after_label (labelled n places calls) (get_or labels l []) ≡ Ok (labelled (if eqb l n then n + 1 else n) (places ++ l ∷ []) (calls + 1))
  one_label n l calls places h i k all room =
      let name : List ℕ = get_or labels l [] in
      let v : List (List ℕ) → List ℕ → Draft = λ ns ps. draft_of announced names ns closed (Some (record o { labels = ps; label_calls = calls + 1 })) entries in
      let m : with_name (take n labels) name ≡ take (if eqb l n then n + 1 else n) labels = names_are labels n l different h i k in
      let small : length (take (if eqb l n then n + 1 else n) labels) ≤ 1024 = take_le (if eqb l n then n + 1 else n) labels few in
      let test : (leb 64 calls || ltb 1024 (length (with_name (take n labels) name))) ≡ false =
      or_from (leb 64 calls) (ltb 1024 (length (with_name (take n labels) name))) (lt-leb 64 calls room)
      (ap (λ (ns : List (List ℕ)). ltb 1024 (length ns)) m ∙ le-ltb 1024 (length (take (if eqb l n then n + 1 else n) labels)) small)
      in
      ap (λ (b : Bool). if b then Err TooMany else Ok (v (with_name (take n labels) name) (with_place (position_or_len (bytes_eq name) (take n labels)) places))) test
      ∙ ap₂ (λ (ns : List (List ℕ)) (ps : List ℕ). Ok (v ns ps)) m (ap (λ (p : ℕ). with_place p places) (place_is labels n l different h i k) ∙ goes_last l places all)
    where
      take_le : (i : ℕ) (xs : List (List ℕ)) → length xs ≤ 1024 → length (take i xs) ≤ 1024
      take_le i xs h = simp length-take (omega arith)

  pub all_labels : (n : ℕ) (places rest : List ℕ) (calls : ℕ) → IsTrue (places_ascend 0 (places ++ rest)) → IsTrue (all_below (known_after n rest) rest) → n ≤ length labels
      → known_after n rest ≤ length labels → calls + length rest ≤ 64
      → with_labels labels rest (labelled n places calls) ≡ Ok (labelled (known_after n rest) (places ++ rest) (calls + length rest))
  all_labels n places [] calls a b h k room = ap₂ (λ (ps : List ℕ) (c : ℕ). Ok (labelled n ps c)) (sym (append-nil places)) (omega arith)
  all_labels n places (l ∷ rest) calls a b h k room =
      let below : l < known_after n (l ∷ rest) = below_head (known_after n (l ∷ rest)) l rest b in
      let known : l ≤ n = known_or_next n l rest (rest_ascends 0 places l rest a) below in
      let same : (places ++ l ∷ []) ++ rest ≡ places ++ l ∷ rest = append_assoc places (l ∷ []) rest in
      let next : (if eqb l n then n + 1 else n) ≤ length labels = next_le l n (length labels) (omega arith) h in
      ap (λ (r : Result Draft RowsError). r >>= with_labels labels rest) (one_label n l calls places h (omega arith) known (all_before 0 places l rest a) (omega arith))
      ∙ all_labels (if eqb l n then n + 1 else n) (places ++ l ∷ []) rest (calls + 1) (subst (λ (ps : List ℕ). IsTrue (places_ascend 0 ps)) (sym same) a)
      (below_tail (known_after n (l ∷ rest)) l rest b) next k (omega arith)
      ∙ ap₂ (λ (ps : List ℕ) (c : ℕ). Ok (labelled (known_after n (l ∷ rest)) ps c)) same (omega arith)
    where
      next_by : (b : Bool) (l n m : ℕ) → eqb l n ≡ b → l < m → n ≤ m → (if b then n + 1 else n) ≤ m
      next_by true l n m e h k = let s = eqb-true l n e in omega arith
      next_by false l n m e h k = k

      next_le : (l n m : ℕ) → l < m → n ≤ m → (if eqb l n then n + 1 else n) ≤ m
      next_le l n m h k = next_by (eqb l n) l n m refl h k
