-- The sums of a row's entries to each node: none yet, one entry more, and the merged row that they make.
use Rattle.std.proofs.Common.{◌≡◌, ◌≢◌, ◌⊎◌, inl, inr, ℕ, zero, suc, ◌+◌, ◌<◌, ◌≤◌, Bool, true, false, not, ◌==◌, cond, List}
use Rattle.std.proofs.Common.{[], ◌∷◌, ◌++◌, length, take, get_or, map, filter, refl, sym, ap, ap₂, ◌∙◌, subst, arith, Some, None, is_some}
use Rattle.std.proofs.lemmas.Bool.{cases_Bool, cases_eq, false≢true, eq-eqb, ne_eqb, not-true, not_from_false, cases_lt}
use Rattle.std.proofs.{lemmas.List.Sorted.{sum_by-IsPermutation, All-permutation}, lemmas.List.Sums.{sum_by_push}}
use Rattle.std.proofs.lemmas.List.Elements.{All-push, All-nil, All-take}
use Rattle.std.proofs.lemmas.List.{get_or-set_same, get_or-set_other, length-set, take_more, get_or_past, take_all as take_whole}
use Rattle.std.specs.{List.{range_with_len, All}, List.Sorted.{IsNonDecreasing, IsPermutation}, Prelude.{slice_set}}
use Rattle.mdp_math.specs.{Rational.{ℚ, ◌+ℚ◌, ◌≤ℚ◌, ◌<ℚ◌, le_ℚ}, Written.{written_add}}
use Rattle.mdp_math.proofs.{Extremes.{le_of_test, gt_of_test}, Kernel.{All-head, All-tail}, Laws.{+ℚ_comm, zero-+ℚ}}
use Rattle.mdp_math.proofs.{Order.{0ℚ, ≤ℚ_refl, ≤ℚ_of_lt, ≤ℚ_antisymm, add-pos-nonneg, clash_ℚ, ne-zero_of_pos}, Sums.{sum_of-append}}
use Rattle.mdp_spec.specs.{Mdp.{Entry, value_at}, Row.{entries, IsDistribution, IsRow}, Unit.{row_den}}
use Rattle.mdp_ends.specs.Quotient.{mass_in, merged}
use Rattle.mdp_ends.proofs.MergedRows.{mass-nonneg, merged_row}
use Rattle.mdp_num.specs.Numeral.{limit}
use Rattle.mdp_quot.specs.Sums.{times, mass_at, AreSums, IsClear}
use Rattle.mdp_quot.proofs.{Fitting.{entry_fits}, Ranges.{AreThose, range_is, place_of_times}}

-- ---- the entries that two lists spell

pub length-entries : (ts : List ℕ) (ps : List ℚ) → length ts ≡ length ps → length (entries ts ps) ≡ length ts
length-entries [] ps e = refl
length-entries (t ∷ ts) [] e = absurd (omega (arith, e))
length-entries (t ∷ ts) (p ∷ ps) e = ap suc (length-entries ts ps (omega (arith, e)))

pub entry_at : (ts : List ℕ) (ps : List ℚ) (i : ℕ) (d : Entry) → length ts ≡ length ps → i < length ts → get_or (entries ts ps) i d ≡ record { target = get_or ts i 0; prob = get_or ps i 0ℚ }
entry_at [] ps i d e h = absurd (omega (arith, h))
entry_at (t ∷ ts) [] i d e h = absurd (omega (arith, e))
entry_at (t ∷ ts) (p ∷ ps) zero d e h = refl
entry_at (t ∷ ts) (p ∷ ps) (suc i) d e h = entry_at ts ps i d (omega (arith, e)) (omega (arith, h))

pub entries_by : (ts : List ℕ) (f : ℕ → ℚ) → entries ts (map f ts) ≡ map (λ q. record { target = q; prob = f q }) ts
entries_by [] f = refl
entries_by (t ∷ ts) f = ap (λ (xs : List Entry). record { target = t; prob = f t } ∷ xs) (entries_by ts f)

-- ---- no entries

is_zero-true : le_ℚ 0ℚ 0ℚ ≡ true
is_zero-true = elim (cases_Bool (le_ℚ 0ℚ 0ℚ)) [ inl e ↦ e | inr e ↦ absurd (clash_ℚ 0ℚ 0ℚ (gt_of_test 0ℚ 0ℚ e) (≤ℚ_refl 0ℚ)) ]

pub no_sums : (n : ℕ) (node : ℕ → ℕ) (sums : List ℚ) → length sums ≡ n → ((q : ℕ) → q < n → value_at sums q ≡ 0ℚ) → AreSums n node [] sums []
no_sums n node sums e zeros = record { count = e; each = λ q h. zeros q h; below = All-nil (λ q. q < n); once = λ q. sym (ap (λ (b : Bool). cond b 0 1) is_zero-true) }

-- ---- one more entry

pub mass-more : (set : ℕ → Bool) (row : List Entry) (x : Entry) → mass_in set (row ++ x ∷ []) ≡ mass_in set row +ℚ cond (set x.target) x.prob 0ℚ
mass-more set row x = sum_of-append (λ (y : Entry). cond (set y.target) y.prob 0ℚ) row (x ∷ []) ∙ ap
    (λ (z : ℚ). mass_in set row +ℚ z) (+ℚ_comm (cond (set x.target) x.prob 0ℚ) 0ℚ ∙ zero-+ℚ (cond (set x.target) x.prob 0ℚ))

not_le : (x : ℚ) → 0ℚ <ℚ x → le_ℚ x 0ℚ ≡ false
not_le x h = elim (cases_Bool (le_ℚ x 0ℚ)) [ inl e ↦ absurd (clash_ℚ 0ℚ x h (le_of_test x 0ℚ e)) | inr e ↦ e ]

module _ (node : ℕ → ℕ) (row : List Entry) (x : Entry) (nonneg : All (λ y. 0ℚ ≤ℚ y.prob) row) (positive : 0ℚ <ℚ x.prob) where
  mass-here : mass_at node (row ++ x ∷ []) (node x.target) ≡ mass_at node row (node x.target) +ℚ x.prob
  mass-here = mass-more (λ t. node t == node x.target) row x ∙ ap (λ (b : Bool). mass_at node row (node x.target) +ℚ cond b x.prob 0ℚ) (eq-eqb (node x.target) (node x.target) refl)

  mass-there : (q : ℕ) → (node x.target ≡ q → ⊥) → mass_at node (row ++ x ∷ []) q ≡ mass_at node row q
  mass-there q other =
      mass-more (λ t. node t == q) row x ∙ ap (λ (b : Bool). mass_at node row q +ℚ cond b x.prob 0ℚ) (ne_eqb (node x.target) q other)
      ∙ +ℚ_comm (mass_at node row q) 0ℚ ∙ zero-+ℚ (mass_at node row q)

  here-positive : le_ℚ (mass_at node (row ++ x ∷ []) (node x.target)) 0ℚ ≡ false
  here-positive = not_le (mass_at node (row ++ x ∷ []) (node x.target)) (subst (λ (z : ℚ). 0ℚ <ℚ z) (+ℚ_comm x.prob (mass_at node row (node x.target)) ∙ sym mass-here)
      (add-pos-nonneg x.prob (mass_at node row (node x.target)) positive (mass-nonneg (λ t. node t == node x.target) row nonneg)))

  pub sums_more : (n : ℕ) (sums new : List ℚ) (seen more : List ℕ) → AreSums n node row sums seen → node x.target < n
      → new ≡ slice_set sums (node x.target) (value_at sums (node x.target) +ℚ x.prob)
      → (value_at sums (node x.target) ≡ 0ℚ → more ≡ seen ++ node x.target ∷ [])
      → (value_at sums (node x.target) ≢ 0ℚ → more ≡ seen) → AreSums n node (row ++ x ∷ []) new more
  sums_more n sums new seen more a low is first later = record {
    count = ap length is ∙ length-set sums (node x.target) (value_at sums (node x.target) +ℚ x.prob) ∙ a.count;
    each = λ q h. ap (λ (zs : List ℚ). value_at zs q) is
        ∙ (elim (cases_eq (node x.target) q) as (λ _. value_at (slice_set sums (node x.target) (value_at sums (node x.target) +ℚ x.prob)) q ≡ mass_at node (row ++ x ∷ []) q) [
          | inl same ↦ subst (λ k. value_at (slice_set sums (node x.target) (value_at sums (node x.target) +ℚ x.prob)) k ≡ mass_at node (row ++ x ∷ []) k) same here
          | inr other ↦ get_or-set_other sums (node x.target) q (value_at sums (node x.target) +ℚ x.prob) 0ℚ (λ e. other (sym e)) ∙ a.each q h ∙ sym (mass-there q other)
        ]);
    below = elim cases [
      | inl empty ↦ subst (λ (qs : List ℕ). All (λ q. q < n) qs) (sym (more-first empty)) (All-push (λ q. q < n) seen (node x.target) a.below low)
      | inr full ↦ subst (λ (qs : List ℕ). All (λ q. q < n) qs) (sym (more-later full)) a.below
    ];
    once = λ q. elim (cases_eq (node x.target) q) [
      | inl same ↦ subst (λ k. times k more ≡ cond (le_ℚ (mass_at node (row ++ x ∷ []) k) 0ℚ) 0 1) same once-here
      | inr other ↦ once-there q other
    ];
  } where
    here : value_at (slice_set sums (node x.target) (value_at sums (node x.target) +ℚ x.prob)) (node x.target) ≡ mass_at node (row ++ x ∷ []) (node x.target)
    here = get_or-set_same sums (node x.target) (value_at sums (node x.target) +ℚ x.prob) 0ℚ (omega (arith, low, a.count)) ∙ ap (λ (z : ℚ). z +ℚ x.prob) (a.each (node x.target) low) ∙ sym mass-here

    cases : (le_ℚ (mass_at node row (node x.target)) 0ℚ ≡ true) ⊎ (le_ℚ (mass_at node row (node x.target)) 0ℚ ≡ false)
    cases = cases_Bool (le_ℚ (mass_at node row (node x.target)) 0ℚ)

    more-first : le_ℚ (mass_at node row (node x.target)) 0ℚ ≡ true → more ≡ seen ++ node x.target ∷ []
    more-first empty = first (a.each (node x.target) low ∙ ≤ℚ_antisymm (mass_at node row (node x.target)) 0ℚ
        (le_of_test (mass_at node row (node x.target)) 0ℚ empty) (mass-nonneg (λ t. node t == node x.target) row nonneg))

    more-later : le_ℚ (mass_at node row (node x.target)) 0ℚ ≡ false → more ≡ seen
    more-later full = later (λ z. ne-zero_of_pos (mass_at node row (node x.target)) (gt_of_test (mass_at node row (node x.target)) 0ℚ full) (sym (a.each (node x.target) low) ∙ z))

    now-one : ◌≡◌ {A = ℕ} (cond (le_ℚ (mass_at node (row ++ x ∷ []) (node x.target)) 0ℚ) 0 1) 1
    now-one = ap (λ (b : Bool). cond b 0 1) here-positive

    once-here : times (node x.target) more ≡ cond (le_ℚ (mass_at node (row ++ x ∷ []) (node x.target)) 0ℚ) 0 1
    once-here = elim cases as (λ _. times (node x.target) more ≡ cond (le_ℚ (mass_at node (row ++ x ∷ []) (node x.target)) 0ℚ) 0 1) [
      | inl empty ↦
          (let none : times (node x.target) seen ≡ 0 = a.once (node x.target) ∙ ap (λ (b : Bool). cond b 0 1) empty in
          let one : ◌≡◌ {A = ℕ} (cond (node x.target == node x.target) 1 0) 1 = ap (λ (b : Bool). cond b 1 0) (eq-eqb (node x.target) (node x.target) refl) in
          let e = sum_by_push (λ y. cond (y == node x.target) 1 0) seen (node x.target) in
          ap (times (node x.target)) (more-first empty) ∙ omega (arith, e, none, one) ∙ sym now-one)
      | inr full ↦ ap (times (node x.target)) (more-later full) ∙ a.once (node x.target) ∙ ap (λ (b : Bool). cond b 0 1) full ∙ sym now-one
    ]

    once-there : (q : ℕ) → (node x.target ≡ q → ⊥) → times q more ≡ cond (le_ℚ (mass_at node (row ++ x ∷ []) q) 0ℚ) 0 1
    once-there q other = times-there ∙ a.once q ∙ ap (λ (z : ℚ). cond (le_ℚ z 0ℚ) 0 1) (sym (mass-there q other)) where
      times-there : times q more ≡ times q seen
      times-there = elim cases as (λ _. times q more ≡ times q seen) [
        | inl empty ↦
            (let none : ◌≡◌ {A = ℕ} (cond (node x.target == q) 1 0) 0 = ap (λ (b : Bool). cond b 1 0) (ne_eqb (node x.target) q other) in
            let e = sum_by_push (λ y. cond (y == q) 1 0) seen (node x.target) in
            ap (times q) (more-first empty) ∙ omega (arith, e, none))
        | inr full ↦ ap (times q) (more-later full)
      ]

-- ---- the merged row

filter-map : (p : Entry → Bool) (f : ℕ → Entry) (xs : List ℕ) → filter p (map f xs) ≡ map f (filter (λ q. p (f q)) xs)
filter-map p f [] = refl
filter-map p f (x ∷ xs) = elim (cases_Bool (p (f x))) as (λ _. filter p (map f (x ∷ xs)) ≡ map f (filter (λ q. p (f q)) (x ∷ xs))) [
  | inl e ↦ rw e (ap (λ (ys : List Entry). f x ∷ ys) (filter-map p f xs))
  | inr e ↦ rw e (filter-map p f xs)
]

map-same : (f g : ℕ → ℚ) (xs : List ℕ) → All (λ q. f q ≡ g q) xs → map f xs ≡ map g xs
map-same f g [] h = refl
map-same f g (x ∷ xs) h = ap₂ (λ (z : ℚ) (zs : List ℚ). z ∷ zs) (All-head (λ q. f q ≡ g q) x xs h) (map-same f g xs (All-tail (λ q. f q ≡ g q) x xs h))

pub merged_is : (n : ℕ) (node : ℕ → ℕ) (row : List Entry) (sums : List ℚ) (seen sorted : List ℕ) → AreSums n node row sums seen → IsPermutation seen sorted → IsNonDecreasing sorted
    → entries sorted (map (value_at sums) sorted) ≡ merged n node row
merged_is n node row sums seen sorted a moved up =
    ap (entries sorted) (map-same (value_at sums) (mass_at node row) sorted (λ k d l. a.each (get_or sorted k d) (All-permutation (λ q. q < n) seen sorted moved a.below k d l)))
    ∙ entries_by sorted (mass_at node row)
    ∙ ap (map (λ q. record { target = q; prob = mass_at node row q })) (sym (range_is (λ q. not (le_ℚ (mass_at node row q) 0ℚ)) n 0 sorted up those))
    ∙ sym (filter-map (λ y. not (le_ℚ y.prob 0ℚ)) (λ q. record { target = q; prob = mass_at node row q }) (range_with_len 0 n)) where
      count : (q : ℕ) → times q sorted ≡ cond (le_ℚ (mass_at node row q) 0ℚ) 0 1
      count q = sum_by-IsPermutation (λ x. cond (x == q) 1 0) seen sorted moved ∙ a.once q

      those : AreThose (λ q. not (le_ℚ (mass_at node row q) 0ℚ)) 0 n sorted
      those = record {
        once = λ q low high is. count q ∙ ap (λ (b : Bool). cond b 0 1) (not-true (le_ℚ (mass_at node row q) 0ℚ) is);
        within = λ q h. (
          omega arith,
          (let w = place_of_times q sorted h in let l = All-permutation (λ k. k < n) seen sorted moved a.below w.0 0 w.1 in omega (arith, l, w.2)),
          not_from_false (le_ℚ (mass_at node row q) 0ℚ)
              (elim (cases_Bool (le_ℚ (mass_at node row q) 0ℚ)) [ inl e ↦ (let k = count q ∙ ap (λ (b : Bool). cond b 0 1) e in absurd (omega (arith, k, h))) | inr e ↦ e ]),
        );
      }

-- ---- a row, entry by entry

some≢none : (x : ℚ) → Some x ≡ None → ⊥
some≢none x e = false≢true (sym (ap is_some e))

pub clear_sums : (n : ℕ) (node : ℕ → ℕ) (sums : List ℚ) (seen : List ℕ) → IsClear n sums seen → AreSums n node [] sums seen
clear_sums n node sums seen h = subst (λ (qs : List ℕ). AreSums n node [] sums qs) (sym h.none) (no_sums n node sums h.count (λ q l. h.zeros q))

module _ (n : ℕ) (node : ℕ → ℕ) (ts : List ℕ) (ps : List ℚ) (i : ℕ) where
  pub take_all : (sums : List ℚ) (seen : List ℕ) → length ts ≡ length ps → length ts ≤ i → AreSums n node (take i (entries ts ps)) sums seen → AreSums n node (entries ts ps) sums seen
  take_all sums seen e h a = subst (λ (row : List Entry). AreSums n node row sums seen) (take_whole i (entries ts ps) (let l = length-entries ts ps e in omega (arith, l, h))) a

  pub add_fits : (sums : List ℚ) (seen : List ℕ) → length ts ≡ length ps → IsDistribution (entries ts ps) → row_den (entries ts ps) ≤ limit → AreSums n node (take i (entries ts ps)) sums seen
      → i < length ts → node (get_or ts i 0) < n → written_add (value_at sums (node (get_or ts i 0))) (get_or ps i 0ℚ) ≢ None
  add_fits sums seen e d width a h low wide =
      let x : Entry = record { target = 0; prob = 0ℚ } in
      let fits = entry_fits (λ t. node t == node (get_or ts i 0)) (entries ts ps) i x d width (let l = length-entries ts ps e in omega (arith, l, h)) in
      let is : Entry.prob (get_or (entries ts ps) i x) ≡ get_or ps i 0ℚ = ap (λ (y : Entry). y.prob) (entry_at ts ps i x e h) in
      some≢none _ (sym fits ∙ ap (written_add (mass_at node (take i (entries ts ps)) (node (get_or ts i 0)))) is
      ∙ ap (λ (z : ℚ). written_add z (get_or ps i 0ℚ)) (sym (a.each (node (get_or ts i 0)) low)) ∙ wide)

  pub entry_more : (sums new : List ℚ) (seen more : List ℕ) → length ts ≡ length ps → IsDistribution (entries ts ps) → AreSums n node (take i (entries ts ps)) sums seen
      → i < length ts → node (get_or ts i 0) < n
      → new ≡ slice_set sums (node (get_or ts i 0)) (value_at sums (node (get_or ts i 0)) +ℚ get_or ps i 0ℚ)
      → (value_at sums (node (get_or ts i 0)) ≡ 0ℚ → more ≡ seen ++ node (get_or ts i 0) ∷ [])
      → (value_at sums (node (get_or ts i 0)) ≢ 0ℚ → more ≡ seen) → AreSums n node (take (i + 1) (entries ts ps)) new more
  entry_more sums new seen more e d a h low is first later =
      let x : Entry = record { target = get_or ts i 0; prob = get_or ps i 0ℚ } in
      let l : i < length (entries ts ps) = (let k = length-entries ts ps e in omega (arith, k, h)) in
      let positive : 0ℚ <ℚ get_or ps i 0ℚ = subst (λ (y : Entry). 0ℚ <ℚ y.prob) (entry_at ts ps i x e h) (d.positive i x l) in
      subst (λ (row : List Entry). AreSums n node row new more) (sym (take_more (entries ts ps) i x l ∙ ap (λ (y : Entry). take i (entries ts ps) ++ y ∷ []) (entry_at ts ps i x e h)))
      (sums_more node (take i (entries ts ps)) x (All-take (λ (y : Entry). 0ℚ ≤ℚ y.prob) i (entries ts ps)
      (λ k y z. ≤ℚ_of_lt 0ℚ (Entry.prob (get_or (entries ts ps) k y)) (d.positive k y z))) positive n sums new seen more a low is first later)

-- ---- behind a row

-- the nodes with a sum in ascending order, and the row that they make
module _ (n : ℕ) (node : ℕ → ℕ) (row : List Entry) (sums : List ℚ) (seen sorted : List ℕ) (a : AreSums n node row sums seen) (moved : IsPermutation seen sorted) (up : IsNonDecreasing sorted) where
  pub sorted-below : All (λ q. q < n) sorted
  sorted-below = All-permutation (λ q. q < n) seen sorted moved a.below

  pub sorted-row : IsDistribution row → All (λ x. node x.target < n) row → IsRow n (entries sorted (map (value_at sums) sorted))
  sorted-row d h = subst (λ (xs : List Entry). IsRow n xs) (sym (merged_is n node row sums seen sorted a moved up)) (merged_row n node row d h)

  -- sums of 0 at these nodes are all sums
  pub sums_cleared : (new : List ℚ) → length new ≡ length sums → All (λ x. 0ℚ ≤ℚ x.prob) row
      → ((k : ℕ) → k < length sorted → value_at new (get_or sorted k 0) ≡ 0ℚ) → ((q : ℕ) → value_at sums q ≡ 0ℚ → value_at new q ≡ 0ℚ) → IsClear n new []
  sums_cleared new e nonneg cleared same = record { count = e ∙ a.count; zeros = zero_at; none = refl } where
    zero_in : (q : ℕ) → q < n → value_at new q ≡ 0ℚ
    zero_in q h = elim (cases_Bool (le_ℚ (mass_at node row q) 0ℚ)) as (λ _. value_at new q ≡ 0ℚ) [
      | inl empty ↦ same q (a.each q h ∙ ≤ℚ_antisymm (mass_at node row q) 0ℚ (le_of_test (mass_at node row q) 0ℚ empty) (mass-nonneg (λ t. node t == q) row nonneg))
      | inr full ↦
          (let count = sum_by-IsPermutation (λ x. cond (x == q) 1 0) seen sorted moved ∙ a.once q ∙ ap (λ (b : Bool). cond b 0 1) full in
          let w = place_of_times q sorted (omega (arith, count)) in
          subst (λ k. value_at new k ≡ 0ℚ) w.2 (cleared w.0 w.1))
    ]

    zero_at : (q : ℕ) → value_at new q ≡ 0ℚ
    zero_at q = elim (cases_lt q n) as (λ _. value_at new q ≡ 0ℚ) [
      | inl h ↦ zero_in q h
      | inr past ↦ get_or_past new q 0ℚ (omega (arith, past, e, a.count))
    ]

pub probs_nonneg : (row : List Entry) → IsDistribution row → All (λ x. 0ℚ ≤ℚ x.prob) row
probs_nonneg row d k y h = ≤ℚ_of_lt 0ℚ (Entry.prob (get_or row k y)) (d.positive k y h)

pub nodes_below : (n : ℕ) (nodes ts : List ℕ) (ps : List ℚ) → length ts ≡ length ps → All (λ t. t < length nodes) ts → All (λ q. q < n) nodes → All (λ x. get_or nodes x.target 0 < n) (entries ts ps)
nodes_below n nodes ts ps e low below i y l =
    let h : i < length ts = (let k = length-entries ts ps e in omega (arith, k, l)) in
    subst (λ (x : Entry). get_or nodes x.target 0 < n) (sym (entry_at ts ps i y e h)) (below (get_or ts i 0) 0 (low i 0 h))
