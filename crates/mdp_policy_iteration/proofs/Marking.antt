-- Nodes found, each with a mark: one more, in another order, and the marks taken away.
use Rattle.std.proofs.Common.{◌≡◌, inl, inr, ℕ, zero, suc, ◌+◌, ◌<◌, ◌≤◌, Bool, true, false, not, ◌||◌, ◌&&◌, ◌==◌, cond, List, [], ◌∷◌, ◌++◌, length, get_or, replicate}
use Rattle.std.proofs.Common.{refl, sym, ap, ap₂, ◌∙◌, subst, arith, eq-eqb, count_by, append_assoc, take}
use Rattle.std.proofs.lemmas.Bool.{cases_eq, cases_lt, ne_eqb, false≢true, or_left, or_right}
use Rattle.std.proofs.lemmas.List.{get_or-set_same, get_or-set_other, get_or_past, length_push, length-set, append-nil, take_all}
use Rattle.std.proofs.{lemmas.List.Sums.{sum_by_push, sum_by-set}, lemmas.List.Sorted.{sum_by-IsPermutation, length_permutation}}
use Rattle.std.proofs.lemmas.List.Folds.{list_any-append}
use Rattle.std.specs.{Prelude.{slice_set}, List.{All}, List.Sorted.{IsPermutation, IsNonDecreasing}}
use Rattle.mdp_math.proofs.Booleans.{or-false}
use Rattle.mdp_rows.specs.Preds.{is_among}
use Rattle.mdp_policy_iteration.specs.Marked.{AreMarked, AreAdded}
use Rattle.mdp_policy_iteration.proofs.Among.{among_at, none_counted, same_among, two_counted}

-- ---- what the marks say of the nodes found

module _ (marks : List Bool) (found : List ℕ) (m : AreMarked marks found) where
  pub found-in_range : (s : ℕ) → is_among s found ≡ true → s < length marks
  found-in_range s e = elim (cases_lt s (length marks)) [ inl h ↦ h | inr past ↦ absurd (false≢true (sym (get_or_past marks s false past) ∙ m.marked s ∙ e)) ]

  pub all-in_range : All (λ s. s < length marks) found
  all-in_range k d l = found-in_range (get_or found k d) (among_at found k d l)

  -- ---- one more

  pub one_marked : (s : ℕ) → s < length marks → get_or marks s false ≡ false → AreMarked (slice_set marks s true) (found ++ s ∷ [])
  one_marked s h fresh = record {
    marked = λ x. elim (cases_eq s x) [
      | inl same ↦ subst (λ k. get_or (slice_set marks s true) k false ≡ is_among k (found ++ s ∷ [])) same here
      | inr other ↦ get_or-set_other marks s x true false (λ e. other (sym e)) ∙ m.marked x ∙ sym (at x ∙ ap (λ b. is_among x found || (b || false)) (ne_eqb s x other) ∙ or-false (is_among x found))
    ];
    once = λ x.
        (let e : count_by (λ y. y == x) (found ++ s ∷ []) ≡ count_by (λ y. y == x) found + cond (s == x) 1 0 = sum_by_push (λ y. cond (y == x) 1 0) found s in
        elim (cases_eq s x) [
          | inl same ↦
              (let none : count_by (λ y. y == x) found ≡ 0 = none_counted x found (subst (λ k. is_among k found ≡ false) same (sym (m.marked s) ∙ fresh)) in
              let one : ◌≡◌ {A = ℕ} (cond (s == x) 1 0) 1 = ap (λ b. cond b 1 0) (eq-eqb s x same) in
              omega (arith, e, none, one))
          | inr other ↦
              (let none : ◌≡◌ {A = ℕ} (cond (s == x) 1 0) 0 = ap (λ b. cond b 1 0) (ne_eqb s x other) in
              let before = m.once x in
              omega (arith, e, none, before))
        ]);
    many =
        let more : count_by (λ (b : Bool). b) (slice_set marks s true) + cond (get_or marks s false) 1 0 ≡ count_by (λ (b : Bool). b) marks + 1 =
        sum_by-set (λ (b : Bool). cond b 1 0) marks s true false h
        in
        let none : ◌≡◌ {A = ℕ} (cond (get_or marks s false) 1 0) 0 = ap (λ b. cond b 1 0) fresh in
        omega (arith, more, none, m.many, length_push found s);
  } where
    at : (x : ℕ) → is_among x (found ++ s ∷ []) ≡ (is_among x found || ((s == x) || false))
    at x = list_any-append (λ y. y == x) found (s ∷ [])

    here : get_or (slice_set marks s true) s false ≡ is_among s (found ++ s ∷ [])
    here = get_or-set_same marks s true false h ∙ sym (at s ∙ or_right (is_among s found) ((s == s) || false) (or_left (s == s) false (eq-eqb s s refl)))

  -- ---- in another order

  module _ (sorted : List ℕ) (moved : IsPermutation found sorted) where
    counted : (s : ℕ) → count_by (λ x. x == s) sorted ≡ count_by (λ x. x == s) found
    counted s = sum_by-IsPermutation (λ x. cond (x == s) 1 0) found sorted moved

    pub sorted-among : (s : ℕ) → is_among s sorted ≡ is_among s found
    sorted-among s = same_among s found sorted (counted s)

    pub sorted-marked : AreMarked marks sorted
    sorted-marked = record {
      marked = λ s. m.marked s ∙ sym (sorted-among s);
      once = λ s. (let e = counted s in let k = m.once s in omega (arith, e, k));
      many = length_permutation found sorted moved ∙ m.many;
    }

    pub sorted-ascend : IsNonDecreasing sorted → (i j : ℕ) → i < j → j < length sorted → get_or sorted i 0 < get_or sorted j 0
    sorted-ascend up i j l h = elim (cases_eq (get_or sorted i 0) (get_or sorted j 0)) [
      | inl same ↦
          absurd
          (let two = two_counted sorted i j (get_or sorted j 0) l h same refl in
          let e = counted (get_or sorted j 0) in
          let one = m.once (get_or sorted j 0) in
          omega (arith, two, e, one))
      | inr other ↦ (let u = up i j 0 (omega arith) h in omega (arith, u, other))
    ]

-- ---- one more, as the code adds it

pub one_added : (marks new : List Bool) (found more : List ℕ) (s : ℕ) → AreMarked marks found → s < length marks → get_or marks s false ≡ false → new ≡ slice_set marks s true
    → more ≡ found ++ s ∷ [] → AreAdded (λ x. s == x) marks new found more
one_added marks new found more s m h fresh is e = rw (is, e) (record {
  count = length-set marks s true;
  marked = one_marked marks found m s h fresh;
  front = (s ∷ [], refl);
  at = λ x. list_any-append (λ y. y == x) found (s ∷ []) ∙ ap (λ b. is_among x found || b) (or-false (s == x));
})

-- ---- the marks taken away

none_left : (marks : List Bool) (n : ℕ) → length marks ≡ n → ((s : ℕ) → get_or marks s false ≡ false) → marks ≡ replicate n false
none_left [] zero e h = refl
none_left [] (suc n) e h = absurd (omega (arith, e))
none_left (b ∷ bs) zero e h = absurd (omega (arith, e))
none_left (b ∷ bs) (suc n) e h = ap₂ (λ (x : Bool) (xs : List Bool). x ∷ xs) (h 0) (none_left bs n (omega (arith, e)) (λ s. h (suc s)))

both-not : (b : Bool) → (b && not b) ≡ false
both-not true = refl
both-not false = refl

pub marks-cleared : (marks new : List Bool) (found : List ℕ) → AreMarked marks found → length new ≡ length marks
    → ((s : ℕ) → get_or new s false ≡ (get_or marks s false && not (is_among s found))) → new ≡ replicate (length marks) false
marks-cleared marks new found m e h =
    none_left new (length marks) e (λ s. h s ∙ ap (λ b. b && not (is_among s found)) (m.marked s) ∙ both-not (is_among s found))

-- ---- a loop that finds the nodes of one element after the other

or-assoc : (a b c : Bool) → ((a || b) || c) ≡ (a || (b || c))
or-assoc true b c = refl
or-assoc false b c = refl

pub none_added : (marks : List Bool) (found : List ℕ) → AreMarked marks found → AreAdded (λ s. false) marks marks found found
none_added marks found m = record {
  count = refl;
  marked = m;
  front = ([], sym (append-nil found));
  at = λ s. sym (or-false (is_among s found));
}

pub more_added : (p q r : ℕ → Bool) (marks mid new : List Bool) (old found more : List ℕ) → AreAdded p marks mid old found → AreAdded q mid new found more → ((s : ℕ) → r s ≡ (p s || q s))
    → AreAdded r marks new old more
more_added p q r marks mid new old found more a b e = record {
  count = b.count ∙ a.count;
  marked = b.marked;
  front = (a.front.0 ++ b.front.0, b.front.1 ∙ ap (λ (xs : List ℕ). xs ++ b.front.0) a.front.1 ∙ append_assoc old a.front.0 b.front.0);
  at = λ s. b.at s ∙ ap (λ x. x || q s) (a.at s) ∙ or-assoc (is_among s old) (p s) (q s) ∙ ap (λ x. is_among s old || x) (sym (e s));
}

pub all_added : {A : Type 0} → (test : List A → ℕ → Bool) (xs : List A) (i : ℕ) (marks new : List Bool) (old found : List ℕ) → AreAdded (test (take i xs)) marks new old found
    → length xs ≤ i → AreAdded (test xs) marks new old found
all_added {A} test xs i marks new old found a h = subst (λ (ys : List A). AreAdded (test ys) marks new old found) (take_all i xs h) a
