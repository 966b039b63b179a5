-- Parts that are flagged while the states are gone through, the targets of a row, and the first number of a range that passes a test.
use Rattle.std.proofs.Common.{◌≡◌, inl, inr, ℕ, zero, suc, ◌+◌, ◌<◌, ◌≤◌, Bool, true, false, ◌&&◌, ◌||◌, ◌==◌, cond, List, [], ◌∷◌, length, map, set, replicate, Option, Some, None}
use Rattle.std.proofs.{Common.{refl, sym, ap, ◌∙◌, subst, arith, eq-eqb}, lemmas.Bool.{false≢true, cases_eq, ne_eqb}}
use Rattle.std.proofs.lemmas.{List.{length-set, get_or-set_other, length-replicate, get_or-replicate}, List.Folds.{list_any-append}, Grind.{get_or-set_at}}
use Rattle.std.specs.{Option.{unwrap_or}, List.{list_any, find, range_with_len}, Prelude.{slice_index, slice_index_or}}
use Rattle.mdp_math.specs.Rational.{ℚ}
use Rattle.mdp_math.proofs.{Lists.{range_more}, Booleans.{or-true, or-false}}
use Rattle.mdp_spec.specs.Row.{entries}
use Rattle.mdp_graph.specs.Sets.{marked}
use Rattle.mdp_unichain.specs.{Component.{Component, count}, Classes.{differs, has_flag, AreClasses}}
use Rattle.mdp_unichain.proofs.Picking.{IsFirst}
use Rattle.mdp_gain.specs.Code.{part_has}

-- ---- flags

-- one more state
flag_more : (flags : List Bool) (parts : List ℕ) (n k : ℕ) → has_flag flags parts (n + 1) k ≡ (has_flag flags parts n k || (marked flags n && (slice_index parts n == k)))
flag_more flags parts n k =
    ap (list_any (λ s. marked flags s && (slice_index parts s == k))) (range_more n)
    ∙ list_any-append (λ s. marked flags s && (slice_index parts s == k)) (range_with_len 0 n) (n ∷ [])
    ∙ ap (λ b. has_flag flags parts n k || b) (or-false (marked flags n && (slice_index parts n == k)))

-- the first n states were gone through
pub record AreFlagged (flags : List Bool) (parts : List ℕ) (n : ℕ) (marks : List Bool) : Type 0 where
  pub count : length marks ≡ length parts
  pub at : (k : ℕ) → k < length parts → marked marks k ≡ has_flag flags parts n k

module _ (flags : List Bool) (parts : List ℕ) where
  pub none_flagged : (marks : List Bool) → marks ≡ replicate (length parts) false → AreFlagged flags parts 0 marks
  none_flagged marks e = rw e (record { count = length-replicate (length parts) false; at = λ k h. get_or-replicate (length parts) k false false h })

  module _ (n : ℕ) (marks : List Bool) (a : AreFlagged flags parts n marks) where
    pub flagged_on : marked flags n ≡ true → slice_index parts n < length parts → (new : List Bool) → new ≡ set marks (slice_index parts n) true → AreFlagged flags parts (n + 1) new
    flagged_on f l new e = rw e (record {
      count = length-set marks (slice_index parts n) true ∙ a.count;
      at = λ k h. elim (cases_eq k (slice_index parts n)) [
        | inl same ↦
            get_or-set_at marks (slice_index parts n) k true false same (omega (arith, l, a.count))
            ∙ sym (flag_more flags parts n k
            ∙ ap (λ b. has_flag flags parts n k || b) (ap (λ b. b && (slice_index parts n == k)) f ∙ eq-eqb (slice_index parts n) k (sym same)) ∙ or-true (has_flag flags parts n k))
        | inr other ↦
            get_or-set_other marks (slice_index parts n) k true false other ∙ a.at k h
            ∙ sym (flag_more flags parts n k
            ∙ ap (λ b. has_flag flags parts n k || b) (ap (λ b. b && (slice_index parts n == k)) f ∙ ne_eqb (slice_index parts n) k (λ e. other (sym e))) ∙ or-false (has_flag flags parts n k))
      ];
    })

    pub not_flagged : marked flags n ≡ false → AreFlagged flags parts (n + 1) marks
    not_flagged f = record {
      count = a.count;
      at = λ k h. a.at k h ∙ sym (flag_more flags parts n k ∙ ap (λ b. has_flag flags parts n k || (b && (slice_index parts n == k))) f ∙ or-false (has_flag flags parts n k));
    }

-- ---- the targets of a row

pub any-targets : (test : ℕ → Bool) (ts : List ℕ) (ps : List ℚ) → length ts ≡ length ps → list_any (λ y. test y.target) (entries ts ps) ≡ list_any test ts
any-targets test [] ps e = refl
any-targets test (t ∷ ts) [] e = absurd (omega arith)
any-targets test (t ∷ ts) (p ∷ ps) e = ap (λ b. test t || b) (any-targets test ts ps (omega arith))

-- ---- the first that passes

-- the first number from a on, of n numbers
record IsFirstFrom (test : ℕ → Bool) (a n t : ℕ) : Type 0 where
  low : a ≤ t
  high : t < a + n
  passes : test t ≡ true
  least : (u : ℕ) → a ≤ u → u < a + n → test u ≡ true → t ≤ u

first_by : (test : ℕ → Bool) (a n t : ℕ) (b : Bool) → test a ≡ b → (find test (range_with_len (a + 1) n) ≡ Some t → IsFirstFrom test (a + 1) n t)
    → cond b (Some a) (find test (range_with_len (a + 1) n)) ≡ Some t → IsFirstFrom test a (suc n) t
first_by test a n t true e later h =
    let same : a ≡ t = cc in
    record { low = omega arith; high = omega arith; passes = subst (λ x. test x ≡ true) same e; least = λ u l k j. omega (arith, l, same) }
first_by test a n t false e later h =
    let f = later h in
    record {
      low = omega (arith, f.low);
      high = omega (arith, f.high);
      passes = f.passes;
      least = λ u l k j. elim (cases_eq u a) [
        | inl same ↦ absurd (false≢true (sym e ∙ ap test (sym same) ∙ j))
        | inr other ↦ f.least u (omega (arith, l, other)) (omega (arith, k)) j
      ];
    }

first_from : (test : ℕ → Bool) (a n t : ℕ) → find test (range_with_len a n) ≡ Some t → IsFirstFrom test a n t
first_from test a zero t h = cc
first_from test a (suc n) t h = first_by test a n t (test a) refl (first_from test (a + 1) n t) h

pub find-first : (test : ℕ → Bool) (n t : ℕ) → find test (range_with_len 0 n) ≡ Some t → IsFirst test n t
find-first test n t h =
    let f = first_from test 0 n t h in
    record { below = omega (arith, f.high); passes = f.passes; least = λ u l j. f.least u (omega arith) (omega (arith, l)) j }

none_by : (test : ℕ → Bool) (a n : ℕ) (b : Bool) → test a ≡ b → ((u : ℕ) → find test (range_with_len (a + 1) n) ≡ None → a + 1 ≤ u → u < a + 1 + n → test u ≡ false)
    → cond b (Some a) (find test (range_with_len (a + 1) n)) ≡ None → (u : ℕ) → a ≤ u → u < a + suc n → test u ≡ false
none_by test a n true e later h u l k = cc
none_by test a n false e later h u l k = elim (cases_eq u a) [
  | inl same ↦ ap test same ∙ e
  | inr other ↦ later u h (omega (arith, l, other)) (omega (arith, k))
]

none_from : (test : ℕ → Bool) (a n : ℕ) → find test (range_with_len a n) ≡ None → (u : ℕ) → a ≤ u → u < a + n → test u ≡ false
none_from test a zero h u l k = absurd (omega arith)
none_from test a (suc n) h u l k = none_by test a n (test a) refl (λ v q i j. none_from test (a + 1) n q v i j) h u l k

pub find-none : (test : ℕ → Bool) (n : ℕ) → find test (range_with_len 0 n) ≡ None → (u : ℕ) → u < n → test u ≡ false
find-none test n h u l = none_from test 0 n h u (omega arith) (omega (arith, l))

-- the first that passes, where one does
first_or : (test : ℕ → Bool) (n s : ℕ) (o : Option ℕ) (d : ℕ) → find test (range_with_len 0 n) ≡ o → s < n → test s ≡ true → IsFirst test n (unwrap_or o d)
first_or test n s (Some t) d h l e = find-first test n t h
first_or test n s None d h l e = absurd (false≢true (sym (find-none test n h s l) ∙ e))

pub find-or : (test : ℕ → Bool) (n s d : ℕ) → s < n → test s ≡ true → IsFirst test n (unwrap_or (find test (range_with_len 0 n)) d)
find-or test n s d l e = first_or test n s (find test (range_with_len 0 n)) d refl l e

-- ---- numbers of parts

any_default : (xs : List ℕ) (k d e : ℕ) → k < length xs → slice_index_or xs k d ≡ slice_index_or xs k e
any_default [] k d e h = absurd (omega arith)
any_default (x ∷ xs) zero d e h = refl
any_default (x ∷ xs) (suc k) d e h = any_default xs k d e (omega arith)

pub all-below : (xs ys : List ℕ) → ys ≡ xs → ((s : ℕ) → s < length xs → slice_index xs s < length xs) → (k d : ℕ) → k < length ys → slice_index_or ys k d < length ys
all-below xs ys e h k d l =
    let n : length ys ≡ length xs = ap (λ (zs : List ℕ). length zs) e in
    let a = h k (omega arith) in
    let b : slice_index_or ys k d ≡ slice_index_or ys k 0 = any_default ys k d 0 l in
    let c : slice_index_or ys k 0 ≡ slice_index xs k = ap (λ (zs : List ℕ). slice_index_or zs k 0) e in
    omega (arith, n, a, b, c)

pub flagged-is : (flags fs : List Bool) (parts ps : List ℕ) (n : ℕ) (marks : List Bool) → fs ≡ flags → ps ≡ parts → length parts ≡ n
    → ((k : ℕ) → k < length ps → marked marks k ≡ has_flag fs ps (length ps) k) → (k : ℕ) → k < n → marked marks k ≡ has_flag flags parts n k
flagged-is flags fs parts ps n marks e q l h k b =
    let m : length ps ≡ n = ap (λ (zs : List ℕ). length zs) q ∙ l in
    h k (omega arith) ∙ ap (λ x. has_flag fs ps x k) m ∙ ap (λ (xs : List Bool). has_flag xs ps n k) e ∙ ap (λ (xs : List ℕ). has_flag flags xs n k) q

pub changed-is : (p : Component) (policy improved parts ps : List ℕ) (left changed fs : List Bool) → AreClasses p improved parts left → length policy ≡ count p
    → fs ≡ map (differs policy improved) (range_with_len 0 (length policy)) → ps ≡ parts → ((k : ℕ) → k < length ps → marked changed k ≡ has_flag fs ps (length ps) k)
    → (s : ℕ) → s < count p → marked changed (slice_index parts s) ≡ part_has p (differs policy improved) parts (slice_index parts s)
changed-is p policy improved parts ps left changed fs a len e q h s l =
    flagged-is (map (differs policy improved) (range_with_len 0 (count p))) fs parts ps (count p) changed (e ∙ ap (λ (n : ℕ). map (differs policy improved) (range_with_len 0 n)) len) q
    a.count_parts h (slice_index parts s) (a.below s l)
