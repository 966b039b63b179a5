-- Lists that a loop makes element by element, and the first number that a loop finds.
use Rattle.std.proofs.Common.{◌≡◌, ℕ, zero, suc, ◌+◌, ◌<◌, ◌≤◌, Bool, true, false, ◌||◌, List, [], ◌∷◌, ◌++◌, length, map, filter, take, get_or}
use Rattle.std.proofs.{Common.{inl, inr, refl, sym, ap, ◌∙◌, arith, Some, None}, lemmas.List.{take_more, map-append, append-nil}}
use Rattle.std.proofs.{lemmas.List.Elements.{filter-append}, lemmas.List.Folds.{list_any-append}, lemmas.Bool.{cases_eq}}
use Rattle.std.specs.{List.{range_with_len, find, list_any}, Option.{unwrap_or}}
use Rattle.mdp_math.proofs.Lists.{map_more, range_more}
use Rattle.mdp_graph.specs.Choices.{first_below}

-- one element for each number below n
pub collected : {A : Type 0} → (f : ℕ → A) (n : ℕ) (old new : List A) (x : A) → old ≡ map f (range_with_len 0 n) → new ≡ old ++ x ∷ [] → x ≡ f n
    → new ≡ map f (range_with_len 0 (n + 1))
collected {A} f n old new x was e is =
    e ∙ ap (λ (ys : List A). ys ++ x ∷ []) was ∙ ap (λ (y : A). map f (range_with_len 0 n) ++ y ∷ []) is ∙ sym (map_more f n)

pub all_collected : {A : Type 0} → (f : ℕ → A) (n k : ℕ) (list : List A) → list ≡ map f (range_with_len 0 k) → k ≡ n → list ≡ map f (range_with_len 0 n)
all_collected f n k list was e = was ∙ ap (λ j. map f (range_with_len 0 j)) e

-- one element for each of the first ones of a list
pub mapped : {A B : Type 0} → (f : A → B) (xs : List A) (i : ℕ) (d : A) (old new : List B) (x : B) → old ≡ map f (take i xs) → new ≡ old ++ x ∷ [] → i < length xs → x ≡ f (get_or xs i d)
    → new ≡ map f (take (i + 1) xs)
mapped {A} {B} f xs i d old new x was e h is =
    e ∙ ap (λ (ys : List B). ys ++ x ∷ []) was ∙ ap (λ (y : B). map f (take i xs) ++ y ∷ []) is
    ∙ sym (ap (map f) (take_more xs i d h) ∙ map-append f (take i xs) (get_or xs i d ∷ []))

-- those of the numbers below n that pass a test
pub chosen : (test : ℕ → Bool) (n : ℕ) (old new : List ℕ) → old ≡ filter test (range_with_len 0 n) → test n ≡ true → new ≡ old ++ n ∷ [] → new ≡ filter test (range_with_len 0 (n + 1))
chosen test n old new was is e =
    let one : filter test (n ∷ []) ≡ n ∷ [] = rw is refl in
    e ∙ ap (λ (ys : List ℕ). ys ++ n ∷ []) was
    ∙ sym (ap (filter test) (range_more n) ∙ filter-append test (range_with_len 0 n) (n ∷ []) ∙ ap (λ (ys : List ℕ). filter test (range_with_len 0 n) ++ ys) one)

pub left_out : (test : ℕ → Bool) (n : ℕ) (old : List ℕ) → old ≡ filter test (range_with_len 0 n) → test n ≡ false → old ≡ filter test (range_with_len 0 (n + 1))
left_out test n old was is =
    let none : filter test (n ∷ []) ≡ [] = rw is refl in
    was
    ∙ sym (ap (filter test) (range_more n) ∙ filter-append test (range_with_len 0 n) (n ∷ []) ∙ ap (λ (ys : List ℕ). filter test (range_with_len 0 n) ++ ys) none
    ∙ append-nil (filter test (range_with_len 0 n)))

-- ---- the first that passes a test

found-from : (test : ℕ → Bool) (a n c : ℕ) → c < n → ((k : ℕ) → k < c → test (a + k) ≡ false) → test (a + c) ≡ true → find test (range_with_len a n) ≡ Some (a + c)
found-from test a zero c h none is = absurd (omega arith)
found-from test a (suc n) zero h none is =
    let same : a + 0 ≡ a = omega arith in
    let e : test a ≡ true = ap test (sym same) ∙ is in
    rw e (ap Some (sym same))
found-from test a (suc n) (suc c) h none is =
    let first : a + 0 ≡ a = omega arith in
    let e : test a ≡ false = ap test (sym first) ∙ none 0 (omega arith) in
    let next : (k : ℕ) → (a + 1) + k ≡ a + suc k = λ k. omega arith in
    rw e (found-from test (a + 1) n c (omega arith) (λ k l. ap test (next k) ∙ none (suc k) (omega arith)) (ap test (next c) ∙ is) ∙ ap Some (next c))

none-from : (test : ℕ → Bool) (a n : ℕ) → ((k : ℕ) → k < n → test (a + k) ≡ false) → find test (range_with_len a n) ≡ None
none-from test a zero none = refl
none-from test a (suc n) none =
    let first : a + 0 ≡ a = omega arith in
    let e : test a ≡ false = ap test (sym first) ∙ none 0 (omega arith) in
    let next : (k : ℕ) → (a + 1) + k ≡ a + suc k = λ k. omega arith in
    rw e (none-from test (a + 1) n (λ k l. ap test (next k) ∙ none (suc k) (omega arith)))

pub find_found : (test : ℕ → Bool) (n c : ℕ) → c < n → ((k : ℕ) → k < c → test k ≡ false) → test c ≡ true → Some c ≡ find test (range_with_len 0 n)
find_found test n c h none is =
    let same : (k : ℕ) → 0 + k ≡ k = λ k. omega arith in
    sym (found-from test 0 n c h (λ k l. ap test (same k) ∙ none k l) (ap test (same c) ∙ is) ∙ ap Some (same c))

pub find_none : (test : ℕ → Bool) (n c : ℕ) → n ≤ c → ((k : ℕ) → k < c → test k ≡ false) → None ≡ find test (range_with_len 0 n)
find_none test n c h none =
    let same : (k : ℕ) → 0 + k ≡ k = λ k. omega arith in
    sym (none-from test 0 n (λ k l. ap test (same k) ∙ none k (omega arith)))

pub first_found : (test : ℕ → Bool) (n c : ℕ) → c < n → ((k : ℕ) → k < c → test k ≡ false) → test c ≡ true → c ≡ first_below test n
first_found test n c h none is = ap (λ o. unwrap_or o 0) (find_found test n c h none is)

pub first_none : (test : ℕ → Bool) (n c : ℕ) → n ≤ c → ((k : ℕ) → k < c → test k ≡ false) → 0 ≡ first_below test n
first_none test n c h none = ap (λ o. unwrap_or o 0) (find_none test n c h none)

pub none_more : (test : ℕ → Bool) (c : ℕ) → ((k : ℕ) → k < c → test k ≡ false) → test c ≡ false → (k : ℕ) → k < c + 1 → test k ≡ false
none_more test c none is k l = elim (cases_eq k c) [
  | inl same ↦ ap test same ∙ is
  | inr other ↦ none k (omega arith)
]

-- ---- whether one of a list passes a test

pub any_more : {A : Type 0} → (test : A → Bool) (xs : List A) (i : ℕ) (d : A) → i < length xs → list_any test (take i xs) ≡ false → test (get_or xs i d) ≡ false
    → list_any test (take (i + 1) xs) ≡ false
any_more test xs i d h none is =
    ap (list_any test) (take_more xs i d h) ∙ list_any-append test (take i xs) (get_or xs i d ∷ []) ∙ ap (λ b. b || (test (get_or xs i d) || false)) none ∙ ap (λ b. b || false) is
