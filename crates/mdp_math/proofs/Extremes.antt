-- The laws of the least and the greatest number of a list.
use Rattle.std.proofs.Common.{◌≡◌, suc, List, [], ◌∷◌, map, Bool, true, false, if◌then◌else◌, T, inl, inr, ⊎_elim, refl, sym, subst, arith}
use Rattle.std.proofs.lemmas.List.Elements.{recursion_from_All, All-from_recursion, All-contains}
use Rattle.std.specs.List.{All, AllByRecursion, Any, Contains}
use Rattle.mdp_math.specs.{Rational.{ℚ, le_ℚ, lt_ℚ, ◌≤ℚ◌, ◌<ℚ◌}, Extremes.{pick, best, least, greatest}}
use Rattle.mdp_math.proofs.{Order.{≤ℚ_refl, ≤ℚ_trans, ≤ℚ_of_lt, ≤ℚ_or_gt, clash_ℚ}, Booleans.{true_of_T, false_of_not}}

-- ---- the tests of an order

pub le_of_test : (x y : ℚ) → le_ℚ x y ≡ true → x ≤ℚ y
le_of_test x y e = record { le = subst T (sym e) tt }

pub gt_of_test : (x y : ℚ) → le_ℚ x y ≡ false → y <ℚ x
gt_of_test x y e = elim (≤ℚ_or_gt x y) as (λ _. y <ℚ x) [ inl q ↦ absurd (subst T e q.le) | inr q ↦ q ]

pub test_of_le : (x y : ℚ) → x ≤ℚ y → le_ℚ x y ≡ true
test_of_le x y h = true_of_T (le_ℚ x y) h.le

pub lt_of_test : (x y : ℚ) → lt_ℚ x y ≡ true → x <ℚ y
lt_of_test x y e = record { lt = subst T (sym e) tt }

pub test_of_lt : (x y : ℚ) → x <ℚ y → lt_ℚ x y ≡ true
test_of_lt x y h = true_of_T (lt_ℚ x y) h.lt

pub le_of_no_test : (x y : ℚ) → lt_ℚ x y ≡ false → y ≤ℚ x
le_of_no_test x y e = ⊎_elim (λ l. l) (λ l. absurd (subst T e l.lt)) (≤ℚ_or_gt y x)

pub no_test_of_le : (x y : ℚ) → y ≤ℚ x → lt_ℚ x y ≡ false
no_test_of_le x y h = false_of_not (lt_ℚ x y) (λ e. clash_ℚ x y (lt_of_test x y e) h)

-- ---- claims on each element

each_mono : {A : Type 0} → (P Q : A → Type 0) (xs : List A) → ((x : A) → P x → Q x) → AllByRecursion P xs → AllByRecursion Q xs
each_mono P Q [] f h = tt
each_mono P Q (x ∷ xs) f h = (f x h.0, each_mono P Q xs f h.1)

each_of_map : {A B : Type 0} → (f : A → B) (P : B → Type 0) (xs : List A) → AllByRecursion P (map f xs) → AllByRecursion (λ x. P (f x)) xs
each_of_map f P [] h = tt
each_of_map f P (x ∷ xs) h = (h.0, each_of_map f P xs h.1)

-- ---- the best by a test

-- the test is an order in which any two numbers compare
record Order (better : ℚ → ℚ → Bool) : Type 0 where
  same : (x : ℚ) → better x x ≡ true
  chain : (x y z : ℚ) → better x y ≡ true → better y z ≡ true → better x z ≡ true
  total : (x y : ℚ) → better x y ≡ false → better y x ≡ true

pick_left_by : (better : ℚ → ℚ → Bool) → Order better → (x y : ℚ) (b : Bool) → better x y ≡ b → better (if b then x else y) x ≡ true
pick_left_by better o x y true e = o.same x
pick_left_by better o x y false e = o.total x y e

pick_right_by : (better : ℚ → ℚ → Bool) → Order better → (x y : ℚ) (b : Bool) → better x y ≡ b → better (if b then x else y) y ≡ true
pick_right_by better o x y true e = e
pick_right_by better o x y false e = o.same y

best-each : (better : ℚ → ℚ → Bool) → Order better → (xs : List ℚ) → AllByRecursion (λ x. better (best better xs) x ≡ true) xs
best-each better o [] = tt
best-each better o (x ∷ []) = (o.same x, tt)
best-each better o (x ∷ y ∷ ys) = (
  pick_left_by better o x (best better (y ∷ ys)) (better x (best better (y ∷ ys))) refl,
  each_mono (λ z. better (best better (y ∷ ys)) z ≡ true) (λ z. better (pick better x (best better (y ∷ ys))) z ≡ true) (y ∷ ys)
      (λ z h. o.chain _ _ z (pick_right_by better o x (best better (y ∷ ys)) (better x (best better (y ∷ ys))) refl) h)
      (best-each better o (y ∷ ys)),
)

in_by : (better : ℚ → ℚ → Bool) (x y : ℚ) (ys : List ℚ) (b : Bool) → Contains (y ∷ ys) (best better (y ∷ ys)) → Contains (x ∷ y ∷ ys) (if b then x else best better (y ∷ ys))
in_by better x y ys true h = (0, omega arith, refl)
in_by better x y ys false h = (suc h.0, omega (arith, h.1), h.2)

best-in : (better : ℚ → ℚ → Bool) (x : ℚ) (xs : List ℚ) → Contains (x ∷ xs) (best better (x ∷ xs))
best-in better x [] = (0, omega arith, refl)
best-in better x (y ∷ ys) = in_by better x y ys (better x (best better (y ∷ ys))) (best-in better y ys)

reached_by : {A : Type 0} → (better : ℚ → ℚ → Bool) (f : A → ℚ) (x y : A) (ys : List A) (b : Bool) → Any (λ z. f z ≡ best better (map f (y ∷ ys))) (y ∷ ys)
    → Any (λ z. f z ≡ (if b then f x else best better (map f (y ∷ ys)))) (x ∷ y ∷ ys)
reached_by better f x y ys true h = (0, x, omega arith, refl, refl)
reached_by better f x y ys false h = (suc h.0, h.1, omega (arith, h.2), h.3, h.4)

-- ---- the least

le_order : Order le_ℚ
le_order = record {
  same = λ x. test_of_le x x (≤ℚ_refl x);
  chain = λ x y z p q. test_of_le x z (≤ℚ_trans x y z (le_of_test x y p) (le_of_test y z q));
  total = λ x y p. test_of_le y x (≤ℚ_of_lt y x (gt_of_test x y p));
}

-- the least is at most each number
pub least-le : (xs : List ℚ) → All (λ x. least xs ≤ℚ x) xs
least-le xs = All-from_recursion (λ x. least xs ≤ℚ x) xs (each_mono (λ x. le_ℚ (least xs) x ≡ true) (λ x. least xs ≤ℚ x) xs (λ x h. le_of_test (least xs) x h) (best-each le_ℚ le_order xs))

-- and one of them
pub least-in : (x : ℚ) (xs : List ℚ) → Contains (x ∷ xs) (least (x ∷ xs))
least-in x xs = best-in le_ℚ x xs

-- a number that is at most each is at most the least
pub least-ge : (c x : ℚ) (xs : List ℚ) → All (λ y. c ≤ℚ y) (x ∷ xs) → c ≤ℚ least (x ∷ xs)
least-ge c x xs h = All-contains (λ y. c ≤ℚ y) (x ∷ xs) (least (x ∷ xs)) h (least-in x xs)

-- ---- the greatest

ge_order : Order (λ x y. le_ℚ y x)
ge_order = record {
  same = λ x. test_of_le x x (≤ℚ_refl x);
  chain = λ x y z p q. test_of_le z x (≤ℚ_trans z y x (le_of_test z y q) (le_of_test y x p));
  total = λ x y p. test_of_le x y (≤ℚ_of_lt x y (gt_of_test y x p));
}

pub greatest-ge : (xs : List ℚ) → All (λ x. x ≤ℚ greatest xs) xs
greatest-ge xs = All-from_recursion (λ x. x ≤ℚ greatest xs) xs
    (each_mono (λ x. le_ℚ x (greatest xs) ≡ true) (λ x. x ≤ℚ greatest xs) xs (λ x h. le_of_test x (greatest xs) h) (best-each (λ x y. le_ℚ y x) ge_order xs))

pub greatest-in : (x : ℚ) (xs : List ℚ) → Contains (x ∷ xs) (greatest (x ∷ xs))
greatest-in x xs = best-in (λ x y. le_ℚ y x) x xs

pub greatest-le : (c x : ℚ) (xs : List ℚ) → All (λ y. y ≤ℚ c) (x ∷ xs) → greatest (x ∷ xs) ≤ℚ c
greatest-le c x xs h = All-contains (λ y. y ≤ℚ c) (x ∷ xs) (greatest (x ∷ xs)) h (greatest-in x xs)

pub greatest_map-ge : {A : Type 0} → (f : A → ℚ) (xs : List A) → All (λ x. f x ≤ℚ greatest (map f xs)) xs
greatest_map-ge f xs = All-from_recursion (λ x. f x ≤ℚ greatest (map f xs)) xs
    (each_of_map f (λ y. y ≤ℚ greatest (map f xs)) xs (recursion_from_All (λ y. y ≤ℚ greatest (map f xs)) (map f xs) (greatest-ge (map f xs))))
