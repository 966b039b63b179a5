-- The rows, choices and states of a layered model.
use Rattle.std.proofs.Common.{IsTrue, if◌then◌else◌, ◌≡◌, ℕ, ◌+◌, ◌*◌, ◌/◌, ◌%◌, ◌≤◌, ◌<◌, ◌≢◌, min, max, Bool, true}
use Rattle.std.proofs.{Common.{false, ◌&&◌, cond, eqb, ltb, le-leb, List, [], ◌∷◌, length, pos, refl, ap, ap₂, arith, sum_by}, lemmas.Bool.Decides.{nat_tests}}
use Rattle.std.proofs.lemmas.List.Elements.{All-from_recursion}
use borrow.Author.Tests.{leb-true}
use Rattle.mdp_math.specs.{Gcd.{gcd, gcd_with_fuel}, Rational.{of_int, ratio, lt_ℚ, ◌<ℚ◌, ◌+ℚ◌}, Sum.{sum_of}}
use Rattle.mdp_num.specs.Numeral.{limit}
use Rattle.mdp_spec.specs.{Mdp.{Entry, State}, Row.{IsRow}, Unit.{row_den}}
use Rattle.mdp_rows.specs.{Limits.{places_ascend, HasSmallTerms, IsChoiceWithin}, Sound.{IsClosedState}}
use Rattle.mdp_rows.proofs.SoundCalls.Rewards.{small_by}
use Rattle.std.specs.Prelude.{◌==◌}
use Rattle.mdp_gen.specs.{Draws.{next}, Layered.{IsShape, target, goal, failing, one, half, row_to, choice_to, state_behind, loop_state}}

-- ---- where draws lead

-- the layer behind that of state s is one
layer-below : (layers width s : ℕ) → IsShape layers width → s / width + 1 < layers → (s / width + 1) * width + width ≤ layers * width
layer-below layers width s shape h = grind arith

pub target-below : (layers width s d : ℕ) → IsShape layers width → target layers width s d < layers * width + 2
target-below layers width s d shape = by (ltb (s / width + 1) layers) refl
  where
    inside : s / width + 1 < layers → (s / width + 1) * width + d % width < layers * width + 2
    inside h = let l = layer-below layers width s shape h in let w = shape.some_width in omega (arith, l, w)

    ends : (b : Bool) → cond b (goal layers width) (failing layers width) < layers * width + 2
    ends true = omega arith
    ends false = omega arith

    by : (b : Bool) → ltb (s / width + 1) layers ≡ b → cond b ((s / width + 1) * width + d % width) (cond (eqb (d % 2) 0) (goal layers width) (failing layers width)) < layers * width + 2
    by true e = inside (grind (arith, nat_tests))
    by false e = ends (eqb (d % 2) 0)

-- ---- rows

abbrev sure : ℕ → List Entry
sure a = record { target = a; prob = one } ∷ []

abbrev even : ℕ → ℕ → List Entry
even a b = record { target = a; prob = half } ∷ record { target = b; prob = half } ∷ []

one-pos : of_int (pos 0) <ℚ one
unfolding of_int lt_ℚ
one-pos = record { lt = tt }

half-pos : of_int (pos 0) <ℚ half
unfolding of_int ratio lt_ℚ gcd gcd_with_fuel
half-pos = record { lt = tt }

sure-total : (a : ℕ) → sum_of (λ x. x.prob) (sure a) ≡ of_int (pos 1)
unfolding gcd gcd_with_fuel ratio of_int ◌+ℚ◌
sure-total a = refl

even-total : (a b : ℕ) → sum_of (λ x. x.prob) (even a b) ≡ of_int (pos 1)
unfolding gcd gcd_with_fuel ratio of_int ◌+ℚ◌
even-total a b = refl

sure-den : (a : ℕ) → row_den (sure a) ≡ 1
unfolding gcd gcd_with_fuel of_int
sure-den a = refl

even-den : (a b : ℕ) → row_den (even a b) ≡ 2
unfolding gcd gcd_with_fuel of_int ratio
even-den a b = refl

sure-row : (n a : ℕ) → a < n → IsRow n (sure a)
sure-row n a h = record {
  distribution = record {
    ascending = ap (λ (b : Bool). b && true) (le-leb 0 a (omega arith));
    positive = All-from_recursion (λ x. of_int (pos 0) <ℚ x.prob) (sure a) (one-pos, tt);
    total = sure-total a;
  };
  in_range = All-from_recursion (λ x. x.target < n) (sure a) (h, tt);
}

even-row : (n a b : ℕ) → a < b → b < n → IsRow n (even a b)
even-row n a b l h = record {
  distribution = record {
    ascending = ap₂ (λ (x y : Bool). x && (y && true)) (le-leb 0 a (omega arith)) (le-leb (a + 1) b (omega arith));
    positive = All-from_recursion (λ x. of_int (pos 0) <ℚ x.prob) (even a b) (half-pos, (half-pos, tt));
    total = even-total a b;
  };
  in_range = All-from_recursion (λ x. x.target < n) (even a b) ((let g : a < n = omega arith in g), (h, tt));
}

-- what is known of a row
pub record IsGood (n : ℕ) (entries : List Entry) : Type 0 where
  pub row : IsRow n entries
  pub den : row_den entries ≤ 2

pub row_to-good : (n a b : ℕ) → a < n → b < n → IsGood n (row_to a b)
row_to-good n a b ha hb = by (eqb a b) refl
  where
    by : (t : Bool) → eqb a b ≡ t → IsGood n (cond t (sure a) (even (min a b) (max a b)))
    by true e = record { row = sure-row n a ha; den = let d = sure-den a in omega (arith, d) }
    by false e =
        let ne : a ≢ b = grind (arith, nat_tests) in
        record { row = even-row n (min a b) (max a b) (omega (arith, ne)) (omega arith); den = let d = even-den (min a b) (max a b) in omega (arith, d) }

-- ---- choices and states

zero_small : HasSmallTerms (of_int (pos 0))
unfolding gcd gcd_with_fuel ratio of_int
zero_small = small_by (of_int (pos 0)) refl

choice-within : (n : ℕ) (row : List Entry) → IsGood n row → IsChoiceWithin 1 (choice_to row)
choice-within n row g = record {
  den = let d = g.den in let l : 2 ≤ limit = leb-true 2 limit refl in omega (arith, d, l);
  rewards = refl;
  terms = All-from_recursion HasSmallTerms (of_int (pos 0) ∷ []) (zero_small, tt);
}

-- the labels of a state: one at most
pub record IsLabels (labels : List ℕ) : Type 0 where
  pub ascending : IsTrue (places_ascend 0 labels)
  pub few : length labels ≤ 1

pub no-labels : IsLabels []
no-labels = record { ascending = refl; few = omega arith }

pub init-labels : (s : ℕ) → IsLabels (if s == 0 then 0 ∷ [] else [])
init-labels s = by (eqb s 0)
  where
    by : (b : Bool) → IsLabels (cond b (0 ∷ []) [])
    by true = record { ascending = refl; few = omega arith }
    by false = no-labels

pub goal-labels : IsLabels (1 ∷ [])
goal-labels = record { ascending = refl; few = omega arith }

abbrev two-choices : List ℕ → List Entry → List Entry → State
two-choices labels r q = record { labels = labels; choices = choice_to r ∷ choice_to q ∷ [] }

abbrev one-choice : List ℕ → List Entry → State
one-choice labels r = record { labels = labels; choices = choice_to r ∷ [] }

two-closed : (n : ℕ) (labels : List ℕ) (r q : List Entry) → IsLabels labels → IsGood n r → IsGood n q → IsClosedState n 1 (two-choices labels r q)
two-closed n labels r q l g h = record {
  some = omega arith;
  within = record {
    ascending = l.ascending;
    few_labels = let f = l.few in omega (arith, f);
    choices = All-from_recursion (IsChoiceWithin 1) (choice_to r ∷ choice_to q ∷ []) (choice-within n r g, (choice-within n q h, tt));
  };
  rows = All-from_recursion (λ c. IsRow n c.row) (choice_to r ∷ choice_to q ∷ []) (g.row, (h.row, tt));
}

one-closed : (n : ℕ) (labels : List ℕ) (r : List Entry) → IsLabels labels → IsGood n r → IsClosedState n 1 (one-choice labels r)
one-closed n labels r l g = record {
  some = omega arith;
  within = record {
    ascending = l.ascending;
    few_labels = let f = l.few in omega (arith, f);
    choices = All-from_recursion (IsChoiceWithin 1) (choice_to r ∷ []) (choice-within n r g, tt);
  };
  rows = All-from_recursion (λ c. IsRow n c.row) (choice_to r ∷ []) (g.row, tt);
}

-- the row of two draws
abbrev drawn : ℕ → ℕ → ℕ → ℕ → ℕ → List Entry
drawn layers width s a b = row_to (target layers width s a) (target layers width s b)

pub state-closed : (layers width s x : ℕ) → IsShape layers width → IsClosedState (layers * width + 2) 1 (state_behind layers width s x)
state-closed layers width s x shape =
    two-closed (layers * width + 2) (if s == 0 then 0 ∷ [] else []) (drawn layers width s (next x) (next (next x)))
    (drawn layers width s (next (next (next x))) (next (next (next (next x))))) (init-labels s) (good (next x) (next (next x))) (good (next (next (next x))) (next (next (next (next x)))))
  where
    good : (a b : ℕ) → IsGood (layers * width + 2) (drawn layers width s a b)
    good a b = row_to-good (layers * width + 2) (target layers width s a) (target layers width s b) (target-below layers width s a shape) (target-below layers width s b shape)

pub loop-closed : (n s : ℕ) (labels : List ℕ) → IsLabels labels → s < n → IsClosedState n 1 (loop_state s labels)
loop-closed n s labels l h = one-closed n labels (row_to s s) l (row_to-good n s s h h)

-- ---- how many choices and entries

abbrev entries_of : State → ℕ
entries_of x = sum_by (λ c. length c.row) x.choices

row-few : (a b : ℕ) → length (row_to a b) ≤ 2
row-few a b = by (eqb a b)
  where
    by : (t : Bool) → length (cond t (sure a) (even (min a b) (max a b))) ≤ 2
    by true = omega arith
    by false = omega arith

two-entries : (labels : List ℕ) (r q : List Entry) → length r ≤ 2 → length q ≤ 2 → entries_of (two-choices labels r q) ≤ 4
two-entries labels r q g h = omega arith

pub state-entries : (layers width s x : ℕ) → entries_of (state_behind layers width s x) ≤ 4
state-entries layers width s x =
    two-entries (if s == 0 then 0 ∷ [] else []) (drawn layers width s (next x) (next (next x))) (drawn layers width s (next (next (next x))) (next (next (next (next x)))))
    (row-few (target layers width s (next x)) (target layers width s (next (next x)))) (row-few (target layers width s (next (next (next x)))) (target layers width s (next (next (next (next x))))))

pub loop-entries : (s : ℕ) (labels : List ℕ) → entries_of (loop_state s labels) ≤ 2
loop-entries s labels = let h = row-few s s in omega (arith, h)
