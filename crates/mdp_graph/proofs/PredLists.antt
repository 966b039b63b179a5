-- Which choices stand in the lists of those that lead to a state.
use Rattle.std.proofs.Common.{◌≡◌, inl, inr, ℕ, zero, suc, ◌+◌, ◌<◌, ◌≤◌, Bool, true, ◌||◌, ◌&&◌, ◌==◌}
use Rattle.std.proofs.Common.{cond, List, [], ◌∷◌, length, map, get_or, refl, sym, ap, ◌∙◌, arith, eq-eqb}
use Rattle.std.proofs.{lemmas.Bool.{false≢true, eqb-true, ne_eqb, cases_Bool, cases_eq}, lemmas.List.FromFn.{get_or-map-range_with_len}}
use Rattle.std.specs.List.{filter, flat_map, range_with_len}
use Rattle.mdp_spec.specs.{Mdp.{Mdp, states_of, choices_at, row_at}, Row.{IsMdp}}
use Rattle.mdp_rows.specs.{Preds.{is_among, leads_to, pair, choices_of, choices_below, preds_to}, declared.preds.Pred.{Pred}}
use Rattle.mdp_graph.specs.{Sets.{can_enter}, Waiting.{is_one_of, leading_to}}
use Rattle.mdp_graph.proofs.{Releasing.{one-of-append}, RowSets.{enters-at, enters-by, enters-more}}
use Rattle.mdp_math.proofs.Booleans.{or-true, and-left, and-right, and-both}

is-pair : (x : Pred) (s c : ℕ) → ((x.state == s) && (x.choice == c)) ≡ true → x ≡ pair s c
is-pair x s c e = ap (λ k. pair k x.choice) (eqb-true x.state s (and-left (x.state == s) (x.choice == c) e)) ∙ ap (pair s) (eqb-true x.choice c (and-right (x.state == s) (x.choice == c) e))

-- the elements of a list that pass a test
filter-in : (p : Pred → Bool) (xs : List Pred) (s c : ℕ) → is_one_of (filter p xs) s c ≡ true → (is_one_of xs s c ≡ true) × (p (pair s c) ≡ true)
filter-in p [] s c e = absurd (false≢true e)
filter-in p (x ∷ xs) s c e = elim (cases_Bool (p x)) [
  | inl is ↦
      (let seen : (((x.state == s) && (x.choice == c)) || is_one_of (filter p xs) s c) ≡ true = sym (ap (λ b. is_one_of (cond b (x ∷ filter p xs) (filter p xs)) s c) is) ∙ e in
      elim (cases_Bool ((x.state == s) && (x.choice == c))) [
        | inl here ↦ (ap (λ b. b || is_one_of xs s c) here, ap p (sym (is-pair x s c here)) ∙ is)
        | inr other ↦
            (let w = filter-in p xs s c (sym (ap (λ b. b || is_one_of (filter p xs) s c) other) ∙ seen) in
            (ap (λ b. ((x.state == s) && (x.choice == c)) || b) w.0 ∙ or-true ((x.state == s) && (x.choice == c)), w.1))
      ])
  | inr not ↦
      (let w = filter-in p xs s c (sym (ap (λ b. is_one_of (cond b (x ∷ filter p xs) (filter p xs)) s c) not) ∙ e) in
      (ap (λ b. ((x.state == s) && (x.choice == c)) || b) w.0 ∙ or-true ((x.state == s) && (x.choice == c)), w.1))
]

filter-back : (p : Pred → Bool) (xs : List Pred) (s c : ℕ) → is_one_of xs s c ≡ true → p (pair s c) ≡ true → is_one_of (filter p xs) s c ≡ true
filter-back p [] s c e is = absurd (false≢true e)
filter-back p (x ∷ xs) s c e is = elim (cases_Bool ((x.state == s) && (x.choice == c))) [
  | inl here ↦
      ap (λ b. is_one_of (cond b (x ∷ filter p xs) (filter p xs)) s c) (ap p (is-pair x s c here) ∙ is) ∙ ap (λ b. b || is_one_of (filter p xs) s c) here
  | inr other ↦
      (let rest = filter-back p xs s c (sym (ap (λ b. b || is_one_of xs s c) other) ∙ e) is in
      elim (cases_Bool (p x)) [
        | inl passes ↦ ap (λ b. is_one_of (cond b (x ∷ filter p xs) (filter p xs)) s c) passes ∙ ap (λ b. ((x.state == s) && (x.choice == c)) || b) rest ∙ or-true ((x.state == s) && (x.choice == c))
        | inr fails ↦ ap (λ b. is_one_of (cond b (x ∷ filter p xs) (filter p xs)) s c) fails ∙ rest
      ])
]

-- the choices of a state
choices-in : (x a n s c : ℕ) → is_one_of (map (pair x) (range_with_len a n)) s c ≡ true → (x ≡ s) × (c < a + n)
choices-in x a zero s c e = absurd (false≢true e)
choices-in x a (suc n) s c e = elim (cases_Bool ((x == s) && (a == c))) [
  | inl here ↦ (let same = eqb-true a c (and-right (x == s) (a == c) here) in (eqb-true x s (and-left (x == s) (a == c) here), omega (arith, same)))
  | inr other ↦ (let w = choices-in x (a + 1) n s c (sym (ap (λ b. b || is_one_of (map (pair x) (range_with_len (a + 1) n)) s c) other) ∙ e) in (w.0, omega (arith, w.1)))
]

choices-back : (a n s c : ℕ) → a ≤ c → c < a + n → is_one_of (map (pair s) (range_with_len a n)) s c ≡ true
choices-back a zero s c l h = absurd (omega (arith, l, h))
choices-back a (suc n) s c l h = elim (cases_eq a c) [
  | inl same ↦ ap (λ b. b || is_one_of (map (pair s) (range_with_len (a + 1) n)) s c) (and-both (s == s) (a == c) (eq-eqb s s refl) (eq-eqb a c same))
  | inr other ↦ ap (λ b. ((s == s) && (a == c)) || b) (choices-back (a + 1) n s c (omega (arith, l, other)) (omega (arith, h))) ∙ or-true ((s == s) && (a == c))
]

-- the choices of all states
below-in : (m : Mdp) (a n s c : ℕ) → is_one_of (flat_map (choices_of m) (range_with_len a n)) s c ≡ true → (s < a + n) × (c < length (choices_at m s))
below-in m a zero s c e = absurd (false≢true e)
below-in m a (suc n) s c e = elim (cases_Bool (is_one_of (choices_of m a) s c)) [
  | inl here ↦
      (let w = choices-in a 0 (length (choices_at m a)) s c here in
      let many = ap (λ j. length (choices_at m j)) w.0 in (omega (arith, w.0), omega (arith, w.1, many)))
  | inr other ↦
      (let w = below-in m (a + 1) n s c (sym (one-of-append (choices_of m a) (flat_map (choices_of m) (range_with_len (a + 1) n)) s c
      ∙ ap (λ b. b || is_one_of (flat_map (choices_of m) (range_with_len (a + 1) n)) s c) other) ∙ e) in
      (omega (arith, w.0), w.1))
]

below-back : (m : Mdp) (a n s c : ℕ) → a ≤ s → s < a + n → c < length (choices_at m s) → is_one_of (flat_map (choices_of m) (range_with_len a n)) s c ≡ true
below-back m a zero s c l h k = absurd (omega (arith, l, h))
below-back m a (suc n) s c l h k = one-of-append (choices_of m a) (flat_map (choices_of m) (range_with_len (a + 1) n)) s c ∙ (elim (cases_eq a s) [
  | inl same ↦ ap (λ b. b || is_one_of (flat_map (choices_of m) (range_with_len (a + 1) n)) s c)
      (ap (λ j. is_one_of (choices_of m j) s c) same ∙ choices-back 0 (length (choices_at m s)) s c (omega arith) (omega (arith, k)))
  | inr other ↦ ap (λ b. is_one_of (choices_of m a) s c || b) (below-back m (a + 1) n s c (omega (arith, l, other)) (omega (arith, h)) k) ∙ or-true (is_one_of (choices_of m a) s c)
])

-- the choices that lead to a state
pub led-in : (m : Mdp) (t s c : ℕ) → is_one_of (preds_to m t) s c ≡ true → (s < states_of m) × (c < length (choices_at m s)) × (leads_to t (row_at m s c) ≡ true)
led-in m t s c e =
    let w = filter-in (λ (p : Pred). leads_to t (row_at m p.state p.choice)) (choices_below m (states_of m)) s c e in
    let b = below-in m 0 (states_of m) s c w.0 in
    (omega (arith, b.0), b.1, w.1)

pub led-back : (m : Mdp) (t s c : ℕ) → s < states_of m → c < length (choices_at m s) → leads_to t (row_at m s c) ≡ true → is_one_of (preds_to m t) s c ≡ true
led-back m t s c h k e = filter-back (λ (p : Pred). leads_to t (row_at m p.state p.choice)) (choices_below m (states_of m)) s c (below-back m 0 (states_of m) s c (omega arith) (omega (arith, h)) k) e

-- the choices that lead to a list of states
module _ (m : Mdp) (preds : List (List Pred)) (are : preds ≡ map (preds_to m) (range_with_len 0 (states_of m))) where
  pub list-is : (t : ℕ) → t < states_of m → get_or preds t [] ≡ preds_to m t
  list-is t h = let none : List Pred = [] in ap (λ (x : List (List Pred)). get_or x t []) are ∙ get_or-map-range_with_len (preds_to m) 0 (states_of m) t t none h (omega arith)

  pub leading-in : (layer : List ℕ) → ((t : ℕ) → is_among t layer ≡ true → t < states_of m) → (s c : ℕ) → is_one_of (leading_to preds layer) s c ≡ true
      → (s < states_of m) × (c < length (choices_at m s)) × (can_enter (λ t. is_among t layer) (row_at m s c) ≡ true)
  leading-in [] below s c e = absurd (false≢true e)
  leading-in (t ∷ layer) below s c e = elim (cases_Bool (is_one_of (get_or preds t []) s c)) [
    | inl here ↦
        (let first : is_among t (t ∷ layer) ≡ true = ap (λ b. b || is_among t layer) (eq-eqb t t refl) in
        let w = led-in m t s c (ap (λ (x : List Pred). is_one_of x s c) (sym (list-is t (below t first))) ∙ here) in
        (w.0, w.1, enters-by (λ j. is_among j (t ∷ layer)) (row_at m s c) t w.2 first))
    | inr other ↦
        (let more : (j : ℕ) → is_among j layer ≡ true → is_among j (t ∷ layer) ≡ true = λ j a. ap (λ b. (t == j) || b) a ∙ or-true (t == j) in
        let w = leading-in layer (λ j a. below j (more j a)) s c (sym (one-of-append (get_or preds t []) (leading_to preds layer) s c
        ∙ ap (λ b. b || is_one_of (leading_to preds layer) s c) other) ∙ e) in
        (w.0, w.1, enters-more (λ j. is_among j layer) (λ j. is_among j (t ∷ layer)) more (row_at m s c) w.2))
  ]

  -- a choice with an entry to one of the states
  among-led : (layer : List ℕ) (t s c : ℕ) → t < states_of m → is_among t layer ≡ true → s < states_of m → c < length (choices_at m s)
      → leads_to t (row_at m s c) ≡ true → is_one_of (leading_to preds layer) s c ≡ true
  among-led [] t s c l a h k e = absurd (false≢true a)
  among-led (x ∷ layer) t s c l a h k e = one-of-append (get_or preds x []) (leading_to preds layer) s c ∙ (elim (cases_eq x t) [
    | inl same ↦
        ap (λ b. b || is_one_of (leading_to preds layer) s c) (ap (λ (y : List Pred). is_one_of y s c) (ap (λ j. get_or preds j []) same ∙ list-is t l) ∙ led-back m t s c h k e)
    | inr other ↦
        ap (λ b. is_one_of (get_or preds x []) s c || b) (among-led layer t s c l (sym (ap (λ b. b || is_among t layer) (ne_eqb x t other)) ∙ a) h k e)
        ∙ or-true (is_one_of (get_or preds x []) s c)
  ])

  pub leading-back : (ok : IsMdp m) (layer : List ℕ) (s c : ℕ) → s < states_of m → c < length (choices_at m s) → can_enter (λ t. is_among t layer) (row_at m s c) ≡ true
      → is_one_of (leading_to preds layer) s c ≡ true
  leading-back ok layer s c h k e =
      let row = ok.row s c h k in
      let z = enters-at (λ t. is_among t layer) (row_at m s c) (states_of m) row.in_range e in
      among-led layer z.0 s c z.1 z.3 h k z.2
