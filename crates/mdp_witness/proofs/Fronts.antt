-- What the search for the first set finds.
use Rattle.std.proofs.Common.{◌≡◌, ℕ, ◌+◌, ◌*◌, ◌<◌, ◌≤◌, ◌⊎◌, inl, inr, Bool, true, false, cond, eqb, ◌&&◌, ◌||◌}
use Rattle.std.proofs.Common.{not, List, [], ◌∷◌, ◌++◌, length, get_or, refl, sym, ◌∙◌, ap, subst, arith, fold, sum_by, if◌then◌else◌}
use Rattle.std.proofs.{Math.ListN.{set, get_or-eq_default}, lemmas.List.{get_or-set_other, length-set, length-append}, lemmas.Grind.{get_or-set_at}}
use Rattle.std.proofs.{lemmas.List.Folds.{list_any-append}, lemmas.List.Sums.{sum_by-set, fold-append}, lemmas.Bool.{eq-eqb, eqb-true}}
use Rattle.std.specs.List.{All, range_with_len}
use Rattle.mdp_math.specs.Rational.{ℚ}
use Rattle.mdp_math.proofs.{Booleans.{and-left, and-right}, Kernel.{All-head, All-tail}, Lists.{range_more}, Numbers.{le_or, eqb-smaller, eqb-greater}}
use Rattle.mdp_spec.specs.{Mdp.{Entry}, Row.{entries}, Tree.{is_marked}}
use Rattle.mdp_subsystem_rules.specs.Kept.{is_listed}
use Rattle.mdp_witness.specs.{First.{is_open}, FrontCode.{Front, with_state, with_row}}
use Rattle.mdp_rows.proofs.Either.{or_left, or_right}

-- ---- marks

pub set-at : (xs : List Bool) (t s : ℕ) (v : Bool) → t < length xs → get_or (set xs t v) s false ≡ cond (eqb s t) v (get_or xs s false)
set-at xs t s v l = elim (le_or s t) as (λ _. get_or (set xs t v) s false ≡ cond (eqb s t) v (get_or xs s false)) [
  | inr k ↦ get_or-set_other xs t s v false (λ e. absurd (omega arith)) ∙ ap (λ (b : Bool). cond b v (get_or xs s false)) (sym (eqb-greater s t k))
  | inl k ↦ elim (le_or t s) as (λ _. get_or (set xs t v) s false ≡ cond (eqb s t) v (get_or xs s false)) [
    | inr j ↦ get_or-set_other xs t s v false (λ e. absurd (omega arith)) ∙ ap (λ (b : Bool). cond b v (get_or xs s false)) (sym (eqb-smaller s t j))
    | inl j ↦ let e : s ≡ t = omega arith in get_or-set_at xs t s v false e l ∙ ap (λ (b : Bool). cond b v (get_or xs s false)) (sym (eq-eqb s t e))
  ]
]

pub marked-below : (xs : List Bool) (s : ℕ) → is_marked xs s ≡ true → s < length xs
marked-below xs s h = elim (le_or (length xs) s) as (λ _. s < length xs) [ inl k ↦ (let e = get_or-eq_default xs false k in cc) | inr k ↦ k ]

-- ---- a measure: two for each state that isn't found, and one for each that waits

abbrev one : Bool → ℕ
one true = 0
one false = 1

abbrev pub left_to_do : Front → ℕ
left_to_do f = 2 * sum_by one f.found + length f.waiting

-- ---- one front after another

pub record Grows (old new : Front) : Type 0 where
  pub keeps : (s : ℕ) → is_marked old.found s ≡ true → is_marked new.found s ≡ true
  pub waits : (s : ℕ) → is_marked new.found s ≡ true → (is_marked old.found s ≡ true) ⊎ (is_listed new.waiting s ≡ true)
  pub lists : (s : ℕ) → is_listed old.waiting s ≡ true → is_listed new.waiting s ≡ true
  pub listed : ((s : ℕ) → is_listed old.waiting s ≡ true → is_marked old.found s ≡ true) → (s : ℕ) → is_listed new.waiting s ≡ true → is_marked new.found s ≡ true
  pub count : length new.found ≡ length old.found
  pub smaller : left_to_do new ≤ left_to_do old

pub grows-refl : (f : Front) → Grows f f
grows-refl f = record { keeps = λ s h. h; waits = λ s h. inl h; lists = λ s h. h; listed = λ h. h; count = refl; smaller = omega arith }

waits_by : (f g h : Front) (s : ℕ) → Grows f g → Grows g h → (is_marked g.found s ≡ true) ⊎ (is_listed h.waiting s ≡ true) → (is_marked f.found s ≡ true) ⊎ (is_listed h.waiting s ≡ true)
waits_by f g h s a b (inr k) = inr k
waits_by f g h s a b (inl k) = elim (a.waits s k) as (λ _. (is_marked f.found s ≡ true) ⊎ (is_listed h.waiting s ≡ true)) [ inl j ↦ inl j | inr j ↦ inr (b.lists s j) ]

pub grows-trans : (f g h : Front) → Grows f g → Grows g h → Grows f h
grows-trans f g h a b = record {
  keeps = λ s k. b.keeps s (a.keeps s k);
  waits = λ s k. waits_by f g h s a b (b.waits s k);
  lists = λ s k. b.lists s (a.lists s k);
  listed = λ k. b.listed (a.listed k);
  count = b.count ∙ a.count;
  smaller = let i = a.smaller in let j = b.smaller in omega arith;
}

-- ---- one state more

or_cases : (a b : Bool) → (a || b) ≡ true → (a ≡ true) ⊎ (b ≡ true)
or_cases true b h = inl refl
or_cases false b h = inr h

not_is : (b : Bool) → not b ≡ true → b ≡ false
not_is true h = cc
not_is false h = refl

pub listed-one : (t s : ℕ) → is_listed (t ∷ []) s ≡ true → t ≡ s
listed-one t s h = elim (or_cases (eqb t s) false h) as (λ _. t ≡ s) [ inl k ↦ eqb-true t s k | inr k ↦ cc ]

module _ (f : Front) (t : ℕ) (inside : t < length f.found) (new : is_marked f.found t ≡ false) where
  abbrev put : Front
  put = record { found = set f.found t true; waiting = f.waiting ++ t ∷ [] }

  keeps_by : (s : ℕ) (b : Bool) → is_marked f.found s ≡ true → cond b true (is_marked f.found s) ≡ true
  keeps_by s true h = refl
  keeps_by s false h = h

  waits_put : (s : ℕ) (b : Bool) → eqb s t ≡ b → cond b true (is_marked f.found s) ≡ true → (is_marked f.found s ≡ true) ⊎ (is_listed put.waiting s ≡ true)
  waits_put s true e h = inr (list_any-append (λ k. eqb k s) f.waiting (t ∷ []) ∙ or_right (is_listed f.waiting s) (eqb t s || false) (or_left (eqb t s) false (eq-eqb t s (sym (eqb-true s t e)))))
  waits_put s false e h = inl h

  abbrev here : is_marked put.found t ≡ true
  here = get_or-set_at f.found t t true false refl inside

  listed_put : ((s : ℕ) → is_listed f.waiting s ≡ true → is_marked f.found s ≡ true) → (s : ℕ) → (is_listed f.waiting s ≡ true) ⊎ (is_listed (t ∷ []) s ≡ true) → is_marked put.found s ≡ true
  listed_put h s (inl k) = set-at f.found t s true inside ∙ keeps_by s (eqb s t) (h s k)
  listed_put h s (inr k) = subst (λ (v : ℕ). is_marked put.found v ≡ true) (listed-one t s k) here

  grows_put : Grows f put
  grows_put = record {
    keeps = λ s h. set-at f.found t s true inside ∙ keeps_by s (eqb s t) h;
    waits = λ s h. waits_put s (eqb s t) refl (sym (set-at f.found t s true inside) ∙ h);
    lists = λ s h. list_any-append (λ k. eqb k s) f.waiting (t ∷ []) ∙ or_left (is_listed f.waiting s) (is_listed (t ∷ []) s) h;
    listed = λ h s k. listed_put h s (or_cases (is_listed f.waiting s) (is_listed (t ∷ []) s) (sym (list_any-append (λ v. eqb v s) f.waiting (t ∷ [])) ∙ k));
    count = length-set f.found t true;
    smaller =
        let e = sum_by-set one f.found t true false inside in
        let d : one (is_marked f.found t) ≡ 1 = ap one new in
        let l = length-append f.waiting (t ∷ []) in
        omega arith;
  }

module _ (goals : List Bool) (z : List ℚ) where
  abbrev after : Front → ℕ → Bool → Front
  after f t b = if b then record { found = set f.found t true; waiting = f.waiting ++ t ∷ [] } else f

  abbrev test : Front → ℕ → Bool
  test f t = is_open goals z t && not (is_marked f.found t)

  grows_by : (f : Front) (t : ℕ) (b : Bool) → test f t ≡ b → t < length f.found → Grows f (after f t b)
  grows_by f t true e l = grows_put f t l (not_is (is_marked f.found t) (and-right (is_open goals z t) (not (is_marked f.found t)) e))
  grows_by f t false e l = grows-refl f

  pub grows_state : (f : Front) (t : ℕ) → t < length f.found → Grows f (with_state goals z f t)
  grows_state f t l = grows_by f t (test f t) refl l

  not_new : (a b : Bool) → (a && not b) ≡ false → a ≡ true → b ≡ true
  not_new true true h e = refl
  not_new true false h e = cc
  not_new false b h e = cc

  found_by : (f : Front) (t : ℕ) (b : Bool) → test f t ≡ b → t < length f.found → is_open goals z t ≡ true → is_marked (after f t b).found t ≡ true
  found_by f t true e l o = get_or-set_at f.found t t true false refl l
  found_by f t false e l o = not_new (is_open goals z t) (is_marked f.found t) e o

  pub found_state : (f : Front) (t : ℕ) → t < length f.found → is_open goals z t ≡ true → is_marked (with_state goals z f t).found t ≡ true
  found_state f t l o = found_by f t (test f t) refl l o

  within_put : (f : Front) (t s : ℕ) (set : ℕ → Bool) (b : Bool) → eqb s t ≡ b → set t ≡ true → ((v : ℕ) → is_marked f.found v ≡ true → set v ≡ true)
      → cond b true (is_marked f.found s) ≡ true → set s ≡ true
  within_put f t s set true e o h k = subst (λ (v : ℕ). set v ≡ true) (sym (eqb-true s t e)) o
  within_put f t s set false e o h k = h s k

  within_by : (f : Front) (t : ℕ) (set : ℕ → Bool) (b : Bool) → test f t ≡ b → t < length f.found
      → (is_open goals z t ≡ true → set t ≡ true) → ((v : ℕ) → is_marked f.found v ≡ true → set v ≡ true)
      → (s : ℕ) → is_marked (after f t b).found s ≡ true → set s ≡ true
  within_by f t set true e l o h s k =
      within_put f t s set (eqb s t) refl (o (and-left (is_open goals z t) (not (is_marked f.found t)) e)) h (sym (set-at f.found t s true l) ∙ k)
  within_by f t set false e l o h s k = h s k

  -- a set that has what was found and, where it is open, the state
  pub within_state : (f : Front) (t : ℕ) (set : ℕ → Bool) → t < length f.found → (is_open goals z t ≡ true → set t ≡ true) → ((v : ℕ) → is_marked f.found v ≡ true → set v ≡ true)
      → (s : ℕ) → is_marked (with_state goals z f t).found s ≡ true → set s ≡ true
  within_state f t set l o h s k = within_by f t set (test f t) refl l o h s k

  -- ---- each of a row

  pub grows_row : (row : List Entry) (f : Front) (n : ℕ) → length f.found ≡ n → All (λ x. x.target < n) row → Grows f (with_row goals z f row)
  grows_row [] f n e h = grows-refl f
  grows_row (x ∷ row) f n e h =
      let l : x.target < length f.found = let i = All-head (λ (y : Entry). y.target < n) x row h in omega arith in
      let g = grows_state f x.target l in
      grows-trans f (with_state goals z f x.target) (with_row goals z (with_state goals z f x.target) row) g
      (grows_row row (with_state goals z f x.target) n (g.count ∙ e) (All-tail (λ (y : Entry). y.target < n) x row h))

  -- the targets of a row that is lent
  pub states_row : (ts : List ℕ) (ps : List ℚ) (f : Front) → length ts ≡ length ps → fold (with_state goals z) f ts ≡ with_row goals z f (entries ts ps)
  states_row [] ps f e = refl
  states_row (t ∷ ts) [] f e = absurd (omega arith)
  states_row (t ∷ ts) (p ∷ ps) f e = states_row ts ps (with_state goals z f t) (omega (arith, e))

pub fold_range : {A : Type 0} (step : A → ℕ → A) (a : A) (n : ℕ) → fold step a (range_with_len 0 (n + 1)) ≡ step (fold step a (range_with_len 0 n)) n
fold_range step a n = ap (fold step a) (range_more n) ∙ fold-append step a (range_with_len 0 n) (n ∷ [])

-- what is found after some of a list
pub record IsFound (old new : Front) (step : Front → ℕ → Front) (some : List ℕ) (n : ℕ) : Type 0 where
  pub same : new ≡ fold step old some
  pub count : length new.found ≡ n
