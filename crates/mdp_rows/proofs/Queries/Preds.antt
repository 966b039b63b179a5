-- What stands in the lists of predecessors while they are filled.
use Rattle.std.proofs.Common.{◌≡◌, ◌≢◌, ℕ, zero, suc, ◌+◌, ◌<◌, ◌≤◌, Bool, true, false, ◌||◌, ◌==◌, IsTrue, cond, List, [], ◌∷◌, ◌++◌, length, map, take, get_or, set}
use Rattle.std.proofs.Common.{replicate, refl, sym, ap, ◌∙◌, arith, inl, inr, ◌⊎◌, append_assoc, leb, eq-eqb}
use Rattle.std.proofs.{lemmas.List.{append-nil, take_more, length-set, get_or-set_other, get_or-replicate, length-replicate}, lemmas.Grind.{get_or-set_at}}
use Rattle.std.proofs.{lemmas.Bool.{ne_eqb, cases_lt}, lemmas.List.Folds.{list_any-append}, lemmas.List.Elements.{filter-append}}
use Rattle.std.proofs.lemmas.List.FromFn.{fill_by_all}
use Rattle.std.specs.List.{range_with_len}
use borrow.Author.Tests.{leb-true}
use Rattle.mdp_math.proofs.{Booleans.{and-left, and-right}, Lists.{flat_more, map_more}}
use Rattle.mdp_math.specs.Rational.{ℚ}
use Rattle.mdp_spec.specs.{Mdp.{Mdp, states_of, row_at}, Row.{entries, ascends_from}}
use Rattle.mdp_rows.specs.{Preds.{is_among, leads_to, pair, first_choices, choices_of, choices_below, leading, preds_to}, declared.preds.Pred.{Pred}}

-- pred was appended to the list of each of these targets
pub record IsPushed (old new : List (List Pred)) (targets : List ℕ) (pred : Pred) : Type 0 where
  pub count : length new ≡ length old
  pub at : (t : ℕ) → t < length old → get_or new t [] ≡ get_or old t [] ++ cond (is_among t targets) (pred ∷ []) []

-- the pairs that lead to a state were appended to its list
pub record IsLed (m : Mdp) (old new : List (List Pred)) (pairs : List Pred) : Type 0 where
  pub count : length new ≡ length old
  pub at : (t : ℕ) → t < length old → get_or new t [] ≡ get_or old t [] ++ leading m t pairs

case-eq : (t x : ℕ) → (t ≡ x) ⊎ (t ≢ x)
case-eq t x = elim (cases_lt t x) [
  | inl l ↦ inr (omega arith)
  | inr g ↦ elim (cases_lt x t) [ inl l ↦ inr (omega arith) | inr k ↦ inl (omega arith) ]
]

among-more : (t : ℕ) (targets : List ℕ) (i : ℕ) → i < length targets → is_among t (take (i + 1) targets) ≡ (is_among t (take i targets) || ((get_or targets i 0 == t) || false))
among-more t targets i h = ap (is_among t) (take_more targets i 0 h) ∙ list_any-append (λ x. x == t) (take i targets) (get_or targets i 0 ∷ [])

pushed_here : (old now : List (List Pred)) (b c : Bool) (t : ℕ) (pred : Pred) → b ≡ false → c ≡ true → get_or now t [] ≡ get_or old t [] ++ cond b (pred ∷ []) []
    → get_or now t [] ++ pred ∷ [] ≡ get_or old t [] ++ cond (b || (c || false)) (pred ∷ []) []
pushed_here old now b c t pred eb ec e = rw (e, eb, ec) (ap (λ (x : List Pred). x ++ pred ∷ []) (append-nil (get_or old t [])))

or_false : (b c : Bool) → c ≡ false → (b || (c || false)) ≡ b
or_false true c e = refl
or_false false c e = rw e refl

pub one_pushed : (old now new : List (List Pred)) (targets : List ℕ) (i x : ℕ) (pred : Pred) → IsPushed old now (take i targets) pred → i < length targets → x ≡ get_or targets i 0 → x < length old
    → is_among x (take i targets) ≡ false → new ≡ set now x (get_or now x [] ++ pred ∷ []) → IsPushed old new (take (i + 1) targets) pred
one_pushed old now new targets i x pred was h is below fresh e = record {
  count = ap length e ∙ length-set now x (get_or now x [] ++ pred ∷ []) ∙ was.count;
  at = λ t k.
      rw (e, among-more t targets i h)
      (elim (case-eq t x) [
        | inl same ↦
            rw (sym same) (get_or-set_at now t t (get_or now t [] ++ pred ∷ []) [] refl (omega (arith, was.count)) ∙
            pushed_here old now (is_among t (take i targets)) (get_or targets i 0 == t) t pred (rw same fresh) (eq-eqb _ _ (sym is ∙ sym same)) (was.at t k))
        | inr other ↦
            get_or-set_other now x t (get_or now x [] ++ pred ∷ []) [] other ∙ was.at t k ∙
            ap (λ b. get_or old t [] ++ cond b (pred ∷ []) []) (sym (or_false (is_among t (take i targets)) (get_or targets i 0 == t) (ne_eqb _ _ (λ e. other (sym (is ∙ e))))))
      ]);
}

pub more_led : (m : Mdp) (old now new : List (List Pred)) (pairs more : List Pred) → IsLed m old now pairs → length new ≡ length now
    → ((t : ℕ) → t < length now → get_or new t [] ≡ get_or now t [] ++ leading m t more) → IsLed m old new (pairs ++ more)
more_led m old now new pairs more was count at = record {
  count = count ∙ was.count;
  at = λ t h.
      at t (omega (arith, was.count)) ∙ ap (λ (x : List Pred). x ++ leading m t more) (was.at t h)
      ∙ append_assoc (get_or old t []) (leading m t pairs) (leading m t more)
      ∙ ap (λ (x : List Pred). get_or old t [] ++ x) (sym (filter-append (λ p. leads_to t (row_at m p.state p.choice)) pairs more));
}

-- a target below all others isn't among them
absent : (low t : ℕ) (ts : List ℕ) (ps : List ℚ) (i : ℕ) → length ts ≡ length ps → IsTrue (ascends_from low (entries ts ps)) → i < length ts → low ≤ get_or ts i 0
absent low t [] ps i same up h = absurd (omega arith)
absent low t (x ∷ ts) [] i same up h = absurd (omega arith)
absent low t (x ∷ ts) (p ∷ ps) zero same up h = leb-true low x (and-left (leb low x) (ascends_from (x + 1) (entries ts ps)) up)
absent low t (x ∷ ts) (p ∷ ps) (suc i) same up h =
    let l = leb-true low x (and-left (leb low x) (ascends_from (x + 1) (entries ts ps)) up) in
    let k = absent (x + 1) t ts ps i (omega arith) (and-right (leb low x) (ascends_from (x + 1) (entries ts ps)) up) (omega arith) in
    omega (arith, l, k)

-- a target of a row doesn't stand among the ones before it
pub different : (ts : List ℕ) (ps : List ℚ) (low i : ℕ) → length ts ≡ length ps → IsTrue (ascends_from low (entries ts ps)) → i < length ts → is_among (get_or ts i 0) (take i ts) ≡ false
different [] ps low i same up h = absurd (omega arith)
different (x ∷ ts) [] low i same up h = absurd (omega arith)
different (x ∷ ts) (p ∷ ps) low zero same up h = refl
different (x ∷ ts) (p ∷ ps) low (suc i) same up h =
    let more = and-right (leb low x) (ascends_from (x + 1) (entries ts ps)) up in
    let k = absent (x + 1) 0 ts ps i (omega arith) more (omega arith) in
    rw (ne_eqb x (get_or ts i 0) (λ e. absurd (omega (arith, k, e)))) (different ts ps (x + 1) i (omega arith) more (omega arith))

-- the targets of a row, as its entries say
pub leads_as_among : (ts : List ℕ) (ps : List ℚ) (t : ℕ) → length ts ≡ length ps → leads_to t (entries ts ps) ≡ is_among t ts
leads_as_among [] ps t e = refl
leads_as_among (x ∷ ts) [] t e = absurd (omega arith)
leads_as_among (x ∷ ts) (p ∷ ps) t e = ap (λ b. (x == t) || b) (leads_as_among ts ps t (omega arith))

-- the next choice of a state, and the next state
pub choices_more : (s n : ℕ) → first_choices s (n + 1) ≡ first_choices s n ++ pair s n ∷ []
choices_more s n = map_more (pair s) n

pub states_more : (m : Mdp) (n : ℕ) → choices_below m (n + 1) ≡ choices_below m n ++ choices_of m n
states_more m n = flat_more (choices_of m) n

-- a pushed choice is one that leads to the targets of its row
pub pushed_leads : (m : Mdp) (s c : ℕ) (ts : List ℕ) (ps : List ℚ) (t : ℕ) → length ts ≡ length ps → entries ts ps ≡ row_at m s c
    → cond (is_among t ts) (pair s c ∷ []) [] ≡ leading m t (pair s c ∷ [])
pushed_leads m s c ts ps t same e = rw (sym e, leads_as_among ts ps t same) refl

pub all_led : (m : Mdp) (new : List (List Pred)) (n : ℕ) → IsLed m (replicate (states_of m) []) new (choices_below m n) → n ≡ states_of m → new ≡ map (preds_to m) (range_with_len 0 (states_of m))
all_led m new n led e =
    let empty : List Pred = [] in
    let many : length (replicate (states_of m) empty) ≡ states_of m = length-replicate (states_of m) empty in
    fill_by_all (preds_to m) new (states_of m) [] (led.count ∙ many)
    (λ k h. led.at k (rw many h) ∙ ap (λ (x : List Pred). x ++ leading m k (choices_below m n)) (get_or-replicate (states_of m) k empty empty h) ∙ ap (λ j. leading m k (choices_below m j)) e)
