-- Choices that lead to smaller ranks, as the code tests them.
use Rattle.std.proofs.Common.{◌≡◌, ◌⊎◌, inl, inr, ℕ, suc, zero, ◌+◌, ◌<◌, ◌≤◌, Bool, true, false, ◌||◌, ◌&&◌, List, [], ◌∷◌, length, get_or, refl, sym, ap, ◌∙◌, arith}
use Rattle.std.proofs.{Common.{subst, cond, Option, Some, None}, lemmas.Bool.{cases_lt, false≢true, cases_Bool, cases_eq}, lemmas.List.Folds.{find-append}}
use Rattle.std.proofs.lemmas.List.FromFn.{get_or-map-range_with_len, length-map-range_with_len}
use Rattle.std.specs.{List.{list_any, list_all, find, range_with_len}, Option.{unwrap_or, option_or}}
use Rattle.mdp_math.proofs.Lists.{range_more}
use Rattle.mdp_math.specs.Rational.{ℚ}
use Rattle.mdp_spec.specs.{Mdp.{Mdp, states_of, choices_at, row_at}, Row.{entries}}
use Rattle.mdp_graph.specs.{Sets.{marked, can_enter}, Layers.{rank_at}, Choices.{plain_rank, is_before, may_fall, first_below, first_passing}}
use Rattle.mdp_graph.proofs.EdgeFacts.{all-as-stays}

any-as-enters : (set : ℕ → Bool) (ts : List ℕ) (ps : List ℚ) → length ts ≡ length ps → can_enter set (entries ts ps) ≡ list_any set ts
any-as-enters set [] ps e = refl
any-as-enters set (t ∷ ts) [] e = absurd (omega arith)
any-as-enters set (t ∷ ts) (p ∷ ps) e = ap (λ b. set t || b) (any-as-enters set ts ps (omega arith))

module _ (m : Mdp) (inside : List Bool) (ranks : List (Option ℕ)) (s c r : ℕ) (ts : List ℕ) (ps : List ℚ) (same : length ts ≡ length ps)
    (e : entries ts ps ≡ row_at m s c) (er : r ≡ plain_rank (rank_at ranks s)) where
  fall_is : may_fall m inside ranks s c ≡ (list_all (marked inside) ts && list_any (λ t. is_before r (rank_at ranks t)) ts)
  fall_is = rw (sym e, sym er, all-as-stays (marked inside) ts ps same, any-as-enters (λ t. is_before r (rank_at ranks t)) ts ps same) refl

  pub fall_holds : list_all (marked inside) ts ≡ true → list_any (λ t. is_before r (rank_at ranks t)) ts ≡ may_fall m inside ranks s c
  fall_holds all = sym (fall_is ∙ ap (λ b. b && list_any (λ t. is_before r (rank_at ranks t)) ts) all)

  pub fall_fails : list_all (marked inside) ts ≡ false → false ≡ may_fall m inside ranks s c
  fall_fails out = sym (fall_is ∙ ap (λ b. b && list_any (λ t. is_before r (rank_at ranks t)) ts) out)

-- c is the first number below n that passes the test; 0 where none does
pub record IsFirst (test : ℕ → Bool) (n c : ℕ) : Type 0 where
  pub least : (d : ℕ) → d < n → test d ≡ true → (test c ≡ true) × (c ≤ d)
  pub none : ((d : ℕ) → d < n → test d ≡ false) → c ≡ 0

first_here : (test : ℕ → Bool) (n c : ℕ) → c < n → test c ≡ true → ((d : ℕ) → d < c → test d ≡ false) → IsFirst test n c
first_here test n c h e before = record {
  least = λ d l t. (e, elim (cases_lt d c) [ inl k ↦ absurd (false≢true (sym (before d k) ∙ t)) | inr g ↦ g ]);
  none = λ all. absurd (false≢true (sym (all c h) ∙ e));
}

first_none : (test : ℕ → Bool) (n : ℕ) → ((d : ℕ) → d < n → test d ≡ false) → IsFirst test n 0
first_none test n all = record { least = λ d l t. absurd (false≢true (sym (all d l) ∙ t)); none = λ all. refl }

none_more : (test : ℕ → Bool) (c : ℕ) → ((d : ℕ) → d < c → test d ≡ false) → test c ≡ false → (d : ℕ) → d < c + 1 → test d ≡ false
none_more test c before here d h = elim (cases_eq d c) [ inl same ↦ ap test same ∙ here | inr other ↦ before d (omega arith) ]

-- whether a number below n passes
pub case-any : (test : ℕ → Bool) (n : ℕ) → ((d : ℕ) × (d < n) × (test d ≡ true)) ⊎ ((d : ℕ) → d < n → test d ≡ false)
case-any test zero = inr (λ d h. absurd (omega arith))
case-any test (suc n) = elim (case-any test n) [
  | inl w ↦ inl (w.0, omega (arith, w.1), w.2)
  | inr none ↦ (elim (cases_Bool (test n)) [
    | inl e ↦ inl (n, omega arith, e)
    | inr e ↦ inr (λ d h. none_more test n none e d (omega arith))
  ])
]

-- what a search below n finds
data Found (test : ℕ → Bool) (n : ℕ) : Option ℕ → Type 0 where
  none : ((d : ℕ) → d < n → test d ≡ false) → Found test n None
  some : (c : ℕ) → c < n → test c ≡ true → ((d : ℕ) → d < c → test d ≡ false) → Found test n (Some c)

found_more : (test : ℕ → Bool) (n : ℕ) (o : Option ℕ) → Found test n o → Found test (suc n) (option_or o (find test (n ∷ [])))
found_more test n o (some c h e before) = some c (omega arith) e before
found_more test n o (none all) = elim (cases_Bool (test n)) [
  | inl e ↦ subst (λ b. Found test (suc n) (cond b (Some n) None)) (sym e) (some n (omega arith) e all)
  | inr e ↦ subst (λ b. Found test (suc n) (cond b (Some n) None)) (sym e) (none (λ d h. none_more test n all e d (omega arith)))
]

found : (test : ℕ → Bool) (n : ℕ) → Found test n (find test (range_with_len 0 n))
found test zero = none (λ d h. absurd (omega arith))
found test (suc n) =
    let z : suc n ≡ n + 1 = omega arith in
    subst (Found test (suc n))
    (sym (ap (λ k. find test (range_with_len 0 k)) z ∙ ap (find test) (range_more n) ∙ find-append test (range_with_len 0 n) (n ∷ [])))
    (found_more test n (find test (range_with_len 0 n)) (found test n))

first_found : (test : ℕ → Bool) (n : ℕ) (o : Option ℕ) → Found test n o → IsFirst test n (unwrap_or o 0)
first_found test n o (none all) = first_none test n all
first_found test n o (some c h e before) = first_here test n c h e before

-- each of the first choices that pass a test
pub firsts : (m : Mdp) (test : ℕ → ℕ → Bool) (choices : List ℕ) → choices ≡ first_passing m test → (s : ℕ) → s < states_of m → IsFirst (test s) (length (choices_at m s)) (get_or choices s 0)
firsts m test choices is s h =
    subst (IsFirst (test s) (length (choices_at m s)))
    (sym (ap (λ (xs : List ℕ). get_or xs s 0) is ∙ get_or-map-range_with_len (λ t. first_below (test t) (length (choices_at m t))) 0 (states_of m) s s 0 h (omega arith)))
    (first_found (test s) (length (choices_at m s)) (find (test s) (range_with_len 0 (length (choices_at m s)))) (found (test s) (length (choices_at m s))))

pub firsts_count : (m : Mdp) (test : ℕ → ℕ → Bool) (choices : List ℕ) → choices ≡ first_passing m test → length choices ≡ states_of m
firsts_count m test choices is = ap length is ∙ length-map-range_with_len (λ s. first_below (test s) (length (choices_at m s))) 0 (states_of m)
