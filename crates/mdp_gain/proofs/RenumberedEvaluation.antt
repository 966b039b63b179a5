-- Values under other numbers, and what one evaluation adds to them.
use Rattle.std.proofs.Common.{◌≡◌, ℕ, zero, suc, ◌<◌, ◌≤◌, ◌⊎◌, inl, inr, List, [], ◌∷◌, ◌++◌, length}
use Rattle.std.proofs.{Common.{refl, sym, ◌∙◌, ap, subst, arith, Option, Some, None, pos}, lemmas.List.{get_or_append_left, get_or_push, get_or_past, length_push}}
use Rattle.mdp_math.specs.{Rational.{ℚ, of_int}, Written.{◌>>=◌}}
use Rattle.mdp_math.proofs.Numbers.{le_or}
use Rattle.mdp_spec.specs.{Mdp.{value_at}, Written.{written_sum}}
use Rattle.mdp_elim.specs.{Equation.{Equation, Values}, Elimination.{evaluated}}
use Rattle.mdp_gain.specs.Renumbering.{Ascend}
use Rattle.mdp_gain.proofs.{RenumberedRows.{IsPlace, state, HaveSame, written_sum-renamed}, RenumberedSteps.{renamed_equation, LeadsInside}}

-- one more value, which is 0, changes no value
pub value_at-zero : (xs : List ℚ) (k : ℕ) → value_at (xs ++ of_int (pos 0) ∷ []) k ≡ value_at xs k
value_at-zero [] zero = refl
value_at-zero [] (suc k) = refl
value_at-zero (x ∷ xs) zero = refl
value_at-zero (x ∷ xs) (suc k) = value_at-zero xs k

module _ (states : List ℕ) where
  -- the values of the first m places, and those of the numbers below n
  pub record IsSpread (m n : ℕ) (xs ys : List ℚ) : Type 0 where
    pub count : length xs ≡ m
    pub many : length ys ≡ n
    pub same : HaveSame states xs ys

  pub spread-none : IsSpread 0 0 [] []
  spread-none = record { count = refl; many = refl; same = λ j i. refl }

  -- a number that is no state has the value 0
  pub spread-zero : (m n : ℕ) (xs ys : List ℚ) → IsSpread m n xs ys → IsSpread m (suc n) xs (ys ++ of_int (pos 0) ∷ [])
  spread-zero m n xs ys h = record {
    count = h.count;
    many = let e = h.many in omega (arith, e, length_push ys (of_int (pos 0)));
    same = λ j i. value_at-zero ys (state states j) ∙ h.same j i;
  }

  -- a state has the same value in both
  module _ (ascend : Ascend states) (a s : ℕ) (place : IsPlace states a) (here : state states a ≡ s) (x : ℚ) (xs ys : List ℚ) (h : IsSpread a s xs ys) where
    at_place : (j : ℕ) → IsPlace states j → (a ≤ j) ⊎ (j < a) → (j ≤ a) ⊎ (a < j) → value_at (ys ++ x ∷ []) (state states j) ≡ value_at (xs ++ x ∷ []) j
    at_place j i (inr l) o =
        let c = h.count in
        let m = h.many in
        let k = ascend j a l place in
        get_or_append_left ys (x ∷ []) (of_int (pos 0)) (state states j) (omega (arith, m, k, here)) ∙ h.same j i
        ∙ sym (get_or_append_left xs (x ∷ []) (of_int (pos 0)) j (omega (arith, c, l)))
    at_place j i (inl l) (inl k) =
        let e : a ≡ j = omega arith in
        let f : length ys ≡ state states j = h.many ∙ sym here ∙ ap (state states) e in
        get_or_push ys x (of_int (pos 0)) (state states j) f ∙ sym (get_or_push xs x (of_int (pos 0)) j (h.count ∙ e))
    at_place j i (inl l) (inr k) =
        let c = h.count in
        let m = h.many in
        let g = ascend a j k i in
        get_or_past (ys ++ x ∷ []) (state states j) (of_int (pos 0)) (omega (arith, m, g, here, length_push ys x))
        ∙ sym (get_or_past (xs ++ x ∷ []) j (of_int (pos 0)) (omega (arith, c, k, length_push xs x)))

    pub spread-more : IsSpread (suc a) (suc s) (xs ++ x ∷ []) (ys ++ x ∷ [])
    spread-more = record {
      count = let e = h.count in omega (arith, e, length_push xs x);
      many = let e = h.many in omega (arith, e, length_push ys x);
      same = λ j i. at_place j i (le_or a j) (le_or j a);
    }

  -- in both systems
  pub record AreSameValues (m n : ℕ) (v w : Values) : Type 0 where
    pub first : IsSpread m n v.first w.first
    pub second : IsSpread m n v.second w.second

  abbrev pub AreSameEvaluations : ℕ → ℕ → Option Values → Option Values → Type 0
  AreSameEvaluations m n None None = Unit {0}
  AreSameEvaluations m n (Some v) (Some w) = AreSameValues m n v w
  AreSameEvaluations m n None (Some w) = ⊥
  AreSameEvaluations m n (Some v) None = ⊥

  module _ (ascend : Ascend states) (a s : ℕ) (place : IsPlace states a) (here : state states a ≡ s) (v w : Values) (same : AreSameValues a s v w) where
    abbrev more : Values → Option ℚ → Option ℚ → Option Values
    more u o p = o >>= (λ x. p >>= (λ y. let z : Values = record { first = u.first ++ x ∷ []; second = u.second ++ y ∷ [] } in Some z))

    more_same : (o p : Option ℚ) → AreSameEvaluations (suc a) (suc s) (more v o p) (more w o p)
    more_same None p = tt
    more_same (Some x) None = tt
    more_same (Some x) (Some y) = record {
      first = spread-more ascend a s place here x v.first w.first same.first;
      second = spread-more ascend a s place here y v.second w.second same.second;
    }

    -- a state of the list is evaluated in both
    pub evaluated-same : (e f : Equation) → f ≡ renamed_equation states e → LeadsInside states e
        → AreSameEvaluations (suc a) (suc s) (evaluated e v) (evaluated f w)
    unfolding evaluated
    evaluated-same e f is inside =
        let first = written_sum-renamed states v.first w.first e.first e.entries same.first.same inside in
        let second = written_sum-renamed states v.second w.second e.second e.entries same.second.same inside in
        subst (λ (x : Equation). AreSameEvaluations (suc a) (suc s) (evaluated e v) (evaluated x w)) (sym is)
        (subst (λ (o : Option ℚ).
        AreSameEvaluations (suc a) (suc s) (evaluated e v) (more w o (written_sum w.second e.second (renamed_equation states e).entries))) (sym first)
        (subst (λ (o : Option ℚ). AreSameEvaluations (suc a) (suc s) (evaluated e v) (more w (written_sum v.first e.first e.entries) o)) (sym second)
        (more_same (written_sum v.first e.first e.entries) (written_sum v.second e.second e.entries))))
