-- What the written comparison says in exact numbers: a choice that improves a node is a candidate, it is better than the node's value, and no
-- candidate is better than it; where none improves a node, no candidate is better than its value.
use Rattle.std.proofs.Common.{◌≡◌, ℕ, zero, suc, ◌<◌, ◌≤◌, inl, inr, Bool, true, false, if◌then◌else◌, List, []}
use Rattle.std.proofs.Common.{◌∷◌, length, get_or, Option, Some, None, Ok, refl, sym, ◌∙◌, ap, subst, arith, pos}
use Rattle.mdp_math.specs.{Rational.{ℚ, ◌+ℚ◌, ◌≤ℚ◌, ◌<ℚ◌}, Written.{written_add, written_mul, written_compare, cmp_ℚ, ◌>>=◌}}
use Rattle.mdp_math.proofs.{Written.{written_add-some, written_mul-some, written_compare-some}, Ring.{◌⊕◌, ◌⊗◌, lit, ring}, Laws.{rat_ring}}
use Rattle.mdp_math.proofs.{Linear.{combine, equal}, Order.{≤ℚ_trans, ≤ℚ_of_lt, ≤ℚ_of_eq, ≤ℚ-<ℚ_trans}, Numbers.{last_or}}
use Rattle.mdp_spec.specs.{Mdp.{Entry, value_at}, Row.{row_sum}, Written.{written_sum}}
use Rattle.mdp_policy_iteration.specs.Problem.{Problem, Move, stop, go, Choice, count, choices_at, choice_at, worth, written_worth, IsProblem}
use Rattle.mdp_policy_iteration.specs.{Candidates.{Best, judged, compared}, Path.{comparing, then_compared, best_of, improvement, improvements}}
use Rattle.mdp_rows.specs.Better.{is_better}
use Rattle.mdp_policy_iteration.proofs.{Turned.{turn, better_of_test, worse_of_test}, Results.{ok_same, ok_part, place_part, IsUpTo, up_to-is}}

-- ---- a sum that is told is exact

pub some_part : {A B : Type 0} (o : Option A) (g : A → Option B) (y : B) → (o >>= g) ≡ Some y → (x : A) × (o ≡ Some x) × (g x ≡ Some y)
some_part None g y h = cc
some_part (Some x) g y h = (x, refl, h)

pub written_sum-is : (z : List ℚ) (acc r : ℚ) (row : List Entry) → written_sum z acc row ≡ Some r → r ≡ acc +ℚ row_sum row z
written_sum-is z acc r [] h = let e : acc ≡ r = cc in sym e ∙ ring rat_ring 1 (λ a. a) (λ a. a ⊕ lit (pos 0)) refl acc
written_sum-is z acc r (x ∷ row) h =
    let a = some_part (written_mul x.prob (value_at z x.target)) (λ term. written_add acc term >>= (λ sum. written_sum z sum row)) r h in
    let b = some_part (written_add acc a.0) (λ sum. written_sum z sum row) r a.2 in
    combine 7 (λ r a s t p v o. r) (λ r a s t p v o. a ⊕ (p ⊗ v ⊕ o)) (λ r a s t p v o. equal (lit (pos 1)) r (s ⊕ o) ∷ equal (lit (pos 1)) s (a ⊕ t) ∷ equal (lit (pos 1)) t (p ⊗ v) ∷ []) refl
    r acc b.0 a.0 x.prob (value_at z x.target) (row_sum row z)
    (written_sum-is z b.0 r row b.2) (written_add-some acc a.0 b.0 (sym b.1)) (written_mul-some x.prob (value_at z x.target) a.0 (sym a.1))

-- what a choice that is computed with as it stands is worth by written arithmetic, it is worth
pub plain-exact : (x : List ℚ) (m : Move) (r : ℚ) → written_worth m x ≡ Some r → r ≡ worth x m
plain-exact x (stop v) r h = cc
plain-exact x (go e row) r h = written_sum-is x e r row h

-- ---- the choices of a node

module _ (p : Problem) (x : List ℚ) (s : ℕ) where
  abbrev value_of : ℕ → ℚ
  value_of c = turn p.dir (worth x (choice_at p s c).move)

  -- the best value v after the first c choices: it is the node's own, or that of a candidate which is better
  abbrev IsOf : ℕ → ℚ → Option ℕ → Type 0
  IsOf c v None = v ≡ value_at x s
  IsOf c v (Some d) = (d < c) × ((choice_at p s d).candidate ≡ true) × (v ≡ worth x (choice_at p s d).move) × (turn p.dir (value_at x s) <ℚ turn p.dir v)

  record IsBestSoFar (c : ℕ) (best : Best) : Type 0 where
    is : IsOf c best.value best.choice
    most : (d : ℕ) → d < c → (choice_at p s d).candidate ≡ true → value_of d ≤ℚ turn p.dir best.value

  grown : (c : ℕ) (v : ℚ) (o : Option ℕ) → IsOf c v o → IsOf (suc c) v o
  grown c v None h = h
  grown c v (Some d) h = (omega (arith, h.0), h.1, h.2, h.3)

  above_value : (c : ℕ) (v : ℚ) (o : Option ℕ) → IsOf c v o → turn p.dir (value_at x s) ≤ℚ turn p.dir v
  above_value c v None h = ≤ℚ_of_eq _ _ (ap (turn p.dir) (sym h))
  above_value c v (Some d) h = ≤ℚ_of_lt _ _ h.3

  -- one more that isn't better
  stays : (c : ℕ) (best : Best) → IsBestSoFar c best → ((choice_at p s c).candidate ≡ true → value_of c ≤ℚ turn p.dir best.value) → IsBestSoFar (suc c) best
  stays c best h k = record {
    is = grown c best.value best.choice h.is;
    most = λ d l e. elim (last_or c d l) as (λ _. value_of d ≤ℚ turn p.dir best.value) [
      | inl q ↦ subst (λ j. value_of j ≤ℚ turn p.dir best.value) (sym q) (k (subst (λ j. (choice_at p s j).candidate ≡ true) q e))
      | inr m ↦ h.most d m e
    ];
  }

  -- one more that is better
  takes : (c : ℕ) (best : Best) (v : ℚ) → IsBestSoFar c best → (choice_at p s c).candidate ≡ true → v ≡ worth x (choice_at p s c).move → turn p.dir best.value <ℚ turn p.dir v
      → IsBestSoFar (suc c) (record { value = v; choice = Some c })
  takes c best v h cand e better = record {
    is = (omega arith, cand, e, ≤ℚ-<ℚ_trans _ _ _ (above_value c best.value best.choice h.is) better);
    most = λ d l k. elim (last_or c d l) as (λ _. value_of d ≤ℚ turn p.dir v) [
      | inl q ↦ ≤ℚ_of_eq _ _ (subst (λ j. value_of j ≡ turn p.dir v) (sym q) (ap (turn p.dir) (sym e)))
      | inr m ↦ ≤ℚ_trans _ _ _ (h.most d m k) (≤ℚ_of_lt _ _ better)
    ];
  }

  judged_by : (c : ℕ) (best after : Best) (v : ℚ) (b : Bool) → IsBestSoFar c best → (choice_at p s c).candidate ≡ true → v ≡ worth x (choice_at p s c).move → is_better p.dir (cmp_ℚ v best.value) ≡ b
      → (let o : Option Best = Some (if b then record { value = v; choice = Some c } else best) in o) ≡ Some after → IsBestSoFar (suc c) after
  judged_by c best after v true h cand e test made =
      let same : (let r : Best = record { value = v; choice = Some c } in r) ≡ after = cc in subst (IsBestSoFar (suc c)) same (takes c best v h cand e (better_of_test p.dir v best.value test))
  judged_by c best after v false h cand e test made =
      let same : best ≡ after = cc in
      subst (IsBestSoFar (suc c)) same (stays c best h (λ _. subst (λ (u : ℚ). turn p.dir u ≤ℚ turn p.dir best.value) e (worse_of_test p.dir v best.value test)))

  compared_by : (c : ℕ) (best after : Best) (choice : Choice) (b : Bool) → choice_at p s c ≡ choice → choice.candidate ≡ b → ((v : ℚ) → choice.written x ≡ Some v → v ≡ worth x choice.move)
      → IsBestSoFar c best
      → (if b then (choice.written x >>= judged p.dir c best) else Some best) ≡ Some after
      → IsBestSoFar (suc c) after
  compared_by c best after choice false is cand exact h made =
      let same : best ≡ after = cc in subst (IsBestSoFar (suc c)) same (stays c best h (λ e. absurd (let q : true ≡ false = sym e ∙ ap Choice.candidate is ∙ cand in cc)))
  compared_by c best after choice true is cand exact h made =
      let a = some_part (choice.written x) (judged p.dir c best) after made in
      let b = some_part (written_compare a.0 best.value) (λ order. (let o : Option Best = Some (if is_better p.dir order then record { value = a.0; choice = Some c } else best) in o)) after a.2 in
      let order : b.0 ≡ cmp_ℚ a.0 best.value = written_compare-some a.0 best.value b.0 (sym b.1) in
      judged_by c best after a.0 (is_better p.dir b.0) h (ap Choice.candidate is ∙ cand) (subst (λ (k : Choice). a.0 ≡ worth x k.move) (sym is) (exact a.0 a.1))
      (ap (is_better p.dir) (sym order)) b.2

  best_of-is : IsProblem p → s < count p → (c : ℕ) (best : Best) → c ≤ length (choices_at p s) → best_of p x s c ≡ Ok best → IsBestSoFar c best
  best_of-is known below zero best l h =
      let same : (let r : Best = record { value = value_at x s; choice = None } in r) ≡ best = ok_same _ best h in
      subst (IsBestSoFar 0) same (record { is = refl; most = λ d l. absurd (omega arith) })
  best_of-is known below (suc c) best l h =
      let a = ok_part (best_of p x s c) (then_compared p x s c) best h in
      compared_by c a.0 best (choice_at p s c) (choice_at p s c).candidate refl refl (λ v e. known.exact s c x v below (omega arith) e) (best_of-is known below c a.0 (omega arith) a.1)
      (place_part (comparing s c) (compared p.dir x c (choice_at p s c) a.0) best a.2)

-- what the choice that is taken at a node says, or that none is
abbrev pub IsImprovement : Problem → List ℚ → ℕ → Option ℕ → Type 0
IsImprovement p x s None =
    (d : ℕ) → d < length (choices_at p s) → (choice_at p s d).candidate ≡ true → turn p.dir (worth x (choice_at p s d).move) ≤ℚ turn p.dir (value_at x s)
IsImprovement p x s (Some c) =
    (c < length (choices_at p s)) × ((choice_at p s c).candidate ≡ true) × (turn p.dir (value_at x s) <ℚ turn p.dir (worth x (choice_at p s c).move))

improvement_of : (p : Problem) (x : List ℚ) (s : ℕ) (v : ℚ) (o : Option ℕ) → IsOf p x s (length (choices_at p s)) v o
    → ((d : ℕ) → d < length (choices_at p s) → (choice_at p s d).candidate ≡ true → turn p.dir (worth x (choice_at p s d).move) ≤ℚ turn p.dir v) → IsImprovement p x s o
improvement_of p x s v None is most = λ d m e. subst (λ (u : ℚ). turn p.dir (worth x (choice_at p s d).move) ≤ℚ turn p.dir u) is (most d m e)
improvement_of p x s v (Some c) is most = (is.0, is.1, subst (λ (u : ℚ). turn p.dir (value_at x s) <ℚ turn p.dir u) is.2 is.3)

pub improvement-is : (p : Problem) → IsProblem p → (x : List ℚ) (s : ℕ) → s < count p → (o : Option ℕ) → improvement p x s ≡ Ok o → IsImprovement p x s o
improvement-is p known x s l o h =
    let a = ok_part (best_of p x s (length (choices_at p s))) (λ b. Ok (Best.choice b)) o h in
    let b = best_of-is p x s known l (length (choices_at p s)) a.0 (omega arith) a.1 in
    subst (IsImprovement p x s) (ok_same (Best.choice a.0) o a.2) (improvement_of p x s (Best.value a.0) (Best.choice a.0) b.is b.most)

-- all nodes
pub record AreImprovements (p : Problem) (x : List ℚ) (takes : List (Option ℕ)) : Type 0 where
  pub len : length takes ≡ count p
  pub at : (s : ℕ) → s < count p → IsImprovement p x s (get_or takes s None)

pub improvements-are : (p : Problem) → IsProblem p → (x : List ℚ) (takes : List (Option ℕ)) → improvements p x ≡ Ok takes → AreImprovements p x takes
improvements-are p known x takes h =
    let u = up_to-is (improvement p x) (count p) takes h in record { len = IsUpTo.len u; at = λ s l. improvement-is p known x s l (get_or takes s None) (IsUpTo.at u s None l) }
