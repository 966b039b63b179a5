-- What is kept of the evaluation of a policy, at the nodes that are not evaluated again.
use Rattle.std.proofs.Common.{◌≡◌, ℕ, ◌<◌, inl, inr, Bool, true, false, List, ◌++◌, length, take, drop, Result, Ok, Err, refl, sym, ◌∙◌, ap, subst, arith, pos, zero-add}
use Rattle.std.proofs.{lemmas.Bool.{true≢false}, lemmas.List.{get_or_past, drop_all, append-nil, take_all}}
use Rattle.std.proofs.lemmas.List.FromFn.{get_or-map-range_with_len, length-map-range_with_len}
use Rattle.std.specs.Result.{IfErr}
use Rattle.mdp_math.specs.Rational.{ℚ, of_int}
use Rattle.mdp_math.proofs.Numbers.{le_or}
use Rattle.mdp_spec.specs.Mdp.{value_at}
use Rattle.mdp_rows.specs.Preds.{is_among}
use Rattle.mdp_elim.specs.System.{is_active}
use Rattle.mdp_elim.specs.Kept as elimination
use Rattle.mdp_policy_iteration.specs.{Problem.{Problem, Move, stop, go, count, goes_on, taken}, Places.{up_to}}
use Rattle.mdp_policy_iteration.specs.Path.{fits, stop_value, constant, filled_by, filled}
use Rattle.mdp_policy_iteration.specs.Evaluated.{Evaluation, equations_of, IsEvaluated, DifferAt, CanServe}
use Rattle.mdp_policy_iteration.proofs.{Chain.{active-at}, Results.{ok_same, IsUpTo, up_to-is}}
use Rattle.mdp_policy_iteration.proofs.Elsewhere.{taken-same, fits-same, constant-same, equations-len, equations-differ}

-- a slice that was written back
pub written_back : {A : Type 0} (n : ℕ) (new old : List A) → length new ≡ length old → n ≡ length old → take n (new ++ drop (length new) old) ≡ new
written_back n new old e l =
    ap (take n) (ap (λ (xs : List _). new ++ xs) (drop_all (length new) old (omega arith)) ∙ append-nil new) ∙ take_all n new (omega arith)

-- what holds of the error that is returned
pub if_err : {A E : Type 0} (result : Result A E) (e : E) (P : E → Type 0) → result ≡ Err e → P e → IfErr result P
if_err result e P q h = subst (λ (r : Result _ _). IfErr r P) (sym q) h

module _ (p : Problem) (policy : List ℕ) where
  filled-len : (x : List ℚ) → length (filled p policy x) ≡ count p
  filled-len x = length-map-range_with_len (λ s. filled_by x s (taken p policy s)) 0 (count p)

  filled-at : (x : List ℚ) (s : ℕ) → s < count p → value_at (filled p policy x) s ≡ filled_by x s (taken p policy s)
  filled-at x s l = get_or-map-range_with_len (λ s. filled_by x s (taken p policy s)) 0 (count p) s s (of_int (pos 0)) l (zero-add s)

-- as many values as nodes
pub kept-len : (p : Problem) (policy : List ℕ) (constants : List ℚ) (k : elimination.Kept) → elimination.IsKept (equations_of p policy constants) k → length k.first ≡ count p
kept-len p policy constants k is = is.first.count ∙ is.solved.count ∙ equations-len p policy constants

-- the value of a node that stops
stops-filled : (x : List ℚ) (s : ℕ) (m : Move) → goes_on m ≡ false → filled_by x s m ≡ stop_value m
stops-filled x s (stop v) e = refl
stops-filled x s (go r row) e = absurd (true≢false e)

filled_by-same : (x y : List ℚ) (s : ℕ) (m : Move) → value_at x s ≡ value_at y s → filled_by x s m ≡ filled_by y s m
filled_by-same x y s (stop v) e = refl
filled_by-same x y s (go r row) e = e

-- values that are the same below n are the same everywhere
same-past : (n s : ℕ) (x y : List ℚ) → length x ≡ n → length y ≡ n → (s < n → value_at x s ≡ value_at y s) → value_at x s ≡ value_at y s
same-past n s x y ex ey h = elim (le_or n s) [
  | inl past ↦ get_or_past x s (of_int (pos 0)) (omega arith) ∙ sym (get_or_past y s (of_int (pos 0)) (omega arith))
  | inr l ↦ h l
]

module _ (p : Problem) (nodes policy : List ℕ) (e : Evaluation) (serves : CanServe p nodes policy e) where
  -- a fact of the nodes that are not evaluated again holds if it holds where the policy before differs at these alone
  from_before : (P : ℕ → Type 0)
      → ((before : List ℕ) → IsEvaluated p before e → DifferAt p nodes before policy → (s : ℕ) → s < count p → is_among s nodes ≡ false → P s)
      → (s : ℕ) → s < count p → is_among s nodes ≡ false → P s
  from_before P h s l out = elim serves.others [
    | inl all ↦ absurd (true≢false (sym (all s l) ∙ out))
    | inr b ↦ h b.0 b.2 b.3 s l out
  ]

  pub others-fit : (s : ℕ) → s < count p → is_among s nodes ≡ false → fits p policy s ≡ true
  others-fit = from_before (λ s. fits p policy s ≡ true) (λ before is differ s l out. fits-same p nodes before policy differ s l out ∙ is.fit s l)

  pub others-marked : (s : ℕ) → s < count p → is_among s nodes ≡ false → is_active e.active s ≡ goes_on (taken p policy s)
  others-marked = from_before (λ s. is_active e.active s ≡ goes_on (taken p policy s)) (λ before is differ s l out.
      ap (λ (a : List Bool). is_active a s) is.marks ∙ active-at p before s l ∙ ap goes_on (sym (taken-same p nodes before policy differ s l out)))

  pub others-constant : (s : ℕ) → s < count p → is_among s nodes ≡ false → constant p policy s ≡ Ok (value_at e.constants s)
  others-constant = from_before (λ s. constant p policy s ≡ Ok (value_at e.constants s)) (λ before is differ s l out.
      constant-same p nodes before policy differ s l out ∙ IsUpTo.at (up_to-is (constant p before) (count p) e.constants is.constant) s (of_int (pos 0)) l)

  -- where the solution is that of before, so are the values
  pub others-filled : (x : List ℚ) → ((s : ℕ) → is_among s nodes ≡ false → value_at x s ≡ value_at e.kept.first s)
      → (s : ℕ) → s < count p → is_among s nodes ≡ false → value_at e.values s ≡ filled_by x s (taken p policy s)
  others-filled x same = from_before (λ s. value_at e.values s ≡ filled_by x s (taken p policy s)) (λ before is differ s l out.
      ap (λ (v : List ℚ). value_at v s) is.value ∙ filled-at p before e.kept.first s l
      ∙ filled_by-same e.kept.first x s (taken p before s) (sym (same s out))
      ∙ ap (filled_by x s) (sym (taken-same p nodes before policy differ s l out)))

  pub filled-elsewhere : (x : List ℚ) → ((s : ℕ) → is_among s nodes ≡ false → value_at x s ≡ value_at e.kept.first s) → (values : List ℚ) → values ≡ filled p policy x
      → (s : ℕ) → is_among s nodes ≡ false → value_at values s ≡ value_at e.values s
  filled-elsewhere x same values is s out =
      same-past (count p) s values e.values (ap length is ∙ filled-len p policy x) serves.room.values
      (λ l. ap (λ (v : List ℚ). value_at v s) is ∙ filled-at p policy x s l ∙ sym (others-filled x same s l out))

  pub others-stop : (s : ℕ) → s < count p → is_among s nodes ≡ false → goes_on (taken p policy s) ≡ false → value_at e.values s ≡ stop_value (taken p policy s)
  others-stop s l out stops = others-filled e.kept.first (λ s out. refl) s l out ∙ stops-filled e.kept.first s (taken p policy s) stops

  -- what elimination keeps serves the system with the new constants
  pub serves-elimination : (constants : List ℚ) → up_to (constant p policy) (count p) ≡ Ok constants → elimination.CanServe nodes (equations_of p policy constants) e.kept
  serves-elimination constants made =
      let n = equations-len p policy constants in
      let at = IsUpTo.at (up_to-is (constant p policy) (count p) constants made) in
      record {
        room = subst (λ k. elimination.HasRoom k e.kept) (sym n) serves.room.kept;
        others = elim serves.others [
          | inl all ↦ inl (λ t l. all t (omega arith))
          | inr b ↦
              inr (
                equations_of p b.0 e.constants,
                b.2.kept,
                equations-differ p nodes b.0 policy b.3 e.constants constants (λ s l out.
                    ok_same (value_at constants s) (value_at e.constants s) (sym (at s (of_int (pos 0)) l) ∙ others-constant s l out)),
              )
        ];
      }
