-- One round, from what its parts answered.
use Rattle.std.proofs.Common.{◌≡◌, ℕ, ◌+◌, ◌<◌, Bool, true, false, List, [], ◌∷◌, length, Option, Some}
use Rattle.std.proofs.Common.{None, Result, Ok, Err, Vec, Global, refl, sym, ◌∙◌, ap, if◌then◌else◌, zero-add, arith}
use Rattle.std.proofs.{lemmas.List.FromFn.{length-map-range_with_len, get_or-map-range_with_len}, lemmas.List.Folds.{list_any_at, list_any_none}}
use Rattle.std.specs.{List.{All, list_any}, Option.{is_some}, Prelude.{slice_index_or, ◌==◌, IfOk}}
use Rattle.mdp_math.specs.Rational.{ℚ}
use Rattle.mdp_math.proofs.Numbers.{eqb-same}
use Rattle.mdp_rows.specs.declared.preds.Pred.{Pred}
use Rattle.mdp_elim.specs.Solve.{written_solution}
use Rattle.mdp_policy_iteration.specs.{Iteration.{Step, next, done}, Problem.{Problem, count, taken, rows_of, active_of}, Places.{up_to, all_pass}}
use Rattle.mdp_policy_iteration.specs.Path.{Round, Found, Refusal, evaluating, fits, solved, values_of_rows, constant}
use Rattle.mdp_policy_iteration.specs.Path.{placed, filled_by, filled, written_values, improvements, improved, after_comparison, after_evaluation, path_step}
use Rattle.mdp_policy_iteration.specs.{Changes.{IsChangeOf, change_at, spread, step_by}, Faults.{Says, Answers}, Ends.{Makes}, Errors.{RoundError}}
use Rattle.mdp_wide.specs.declared.unfinished.Unfinished.TheVariants as fault
use Rattle.mdp_policy_iteration.proofs.Results.{ok_same, ok_part}

module _ (p : Problem) (policy : List ℕ) where
  pub values-len : (x : List ℚ) → written_values p policy ≡ Ok x → length x ≡ count p
  values-len x h =
      let made = ok_part (all_pass (fits p policy) (evaluating policy) (count p)) (λ made. values_of_rows p policy) x h in
      let a = ok_part (up_to (constant p policy) (count p)) (solved p policy) x made.2 in
      let b = ok_part (placed policy (written_solution (rows_of p policy) (active_of p policy) (a.0 ∷ []))) (λ xs. Ok (filled p policy (slice_index_or xs 0 []))) x a.2 in
      ap length (sym (ok_same (filled p policy (slice_index_or b.0 0 [])) x b.2)) ∙ length-map-range_with_len (λ s. filled_by (slice_index_or b.0 0 []) s (taken p policy s)) 0 (count p)

  abbrev round : ℕ → Round
  round n = record { number = n; policy = policy }

  -- the values have a term past width
  pub makes_values : (n : ℕ) (y : List ℚ) (e : RoundError) → Says e (written_values p policy) → Makes n policy y (Err e) (path_step p (round n))
  makes_values n y (fault.TooWide place) h = ap (after_evaluation p (round n)) h
  makes_values n y fault.Memory h = tt

  module _ (x : List ℚ) (values : written_values p policy ≡ Ok x) where
    stepped : (n : ℕ) → path_step p (round n) ≡ after_comparison (round n) x (improvements p x)
    stepped n = ap (after_evaluation p (round n)) values

    -- a comparison has one
    pub makes_choices : (n : ℕ) (y : List ℚ) (e : RoundError) → Says e (improvements p x) → Makes n policy y (Err e) (path_step p (round n))
    makes_choices n y (fault.TooWide place) h = stepped n ∙ ap (after_comparison (round n) x) h
    makes_choices n y fault.Memory h = tt

    abbrev made : ℕ → List (Option ℕ) → Bool → Step Round Found Refusal
    made n choices some = if some then next (record { number = n + 1; policy = improved policy choices }) else done (record { number = n; policy = policy; values = x })

    none_spread : (n : ℕ) → list_any is_some (spread n []) ≡ false
    none_spread n = list_any_none is_some (spread n [])
        (λ k d l. ap is_some (get_or-map-range_with_len (λ s. change_at [] s) 0 n k k d (let m = length-map-range_with_len (λ s. change_at [] s) 0 n in omega (arith)) (zero-add k)))

    is_first : (c : Pred) (changes : List Pred) (b : Bool) → b ≡ true → is_some (let o : Option ℕ = if b then Some c.choice else change_at changes c.state in o) ≡ true
    is_first c changes true e = refl
    is_first c changes false e = cc

    some_spread : (n : ℕ) (c : Pred) (changes : List Pred) → c.state < n → list_any is_some (spread n (c ∷ changes)) ≡ true
    some_spread n c changes l =
        list_any_at is_some (spread n (c ∷ changes)) c.state None (let m = length-map-range_with_len (change_at (c ∷ changes)) 0 n in omega (arith, l))
        (ap is_some (get_or-map-range_with_len (change_at (c ∷ changes)) 0 n c.state c.state None l (zero-add c.state)) ∙ is_first c changes (c.state == c.state) (eqb-same c.state))

    -- what it makes is told by its changes
    pub step-changes : (n : ℕ) (changes : List Pred) → All (IsChangeOf p) changes → length policy ≡ count p → improvements p x ≡ Ok (spread (count p) changes)
        → path_step p (round n) ≡ step_by n policy x changes
    step-changes n [] each len h = stepped n ∙ ap (after_comparison (round n) x) h ∙ ap (made n (spread (count p) [])) (none_spread (count p))
    step-changes n (c ∷ changes) each len h =
        stepped n ∙ ap (after_comparison (round n) x) h ∙ ap (made n (spread (count p) (c ∷ changes))) (some_spread (count p) c changes (each 0 c (omega arith)).0)
        ∙ ap (λ k. let s : Step Round Found Refusal = next (record { number = n + 1; policy = improved policy (spread k (c ∷ changes)) }) in s) (sym len)

    -- what the comparison answers is what the round makes
    pub makes_answer : (n : ℕ) (result : Result (Vec Pred Global) RoundError) → Answers (λ changes. spread (count p) changes.items) result (improvements p x) → length policy ≡ count p
        → IfOk result (λ changes. All (IsChangeOf p) changes.items) → Makes n policy x result (path_step p (round n))
    makes_answer n (Ok changes) h len each = step-changes n changes.items each len h
    makes_answer n (Err e) h len each = makes_choices n x e h
