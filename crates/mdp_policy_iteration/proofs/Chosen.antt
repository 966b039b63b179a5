-- The choice that improves a node is one of its choices.
use Rattle.std.proofs.Common.{◌≡◌, ℕ, zero, suc, ◌<◌, Bool, true, false, if◌then◌else◌, List, length, Option, Some, None, Ok, subst, arith}
use Rattle.mdp_math.specs.{Rational.{ℚ}, Written.{written_compare, ◌>>=◌}}
use Rattle.mdp_policy_iteration.specs.{Problem.{Problem, choices_at, choice_at}, Candidates.{Best, judged, compared}}
use Rattle.mdp_policy_iteration.specs.Path.{comparing, then_compared, best_of, improvement}
use Rattle.mdp_policy_iteration.proofs.{Results.{ok_same, ok_part, place_part}, Compares.{some_part}}
use Rattle.mdp_rows.specs.Better.{is_better}

-- a choice below n, where there is one
abbrev pub IsBelow : ℕ → Option ℕ → Type 0
IsBelow n None = Unit {0}
IsBelow n (Some c) = c < n

grown : (n : ℕ) (o : Option ℕ) → IsBelow n o → IsBelow (suc n) o
grown n None h = tt
grown n (Some c) h = omega (arith, h)

module _ (p : Problem) (x : List ℚ) (s : ℕ) where
  taken_or_kept : (c : ℕ) (best after : Best) (v : ℚ) (b : Bool) → IsBelow c best.choice
      → (let o : Option Best = Some (if b then record { value = v; choice = Some c } else best) in o) ≡ Some after → IsBelow (suc c) after.choice
  taken_or_kept c best after v true h e = let same : (let r : Best = record { value = v; choice = Some c } in r) ≡ after = cc in subst (λ (b : Best). IsBelow (suc c) b.choice) same (omega arith)
  taken_or_kept c best after v false h e = let same : best ≡ after = cc in subst (λ (b : Best). IsBelow (suc c) b.choice) same (grown c best.choice h)

  compared_below : (c : ℕ) (best after : Best) (b : Bool) (o : Option ℚ) → IsBelow c best.choice → (if b then (o >>= judged p.dir c best) else Some best) ≡ Some after
      → IsBelow (suc c) after.choice
  compared_below c best after false o h e = let same : best ≡ after = cc in subst (λ (b : Best). IsBelow (suc c) b.choice) same (grown c best.choice h)
  compared_below c best after true o h e =
      let a = some_part o (judged p.dir c best) after e in
      let b = some_part (written_compare a.0 best.value) (λ order. (let o : Option Best = Some (if is_better p.dir order then record { value = a.0; choice = Some c } else best) in o)) after a.2 in
      taken_or_kept c best after a.0 (is_better p.dir b.0) h b.2

  best_below : (c : ℕ) (best : Best) → best_of p x s c ≡ Ok best → IsBelow c best.choice
  best_below zero best h = subst (λ (b : Best). IsBelow 0 b.choice) (ok_same _ best h) tt
  best_below (suc c) best h =
      let a = ok_part (best_of p x s c) (then_compared p x s c) best h in
      compared_below c a.0 best (choice_at p s c).candidate ((choice_at p s c).written x) (best_below c a.0 a.1) (place_part (comparing s c) (compared p.dir x c (choice_at p s c) a.0) best a.2)

  pub improvement-below : (c : ℕ) → improvement p x s ≡ Ok (Some c) → c < length (choices_at p s)
  improvement-below c h =
      let a = ok_part (best_of p x s (length (choices_at p s))) (λ b. Ok (Best.choice b)) (Some c) h in
      subst (IsBelow (length (choices_at p s))) (ok_same (Best.choice a.0) (Some c) a.2) (best_below (length (choices_at p s)) a.0 a.1)
