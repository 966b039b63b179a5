-- Where the comparison of the choices of a state is refused.
use Rattle.std.specs.Result.{IsErrAnd}
use Rattle.std.proofs.lemmas.Result.{err_from_is_err_and}
use Rattle.std.proofs.Common.{◌≡◌, ℕ, zero, suc, ◌<◌, ◌≤◌, ◌⊎◌, inl, inr, List, length, Some, None, Result, Ok, Err, sym, ◌∙◌, ap, arith}
use Rattle.mdp_math.specs.{Rational.{ℚ}, Result.{◌>>=◌}}
use Rattle.mdp_policy_iteration.specs.{Places.{Place, at_place, up_to}, Candidates.{Best}, Path.{comparing, or_kept}, Faults.{Answers}, Errors.{RoundError}}
use Rattle.mdp_policy_iteration.proofs.Answering.{up_to-refused, Says-then, says_of, says_same, answers_err}
use Rattle.mdp_unichain.specs.{Component.{Component, choices_at, choice_at}, Sums.{compared}, Written.{then_compared, best_of}}
use Rattle.mdp_gain.specs.Code.{choice_over}

-- ---- the comparison at a node

module _ (p : Component) (x : List ℚ) (s : ℕ) (present : ℚ) where
  abbrev after_choice : ℕ → Result Best Place → Result Best Place
  after_choice c r = r >>= then_compared p x s c

  wide_at : (c : ℕ) (best : Best) → best_of p x s present c ≡ Ok best → compared p.dir x c (choice_at p s c) best ≡ None → best_of p x s present (suc c) ≡ Err (comparing s c)
  wide_at c best h e = ap (after_choice c) h ∙ ap (at_place (comparing s c)) e

  wide_stays : (c n : ℕ) (w : Place) → best_of p x s present c ≡ Err w → c ≤ n → best_of p x s present n ≡ Err w
  wide_stays c zero w h l = let e : c ≡ 0 = omega arith in ap (best_of p x s present) (sym e) ∙ h
  wide_stays c (suc n) w h l = elim (le_or_next c n l) as (λ _. best_of p x s present (suc n) ≡ Err w) [
    | inl q ↦ ap (best_of p x s present) (sym q) ∙ h
    | inr m ↦ ap (after_choice n) (wide_stays c n w h m)
  ]
    where
      le_or_next : (c n : ℕ) → c ≤ suc n → (c ≡ suc n) ⊎ (c ≤ n)
      le_or_next c n l = grind arith

  wide-from : (c : ℕ) (best : Best) → best_of p x s present c ≡ Ok best → compared p.dir x c (choice_at p s c) best ≡ None → c < length (choices_at p s)
      → best_of p x s present (length (choices_at p s)) ≡ Err (comparing s c)
  wide-from c best h e l = wide_stays (suc c) (length (choices_at p s)) (comparing s c) (wide_at c best h e) (omega arith)

  -- so the choice over the present value is refused there
  pub wide-over : (kept c : ℕ) (best : Best) → best_of p x s present c ≡ Ok best → compared p.dir x c (choice_at p s c) best ≡ None → c < length (choices_at p s)
      → choice_over p x s kept present ≡ Err (comparing s c)
  wide-over kept c best h e l = ap (λ (r : Result Best Place). r >>= (λ b. Ok (or_kept b.choice kept))) (wide-from c best h e l)

  pub best_of-more : (c n : ℕ) (best after : Best) → best_of p x s present c ≡ Ok best → compared p.dir x c (choice_at p s c) best ≡ Some after → n ≡ suc c
      → best_of p x s present n ≡ Ok after
  best_of-more c n best after h e q = ap (best_of p x s present) q ∙ ap (after_choice c) h ∙ ap (at_place (comparing s c)) e

-- a list of answers is refused where the next one is
pub up_to-stops : {A V : Type 0} (f : ℕ → Result A Place) (s n : ℕ) (xs : List A) → up_to f s ≡ Ok xs → s < n → (call : Result A RoundError) (e : RoundError)
    → Answers (λ x. x) call (f s) → call ≡ Err e → (view : V → List A) (result : Result V RoundError) → IsErrAnd result (λ d. d ≡ e) → Answers view result (up_to f n)
up_to-stops f s n xs done l call e told was view result h =
    let d = err_from_is_err_and result h in
    answers_err view result d.0 (up_to f n) d.1
    (says_same d.0 e (up_to f n) d.2 (Says-then e (f s) (up_to f n) (λ w q. up_to-refused f s n xs w done q l) (says_of (λ x. x) call e (f s) told was)))
