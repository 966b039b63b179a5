-- Trials leave a set, where each set has an evaluation.
use Rattle.std.proofs.Common.{◌≡◌, ℕ, zero, suc, ◌+◌, ◌≤◌, ◌<◌, ⊎_elim, Bool, false, List, length, Result, Ok, refl, sym, subst, arith}
use Rattle.std.proofs.{Math.ListN.{set}, lemmas.Bool.{cases_Bool}}
use Rattle.std.specs.Prelude.{replicate}
use Rattle.mdp_math.specs.Rational.{ℚ}
use Rattle.mdp_spec.specs.Tree.{is_marked}
use Rattle.mdp_witness.specs.{declared.trial.Trial.{Trial}, declared.trial.Trial.TheVariants.{Goes, Needed, PastWidth}}
use Rattle.mdp_witness.specs.{Trial.{trial_of, stays, is_wide, AreLeft}, StepCode.{IsLast, IsStep}}
use Rattle.mdp_witness.proofs.{Left.{goes_value}, Trying.{AreLeftFrom, left_first, left_skip, left_step, left_all}}

module _ {E W : Type 0} (Evaluates : List Bool → Result E W → Type 0) (value : E → ℚ) (threshold : ℚ) (first : List Bool) (evaluates : (set : List Bool) → (r : Result E W) × Evaluates set r) where
  -- the trial of one state
  last_exists : (r : Result E W) (t : Trial) (last : E) → t ≡ trial_of value threshold r → (next : E) × IsLast t r last next
  last_exists r Goes last e = let g = goes_value value threshold r (sym e) in (g.0, g.1)
  last_exists r Needed last e = (last, refl)
  last_exists r PastWidth last e = (last, refl)

  abbrev Step : ℕ → List Bool → List Bool → E → Type 0
  Step x kept wide last = (then_kept : List Bool) × (then_wide : List Bool) × (next : E) × IsStep Evaluates value threshold x kept wide last then_kept then_wide next

  step_exists : (x : ℕ) (kept wide : List Bool) (last : E) → Step x kept wide last
  step_exists x kept wide last =
      let e = evaluates (set kept x false) in
      let t : Trial = trial_of value threshold e.0 in
      let next = last_exists e.0 t last refl in (
        set kept x (stays t),
        set wide x (is_wide t),
        next.0,
        record { evaluation = e.0; evaluated = e.1; kept_is = refl; wide_is = refl; last_is = next.1 },
      )

  -- those of the states below x
  abbrev Ends : Type 0
  Ends = (kept : List Bool) × (wide : List Bool) × (last : E) × AreLeftFrom Evaluates value threshold first 0 kept wide last

  down : (x : ℕ) (kept wide : List Bool) (last : E) → x ≤ length first → AreLeftFrom Evaluates value threshold first x kept wide last → Ends
  down zero kept wide last l from = (kept, wide, last, from)
  down (suc x) kept wide last l from =
      let again : suc x ≡ x + 1 = omega arith in
      let inside : x < length first = omega (arith, l) in
      let left = subst (λ (n : ℕ). AreLeftFrom Evaluates value threshold first n kept wide last) again from in
      ⊎_elim
      (λ is.
      let s = step_exists x kept wide last in
      down x s.0 s.1 s.2 (omega (arith, l)) (left_step Evaluates value threshold first x kept wide last inside left s.0 s.1 s.2 is s.3))
      (λ out. down x kept wide last (omega (arith, l)) (left_skip Evaluates value threshold first x kept wide last inside left out))
      (cases_Bool (is_marked kept x))

  pub left_exists : (e : E) → Evaluates first (Ok e) → (kept : List Bool) × (wide : List Bool) × (last : E) × AreLeft Evaluates value threshold first kept wide last
  left_exists e h =
      let none : List Bool = replicate (length first) false in
      let d = down (length first) first none e (omega arith) (left_first Evaluates value threshold first (length first) none e refl refl h) in
      (d.0, d.1, d.2, left_all Evaluates value threshold first d.0 d.1 d.2 d.3)
