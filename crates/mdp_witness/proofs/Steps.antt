-- The trial of one state, from what its parts say.
use Rattle.std.proofs.Common.{◌≡◌, ℕ, ◌<◌, ◌⊎◌, inl, inr, Bool, true, false, cond, eqb, List, length, get_or, Result, refl, sym, ◌∙◌, ap, subst, arith}
use Rattle.std.proofs.{Math.ListN.{set}, lemmas.List.{length-set, ext_get_or}}
use Rattle.mdp_math.specs.Rational.{ℚ}
use Rattle.mdp_spec.specs.{Mdp.{Entry}, Tree.{is_marked}}
use Rattle.mdp_elim.specs.System.{is_active, Leaves}
use Rattle.mdp_witness.specs.{declared.trial.Trial.{Trial}, declared.trial.Trial.TheVariants.{Needed, PastWidth}, Trial.{trial_of, stays, is_wide}}
use Rattle.mdp_witness.specs.StepCode.{IsLast, IsStep}
use Rattle.mdp_witness.proofs.Fronts.{set-at}

-- fewer active states leave too
pub leaves_subset : (rows : List (List Entry)) (more kept : List Bool) (ranks : List ℕ) → ((s : ℕ) → is_active kept s ≡ true → is_active more s ≡ true) → Leaves rows more ranks → Leaves
    rows kept ranks
leaves_subset rows more kept ranks h leaves = record {
  falls = λ s l a. let any = leaves.falls s l (h s a) in (any.0, any.1, any.2, any.3, out s any.1 any.4);
}
  where
    not_active : (t : ℕ) (b : Bool) → is_active kept t ≡ b → is_active more t ≡ false → b ≡ false
    not_active t true e f = let g = h t e in cc
    not_active t false e f = refl

    out : (s0 : ℕ) (x : Entry) → (is_active more x.target ≡ false) ⊎ (get_or ranks x.target 0 < get_or ranks s0 0) → (is_active kept x.target ≡ false) ⊎ (get_or ranks x.target 0 < get_or ranks s0 0)
    out s0 x (inl e) = inl (not_active x.target (is_active kept x.target) refl e)
    out s0 x (inr l) = inr l

set_set : (xs : List Bool) (s : ℕ) (u v : Bool) → s < length xs → set (set xs s u) s v ≡ set xs s v
set_set xs s u v l =
    ext_get_or false (set (set xs s u) s v) (set xs s v) (length-set (set xs s u) s v ∙ length-set xs s u ∙ sym (length-set xs s v))
    (λ t i. set-at (set xs s u) s t v (let e = length-set xs s u in omega arith) ∙ by t (eqb t s) refl ∙ sym (set-at xs s t v l))
  where
    by : (t : ℕ) (b : Bool) → eqb t s ≡ b → cond b v (is_marked (set xs s u) t) ≡ cond b v (is_marked xs t)
    by t true e = refl
    by t false e = set-at xs s t u l ∙ ap (λ (b : Bool). cond b u (is_marked xs t)) e

out_of : (xs : List Bool) (s t : ℕ) (b : Bool) → cond b false (is_marked xs t) ≡ true → is_marked xs t ≡ true
out_of xs s t true h = cc
out_of xs s t false h = h

pub leaves_without : (rows : List (List Entry)) (kept next : List Bool) (ranks : List ℕ) (s : ℕ) → s < length kept → next ≡ set kept s false → Leaves rows kept ranks → Leaves rows next ranks
leaves_without rows kept next ranks s l e =
    leaves_subset rows kept next ranks
    (λ t h. out_of kept s t (eqb t s) (sym (set-at kept s t false l) ∙ ap (λ (xs : List Bool). is_marked xs t) (sym e) ∙ h))

module _ {E W : Type 0} (Evaluates : List Bool → Result E W → Type 0) (value : E → ℚ) (threshold : ℚ) (s : ℕ) (kept wide set1 : List Bool) (last : E) (kept2 wide2 : List Bool) (next : E)
    (inside : s < length kept) (without : set1 ≡ set kept s false) where
  pub step_by : (r : Result E W) (t : Trial) → t ≡ trial_of value threshold r → Evaluates set1 r → kept2 ≡ set set1 s (stays t) → wide2 ≡ set wide s (is_wide t) → IsLast t r last next
      → IsStep Evaluates value threshold s kept wide last kept2 wide2 next
  step_by r t e h k w i = record {
    evaluation = r;
    evaluated = subst (λ (xs : List Bool). Evaluates xs r) without h;
    kept_is = k ∙ ap (λ (xs : List Bool). set xs s (stays t)) without ∙ set_set kept s false (stays t) inside ∙ ap (λ (t : Trial). set kept s (stays t)) e;
    wide_is = w ∙ ap (λ (t : Trial). set wide s (is_wide t)) e;
    last_is = subst (λ (t : Trial). IsLast t r last next) e i;
  }

-- a state that stays keeps the last evaluation
pub kept_last : {E W : Type 0} (t : Trial) (r : Result E W) (last : E) → (t ≡ Needed) ⊎ (t ≡ PastWidth) → IsLast t r last last
kept_last t r last (inl e) = subst (λ (t : Trial). IsLast t r last last) (sym e) refl
kept_last t r last (inr e) = subst (λ (t : Trial). IsLast t r last last) (sym e) refl
