-- The sets of the trials: what is left is within the first set, as the set of each trial is; and without one of its states it is within the set in
-- which that state was tried.
use Rattle.std.proofs.Common.{◌≡◌, ℕ, ◌<◌, inl, inr, Bool, true, false, cond, eqb, ◌&&◌, nat_lt, List, length, Result, refl, sym, ◌∙◌, ap, arith}
use Rattle.std.proofs.{lemmas.Bool.{eq-eqb}, lemmas.List.FromFn.{get_or-map-range_with_len, length-map-range_with_len}}
use Rattle.mdp_math.specs.Rational.{ℚ}
use Rattle.mdp_math.proofs.Numbers.{le_or}
use Rattle.mdp_spec.specs.Tree.{is_marked}
use Rattle.mdp_witness.specs.Trial.{in_trial, trial_set, without, AreLeft}
use Rattle.mdp_witness.proofs.{Fronts.{set-at, marked-below}, Trying.{lt-true, lt-false}}

pub trial_size : (first kept : List Bool) (x : ℕ) → length (trial_set first kept x) ≡ length first
trial_size first kept x = length-map-range_with_len (in_trial first kept x) 0 (length first)

trial-at : (first kept : List Bool) (x s : ℕ) → s < length first → is_marked (trial_set first kept x) s ≡ in_trial first kept x s
trial-at first kept x s l = get_or-map-range_with_len (in_trial first kept x) 0 (length first) s s false l (omega arith)

module _ {E W : Type 0} (Evaluates : List Bool → Result E W → Type 0) (value : E → ℚ) (threshold : ℚ) (first kept wide : List Bool) (last : E)
    (left : AreLeft Evaluates value threshold first kept wide last) where
  pub left_below_end : (s : ℕ) → is_marked kept s ≡ true → s < length first
  left_below_end s h = let l = marked-below kept s h in let e = left.one_kept_each in omega arith

  within_by : (s : ℕ) (b : Bool) → is_marked first s ≡ b → is_marked kept s ≡ true → b ≡ true
  within_by s true e h = refl
  within_by s false e h = let o = (left.outside s (left_below_end s h) e).0 in cc

  pub left_within : (s : ℕ) → is_marked kept s ≡ true → is_marked first s ≡ true
  left_within s h = within_by s (is_marked first s) refl h

  in_first_by : (x s : ℕ) (b c : Bool) → cond b (is_marked first s) (c && is_marked kept s) ≡ true → is_marked first s ≡ true
  in_first_by x s true c h = h
  in_first_by x s false true h = left_within s h
  in_first_by x s false false h = cc

  pub trial_within : (x s : ℕ) → is_marked (trial_set first kept x) s ≡ true → is_marked first s ≡ true
  trial_within x s h =
      let l : s < length first = let k = marked-below (trial_set first kept x) s h in let e = trial_size first kept x in omega arith in
      in_first_by x s (nat_lt s x) (nat_lt x s) (sym (trial-at first kept x s l) ∙ h)

  without-at : (x s : ℕ) → is_marked kept x ≡ true → is_marked (without kept x) s ≡ cond (eqb s x) false (is_marked kept s)
  without-at x s h = set-at kept x s false (marked-below kept x h)

  out_of : (x s : ℕ) (b : Bool) → cond b false (is_marked kept s) ≡ true → is_marked kept s ≡ true
  out_of x s true h = cc
  out_of x s false h = h

  pub without_within : (x s : ℕ) → is_marked kept x ≡ true → is_marked (without kept x) s ≡ true → is_marked (trial_set first kept x) s ≡ true
  without_within x s h k =
      let e : cond (eqb s x) false (is_marked kept s) ≡ true = sym (without-at x s h) ∙ k in
      let stays : is_marked kept s ≡ true = out_of x s (eqb s x) e in
      let l : s < length first = left_below_end s stays in
      trial-at first kept x s l ∙ elim (le_or x s) as (λ _. in_trial first kept x s ≡ true) [
        | inr i ↦ ap (λ (b : Bool). cond b (is_marked first s) (nat_lt x s && is_marked kept s)) (lt-true s x i) ∙ left_within s stays
        | inl i ↦
            ap (λ (b : Bool). cond b (is_marked first s) (nat_lt x s && is_marked kept s)) (lt-false s x i) ∙ elim (le_or s x) as (λ _. (nat_lt x s && is_marked kept s) ≡ true) [
              | inr j ↦ ap (λ (b : Bool). b && is_marked kept s) (lt-true x s j) ∙ stays
              | inl j ↦ (let same = eq-eqb s x (let q : s ≡ x = omega arith in q) in let f : false ≡ true = ap (λ (b : Bool). cond b false (is_marked kept s)) (sym same) ∙ e in cc)
            ]
      ]
