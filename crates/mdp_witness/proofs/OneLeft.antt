-- The trials leave one set: from the greatest state down, each trial is of a set that the greater states determine.
use Rattle.std.proofs.Common.{◌≡◌, ℕ, zero, suc, ◌+◌, ◌<◌, ◌≤◌, inl, inr, Bool, true, false, cond, ◌&&◌, nat_lt, List, length, Result, Ok, refl, sym, ◌∙◌, ap, subst, arith}
use Rattle.std.proofs.{lemmas.List.{ext_get_or}, lemmas.List.FromFn.{get_or-map-range_with_len, length-map-range_with_len}}
use Rattle.mdp_math.specs.Rational.{ℚ}
use Rattle.mdp_math.proofs.Numbers.{le_or}
use Rattle.mdp_spec.specs.Tree.{is_marked}
use Rattle.mdp_witness.specs.Trial.{in_trial, trial_set, trial_of, stays, is_wide, AreLeft}
use Rattle.mdp_witness.proofs.Trying.{lt-true, lt-false}

module _ {E W : Type 0} (value : E → ℚ) (threshold : ℚ) (Evaluates : List Bool → Result E W → Type 0) (one : (set : List Bool) (r q : Result E W) → Evaluates set r → Evaluates set q → r ≡ q)
    (first kept wide : List Bool) (last : E) (more far : List Bool) (final : E)
    (a : AreLeft Evaluates value threshold first kept wide last) (b : AreLeft Evaluates value threshold first more far final) where
  abbrev SameAt : ℕ → Type 0
  SameAt s = (is_marked kept s ≡ is_marked more s) × (is_marked wide s ≡ is_marked far s)

  abbrev SameFrom : ℕ → Type 0
  SameFrom x = (s : ℕ) → x ≤ s → s < length first → SameAt s

  same_in : (x s : ℕ) → s < length first → SameFrom (x + 1) → in_trial first kept x s ≡ in_trial first more x s
  same_in x s i h = elim (le_or x s) as (λ _. in_trial first kept x s ≡ in_trial first more x s) [
    | inr l ↦ ap (λ (b : Bool). cond b (is_marked first s) (nat_lt x s && is_marked kept s)) (lt-true s x l)
        ∙ sym (ap (λ (b : Bool). cond b (is_marked first s) (nat_lt x s && is_marked more s)) (lt-true s x l))
    | inl l ↦ elim (le_or s x) as (λ _. in_trial first kept x s ≡ in_trial first more x s) [
      | inr k ↦ ap (λ (b : Bool). cond (nat_lt s x) (is_marked first s) (nat_lt x s && b)) (h s (omega arith) i).0
      | inl k ↦ ap (λ (b : Bool). cond (nat_lt s x) (is_marked first s) (b && is_marked kept s)) (lt-false x s k)
          ∙ sym (ap (λ (b : Bool). cond (nat_lt s x) (is_marked first s) (b && is_marked more s)) (lt-false x s k))
    ]
  ]

  same_trial : (x : ℕ) → SameFrom (x + 1) → trial_set first kept x ≡ trial_set first more x
  same_trial x h =
      ext_get_or false (trial_set first kept x) (trial_set first more x)
      (length-map-range_with_len (in_trial first kept x) 0 (length first) ∙ sym (length-map-range_with_len (in_trial first more x) 0 (length first)))
      (λ s l.
      let i : s < length first = subst (λ (k : ℕ). s < k) (length-map-range_with_len (in_trial first kept x) 0 (length first)) l in
      get_or-map-range_with_len (in_trial first kept x) 0 (length first) s s false i (omega arith) ∙ same_in x s i h
      ∙ sym (get_or-map-range_with_len (in_trial first more x) 0 (length first) s s false i (omega arith)))

  same_at : (x : ℕ) (f : Bool) → is_marked first x ≡ f → x < length first → SameFrom (x + 1) → SameAt x
  same_at x true e l h =
      let t = a.tried x l e in
      let u = b.tried x l e in
      let same : t.evaluation ≡ u.evaluation =
      one (trial_set first more x) t.evaluation u.evaluation (subst (λ (set : List Bool). Evaluates set t.evaluation) (same_trial x h) t.evaluated) u.evaluated in (
        t.keeps ∙ ap (λ (r : Result E W). stays (trial_of value threshold r)) same ∙ sym u.keeps,
        t.marks ∙ ap (λ (r : Result E W). is_wide (trial_of value threshold r)) same ∙ sym u.marks,
      )
  same_at x false e l h =
      let o = a.outside x l e in
      let p = b.outside x l e in
      (o.0 ∙ sym p.0, o.1 ∙ sym p.1)

  same_from : (k x : ℕ) → x + k ≡ length first → SameFrom x
  same_from zero x e = λ s i l. absurd (omega arith)
  same_from (suc k) x e = λ s i l. elim (le_or s x) as (λ _. SameAt s) [
    | inl j ↦ (let z : x ≡ s = omega arith in subst SameAt z (same_at x (is_marked first x) refl (omega arith) (same_from k (x + 1) (omega arith))))
    | inr j ↦ same_from k (x + 1) (omega arith) s (omega arith) l
  ]

  pub one_kept : kept ≡ more
  one_kept =
      let n = a.one_kept_each in
      ext_get_or false kept more (n ∙ sym b.one_kept_each) (λ s l. (same_from (length first) 0 (omega arith) s (omega arith) (omega arith)).0)

  pub one_wide : wide ≡ far
  one_wide =
      let n = a.one_wide_each in
      ext_get_or false wide far (n ∙ sym b.one_wide_each) (λ s l. (same_from (length first) 0 (omega arith) s (omega arith) (omega arith)).1)

  pub one_last : last ≡ final
  one_last =
      let is : Evaluates more (Ok last) = subst (λ (set : List Bool). Evaluates set (Ok last)) one_kept a.evaluated in
      let e : (let r : Result E W = Ok last in r) ≡ Ok final = one more (Ok last) (Ok final) is b.evaluated in
      cc
