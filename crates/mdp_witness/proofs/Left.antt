-- What is left by the trials has a value of at least the threshold, and each state that isn't marked as wide is needed.
use Rattle.std.proofs.Common.{◌≡◌, ℕ, zero, suc, ◌<◌, ◌⊎◌, inl, inr, Bool, true, false, cond, ◌&&◌, nat_lt, List, length, Option, Some, None, Result, Ok, Err, refl, sym, ◌∙◌, ap, subst, arith}
use Rattle.std.proofs.{lemmas.List.{ext_get_or}, lemmas.List.FromFn.{get_or-map-range_with_len, length-map-range_with_len}}
use Rattle.std.specs.{declared.cmp.Ordering.{Ordering}, declared.cmp.Ordering.TheVariants.{Less, Equal, Greater}}
use Rattle.mdp_math.specs.{Rational.{ℚ, ◌≤ℚ◌, ◌<ℚ◌}, Written.{written_compare}}
use Rattle.mdp_math.proofs.{Order.{≤ℚ_of_eq, ≤ℚ_of_lt, lt_of_cmp, eq_of_cmp, gt_of_cmp}, Written.{written_compare-some}, Numbers.{le_or}}
use Rattle.mdp_spec.specs.Tree.{is_marked}
use Rattle.mdp_farkas.specs.Compare.{not_less}
use Rattle.mdp_witness.specs.{declared.trial.Trial.{Trial}, declared.trial.Trial.TheVariants.{Goes, Needed, PastWidth}}
use Rattle.mdp_witness.specs.Trial.{in_trial, trial_set, trial_by, trial_of, stays, is_wide, AreLeft}
use Rattle.mdp_witness.proofs.Trying.{lt-true, lt-false}

-- ---- the first state that went

pub record WentAt (first kept : List Bool) (x : ℕ) : Type 0 where
  pub was : is_marked first x ≡ true
  pub went : is_marked kept x ≡ false
  pub before : (s : ℕ) → s < x → is_marked kept s ≡ is_marked first s

abbrev Found : List Bool → List Bool → ℕ → Type 0
Found first kept n = ((s : ℕ) → s < n → is_marked kept s ≡ is_marked first s) ⊎ ((x : ℕ) × (x < n) × WentAt first kept x)

found_at : (first kept : List Bool) (n : ℕ) (f k : Bool) → is_marked first n ≡ f → is_marked kept n ≡ k → (f ≡ false → k ≡ false) → ((s : ℕ) → s < n → is_marked kept s ≡ is_marked first s)
    → Found first kept (suc n)
found_at first kept n true true ef ek out h =
    inl (λ s l. elim (le_or n s) as (λ _. is_marked kept s ≡ is_marked first s) [
      | inl i ↦ (let e : s ≡ n = omega arith in ap (is_marked kept) e ∙ ek ∙ sym (ap (is_marked first) e ∙ ef))
      | inr i ↦ h s i
    ])
found_at first kept n true false ef ek out h = inr (n, omega arith, record { was = ef; went = ek; before = h })
found_at first kept n false true ef ek out h = let e = out refl in cc
found_at first kept n false false ef ek out h =
    inl (λ s l. elim (le_or n s) as (λ _. is_marked kept s ≡ is_marked first s) [
      | inl i ↦ (let e : s ≡ n = omega arith in ap (is_marked kept) e ∙ ek ∙ sym (ap (is_marked first) e ∙ ef))
      | inr i ↦ h s i
    ])

find : (first kept : List Bool) (n : ℕ) → ((s : ℕ) → s < n → is_marked first s ≡ false → is_marked kept s ≡ false) → Found first kept n
find first kept zero out = inl (λ s l. absurd (omega arith))
find first kept (suc n) out = elim (find first kept n (λ s l. out s (omega arith))) as (λ _. Found first kept (suc n)) [
  | inl h ↦ found_at first kept n (is_marked first n) (is_marked kept n) refl refl (out n (omega arith)) h
  | inr h ↦ inr (let l = h.1 in (h.0, omega arith, h.2))
]

-- ---- the set of its trial is the set that is left

at_by : (first kept : List Bool) (x s : ℕ) → WentAt first kept x → in_trial first kept x s ≡ is_marked kept s
at_by first kept x s h = elim (le_or x s) as (λ _. in_trial first kept x s ≡ is_marked kept s) [
  | inr l ↦ ap (λ (b : Bool). cond b (is_marked first s) (nat_lt x s && is_marked kept s)) (lt-true s x l) ∙ sym (h.before s l)
  | inl l ↦ ap (λ (b : Bool). cond b (is_marked first s) (nat_lt x s && is_marked kept s)) (lt-false s x l) ∙ elim (le_or s x) as (λ _. (nat_lt x s && is_marked kept s) ≡ is_marked kept s) [
    | inr k ↦ ap (λ (b : Bool). b && is_marked kept s) (lt-true x s k)
    | inl k ↦ (let e : x ≡ s = omega arith in ap (λ (b : Bool). b && is_marked kept s) (lt-false x s k) ∙ sym (ap (is_marked kept) (sym e) ∙ h.went))
  ]
]

pub trial_is_left : (first kept : List Bool) (x : ℕ) → length kept ≡ length first → WentAt first kept x → trial_set first kept x ≡ kept
trial_is_left first kept x e h =
    ext_get_or false (trial_set first kept x) kept (length-map-range_with_len (in_trial first kept x) 0 (length first) ∙ sym e)
    (λ s l.
    let i : s < length first = subst (λ (k : ℕ). s < k) (length-map-range_with_len (in_trial first kept x) 0 (length first)) l in
    get_or-map-range_with_len (in_trial first kept x) 0 (length first) s s false i (omega arith) ∙ at_by first kept x s h)

-- ---- what a trial says

stays_goes : (t : Trial) → false ≡ stays t → t ≡ Goes
stays_goes Goes e = refl
stays_goes Needed e = cc
stays_goes PastWidth e = cc

needed_is : (t : Trial) → true ≡ stays t → false ≡ is_wide t → t ≡ Needed
needed_is Goes e f = cc
needed_is Needed e f = refl
needed_is PastWidth e f = cc

goes_compare : (o : Option Ordering) → trial_by o ≡ Goes → (r : Ordering) × (o ≡ Some r) × (not_less r ≡ true)
goes_compare None e = cc
goes_compare (Some Less) e = cc
goes_compare (Some Equal) e = (Equal, refl, refl)
goes_compare (Some Greater) e = (Greater, refl, refl)

needed_compare : (o : Option Ordering) → trial_by o ≡ Needed → o ≡ Some Less
needed_compare None e = cc
needed_compare (Some Less) e = refl
needed_compare (Some Equal) e = cc
needed_compare (Some Greater) e = cc

at_least : (x y : ℚ) (o : Ordering) → written_compare x y ≡ Some o → not_less o ≡ true → y ≤ℚ x
at_least x y Less e h = cc
at_least x y Equal e h = ≤ℚ_of_eq y x (sym (eq_of_cmp x y (sym (written_compare-some x y Equal (sym e)))))
at_least x y Greater e h = ≤ℚ_of_lt y x (gt_of_cmp x y (sym (written_compare-some x y Greater (sym e))))

module _ {E W : Type 0} (value : E → ℚ) (threshold : ℚ) where
  pub goes_value : (r : Result E W) → trial_of value threshold r ≡ Goes → (e : E) × (r ≡ Ok e) × ((o : Ordering) × (written_compare (value e) threshold ≡ Some o) × (not_less o ≡ true))
  goes_value (Ok e) h = (e, refl, goes_compare (written_compare (value e) threshold) h)
  goes_value (Err w) h = cc

  pub needed_value : (r : Result E W) → trial_of value threshold r ≡ Needed → (e : E) × (r ≡ Ok e) × (written_compare (value e) threshold ≡ Some Less)
  needed_value (Ok e) h = (e, refl, needed_compare (written_compare (value e) threshold) h)
  needed_value (Err w) h = cc

  module _ (Evaluates : List Bool → Result E W → Type 0) (first kept wide : List Bool) (last : E) (left : AreLeft Evaluates value threshold first kept wide last)
      (one : (set : List Bool) (r q : Result E W) → Evaluates set r → Evaluates set q → r ≡ q) where
    -- a state went in its trial, whose evaluation is the last one; or all stayed
    went_by : Found first kept (length first) → (kept ≡ first) ⊎ ((o : Ordering) × (written_compare (value last) threshold ≡ Some o) × (not_less o ≡ true))
    went_by (inl h) = inl (ext_get_or false kept first left.one_kept_each (λ s l. h s (let e = left.one_kept_each in omega arith)))
    went_by (inr h) =
        let x = h.0 in
        let t = left.tried x h.1 h.2.was in
        let g = goes_value t.evaluation (stays_goes (trial_of value threshold t.evaluation) (sym h.2.went ∙ t.keeps)) in
        let is : Evaluates kept (Ok g.0) =
        subst (Evaluates kept) g.1 (subst (λ (set : List Bool). Evaluates set t.evaluation) (trial_is_left first kept x left.one_kept_each h.2) t.evaluated) in
        let same : Ok g.0 ≡ Ok last = one kept (Ok g.0) (Ok last) is left.evaluated in
        let e : g.0 ≡ last = cc in
        inr (subst (λ (e : E). (o : Ordering) × (written_compare (value e) threshold ≡ Some o) × (not_less o ≡ true)) e g.2)

    pub left_by : (kept ≡ first) ⊎ ((o : Ordering) × (written_compare (value last) threshold ≡ Some o) × (not_less o ≡ true))
    left_by = went_by (find first kept (length first) (λ s l a. (left.outside s l a).0))

    -- a state that stays and isn't marked as wide
    pub left_needed : (x : ℕ) → x < length first → is_marked kept x ≡ true → is_marked wide x ≡ false
        → (e : E) × Evaluates (trial_set first kept x) (Ok e) × (written_compare (value e) threshold ≡ Some Less)
    left_needed x l k w = needed_by (is_marked first x) refl
      where
        needed_by : (b : Bool) → is_marked first x ≡ b → (e : E) × Evaluates (trial_set first kept x) (Ok e) × (written_compare (value e) threshold ≡ Some Less)
        needed_by true a =
            let t = left.tried x l a in
            let g = needed_value t.evaluation (needed_is (trial_of value threshold t.evaluation) (sym k ∙ t.keeps) (sym w ∙ t.marks)) in
            (g.0, subst (Evaluates (trial_set first kept x)) g.1 t.evaluated, g.2)
        needed_by false a = let o = (left.outside x l a).0 in cc

    -- what is left reaches the threshold, where the first set does
    pub left_reaches : ((e : E) → Evaluates first (Ok e) → threshold ≤ℚ value e) → threshold ≤ℚ value last
    left_reaches h = elim left_by as (λ _. threshold ≤ℚ value last) [
      | inl e ↦ h last (subst (λ (set : List Bool). Evaluates set (Ok last)) e left.evaluated)
      | inr o ↦ at_least (value last) threshold o.0 o.1 o.2
    ]

    -- in its trial the set fell below the threshold
    pub left_below : (x : ℕ) → x < length first → is_marked kept x ≡ true → is_marked wide x ≡ false → (e : E) × Evaluates (trial_set first kept x) (Ok e) × (value e <ℚ threshold)
    left_below x l k w =
        let n = left_needed x l k w in
        (n.0, n.1, lt_of_cmp (value n.0) threshold (sym (written_compare-some (value n.0) threshold Less (sym n.2))))
