-- Trials, from the greatest state down: what holds when those from x on have been made, and that one more keeps it.
use Rattle.std.proofs.Common.{rules, ◌≡◌, ℕ, zero, suc, ◌+◌, ◌<◌, ◌≤◌, inl, inr, Bool, true, false, cond}
use Rattle.std.proofs.{Common.{eqb, ◌&&◌, nat_lt, List, length, Result, Ok, refl, sym, ◌∙◌, ap, subst, arith, map}, Math.ListN.{set}}
use Rattle.std.proofs.{lemmas.List.{length-set, length-replicate, ext_get_or}, lemmas.List.FromFn.{get_or-map-range_with_len, length-map-range_with_len}}
use Rattle.std.proofs.lemmas.Bool.{eq-eqb, eqb-true}
use Rattle.std.specs.{List.{range_with_len}, Prelude.{replicate}}
use Rattle.mdp_math.specs.Rational.{ℚ}
use Rattle.mdp_math.proofs.Numbers.{le_or, eqb-smaller, eqb-greater}
use Rattle.mdp_spec.specs.Tree.{is_marked}
use Rattle.mdp_witness.specs.{declared.trial.Trial.{Trial}, declared.trial.Trial.TheVariants.{Goes, Needed, PastWidth}}
use Rattle.mdp_witness.specs.{Trial.{in_trial, trial_set, trial_of, stays, is_wide, IsTried, AreLeft}, StepCode.{IsLast, IsStep}}
use Rattle.mdp_witness.proofs.Fronts.{set-at, marked-below}

-- ---- tests

pub lt-true : (a b : ℕ) → a < b → nat_lt a b ≡ true
lt-true a b l = search rules

pub lt-false : (a b : ℕ) → b ≤ a → nat_lt a b ≡ false
lt-false a b l = search rules

-- ---- the set of a trial

-- it depends on the greater states alone
same_trial_at : (first kept next : List Bool) (x s : ℕ) → ((v : ℕ) → x < v → is_marked next v ≡ is_marked kept v) → in_trial first kept x s ≡ in_trial first next x s
same_trial_at first kept next x s h = elim (le_or s x) as (λ _. in_trial first kept x s ≡ in_trial first next x s) [
  | inl l ↦
      ap (λ (b : Bool). cond (nat_lt s x) (is_marked first s) (b && is_marked kept s)) (lt-false x s l)
      ∙ sym (ap (λ (b : Bool). cond (nat_lt s x) (is_marked first s) (b && is_marked next s)) (lt-false x s l))
  | inr l ↦ ap (λ (b : Bool). cond (nat_lt s x) (is_marked first s) (nat_lt x s && b)) (sym (h s l))
]

map_same : (n : ℕ) (f g : ℕ → Bool) → ((s : ℕ) → s < n → f s ≡ g s) → map f (range_with_len 0 n) ≡ map g (range_with_len 0 n)
map_same n f g h =
    ext_get_or false (map f (range_with_len 0 n)) (map g (range_with_len 0 n)) (length-map-range_with_len f 0 n ∙ sym (length-map-range_with_len g 0 n))
    (λ s l.
    let i : s < n = subst (λ (k : ℕ). s < k) (length-map-range_with_len f 0 n) l in
    get_or-map-range_with_len f 0 n s s false i (omega arith) ∙ h s i ∙ sym (get_or-map-range_with_len g 0 n s s false i (omega arith)))

same_trial : (first kept next : List Bool) (x : ℕ) → ((v : ℕ) → x < v → is_marked next v ≡ is_marked kept v) → trial_set first kept x ≡ trial_set first next x
same_trial first kept next x h = map_same (length first) (in_trial first kept x) (in_trial first next x) (λ s l. same_trial_at first kept next x s h)

-- where the lesser states are those of the first set, it is the set without x
without_at : (first kept : List Bool) (x s : ℕ) → x < length kept → ((v : ℕ) → v < x → is_marked kept v ≡ is_marked first v) → is_marked (set kept x false) s ≡ in_trial first kept x s
without_at first kept x s l h = set-at kept x s false l ∙ elim (le_or s x) as (λ _. cond (eqb s x) false (is_marked kept s) ≡ in_trial first kept x s) [
  | inr i ↦
      ap (λ (b : Bool). cond b false (is_marked kept s)) (eqb-greater s x i)
      ∙ sym (ap (λ (b : Bool). cond b (is_marked first s) (nat_lt x s && is_marked kept s)) (lt-false s x (omega arith)) ∙ ap (λ (b : Bool). b && is_marked kept s) (lt-true x s i))
  | inl i ↦ elim (le_or x s) as (λ _. cond (eqb s x) false (is_marked kept s) ≡ in_trial first kept x s) [
    | inr j ↦
        ap (λ (b : Bool). cond b false (is_marked kept s)) (eqb-smaller s x j) ∙ h s j ∙ sym (ap (λ (b : Bool). cond b (is_marked first s) (nat_lt x s && is_marked kept s)) (lt-true s x j))
    | inl j ↦
        ap (λ (b : Bool). cond b false (is_marked kept s)) (eq-eqb s x (omega arith))
        ∙ sym (ap (λ (b : Bool). cond b (is_marked first s) (nat_lt x s && is_marked kept s)) (lt-false s x j) ∙ ap (λ (b : Bool). b && is_marked kept s) (lt-false x s i))
  ]
]

pub without : (first kept : List Bool) (x : ℕ) → length kept ≡ length first → x < length kept → ((v : ℕ) → v < x → is_marked kept v ≡ is_marked first v) → set kept x false ≡ trial_set first kept x
without first kept x n l h =
    ext_get_or false (set kept x false) (trial_set first kept x) (length-set kept x false ∙ n ∙ sym (length-map-range_with_len (in_trial first kept x) 0 (length first)))
    (λ s i.
    let j : s < length first = let e = length-set kept x false in omega arith in
    without_at first kept x s l h ∙ sym (get_or-map-range_with_len (in_trial first kept x) 0 (length first) s s false j (omega arith)))

-- ---- the trials from x on

pub record AreLeftFrom {E W : Type 0} (Evaluates : List Bool → Result E W → Type 0) (value : E → ℚ) (threshold : ℚ) (first : List Bool) (x : ℕ) (kept wide : List Bool) (last : E) : Type 0 where
  pub one_kept_each : length kept ≡ length first
  pub one_wide_each : length wide ≡ length first
  pub kept_below : (s : ℕ) → s < x → is_marked kept s ≡ is_marked first s
  pub wide_below : (s : ℕ) → s < x → is_marked wide s ≡ false
  pub outside : (s : ℕ) → s < length first → x ≤ s → is_marked first s ≡ false → (is_marked kept s ≡ false) × (is_marked wide s ≡ false)
  pub tried : (s : ℕ) → s < length first → x ≤ s → is_marked first s ≡ true → IsTried Evaluates value threshold first kept wide s
  pub evaluated : Evaluates kept (Ok last)

module _ {E W : Type 0} (Evaluates : List Bool → Result E W → Type 0) (value : E → ℚ) (threshold : ℚ) (first : List Bool) where
  abbrev From : ℕ → List Bool → List Bool → E → Type 0
  From x kept wide last = AreLeftFrom Evaluates value threshold first x kept wide last

  unmarked : (n s : ℕ) → is_marked (replicate n false) s ≡ false
  unmarked zero s = refl
  unmarked (suc n) zero = refl
  unmarked (suc n) (suc s) = unmarked n s

  inside_by : (x : ℕ) (kept wide : List Bool) (last : E) (s : ℕ) (b : Bool) → From x kept wide last → is_marked kept s ≡ true → is_marked first s ≡ b → b ≡ true
  inside_by x kept wide last s true left h e = refl
  inside_by x kept wide last s false left h e = elim (le_or x s) as (λ _. false ≡ true) [
    | inl l ↦ (let k = marked-below kept s h in let n = left.one_kept_each in let o = (left.outside s (omega arith) l e).0 in cc)
    | inr l ↦ (let k = left.kept_below s l in cc)
  ]

  -- what is left is of the first set
  pub left_inside : (x : ℕ) (kept wide : List Bool) (last : E) → From x kept wide last → (s : ℕ) → is_marked kept s ≡ true → is_marked first s ≡ true
  left_inside x kept wide last left s h = inside_by x kept wide last s (is_marked first s) left h refl

  -- before any trial
  pub left_first : (n : ℕ) (wide : List Bool) (last : E) → length first ≡ n → wide ≡ replicate n false → Evaluates first (Ok last) → From n first wide last
  left_first n wide last e w h = record {
    one_kept_each = refl;
    one_wide_each = ap length w ∙ length-replicate n false ∙ sym e;
    kept_below = λ s l. refl;
    wide_below = λ s l. ap (λ (xs : List Bool). is_marked xs s) w ∙ unmarked n s;
    outside = λ s l k. absurd (omega arith);
    tried = λ s l k. absurd (omega arith);
    evaluated = h;
  }

  -- after all trials
  pub left_all : (kept wide : List Bool) (last : E) → From 0 kept wide last → AreLeft Evaluates value threshold first kept wide last
  left_all kept wide last h = record {
    one_kept_each = h.one_kept_each;
    one_wide_each = h.one_wide_each;
    outside = λ s l. h.outside s l (omega arith);
    tried = λ s l. h.tried s l (omega arith);
    evaluated = h.evaluated;
  }

  module _ (x : ℕ) (kept wide : List Bool) (last : E) (inside : x < length first) (left : From (x + 1) kept wide last) where
    -- a state that isn't in the first set
    skip_tried : (s : ℕ) → is_marked kept x ≡ false → s < length first → x ≤ s → is_marked first s ≡ true → IsTried Evaluates value threshold first kept wide s
    skip_tried s out l k h = elim (le_or (x + 1) s) as (λ _. IsTried Evaluates value threshold first kept wide s) [
      | inl i ↦ left.tried s l i h
      | inr i ↦ absurd (let e : s ≡ x = omega arith in let f = subst (λ (v : ℕ). is_marked first v ≡ true) e h in let g = left.kept_below x (omega arith) in cc)
    ]

    skip_outside : (s : ℕ) → s < length first → x ≤ s → is_marked first s ≡ false → (is_marked kept s ≡ false) × (is_marked wide s ≡ false)
    skip_outside s l k h = elim (le_or (x + 1) s) as (λ _. (is_marked kept s ≡ false) × (is_marked wide s ≡ false)) [
      | inl i ↦ left.outside s l i h
      | inr i ↦ (left.kept_below s (omega arith) ∙ h, left.wide_below s (omega arith))
    ]

    pub left_skip : is_marked kept x ≡ false → From x kept wide last
    left_skip out = record {
      one_kept_each = left.one_kept_each;
      one_wide_each = left.one_wide_each;
      kept_below = λ s l. left.kept_below s (omega arith);
      wide_below = λ s l. left.wide_below s (omega arith);
      outside = skip_outside;
      tried = λ s l k h. skip_tried s out l k h;
      evaluated = left.evaluated;
    }

    -- a state of it
    module _ (kept2 wide2 : List Bool) (next : E) (in_kept : is_marked kept x ≡ true) (step : IsStep Evaluates value threshold x kept wide last kept2 wide2 next) where
      abbrev trial : Trial
      trial = trial_of value threshold step.evaluation

      in_range : x < length kept
      in_range = let e = left.one_kept_each in omega arith

      kept2-at : (s : ℕ) → is_marked kept2 s ≡ cond (eqb s x) (stays trial) (is_marked kept s)
      kept2-at s = ap (λ (xs : List Bool). is_marked xs s) step.kept_is ∙ set-at kept x s (stays trial) in_range

      wide2-at : (s : ℕ) → is_marked wide2 s ≡ cond (eqb s x) (is_wide trial) (is_marked wide s)
      wide2-at s = ap (λ (xs : List Bool). is_marked xs s) step.wide_is ∙ set-at wide x s (is_wide trial) (let e = left.one_wide_each in omega arith)

      kept2-below : (s : ℕ) → s < x → is_marked kept2 s ≡ is_marked kept s
      kept2-below s l = kept2-at s ∙ ap (λ (b : Bool). cond b (stays trial) (is_marked kept s)) (eqb-smaller s x l)

      kept2-above : (s : ℕ) → x < s → is_marked kept2 s ≡ is_marked kept s
      kept2-above s l = kept2-at s ∙ ap (λ (b : Bool). cond b (stays trial) (is_marked kept s)) (eqb-greater s x l)

      wide2-below : (s : ℕ) → s < x → is_marked wide2 s ≡ is_marked wide s
      wide2-below s l = wide2-at s ∙ ap (λ (b : Bool). cond b (is_wide trial) (is_marked wide s)) (eqb-smaller s x l)

      wide2-above : (s : ℕ) → x < s → is_marked wide2 s ≡ is_marked wide s
      wide2-above s l = wide2-at s ∙ ap (λ (b : Bool). cond b (is_wide trial) (is_marked wide s)) (eqb-greater s x l)

      eqb-self : eqb x x ≡ true
      eqb-self = eq-eqb x x refl

      -- the set of the step is that of the trial
      set_is : set kept x false ≡ trial_set first kept2 x
      set_is = without first kept x left.one_kept_each in_range (λ v l. left.kept_below v (omega arith)) ∙ same_trial first kept kept2 x kept2-above

      tried_here : IsTried Evaluates value threshold first kept2 wide2 x
      tried_here = record {
        evaluation = step.evaluation;
        evaluated = subst (λ (xs : List Bool). Evaluates xs step.evaluation) set_is step.evaluated;
        keeps = kept2-at x ∙ ap (λ (b : Bool). cond b (stays trial) (is_marked kept x)) eqb-self;
        marks = wide2-at x ∙ ap (λ (b : Bool). cond b (is_wide trial) (is_marked wide x)) eqb-self;
      }

      tried_above : (s : ℕ) → x < s → IsTried Evaluates value threshold first kept wide s → IsTried Evaluates value threshold first kept2 wide2 s
      tried_above s l h = record {
        evaluation = h.evaluation;
        evaluated = subst (λ (xs : List Bool). Evaluates xs h.evaluation) (same_trial first kept kept2 s (λ v i. kept2-above v (omega arith))) h.evaluated;
        keeps = kept2-above s l ∙ h.keeps;
        marks = wide2-above s l ∙ h.marks;
      }

      tried_all : (s : ℕ) → s < length first → x ≤ s → is_marked first s ≡ true → IsTried Evaluates value threshold first kept2 wide2 s
      tried_all s l k h = elim (le_or (x + 1) s) as (λ _. IsTried Evaluates value threshold first kept2 wide2 s) [
        | inl i ↦ tried_above s (omega arith) (left.tried s l i h)
        | inr i ↦ (let e : x ≡ s = omega arith in subst (λ (v : ℕ). IsTried Evaluates value threshold first kept2 wide2 v) e tried_here)
      ]

      outside_all : (s : ℕ) → s < length first → x ≤ s → is_marked first s ≡ false → (is_marked kept2 s ≡ false) × (is_marked wide2 s ≡ false)
      outside_all s l k h = elim (le_or (x + 1) s) as (λ _. (is_marked kept2 s ≡ false) × (is_marked wide2 s ≡ false)) [
        | inl i ↦ (let o = left.outside s l i h in (kept2-above s (omega arith) ∙ o.0, wide2-above s (omega arith) ∙ o.1))
        | inr i ↦ absurd (let e : s ≡ x = omega arith in let f = subst (λ (v : ℕ). is_marked first v ≡ false) e h in let g = left.kept_below x (omega arith) in cc)
      ]

      -- the set that is left has the last evaluation
      put_back : (t : Trial) → stays t ≡ true → kept2 ≡ set kept x (stays t) → kept2 ≡ kept
      put_back t h e =
          ext_get_or false kept2 kept (ap length e ∙ length-set kept x (stays t))
          (λ s l. ap (λ (xs : List Bool). is_marked xs s) e ∙ set-at kept x s (stays t) in_range ∙ back_by t s (eqb s x) refl h)
        where
          back_by : (t : Trial) (s : ℕ) (b : Bool) → eqb s x ≡ b → stays t ≡ true → cond b (stays t) (is_marked kept s) ≡ is_marked kept s
          back_by t s true e h = h ∙ sym in_kept ∙ ap (is_marked kept) (sym (eqb-true s x e))
          back_by t s false e h = refl

      evaluated_by : (t : Trial) → t ≡ trial → IsLast t step.evaluation last next → kept2 ≡ set kept x (stays t) → Evaluates kept2 (Ok next)
      evaluated_by Goes e h k =
          subst (λ (xs : List Bool). Evaluates xs (Ok next)) (sym k) (subst (λ (r : Result E W). Evaluates (set kept x false) r) h step.evaluated)
      evaluated_by Needed e h k = subst (λ (xs : List Bool). Evaluates xs (Ok next)) (sym (put_back Needed refl k)) (subst (λ (v : E). Evaluates kept (Ok v)) (sym h) left.evaluated)
      evaluated_by PastWidth e h k = subst (λ (xs : List Bool). Evaluates xs (Ok next)) (sym (put_back PastWidth refl k)) (subst (λ (v : E). Evaluates kept (Ok v)) (sym h) left.evaluated)

      pub left_step : From x kept2 wide2 next
      left_step = record {
        one_kept_each = ap length step.kept_is ∙ length-set kept x (stays trial) ∙ left.one_kept_each;
        one_wide_each = ap length step.wide_is ∙ length-set wide x (is_wide trial) ∙ left.one_wide_each;
        kept_below = λ s l. kept2-below s l ∙ left.kept_below s (omega arith);
        wide_below = λ s l. wide2-below s l ∙ left.wide_below s (omega arith);
        outside = outside_all;
        tried = tried_all;
        evaluated = evaluated_by trial refl step.last_is step.kept_is;
      }
