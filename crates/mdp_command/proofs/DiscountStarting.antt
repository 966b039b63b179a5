-- A no to a certificate of discounted rewards names rule 1 exactly where what the line `init` says is false.
use Rattle.std.proofs.Common.{◌≡◌, ◌↔◌, ℕ, Bool, true, false, cond, eqb, ltb-true, lt-ltb, inl, inr, List, length, Option, Some, None, refl, ap, sym, ◌∙◌}
use Rattle.std.proofs.lemmas.Bool.{and_parts}
use Rattle.std.specs.Prelude.{nat_lt}
use Rattle.mdp_math.specs.Rational.{ℚ}
use Rattle.mdp_math.proofs.Booleans.{and-both}
use Rattle.mdp_num.specs.OrderView.{equal_decides}
use Rattle.mdp_spec.specs.{Mdp.{states_of}, Bounds.{reward_at}, Labels.{initial_of, place_of}}
use Rattle.mdp_text.specs.{declared.init.Init.{Init}, declared.init.Init.TheVariants.{Missing, Finite, Infinite, Start}}
use Rattle.mdp_claims.specs.{declared.rule.Rule.TheVariants.{InitialState}, declared.verdict.Fault.{Fault}, declared.verdict.Verdict.{Verdict}}
use Rattle.mdp_claims.specs.declared.verdict.Verdict.TheVariants as verdict
use Rattle.mdp_farkas.specs.Initial.{is_value}
use Rattle.mdp_check.specs.Says.{IsValueAt, IsRewardAt}
use Rattle.mdp_check.specs.Check as check
use Rattle.mdp_check.proofs.Starting.{value_is, state_is, HoldsOrNamed, state_told, says_nothing, no_by}
use Rattle.mdp_discount_rules.specs.Check as exact_check
use Rattle.mdp_discount_rules.specs.Says as exact_says
use Rattle.mdp_discount_rules.specs.Laws as exact_laws
use Rattle.mdp_discount_rules.specs.{declared.answer.DiscountAnswer.{DiscountAnswer}, declared.answer.DiscountAnswer.TheVariants.{No, Size}}
use Rattle.mdp_discount_rules.specs.BoundsCheck as bounds_check
use Rattle.mdp_discount_rules.specs.BoundsSays as bounds_says
use Rattle.mdp_discount_rules.specs.BoundsLaws as bounds_laws
use Rattle.mdp_discount_rules.specs.declared.bounds_init.InitialBounds.{InitialBounds}
use Rattle.mdp_command.specs.DiscountStart.{ExactInitSays, BoundsInitSays, ExactNoOfInit, BoundsNoOfInit}

-- ---- two verdicts, the second one after a yes

abbrev fault_of : Fault → DiscountAnswer → Fault
fault_of f (No g) = g
fault_of f other = f

no_verdict : (v : Verdict) (f : Fault) → exact_check.answer_of v ≡ No f → v ≡ verdict.No f
no_verdict verdict.Yes f e = cc
no_verdict (verdict.No g) f e = ap (λ (a : DiscountAnswer). verdict.No (fault_of f a)) e
no_verdict (verdict.Wide state choice) f e = cc

after : (u w : Verdict) → exact_check.then_verdict u w ≡ check.after_init u w
after verdict.Yes w = refl
after (verdict.No f) w = refl
after (verdict.Wide state choice) w = refl

no_of : (S : Type 0) (u w : Verdict) (f : Fault) → ((u ≡ verdict.Yes) ↔ S) → HoldsOrNamed u → (w ≡ verdict.No f → f.rule ≡ InitialState → ⊥)
    → exact_check.answer_of (exact_check.then_verdict u w) ≡ No f → (f.rule ≡ InitialState) ↔ (S → ⊥)
no_of S u w f is named rest e =
    no_by S u w f is named (λ holds wrong. rest wrong)
    (ap (λ (v : Verdict). check.answer_of v) (sym (after u w) ∙ no_verdict (exact_check.then_verdict u w) f e))

-- ---- exact values

exact_is : (init : Init) (initial : Option ℕ) (v : List ℚ) → (exact_check.init_check init initial v ≡ verdict.Yes) ↔ ExactInitSays init initial v
exact_is Missing None v = (λ e. refl, λ e. refl)
exact_is Missing (Some t) v = (λ e. cc, λ e. cc)
exact_is (Finite s x) initial v = state_is s initial (is_value v s x) (IsValueAt v s x) (value_is v s x)
exact_is (Infinite s) initial v = (λ e. cc, λ none. absurd none)
exact_is (Start s) initial v = (λ e. cc, λ none. absurd none)

exact_told : (init : Init) (initial : Option ℕ) (v : List ℚ) → HoldsOrNamed (exact_check.init_check init initial v)
exact_told Missing None v = inl refl
exact_told Missing (Some t) v = inr (None, refl)
exact_told (Finite s x) initial v = state_told s initial (is_value v s x)
exact_told (Infinite s) initial v = inr (Some s, refl)
exact_told (Start s) initial v = inr (Some s, refl)

pub exact_no_of_init : exact_laws.DiscountNoRefutes → ExactNoOfInit
exact_no_of_init refuted m c f e = by_size (eqb (length c.values) (states_of m)) e
  where
    by_reward : (named : Option ℕ) → exact_check.at_reward m c named ≡ No f → (f.rule ≡ InitialState) ↔ (ExactInitSays c.init (initial_of m) c.values → ⊥)
    by_reward None e = cc
    by_reward (Some r) e =
        no_of (ExactInitSays c.init (initial_of m) c.values) (exact_check.init_check c.init (initial_of m) c.values) (exact_check.checks_of m r c) f
        (exact_is c.init (initial_of m) c.values) (exact_told c.init (initial_of m) c.values)
        (λ wrong. says_nothing (exact_says.DiscountSays c.dir m r c.factor c.values c.remainder c.choices) f tt (refuted c.dir m r c.factor c.values c.remainder c.choices f wrong).1) e

    by_size : (same : Bool) → cond same (exact_check.at_reward m c (place_of c.name m.names)) Size ≡ No f
        → (f.rule ≡ InitialState) ↔ (ExactInitSays c.init (initial_of m) c.values → ⊥)
    by_size true e = by_reward (place_of c.name m.names) e
    by_size false e = cc

-- ---- bounds

same_is : (x y : Option ℚ) → (bounds_check.same_value x y ≡ true) ↔ (x ≡ y)
same_is None None = (λ e. refl, λ e. refl)
same_is None (Some y) = (λ e. cc, λ e. cc)
same_is (Some x) None = (λ e. cc, λ e. cc)
same_is (Some x) (Some y) = (λ e. ap (λ (z : ℚ). Some z) ((equal_decides x y).0 e), λ e. (equal_decides x y).1 (let same : x ≡ y = cc in same))

one_is : (v : List (Option ℚ)) (s : ℕ) (x : Option ℚ) → (bounds_check.is_value v s x ≡ true) ↔ IsRewardAt v s x
one_is v s x = (
  λ e. (let p = and_parts (nat_lt s (length v)) (bounds_check.same_value (reward_at v s) x) e in (ltb-true s (length v) p.0, (same_is (reward_at v s) x).0 p.1)),
  λ h. and-both (nat_lt s (length v)) (bounds_check.same_value (reward_at v s) x) (lt-ltb s (length v) h.0) ((same_is (reward_at v s) x).1 h.1),
)

two_are : (init : InitialBounds) (lower upper : List (Option ℚ))
    → (bounds_check.has_bounds init lower upper ≡ true) ↔ (IsRewardAt lower init.state init.lower × IsRewardAt upper init.state init.upper)
two_are init lower upper =
    let low : Bool = bounds_check.is_value lower init.state init.lower in
    let high : Bool = bounds_check.is_value upper init.state init.upper in (
      λ e. (let p = and_parts low high e in ((one_is lower init.state init.lower).0 p.0, (one_is upper init.state init.upper).0 p.1)),
      λ h. and-both low high ((one_is lower init.state init.lower).1 h.0) ((one_is upper init.state init.upper).1 h.1),
    )

bounds_is : (init : Option InitialBounds) (initial : Option ℕ) (lower upper : List (Option ℚ))
    → (bounds_check.init_check init initial lower upper ≡ verdict.Yes) ↔ BoundsInitSays init initial lower upper
bounds_is None None lower upper = (λ e. refl, λ e. refl)
bounds_is None (Some t) lower upper = (λ e. cc, λ e. cc)
bounds_is (Some init) initial lower upper =
    state_is init.state initial (bounds_check.has_bounds init lower upper) (IsRewardAt lower init.state init.lower × IsRewardAt upper init.state init.upper) (two_are init lower upper)

bounds_told : (init : Option InitialBounds) (initial : Option ℕ) (lower upper : List (Option ℚ)) → HoldsOrNamed (bounds_check.init_check init initial lower upper)
bounds_told None None lower upper = inl refl
bounds_told None (Some t) lower upper = inr (None, refl)
bounds_told (Some init) initial lower upper = state_told init.state initial (bounds_check.has_bounds init lower upper)

pub bounds_no_of_init : bounds_laws.DiscountNoRefutes → BoundsNoOfInit
bounds_no_of_init refuted m c f known e = by_size (eqb (length c.lower) (states_of m)) e
  where
    by_reward : (named : Option ℕ) → bounds_check.at_reward m c named ≡ No f → (f.rule ≡ InitialState) ↔ (BoundsInitSays c.init (initial_of m) c.lower c.upper → ⊥)
    by_reward None e = cc
    by_reward (Some r) e =
        no_of (BoundsInitSays c.init (initial_of m) c.lower c.upper) (bounds_check.init_check c.init (initial_of m) c.lower c.upper) (bounds_check.checks_of m r c) f
        (bounds_is c.init (initial_of m) c.lower c.upper) (bounds_told c.init (initial_of m) c.lower c.upper)
        (λ wrong.
        says_nothing (bounds_says.DiscountSays c.dir m r c.factor c.lower c.upper c.remainder c.choices) f tt
        (refuted c.dir m r c.factor c.lower c.upper c.remainder c.choices f known wrong)) e

    by_size : (same : Bool) → cond same (bounds_check.at_reward m c (place_of c.name m.names)) Size ≡ No f
        → (f.rule ≡ InitialState) ↔ (BoundsInitSays c.init (initial_of m) c.lower c.upper → ⊥)
    by_size true e = by_reward (place_of c.name m.names) e
    by_size false e = cc
