-- Rule 1 holds exactly where what the line `init` says is true.
use Rattle.std.proofs.Common.{◌≡◌, ◌↔◌, ℕ, ◌⊎◌, inl, inr, Bool, true, false, cond, eqb, eq-eqb, ltb-true, lt-ltb, ◌&&◌, List, length, Option, Some, None, refl, sym, ap, ap₂, subst, ◌∙◌}
use Rattle.std.proofs.lemmas.Bool.{and_parts}
use Rattle.std.specs.Prelude.{nat_lt}
use Rattle.mdp_math.specs.Rational.{ℚ}
use Rattle.mdp_math.proofs.Booleans.{and-both}
use Rattle.mdp_num.specs.{Equal.{eq_ℚ}, OrderView.{equal_decides}}
use Rattle.mdp_spec.specs.{Mdp.{value_at}, Bounds.{reward_at}}
use Rattle.mdp_text.specs.{declared.init.Init.{Init}, declared.init.Init.TheVariants.{Missing, Finite, Infinite, Start}}
use Rattle.mdp_claims.specs.{declared.rule.Rule.{Rule}, declared.rule.Rule.TheVariants.{InitialState}, declared.verdict.Fault.{Fault}, declared.verdict.Verdict.{Verdict}}
use Rattle.mdp_claims.specs.declared.verdict.Verdict.TheVariants as verdict
use Rattle.mdp_farkas.specs.Initial.{init_fault, is_value, state_check}
use Rattle.mdp_cert.specs.{Cert.{PlainBody, bounds, policy, rewards, gains, flow, floor}, Claims.{reward_same}}
use Rattle.mdp_check.specs.{Initial.{is_reward, is_subsystem, has_value, init_check}, Says.{IsValueAt, IsRewardAt, HasValue}, Laws.{InitIsChecked}}
use Rattle.mdp_check.specs.{Check.{answer_of, after_init}, declared.answer.Answer.{Answer}, declared.answer.Answer.TheVariants.{No}}
use Rattle.mdp_check.proofs.Shapes.{state_yes}

-- ---- values

pub value_is : (v : List ℚ) (s : ℕ) (x : ℚ) → (is_value v s x ≡ true) ↔ IsValueAt v s x
value_is v s x = (
  λ e. (let p = and_parts (nat_lt s (length v)) (eq_ℚ (value_at v s) x) e in (ltb-true s (length v) p.0, (equal_decides (value_at v s) x).0 p.1)),
  λ h. and-both (nat_lt s (length v)) (eq_ℚ (value_at v s) x) (lt-ltb s (length v) h.0) ((equal_decides (value_at v s) x).1 h.1),
)

same_is : (x y : Option ℚ) → (reward_same x y ≡ true) ↔ (x ≡ y)
same_is None None = (λ e. refl, λ e. refl)
same_is None (Some y) = (λ e. cc, λ e. cc)
same_is (Some x) None = (λ e. cc, λ e. cc)
same_is (Some x) (Some y) = (λ e. ap (λ (z : ℚ). Some z) ((equal_decides x y).0 e), λ e. (equal_decides x y).1 (let same : x ≡ y = cc in same))

pub reward_is : (v : List (Option ℚ)) (s : ℕ) (x : Option ℚ) → (is_reward v s x ≡ true) ↔ IsRewardAt v s x
reward_is v s x = (
  λ e. (let p = and_parts (nat_lt s (length v)) (reward_same (reward_at v s) x) e in (ltb-true s (length v) p.0, (same_is (reward_at v s) x).0 p.1)),
  λ h. and-both (nat_lt s (length v)) (reward_same (reward_at v s) x) (lt-ltb s (length v) h.0) ((same_is (reward_at v s) x).1 h.1),
)

pub never : (false ≡ true) ↔ ⊥
never = (λ e. cc, λ none. absurd none)

has_value_is : (body : PlainBody) (s : ℕ) (x : Option ℚ) → (has_value body s x ≡ true) ↔ HasValue body s x
has_value_is (bounds z) s None = never
has_value_is (bounds z) s (Some x) = value_is z s x
has_value_is (policy z choices ranks) s None = never
has_value_is (policy z choices ranks) s (Some x) = value_is z s x
has_value_is (rewards v choices ranks) s x = reward_is v s x
has_value_is (gains g bound bias choices spread) s None = never
has_value_is (gains g bound bias choices spread) s (Some x) = value_is g s x
has_value_is (flow kept wide flows) s None = never
has_value_is (flow kept wide flows) s (Some x) = never
has_value_is (floor kept wide values ranks) s None = never
has_value_is (floor kept wide values ranks) s (Some x) = never

-- ---- the line

yes_state : (s : ℕ) (initial : Option ℕ) (valued : Bool) → initial ≡ Some s → valued ≡ true → state_check s initial valued ≡ verdict.Yes
yes_state s initial valued e f =
    ap (λ (i : Option ℕ). state_check s i valued) e ∙ ap₂ (λ (a b : Bool). cond (a && b) verdict.Yes (init_fault (Some s))) (eq-eqb s s refl) f

pub state_is : (s : ℕ) (initial : Option ℕ) (valued : Bool) (P : Type 0) → ((valued ≡ true) ↔ P) → (state_check s initial valued ≡ verdict.Yes) ↔ ((initial ≡ Some s) × P)
state_is s initial valued P is = (λ e. (let p = state_yes s initial valued e in (p.0, is.0 p.1)), λ h. yes_state s initial valued h.0 (is.1 h.1))

-- rule 1 is true, or named
abbrev pub HoldsOrNamed : Verdict → Type 0
HoldsOrNamed v = (v ≡ verdict.Yes) ⊎ ((state : Option ℕ) × (v ≡ init_fault state))

by_test : (state : Option ℕ) (test : Bool) → HoldsOrNamed (cond test verdict.Yes (init_fault state))
by_test state true = inl refl
by_test state false = inr (state, refl)

pub state_told : (s : ℕ) (initial : Option ℕ) (valued : Bool) → HoldsOrNamed (state_check s initial valued)
state_told s None valued = inr (Some s, refl)
state_told s (Some t) valued = by_test (Some s) (eqb s t && valued)

missing_is : (b : Bool) → (cond b (init_fault None) verdict.Yes ≡ verdict.Yes) ↔ (b ≡ false)
missing_is true = (λ e. cc, λ e. cc)
missing_is false = (λ e. refl, λ e. refl)

missing_told : (b : Bool) → HoldsOrNamed (cond b (init_fault None) verdict.Yes)
missing_told true = inr (None, refl)
missing_told false = inl refl

pub init_is_checked : InitIsChecked
init_is_checked Missing None body = (λ e. (refl, (missing_is (is_subsystem body)).0 e), λ h. (missing_is (is_subsystem body)).1 h.1)
init_is_checked Missing (Some t) body = (λ e. cc, λ h. (let e = h.0 in cc))
init_is_checked (Finite s x) initial body = state_is s initial (has_value body s (Some x)) (HasValue body s (Some x)) (has_value_is body s (Some x))
init_is_checked (Infinite s) initial body = state_is s initial (has_value body s None) (HasValue body s None) (has_value_is body s None)
init_is_checked (Start s) initial body = state_is s initial (is_subsystem body) (is_subsystem body ≡ true) (λ e. e, λ e. e)

pub told : (init : Init) (initial : Option ℕ) (body : PlainBody) → HoldsOrNamed (init_check init initial body)
told Missing None body = missing_told (is_subsystem body)
told Missing (Some t) body = inr (None, refl)
told (Finite s x) initial body = state_told s initial (has_value body s (Some x))
told (Infinite s) initial body = state_told s initial (has_value body s None)
told (Start s) initial body = state_told s initial (is_subsystem body)

-- ---- the answer

abbrev answer_fault : Fault → Answer → Fault
answer_fault f (No g) = g
answer_fault f other = f

abbrev verdict_fault : Fault → Verdict → Fault
verdict_fault f (verdict.No g) = g
verdict_fault f other = f

no_verdict : (v : Verdict) (f : Fault) → answer_of v ≡ No f → v ≡ verdict.No f
no_verdict verdict.Yes f e = cc
no_verdict (verdict.No g) f e = ap (λ (a : Answer). verdict.No (answer_fault f a)) e
no_verdict (verdict.Wide state choice) f e = cc

-- a rule that says nothing is named by no false check
pub says_nothing : (Says : Rule → Option ℕ → Option ℕ → Type 0) (f : Fault) → Says InitialState f.state f.choice → (Says f.rule f.state f.choice → ⊥) → f.rule ≡ InitialState → ⊥
says_nothing Says f nothing refuted e = refuted (subst (λ (rule : Rule). Says rule f.state f.choice) (sym e) nothing)

pub no_by : (S : Type 0) (u w : Verdict) (f : Fault) → ((u ≡ verdict.Yes) ↔ S) → HoldsOrNamed u → (u ≡ verdict.Yes → w ≡ verdict.No f → f.rule ≡ InitialState → ⊥)
    → answer_of (after_init u w) ≡ No f → (f.rule ≡ InitialState) ↔ (S → ⊥)
no_by S u w f is (inl holds) rest e =
    let later = no_verdict w f (ap (λ (v : Verdict). answer_of (after_init v w)) (sym holds) ∙ e) in
    (λ named. absurd (rest holds later named), λ wrong. absurd (wrong (is.0 holds)))
no_by S u w f is (inr named) rest e =
    let no : verdict.No (record { rule = InitialState; state = named.0; choice = None }) ≡ verdict.No f =
    no_verdict (init_fault named.0) f (ap (λ (v : Verdict). answer_of (after_init v w)) (sym named.1) ∙ e) in (
      λ r says. (let holds : init_fault named.0 ≡ verdict.Yes = sym named.1 ∙ is.1 says in cc),
      λ wrong. sym (ap (λ (v : Verdict). (verdict_fault f v).rule) no),
    )
