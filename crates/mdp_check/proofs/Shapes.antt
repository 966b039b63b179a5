-- The lists of a subsystem that fit its claim have the shape that its rules ask for, and its initial state is one of the model's.
use Rattle.std.proofs.Common.{◌≡◌, ℕ, zero, suc, ◌<◌, Bool, true, false, cond, eqb, ltb, ◌&&◌, ◌||◌, List, [], ◌∷◌, length, get_or, Option, Some, None, refl, sym, ap, subst, ◌∙◌, arith}
use Rattle.std.proofs.{lemmas.Bool.{and_parts, eqb-true, ltb-true}, lemmas.Bool.Decides.{nat_tests}, lemmas.List.Elements.{All-cons}}
use Rattle.std.specs.List.{All}
use Rattle.mdp_math.specs.Rational.{ℚ}
use Rattle.mdp_rows.specs.declared.dir.Dir.{Dir}
use Rattle.mdp_spec.specs.{Mdp.{Mdp, states_of}, Labels.{initial_of}}
use Rattle.mdp_text.proofs.InitialState.{initial_below}
use Rattle.mdp_text.specs.{declared.init.Init.{Init}, declared.init.Init.TheVariants.{Missing, Finite, Infinite, Start}}
use Rattle.mdp_cert.specs.Cert.{witness, PlainBody, bounds, policy, rewards, gains, flow, floor, is_init_of, are_kept, are_flows}
use Rattle.mdp_claims.specs.declared.verdict.Verdict.TheVariants as verdict
use Rattle.mdp_claims.specs.declared.subsystem.Flow.{Flow}
use Rattle.mdp_subsystem_rules.specs.{Kept.{Ascends}, Shape.{is_before, no_flow, FlowsAscend, IsFlowShape, IsFloorShape}}
use Rattle.mdp_check.specs.Initial.{init_check, start_of, is_subsystem, has_value}
use Rattle.mdp_farkas.specs.Initial.{init_fault, state_check}

-- ---- kept states

below : (s n : ℕ) → ltb s n ≡ true → s < n
below s n e = ltb-true s n e

kept_above : (n before : ℕ) (kept : List ℕ) → are_kept n (Some before) kept ≡ true → (i : ℕ) → i < length kept → before < get_or kept i 0
kept_above n before [] e i lt = absurd (omega arith)
kept_above n before (s ∷ kept) e zero lt = let q = and_parts _ _ (and_parts _ _ e).0 in below before s q.0
kept_above n before (s ∷ kept) e (suc i) lt =
    let p = and_parts _ _ e in
    let q = and_parts _ _ p.0 in
    let first = below before s q.0 in
    omega (arith, first, kept_above n s kept p.1 i (omega arith))

kept_ascend : (n : ℕ) (before : Option ℕ) (kept : List ℕ) → are_kept n before kept ≡ true → Ascends kept
kept_ascend n before [] e i j lt inside = absurd (omega arith)
kept_ascend n before (s ∷ kept) e zero zero lt inside = absurd (omega arith)
kept_ascend n before (s ∷ kept) e zero (suc j) lt inside = kept_above n s kept (and_parts _ _ e).1 j (omega arith)
kept_ascend n before (s ∷ kept) e (suc i) zero lt inside = absurd (omega arith)
kept_ascend n before (s ∷ kept) e (suc i) (suc j) lt inside = kept_ascend n (Some s) kept (and_parts _ _ e).1 i j (omega arith) (omega arith)

kept_inside : (n : ℕ) (before : Option ℕ) (kept : List ℕ) → are_kept n before kept ≡ true → All (λ s. s < n) kept
kept_inside n before [] e = λ i d lt. absurd (omega arith)
kept_inside n before (s ∷ kept) e =
    let p = and_parts _ _ e in All-cons (λ s. s < n) s kept (below s n (and_parts _ _ p.0).1) (kept_inside n (Some s) kept p.1)

-- ---- flows

before_trans : (f g h : Flow) → is_before f g ≡ true → is_before g h ≡ true → is_before f h ≡ true
before_trans f g h p q = by f.state f.choice g.state g.choice h.state h.choice p q
  where
    by : (a b c d e k : ℕ) → (ltb a c || (eqb a c && ltb b d)) ≡ true → (ltb c e || (eqb c e && ltb d k)) ≡ true → (ltb a e || (eqb a e && ltb b k)) ≡ true
    by a b c d e k p q = grind (arith, nat_tests)

flows_above : (n : ℕ) (before : Flow) (flows : List Flow) → are_flows n (Some before) flows ≡ true → (i : ℕ) → i < length flows → is_before before (get_or flows i no_flow) ≡ true
flows_above n before [] e i lt = absurd (omega arith)
flows_above n before (f ∷ flows) e zero lt = (and_parts _ _ (and_parts _ _ e).0).0
flows_above n before (f ∷ flows) e (suc i) lt =
    let p = and_parts _ _ e in
    before_trans before f (get_or flows i no_flow) (and_parts _ _ p.0).0 (flows_above n f flows p.1 i (omega arith))

flows_ascend : (n : ℕ) (before : Option Flow) (flows : List Flow) → are_flows n before flows ≡ true → FlowsAscend flows
flows_ascend n before [] e i j lt inside = absurd (omega arith)
flows_ascend n before (f ∷ flows) e zero zero lt inside = absurd (omega arith)
flows_ascend n before (f ∷ flows) e zero (suc j) lt inside = flows_above n f flows (and_parts _ _ e).1 j (omega arith)
flows_ascend n before (f ∷ flows) e (suc i) zero lt inside = absurd (omega arith)
flows_ascend n before (f ∷ flows) e (suc i) (suc j) lt inside = flows_ascend n (Some f) flows (and_parts _ _ e).1 i j (omega arith) (omega arith)

flows_inside : (n : ℕ) (before : Option Flow) (flows : List Flow) → are_flows n before flows ≡ true → All (λ f. f.state < n) flows
flows_inside n before [] e = λ i d lt. absurd (omega arith)
flows_inside n before (f ∷ flows) e =
    let p = and_parts _ _ e in All-cons (λ f. f.state < n) f flows (below f.state n (and_parts _ _ p.0).1) (flows_inside n (Some f) flows p.1)

-- ---- the shape of each body

pub flow_shape : (m : Mdp) (states : ℕ) (kept : List ℕ) (wide : List Bool) (flows : List Flow) → states ≡ states_of m
    → (are_kept states None kept && eqb (length wide) (length kept) && are_flows states None flows) ≡ true → IsFlowShape m kept wide flows
flow_shape m states kept wide flows size fits =
    let p = and_parts (are_kept states None kept && eqb (length wide) (length kept)) (are_flows states None flows) fits in
    let q = and_parts (are_kept states None kept) (eqb (length wide) (length kept)) p.0 in
    record {
      kept_ascends = kept_ascend states None kept q.0;
      kept_in_range = subst (λ (n : ℕ). All (λ s. s < n) kept) size (kept_inside states None kept q.0);
      one_wide_each = eqb-true (length wide) (length kept) q.1;
      flows_ascend = flows_ascend states None flows p.1;
      flows_in_range = subst (λ (n : ℕ). All (λ f. f.state < n) flows) size (flows_inside states None flows p.1);
    }

pub floor_shape : (m : Mdp) (states : ℕ) (kept : List ℕ) (wide : List Bool) (values : List ℚ) (ranks : List ℕ) → states ≡ states_of m
    → (are_kept states None kept && eqb (length wide) (length kept) && eqb (length values) (length kept) && eqb (length ranks) (length kept)) ≡ true → IsFloorShape m kept wide values ranks
floor_shape m states kept wide values ranks size fits =
    let p = and_parts (are_kept states None kept && eqb (length wide) (length kept) && eqb (length values) (length kept)) (eqb (length ranks) (length kept)) fits in
    let q = and_parts (are_kept states None kept && eqb (length wide) (length kept)) (eqb (length values) (length kept)) p.0 in
    let r = and_parts (are_kept states None kept) (eqb (length wide) (length kept)) q.0 in
    record {
      kept_ascends = kept_ascend states None kept r.0;
      kept_in_range = subst (λ (n : ℕ). All (λ s. s < n) kept) size (kept_inside states None kept r.0);
      one_wide_each = eqb-true (length wide) (length kept) r.1;
      one_value_each = eqb-true (length values) (length kept) q.1;
      one_rank_each = eqb-true (length ranks) (length kept) p.1;
    }

-- ---- the initial state

-- rule 1 holds only where the line has the value, and names the model's one initial state
pub state_yes : (s : ℕ) (initial : Option ℕ) (valued : Bool) → state_check s initial valued ≡ verdict.Yes → (initial ≡ Some s) × (valued ≡ true)
state_yes s None valued e = cc e
state_yes s (Some t) valued e = by (eqb s t) refl valued e
  where
    by : (same : Bool) → eqb s t ≡ same → (b : Bool) → cond (same && b) verdict.Yes (init_fault (Some s)) ≡ verdict.Yes → (Some t ≡ Some s) × (b ≡ true)
    by true f true e = (ap (λ (n : ℕ). Some n) (sym (eqb-true s t f)), refl)
    by true f false e = cc e
    by false f b e = cc e

no_value : (body : PlainBody) → is_subsystem body ≡ true → (s : ℕ) (x : Option ℚ) → has_value body s x ≡ false
no_value (bounds z) sub s x = absurd (let t = sub in cc)
no_value (policy z choices ranks) sub s x = absurd (let t = sub in cc)
no_value (rewards v choices ranks) sub s x = absurd (let t = sub in cc)
no_value (gains g bound bias choices spread) sub s x = absurd (let t = sub in cc)
no_value (flow kept wide flows) sub s None = refl
no_value (flow kept wide flows) sub s (Some x) = refl
no_value (floor kept wide values ranks) sub s None = refl
no_value (floor kept wide values ranks) sub s (Some x) = refl

both : (b : Bool) → b ≡ true → b ≡ false → ⊥
both b p q = let t : true ≡ false = sym p ∙ q in cc t

missing_no : (initial : Option ℕ) (body : PlainBody) → is_subsystem body ≡ true → init_check Missing initial body ≡ verdict.Yes → ⊥
missing_no (Some t) body sub e = cc e
missing_no None body sub e = by (is_subsystem body) sub e
  where
    by : (c : Bool) → c ≡ true → cond c (init_fault None) verdict.Yes ≡ verdict.Yes → ⊥
    by true h e = cc e
    by false h e = cc h

-- so a subsystem's line `init` names a state of the model
pub start_below : (m : Mdp) (init : Init) (body : PlainBody) → is_subsystem body ≡ true → init_check init (initial_of m) body ≡ verdict.Yes → start_of init < states_of m
start_below m Missing body sub e = absurd (missing_no (initial_of m) body sub e)
start_below m (Finite s x) body sub e = absurd (both (has_value body s (Some x)) (state_yes s (initial_of m) (has_value body s (Some x)) e).1 (no_value body sub s (Some x)))
start_below m (Infinite s) body sub e = absurd (both (has_value body s None) (state_yes s (initial_of m) (has_value body s None) e).1 (no_value body sub s None))
start_below m (Start s) body sub e = initial_below m s (state_yes s (initial_of m) (is_subsystem body) e).0

-- and so does that of a certificate that has a text
pub start_inside : (dir : Dir) (stay : Option (List ℕ)) (label : List ℕ) (t : ℚ) (states : ℕ) (init : Init) → is_init_of (witness dir stay label t) states init ≡ true → start_of init < states
start_inside dir stay label t states Missing e = absurd (let u = e in cc)
start_inside dir stay label t states (Finite s x) e = absurd (let u = e in cc)
start_inside dir stay label t states (Infinite s) e = absurd (let u = e in cc)
start_inside dir stay label t states (Start s) e = below s states e
