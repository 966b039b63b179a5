-- A certificate of bounds of a subsystem is answered yes exactly where it is accepted, and then its claim is true.
use Rattle.std.proofs.Common.{◌≡◌, ◌↔◌, ℕ, ◌<◌, Bool, true, false, cond, List, length, eqb, eqb-true, eq-eqb, Option, Some, None, refl, sym, ap, subst, ◌∙◌}
use Rattle.std.specs.Prelude.{◌&&◌, unwrap_or}
use Rattle.mdp_math.specs.Rational.{ℚ}
use Rattle.mdp_spec.specs.{Mdp.{Mdp, states_of}, Labels.{initial_of}, Row.{IsMdp}}
use Rattle.mdp_spec.proofs.Subsystem.{sub_is_mdp}
use Rattle.mdp_text.proofs.InitialState.{initial_below}
use Rattle.mdp_rows.specs.{declared.dir.Dir.{Dir}, declared.dir.Dir.TheVariants.{Max, Min}}
use Rattle.mdp_claims.specs.{declared.verdict.Verdict.{Verdict}}
use Rattle.mdp_claims.specs.declared.verdict.Verdict.TheVariants as verdict
use Rattle.mdp_farkas.specs.Initial.{init_fault, state_check}
use Rattle.mdp_subsystem_rules.proofs.Untils.{sub_until_max, sub_until_min}
use Rattle.mdp_check.specs.Check.{goal_marks, stay_marks, way_by, answer_of, after_init}
use Rattle.mdp_check.specs.{declared.answer.Answer.TheVariants.{Yes, Size}}
use Rattle.mdp_check.proofs.{Accepting.{by_size, yes_verdict, both_yes}, Ways.{way_by_states}}
use Rattle.mdp_subsystem_bounds.specs.{Cert.{Certificate, plain_claim, states_in, kept_states}, Rules.{AreSubsystemBounds, Reaches}}
use Rattle.mdp_subsystem_bounds.specs.{Check.{verdict_on, at_goals, answer_to, IsAccepted, Holds}, Laws.{YesIsAccepted, AcceptedIsBound}}
use Rattle.mdp_subsystem_bounds.proofs.Rules.{rules_reach, subsystem_rules}

-- ---- rule 1

initial_by : (s : ℕ) (o : Option ℕ) → state_check s o true ≡ verdict.Yes → o ≡ Some s
initial_by s None e = cc
initial_by s (Some t) e = by (eqb s t) refl e
  where
    by : (b : Bool) → eqb s t ≡ b → cond (b && true) verdict.Yes (init_fault (Some s)) ≡ verdict.Yes → Some t ≡ Some s
    by true is e = ap Some (sym (eqb-true s t is))
    by false is e = cc

initial_yes : (s : ℕ) → state_check s (Some s) true ≡ verdict.Yes
initial_yes s = ap (λ (b : Bool). cond (b && true) verdict.Yes (init_fault (Some s))) (eq-eqb s s refl)

-- ---- the model of the way

pub way_is_mdp : (m : Mdp) (goals : List Bool) (stay : Option (List ℕ)) → IsMdp m → IsMdp (way_by m goals stay)
way_is_mdp m goals None known = known
way_is_mdp m goals (Some stay) known = sub_is_mdp m goals (stay_marks m stay) known

-- it has the states of the model
pub way_sized : (m way : Mdp) (left : Option Mdp) (goals : List Bool) (given stay : Option (List ℕ)) (n : ℕ) → way ≡ unwrap_or left m → unwrap_or left m ≡ way_by m goals given → given ≡ stay
    → n ≡ states_of m → n ≡ states_of way
way_sized m way left goals given stay n is by same e = e ∙ sym (ap states_of (is ∙ by ∙ ap (way_by m goals) same) ∙ way_by_states m goals stay)

-- what the kept states show on the way, they show on the model of until
holds_of : (dir : Dir) (stay : Option (List ℕ)) (m : Mdp) (goals kept : List Bool) (start : ℕ) (t : ℚ) → IsMdp m → Reaches dir (way_by m goals stay) goals kept start t
    → Holds dir stay m goals kept start t
holds_of Max None m goals kept start t known h = h
holds_of Min None m goals kept start t known h = h
holds_of Max (Some stay) m goals kept start t known h = sub_until_max m (stay_marks m stay) goals kept start t known h
holds_of Min (Some stay) m goals kept start t known h = sub_until_min m (stay_marks m stay) goals kept start t known h

-- ---- the rules

module _ (m : Mdp) (c : Certificate) (known : IsMdp m) (goals : List Bool) where
  abbrev way : Mdp
  way = way_by m goals c.claim.stay

  abbrev Rules : Type 0
  Rules = AreSubsystemBounds c.claim.dir way goals c.start c.claim.threshold (kept_states c.lists.marks) c.lists.lower c.lists.choices c.lists.ranks

  rules_of : length c.lists.choices ≡ states_of m → (verdict_on m goals c ≡ verdict.Yes) ↔ Rules
  rules_of each =
      subsystem_rules c.claim.dir way goals c.start c.claim.threshold (kept_states c.lists.marks) c.lists.lower c.lists.choices c.lists.ranks (way_is_mdp m goals c.claim.stay known)
      (each ∙ sym (way_by_states m goals c.claim.stay)) (verdict_on m goals c) refl

  bound_of : c.start < states_of m → Rules → Holds c.claim.dir c.claim.stay m goals (kept_states c.lists.marks) c.start c.claim.threshold
  bound_of inside are =
      holds_of c.claim.dir c.claim.stay m goals (kept_states c.lists.marks) c.start c.claim.threshold known
      (rules_reach c.claim.dir way goals c.start c.claim.threshold (kept_states c.lists.marks) c.lists.lower c.lists.choices c.lists.ranks (way_is_mdp m goals c.claim.stay known)
      (subst (λ (n : ℕ). c.start < n) (sym (way_by_states m goals c.claim.stay)) inside) are)

-- ---- the whole

accepted_at : (m : Mdp) (c : Certificate) → IsMdp m → length c.lists.choices ≡ states_in c → states_in c ≡ states_of m → (found : Option (List Bool))
    → goal_marks m (plain_claim c.claim) ≡ found → at_goals m c found ≡ Yes → IsAccepted m c
accepted_at m c known each size None f e = cc
accepted_at m c known each size (Some goals) f e =
    let both = both_yes (state_check c.start (initial_of m) true) (verdict_on m goals c) (yes_verdict _ e) in
    record {
      states = size;
      goals = goals;
      marked = f;
      init = initial_by c.start (initial_of m) both.0;
      rules = (rules_of m c known goals (each ∙ size)).0 both.1;
    }

pub accepted_of : (m : Mdp) (c : Certificate) → IsMdp m → length c.lists.choices ≡ states_in c → answer_to m c ≡ Yes → IsAccepted m c
accepted_of m c known each e =
    let size = by_size (eqb (states_in c) (states_of m)) (at_goals m c (goal_marks m (plain_claim c.claim))) e in
    accepted_at m c known each (eqb-true (states_in c) (states_of m) size.0) (goal_marks m (plain_claim c.claim)) refl size.1

pub answer_accepted : (m : Mdp) (c : Certificate) → IsMdp m → length c.lists.choices ≡ states_in c → IsAccepted m c → answer_to m c ≡ Yes
answer_accepted m c known each h =
    ap (λ (same : Bool). cond same (at_goals m c (goal_marks m (plain_claim c.claim))) Size) (eq-eqb (states_in c) (states_of m) h.states)
    ∙ ap (λ (found : Option (List Bool)). at_goals m c found) h.marked
    ∙ ap (λ (o : Option ℕ). answer_of (after_init (state_check c.start o true) (verdict_on m h.goals c))) h.init
    ∙ ap (λ (v : Verdict). answer_of (after_init v (verdict_on m h.goals c))) (initial_yes c.start)
    ∙ ap answer_of ((rules_of m c known h.goals (each ∙ h.states)).1 h.rules)

pub yes_is_accepted : YesIsAccepted
yes_is_accepted m c known fits = (accepted_of m c known fits.choice_each, answer_accepted m c known fits.choice_each)

pub accepted_is_bound : AcceptedIsBound
accepted_is_bound m c known h = record {
  goals = h.goals;
  marked = h.marked;
  holds = bound_of m c known h.goals (initial_below m c.start h.init) h.rules;
}
