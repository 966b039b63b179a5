-- What is shown of a drill, by what is known of an answer on the layered model.
use Rattle.std.proofs.Common.{◌≡◌, ℕ, List, Bool, None, Result, Ok, Err, IfOk, length, sum_by, codes, refl, sym, ap, ap₂, subst, ◌∙◌, ◌+◌, ◌*◌}
use Rattle.mdp_math.specs.Rational.{ℚ}
use Rattle.mdp_spec.specs.{Bounds.{ReachMax}, Mdp.{Mdp, states_of, value_at}}
use Rattle.mdp_rows.specs.{declared.dir.Dir.TheVariants.{Max}, declared.rule.RowRule.TheVariants.{Exact}}
use Rattle.mdp_drn.specs.{Outcome.{Refusal}, Reading.{outcome, Reads}}
use Rattle.mdp_farkas.specs.Reach.{IsReach}
use Rattle.mdp_reach.specs.{Query.{Answer, EndsSo, HasOneEach}, Laws.{AnswersAreGreatest}}
use Rattle.mdp_reach.proofs.OneEnd.{one_query_end}
use Rattle.mdp_cert.specs.{Cert.{Fits}, Laws.{IsReadBack}, Spelling.{text_of}}
use Rattle.mdp_gen.specs.{Layered.{IsShape, layered_model}, Laws.{TextReads, TextIsShort, HasRows, HasStates, HasChoices}}
use Rattle.mdp_command_solve.specs.{Due.{certificate_of}, DrillDue.{goals, drill_text, text_of_answer, said_of_end, IsDueOf, IsDrillDue}}
use Rattle.mdp_command_solve.specs.{DrillFound.{IsFound, IsLineOfFound}, Drilled.{GivesGreatest, IsDrilled}}
use Rattle.mdp_command_solve.proofs.Printing.{accepted, printed_by}
use Rattle.mdp_command.specs.Said.{Said}

abbrev goal : List ℕ
goal = codes "goal"

-- ---- the model that is read

ok-same : (x y : Mdp) → (let a : Result Mdp Refusal = Ok x in a) ≡ Ok y → x ≡ y
ok-same x y e = cc e

pub read-same : (text bytes : List ℕ) (m x y : Mdp) → bytes ≡ text → Reads text Exact m → Reads bytes Exact y → x ≡ y → x ≡ m
read-same text bytes m x y b r o e = e ∙ ok-same y m (sym o ∙ ap (outcome Exact) b ∙ r)

pub never-refused : (text bytes : List ℕ) (m : Mdp) (refusal : Refusal) → bytes ≡ text → Reads text Exact m → outcome Exact bytes ≡ Err refusal → ⊥
never-refused text bytes m refusal b r o = let e : (let a : Result Mdp Refusal = Ok m in a) ≡ Err refusal = sym r ∙ ap (outcome Exact) (sym b) ∙ o in cc e

-- ---- a result that is a value

pub ok-weaker : {T E : Type 0} (P Q : T → Type 0) (r : Result T E) → ((v : T) → P v → Q v) → IfOk r P → IfOk r Q
ok-weaker P Q (Ok v) f p = f v p
ok-weaker P Q (Err e) f p = tt

-- ---- what is due

-- the line of its numbers
pub line-by : (number layers width : ℕ) (m : Mdp) (a : Answer) (s c : ℕ) (v : ℚ) (text : List ℕ) → text ≡ drill_text number layers width s c v → s ≡ states_of m
    → c ≡ sum_by (λ x. length x.choices) m.states → v ≡ value_at a.values 0 → text ≡ text_of_answer number layers width m a
line-by number layers width m a s c v text e p q r =
    e ∙ ap₂ (λ (s c : ℕ). drill_text number layers width s c v) p q ∙ ap (drill_text number layers width (states_of m) (sum_by (λ x. length x.choices) m.states)) r

-- it is due
pub answer-due : (number layers width : ℕ) (m : Mdp) (marks : List Bool) (a : Answer) (text : List ℕ) → marks ≡ goals m → EndsSo Max m marks (Ok a) → text ≡ text_of_answer number layers width m a
    → IsDueOf number layers width m (Ok text)
answer-due number layers width m marks a text g end e = (Ok a, subst (λ (gs : List Bool). EndsSo Max m gs (Ok a)) g end, ap (λ (t : List ℕ). let r : Said = Ok t in r) e)

-- ---- what is shown

-- an answer with its line, by what a search gives
pub line-found : (number layers width : ℕ) (m : Mdp) (marks : List Bool) (a : Answer) (text : List ℕ) → marks ≡ goals m → EndsSo Max m marks (Ok a) → IsReach Max m marks a.values a.choices a.ranks
    → ReachMax m marks a.values a.choices → HasOneEach m a → Fits (certificate_of Max None goal m a) → text ≡ text_of_answer number layers width m a → IsLineOfFound number layers width m text
line-found number layers width m marks a text g ends rules greatest each fits e = record {
  answer = a;
  found = record {
    ends = subst (λ (gs : List Bool). EndsSo Max m gs (Ok a)) g ends;
    rules = subst (λ (gs : List Bool). IsReach Max m gs a.values a.choices a.ranks) g rules;
    greatest = subst (λ (gs : List Bool). ReachMax m gs a.values a.choices) g greatest;
    values = each.values;
    ranks = each.ranks;
    fits = fits;
  };
  spelled = e;
}

-- the numbers of a layered model
module _ (states : HasStates) (choices : HasChoices) (number layers width : ℕ) (shape : IsShape layers width) where
  line-is : (a : Answer) → text_of_answer number layers width (layered_model number layers width) a ≡ drill_text number layers width (layers * width + 2) (2 * (layers * width) + 2) (value_at a.values 0)
  line-is a = ap₂ (λ (s c : ℕ). drill_text number layers width s c (value_at a.values 0)) (states number layers width shape) (choices number layers width shape)

  pub greatest-due : HasRows → AnswersAreGreatest → (text : List ℕ) → IsDrillDue number layers width (Ok text) → GivesGreatest number layers width text
  greatest-due rows greatest text (Ok a, end, e) = record {
    answer = a;
    spelled = (let same : text ≡ text_of_answer number layers width (layered_model number layers width) a = cc e in same) ∙ line-is a;
    ends = end;
    labelled = refl;
    greatest = greatest (layered_model number layers width) (goals (layered_model number layers width)) a (rows number layers width shape) end;
  }
  greatest-due rows greatest text (Err w, end, e) = cc e

module _ (reads : TextReads) (short : TextIsShort) (rows : HasRows) (states : HasStates) (choices : HasChoices) (back : IsReadBack) (number layers width : ℕ) (shape : IsShape layers width) where
  on-layered : (a : Answer) (text : List ℕ) → IsFound (layered_model number layers width) a
      → text ≡ text_of_answer number layers width (layered_model number layers width) a → IsDrilled number layers width text
  on-layered a text f e =
      let m = layered_model number layers width in
      let cert = certificate_of Max None goal m a in
      let each : HasOneEach m a = record { values = f.values; choices = f.rules.rules.choices.one_each; ranks = f.ranks } in
      let p = printed_by m cert refl (rows number layers width shape) back (accepted Max None goal m (goals m) a refl f.rules each) f.fits (text_of cert) refl in
      record {
        given = record { answer = a; spelled = e ∙ line-is states choices number layers width shape a; ends = f.ends; labelled = refl; greatest = f.greatest };
        solved = record { short = short number layers width shape; model = m; reads = reads number layers width shape; printed = p };
      }

  pub drilled : (m : Mdp) (text : List ℕ) → m ≡ layered_model number layers width → IsLineOfFound number layers width m text → IsDrilled number layers width text
  drilled m text is f =
      let f = subst (λ (k : Mdp). IsLineOfFound number layers width k text) is f in
      on-layered f.answer text f.found f.spelled

pub due-once : (number layers width : ℕ) (said again : Said) → IsDrillDue number layers width said → IsDrillDue number layers width again → said ≡ again
due-once number layers width said again d e =
    let m = layered_model number layers width in
    d.2 ∙ ap (said_of_end number layers width m) (one_query_end Max m (goals m) e.0 d.0 e.1 d.1) ∙ sym e.2
