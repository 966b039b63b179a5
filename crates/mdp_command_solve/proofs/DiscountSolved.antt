-- One thing is due to `discount`, a text that is due is an answer, and one that is printed is accepted.
use Rattle.std.proofs.{Common.{◌≡◌, ℕ, List, [], Option, Some, None, Result, Ok, Err, refl, sym, ap, ◌∙◌}, lemmas.List.Quantifiers.{position-Some}}
use Rattle.std.specs.Str.{bytes_eq}
use Rattle.mdp_math.specs.Rational.{ℚ}
use Rattle.mdp_spec.specs.{Labels.{place_of}, Mdp.{Mdp}, Row.{IsMdp}}
use Rattle.mdp_rows.specs.declared.dir.Dir.{Dir}
use Rattle.mdp_wide.specs.Term.{WideTerm}
use Rattle.mdp_discount_rules.specs.{Cert.{Certificate}, Rules.{IsFactor}}
use Rattle.mdp_discount.specs.{Laws.{HasOneEnd, CanAsk, AnswersMeetRules, AnswersAreBest}, Query.{EndsSo}}
use Rattle.mdp_command.specs.Said.{Said}
use Rattle.mdp_command.proofs.TrueClaims.{true_claim_of}
use Rattle.mdp_command.specs.Kinds.{discounted}
use Rattle.mdp_command_solve.specs.{DiscountDue.{said_of_end, IsNamedDue}, DiscountLaws.{IsDueOnce, TextIsAccepted, IsAnswerTo, TextIsAnswer}}
use Rattle.mdp_command_solve.proofs.DiscountPrinting.{answer_of_query}

-- ---- one thing is due

named_once : HasOneEnd → (dir : Dir) (name : List ℕ) (f : ℚ) (m : Mdp) (found : Option ℕ) (said again : Said) → IsNamedDue dir name f m found said → IsNamedDue dir name f m found again → said ≡ again
named_once one dir name f m None said again d e = d ∙ sym e
named_once one dir name f m (Some r) said again d e = d.2 ∙ ap said_of_end (one dir m r name f e.0 d.0 e.1 d.1) ∙ sym e.2

pub discount_once : HasOneEnd → IsDueOnce
discount_once one dir name f m said again d e = named_once one dir name f m (place_of name m.names) said again d e

-- ---- a text that is due is an answer

module _ (rules : AnswersMeetRules) (best : AnswersAreBest) (dir : Dir) (name : List ℕ) (f : ℚ) (m : Mdp) (mdp : IsMdp m) (factor : IsFactor f) (text : List ℕ) where
  can_ask : (r : ℕ) → place_of name m.names ≡ Some r → CanAsk m r f
  can_ask r named = record { model = mdp; named = (position-Some (bytes_eq name) m.names r [] named).0; discount = factor }

  of_end : (r : ℕ) → place_of name m.names ≡ Some r → (end : Result Certificate WideTerm) → EndsSo dir m r name f end → Ok text ≡ said_of_end end → IsAnswerTo dir name f m text
  of_end r named (Err w) ends e = cc e
  of_end r named (Ok a) ends e = record {
    reward = r;
    named = named;
    answer = a;
    claim = (answer_of_query dir m r name f a ends).claim;
    spelled = cc e;
    rules = rules dir m r name f a (can_ask r named) ends;
    best = best dir m r name f a (can_ask r named) ends;
  }

  at_name : (found : Option ℕ) → place_of name m.names ≡ found → IsNamedDue dir name f m found (Ok text) → IsAnswerTo dir name f m text
  at_name None found d = cc d
  at_name (Some r) found d = of_end r found d.0 d.1 d.2

pub text_is_answer : AnswersMeetRules → AnswersAreBest → TextIsAnswer
text_is_answer rules best dir name f m text mdp factor d = at_name rules best dir name f m mdp factor text (place_of name m.names) refl d

-- ---- a text that is printed is accepted

pub text_is_accepted : TextIsAccepted
text_is_accepted rule dir name f model text shown =
    let p = shown.printed in true_claim_of discounted _ rule model text shown p.cert p.short p.reads p.holds p.bound
