-- Where a text is due to `bounds` of a discounted reward, nothing else is, the best values lie between its values, and `bounds-check` accepts it.
use Rattle.std.proofs.Common.{ℕ, List, Option, Some, None, Ok, IsOk, sym, ap, subst, ◌∙◌}
use Rattle.mdp_math.specs.Rational.{ℚ}
use Rattle.mdp_spec.specs.{Labels.{place_of}, Mdp.{Mdp}, Row.{IsMdp}}
use Rattle.mdp_rows.specs.declared.dir.Dir.{Dir}
use Rattle.mdp_discount_rules.specs.Rules.{IsFactor}
use Rattle.mdp_discount_rules.specs.{Between.{DiscountBetween}, BoundsLaws.{AcceptedIsBound}}
use Rattle.mdp_discount_text.specs.BoundsSpelling.{text_of}
use Rattle.mdp_command_bounds_search.specs.{DiscountDue.{IsAcceptedText, IsNamedDue}, DiscountLaws.{IsAnswerTo, DiscountTextLiesBetween, OnlyDiscountTextsAreDue, DiscountTextIsAccepted}}
use Rattle.mdp_command_bounds_search.proofs.Solved.{text_is_ok}
use Rattle.mdp_command.proofs.TrueClaims.{true_claim_of}
use Rattle.mdp_command.specs.Kinds.{discounted_between}

-- ---- a text, and never a refusal

pub only_texts_are_due : OnlyDiscountTextsAreDue
only_texts_are_due dir name f m text said due other = by (place_of name m.names) due other
  where
    by : (found : Option ℕ) → IsNamedDue dir name f m found (Ok text) → IsNamedDue dir name f m found said → IsOk said
    by None d o = absurd cc
    by (Some r) d o = text_is_ok said (text_of o.cert) o.spelled

-- ---- the best values lie between the values

module _ (true_of : AcceptedIsBound) (dir : Dir) (name : List ℕ) (f : ℚ) (m : Mdp) (text : List ℕ) (mdp : IsMdp m) (factor : IsFactor f) where
  answer_of : IsAcceptedText dir name f m (Ok text) → IsAnswerTo dir name f m text
  answer_of d =
      let c = d.cert in
      let bound = true_of m c mdp (subst IsFactor (sym d.claim.discounted) factor) d.accepted in
      record {
        reward = bound.reward;
        named = ap (λ (n : List ℕ). place_of n m.names) (sym d.claim.named) ∙ bound.named;
        answer = c;
        claim = d.claim;
        spelled = cc (d.spelled);
        between =
            subst (λ (x : Dir). DiscountBetween x m bound.reward f c.lower c.upper c.remainder c.choices) d.claim.direction
            (subst (λ (g : ℚ). DiscountBetween c.dir m bound.reward g c.lower c.upper c.remainder c.choices) d.claim.discounted bound.holds);
      }

  by_name : (found : Option ℕ) → IsNamedDue dir name f m found (Ok text) → IsAnswerTo dir name f m text
  by_name None d = absurd cc
  by_name (Some r) d = answer_of d

pub text_lies_between : AcceptedIsBound → DiscountTextLiesBetween
text_lies_between true_of dir name f m text mdp factor due = by_name true_of dir name f m text mdp factor (place_of name m.names) due

-- ---- the checker

pub text_is_accepted : DiscountTextIsAccepted
text_is_accepted rule dir name f digits model text shown =
    let p = shown.printed in true_claim_of discounted_between _ rule model text shown p.cert p.short p.reads p.holds p.bound
