-- The checker of each kind of certificates, and that of a text.
use Rattle.std.specs.Prelude.{ℕ, List, Option, Some, None}
use Rattle.mdp_cert.specs.BoundsReading as bounds_text
use Rattle.mdp_check.specs.Bounds as bounds
use Rattle.mdp_check.specs.declared.answer.Answer.{Answer}
use Rattle.mdp_check.specs.declared.answer.Answer.TheVariants as answer
use Rattle.mdp_discount_rules.specs.BoundsCheck as discount_bounds
use Rattle.mdp_discount_rules.specs.Check as discount
use Rattle.mdp_discount_text.specs.Reading as discount_bounds_text
use Rattle.mdp_discount_text.specs.Text as discount_text
use Rattle.mdp_subsystem_bounds.specs.Check as subsystem_bounds
use Rattle.mdp_subsystem_bounds.specs.Reading as subsystem_text
use Rattle.mdp_discount_rules.specs.declared.answer.DiscountAnswer.{DiscountAnswer}
use Rattle.mdp_discount_rules.specs.declared.answer.DiscountAnswer.TheVariants.{Yes, No, Wide, NoReward, Size}
use Rattle.mdp_command.specs.{Accepted.{Checker, exact}, Meanings.{discounted_meaning, between_meaning, discounted_between_meaning, subsystem_between_meaning, bounds_kind, kind_of}}
use Rattle.mdp_command.specs.declared.kind.CertificateKind.{CertificateKind}
use Rattle.mdp_command.specs.declared.kind.CertificateKind.TheVariants.{Exact, Discounted, Bounds, DiscountedBounds, SubsystemBounds}

-- ---- the checkers

-- an answer to a certificate of discounted rewards, as one of the checkers' common answers
abbrev pub as_answer : DiscountAnswer → Answer
as_answer Yes = answer.Yes
as_answer (No fault) = answer.No fault
as_answer (Wide state choice) = answer.Wide state choice
as_answer NoReward = answer.NoReward
as_answer Size = answer.Size

abbrev pub discounted : Checker
discounted = record {
  meaning = discounted_meaning;
  outcome = discount_text.outcome;
  answer_to = λ m c. as_answer (discount.answer_to m c);
  IsAccepted = discount.IsAccepted;
}

abbrev pub between : Checker
between = record { meaning = between_meaning; outcome = bounds_text.outcome; answer_to = bounds.bounds_answer_to; IsAccepted = bounds.IsBoundsAccepted }

abbrev pub discounted_between : Checker
discounted_between = record {
  meaning = discounted_between_meaning;
  outcome = discount_bounds_text.outcome;
  answer_to = λ m c. as_answer (discount_bounds.answer_to m c);
  IsAccepted = discount_bounds.IsAccepted;
}

abbrev pub subsystem_between : Checker
subsystem_between = record {
  meaning = subsystem_between_meaning;
  outcome = subsystem_text.outcome;
  answer_to = subsystem_bounds.answer_to;
  IsAccepted = subsystem_bounds.IsAccepted;
}

abbrev pub checker_of : CertificateKind → Checker
checker_of Exact = exact
checker_of Discounted = discounted
checker_of Bounds = between
checker_of DiscountedBounds = discounted_between
checker_of SubsystemBounds = subsystem_between

-- ---- the kind of a text

-- the kind that is asked for; of bounds that which the claim names
abbrev pub asked : CertificateKind → List ℕ → CertificateKind
asked Exact bytes = Exact
asked Discounted bytes = Discounted
asked Bounds bytes = bounds_kind bytes
asked DiscountedBounds bytes = DiscountedBounds
asked SubsystemBounds bytes = SubsystemBounds

-- that, or else the kind of the text
abbrev pub chosen : Option CertificateKind → List ℕ → CertificateKind
chosen (Some kind) bytes = asked kind bytes
chosen None bytes = kind_of bytes

abbrev pub checker_for : Option CertificateKind → List ℕ → Checker
checker_for wanted bytes = checker_of (chosen wanted bytes)
