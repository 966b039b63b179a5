-- What certificates of each kind mean, and the kind that the first line of a text names.
use Rattle.std.specs.{Prelude.{◌≡◌, ℕ, Bool, List, length, take, Some, if◌then◌else◌}, Str.{bytes_eq}}
use Rattle.mdp_spec.specs.Labels.{initial_of}
use Rattle.mdp_claims.specs.declared.verdict.Verdict.TheVariants.{Yes}
use Rattle.mdp_check.specs.Bounds as bounds
use Rattle.mdp_check.specs.BoundsInitial as bounds_initial
use Rattle.mdp_cert.specs.BoundsCert as bounds_cert
use Rattle.mdp_cert.specs.BoundsSpelling as bounds_text
use Rattle.mdp_discount_rules.specs.BoundsCert as discount_bounds_cert
use Rattle.mdp_discount_rules.specs.BoundsCheck as discount_bounds
use Rattle.mdp_discount_text.specs.BoundsSpelling as discount_bounds_text
use Rattle.mdp_discount_text.specs.Reading.{is_discount_claim}
use Rattle.mdp_subsystem_bounds.specs.Cert as subsystem_cert
use Rattle.mdp_subsystem_bounds.specs.Check as subsystem_bounds
use Rattle.mdp_subsystem_bounds.specs.Spelling as subsystem_text
use Rattle.mdp_subsystem_bounds.specs.Reading.{is_subsystem_claim}
use Rattle.mdp_discount_rules.specs.Cert as discount_cert
use Rattle.mdp_discount_rules.specs.Check as discount
use Rattle.mdp_discount_text.specs.Spelling as discount_text
use Rattle.mdp_job.specs.Text.{line}
use Rattle.mdp_command.specs.{Meaning.{IsTextOf, Meaning, exact_meaning}, declared.kind.CertificateKind.{CertificateKind}}
use Rattle.mdp_command.specs.declared.kind.CertificateKind.TheVariants.{Exact, Discounted, Bounds, DiscountedBounds, SubsystemBounds}

-- of discounted rewards: no policy is better than the values by more than what is left of the remainder after so many steps
abbrev pub discounted_meaning : Meaning
discounted_meaning = record {
  Certificate = discount_cert.Certificate;
  IsText = IsTextOf discount_cert.Fits discount_text.text_of;
  states = λ c. length c.values;
  IsStart = λ m c. discount.init_check c.init (initial_of m) c.values ≡ Yes;
  IsBound = discount.IsBound;
}

-- of bounds: the best values lie between the lower and the upper values
abbrev pub between_meaning : Meaning
between_meaning = record {
  Certificate = bounds_cert.Certificate;
  IsText = IsTextOf bounds_cert.Fits bounds_text.text_of;
  states = λ c. c.states;
  IsStart = λ m c. bounds_initial.bounds_init_check c.init (initial_of m) c.body ≡ Yes;
  IsBound = bounds.IsBoundsTrue;
}

-- of bounds of discounted rewards: the best ones lie between the values, but for what is left of the remainder after so many steps
abbrev pub discounted_between_meaning : Meaning
discounted_between_meaning = record {
  Certificate = discount_bounds_cert.Certificate;
  IsText = IsTextOf discount_bounds_cert.Fits discount_bounds_text.text_of;
  states = λ c. length c.lower;
  IsStart = λ m c. discount_bounds.init_check c.init (initial_of m) c.lower c.upper ≡ Yes;
  IsBound = discount_bounds.IsBound;
}

-- of bounds of a subsystem: on the kept states alone some policy, or each, comes to the threshold
abbrev pub subsystem_between_meaning : Meaning
subsystem_between_meaning = record {
  Certificate = subsystem_cert.Certificate;
  IsText = IsTextOf subsystem_cert.Fits subsystem_text.text_of;
  states = subsystem_cert.states_in;
  IsStart = λ m c. initial_of m ≡ Some c.start;
  IsBound = subsystem_bounds.IsBound;
}

abbrev pub meaning_of : CertificateKind → Meaning
meaning_of Exact = exact_meaning
meaning_of Discounted = discounted_meaning
meaning_of Bounds = between_meaning
meaning_of DiscountedBounds = discounted_between_meaning
meaning_of SubsystemBounds = subsystem_between_meaning

abbrev pub begins_with : List ℕ → List ℕ → Bool
begins_with front bytes = bytes_eq front (take (length front) bytes)

-- of a certificate of bounds, by the claim in its second line
abbrev pub bounds_kind : List ℕ → CertificateKind
bounds_kind bytes = if is_discount_claim bytes then DiscountedBounds else (if is_subsystem_claim bytes then SubsystemBounds else Bounds)

-- by its first line. A text with any other first line is held to be a certificate of best values: that checker refuses it, or knows the line
abbrev pub kind_of : List ℕ → CertificateKind
kind_of bytes =
    if begins_with (line discount_text.version_text) bytes then Discounted
    else (if begins_with (line bounds_text.version_text) bytes then bounds_kind bytes else Exact)
