use Rattle.mdp_command.specs.{Kinds.{checker_of}, declared.kind.CertificateKind.{CertificateKind}}
use Rattle.mdp_command.proofs.CertificateTexts.{reads_its_text, names_its_kind}
use Rattle.mdp_command.proofs.Accepting.{IsSound, each_is_sound, discounted_bounds_are_sound, subsystem_bounds_are_sound, yes_is_true, yes_is_accepted, accepted_is_true}
use Rattle.mdp_command.proofs.laws.check_law.Goals as goal

pub returns : goal.returns
returns c =
    let sound : (kind : CertificateKind) → IsSound (checker_of kind) =
    each_is_sound c.checking_law.ensures.accepted c.checking_law.ensures.bound c.discount_text_law.ensures.read c.discount_rules_law.ensures.accepted c.discount_rules_law.ensures.true_claim
    c.bounds_checking_law.ensures.accepted c.bounds_checking_law.ensures.bound
    (discounted_bounds_are_sound c.discount_bounds_text_law.ensures.read c.discount_bounds_law.ensures.accepted c.discount_bounds_law.ensures.true_claim)
    (subsystem_bounds_are_sound c.subsystem_bounds_text_law.ensures.read c.subsystem_bounds_law.ensures.accepted c.subsystem_bounds_law.ensures.bound) in
    record {
      accepted = λ kind. yes_is_accepted (checker_of kind) c.model_law.ensures (sound kind);
      yes = λ kind. yes_is_true (checker_of kind) (sound kind);
      true_claim = λ kind. accepted_is_true (checker_of kind) c.model_law.ensures (sound kind);
      text = reads_its_text c.text_law.ensures.read c.bounds_text_law.ensures.read c.discount_text_law.ensures.read c.discount_bounds_text_law.ensures.read
          c.subsystem_bounds_text_law.ensures.read;
      kind = names_its_kind;
    }
