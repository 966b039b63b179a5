-- A text is due to a check exactly where the bytes of its files are accepted.
use Rattle.std.proofs.Common.{◌≡◌, ◌↔◌, ℕ, ◌≤◌, ◌⊎◌, inl, inr, Bool, cond, nat_lt, List, length, Option, Result, Ok, Err, IfOk, refl, sym, ap, subst, ◌∙◌}
use Rattle.std.proofs.lemmas.Bool.{le-ltb}
use Rattle.mdp_math.specs.Result.{◌>>=◌}
use Rattle.mdp_spec.specs.{Mdp.{Mdp}, Row.{IsMdp}}
use Rattle.mdp_rows.specs.{Limits.{IsModel}, declared.rule.RowRule.{RowRule}}
use Rattle.mdp_drn.specs.Laws.{ReadsAsModel}
use Rattle.mdp_drn.specs.Reading as drn
use Rattle.mdp_text.specs.declared.error.Refusal as text
use Rattle.mdp_check.specs.{BoundsLaws.{YesAcceptsBounds, AcceptedBoundsAreTrue}, declared.answer.Answer.{Answer}}
use Rattle.mdp_check.specs.declared.answer.Answer.TheVariants.{Yes, No, Wide, NoReward, NoLabel, Size, Memory}
use Rattle.mdp_check.specs.Laws as exactly
use Rattle.mdp_discount_rules.specs.BoundsCert as between_cert
use Rattle.mdp_discount_rules.specs.BoundsLaws as discount_bounds
use Rattle.mdp_discount_text.specs.BoundsLaws as between_text
use Rattle.mdp_discount_text.specs.Reading as between_reading
use Rattle.mdp_discount_rules.specs.{Cert.{Certificate, Fits}, declared.answer.DiscountAnswer.{DiscountAnswer}}
use Rattle.mdp_discount_rules.specs.Laws as discount
use Rattle.mdp_discount_rules.specs.declared.answer.DiscountAnswer.TheVariants as discount_answer
use Rattle.mdp_discount_text.specs.Laws.{IsReadFromText}
use Rattle.mdp_discount_text.specs.Text as discount_text
use Rattle.mdp_subsystem_bounds.specs.Laws as subsystem
use Rattle.mdp_job.specs.Refusal.{PlainRefusal, long_model, long_certificate, no_memory}
use Rattle.mdp_command.proofs.Working.{read_of_due, short_second}
use Rattle.mdp_command.specs.{Accepted.{Checker, AcceptedBy, exact}, Answered.{yes_text, said_of}}
use Rattle.mdp_command.specs.{Files.{most_bytes, model_or_refusal, model_due, second_due, certificate_or_refusal, IsDueToModel, IsDueToSecond}, Said.{Said}}
use Rattle.mdp_command.specs.CheckDue.{said_to_text, IsCheckDue}
use Rattle.mdp_command.specs.Kinds.{as_answer, discounted, between, discounted_between, subsystem_between, checker_of, chosen}
use Rattle.mdp_command.specs.{CheckLaws.{YesIsAccepted, YesIsTrue, AcceptedIsTrue}, CheckShown.{IsCheckPrinted}, declared.kind.CertificateKind.{CertificateKind}}
use Rattle.mdp_command.specs.declared.kind.CertificateKind.TheVariants.{Exact, Discounted, Bounds, DiscountedBounds, SubsystemBounds}

-- ---- what each checker keeps

-- of a model and a certificate that was read from a text: yes is answered exactly where it is accepted, and then its claim is true
pub record IsSound (checker : Checker) : Type 0 where
  pub yes : (m : Mdp) (text : List ℕ) (c : checker.meaning.Certificate) → IsMdp m → checker.outcome text ≡ Ok c → (checker.answer_to m c ≡ Yes) ↔ checker.IsAccepted m c
  pub bound : (m : Mdp) (text : List ℕ) (c : checker.meaning.Certificate) → IsMdp m → checker.outcome text ≡ Ok c → checker.IsAccepted m c → checker.meaning.IsBound m c

exact_is_sound : exactly.YesIsAccepted → exactly.AcceptedIsBound → IsSound exact
exact_is_sound accepts bound = record { yes = λ m text c mdp read. accepts m c; bound = λ m text c mdp read holds. bound m c mdp holds }

bounds_are_sound : YesAcceptsBounds → AcceptedBoundsAreTrue → IsSound between
bounds_are_sound accepts bound = record { yes = λ m text c mdp read. accepts m c mdp; bound = λ m text c mdp read holds. bound m c mdp holds }

as_yes : (a : DiscountAnswer) → as_answer a ≡ Yes → a ≡ discount_answer.Yes
as_yes discount_answer.Yes e = refl
as_yes (discount_answer.No fault) e = cc
as_yes (discount_answer.Wide state choice) e = cc
as_yes discount_answer.NoReward e = cc
as_yes discount_answer.Size e = cc

-- a certificate of discounted rewards that was read has a choice for each value, and a factor in range
discounted_is_sound : IsReadFromText → discount.YesIsAccepted → discount.AcceptedIsBound → IsSound discounted
discounted_is_sound from accepts bound = record {
  yes = λ m text c mdp read.
      let one_each = (fits text c read).one_each in
      (λ e. (accepts m c one_each).0 (as_yes _ e), λ holds. ap as_answer ((accepts m c one_each).1 holds));
  bound = λ m text c mdp read holds. bound m c mdp (fits text c read).discount holds;
}
  where
    fits : (text : List ℕ) (c : Certificate) → discount_text.outcome text ≡ Ok c → Fits c
    fits text c read = ((from text c).0 read).0

-- the same of bounds: two values and a choice for each state
pub discounted_bounds_are_sound : between_text.IsReadFromText → discount_bounds.YesIsAccepted → discount_bounds.AcceptedIsBound → IsSound discounted_between
discounted_bounds_are_sound from accepts bound = record {
  yes = λ m text c mdp read.
      let f = fits text c read in
      (λ e. (accepts m c mdp f.one_above f.one_each).0 (as_yes _ e), λ holds. ap as_answer ((accepts m c mdp f.one_above f.one_each).1 holds));
  bound = λ m text c mdp read holds. bound m c mdp (fits text c read).discount holds;
}
  where
    fits : (text : List ℕ) (c : between_cert.Certificate) → between_reading.outcome text ≡ Ok c → between_cert.Fits c
    fits text c read = ((from text c).0 read).0

-- and of bounds of a subsystem
pub subsystem_bounds_are_sound : subsystem.IsReadFromText → subsystem.YesIsAccepted → subsystem.AcceptedIsBound → IsSound subsystem_between
subsystem_bounds_are_sound from accepts bound = record {
  yes = λ m text c mdp read. accepts m c mdp ((from text c).0 read).0;
  bound = λ m text c mdp read holds. bound m c mdp holds;
}

pub each_is_sound : exactly.YesIsAccepted → exactly.AcceptedIsBound → IsReadFromText → discount.YesIsAccepted → discount.AcceptedIsBound → YesAcceptsBounds → AcceptedBoundsAreTrue
    → IsSound discounted_between → IsSound subsystem_between → (kind : CertificateKind) → IsSound (checker_of kind)
each_is_sound accepts bound from discount_yes discount_bound bounds_yes bounds_bound between_sound subsystem_sound Exact = exact_is_sound accepts bound
each_is_sound accepts bound from discount_yes discount_bound bounds_yes bounds_bound between_sound subsystem_sound Discounted = discounted_is_sound from discount_yes discount_bound
each_is_sound accepts bound from discount_yes discount_bound bounds_yes bounds_bound between_sound subsystem_sound Bounds = bounds_are_sound bounds_yes bounds_bound
each_is_sound accepts bound from discount_yes discount_bound bounds_yes bounds_bound between_sound subsystem_sound DiscountedBounds = between_sound
each_is_sound accepts bound from discount_yes discount_bound bounds_yes bounds_bound between_sound subsystem_sound SubsystemBounds = subsystem_sound

-- ---- a text is due

-- only the answer yes has a text
is_yes : (a : Answer) (said : List ℕ) → said_of a ≡ Ok said → (a ≡ Yes) × (said ≡ yes_text)
is_yes Yes said e = (refl, cc e)
is_yes (No fault) said e = cc
is_yes (Wide state choice) said e = cc
is_yes NoReward said e = cc
is_yes NoLabel said e = cc
is_yes Size said e = cc
is_yes Memory said e = cc

-- a file's bytes are no more than so many
not_more : {A : Type 0} (n : ℕ) (xs : List ℕ) (x y : A) → length xs ≤ n → cond (nat_lt n (length xs)) x y ≡ y
not_more n xs x y h = ap (λ (b : Bool). cond b x y) (le-ltb n (length xs) h)

module _ (checker : Checker) where
  -- a text is said to one that reads as a certificate, to which yes is answered
  record HasYes (m : Mdp) (bytes said : List ℕ) : Type 0 where
    pub cert : checker.meaning.Certificate
    pub read : checker.outcome bytes ≡ Ok cert
    pub answer : checker.answer_to m cert ≡ Yes
    pub yes : said ≡ yes_text

  by_read : (m : Mdp) (bytes said : List ℕ) (read : Result checker.meaning.Certificate text.Refusal) → checker.outcome bytes ≡ read
      → (certificate_or_refusal read >>= (λ c. said_of (checker.answer_to m c))) ≡ Ok said → HasYes m bytes said
  by_read m bytes said (Ok c) is e = let y = is_yes (checker.answer_to m c) said e in record { cert = c; read = is; answer = y.0; yes = y.1 }
  by_read m bytes said (Err r) is e = cc e

  has_yes : (m : Mdp) (bytes said : List ℕ) → Ok said ≡ said_to_text checker m bytes → HasYes m bytes said
  has_yes m bytes said e = by_read m bytes said (checker.outcome bytes) refl (sym e)

  pub yes_is_true : IsSound checker → YesIsTrue checker
  yes_is_true sound m bytes said mdp due =
      let has = has_yes m bytes said due in
      let holds = (sound.yes m bytes has.cert mdp has.read).0 has.answer in
      record { yes = has.yes; cert = has.cert; read = has.read; holds = holds; bound = sound.bound m bytes has.cert mdp has.read holds }

  -- ---- the same of the bytes of two files

  -- what is due to a model, and to bytes of which not too many were read
  abbrev TextDue : Mdp → Said → Result (List ℕ) PlainRefusal → Type 0
  TextDue m said read = IsDueToSecond (λ bytes said. said ≡ said_to_text checker m bytes) read said

  by_second : (m : Mdp) (cert said : List ℕ) (read : Result (List ℕ) PlainRefusal) → second_due cert ≡ read → TextDue m (Ok said) read → (length cert ≤ most_bytes) × HasYes m cert said
  by_second m cert said (Ok bytes) is due =
      let short = short_second cert bytes (nat_lt most_bytes (length cert)) refl is in (short.0, subst (λ (b : List ℕ). HasYes m b said) (sym short.1) (has_yes m bytes said due))
  by_second m cert said (Err r) is due = cc due

  module _ (models : ReadsAsModel) (sound : IsSound checker) where
    mdp_of : (rule : RowRule) (bytes : List ℕ) (m : Mdp) → drn.Reads bytes rule m → IsMdp m
    mdp_of rule bytes m reads = IsModel.mdp (models bytes rule m reads)

    by_model : (rule : RowRule) (model cert said : List ℕ) (read : Result Mdp PlainRefusal) → model_due rule model ≡ read
        → IsDueToModel (λ m said. TextDue m said (second_due cert)) read (Ok said) → (said ≡ yes_text) × AcceptedBy checker rule model cert
    by_model rule model cert said (Ok m) is due =
        let reads = read_of_due rule model m is in
        let has = by_second m cert said (second_due cert) refl due in (
          has.1.yes,
          record {
            short_model = reads.0;
            short_cert = has.0;
            model = m;
            reads = reads.1;
            cert = has.1.cert;
            text = has.1.read;
            holds = (sound.yes m cert has.1.cert (mdp_of rule model m reads.1) has.1.read).0 has.1.answer;
          },
        )
    by_model rule model cert said (Err r) is due = cc due

    -- ---- accepted bytes

    model_is_due : (rule : RowRule) (model cert : List ℕ) (a : AcceptedBy checker rule model cert) → model_due rule model ≡ Ok a.model
    model_is_due rule model cert a = not_more most_bytes model (Err long_model) (model_or_refusal (drn.outcome rule model)) a.short_model ∙ ap model_or_refusal a.reads

    accepted_mdp : (rule : RowRule) (model cert : List ℕ) (a : AcceptedBy checker rule model cert) → IsMdp a.model
    accepted_mdp rule model cert a = mdp_of rule model a.model a.reads

    cert_is_due : (rule : RowRule) (model cert : List ℕ) (a : AcceptedBy checker rule model cert) → TextDue a.model (Ok yes_text) (second_due cert)
    cert_is_due rule model cert a =
        subst (λ (read : Result (List ℕ) PlainRefusal). TextDue a.model (Ok yes_text) read) (sym (not_more most_bytes cert (Err long_certificate) (Ok cert) a.short_cert))
        (sym (
        ap (λ (read : Result checker.meaning.Certificate text.Refusal). certificate_or_refusal read >>= (λ c. said_of (checker.answer_to a.model c))) a.text
        ∙ ap said_of ((sound.yes a.model cert a.cert (accepted_mdp rule model cert a) a.text).1 a.holds)))

    yes_is_due : (rule : RowRule) (model cert : List ℕ) → AcceptedBy checker rule model cert → IsDueToModel (λ m said. TextDue m said (second_due cert)) (model_due rule model) (Ok yes_text)
    yes_is_due rule model cert a =
        subst (λ (read : Result Mdp PlainRefusal). IsDueToModel (λ m said. TextDue m said (second_due cert)) read (Ok yes_text)) (sym (model_is_due rule model cert a)) (cert_is_due rule model cert a)

    pub yes_is_accepted : YesIsAccepted checker
    yes_is_accepted rule model cert said = (
      λ due. by_model rule model cert said (model_due rule model) refl due,
      λ h.
          subst (λ (said : List ℕ). IsDueToModel (λ m said. TextDue m said (second_due cert)) (model_due rule model) (Ok said)) (sym h.0)
          (yes_is_due rule model cert h.1),
    )

    pub accepted_is_true : AcceptedIsTrue checker
    accepted_is_true rule model cert a = sound.bound a.model cert a.cert (accepted_mdp rule model cert a) a.text a.holds

-- ---- what is printed

pub printed_of_due : ((kind : CertificateKind) → YesIsTrue (checker_of kind)) → (wanted : Option CertificateKind) (m : Mdp) (bytes : List ℕ) (said : Said) → IsMdp m
    → (said ≡ Err no_memory) ⊎ IsCheckDue wanted m bytes said → IfOk said (IsCheckPrinted wanted m bytes)
printed_of_due law wanted m bytes (Ok text) mdp (inl memory) = cc memory
printed_of_due law wanted m bytes (Ok text) mdp (inr due) = law (chosen wanted bytes) m bytes text mdp due
printed_of_due law wanted m bytes (Err r) mdp due = tt

-- ---- what is due by the kind of a text

pub by_kind : (kind given : CertificateKind) (m : Mdp) (text : List ℕ) (said : Said) → given ≡ kind → (said ≡ Err no_memory) ⊎ (said ≡ said_to_text (checker_of given) m text)
    → (said ≡ Err no_memory) ⊎ (said ≡ said_to_text (checker_of kind) m text)
by_kind kind given m text said is due = subst (λ (k : CertificateKind). (said ≡ Err no_memory) ⊎ (said ≡ said_to_text (checker_of k) m text)) is due
