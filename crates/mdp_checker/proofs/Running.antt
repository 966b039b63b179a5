-- What a run answers, from what was decided and what was written.
use Rattle.std.proofs.Common.{◌≡◌, ◌⊎◌, ℕ, inl, inr, nat_lt, List, length, Option, Some, None, Result, Ok, Err, OnOk, IsTrue, IsFalse, refl, sym, ap, subst, ◌∙◌}
use Rattle.std.specs.Io.KnownBytes.{IsAtEnd}
use Rattle.mdp_spec.specs.Mdp.{Mdp}
use Rattle.mdp_rows.specs.{Limits.{IsModel}, declared.rule.RowRule.{RowRule}}
use Rattle.mdp_rows.specs.declared.rule.RowRule.TheVariants as rules
use Rattle.mdp_drn.specs.{FromSource.{HadLeft}, Laws.{ReadsAsModel}, Outcome.{Refusal}, Reading.{outcome, Reads}, Writing.{text_of, ReadsBack}}
use Rattle.mdp_job.specs.{Refusal.{PlainRefusal, no_job, no_memory}, declared.status.Status.{Status}, declared.words_error.WordsError.{WordsError}}
use Rattle.mdp_job.specs.declared.status.Status.TheVariants as status
use Rattle.mdp_command.proofs.{Ends.{end_of_read, end_of_second}, Statuses.{done_text, ends_as}, Working.{short_second}}
use Rattle.mdp_command.specs.{Answered.{yes_text}, Files.{most_bytes, model_due, second_due, IsDueToModel, IsDueToSecond, IsDueToPair}, Meaning.{Meaning, IsTrueOf, ClaimsTruly}}
use Rattle.mdp_command.specs.Read.{IsModelReadToEnd, IsSecondReadToEnd, is_of_model}
use Rattle.mdp_command.specs.{Said.{Said, said_status}, Streams.{Input, Output}, Written.{WroteAll, Wrote, EndsWith}, CheckDue.{said_to_text, IsCheckDue}, Kinds.{checker_of}, Shown.{AreShownOf}}
use Rattle.mdp_command.specs.{Meanings.{kind_of, meaning_of}, CheckLaws.{YesIsAccepted, ReadsItsText}, CheckShown.{IsYes, IsCheckPrinted, IsCheckRead}}
use Rattle.mdp_command.specs.declared.kind.CertificateKind.{CertificateKind}
use Rattle.mdp_command.specs.declared.kind.CertificateKind.TheVariants.{Exact, Discounted, Bounds, DiscountedBounds, SubsystemBounds}
use Rattle.mdp_checker.specs.{Run.{HasCause, IsDecided, IsAnswered, IsYesTrue, IsYesTrueOfText, IsYesUnless, IsComplete}, Words.{Asked}}

-- ---- what is decided

pub words_decided : (asked : Asked) (e : WordsError) (model cert : Input) → Err e ≡ asked → model.same → cert.same → IsDecided asked model cert (Err (no_job e))
words_decided asked e model cert is no_model no_cert =
    subst (λ (x : Asked). IsDecided x model cert (Err (no_job e))) is (record { cause = record { says = inl refl; no_model = no_model; no_cert = no_cert }; ends = tt })

both_ends : (said : Said) (model cert : Input) → IsModelReadToEnd model said → (IsFalse (is_of_model said) → IsSecondReadToEnd cert said) → OnOk said (IsAtEnd model.after × IsAtEnd cert.after)
both_ends (Ok text) model cert model_end cert_end = (end_of_read _ _ model text model_end, end_of_second cert text (cert_end refl))
both_ends (Err r) model cert model_end cert_end = tt

pub check_decided : (asked : Asked) (rule : RowRule) (model cert : Input) (said : Said) → Ok rule ≡ asked → IsCheckRead None rule model cert said → (IsTrue (is_of_model said) → cert.same)
    → IsModelReadToEnd model said → (IsFalse (is_of_model said) → IsSecondReadToEnd cert said) → IsDecided asked model cert said
check_decided asked rule model cert said is read unread model_end cert_end =
    subst (λ (x : Asked). IsDecided x model cert said) is (record {
      cause = record { read = read; unread = unread; model_end = inr model_end; cert_end = cert_end };
      ends = both_ends said model cert model_end cert_end;
    })

-- ---- what an accepted certificate means

abbrev pub ReadsItsTexts : Type 0
ReadsItsTexts = (kind : CertificateKind) → ReadsItsText (checker_of kind)

true_of : ReadsItsTexts → (kind : CertificateKind) (m : Mdp) (cert text : List ℕ) → IsYes (checker_of kind) m cert text → IsTrueOf (meaning_of kind) m cert
true_of reads Exact m cert text y = record {
  cert = y.cert;
  text = (reads Exact cert y.cert).0 y.read;
  states = y.holds.states;
  start = y.holds.init;
  bound = y.bound;
}
true_of reads Discounted m cert text y = record {
  cert = y.cert;
  text = (reads Discounted cert y.cert).0 y.read;
  states = y.holds.states;
  start = y.holds.init;
  bound = y.bound;
}
true_of reads Bounds m cert text y = record {
  cert = y.cert;
  text = (reads Bounds cert y.cert).0 y.read;
  states = y.holds.states;
  start = y.holds.init;
  bound = y.bound;
}
true_of reads DiscountedBounds m cert text y = record {
  cert = y.cert;
  text = (reads DiscountedBounds cert y.cert).0 y.read;
  states = y.holds.states;
  start = y.holds.init;
  bound = y.bound;
}
true_of reads SubsystemBounds m cert text y = record {
  cert = y.cert;
  text = (reads SubsystemBounds cert y.cert).0 y.read;
  states = y.holds.states;
  start = y.holds.init;
  bound = y.bound;
}

claims_truly : ReadsAsModel → ReadsItsTexts → (rule : RowRule) (model cert text : List ℕ) → AreShownOf (IsCheckPrinted None) rule model cert text → ClaimsTruly (meaning_of (kind_of cert)) rule model cert
claims_truly kept reads rule model cert text s = record {
  model = s.model;
  reads = s.reads;
  mdp = IsModel.mdp (kept model rule s.model s.reads);
  true_of = true_of reads (kind_of cert) s.model cert text s.printed;
}

-- ---- what is answered

module _ (model cert : Input) (out : Output) (ended : Status) where
  memory_cause : (asked : Asked) (said : Said) → HasCause asked model cert said → HasCause asked model cert (Err no_memory)
  memory_cause (Ok rule) said cause = record { read = inr (inr (inr refl)); unread = λ h. cc; model_end = inl refl; cert_end = λ h. inl refl }
  memory_cause (Err e) said cause = record { says = inr refl; no_model = cause.no_model; no_cert = cause.no_cert }

  pub answered : (asked : Asked) (said : Said) → IsDecided asked model cert said → EndsWith ended out said → IsAnswered asked model cert out ended
  answered asked said d (inl w) = record { said = said; cause = d.cause; written = w }
  answered asked said d (inr w) = record { said = Err no_memory; cause = memory_cause asked said d.cause; written = w }

  -- ---- yes

  yes_read : ReadsAsModel → ReadsItsTexts → (rule : RowRule) (text : List ℕ) → IsCheckRead None rule model cert (Ok text)
      → IsAtEnd model.after → IsAtEnd cert.after → WroteAll out text → IsYesTrue (Ok rule) model cert out
  yes_read kept reads rule text (inl from) model_end cert_end w = record {
    rule = rule;
    words = refl;
    model_bytes = from.model_bytes;
    cert_bytes = from.second_bytes;
    had_model = from.had_model;
    had_cert = from.had_second;
    kind = kind_of from.second_bytes;
    true_claim = claims_truly kept reads rule from.model_bytes from.second_bytes text from.shown;
    model_end = model_end;
    cert_end = cert_end;
    written = subst (λ (t : List ℕ). WroteAll out t) from.shown.printed.yes w;
  }
  yes_read kept reads rule text (inr (inl failed)) model_end cert_end w = cc (failed.0)
  yes_read kept reads rule text (inr (inr (inl failed))) model_end cert_end w = cc (failed.says)
  yes_read kept reads rule text (inr (inr (inr memory))) model_end cert_end w = cc memory

  no_text : (e : WordsError) (text : List ℕ) → (Ok text ≡ Err (no_job e)) ⊎ (Ok text ≡ Err no_memory) → ⊥
  no_text e text (inl h) = cc h
  no_text e text (inr h) = cc h

  yes_text_true : ReadsAsModel → ReadsItsTexts → (asked : Asked) (text : List ℕ) → IsDecided asked model cert (Ok text) → WroteAll out text → IsYesTrue asked model cert out
  yes_text_true kept reads (Ok rule) text d w = yes_read kept reads rule text d.cause.read d.ends.0 d.ends.1 w
  yes_text_true kept reads (Err e) text d w = absurd (no_text e text d.cause.says)

  pub yes_true : ReadsAsModel → ReadsItsTexts → (asked : Asked) (said : Said) → IsDecided asked model cert said → EndsWith ended out said → ended ≡ status.Done → IsYesTrue asked model cert out
  yes_true kept reads asked said d w is =
      let t = done_text ended out said w is in
      yes_text_true kept reads asked t.0 (subst (λ (x : Said). IsDecided asked model cert x) t.1 d) t.2

  -- ---- bytes that are accepted

  text_once : (m : Mdp) (read : Result (List ℕ) PlainRefusal) (said again : Said) → IsDueToSecond (IsCheckDue None m) read said → IsDueToSecond (IsCheckDue None m) read again → said ≡ again
  text_once m (Ok text) said again d e = d ∙ sym e
  text_once m (Err r) said again d e = d ∙ sym e

  said_once : (cert : List ℕ) (read : Result Mdp PlainRefusal) (said again : Said) → IsDueToModel (λ m. IsDueToSecond (IsCheckDue None m) (second_due cert)) read said
      → IsDueToModel (λ m. IsDueToSecond (IsCheckDue None m) (second_due cert)) read again
      → said ≡ again
  said_once cert (Ok m) said again d e = text_once m (second_due cert) said again d e
  said_once cert (Err r) said again d e = d ∙ sym e

  -- the checker of a text is that of the bytes which the text was read as
  by_text : (m : Mdp) (cert : List ℕ) (said : Said) (read : Result (List ℕ) PlainRefusal) → second_due cert ≡ read
      → IsDueToSecond (λ bytes said. said ≡ said_to_text (checker_of (kind_of cert)) m bytes) read said → IsDueToSecond (IsCheckDue None m) read said
  by_text m cert said (Ok text) is due =
      let same = (short_second cert text (nat_lt most_bytes (length cert)) refl is).1 in subst (λ (c : List ℕ). said ≡ said_to_text (checker_of (kind_of c)) m text) same due
  by_text m cert said (Err r) is due = due

  by_model : (cert : List ℕ) (said : Said) (read : Result Mdp PlainRefusal)
      → IsDueToModel (λ m. IsDueToSecond (λ bytes said. said ≡ said_to_text (checker_of (kind_of cert)) m bytes) (second_due cert)) read said
      → IsDueToModel (λ m. IsDueToSecond (IsCheckDue None m) (second_due cert)) read said
  by_model cert said (Ok m) due = by_text m cert said (second_due cert) refl due
  by_model cert said (Err r) due = due

  had : (told : Option (List ℕ)) (bytes found : List ℕ) → told ≡ Some bytes → HadLeft told found → found ≡ bytes
  had told bytes found is h = subst (λ (t : Option (List ℕ)). HadLeft t found) is h

  module _ (rule : RowRule) (model_bytes cert_bytes : List ℕ) (told : model.before ≡ Some model_bytes) (told_cert : cert.before ≡ Some cert_bytes)
      (yes : IsDueToPair (IsCheckDue None) rule model_bytes cert_bytes (Ok yes_text)) where
    by_cause : (said : Said) → Wrote ended out said → IsCheckRead None rule model cert said → IsYesUnless model cert out ended
    by_cause said w (inl from) =
        let due = subst (λ (x : List ℕ). IsDueToPair (IsCheckDue None) rule x cert_bytes said) (had model.before model_bytes from.model_bytes told from.had_model)
        (subst (λ (x : List ℕ). IsDueToPair (IsCheckDue None) rule from.model_bytes x said) (had cert.before cert_bytes from.second_bytes told_cert from.had_second) from.is_due) in
        ends_as ended out said status.Done (IsYesUnless model cert out ended) (ap said_status (said_once cert_bytes (model_due rule model_bytes) said (Ok yes_text) due yes)) w inl
        (λ h. inr (inr (inr h)))
    by_cause said w (inr (inl failed)) =
        ends_as ended out said status.ReadFault (IsYesUnless model cert out ended) (ap said_status failed.0) w (λ e. inr (inr (inl (e, inl failed.1)))) (λ h. inr (inr (inr h)))
    by_cause said w (inr (inr (inl failed))) =
        ends_as ended out said status.ReadFault (IsYesUnless model cert out ended) (ap said_status failed.says) w (λ e. inr (inr (inl (e, inr failed.fault)))) (λ h. inr (inr (inr h)))
    by_cause said w (inr (inr (inr memory))) =
        ends_as ended out said status.Memory (IsYesUnless model cert out ended) (ap said_status memory) w (λ e. inr (inl e)) (λ h. inr (inr (inr h)))

  pub complete : ((kind : CertificateKind) → YesIsAccepted (checker_of kind)) → (asked : Asked) → IsAnswered asked model cert out ended → IsComplete asked model cert out ended
  complete accepts (Ok asked) a rule model_bytes cert_bytes is told told_cert holds =
      let same : asked ≡ rule = cc is in
      by_cause rule model_bytes cert_bytes told told_cert
      (by_model cert_bytes (Ok yes_text) (model_due rule model_bytes) ((accepts (kind_of cert_bytes) rule model_bytes cert_bytes yes_text).1 (refl, holds))) a.said a.written
      (subst (λ (r : RowRule). IsCheckRead None r model cert a.said) same a.cause.read)
  complete accepts (Err e) a rule model_bytes cert_bytes is told told_cert holds = cc is

-- ---- a model in the text that is written of it

one_model : (read : Result Mdp Refusal) (a b : Mdp) → read ≡ Ok a → read ≡ Ok b → a ≡ b
one_model read a b first second = cc (first, second)

-- it is the model that the text reads as
true_of_read : ReadsBack → (meaning : Meaning) (bytes cert_bytes : List ℕ) (m : Mdp) → IsModel m → bytes ≡ text_of m → ClaimsTruly meaning rules.Exact bytes cert_bytes
    → IsTrueOf meaning m cert_bytes
true_of_read back meaning bytes cert_bytes m is text t =
    subst (λ (x : Mdp). IsTrueOf meaning x cert_bytes) (one_model (outcome rules.Exact bytes) t.model m t.reads (subst (λ (b : List ℕ). Reads b rules.Exact m) (sym text) (back m is))) t.true_of

under_exact : (meaning : Meaning) (asked : Asked) (rule : RowRule) (bytes cert_bytes : List ℕ) → asked ≡ Ok rule → asked ≡ Ok rules.Exact → ClaimsTruly meaning rule bytes cert_bytes
    → ClaimsTruly meaning rules.Exact bytes cert_bytes
under_exact meaning asked rule bytes cert_bytes words exact t = subst (λ (r : RowRule). ClaimsTruly meaning r bytes cert_bytes) (cc (words, exact)) t

pub of_text : (model cert : Input) (out : Output) → ReadsBack → (asked : Asked) → IsYesTrue asked model cert out → IsYesTrueOfText asked model cert out
of_text model cert out back asked y = record {
  model_bytes = y.model_bytes;
  cert_bytes = y.cert_bytes;
  had_model = y.had_model;
  had_cert = y.had_cert;
  kind = y.kind;
  true_of = λ exact m is text.
      true_of_read back (meaning_of y.kind) y.model_bytes y.cert_bytes m is text
      (under_exact (meaning_of y.kind) asked y.rule y.model_bytes y.cert_bytes y.words exact y.true_claim);
  model_end = y.model_end;
  cert_end = y.cert_end;
  written = y.written;
}
