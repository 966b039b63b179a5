-- Answers other than that the work was done, as contracts see them.
use Rattle.std.specs.Prelude.{ℕ, Option}
use Rattle.mdp_math.specs.Rational.{ℚ}
use Rattle.mdp_text.specs.declared.error.CertKind.{CertKind}
use Rattle.mdp_drn.specs.declared.error.DrnKind.{DrnKind}
use Rattle.mdp_claims.specs.declared.verdict.Fault.{Fault}
use Rattle.mdp_wide.specs.Term.{WideTerm, shown}
use Rattle.mdp_job.specs.declared.refusal.Refusal.{Refusal}
use Rattle.mdp_job.specs.declared.refusal.Refusal.TheVariants.{Words, Model, QuerySize, QueryReward, QueryLabel, QueryInit, QueryNegative, QuerySteps, QueryChoice}
use Rattle.mdp_job.specs.declared.refusal.Refusal.TheVariants.{TooWide, CheckWide, HorizonWide, Denied, ReadModel, ReadCertificate, LongModel, LongCertificate, CertText, PolicyText, Below, Undecided, Memory}
use Rattle.mdp_job.specs.declared.words_error.WordsError.{WordsError}

pub data PlainRefusal : Type 0 where
  -- the words are no job
  no_job : WordsError → PlainRefusal
  -- a line of the model's text, and the rule that it breaks
  model_text : ℕ → DrnKind → PlainRefusal
  query_size : PlainRefusal
  query_reward : PlainRefusal
  query_label : PlainRefusal
  -- not exactly one initial state
  query_init : PlainRefusal
  query_negative : PlainRefusal
  query_steps : PlainRefusal
  query_choice : PlainRefusal
  -- the first term past width in what was to be solved
  too_wide : WideTerm → PlainRefusal
  -- the state and the choice at which a term of the check is past width
  check_wide : Option ℕ → Option ℕ → PlainRefusal
  -- how many steps are left, the state and the choice at which a sum is past width
  horizon_wide : ℕ → ℕ → ℕ → PlainRefusal
  denied : Fault → PlainRefusal
  read_model : PlainRefusal
  read_certificate : PlainRefusal
  long_model : PlainRefusal
  long_certificate : PlainRefusal
  -- a line of the certificate's text, and the rule that it breaks
  cert_text : ℕ → CertKind → PlainRefusal
  -- a line of the policy's text, and the rule that it breaks
  policy_text : ℕ → CertKind → PlainRefusal
  -- the best probability, or an upper value of it, which is below the threshold
  below : ℚ → PlainRefusal
  -- a lower and an upper value of the best probability, between which the threshold lies
  undecided : ℚ → ℚ → PlainRefusal
  no_memory : PlainRefusal

abbrev pub plain_refusal : Refusal → PlainRefusal
plain_refusal (Words e) = no_job e
plain_refusal (Model n kind) = model_text n kind
plain_refusal QuerySize = query_size
plain_refusal QueryReward = query_reward
plain_refusal QueryLabel = query_label
plain_refusal QueryInit = query_init
plain_refusal QueryNegative = query_negative
plain_refusal QuerySteps = query_steps
plain_refusal QueryChoice = query_choice
plain_refusal (TooWide w) = too_wide (shown w w.round)
plain_refusal (CheckWide state choice) = check_wide state choice
plain_refusal (HorizonWide depth state choice) = horizon_wide depth state choice
plain_refusal (Denied f) = denied f
plain_refusal ReadModel = read_model
plain_refusal ReadCertificate = read_certificate
plain_refusal LongModel = long_model
plain_refusal LongCertificate = long_certificate
plain_refusal (CertText n kind) = cert_text n kind
plain_refusal (PolicyText n kind) = policy_text n kind
plain_refusal (Below v) = below v
plain_refusal (Undecided low high) = undecided low high
plain_refusal Memory = no_memory
