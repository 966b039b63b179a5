-- What certificates of a kind mean.
use Rattle.std.specs.Prelude.{◌≡◌, ℕ, List}
use Rattle.mdp_spec.specs.{Labels.{initial_of}, Mdp.{Mdp, states_of}, Row.{IsMdp}}
use Rattle.mdp_rows.specs.declared.rule.RowRule.{RowRule}
use Rattle.mdp_drn.specs.Reading.{Reads}
use Rattle.mdp_cert.specs.Cert as cert
use Rattle.mdp_cert.specs.Spelling as cert_text
use Rattle.mdp_cert.specs.declared.version.Version.{Version}
use Rattle.mdp_check.specs.Check as check
use Rattle.mdp_check.specs.Initial as initial
use Rattle.mdp_claims.specs.declared.verdict.Verdict.TheVariants.{Yes}

-- the certificate fits the format, and these bytes are its text
pub record IsTextOf {C : Type 0} (Fits : C → Type 0) (text_of : C → List ℕ) (bytes : List ℕ) (c : C) : Type 0 where
  pub fits : Fits c
  pub text : bytes ≡ text_of c

-- which bytes are a certificate's text; of how many states it speaks; that its line `init` is right: it names the one initial state of the model and what the
-- certificate says of it, or none where there isn't exactly one; and what a certificate claims of a model
pub record Meaning : Type 1 where
  pub Certificate : Type 0
  pub IsText : List ℕ → Certificate → Type 0
  pub states : Certificate → ℕ
  pub IsStart : Mdp → Certificate → Type 0
  pub IsBound : Mdp → Certificate → Type 0

-- these bytes are the text of a certificate; it speaks of as many states as the model, its line `init` is right, and what it claims is true of the model,
-- whoever wrote it
pub record IsTrueOf (meaning : Meaning) (m : Mdp) (cert_bytes : List ℕ) : Type 0 where
  pub cert : meaning.Certificate
  pub text : meaning.IsText cert_bytes cert
  pub states : meaning.states cert ≡ states_of m
  pub start : meaning.IsStart m cert
  pub bound : meaning.IsBound m cert

-- the bytes of the model read as a model, each row of which is a distribution over its states, and the others are the text of a certificate that is true of it
pub record ClaimsTruly (meaning : Meaning) (rule : RowRule) (model_bytes cert_bytes : List ℕ) : Type 0 where
  pub model : Mdp
  pub reads : Reads model_bytes rule model
  pub mdp : IsMdp model
  pub true_of : IsTrueOf meaning model cert_bytes

-- ---- certificates of best values, upper bounds and subsystems

-- each has a text in either version
abbrev pub exact_meaning : Meaning
exact_meaning = record {
  Certificate = cert.Certificate;
  IsText = λ bytes c. (version : Version) × IsTextOf cert.Fits (cert_text.text_in version) bytes c;
  states = λ c. c.states;
  IsStart = λ m c. initial.init_check c.init (initial_of m) c.body ≡ Yes;
  IsBound = check.IsBound;
}
