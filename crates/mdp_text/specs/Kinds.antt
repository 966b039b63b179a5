-- The word that names each kind of refusal.
use Rattle.std.specs.Prelude.{ℕ, List, codes}
use Rattle.mdp_text.specs.declared.error.CertKind.{CertKind}
use Rattle.mdp_text.specs.declared.error.CertKind.TheVariants as cert

abbrev pub cert_word : CertKind → List ℕ
cert_word cert.Version = codes "version"
cert_word cert.Claim = codes "claim"
cert_word cert.Number = codes "number"
cert_word cert.Shape = codes "shape"
cert_word cert.Count = codes "count"
cert_word cert.End = codes "end"
cert_word cert.Run = codes "run"
