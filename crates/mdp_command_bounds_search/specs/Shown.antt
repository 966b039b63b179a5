-- What is shown of the text that `bounds` prints.
use Rattle.std.specs.Prelude.{◌≡◌, ℕ, ◌≤◌, List, length, Ok}
use Rattle.mdp_spec.specs.Mdp.{Mdp}
use Rattle.mdp_rows.specs.declared.dir.Dir.{Dir}
use Rattle.mdp_cert.specs.{BoundsCert.{Certificate}, BoundsReading.{outcome}, BoundsSpelling.{text_of}}
use Rattle.mdp_check.specs.Bounds.{IsBoundsAccepted, IsBoundsTrue}
use Rattle.mdp_job.specs.Job.{PlainQuery}
use Rattle.mdp_command.specs.Files.{most_bytes}
use Rattle.mdp_command_bounds_search.specs.{Due.{claim_of}, Near.{IsNearOrWide}}

-- the text of a certificate of the query's claim for the model, which reads as it; all rules hold, the claim is true, and the values are as near as the
-- digits say, or the exact query is too wide
pub record IsBoundsPrinted (dir : Dir) (query : PlainQuery) (digits : ℕ) (m : Mdp) (text : List ℕ) : Type 0 where
  pub cert : Certificate
  pub claim : cert.claim ≡ claim_of dir query
  pub spelled : text ≡ text_of cert
  pub short : length text ≤ most_bytes
  pub reads : outcome text ≡ Ok cert
  pub holds : IsBoundsAccepted m cert
  pub bound : IsBoundsTrue m cert
  pub near : IsNearOrWide digits dir query m cert.body
