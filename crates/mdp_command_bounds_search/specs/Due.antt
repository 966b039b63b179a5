-- What is due to the command `bounds`, to the direction, the query and the model. It's no function of them: which bounds are found is left to the search.
use Rattle.std.specs.Prelude.{◌≡◌, ℕ, Option, Some, None, Ok, Err, if◌then◌else◌}
use Rattle.mdp_spec.specs.{Labels.{place_of}, Mdp.{Mdp}}
use Rattle.mdp_rows.specs.{Negative.{has_negative}, declared.dir.Dir.{Dir}}
use Rattle.mdp_cert.specs.Cert as certificate
use Rattle.mdp_cert.specs.{Cert.{PlainClaim}, BoundsCert.{Certificate, Fits}, BoundsSpelling.{text_of}}
use Rattle.mdp_check.specs.Bounds.{IsBoundsAccepted}
use Rattle.mdp_job.specs.{Job.{PlainQuery, reach, until, reward, mean}, Refusal.{PlainRefusal, query_reward, query_label, query_negative}}
use Rattle.mdp_command.specs.Said.{Said}

-- ---- a query that doesn't fit the model

-- a label that isn't there
abbrev pub label_fault : Option ℕ → Option PlainRefusal
label_fault None = Some query_label
label_fault (Some l) = None

-- the label of the states on the way is looked up first, then that of the goals
abbrev pub until_fault : Option ℕ → Option ℕ → Option PlainRefusal
until_fault None label = Some query_label
until_fault (Some stay) label = label_fault label

-- the reward's name is looked up first, then the label, then it is asked whether a reward of this name is below 0
abbrev pub reward_fault : Mdp → Option ℕ → Option ℕ → Option PlainRefusal
reward_fault m None label = Some query_reward
reward_fault m (Some r) None = Some query_label
reward_fault m (Some r) (Some l) = if has_negative m r then Some query_negative else None

-- a mean payoff may be of rewards below 0
abbrev pub mean_fault : Option ℕ → Option PlainRefusal
mean_fault None = Some query_reward
mean_fault (Some r) = None

-- why the query doesn't fit the model, where it doesn't
abbrev pub fault_of : PlainQuery → Mdp → Option PlainRefusal
fault_of (reach label) m = label_fault (place_of label m.labels)
fault_of (until stay label) m = until_fault (place_of stay m.labels) (place_of label m.labels)
fault_of (reward name label) m = reward_fault m (place_of name m.names) (place_of label m.labels)
fault_of (mean name) m = mean_fault (place_of name m.names)

-- ---- what is due

-- the claim that bounds make of a query
abbrev pub claim_of : Dir → PlainQuery → PlainClaim
claim_of dir (reach label) = certificate.reach dir label
claim_of dir (until stay label) = certificate.until dir stay label
claim_of dir (reward name label) = certificate.reward dir name label
claim_of dir (mean name) = certificate.mean dir name

-- the text of some certificate of this claim that is accepted for the model
pub record IsAcceptedText (claim : PlainClaim) (m : Mdp) (said : Said) : Type 0 where
  pub cert : Certificate
  pub claimed : cert.claim ≡ claim
  pub fits : Fits cert
  pub accepted : IsBoundsAccepted m cert
  pub spelled : said ≡ Ok (text_of cert)

-- a refusal, where there is one; else such a text
abbrev pub IsDueBy : PlainClaim → Mdp → Option PlainRefusal → Said → Type 0
IsDueBy claim m (Some refusal) said = said ≡ Err refusal
IsDueBy claim m None said = IsAcceptedText claim m said

-- the refusal of a query that doesn't fit the model; else such a text of the query's claim
abbrev pub IsBoundsDue : Dir → PlainQuery → Mdp → Said → Type 0
IsBoundsDue dir query m said = IsDueBy (claim_of dir query) m (fault_of query m) said
