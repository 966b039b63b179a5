use Rattle.mdp_text.proofs.Exact.{read-from}
use Rattle.mdp_discount_rules.specs.Cert.{Fits}
use Rattle.mdp_discount_text.specs.{Spelling.{text_of}, Text.{outcome}}
use Rattle.mdp_discount_text.proofs.Outcomes.{cert-found, cert-again}
use Rattle.mdp_discount_text.proofs.laws.discount_text_law.Goals as goal

pub returns-clause-read : goal.returns-clause-read
returns-clause-read c = read-from outcome Fits text_of cert-again cert-found

pub returns-clause-back : goal.returns-clause-back
returns-clause-back c = cert-again
