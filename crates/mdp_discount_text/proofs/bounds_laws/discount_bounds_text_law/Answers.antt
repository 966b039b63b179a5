use Rattle.mdp_text.proofs.Exact.{read-from, one-text-of}
use Rattle.mdp_discount_rules.specs.BoundsCert.{Fits}
use Rattle.mdp_discount_text.specs.{BoundsSpelling.{text_of}, Reading.{outcome}}
use Rattle.mdp_discount_text.proofs.BoundsOutcomes.{cert-found, cert-again, are-same-words}
use Rattle.mdp_discount_text.proofs.bounds_laws.discount_bounds_text_law.Goals as goal

pub returns-clause-read : goal.returns-clause-read
returns-clause-read c = read-from outcome Fits text_of cert-again cert-found

pub returns-clause-back : goal.returns-clause-back
returns-clause-back c = cert-again

pub returns-clause-one : goal.returns-clause-one
returns-clause-one c = one-text-of outcome Fits text_of cert-again

pub returns-clause-words : goal.returns-clause-words
returns-clause-words c = are-same-words
