use Rattle.mdp_cert.proofs.{Parts.{read-or-refused, not-both}, FirstBroken.{first-broken}}
use Rattle.mdp_cert.proofs.laws.refusal_law.Goals as goal

pub returns-clause-covered : goal.returns-clause-covered
returns-clause-covered c = read-or-refused

pub returns-clause-apart : goal.returns-clause-apart
returns-clause-apart c = not-both

pub returns-clause-first : goal.returns-clause-first
returns-clause-first c = first-broken
