use Rattle.mdp_cert.specs.{Cert.{plain_claim, plain_body}, Answer.{plain_head}}
use Rattle.mdp_text.specs.Lines.{place}
use Rattle.mdp_cert.proofs.Parts.{head-found, body-found}
use Rattle.mdp_cert.proofs.read.read_cert.Goals as goal

pub invariant_of-result : goal.invariant_of-result
invariant_of-result c =
    let head = head-found (place 2 c.in_ok-text.rest.now) (plain_head c.in_ok-head.head) (place 5 c.in_ok-head.rest.now) c.in_ok-head.ensures in
    let body =
    body-found c.in_ok-version.version (plain_claim c.in_ok-head.head.claim) c.in_ok-head.head.states (place 5 c.in_ok-head.rest.now) (plain_body c.in_ok-body.body)
    (place c.in_ok-body.line c.in_ok-body.rest.now) head.is.limit c.in_ok-body.ensures in
    record {
      some = head.is.some;
      limit = head.is.limit;
      names = head.is.claim.names;
      threshold = head.is.claim.threshold;
      inside = head.is.init.inside;
      entries = body.fits.entries;
    }
