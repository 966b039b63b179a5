use Rattle.std.proofs.Common.{refl}
use Rattle.mdp_text.specs.Lines.{place}
use Rattle.mdp_cert.specs.{Cert.{plain_claim}, BoundsCert.{plain_body}, Code.{plain_head}, BoundsReading.{outcome}}
use Rattle.mdp_cert.proofs.{Heads.{head-found}, BoundsBodies.{body-found}}
use Rattle.mdp_cert.proofs.bounds_read.read_bounds.Goals as goal

pub invariant_of-result : goal.invariant_of-result
invariant_of-result c =
    let head = head-found (place 2 c.in_ok-text.rest.now) (plain_head c.in_ok-head.head) (place 5 c.in_ok-head.rest.now) c.in_ok-head.ensures in
    let body =
    body-found (plain_claim c.in_ok-head.head.claim) c.in_ok-head.head.states (place 5 c.in_ok-head.rest.now) (plain_body c.in_ok-body.body)
    (place c.in_ok-body.line c.in_ok-body.rest.now) head.is.limit c.in_ok-body.ensures in
    record {
      some = head.is.some;
      limit = head.is.limit;
      names = head.is.claim.right.names;
      inside = head.is.init.inside;
      entries = body.fits.entries;
    }

pub returns-clause-read : goal.returns-clause-read
unfolding outcome
returns-clause-read c =
    rw (
      c.in_ok-text.ensures,
      ← c.is_line.ensures,
      c.in_ok-is_line.was,
      c.in_ok-head.ensures,
      c.in_ok-body.ensures,
      ← c.nothing_behind.ensures,
      c.in_ok-nothing_behind.was,
    ) refl
