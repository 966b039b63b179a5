use Rattle.std.proofs.Common.{ap, ◌∙◌}
use Rattle.mdp_cert.specs.{BoundsCert.{plain_body}, BoundsPlain.{plain}, Cert.{PlainClaim}}
use Rattle.mdp_job.specs.Job.{plain_query}
use Rattle.mdp_command.specs.Said.{said}
use Rattle.mdp_command_bounds_search.specs.Certificate.{certificate_of}
use Rattle.mdp_command_bounds_search.proofs.Printing.{text_due, printed}
use Rattle.mdp_command_bounds_search.proofs.searching.bounds_query.Goals as goal

pub returns-clause-due : goal.returns-clause-due
returns-clause-due c =
    let m = c.args.model.now in
    let body = plain_body c.in_ok-body.body in
    text_due c.args.dir (plain_query c.args.query) m body c.in_ok-body.ensures.found c.in_ok-body.ensures.fits (plain c.certificate_of-cert.result) (said c.certificate_text.result)
    (c.certificate_of-cert.ensures.certificate ∙ ap (λ (claim : PlainClaim). certificate_of claim m body) c.in_ok-claim.ensures) c.certificate_of-cert.ensures.fits
    c.certificate_text.ensures

pub returns-clause-printed : goal.returns-clause-printed
returns-clause-printed c =
    let m = c.args.model.now in
    let body = plain_body c.in_ok-body.body in
    printed c.args.dir (plain_query c.args.query) c.args.digits m body c.in_ok-body.ensures.found c.in_ok-body.ensures.near c.known.ensures.mdp c.bounds_text_law.ensures.back
    c.bounds_checking_law.ensures.bound
    (plain c.certificate_of-cert.result) (said c.certificate_text.result)
    (c.certificate_of-cert.ensures.certificate ∙ ap (λ (claim : PlainClaim). certificate_of claim m body) c.in_ok-claim.ensures) c.certificate_of-cert.ensures.fits
    c.certificate_text.ensures
