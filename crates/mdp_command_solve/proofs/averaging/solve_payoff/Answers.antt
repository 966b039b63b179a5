use Rattle.std.proofs.Common.{◌≡◌, ℕ, List, sym, ap, subst, ◌∙◌, rules}
use Rattle.mdp_rows.specs.Name.{IsName, IsRewardName}
use Rattle.mdp_mean.specs.Query as averaged
use Rattle.mdp_cert.specs.{Cert.{Fits}, Plain.{plain}, Spelling.{text_of}}
use Rattle.mdp_command_solve.specs.{Due.{mean_certificate_of}, Solved.{IsMeanPrinted}}
use Rattle.mdp_rows.proofs.FoundNames.{found_among, name_of_reward}
use Rattle.mdp_command_solve.proofs.Printing.{mean_sizes, mean_printed, text_printed}
use Rattle.mdp_command_solve.proofs.averaging.solve_payoff.Goals as goal

pub mean_certificate_of-cert-requires-clause-name : goal.mean_certificate_of-cert-requires-clause-name
mean_certificate_of-cert-requires-clause-name c =
    let same : c.in-Ok-to_vec.name.items ≡ c.args.name.now = search rules in
    subst IsName (sym same) (name_of_reward c.args.name.now (found_among IsRewardName c.args.name.now c.args.model.now.names c.in-Some.reward (sym c.in-Some.ensures) c.known.ensures.model.names.each))

pub mean_certificate_of-cert-requires-clause-bound : goal.mean_certificate_of-cert-requires-clause-bound
mean_certificate_of-cert-requires-clause-bound c =
    (mean_sizes c.args.dir c.args.model.now c.in-Some.reward (averaged.plain c.in-Ok.answer) c.in-Ok.ensures.each c.in-Ok.ensures.rules.rules).bound

pub mean_certificate_of-cert-requires-clause-bias : goal.mean_certificate_of-cert-requires-clause-bias
mean_certificate_of-cert-requires-clause-bias c =
    (mean_sizes c.args.dir c.args.model.now c.in-Some.reward (averaged.plain c.in-Ok.answer) c.in-Ok.ensures.each c.in-Ok.ensures.rules.rules).bias

pub mean_certificate_of-cert-requires-clause-choices : goal.mean_certificate_of-cert-requires-clause-choices
mean_certificate_of-cert-requires-clause-choices c =
    (mean_sizes c.args.dir c.args.model.now c.in-Some.reward (averaged.plain c.in-Ok.answer) c.in-Ok.ensures.each c.in-Ok.ensures.rules.rules).choices

pub returns-clause-printed : goal.returns-clause-printed
returns-clause-printed c =
    let dir = c.args.dir in
    let m = c.args.model.now in
    let r = c.in-Some.reward in
    let a = averaged.plain c.in-Ok.answer in
    let same : c.in-Ok-to_vec.name.items ≡ c.args.name.now = search rules in
    let cert : plain c.mean_certificate_of-cert.result ≡ mean_certificate_of dir c.args.name.now m a =
    c.mean_certificate_of-cert.ensures.certificate ∙ ap (λ (n : List ℕ). mean_certificate_of dir n m a) same in
    text_printed (IsMeanPrinted dir c.args.name.now m) (plain c.mean_certificate_of-cert.result) _
    (λ text spelled. mean_printed dir c.args.name.now m r a (sym c.in-Some.ensures) c.in-Ok.ensures.rules (mean_sizes dir m r a c.in-Ok.ensures.each c.in-Ok.ensures.rules.rules)
    c.known.ensures.mdp c.text_law.ensures.back
    text (subst Fits cert c.mean_certificate_of-cert.ensures.fits) (spelled ∙ ap text_of cert)) c.certificate_text.ensures
