use Rattle.std.proofs.Common.{◌≡◌, ℕ, List, Option, Ok, sym, ap, ap₂, subst, ◌∙◌, rules}
use Rattle.mdp_spec.specs.Mdp.{Mdp, states_of}
use Rattle.mdp_farkas.specs.Reach.{IsReach}
use Rattle.mdp_reach.specs.Query as query
use Rattle.mdp_reach.specs.Query.{EndsSo, HasOneEach}
use Rattle.mdp_cert.specs.{Cert.{are_names, Fits}, Plain.{plain}, Spelling.{text_of}}
use Rattle.mdp_command_solve.specs.{Ways.{name_of}, Due.{claim_of, certificate_of}, Solved.{IsReachPrinted}}
use Rattle.mdp_command_solve.proofs.{OnWay.{names, marks_each, way_states}, Printing.{one_each, printed, text_printed, text_due}}
use Rattle.mdp_command_solve.proofs.reaching.solve_on_way.Goals as goal

pub solve_reach-requires : goal.solve_reach-requires
solve_reach-requires c =
    let m = c.args.model.now in
    let goals = c.args.goals.now in
    let stay = name_of c.args.stay in
    marks_each m stay c.args.label.now goals c.requires.goals ∙ sym (ap states_of c.requires.way ∙ way_states m goals stay)

pub certificate_of-cert-requires-clause-names : goal.certificate_of-cert-requires-clause-names
certificate_of-cert-requires-clause-names c =
    let dir = c.args.dir in
    let same : c.in-Ok-to_vec.label.items ≡ c.args.label.now = search rules in
    ap₂ (λ (s : Option (List ℕ)) (t : List ℕ). are_names (claim_of dir s t)) c.in-Ok-owned.ensures same
    ∙ names c.args.model.now c.known.ensures.model.labels dir c.args.label.now (name_of c.args.stay) c.args.goals.now c.requires.goals

pub certificate_of-cert-requires-clause-values : goal.certificate_of-cert-requires-clause-values
certificate_of-cert-requires-clause-values c =
    let a = query.plain c.in-Ok.answer in
    (one_each c.args.model.now c.args.goals.now (name_of c.args.stay) a (subst (λ (w : Mdp). HasOneEach w a) c.requires.way c.in-Ok.ensures.each)).values

pub certificate_of-cert-requires-clause-choices : goal.certificate_of-cert-requires-clause-choices
certificate_of-cert-requires-clause-choices c =
    let a = query.plain c.in-Ok.answer in
    (one_each c.args.model.now c.args.goals.now (name_of c.args.stay) a (subst (λ (w : Mdp). HasOneEach w a) c.requires.way c.in-Ok.ensures.each)).choices

pub certificate_of-cert-requires-clause-ranks : goal.certificate_of-cert-requires-clause-ranks
certificate_of-cert-requires-clause-ranks c =
    let a = query.plain c.in-Ok.answer in
    (one_each c.args.model.now c.args.goals.now (name_of c.args.stay) a (subst (λ (w : Mdp). HasOneEach w a) c.requires.way c.in-Ok.ensures.each)).ranks

pub returns-clause-due : goal.returns-clause-due
returns-clause-due c =
    let dir = c.args.dir in
    let stay = name_of c.args.stay in
    let label = c.args.label.now in
    let m = c.args.model.now in
    let goals = c.args.goals.now in
    let a = query.plain c.in-Ok.answer in
    let same : c.in-Ok-to_vec.label.items ≡ label = search rules in
    let cert : plain c.certificate_of-cert.result ≡ certificate_of dir stay label m a =
    c.certificate_of-cert.ensures.certificate ∙ ap₂ (λ (s : Option (List ℕ)) (t : List ℕ). certificate_of dir s t m a) c.in-Ok-owned.ensures same in
    text_due dir stay label m goals a (plain c.certificate_of-cert.result) _ (subst (λ (w : Mdp). EndsSo dir w goals (Ok a)) c.requires.way c.in-Ok.ensures.path) cert c.certificate_text.ensures

pub returns-clause-printed : goal.returns-clause-printed
returns-clause-printed c =
    let dir = c.args.dir in
    let stay = name_of c.args.stay in
    let label = c.args.label.now in
    let m = c.args.model.now in
    let goals = c.args.goals.now in
    let a = query.plain c.in-Ok.answer in
    let same : c.in-Ok-to_vec.label.items ≡ label = search rules in
    let cert : plain c.certificate_of-cert.result ≡ certificate_of dir stay label m a =
    c.certificate_of-cert.ensures.certificate ∙ ap₂ (λ (s : Option (List ℕ)) (t : List ℕ). certificate_of dir s t m a) c.in-Ok-owned.ensures same in
    text_printed (IsReachPrinted dir stay label m) (plain c.certificate_of-cert.result) _
    (λ text spelled. printed dir stay label m goals a c.requires.goals
    (subst (λ (w : Mdp). IsReach dir w goals a.values a.choices a.ranks) c.requires.way c.in-Ok.ensures.rules)
    (one_each m goals stay a (subst (λ (w : Mdp). HasOneEach w a) c.requires.way c.in-Ok.ensures.each)) c.known.ensures.mdp c.text_law.ensures.back
    text (subst Fits cert c.certificate_of-cert.ensures.fits) (spelled ∙ ap text_of cert)) c.certificate_text.ensures
