use Rattle.std.proofs.Common.{◌≡◌, ℕ, ◌<◌, List, Option, Ok, sym, ap, ap₂, subst, ◌∙◌, rules}
use Rattle.mdp_rows.specs.declared.dir.Dir.{Dir}
use Rattle.mdp_spec.specs.Mdp.{Mdp, states_of}
use Rattle.mdp_cert.specs.Cert as certificate
use Rattle.mdp_cert.specs.{Cert.{are_names, Fits}, Spelling.{text_of}}
use Rattle.mdp_cert.specs.Plain as cert
use Rattle.mdp_witness.specs.{Code.{plain}, Query.{EndsSo}, Shown.{HasShape}}
use Rattle.mdp_command_solve.specs.{Ways.{name_of, owned_name}, WitnessCertificate.{dir_of, certificate_of}, WitnessShown.{IsWitness, IsWitnessPrinted}}
use Rattle.mdp_text.proofs.InitialState.{initial_below}
use Rattle.mdp_command_solve.proofs.{OnWay.{marks_each, witness_names, way_states}, WitnessPrinting.{dir_is, is_witness, own_shape, shape_of_way, printed, text_printed, text_due}}
use Rattle.mdp_command_solve.proofs.witness_search.Asked.on_way.Goals as goal

pub witness-requires-clause-goals : goal.witness-requires-clause-goals
witness-requires-clause-goals c =
    let m = c.args.model.now in
    let goals = c.args.goals.now in
    let stay = name_of c.args.self.now.stay in
    marks_each m stay c.args.self.now.label.now goals c.requires.goals ∙ sym (ap states_of c.requires.way ∙ way_states m goals stay)

pub witness-requires-clause-start : goal.witness-requires-clause-start
witness-requires-clause-start c =
    let m = c.args.model.now in
    subst (λ (n : ℕ). c.args.start < n) (sym (ap states_of c.requires.way ∙ way_states m c.args.goals.now (name_of c.args.self.now.stay))) (initial_below m c.args.start c.requires.initial)

pub certificate_of-cert-requires-clause-names : goal.certificate_of-cert-requires-clause-names
certificate_of-cert-requires-clause-names c =
    let label = c.args.self.now.label.now in
    let threshold = c.args.self.now.threshold in
    let dir = dir_of (plain c.in-Ok.found) in
    let same : c.in-Ok-to_vec.label.items ≡ label = search rules in
    ap₂ (λ (s : Option (List ℕ)) (t : List ℕ). are_names (certificate.witness dir s t threshold)) c.in-Ok-owned.ensures same
    ∙ witness_names c.args.model.now c.known.ensures.model.labels dir label (name_of c.args.self.now.stay) threshold c.args.goals.now c.requires.goals

pub certificate_of-cert-requires-clause-start : goal.certificate_of-cert-requires-clause-start
certificate_of-cert-requires-clause-start c = initial_below c.args.model.now c.args.start c.requires.initial

pub certificate_of-cert-requires-clause-shape : goal.certificate_of-cert-requires-clause-shape
certificate_of-cert-requires-clause-shape c =
    let dir = c.args.self.now.dir in
    let m = c.args.model.now in
    let found = plain c.in-Ok.found in
    own_shape dir m found
    (shape_of_way m c.args.goals.now (name_of c.args.self.now.stay) dir found (subst (λ (w : Mdp). HasShape dir w found) c.requires.way c.in-Ok.ensures.shape))

pub returns-clause-due : goal.returns-clause-due
returns-clause-due c =
    let dir = c.args.self.now.dir in
    let stay = name_of c.args.self.now.stay in
    let label = c.args.self.now.label.now in
    let threshold = c.args.self.now.threshold in
    let m = c.args.model.now in
    let goals = c.args.goals.now in
    let start = c.args.start in
    let found = plain c.in-Ok.found in
    let same : c.in-Ok-to_vec.label.items ≡ label = search rules in
    let is : cert.plain c.certificate_of-cert.result ≡ certificate_of dir stay label threshold start m found =
    c.certificate_of-cert.ensures.certificate
    ∙ ap (λ (d : Dir). certificate_of d (owned_name c.in-Ok-owned.stay) c.in-Ok-to_vec.label.items threshold start m found) (dir_is dir c.args.way.now found c.in-Ok.ensures.shape)
    ∙ ap₂ (λ (s : Option (List ℕ)) (t : List ℕ). certificate_of dir s t threshold start m found) c.in-Ok-owned.ensures same in
    text_due dir stay label threshold m goals start found (cert.plain c.certificate_of-cert.result) _
    (subst (λ (w : Mdp). EndsSo dir w goals start threshold (Ok found)) c.requires.way c.in-Ok.ensures.path) is c.certificate_text.ensures

pub returns-clause-printed : goal.returns-clause-printed
returns-clause-printed c =
    let dir = c.args.self.now.dir in
    let stay = name_of c.args.self.now.stay in
    let label = c.args.self.now.label.now in
    let threshold = c.args.self.now.threshold in
    let m = c.args.model.now in
    let goals = c.args.goals.now in
    let start = c.args.start in
    let found = plain c.in-Ok.found in
    let e = c.in-Ok.ensures in
    let same : c.in-Ok-to_vec.label.items ≡ label = search rules in
    let is : cert.plain c.certificate_of-cert.result ≡ certificate_of dir stay label threshold start m found =
    c.certificate_of-cert.ensures.certificate
    ∙ ap (λ (d : Dir). certificate_of d (owned_name c.in-Ok-owned.stay) c.in-Ok-to_vec.label.items threshold start m found) (dir_is dir c.args.way.now found e.shape)
    ∙ ap₂ (λ (s : Option (List ℕ)) (t : List ℕ). certificate_of dir s t threshold start m found) c.in-Ok-owned.ensures same in
    let witness : IsWitness dir stay threshold m goals start found =
    is_witness m c.known.ensures.mdp stay goals start threshold found c.args.way.now c.requires.way dir e.path e.holds
    (λ d. e.sub_max d) (λ d. e.sub_min d) (λ d. e.policy d) (λ d. e.needed_max d) (λ d. e.needed_min d) (λ d. e.wide_max d) (λ d. e.wide_min d) in
    text_printed (IsWitnessPrinted dir stay label threshold m) (cert.plain c.certificate_of-cert.result) _
    (λ text spelled. printed dir stay label threshold m goals start c.requires.goals c.requires.initial found c.known.ensures.mdp c.text_law.ensures.back
    (subst (λ (w : Mdp). HasShape dir w found) c.requires.way e.shape) witness (subst Fits is c.certificate_of-cert.ensures.fits) text (spelled ∙ ap text_of is)) c.certificate_text.ensures
