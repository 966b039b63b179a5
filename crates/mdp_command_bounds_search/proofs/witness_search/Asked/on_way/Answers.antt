use Rattle.std.proofs.Common.{◌≡◌, ℕ, ◌<◌, sym, ap, subst, ◌∙◌}
use Rattle.mdp_spec.specs.Mdp.{states_of}
use Rattle.mdp_text.proofs.InitialState.{initial_below}
use Rattle.mdp_cert.specs.Cert.{witness}
use Rattle.mdp_check.proofs.{Accepting.{goals_count}, Ways.{way_by_states}}
use Rattle.mdp_subsystem_bounds.specs.Plain.{plain}
use Rattle.mdp_command.specs.Said.{said}
use Rattle.mdp_command_bounds_search.specs.WitnessDue.{name_of, claim_by}
use Rattle.mdp_command_bounds_search.proofs.{WitnessPrinting.{names_there, sized_on, IsShown, text_due, refused_due}, WitnessSolved.{printed}}
use Rattle.mdp_command_bounds_search.proofs.witness_search.Asked.on_way.Goals as goal

pub search_subsystem-requires-clause-goals : goal.search_subsystem-requires-clause-goals
search_subsystem-requires-clause-goals c =
    let asked = c.args.self.now in
    let m = c.args.model.now in
    goals_count m (witness asked.dir (name_of asked.stay) asked.label.now asked.threshold) c.args.goals.now c.requires.goals
    ∙ sym (ap states_of c.requires.way ∙ way_by_states m c.args.goals.now (name_of asked.stay))

pub search_subsystem-requires-clause-start : goal.search_subsystem-requires-clause-start
search_subsystem-requires-clause-start c =
    let m = c.args.model.now in
    subst (λ (n : ℕ). c.args.start < n) (sym (ap states_of c.requires.way ∙ way_by_states m c.args.goals.now (name_of c.args.self.now.stay)))
    (initial_below m c.args.start c.requires.initial)

pub returns-in-Err-clause-due : goal.returns-in-Err-clause-due
returns-in-Err-clause-due c =
    let asked = c.args.self.now in
    refused_due (claim_by asked.dir (name_of asked.stay) asked.label.now asked.threshold) c.args.model.now c.args.goals.now c.args.start c.args.way.now c.requires.way c.in-Err.error
    c.in-Err.ensures.below c.in-Err.ensures.undecided _ c.refusal_of.ensures

pub certificate-requires-clause-names : goal.certificate-requires-clause-names
certificate-requires-clause-names c =
    let asked = c.args.self.now in
    names_there asked.dir c.args.model.now (name_of asked.stay) asked.label.now asked.threshold c.args.goals.now c.known.ensures.model.labels c.requires.goals

pub certificate-requires-clause-found : goal.certificate-requires-clause-found
certificate-requires-clause-found c =
    let e = c.in-Ok.ensures in
    let same : states_of c.args.way.now ≡ states_of c.args.model.now = ap states_of c.requires.way ∙ way_by_states c.args.model.now c.args.goals.now (name_of c.args.self.now.stay) in
    sized_on c.args.model.now c.args.way.now c.in-Ok.found same e.lower e.ones e.choices e.ranks e.kept e.need_each

pub returns-clause-due : goal.returns-clause-due
returns-clause-due c =
    let asked = c.args.self.now in
    let e = c.in-Ok.ensures in
    let m = c.args.model.now in
    let same : states_of c.args.way.now ≡ states_of m = ap states_of c.requires.way ∙ way_by_states m c.args.goals.now (name_of asked.stay) in
    let claim = claim_by asked.dir (name_of asked.stay) asked.label.now asked.threshold in
    let sized = sized_on m c.args.way.now c.in-Ok.found same e.lower e.ones e.choices e.ranks e.kept e.need_each in
    let shown : IsShown claim m c.args.goals.now c.args.start c.in-Ok.found sized =
    record {
      marked = c.requires.goals;
      initial = c.requires.initial;
      rules = rw (← c.requires.way) e.rules;
      reached = e.reached;
      needed = rw (← c.requires.way) e.needed;
    } in
    text_due claim m c.args.goals.now c.args.start c.in-Ok.found sized shown (plain c.in_ok-cert.cert) (said c.certificate_text.result) c.in_ok-cert.ensures.certificate
    c.in_ok-cert.ensures.fits c.certificate_text.ensures

pub returns-clause-printed : goal.returns-clause-printed
returns-clause-printed c =
    let asked = c.args.self.now in
    printed c.subsystem_bounds_text_law.ensures.back c.subsystem_bounds_law.ensures.bound (claim_by asked.dir (name_of asked.stay) asked.label.now asked.threshold) c.args.model.now
    c.known.ensures.mdp c.args.goals.now c.args.start (said c.certificate_text.result) c.requires.goals (returns-clause-due c)
