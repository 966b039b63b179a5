use Rattle.std.proofs.Common.{List, length, ap, ◌∙◌}
use Rattle.mdp_command_bounds_search.proofs.WitnessMarks.{marks-count}
use Rattle.mdp_subsystem_bounds.specs.declared.mark.Mark.{Mark}
use Rattle.mdp_command_bounds_search.proofs.witness_search.Asked.certificate.Goals as goal

pub certificate_of-requires-clause-sizes : goal.certificate_of-requires-clause-sizes
certificate_of-requires-clause-sizes c =
    let f = c.requires.found in
    record {
      lower = f.lower;
      upper = f.upper;
      choices = f.choices;
      ranks = f.ranks;
      marks = ap (λ (xs : List Mark). length xs) c.in_ok-marks.ensures ∙ marks-count c.states.result c.args.found.kept c.args.found.needed ∙ c.states.ensures;
    }
