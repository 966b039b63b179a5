use Rattle.mdp_cert.proofs.StateWords.{three-back, back}
use Rattle.mdp_subsystem_bounds.proofs.state_lines.push_lists.Goals as goal

pub push_led-requires : goal.push_led-requires
push_led-requires c =
    let l = c.args.lists.now in
    (back c.args.states l.bounds.lower.items l.bounds.choices.items l.bounds.ranks.items l.marks.items (record {
      lower = c.requires.lower;
      upper = c.requires.choices;
      choices = c.requires.ranks;
      ranks = c.requires.marks;
    })).count

pub push_ranked-requires : goal.push_ranked-requires
push_ranked-requires c =
    let l = c.args.lists.now in
    (three-back c.args.states l.bounds.lower.items l.bounds.ranks.items l.marks.items c.requires.lower c.requires.ranks c.requires.marks).count
