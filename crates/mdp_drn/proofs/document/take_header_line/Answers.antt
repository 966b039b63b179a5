use Rattle.mdp_drn.specs.{HeaderView.{view, view_next}, DocumentView.{part_behind, header_part}, Reading.{begun, kept_line}}
use Rattle.mdp_drn.proofs.LinesRead.HeaderKeeps.{header_keeps, kept_header, gives_known, fails-at_line}
use Rattle.mdp_drn.proofs.document.take_header_line.Goals as goal

pub begin-requires : goal.begin-requires
begin-requires c =
    header_keeps (view_next c.args.next.now) (view c.args.header.now) c.args.text.now c.requires.header c.requires.plain c.requires.trimmed c.requires.comment
    (view c.take_line.new.self) (view_next c.in-Ok.after) c.in-Ok.ensures

pub returns-in-Ok-clause-taken : goal.returns-in-Ok-clause-taken
returns-in-Ok-clause-taken c =
    gives_known (part_behind c.begin.new.header c.in-Ok.after) c.begin.result (kept_line c.args.rule c.args.line c.args.text.now (header_part c.args.header.now c.args.next.now))
    (begun c.args.rule (view c.take_line.new.self) (view_next c.in-Ok.after)) c.begin.ensures.begun c.begin.ensures.memory
    (kept_header c.args.rule c.args.line c.args.text.now (view c.args.header.now) (view c.take_line.new.self) (view_next c.args.next.now) (view_next c.in-Ok.after) c.in-Ok.ensures)

pub returns-in-Err-clause-taken : goal.returns-in-Err-clause-taken
returns-in-Err-clause-taken c =
    rw c.at.ensures (fails-at_line c.args.rule c.args.line c.args.text.now (view c.args.header.now) (view_next c.args.next.now) c.in-Err.error c.in-Err.ensures)
