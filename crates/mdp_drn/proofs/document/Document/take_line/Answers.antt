use Rattle.mdp_drn.proofs.LinesRead.Contents.{content_front, content_plain}
use Rattle.mdp_drn.proofs.document.Document.take_line.Goals as goal

pub take_line-requires-clause-plain : goal.take_line-requires-clause-plain
take_line-requires-clause-plain c = rw c.content_of-text.ensures (content_plain c.args.line.now c.requires.plain)

pub take_line-requires-clause-trimmed : goal.take_line-requires-clause-trimmed
take_line-requires-clause-trimmed c = rw c.content_of-text.ensures (content_front c.args.line.now)
