use Rattle.mdp_drn.proofs.ReadingLaws.FirstRefusal.{refused-at_first, behind-counts_not}
use Rattle.mdp_drn.proofs.{ReadingLaws.LineNumbers.{names-no_later, names-line_of_text, moved-by_comment}, ReadingLaws.BlankEnds.{drops-blanks}}
use Rattle.mdp_drn.proofs.{ReadingLaws.ByContents.{read-by_contents}, ReadingLaws.LabelOrder.{labels-by_sight}}
use Rattle.mdp_drn.proofs.laws.reading_law.Goals as goal

pub returns : goal.returns
returns c = record {
  first = refused-at_first;
  behind = behind-counts_not;
  found = names-no_later;
  within = names-line_of_text;
  blanks = drops-blanks;
  contents = read-by_contents;
  comment = moved-by_comment;
  sight = labels-by_sight;
}
