use Rattle.std.proofs.{Common.{◌≡◌, Option, Ok, sym, ap, subst, ◌∙◌, arith}, lemmas.Grind.{common_steps}}
use Rattle.mdp_drn.specs.{declared.document.Part.{Part}, DocumentView.{IsPart, IsBehind, part_in, part_behind}, Reading.{kept_line}}
use Rattle.mdp_drn.proofs.document.Part.take_line.Goals as goal

pub take_header_line-requires-clause-header : goal.take_header_line-requires-clause-header
take_header_line-requires-clause-header c = subst IsPart c.in-Header.is c.requires.part

pub returns-in-Ok-None-clause-taken : goal.returns-in-Ok-None-clause-taken
returns-in-Ok-None-clause-taken c =
    let w = c.in-Ok-None.ensures.taken in
    ap (λ (p : Part). kept_line c.args.rule c.args.line c.args.text.now (part_in p)) c.in-Header.is
    ∙ w.1 ∙ ap Ok (sym w.2 ∙ ap (part_behind c.take_header_line.new.header c.take_header_line.new.next) c.in-Ok-None.field-0-is)

pub returns-in-Ok-Some-clause-taken : goal.returns-in-Ok-Some-clause-taken
returns-in-Ok-Some-clause-taken c =
    let w = c.in-Ok-Some.ensures.taken in
    ap (λ (p : Part). kept_line c.args.rule c.args.line c.args.text.now (part_in p)) c.in-Header.is
    ∙ w.1 ∙ ap Ok (sym w.2 ∙ ap (part_behind c.take_header_line.new.header c.take_header_line.new.next) c.in-Ok-Some.field-0-is)

pub returns-in-Ok-None-clause-part : goal.returns-in-Ok-None-clause-part
returns-in-Ok-None-clause-part c =
    subst (λ (o : Option Part). IsBehind c.take_header_line.new.header c.take_header_line.new.next o) c.in-Ok-None.field-0-is c.in-Ok-None.ensures.part

pub returns-in-Ok-Some-clause-part : goal.returns-in-Ok-Some-clause-part
returns-in-Ok-Some-clause-part c =
    subst (λ (o : Option Part). IsBehind c.take_header_line.new.header c.take_header_line.new.next o) c.in-Ok-Some.field-0-is c.in-Ok-Some.ensures.part

pub returns-in-Model-clause-taken : goal.returns-in-Model-clause-taken
returns-in-Model-clause-taken c = grind (arith, common_steps)
