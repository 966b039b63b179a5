use Rattle.std.proofs.Common.{sym}
use Rattle.mdp_discount_rules.specs.Plain.{plain}
use Rattle.mdp_command_solve.proofs.DiscountPrinting.{name_at, answer_of_query, printed, text_due}
use Rattle.mdp_command_solve.proofs.discounting.discount_query.Goals as goal

pub returns-clause-due : goal.returns-clause-due
returns-clause-due c =
    text_due c.args.dir c.args.name.now c.args.factor c.args.model.now c.in-Some.place (sym c.in-Some.ensures) (plain c.in-Ok.cert) _ c.in-Ok.ensures.path c.certificate_text.ensures

pub returns-clause-printed : goal.returns-clause-printed
returns-clause-printed c =
    printed c.args.dir c.args.name.now c.args.factor c.args.model.now c.in-Some.place (sym c.in-Some.ensures) (plain c.in-Ok.cert)
    (answer_of_query c.args.dir c.args.model.now c.in-Some.place c.args.name.now c.args.factor (plain c.in-Ok.cert) c.in-Ok.ensures.path)
    c.in-Ok.ensures.rules c.discount_text_law.ensures.back c.fits.ensures c.in-Ok.ensures.path c.in-Ok.ensures.bound _ c.certificate_text.ensures

pub solve_discount-requires-clause-name : goal.solve_discount-requires-clause-name
solve_discount-requires-clause-name c = name_at c.args.name.now c.args.model.now.names c.in-Some.place (sym c.in-Some.ensures)
