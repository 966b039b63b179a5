use Rattle.std.proofs.Common.{◌≡◌, ℕ, List, codes, length, None, ap, subst, ◌∙◌, arith, rules}
use Rattle.std.specs.Global.{Vec}
use Rattle.mdp_math.specs.Rational.{ℚ}
use Rattle.mdp_spec.specs.Mdp.{value_at}
use Rattle.mdp_rows.specs.declared.dir.Dir.TheVariants.{Max}
use Rattle.mdp_reach.specs.Query as query
use Rattle.mdp_cert.specs.{Cert.{Certificate, Fits}, Plain.{plain}}
use Rattle.mdp_command_solve.specs.{Due.{certificate_of}, DrillDue.{drill_text, text_of_answer}}
use Rattle.mdp_command_solve.proofs.Drilled.{line-by, ok-weaker}
use Rattle.mdp_command_solve.proofs.drilling.line_of.Goals as goal

pub first_value-value-requires : goal.first_value-value-requires
first_value-value-requires c =
    let some = c.requires.some in
    let same = ap (λ (z : List ℚ). length z) c.deref.ensures.value ∙ c.requires.values in
    omega (arith, some, same)

pub returns-clause-spelled : goal.returns-clause-spelled
returns-clause-spelled c =
    let n = c.args.number in
    let l = c.args.layers in
    let w = c.args.width in
    let m = c.args.model.now in
    let a = query.plain c.args.answer in
    let value = c.first_value-value.ensures ∙ ap (λ (z : List ℚ). value_at z 0) c.deref.ensures.value in
    ok-weaker (λ (t : Vec ℕ). t.items ≡ drill_text n l w _ _ _) (λ (t : Vec ℕ). t.items ≡ text_of_answer n l w m a) c.drill_line.result
    (λ t e. line-by n l w m a _ _ _ t.items e (ap (λ (k : Certificate). k.states) c.certificate_of-cert.ensures.certificate) c.all_choices.ensures value) c.drill_line.ensures

pub returns-clause-fits : goal.returns-clause-fits
returns-clause-fits c =
    let m = c.args.model.now in
    let a = query.plain c.args.answer in
    let name : c.in_ok-label.label.items ≡ codes "goal" = search rules in
    let cert : plain c.certificate_of-cert.result ≡ certificate_of Max None (codes "goal") m a = c.certificate_of-cert.ensures.certificate ∙ ap (λ (t : List ℕ). certificate_of Max None t m a) name in
    let fits : Fits (certificate_of Max None (codes "goal") m a) = subst Fits cert c.certificate_of-cert.ensures.fits in
    ok-weaker (λ (t : Vec ℕ). t.items ≡ drill_text c.args.number c.args.layers c.args.width _ _ _) (λ (t : Vec ℕ). Fits (certificate_of Max None (codes "goal") m a))
    c.drill_line.result (λ t e. fits) c.drill_line.ensures
