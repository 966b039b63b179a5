-- How equations are told apart: each as a list and a pair that give it back.
use Rattle.std.specs.{Prelude.{List, refl}, Coded.{Coded, code_by, coded×, coded_list}}
use Rattle.mdp_math.specs.Rational.{ℚ}
use Rattle.mdp_num.specs.Code.{rational_code}
use Rattle.mdp_spec.specs.Mdp.{Entry}
use Rattle.mdp_rows.specs.Code.{entry_code}
use Rattle.mdp_elim.specs.Equation.{Equation}

abbrev pub equation_code : Coded Equation
equation_code =
    code_by (List Entry × (ℚ × ℚ)) (coded× (coded_list entry_code) (coded× rational_code rational_code))
    (λ e. (e.entries, (e.first, e.second))) (λ p. record { entries = p.0; first = p.1.0; second = p.1.1 }) (λ _. refl)
