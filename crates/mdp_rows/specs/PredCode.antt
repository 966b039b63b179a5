-- How lists of predecessors are told apart: each as a list of pairs that gives it back.
use Rattle.std.specs.{Prelude.{ℕ, List, refl}, Coded.{Coded, code_by, coded×, coded_ℕ, coded_list}}
use Rattle.mdp_rows.specs.declared.preds.Pred.{Pred}

abbrev pub pred_code : Coded Pred
pred_code = code_by (ℕ × ℕ) (coded× coded_ℕ coded_ℕ) (λ x. (x.state, x.choice)) (λ p. record { state = p.0; choice = p.1 }) (λ _. refl)

abbrev pub pred_list_code : Coded (List Pred)
pred_list_code = coded_list pred_code
