-- How lists of states are told apart.
use Rattle.std.specs.{Prelude.{ℕ, List}, Coded.{Coded, coded_ℕ, coded_list}}

abbrev pub list_code : Coded (List ℕ)
list_code = coded_list coded_ℕ
