-- The text of a model with two choices at a state, by computation.
use Rattle.std.proofs.{Common.{◌≡◌, ℕ, List, [], ◌∷◌, ◌++◌, codes, lit<, pos}, lemmas.Fmt.{decimal_digit}}
use Rattle.mdp_math.specs.{Gcd.{gcd, gcd_with_fuel}, Rational.{of_int, ratio}}
use Rattle.mdp_num.specs.Value.{spelling}
use Rattle.mdp_spec.specs.Mdp.{Entry, Choice, Mdp}
use Rattle.mdp_spec.proofs.Small.{entry}
use Rattle.mdp_drn.specs.Writing.{text_of}

abbrev choice : List Entry → Choice
choice row = record { row = row; rewards = of_int (pos 0) ∷ [] }

-- state 0 leads to 1 and 2, or to 0, 1 and 2; states 1 and 2 have a loop
abbrev model : Mdp
model = record {
  names = codes "-" ∷ [];
  labels = codes "init" ∷ codes "goal" ∷ [];
  states =
      record {
        labels = 0 ∷ [];
        choices = choice (entry 1 (ratio (pos 1) 2) ∷ entry 2 (ratio (pos 1) 2) ∷ []) ∷ choice (entry 0 (ratio (pos 1) 2) ∷ entry 1 (ratio (pos 1) 4) ∷ entry 2 (ratio (pos 1) 4) ∷ []) ∷ [];
      }
      ∷ record { labels = 1 ∷ []; choices = choice (entry 1 (of_int (pos 1)) ∷ []) ∷ [] }
      ∷ record { labels = []; choices = choice (entry 2 (of_int (pos 1)) ∷ []) ∷ [] }
      ∷ [];
}

abbrev expected : List ℕ
expected =
    codes "@type: MDP\n@parameters\n\n@reward_models\n\n@nr_states\n3\n@nr_choices\n4\n@model\n"
    ++ codes "state 0 [0] \"init\"\n\taction 0 [0]\n\t\t1 : 1/2\n\t\t2 : 1/2\n\taction 1 [0]\n\t\t0 : 1/2\n\t\t1 : 1/4\n\t\t2 : 1/4\n"
    ++ codes "state 1 [0] \"goal\"\n\taction 0 [0]\n\t\t1 : 1\n"
    ++ codes "state 2 [0]\n\taction 0 [0]\n\t\t2 : 1\n"

two_choices-text : text_of model ≡ expected
unfolding spelling ratio of_int gcd gcd_with_fuel
two_choices-text = simp (decimal_digit 0 (lit< tt), decimal_digit 1 (lit< tt), decimal_digit 2 (lit< tt), decimal_digit 3 (lit< tt), decimal_digit 4 (lit< tt))
