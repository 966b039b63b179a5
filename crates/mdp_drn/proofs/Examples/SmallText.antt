-- The text of a small model, by computation.
use Rattle.std.proofs.{Common.{◌≡◌, ℕ, List, [], ◌∷◌, ◌++◌, codes, refl, lit<, pos}, lemmas.Fmt.{decimal_digit}}
use Rattle.mdp_math.specs.{Gcd.{gcd, gcd_with_fuel}, Rational.{of_int, ratio}}
use Rattle.mdp_num.specs.Value.{spelling}
use Rattle.mdp_spec.specs.Mdp.{Mdp}
use Rattle.mdp_drn.specs.Writing.{names_text, text_of}

-- a row of 1/3 and 2/3, and a loop, under two reward names
abbrev small : Mdp
small = record {
  names = codes "cost" ∷ codes "time" ∷ [];
  labels = codes "init" ∷ codes "the goal" ∷ [];
  states =
      record {
        labels = 0 ∷ [];
        choices = record { row = record { target = 0; prob = ratio (pos 1) 3 } ∷ record { target = 1; prob = ratio (pos 2) 3 } ∷ []; rewards = ratio (pos 1) 2 ∷ of_int (pos 3) ∷ [] } ∷ [];
      }
      ∷ record { labels = 0 ∷ 1 ∷ []; choices = record { row = record { target = 1; prob = of_int (pos 1) } ∷ []; rewards = of_int (pos 0) ∷ of_int (pos 0) ∷ [] } ∷ [] }
      ∷ [];
}

abbrev expected : List ℕ
expected =
    codes "@type: MDP\n@parameters\n\n@reward_models\ncost time\n@nr_states\n2\n@nr_choices\n2\n@model\n"
    ++ codes "state 0 [0, 0] \"init\"\n\taction 0 [1/2, 3]\n\t\t0 : 1/3\n\t\t1 : 2/3\n"
    ++ codes "state 1 [0, 0] \"init\" \"the goal\"\n\taction 0 [0, 0]\n\t\t1 : 1\n"

small-text : text_of small ≡ expected
unfolding spelling ratio of_int gcd gcd_with_fuel
small-text = simp (decimal_digit 0 (lit< tt), decimal_digit 1 (lit< tt), decimal_digit 2 (lit< tt), decimal_digit 3 (lit< tt))

-- the one name `-` is written as a blank line, beside another name it is written
unnamed : names_text (codes "-" ∷ []) ≡ []
unnamed = refl

two-names : names_text (codes "-" ∷ codes "time" ∷ []) ≡ codes "- time"
two-names = refl
