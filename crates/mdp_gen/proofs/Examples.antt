-- The layered model of number 7 with two layers of two states, worked out by hand: its draws, where they lead, its rows and its text.
use Rattle.std.proofs.{Common.{◌≡◌, ℕ, List, [], ◌∷◌, ◌++◌, codes, decimal, lit<, pos, refl, ap, ◌∙◌, arith}, lemmas.Fmt.{decimal_digit, decimal_step}}
use Rattle.std.specs.{List.{range_with_len}, Prelude.{map}}
use Rattle.mdp_math.specs.{Gcd.{gcd, gcd_with_fuel}, Rational.{ℚ, of_int, ratio}}
use Rattle.mdp_num.specs.Value.{spelling}
use Rattle.mdp_spec.specs.Mdp.{Entry, Choice, State, Mdp}
use Rattle.mdp_gen.specs.{Draws.{draw}, Layered.{target, row_to, layered_model}, Text.{generated_text}}

drawn : map (draw 7) (range_with_len 1 16)
    ≡ 599 ∷ 44999 ∷ 32612 ∷ 21105 ∷ 10061 ∷ 33742 ∷ 40318 ∷ 9222 ∷ 36354 ∷ 39607 ∷ 21434 ∷ 34736 ∷ 49331 ∷ 29827 ∷ 8841 ∷ 7779 ∷ []
unfolding draw
drawn = refl

-- a number is taken modulo 65537
as-small : draw 65544 1 ≡ 599
unfolding draw
as-small = refl

-- from layer 0 to the place of the draw in layer 1; from layer 1 to the goal, state 4, or to the failing state
leads : target 2 2 0 599 ∷ target 2 2 0 32612 ∷ target 2 2 2 36354 ∷ target 2 2 2 39607 ∷ [] ≡ 3 ∷ 2 ∷ 4 ∷ 5 ∷ []
leads = refl

-- one layer alone leads to the goal and the failing state
leads-last : target 1 3 2 7 ∷ target 1 3 2 8 ∷ [] ≡ 4 ∷ 3 ∷ []
leads-last = refl

abbrev to : ℕ → ℚ → Entry
to s p = record { target = s; prob = p }

abbrev sure : ℕ → Choice
sure s = record { row = to s (of_int (pos 1)) ∷ []; rewards = of_int (pos 0) ∷ [] }

abbrev either : ℕ → ℕ → Choice
either s t = record { row = to s (ratio (pos 1) 2) ∷ to t (ratio (pos 1) 2) ∷ []; rewards = of_int (pos 0) ∷ [] }

abbrev two : List ℕ → Choice → Choice → State
two labels a b = record { labels = labels; choices = a ∷ b ∷ [] }

abbrev one : List ℕ → Choice → State
one labels a = record { labels = labels; choices = a ∷ [] }

-- the targets ascend, whichever was drawn first
ascending : row_to 3 2 ≡ row_to 2 3
ascending = refl

abbrev seven : Mdp
seven = record {
  names = codes "-" ∷ [];
  labels = codes "init" ∷ codes "goal" ∷ [];
  states =
      two (0 ∷ []) (sure 3) (either 2 3) ∷ two [] (either 2 3) (sure 2) ∷ two [] (either 4 5) (sure 4) ∷ two [] (sure 5) (sure 5)
      ∷ one (1 ∷ []) (sure 4) ∷ one [] (sure 5) ∷ [];
}

seven-model : layered_model 7 2 2 ≡ seven
unfolding draw
seven-model = refl

ten : decimal 10 ≡ codes "10"
ten = decimal_step 10 (omega arith) (lit< tt) ∙ ap (λ (d : List ℕ). d ++ 48 ∷ []) (decimal_digit 1 (lit< tt))

seven-text : generated_text 7 2 2
    ≡ codes "@type: MDP\n@parameters\n\n@reward_models\n\n@nr_states\n6\n@nr_choices\n10\n@model\n"
    ++ codes "state 0 [0] \"init\"\n\taction 0 [0]\n\t\t3 : 1\n\taction 1 [0]\n\t\t2 : 1/2\n\t\t3 : 1/2\n"
    ++ codes "state 1 [0]\n\taction 0 [0]\n\t\t2 : 1/2\n\t\t3 : 1/2\n\taction 1 [0]\n\t\t2 : 1\n"
    ++ codes "state 2 [0]\n\taction 0 [0]\n\t\t4 : 1/2\n\t\t5 : 1/2\n\taction 1 [0]\n\t\t4 : 1\n"
    ++ codes "state 3 [0]\n\taction 0 [0]\n\t\t5 : 1\n\taction 1 [0]\n\t\t5 : 1\n"
    ++ codes "state 4 [0] \"goal\"\n\taction 0 [0]\n\t\t4 : 1\n"
    ++ codes "state 5 [0]\n\taction 0 [0]\n\t\t5 : 1\n"
unfolding draw spelling ratio of_int gcd gcd_with_fuel
seven-text =
    simp
    (decimal_digit 0 (lit< tt), decimal_digit 1 (lit< tt), decimal_digit 2 (lit< tt), decimal_digit 3 (lit< tt), decimal_digit 4 (lit< tt), decimal_digit 5 (lit< tt), decimal_digit 6 (lit< tt), ten)
