-- What is due to `curve`, on small models.
use Rattle.std.proofs.Common.{ℕ, List, [], ◌∷◌, Some, None, Ok, Err, refl, pos}
use Rattle.std.specs.{Prelude.{codes}, Fmt.{digits}}
use Rattle.mdp_math.specs.{Gcd.{gcd, gcd_with_fuel}, Rational.{of_int, ratio}, Written.{narrow, narrow_ℚ}}
use Rattle.mdp_num.specs.Value.{spelling}
use Rattle.mdp_spec.specs.Mdp.{Choice, Mdp}
use Rattle.mdp_spec.proofs.Small.{entry, labelled}
use Rattle.mdp_rows.specs.declared.dir.Dir.TheVariants.{Max, Min}
use Rattle.mdp_horizon.specs.{Scaled.{rounded_sum}, Finer.{unit_of}, Curve.{curve_of}, CurveSpelling.{curve_text}}
use Rattle.mdp_job.specs.Refusal.{query_label, query_init, query_reward}
use Rattle.mdp_command_horizon.specs.CurveDue.{IsUntilCurveDue, IsTotalCurveDue}

-- state 0 stays or comes to the goal with 1/2 each and pays 1; the goal stays
abbrev toss : Choice
toss = record { row = entry 0 (ratio (pos 1) 2) ∷ entry 1 (ratio (pos 1) 2) ∷ []; rewards = of_int (pos 1) ∷ [] }

abbrev rest : Choice
rest = record { row = entry 1 (of_int (pos 1)) ∷ []; rewards = of_int (pos 0) ∷ [] }

-- with these labels at the two states
abbrev coin : List ℕ → List ℕ → Mdp
coin first second = record {
  names = codes "pay" ∷ [];
  labels = codes "init" ∷ codes "goal" ∷ [];
  states = labelled first (toss ∷ []) ∷ labelled second (rest ∷ []) ∷ [];
}

-- 0, 1/2 and 3/4
tossed : IsUntilCurveDue Max None (codes "goal") 2 2 (coin (0 ∷ []) (1 ∷ []))
    (Ok (codes "mdp-curve 1\nclaim max until \"-\" \"goal\"\ninit 0\nsteps 2\nstep 0 0 0\nstep 1 1/2 1/2\nstep 2 3/4 3/4\nend\n"))
unfolding curve_text curve_of unit_of rounded_sum narrow narrow_ℚ spelling digits ratio of_int gcd gcd_with_fuel
tossed = refl

-- from the goal it's 1 without a step already
at_goal : IsUntilCurveDue Min None (codes "goal") 2 2 (coin [] (0 ∷ 1 ∷ []))
    (Ok (codes "mdp-curve 1\nclaim min until \"-\" \"goal\"\ninit 1\nsteps 2\nrun 0 2 1 1\nend\n"))
unfolding curve_text curve_of unit_of rounded_sum narrow narrow_ℚ spelling digits ratio of_int gcd gcd_with_fuel
at_goal = refl

paid : IsTotalCurveDue Max (codes "pay") 2 2 (coin (0 ∷ []) (1 ∷ []))
    (Ok (codes "mdp-curve 1\nclaim max total \"pay\"\ninit 0\nsteps 2\nstep 0 0 0\nstep 1 1 1\nstep 2 3/2 3/2\nend\n"))
unfolding curve_text curve_of unit_of rounded_sum narrow narrow_ℚ spelling digits ratio of_int gcd gcd_with_fuel
paid = refl

-- not exactly one initial state
no_start : IsUntilCurveDue Max None (codes "goal") 2 2 (coin [] (1 ∷ [])) (Err query_init)
no_start = refl

two_starts : IsTotalCurveDue Max (codes "pay") 2 2 (coin (0 ∷ []) (0 ∷ [])) (Err query_init)
two_starts = refl

-- the names are looked up first
unknown_label : IsUntilCurveDue Max None (codes "none") 2 2 (coin [] []) (Err query_label)
unknown_label = refl

unknown_way : IsUntilCurveDue Max (Some (codes "none")) (codes "goal") 2 2 (coin [] []) (Err query_label)
unknown_way = refl

unknown_name : IsTotalCurveDue Max (codes "none") 2 2 (coin [] []) (Err query_reward)
unknown_name = refl
