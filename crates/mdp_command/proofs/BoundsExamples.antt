-- What is said to certificates of bounds, computed. `draw` stays at 0 without a reward, or pays 3 and moves to 1 with 1/3 and to 2 with 2/3; 1 is the goal.
use Rattle.std.proofs.Common.{◌≡◌, ℕ, ◌+◌, ◌^◌, List, [], ◌∷◌, Result, Ok, Err, refl, pos, Some, None}
use Rattle.std.specs.Prelude.{codes}
use Rattle.mdp_math.specs.{Gcd.{gcd, gcd_with_fuel}, Result.{◌>>=◌}, Rational.{ℚ, of_int, ratio, le_ℚ, lt_ℚ, ◌+ℚ◌, ◌*ℚ◌}}
use Rattle.mdp_math.specs.Written.{narrow, narrow_ℚ, written_add, written_mul}
use Rattle.mdp_spec.specs.Mdp.{Entry, Choice, State, Mdp}
use Rattle.mdp_rows.specs.declared.dir.Dir.TheVariants.{Max}
use Rattle.mdp_text.specs.declared.error.CertKind.TheVariants.{Number}
use Rattle.mdp_claims.specs.declared.rule.Rule.TheVariants.{InitialState, ValueOnPolicy}
use Rattle.mdp_cert.specs.{Cert.{reach, reward}, BoundsCert.{probabilities, rewards, Certificate}, declared.init.BoundsInit.{BoundsInit}}
use Rattle.mdp_cert.specs.declared.init.BoundsInit.TheVariants.{Missing, Between}
use Rattle.mdp_job.specs.Refusal.{PlainRefusal, query_size, query_reward, query_label, check_wide, denied, cert_text}
use Rattle.mdp_command.specs.{Answered.{said_of}, Said.{Said}, Kinds.{between}}

-- what is said to what was read as a certificate, or was not
abbrev said_to_certificate : Mdp → Result Certificate PlainRefusal → Said
said_to_certificate m read = read >>= (λ c. said_of (between.answer_to m c))

abbrev whole : ℕ → ℚ
whole n = of_int (pos n)

abbrev entry : ℕ → ℚ → Entry
entry t p = record { target = t; prob = p }

abbrev choice : List Entry → ℚ → Choice
choice row paid = record { row = row; rewards = paid ∷ [] }

abbrev state : List ℕ → List Choice → State
state labels choices = record { labels = labels; choices = choices }

abbrev draw : Mdp
draw = record {
  names = codes "-" ∷ [];
  labels = codes "init" ∷ codes "goal" ∷ [];
  states =
      state (0 ∷ []) (choice (entry 0 (whole 1) ∷ []) (whole 0) ∷ choice (entry 1 (ratio (pos 1) 3) ∷ entry 2 (ratio (pos 2) 3) ∷ []) (whole 3) ∷ [])
      ∷ state (1 ∷ []) (choice (entry 1 (whole 1) ∷ []) (whole 0) ∷ [])
      ∷ state [] (choice (entry 2 (whole 1) ∷ []) (whole 0) ∷ [])
      ∷ [];
}

abbrev claimed : List ℕ → BoundsInit → ℚ → ℚ → ℚ → Certificate
claimed label init low high last = record {
  claim = reach Max label;
  states = 3;
  init = init;
  body = probabilities (low ∷ whole 1 ∷ whole 0 ∷ []) (high ∷ whole 1 ∷ last ∷ []) (1 ∷ 0 ∷ 0 ∷ []) (1 ∷ 0 ∷ 0 ∷ []);
}

-- the greatest probability of reaching the goal from 0, 1/3, lies between 1/4 and 1/2
holds :
    said_to_certificate draw (Ok (claimed (codes "goal") (Between 0 (Some (ratio (pos 1) 4)) (Some (ratio (pos 1) 2))) (ratio (pos 1) 4) (ratio (pos 1) 2) (whole 0)))
    ≡ Ok (codes "yes\n")
unfolding gcd gcd_with_fuel of_int ratio le_ℚ lt_ℚ ◌+ℚ◌ ◌*ℚ◌ narrow narrow_ℚ written_add written_mul
holds = refl

-- ---- what is refused

-- the text comes before the number of states, this before the label, the label before the reward, and these before the rules
refused_text : said_to_certificate draw (Err (cert_text 3 Number)) ≡ Err (cert_text 3 Number)
refused_text = refl

one_state : said_to_certificate draw (Ok (record { claim = reward Max (codes "energy") (codes "done"); states = 1; init = Missing; body = rewards [] [] [] [] })) ≡ Err query_size
one_state = refl

other_label : said_to_certificate draw (Ok (record { claim = reward Max (codes "energy") (codes "done"); states = 3; init = Missing; body = rewards [] [] [] [] })) ≡ Err query_label
other_label = refl

other_name : said_to_certificate draw (Ok (record { claim = reward Max (codes "energy") (codes "goal"); states = 3; init = Missing; body = rewards [] [] [] [] })) ≡ Err query_reward
other_name = refl

no_init :
    said_to_certificate draw (Ok (claimed (codes "goal") Missing (whole 0) (whole 1) (whole 0))) ≡ Err (denied (record { rule = InitialState; state = None; choice = None }))
no_init = refl

-- 1/2 is past the greatest probability
lower_too_great :
    said_to_certificate draw (Ok (claimed (codes "goal") (Between 0 (Some (ratio (pos 1) 2)) (Some (whole 1))) (ratio (pos 1) 2) (whole 1) (whole 0)))
    ≡ Err (denied (record { rule = ValueOnPolicy; state = Some 0; choice = Some 1 }))
unfolding gcd gcd_with_fuel of_int ratio le_ℚ lt_ℚ ◌+ℚ◌ ◌*ℚ◌ narrow narrow_ℚ written_add written_mul
lower_too_great = refl

-- a third of the last upper value has a denominator past width
wide :
    said_to_certificate draw
    (Ok (claimed (codes "goal") (Between 0 (Some (ratio (pos 1) 4)) (Some (ratio (pos 1) 2))) (ratio (pos 1) 4) (ratio (pos 1) 2) (ratio (pos 1) (2 ^ 126 + 1))))
    ≡ Err (check_wide (Some 0) (Some 1))
unfolding gcd gcd_with_fuel of_int ratio le_ℚ lt_ℚ ◌+ℚ◌ ◌*ℚ◌ narrow narrow_ℚ written_add written_mul
wide = refl
