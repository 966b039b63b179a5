-- What is said to certificates of the discounted reward, computed. `wait` stays at 0 for 1 in each step, or moves to 1, which earns 3 in each step.
use Rattle.std.proofs.Common.{◌≡◌, ℕ, List, [], ◌∷◌, Result, Ok, Err, refl, pos, Some, None}
use Rattle.std.specs.Prelude.{codes}
use Rattle.mdp_math.specs.{Gcd.{gcd, gcd_with_fuel}, Result.{◌>>=◌}, Rational.{ℚ, of_int, ratio, ◌+ℚ◌, ◌*ℚ◌, neg_ℚ, le_ℚ}}
use Rattle.mdp_math.specs.Written.{narrow, narrow_ℚ, written_add, written_mul, written_compare}
use Rattle.mdp_spec.specs.Mdp.{Entry, Choice, State, Mdp}
use Rattle.mdp_rows.specs.declared.dir.Dir.TheVariants.{Max}
use Rattle.mdp_text.specs.{declared.error.CertKind.TheVariants.{Number}, declared.init.Init.{Init}, declared.init.Init.TheVariants.{Missing, Finite}}
use Rattle.mdp_discount_rules.specs.Cert.{Certificate}
use Rattle.mdp_job.specs.Refusal.{PlainRefusal, query_size, query_reward, denied, cert_text}
use Rattle.mdp_command.specs.{Answered.{said_of}, Said.{Said}, Kinds.{discounted}}
use Rattle.mdp_claims.specs.declared.rule.Rule.TheVariants.{DiscountedOnEachChoice, InitialState}

-- what is said to what was read as a certificate, or was not
abbrev said_to_certificate : Mdp → Result Certificate PlainRefusal → Said
said_to_certificate m read = read >>= (λ c. said_of (discounted.answer_to m c))

abbrev number : ℕ → ℚ
number n = of_int (pos n)

abbrev to : ℕ → ℚ → Choice
to t reward = record { row = (let e : Entry = record { target = t; prob = number 1 } in e) ∷ []; rewards = reward ∷ [] }

abbrev state : List ℕ → List Choice → State
state labels choices = record { labels = labels; choices = choices }

abbrev wait : Mdp
wait = record {
  names = codes "-" ∷ [];
  labels = codes "init" ∷ [];
  states = state (0 ∷ []) (to 0 (number 1) ∷ to 1 (number 0) ∷ []) ∷ state [] (to 1 (number 3) ∷ []) ∷ [];
}

abbrev claimed : List ℕ → Init → List ℚ → List ℕ → Certificate
claimed name init values choices = record {
  dir = Max;
  name = name;
  factor = ratio (pos 1) 2;
  init = init;
  remainder = number 6;
  values = values;
  choices = choices;
}

holds : said_to_certificate wait (Ok (claimed (codes "-") (Finite 0 (number 3)) (number 3 ∷ number 6 ∷ []) (1 ∷ 0 ∷ []))) ≡ Ok (codes "yes\n")
unfolding gcd gcd_with_fuel of_int ratio neg_ℚ le_ℚ ◌+ℚ◌ ◌*ℚ◌ narrow narrow_ℚ written_add written_mul written_compare
holds = refl

-- ---- what is refused

-- the text comes before the number of states, this before the name, and the name before the rules
refused_text : said_to_certificate wait (Err (cert_text 3 Number)) ≡ Err (cert_text 3 Number)
refused_text = refl

one_state : said_to_certificate wait (Ok (claimed (codes "energy") Missing (number 3 ∷ []) (1 ∷ []))) ≡ Err query_size
one_state = refl

other_name : said_to_certificate wait (Ok (claimed (codes "energy") Missing (number 3 ∷ number 6 ∷ []) (1 ∷ 0 ∷ []))) ≡ Err query_reward
other_name = refl

no_init :
    said_to_certificate wait (Ok (claimed (codes "-") Missing (number 3 ∷ number 6 ∷ []) (1 ∷ 0 ∷ [])))
    ≡ Err (denied (record { rule = InitialState; state = None; choice = None }))
no_init = refl

-- the first policy, which never moves on
first_kept :
    said_to_certificate wait (Ok (claimed (codes "-") (Finite 0 (number 2)) (number 2 ∷ number 6 ∷ []) (0 ∷ 0 ∷ [])))
    ≡ Err (denied (record { rule = DiscountedOnEachChoice; state = Some 0; choice = Some 1 }))
unfolding gcd gcd_with_fuel of_int ratio neg_ℚ le_ℚ ◌+ℚ◌ ◌*ℚ◌ narrow narrow_ℚ written_add written_mul written_compare
first_kept = refl
