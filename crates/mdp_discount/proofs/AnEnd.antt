-- A query has an end: its path has one, and what that finds meets the rules, so that the check isn't a no.
use Rattle.std.proofs.Common.{◌≡◌, ℕ, List, Option, Some, None, Result, Ok, Err, refl, take}
use Rattle.mdp_math.specs.Rational.{ℚ}
use Rattle.mdp_spec.specs.Mdp.{Mdp, states_of}
use Rattle.mdp_rows.specs.declared.dir.Dir.{Dir}
use Rattle.mdp_wide.specs.{declared.too_wide.Part.TheVariants.{Whole}, Term.{WideTerm}}
use Rattle.mdp_policy_iteration.specs.{Iteration.{EndsWith}, Laws.{HasOneEnd, EndsAtBest, first}, Path.{Found, Refusal, path_step}}
use Rattle.mdp_policy_iteration.specs.Queries.{term_of, term_of_check}
use Rattle.mdp_farkas.specs.Verdict.{verdict_of}
use Rattle.mdp_claims.specs.{declared.verdict.Fault.{Fault}, declared.verdict.Verdict.{Verdict}, declared.verdict.Verdict.TheVariants.{Yes, No, Wide}}
use Rattle.mdp_discount_rules.specs.{Checks.{written_greatest, discount_checks}, Rules.{MeetsDiscount}, Cert.{Certificate}}
use Rattle.mdp_discount_rules.proofs.{DiscountRules.{discount_never_no}, Greatest.{written_greatest-some}}
use Rattle.mdp_discount.specs.{Problem.{discount_problem}, Code.{IsFound}, Laws.{CanAsk, HasAnEnd}}
use Rattle.mdp_discount.specs.Query.{start_of, cut_found, cut_refusal, answer_of, Held, term_of_remainder, AfterRemainder, EndsSo}
use Rattle.mdp_discount.proofs.Solving.{start-solvable, found-is}

module _ (dir : Dir) (m : Mdp) (r : ℕ) (name : List ℕ) (f : ℚ) (ask : CanAsk m r f) where
  held_by : (found : Found) (remainder : ℚ) (v : Verdict) → ((fault : Fault) → v ≡ No fault → ⊥) → (q : Result Certificate WideTerm) × Held dir m name f found remainder v q
  held_by found remainder Yes never = (Ok (answer_of dir m name f found remainder), refl)
  held_by found remainder (Wide state choice) never = (Err (term_of_check Whole found state choice), refl)
  held_by found remainder (No fault) never = absurd (never fault refl)

  meets : (found : Found) (remainder : ℚ) → IsFound dir m r f found.policy found.values → Some remainder ≡ written_greatest found.values
      → MeetsDiscount dir m r f found.values remainder found.policy
  meets found remainder is e = record {
    named = ask.named;
    one_each = is.one_each;
    choices = is.choices;
    covers = is.covers;
    reached = is.reached;
    greatest_magnitude = written_greatest-some found.values remainder e;
  }

  remainder_by : (found : Found) (o : Option ℚ) → IsFound dir m r f found.policy found.values → o ≡ written_greatest found.values
      → (q : Result Certificate WideTerm) × AfterRemainder dir m r name f found o q
  remainder_by found None is e = (Err (term_of_remainder found), refl)
  remainder_by found (Some remainder) is e =
      held_by found remainder (verdict_of (discount_checks dir m r f found.values remainder found.policy))
      (discount_never_no dir m r f found.values remainder found.policy (meets found remainder is e))

  end_by : EndsAtBest → (end : Result Found Refusal) → EndsWith (path_step (discount_problem dir m r f)) (first (start_of m)) end → (q : Result Certificate WideTerm) × EndsSo dir m r name f q
  end_by best (Err refusal) path = (Err (term_of Whole (cut_refusal (states_of m) refusal)), record { end = Err refusal; path = path; after = refl })
  end_by best (Ok found) path =
      let is = found-is dir m r f ask.model ask.discount (start_of m) found.policy found.values
      (best (discount_problem dir m r f) (start_of m) found (start-solvable dir m r f ask.model ask.discount) path) in
      let after = remainder_by (cut_found (states_of m) found) (written_greatest (take (states_of m) found.values)) is refl in
      (after.0, record { end = Ok found; path = path; after = after.1 })

pub has_an_end : HasOneEnd → EndsAtBest → HasAnEnd
has_an_end one_end best dir m r name f ask =
    let path = one_end (discount_problem dir m r f) (start_of m) (start-solvable dir m r f ask.model ask.discount) in
    end_by dir m r name f ask best path.0 path.1
