-- A query has one end at most, and an answer meets the rules.
use Rattle.std.proofs.Common.{◌≡◌, ℕ, List, Option, Some, None, Result, Ok, Err, refl, sym, ◌∙◌, subst, take}
use Rattle.mdp_math.specs.Rational.{ℚ}
use Rattle.mdp_spec.specs.Mdp.{Mdp, states_of}
use Rattle.mdp_rows.specs.declared.dir.Dir.{Dir}
use Rattle.mdp_policy_iteration.specs.{Path.{Found, Refusal, path_step}, Laws.{EndsAtBest, first}, Iteration.{EndsWith}}
use Rattle.mdp_wide.specs.Term.{WideTerm}
use Rattle.mdp_policy_iteration.proofs.Iterations.{one_end}
use Rattle.mdp_farkas.specs.Verdict.{verdict_of}
use Rattle.mdp_claims.specs.{declared.verdict.Verdict.{Verdict}, declared.verdict.Verdict.TheVariants.{Yes, No, Wide}}
use Rattle.mdp_discount.specs.{Problem.{discount_problem}, Query.{start_of, cut_found, answer_of, Held, AfterRemainder, AfterPath}, Code.{IsFound}}
use Rattle.mdp_discount.specs.Laws.{HasOneEnd, CanAsk, AnswersMeetRules, AnswersAreBest}
use Rattle.mdp_discount_rules.specs.{Checks.{written_greatest, discount_checks, IsDiscount}, Cert.{Certificate}}
use Rattle.mdp_discount_rules.proofs.{Discount.{discount_of_rules}, DiscountRules.{is_of_yes}}
use Rattle.mdp_discount.proofs.Solving.{start-solvable, found-is}

module _ (dir : Dir) (m : Mdp) (r : ℕ) (name : List ℕ) (f : ℚ) where
  module _ (p q : Result Certificate WideTerm) where
    one_held : (found : Found) (remainder : ℚ) (verdict : Verdict) → Held dir m name f found remainder verdict p → Held dir m name f found remainder verdict q → q ≡ p
    one_held found remainder Yes a b = b ∙ sym a
    one_held found remainder (Wide state choice) a b = b ∙ sym a
    one_held found remainder (No fault) a b = absurd a

    one_remainder : (found : Found) (o : Option ℚ) → AfterRemainder dir m r name f found o p → AfterRemainder dir m r name f found o q → q ≡ p
    one_remainder found None a b = b ∙ sym a
    one_remainder found (Some remainder) a b = one_held found remainder (verdict_of (discount_checks dir m r f found.values remainder found.policy)) a b

    one_after : (end : Result Found Refusal) → AfterPath dir m r name f end p → AfterPath dir m r name f end q → q ≡ p
    one_after (Err refusal) a b = b ∙ sym a
    one_after (Ok found) a b = one_remainder (cut_found (states_of m) found) (written_greatest (take (states_of m) found.values)) a b

  -- ---- an answer

  module _ (a : Certificate) (ask : CanAsk m r f) where
    rules_held : (found : Found) (remainder : ℚ) (verdict : Verdict) → IsFound dir m r f found.policy found.values
        → verdict ≡ verdict_of (discount_checks dir m r f found.values remainder found.policy)
        → Held dir m name f found remainder verdict (Ok a) → IsDiscount dir m r f a.values a.remainder a.choices
    rules_held found remainder Yes is e h =
        let same : a ≡ answer_of dir m name f found remainder = cc h in
        subst (λ (a : Certificate). IsDiscount dir m r f a.values a.remainder a.choices) (sym same)
        (is_of_yes dir m r f found.values remainder found.policy Yes ask.named is.one_each is.choices.one_each e refl)
    rules_held found remainder (Wide state choice) is e h = cc
    rules_held found remainder (No fault) is e h = absurd h

    rules_remainder : (found : Found) (o : Option ℚ) → IsFound dir m r f found.policy found.values → AfterRemainder dir m r name f found o (Ok a) → IsDiscount dir m r f a.values a.remainder a.choices
    rules_remainder found None is h = cc
    rules_remainder found (Some remainder) is h = rules_held found remainder (verdict_of (discount_checks dir m r f found.values remainder found.policy)) is refl h

    rules_after : EndsAtBest → (end : Result Found Refusal) → EndsWith (path_step (discount_problem dir m r f)) (first (start_of m)) end → AfterPath dir m r name f end (Ok a)
        → IsDiscount dir m r f a.values a.remainder a.choices
    rules_after best (Err refusal) path h = cc
    rules_after best (Ok found) path h =
        rules_remainder (cut_found (states_of m) found) (written_greatest (take (states_of m) found.values))
        (found-is dir m r f ask.model ask.discount (start_of m) found.policy found.values
        (best (discount_problem dir m r f) (start_of m) found (start-solvable dir m r f ask.model ask.discount) path)) h

pub one_query_end : HasOneEnd
one_query_end dir m r name f p q a b =
    let same = one_end (path_step (discount_problem dir m r f)) (first (start_of m)) b.end a.end b.path a.path in
    one_after dir m r name f p q a.end a.after (subst (λ (end : Result Found Refusal). AfterPath dir m r name f end q) same b.after)

pub answers_meet : EndsAtBest → AnswersMeetRules
answers_meet best dir m r name f a ask ends = rules_after dir m r name f a ask best ends.end ends.path ends.after

pub answers_best : EndsAtBest → AnswersAreBest
answers_best best dir m r name f a ask ends =
    discount_of_rules dir m r f a.values a.remainder a.choices ask.model ask.discount (IsDiscount.rules (answers_meet best dir m r name f a ask ends))
