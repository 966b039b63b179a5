-- What meets the rules of bounds of a subsystem reaches the threshold on the kept states.
use Rattle.std.proofs.Common.{◌≡◌, ◌↔◌, ℕ, ◌<◌, Bool, true, false, List, [], ◌∷◌, ◌++◌, length, Option, Some, None, Result, refl, sym, ap, subst, ◌∙◌}
use Rattle.mdp_math.specs.Rational.{ℚ, ◌≤ℚ◌, ◌+ℚ◌}
use Rattle.mdp_math.proofs.{Options.{Some_same}, Extremes.{le_of_test, test_of_le}, Order.{≤ℚ_trans}}
use Rattle.mdp_spec.specs.{Mdp.{Mdp, states_of, value_at}, Row.{IsMdp}, Sub.{sub_of}, Bounds.{SubMax, SubMin, part}, Between.{ReachMaxBetween, ReachMinBetween}}
use Rattle.mdp_spec.specs.{Tree.{unfolded}, Hit.{hit}}
use Rattle.mdp_spec.proofs.{Subsystem.{sub-states, sub_is_mdp}, Keeping.{unfolded_is_strategy}, Reach.{reach_max_between_of_rules, reach_min_between_of_rules}}
use Rattle.mdp_rows.specs.{declared.dir.Dir.{Dir}, declared.dir.Dir.TheVariants.{Max, Min}}
use Rattle.mdp_claims.specs.{declared.verdict.Verdict.{Verdict}, declared.verdict.Verdict.TheVariants.{Yes}}
use Rattle.mdp_claims.specs.declared.verdict.Objection.{Objection}
use Rattle.mdp_math.specs.Result.{◌>>=◌}
use Rattle.mdp_farkas.specs.Verdict.{Check, objection, objection_to, verdict, verdict_of, IsYes, IfYes}
use Rattle.mdp_farkas.proofs.Holds.{Holds, each_of_yes, yes_of_each, each_append, each_left, each_right, if_yes}
use Rattle.mdp_bounds.specs.Reach.{bounds_checks, IsReachBounds}
use Rattle.mdp_bounds.proofs.ReachRules.{bounds_rules}
use Rattle.mdp_check.specs.Check.{after_init}
use Rattle.mdp_subsystem_bounds.specs.Rules.{ones, start_check, subsystem_checks, AreSubsystemBounds, Reaches}
use Rattle.mdp_subsystem_bounds.specs.Laws.{RulesReach}

module _ (m : Mdp) (goals : List Bool) (start : ℕ) (threshold : ℚ) (kept : List Bool) (lower : List ℚ) (choices : List ℕ) (known : IsMdp m) (inside : start < states_of m)
    (least : threshold ≤ℚ value_at lower start) where
  abbrev part_of : Mdp
  part_of = sub_of m goals kept

  there : start < states_of part_of
  there = subst (λ (n : ℕ). start < n) (sym (sub-states m goals kept)) inside

  sub_max : (upper : List ℚ) → ReachMaxBetween part_of goals lower upper choices → SubMax m goals kept start threshold
  sub_max upper h = record {
    starts = inside;
    close = λ k some.
        let c = h.close start k there some in (
          c.0,
          1,
          unfolded part_of choices c.0 start,
          unfolded_is_strategy part_of choices c.0 start (sub_is_mdp m goals kept known) h.takes there,
          ≤ℚ_trans threshold (value_at lower start) (hit part_of goals 1 c.0 (unfolded part_of choices c.0 start) start +ℚ part k) least c.1,
        );
  }

  sub_min : (upper : List ℚ) → ReachMinBetween part_of goals lower upper choices → SubMin m goals kept start threshold
  sub_min upper h = record {
    starts = inside;
    close = λ k some.
        let c = h.close start k there some in (
          c.0,
          λ d u t deep is. ≤ℚ_trans threshold (value_at lower start) (hit part_of goals u d t start +ℚ part k) least (c.1 d u t deep is),
        );
  }

pub rules_reach : RulesReach
rules_reach Max m goals start threshold kept lower choices ranks known inside are =
    sub_max m goals start threshold kept lower choices known inside are.reached (ones m)
    (reach_max_between_of_rules (sub_of m goals kept) goals lower (ones m) choices ranks (sub_is_mdp m goals kept known) are.rules.rules)
rules_reach Min m goals start threshold kept lower choices ranks known inside are =
    sub_min m goals start threshold kept lower choices known inside are.reached (ones m)
    (reach_min_between_of_rules (sub_of m goals kept) goals lower (ones m) choices ranks (sub_is_mdp m goals kept known) are.rules.rules)

-- ---- the verdict

-- the model of the kept states has the states of the model
pub as_many : (m part : Mdp) (goals kept : List Bool) (n : ℕ) → part ≡ sub_of m goals kept → n ≡ states_of m → n ≡ states_of part
as_many m part goals kept n is e = e ∙ sym (ap states_of is ∙ sub-states m goals kept)

-- checks behind a first one
behind_one : (c : Check) (o : Option Bool) (xs ys : Result (Unit {0}) Objection) (rest : Verdict) → verdict ys ≡ after_init (verdict xs) rest
    → verdict (objection c o >>= (λ ok. ys)) ≡ after_init (verdict (objection c o >>= (λ ok. xs))) rest
behind_one c None xs ys rest e = refl
behind_one c (Some false) xs ys rest e = refl
behind_one c (Some true) xs ys rest e = e

-- what a list of checks says, and then another one
pub verdict_append : (xs ys : List Check) → verdict_of (xs ++ ys) ≡ after_init (verdict_of xs) (verdict_of ys)
verdict_append [] ys = refl
verdict_append (c ∷ cs) ys = behind_one c c.holds (objection_to cs) (objection_to (cs ++ ys)) (verdict_of ys) (verdict_append cs ys)

module _ (dir : Dir) (m : Mdp) (goals : List Bool) (start : ℕ) (threshold : ℚ) (kept : List Bool) (lower : List ℚ) (choices ranks : List ℕ) (known : IsMdp m)
    (each : length choices ≡ states_of m) where
  abbrev part_checks : List Check
  part_checks = bounds_checks dir (sub_of m goals kept) goals lower (ones m) choices ranks

  abbrev all_checks : List Check
  all_checks = subsystem_checks dir m goals start threshold kept lower choices ranks

  part_rules : (verdict_of part_checks ≡ Yes) ↔ IsReachBounds dir (sub_of m goals kept) goals lower (ones m) choices ranks
  part_rules =
      bounds_rules (sub_of m goals kept) (sub_is_mdp m goals kept known) goals lower (ones m) choices ranks dir (verdict_of part_checks)
      (each ∙ sym (sub-states m goals kept)) refl

  pub subsystem_rules : (v : Verdict) → v ≡ verdict_of all_checks → IsYes v ↔ AreSubsystemBounds dir m goals start threshold kept lower choices ranks
  subsystem_rules v e = (
    (λ yes_.
        let h = each_of_yes all_checks (sym e ∙ yes_) in
        record {
          rules = part_rules.0 (yes_of_each part_checks (each_left Holds part_checks (start_check start threshold lower ∷ []) h));
          reached = le_of_test threshold (value_at lower start) (Some_same _ _ (each_right Holds part_checks (start_check start threshold lower ∷ []) h).0);
        }),
    (λ are.
        e ∙ yes_of_each all_checks
        (each_append Holds part_checks (start_check start threshold lower ∷ []) (each_of_yes part_checks (part_rules.1 are.rules))
        (ap Some (test_of_le threshold (value_at lower start) are.reached), tt))),
  )

  pub subsystem_reaches : (v : Verdict) → start < states_of m → v ≡ verdict_of all_checks → IfYes v (Reaches dir m goals kept start threshold)
  subsystem_reaches v inside e =
      if_yes v (Reaches dir m goals kept start threshold)
      (λ yes_. rules_reach dir m goals start threshold kept lower choices ranks known inside ((subsystem_rules v e).0 yes_))
