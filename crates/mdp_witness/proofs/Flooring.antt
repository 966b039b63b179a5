-- The certificate of what the trials for the least probability leave.
use Rattle.std.proofs.Common.{◌≡◌, ℕ, ◌<◌, ⊎_elim, Bool, true, false, ◌||◌, List, length, Option, Some, option_map, Ok, refl, sym, ◌∙◌, ap, subst}
use Rattle.std.proofs.{lemmas.List.{get_or-replicate}, lemmas.List.Elements.{All-from_recursion}}
use Rattle.std.specs.{Prelude.{replicate}, Option.{IsSome}, declared.cmp.Ordering.{Ordering}}
use Rattle.mdp_math.specs.{Rational.{ℚ, ◌≤ℚ◌}, Written.{written_compare}}
use Rattle.mdp_math.proofs.{Booleans.{or-true}, Order.{≤ℚ_refl, ≤ℚ_antisymm}}
use Rattle.mdp_spec.specs.{Bounds.{ReachMin}, Mdp.{Mdp, states_of, value_at}, Row.{IsMdp}, Rules.{MeetsReachMin}, Sub.{sub_of}, Tree.{is_marked}}
use Rattle.mdp_spec.proofs.Subsystem.{sub-states, sub_is_mdp}
use Rattle.mdp_rows.specs.declared.dir.Dir.TheVariants.{Min}
use Rattle.mdp_graph.specs.Laws.{RestMeets}
use Rattle.mdp_policy_iteration.specs.Laws.{EndsAtBest}
use Rattle.mdp_farkas.specs.{Compare.{not_less, is_at_least}, Verdict.{verdict_of, InWidth}}
use Rattle.mdp_claims.specs.{declared.verdict.Verdict.{Verdict}, declared.verdict.Verdict.TheVariants.{Yes}}
use Rattle.mdp_farkas.proofs.Comparing.{le_of_at_least}
use Rattle.mdp_subsystem_rules.specs.{FloorChecks.{floor_checks, HoldsFloor}, Laws.{WholeIsModel, LeastGrows, ListedMeetsFloor, ListedFloorShape}}
use Rattle.mdp_subsystem_rules.specs.{Listed.{listed, values_at, ranks_at}, Shape.{IsFloorShape}}
use Rattle.mdp_subsystem_rules.proofs.FloorRules.{floor_rules}
use Rattle.mdp_reach.specs.{Laws.{HasOneEnd, AnswersMeetRules, AnswersAreLeast}, Query.{Answer, EndsSo}}
use Rattle.mdp_witness.specs.{First.{IsFirst}, LeastEvaluation.{Evaluates, value_from}, TrialLaws.{LeastFirstReaches, MinKeptIsFloor}, Trial.{AreLeft}}
use Rattle.mdp_witness.specs.Query.{PlainSubsystem, flow, floor, floor_of, verdict_on, FloorHeld, FromFirst}
use Rattle.mdp_witness.proofs.{Left.{left_by}, Lengths.{sized}, InWidth.{floor_in_width}, Passing.{same_answer}}

-- a certificate that holds, and one that has its shape
abbrev pub HoldsIt : Mdp → List Bool → ℕ → ℚ → PlainSubsystem → Type 0
HoldsIt m goals start threshold (flow kept wide flows) = ⊥
HoldsIt m goals start threshold (floor kept wide values ranks) = HoldsFloor m goals start threshold kept values ranks

abbrev pub Shaped : Mdp → PlainSubsystem → Type 0
Shaped m (flow kept wide flows) = ⊥
Shaped m (floor kept wide values ranks) = IsFloorShape m kept wide values ranks

pub shaped : (m : Mdp) (kept wide : List Bool) (last : Answer) (states : List ℕ) (marks : List Bool) (values : List ℚ) (ranks : List ℕ)
    → floor states marks values ranks ≡ floor_of m kept wide last → ListedFloorShape
    → IsFloorShape m states marks values ranks
shaped m kept wide last states marks values ranks e shape = subst (Shaped m) (sym e) (shape m kept wide last.values last.ranks)

-- a comparison that told an order is in width
told_of : (x y : ℚ) (o : Ordering) → written_compare x y ≡ Some o → IsSome (is_at_least x y)
told_of x y o e = subst (λ (c : Option Ordering). IsSome (option_map not_less c)) (sym e) refl

-- the answer to the query of the model, as three lists
module _ (m : Mdp) (goals : List Bool) (a : Answer) (z : List ℚ) (policy : List ℕ) (ez : z ≡ a.values) (ep : policy ≡ a.choices) (known_ : IsMdp m) (goals_each : length goals ≡ states_of m)
    (solved : EndsSo Min m goals (Ok a)) (answers : AnswersMeetRules) where
  pub meets-min : MeetsReachMin m goals z policy a.ranks
  meets-min = subst (λ (a : Answer). MeetsReachMin m goals a.values a.choices a.ranks) (sym (same_answer a z policy a.ranks ez ep refl)) (answers Min m goals a known_ solved).rules

  module _ (start : ℕ) (threshold : ℚ) (first kept wide : List Bool) (last : Answer) (inside : start < states_of m) (is : IsFirst Min m goals z policy start first)
      (reaches : is_at_least (value_at a.values start) threshold ≡ Some true) (left : AreLeft (Evaluates m goals) (value_from start) threshold first kept wide last)
      (one : HasOneEnd) (least : AnswersAreLeast) (first_reaches : LeastFirstReaches) (law : MinKeptIsFloor) (grows : LeastGrows) (whole : WholeIsModel) where
    abbrev sub : Mdp
    sub = sub_of m goals kept

    abbrev all : List Bool
    all = replicate (states_of m) true

    all-marked : (s : ℕ) → s < states_of m → is_marked all s ≡ true
    all-marked s l = get_or-replicate (states_of m) s true false l

    whole-is : sub_of m goals all ≡ m
    whole-is = whole m goals all (λ s l. ap (λ (b : Bool). is_marked goals s || b) (all-marked s l) ∙ or-true (is_marked goals s))

    whole-least : ReachMin (sub_of m goals all) goals a.values a.choices
    whole-least = subst (λ (n : Mdp). ReachMin n goals a.values a.choices) (sym whole-is) (least m goals a known_ solved)

    kept_each : length kept ≡ states_of m
    kept_each = left.one_kept_each ∙ is.one_each

    -- where no state went, the value at the start is that of the model
    same_value : kept ≡ first → value_at a.values start ≡ value_from start last
    same_value e =
        ≤ℚ_antisymm (value_at a.values start) (value_from start last)
        (subst (λ (z : List ℚ). value_at z start ≤ℚ value_from start last) ez
        ((first_reaches m goals z policy a.ranks start (value_at z start) first known_ meets-min is inside (≤ℚ_refl (value_at z start))).reaches last
        (subst (λ (set : List Bool). Evaluates m goals set (Ok last)) e left.evaluated)))
        (grows m goals kept all last.values a.values last.choices a.choices start known_ (λ s l k. all-marked s l) inside
        (least sub goals last (sub_is_mdp m goals kept known_) left.evaluated) whole-least)

    -- so the value at the start was compared with the threshold
    told : IsSome (is_at_least (value_from start last) threshold)
    told = ⊎_elim (λ e. subst (λ (v : ℚ). IsSome (is_at_least v threshold)) (same_value e) (subst (λ (o : Option Bool). IsSome o) (sym reaches) refl))
        (λ o. told_of (value_from start last) threshold o.0 o.1)
        (left_by (value_from start) threshold (Evaluates m goals) first kept wide last left (λ set r q h k. one Min (sub_of m goals set) goals q r k h))

    abbrev states : List ℕ
    states = listed (states_of m) kept

    held_floor : ListedMeetsFloor → HoldsFloor m goals start threshold states (values_at last.values states) (ranks_at last.ranks states)
    held_floor lists =
        let reached = subst (λ (z : List ℚ). threshold ≤ℚ value_at z start) (sym ez) (le_of_at_least (value_at a.values start) threshold reaches) in
        let kept_floor = (law m goals z policy a.ranks start threshold first kept wide last known_ meets-min is inside reached left).floor in
        record {
          rules = lists m goals kept last.values last.ranks start threshold kept_each kept_floor;
          in_width =
              All-from_recursion InWidth (floor_checks m goals start threshold states (values_at last.values states) (ranks_at last.ranks states))
              (floor_in_width m goals kept last.values last.choices last.ranks start threshold known_ kept_each inside kept_floor.no_goal
              (answers Min sub goals last (sub_is_mdp m goals kept known_) left.evaluated) told);
        }

    module _ (numbers : List ℕ) (marks : List Bool) (values : List ℚ) (ranks : List ℕ) (cert : floor numbers marks values ranks ≡ floor_of m kept wide last) (lists : ListedMeetsFloor) where
      pub left-holds : HoldsFloor m goals start threshold numbers values ranks
      left-holds = subst (HoldsIt m goals start threshold) (sym cert) (held_floor lists)

      is_yes : ListedFloorShape → verdict_on m goals start threshold (floor numbers marks values ranks) ≡ Yes
      is_yes shape =
          (floor_rules m goals start threshold numbers marks values ranks goals_each inside (shaped m kept wide last numbers marks values ranks cert shape)
          (verdict_of (floor_checks m goals start threshold numbers values ranks)) refl).1 left-holds

      pub left-found : ListedFloorShape → (v : Answer) → Evaluates m goals first (Ok v) → FromFirst m goals start threshold Min a (Ok (floor numbers marks values ranks))
      left-found shape v e = subst (λ (a : Answer). FromFirst m goals start threshold Min a (Ok (floor numbers marks values ranks))) (same_answer a z policy a.ranks ez ep refl) (
        first,
        is,
        (
          Ok v,
          e,
          record {
            kept = kept;
            wide = wide;
            last = last;
            left = left;
            held =
                subst (λ (x : PlainSubsystem). FloorHeld x (verdict_on m goals start threshold x) (Ok (floor numbers marks values ranks))) cert
                (subst (λ (v : Verdict). FloorHeld (floor numbers marks values ranks) v (Ok (floor numbers marks values ranks))) (sym (is_yes shape)) refl);
          },
        ),
      )

-- what the trials leave has one value and one rank for each state
module _ (m : Mdp) (goals : List Bool) (start : ℕ) (threshold : ℚ) (first kept wide : List Bool) (last : Answer) (known_ : IsMdp m) (best : EndsAtBest) (meets : RestMeets)
    (left : AreLeft (Evaluates m goals) (value_from start) threshold first kept wide last) where
  pub values_each : length last.values ≡ states_of m
  values_each = (sized Min (sub_of m goals kept) goals last (sub_is_mdp m goals kept known_) best meets left.evaluated).values ∙ sub-states m goals kept

  pub ranks_each : length last.ranks ≡ states_of m
  ranks_each = (sized Min (sub_of m goals kept) goals last (sub_is_mdp m goals kept known_) best meets left.evaluated).ranks ∙ sub-states m goals kept
