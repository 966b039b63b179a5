use Rattle.std.proofs.Common.{◌≡◌, ◌<◌, ◌∙◌, ℕ, List, Bool, Some, None, true, false, length, sym, ap, subst}
use Rattle.mdp_math.specs.Rational.{ℚ}
use Rattle.mdp_spec.specs.{Mdp.{value_at}, Bounds.{SubMax, SubMin}}
use Rattle.mdp_farkas.specs.Compare.{is_at_least}
use Rattle.mdp_reach.specs.Query as reach
use Rattle.mdp_witness.proofs.{Lengths.{sized}, Ending.{ends-wide, ends-below, ends-found, told}, Passing.{goes-through, if_found, if_below}}
use Rattle.mdp_witness.specs.{Query.{EndsSo, FromFirst}, Code.{plain}}
use Rattle.mdp_witness.specs.Shown.{kept_in, HasShape, Holds, PolicyReaches, IsNeededMax, IsNeededMin, AreNeeded, MarksAreExactMax, MarksAreExactMin, IsBestBelow}
use Rattle.mdp_witness.proofs.solve.witness.Goals as goal

pub value_of-value-requires : goal.value_of-value-requires
value_of-value-requires c =
    let a = reach.plain c.in_ok-cert.field-0.cert in
    let each = sized c.args.dir c.args.model.now c.args.goals.now a c.known.ensures.mdp c.path_law.ensures.best c.avoid_law.ensures.rest (c.in_ok-cert.ensures {u = tt}).path.2.ends in
    subst (λ (n : ℕ). c.args.start < n) (sym (ap length c.deref.ensures.value ∙ each.values)) c.requires.start

pub from_first-requires-clause-reaches : goal.from_first-requires-clause-reaches
from_first-requires-clause-reaches c =
    let a = reach.plain c.in_ok-cert.field-0.cert in
    told (value_at a.values c.args.start) c.value_of-value.result c.args.threshold (c.value_of-value.ensures ∙ ap (λ (z : List ℚ). value_at z c.args.start) c.deref.ensures.value) (Some true)
    (sym (c.in-Ok-true.ensures {u = tt}) ∙ ap (λ (b : Bool). Some b) c.in-Ok-true.field-0-test)

pub returns-in-Ok-true : goal.returns-in-Ok-true
returns-in-Ok-true c =
    let dir = c.args.dir in
    let m = c.args.model.now in
    let goals = c.args.goals.now in
    let start = c.args.start in
    let threshold = c.args.threshold in
    let a = reach.plain c.in_ok-cert.field-0.cert in
    let solved = (c.in_ok-cert.ensures {u = tt}).path in
    let value = c.value_of-value.ensures ∙ ap (λ (z : List ℚ). value_at z start) c.deref.ensures.value in
    let reaches : is_at_least (value_at a.values start) threshold ≡ Some true =
    told (value_at a.values start) c.value_of-value.result threshold value (Some true) (sym (c.in-Ok-true.ensures {u = tt}) ∙ ap (λ (b : Bool). Some b) c.in-Ok-true.field-0-test) in
    let ends = EndsSo dir m goals start threshold in
    let found = c.from_first.result in
    let law = c.witness_law.ensures in
    let known = c.known.ensures.mdp in
    let each = c.requires.goals in
    let starts = c.requires.start in
    let path = goes-through plain (FromFirst m goals start threshold dir a) ends found (ends-found dir m goals start threshold solved.0 a solved.2 reaches) c.from_first.ensures in
    record {
      path = path;
      shape = if_found plain (HasShape dir m) ends found (λ x end. law.shape dir m goals start threshold x known each starts end) path;
      holds = if_found plain (Holds dir m goals start threshold) ends found (λ x end. law.holds dir m goals start threshold x known each starts end) path;
      sub_max = λ e. if_found plain (λ x. SubMax m goals (kept_in m x) start threshold) ends found (λ x end. law.sub_max dir m goals start threshold x known each starts end e) path;
      sub_min = λ e. if_found plain (λ x. SubMin m goals (kept_in m x) start threshold) ends found (λ x end. law.sub_min dir m goals start threshold x known each starts end e) path;
      policy = λ e. if_found plain (PolicyReaches m goals start threshold) ends found (λ x end. law.policy dir m goals start threshold x known each starts end e) path;
      needed_max = λ e. if_found plain (AreNeeded (IsNeededMax m goals start threshold) m) ends found (λ x end. law.needed_max dir m goals start threshold x known each starts end e) path;
      needed_min = λ e. if_found plain (AreNeeded (IsNeededMin m goals start threshold) m) ends found (λ x end. law.needed_min dir m goals start threshold x known each starts end e) path;
      wide_max = λ e. if_found plain (MarksAreExactMax m goals start threshold) ends found (λ x end. law.wide_max dir m goals start threshold x known each starts end e) path;
      wide_min = λ e. if_found plain (MarksAreExactMin m goals start threshold) ends found (λ x end. law.wide_min dir m goals start threshold x known each starts end e) path;
      below = if_below plain (IsBestBelow dir m goals start threshold) ends found (λ v end. law.below dir m goals start threshold v known end) path;
    }

pub returns-in-Ok-false : goal.returns-in-Ok-false
returns-in-Ok-false c =
    let dir = c.args.dir in
    let m = c.args.model.now in
    let goals = c.args.goals.now in
    let start = c.args.start in
    let threshold = c.args.threshold in
    let a = reach.plain c.in_ok-cert.field-0.cert in
    let solved = (c.in_ok-cert.ensures {u = tt}).path in
    let value = c.value_of-value.ensures ∙ ap (λ (z : List ℚ). value_at z start) c.deref.ensures.value in
    let end = ends-below dir m goals start threshold solved.0 a solved.2 c.value_of-value.result value
    (told (value_at a.values start) c.value_of-value.result threshold value (Some false) (sym (c.in-Ok-false.ensures {u = tt}) ∙ ap (λ (b : Bool). Some b) c.in-Ok-false.field-0-test)) in
    record {
      path = end;
      shape = tt;
      holds = tt;
      sub_max = λ e. tt;
      sub_min = λ e. tt;
      policy = λ e. tt;
      needed_max = λ e. tt;
      needed_min = λ e. tt;
      wide_max = λ e. tt;
      wide_min = λ e. tt;
      below = c.witness_law.ensures.below dir m goals start threshold c.value_of-value.result c.known.ensures.mdp end;
    }

pub returns-in-Err : goal.returns-in-Err
returns-in-Err c =
    let dir = c.args.dir in
    let m = c.args.model.now in
    let goals = c.args.goals.now in
    let start = c.args.start in
    let threshold = c.args.threshold in
    let a = reach.plain c.in_ok-cert.field-0.cert in
    let solved = (c.in_ok-cert.ensures {u = tt}).path in
    let value = c.value_of-value.ensures ∙ ap (λ (z : List ℚ). value_at z start) c.deref.ensures.value in
    record {
      path = (
        solved.0,
        solved.1,
        ends-wide dir m goals start threshold solved.0 a solved.2 (told (value_at a.values start) c.value_of-value.result threshold value None (sym (c.in-Err.ensures {u = tt}))),
      );
      shape = tt;
      holds = tt;
      sub_max = λ e. tt;
      sub_min = λ e. tt;
      policy = λ e. tt;
      needed_max = λ e. tt;
      needed_min = λ e. tt;
      wide_max = λ e. tt;
      wide_min = λ e. tt;
      below = tt;
    }
