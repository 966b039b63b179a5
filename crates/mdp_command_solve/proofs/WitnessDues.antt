-- Laws of what is due, from those of the query.
use Rattle.std.proofs.Common.{◌≡◌, ℕ, ◌<◌, Bool, List, Option, Some, None, Result, Ok, Err, refl, sym, ap, subst, ◌∙◌}
use Rattle.std.specs.Prelude.{option_map}
use Rattle.mdp_math.specs.Rational.{ℚ}
use Rattle.mdp_spec.specs.{Labels.{marks_of, initial_of}, Mdp.{Mdp}, Row.{IsMdp}}
use Rattle.mdp_rows.specs.{declared.dir.Dir.{Dir}, declared.dir.Dir.TheVariants.{Max, Min}}
use Rattle.mdp_cert.specs.Spelling.{text_of}
use Rattle.mdp_check.specs.Check.{way_by}
use Rattle.mdp_job.specs.Refusal as job
use Rattle.mdp_command.specs.Said.{Said}
use Rattle.mdp_witness.specs.Query.{PlainSubsystem, Refusal, below, too_wide, EndsSo}
use Rattle.mdp_witness.specs.Laws as query
use Rattle.mdp_witness.specs.Shown as shown
use Rattle.mdp_command_solve.specs.{Ways.{place_on_way, goals_by}, Laws.{IsBest}, WitnessCertificate.{certificate_of}, WitnessDue.{said_of_end, IsDueAt, IsWitnessDue}}
use Rattle.mdp_command_solve.specs.{WitnessLaws.{IsDueOnce, IsBelow}, WitnessShown.{IsWitnessOf}}
use Rattle.mdp_text.proofs.InitialState.{initial_below}
use Rattle.mdp_command_solve.proofs.{OnWay.{marks_each, way_states, way_is_mdp}, Solved.{best_on_way}, WitnessPrinting.{is_witness, witness_of}}

-- the best probabilities of the search are those of the laws
best_is : (dir : Dir) (m : Mdp) (goals : List Bool) (z : List ℚ) (policy : List ℕ) → shown.IsBest dir m goals z policy → IsBest dir None m goals z policy
best_is Max m goals z policy best = best
best_is Min m goals z policy best = best

module _ (dir : Dir) (stay : Option (List ℕ)) (label : List ℕ) (threshold : ℚ) where
  -- ---- once

  once_at : query.HasOneEnd → (m : Mdp) (l start : Option ℕ) (said again : Said) → IsDueAt dir stay label threshold m l start said → IsDueAt dir stay label threshold m l start again → said ≡ again
  once_at one m None start said again a b = a ∙ sym b
  once_at one m (Some l) None said again a b = a ∙ sym b
  once_at one m (Some l) (Some start) said again a b =
      a.2 ∙ ap (said_of_end dir stay label threshold start m) (sym (one dir (way_by m (marks_of m l) stay) (marks_of m l) start threshold a.0 b.0 a.1 b.1)) ∙ sym b.2

  -- ---- a text, or a value

  found_of : (m : Mdp) (start : ℕ) (end : Result PlainSubsystem Refusal) (text : List ℕ) → (let said : Said = Ok text in said) ≡ said_of_end dir stay label threshold start m end
      → (found : PlainSubsystem) × (end ≡ Ok found) × (text ≡ text_of (certificate_of dir stay label threshold start m found))
  found_of m start (Ok found) text e = (found, refl, cc)
  found_of m start (Err (below v)) text e = cc
  found_of m start (Err (too_wide w)) text e = cc

  below_of : (m : Mdp) (start : ℕ) (end : Result PlainSubsystem Refusal) (v : ℚ) → (let said : Said = Err (job.below v) in said) ≡ said_of_end dir stay label threshold start m end
      → end ≡ Err (below v)
  below_of m start (Ok found) v e = cc
  below_of m start (Err (below w)) v e = let same : w ≡ v = cc in ap (λ (x : ℚ). let r : Result PlainSubsystem Refusal = Err (below x) in r) same
  below_of m start (Err (too_wide w)) v e = cc

  module _ (m : Mdp) (mdp : IsMdp m) where
    module _ (holds : query.FoundHold) (sub_max : query.FoundReachMax) (sub_min : query.FoundReachMin) (policy : query.PoliciesReach) (needed_max : query.FoundNeededMax)
        (needed_min : query.FoundNeededMin) (wide_max : query.FoundMarkedMax) (wide_min : query.FoundMarkedMin) (text : List ℕ) where
      text_at : (l start : Option ℕ) → place_on_way m stay label ≡ l → initial_of m ≡ start → IsDueAt dir stay label threshold m l start (Ok text) → IsWitnessOf dir stay label threshold m text
      text_at None start named initial due = cc
      text_at (Some l) None named initial due = cc
      text_at (Some l) (Some start) named initial due =
          let goals = marks_of m l in
          let way = way_by m goals stay in
          let known = way_is_mdp m goals stay mdp in
          let found = found_of m start due.0 text due.2 in
          let end : EndsSo dir way goals start threshold (Ok found.0) = subst (EndsSo dir way goals start threshold) found.1 due.1 in
          let named_so : goals_by m stay label ≡ Some goals = ap (option_map (marks_of m)) named in
          let each = marks_each m stay label goals named_so ∙ sym (way_states m goals stay) in
          let inside = subst (λ (n : ℕ). start < n) (sym (way_states m goals stay)) (initial_below m start initial) in
          witness_of dir stay label threshold m goals start named_so initial found.0
          (is_witness m mdp stay goals start threshold found.0 way refl dir end (holds dir way goals start threshold found.0 known each inside end)
          (sub_max dir way goals start threshold found.0 known each inside end)
          (sub_min dir way goals start threshold found.0 known each inside end) (policy dir way goals start threshold found.0 known each inside end)
          (needed_max dir way goals start threshold found.0 known each inside end) (needed_min dir way goals start threshold found.0 known each inside end)
          (wide_max dir way goals start threshold found.0 known each inside end) (wide_min dir way goals start threshold found.0 known each inside end)) text found.2

      pub text_is_witness : IsWitnessDue dir stay label threshold m (Ok text) → IsWitnessOf dir stay label threshold m text
      text_is_witness due = text_at (place_on_way m stay label) (initial_of m) refl refl due

    module _ (best : query.BelowIsBest) (v : ℚ) where
      below_at : (l start : Option ℕ) → place_on_way m stay label ≡ l → initial_of m ≡ start → IsDueAt dir stay label threshold m l start (Err (job.below v)) → IsBelow dir stay label threshold m v
      below_at None start named initial due = cc
      below_at (Some l) None named initial due = cc
      below_at (Some l) (Some start) named initial due =
          let goals = marks_of m l in
          let way = way_by m goals stay in
          let b = best dir way goals start threshold v (way_is_mdp m goals stay mdp) (subst (EndsSo dir way goals start threshold) (below_of m start due.0 v due.2) due.1) in
          record {
            place = l;
            named = named;
            start = start;
            initial = initial;
            values = b.values;
            policy = b.policy;
            best = best_on_way m mdp dir stay goals b.values b.policy (best_is dir way goals b.values b.policy b.best);
            value = b.value;
            less = b.less;
          }

      pub below_is_best : IsWitnessDue dir stay label threshold m (Err (job.below v)) → IsBelow dir stay label threshold m v
      below_is_best due = below_at (place_on_way m stay label) (initial_of m) refl refl due

pub due_once : query.HasOneEnd → IsDueOnce
due_once one dir stay label threshold m said again a b = once_at dir stay label threshold one m (place_on_way m stay label) (initial_of m) said again a b
