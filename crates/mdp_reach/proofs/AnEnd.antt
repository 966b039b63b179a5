-- A query has an end: its start exists, its path has one, and what that finds meets the rules, so that the check isn't a no.
use Rattle.std.proofs.Common.{◌≡◌, ℕ, ◌<◌, Bool, List, [], map, is_some, is_none, Result, Ok, Err, refl, sym, subst}
use Rattle.std.specs.{Prelude.{slice_index_or}, List.{All}}
use Rattle.mdp_math.specs.Rational.{ℚ}
use Rattle.mdp_spec.specs.{Mdp.{Mdp, Entry, states_of}, Row.{IsMdp}, Tree.{is_marked}}
use Rattle.mdp_spec.specs.Tree as tree
use Rattle.mdp_rows.specs.{declared.dir.Dir.{Dir}, declared.dir.Dir.TheVariants.{Max, Min}}
use Rattle.mdp_graph.specs.{Choices.{plain_rank, first_passing}, Reach.{may_step, row_step}, Meet.{must_step}, Avoid.{keeps}}
use Rattle.mdp_graph.specs.Laws.{RestStays, RowsFall, RowsStay, RestAvoids, RestMeets}
use Rattle.mdp_graph.proofs.{Avoiding.{avoid_marks, avoid_choices}, Passes.{reached_marks, least_ranks}, Rising.{may_rises, must_rises, row_rises, ways_exist}}
use Rattle.mdp_graph.proofs.Settling.{ranks_exist}
use Rattle.mdp_wide.specs.{declared.too_wide.Part.TheVariants.{Whole}, Term.{WideTerm}}
use Rattle.mdp_policy_iteration.specs.{Iteration.{EndsWith}, Laws.{HasOneEnd, EndsAtBest, first}, Path.{Found, Refusal, path_step}}
use Rattle.mdp_policy_iteration.specs.Queries.{term_of, term_of_check}
use Rattle.mdp_farkas.specs.{Verdict.{verdict_of}, Reach.{reach_checks, MeetsReach}}
use Rattle.mdp_claims.specs.{declared.verdict.Fault.{Fault}, declared.verdict.Verdict.{Verdict}, declared.verdict.Verdict.TheVariants.{Yes, No, Wide}}
use Rattle.mdp_farkas.proofs.ReachRules.{reach_never_no}
use Rattle.mdp_reach.specs.{Laws.{HasAnEnd, HasARound}, Problem.{reach_problem}}
use Rattle.mdp_reach.specs.Query.{Answer, none_blocked, policy_rows, ending, IsMaxStart, IsMinStart, IsStart, AreMaxRanks, AreMinRanks, AreRanks, Held, EndsSo}
use Rattle.mdp_reach.specs.Round.{last_round}
use Rattle.mdp_reach.proofs.{Answering.{meets-reach}, Kept.{found-policy}, Starts.{start-solvable, start-choices}}
use Rattle.mdp_rows.proofs.Queries.Policies.{row-known, row-is}

module _ (m : Mdp) (ok : IsMdp m) (goals : List Bool) where
  -- ---- the start

  max_start : (marks : List Bool) × (start : List ℕ) × IsMaxStart m goals marks start
  max_start =
      let step = may_step m (none_blocked m) in
      let w = ranks_exist step (is_marked goals) (states_of m) (may_rises m ok (none_blocked m)) in
      let ways = ways_exist m ok (none_blocked m) goals w.0 w.1 in (
        map is_some w.0,
        ways.0,
        record {
          ranks = map plain_rank w.0;
          reached = reached_marks step (is_marked goals) (states_of m) w.0 w.1;
          least = least_ranks step (is_marked goals) (states_of m) w.0 w.1;
          choices = ways.1;
        },
      )

  min_start : (marks : List Bool) × (start : List ℕ) × IsMinStart m goals marks start
  min_start =
      let w = ranks_exist (must_step m) (is_marked goals) (states_of m) (must_rises m ok) in
      let marks : List Bool = map is_none w.0 in (
        marks,
        first_passing m (keeps m marks),
        record {
          avoids = avoid_marks m ok goals w.0 w.1;
          choices = avoid_choices m ok goals w.0 w.1 marks refl (first_passing m (keeps m marks)) refl;
        },
      )

  start_exists : (dir : Dir) → (marks : List Bool) × (start : List ℕ) × IsStart dir m goals marks start
  start_exists Max = max_start
  start_exists Min = min_start

  -- ---- the ranks of what is found

  max_ranks : (policy : List ℕ) → tree.IsPolicy m policy → (ranks : List ℕ) × AreMaxRanks m goals policy ranks
  max_ranks policy is =
      let rows = policy_rows m policy in
      let range : (s : ℕ) → s < states_of m → All (λ y. y.target < states_of m) (slice_index_or rows s []) =
      λ s h. (let row = row-known m policy ok is s h in subst (λ (es : List Entry). All (λ y. y.target < states_of m) es) (sym (row-is m policy s h)) row.in_range) in
      let w = ranks_exist (row_step rows) (is_marked goals) (states_of m) (row_rises rows (states_of m) range) in (
        map plain_rank w.0,
        record {
          marks = map is_some w.0;
          reached = reached_marks (row_step rows) (is_marked goals) (states_of m) w.0 w.1;
          least = least_ranks (row_step rows) (is_marked goals) (states_of m) w.0 w.1;
        },
      )

  min_ranks : (z : List ℚ) → (ranks : List ℕ) × AreMinRanks m goals z ranks
  min_ranks z =
      let targets : ℕ → Bool = is_marked (ending m goals z) in
      let w = ranks_exist (must_step m) targets (states_of m) (must_rises m ok) in (
        map plain_rank w.0,
        record {
          marks = map is_some w.0;
          reached = reached_marks (must_step m) targets (states_of m) w.0 w.1;
          least = least_ranks (must_step m) targets (states_of m) w.0 w.1;
        },
      )

  ranks_for : (dir : Dir) (policy : List ℕ) (z : List ℚ) → tree.IsPolicy m policy → (ranks : List ℕ) × AreRanks dir m goals z policy ranks
  ranks_for Max policy z is = max_ranks policy is
  ranks_for Min policy z is = min_ranks z

-- ---- the end

held_by : (f : Found) (ranks : List ℕ) (v : Verdict) → ((fault : Fault) → v ≡ No fault → ⊥) → (r : Result Answer WideTerm) × Held f ranks v r
held_by f ranks Yes never = (Ok (record { values = f.values; choices = f.policy; ranks = ranks }), refl)
held_by f ranks (Wide state choice) never = (Err (term_of_check Whole f state choice), refl)
held_by f ranks (No fault) never = absurd (never fault refl)

module _ (one_end : HasOneEnd) (best : EndsAtBest) (rest : RestStays) (falls : RowsFall) (stays : RowsStay) (avoids : RestAvoids) (meets : RestMeets)
    (dir : Dir) (m : Mdp) (goals : List Bool) (ok : IsMdp m) where
  end_by : (marks : List Bool) (start : List ℕ) → IsStart dir m goals marks start → (e : Result Found Refusal) → EndsWith (path_step (reach_problem dir m goals marks)) (first start) e
      → (r : Result Answer WideTerm) × EndsSo dir m goals r
  end_by marks start is (Err w) path = (Err (term_of Whole w), record { marks = marks; start = start; is_start = is; end = Err w; path = path; after = refl })
  end_by marks start is (Ok f) path =
      let b = best (reach_problem dir m goals marks) start f (start-solvable dir m goals marks start ok meets is) path in
      let w = ranks_for m ok goals dir f.policy f.values (found-policy dir m goals marks start f.policy f.values (start-choices dir m goals marks start is) b) in
      let rules : MeetsReach dir m goals f.values f.policy w.0 = meets-reach dir m goals marks start f.policy w.0 f.values ok is b w.1 rest falls stays avoids in
      let held = held_by f w.0 (verdict_of (reach_checks dir m goals f.values f.policy w.0)) (reach_never_no m goals f.values f.policy w.0 dir rules) in
      (held.0, record { marks = marks; start = start; is_start = is; end = Ok f; path = path; after = (w.0, w.1, held.1) })

  pub has_an_end : (r : Result Answer WideTerm) × EndsSo dir m goals r
  has_an_end =
      let s = start_exists m ok goals dir in
      let path = one_end (reach_problem dir m goals s.0) s.1 (start-solvable dir m goals s.0 s.1 ok meets s.2) in
      end_by s.0 s.1 s.2 path.0 path.1

pub has_a_round : HasAnEnd → HasARound
has_a_round ends dir m goals ok = let e = ends dir m goals ok in let so : EndsSo dir m goals e.0 = e.1 in (last_round so.end, e.0, record { ends = so; round = refl })
