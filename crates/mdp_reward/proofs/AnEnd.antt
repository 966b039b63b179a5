-- A query has an end: its start exists, its path has one, and what that finds meets the rules, so that the check isn't a no.
use Rattle.std.proofs.Common.{◌≡◌, ℕ, ◌<◌, ◌==◌, Bool, List, [], map, is_some, is_none, Result, Ok, Err, Option, refl, sym, subst}
use Rattle.std.specs.{Prelude.{slice_index_or}, List.{All}}
use Rattle.mdp_math.specs.Rational.{ℚ}
use Rattle.mdp_spec.specs.{Mdp.{Mdp, Entry, states_of}, Row.{IsMdp}, Tree.{is_marked}}
use Rattle.mdp_spec.specs.Tree as tree
use Rattle.mdp_rows.specs.{declared.dir.Dir.{Dir}, declared.dir.Dir.TheVariants.{Max, Min}}
use Rattle.mdp_graph.specs.{Choices.{plain_rank, may_fall, first_passing}, Reach.{may_step, row_step}, Meet.{must_step}, Avoid.{keeps}, Sure.{inside_step}}
use Rattle.mdp_graph.specs.Settled.{IsSettled}
use Rattle.mdp_graph.proofs.{Avoiding.{avoid_marks, avoid_choices}, LeftRanks.{settled_left}, Passes.{reached_marks, least_ranks}}
use Rattle.mdp_graph.proofs.{SureSome.{sure_marks, sure_ranks, sure_choices}, Rising.{may_rises, must_rises, row_rises, inside_rises, ways_exist}}
use Rattle.mdp_graph.proofs.Settling.{ranks_exist}
use Rattle.mdp_wide.specs.{declared.too_wide.Part.TheVariants.{Whole}, Term.{WideTerm}}
use Rattle.mdp_policy_iteration.specs.{Iteration.{EndsWith}, Laws.{HasOneEnd, EndsAtBest, first}, Path.{Found, Refusal, path_step}}
use Rattle.mdp_policy_iteration.specs.Queries.{term_of, term_of_check}
use Rattle.mdp_farkas.specs.{Verdict.{verdict_of}, Reward.{reward_checks, MeetsReward}}
use Rattle.mdp_claims.specs.{declared.verdict.Fault.{Fault}, declared.verdict.Verdict.{Verdict}, declared.verdict.Verdict.TheVariants.{Yes, No, Wide}}
use Rattle.mdp_farkas.proofs.RewardRules.{reward_never_no}
use Rattle.mdp_reward.specs.{Laws.{HasRewards}, Problem.{reward_problem}}
use Rattle.mdp_reward.specs.Query.{Answer, split, unmarked, IsMaxStart, IsMinStart, IsStart, policy_rows, rewards_of, AreMinRanks, AreRanks, Held, EndsSo}
use Rattle.mdp_reward.proofs.{Answering.{PassLaws, meets-reward}, Kept.{found-policy}, SomeRounds.{rounds_exist}, Starts.{start-solvable, start-choices}}
use Rattle.mdp_reward.proofs.Values.{reward-nonneg}
use Rattle.mdp_rows.proofs.Queries.Policies.{row-known, row-is}

module _ (m : Mdp) (ok : IsMdp m) (goals : List Bool) where
  -- ---- the start

  max_start : (finite : List Bool) × (start : List ℕ) × (known : List ℕ) × IsMaxStart m goals finite start known
  max_start =
      let n : ℕ = states_of m in
      let w = ranks_exist (must_step m) (is_marked goals) n (must_rises m ok) in
      let avoiding : List Bool = map is_none w.0 in
      let keep : List ℕ = first_passing m (keeps m avoiding) in
      let near : List ℕ = map plain_rank w.0 in
      let v = ranks_exist (may_step m goals) (is_marked avoiding) n (may_rises m ok goals) in
      let infinite : List Bool = map is_some v.0 in
      let far : List ℕ = map plain_rank v.0 in
      let ways = ways_exist m ok goals avoiding v.0 v.1 in (
        unmarked m infinite,
        split m avoiding keep ways.0,
        split m (unmarked m infinite) near far,
        record {
          avoiding = avoiding;
          infinite = infinite;
          keep = keep;
          far = far;
          go = ways.0;
          near = near;
          passes = record {
            avoids = avoid_marks m ok goals w.0 w.1;
            keeps = avoid_choices m ok goals w.0 w.1 avoiding refl keep refl;
            comes = reached_marks (may_step m goals) (is_marked avoiding) n v.0 v.1;
            far_ranks = least_ranks (may_step m goals) (is_marked avoiding) n v.0 v.1;
            goes = ways.1;
            met = map is_some w.0;
            meets = reached_marks (must_step m) (is_marked goals) n w.0 w.1;
            near_ranks = least_ranks (must_step m) (is_marked goals) n w.0 w.1;
          };
          finite_is = refl;
          start_is = refl;
          known_is = refl;
        },
      )

  min_start : (finite : List Bool) × (start : List ℕ) × (known : List ℕ) × IsMinStart m goals finite start known
  min_start =
      let r = rounds_exist m ok goals in
      let inside : List Bool = map (λ (i : ℕ). i == 0) r.0 in
      let w = ranks_exist (inside_step m (is_marked inside)) (is_marked goals) (states_of m) (inside_rises m ok (is_marked inside)) in
      let settled : IsSettled m goals w.0 = settled_left m goals r.0 inside w.0 ok r.1 refl w.1 in
      let finite : List Bool = map is_some w.0 in
      let start : List ℕ = first_passing m (may_fall m finite w.0) in (
        finite,
        start,
        r.0,
        record {
          near = map plain_rank w.0;
          sure = sure_marks m goals w.0 settled;
          near_ranks = sure_ranks m goals w.0 settled;
          choices = sure_choices m goals w.0 settled ok start finite w.0 refl refl refl;
          rounds = r.1;
        },
      )

  start_exists : (dir : Dir) → (finite : List Bool) × (start : List ℕ) × (known : List ℕ) × IsStart dir m goals finite start known
  start_exists Max = max_start
  start_exists Min = min_start

  -- ---- the ranks of what is found

  min_ranks : (finite : List Bool) (known policy : List ℕ) → tree.IsPolicy m policy → (ranks : List ℕ) × AreMinRanks m goals finite known policy ranks
  min_ranks finite known policy is =
      let rows = policy_rows m policy in
      let range : (s : ℕ) → s < states_of m → All (λ y. y.target < states_of m) (slice_index_or rows s []) =
      λ s h. (let row = row-known m policy ok is s h in subst (λ (es : List Entry). All (λ y. y.target < states_of m) es) (sym (row-is m policy s h)) row.in_range) in
      let w = ranks_exist (row_step rows) (is_marked goals) (states_of m) (row_rises rows (states_of m) range) in (
        split m finite (map plain_rank w.0) known,
        record {
          marks = map is_some w.0;
          along = map plain_rank w.0;
          reached = reached_marks (row_step rows) (is_marked goals) (states_of m) w.0 w.1;
          least = least_ranks (row_step rows) (is_marked goals) (states_of m) w.0 w.1;
          ranks_are = refl;
        },
      )

  ranks_for : (dir : Dir) (finite : List Bool) (known policy : List ℕ) → tree.IsPolicy m policy → (ranks : List ℕ) × AreRanks dir m goals finite known policy ranks
  ranks_for Max finite known policy is = (known, refl)
  ranks_for Min finite known policy is = min_ranks finite known policy is

-- ---- the end

held_by : (f : Found) (values : List (Option ℚ)) (ranks : List ℕ) (v : Verdict) → ((fault : Fault) → v ≡ No fault → ⊥) → (q : Result Answer WideTerm) × Held f values ranks v q
held_by f values ranks Yes never = (Ok (record { values = values; choices = f.policy; ranks = ranks }), refl)
held_by f values ranks (Wide state choice) never = (Err (term_of_check Whole f state choice), refl)
held_by f values ranks (No fault) never = absurd (never fault refl)

module _ (one_end : HasOneEnd) (best : EndsAtBest) (laws : PassLaws) (dir : Dir) (m : Mdp) (r : ℕ) (goals : List Bool) (has : HasRewards m r) where
  end_by : (finite : List Bool) (start known : List ℕ) → IsStart dir m goals finite start known → (e : Result Found Refusal)
      → EndsWith (path_step (reward_problem dir m r goals finite)) (first start) e → (q : Result Answer WideTerm) × EndsSo dir m r goals q
  end_by finite start known is (Err w) path =
      (Err (term_of Whole w), record { finite = finite; start = start; known = known; is_start = is; end = Err w; path = path; after = refl })
  end_by finite start known is (Ok f) path =
      let b = best (reward_problem dir m r goals finite) start f (start-solvable dir m r goals finite start known has.model has.none_negative laws.sure laws.avoids is) path in
      let policy = found-policy dir m r goals finite start f.policy f.values (start-choices dir m goals finite start known has.model is) b in
      let w = ranks_for m has.model goals dir finite known f.policy policy in
      let values = rewards_of m finite f.values in
      let rules : MeetsReward dir m r goals values f.policy w.0 = meets-reward dir m r goals finite start known f.policy w.0 f.values has laws is b w.1 in
      let held = held_by f values w.0 (verdict_of (reward_checks dir m r goals values f.policy w.0))
      (reward_never_no m r goals values f.policy w.0 (λ s c. reward-nonneg m r has.none_negative s c) dir rules) in
      (held.0, record { finite = finite; start = start; known = known; is_start = is; end = Ok f; path = path; after = (w.0, w.1, held.1) })

  pub has_an_end : (q : Result Answer WideTerm) × EndsSo dir m r goals q
  has_an_end =
      let s = start_exists m has.model goals dir in
      let path = one_end (reward_problem dir m r goals s.0) s.1 (start-solvable dir m r goals s.0 s.1 s.2 has.model has.none_negative laws.sure laws.avoids s.3) in
      end_by s.0 s.1 s.2 s.3 path.0 path.1
