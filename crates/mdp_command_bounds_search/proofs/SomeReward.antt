-- Bounds of rewards until a goal exist that are as near as any digits say, unless the exact query is too wide: its answer, or where it is too wide 0 and
-- infinite.
use Rattle.std.proofs.Common.{◌≡◌, ◌⊎◌, inl, inr, ℕ, ◌≤◌, Bool, true, false, List, length, map, slice_index, is_some, Option, Some, None, Result, Ok, Err, refl}
use Rattle.std.proofs.Common.{sym, subst, if◌then◌else◌, arith, lit<}
use Rattle.std.proofs.lemmas.{Bool.{cases_lt}, List.{get_or_past}, List.Elements.{All-get_or, All-map, All-from_get_or}}
use Rattle.std.specs.List.{All, range_with_len}
use Rattle.mdp_math.specs.Rational.{ℚ}
use Rattle.mdp_num.specs.Value.{IsNarrow}
use Rattle.mdp_spec.specs.{Bounds.{reward_at}, Mdp.{Mdp, states_of}, Tree.{is_marked}}
use Rattle.mdp_spec.specs.Tree as tree
use Rattle.mdp_rows.specs.{Limits.{IsModel}, declared.dir.Dir.{Dir}, declared.dir.Dir.TheVariants.{Max, Min}}
use Rattle.mdp_rows.proofs.Queries.Policies.{chosen_rows}
use Rattle.mdp_wide.specs.Term.{WideTerm}
use Rattle.mdp_farkas.specs.{Compare.{0ℚ}, Verdict.{verdict_of}, Reward.{MeetsReward, reward_checks, IsReward}}
use Rattle.mdp_claims.specs.{declared.verdict.Verdict.{Verdict}, declared.verdict.Verdict.TheVariants.{Yes, No, Wide}}
use Rattle.mdp_graph.specs.{Choices.{plain_rank}, Meet.{must_step}, Reach.{may_step, row_step}}
use Rattle.mdp_graph.proofs.{Passes.{reached_marks, least_ranks}, Rising.{may_rises, must_rises}, Settling.{ranks_exist}}
use Rattle.mdp_policy_iteration.specs.{Iteration.{EndsWith}, Laws.{EndsAtBest, first}, Path.{Found, Refusal, path_step}}
use Rattle.mdp_reward.specs.{Laws.{HasRewards, HasAnEnd, AnswersMeetRules}, Problem.{reward_problem}}
use Rattle.mdp_reward.specs.Query.{Answer, split, rewards_of, IsStart, AreRanks, Held, AfterPath, EndsSo}
use Rattle.mdp_reward.proofs.{Answering.{PassLaws, ranks-count}, Kept.{found-policy}, Starts.{start-solvable, start-choices, start-known}}
use Rattle.mdp_cert.specs.Cert.{IsValueNarrow}
use Rattle.mdp_bounds.specs.Reward.{IsRewardBounds}
use Rattle.mdp_bounds.proofs.RewardExact.{reward_of_exact}
use Rattle.mdp_search_bounds.specs.{Near.{AreRewardsNear}, Values.{zero_by, zeros_of}, Wide.{IsRewardWide}}
use Rattle.mdp_search_bounds.proofs.{Accepted.{reward-accepted}, Nearness.{rewards_near_each}, TrivialBounds.{reward-trivial}, Zeros.{zeros-len}}
use Rattle.mdp_command_bounds_search.proofs.{ExactWidth.{reward_narrow}, FewSteps.{few_ranks, few_rounds}, Narrow.{whole_narrow}, ShortLists.{AreShort, policy_short, ranks_short, policy_rises, few_along}}

pub record SomeReward (digits : ℕ) (dir : Dir) (m : Mdp) (r : ℕ) (goals : List Bool) : Type 0 where
  pub lower : List (Option ℚ)
  pub upper : List (Option ℚ)
  pub choices : List ℕ
  pub ranks : List ℕ
  pub rules : IsRewardBounds dir m r goals lower upper choices ranks
  pub lower_each : length lower ≡ states_of m
  pub upper_each : length upper ≡ states_of m
  pub choices_each : length choices ≡ states_of m
  pub ranks_each : length ranks ≡ states_of m
  pub width : All IsValueNarrow lower × All IsValueNarrow upper × AreShort choices × AreShort ranks
  pub near : AreRewardsNear digits m lower upper ⊎ IsRewardWide dir m r goals

-- ---- ranks

rank_few : (n s : ℕ) (ranks : List ℕ) → All (λ r. r ≤ n) ranks → slice_index ranks s ≤ n
rank_few n s ranks each = elim (cases_lt s (length ranks)) [
  | inl l ↦ All-get_or (λ r. r ≤ n) ranks s 0 l each
  | inr past ↦ (let e = get_or_past ranks s 0 past in omega (arith, e))
]

pick_few : (n a b : ℕ) (c : Bool) → a ≤ n → b ≤ n → (if c then a else b) ≤ n
pick_few n a b true h k = h
pick_few n a b false h k = k

split_few : (m : Mdp) (n : ℕ) (marks : List Bool) (inside outside : List ℕ) → All (λ r. r ≤ n) inside → All (λ r. r ≤ n) outside → All (λ r. r ≤ n) (split m marks inside outside)
split_few m n marks inside outside a b =
    let at : ℕ → ℕ = λ s. if is_marked marks s then slice_index inside s else slice_index outside s in
    All-map (λ r. r ≤ n) at (range_with_len 0 (states_of m)) (All-from_get_or (λ s. at s ≤ n) (range_with_len 0 (states_of m)) 0 (λ i l.
    pick_few n _ _ (is_marked marks _) (rank_few n _ inside a) (rank_few n _ outside b)))

module _ (m : Mdp) (model : IsModel m) (goals : List Bool) where
  known_few : (dir : Dir) (finite : List Bool) (start known : List ℕ) → IsStart dir m goals finite start known → All (λ r. r ≤ states_of m) known
  known_few Max finite start known is =
      subst (All (λ r. r ≤ states_of m)) (sym is.known_is)
      (split_few m (states_of m) finite is.near is.far
      (few_ranks (must_step m) (is_marked goals) (states_of m) (must_rises m model.mdp) is.passes.met is.near is.passes.near_ranks)
      (few_ranks (may_step m goals) (is_marked is.avoiding) (states_of m) (may_rises m model.mdp goals) is.infinite is.far is.passes.far_ranks))
  known_few Min finite start known is = few_rounds m model.mdp goals known is.rounds

  few : (dir : Dir) (finite : List Bool) (start known policy ranks : List ℕ) → IsStart dir m goals finite start known → tree.IsPolicy m policy
      → AreRanks dir m goals finite known policy ranks → AreShort ranks
  few Max finite start known policy ranks is takes same =
      ranks_short m ranks model.mdp (subst (All (λ r. r ≤ states_of m)) (sym same) (known_few Max finite start known is))
  few Min finite start known policy ranks is takes are =
      ranks_short m ranks model.mdp
      (subst (All (λ r. r ≤ states_of m)) (sym are.ranks_are)
      (split_few m (states_of m) finite are.along known (few_along m model.mdp policy takes goals are.marks are.along are.least) (known_few Min finite start known is)))

  -- ranks along the start
  start_ranks : (dir : Dir) (finite : List Bool) (known policy : List ℕ) → tree.IsPolicy m policy → (ranks : List ℕ) × AreRanks dir m goals finite known policy ranks
  start_ranks Max finite known policy is = (known, refl)
  start_ranks Min finite known policy is =
      let step = row_step (chosen_rows m policy) in
      let w = ranks_exist step (is_marked goals) (states_of m) (policy_rises m model.mdp policy is) in (
        split m finite (map plain_rank w.0) known,
        record {
          marks = map is_some w.0;
          along = map plain_rank w.0;
          reached = reached_marks step (is_marked goals) (states_of m) w.0 w.1;
          least = least_ranks step (is_marked goals) (states_of m) w.0 w.1;
          ranks_are = refl;
        },
      )

  -- ---- an answer

  held_answer : (f : Found) (values : List (Option ℚ)) (ranks : List ℕ) (a : Answer) (v : Verdict) → Held f values ranks v (Ok a)
      → (let b : Answer = record { values = values; choices = f.policy; ranks = ranks } in b) ≡ a
  held_answer f values ranks a Yes h = cc
  held_answer f values ranks a (No fault) h = absurd h
  held_answer f values ranks a (Wide state choice) h = cc

  record Shaped (a : Answer) : Type 0 where
    count : length a.ranks ≡ states_of m
    ranks : AreShort a.ranks

  module _ (r : ℕ) (best : EndsAtBest) (laws : PassLaws) (has : HasRewards m r) (dir : Dir) where
    module _ (a : Answer) (end : EndsSo dir m r goals (Ok a)) where
      shape_by : (e : Result Found Refusal) → EndsWith (path_step (reward_problem dir m r goals end.finite)) (first end.start) e
          → AfterPath dir m r goals end.finite end.known e (Ok a) → Shaped a
      shape_by (Err w) p h = cc
      shape_by (Ok f) p h =
          let values = rewards_of m end.finite f.values in
          let b = best (reward_problem dir m r goals end.finite) end.start f
          (start-solvable dir m r goals end.finite end.start end.known has.model has.none_negative laws.sure laws.avoids end.is_start) p in
          let is = found-policy dir m r goals end.finite end.start f.policy f.values (start-choices dir m goals end.finite end.start end.known has.model end.is_start) b in
          subst Shaped (held_answer f values h.0 a (verdict_of (reward_checks dir m r goals values f.policy h.0)) h.2) (record {
            count = ranks-count dir m goals end.finite end.known f.policy h.0 (start-known dir m goals end.finite end.start end.known has.model end.is_start) h.1;
            ranks = few dir end.finite end.start end.known f.policy h.0 end.is_start is h.1;
          })

      shape : Shaped a
      shape = shape_by end.end end.path end.after

    value_narrow : (o : Option ℚ) → ((x : ℚ) → o ≡ Some x → IsNarrow x) → IsValueNarrow o
    value_narrow None h = tt
    value_narrow (Some x) h = h x refl

    record Sized (a : Answer) : Type 0 where
      values : length a.values ≡ states_of m
      takes : tree.IsPolicy m a.choices

    sized : (d : Dir) (a : Answer) → MeetsReward d m r goals a.values a.choices a.ranks → Sized a
    sized Max a h = record { values = h.one_each; takes = h.choices }
    sized Min a h = record { values = h.one_each; takes = h.choices }

    exact_bounds : (digits : ℕ) (a : Answer) → IsReward dir m r goals a.values a.choices a.ranks → Shaped a → SomeReward digits dir m r goals
    exact_bounds digits a is shape =
        let size = sized dir a is.rules in
        let narrow : All IsValueNarrow a.values =
        All-from_get_or IsValueNarrow a.values (Some 0ℚ) (λ s l.
        let c = size.values in
        value_narrow (reward_at a.values s) (λ x e. reward_narrow m model r goals a.values a.choices a.ranks dir is s x (omega (arith, l, c)) e)) in
        record {
          lower = a.values;
          upper = a.values;
          choices = a.choices;
          ranks = a.ranks;
          rules = reward_of_exact dir m r goals a.values a.values a.choices a.ranks refl is;
          lower_each = size.values;
          upper_each = size.values;
          choices_each = size.takes.one_each;
          ranks_each = shape.count;
          width = (narrow, narrow, policy_short m a.choices model size.takes, shape.ranks);
          near = inl (rewards_near_each digits m a.values a.values refl);
        }

    -- ---- 0 and infinite

    zero_narrow : (b : Bool) → IsValueNarrow (let o : Option ℚ = if b then Some 0ℚ else None in o)
    zero_narrow true = whole_narrow 0 (lit< tt)
    zero_narrow false = tt

    zeros_narrow : (marks : List Bool) → All IsValueNarrow (zeros_of (states_of m) marks)
    zeros_narrow marks =
        All-map IsValueNarrow (zero_by marks) (range_with_len 0 (states_of m))
        (All-from_get_or (λ s. IsValueNarrow (zero_by marks s)) (range_with_len 0 (states_of m)) 0 (λ i l. zero_narrow (is_marked marks _)))

    trivial_bounds : (digits : ℕ) (finite : List Bool) (start known : List ℕ) → IsStart dir m goals finite start known → IsRewardWide dir m r goals
        → SomeReward digits dir m r goals
    trivial_bounds digits finite start known is wide =
        let takes = start-choices dir m goals finite start known has.model is in
        let ranks = start_ranks dir finite known start takes in
        let lower : List (Option ℚ) = zeros_of (states_of m) finite in
        let upper : List (Option ℚ) = zeros_of (states_of m) goals in
        let t = reward-trivial dir m r goals finite start known ranks.0 has.model has.none_negative laws is ranks.1 in
        record {
          lower = lower;
          upper = upper;
          choices = start;
          ranks = ranks.0;
          rules = reward-accepted dir m r goals lower upper start ranks.0 has.model has.named (zeros-len m finite) (zeros-len m goals) t;
          lower_each = zeros-len m finite;
          upper_each = zeros-len m goals;
          choices_each = takes.one_each;
          ranks_each = ranks-count dir m goals finite known start ranks.0 (start-known dir m goals finite start known has.model is) ranks.1;
          width = (zeros_narrow finite, zeros_narrow goals, policy_short m start model takes, few dir finite start known start ranks.0 is takes ranks.1);
          near = inr wide;
        }

    module _ (ends : HasAnEnd) (rules : AnswersMeetRules) (digits : ℕ) where
      by_end : (q : Result Answer WideTerm) → EndsSo dir m r goals q → SomeReward digits dir m r goals
      by_end (Ok a) e = exact_bounds digits a (rules dir m r goals a has e) (shape a e)
      by_end (Err w) e = trivial_bounds digits e.finite e.start e.known e.is_start (w, e)

      pub some_reward : SomeReward digits dir m r goals
      some_reward = let e = ends dir m r goals has in by_end e.0 e.1
