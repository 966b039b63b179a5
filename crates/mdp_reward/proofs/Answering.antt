-- What the parts of a query make together: the end of the query, and that an answer is right.
use Rattle.std.proofs.Common.{◌≡◌, ℕ, List, Bool, length, Option, Result, Ok, Err, refl, sym, ◌∙◌, ap, subst, if◌then◌else◌}
use Rattle.std.proofs.lemmas.List.FromFn.{length-map-range_with_len}
use Rattle.std.specs.Prelude.{slice_index}
use Rattle.mdp_math.specs.Rational.{ℚ}
use Rattle.mdp_spec.specs.{Mdp.{Mdp, states_of}, Tree.{is_marked}}
use Rattle.mdp_spec.proofs.Reward.{reward_max_of_rules, reward_min_of_rules}
use Rattle.mdp_rows.specs.{declared.dir.Dir.{Dir}, declared.dir.Dir.TheVariants.{Max, Min}}
use Rattle.mdp_graph.specs.Laws.{StaysSure, RestAvoids, RowsFall, RowsStay, RoundsFall, ZeroIsSure}
use Rattle.mdp_wide.specs.{declared.too_wide.Part.TheVariants.{Whole}, Term.{WideTerm}}
use Rattle.mdp_policy_iteration.specs.{Path.{Found, Refusal, path_step}, Laws.{IsBestFrom, EndsAtBest, first}, Iteration.{EndsWith}, Ends.{Ends, error_of_part}}
use Rattle.mdp_policy_iteration.specs.{Queries.{term_of_check, Solves}, Errors.{PathError}}
use Rattle.mdp_wide.specs.declared.unfinished.Unfinished.TheVariants as path
use Rattle.mdp_farkas.specs.{Verdict.{verdict_of}, Reward.{reward_checks, MeetsReward, IsReward}}
use Rattle.mdp_claims.specs.{declared.verdict.Verdict.{Verdict}, declared.verdict.Verdict.TheVariants.{Yes, No, Wide}}
use Rattle.mdp_farkas.proofs.RewardRules.{reward_rules}
use Rattle.mdp_reward.specs.{Problem.{reward_problem}, Query.{Answer, plain, rewards_of, IsStart, AreRanks, Held, AfterPath, EndsSo}}
use Rattle.mdp_reward.specs.Laws.{HasRewards, AnswersMeetRules, AnswersAreGreatest, AnswersAreLeast}
use Rattle.mdp_reward.proofs.{Starts.{start-solvable, start-choices}, Kept.{found-policy}, Certificate.{rewards-len}, MaxRules.{meets-max}}
use Rattle.mdp_reward.proofs.MinRules.{meets-min}

-- what the passes are for
pub record PassLaws : Type 0 where
  pub sure : StaysSure
  pub avoids : RestAvoids
  pub falls : RowsFall
  pub stays : RowsStay
  pub rounds : RoundsFall
  pub zero : ZeroIsSure

pub pass_laws : StaysSure → RestAvoids → RowsFall → RowsStay → RoundsFall → ZeroIsSure → PassLaws
pass_laws sure avoids falls stays rounds zero = record { sure = sure; avoids = avoids; falls = falls; stays = stays; rounds = rounds; zero = zero }

-- ---- what is found meets the rules

pub meets-reward : (dir : Dir) (m : Mdp) (r : ℕ) (goals finite : List Bool) (start known policy ranks : List ℕ) (x : List ℚ) → HasRewards m r → PassLaws
    → IsStart dir m goals finite start known → IsBestFrom (reward_problem dir m r goals finite) start policy x → AreRanks dir m goals finite known policy ranks
    → MeetsReward dir m r goals (rewards_of m finite x) policy ranks
meets-reward Max m r goals finite start known policy ranks x has laws is found same =
    subst (λ (ranks : List ℕ). MeetsReward Max m r goals (rewards_of m finite x) policy ranks) (sym same)
    (meets-max m r goals finite start known policy x has.named has.model has.none_negative is found laws.sure laws.avoids)
meets-reward Min m r goals finite start known policy ranks x has laws is found ranking =
    meets-min m r goals finite start known policy ranks x has.named has.model has.none_negative is found ranking laws.falls laws.stays laws.rounds laws.zero

-- each state has a rank
pub ranks-count : (dir : Dir) (m : Mdp) (goals finite : List Bool) (known policy ranks : List ℕ) → length known ≡ states_of m → AreRanks dir m goals finite known policy ranks
    → length ranks ≡ states_of m
ranks-count Max m goals finite known policy ranks n same = ap length same ∙ n
ranks-count Min m goals finite known policy ranks n ranking =
    ap length ranking.ranks_are
    ∙ length-map-range_with_len (λ s. if is_marked finite s then slice_index ranking.along s else slice_index known s) 0 (states_of m)

-- ---- the end of a query, from that of its path

module _ (dir : Dir) (m : Mdp) (r : ℕ) (goals finite : List Bool) (start known : List ℕ) (is_start : IsStart dir m goals finite start known) where
  pub ends-refused : (e : PathError) → Ends (reward_problem dir m r goals finite) start (Err e) → Solves plain (EndsSo dir m r goals) (Err (error_of_part Whole e))
  ends-refused (path.TooWide w) h = (h.0, h.1, record { finite = finite; start = start; known = known; is_start = is_start; end = _; path = h.2; after = refl })
  ends-refused path.Memory h = tt

  module _ (n : ℕ) (policy ranks : List ℕ) (x : List ℚ)
      (found : EndsWith (path_step (reward_problem dir m r goals finite)) (first start) (Ok (record { number = n; policy = policy; values = x })))
      (are : AreRanks dir m goals finite known policy ranks) where
    abbrev checked : Verdict
    checked = verdict_of (reward_checks dir m r goals (rewards_of m finite x) policy ranks)

    held : (v : Verdict) (q : Result Answer WideTerm) → v ≡ checked → Held (record { number = n; policy = policy; values = x }) (rewards_of m finite x) ranks v q → EndsSo dir m r goals q
    held v q e h = record {
      finite = finite;
      start = start;
      known = known;
      is_start = is_start;
      end = Ok (record { number = n; policy = policy; values = x });
      path = found;
      after = (ranks, are, subst (λ (v : Verdict). Held (record { number = n; policy = policy; values = x }) (rewards_of m finite x) ranks v q) e h);
    }

    pub ends-answered : Yes ≡ checked → EndsSo dir m r goals (Ok (record { values = rewards_of m finite x; choices = policy; ranks = ranks }))
    ends-answered e = held Yes (Ok (record { values = rewards_of m finite x; choices = policy; ranks = ranks })) e refl

    pub ends-wide : (state choice : Option ℕ) → Wide state choice ≡ checked
        → EndsSo dir m r goals (Err (term_of_check Whole (record { number = n; policy = policy; values = x }) state choice))
    ends-wide state choice e = held (Wide state choice) (Err (term_of_check Whole (record { number = n; policy = policy; values = x }) state choice)) e refl

-- ---- an answer is right

held_answer : (f : Found) (values : List (Option ℚ)) (ranks : List ℕ) (a : Answer) (v : Verdict) → Held f values ranks v (Ok a)
    → (v ≡ Yes) × ((let b : Answer = record { values = values; choices = f.policy; ranks = ranks } in b) ≡ a)
held_answer f values ranks a Yes h = (refl, cc)
held_answer f values ranks a (No fault) h = absurd h
held_answer f values ranks a (Wide state choice) h = cc

module _ (dir : Dir) (m : Mdp) (r : ℕ) (goals : List Bool) (a : Answer) (has : HasRewards m r) (best : EndsAtBest) (laws : PassLaws) (end : EndsSo dir m r goals (Ok a)) where
  answer_by : (e : Result Found Refusal) → EndsWith (path_step (reward_problem dir m r goals end.finite)) (first end.start) e → AfterPath dir m r goals end.finite end.known e (Ok a)
      → IsReward dir m r goals a.values a.choices a.ranks
  answer_by (Err w) p h = cc
  answer_by (Ok f) p h =
      let values = rewards_of m end.finite f.values in
      let v = held_answer f values h.0 a (verdict_of (reward_checks dir m r goals values f.policy h.0)) h.2 in
      let b = best (reward_problem dir m r goals end.finite) end.start f
      (start-solvable dir m r goals end.finite end.start end.known has.model has.none_negative laws.sure laws.avoids end.is_start) p in
      let is = found-policy dir m r goals end.finite end.start f.policy f.values (start-choices dir m goals end.finite end.start end.known has.model end.is_start) b in
      subst (λ (a : Answer). IsReward dir m r goals a.values a.choices a.ranks) v.1
      ((reward_rules m r goals values f.policy h.0 dir (verdict_of (reward_checks dir m r goals values f.policy h.0)) has.named (rewards-len m goals end.finite f.values) is.one_each refl).0 v.0)

  answer-meets : IsReward dir m r goals a.values a.choices a.ranks
  answer-meets = answer_by end.end end.path end.after

pub answers_meet : EndsAtBest → PassLaws → AnswersMeetRules
answers_meet best laws dir m r goals a has end = answer-meets dir m r goals a has best laws end

pub answers_are_greatest : AnswersMeetRules → AnswersAreGreatest
answers_are_greatest h m r goals a has end = reward_max_of_rules m r goals a.values a.choices a.ranks has.model (h Max m r goals a has end).rules

pub answers_are_least : AnswersMeetRules → AnswersAreLeast
answers_are_least h m r goals a has end = reward_min_of_rules m r goals a.values a.choices a.ranks has.model (h Min m r goals a has end).rules
