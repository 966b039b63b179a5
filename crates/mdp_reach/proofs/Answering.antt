-- What the parts of a query make together: the end of the query, and that an answer is right.
use Rattle.std.proofs.Common.{◌≡◌, ℕ, List, Bool, length, Option, Result, Ok, Err, refl, subst}
use Rattle.mdp_math.specs.Rational.{ℚ}
use Rattle.mdp_spec.specs.{Mdp.{Mdp, states_of}, Row.{IsMdp}}
use Rattle.mdp_spec.proofs.Reach.{reach_max_of_rules, reach_min_of_rules}
use Rattle.mdp_rows.specs.{declared.dir.Dir.{Dir}, declared.dir.Dir.TheVariants.{Max, Min}}
use Rattle.mdp_graph.specs.Laws.{RestStays, RowsFall, RowsStay, RestAvoids, RestMeets}
use Rattle.mdp_wide.specs.{declared.too_wide.Part.TheVariants.{Whole}, Term.{WideTerm}}
use Rattle.mdp_policy_iteration.specs.{Path.{Found, Refusal, path_step}, Laws.{IsBestFrom, EndsAtBest, first}, Iteration.{EndsWith}, Ends.{Ends, error_of_part}}
use Rattle.mdp_policy_iteration.specs.{Queries.{term_of_check}, Errors.{PathError}}
use Rattle.mdp_wide.specs.declared.unfinished.Unfinished.TheVariants as path
use Rattle.mdp_farkas.specs.{Verdict.{verdict_of}, Reach.{reach_checks, MeetsReach, IsReach}}
use Rattle.mdp_claims.specs.{declared.verdict.Verdict.{Verdict}, declared.verdict.Verdict.TheVariants.{Yes, No, Wide}}
use Rattle.mdp_farkas.proofs.ReachRules.{reach_rules}
use Rattle.mdp_reach.specs.{Problem.{reach_problem}, Query.{Answer, IsStart, AreRanks, Held, AfterPath, EndsSo}, Round.{EndsWithRound, SolvesToEnd}}
use Rattle.mdp_reach.specs.Laws.{AnswersMeetRules, AnswersAreGreatest, AnswersAreLeast}
use Rattle.mdp_reach.proofs.{Starts.{start-solvable, start-choices}, Kept.{found-policy}, MaxRules.{meets-max}, MinRules.{meets-min}}

-- ---- what is found meets the rules

pub meets-reach : (dir : Dir) (m : Mdp) (goals marks : List Bool) (start policy ranks : List ℕ) (x : List ℚ) → IsMdp m → IsStart dir m goals marks start
    → IsBestFrom (reach_problem dir m goals marks) start policy x → AreRanks dir m goals x policy ranks → RestStays → RowsFall → RowsStay → RestAvoids
    → MeetsReach dir m goals x policy ranks
meets-reach Max m goals marks start policy ranks x model s found along rest falls stays avoids = meets-max m goals marks start policy ranks x model s found along rest falls stays
meets-reach Min m goals marks start policy ranks x model s found meet rest falls stays avoids = meets-min m goals marks start policy ranks x model s found meet avoids

-- each state has a rank
pub ranks-count : (dir : Dir) (m : Mdp) (goals : List Bool) (x : List ℚ) (policy ranks : List ℕ) → AreRanks dir m goals x policy ranks → length ranks ≡ states_of m
ranks-count Max m goals x policy ranks are = are.least.count
ranks-count Min m goals x policy ranks are = are.least.count

-- ---- the end of a query, from that of its path

module _ (dir : Dir) (m : Mdp) (goals marks : List Bool) (start : List ℕ) (is_start : IsStart dir m goals marks start) where
  pub ends-refused : (e : PathError) → Ends (reach_problem dir m goals marks) start (Err e) → SolvesToEnd dir m goals (Err (error_of_part Whole e))
  ends-refused (path.TooWide w) h = (h.0, h.1, record { ends = record { marks = marks; start = start; is_start = is_start; end = _; path = h.2; after = refl }; round = refl })
  ends-refused path.Memory h = tt

  module _ (n : ℕ) (policy ranks : List ℕ) (x : List ℚ)
      (found : EndsWith (path_step (reach_problem dir m goals marks)) (first start) (Ok (record { number = n; policy = policy; values = x }))) (are : AreRanks dir m goals x policy ranks) where
    abbrev checked : Verdict
    checked = verdict_of (reach_checks dir m goals x policy ranks)

    held : (v : Verdict) (r : Result Answer WideTerm) → v ≡ checked → Held (record { number = n; policy = policy; values = x }) ranks v r → EndsWithRound dir m goals n r
    held v r e h = record {
      ends = record {
        marks = marks;
        start = start;
        is_start = is_start;
        end = Ok (record { number = n; policy = policy; values = x });
        path = found;
        after = (ranks, are, subst (λ (v : Verdict). Held (record { number = n; policy = policy; values = x }) ranks v r) e h);
      };
      round = refl;
    }

    pub ends-answered : Yes ≡ checked → EndsWithRound dir m goals n (Ok (record { values = x; choices = policy; ranks = ranks }))
    ends-answered e = held Yes (Ok (record { values = x; choices = policy; ranks = ranks })) e refl

    pub ends-wide : (state choice : Option ℕ) → Wide state choice ≡ checked
        → EndsWithRound dir m goals n (Err (term_of_check Whole (record { number = n; policy = policy; values = x }) state choice))
    ends-wide state choice e = held (Wide state choice) (Err (term_of_check Whole (record { number = n; policy = policy; values = x }) state choice)) e refl

-- ---- an answer is right

held_answer : (f : Found) (ranks : List ℕ) (a : Answer) (v : Verdict) → Held f ranks v (Ok a)
    → (v ≡ Yes) × ((let b : Answer = record { values = f.values; choices = f.policy; ranks = ranks } in b) ≡ a)
held_answer f ranks a Yes h = (refl, cc)
held_answer f ranks a (No fault) h = absurd h
held_answer f ranks a (Wide state choice) h = cc

module _ (dir : Dir) (m : Mdp) (goals : List Bool) (a : Answer) (model : IsMdp m) (best : EndsAtBest) (rest : RestStays) (falls : RowsFall) (stays : RowsStay) (avoids : RestAvoids)
    (meets : RestMeets)
    (end : EndsSo dir m goals (Ok a)) where
  answer_by : (e : Result Found Refusal) → EndsWith (path_step (reach_problem dir m goals end.marks)) (first end.start) e → AfterPath dir m goals e (Ok a)
      → IsReach dir m goals a.values a.choices a.ranks
  answer_by (Err w) p h = cc
  answer_by (Ok f) p h =
      let v = held_answer f h.0 a (verdict_of (reach_checks dir m goals f.values f.policy h.0)) h.2 in
      let b = best (reach_problem dir m goals end.marks) end.start f (start-solvable dir m goals end.marks end.start model meets end.is_start) p in
      let is = found-policy dir m goals end.marks end.start f.policy f.values (start-choices dir m goals end.marks end.start end.is_start) b in
      subst (λ (a : Answer). IsReach dir m goals a.values a.choices a.ranks) v.1
      ((reach_rules m goals f.values f.policy h.0 dir (verdict_of (reach_checks dir m goals f.values f.policy h.0)) is.one_each refl).0 v.0)

  pub answer-meets : IsReach dir m goals a.values a.choices a.ranks
  answer-meets = answer_by end.end end.path end.after

pub answers_are_greatest : AnswersMeetRules → AnswersAreGreatest
answers_are_greatest h m goals a model end = reach_max_of_rules m goals a.values a.choices a.ranks model (h Max m goals a model end).rules

pub answers_are_least : AnswersMeetRules → AnswersAreLeast
answers_are_least h m goals a model end = reach_min_of_rules m goals a.values a.choices a.ranks model (h Min m goals a model end).rules
