-- One thing is due to a query, a text that is due is an answer, and one that is printed is accepted.
use Rattle.std.proofs.Common.{◌≡◌, ℕ, Bool, true, false, List, [], Option, Some, None, Result, Ok, Err, refl, sym, ap, ◌∙◌}
use Rattle.std.proofs.lemmas.List.Quantifiers.{position-Some}
use Rattle.std.specs.Str.{bytes_eq}
use Rattle.mdp_math.specs.Rational.{ℚ}
use Rattle.mdp_spec.specs.{Labels.{place_of, marks_of}, Mdp.{Mdp}, Row.{IsMdp}}
use Rattle.mdp_spec.proofs.Until.{until_max_exact, until_min_exact}
use Rattle.mdp_rows.specs.{Limits.{IsModel}, Negative.{has_negative}, declared.dir.Dir.{Dir}, declared.dir.Dir.TheVariants.{Max, Min}}
use Rattle.mdp_rows.specs.declared.rule.RowRule.{RowRule}
use Rattle.mdp_wide.specs.Term.{WideTerm}
use Rattle.mdp_reach.specs.{Query.{Answer, EndsSo}, Laws.{AnswersMeetRules, AnswersAreGreatest, AnswersAreLeast}}
use Rattle.mdp_reach.proofs.OneEnd.{one_query_end}
use Rattle.mdp_reward.proofs.OneEnd as reward_end
use Rattle.mdp_reward.specs.Laws as reward_law
use Rattle.mdp_reward.specs.Query as rewarded
use Rattle.mdp_mean.specs.Laws as mean_law
use Rattle.mdp_mean.specs.Query as averaged
use Rattle.mdp_cert.specs.Cert as certificate
use Rattle.mdp_cert.specs.Cert.{PlainClaim}
use Rattle.mdp_check.specs.Check.{stay_marks, way_by}
use Rattle.mdp_job.specs.Job.{reach, until, reward, mean}
use Rattle.mdp_command.specs.{Accepted.{IsTrueClaim}, Said.{Said}, Shown.{IsShownOf}}
use Rattle.mdp_command.proofs.TrueClaims.{true_claim_of}
use Rattle.mdp_command.specs.Accepted.{exact}
use Rattle.mdp_command_solve.specs.Ways.{place_on_way}
use Rattle.mdp_command_solve.specs.Due.{said_of_end, said_of_reward_end, said_of_mean_end, IsReachDue, IsRewardEnd, IsRewardDue, IsMeanDue}
use Rattle.mdp_command_solve.specs.Laws.{IsDueOnce, TextIsAccepted, TextIsAnswer, UntilTextIsAnswer, RewardTextIsAnswer, MeanTextIsAnswer}
use Rattle.mdp_command_solve.specs.Laws.{IsBest, IsAnswerTo, IsBestReward, IsRewardAnswerTo, IsBestMean, IsMeanAnswerTo}
use Rattle.mdp_command_solve.specs.Solved.{IsClaimPrinted}
use Rattle.mdp_command_solve.proofs.OnWay.{way_is_mdp}

-- ---- one thing is due

reach_once : (dir : Dir) (stay : Option (List ℕ)) (label : List ℕ) (m : Mdp) (found : Option ℕ) (said again : Said) → IsReachDue dir stay label m found said
    → IsReachDue dir stay label m found again → said ≡ again
reach_once dir stay label m None said again d e = d ∙ sym e
reach_once dir stay label m (Some l) said again d e =
    d.2 ∙ ap (said_of_end dir stay label m) (one_query_end dir (way_by m (marks_of m l) stay) (marks_of m l) e.0 d.0 e.1 d.1) ∙ sym e.2

end_once : (dir : Dir) (name label : List ℕ) (m : Mdp) (r l : ℕ) (negative : Bool) (said again : Said) → IsRewardEnd dir name label m r l negative said
    → IsRewardEnd dir name label m r l negative again → said ≡ again
end_once dir name label m r l true said again d e = d ∙ sym e
end_once dir name label m r l false said again d e =
    d.2 ∙ ap (said_of_reward_end dir name label m) (reward_end.one_query_end dir m r (marks_of m l) e.0 d.0 e.1 d.1) ∙ sym e.2

reward_once : (dir : Dir) (name label : List ℕ) (m : Mdp) (named found : Option ℕ) (said again : Said) → IsRewardDue dir name label m named found said
    → IsRewardDue dir name label m named found again → said ≡ again
reward_once dir name label m None found said again d e = d ∙ sym e
reward_once dir name label m (Some r) None said again d e = d ∙ sym e
reward_once dir name label m (Some r) (Some l) said again d e = end_once dir name label m r l (has_negative m r) said again d e

has_reward : (name : List ℕ) (m : Mdp) (r : ℕ) → IsModel m → place_of name m.names ≡ Some r → mean_law.HasReward m r
has_reward name m r model named = record { model = model; named = (position-Some (bytes_eq name) m.names r [] named).0 }

mean_once : mean_law.HasOneEnd → (dir : Dir) (name : List ℕ) (m : Mdp) → IsModel m → (named : Option ℕ) → place_of name m.names ≡ named → (said again : Said) → IsMeanDue dir name m named said
    → IsMeanDue dir name m named again → said ≡ again
mean_once one_end dir name m model None is said again d e = d ∙ sym e
mean_once one_end dir name m model (Some r) is said again d e = d.2 ∙ ap (said_of_mean_end dir name m) (one_end dir m r e.0 d.0 (has_reward name m r model is) e.1 d.1) ∙ sym e.2

pub query_once : mean_law.HasOneEnd → IsDueOnce
query_once one_end dir (reach label) m said again model d e = reach_once dir None label m (place_on_way m None label) said again d e
query_once one_end dir (until stay label) m said again model d e = reach_once dir (Some stay) label m (place_on_way m (Some stay) label) said again d e
query_once one_end dir (reward name label) m said again model d e = reward_once dir name label m (place_of name m.names) (place_of label m.labels) said again d e
query_once one_end dir (mean name) m said again model d e = mean_once one_end dir name m model (place_of name m.names) refl said again d e

-- ---- a text that is due is an answer

-- the values of the best probabilities on what is left of the model for the way are those of the model by this way
pub best_on_way : (m : Mdp) → IsMdp m → (dir : Dir) (stay : Option (List ℕ)) (goals : List Bool) (z : List ℚ) (policy : List ℕ) → IsBest dir None (way_by m goals stay) goals z policy
    → IsBest dir stay m goals z policy
best_on_way m mdp dir None goals z policy best = best
best_on_way m mdp Max (Some a) goals z policy best = until_max_exact m (stay_marks m a) goals mdp z policy best
best_on_way m mdp Min (Some a) goals z policy best = until_min_exact m (stay_marks m a) goals mdp z policy best

module _ (rules : AnswersMeetRules) (greatest : AnswersAreGreatest) (least : AnswersAreLeast) (label : List ℕ) (m : Mdp) (mdp : IsMdp m) where
  best_end : (way : Mdp) → IsMdp way → (dir : Dir) (goals : List Bool) (a : Answer) → EndsSo dir way goals (Ok a) → IsBest dir None way goals a.values a.choices
  best_end way known Max goals a end = greatest way goals a known end
  best_end way known Min goals a end = least way goals a known end

  module _ (dir : Dir) (stay : Option (List ℕ)) (text : List ℕ) where
    answer_of_end : (l : ℕ) → place_on_way m stay label ≡ Some l → (end : Result Answer WideTerm) → EndsSo dir (way_by m (marks_of m l) stay) (marks_of m l) end
        → Ok text ≡ said_of_end dir stay label m end → IsAnswerTo dir stay label m text
    answer_of_end l found (Err w) end e = cc e
    answer_of_end l found (Ok a) end e =
        let known = way_is_mdp m (marks_of m l) stay mdp in
        record {
          place = l;
          found = found;
          answer = a;
          spelled = cc e;
          rules = rules dir (way_by m (marks_of m l) stay) (marks_of m l) a known end;
          best = best_on_way m mdp dir stay (marks_of m l) a.values a.choices (best_end (way_by m (marks_of m l) stay) known dir (marks_of m l) a end);
        }

    answer_at : (found : Option ℕ) → place_on_way m stay label ≡ found → IsReachDue dir stay label m found (Ok text) → IsAnswerTo dir stay label m text
    answer_at None found d = cc d
    answer_at (Some l) found d = answer_of_end l found d.0 d.1 d.2

pub text_is_answer : AnswersMeetRules → AnswersAreGreatest → AnswersAreLeast → TextIsAnswer
text_is_answer rules greatest least dir label m text mdp d = answer_at rules greatest least label m mdp dir None text (place_on_way m None label) refl d

pub until_text_is_answer : AnswersMeetRules → AnswersAreGreatest → AnswersAreLeast → UntilTextIsAnswer
until_text_is_answer rules greatest least dir stay label m text mdp d = answer_at rules greatest least label m mdp dir (Some stay) text (place_on_way m (Some stay) label) refl d

-- ---- and so of rewards

module _ (rules : reward_law.AnswersMeetRules) (greatest : reward_law.AnswersAreGreatest) (least : reward_law.AnswersAreLeast) (name label : List ℕ) (m : Mdp) (mdp : IsMdp m) where
  best_reward : (dir : Dir) (r : ℕ) (goals : List Bool) (a : rewarded.Answer) → reward_law.HasRewards m r → rewarded.EndsSo dir m r goals (Ok a) → IsBestReward dir m r goals a
  best_reward Max r goals a has end = greatest m r goals a has end
  best_reward Min r goals a has end = least m r goals a has end

  has_rewards : (r : ℕ) → place_of name m.names ≡ Some r → has_negative m r ≡ false → reward_law.HasRewards m r
  has_rewards r named none = record { model = mdp; named = (position-Some (bytes_eq name) m.names r [] named).0; none_negative = none }

  reward_of_end : (dir : Dir) (text : List ℕ) (r l : ℕ) → place_of name m.names ≡ Some r → place_of label m.labels ≡ Some l → has_negative m r ≡ false → (end : Result rewarded.Answer WideTerm)
      → rewarded.EndsSo dir m r (marks_of m l) end → Ok text ≡ said_of_reward_end dir name label m end → IsRewardAnswerTo dir name label m text
  reward_of_end dir text r l named found none (Err w) end e = cc e
  reward_of_end dir text r l named found none (Ok a) end e = record {
    named = r;
    named_so = named;
    place = l;
    found = found;
    none_negative = none;
    answer = a;
    spelled = cc e;
    rules = rules dir m r (marks_of m l) a (has_rewards r named none) end;
    best = best_reward dir r (marks_of m l) a (has_rewards r named none) end;
  }

  reward_by : (dir : Dir) (text : List ℕ) (r l : ℕ) → place_of name m.names ≡ Some r → place_of label m.labels ≡ Some l → (negative : Bool) → has_negative m r ≡ negative
      → IsRewardEnd dir name label m r l negative (Ok text) → IsRewardAnswerTo dir name label m text
  reward_by dir text r l named found true is d = cc d
  reward_by dir text r l named found false is d = reward_of_end dir text r l named found is d.0 d.1 d.2

  reward_at : (dir : Dir) (text : List ℕ) (named found : Option ℕ) → place_of name m.names ≡ named → place_of label m.labels ≡ found → IsRewardDue dir name label m named found (Ok text)
      → IsRewardAnswerTo dir name label m text
  reward_at dir text None found named_is found_is d = cc d
  reward_at dir text (Some r) None named_is found_is d = cc d
  reward_at dir text (Some r) (Some l) named_is found_is d = reward_by dir text r l named_is found_is (has_negative m r) refl d

pub reward_text_is_answer : reward_law.AnswersMeetRules → reward_law.AnswersAreGreatest → reward_law.AnswersAreLeast → RewardTextIsAnswer
reward_text_is_answer rules greatest least dir name label m text mdp d =
    reward_at rules greatest least name label m mdp dir text (place_of name m.names) (place_of label m.labels) refl refl d

-- ---- and of mean payoffs

module _ (rules : mean_law.AnswersMeetRules) (greatest : mean_law.AnswersAreGreatest) (least : mean_law.AnswersAreLeast) (name : List ℕ) (m : Mdp) (model : IsModel m) where
  best_mean : (dir : Dir) (r : ℕ) (a : averaged.Answer) → mean_law.HasReward m r → averaged.EndsSo dir m r (Ok a) → IsBestMean dir m r a
  best_mean Max r a has end = greatest m r a has end
  best_mean Min r a has end = least m r a has end

  mean_of_end : (dir : Dir) (text : List ℕ) (r : ℕ) → place_of name m.names ≡ Some r → (end : Result averaged.Answer WideTerm) → averaged.EndsSo dir m r end → Ok text ≡ said_of_mean_end dir name m end
      → IsMeanAnswerTo dir name m text
  mean_of_end dir text r named (Err w) end e = cc e
  mean_of_end dir text r named (Ok a) end e = record {
    named = r;
    named_so = named;
    answer = a;
    spelled = cc e;
    rules = rules dir m r a (has_reward name m r model named) end;
    best = best_mean dir r a (has_reward name m r model named) end;
  }

  mean_at : (dir : Dir) (text : List ℕ) (named : Option ℕ) → place_of name m.names ≡ named → IsMeanDue dir name m named (Ok text) → IsMeanAnswerTo dir name m text
  mean_at dir text None is d = cc d
  mean_at dir text (Some r) is d = mean_of_end dir text r is d.0 d.1 d.2

pub mean_text_is_answer : mean_law.AnswersMeetRules → mean_law.AnswersAreGreatest → mean_law.AnswersAreLeast → MeanTextIsAnswer
mean_text_is_answer rules greatest least dir name m text model d = mean_at rules greatest least name m model dir text (place_of name m.names) refl d

-- ---- a text that is printed is accepted

claim_is_accepted : (rule : RowRule) (claimed : PlainClaim) (model text : List ℕ) → IsShownOf (IsClaimPrinted claimed) rule model text → IsTrueClaim rule model text
claim_is_accepted rule claimed model text shown =
    let p = shown.printed in true_claim_of exact _ rule model text shown p.cert p.short p.reads p.holds p.bound

pub text_is_accepted : TextIsAccepted
text_is_accepted rule dir (reach label) model text shown = claim_is_accepted rule (certificate.reach dir label) model text shown
text_is_accepted rule dir (until stay label) model text shown = claim_is_accepted rule (certificate.until dir stay label) model text shown
text_is_accepted rule dir (reward name label) model text shown = claim_is_accepted rule (certificate.reward dir name label) model text shown
text_is_accepted rule dir (mean name) model text shown = claim_is_accepted rule (certificate.mean dir name) model text shown
