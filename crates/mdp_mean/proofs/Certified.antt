-- What is joined meets the rules of certificates, and so does an answer.
use Rattle.std.proofs.Common.{◌≡◌, ℕ, List, Option, Ok, sym, ap, ◌∙◌, subst, refl}
use Rattle.mdp_spec.specs.{Bounds.{MeanMax, MeanMin}, Mdp.{Mdp}}
use Rattle.mdp_spec.proofs.Mean.{mean_max_of_rules, mean_min_of_rules}
use Rattle.mdp_rows.specs.{declared.dir.Dir.{Dir}, declared.dir.Dir.TheVariants.{Max, Min}}
use Rattle.mdp_ends.specs.Ends.{count_of, AreEnds}
use Rattle.mdp_gain.specs.Laws as gain
use Rattle.mdp_quot.specs.{OfModel.{IsOfModel}, ExitsLaws.{StepsAreLongest, OuterIsBest}}
use Rattle.mdp_farkas.specs.Mean.{MeetsMean, IsMean}
use Rattle.mdp_claims.specs.declared.verdict.Verdict.TheVariants.{Yes}
use Rattle.mdp_farkas.proofs.MeanRules.{mean_rules}
use Rattle.mdp_mean.specs.{Terms.{Joining}, Join.{Joined, written_join}, Inners.{Inners, AreInners}, Best.{AreBest}, Query.{Answer, IsJoining, EndsSo}}
use Rattle.mdp_mean.specs.Laws.{HasReward, IsAcceptedJoin}
use Rattle.mdp_mean.proofs.{Held.{has-spread, has-policy}, Joinings.{answer-joined}, Meets.{meets}}

module _ (dir : Dir) (m : Mdp) (r : ℕ) (has : HasReward m r) (gain_best : gain.AnswersAreBest) (longest : StepsAreLongest) (outer_best : OuterIsBest) where
  are-best : (parts : List (Option ℕ)) → AreEnds m parts → (x : Inners) → AreInners dir m parts r (count_of parts) x → AreBest dir m parts r x
  are-best parts are x h = record {
    gain_each = h.gain_each;
    bias_each = h.bias_each;
    choice_each = h.choice_each;
    best = λ i l. (let w = h.answered i l in (w.0, gain_best dir m parts i r w.0 (record { model = has.model.mdp; ends = are; below = l }) w.1, w.2));
    no_bias = h.no_bias;
  }

  module _ (j : Joining) (y : Joined) (is : IsJoining dir m r j) (made : written_join j ≡ Ok y) where
    of_model : IsOfModel is.quotient
    of_model = record { m = m; parts = is.parts; model = has.model; ends = is.are_ends; quotient = is.is_quotient }

    -- what is joined meets the rules
    pub joined-meets : MeetsMean dir m r j.gains y.bound y.bias y.spread j.policy
    joined-meets =
        subst (λ (j : Joining). MeetsMean dir m r j.gains y.bound y.bias y.spread j.policy) (sym is.is)
        (meets dir m has.model.mdp r is.parts is.are_ends is.quotient is.is_quotient is.inner (are-best is.parts is.are_ends is.inner is.inner_ends) is.exits
        (outer_best dir is.quotient is.inner.gains is.exits of_model is.exits_end) is.steps (longest is.quotient is.steps of_model is.steps_end) has.named y (ap written_join (sym is.is) ∙ made))

  -- so an answer does
  accepted-meets : (a : Answer) → IsAcceptedJoin dir m r a → MeetsMean dir m r a.gains a.bound a.bias a.spread a.choices
  accepted-meets a w =
      subst (λ (a : Answer). MeetsMean dir m r a.gains a.bound a.bias a.spread a.choices) (sym w.is) (joined-meets w.join w.values w.joining w.made)

  -- and the check of it has no term past width
  pub answer-meets : (a : Answer) → EndsSo dir m r (Ok a) → IsMean dir m r a.gains a.bound a.bias a.spread a.choices
  answer-meets a e =
      let w = answer-joined dir m r a e in
      let rules = accepted-meets a w in
      let spread = has-spread m r a.gains a.bound a.bias a.spread a.choices dir rules in
      let policy = has-policy m r a.gains a.bound a.bias a.spread a.choices dir rules in
      (mean_rules m r a.gains a.bound a.bias a.spread a.choices dir Yes has.named spread.bounds spread.biases policy.one_each (sym w.accepted)).0 refl

pub answer-max : (m : Mdp) (r : ℕ) (a : Answer) → HasReward m r → IsMean Max m r a.gains a.bound a.bias a.spread a.choices → MeanMax m r a.gains a.spread a.choices
answer-max m r a has is = mean_max_of_rules m r a.gains a.bound a.bias a.spread a.choices has.model.mdp is.rules

pub answer-min : (m : Mdp) (r : ℕ) (a : Answer) → HasReward m r → IsMean Min m r a.gains a.bound a.bias a.spread a.choices → MeanMin m r a.gains a.spread a.choices
answer-min m r a has is = mean_min_of_rules m r a.gains a.bound a.bias a.spread a.choices has.model.mdp is.rules
