-- Where a text is due to `bounds`, nothing else is, the best values lie between its values, and `bounds-check` accepts it.
use Rattle.std.proofs.Common.{◌≡◌, ℕ, Bool, List, Option, Some, None, Ok, IsOk, refl, sym, ap, ap₂, subst, ◌∙◌}
use Rattle.mdp_spec.specs.{Between.{ReachMaxBetween, ReachMinBetween, RewardMaxBetween, RewardMinBetween}, Labels.{place_of, marks_of}, Mdp.{Mdp, states_of}}
use Rattle.mdp_spec.specs.{Row.{IsMdp}, Until.{UntilMaxBetween, UntilMinBetween}}
use Rattle.mdp_rows.specs.{declared.dir.Dir.{Dir}, declared.dir.Dir.TheVariants.{Max, Min}}
use Rattle.mdp_cert.specs.{Cert.{PlainClaim}, BoundsCert.{PlainBounds, probabilities, rewards, gains, Certificate}, BoundsSpelling.{text_of}}
use Rattle.mdp_check.specs.{Bounds.{between_by, IsBoundsTrue}, BoundsLaws.{AcceptedBoundsAreTrue}, Check.{reward_place, goal_marks, labelled_marks, marks_on_way, stays_at}}
use Rattle.mdp_job.specs.{Job.{PlainQuery, reach, until, reward, mean}, Refusal.{PlainRefusal}}
use Rattle.mdp_command.specs.Said.{Said}
use Rattle.mdp_command.proofs.TrueClaims.{true_claim_of}
use Rattle.mdp_command.specs.Kinds.{between}
use Rattle.mdp_command_bounds_search.specs.Due.{claim_of, fault_of, IsDueBy, IsAcceptedText}
use Rattle.mdp_command_bounds_search.specs.Laws.{LieBetween, IsAnswerTo, TextLiesBetween, OnlyTextsAreDue, TextIsAccepted}
use Rattle.mdp_command_bounds_search.proofs.Printing.{marked_at}

-- ---- a text, and never a refusal

pub text_is_ok : (said : Said) (text : List ℕ) → said ≡ Ok text → IsOk said
text_is_ok said text e = subst (λ (s : Said). IsOk s) (sym e) refl

pub only_texts_are_due : OnlyTextsAreDue
only_texts_are_due dir query m text said due other = by (fault_of query m) due other
  where
    by : (fault : Option PlainRefusal) → IsDueBy (claim_of dir query) m fault (Ok text) → IsDueBy (claim_of dir query) m fault said → IsOk said
    by None d o = text_is_ok said (text_of o.cert) o.spelled
    by (Some r) d o = absurd cc

-- ---- the best values lie between the values

-- where there are goals on a way, the label of the states on it is there
pub stays_there : (m : Mdp) (label : List ℕ) (stay : Option ℕ) (goals : List Bool) → marks_on_way m label stay ≡ Some goals → (a : ℕ) × (stay ≡ Some a) × (labelled_marks m label ≡ Some goals)
stays_there m label None goals e = absurd cc
stays_there m label (Some a) goals e = (a, refl, e)

module _ (m : Mdp) (r : ℕ) (goals : List Bool) where
  reach_between : (P : List Bool → Type 0) (label : List ℕ) → labelled_marks m label ≡ Some goals → P goals → (l : ℕ) × (place_of label m.labels ≡ Some l) × P (marks_of m l)
  reach_between P label marked holds = let at = marked_at m (place_of label m.labels) goals marked in (at.0, at.1, subst P (sym at.2) holds)

  until_between : (P : List Bool → List Bool → Type 0) (stay label : List ℕ) → marks_on_way m label (place_of stay m.labels) ≡ Some goals → P (stays_at m (place_of stay m.labels)) goals
      → (a : ℕ) × (l : ℕ) × (place_of stay m.labels ≡ Some a) × (place_of label m.labels ≡ Some l) × P (marks_of m a) (marks_of m l)
  until_between P stay label marked holds =
      let way = stays_there m label (place_of stay m.labels) goals marked in
      let at = reach_between (P (marks_of m way.0)) label way.2 (subst (λ (o : Option ℕ). P (stays_at m o) goals) way.1 holds) in
      (way.0, at.0, way.1, at.1, at.2)

  lie_between : (dir : Dir) (query : PlainQuery) (body : PlainBounds) → reward_place m (claim_of dir query) ≡ Some r → goal_marks m (claim_of dir query) ≡ Some goals
      → between_by m r goals (claim_of dir query) body → LieBetween dir query m body
  lie_between Max (reach label) (probabilities lower upper policy ranks) named marked h = reach_between (λ g. ReachMaxBetween m g lower upper policy) label marked h
  lie_between Min (reach label) (probabilities lower upper policy ranks) named marked h = reach_between (λ g. ReachMinBetween m g lower upper policy) label marked h
  lie_between Max (reach label) (rewards lower upper policy ranks) named marked h = absurd h
  lie_between Min (reach label) (rewards lower upper policy ranks) named marked h = absurd h
  lie_between Max (reach label) (gains lower upper bound bias policy spread) named marked h = absurd h
  lie_between Min (reach label) (gains lower upper bound bias policy spread) named marked h = absurd h
  lie_between Max (until stay label) (probabilities lower upper policy ranks) named marked h = until_between (λ s g. UntilMaxBetween m s g lower upper policy) stay label marked h
  lie_between Min (until stay label) (probabilities lower upper policy ranks) named marked h = until_between (λ s g. UntilMinBetween m s g lower upper policy) stay label marked h
  lie_between Max (until stay label) (rewards lower upper policy ranks) named marked h = absurd h
  lie_between Min (until stay label) (rewards lower upper policy ranks) named marked h = absurd h
  lie_between Max (until stay label) (gains lower upper bound bias policy spread) named marked h = absurd h
  lie_between Min (until stay label) (gains lower upper bound bias policy spread) named marked h = absurd h
  lie_between Max (reward name label) (probabilities lower upper policy ranks) named marked h = absurd h
  lie_between Min (reward name label) (probabilities lower upper policy ranks) named marked h = absurd h
  lie_between Max (reward name label) (rewards lower upper policy ranks) named marked h =
      let at = reach_between (λ g. RewardMaxBetween m r g policy lower upper) label marked h in (r, at.0, named, at.1, at.2)
  lie_between Min (reward name label) (rewards lower upper policy ranks) named marked h =
      let at = reach_between (λ g. RewardMinBetween m r g policy lower upper) label marked h in (r, at.0, named, at.1, at.2)
  lie_between Max (reward name label) (gains lower upper bound bias policy spread) named marked h = absurd h
  lie_between Min (reward name label) (gains lower upper bound bias policy spread) named marked h = absurd h
  lie_between Max (mean name) (probabilities lower upper policy ranks) named marked h = absurd h
  lie_between Min (mean name) (probabilities lower upper policy ranks) named marked h = absurd h
  lie_between Max (mean name) (rewards lower upper policy ranks) named marked h = absurd h
  lie_between Min (mean name) (rewards lower upper policy ranks) named marked h = absurd h
  lie_between Max (mean name) (gains lower upper bound bias policy spread) named marked h = (r, named, h)
  lie_between Min (mean name) (gains lower upper bound bias policy spread) named marked h = (r, named, h)

module _ (true_of : AcceptedBoundsAreTrue) (dir : Dir) (query : PlainQuery) (m : Mdp) (text : List ℕ) (mdp : IsMdp m) where
  answer_of : IsAcceptedText (claim_of dir query) m (Ok text) → IsAnswerTo dir query m text
  answer_of d =
      let c = d.cert in
      let like : PlainClaim → ℕ → Certificate = λ claim states. record { claim = claim; states = states; init = c.init; body = c.body } in
      let same : c ≡ like (claim_of dir query) (states_of m) = ap₂ like d.claimed d.accepted.states in
      let true_claim = subst (IsBoundsTrue m) same (true_of m c mdp d.accepted) in
      let spelled : text ≡ text_of c = cc (d.spelled) in
      record {
        init = c.init;
        body = c.body;
        spelled = spelled ∙ ap text_of same;
        between = lie_between m true_claim.reward true_claim.goals dir query c.body true_claim.named true_claim.marked true_claim.holds;
      }

  by_fault : (fault : Option PlainRefusal) → IsDueBy (claim_of dir query) m fault (Ok text) → IsAnswerTo dir query m text
  by_fault None d = answer_of d
  by_fault (Some r) d = absurd cc

pub text_lies_between : AcceptedBoundsAreTrue → TextLiesBetween
text_lies_between true_of dir query m text mdp due = by_fault true_of dir query m text mdp (fault_of query m) due

-- ---- the checker

pub text_is_accepted : TextIsAccepted
text_is_accepted rule dir query digits model text shown =
    let p = shown.printed in true_claim_of between _ rule model text shown p.cert p.short p.reads p.holds p.bound
