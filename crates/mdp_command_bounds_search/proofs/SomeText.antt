-- Some text is due to each query that fits its model, and all that is shown of a text is shown of it.
use Rattle.std.proofs.Common.{◌≡◌, ℕ, ◌<◌, Bool, true, false, List, length, Option, Some, None, Ok, inl, inr, refl, ap, arith, if◌then◌else◌}
use Rattle.std.proofs.{lemmas.List.Elements.{All-get_or}}
use Rattle.std.specs.{List.{All}, Prelude.{option_map}}
use Rattle.mdp_math.specs.Rational.{ℚ}
use Rattle.mdp_num.specs.Value.{IsNarrow}
use Rattle.mdp_spec.specs.{Bounds.{reward_at}, Labels.{place_of, marks_of, initial_of}, Mdp.{Mdp, states_of, value_at}, Row.{IsMdp}, Sub.{sub_of}}
use Rattle.mdp_rows.specs.{Negative.{has_negative}, declared.dir.Dir.{Dir}}
use Rattle.mdp_rows.proofs.CutModels.{sub_is_model}
use Rattle.mdp_text.proofs.InitialState.{initial_below}
use Rattle.mdp_graph.specs.Laws.{RestMeets}
use Rattle.mdp_policy_iteration.specs.Laws.{EndsAtBest}
use Rattle.mdp_reach.specs.Laws as reach
use Rattle.mdp_reward.specs.Laws as reward
use Rattle.mdp_reward.proofs.Answering.{PassLaws}
use Rattle.mdp_mean.specs.Laws as mean
use Rattle.mdp_cert.specs.{Cert.{PlainClaim, IsValueNarrow}}
use Rattle.mdp_cert.specs.{BoundsCert.{PlainBounds, probabilities, rewards, gains, IsInitInWidth, IsBodyInWidth, Fits}, BoundsLaws.{IsReadBack}, BoundsSpelling.{text_of}}
use Rattle.mdp_check.specs.BoundsLaws.{AcceptedBoundsAreTrue}
use Rattle.mdp_check.proofs.Accepting.{below_names}
use Rattle.mdp_job.specs.Job as job
use Rattle.mdp_job.specs.{Job.{PlainQuery}, Refusal.{PlainRefusal, query_negative}}
use Rattle.mdp_command.specs.Said.{Said}
use Rattle.mdp_command_bounds_search.specs.Certificate.{HasValues, init_between, certificate_of, AreBounds}
use Rattle.mdp_command_bounds_search.specs.Due.{claim_of, label_fault, until_fault, reward_fault, mean_fault, fault_of, IsBoundsDue}
use Rattle.mdp_command_bounds_search.specs.{Laws.{HasAText}, Near.{IsNearOrWide}, Shown.{IsBoundsPrinted}}
use Rattle.mdp_command_bounds_search.proofs.Near.{until_near}
use Rattle.mdp_command_bounds_search.proofs.Printing.{values_of_body, init_inside, reach_bounds, reward_bounds, until_bounds, mean_bounds, text_due, printed}
use Rattle.mdp_command_bounds_search.proofs.{SomeReach.{some_reach}, SomeReward.{some_reward}, SomeMean.{some_mean}}

-- ---- the certificate of bounds in width has a text

value_narrow : (z : List ℚ) (s n : ℕ) → s < n → length z ≡ n → All IsNarrow z → IsNarrow (value_at z s)
value_narrow z s n l count narrow = All-get_or IsNarrow z s _ (omega (arith, l, count)) narrow

reward_narrow : (v : List (Option ℚ)) (s n : ℕ) → s < n → length v ≡ n → All IsValueNarrow v → IsValueNarrow (reward_at v s)
reward_narrow v s n l count narrow = All-get_or IsValueNarrow v s _ (omega (arith, l, count)) narrow

init_narrow : (n : ℕ) (o : Option ℕ) (body : PlainBounds) → HasValues n body → ((s : ℕ) → o ≡ Some s → s < n) → IsBodyInWidth body → IsInitInWidth (init_between o body)
init_narrow n None body has below w = tt
init_narrow n (Some s) (probabilities lower upper choices ranks) has below w =
    (value_narrow lower s n (below s refl) has.0 w.0, value_narrow upper s n (below s refl) has.1 w.1)
init_narrow n (Some s) (rewards lower upper choices ranks) has below w =
    (reward_narrow lower s n (below s refl) has.0 w.0, reward_narrow upper s n (below s refl) has.1 w.1)
init_narrow n (Some s) (gains lower upper bound bias choices spread) has below w =
    (value_narrow lower s n (below s refl) has.0 w.0, value_narrow upper s n (below s refl) has.1 w.1)

fits_of : (claim : PlainClaim) (m : Mdp) (body : PlainBounds) → IsMdp m → AreBounds claim m body → IsBodyInWidth body → Fits (certificate_of claim m body)
fits_of claim m body ok bounds width = record {
  some = ok.some;
  limit = ok.few;
  names = bounds.names;
  inside = init_inside claim (states_of m) (initial_of m) body bounds.entries (initial_below m);
  entries = bounds.entries;
  init_width = init_narrow (states_of m) (initial_of m) body (values_of_body claim (states_of m) body bounds.entries) (initial_below m) width;
  body_width = width;
}

-- ---- the text of such bounds is due

module _ (dir : Dir) (query : PlainQuery) (digits : ℕ) (m : Mdp) where
  abbrev pub IsText : Type 0
  IsText = (text : List ℕ) × IsBoundsDue dir query m (Ok text) × IsBoundsPrinted dir query digits m text

  text_by : IsMdp m → IsReadBack → AcceptedBoundsAreTrue → fault_of query m ≡ None → (body : PlainBounds) → AreBounds (claim_of dir query) m body
      → IsNearOrWide digits dir query m body → IsBodyInWidth body → IsText
  text_by ok back true_of fitting body bounds near width =
      let c = certificate_of (claim_of dir query) m body in
      let fits = fits_of (claim_of dir query) m body ok bounds width in
      let said : Said = Ok (text_of c) in (
        text_of c,
        elim (text_due dir query m body bounds fitting c said refl fits (inr refl)) [ inl memory ↦ absurd cc | inr due ↦ due ],
        printed dir query digits m body bounds near ok back true_of c said refl fits (inr refl),
      )

-- ---- the names of a query that fits

label_found : (o : Option ℕ) → label_fault o ≡ None → (l : ℕ) × (o ≡ Some l)
label_found None e = absurd cc
label_found (Some l) e = (l, refl)

labels_found : (stay label : Option ℕ) → until_fault stay label ≡ None → (a : ℕ) × (l : ℕ) × (stay ≡ Some a) × (label ≡ Some l)
labels_found None label e = absurd cc
labels_found (Some a) label e = let l = label_found label e in (a, l.0, refl, l.1)

name_found : (o : Option ℕ) → mean_fault o ≡ None → (r : ℕ) × (o ≡ Some r)
name_found None e = absurd cc
name_found (Some r) e = (r, refl)

none_by : (b : Bool) → (let o : Option PlainRefusal = if b then Some query_negative else None in o) ≡ None → b ≡ false
none_by true e = absurd cc
none_by false e = refl

reward_found : (m : Mdp) (name label : Option ℕ) → reward_fault m name label ≡ None → (r : ℕ) × (l : ℕ) × (name ≡ Some r) × (label ≡ Some l) × (has_negative m r ≡ false)
reward_found m None label e = absurd cc
reward_found m (Some r) None e = absurd cc
reward_found m (Some r) (Some l) e = (r, l, refl, refl, none_by (has_negative m r) e)

-- ---- each query

module _ (back : IsReadBack) (true_of : AcceptedBoundsAreTrue) (best : EndsAtBest) (meets : RestMeets) (passes : PassLaws) (reach_ends : reach.HasAnEnd)
    (reach_rules : reach.AnswersMeetRules) (reward_ends : reward.HasAnEnd) (reward_rules : reward.AnswersMeetRules) (mean_ends : mean.HasAnEnd)
    (mean_rules : mean.AnswersMeetRules) (joined : mean.AnswersAreJoined) where
  pub has_a_text : HasAText
  has_a_text dir (job.reach label) digits m model fitting =
      let l = label_found (place_of label m.labels) fitting in
      let x = some_reach m model (marks_of m l.0) reach_ends reach_rules best meets digits dir in
      text_by dir (job.reach label) digits m model.mdp back true_of fitting (probabilities x.lower x.upper x.choices x.ranks)
      (reach_bounds dir label m l.0 model.labels l.1 (marks_of m l.0) x.lower x.upper x.choices x.ranks refl x.rules x.lower_each x.upper_each x.choices_each x.ranks_each)
      (l.0, l.1, x.near) x.width
  has_a_text dir (job.until stay label) digits m model fitting =
      let found = labels_found (place_of stay m.labels) (place_of label m.labels) fitting in
      let stays = marks_of m found.0 in
      let goals = marks_of m found.1 in
      let way = sub_of m goals stays in
      let stayed = ap (option_map (marks_of m)) found.2 in
      let marked = ap (option_map (marks_of m)) found.3 in
      let x = some_reach way (sub_is_model m goals stays model) goals reach_ends reach_rules best meets digits dir in
      text_by dir (job.until stay label) digits m model.mdp back true_of fitting (probabilities x.lower x.upper x.choices x.ranks)
      (until_bounds dir stay label m model.labels stays goals stayed marked way refl x.lower x.upper x.choices x.ranks x.rules x.lower_each x.upper_each x.choices_each x.ranks_each)
      (until_near digits dir label m goals marked x.lower x.upper x.choices x.ranks stay stays stayed way refl x.near) x.width
  has_a_text dir (job.reward name label) digits m model fitting =
      let found = reward_found m (place_of name m.names) (place_of label m.labels) fitting in
      let goals = marks_of m found.1 in
      let has : reward.HasRewards m found.0 = record { model = model.mdp; named = below_names name m.names found.0 found.2; none_negative = found.4 } in
      let x = some_reward m model goals found.0 best passes has dir reward_ends reward_rules digits in
      text_by dir (job.reward name label) digits m model.mdp back true_of fitting (rewards x.lower x.upper x.choices x.ranks)
      (reward_bounds dir label m found.1 model.labels found.3 name found.0 model.names.each found.2 goals x.lower x.upper x.choices x.ranks refl x.rules x.lower_each x.upper_each
      x.choices_each x.ranks_each) (found.0, found.1, found.2, found.3, x.near) x.width
  has_a_text dir (job.mean name) digits m model fitting =
      let found = name_found (place_of name m.names) fitting in
      let has : mean.HasReward m found.0 = record { model = model; named = below_names name m.names found.0 found.1 } in
      let x = some_mean digits dir m found.0 has mean_ends mean_rules joined in
      text_by dir (job.mean name) digits m model.mdp back true_of fitting (gains x.lower x.upper x.bound x.bias x.choices x.spread)
      (mean_bounds dir name m found.0 model.names.each found.1 x.lower x.upper x.bound x.bias x.spread x.choices x.rules x.lower_each x.upper_each x.bound_each x.bias_each
      x.choices_each) (found.0, found.1, x.near) x.width
