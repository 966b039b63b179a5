-- What the path's end says of an answer, and what an answer says of the component.
use Rattle.std.proofs.{Common.{◌≡◌, ℕ, ◌<◌, ◌⊎◌, inl, inr, true, false, List, Option, refl, sym, ◌∙◌, ap, subst, pos}, lemmas.List.{length-map}}
use Rattle.std.specs.{List.{Any}, Prelude.{slice_index}}
use Rattle.mdp_math.specs.Rational.{ℚ, of_int, ◌+ℚ◌}
use Rattle.mdp_math.proofs.Kernel.{weigh-same}
use Rattle.mdp_spec.specs.Mdp as mdp
use Rattle.mdp_spec.specs.{Mdp.{Entry, Mdp, states_of, row_at, value_at}, Unit.{reward_of}}
use Rattle.mdp_rows.specs.{declared.dir.Dir.{Dir}, Better.{IsAsGood}}
use Rattle.mdp_ends.specs.Ends.{in_part}
use Rattle.mdp_unichain.specs.{BestGain.{HasBestGain}, Chain.{AllLeadTo, IsReference}}
use Rattle.mdp_unichain.specs.{Component.{Component, Choice, choice_at, is_state, IsInner, row_by, reward_by, IsPolicy, IsComponent}, Evaluation.{mean, IsGain}}
use Rattle.mdp_unichain.specs.{Improvement.{worth, IsEvaluated, NoneBetter}, Part.{IsPart, members, is_inner, inner_component}, Path.{Found, IsBestGain}}
use Rattle.mdp_unichain.proofs.{Improving.{meets_equations}, Members.{inside_of, inner_of}}
use Rattle.mdp_unichain.proofs.{Parts.{part-component, part-state, part-choice, member-below, inner_inside, inner_member, inside_inner}, Reaching.{test_or_not}}
use Rattle.mdp_gain.specs.{Query.{Answer, answer_of}, Best.{bias_at, taken_at, worth_of, IsInnerChoice, IsBestInner}}
use Rattle.mdp_gain.proofs.Listed.{entry-has, entry-none, filtered-has, filtered-not}

module _ (dir : Dir) (m : Mdp) (parts : List (Option ℕ)) (i r : ℕ) (k : IsPart m parts i) where
  abbrev p : Component
  p = inner_component dir m parts i r

  pub known : IsComponent p
  known = part-component m parts i k dir r

  member : (s : ℕ) → is_state p s ≡ true → in_part parts i s ≡ true
  member s h = sym (part-state m parts i k dir r s) ∙ h

  state : (s : ℕ) → in_part parts i s ≡ true → is_state p s ≡ true
  state s h = part-state m parts i k dir r s ∙ h

  -- an inner choice, of the component and of the model
  choice_out : (s c : ℕ) → IsInner p s c → IsInnerChoice m parts i s c
  choice_out s c h =
      let w = inside_of dir m r (is_inner m parts i) s c h in
      record { state = w.0; member = inner_member m parts i k s c w.2; choice = w.1; inside = inner_inside m parts i k s c w.2 }

  choice_in : (s c : ℕ) → IsInnerChoice m parts i s c → IsInner p s c
  choice_in s c h = inner_of dir m r (is_inner m parts i) s c (h.state, h.choice, inside_inner m parts i k s c h.member h.inside)

  worth-is : (h : ℕ → ℚ) (s c : ℕ) → IsInnerChoice m parts i s c → worth h (choice_at p s c) ≡ worth_of m r h s c
  worth-is h s c e = ap (λ (x : Choice). worth h x) (part-choice dir m parts i r s c e.state e.choice)

  -- ---- from the path's end

  module _ (found : Found) (best : IsBestGain p found) where
    abbrev answer : Answer
    answer = answer_of (members m parts i) found

    evaluated : IsEvaluated p found.policy found.reference found.values.gain (value_at found.values.bias)
    evaluated = best.evaluated

    policy_is : IsPolicy p found.policy
    policy_is = IsEvaluated.is evaluated

    leads : AllLeadTo (is_state p) (row_by p found.policy) found.reference
    leads = IsReference.leads (IsEvaluated.reference evaluated)

    gain_is : IsGain (is_state p) (row_by p found.policy) (reward_by p found.policy) found.reference found.values.gain (value_at found.values.bias)
    gain_is = (meets_equations p found.policy found.reference found.values.gain (value_at found.values.bias) known policy_is leads (IsEvaluated.values evaluated)).0

    bias_by : (s : ℕ) → (is_state p s ≡ true) ⊎ (is_state p s ≡ false) → bias_at answer s ≡ value_at found.values.bias s
    bias_by s (inl h) =
        entry-has (of_int (pos 0)) (value_at found.values.bias) (members m parts i) s (filtered-has (in_part parts i) (states_of m) s (member-below m parts i k s (member s h)) (member s h))
    bias_by s (inr h) =
        entry-none (of_int (pos 0)) (value_at found.values.bias) (members m parts i) s (filtered-not (in_part parts i) (states_of m) s (sym (part-state m parts i k dir r s) ∙ h))
        ∙ sym (IsGain.outside gain_is s h)

    bias-same : (s : ℕ) → bias_at answer s ≡ value_at found.values.bias s
    bias-same s = bias_by s (test_or_not (is_state p s))

    taken-same : (s : ℕ) → is_state p s ≡ true → taken_at answer s ≡ slice_index found.policy s
    taken-same s h =
        entry-has 0 (slice_index found.policy) (members m parts i) s (filtered-has (in_part parts i) (states_of m) s (member-below m parts i k s (member s h)) (member s h))

    mean-same : (row : List Entry) → mean row (bias_at answer) ≡ mean row (value_at found.values.bias)
    mean-same row = weigh-same (λ (y : Entry). y.target) (λ (y : Entry). y.prob) (bias_at answer) (value_at found.values.bias) row (λ j d l. bias-same _)

    worth-same : (s c : ℕ) → IsInnerChoice m parts i s c → worth_of m r (bias_at answer) s c ≡ worth (value_at found.values.bias) (choice_at p s c)
    worth-same s c e = ap (λ (w : ℚ). reward_of (mdp.choice_at m s c) r +ℚ w) (mean-same (row_at m s c)) ∙ sym (worth-is (value_at found.values.bias) s c e)

    takes_inner : (s : ℕ) → is_state p s ≡ true → IsInner p s (taken_at answer s)
    takes_inner s h = subst (IsInner p s) (sym (taken-same s h)) (IsPolicy.inner policy_is s h)

    row-taken : (s : ℕ) → is_state p s ≡ true → row_by p found.policy s ≡ row_at m s (taken_at answer s)
    row-taken s h =
        let e = choice_out s (slice_index found.policy s) (IsPolicy.inner policy_is s h) in
        ap Choice.row (part-choice dir m parts i r s (slice_index found.policy s) e.state e.choice) ∙ ap (row_at m s) (sym (taken-same s h))

    pub best_inner : IsBestInner dir m parts i r answer
    best_inner = record {
      states = refl;
      biases = length-map (members m parts i) (value_at found.values.bias);
      choices = length-map (members m parts i) (slice_index found.policy);
      takes = λ s l h. choice_out s (taken_at answer s) (takes_inner s (state s h));
      none_better = λ s c e.
          subst (λ (w : ℚ). IsAsGood dir w (worth_of m r (bias_at answer) s c)) (ap (λ (w : ℚ). found.values.gain +ℚ w) (sym (bias-same s)))
          (subst (λ (w : ℚ). IsAsGood dir (found.values.gain +ℚ value_at found.values.bias s) w) (sym (worth-same s c e)) (best.none_better s c (choice_in s c e)));
      earns = λ s l h.
          let e = choice_out s (taken_at answer s) (takes_inner s (state s h)) in
          worth-same s (taken_at answer s) e
          ∙ ap (λ c. worth (value_at found.values.bias) (choice_at p s c)) (taken-same s (state s h))
          ∙ IsGain.step gain_is s (state s h) ∙ ap (λ (w : ℚ). found.values.gain +ℚ w) (sym (bias-same s));
      one_class = (
        found.reference,
        record {
          state = member found.reference (AllLeadTo.state leads);
          rank = AllLeadTo.rank leads;
          falls = λ s h o.
              subst (λ (es : List Entry). Any (λ y. AllLeadTo.rank leads y.target < AllLeadTo.rank leads s) es) (row-taken s (state s h)) (AllLeadTo.falls leads s (state s h) o);
        },
      );
    }

  -- ---- what a best gain says

  module _ (a : Answer) (best : IsBestInner dir m parts i r a) where
    pub none_is_better : NoneBetter p a.gain (bias_at a)
    none_is_better s c h =
        let e = choice_out s c h in
        subst (λ (w : ℚ). IsAsGood dir (a.gain +ℚ bias_at a s) w) (sym (worth-is (bias_at a) s c e)) (best.none_better s c e)

    below : (s : ℕ) → is_state p s ≡ true → s < states_of m
    below s h = member-below m parts i k s (member s h)

    pub has_best : HasBestGain p a.gain (bias_at a) (taken_at a)
    has_best = record {
      takes = λ s h. choice_in s (taken_at a s) (best.takes s (below s h) (member s h));
      none_better = none_is_better;
      earns = λ s h. worth-is (bias_at a) s (taken_at a s) (best.takes s (below s h) (member s h)) ∙ best.earns s (below s h) (member s h);
      one_class =
          let t = best.one_class in (
            t.0,
            record {
              state = state t.0 (AllLeadTo.state t.1);
              rank = AllLeadTo.rank t.1;
              falls = λ s h o.
                  let e = best.takes s (below s h) (member s h) in
                  subst (λ (es : List Entry). Any (λ y. AllLeadTo.rank t.1 y.target < AllLeadTo.rank t.1 s) es)
                  (sym (ap Choice.row (part-choice dir m parts i r s (taken_at a s) e.state e.choice))) (AllLeadTo.falls t.1 s (member s h) o);
            },
          );
    }
