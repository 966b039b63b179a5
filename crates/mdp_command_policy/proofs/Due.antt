-- One thing is due to the value of a policy.
use Rattle.std.proofs.Common.{◌≡◌, ℕ, ◌⊎◌, inl, inr, Bool, true, false, List, length, Option, Some, Result, Ok, Err, refl, sym, ap, subst, ◌∙◌, arith}
use Rattle.std.proofs.lemmas.List.FromFn.{fill_by_all}
use Rattle.std.specs.Prelude.{slice_index_or, ◌==◌}
use Rattle.mdp_math.proofs.Booleans.{same_truth}
use Rattle.mdp_spec.specs.{Mdp.{Mdp, states_of}, Tree.{is_marked, IsPolicy}}
use Rattle.mdp_wide.specs.{declared.too_wide.Kind.{Kind}, declared.too_wide.Part.{Part}, declared.too_wide.Part.TheVariants.{Whole}, Errors.{SolveError}}
use Rattle.mdp_wide.specs.{declared.too_wide.TooWide.{TooWide}, Term.{WideTerm, shown}}
use Rattle.mdp_wide.specs.declared.unfinished.Unfinished.TheVariants as error
use Rattle.mdp_graph.specs.{Sets.{marked}, Layers.{AreReached}, Reach.{row_step}}
use Rattle.mdp_policy_iteration.specs.Places.{Place}
use Rattle.mdp_reach.specs.Query.{policy_rows}
use Rattle.mdp_policy.specs.{Answer.{IsValueOf, IsAnswerOn, IsTermAt, GivesOn}, Way.{way_model, way_policy}, Spelling.{value_text}, Text.{policy_outcome}, Written.{Answer, written_value}}
use Rattle.mdp_job.specs.Refusal.{PlainRefusal, too_wide, no_memory}
use Rattle.mdp_command.specs.Said.{Said}
use Rattle.mdp_command_policy.specs.declared.marking.Marked.{Marked}
use Rattle.mdp_command_policy.specs.Due.{choices_or_refusal, marks_due, TakesNoChoice, term_at, said_of_end, IsValueDue, IsChoiceDue, IsMarksDue, IsSizeDue, IsTextDue, IsPolicyDue}

-- ---- the marks are determined

one_reached : (step : (ℕ → Bool) → ℕ → Bool) (set : ℕ → Bool) (n : ℕ) (xs ys : List Bool) → AreReached step set n xs → AreReached step set n ys → xs ≡ ys
one_reached step set n xs ys a b =
    fill_by_all (λ s. slice_index_or ys s false) xs n false a.count
    (λ s l. same_truth (marked xs s) (marked ys s) (λ e. (b.marks_reached s l).1 ((a.marks_reached s l).0 e)) (λ e. (a.marks_reached s l).1 ((b.marks_reached s l).0 e)))
    ∙ sym (fill_by_all (λ s. slice_index_or ys s false) ys n false b.count (λ s l. refl))

one_value : (m : Mdp) (goals : List Bool) (policy : List ℕ) (x y : Result Answer Place) → IsValueOf m goals policy x → IsValueOf m goals policy y → x ≡ y
one_value m goals policy x y a b =
    sym a.is
    ∙ ap (λ (marks : List Bool). written_value m goals marks policy) (one_reached (row_step (policy_rows m policy)) (is_marked goals) (states_of m) a.marks b.marks a.reached b.reached)
    ∙ b.is

-- ---- and so is what is said

not_both : {Q : Type 0} (m : Mdp) (policy : List ℕ) → IsPolicy m policy → TakesNoChoice m policy → Q
not_both m policy is other = let in_range = is.in_range other.state other.below in let past = other.past in absurd (omega (arith, in_range, past))

module _ (stay : Option (List ℕ)) (label : List ℕ) (m : Mdp) where
  choice_once : (policy : List ℕ) (marks : Marked) (said again : Said) → IsChoiceDue stay label m policy marks said → IsChoiceDue stay label m policy marks again → said ≡ again
  choice_once policy marks said again (inl d) (inl e) =
      let one = one_value (way_model m marks.stays marks.goals) marks.goals (way_policy marks.stays marks.goals policy) d.1.0 e.1.0 d.1.1 e.1.1 in
      d.1.2 ∙ ap (said_of_end stay label m (way_policy marks.stays marks.goals policy)) one ∙ sym e.1.2
  choice_once policy marks said again (inl d) (inr e) = not_both m policy d.0 e.0
  choice_once policy marks said again (inr d) (inl e) = not_both m policy e.0 d.0
  choice_once policy marks said again (inr d) (inr e) = d.1 ∙ sym e.1

  marks_once : (policy : List ℕ) (marks : Result Marked PlainRefusal) (said again : Said) → IsMarksDue stay label m policy marks said → IsMarksDue stay label m policy marks again → said ≡ again
  marks_once policy (Ok marks) said again d e = choice_once policy marks said again d e
  marks_once policy (Err r) said again d e = d ∙ sym e

  size_once : (policy : List ℕ) (fits : Bool) (said again : Said) → IsSizeDue stay label m policy fits said → IsSizeDue stay label m policy fits again → said ≡ again
  size_once policy false said again d e = d ∙ sym e
  size_once policy true said again d e = marks_once policy (marks_due stay label m) said again d e

  text_once : (read : Result (List ℕ) PlainRefusal) (said again : Said) → IsTextDue stay label m read said → IsTextDue stay label m read again → said ≡ again
  text_once (Ok policy) said again d e = size_once policy (length policy == states_of m) said again d e
  text_once (Err r) said again d e = d ∙ sym e

  pub policy_once : (bytes : List ℕ) (said again : Said) → IsPolicyDue stay label m bytes said → IsPolicyDue stay label m bytes again → said ≡ again
  policy_once bytes said again d e = text_once (choices_or_refusal (policy_outcome bytes)) said again d e

-- ---- what is due to a policy, from what its value was given as

term_is : (policy : List ℕ) (place : Place) (w : TooWide) → IsTermAt policy place w → shown w w.round ≡ term_at policy place
term_is policy place w i =
    let term : Part → ℕ → List ℕ → Kind → Option ℕ → Option ℕ → WideTerm =
    λ part number choices kind state choice. record { part = part; number = number; policy = choices; kind = kind; state = state; choice = choice } in
    ap (λ (x : Part). term x w.round w.policy.items w.kind w.state w.choice) i.part
    ∙ ap (λ (x : ℕ). term Whole x w.policy.items w.kind w.state w.choice) i.round
    ∙ ap (λ (x : List ℕ). term Whole 0 x w.kind w.state w.choice) i.policy_is
    ∙ ap (λ (x : Kind). term Whole 0 policy x w.state w.choice) i.kind
    ∙ ap (λ (x : Option ℕ). term Whole 0 policy place.kind x w.choice) i.state
    ∙ ap (λ (x : Option ℕ). term Whole 0 policy place.kind (Some place.node) x) i.choice

module _ (stay : Option (List ℕ)) (label : List ℕ) (m : Mdp) (policy : List ℕ) (marks : Marked) (stays : Option (List Bool)) (are : stays ≡ marks.stays) where
  pub value_due : (a : Answer) (said : Said) → IsAnswerOn m stays marks.goals policy (Ok a) → (said ≡ Err no_memory) ⊎ (said ≡ Ok (value_text stay label m a))
      → (said ≡ Err no_memory) ⊎ IsValueDue stay label m policy marks said
  value_due a said is (inl memory) = inl memory
  value_due a said is (inr e) = inr (Ok a, subst (λ (s : Option (List Bool)). IsAnswerOn m s marks.goals policy (Ok a)) are is, e)

  pub wide_due : (e : SolveError) (w : TooWide) → e ≡ error.TooWide w → GivesOn m stays marks.goals policy (Err e) → IsValueDue stay label m policy marks (Err (too_wide (shown w w.round)))
  wide_due e w is gives =
      let g = subst (λ (s : Option (List Bool)). GivesOn m s marks.goals policy (Err (error.TooWide w))) are (subst (λ (x : SolveError). GivesOn m stays marks.goals policy (Err x)) is gives) in
      (Err g.0, g.2, ap (λ (t : WideTerm). let r : Said = Err (too_wide t) in r) (term_is (way_policy marks.stays marks.goals policy) g.0 w g.1))
