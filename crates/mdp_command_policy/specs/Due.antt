-- What is due to the value of a policy: to the labels, to the model and to the bytes of the policy's text. The label `stay`, of the states on the
-- way to a goal, may be missing: then any state may be on it.
use Rattle.std.specs.Prelude.{◌≡◌, ◌⊎◌, ℕ, ◌<◌, ◌≤◌, Bool, true, false, List, length, slice_index, Option, Some, None, Result, Ok, Err, ◌==◌}
use Rattle.mdp_math.specs.Result.{◌>>=◌}
use Rattle.mdp_spec.specs.{Labels.{place_of, marks_of}, Mdp.{Mdp, states_of, choices_at}, Tree.{IsPolicy}}
use Rattle.mdp_wide.specs.{declared.too_wide.Part.TheVariants.{Whole}, Term.{WideTerm}}
use Rattle.mdp_policy_iteration.specs.Places.{Place}
use Rattle.mdp_text.specs.declared.error.Refusal as text
use Rattle.mdp_policy.specs.{Answer.{IsAnswerOn}, Way.{way_policy}, Spelling.{value_text}, Text.{policy_outcome}, Written.{Answer}}
use Rattle.mdp_job.specs.Refusal.{PlainRefusal, query_size, query_label, query_choice, too_wide, policy_text}
use Rattle.mdp_command.specs.Said.{Said}
use Rattle.mdp_command_policy.specs.declared.marking.Marked.{Marked}

-- ---- the policy

abbrev pub choices_or_refusal : Result (List ℕ) text.Refusal → Result (List ℕ) PlainRefusal
choices_or_refusal (Ok choices) = Ok choices
choices_or_refusal (Err r) = Err (policy_text r.line r.kind)

-- at some state the choice isn't one of the state's
pub record TakesNoChoice (m : Mdp) (policy : List ℕ) : Type 0 where
  pub state : ℕ
  pub below : state < states_of m
  pub past : length (choices_at m state) ≤ slice_index policy state

-- ---- the states that the labels name

abbrev pub marks_at : Mdp → Option ℕ → Result (List Bool) PlainRefusal
marks_at m None = Err query_label
marks_at m (Some l) = Ok (marks_of m l)

abbrev pub states_with : Mdp → List ℕ → Result (List Bool) PlainRefusal
states_with m label = marks_at m (place_of label m.labels)

abbrev pub states_on_way : Mdp → Option (List ℕ) → Result (Option (List Bool)) PlainRefusal
states_on_way m None = Ok None
states_on_way m (Some label) = states_with m label >>= (λ stays. Ok (Some stays))

-- the label of the way first
abbrev pub marks_due : Option (List ℕ) → List ℕ → Mdp → Result Marked PlainRefusal
marks_due stay label m = states_on_way m stay >>= (λ stays. states_with m label >>= (λ goals. Ok (record { stays = stays; goals = goals })))

-- ---- its value

-- the term past width at a place: of the whole model, in round 0, with the policy
abbrev pub term_at : List ℕ → Place → WideTerm
term_at policy p = record { part = Whole; number = 0; policy = policy; kind = p.kind; state = Some p.node; choice = Some p.choice }

-- the text of the value, or the first term past width
abbrev pub said_of_end : Option (List ℕ) → List ℕ → Mdp → List ℕ → Result Answer Place → Said
said_of_end stay label m policy (Ok a) = Ok (value_text stay label m a)
said_of_end stay label m policy (Err p) = Err (too_wide (term_at policy p))

-- the computation of the value, with these states on the way and these goals, ends, and this is said of its end: a term past width is named with the
-- policy as it is read on the way
abbrev pub IsValueDue : Option (List ℕ) → List ℕ → Mdp → List ℕ → Marked → Said → Type 0
IsValueDue stay label m policy marks said =
    (end : Result Answer Place) × IsAnswerOn m marks.stays marks.goals policy end × (said ≡ said_of_end stay label m (way_policy marks.stays marks.goals policy) end)

-- ---- the refusals before it, in their order: the number of states, the labels, the choices. Each choice is one of the model, also at a state that is
-- neither on the way nor a goal

abbrev pub IsChoiceDue : Option (List ℕ) → List ℕ → Mdp → List ℕ → Marked → Said → Type 0
IsChoiceDue stay label m policy marks said = (IsPolicy m policy × IsValueDue stay label m policy marks said) ⊎ (TakesNoChoice m policy × (said ≡ Err query_choice))

abbrev pub IsMarksDue : Option (List ℕ) → List ℕ → Mdp → List ℕ → Result Marked PlainRefusal → Said → Type 0
IsMarksDue stay label m policy (Ok marks) said = IsChoiceDue stay label m policy marks said
IsMarksDue stay label m policy (Err r) said = said ≡ Err r

abbrev pub IsSizeDue : Option (List ℕ) → List ℕ → Mdp → List ℕ → Bool → Said → Type 0
IsSizeDue stay label m policy false said = said ≡ Err query_size
IsSizeDue stay label m policy true said = IsMarksDue stay label m policy (marks_due stay label m) said

-- what was read as a policy, or was not
abbrev pub IsTextDue : Option (List ℕ) → List ℕ → Mdp → Result (List ℕ) PlainRefusal → Said → Type 0
IsTextDue stay label m (Ok policy) said = IsSizeDue stay label m policy (length policy == states_of m) said
IsTextDue stay label m (Err r) said = said ≡ Err r

abbrev pub IsPolicyDue : Option (List ℕ) → List ℕ → Mdp → List ℕ → Said → Type 0
IsPolicyDue stay label m bytes said = IsTextDue stay label m (choices_or_refusal (policy_outcome bytes)) said
