-- Which states the labels name, and the refusals in their order.
use Rattle.std.proofs.Common.{List, [], ◌∷◌, inr, Bool, true, false, Some, None, Ok, Err, refl, arith}
use Rattle.std.specs.Prelude.{codes}
use Rattle.mdp_math.proofs.Tables.{AreEqual}
use Rattle.mdp_spec.specs.Mdp.{Mdp}
use Rattle.mdp_spec.proofs.Small.{choice, entry, labelled, number}
use Rattle.mdp_job.specs.Refusal.{query_size, query_label, query_choice}
use Rattle.mdp_command_policy.specs.Due.{marks_due, IsSizeDue}

-- from state 0, which is safe, to state 1 or to the goal 2; state 1 loops, or goes to the goal
abbrev detour : Mdp
detour = record {
  names = [];
  labels = codes "init" ∷ codes "safe" ∷ codes "goal" ∷ [];
  states =
      labelled (0 ∷ 1 ∷ []) (choice (entry 1 (number 1) ∷ []) ∷ choice (entry 2 (number 1) ∷ []) ∷ [])
      ∷ labelled [] (choice (entry 1 (number 1) ∷ []) ∷ choice (entry 2 (number 1) ∷ []) ∷ [])
      ∷ labelled (2 ∷ []) (choice (entry 2 (number 1) ∷ []) ∷ [])
      ∷ [];
}

abbrev goals : List Bool
goals = false ∷ false ∷ true ∷ []

-- a label that the model hasn't is refused, of the way and of the goals; `-` is a name as any other
labels : AreEqual (
    (marks_due None (codes "goal") detour, Ok (record { stays = None; goals = goals })) ∷
    (marks_due (Some (codes "safe")) (codes "goal") detour, Ok (record { stays = Some (true ∷ false ∷ false ∷ []); goals = goals })) ∷
    (marks_due None (codes "end") detour, Err query_label) ∷
    (marks_due (Some (codes "free")) (codes "goal") detour, Err query_label) ∷
    (marks_due (Some (codes "safe")) (codes "end") detour, Err query_label) ∷
    (marks_due (Some (codes "-")) (codes "goal") detour, Err query_label) ∷
    []
    )
labels = refl

-- the number of states is judged before the labels, and the labels before the choices
size_first : IsSizeDue (Some (codes "free")) (codes "goal") detour (0 ∷ []) false (Err query_size)
size_first = refl

label_next : IsSizeDue (Some (codes "free")) (codes "goal") detour (0 ∷ 2 ∷ 0 ∷ []) true (Err query_label)
label_next = refl

-- state 1 isn't on the way, and it has no choice 2
no_third : IsSizeDue (Some (codes "safe")) (codes "goal") detour (0 ∷ 2 ∷ 0 ∷ []) true (Err query_choice)
no_third = inr (record { state = 1; below = omega arith; past = omega arith }, refl)
