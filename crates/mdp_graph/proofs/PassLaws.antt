-- What the sets of states mean for policies.
use Rattle.std.proofs.Common.{◌≡◌, inl, inr, ℕ, suc, zero, ◌<◌, Bool, true, false, not, ◌||◌, List, get_or, sym, ap, ◌∙◌}
use Rattle.std.proofs.lemmas.Bool.{false≢true, cases_Bool}
use Rattle.mdp_spec.specs.{Mdp.{Mdp, Choice, no_choice, states_of, choices_at, row_at}, Row.{IsMdp}}
use Rattle.mdp_graph.specs.{Sets.{marked, can_enter, stays_in, some_choice}, Layers.{reached}, Choices.{AreLeast}, Reach.{may_step}}
use Rattle.mdp_graph.specs.{Avoid.{IsGreatestAvoiding, keeps}, Laws.{policy_step, PolicyAvoids, StaysSure}}
use Rattle.mdp_graph.proofs.{Reaching.{step-reaches}, RowSets.{list_any-by, enters-at, enters-by, stays-at, stays-fails}}
use Rattle.mdp_math.proofs.Booleans.{and-right, and-both}

meets_none : (m : Mdp) (goals marks : List Bool) (policy : List ℕ) → IsMdp m → IsGreatestAvoiding m goals marks → AreLeast m goals marks (keeps m marks) policy
    → (k s : ℕ) → s < states_of m → marked marks s ≡ true
    → reached (policy_step m policy) (marked goals) k s ≡ true → false ≡ true
unfolding reached
meets_none m goals marks policy ok g l zero s h e is = let v = g.avoiding in sym (v.outside s h e) ∙ is
meets_none m goals marks policy ok g l (suc k) s h e is = elim (cases_Bool (reached (policy_step m policy) (marked goals) k s)) [
  | inl before ↦ meets_none m goals marks policy ok g l k s h e before
  | inr new ↦
      (let v = g.avoiding in
      let set = reached (policy_step m policy) (marked goals) k in
      let c = get_or policy s 0 in
      let row = ok.row s c h (l.in_range s h) in
      let stepped : can_enter set (row_at m s c) ≡ true = sym (ap (λ b. b || policy_step m policy set s) new) ∙ is in
      let kept = and-right (marked marks s) (stays_in (marked marks) (row_at m s c)) (l.passes s h e (v.outside s h e)) in
      let z = enters-at set (row_at m s c) (states_of m) row.in_range stepped in
      meets_none m goals marks policy ok g l k z.0 z.1 (stays-at (marked marks) (row_at m s c) z.0 kept z.2) z.3)
]

pub policy_avoids : PolicyAvoids
policy_avoids m goals marks policy ok g l k s h e = elim (cases_Bool (reached (policy_step m policy) (marked goals) k s)) [
  | inl is ↦ absurd (false≢true (meets_none m goals marks policy ok g l k s h e is))
  | inr not ↦ not
]

pub stays_sure : StaysSure
stays_sure m goals marks ok w s c h e not_goal k =
    let first = marked w.0 in
    let sure = w.2 in
    let row = ok.row s c h k in
    let here = sure.never s h in
    elim (cases_Bool (stays_in (marked marks) (row_at m s c))) [
      | inl is ↦ is
      | inr out ↦
          (let z = stays-fails (marked marks) (row_at m s c) (states_of m) row.in_range out in
          let there = sure.never z.0 z.1 in
          absurd (false≢true (sym z.3 ∙ there.1 (λ j. elim (cases_Bool (reached (may_step m goals) first j z.0)) [
            | inl is ↦
                (let set = reached (may_step m goals) first j in
                let stepped : may_step m goals set s ≡ true =
                and-both (not (marked goals s)) (some_choice (can_enter set) m s) (ap not not_goal)
                (list_any-by (λ (x : Choice). can_enter set x.row) (choices_at m s) no_choice c k (enters-by set (row_at m s c) z.0 z.2 is)) in
                absurd (false≢true (sym (here.0 e (suc j)) ∙ step-reaches (may_step m goals) first j s stepped)))
            | inr never ↦ never
          ]))))
    ]
