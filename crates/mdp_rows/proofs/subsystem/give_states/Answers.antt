use Rattle.std.proofs.Common.{◌≡◌, ℕ, ◌+◌, ◌≤◌, ◌<◌, ◌∷◌, Bool, ◌||◌, List, drop, sym, ap, subst, ◌∙◌}
use Rattle.mdp_spec.specs.{Mdp.{State, Mdp, state_at}, Sub.{sub_of}, Tree.{is_marked}}
use Rattle.mdp_rows.specs.{Replay.{with_states}, Cut.{cut_state}}
use Rattle.mdp_rows.proofs.{CutModels.{sub_at, sub_end}, CutModels.Handing.{state_first}, Calls.Kept.{both_same}}
use Rattle.mdp_rows.proofs.subsystem.give_states.Goals.{then-at, else-at}
use Rattle.mdp_rows.proofs.subsystem.give_states.Goals as goal

pub loop-s-preserved : goal.loop-s-preserved
loop-s-preserved c =
    let m : Mdp = c.args.model.now in
    let stays : c.if-at.stays ≡ (is_marked c.args.goals.now c.loop-s.s || is_marked c.args.kept.now c.loop-s.s) =
    elim c.if-at.branch [
      | then-at w ↦ w.stays-is ∙ w.if-at.true ∙ ap (λ (b : Bool). b || is_marked c.args.kept.now c.loop-s.s) (sym (sym c.at.ensures ∙ w.if-at.true))
      | else-at w ↦ w.stays-is ∙ w.at-stays.ensures ∙ ap (λ (b : Bool). b || is_marked c.args.kept.now c.loop-s.s) (sym (sym c.at.ensures ∙ w.if-at.false))
    ]
    in
    let rest : List State = drop (c.loop-s.s + 1) (Mdp.states (sub_of m c.args.goals.now c.args.kept.now)) in
    record {
      given =
          sym (state_first m.names m.labels (cut_state m.names c.loop-s.s (state_at m c.loop-s.s) c.if-at.stays) rest c.loop-s.builder c.give_state.new.builder c.in_ok-give_state.ensures.given)
          ∙ ap (λ (b : Bool). with_states m.names m.labels (cut_state m.names c.loop-s.s (state_at m c.loop-s.s) b ∷ rest) c.loop-s.builder) stays
          ∙ ap (λ (xs : List State). with_states m.names m.labels xs c.loop-s.builder)
          (sym (sub_at m c.args.goals.now c.args.kept.now c.loop-s.s (subst (λ (n : ℕ). c.loop-s.s < n) c.states-s-end.ensures c.loop-s-test.true)))
          ∙ c.loop-s.invariant.given;
      same = both_same c.args.builder.now c.loop-s.builder c.give_state.new.builder c.loop-s.invariant.same c.in_ok-give_state.ensures.same;
    }

pub returns : goal.returns
returns c =
    let m : Mdp = c.args.model.now in
    record {
      given =
          sym c.loop-s.invariant.given
          ∙ ap (λ (xs : List State). with_states m.names m.labels xs c.loop-s.builder)
          (sub_end m c.args.goals.now c.args.kept.now c.loop-s.s (subst (λ (n : ℕ). n ≤ c.loop-s.s) c.states-s-end.ensures c.loop-s-test.false));
    }
