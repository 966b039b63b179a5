use Rattle.std.proofs.Common.{ℕ, ◌+◌, ◌≤◌, ◌<◌, List, drop, sym, ap, subst, ◌∙◌}
use Rattle.std.specs.Prelude.{slice_index}
use Rattle.mdp_spec.specs.Mdp.{State, Mdp, state_at}
use Rattle.mdp_rows.specs.Replay.{with_states}
use Rattle.mdp_rows.proofs.{CutModels.Handing.{state_first}, Calls.Kept.{both_same}}
use Rattle.mdp_policy.specs.Chain.{with_choice, chain_of}
use Rattle.mdp_policy.proofs.Handed.{chain-next, chain-end}
use Rattle.mdp_policy.proofs.chain.give_states.Goals as goal

pub loop-s-preserved : goal.loop-s-preserved
loop-s-preserved c =
    let m : Mdp = c.args.model.now in
    let policy : List ℕ = c.args.policy.now in
    let rest : List State = drop (c.loop-s.s + 1) (Mdp.states (chain_of m policy)) in
    record {
      given =
          sym (state_first m.names m.labels (with_choice (state_at m c.loop-s.s) (slice_index policy c.loop-s.s)) rest c.loop-s.builder c.give_state.new.builder c.in_ok-give_state.ensures.given)
          ∙ ap (λ (xs : List State). with_states m.names m.labels xs c.loop-s.builder)
          (sym (chain-next m policy c.requires.policy c.loop-s.s (subst (λ (n : ℕ). c.loop-s.s < n) c.states-s-end.ensures c.loop-s-test.true)))
          ∙ c.loop-s.invariant.given;
      same = both_same c.args.builder.now c.loop-s.builder c.give_state.new.builder c.loop-s.invariant.same c.in_ok-give_state.ensures.same;
    }

pub returns : goal.returns
returns c =
    let m : Mdp = c.args.model.now in
    record {
      given =
          sym c.loop-s.invariant.given
          ∙ ap (λ (xs : List State). with_states m.names m.labels xs c.loop-s.builder)
          (chain-end m c.args.policy.now c.requires.policy c.loop-s.s (subst (λ (n : ℕ). n ≤ c.loop-s.s) c.states-s-end.ensures c.loop-s-test.false));
    }
