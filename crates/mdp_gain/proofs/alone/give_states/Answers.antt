use Rattle.std.proofs.Common.{ℕ, ◌+◌, List, [], ◌∷◌, ◌++◌, drop, map, length, sym, ap, ◌∙◌}
use Rattle.std.specs.Prelude.{slice_index}
use Rattle.mdp_spec.specs.Mdp.{State}
use Rattle.mdp_rows.specs.Replay.{with_states}
use Rattle.mdp_rows.proofs.{CutModels.Handing.{state_first}, Calls.Kept.{both_same}}
use Rattle.mdp_gain.specs.{Alone.{only_name, elsewhere}, PartCode.{state_in}}
use Rattle.mdp_gain.proofs.Handing.{member-at, behind-next}
use Rattle.mdp_gain.proofs.alone.give_states.Goals as goal

pub give_state-requires-clause-member : goal.give_state-requires-clause-member
give_state-requires-clause-member c = member-at c.args.part.now c.requires.given c.known.ensures.model c.loop-s.s-index c.loop-s-test.true

pub loop-s-preserved : goal.loop-s-preserved
loop-s-preserved c =
    let x = c.args.part.now in
    let states : List ℕ = x.states.now in
    let last : State = elsewhere (length states) in
    let k : ℕ = c.loop-s.s-index in
    let rest : List State = drop (k + 1) (map (state_in x) states ++ last ∷ []) in
    let names : List (List ℕ) = only_name ∷ [] in
    record {
      given =
          sym (state_first names [] (state_in x (slice_index states k)) rest c.loop-s.builder c.give_state.new.builder c.in_ok-give_state.ensures.given)
          ∙ ap (λ (xs : List State). with_states (only_name ∷ []) [] xs c.loop-s.builder) (sym (behind-next (state_in x) states last k c.loop-s-test.true))
          ∙ c.loop-s.invariant.given;
      same = both_same c.args.builder.now c.loop-s.builder c.give_state.new.builder c.loop-s.invariant.same c.in_ok-give_state.ensures.same;
    }
