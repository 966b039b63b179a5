use Rattle.std.proofs.{Common.{◌≡◌, ℕ, ◌+◌, ◌*◌, ◌≤◌, [], ◌++◌, drop, length, ap, sym, ◌∙◌, arith}, lemmas.List.{drop_all}}
use Rattle.std.proofs.lemmas.List.FromFn.{length-map-range_with_len}
use Rattle.mdp_drn.specs.Writing.{states_text}
use Rattle.mdp_drn.proofs.TextWritten.Appending.{appending-more, appending-done}
use Rattle.mdp_gen.specs.{Draws.{next, draw}, Layered.{of_states, state_behind, layer_states}, Pieces.{state_text}}
use Rattle.mdp_gen.proofs.Written.{layers-more, draw-four}
use Rattle.mdp_gen.proofs.writing.push_layers.Goals as goal

pub loop-s-preserved : goal.loop-s-preserved
loop-s-preserved c =
    let n = c.args.number in
    let more =
    layers-more n c.args.layers c.args.width c.loop-s.s c.loop-s-test.true
    ∙ ap (λ (x : ℕ). state_text c.args.layers c.args.width c.loop-s.s x ++ states_text (of_states []) (c.loop-s.s + 1) (drop (c.loop-s.s + 1) (layer_states n c.args.layers c.args.width)))
    (sym c.loop-s.invariant.0)
    in (
      c.in_ok-x.ensures.last ∙ ap (λ (x : ℕ). next (next (next (next x)))) c.loop-s.invariant.0 ∙ sym (draw-four n c.loop-s.s),
      c.in_ok-x.ensures.small,
      appending-more _ _ _ _ _ _ _ c.loop-s.invariant.2 more c.in_ok-x.ensures.text c.push_state.ensures.front,
    )

pub returns-clause-text : goal.returns-clause-text
returns-clause-text c =
    let states = layer_states c.args.number c.args.layers c.args.width in
    let len : length states ≡ c.args.layers * c.args.width =
    length-map-range_with_len (λ s. state_behind c.args.layers c.args.width s (draw c.args.number (4 * s))) 0 (c.args.layers * c.args.width) in
    let past : length states ≤ c.loop-s.s = omega (arith, len) in
    appending-done _ _ _ _ c.loop-s.invariant.2 (ap (states_text (of_states []) c.loop-s.s) (drop_all c.loop-s.s states past))
