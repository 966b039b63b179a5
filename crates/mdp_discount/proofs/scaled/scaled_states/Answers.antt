use Rattle.std.proofs.{Common.{◌≡◌, ◌∙◌, ◌++◌, ◌∷◌, [], ℕ, List, Option, map, sym, ap, ap₂, arith}, lemmas.List.{map-append}}
use Rattle.std.specs.List.{range_with_len}
use Rattle.mdp_math.proofs.Lists.{map_more}
use Rattle.mdp_spec.specs.Mdp.{Entry}
use Rattle.mdp_discount.specs.ScaledView.{rows_in, scaled_rows}
use Rattle.mdp_discount.proofs.scaled.scaled_states.Goals as goal

pub loop-s-preserved : goal.loop-s-preserved
loop-s-preserved c =
    ap (map rows_in) (c.in_ok-push.ensures {u = tt}).items
    ∙ map-append rows_in c.loop-s.states.items (c.in_ok-state_rows.field-0 ∷ [])
    ∙ ap₂ (λ (xs : List (List (Option (List Entry)))) (x : List (Option (List Entry))). xs ++ x ∷ []) c.loop-s.invariant (c.in_ok-state_rows.ensures {u = tt})
    ∙ sym (map_more (scaled_rows c.args.model.now c.args.factor.now) c.loop-s.s)

pub returns : goal.returns
returns c =
    let end : c.loop-s.s ≡ c.states-s-end.result = omega arith in
    c.loop-s.invariant ∙ ap (λ (n : ℕ). map (scaled_rows c.args.model.now c.args.factor.now) (range_with_len 0 n)) (end ∙ c.states-s-end.ensures)
