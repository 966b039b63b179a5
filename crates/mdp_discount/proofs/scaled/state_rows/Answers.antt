use Rattle.std.proofs.{Common.{◌≡◌, ◌∙◌, ◌++◌, ◌∷◌, [], ℕ, List, Option, map, sym, ap, ap₂, arith}, lemmas.List.{map-append}}
use Rattle.std.specs.{List.{range_with_len}, Option.{option_map}}
use Rattle.mdp_math.proofs.Lists.{map_more}
use Rattle.mdp_spec.specs.Mdp.{Entry, states_of, row_at}
use Rattle.mdp_discount.specs.ScaledView.{row_in, scaled_row}
use Rattle.mdp_discount.proofs.scaled.state_rows.Goals as goal

pub loop-c-preserved : goal.loop-c-preserved
loop-c-preserved c =
    let m = c.args.model.now in
    let f = c.args.factor.now in
    ap (map (option_map row_in)) (c.in_ok-push.ensures {u = tt}).items
    ∙ map-append (option_map row_in) c.loop-c.rows.items (c.in_ok-scaled_row.field-0 ∷ [])
    ∙ ap₂ (λ (xs : List (Option (List Entry))) (x : Option (List Entry)). xs ++ x ∷ []) c.loop-c.invariant
    (c.in_ok-scaled_row.ensures {u = tt} ∙ ap₂ (λ (n : ℕ) (row : List Entry). scaled_row n f row) c.states-end.ensures c.row.ensures.row)
    ∙ sym (map_more (λ k. scaled_row (states_of m) f (row_at m c.args.s k)) c.loop-c.c)

pub returns : goal.returns
returns c =
    let m = c.args.model.now in
    let end : c.loop-c.c ≡ c.choices-choices.result = omega arith in
    ap (map (option_map row_in)) (c.in_ok-rows-2.ensures {u = tt} ∙ c.deref.ensures.value)
    ∙ c.loop-c.invariant
    ∙ ap (λ (n : ℕ). map (λ k. scaled_row (states_of m) c.args.factor.now (row_at m c.args.s k)) (range_with_len 0 n)) (end ∙ c.choices-choices.ensures)
