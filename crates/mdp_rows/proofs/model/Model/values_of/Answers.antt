use Rattle.std.proofs.{Common.{◌==◌, ◌++◌, ◌∷◌, [], Bool, List, map, sym, ap, ap₂, ◌∙◌, arith}, lemmas.List.{map_more, take_all}}
use Rattle.std.specs.List.{list_any}
use Rattle.mdp_spec.specs.Mdp.{State, no_state}
use Rattle.mdp_rows.proofs.model.Model.values_of.Goals as goal

pub returns : goal.returns
returns c = c.loop-s.invariant ∙ ap (map (λ (x : State). list_any (λ k. k == c.args.l) x.labels)) (take_all c.loop-s.s c.args.self.now.states (omega arith))

pub loop-s-preserved : goal.loop-s-preserved
loop-s-preserved c =
    (c.in_ok-push.ensures {u = tt}).items ∙ ap₂ (λ (xs : List Bool) (b : Bool). xs ++ b ∷ []) c.loop-s.invariant c.has.ensures
    ∙ sym (map_more (λ (x : State). list_any (λ k. k == c.args.l) x.labels) c.args.self.now.states c.loop-s.s no_state (omega arith))
