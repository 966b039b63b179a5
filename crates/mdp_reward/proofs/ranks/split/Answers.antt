use Rattle.std.specs.{Prelude.{slice_index}, List.{range_with_len}}
use Rattle.std.proofs.Common.{◌∙◌, ◌++◌, ◌∷◌, ℕ, [], List, sym, ap₂, ◌≡◌, map, subst, arith, if◌then◌else◌}
use Rattle.mdp_math.proofs.Lists.{map_more}
use Rattle.mdp_spec.specs.{Mdp.{states_of}, Tree.{is_marked}}
use Rattle.mdp_reward.proofs.ranks.split.Goals as goal

pub loop-s-preserved : goal.loop-s-preserved
loop-s-preserved c = (c.in_ok-push.ensures {u = tt}).items ∙ ap₂ (λ (xs : List ℕ) (x : ℕ). xs ++ x ∷ []) c.loop-s.invariant c.split_at.ensures ∙ sym (map_more _ c.loop-s.s)

pub returns : goal.returns
returns c =
    let all : c.loop-s.s ≡ states_of c.args.model.now = omega (arith, c.states-s-end.ensures) in
    subst (λ n. c.loop-s.both.items ≡ map (λ s. if is_marked c.args.marks.now s then slice_index c.args.inside.now s else slice_index c.args.outside.now s) (range_with_len 0 n)) all c.loop-s.invariant
