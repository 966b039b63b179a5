use Rattle.std.proofs.{Common.{List, ℕ, [], ◌∷◌, ◌++◌, map, sym, ap, ap₂, ◌∙◌, arith}, lemmas.List.{map-append, take_more}}
use Rattle.std.specs.Global.{Vec}
use Rattle.mdp_rows.proofs.subsystem.names_of.Goals as goal

pub loop-m-preserved : goal.loop-m-preserved
loop-m-preserved c =
    ap (map (λ (n : Vec ℕ). n.items)) (c.in_ok-push.ensures {u = tt}).items ∙ map-append (λ (n : Vec ℕ). n.items) c.loop-m.names.items (_ ∷ [])
    ∙ ap₂ (λ (xs : List (List ℕ)) (x : List ℕ). xs ++ x ∷ []) c.loop-m.invariant ((c.in_ok-to_vec.ensures {u = tt}).items_if_clones_equal (λ x y e. e) ∙ c.name.ensures)
    ∙ sym (take_more c.args.model.now.names c.loop-m.m [] (omega arith))
