use Rattle.std.proofs.Common.{ℕ, ◌+◌, ◌∷◌, ◌++◌, [], List, refl, sym, ap, ◌∙◌, subst, Option}
use Rattle.mdp_ends.specs.Ends.{part_of}
use Rattle.mdp_quot.specs.Numbering.{IsNumbering}
use Rattle.mdp_quot.proofs.NodesFound.{known_more, new_more}
use Rattle.mdp_quot.proofs.numbering.Numbering.add.Goals as goal

pub returns-in_ok-push-in-Some : goal.returns-in_ok-push-in-Some
returns-in_ok-push-in-Some c = λ parts n a is.
    (let w = c.in-Some.ensures.some c.in-Some.node refl in
    subst (λ (xs : List ℕ). IsNumbering parts (n + 1) xs c.args.self.now.components.items c.args.self.now.first.items) (sym c.in_ok-push-in-Some.ensures.items)
    (known_more parts n c.args.self.now.nodes.items c.args.self.now.components.items c.args.self.now.first.items a w.0 c.in-Some.node (sym is ∙ w.1) w.2))

pub returns-in_ok-open-in-None : goal.returns-in_ok-open-in-None
returns-in_ok-open-in-None c = λ parts n a is.
    subst (λ (xs : List (Option ℕ)). IsNumbering parts (n + 1) c.open.new.self.nodes.items xs c.open.new.self.first.items)
    (sym (c.in_ok-open-in-None.ensures.components ∙ ap (λ (o : Option ℕ). c.args.self.now.components.items ++ o ∷ []) is))
    (subst (λ (xs : List ℕ). IsNumbering parts (n + 1) xs (c.args.self.now.components.items ++ part_of parts n ∷ []) c.open.new.self.first.items) (sym c.in_ok-open-in-None.ensures.nodes)
    (new_more parts n c.args.self.now.nodes.items c.args.self.now.components.items c.args.self.now.first.items a
    c.open.new.self.first.items (λ i e. c.in-None.ensures.none refl i (is ∙ e)) c.in_ok-open-in-None.ensures.room
    (λ i e. c.in_ok-open-in-None.ensures.given i (is ∙ e)) (λ j no. c.in_ok-open-in-None.ensures.others j (λ e. no (sym is ∙ e)))))
