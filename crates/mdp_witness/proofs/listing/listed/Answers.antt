use Rattle.std.proofs.Common.{◌∙◌, ◌∷◌, [], ◌++◌, List, ℕ, Vec, sym, ap}
use Rattle.std.specs.Global.{Global}
use Rattle.mdp_witness.proofs.{OneMore.{listed-more, listed-skip}, listing.listed.Goals.{then-at+in_ok-push, else-at}}
use Rattle.mdp_witness.proofs.listing.listed.Goals as goal

pub loop-s-preserved : goal.loop-s-preserved
loop-s-preserved c = elim c.if-at.branch [
  | then-at+in_ok-push w ↦
      ap (λ (v : Vec ℕ Global). v.items) w.list-is ∙ (w.in_ok-push.ensures {u = tt}).items ∙ ap (λ (xs : List ℕ). xs ++ c.loop-s.s ∷ []) c.loop-s.invariant
      ∙ sym (listed-more c.loop-s.s c.args.marks.now (sym c.at.ensures ∙ w.if-at.true))
  | else-at w ↦ ap (λ (v : Vec ℕ Global). v.items) w.list-is ∙ c.loop-s.invariant ∙ sym (listed-skip c.loop-s.s c.args.marks.now (sym c.at.ensures ∙ w.if-at.false))
]
