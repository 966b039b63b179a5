use Rattle.std.proofs.Common.{◌≡◌, ◌++◌, ℕ, sym, subst, arith}
use Rattle.mdp_rows.specs.Preds.{choices_of, choices_below}
use Rattle.mdp_quot.specs.ExitLists.{AreExits}
use Rattle.mdp_quot.proofs.ExitsFound.{no_choices, state_more}
use Rattle.mdp_spec.specs.Mdp.{states_of}
use Rattle.mdp_quot.proofs.exit_lists.exit_lists.Goals as goal

pub loop-s-init : goal.loop-s-init
loop-s-init c = no_choices _ _ _ _ _ c.in_ok-lists.ensures

kept : (P : ℕ → Type 0) (Q : ℕ → Type 0) (k n : ℕ) → k ≡ n → (P k → Q k) → P n → Q n
kept P Q k n e f p = subst Q e (f (subst P (sym e) p))

pub loop-s-preserved : goal.loop-s-preserved
loop-s-preserved c =
    state_more c.args.model.now c.args.ends.now.parts c.args.nodes.now c.args.count c.loop-s.s _
    (kept (λ n. AreExits c.args.model.now c.args.ends.now.parts c.args.nodes.now n (choices_below c.args.model.now c.loop-s.s) c.loop-s.lists.items)
    (λ n. AreExits c.args.model.now c.args.ends.now.parts c.args.nodes.now n
    (choices_below c.args.model.now c.loop-s.s ++ choices_of c.args.model.now c.loop-s.s) c.push_state.new.lists.items) _ _ c.loop-s.invariant.count
    (c.in_ok-push_state.ensures (choices_below c.args.model.now c.loop-s.s)) c.loop-s.invariant)

pub returns : goal.returns
returns c =
    let all : c.loop-s.s ≡ states_of c.args.model.now = omega arith in
    subst (λ (n : ℕ). AreExits c.args.model.now c.args.ends.now.parts c.args.nodes.now c.args.count (choices_below c.args.model.now n) c.loop-s.lists.items) all c.loop-s.invariant
