use Rattle.std.proofs.Common.{zero-add, ◌≡◌, ◌∙◌, ◌-◌, ◌+◌, ◌<◌, ◌^◌, suc, List, [], ◌∷◌, Err, Some, length, subst, ap, sym, rules, arith, refl}
use Rattle.std.proofs.{lemmas.List.{length-append}, lemmas.Result.{MatchResult-at_ok}}
use Rattle.mdp_elim.specs.Equation as spec
use Rattle.mdp_wide.specs.declared.unfinished.Unfinished.TheVariants as error
use Rattle.mdp_elim.specs.{Elimination.{Eliminated, eliminated, solution}, Finish.{finish, LeadDown}, Predecessors.{IsLinked, LeadBelow}}
use Rattle.mdp_elim.proofs.Finish.{all_stop, all_step, can_step, down_step, placed-wide, placed-ok}
use Rattle.mdp_elim.proofs.elimination.eliminate_all.Goals as goal

pub returns-in_err-pivot-clause-wide : goal.returns-in_err-pivot-clause-wide
returns-in_err-pivot-clause-wide c = λ s h.
    let p : c.placed.result ≡ Err (error.TooWide s) = search rules in
    let w = placed-wide (c.loop-s.s - 1) s c.eliminate.result (sym c.placed.ensures ∙ p) in
    let n : c.loop-s.s ≡ suc (c.loop-s.s - 1) = omega arith in
    c.loop-s.invariant.same ∙ all_stop c.loop-s.s (c.loop-s.s - 1) n c.loop-s.left.equations.items c.loop-s.done.items (c.eliminate.ensures.wide w.0) ∙ ap Err w.1

pub loop-s-preserved : goal.loop-s-preserved
loop-s-preserved c =
    let n : c.loop-s.s ≡ suc (c.loop-s.s - 1) = omega arith in
    let e : Eliminated = record { pivot = c.in_ok-pivot.pivot; rest = c.eliminate.new.self.equations.items } in
    let k = placed-ok (c.loop-s.s - 1) c.in_ok-pivot.pivot c.eliminate.result (sym c.placed.ensures ∙ c.in_ok-pivot.was {u = tt}) in
    let h : eliminated (c.loop-s.s - 1) c.loop-s.left.equations.items ≡ Some (record { pivot = c.in_ok-pivot.pivot; rest = c.eliminate.new.self.equations.items }) = MatchResult-at_ok _ _ _ k c.eliminate.ensures.ok in
    let l : IsLinked (c.loop-s.s - 1) (c.loop-s.s - 1) c.eliminate.new.self.lists.items c.eliminate.new.self.equations.items = MatchResult-at_ok _ _ _ k c.eliminate.ensures.linked in
    let more = can_step c.loop-s.s (c.loop-s.s - 1) n c.loop-s.left.equations.items c.loop-s.done.items e c.loop-s.invariant.can h in
    let push = (c.in_ok-push.ensures {u = tt}).items in
    record {
      same = c.loop-s.invariant.same ∙ all_step c.loop-s.s (c.loop-s.s - 1) n c.loop-s.left.equations.items c.loop-s.done.items e h
          ∙ ap (λ (es : List spec.Equation). finish (c.loop-s.s - 1) es (solution (c.loop-s.s - 1) c.eliminate.new.self.equations.items)) (sym push);
      can = more.1;
      linked = l;
      down = subst (λ (es : List spec.Equation). LeadDown (c.loop-s.s - 1) es) (sym push)
          (down_step c.loop-s.s (c.loop-s.s - 1) n c.loop-s.left.equations.items c.loop-s.done.items c.in_ok-pivot.pivot more.0 c.loop-s.invariant.down);
      count = omega (arith, ap length push, length-append c.loop-s.done.items (c.in_ok-pivot.pivot ∷ []), c.loop-s.invariant.count);
    }

pub predecessors-requires-clause-few : goal.predecessors-requires-clause-few
predecessors-requires-clause-few c = subst (λ (es : List spec.Equation). length es < 2 ^ 32) (sym c.deref.ensures.value) c.requires.few

pub predecessors-requires-clause-down : goal.predecessors-requires-clause-down
predecessors-requires-clause-down c = subst (λ (es : List spec.Equation). LeadBelow (length es) (length es) es) (sym c.deref.ensures.value) c.requires.down

pub eliminate-requires-clause-linked : goal.eliminate-requires-clause-linked
eliminate-requires-clause-linked c =
    let n : c.loop-s.s ≡ c.loop-s.s - 1 + 1 = omega arith in
    subst (λ k. IsLinked k k c.loop-s.left.lists.items c.loop-s.left.equations.items) n c.loop-s.invariant.linked

pub loop-s-init : goal.loop-s-init
loop-s-init c =
    let n : c.len-s.result ≡ length c.args.equations.items = search rules in
    let linked = rw c.deref.ensures.value at c.in_ok-lists.ensures in
    rw (n, c.new-done.ensures.items) (record { same = refl; can = c.requires.can; linked = linked; down = tt; count = zero-add _ })

pub returns-clause-ok : goal.returns-clause-ok
returns-clause-ok c = let z : c.loop-s.s ≡ 0 = omega arith in rw z at c.loop-s.invariant.same
