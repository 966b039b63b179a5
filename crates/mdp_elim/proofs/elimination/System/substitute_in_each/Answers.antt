use Rattle.std.proofs.Common.{◌≡◌, ◌∙◌, ◌+◌, Err, length, suc, sym, subst, rules, arith}
use Rattle.mdp_wide.specs.declared.unfinished.Unfinished.TheVariants as error
use Rattle.mdp_elim.specs.Predecessors.{LeadBelow}
use Rattle.mdp_elim.proofs.Putting.{IsPutBelow, put_stop, put_next, put_all}
use Rattle.mdp_elim.proofs.elimination.System.substitute_in_each.Goals as goal

pub returns-in_err-substitute_at-clause-wide : goal.returns-in_err-substitute_at-clause-wide
returns-in_err-substitute_at-clause-wide c = λ h.
    let w : c.substitute_at.result ≡ Err (error.TooWide tt) = search rules in
    let e : c.args.s + 1 ≡ suc c.args.s = omega arith in
    put_stop c.args.s c.args.pivot.now c.requires.pivot c.args.states.now c.args.self.now.equations.items (subst (λ n. LeadBelow c.args.s n c.args.self.now.equations.items) e c.requires.linked.down)
    c.loop-t.t-index _ c.loop-t.self.equations.items c.loop-t-test.true c.requires.smaller c.loop-t.invariant.put c.requires.linked.count (c.substitute_at.ensures.wide w)

pub loop-t-preserved : goal.loop-t-preserved
loop-t-preserved c =
    let e : c.args.s + 1 ≡ suc c.args.s = omega arith in
    record {
      linked = (c.in_ok-substitute_at.ensures {u = tt}).linked;
      put = put_next c.args.s c.args.pivot.now c.requires.pivot c.args.states.now c.args.self.now.equations.items (subst (λ n. LeadBelow c.args.s n c.args.self.now.equations.items) e c.requires.linked.down)
          c.loop-t.t-index _ c.loop-t.self.equations.items c.loop-t-test.true c.requires.smaller c.loop-t.invariant.put c.substitute_at.new.self.equations.items (c.in_ok-substitute_at.ensures {u = tt}).ok;
    }

pub returns-clause-ok : goal.returns-clause-ok
returns-clause-ok c =
    let e : c.args.s + 1 ≡ suc c.args.s = omega arith in
    let n : c.loop-t.t-index ≡ length c.args.states.now = omega (arith, c.loop-t.auto.t-index-end, c.loop-t-test.false) in
    put_all c.args.s c.args.pivot.now c.requires.pivot c.args.states.now c.args.self.now.equations.items (subst (λ n. LeadBelow c.args.s n c.args.self.now.equations.items) e c.requires.linked.down)
    c.loop-t.self.equations.items (subst (λ j. IsPutBelow c.args.s c.args.pivot.now c.args.states.now j c.args.self.now.equations.items c.loop-t.self.equations.items) n c.loop-t.invariant.put)
    c.requires.complete c.requires.linked.count (c.loop-t.invariant.linked.count ∙ sym c.requires.linked.count)
