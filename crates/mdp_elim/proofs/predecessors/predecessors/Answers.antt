use Rattle.std.proofs.{Common.{◌≡◌, ◌∙◌, ◌<◌, ◌+◌, ℕ, sym, ap, subst, List, length, arith}, lemmas.List.{with_items_is, get_or_default}}
use Rattle.std.specs.List.{All}
use Rattle.smallvec.specs.SmallVec.{SmallVec}
use Rattle.mdp_spec.specs.Mdp.{Entry}
use Rattle.mdp_elim.specs.Equation as spec
use Rattle.mdp_elim.specs.Predecessors.{ListsMore, ListsTargets, HoldSmaller, at}
use Rattle.mdp_elim.proofs.{RowSums.{between-below}, Lists.{targets-next}}
use Rattle.mdp_elim.proofs.predecessors.predecessors.Goals as goal

pub list_targets-requires : goal.list_targets-requires
list_targets-requires c =
    let is : c.index-equations-t.result ≡ at c.args.equations.now c.loop-t.t = c.index-equations-t.is ∙ get_or_default c.args.equations.now c.loop-t.t _ spec.no_equation (omega arith) in
    subst (λ (row : List Entry). All (λ x. x.target < length c.deref_mut.result.now) row) (sym (c.entries.ensures ∙ ap spec.Equation.entries is))
    (λ k d l. let b = between-below 0 (length c.args.equations.now) (at c.args.equations.now c.loop-t.t).entries
    (c.requires.down c.loop-t.t (omega arith)) k d l in omega (arith, b, c.loop-t.invariant.count, ap length c.deref_mut.ensures.value))

pub loop-t-preserved : goal.loop-t-preserved
loop-t-preserved c =
    let more = c.list_targets.new.lists in
    let is : c.index-equations-t.result ≡ at c.args.equations.now c.loop-t.t = c.index-equations-t.is ∙ get_or_default c.args.equations.now c.loop-t.t _ spec.no_equation (omega arith) in
    let kept : ListsMore c.loop-t.lists.items more = subst (λ (ls : List (SmallVec ℕ)). ListsMore ls more) c.deref_mut.ensures.value (c.in_ok-list_targets.ensures {u = tt}).more in
    let new : ListsTargets more c.loop-t.t (at c.args.equations.now c.loop-t.t).entries = subst (λ (row : List Entry). ListsTargets more c.loop-t.t row)
    (c.entries.ensures ∙ ap spec.Equation.entries is) (c.in_ok-list_targets.ensures {u = tt}).listed in
    let same = with_items_is c.loop-t.lists more (omega (arith, kept.count)) in
    record {
      count = ap length same ∙ kept.count ∙ c.loop-t.invariant.count;
      listed = subst (λ (ls : List (SmallVec ℕ)). (u : ℕ) → u < c.loop-t.t + 1 → ListsTargets ls u (at c.args.equations.now u).entries)
          (sym same) (targets-next c.loop-t.lists.items more c.args.equations.now c.loop-t.t kept c.loop-t.invariant.listed new);
      smaller = subst HoldSmaller (sym same) (kept.smaller c.loop-t.invariant.smaller);
    }

pub loop-t-init : goal.loop-t-init
loop-t-init c = record { count = c.in_ok-lists.ensures.count; listed = λ t h. absurd (omega (arith, h)); smaller = c.in_ok-lists.ensures.smaller }
