use Rattle.std.proofs.Common.{◌≡◌, ◌+◌, ◌-◌, ℕ, get_or, is_none, not, refl, ap, ◌∙◌, subst, arith}
use Rattle.mdp_parts.proofs.Grouping.{IsGrouping, grouping_begins, grouping_skip, grouping_more, grouped, free_root, read_at}
use Rattle.mdp_parts.proofs.numbering.group_back.Goals as goal

pub loop-k-preserved-then-is_none : goal.loop-k-preserved-then-is_none
loop-k-preserved-then-is_none c =
    let k : ℕ = c.loop-k.k - 1 in
    let more : c.loop-k.k ≡ k + 1 = omega arith in
    let a : IsGrouping c.args.back.now c.args.order.now c.args.states (k + 1) c.loop-k.numbers.items c.loop-k.number = subst (λ
    (j : ℕ). IsGrouping c.args.back.now c.args.order.now c.args.states j c.loop-k.numbers.items c.loop-k.number) more c.loop-k.invariant in
    let b = c.requires.below k (omega arith) in
    let read = read_at c.loop-k.numbers.items (get_or c.args.order.now k 0) c.index.result.now (omega (arith, b, c.loop-k.invariant.count)) c.index.ensures in
    grouping_more c.args.back.now c.args.order.now c.args.states c.requires.edges c.requires.below c.requires.all k (omega arith) c.loop-k.numbers.items c.loop-k.number a
    (get_or c.args.order.now k 0) refl (read ∙ free_root c.index.result.now (ap not c.if-is_none.ensures)) c.take_back.new.numbers.items c.in_ok-take_back.ensures

pub loop-k-preserved : goal.loop-k-preserved
loop-k-preserved c =
    let k : ℕ = c.loop-k.k - 1 in
    let more : c.loop-k.k ≡ k + 1 = omega arith in
    let a : IsGrouping c.args.back.now c.args.order.now c.args.states (k + 1) c.loop-k.numbers.items c.loop-k.number = subst (λ
    (j : ℕ). IsGrouping c.args.back.now c.args.order.now c.args.states j c.loop-k.numbers.items c.loop-k.number) more c.loop-k.invariant in
    let b = c.requires.below k (omega arith) in
    let read = read_at c.loop-k.numbers.items (get_or c.args.order.now k 0) c.index.result.now (omega (arith, b, c.loop-k.invariant.count)) c.index.ensures in
    grouping_skip c.args.back.now c.args.order.now c.args.states c.requires.edges c.requires.below c.requires.all k (omega arith) c.loop-k.numbers.items c.loop-k.number a (ap is_none read
    ∙ ap not c.if-is_none.ensures)

pub returns : goal.returns
returns c = grouped c.args.back.now c.args.order.now c.args.states c.requires.edges c.requires.all _ c.loop-k.number (let z : c.loop-k.k ≡ 0 = omega arith in subst (λ
    (j : ℕ). IsGrouping c.args.back.now c.args.order.now c.args.states j c.loop-k.numbers.items c.loop-k.number) z c.loop-k.invariant)

pub loop-k-init : goal.loop-k-init
loop-k-init c = rw c.in_ok-numbers.ensures (grouping_begins c.args.back.now c.args.order.now c.args.states c.requires.edges _ (omega arith))

pub take_back-requires-clause-free : goal.take_back-requires-clause-free
take_back-requires-clause-free c =
    let b = c.requires.below (c.loop-k.k - 1) (omega arith) in
    read_at c.loop-k.numbers.items _ c.index.result.now (omega (arith, b, c.loop-k.invariant.count)) c.index.ensures ∙ free_root c.index.result.now (ap not c.if-is_none.ensures)

pub take_back-requires-clause-root : goal.take_back-requires-clause-root
take_back-requires-clause-root c = let b = c.requires.below (c.loop-k.k - 1) (omega arith) in omega (arith, b, c.loop-k.invariant.count)
