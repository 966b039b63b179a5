use Rattle.std.proofs.Common.{rules, vec_len, ◌≡◌, ℕ, ◌<◌, ◌+◌, List, length, get_or, set, sym, ap, ◌∙◌, subst, arith}
use Rattle.std.specs.List.{All}
use Rattle.mdp_graph.specs.Sets.{marked}
use Rattle.mdp_parts.proofs.Searching.{top_below, goes_on, goes_on-less, goes_back, known_before, search_as, targets_below, target_below, at_default, goes_back-less}
use Rattle.mdp_parts.proofs.depth.Search.go_on.Goals as goal

pub first_unmet-requires-clause-in_range : goal.first_unmet-requires-clause-in_range
first_unmet-requires-clause-in_range c =
    let s = c.requires.search in
    let top = top_below _ _ _ _ _ c.args.top s c.requires.some c.requires.last in
    subst (λ (xs : List ℕ). All (λ t. t < length c.args.self.now.met) xs) (sym c.of-targets.ensures) (targets_below c.args.edges.now
    (length c.args.self.now.met) c.args.top c.requires.edges s.count_met top)

pub enter-requires : goal.enter-requires
enter-requires c =
    let s = c.requires.search in
    let top = top_below _ _ _ _ _ c.args.top s c.requires.some c.requires.last in
    target_below c.args.edges.now (length c.args.self.now.met) c.args.top c.in-Some.k _ c.requires.edges s.count_met top c.of-targets.ensures c.in-Some.ensures.0

pub returns-in_ok-enter-in-Some-clause-search : goal.returns-in_ok-enter-in-Some-clause-search
returns-in_ok-enter-in-Some-clause-search c =
    let s = c.requires.search in
    let e = c.of-targets.ensures in
    let top = top_below _ _ _ _ _ c.args.top s c.requires.some c.requires.last in
    let hu = target_below c.args.edges.now (length c.args.self.now.met) c.args.top c.in-Some.k _ c.requires.edges s.count_met top c.of-targets.ensures c.in-Some.ensures.0 in
    let from = at_default c.args.self.now.next.items c.args.top c.index.result.now (omega (arith, top, s.count_next)) in
    search_as c.args.edges.now _ _ _ _ _ _ _ _ c.in_ok-enter-in-Some.ensures.way (ap (λ (xs : List ℕ). set xs c.args.top
    (c.in-Some.k + 1)) c.in_ok-enter-in-Some.ensures.next) c.in_ok-enter-in-Some.ensures.met c.in_ok-enter-in-Some.ensures.done
    (goes_on c.args.edges.now c.args.self.now.way.items c.args.self.now.next.items c.args.self.now.met c.args.self.now.done.items c.args.top s c.requires.some c.requires.last c.in-Some.k
    (get_or c.of-targets.result.now c.in-Some.k 0)
    (let l = c.in-Some.ensures.0 in let n = ap (λ (xs : List ℕ). length xs) e in omega (arith, l, n)) (ap (λ (xs : List ℕ). get_or xs c.in-Some.k 0) e) (omega
    (arith, hu, s.count_met)) c.in-Some.ensures.1
    (known_before c.args.edges.now c.args.self.now.way.items c.args.self.now.next.items c.args.self.now.met c.args.self.now.done.items c.args.top s c.requires.some c.requires.last c.in-Some.k
    (λ j l le. sym (ap (λ (xs : List ℕ). marked c.args.self.now.met (get_or xs j 0)) e) ∙ c.in-Some.ensures.2 j l (omega (arith, le, c.index.ensures, from)))))

pub returns-in_ok-enter-in-Some-clause-less : goal.returns-in_ok-enter-in-Some-clause-less
returns-in_ok-enter-in-Some-clause-less c =
    let s = c.requires.search in
    let top = top_below _ _ _ _ _ c.args.top s c.requires.some c.requires.last in
    let hu = target_below c.args.edges.now (length c.args.self.now.met) c.args.top c.in-Some.k _ c.requires.edges s.count_met top c.of-targets.ensures c.in-Some.ensures.0 in
    let from = at_default c.args.self.now.next.items c.args.top c.index.result.now (omega (arith, top, s.count_next)) in
    rw (c.in_ok-enter-in-Some.ensures.way, c.in_ok-enter-in-Some.ensures.met)
    (goes_on-less c.args.edges.now c.args.self.now.way.items c.args.self.now.next.items c.args.self.now.met c.args.self.now.done.items c.args.top s c.requires.some c.requires.last
    (get_or c.of-targets.result.now c.in-Some.k 0)
    (omega (arith, hu, s.count_met)) c.in-Some.ensures.1)

pub returns-in_ok-push-in-None-clause-search : goal.returns-in_ok-push-in-None-clause-search
returns-in_ok-push-in-None-clause-search c =
    let s = c.requires.search in
    let e = c.of-targets.ensures in
    let top = top_below _ _ _ _ _ c.args.top s c.requires.some c.requires.last in
    let from = at_default c.args.self.now.next.items c.args.top c.index.result.now (omega (arith, top, s.count_next)) in
    let way = c.args.self.now.way in
    let n : vec_len way ≡ length way.items = search rules in
    rw (c.pop.ensures.rest, n, c.in_ok-push-in-None.ensures.items)
    (goes_back c.args.edges.now c.args.self.now.way.items c.args.self.now.next.items c.args.self.now.met c.args.self.now.done.items c.args.top s c.requires.some c.requires.last
    (λ k l. known_before c.args.edges.now c.args.self.now.way.items c.args.self.now.next.items c.args.self.now.met c.args.self.now.done.items c.args.top s c.requires.some c.requires.last (k + 1)
    (λ j lj le. sym (ap (λ (xs : List ℕ). marked c.args.self.now.met (get_or xs j 0)) e)
    ∙ c.in-None.ensures j (let n = ap (λ (xs : List ℕ). length xs) e in omega (arith, lj, l, n)) (omega (arith, le, c.index.ensures, from))) k (omega arith)))

pub index_mut-requires : goal.index_mut-requires
index_mut-requires c =
    let s = c.requires.search in
    let e = c.in_ok-enter-in-Some.ensures.next in
    let top = top_below _ _ _ _ _ c.args.top s c.requires.some c.requires.last in
    omega (arith, top, s.count_next, ap (λ (xs : List ℕ). length xs) e)

pub returns-in_ok-push-in-None-clause-less : goal.returns-in_ok-push-in-None-clause-less
returns-in_ok-push-in-None-clause-less c =
    let s = c.requires.search in
    let way = c.args.self.now.way in
    let n : vec_len way ≡ length way.items = search rules in
    rw (c.pop.ensures.rest, n) (goes_back-less c.args.edges.now way.items c.args.self.now.next.items c.args.self.now.met c.args.self.now.done.items c.args.top s c.requires.some c.requires.last)
