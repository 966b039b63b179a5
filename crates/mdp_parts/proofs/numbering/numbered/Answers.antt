use Rattle.std.proofs.{Common.{◌≡◌, ◌<◌, ℕ, List, get_or, Option, Some, None, length, set, is_none, not, refl, sym, ap, ◌∙◌, arith}, lemmas.List.{length-set}}
use Rattle.mdp_parts.proofs.{Grouping.{read_at}, Renumbering.{renumbering_begins, no_key, known_key, new_key, renumbered}}
use Rattle.mdp_parts.proofs.numbering.numbered.Goals.{in-Some+in_ok-push-in-Some, then-is_none, else-is_none, in-None+in_ok-push-in-None}
use Rattle.mdp_parts.proofs.numbering.numbered.Goals as goal

pub loop-key-preserved : goal.loop-key-preserved
loop-key-preserved c =
    let a = c.loop-key.invariant in
    let n : ℕ = c.loop-key.key-index in
    let given = c.loop-key.given.items in
    let numbers = c.loop-key.numbers.items in
    elim c.match-key.branch [
      | in-Some+in_ok-push-in-Some w ↦
          (let k : ℕ = w.in-Some.k in
          let hk : k < c.args.limit = c.requires.below n k c.loop-key-test.true w.in-Some.is in
          let h : k < length given = omega (arith, hk, a.size) in
          let was = read_at given k w.index.result.now h w.index.ensures in
          elim w.if-is_none.branch [
            | then-is_none v ↦
                (let more : w.if-is_none.given.items ≡ set given k (Some c.loop-key.count) = rw v.given-is refl in
                let h2 : k < length w.if-is_none.given.items = (let l = ap (λ (xs : List (Option ℕ)). length xs) more in let z = length-set given k (Some c.loop-key.count) in omega
                (arith, l, z, h)) in
                rw (w.given-is, w.numbers-is, w.count-is, v.count-is, w.in_ok-push-in-Some.ensures.items)
                (new_key c.args.keys.now c.args.limit n given numbers c.loop-key.count a k w.in-Some.is hk (ap is_none was
                ∙ ap not v.if-is_none.ensures) w.index-in-Some.result.now w.if-is_none.given.items more
                (sym (read_at w.if-is_none.given.items k w.index-in-Some.result.now h2 w.index-in-Some.ensures))))
            | else-is_none v ↦
                (let same : w.if-is_none.given.items ≡ given = rw v.given-is refl in
                let h2 : k < length w.if-is_none.given.items = (let l = ap (λ (xs : List (Option ℕ)). length xs) same in omega (arith, l, h)) in
                rw (w.given-is, w.numbers-is, w.count-is, v.count-is, w.in_ok-push-in-Some.ensures.items, same)
                (known_key c.args.keys.now c.args.limit n given numbers c.loop-key.count a k w.index-in-Some.result.now w.in-Some.is (ap is_none was ∙ ap not v.if-is_none.ensures)
                (sym (read_at w.if-is_none.given.items k w.index-in-Some.result.now h2 w.index-in-Some.ensures) ∙ ap (λ (xs : List (Option ℕ)). get_or xs k None) same)))
          ])
      | in-None+in_ok-push-in-None w ↦
          rw (w.given-is, w.numbers-is, w.count-is, w.in_ok-push-in-None.ensures.items) (no_key c.args.keys.now c.args.limit n given numbers c.loop-key.count a w.in-None.is)
    ]

pub loop-key-init : goal.loop-key-init
loop-key-init c = rw c.in_ok-numbers.ensures.items (renumbering_begins c.args.keys.now c.args.limit c.in_ok-given.given.items c.in_ok-given.ensures)

pub returns-clause-numbers : goal.returns-clause-numbers
returns-clause-numbers c = renumbered c.args.keys.now c.args.limit c.loop-key.key-index _ _ _ c.loop-key.invariant (omega arith)

pub index_mut-requires : goal.index_mut-requires
index_mut-requires c = let l = c.requires.below c.loop-key.key-index c.in-Some.k c.loop-key-test.true c.in-Some.is in omega (arith, l, c.loop-key.invariant.size)

pub index-requires-in-Some : goal.index-requires-in-Some
index-requires-in-Some c =
    let l = c.requires.below c.loop-key.key-index c.in-Some.k c.loop-key-test.true c.in-Some.is in
    let h : c.in-Some.k < length c.loop-key.given.items = omega (arith, l, c.loop-key.invariant.size) in
    elim c.if-is_none.branch [
      | then-is_none w ↦ (let n = length-set c.loop-key.given.items c.in-Some.k (Some c.loop-key.count) in rw w.given-is (omega (arith, n, h)))
      | else-is_none w ↦ rw w.given-is (omega (arith, h))
    ]

pub index-requires : goal.index-requires
index-requires c = let l = c.requires.below c.loop-key.key-index c.in-Some.k c.loop-key-test.true c.in-Some.is in omega (arith, l, c.loop-key.invariant.size)
