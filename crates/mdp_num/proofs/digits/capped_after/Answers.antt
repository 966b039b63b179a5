use Rattle.std.proofs.{Common.{◌≡◌, ℕ, ◌-◌, ◌++◌, List, length, take, drop, min, arith, ap, ◌∙◌}, lemmas.List.{take-append-drop, take_all, length-drop}}
use Rattle.mdp_num.specs.Digits.{number_after}
use Rattle.mdp_num.proofs.Zeros.{number_after-more, capped-twice}
use Rattle.mdp_num.proofs.digits.capped_after.Goals as goal

pub returns-then-from-gt-SHORT : goal.returns-then-from-gt-SHORT
returns-then-from-gt-SHORT c =
    let digits = c.args.digits.now in
    let i = c.loop-i.i in
    let front = take i digits in
    let back = take (length digits - i) (drop i digits) in
    let rest : back ≡ drop i digits = take_all (length digits - i) (drop i digits) (omega (arith, length-drop i digits)) in
    c.long_after-then-from-gt-SHORT.ensures
    ∙ ap (λ (n : ℕ). min (number_after n back) c.args.cap) (c.min.ensures ∙ ap (λ (n : ℕ). min n c.args.cap) (c.from-then-from-gt-SHORT.ensures ∙ c.loop-i.invariant))
    ∙ capped-twice c.args.n c.args.cap front back
    ∙ ap (λ (all : List ℕ). min (number_after c.args.n all) c.args.cap) (ap (λ (end : List ℕ). front ++ end) rest ∙ take-append-drop i digits)

pub loop-i-preserved : goal.loop-i-preserved
loop-i-preserved c = omega (arith, number_after-more c.args.n c.args.digits.now c.loop-i.i c.loop-i-test.true)
