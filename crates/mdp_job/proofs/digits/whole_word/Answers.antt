use Rattle.std.proofs.Common.{◌≡◌, true, false, length, nat_lt, ap, sym, ◌∙◌, arith, Some, None, if◌then◌else◌, Bool, ◌&&◌, not}
use Rattle.std.proofs.lemmas.Bool.Decides.{nat_tests}
use Rattle.mdp_num.specs.Digits.{number, is_digits}
use Rattle.mdp_job.proofs.Numbers.{number-below, whole_word-is}
use Rattle.mdp_job.proofs.digits.whole_word.Goals as goal

pub returns-clause-value : goal.returns-clause-value
returns-clause-value c =
    let are : is_digits c.args.word.now ≡ true = sym c.are_digits.ensures ∙ c.if-not-are_digits.false in
    let few : nat_lt c.args.most (length c.args.word.now) ≡ false = grind (arith, nat_tests) in
    let n = whole_word-is c.args.most c.args.word.now c.capped_after.result c.requires are (omega (arith, c.if-word-most.false)) c.capped_after.ensures in
    ap Some n ∙ ap (λ (b : Bool). if b then Some (number c.args.word.now) else None) (sym (ap (λ (b : Bool). b && not (nat_lt c.args.most (length c.args.word.now))) are ∙ ap not few))

pub returns-clause-few : goal.returns-clause-few
returns-clause-few c =
    let are : is_digits c.args.word.now ≡ true = sym c.are_digits.ensures ∙ c.if-not-are_digits.false in
    let below = number-below c.args.most c.args.word.now are (omega (arith, c.if-word-most.false)) in
    omega (arith, below, c.capped_after.ensures)
