use Rattle.std.proofs.{Common.{◌≡◌, ℕ, ◌+◌, ◌++◌, ◌==◌, List, min, cond, length, sym, ap, ◌∙◌, arith}, lemmas.List.{length-append}}
use Rattle.std.proofs.lemmas.List.Sums.{suffix_len-le-length}
use Rattle.mdp_num.specs.{Digits.{number, number_after}, Numeral.{limit, significant, zeros_behind}}
use Rattle.mdp_num.proofs.{Zeros.{capped-twice, zeros-all, zeros-some}, Scale.{scaled-capped}}
use Rattle.mdp_num.proofs.numeral.decimal.Goals.{then-zeros-places, else-zeros-places, then-negative, else-negative}
use Rattle.mdp_num.proofs.numeral.decimal.Goals as goal

pub returns : goal.returns
returns c =
    let whole = c.args.whole.now in
    let places = c.args.places.now in
    let negative = c.args.negative in
    let front = c.without_zeros.result.0.now in
    let back = c.without_zeros.result.1.now in
    let x = number c.args.exponent.now in
    let d-is : c.capped_after-d.result ≡ min (number (significant (whole ++ places))) (limit + 1) =
    c.capped_after-d.ensures ∙ ap (λ (n : ℕ). min (number_after n back) (limit + 1)) c.capped_after.ensures
    ∙ capped-twice 0 (limit + 1) front back ∙ ap (λ (ds : List ℕ). min (number ds) (limit + 1)) c.without_zeros.ensures in
    let zeros-is : c.if-zeros-places.zeros ≡ zeros_behind (whole ++ places) =
    elim c.if-zeros-places.branch [
      | then-zeros-places w ↦ w.zeros-is ∙ c.count_zeros-zeros.ensures ∙ sym (zeros-some whole places (omega (arith, w.if-zeros-places.true, c.count_zeros-zeros.ensures)))
      | else-zeros-places w ↦
          let all : zeros_behind places ≡ length places = omega (arith, w.if-zeros-places.false, c.count_zeros-zeros.ensures, suffix_len-le-length (λ d. d == 48) places) in
          omega (arith, w.zeros-is, w.count_zeros.ensures, c.count_zeros-zeros.ensures, zeros-all whole places all)
    ] in
    let up-is : c.if-negative.up.0 ≡ cond negative 0 (min x (limit + 1)) =
    elim c.if-negative.branch [
      | then-negative w ↦ rw w.if-negative.true (ap (λ (p : ℕ × ℕ). p.0) w.up-is)
      | else-negative w ↦ rw w.if-negative.false (ap (λ (p : ℕ × ℕ). p.0) w.up-is ∙ c.capped_after-tens.ensures)
    ] in
    let down-is : c.if-negative.up.1 ≡ cond negative (min x (limit + 1)) 0 =
    elim c.if-negative.branch [
      | then-negative w ↦ rw w.if-negative.true (ap (λ (p : ℕ × ℕ). p.1) w.up-is ∙ c.capped_after-tens.ensures)
      | else-negative w ↦ rw w.if-negative.false (ap (λ (p : ℕ × ℕ). p.1) w.up-is)
    ] in
    rw (c.scale.ensures, d-is, zeros-is, up-is, down-is) (scaled-capped (number (significant (whole ++ places))) x (zeros_behind (whole ++ places))
    (length places) negative (omega (arith, suffix_len-le-length (λ d. d == 48) (whole ++ places), length-append whole places)) (omega arith))
