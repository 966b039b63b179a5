-- What Bellman's inequality by written operations says of the numbers.
use Rattle.std.proofs.Common.{◌≡◌, ℕ, true, List, Some, sym, subst}
use Rattle.std.specs.Option.{IsSome}
use Rattle.mdp_math.specs.Rational.{ℚ, ◌+ℚ◌}
use Rattle.mdp_spec.specs.{Mdp.{Entry, Mdp, row_at, value_at}, Row.{row_sum}, Written.{written_sum}}
use Rattle.mdp_math.proofs.Laws.{zero-+ℚ}
use Rattle.mdp_farkas.specs.{Compare.{0ℚ}, Bellman.{stands, sum_stands, stands_at}, Says.{IsBound}}
use Rattle.mdp_rows.specs.{declared.dir.Dir.{Dir}, declared.dir.Dir.TheVariants.{Max, Min}}
use Rattle.mdp_farkas.proofs.{Comparing.{le_of_at_least, at_least_of_le, le_of_at_most, at_most_of_le}, Asking.{asked_holds, asked_sound}}
use Rattle.mdp_spec.proofs.Summed.{written_sum-some}

abbrev pub Stands : Dir → ℚ → ℚ → Type 0
Stands dir value sum = IsBound dir value sum

stands_of : (dir : Dir) (x y : ℚ) → stands dir x y ≡ Some true → Stands dir x y
stands_of Max x y h = le_of_at_least x y h
stands_of Min x y h = le_of_at_most x y h

of_stands : (dir : Dir) (x y : ℚ) → Stands dir x y → IsSome (stands dir x y) → stands dir x y ≡ Some true
of_stands Max x y h w = at_least_of_le x y h w
of_stands Min x y h w = at_most_of_le x y h w

-- the same to acc and the sum over a row
pub sum_stands_of : (dir : Dir) (x : ℚ) (z : List ℚ) (acc : ℚ) (row : List Entry) → sum_stands dir x z acc row ≡ Some true → Stands dir x (acc +ℚ row_sum row z)
sum_stands_of dir x z acc row h =
    stands_of dir x (acc +ℚ row_sum row z) (asked_holds (stands dir x) (acc +ℚ row_sum row z) (written_sum z acc row) (λ v e. written_sum-some z acc row v e) h)

pub of_sum_stands : (dir : Dir) (x : ℚ) (z : List ℚ) (acc : ℚ) (row : List Entry) → Stands dir x (acc +ℚ row_sum row z) → IsSome (sum_stands dir x z acc row)
    → sum_stands dir x z acc row ≡ Some true
of_sum_stands dir x z acc row le w =
    asked_sound (stands dir x) (acc +ℚ row_sum row z) (written_sum z acc row) (λ v e. written_sum-some z acc row v e) (λ i. of_stands dir x (acc +ℚ row_sum row z) le i) w

module _ (m : Mdp) (z : List ℚ) where
  pub stands_at_of : (dir : Dir) (s c : ℕ) → stands_at dir m z s c ≡ Some true → Stands dir (value_at z s) (row_sum (row_at m s c) z)
  stands_at_of dir s c h = subst (λ (sum : ℚ). Stands dir (value_at z s) sum) (zero-+ℚ (row_sum (row_at m s c) z)) (sum_stands_of dir (value_at z s) z 0ℚ (row_at m s c) h)

  pub of_stands_at : (dir : Dir) (s c : ℕ) → Stands dir (value_at z s) (row_sum (row_at m s c) z) → IsSome (stands_at dir m z s c) → stands_at dir m z s c ≡ Some true
  of_stands_at dir s c le w =
      of_sum_stands dir (value_at z s) z 0ℚ (row_at m s c) (subst (λ (sum : ℚ). Stands dir (value_at z s) sum) (sym (zero-+ℚ (row_sum (row_at m s c) z))) le) w
