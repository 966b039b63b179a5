use Rattle.std.proofs.Common.{◌≡◌, ℕ, ◌<◌, get_or, length, pos}
use Rattle.mdp_math.specs.Rational.{of_int}
use Rattle.mdp_spec.specs.Mdp.{value_at}
use Rattle.mdp_quot.proofs.sums.Sums.clear.Given as goal

abbrev pub invariant-loop-i : goal.invariant-loop-i
invariant-loop-i l =
    (l.self.seen.items ≡ l.initial.self.seen.items)
    × (length l.self.sums.items ≡ length l.initial.self.sums.items)
    × ((k : ℕ) → k < l.i → value_at l.self.sums.items (get_or l.initial.self.seen.items k 0) ≡ of_int (pos 0))
    × ((q : ℕ) → value_at l.initial.self.sums.items q ≡ of_int (pos 0) → value_at l.self.sums.items q ≡ of_int (pos 0))
