-- What a strategy tree earns with a discount (Puterman 1994, chapter 6): the reward of name r in all steps, where a step later counts f times as
-- much. It is computed in whole numbers, as parts of one scale.
use Rattle.std.specs.Prelude.{ℕ, zero, suc, ◌*◌, ◌^◌, ℤ, pos, ◌+ℤ◌, ◌*ℤ◌}
use Rattle.mdp_math.specs.Rational.{ℚ, ratio}
use Rattle.mdp_spec.specs.{Mdp.{Entry, Choice, Mdp, choices_at}, Unit.{total_at, unit_of, weight_of, scale_of, whole_reward}, Tree.{Tree}}
use Rattle.mdp_spec.specs.Tree.Tree.{leaf, node}

-- all paths of n steps, in parts of which f is a whole number in each step
abbrev pub discounted_paths : Mdp → ℚ → ℕ → ℕ → ℕ
discounted_paths m f u n = (u * unit_of m * f.den) ^ n

-- what a choice earns in one step and behind it, in parts of the scale and of those paths: its reward on all paths below it, and f times what each
-- entry's tree earns
abbrev pub earned_parts : Mdp → ℕ → ℚ → ℕ → ℕ → Choice → (ℕ → Entry → ℤ) → ℤ
earned_parts m r f u n x behind =
    whole_reward m r x *ℤ pos (unit_of m * f.den * discounted_paths m f u n)
    +ℤ total_at x.row (λ e y. pos (weight_of m y) *ℤ (f.num *ℤ behind e y))

-- what a tree that mixes by weights of total u earns in n steps, in the same parts
abbrev pub discs : Mdp → ℕ → ℚ → ℕ → ℕ → Tree → ℕ → ℤ
discs m r f u zero t s = pos 0
discs m r f u (suc n) leaf s = pos 0
discs m r f u (suc n) (node weights kids) s =
    total_at (choices_at m s) (λ c x. pos (weights c) *ℤ earned_parts m r f u n x (λ e y. discs m r f u n (kids c e) y.target))

unfoldable pub disc : Mdp → ℕ → ℚ → ℕ → ℕ → Tree → ℕ → ℚ
disc m r f u n t s = ratio (discs m r f u n t s) (scale_of m r * discounted_paths m f u n)
