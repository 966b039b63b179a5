-- The probability of meeting a goal within the depth of a tree.
use Rattle.std.specs.Prelude.{ℕ, zero, suc, ◌*◌, Bool, List, pos, if◌then◌else◌}
use Rattle.mdp_math.specs.Rational.{ℚ, ratio}
use Rattle.mdp_spec.specs.{Mdp.{Mdp, choices_at}, Unit.{count_at, weight_of}, Tree.{Tree, paths, is_marked}, Tree.Tree.{leaf, node}}

-- how many parts of all paths of n steps meet a goal: all where s is a goal, none at a leaf that is no goal, else those of the choices
abbrev pub hits : Mdp → List Bool → ℕ → ℕ → Tree → ℕ → ℕ
hits m goals u zero t s = if is_marked goals s then 1 else 0
hits m goals u (suc n) leaf s = if is_marked goals s then paths m u (suc n) else 0
hits m goals u (suc n) (node weights kids) s =
    if is_marked goals s then paths m u (suc n)
    else count_at (choices_at m s) (λ c x. weights c * count_at x.row (λ e y. weight_of m y * hits m goals u n (kids c e) y.target))

unfoldable pub hit : Mdp → List Bool → ℕ → ℕ → Tree → ℕ → ℚ
hit m goals u n t s = ratio (pos (hits m goals u n t s)) (paths m u n)
