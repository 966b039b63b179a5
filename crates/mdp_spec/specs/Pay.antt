-- What a tree earns until a goal, and what it earns in all its steps.
use Rattle.std.specs.Prelude.{◌≡◌, ℕ, zero, suc, ◌*◌, ◌<◌, Bool, true, false, List, ℤ, pos, ◌+ℤ◌, ◌*ℤ◌, ◌⊎◌, if◌then◌else◌}
use Rattle.mdp_math.specs.{Rational.{ℚ, ratio}, Sum.{AnyAt}}
use Rattle.mdp_spec.specs.{Mdp.{Choice, Mdp, choices_at}, Unit.{total_at, unit_of, weight_of, scale_of, whole_reward}, Tree.{Tree, paths, is_marked}}
use Rattle.mdp_spec.specs.Tree.Tree.{leaf, node}

-- what a choice earns in one step and behind it, in parts of the scale and of all paths: its reward on all paths below it, and what each
-- entry's tree earns, by the entry's weight
abbrev pub earned : Mdp → ℕ → ℕ → ℕ → Choice → (ℕ → ℕ → ℤ) → ℤ
earned m r u n x behind = whole_reward m r x *ℤ pos (unit_of m * paths m u n) +ℤ total_at x.row (λ e y. pos (weight_of m y) *ℤ behind e y.target)

-- the reward of name r until a goal within n steps: nothing at a goal or at a leaf; else the sum over the choices of the choice's weight times
-- what it earns, its own reward and what the trees behind its entries earn
abbrev pub pays : Mdp → ℕ → List Bool → ℕ → ℕ → Tree → ℕ → ℤ
pays m r goals u zero t s = pos 0
pays m r goals u (suc n) leaf s = pos 0
pays m r goals u (suc n) (node weights kids) s =
    if is_marked goals s then pos 0
    else total_at (choices_at m s) (λ c x. pos (weights c) *ℤ earned m r u n x (λ e t. pays m r goals u n (kids c e) t))

unfoldable pub pay : Mdp → ℕ → List Bool → ℕ → ℕ → Tree → ℕ → ℚ
pay m r goals u n t s = ratio (pays m r goals u n t s) (scale_of m r * paths m u n)

-- the reward of name r in all n steps, goals or not: nothing at a leaf; else the same sum over the choices
abbrev pub totals : Mdp → ℕ → ℕ → ℕ → Tree → ℕ → ℤ
totals m r u zero t s = pos 0
totals m r u (suc n) leaf s = pos 0
totals m r u (suc n) (node weights kids) s = total_at (choices_at m s) (λ c x. pos (weights c) *ℤ earned m r u n x (λ e t. totals m r u n (kids c e) t))

unfoldable pub total : Mdp → ℕ → ℕ → ℕ → Tree → ℕ → ℚ
total m r u n t s = ratio (totals m r u n t s) (scale_of m r * paths m u n)

-- a tree enters the marked states before a goal: s is marked, or s is no goal and the child at some entry of a choice of positive weight enters
abbrev pub Enters : Mdp → List Bool → List Bool → ℕ → Tree → ℕ → Type 0
Enters m goals marks zero t s = is_marked marks s ≡ true
Enters m goals marks (suc n) leaf s = is_marked marks s ≡ true
Enters m goals marks (suc n) (node weights kids) s =
    (is_marked marks s ≡ true)
    ⊎ ((is_marked goals s ≡ false) × AnyAt (choices_at m s) (λ c x. (0 < weights c) × AnyAt x.row (λ e y. Enters m goals marks n (kids c e) y.target)))
