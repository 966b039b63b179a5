-- Places in a list that grows at its end.
use Rattle.std.proofs.Common.{◌≡◌, ◌≢◌, ℕ, suc, ◌+◌, ◌<◌, Bool, true, false, ◌==◌, if◌then◌else◌, List, [], ◌∷◌, ◌++◌, length, refl, ap, arith}
use Rattle.std.proofs.lemmas.Bool.{ne_eqb}
use Rattle.mdp_math.proofs.Numbers.{eqb-same}
use Rattle.mdp_gain.specs.Alone.{place_in}

-- an element keeps its place where others come behind
front_by : (b : Bool) (p q n : ℕ) → (if b then 0 else suc p) < suc n → (p < n → q ≡ p) → (if b then 0 else suc q) ≡ (if b then 0 else suc p)
front_by true p q n l h = refl
front_by false p q n l h = ap (λ (k : ℕ). suc k) (h (omega arith))

pub place-front : (xs ys : List ℕ) (s : ℕ) → place_in xs s < length xs → place_in (xs ++ ys) s ≡ place_in xs s
place-front [] ys s l = absurd (omega arith)
place-front (t ∷ xs) ys s l = front_by (t == s) (place_in xs s) (place_in (xs ++ ys) s) (length xs) l (place-front xs ys s)

-- the place of what isn't in the first list is one in the second, behind it
behind_by : (b : Bool) (p q n k : ℕ) → (if b then 0 else suc p) ≡ suc n → (p ≡ n → q ≡ n + k) → (if b then 0 else suc q) ≡ suc n + k
behind_by true p q n k e h = absurd (omega arith)
behind_by false p q n k e h = let g = h (omega arith) in omega arith

pub place-behind : (xs ys : List ℕ) (s : ℕ) → place_in xs s ≡ length xs → place_in (xs ++ ys) s ≡ length xs + place_in ys s
place-behind [] ys s e = omega arith
place-behind (t ∷ xs) ys s e = behind_by (t == s) (place_in xs s) (place_in (xs ++ ys) s) (length xs) (place_in ys s) e (place-behind xs ys s)

pub place-only : (s : ℕ) → place_in (s ∷ []) s ≡ 0
place-only s = rw (eqb-same s) refl

pub place-other : (t s : ℕ) → t ≢ s → place_in (t ∷ []) s ≡ 1
place-other t s o = rw (ne_eqb t s o) refl
