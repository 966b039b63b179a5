-- How far the targets of a row reach.
use Rattle.std.proofs.Common.{◌≡◌, ℕ, suc, ◌+◌, ◌≤◌, List, [], ◌∷◌, ◌++◌, length, refl, ◌∙◌, ap, arith}
use Rattle.mdp_spec.specs.Mdp.{Entry}
use Rattle.mdp_elim.specs.Entries.{Between, reach_from, reach}

reach-from_le : (low high m : ℕ) (row : List Entry) → Between low high row → m ≤ high → reach_from m row ≤ high
reach-from_le low high m [] h l = l
reach-from_le low high m (x ∷ row) h l = reach-from_le (suc x.target) high (suc x.target) row h.2 (omega (arith, h.1))

from_le-reach : (low high : ℕ) (row : List Entry) → Between low high row → low ≤ reach_from low row
from_le-reach low high [] h = omega arith
from_le-reach low high (x ∷ row) h = let k = from_le-reach (suc x.target) high row h.2 in omega (arith, k, h.0)

between-reach_from : (low high m : ℕ) (row : List Entry) → Between low high row → Between low (reach_from m row) row
between-reach_from low high m [] h = tt
between-reach_from low high m (x ∷ row) h =
    let k = from_le-reach (suc x.target) high row h.2 in
    (h.0, omega (arith, k), between-reach_from (suc x.target) high (suc x.target) row h.2)

pub reach-le : (high : ℕ) (row : List Entry) → Between 0 high row → reach row ≤ high
reach-le high row h = reach-from_le 0 high 0 row h (omega arith)

pub between-reach : (high : ℕ) (row : List Entry) → Between 0 high row → Between 0 (reach row) row
between-reach high row h = between-reach_from 0 high 0 row h

reach-last : (m : ℕ) (front : List Entry) (y : Entry) → reach_from m (front ++ y ∷ []) ≡ suc y.target
reach-last m [] y = refl
reach-last m (x ∷ front) y = reach-last (suc x.target) front y

pub reach_found : (front : List Entry) (y : Entry) (row : List Entry) → row ≡ front ++ y ∷ [] → reach row ≡ y.target + 1
reach_found front y row is = let k = reach-last 0 front y in ap reach is ∙ k ∙ (let e : suc y.target ≡ y.target + 1 = omega arith in e)

pub reach_empty : (row : List Entry) → length row ≡ 0 → reach row ≡ 0
reach_empty [] h = refl
reach_empty (x ∷ row) h = absurd (omega arith)
