-- The text of a term past width in what was to be solved, from the lines that are appended.
use Rattle.std.proofs.Common.{◌≡◌, ℕ, List, ◌++◌, append_assoc, refl}

pub two_lines : (a p r d k w place pol pw l : List ℕ) → (a ++ (p ++ r ++ d ++ k ++ w ++ place)) ++ (pol ++ pw ++ l) ≡ a ++ (p ++ r ++ d ++ k ++ w ++ place ++ pol ++ pw ++ l)
two_lines a p r d k w place pol pw l = simp append_assoc refl
