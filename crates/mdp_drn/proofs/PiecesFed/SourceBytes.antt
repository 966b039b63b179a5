-- The bytes that came from a source, and those that it had left.
use Rattle.std.proofs.Common.{◌≡◌, ℕ, ◌<◌, ◌≤◌, List, [], ◌++◌, length, Option, Some, None, IfSome, ◌↔◌, sym, ◌∙◌, ap, arith, length-append}
use Rattle.std.proofs.lemmas.List.{append-nil}
use Rattle.mdp_edge.specs.Bytes.{Gave}
use Rattle.mdp_drn.specs.FromSource.{HadLeft}

told_same : (a b : List ℕ) → Some a ≡ Some b → a ≡ b
told_same a b h = ap (λ (o : Option (List ℕ)). elim o [ None ↦ a | Some x ↦ x ]) h

-- where the next read came to the end, those that came before were all
pub had_all : (before now : Option (List ℕ)) (bytes : List ℕ) (n : ℕ) → Gave before now bytes → IfSome now (λ rest. (n ≡ 0) ↔ (rest ≡ [])) → n ≡ 0 → HadLeft before bytes
had_all None now bytes n gave end z = tt
had_all (Some left) None bytes n gave end z = cc
had_all (Some left) (Some rest) bytes n gave end z = sym (told_same left (bytes ++ rest) gave ∙ ap (λ (r : List ℕ). bytes ++ r) (end.0 z) ∙ append-nil bytes)

-- those that came, and those that are left
pub had_more : (before now : Option (List ℕ)) (bytes : List ℕ) (n : ℕ) → Gave before now bytes → n < length bytes → (all : List ℕ) × HadLeft before all × (n < length all)
had_more None now bytes n gave more = (bytes, tt, more)
had_more (Some left) None bytes n gave more = cc
had_more (Some left) (Some rest) bytes n gave more = (bytes ++ rest, sym (told_same left (bytes ++ rest) gave), omega (arith, length-append bytes rest))

-- with at most so many bytes left, nothing is shown of more
pub not_more : (P : Type 0) (told : Option (List ℕ)) (bytes : List ℕ) (limit : ℕ) → HadLeft told bytes → length bytes ≤ limit → IfSome told (λ left. limit < length left → P)
not_more P None bytes limit had few = tt
not_more P (Some left) bytes limit had few = λ more. absurd (omega (arith, few, more, ap (λ (xs : List ℕ). length xs) had))

pub holds_anyway : (P : Type 0) (told : Option (List ℕ)) (limit : ℕ) → P → IfSome told (λ left. limit < length left → P)
holds_anyway P None limit p = tt
holds_anyway P (Some left) limit p = λ more. p
