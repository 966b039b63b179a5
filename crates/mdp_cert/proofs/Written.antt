-- A text that was written in two or three parts.
use Rattle.std.proofs.Common.{◌≡◌, ℕ, List, ◌++◌, Result, OnOk, ap, subst, ◌∙◌, append_assoc}

-- what was there, and two parts
pub two-parts : {A E : Type 0} (r : Result A E) (old one new a b : List ℕ) → one ≡ old ++ a → OnOk r (new ≡ one ++ b) → OnOk r (new ≡ old ++ (a ++ b))
two-parts r old one new a b p h = subst (λ (t : List ℕ). OnOk r (new ≡ t)) (ap (λ (t : List ℕ). t ++ b) p ∙ append_assoc old a b) h

-- three parts
pub three-parts : {A E : Type 0} (r : Result A E) (old one two new a b d : List ℕ) → one ≡ old ++ a → two ≡ one ++ b → OnOk r (new ≡ two ++ d)
    → OnOk r (new ≡ old ++ (a ++ (b ++ d)))
three-parts r old one two new a b d p q h = two-parts r old one new a (b ++ d) p (two-parts r one two new b d q h)
