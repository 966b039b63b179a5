-- A text that is read exactly where it is the text of what is read, and is read back.
use Rattle.std.proofs.Common.{◌≡◌, ◌↔◌, ℕ, List, Result, Ok, sym, ap, ◌∙◌}
use Rattle.mdp_text.specs.declared.error.Refusal.{Refusal}
use Rattle.mdp_text.proofs.Feeds.{ok-is}

module _ {C : Type 0} (outcome : List ℕ → Result C Refusal) (Fits : C → Type 0) (text_of : C → List ℕ) where
  pub record FoundText (bytes : List ℕ) (c : C) : Type 0 where
    pub text : bytes ≡ text_of c
    pub fits : Fits c

  module _ (again : (c : C) → Fits c → outcome (text_of c) ≡ Ok c) where
    pub read-from : ((bytes : List ℕ) (c : C) → outcome bytes ≡ Ok c → FoundText bytes c) → (bytes : List ℕ) (c : C) → (outcome bytes ≡ Ok c) ↔ (Fits c × (bytes ≡ text_of c))
    read-from found bytes c = (λ e. (let f = found bytes c e in (f.fits, f.text)), λ p. ap outcome p.1 ∙ again c p.0)

    pub one-text-of : (c d : C) → Fits c → Fits d → text_of c ≡ text_of d → c ≡ d
    one-text-of c d p q e = ok-is c d (sym (again c p) ∙ ap outcome e ∙ again d q)
