-- What is asked of a written value is asked of the value, where no written term is past width.
use Rattle.std.proofs.Common.{◌≡◌, Bool, true, true≢false, Option, Some, None, refl, sym, ap, subst, ◌∙◌}
use Rattle.std.specs.Option.{IsSome, option_and_then}
use Rattle.mdp_math.specs.Rational.{ℚ}

pub told_of_holds : (o : Option Bool) → o ≡ Some true → IsSome o
told_of_holds o e = subst (λ (x : Option Bool). IsSome x) (sym e) refl

module _ (f : ℚ → Option Bool) (x : ℚ) where
  pub asked : (o : Option ℚ) → ((v : ℚ) → Some v ≡ o → v ≡ x) → IsSome (option_and_then f o) → option_and_then f o ≡ f x
  asked None means w = absurd (true≢false (sym w))
  asked (Some v) means w = ap f (means v refl)

  -- what holds of the written value holds of the value
  pub asked_holds : (o : Option ℚ) → ((v : ℚ) → Some v ≡ o → v ≡ x) → option_and_then f o ≡ Some true → f x ≡ Some true
  asked_holds o means h = sym (asked o means (told_of_holds (option_and_then f o) h)) ∙ h

  -- and the other way round, where no term is past width
  pub asked_sound : (o : Option ℚ) → ((v : ℚ) → Some v ≡ o → v ≡ x) → (IsSome (f x) → f x ≡ Some true) → IsSome (option_and_then f o) → option_and_then f o ≡ Some true
  asked_sound o means sound w = let e = asked o means w in e ∙ sound (subst (λ (o : Option Bool). IsSome o) e w)
