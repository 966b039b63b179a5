-- Laws of options that std lacks.
use Rattle.std.proofs.Common.{◌≡◌, false, true≢false, Option, Some, None, is_some, refl}
use Rattle.std.specs.Option.{option_and_then}

pub Some_same : {A : Type 0} (a b : A) → Some a ≡ Some b → a ≡ b
Some_same a b e = cc

pub none_of : {A : Type 0} (o : Option A) → is_some o ≡ false → o ≡ None
none_of None e = refl
none_of (Some a) e = absurd (true≢false e)

-- where a chain tells a value, its first step does
pub step_told : {A B : Type 0} (o : Option A) (f : A → Option B) (v : B) → Some v ≡ option_and_then f o → (a : A) × (Some a ≡ o) × (Some v ≡ f a)
step_told None f v e = cc
step_told (Some a) f v e = (a, refl, e)
