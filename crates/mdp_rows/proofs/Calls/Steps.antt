-- Steps that may be refused, one after the other.
use Rattle.std.proofs.Common.{◌≡◌, Bool, true, false, refl, if◌then◌else◌}
use Rattle.std.specs.Prelude.{Result, Ok, Err}
use Rattle.mdp_rows.specs.{Draft.{◌>>=◌}, declared.error.RowsError.{RowsError}}

abbrev pub done : {A : Type 0} → A → Result A RowsError
done x = Ok x

pub ok_same : {A : Type 0} → (x y : A) → done x ≡ Ok y → x ≡ y
ok_same x y e = cc

-- both steps are taken
pub then_ok : {A B : Type 0} → (r : Result A RowsError) (f : A → Result B RowsError) (y : B) → (r >>= f) ≡ Ok y → (x : A) × (r ≡ Ok x) × (f x ≡ Ok y)
then_ok (Ok x) f y h = (x, refl, h)
then_ok (Err e) f y h = absurd cc

-- nothing is refused
pub else_ok : {B : Type 0} → (b : Bool) (e : RowsError) (r : Result B RowsError) (y : B) → (if b then Err e else r) ≡ Ok y → (b ≡ false) × (r ≡ Ok y)
else_ok true e r y h = absurd cc
else_ok false e r y h = (refl, h)

pub if_ok : {B : Type 0} → (b : Bool) (e : RowsError) (r : Result B RowsError) (y : B) → (if b then r else Err e) ≡ Ok y → (b ≡ true) × (r ≡ Ok y)
if_ok true e r y h = (refl, h)
if_ok false e r y h = absurd cc
