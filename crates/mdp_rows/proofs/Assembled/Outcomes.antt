-- What a result says.
use Rattle.std.proofs.Common.{◌≡◌, true, false}
use Rattle.std.specs.{Prelude.{Result, Ok, Err, OnOk, OnErr}, Result.{is_ok}}

pub at_ok : {T E P : Type 0} → (r : Result T E) → is_ok r ≡ true → OnOk r P → P
at_ok (Ok x) e p = p
at_ok (Err y) e p = absurd cc

pub at_err : {T E P : Type 0} → (r : Result T E) → is_ok r ≡ false → OnErr r P → P
at_err (Ok x) e p = absurd cc
at_err (Err y) e p = p
