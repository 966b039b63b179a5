-- One law for all calls of a builder: what holds of the draft that is due holds of the draft after a call that answers Ok, and the draft stays
-- sound as long as nothing is refused.
pub mod Closes
pub mod Kept
pub mod Opens
pub mod Steps
use Rattle.std.proofs.Common.{◌≡◌, Option, Some, None, refl, sym, subst, ◌∙◌}
use Rattle.std.specs.{Prelude.{Result, Ok, Err, OnOk}, Option.{IfSome}}
use Rattle.mdp_rows.specs.{Draft.{Draft, IsCall, IsUnrefused}, Sound.{IsSound, IsGood}, declared.error.RowsError.{RowsError}}

-- a builder that answers Ok hasn't refused before
unrefused_before : (u : Unit {0}) (old new : Draft) (o : Option RowsError) → old.refused ≡ o → IfSome o (λ e. ((let r : Result (Unit {0}) RowsError = Ok u in r) ≡ Err e) × (new ≡ old))
    → IsUnrefused old
unrefused_before u old new None is again = is
unrefused_before u old new (Some e) is again = absurd (let k = again.0 in cc)

module _ (old new : Draft) (due : Result Draft RowsError) where
  pub ok_before : (r : Result (Unit {0}) RowsError) → IsCall old new due r → OnOk r (IsUnrefused old × (due ≡ Ok new))
  ok_before (Ok u) call = (unrefused_before u old new old.refused refl call.again, call.ok)
  ok_before (Err e) call = tt

  after_ok : (P : Type 0) (r : Result (Unit {0}) RowsError) → OnOk r (IsUnrefused old × (due ≡ Ok new)) → (IsUnrefused old → due ≡ Ok new → P) → OnOk r P
  after_ok P (Ok u) h f = f h.0 h.1
  after_ok P (Err e) h f = tt

  sound_after : (r : Result (Unit {0}) RowsError) → IsCall old new due r → OnOk r (IsUnrefused old × (due ≡ Ok new)) → (IsUnrefused old → due ≡ Ok new → IsSound new) → IsGood new
  sound_after (Ok u) call h f = λ n. f h.0 h.1
  sound_after (Err e) call h f = λ n. absurd (let k = sym n ∙ call.kept in cc)

-- the builder's draft is seen as `old`
module _ (d old new : Draft) (is : d ≡ old) (due : Draft → Result Draft RowsError) (r : Result (Unit {0}) RowsError) (call : IsCall d new (due d) r) where
  seen : IsCall old new (due old) r
  seen = subst (λ (v : Draft). IsCall v new (due v) r) is call

  pub after : (P : Type 0) → (IsUnrefused old → due old ≡ Ok new → P) → OnOk r P
  after P f = after_ok old new (due old) P r (ok_before old new (due old) r seen) f

  pub stays_good : IsGood d → (IsUnrefused old → IsSound old → due old ≡ Ok new → IsSound new) → IsGood new
  stays_good good f = sound_after old new (due old) r seen (ok_before old new (due old) r seen) (λ u e. f u (subst IsGood is good u) e)
