-- What a call answers, from what its step does and from what is kept of a refusal.
use Rattle.std.proofs.Common.{◌≡◌, Option, Some, None, refl, sym, ap, subst, ◌∙◌}
use Rattle.std.specs.{Prelude.{Result, Ok, Err, OnOk, IfErr}, Option.{IfSome}}
use Rattle.mdp_rows.specs.{Draft.{Draft, Follows, IsCall}, FlatDraft.{draft_in}, declared.error.RowsError.{RowsError}}
use Rattle.mdp_rows.specs.declared.assembly.Assembly.TheInside.{Inside}
use Rattle.mdp_rows.proofs.Calls.Kept.{IsKept}

abbrev answer : Result (Unit {0}) RowsError → Result (Unit {0}) RowsError
answer r = r

pub refused_now : (b : Inside) (e : RowsError) → b.refused ≡ Some e → (draft_in b).refused ≡ Some e
unfolding draft_in
refused_now b e h = h

pub refused_is : (b : Inside) (v : Draft) → draft_in b ≡ v → b.refused ≡ v.refused
unfolding draft_in
refused_is b v is = ap (λ (d : Draft). d.refused) is

module _ (b : Inside) (old : Draft) (is : draft_in b ≡ old) where
  -- the refusal that a builder has
  pub refused_once : (P : RowsError → Type 0) (e : RowsError) → b.refused ≡ Some e → P e → IfSome old.refused P
  refused_once P e h p = subst (λ (r : Option RowsError). IfSome r P) (sym h ∙ refused_is b old is) p

  -- and none where it has none
  pub never_refused : (P : RowsError → Type 0) → b.refused ≡ None → IfSome old.refused P
  never_refused P none = subst (λ (r : Option RowsError). IfSome r P) (sym none ∙ refused_is b old is) tt

-- one law for all calls: what a call answers, from what its step does and from what is kept of a refusal
module _ (b : Inside) (old : Draft) (due : Result Draft RowsError) (is : draft_in b ≡ old) where
  -- after a refusal
  pub call_again : (e : RowsError) → b.refused ≡ Some e → IsCall old old due (Err e)
  call_again e h =
      let k : old.refused ≡ Some e = sym (refused_is b old is) ∙ h in
      record { again = refused_once b old is (λ x. (answer (Err e) ≡ Err x) × (old ≡ old)) e h (refl, refl); ok = tt; err = λ u. absurd (let n = sym k ∙ u in cc); kept = k }

  -- the first time that something is refused, or nothing
  pub call_made : (step new : Draft) (result : Result (Unit {0}) RowsError) → b.refused ≡ None → Follows due result step → OnOk result (new ≡ step) → IfErr result (λ e. new.refused ≡ Some e)
      → ((n : Draft) → due ≡ Ok n → IsKept old n)
      → IsCall old new due result
  call_made step new result none follows goes stops keeps = by result follows goes stops
    where
      unrefused : old.refused ≡ None
      unrefused = sym (refused_is b old is) ∙ none

      by : (r : Result (Unit {0}) RowsError) → Follows due r step → OnOk r (new ≡ step) → IfErr r (λ e. new.refused ≡ Some e) → IsCall old new due r
      by (Ok u) f g h = let k = f ∙ ap Ok (sym g) in
          record { again = never_refused b old is (λ e. (answer (Ok u) ≡ Err e) × (new ≡ old)) none; ok = k; err = tt; kept = IsKept.refused (keeps new k) ∙ unrefused }
      by (Err e) f g h = record { again = never_refused b old is (λ x. (answer (Err e) ≡ Err x) × (new ≡ old)) none; ok = tt; err = λ u. f; kept = h }
