-- The model that a builder finishes as.
use Rattle.std.proofs.Common.{◌≡◌, ℕ, ◌-◌, ◌<◌, Bool, true, false, length, Option, Some, None, refl, sym, ap, subst, ◌∙◌, arith, ◌⊎◌, inl, inr, eqb, eq-eqb, if◌then◌else◌}
use Rattle.std.specs.{Prelude.{Result, Ok, Err}, List.{All}, Option.{IfSome}}
use borrow.Author.Tests.{eqb-true}
use Rattle.mdp_spec.specs.Mdp.{Mdp}
use Rattle.mdp_rows.specs.{Pieces.{ArePlaces}, FlatModel.{mdp_in, IsFlat}, Sound.{FinishesModel}}
use Rattle.mdp_rows.specs.{Draft.{Draft, all_closed, finished, IsCall, IsUnrefused, ◌>>=◌}, FlatDraft.{draft_in, IsDraft}, declared.error.RowsError.{RowsError}}
use Rattle.mdp_rows.specs.{declared.error.RowsError.TheVariants.{Count, Memory}, declared.assembly.Assembly.TheInside.{Inside}}
use Rattle.mdp_rows.specs.declared.model.Model.TheInside.{Inside as ModelInside}
use Rattle.mdp_rows.proofs.{Assembled.Drafts.{closed_in, closed_len, closed_is}, Calls.{ok_before}}

-- ---- steps one after the other

goes : {A B : Type 0} → (r : Result A RowsError) (f : A → Result B RowsError) (x : A) → r ≡ Ok x → (r >>= f) ≡ f x
goes r f x e = ap (λ (y : Result _ RowsError). y >>= f) e

stop : {A B : Type 0} → (r : Result A RowsError) (f : A → Result B RowsError) (e : RowsError) → r ≡ Err e → (r >>= f) ≡ Err e
stop r f e h = ap (λ (y : Result _ RowsError). y >>= f) h

module _ {B : Type 0} (d : Draft) (f : Draft → Result B RowsError) where
  pub all_stop : (e : RowsError) → (e ≡ Memory) ⊎ (all_closed d ≡ Err e) → (e ≡ Memory) ⊎ ((all_closed d >>= f) ≡ Err e)
  all_stop e (inl m) = inl m
  all_stop e (inr h) = inr (stop (all_closed d) f e h)

  pub all_go : (n : Draft) → all_closed d ≡ Ok n → (all_closed d >>= f) ≡ f n
  all_go n h = goes (all_closed d) f n h

-- a refusal that comes from another, or want of memory
pub or_memory : {P Q : Type 0} → (e : RowsError) → (P → Q) → (e ≡ Memory) ⊎ P → (e ≡ Memory) ⊎ Q
or_memory e f (inl m) = inl m
or_memory e f (inr p) = inr (f p)

-- ---- the model

finish_by : (b : Inside) (t : Bool) → IsDraft b → eqb (length b.labels.of_state) b.announced ≡ t
    → finished (draft_in b) ≡ (if t then Ok (record { names = b.choices.names; labels = b.labels.names; states = closed_in b }) else Err Count)
unfolding draft_in
finish_by b t ok e =
    ap (λ (n : ℕ). if eqb n b.announced then Ok (let m : Mdp = record { names = b.choices.names; labels = b.labels.names; states = closed_in b } in m) else Err Count) (closed_len b ok)
    ∙ ap (λ (u : Bool). if u then Ok (let m : Mdp = record { names = b.choices.names; labels = b.labels.names; states = closed_in b } in m) else Err Count) e

abbrev pub is_counted : Draft → Bool
is_counted d = eqb (length d.closed) d.announced

pub counted_is : (b : Inside) (v : Draft) (s : ℕ) → draft_in b ≡ v → IsDraft b → s ≡ length b.labels.of_state → eqb s b.announced ≡ is_counted v
unfolding draft_in
counted_is b v s is ok e = ap (λ (n : ℕ). eqb n b.announced) (e ∙ sym (closed_len b ok)) ∙ ap is_counted is

counted_len : (b : Inside) (v : Draft) → draft_in b ≡ v → IsDraft b → is_counted v ≡ true → length b.labels.of_state ≡ b.announced
counted_len b v is ok t = eqb-true (length b.labels.of_state) b.announced (counted_is b v (length b.labels.of_state) is ok refl ∙ t)

pub too_few : (v : Draft) → is_counted v ≡ false → finished v ≡ Err Count
too_few v e = ap (λ (t : Bool). if t then Ok (let m : Mdp = record { names = v.names; labels = v.labels; states = v.closed } in m) else Err Count) e

abbrev pub parts_of : Inside → ModelInside
parts_of b = record { choices = b.choices; starts = b.starts; labels = b.labels }

pub is_finished : (b : Inside) (v : Draft) → draft_in b ≡ v → IsDraft b → is_counted v ≡ true → finished v ≡ Ok (mdp_in (parts_of b))
unfolding mdp_in
is_finished b v is ok t = ap finished (sym is) ∙ finish_by b true ok (eq-eqb (length b.labels.of_state) b.announced (counted_len b v is ok t))

pub is_flat : (b : Inside) (v : Draft) → draft_in b ≡ v → IsDraft b → v.state ≡ None → is_counted v ≡ true → FinishesModel (finished v) → IsFlat (parts_of b)
is_flat b v is ok closed t whole =
    let e = counted_len b v is ok t in
    let n : length b.starts.items - 1 ≡ b.announced = omega (arith, ok.states.labelled) in
    record {
      few_rows = omega (arith, ok.choices.few_rows);
      places = subst (ArePlaces b.starts.items) (ok.choices.closed_up (closed_is b v is closed)) ok.states.places;
      some = omega (arith, ok.states.labelled, ok.states.some);
      few = omega (arith, ok.states.labelled, ok.states.few);
      choice = ok.states.choice;
      labels = omega (arith, ok.states.labelled);
      in_range = subst (λ (k : ℕ). All (λ c. All (λ x. x.target < k) c.row) b.choices.choices) (sym n) ok.choices.in_range;
      model = whole (mdp_in (parts_of b)) (is_finished b v is ok t);
    }

-- ---- what finishing answers

abbrev pub failed : {A : Type 0} → RowsError → Result A RowsError
failed e = Err e

-- an error of another step
pub again_as : (A : Type 0) (e : RowsError) (o : Option RowsError) → IfSome o (λ x. failed {A = Unit {0}} e ≡ Err x) → IfSome o (λ x. failed {A = A} e ≡ Err x)
again_as A e None h = tt
again_as A e (Some x) h = cc

again_by : (A : Type 0) (e : RowsError) (Q : Type 0) (o : Option RowsError) → IfSome o (λ x. (failed {A = Unit {0}} e ≡ Err x) × Q) → IfSome o (λ x. failed {A = A} e ≡ Err x)
again_by A e Q None h = tt
again_by A e Q (Some x) h = let k = h.0 in cc

-- all is closed first
module _ (d n : Draft) (r : Result (Unit {0}) RowsError) (call : IsCall d n (all_closed d) r) where
  pub closed_first : (u : Unit {0}) → r ≡ Ok u → IsUnrefused d × (all_closed d ≡ Ok n)
  closed_first u is = rw is at (ok_before d n (all_closed d) r call)

  pub again_first : (A : Type 0) (e : RowsError) → r ≡ Err e → IfSome d.refused (λ x. failed {A = A} e ≡ Err x)
  again_first A e is = again_by A e (n ≡ d) d.refused (rw is at call.again)

  pub refused_first : {A : Type 0} (f : Draft → Result A RowsError) (e : RowsError) → r ≡ Err e → IsUnrefused d → (e ≡ Memory) ⊎ ((all_closed d >>= f) ≡ Err e)
  refused_first f e is u = all_stop d f e (let h = rw is at call.err in h u)

pub none_again : (d : Draft) (P : RowsError → Type 0) → IsUnrefused d → IfSome d.refused P
none_again d P u = subst (λ (o : Option RowsError). IfSome o P) (sym u) tt
