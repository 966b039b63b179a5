-- A term past width is at the step of an active state: the value of any other is 0, and no equation has an entry to it.
use Rattle.std.proofs.Common.{◌≡◌, ℕ, zero, suc, ◌<◌, Bool, true, false, List, [], ◌∷◌, length, take, get_or}
use Rattle.std.proofs.{Common.{refl, sym, ◌∙◌, ap, subst, arith, Option, Some, None, Result, Ok, Err, if◌then◌else◌}, lemmas.List.{length-take-le, get_or-take}}
use Rattle.mdp_math.specs.{Rational.{ℚ}, Written.{◌>>=◌}}
use Rattle.mdp_spec.specs.Mdp.{Entry}
use Rattle.mdp_elim.specs.{Equation.{Equation, Values, no_equation}, Entries.{entry_to, each}}
use Rattle.mdp_elim.specs.Elimination.{divided, substituted, Eliminated, eliminated, evaluated, at_state, ◌and_then◌, solution}
use Rattle.mdp_elim.specs.{System.{is_active, row_of, inner, system}, Predecessors.{at}}
use Rattle.mdp_elim.proofs.{RowSums.{some_part}, Merge.{without_none}, Targets.{Targets, from_targets, targets-solved, targets-substituted, leads-entry}}
use Rattle.mdp_elim.proofs.{Putting.{no_change, each-from}, Equations.{eliminated-some}, Step.{each_at, each_len}}
use Rattle.mdp_elim.proofs.Leaving.{at_active, at_inactive, length-system}

some_same : {A : Type 0} (x y : A) → Some x ≡ Some y → x ≡ y
some_same x y h = cc

err_same : {A : Type 0} (m s : ℕ) → (let r : Result A ℕ = Err m in r) ≡ Err s → m ≡ s
err_same m s h = cc

module _ (active : List Bool) where
  abbrev IsOn : ℕ → Type 0
  IsOn v = is_active active v ≡ true

  -- a state that isn't active has the value 0, and no equation has an entry to it
  pub record OnlyActive (equations : List Equation) : Type 0 where
    pub others : (t : ℕ) → t < length equations → is_active active t ≡ false → at equations t ≡ no_equation
    pub lead : (t : ℕ) → t < length equations → Targets IsOn (at equations t).entries

  no_entry_by : (m : ℕ) (row : List Entry) → is_active active m ≡ false → Targets IsOn row → (o : Option ℚ) → entry_to m row ≡ o → entry_to m row ≡ None
  no_entry_by m row off h None e = e
  no_entry_by m row off h (Some p) e =
      let l = leads-entry m p row e in
      let on : is_active active (Entry.target (get_or row l.0 l.1)) ≡ true = from_targets IsOn row h l.0 l.1 l.2 in
      absurd (let k : true ≡ false = sym on ∙ ap (λ (x : Entry). is_active active x.target) l.3 ∙ ap (is_active active) l.4 ∙ off in cc)

  -- no equation has an entry to it, so none changes
  unchanged : (m : ℕ) (pivot e : Equation) → is_active active m ≡ false → Targets IsOn e.entries → substituted m pivot e ≡ Some e
  unchanged m pivot e off h = let n = no_entry_by m e.entries off h (entry_to m e.entries) refl in no_change m pivot e n (sym (without_none m e.entries n))

  solved_none : (m : ℕ) (e : Equation) → e ≡ no_equation → divided m e ≡ Some no_equation
  solved_none m e is = ap (divided m) is

  substituted_none : (m : ℕ) (pivot e new : Equation) → e ≡ no_equation → substituted m pivot e ≡ Some new → new ≡ no_equation
  substituted_none m pivot e new is h = some_same new no_equation (sym h ∙ ap (substituted m pivot) is)

  evaluated_none : (e : Equation) (v : Values) → e ≡ no_equation → evaluated e v ≡ None → ⊥
  unfolding evaluated
  evaluated_none e v is h = let k = sym (ap (λ (x : Equation). evaluated x v) is) ∙ h in cc

  module _ (m : ℕ) (equations : List Equation) (len : length equations ≡ suc m) (only : OnlyActive equations) where
    below : length (take m equations) ≡ m
    below = length-take-le m equations (omega (arith, len))

    eliminates : is_active active m ≡ false → eliminated m equations ≡ Some (record { pivot = no_equation; rest = take m equations })
    eliminates off =
        eliminated-some m equations no_equation (solved_none m (at equations m) (only.others m (omega (arith, len)) off)) (take m equations)
        (each-from (substituted m no_equation) no_equation (take m equations) (take m equations) refl
        (λ t l.
        subst (λ (e : Equation). substituted m no_equation e ≡ Some e) (sym (get_or-take m equations t no_equation (omega (arith, l, below))))
        (unchanged m no_equation (at equations t) off (only.lead t (omega (arith, len, l, below))))))

    stops_by : (b : Bool) → is_active active m ≡ b → eliminated m equations ≡ None → is_active active m ≡ true
    stops_by true e h = e
    stops_by false e h = absurd (let k : Some (let x : Eliminated = record { pivot = no_equation; rest = take m equations } in x) ≡ None = sym (eliminates e) ∙ h in cc)

    module _ (e : Eliminated) (made : eliminated m equations ≡ Some e) where
      parts : (p : Equation) × (divided m (at equations m) ≡ Some p) × ((each (substituted m p) (take m equations) >>= (λ rest. let x : Eliminated = record { pivot = p; rest = rest } in Some x)) ≡ Some e)
      unfolding eliminated
      parts = some_part (divided m (at equations m)) _ e made

      rest_made : (rest : List Equation) × (each (substituted m parts.0) (take m equations) ≡ Some rest) × (Some (let x : Eliminated = record { pivot = parts.0; rest = rest } in x) ≡ Some e)
      rest_made = some_part (each (substituted m parts.0) (take m equations)) _ e parts.2

      same : (let x : Eliminated = record { pivot = parts.0; rest = rest_made.0 } in x) ≡ e
      same = some_same _ _ rest_made.2

      pivot_made : divided m (at equations m) ≡ Some e.pivot
      pivot_made = parts.1 ∙ ap (λ (x : Eliminated). Some x.pivot) same

      rest_len : length e.rest ≡ m
      rest_len = ap (λ (x : Eliminated). length x.rest) (sym same) ∙ each_len (substituted m parts.0) (take m equations) rest_made.0 rest_made.1 ∙ below

      rest_at : (t : ℕ) → t < m → substituted m e.pivot (at equations t) ≡ Some (at e.rest t)
      rest_at t l =
          subst (λ (x : Eliminated). substituted m x.pivot (at equations t) ≡ Some (at x.rest t)) same
          (subst (λ (x : Equation). substituted m parts.0 x ≡ Some (at rest_made.0 t)) (get_or-take m equations t no_equation l)
          (each_at (substituted m parts.0) no_equation (take m equations) rest_made.0 t rest_made.1 (omega (arith, l, below))))

      rest_only : OnlyActive e.rest
      rest_only = record {
        others = λ t l off.
            let k : t < m = omega (arith, l, rest_len) in
            substituted_none m e.pivot (at equations t) (at e.rest t) (only.others t (omega (arith, k, len)) off) (rest_at t k);
        lead = λ t l.
            let k : t < m = omega (arith, l, rest_len) in
            targets-substituted IsOn m e.pivot (at equations t) (at e.rest t)
            (targets-solved IsOn m (at equations m) e.pivot (only.lead m (omega (arith, len))) pivot_made) (only.lead t (omega (arith, k, len))) (rest_at t k);
      }

      evaluates_by : (values : Values) (b : Bool) → is_active active m ≡ b → evaluated e.pivot values ≡ None → is_active active m ≡ true
      evaluates_by values true a h = a
      evaluates_by values false a h = absurd (evaluated_none e.pivot values (some_same e.pivot no_equation (sym pivot_made ∙ solved_none m (at equations m) (only.others m (omega (arith, len)) a))) h)

  -- the state at which the answer stops
  abbrev Stops : ℕ → ℕ → Type 0
  Stops n s = (s < n) × IsOn s

  last_by : (m s : ℕ) (o : Option Values) → (o ≡ None → IsOn m) → at_state m o ≡ Err s → Stops (suc m) s
  last_by m s None f h = let e = err_same m s h in subst (Stops (suc m)) e (omega arith, f refl)
  last_by m s (Some v) f h = cc

  then_by : (m s : ℕ) (r : Result Values ℕ) (g : Values → Option Values) → (r ≡ Err s → Stops m s)
      → ((v : Values) → g v ≡ None → IsOn m) → (r and_then (λ v. at_state m (g v))) ≡ Err s → Stops (suc m) s
  then_by m s (Ok v) g f k h = last_by m s (g v) (k v) h
  then_by m s (Err t) g f k h = let a = f h in (omega (arith, a.0), a.1)

  step_by : (m s : ℕ) (o : Option Eliminated) → (o ≡ None → IsOn m)
      → ((e : Eliminated) → o ≡ Some e → (solution m e.rest ≡ Err s → Stops m s) × ((v : Values) → evaluated e.pivot v ≡ None → IsOn m))
      → (at_state m o and_then (λ e. solution m e.rest and_then (λ values. at_state m (evaluated e.pivot values)))) ≡ Err s → Stops (suc m) s
  step_by m s None f g h = let e = err_same m s h in subst (Stops (suc m)) e (omega arith, f refl)
  step_by m s (Some e) f g h = let k = g e refl in then_by m s (solution m e.rest) (evaluated e.pivot) k.0 k.1 h

  pub stops_active : (n s : ℕ) (equations : List Equation) → length equations ≡ n → OnlyActive equations → solution n equations ≡ Err s → Stops n s
  stops_active zero s equations len only h = cc
  stops_active (suc m) s equations len only h =
      step_by m s (eliminated m equations) (stops_by m equations len only (is_active active m) refl)
      (λ e made. (stops_active m s e.rest (rest_len m equations len only e made) (rest_only m equations len only e made), λ v k. evaluates_by m equations len only e made v (is_active active m) refl k)) h

  -- ---- of a chain

  filter_by : (x : Entry) (rest : List Entry) (b : Bool) → is_active active x.target ≡ b → Targets IsOn rest → Targets IsOn (if b then x ∷ rest else rest)
  filter_by x rest true e h = (e, h)
  filter_by x rest false e h = h

  inner_on : (row : List Entry) → Targets IsOn (inner active row)
  inner_on [] = tt
  inner_on (x ∷ row) = filter_by x (inner active row) (is_active active x.target) refl (inner_on row)

  module _ (rows : List (List Entry)) (columns : List (List ℚ)) (size : length active ≡ length rows) where
    lead_by : (t : ℕ) (b : Bool) → is_active active t ≡ b → Targets IsOn (at (system rows active columns) t).entries
    lead_by t true a = subst (λ (e : Equation). Targets IsOn e.entries) (sym (at_active rows active size columns t a)) (inner_on (row_of rows t))
    lead_by t false a = subst (λ (e : Equation). Targets IsOn e.entries) (sym (at_inactive rows active size columns t a)) tt

    pub wide_active : (s : ℕ) → solution (length rows) (system rows active columns) ≡ Err s → (s < length rows) × (is_active active s ≡ true)
    wide_active s h =
        stops_active (length rows) s (system rows active columns) (length-system rows active size columns)
        (record {
          others = λ t l off. at_inactive rows active size columns t off;
          lead = λ t l. lead_by t (is_active active t) refl;
        }) h
