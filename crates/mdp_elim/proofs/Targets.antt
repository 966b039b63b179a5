-- A fact about the targets of two rows holds of the targets of what elimination makes of them.
use Rattle.std.proofs.Common.{◌≡◌, ℕ, zero, suc, ◌+◌, ◌<◌, ◌⊎◌, inl, inr, Bool, true, false, List, [], ◌∷◌, length}
use Rattle.std.proofs.Common.{get_or, refl, sym, ◌∙◌, ap, subst, arith, eqb, nat_le, Option, Some, None, IfSome, if◌then◌else◌, pos}
use Rattle.std.proofs.lemmas.List.{get_or_default}
use Rattle.std.specs.{List.{All}, Option.{is_none}}
use Rattle.mdp_math.proofs.Numbers.{le_or}
use Rattle.mdp_math.specs.{Rational.{ℚ, of_int}, Written.{written_add, written_mul, ◌>>=◌}}
use Rattle.mdp_num.specs.Written.{written_sub, written_div}
use Rattle.mdp_spec.specs.Mdp.{Entry}
use Rattle.mdp_elim.specs.{Equation.{Equation}, Entries.{LeadsAt, entry_to, without, each, divided_entry, plus_entry, plus_row}}
use Rattle.mdp_elim.specs.{Elimination.{divided, divided_rest, divided_where, rest_of, substituted, substituted_where, plus_equation}, Predecessors.{LeadsTo}}
use Rattle.mdp_elim.proofs.{Merge.{no_entry}, RowSums.{some_part}}

pub before_or : (i k : ℕ) → k < i + 1 → (k < i) ⊎ (k ≡ i)
before_or i k l = elim (le_or i k) as (λ _. (k < i) ⊎ (k ≡ i)) [
  | inl m ↦ inr (omega arith)
  | inr m ↦ inl m
]

some_same : {A : Type 0} (x y : A) → Some x ≡ Some y → x ≡ y
some_same x y h = cc

-- ---- the targets of a row, one after the other

-- Q holds of the targets before place i
abbrev pub HoldsBefore : (ℕ → Type 0) → List Entry → ℕ → Type 0
HoldsBefore Q row i = (k : ℕ) (d : Entry) → k < i → Q (Entry.target (get_or row k d))

one_more : (Q : ℕ → Type 0) (row : List Entry) (i : ℕ) (x : Entry) → x ≡ get_or row i x → i < length row → HoldsBefore Q row i
    → Q x.target → (k : ℕ) (d : Entry) → k < i + 1 → (k < i) ⊎ (k ≡ i) → Q (Entry.target (get_or row k d))
one_more Q row i x is l h q k d m (inl a) = h k d a
one_more Q row i x is l h q k d m (inr e) = subst (λ (n : ℕ). Q (Entry.target (get_or row n d))) (sym e) (subst (λ (y : Entry). Q y.target) (is ∙ get_or_default row i x d l) q)

pub so_far-same : (Q : ℕ → Type 0) (row : List Entry) (i : ℕ) (x : Entry) → x ≡ get_or row i x → i < length row → HoldsBefore Q row i → Q x.target → HoldsBefore Q row (i + 1)
so_far-same Q row i x is l h q k d m = one_more Q row i x is l h q k d m (before_or i k m)

pub so_far-more : (P Q : ℕ → Type 0) → ((v : ℕ) → P v → Q v) → (row : List Entry) (i : ℕ) (x : Entry)
    → x ≡ get_or row i x → i < length row → HoldsBefore P row i → Q x.target → HoldsBefore Q row (i + 1)
so_far-more P Q f row i x is l h q = so_far-same Q row i x is l (λ k d m. f _ (h k d m)) q

module _ (P : ℕ → Type 0) where
  -- P holds of each target
  abbrev pub Targets : List Entry → Type 0
  Targets [] = Unit {0}
  Targets (x ∷ row) = P x.target × Targets row

  pub to_targets : (row : List Entry) → All (λ x. P x.target) row → Targets row
  to_targets [] h = tt
  to_targets (x ∷ row) h = (h 0 x (omega arith), to_targets row (λ k d l. h (suc k) d (omega arith)))

  pub from_targets : (row : List Entry) → Targets row → All (λ x. P x.target) row
  from_targets [] h k d l = absurd (omega arith)
  from_targets (x ∷ row) h zero d l = h.0
  from_targets (x ∷ row) h (suc k) d l = from_targets row h.1 k d (omega arith)

  without_by : (y : Entry) (row rest : List Entry) (b c : Bool) → P y.target → Targets row → Targets rest → Targets (if b then (if c then row else y ∷ row) else y ∷ rest)
  without_by y row rest true true p h k = h
  without_by y row rest true false p h k = (p, h)
  without_by y row rest false c p h k = (p, k)

  pub targets-without : (s : ℕ) (row : List Entry) → Targets row → Targets (without s row)
  targets-without s [] h = tt
  targets-without s (y ∷ row) h = without_by y row (without s row) (nat_le s y.target) (eqb y.target s) h.0 h.1 (targets-without s row h.1)

  plus_by : (v : ℕ) (x : ℚ) (y : Entry) (row new : List Entry) (b c : Bool) → P v → P y.target → Targets row → ((r : List Entry) → plus_entry v x row ≡ Some r → Targets r)
      → (if b
      then (if c then (written_add y.prob x >>= (λ sum. Some ((let z : Entry = record { target = v; prob = sum } in z) ∷ row))) else
      (written_add (of_int (pos 0)) x >>= (λ sum. Some ((let z : Entry = record { target = v; prob = sum } in z) ∷ y ∷ row))))
      else (plus_entry v x row >>= (λ rest. Some (y ∷ rest)))) ≡ Some new
      → Targets new
  plus_by v x y row new true true p q h ih e = let k = some_part (written_add y.prob x) _ new e in subst Targets (some_same _ _ k.2) (p, h)
  plus_by v x y row new true false p q h ih e = let k = some_part (written_add (of_int (pos 0)) x) _ new e in subst Targets (some_same _ _ k.2) (p, (q, h))
  plus_by v x y row new false c p q h ih e = let k = some_part (plus_entry v x row) _ new e in subst Targets (some_same _ _ k.2) (q, ih k.0 k.1)

  pub targets-plus_entry : (v : ℕ) (x : ℚ) (row new : List Entry) → P v → Targets row → plus_entry v x row ≡ Some new → Targets new
  targets-plus_entry v x [] new p h e = let k = some_part (written_add (of_int (pos 0)) x) _ new e in subst Targets (some_same _ _ k.2) (p, tt)
  targets-plus_entry v x (y ∷ row) new p h e = plus_by v x y row new (nat_le v y.target) (eqb y.target v) p h.0 h.1 (λ r q. targets-plus_entry v x row r p h.1 q) e

  pub targets-plus_row : (w : ℚ) (source row new : List Entry) → Targets source → Targets row → plus_row w source row ≡ Some new → Targets new
  targets-plus_row w [] row new s h e = subst Targets (some_same _ _ e) h
  targets-plus_row w (x ∷ source) row new s h e =
      let k = some_part (written_mul w x.prob) (λ term. plus_entry x.target term row >>= plus_row w source) new e in
      let r = some_part (plus_entry x.target k.0 row) (plus_row w source) new k.2 in
      targets-plus_row w source r.0 new s.1 (targets-plus_entry x.target k.0 row r.0 s.0 h r.1) r.2

  targets-divided : (u : ℚ) (row new : List Entry) → Targets row → each (divided_entry u) row ≡ Some new → Targets new
  targets-divided u [] new h e = subst Targets (some_same _ _ e) h
  targets-divided u (x ∷ row) new h e =
      let k = some_part (divided_entry u x) (λ y. each (divided_entry u) row >>= (λ ys. Some (y ∷ ys))) new e in
      let q = some_part (written_div x.prob u) _ k.0 k.1 in
      let r = some_part (each (divided_entry u) row) (λ ys. Some (k.0 ∷ ys)) new k.2 in
      let t : x.target ≡ Entry.target k.0 = ap Entry.target (some_same _ _ q.2) in
      subst Targets (some_same _ _ r.2) (subst P t h.0, targets-divided u row r.0 h.1 r.1)

  divided_to : (s : ℕ) (o : Option ℚ) (e new : Equation) → Targets e.entries → divided_where o (rest_of s e) ≡ Some new → Targets new.entries
  unfolding divided_rest
  divided_to s None e new h k = subst (λ (x : Equation). Targets x.entries) (some_same _ _ k) (targets-without s e.entries h)
  divided_to s (Some p) e new h k =
      let a = some_part (written_sub (of_int (pos 1)) p) _ new k in
      let b = some_part (each (divided_entry a.0) (without s e.entries)) _ new a.2 in
      let c = some_part (written_div e.first a.0) _ new b.2 in
      let d = some_part (written_div e.second a.0) _ new c.2 in
      subst (λ (x : Equation). Targets x.entries) (some_same _ _ d.2) (targets-divided a.0 (without s e.entries) b.0 (targets-without s e.entries h) b.1)

  -- of a solved equation
  pub targets-solved : (s : ℕ) (e new : Equation) → Targets e.entries → divided s e ≡ Some new → Targets new.entries
  targets-solved s e new h k = divided_to s (entry_to s e.entries) e new h k

  substituted_to : (s : ℕ) (o : Option ℚ) (pivot e new : Equation) → Targets pivot.entries → Targets e.entries → substituted_where o pivot (rest_of s e) ≡ Some new → Targets new.entries
  unfolding plus_equation
  substituted_to s None pivot e new p h k = subst (λ (x : Equation). Targets x.entries) (some_same _ _ k) (targets-without s e.entries h)
  substituted_to s (Some w) pivot e new p h k =
      let a = some_part (plus_row w pivot.entries (without s e.entries)) _ new k in
      let b = some_part (written_mul w pivot.first) _ new a.2 in
      let c = some_part (written_add e.first b.0) _ new b.2 in
      let d = some_part (written_mul w pivot.second) _ new c.2 in
      let g = some_part (written_add e.second d.0) _ new d.2 in
      subst (λ (x : Equation). Targets x.entries) (some_same _ _ g.2) (targets-plus_row w pivot.entries (without s e.entries) a.0 p (targets-without s e.entries h) a.1)

  -- of an equation into which another was put
  pub targets-substituted : (s : ℕ) (pivot e new : Equation) → Targets pivot.entries → Targets e.entries → substituted s pivot e ≡ Some new → Targets new.entries
  targets-substituted s pivot e new p h k = substituted_to s (entry_to s e.entries) pivot e new p h k

-- ---- an entry leads to its target

leads_later : (v : ℕ) (x : Entry) (row : List Entry) → LeadsTo row v → LeadsTo (x ∷ row) v
leads_later v x row h = (suc h.0, h.1, let l = h.2 in omega (arith, l), h.3, h.4)

leads_by : (v : ℕ) (p : ℚ) (x : Entry) (row : List Entry) (b c : Bool) → eqb x.target v ≡ c
    → (if b then (if c then Some x.prob else None) else entry_to v row) ≡ Some p → (entry_to v row ≡ Some p → LeadsTo row v) → LeadsTo (x ∷ row) v
leads_by v p x row true true e h ih = (0, x, omega arith, refl, grind arith)
leads_by v p x row true false e h ih = cc
leads_by v p x row false c e h ih = leads_later v x row (ih h)

pub leads-entry : (v : ℕ) (p : ℚ) (row : List Entry) → entry_to v row ≡ Some p → LeadsTo row v
leads-entry v p [] h = cc
leads-entry v p (x ∷ row) h = leads_by v p x row (nat_le v x.target) (eqb x.target v) refl h (leads-entry v p row)

-- an entry that was found there
pub leads-found : (v : ℕ) (row : List Entry) (o : Option ℕ) → IfSome o (LeadsAt v row) → is_none o ≡ false → LeadsTo row v
leads-found v row None h e = cc
leads-found v row (Some i) h e = (i, get_or row i no_entry, h.0, get_or_default row i _ no_entry h.0, h.1 no_entry)
