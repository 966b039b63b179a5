-- States from which none of some states is reached: their solved equations and values don't depend on those of these states.
use Rattle.std.proofs.Common.{◌≡◌, ◌≢◌, ℕ, zero, suc, ◌+◌, ◌-◌, ◌<◌, ◌≤◌, ◌⊎◌, inl, inr, true, false}
use Rattle.std.proofs.Common.{List, [], ◌∷◌, length, get_or, nat_eq, Option, Some, None, refl, sym, ◌∙◌, ap, subst, pos, arith}
use Rattle.std.proofs.{lemmas.Bool.{ne_eqb, false≢true}, Math.ListN.{set}, lemmas.List.{get_or-set_other}, lemmas.List.Folds.{list_any_at}}
use Rattle.std.specs.List.{All}
use Rattle.mdp_math.specs.{Rational.{ℚ, of_int}, Written.{written_add, written_mul, ◌>>=◌}}
use Rattle.mdp_math.proofs.Numbers.{eqb-same}
use Rattle.mdp_spec.specs.{Mdp.{Entry, value_at}, Written.{written_sum}}
use Rattle.mdp_rows.specs.Preds.{is_among}
use Rattle.mdp_elim.specs.{Equation.{Equation, no_equation}, Entries.{entry_to}, Elimination.{divided, rest_of, substituted, substituted_where}}
use Rattle.mdp_elim.specs.{Predecessors.{at}, Kept.{put_in, solved_at, IsKept, Kept, DifferAt, CanServe, StaySolved, StayOutside, OthersHaveValues}}
use Rattle.mdp_elim.proofs.{RowSums.{some_part}, Targets.{Targets, to_targets, from_targets, targets-solved, targets-substituted, leads-entry}}
use Rattle.mdp_elim.proofs.PutIn.{bind_same}

-- ---- which states are among some

pub not-among : (s : ℕ) (states : List ℕ) → ((k : ℕ) → k < length states → get_or states k 0 ≢ s) → is_among s states ≡ false
not-among s [] h = refl
not-among s (x ∷ states) h = rw (ne_eqb x s (h 0 (omega arith))) (not-among s states (λ k l. h (suc k) (omega arith)))

pub among-at : (states : List ℕ) (k : ℕ) → k < length states → is_among (get_or states k 0) states ≡ true
among-at states k l = list_any_at (λ x. nat_eq x (get_or states k 0)) states k 0 l (eqb-same (get_or states k 0))

-- another state than one of these keeps its value where that one is given another
pub value-other : (states : List ℕ) (k s : ℕ) (values : List ℚ) (x : ℚ) → k < length states → is_among s states ≡ false → value_at (set values (get_or states k 0) x) s ≡ value_at values s
value-other states k s values x l out =
    get_or-set_other values (get_or states k 0) s x (of_int (pos 0)) (λ e. false≢true (sym out ∙ ap (λ t. is_among t states) e ∙ among-at states k l))

-- ---- a sum depends on the values of the targets

pub written_sum-same : (v w : List ℚ) (start : ℚ) (row : List Entry) → Targets (λ t. value_at v t ≡ value_at w t) row → written_sum v start row ≡ written_sum w start row
written_sum-same v w start [] h = refl
written_sum-same v w start (x ∷ row) h =
    ap (λ (y : ℚ). written_mul x.prob y >>= (λ term. written_add start term >>= (λ sum. written_sum v sum row))) h.0
    ∙ bind_same (written_mul x.prob (value_at w x.target)) (λ term. written_add start term >>= (λ sum. written_sum v sum row)) (λ term. written_add start term >>= (λ sum. written_sum w sum row))
    (λ term. bind_same (written_add start term) (λ sum. written_sum v sum row) (λ sum. written_sum w sum row) (λ sum. written_sum-same v w sum row h.1))

pub written_sum-agree : (v w : List ℚ) (start : ℚ) (row : List Entry) → All (λ x. value_at v x.target ≡ value_at w x.target) row → written_sum v start row ≡ written_sum w start row
written_sum-agree v w start row h = written_sum-same v w start row (to_targets (λ t. value_at v t ≡ value_at w t) row h)

bind_same_some : {A B : Type 0} (o : Option A) (f g : A → Option B) → ((x : A) → o ≡ Some x → f x ≡ g x) → (o >>= f) ≡ (o >>= g)
bind_same_some None f g h = refl
bind_same_some (Some x) f g h = h x refl

-- ---- equations that lead to states of one kind

module _ (P : ℕ → Type 0) where
  leads_there : (s : ℕ) (w : ℚ) (e : Equation) → Targets P e.entries → entry_to s e.entries ≡ Some w → P s
  leads_there s w e h is =
      let l = leads-entry s w e.entries is in
      let k : P (Entry.target (get_or e.entries l.0 l.1)) = from_targets P e.entries h l.0 l.1 l.2 in
      subst P (ap (λ (x : Entry). x.target) l.3 ∙ l.4) k

  -- where no entry leads to s, what is put in for it doesn't matter
  no_matter : (s : ℕ) (p q e : Equation) → entry_to s e.entries ≡ None → substituted s p e ≡ substituted s q e
  no_matter s p q e h = ap (λ (o : Option ℚ). substituted_where o p (rest_of s e)) h ∙ sym (ap (λ (o : Option ℚ). substituted_where o q (rest_of s e)) h)

  put_by : (s : ℕ) (p e r : Equation) (o : Option ℚ) → entry_to s e.entries ≡ o → (P s → Targets P p.entries) → Targets P e.entries → substituted s p e ≡ Some r → Targets P r.entries
  put_by s p e r None i f h is = targets-substituted P s no_equation e r tt h (no_matter s no_equation p e i ∙ is)
  put_by s p e r (Some w) i f h is = targets-substituted P s p e r (f (leads_there s w e h i)) h is

  targets-put : (s : ℕ) (p e r : Equation) → (P s → Targets P p.entries) → Targets P e.entries → substituted s p e ≡ Some r → Targets P r.entries
  targets-put s p e r f h is = put_by s p e r (entry_to s e.entries) refl f h is

  same_by : (s : ℕ) (p q e : Equation) (o : Option ℚ) → entry_to s e.entries ≡ o → (P s → p ≡ q) → Targets P e.entries → substituted s p e ≡ substituted s q e
  same_by s p q e None i f h = no_matter s p q e i
  same_by s p q e (Some w) i f h = ap (λ (x : Equation). substituted s x e) (f (leads_there s w e h i))

  put-same : (s : ℕ) (p q e : Equation) → (P s → p ≡ q) → Targets P e.entries → substituted s p e ≡ substituted s q e
  put-same s p q e f h = same_by s p q e (entry_to s e.entries) refl f h

  module _ (solved : List Equation) where
    targets-put_in : (low k : ℕ) (e r : Equation) → ((j : ℕ) → low ≤ j → j < low + k → P j → Targets P (at solved j).entries)
        → Targets P e.entries → put_in solved low k e ≡ Some r → Targets P r.entries
    targets-put_in low zero e r f h is = subst (λ (x : Equation). Targets P x.entries) (let i : e ≡ r = cc in i) h
    targets-put_in low (suc k) e r f h is =
        let a = some_part (substituted (low + k) (at solved (low + k)) e) (put_in solved low k) r is in
        targets-put_in low k a.0 r (λ j l m p. f j l (omega (arith, m)) p) (targets-put (low + k) (at solved (low + k)) e a.0 (f (low + k) (omega arith) (omega arith)) h a.1) a.2

    put_in-same : (new : List Equation) → ((j : ℕ) → P j → at new j ≡ at solved j) → (low k : ℕ) (e : Equation)
        → ((j : ℕ) → low ≤ j → j < low + k → P j → Targets P (at solved j).entries) → Targets P e.entries → put_in new low k e ≡ put_in solved low k e
    put_in-same new agree low zero e f h = refl
    put_in-same new agree low (suc k) e f h =
        ap (λ (o : Option Equation). o >>= put_in new low k) (put-same (low + k) (at new (low + k)) (at solved (low + k)) e (agree (low + k)) h)
        ∙ bind_same_some (substituted (low + k) (at solved (low + k)) e) (put_in new low k) (put_in solved low k)
        (λ x is. put_in-same new agree low k x (λ j l m p. f j l (omega (arith, m)) p) (targets-put (low + k) (at solved (low + k)) e x (f (low + k) (omega arith) (omega arith)) h is))

    -- the equations of these states lead to such states, and are solved
    module _ (equations : List Equation) (n : ℕ) (closed : (t : ℕ) → t < n → P t → Targets P (at equations t).entries)
        (each : (t : ℕ) → t < n → P t → solved_at solved n t (at equations t) ≡ Some (at solved t)) where
      outside_by : (d s : ℕ) → s < n → n ≤ s + d → P s → Targets P (at solved s).entries
      outside_by zero s l m p = absurd (omega arith)
      outside_by (suc d) s l m p =
          let a = some_part (put_in solved (suc s) (n - suc s) (at equations s)) (divided s) (at solved s) (each s l p) in
          targets-solved P s a.0 (at solved s)
          (targets-put_in (suc s) (n - suc s) (at equations s) a.0 (λ j u v q. outside_by d j (omega (arith, v)) (omega (arith, u)) q) (closed s l p) a.1) a.2

      pub stay_outside : (s : ℕ) → s < n → P s → Targets P (at solved s).entries
      stay_outside s l p = outside_by n s l (omega arith) p

      pub stay_solved : (new : List Equation) → ((j : ℕ) → P j → at new j ≡ at solved j) → (s : ℕ) → s < n → P s → solved_at new n s (at equations s) ≡ Some (at new s)
      stay_solved new agree s l p =
          ap (λ (o : Option Equation). o >>= divided s)
          (put_in-same new agree (suc s) (n - suc s) (at equations s) (λ j u v q. stay_outside j (omega (arith, u, v, l)) q) (closed s l p))
          ∙ each s l p ∙ ap Some (sym (agree s p))

-- ---- what is kept of a system that differs at some states

module _ (states : List ℕ) (equations : List Equation) (k : Kept) (serve : CanServe states equations k) where
  abbrev Outside : ℕ → Type 0
  Outside v = is_among v states ≡ false

  abbrev Given : Type 0
  Given = ((t : ℕ) → t < length equations → is_among t states ≡ true) ⊎ ((old : List Equation) × IsKept old k × DifferAt states old equations)

  size : length k.solved ≡ length equations
  size = serve.room.solved

  module _ (old : List Equation) (kept : IsKept old k) (differ : DifferAt states old equations) where
    closed : (t : ℕ) → t < length equations → Outside t → Targets Outside (at equations t).entries
    closed t l o = to_targets Outside (at equations t).entries (differ.closed t l o)

    each : (t : ℕ) → t < length equations → Outside t → solved_at k.solved (length equations) t (at equations t) ≡ Some (at k.solved t)
    each t l o =
        ap (solved_at k.solved (length equations) t) (differ.same t l o)
        ∙ ap (λ n. solved_at k.solved n t (at old t)) differ.count ∙ kept.solved.each t (omega (arith, l, differ.count))

  solved_by : Given → StaySolved states equations k.solved
  solved_by (inl all) new agree s l o = absurd (false≢true (sym o ∙ all s l))
  solved_by (inr h) new agree s l o = stay_solved Outside k.solved equations (length equations) (closed h.0 h.1 h.2) (each h.0 h.1 h.2) new agree s l o

  outside_by_given : Given → StayOutside states k.solved
  outside_by_given (inl all) s l o = absurd (false≢true (sym o ∙ all s (omega (arith, l, size))))
  outside_by_given (inr h) s l o =
      from_targets Outside (at k.solved s).entries (stay_outside Outside k.solved equations (length equations) (closed h.0 h.1 h.2) (each h.0 h.1 h.2) s (omega (arith, l, size)) o)

  first_by : Given → OthersHaveValues Equation.first states k.solved k.first
  first_by (inl all) s l o = absurd (false≢true (sym o ∙ all s (omega (arith, l, size))))
  first_by (inr h) s l o = h.1.first.each s l

  second_by : Given → OthersHaveValues Equation.second states k.solved k.second
  second_by (inl all) s l o = absurd (false≢true (sym o ∙ all s (omega (arith, l, size))))
  second_by (inr h) s l o = h.1.second.each s l

  pub serve-solved : StaySolved states equations k.solved
  serve-solved = solved_by serve.others

  pub serve-outside : StayOutside states k.solved
  serve-outside = outside_by_given serve.others

  pub serve-first : OthersHaveValues Equation.first states k.solved k.first
  serve-first = first_by serve.others

  pub serve-second : OthersHaveValues Equation.second states k.solved k.second
  serve-second = second_by serve.others

-- ---- where the solved equations of the other states stay

module _ (states : List ℕ) (solved new : List Equation) (count : length new ≡ length solved) (agree : (u : ℕ) → is_among u states ≡ false → at new u ≡ at solved u) where
  pub outside-kept : StayOutside states solved → StayOutside states new
  outside-kept h s l o = subst (λ (e : Equation). All (λ x. is_among x.target states ≡ false) e.entries) (sym (agree s o)) (h s (omega (arith, l, count)) o)

  pub others-kept : (constant : Equation → ℚ) (values : List ℚ) → OthersHaveValues constant states solved values → OthersHaveValues constant states new values
  others-kept constant values h s l o =
      subst (λ (e : Equation). written_sum values (constant e) e.entries ≡ Some (value_at values s)) (sym (agree s o)) (h s (omega (arith, l, count)) o)
