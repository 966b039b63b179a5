-- The equations of some states are solved, from the greatest of these states on.
use Rattle.std.proofs.Common.{◌≡◌, ◌≢◌, ℕ, suc, ◌-◌, ◌<◌, ◌≤◌, ◌⊎◌, inl, inr, false, true, List, length, get_or, Option, Some, None, Err, refl, sym, ◌∙◌, ap, subst, arith}
use Rattle.std.proofs.lemmas.Bool.{false≢true}
use Rattle.mdp_math.proofs.Numbers.{le_or}
use Rattle.mdp_rows.specs.Preds.{is_among}
use Rattle.mdp_elim.specs.{Equation.{Equation}, Entries.{Between}, Elimination.{divided, solution}, Predecessors.{at}}
use Rattle.mdp_elim.specs.Kept.{put_in, solved_at, LeadToSmaller, AreSolved, Ascend, StopsAbove, StopsAt, IsTried, StaySolved}
use Rattle.mdp_elim.proofs.{RowSums.{some_part}, Lists.{one_or_two}, PutIn.{put_part, solved-agree}, OneByOne.{solution-stops_dividing, solution-stops_putting}}
use Rattle.mdp_elim.proofs.Others.{not-among, among-at}

-- what solving one equation keeps
pub tried-other : (old new : List Equation) (t : ℕ) (e : Equation) (wide now : Option ℕ) → IsTried old new t e wide now → (u : ℕ) → u ≢ t → at new u ≡ at old u
tried-other old new t e None None h u k = h.3 u k
tried-other old new t e None (Some s) h u k = ap (λ (es : List Equation). at es u) h.0
tried-other old new t e (Some f) None h u k = absurd h
tried-other old new t e (Some f) (Some s) h u k = ap (λ (es : List Equation). at es u) h.0

down_by : (old new : List Equation) (t s : ℕ) → Between 0 t (at new t).entries → ((u : ℕ) → u ≢ t → at new u ≡ at old u) → Between 0 s (at old s).entries
    → (s ≡ t) ⊎ (s ≢ t) → Between 0 s (at new s).entries
down_by old new t s own same h (inl e) = subst (λ j. Between 0 j (at new j).entries) (sym e) own
down_by old new t s own same h (inr k) = subst (λ (x : Equation). Between 0 s x.entries) (sym (same s k)) h

pub tried-down : (old new : List Equation) (t : ℕ) (e : Equation) (wide now : Option ℕ) → IsTried old new t e wide now → LeadToSmaller old → LeadToSmaller new
tried-down old new t e None None h down s l = down_by old new t s h.1 h.3 (down s (let c = h.2 in omega (arith, l, c))) (one_or_two t s)
tried-down old new t e None (Some f) h down s l = subst LeadToSmaller (sym h.0) down s l
tried-down old new t e (Some f) None h down s l = absurd h
tried-down old new t e (Some f) (Some g) h down s l = subst LeadToSmaller (sym h.0) down s l

-- s is none of the first i states
abbrev pub NotBefore : ℕ → List ℕ → ℕ → Type 0
NotBefore i states s = (k : ℕ) → k < i → get_or states k 0 ≢ s

module _ (states : List ℕ) (equations : List Equation) (n : ℕ) where
  -- a term is past width at the step of f
  abbrev pub Stops : List Equation → ℕ → Type 0
  Stops solved f =
      StopsAt solved f (at equations f) ⊎
      ((solved_at solved n f (at equations f) ≡ Some (at solved f)) × (low : ℕ) × (t : ℕ) × (t < f) × StopsAbove solved low (at equations t) f)

  -- all states but the first i ones are solved
  pub record AllSolved (i : ℕ) (solved : List Equation) : Type 0 where
    pub each : (s : ℕ) → s < n → NotBefore i states s → solved_at solved n s (at equations s) ≡ Some (at solved s)

  -- f is the greatest state at whose step a term is past width
  pub record WideAt (i : ℕ) (solved : List Equation) (f : ℕ) : Type 0 where
    pub within : f < n
    pub least : (k : ℕ) → k < i → get_or states k 0 ≤ f
    pub above : (s : ℕ) → f < s → s < n → solved_at solved n s (at equations s) ≡ Some (at solved s)
    pub below : (t : ℕ) → t ≤ f → NotBefore i states t → (sum : Equation) × (put_in solved (suc f) (n - suc f) (at equations t) ≡ Some sum)
    pub stops : Stops solved f

  abbrev pub AreTried : ℕ → List Equation → Option ℕ → Type 0
  AreTried i solved None = AllSolved i solved
  AreTried i solved (Some f) = WideAt i solved f

  -- a state that is solved can be solved so far
  so_far : (solved : List Equation) (s f : ℕ) → s ≤ f → f < n → solved_at solved n s (at equations s) ≡ Some (at solved s)
      → (sum : Equation) × (put_in solved (suc f) (n - suc f) (at equations s) ≡ Some sum)
  so_far solved s f l m is =
      let a = some_part (put_in solved (suc s) (n - suc s) (at equations s)) (divided s) (at solved s) is in
      put_part solved (suc s) (n - suc s) (suc f) (n - suc f) (at equations s) a.0 (omega (arith, l)) (omega (arith, l, m)) a.1

  module _ (ascend : Ascend states) (first : List Equation) (stay : StaySolved states equations first) (len : length equations ≡ n) where
    pub tried_first : AreTried (length states) first None
    tried_first = record { each = λ s l o. subst (λ m. solved_at first m s (at equations s) ≡ Some (at first s)) len (stay first (λ u h. refl) s (omega (arith, l, len)) (not-among s states o)) }

    module _ (i t : ℕ) (here : get_or states i 0 ≡ t) (within : i < length states) (small : t < n) (old : List Equation) (count : length old ≡ n) where
      before_here : (k : ℕ) → k < i → get_or states k 0 < t
      before_here k l = let a = ascend.each k i l within in omega (arith, a, here)

      behind_here : (k : ℕ) → i < k → k < length states → t < get_or states k 0
      behind_here k l m = let a = ascend.each i k l m in omega (arith, a, here)

      above_here : (s : ℕ) → t < s → NotBefore (suc i) states s
      above_here s l k m e = elim (le_or i k) as (λ _. ⊥) [
        | inl a ↦ (let z : k ≡ i = omega arith in let h = sym here ∙ sym (ap (λ j. get_or states j 0) z) ∙ e in omega (arith, h))
        | inr a ↦ (let b = before_here k a in omega (arith, b, e))
      ]

      not_here : (s : ℕ) → NotBefore i states s → s ≢ t → NotBefore (suc i) states s
      not_here s o h k m e = elim (le_or i k) as (λ _. ⊥) [
        | inl a ↦ (let z : k ≡ i = omega arith in h (sym e ∙ ap (λ j. get_or states j 0) z ∙ here))
        | inr a ↦ o k a e
      ]

      -- a smaller state that is none of the first ones is none of them all
      other_below : (s : ℕ) → NotBefore i states s → s < t → is_among s states ≡ false
      other_below s o l = not-among s states (λ k m e. elim (le_or (suc i) k) as (λ _. ⊥) [
        | inl a ↦ (let b = behind_here k (omega arith) m in omega (arith, b, e))
        | inr a ↦ not_here s o (λ h. omega (arith, h, l)) k a e
      ])

      -- state t is among them
      pub here_among : is_among t states ≡ true
      here_among = subst (λ s. is_among s states ≡ true) here (among-at states i within)

      pub other-not_here : (u : ℕ) → is_among u states ≡ false → u ≢ t
      other-not_here u h e = false≢true (sym h ∙ ap (λ s. is_among s states) e ∙ here_among)

      -- it can be divided
      pub above_solved : AllSolved (suc i) old → (s : ℕ) → t < s → s < n → solved_at old n s (at equations s) ≡ Some (at old s)
      above_solved all s l m = all.each s m (above_here s l)

      sized : (s : ℕ) (e sum : Equation) → put_in old (suc s) (length old - suc s) e ≡ Some sum → put_in old (suc s) (n - suc s) e ≡ Some sum
      sized s e sum h = subst (λ m. put_in old (suc s) (m - suc s) e ≡ Some sum) count h

      -- ---- it is solved

      module _ (new : List Equation) (all : AllSolved (suc i) old) (own : solved_at old (length old) t (at equations t) ≡ Some (at new t))
          (same : (u : ℕ) → u ≢ t → at new u ≡ at old u) (outside : (u : ℕ) → is_among u states ≡ false → at new u ≡ at first u) where
        each_by : (s : ℕ) → s < n → NotBefore i states s → (s < t) ⊎ (t ≤ s) → (s ≡ t) ⊎ (s ≢ t) → solved_at new n s (at equations s) ≡ Some (at new s)
        each_by s l o (inl a) h = subst (λ m. solved_at new m s (at equations s) ≡ Some (at new s)) len (stay new outside s (omega (arith, l, len)) (other_below s o a))
        each_by s l o (inr a) (inl e) =
            subst (λ j. solved_at new n j (at equations j) ≡ Some (at new j)) (sym e)
            (solved-agree new old n t (at equations t) small (λ j u v. same j (λ k. omega (arith, k, u))) ∙ subst (λ m. solved_at old m t (at equations t) ≡ Some (at new t)) count own)
        each_by s l o (inr a) (inr h) =
            solved-agree new old n s (at equations s) l (λ j u v. same j (λ k. omega (arith, k, u, a)))
            ∙ all.each s l (not_here s o h) ∙ ap Some (sym (same s h))

        less_or : (s : ℕ) → (s < t) ⊎ (t ≤ s)
        less_or s = elim (le_or t s) as (λ _. (s < t) ⊎ (t ≤ s)) [ inl a ↦ inr a | inr a ↦ inl a ]

        one_solved : AllSolved i new
        one_solved = record { each = λ s l o. each_by s l o (less_or s) (one_or_two t s) }

      -- ---- a term is past width

      module _ (all : AllSolved (suc i) old) where
        rest_by : (f : ℕ) → t ≤ f → f < n → (sum : Equation) → put_in old (suc f) (n - suc f) (at equations t) ≡ Some sum → (u : ℕ) → u ≤ f → NotBefore i states u
            → (u ≡ t) ⊎ (u ≢ t) → (r : Equation) × (put_in old (suc f) (n - suc f) (at equations u) ≡ Some r)
        rest_by f l m sum is u a o (inl e) = (sum, ap (λ j. put_in old (suc f) (n - suc f) (at equations j)) e ∙ is)
        rest_by f l m sum is u a o (inr h) = so_far old u f a m (all.each u (omega (arith, a, m)) (not_here u o h))

        wide_above : (s : ℕ) → StopsAbove old t (at equations t) s → WideAt i old s
        wide_above s h =
            let l : s < n = let b = h.below in omega (arith, b, count) in
            let a = h.above in
            record {
              within = l;
              least = λ k m. let b = before_here k m in omega (arith, b, a);
              above = λ u m v. above_solved all u (omega (arith, m, a)) v;
              below = λ u m o. rest_by s (omega (arith, a)) l h.sum (sized s (at equations t) h.sum h.put) u m o (one_or_two t u);
              stops = inr (above_solved all s a l, t, t, a, h);
            }

        wide_here : StopsAt old t (at equations t) → WideAt i old t
        wide_here h = record {
          within = small;
          least = λ k m. let b = before_here k m in omega (arith, b);
          above = λ u m v. above_solved all u m v;
          below = λ u m o. rest_by t (omega arith) small h.sum (sized t (at equations t) h.sum h.put) u m o (one_or_two t u);
          stops = inl h;
        }

      -- ---- a term was past width already

      module _ (f : ℕ) (wide : WideAt (suc i) old f) where
        no_more : t ≤ f
        no_more = let a = wide.least i (omega arith) in omega (arith, a, here)

        again_by : (s : ℕ) → f ≤ s → s < n → (sum : Equation) → put_in old (suc s) (n - suc s) (at equations t) ≡ Some sum → (u : ℕ) → u ≤ s → NotBefore i states u
            → (u ≡ t) ⊎ (u ≢ t) → (u ≤ f) ⊎ (f < u) → (r : Equation) × (put_in old (suc s) (n - suc s) (at equations u) ≡ Some r)
        again_by s l m sum is u a o (inl e) b = (sum, ap (λ j. put_in old (suc s) (n - suc s) (at equations j)) e ∙ is)
        again_by s l m sum is u a o (inr h) (inl b) =
            let p = wide.below u b (not_here u o h) in
            put_part old (suc f) (n - suc f) (suc s) (n - suc s) (at equations u) p.0 (omega (arith, l)) (omega (arith, l, m)) p.1
        again_by s l m sum is u a o (inr h) (inr b) = so_far old u s a m (wide.above u b (omega (arith, a, m)))

        at_most : (u : ℕ) → (u ≤ f) ⊎ (f < u)
        at_most u = le_or u f

        wide_again : (s : ℕ) → StopsAbove old f (at equations t) s → WideAt i old s
        wide_again s h =
            let l : s < n = let b = h.below in omega (arith, b, count) in
            let a = h.above in
            let z = no_more in
            record {
              within = l;
              least = λ k m. let b = before_here k m in omega (arith, b, a, z);
              above = λ u m v. wide.above u (omega (arith, m, a)) v;
              below = λ u m o. again_by s (omega (arith, a)) l h.sum (sized s (at equations t) h.sum h.put) u m o (one_or_two t u) (at_most u);
              stops = inr (wide.above s a l, f, t, omega (arith, a, z), h);
            }

        still_wide : (sum : Equation) → put_in old (suc f) (length old - suc f) (at equations t) ≡ Some sum → WideAt i old f
        still_wide sum is = record {
          within = wide.within;
          least = λ k m. wide.least k (omega (arith, m));
          above = wide.above;
          below = λ u m o. again_by f (omega arith) wide.within sum (sized f (at equations t) sum is) u m o (one_or_two t u) (at_most u);
          stops = wide.stops;
        }

      same_list : (new : List Equation) (now : Option ℕ) → new ≡ old → AreTried i old now → AreTried i new now
      same_list new now e h = subst (λ (es : List Equation). AreTried i es now) (sym e) h

      pub tried_next : (new : List Equation) (wide now : Option ℕ) → ((u : ℕ) → is_among u states ≡ false → at old u ≡ at first u)
          → AreTried (suc i) old wide → IsTried old new t (at equations t) wide now → AreTried i new now
      tried_next new None None outside all h = one_solved new all h.0 h.3 (λ u o. h.3 u (other-not_here u o) ∙ outside u o)
      tried_next new None (Some s) outside all h =
          same_list new (Some s) h.0 (elim h.1 as (λ _. WideAt i old s) [ inl a ↦ wide_above all s a | inr a ↦ subst (λ j. WideAt i old j) (sym a.0) (wide_here all a.1) ])
      tried_next new (Some f) None outside wide h = absurd h
      tried_next new (Some f) (Some s) outside wide h =
          same_list new (Some s) h.0 (elim h.1 as (λ _. WideAt i old s) [ inl a ↦ wide_again f wide s a | inr a ↦ subst (λ j. WideAt i old j) (sym a.0) (still_wide f wide a.1 a.2) ])

  module _ (len : length equations ≡ n) (solved : List Equation) (count : length solved ≡ n) where
    -- all are tried
    pub tried_solved : AreTried 0 solved None → LeadToSmaller solved → AreSolved equations solved
    tried_solved all down = record {
      count = count ∙ sym len;
      each = λ s l. subst (λ m. solved_at solved m s (at equations s) ≡ Some (at solved s)) (sym len) (all.each s (omega (arith, l, len)) (λ k m. absurd (omega arith)));
      down = λ s l. down s (omega (arith, l, len, count));
    }

    none_before : (s : ℕ) → NotBefore 0 states s
    none_before s k l = absurd (omega arith)

    sized_put : (s : ℕ) (e sum : Equation) → put_in solved (suc s) (length solved - suc s) e ≡ Some sum → put_in solved (suc s) (n - suc s) e ≡ Some sum
    sized_put s e sum h = subst (λ m. put_in solved (suc s) (m - suc s) e ≡ Some sum) count h

    pub tried_wide : (f : ℕ) → AreTried 0 solved (Some f) → solution n equations ≡ Err f
    tried_wide f wide = elim wide.stops as (λ _. solution n equations ≡ Err f) [
      | inl a ↦ solution-stops_dividing solved equations n len f wide.within wide.above (λ t l. wide.below t l (none_before t)) a.sum (sized_put f (at equations f) a.sum a.put) a.none
      | inr a ↦
          solution-stops_putting solved equations n len f wide.within wide.above (λ t l. wide.below t l (none_before t)) a.0 a.2 a.3 (StopsAbove.sum a.4)
          (sized_put f (at equations a.2) (StopsAbove.sum a.4) (StopsAbove.put a.4)) (StopsAbove.none a.4)
    ]
