-- The system after one elimination: what its rows weigh, and where its targets lie.
use Rattle.std.proofs.Common.{◌≡◌, ℕ, zero, suc, ◌<◌, List, [], ◌∷◌, length, take, get_or, Option, Some, None, refl, sym, ◌∙◌, ap, subst, arith, pos}
use Rattle.std.proofs.lemmas.List.{length-take-le, get_or-take}
use Rattle.mdp_math.specs.{Rational.{ℚ, ◌+ℚ◌, ◌*ℚ◌, ◌-ℚ◌, neg_ℚ, inv_ℚ}, Written.{written_add, written_mul, ◌>>=◌}}
use Rattle.mdp_math.proofs.{Ring.{◌⊕◌, ◌⊗◌, ⊖, lit, ring}, Linear.{combine, equal}, Laws.{rat_ring}, Order.{0ℚ, 1ℚ, mul-inv, ne-zero_of_pos}, Whole.{one-pos}}
use Rattle.mdp_math.proofs.Written.{written_add-some, written_mul-some}
use Rattle.mdp_num.specs.Written.{written_sub, written_div}
use Rattle.mdp_elim.specs.{Equation.{Equation, no_equation}, Entries.{Between, entry_to, without, each, divided_entry, plus_row}, Predecessors.{at}}
use Rattle.mdp_elim.specs.Elimination.{divided, divided_rest, divided_where, rest_of, substituted, substituted_where, plus_equation, eliminated, Eliminated}
use Rattle.mdp_elim.proofs.RowSums.{over, or_zero, over-plus_row, over-divided, some_part, between-plus_row, between-divided}

-- the factor at s in an equation
abbrev pub factor : ℕ → Equation → ℚ
factor s e = or_zero (entry_to s e.entries)

-- 1 / (1 - 0)
inv-one : inv_ℚ (1ℚ -ℚ 0ℚ) ≡ 1ℚ
inv-one =
    let e : 1ℚ -ℚ 0ℚ ≡ 1ℚ = ring rat_ring 0 (lit (pos 1) ⊕ ⊖ (lit (pos 0))) (lit (pos 1)) refl in
    ap inv_ℚ e ∙ combine 1 (λ i. i) (λ i. lit (pos 1)) (λ i. equal (lit (pos 1)) (lit (pos 1) ⊗ i) (lit (pos 1)) ∷ []) refl (inv_ℚ 1ℚ) (mul-inv 1ℚ (ne-zero_of_pos 1ℚ one-pos))

-- what an equation says, divided by i
pub record IsDivided (s : ℕ) (i : ℚ) (e new : Equation) : Type 0 where
  pub entries : (f : ℕ → ℚ) → over f new.entries ≡ over f (without s e.entries) *ℚ i
  pub first : new.first ≡ e.first *ℚ i
  pub second : new.second ≡ e.second *ℚ i
  pub between : (high : ℕ) → Between 0 high (without s e.entries) → Between 0 high new.entries

some_same : {A : Type 0} (x y : A) → Some x ≡ Some y → x ≡ y
some_same x y h = cc

divided_is : (s : ℕ) (p : ℚ) (e new : Equation) → divided_rest p (rest_of s e) ≡ Some new → IsDivided s (inv_ℚ (1ℚ -ℚ p)) e new
unfolding divided_rest
divided_is s p e new h =
    let a = some_part (written_sub 1ℚ p) _ new h in
    let b = some_part (each (divided_entry a.0) (without s e.entries)) _ new a.2 in
    let c = some_part (written_div e.first a.0) _ new b.2 in
    let d = some_part (written_div e.second a.0) _ new c.2 in
    let u : inv_ℚ a.0 ≡ inv_ℚ (1ℚ -ℚ p) = ap inv_ℚ (written_add-some 1ℚ (neg_ℚ p) a.0 (sym a.1)) in
    let same = some_same _ _ d.2 in
    record {
      entries = λ f. ap (λ (x : Equation). over f x.entries) (sym same) ∙ over-divided f a.0 (without s e.entries) b.0 b.1 ∙ ap (λ (i : ℚ). over f (without s e.entries) *ℚ i) u;
      first = ap Equation.first (sym same) ∙ written_mul-some e.first (inv_ℚ a.0) c.0 (sym c.1) ∙ ap (λ (i : ℚ). e.first *ℚ i) u;
      second = ap Equation.second (sym same) ∙ written_mul-some e.second (inv_ℚ a.0) d.0 (sym d.1) ∙ ap (λ (i : ℚ). e.second *ℚ i) u;
      between = λ high k. subst (λ (x : Equation). Between 0 high x.entries) same (between-divided 0 high a.0 (without s e.entries) b.0 k b.1);
    }

times_one : (x i : ℚ) → i ≡ 1ℚ → x ≡ x *ℚ i
times_one x i h = combine 2 (λ x i. x) (λ x i. x ⊗ i) (λ x i. equal x (lit (pos 1)) i ∷ []) refl x i (sym h)

divided_by : (s : ℕ) (o : Option ℚ) (e new : Equation) → divided_where o (rest_of s e) ≡ Some new → IsDivided s (inv_ℚ (1ℚ -ℚ or_zero o)) e new
divided_by s None e new h =
    let same = some_same _ _ h in
    record {
      entries = λ f. ap (λ (x : Equation). over f x.entries) (sym same) ∙ times_one _ _ inv-one;
      first = ap Equation.first (sym same) ∙ times_one _ _ inv-one;
      second = ap Equation.second (sym same) ∙ times_one _ _ inv-one;
      between = λ high k. subst (λ (x : Equation). Between 0 high x.entries) same k;
    }
divided_by s (Some p) e new h = divided_is s p e new h

pub divided-is : (s : ℕ) (e new : Equation) → divided s e ≡ Some new → IsDivided s (inv_ℚ (1ℚ -ℚ factor s e)) e new
divided-is s e new h = divided_by s (entry_to s e.entries) e new h

-- what an equation says with w times another in the place of the entry to s
pub record IsSubstituted (s : ℕ) (w : ℚ) (pivot e new : Equation) : Type 0 where
  pub entries : (f : ℕ → ℚ) → over f new.entries ≡ over f (without s e.entries) +ℚ w *ℚ over f pivot.entries
  pub first : new.first ≡ e.first +ℚ w *ℚ pivot.first
  pub second : new.second ≡ e.second +ℚ w *ℚ pivot.second
  pub between : (high : ℕ) → Between 0 high pivot.entries → Between 0 high (without s e.entries) → Between 0 high new.entries

written_plus : (a w b m n : ℚ) → written_mul w b ≡ Some m → written_add a m ≡ Some n → n ≡ a +ℚ w *ℚ b
written_plus a w b m n h k = written_add-some a m n (sym k) ∙ ap (λ (x : ℚ). a +ℚ x) (written_mul-some w b m (sym h))

plus_is : (s : ℕ) (w : ℚ) (pivot e new : Equation) → plus_equation w pivot (rest_of s e) ≡ Some new → IsSubstituted s w pivot e new
unfolding plus_equation
plus_is s w pivot e new h =
    let a = some_part (plus_row w pivot.entries (without s e.entries)) _ new h in
    let b = some_part (written_mul w pivot.first) _ new a.2 in
    let c = some_part (written_add e.first b.0) _ new b.2 in
    let d = some_part (written_mul w pivot.second) _ new c.2 in
    let g = some_part (written_add e.second d.0) _ new d.2 in
    let same = some_same _ _ g.2 in
    record {
      entries = λ f. ap (λ (x : Equation). over f x.entries) (sym same) ∙ over-plus_row f w pivot.entries (without s e.entries) a.0 a.1;
      first = ap Equation.first (sym same) ∙ written_plus e.first w pivot.first b.0 c.0 b.1 c.1;
      second = ap Equation.second (sym same) ∙ written_plus e.second w pivot.second d.0 g.0 d.1 g.1;
      between = λ high k l. subst (λ (x : Equation). Between 0 high x.entries) same (between-plus_row high 0 w pivot.entries (without s e.entries) a.0 k l a.1);
    }

no_times : (x y : ℚ) → x ≡ x +ℚ 0ℚ *ℚ y
no_times = ring rat_ring 2 (λ x y. x) (λ x y. x ⊕ lit (pos 0) ⊗ y) refl

substituted_by : (s : ℕ) (o : Option ℚ) (pivot e new : Equation) → substituted_where o pivot (rest_of s e) ≡ Some new → IsSubstituted s (or_zero o) pivot e new
substituted_by s None pivot e new h =
    let same = some_same _ _ h in
    record {
      entries = λ f. ap (λ (x : Equation). over f x.entries) (sym same) ∙ no_times _ (over f pivot.entries);
      first = ap Equation.first (sym same) ∙ no_times _ pivot.first;
      second = ap Equation.second (sym same) ∙ no_times _ pivot.second;
      between = λ high k l. subst (λ (x : Equation). Between 0 high x.entries) same l;
    }
substituted_by s (Some w) pivot e new h = plus_is s w pivot e new h

pub substituted-is : (s : ℕ) (pivot e new : Equation) → substituted s pivot e ≡ Some new → IsSubstituted s (factor s e) pivot e new
substituted-is s pivot e new h = substituted_by s (entry_to s e.entries) pivot e new h

-- ---- each equation below s

module _ {A : Type 0} (f : A → Option A) (d : A) where
  each_next : (x : A) (xs : List A) (t : ℕ) (y : A) (ys : List A) → t < suc (length xs) → f x ≡ Some y
      → ((k : ℕ) → k < length xs → f (get_or xs k d) ≡ Some (get_or ys k d)) → f (get_or (x ∷ xs) t d) ≡ Some (get_or (y ∷ ys) t d)
  each_next x xs zero y ys l p q = p
  each_next x xs (suc t) y ys l p q = q t (omega arith)

  pub each_at : (xs ys : List A) (t : ℕ) → each f xs ≡ Some ys → t < length xs → f (get_or xs t d) ≡ Some (get_or ys t d)
  each_at [] ys t h l = absurd (omega arith)
  each_at (x ∷ xs) ys t h l =
      let a = some_part (f x) (λ y. each f xs >>= (λ zs. Some (y ∷ zs))) ys h in
      let b = some_part (each f xs) (λ zs. Some (a.0 ∷ zs)) ys a.2 in
      subst (λ (zs : List A). f (get_or (x ∷ xs) t d) ≡ Some (get_or zs t d)) (some_same _ _ b.2) (each_next x xs t a.0 b.0 l a.1 (λ k m. each_at xs b.0 k b.1 m))

pub each_len : {A : Type 0} (f : A → Option A) (xs ys : List A) → each f xs ≡ Some ys → length ys ≡ length xs
each_len f [] ys h = ap length (sym (some_same _ _ h))
each_len f (x ∷ xs) ys h =
    let a = some_part (f x) _ ys h in
    let b = some_part (each f xs) _ ys a.2 in
    let n = each_len f xs b.0 b.1 in
    ap length (sym (some_same _ _ b.2)) ∙ ap suc n

pub record IsEliminated (s : ℕ) (equations : List Equation) (e : Eliminated) : Type 0 where
  pub pivot : IsDivided s (inv_ℚ (1ℚ -ℚ factor s (at equations s))) (at equations s) e.pivot
  pub rest : (t : ℕ) → t < s → IsSubstituted s (factor s (at equations t)) e.pivot (at equations t) (at e.rest t)
  pub count : length e.rest ≡ s

pub eliminated-is : (s : ℕ) (equations : List Equation) (e : Eliminated) → length equations ≡ suc s → eliminated s equations ≡ Some e → IsEliminated s equations e
unfolding eliminated
eliminated-is s equations e n h =
    let a = some_part (divided s (at equations s)) _ e h in
    let b = some_part (each (substituted s a.0) (take s equations)) _ e a.2 in
    let same = some_same _ _ b.2 in
    let k : length (take s equations) ≡ s = length-take-le s equations (omega arith) in
    subst (λ (x : Eliminated). IsEliminated s equations x) same
    (record {
      pivot = divided-is s (at equations s) a.0 a.1;
      rest = λ t l.
          subst (λ (x : Equation). IsSubstituted s (factor s x) a.0 x (at b.0 t)) (get_or-take s equations t no_equation l)
          (substituted-is s a.0 (at (take s equations) t) (at b.0 t) (each_at (substituted s a.0) no_equation (take s equations) b.0 t b.1 (omega (arith, k))));
      count = each_len (substituted s a.0) (take s equations) b.0 b.1 ∙ k;
    })
