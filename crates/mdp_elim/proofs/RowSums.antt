-- What a function of the targets weighs in a row after each step on the row.
use Rattle.std.proofs.Common.{◌≡◌, ℕ, suc, ◌<◌, ◌≤◌, Bool, true, false, List, [], ◌∷◌, Option, Some, None, refl, sym, ◌∙◌, ap, ap₂, subst, arith, eqb, nat_le, if◌then◌else◌, pos}
use Rattle.std.proofs.{lemmas.Bool.{leb-true, eqb-false}, lemmas.Bool.Decides.{leb_tells}, lemmas.List.Elements.{All-nil, All-cons}}
use Rattle.std.specs.List.{All}
use Rattle.mdp_math.proofs.{Numbers.{eqb-same}, Ring.{◌⊕◌, ◌⊗◌, lit, ring}, Linear.{combine, equal}, Laws.{rat_ring}, Order.{0ℚ}}
use Rattle.mdp_math.proofs.Written.{written_add-some, written_mul-some}
use Rattle.mdp_math.specs.{Rational.{ℚ, ◌+ℚ◌, ◌*ℚ◌, inv_ℚ}, Written.{written_add, written_mul, ◌>>=◌}, Kernel.{weigh}}
use Rattle.mdp_num.specs.Written.{written_div}
use Rattle.mdp_spec.specs.Mdp.{Entry}
use Rattle.mdp_elim.specs.Entries.{Between, entry_to, without, each, divided_entry, plus_entry, plus_row}

-- the sum of f over a row
abbrev pub over : (ℕ → ℚ) → List Entry → ℚ
over f row = weigh (λ x. x.target) (λ x. x.prob) f row

abbrev pub or_zero : Option ℚ → ℚ
or_zero None = 0ℚ
or_zero (Some q) = q

leb-false_lt : (a b : ℕ) → nat_le a b ≡ false → b < a
leb-false_lt a b h = grind (arith, leb_tells)

lt_of_le_ne : (a b : ℕ) → a ≤ b → (b ≡ a → ⊥) → suc a ≤ b
lt_of_le_ne a b l n = grind arith

-- ---- the parts of what was made

pub some_part : {A B : Type 0} (o : Option A) (g : A → Option B) (y : B) → (o >>= g) ≡ Some y → (x : A) × (o ≡ Some x) × (g x ≡ Some y)
some_part None g y h = cc
some_part (Some x) g y h = (x, refl, h)

some_same : {A : Type 0} (x y : A) → Some x ≡ Some y → x ≡ y
some_same x y h = cc

-- ---- the entry to s, and the others

split_here : (f : ℕ → ℚ) (s : ℕ) (y : Entry) (row : List Entry) (c : Bool) → eqb y.target s ≡ c
    → over f (y ∷ row) ≡ or_zero (if c then Some y.prob else None) *ℚ f s +ℚ over f (if c then row else y ∷ row)
split_here f s y row true e = let t : y.target ≡ s = grind arith in ap (λ n. y.prob *ℚ f n +ℚ over f row) t
split_here f s y row false e = ring rat_ring 2 (λ o k. o) (λ o k. lit (pos 0) ⊗ k ⊕ o) refl (over f (y ∷ row)) (f s)

split_by : (f : ℕ → ℚ) (s : ℕ) (y : Entry) (row : List Entry) (b : Bool) → over f row ≡ or_zero (entry_to s row) *ℚ f s +ℚ over f (without s row)
    → over f (y ∷ row) ≡ or_zero (if b then (if eqb y.target s then Some y.prob else None) else entry_to s row) *ℚ f s +ℚ over f (if b then (if eqb y.target s then row else y ∷ row) else y ∷ without s row)
split_by f s y row true h = split_here f s y row (eqb y.target s) refl
split_by f s y row false h =
    ap (λ (o : ℚ). y.prob *ℚ f y.target +ℚ o) h ∙ ring rat_ring 3 (λ a b c. a ⊕ (b ⊕ c))
    (λ a b c. b ⊕ (a ⊕ c)) refl (y.prob *ℚ f y.target) (or_zero (entry_to s row) *ℚ f s) (over f (without s row))

pub over-split : (f : ℕ → ℚ) (s : ℕ) (row : List Entry) → over f row ≡ or_zero (entry_to s row) *ℚ f s +ℚ over f (without s row)
over-split f s [] = ring rat_ring 1 (λ k. lit (pos 0)) (λ k. lit (pos 0) ⊗ k ⊕ lit (pos 0)) refl (f s)
over-split f s (y ∷ row) = split_by f s y row (nat_le s y.target) (over-split f s row)

-- ---- sums of entries

zero_sum : (x q : ℚ) → written_add 0ℚ x ≡ Some q → q ≡ x
zero_sum x q h = written_add-some 0ℚ x q (sym h) ∙ ring rat_ring 1 (λ x. lit (pos 0) ⊕ x) (λ x. x) refl x

abbrev entry : ℕ → ℚ → Entry
entry v q = record { target = v; prob = q }

-- an equation that a longer row keeps
keep_first : (a b c d : ℚ) → b ≡ c +ℚ d → a +ℚ b ≡ (a +ℚ c) +ℚ d
keep_first a b c d h = combine 4 (λ a b c d. a ⊕ b) (λ a b c d. (a ⊕ c) ⊕ d) (λ a b c d. equal (lit (pos 1)) b (c ⊕ d) ∷ []) refl a b c d h

plus_here : (f : ℕ → ℚ) (v : ℕ) (x : ℚ) (y : Entry) (row new : List Entry) (c : Bool) → eqb y.target v ≡ c
    → (if c then (written_add y.prob x >>= (λ sum. Some (entry v sum ∷ row))) else (written_add 0ℚ x >>= (λ sum. Some (entry v sum ∷ y ∷ row)))) ≡ Some new
    → over f new ≡ over f (y ∷ row) +ℚ x *ℚ f v
plus_here f v x y row new true e h =
    let p = some_part (written_add y.prob x) (λ sum. Some (entry v sum ∷ row)) new h in
    let t : v ≡ y.target = grind arith in
    ap (over f) (sym (some_same _ _ p.2))
    ∙ combine 6 (λ s q x a b o. s ⊗ b ⊕ o) (λ s q x a b o. (q ⊗ a ⊕ o) ⊕ x ⊗ b)
    (λ s q x a b o. equal b s (q ⊕ x) ∷ equal q b a ∷ []) refl p.0 y.prob x (f y.target) (f v) (over f row) (written_add-some y.prob x p.0 (sym p.1)) (ap f t)
plus_here f v x y row new false e h =
    let p = some_part (written_add 0ℚ x) (λ sum. Some (entry v sum ∷ y ∷ row)) new h in
    ap (over f) (sym (some_same _ _ p.2))
    ∙ combine 4 (λ s x b o. s ⊗ b ⊕ o) (λ s x b o. o ⊕ x ⊗ b) (λ s x b o. equal b s x ∷ []) refl p.0 x (f v) (over f (y ∷ row)) (zero_sum x p.0 p.1)

plus_by : (f : ℕ → ℚ) (v : ℕ) (x : ℚ) (y : Entry) (row new : List Entry) (b : Bool) → ((r : List Entry) → plus_entry v x row ≡ Some r → over f r ≡ over f row +ℚ x *ℚ f v)
    → (if b
    then (if eqb y.target v then (written_add y.prob x >>= (λ sum. Some (entry v sum ∷ row))) else (written_add 0ℚ x >>= (λ sum. Some (entry v sum ∷ y ∷ row))))
    else (plus_entry v x row >>= (λ rest. Some (y ∷ rest)))) ≡ Some new
    → over f new ≡ over f (y ∷ row) +ℚ x *ℚ f v
plus_by f v x y row new true ih h = plus_here f v x y row new (eqb y.target v) refl h
plus_by f v x y row new false ih h =
    let p = some_part (plus_entry v x row) (λ rest. Some (y ∷ rest)) new h in
    ap (over f) (sym (some_same _ _ p.2)) ∙ keep_first (y.prob *ℚ f y.target) (over f p.0) (over f row) (x *ℚ f v) (ih p.0 p.1)

pub over-plus_entry : (f : ℕ → ℚ) (v : ℕ) (x : ℚ) (row new : List Entry) → plus_entry v x row ≡ Some new → over f new ≡ over f row +ℚ x *ℚ f v
over-plus_entry f v x [] new h =
    let p = some_part (written_add 0ℚ x) (λ sum. Some (entry v sum ∷ [])) new h in
    ap (over f) (sym (some_same _ _ p.2))
    ∙ combine 3 (λ s x b. s ⊗ b ⊕ lit (pos 0)) (λ s x b. lit (pos 0) ⊕ x ⊗ b) (λ s x b. equal b s x ∷ []) refl p.0 x (f v) (zero_sum x p.0 p.1)
over-plus_entry f v x (y ∷ row) new h = plus_by f v x y row new (nat_le v y.target) (over-plus_entry f v x row) h

pub over-plus_row : (f : ℕ → ℚ) (w : ℚ) (source row new : List Entry) → plus_row w source row ≡ Some new → over f new ≡ over f row +ℚ w *ℚ over f source
over-plus_row f w [] row new h = ap (over f) (sym (some_same _ _ h)) ∙ ring rat_ring 2 (λ o w. o) (λ o w. o ⊕ w ⊗ lit (pos 0)) refl (over f row) w
over-plus_row f w (x ∷ source) row new h =
    let p = some_part (written_mul w x.prob) (λ term. plus_entry x.target term row >>= (λ sum. plus_row w source sum)) new h in
    let r = some_part (plus_entry x.target p.0 row) (λ sum. plus_row w source sum) new p.2 in
    combine 8 (λ n r t o w q b s. n) (λ n r t o w q b s. o ⊕ w ⊗ (q ⊗ b ⊕ s))
    (λ n r t o w q b s. equal (lit (pos 1)) n (r ⊕ w ⊗ s) ∷ equal (lit (pos 1)) r (o ⊕ t ⊗ b) ∷ equal b t (w ⊗ q) ∷ []) refl
    (over f new) (over f r.0) p.0 (over f row) w x.prob (f x.target) (over f source)
    (over-plus_row f w source r.0 new r.2) (over-plus_entry f x.target p.0 row r.0 r.1) (written_mul-some w x.prob p.0 (sym p.1))

pub over-divided : (f : ℕ → ℚ) (u : ℚ) (row new : List Entry) → each (divided_entry u) row ≡ Some new → over f new ≡ over f row *ℚ inv_ℚ u
over-divided f u [] new h = ap (over f) (sym (some_same _ _ h)) ∙ ring rat_ring 1 (λ i. lit (pos 0)) (λ i. lit (pos 0) ⊗ i) refl (inv_ℚ u)
over-divided f u (x ∷ row) new h =
    let p = some_part (divided_entry u x) (λ y. each (divided_entry u) row >>= (λ ys. Some (y ∷ ys))) new h in
    let q = some_part (written_div x.prob u) (λ quotient. Some (entry x.target quotient)) p.0 p.1 in
    let r = some_part (each (divided_entry u) row) (λ ys. Some (p.0 ∷ ys)) new p.2 in
    ap (over f) (sym (some_same _ _ r.2))
    ∙ ap (λ (y : Entry). y.prob *ℚ f y.target +ℚ over f r.0) (sym (some_same _ _ q.2))
    ∙ combine 6 (λ c a b i n o. c ⊗ b ⊕ n) (λ c a b i n o. (a ⊗ b ⊕ o) ⊗ i) (λ c a b i n o. equal b c (a ⊗ i) ∷ equal (lit (pos 1)) n (o ⊗ i) ∷ []) refl
    q.0 x.prob (f x.target) (inv_ℚ u) (over f r.0) (over f row) (written_mul-some x.prob (inv_ℚ u) q.0 (sym q.1)) (over-divided f u row r.0 r.1)

-- ---- targets that ascend, from low on and below high

pub between-lower : (low lower high : ℕ) (row : List Entry) → lower ≤ low → Between low high row → Between lower high row
between-lower low lower high [] l h = tt
between-lower low lower high (x ∷ row) l h = (omega (arith, h.0), h.1, h.2)

pub between-below : (low high : ℕ) (row : List Entry) → Between low high row → All (λ x. x.target < high) row
between-below low high [] h = All-nil (λ x. x.target < high)
between-below low high (x ∷ row) h = All-cons (λ x. x.target < high) x row h.1 (between-below (suc x.target) high row h.2)

without_between : (low s : ℕ) (y : Entry) (row : List Entry) (b : Bool) → nat_le s y.target ≡ b → Between low (suc s) (y ∷ row)
    → (Between (suc y.target) (suc s) row → Between (suc y.target) s (without s row)) → Between low s (if b then (if eqb y.target s then row else y ∷ row) else y ∷ without s row)
without_between low s y row true e h ih =
    let l = leb-true s y.target e in
    let t : eqb y.target s ≡ true = let q : y.target ≡ s = omega (arith, h.1) in subst (λ n. eqb y.target n ≡ true) q (eqb-same y.target) in
    subst (λ (c : Bool). Between low s (if c then row else y ∷ row)) (sym t) (none_left row h.2)
  where
    none_left : (r : List Entry) → Between (suc y.target) (suc s) r → Between low s r
    none_left [] k = tt
    none_left (x ∷ r) k = absurd (omega (arith, leb-true s y.target e, k.0, k.1))
without_between low s y row false e h ih = (h.0, leb-false_lt s y.target e, ih h.2)

pub between-without : (low s : ℕ) (row : List Entry) → Between low (suc s) row → Between low s (without s row)
between-without low s [] h = tt
between-without low s (y ∷ row) h = without_between low s y row (nat_le s y.target) refl h (between-without (suc y.target) s row)

plus_between_by : (low high v : ℕ) (x : ℚ) (y : Entry) (row new : List Entry) (b : Bool) → nat_le v y.target ≡ b → low ≤ v → v < high → Between low high (y ∷ row)
    → ((r : List Entry) → suc y.target ≤ v → plus_entry v x row ≡ Some r → Between (suc y.target) high r)
    → (if b
    then (if eqb y.target v then (written_add y.prob x >>= (λ sum. Some (entry v sum ∷ row))) else (written_add 0ℚ x >>= (λ sum. Some (entry v sum ∷ y ∷ row))))
    else (plus_entry v x row >>= (λ rest. Some (y ∷ rest)))) ≡ Some new
    → Between low high new
plus_between_by low high v x y row new true e l g h ih p = plus_between_here (eqb y.target v) refl p
  where
    plus_between_here : (c : Bool) → eqb y.target v ≡ c → (if c then (written_add y.prob x >>= (λ sum. Some (entry v sum ∷ row))) else
        (written_add 0ℚ x >>= (λ sum. Some (entry v sum ∷ y ∷ row)))) ≡ Some new → Between low high new
    plus_between_here true f q =
        let k = some_part (written_add y.prob x) (λ sum. Some (entry v sum ∷ row)) new q in
        let t : y.target ≡ v = grind arith in
        subst (Between low high) (some_same _ _ k.2) (l, g, subst (λ n. Between (suc n) high row) t h.2)
    plus_between_here false f q =
        let k = some_part (written_add 0ℚ x) (λ sum. Some (entry v sum ∷ y ∷ row)) new q in
        let n = eqb-false y.target v f in
        let m = leb-true v y.target e in
        subst (Between low high) (some_same _ _ k.2) (l, g, (lt_of_le_ne v y.target m n, h.1, h.2))
plus_between_by low high v x y row new false e l g h ih p =
    let k = some_part (plus_entry v x row) (λ rest. Some (y ∷ rest)) new p in
    subst (Between low high) (some_same _ _ k.2) (h.0, h.1, ih k.0 (leb-false_lt v y.target e) k.1)

pub between-plus_entry : (low high v : ℕ) (x : ℚ) (row new : List Entry) → low ≤ v → v < high → Between low high row → plus_entry v x row ≡ Some new → Between low high new
between-plus_entry low high v x [] new l g h p =
    let k = some_part (written_add 0ℚ x) (λ sum. Some (entry v sum ∷ [])) new p in
    subst (Between low high) (some_same _ _ k.2) (l, g, tt)
between-plus_entry low high v x (y ∷ row) new l g h p = plus_between_by low high v x y row new (nat_le v y.target) refl l g h (λ r m q. between-plus_entry (suc y.target) high v x row r m g h.2 q) p

pub between-plus_row : (high low : ℕ) (w : ℚ) (source row new : List Entry) → Between low high source → Between 0 high row → plus_row w source row ≡ Some new → Between 0 high new
between-plus_row high low w [] row new s h p = subst (Between 0 high) (some_same _ _ p) h
between-plus_row high low w (x ∷ source) row new s h p =
    let k = some_part (written_mul w x.prob) (λ term. plus_entry x.target term row >>= (λ sum. plus_row w source sum)) new p in
    let r = some_part (plus_entry x.target k.0 row) (λ sum. plus_row w source sum) new k.2 in
    between-plus_row high (suc x.target) w source r.0 new s.2 (between-plus_entry 0 high x.target k.0 row r.0 (omega arith) s.1 h r.1) r.2

pub between-divided : (low high : ℕ) (u : ℚ) (row new : List Entry) → Between low high row → each (divided_entry u) row ≡ Some new → Between low high new
between-divided low high u [] new h p = subst (Between low high) (some_same _ _ p) h
between-divided low high u (x ∷ row) new h p =
    let k = some_part (divided_entry u x) (λ y. each (divided_entry u) row >>= (λ ys. Some (y ∷ ys))) new p in
    let q = some_part (written_div x.prob u) (λ quotient. Some (entry x.target quotient)) k.0 k.1 in
    let r = some_part (each (divided_entry u) row) (λ ys. Some (k.0 ∷ ys)) new k.2 in
    let t : x.target ≡ Entry.target k.0 = ap Entry.target (some_same _ _ q.2) in
    subst (Between low high) (some_same _ _ r.2)
    (subst (λ n. low ≤ n) t h.0, subst (λ n. n < high) t h.1, subst (λ n. Between (suc n) high r.0) t (between-divided (suc x.target) high u row r.0 h.2 r.1))

-- functions that agree below high
pub over-same : (f g : ℕ → ℚ) (low high : ℕ) (row : List Entry) → Between low high row → ((v : ℕ) → v < high → f v ≡ g v) → over f row ≡ over g row
over-same f g low high [] h e = refl
over-same f g low high (x ∷ row) h e = ap₂ (λ (a b : ℚ). x.prob *ℚ a +ℚ b) (e x.target h.1) (over-same f g (suc x.target) high row h.2 e)
