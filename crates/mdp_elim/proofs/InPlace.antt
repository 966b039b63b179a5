-- An addition to an entry that a row has is made in place.
use Rattle.std.proofs.Common.{◌≡◌, ℕ, zero, suc, ◌<◌, ◌≤◌, Bool, true, false, List, [], ◌∷◌, length, get_or}
use Rattle.std.proofs.{Common.{refl, sym, ◌∙◌, ap, subst, arith, ◌==◌, eqb, nat_le, Option, Some, None, if◌then◌else◌, pos}, Math.ListN.{set}}
use Rattle.std.proofs.{lemmas.Bool.{le-leb}, lemmas.Bool.Decides.{nat_tests}}
use Rattle.mdp_math.specs.{Rational.{ℚ, of_int}, Written.{written_add, written_mul, ◌>>=◌}}
use Rattle.mdp_spec.specs.Mdp.{Entry}
use Rattle.mdp_elim.specs.Entries.{Between, LeadsAt, plus_entry, plus_row}
use Rattle.mdp_elim.proofs.{Merge.{entry, not_le}, RowSums.{between-lower, between-plus_entry}}

-- targets are no less than low
pub at_least : (low high i : ℕ) (row : List Entry) (d : Entry) → Between low high row → i < length row → low ≤ Entry.target (get_or row i d)
at_least low high i [] d h l = absurd (omega arith)
at_least low high zero (y ∷ row) d h l = h.0
at_least low high (suc i) (y ∷ row) d h l = let k = at_least (suc y.target) high i row d h.2 (omega arith) in omega (arith, h.0, k)

at_most : (low high i : ℕ) (row : List Entry) (d : Entry) → Between low high row → i < length row → Entry.target (get_or row i d) < high
at_most low high i [] d h l = absurd (omega arith)
at_most low high zero (y ∷ row) d h l = h.1
at_most low high (suc i) (y ∷ row) d h l = at_most (suc y.target) high i row d h.2 (omega arith)

behind_first : (y : Entry) (o : Option ℚ) (f : ℚ → List Entry) → ((o >>= (λ sum. Some (f sum))) >>= (λ rest. Some (y ∷ rest))) ≡ (o >>= (λ sum. Some (y ∷ f sum)))
behind_first y None f = refl
behind_first y (Some q) f = refl

first_here : (v : ℕ) (x : ℚ) (y : Entry) (row : List Entry) (b c : Bool) → b ≡ true → c ≡ true
    → (if b
    then (if c then (written_add y.prob x >>= (λ sum. Some (entry v sum ∷ row))) else (written_add (of_int (pos 0)) x >>= (λ sum. Some (entry v sum ∷ y ∷ row))))
    else (plus_entry v x row >>= (λ rest. Some (y ∷ rest)))) ≡ (written_add y.prob x >>= (λ sum. Some (entry v sum ∷ row)))
first_here v x y row true true d e = refl
first_here v x y row true false d e = cc
first_here v x y row false c d e = cc

-- the sum takes the entry's place
pub plus_entry-at : (low high v : ℕ) (x : ℚ) (i : ℕ) (row : List Entry) (d : Entry) → Between low high row → i < length row → Entry.target (get_or row i d) ≡ v
    → plus_entry v x row ≡ (written_add (Entry.prob (get_or row i d)) x >>= (λ sum. Some (set row i (entry v sum))))
plus_entry-at low high v x i [] d h l e = absurd (omega arith)
plus_entry-at low high v x zero (y ∷ row) d h l e = first_here v x y row (nat_le v y.target) (eqb y.target v) (le-leb v y.target (omega (arith, e))) (grind arith)
plus_entry-at low high v x (suc i) (y ∷ row) d h l e =
    let k = at_least (suc y.target) high i row d h.2 (omega arith) in
    ap (λ (b : Bool). if b
    then (if eqb y.target v then (written_add y.prob x >>= (λ sum. Some (entry v sum ∷ row))) else (written_add (of_int (pos 0)) x >>= (λ sum. Some (entry v sum ∷ y ∷ row))))
    else (plus_entry v x row >>= (λ rest. Some (y ∷ rest)))) (not_le v y.target (omega (arith, k, e)))
    ∙ ap (λ o. o >>= (λ rest. Some (y ∷ rest))) (plus_entry-at (suc y.target) high v x i row d h.2 (omega arith) e)
    ∙ behind_first y (written_add (Entry.prob (get_or row i d)) x) (λ sum. set row i (entry v sum))

-- one entry of the other row, to a target that the row has at i
module _ (w : ℚ) (x : Entry) (source left row : List Entry) (all : Option (List Entry)) (is : left ≡ x ∷ source)
    (so_far : all ≡ plus_row w left row) (high : ℕ) (between : Between 0 high row) (i t : ℕ) (target : t ≡ x.target) (known : LeadsAt t row i)
    (p more : ℚ) (prob : p ≡ x.prob) (term : Some more ≡ written_mul w p) (d : Entry) (old : ℚ) (factor : old ≡ Entry.prob (get_or row i d)) where
  abbrev put : ℚ → List Entry
  put sum = set row i (entry x.target sum)

  there : Entry.target (get_or row i d) ≡ x.target
  there = known.1 d ∙ target

  one_sum : plus_entry x.target more row ≡ (written_add old more >>= (λ sum. Some (put sum)))
  one_sum = plus_entry-at 0 high x.target more i row d between known.0 there ∙ ap (λ (q : ℚ). written_add q more >>= (λ sum. Some (put sum))) (sym factor)

  with_sum : all ≡ ((written_add old more >>= (λ sum. Some (put sum))) >>= plus_row w source)
  with_sum =
      so_far ∙ ap (λ (xs : List Entry). plus_row w xs row) is
      ∙ ap (λ (o : Option ℚ). o >>= (λ term. plus_entry x.target term row >>= plus_row w source)) (sym (term ∙ ap (written_mul w) prob))
      ∙ ap (λ (o : Option (List Entry)). o >>= plus_row w source) one_sum

  pub added-no_sum : None ≡ written_add old more → all ≡ None
  added-no_sum h = with_sum ∙ ap (λ (o : Option ℚ). (o >>= (λ sum. Some (put sum))) >>= plus_row w source) (sym h)

  module _ (sum : ℚ) (h : Some sum ≡ written_add old more) (y : Entry) (u : ℕ) (v : u ≡ x.target) (e : y ≡ entry u sum) where
    entry_is : entry x.target sum ≡ y
    entry_is = sym (e ∙ ap (λ n. entry n sum) v)

    pub added-next : all ≡ plus_row w source (set row i y)
    added-next = with_sum ∙ ap (λ (o : Option ℚ). (o >>= (λ sum. Some (put sum))) >>= plus_row w source) (sym h) ∙ ap (λ (z : Entry). plus_row w source (set row i z)) entry_is

    pub added-between : Between 0 high (set row i y)
    added-between =
        let l : x.target < high = subst (λ n. n < high) there (at_most 0 high i row d between known.0) in
        subst (λ (z : Entry). Between 0 high (set row i z)) entry_is
        (between-plus_entry 0 high x.target more row (put sum) (omega arith) l between (one_sum ∙ ap (λ (o : Option ℚ). o >>= (λ sum. Some (put sum))) (sym h)))

-- behind the first one
pub between-rest : (high : ℕ) (x : Entry) (rest left : List Entry) → left ≡ x ∷ rest → Between 0 high left → Between 0 high rest
between-rest high x rest left is h = let k = rw is at h in between-lower (suc x.target) 0 high rest (omega arith) k.2

-- nothing is left
pub none-left : (left : List Entry) (b : Bool) → b ≡ (length left == 0) → b ≡ true → left ≡ []
none-left [] b is none = refl
none-left (x ∷ left) b is none = let e : length (x ∷ left) ≡ 0 = grind (arith, nat_tests) in absurd (omega arith)
