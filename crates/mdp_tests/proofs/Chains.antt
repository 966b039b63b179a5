-- Three rows along which state 2 is reached: the others leave, as the ranks say.
use Rattle.std.proofs.Common.{◌≡◌, ◌∙◌, ℕ, zero, suc, ◌<◌, ◌&&◌, ◌⊎◌, inr, Bool, true, false, nat_lt, List, [], length, replicate, refl, sym, subst, arith}
use Rattle.std.proofs.{lemmas.List.{get_or-set_same, get_or-set_other}, lemmas.List.Folds.{Any-from_list_any}, lemmas.Bool.Decides.{nat_tests}}
use Rattle.std.specs.{Prelude.{slice_index, slice_index_or, slice_set}, List.{Any}}
use Rattle.mdp_math.proofs.Booleans.{and-right}
use Rattle.mdp_spec.specs.{Mdp.{Entry, Mdp, states_of, choices_at}, Row.{IsMdp, AreRows}, Tree.{IsPolicy}}
use Rattle.mdp_elim.specs.System.{is_active, Leaves}
use Rattle.mdp_graph.specs.{Sets.{marked}, Layers.{AreReached, AreLeastRanks}, Reach.{row_step}, Laws.{RowsFall}}

-- the marks of state 2 alone
abbrev pub last : List Bool
last = slice_set (replicate 3 false) 2 true

first-at : (s : ℕ) → s < 3 → slice_index (replicate 3 0) s ≡ 0
first-at zero l = refl
first-at (suc zero) l = refl
first-at (suc (suc zero)) l = refl
first-at (suc (suc (suc s))) l = absurd (omega (arith, l))

-- choice 0 at each of three states
pub first_choices : (m : Mdp) → IsMdp m → states_of m ≡ 3 → IsPolicy m (replicate 3 0)
first_choices m known three = record {
  one_each = sym three;
  in_range = λ s l. subst (λ (c : ℕ). c < length (choices_at m s)) (sym (first-at s (subst (λ (n : ℕ). s < n) three l))) (known.choice s l);
}

lt_of_test : (i k : ℕ) → nat_lt i k ≡ true → i < k
lt_of_test i k e = grind (arith, nat_tests)

any_more : (P Q : Entry → Type 0) (es : List Entry) → ((y : Entry) → P y → Q y) → Any P es → Any Q es
any_more P Q es f h = (h.0, h.1, h.2, h.3, f h.1 h.4)

-- an active state is marked, and isn't the last one
parts : (marks : List Bool) → length marks ≡ 3 → (s : ℕ) → s < 3 → is_active (slice_set marks 2 false) s ≡ true → (marked marks s ≡ true) × (marked last s ≡ false)
parts marks three zero l a = (sym (get_or-set_other marks 2 0 false false (λ e. cc)) ∙ a, refl)
parts marks three (suc zero) l a = (sym (get_or-set_other marks 2 1 false false (λ e. cc)) ∙ a, refl)
parts marks three (suc (suc zero)) l a = absurd (let e = sym (get_or-set_same marks 2 false false (omega (arith, three))) ∙ a in cc)
parts marks three (suc (suc (suc s))) l a = absurd (omega (arith, l))

leave : (rows : List (List Entry)) (marks : List Bool) (ranks : List ℕ) → AreRows rows → length rows ≡ 3
    → AreReached (row_step rows) (marked last) (length rows) marks → AreLeastRanks (row_step rows) (marked last) (length rows) marks ranks
    → RowsFall → Leaves rows (slice_set marks 2 false) ranks
leave rows marks ranks known three reached least falls = record {
  falls = λ s l a.
      let p = parts marks (reached.count ∙ three) s (subst (λ (n : ℕ). s < n) three l) a in
      let h = falls rows last marks ranks known reached least s l p.0 p.1 in
      any_more (λ y. (marked marks y.target && nat_lt (slice_index ranks y.target) (slice_index ranks s)) ≡ true)
      (λ y. (is_active (slice_set marks 2 false) y.target ≡ false) ⊎ (slice_index ranks y.target < slice_index ranks s)) (slice_index_or rows s [])
      (λ y e. inr (lt_of_test (slice_index ranks y.target) (slice_index ranks s) (and-right (marked marks y.target) (nat_lt (slice_index ranks y.target) (slice_index ranks s)) e)))
      (Any-from_list_any (λ (y : Entry). marked marks y.target && nat_lt (slice_index ranks y.target) (slice_index ranks s)) (slice_index_or rows s []) h);
}

-- the marked states but the last one leave
pub others_leave : (rows : List (List Entry)) (targets marks active : List Bool) (found ranks : List ℕ) → AreRows rows → length rows ≡ 3 → targets ≡ last
    → AreReached (row_step rows) (marked targets) (length rows) marks → AreLeastRanks (row_step rows) (marked targets) (length rows) marks found
    → RowsFall → active ≡ slice_set marks 2 false → ranks ≡ found → Leaves rows active ranks
others_leave rows targets marks active found ranks known three is reached least falls now same =
    subst (λ (a : List Bool). Leaves rows a ranks) (sym now)
    (subst (λ (r : List ℕ). Leaves rows (slice_set marks 2 false) r) (sym same)
    (leave rows marks found known three
    (subst (λ (ts : List Bool). AreReached (row_step rows) (marked ts) (length rows) marks) is reached)
    (subst (λ (ts : List Bool). AreLeastRanks (row_step rows) (marked ts) (length rows) marks found) is least)
    falls))
