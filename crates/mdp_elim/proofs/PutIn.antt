-- Equations that are put into another one, state after state.
use Rattle.std.proofs.Common.{◌≡◌, ℕ, zero, suc, ◌+◌, ◌-◌, ◌<◌, ◌≤◌, List, [], ◌∷◌, Option, Some, None, refl, sym, ◌∙◌, ap, subst, arith}
use Rattle.mdp_math.specs.Written.{◌>>=◌}
use Rattle.mdp_spec.specs.Mdp.{Entry}
use Rattle.mdp_elim.specs.{Equation.{Equation}, Entries.{Between}, Elimination.{divided, substituted}, Predecessors.{at}, Kept.{put_in, solved_at}}
use Rattle.mdp_elim.proofs.{RowSums.{some_part, between-without}, Merge.{no_last}, Step.{divided-is, substituted-is}, Putting.{no_change}}

-- ---- steps that may fail

pub bind_then : {A B C : Type 0} (o : Option A) (f : A → Option B) (g : B → Option C) → ((o >>= f) >>= g) ≡ (o >>= (λ x. f x >>= g))
bind_then None f g = refl
bind_then (Some x) f g = refl

pub bind_same : {A B : Type 0} (o : Option A) (f g : A → Option B) → ((x : A) → f x ≡ g x) → (o >>= f) ≡ (o >>= g)
bind_same None f g h = refl
bind_same (Some x) f g h = h x

bind_some : {A : Type 0} (o : Option A) → (o >>= Some) ≡ o
bind_some None = refl
bind_some (Some x) = refl

-- ---- the targets of a row

pub between-wide : (low high more : ℕ) (row : List Entry) → high ≤ more → Between low high row → Between low more row
between-wide low high more [] l h = tt
between-wide low high more (x ∷ row) l h = (h.0, omega (arith, h.1, l), between-wide (suc x.target) high more row l h.2)

-- ---- one equation put in

-- an equation whose entries all lead to smaller states stays
pub stays : (s : ℕ) (pivot e : Equation) → Between 0 s e.entries → substituted s pivot e ≡ Some e
stays s pivot e h = let k = no_last 0 s e.entries h in no_change s pivot e k.0 k.1

pub substituted-down : (s : ℕ) (pivot e new : Equation) → Between 0 s pivot.entries → Between 0 (suc s) e.entries → substituted s pivot e ≡ Some new → Between 0 s new.entries
substituted-down s pivot e new down h k = (substituted-is s pivot e new k).between s down (between-without 0 s e.entries h)

pub divided-down : (s : ℕ) (e new : Equation) → Between 0 (suc s) e.entries → divided s e ≡ Some new → Between 0 s new.entries
divided-down s e new h k = (divided-is s e new k).between s (between-without 0 s e.entries h)

-- ---- several equations put in

module _ (solved : List Equation) where
  -- those of the greater states, and then those of the smaller ones
  pub put_split : (low n h k m : ℕ) (e : Equation) → m ≡ k + n → h ≡ low + n → put_in solved low m e ≡ (put_in solved h k e >>= put_in solved low n)
  put_split low n h zero m e p q = let z : m ≡ n = omega arith in ap (λ j. put_in solved low j e) z
  put_split low n h (suc k) zero e p q = absurd (omega arith)
  put_split low n h (suc k) (suc m) e p q =
      let z : low + m ≡ h + k = omega arith in
      ap (λ j. substituted j (at solved j) e >>= put_in solved low m) z
      ∙ bind_same (substituted (h + k) (at solved (h + k)) e) (put_in solved low m) (λ x. put_in solved h k x >>= put_in solved low n) (λ x. put_split low n h k m x (omega arith) q)
      ∙ sym (bind_then (substituted (h + k) (at solved (h + k)) e) (put_in solved h k) (put_in solved low n))

  -- the last one of them
  pub put_last : (low n : ℕ) (e : Equation) → put_in solved low (suc n) e ≡ (put_in solved (suc low) n e >>= substituted low (at solved low))
  put_last low n e =
      let z : low + 0 ≡ low = omega arith in
      put_split low 1 (suc low) n (suc n) e (omega arith) (omega arith)
      ∙ bind_same (put_in solved (suc low) n e) (put_in solved low 1) (substituted low (at solved low))
      (λ x. ap (λ j. substituted j (at solved j) x >>= put_in solved low 0) z ∙ bind_some (substituted low (at solved low) x))

  -- an equation that leads to states below low alone
  pub put_none : (low n : ℕ) (e : Equation) → Between 0 low e.entries → put_in solved low n e ≡ Some e
  put_none low zero e h = refl
  put_none low (suc n) e h =
      ap (λ (o : Option Equation). o >>= put_in solved low n) (stays (low + n) (at solved (low + n)) e (between-wide 0 low (low + n) e.entries (omega arith) h))
      ∙ put_none low n e h

  -- where all can be put in, the first ones can
  pub put_part : (low n h k : ℕ) (e r : Equation) → low ≤ h → h + k ≡ low + n → put_in solved low n e ≡ Some r → (sum : Equation) × (put_in solved h k e ≡ Some sum)
  put_part low n h k e r l q is =
      let a = some_part (put_in solved h k e) (put_in solved low (h - low)) r (sym (put_split low (h - low) h k n e (omega arith) (omega arith)) ∙ is) in
      (a.0, a.1)

  pub put_down : (low n : ℕ) (e r : Equation) → ((j : ℕ) → low ≤ j → j < low + n → Between 0 j (at solved j).entries)
      → Between 0 (low + n) e.entries → put_in solved low n e ≡ Some r → Between 0 low r.entries
  put_down low zero e r down h is =
      let z : low + 0 ≡ low = omega arith in
      subst (λ (x : Equation). Between 0 low x.entries) (let k : e ≡ r = cc in k) (subst (λ j. Between 0 j e.entries) z h)
  put_down low (suc n) e r down h is =
      let a = some_part (substituted (low + n) (at solved (low + n)) e) (put_in solved low n) r is in
      let z : low + suc n ≡ suc (low + n) = omega arith in
      put_down low n a.0 r (λ j l m. down j l (omega (arith, m)))
      (substituted-down (low + n) (at solved (low + n)) e a.0 (down (low + n) (omega arith) (omega arith)) (subst (λ j. Between 0 j e.entries) z h) a.1) a.2

  -- the equations of the states from h on are put in; then that of state s, which is the greatest one that is left
  module _ (h s n : ℕ) (e now : Equation) (left : s < h) (within : h ≤ n) (put : put_in solved h (n - h) e ≡ Some now) where
    pub put_to : Between 0 (suc s) now.entries → put_in solved (suc s) (n - suc s) e ≡ Some now
    put_to below =
        put_split (suc s) (h - suc s) h (n - h) (n - suc s) e (omega arith) (omega arith)
        ∙ ap (λ (o : Option Equation). o >>= put_in solved (suc s) (h - suc s)) put ∙ put_none (suc s) (h - suc s) now below

    pub put_more : (new : Equation) → Between 0 (suc s) now.entries → substituted s (at solved s) now ≡ Some new → put_in solved s (n - s) e ≡ Some new
    put_more new below is =
        let z : n - s ≡ suc (n - suc s) = omega arith in
        ap (λ k. put_in solved s k e) z ∙ put_last s (n - suc s) e ∙ ap (λ (o : Option Equation). o >>= substituted s (at solved s)) (put_to below) ∙ is

  -- ---- the equation of a state below m, with that of m put into it

  pub solved-next : (m t : ℕ) (e : Equation) → t < m → solved_at solved (suc m) t e ≡ (substituted m (at solved m) e >>= solved_at solved m t)
  solved-next m t e l =
      let z : suc m - suc t ≡ suc (m - suc t) = omega arith in
      let y : suc t + (m - suc t) ≡ m = omega arith in
      ap (λ k. put_in solved (suc t) k e >>= divided t) z
      ∙ ap (λ j. (substituted j (at solved j) e >>= put_in solved (suc t) (m - suc t)) >>= divided t) y
      ∙ bind_then (substituted m (at solved m) e) (put_in solved (suc t) (m - suc t)) (divided t)

  pub solved-last : (m : ℕ) (e : Equation) → solved_at solved (suc m) m e ≡ divided m e
  solved-last m e = let z : suc m - suc m ≡ 0 = omega arith in ap (λ k. put_in solved (suc m) k e >>= divided m) z

-- ---- what they depend on

pub put_agree : (a b : List Equation) (low n : ℕ) (e : Equation) → ((j : ℕ) → low ≤ j → j < low + n → at a j ≡ at b j) → put_in a low n e ≡ put_in b low n e
put_agree a b low zero e h = refl
put_agree a b low (suc n) e h =
    ap (λ (p : Equation). substituted (low + n) p e >>= put_in a low n) (h (low + n) (omega arith) (omega arith))
    ∙ bind_same (substituted (low + n) (at b (low + n)) e) (put_in a low n) (put_in b low n) (λ x. put_agree a b low n x (λ j l m. h j l (omega (arith, m))))

pub solved-agree : (a b : List Equation) (n s : ℕ) (e : Equation) → s < n → ((j : ℕ) → s < j → j < n → at a j ≡ at b j) → solved_at a n s e ≡ solved_at b n s e
solved-agree a b n s e l h = ap (λ (o : Option Equation). o >>= divided s) (put_agree a b (suc s) (n - suc s) e (λ j k m. h j (omega (arith, k)) (omega (arith, m, l))))
