-- Ways that are cut, one list of choices after the other.
use Rattle.std.proofs.Common.{◌≡◌, inl, inr, ℕ, zero, suc, ◌+◌, ◌<◌, Bool, true, false, ◌||◌, ◌&&◌, ◌==◌, cond, List}
use Rattle.std.proofs.Common.{[], ◌∷◌, ◌++◌, length, get_or, set, refl, sym, ap, ◌∙◌, arith, eq-eqb, Option, Some, None, is_some}
use Rattle.std.proofs.{lemmas.Bool.{ne_eqb, false≢true, cases_eq, cases_Bool}, lemmas.List.{length-set, get_or-set_other, length-append}}
use Rattle.std.proofs.{lemmas.List.Sums.{sum_by-set}, lemmas.Grind.{get_or-set_at}}
use Rattle.std.specs.List.{All}
use Rattle.mdp_rows.specs.{Preds.{is_among, pair}, declared.preds.Pred.{Pred}}
use Rattle.mdp_graph.specs.{declared.forest.Way.{Way}, Waiting.{is_one_of, leading_to}, Forest.{way_at, with_way, goes, uses, is_cut, IsCut, AreFrom}}
use Rattle.mdp_graph.proofs.{Among.{among-append}, Releasing.{one-of-append}, RowSets.{list_any-by}}
use Rattle.mdp_math.proofs.Booleans.{or-true, or-false, and-false, and-both}

none-cut : (only : Option ℕ) (s : ℕ) (o : Option Way) → is_cut [] only s o ≡ false
none-cut only s None = refl
none-cut only s (Some w) = refl

pub cut_none : (old : List (Option Way)) (list : List ℕ) (only : Option ℕ) → IsCut old list old list [] only
cut_none old list only = record {
  count = refl;
  at = λ s. sym (ap (λ b. cond {A = Option Way} b None (way_at old s)) (none-cut only s (way_at old s)));
  listed = λ s. sym (ap (λ b. is_among s list || b) (none-cut only s (way_at old s)) ∙ or-false (is_among s list));
  left = refl;
}

cut-twice : (x y g : Bool) (o : Option Way) (f : Option Way → Bool) → f None ≡ false → f o ≡ (y && g)
    → cond {A = Option Way} (f (cond (x && g) None o)) None (cond (x && g) None o) ≡ cond ((x || y) && g) None o
cut-twice true y true o f n h = ap (λ b. cond {A = Option Way} b None None) n
cut-twice true y false o f n h = ap (λ b. cond {A = Option Way} b None o) (h ∙ and-false y)
cut-twice false y g o f n h = ap (λ b. cond {A = Option Way} b None o) h

listed-twice : (l x y g : Bool) (o : Option Way) (f : Option Way → Bool) → f None ≡ false → f o ≡ (y && g)
    → ((l || (x && g)) || f (cond (x && g) None o)) ≡ (l || ((x || y) && g))
listed-twice true x y g o f n h = refl
listed-twice false true y true o f n h = refl
listed-twice false true y false o f n h = h ∙ and-false y
listed-twice false false y g o f n h = h

at_both : (xs ys : List Pred) (only : Option ℕ) (s : ℕ) (o : Option Way)
    → cond {A = Option Way} (is_cut ys only s (cond (is_cut xs only s o) None o)) None (cond (is_cut xs only s o) None o) ≡ cond (is_cut (xs ++ ys) only s o) None o
at_both xs ys only s None = refl
at_both xs ys only s (Some w) =
    cut-twice (is_one_of xs s w.choice) (is_one_of ys s w.choice) (goes only w.target) (Some w) (is_cut ys only s) refl refl
    ∙ ap (λ b. cond {A = Option Way} (b && goes only w.target) None (Some w)) (sym (one-of-append xs ys s w.choice))

listed_both : (xs ys : List Pred) (only : Option ℕ) (s : ℕ) (l : Bool) (o : Option Way)
    → ((l || is_cut xs only s o) || is_cut ys only s (cond (is_cut xs only s o) None o)) ≡ (l || is_cut (xs ++ ys) only s o)
listed_both xs ys only s l None = or-false (l || false)
listed_both xs ys only s l (Some w) =
    listed-twice l (is_one_of xs s w.choice) (is_one_of ys s w.choice) (goes only w.target) (Some w) (is_cut ys only s) refl refl
    ∙ ap (λ b. l || (b && goes only w.target)) (sym (one-of-append xs ys s w.choice))

pub cut_more : (a b c : List (Option Way)) (al bl cl : List ℕ) (xs ys zs : List Pred) (only : Option ℕ) → IsCut a al b bl xs only → IsCut b bl c cl ys only
    → zs ≡ xs ++ ys → IsCut a al c cl zs only
cut_more a b c al bl cl xs ys zs only f g e = record {
  count = g.count ∙ f.count;
  at = λ s.
      g.at s ∙ ap (λ (o : Option Way). cond {A = Option Way} (is_cut ys only s o) None o) (f.at s) ∙ at_both xs ys only s (way_at a s)
      ∙ ap (λ (z : List Pred). cond {A = Option Way} (is_cut z only s (way_at a s)) None (way_at a s)) (sym e);
  listed = λ s.
      g.listed s ∙ ap (λ (o : Option Way). is_among s bl || is_cut ys only s o) (f.at s)
      ∙ ap (λ l. l || is_cut ys only s (cond (is_cut xs only s (way_at a s)) None (way_at a s))) (f.listed s)
      ∙ listed_both xs ys only s (is_among s al) (way_at a s) ∙ ap (λ (z : List Pred). is_among s al || is_cut z only s (way_at a s)) (sym e);
  left = g.left ∙ f.left;
}

and-three : (a b g : Bool) → (((a && b) || false) && g) ≡ (a && (b && g))
and-three true true g = refl
and-three true false g = refl
and-three false b g = refl

pub one-cut : (x c : ℕ) (only : Option ℕ) (s : ℕ) (o : Option Way) → is_cut (pair x c ∷ []) only s o ≡ ((x == s) && uses o c only)
one-cut x c only s None = sym (and-false (x == s))
one-cut x c only s (Some w) = and-three (x == s) (c == w.choice) (goes only w.target)

used-some : (o : Option Way) (c : ℕ) (only : Option ℕ) → uses o c only ≡ true → is_some o ≡ true
used-some None c only e = absurd (false≢true e)
used-some (Some w) c only e = refl

-- the way of x is cut
pub cut_one : (old new : List (Option Way)) (list more : List ℕ) (x c : ℕ) (only : Option ℕ) → x < length old → uses (way_at old x) c only ≡ true
    → new ≡ set old x None → more ≡ list ++ x ∷ [] → IsCut old list new more (pair x c ∷ []) only
cut_one old new list more x c only h used e added =
    let here : (s : ℕ) → s ≡ x → is_cut (pair x c ∷ []) only s (way_at old s) ≡ true = λ s same. one-cut x c only s (way_at old s)
    ∙ and-both (x == s) (uses (way_at old s) c only) (eq-eqb x s (sym same)) (ap (λ j. uses (way_at old j) c only) same ∙ used) in
    let there : (s : ℕ) → (s ≡ x → ⊥) → is_cut (pair x c ∷ []) only s (way_at old s) ≡ false = λ s other. one-cut x c only s (way_at old s)
    ∙ ap (λ b. b && uses (way_at old s) c only) (ne_eqb x s (λ q. other (sym q))) in
    record {
      count = ap length e ∙ length-set old x None;
      at = λ s. rw e (elim (cases_eq s x) [
        | inl same ↦ get_or-set_at old x s None None same h ∙ sym (ap (λ b. cond {A = Option Way} b None (way_at old s)) (here s same))
        | inr other ↦ get_or-set_other old x s None None other ∙ sym (ap (λ b. cond {A = Option Way} b None (way_at old s)) (there s other))
      ]);
      listed = λ s. ap (is_among s) added ∙ among-append s list (x ∷ []) ∙ ap (λ b. is_among s list || b) (elim (cases_eq s x) [
        | inl same ↦ or-false (x == s) ∙ eq-eqb x s (sym same) ∙ sym (here s same)
        | inr other ↦ or-false (x == s) ∙ ne_eqb x s (λ q. other (sym q)) ∙ sym (there s other)
      ]);
      left =
          (let n = sum_by-set (λ (o : Option Way). cond (is_some o) 1 0) old x None None h in
          let was : cond {A = ℕ} (is_some (way_at old x)) 1 0 ≡ 1 = ap (λ b. cond {A = ℕ} b 1 0) (used-some (way_at old x) c only used) in
          let l : length more ≡ length list + 1 = ap length added ∙ length-append list (x ∷ []) in
          let u = ap with_way e in omega (arith, n, was, l, u));
    }

-- it stays
pub cut_skip : (old : List (Option Way)) (list : List ℕ) (x c : ℕ) (only : Option ℕ) → uses (way_at old x) c only ≡ false → IsCut old list old list (pair x c ∷ []) only
cut_skip old list x c only free =
    let not_cut : (s : ℕ) → is_cut (pair x c ∷ []) only s (way_at old s) ≡ false = λ s. one-cut x c only s (way_at old s) ∙ (elim (cases_eq s x) [
      | inl same ↦ ap (λ b. (x == s) && b) (ap (λ j. uses (way_at old j) c only) same ∙ free) ∙ and-false (x == s)
      | inr other ↦ ap (λ b. b && uses (way_at old s) c only) (ne_eqb x s (λ q. other (sym q)))
    ]) in
    record {
      count = refl;
      at = λ s. sym (ap (λ b. cond {A = Option Way} b None (way_at old s)) (not_cut s));
      listed = λ s. sym (ap (λ b. is_among s list || b) (not_cut s) ∙ or-false (is_among s list));
      left = refl;
    }

pub from_at : (n : ℕ) (xs : List Pred) (i : ℕ) (d : Pred) → AreFrom n xs → i < length xs → Pred.state (get_or xs i d) < n
from_at n xs i d w h = w (Pred.state (get_or xs i d)) (Pred.choice (get_or xs i d))
    (list_any-by (λ (p : Pred). (p.state == Pred.state (get_or xs i d)) && (p.choice == Pred.choice (get_or xs i d))) xs d i h
    (and-both _ _ (eq-eqb (Pred.state (get_or xs i d)) (Pred.state (get_or xs i d)) refl) (eq-eqb (Pred.choice (get_or xs i d)) (Pred.choice (get_or xs i d)) refl)))

-- a way as the code reads it
pub read-way : (ways : List (Option Way)) (i : ℕ) (r : Option Way) → i < length ways → r ≡ get_or ways i r → r ≡ way_at ways i
read-way [] i r h e = absurd (omega arith)
read-way (x ∷ ways) zero r h e = e
read-way (x ∷ ways) (suc i) r h e = read-way ways i r (omega arith) e

pub from_part : (n : ℕ) (preds : List (List Pred)) (layer : List ℕ) (i : ℕ) → i < length layer → AreFrom n (leading_to preds layer)
    → AreFrom n (get_or preds (get_or layer i 0) [])
from_part n preds [] i h w = λ s c e. absurd (omega arith)
from_part n preds (t ∷ layer) zero h w = λ s c e. w s c (one-of-append (get_or preds t []) (leading_to preds layer) s c ∙ ap (λ b. b || is_one_of (leading_to preds layer) s c) e)
from_part n preds (t ∷ layer) (suc i) h w =
    from_part n preds layer i (omega arith)
    (λ s c e. w s c (one-of-append (get_or preds t []) (leading_to preds layer) s c ∙ ap (λ b. is_one_of (get_or preds t []) s c || b) e ∙ or-true (is_one_of (get_or preds t []) s c)))

pub from_all : (n : ℕ) (preds : List (List Pred)) (layer : List ℕ) → ((t : ℕ) → t < length preds → AreFrom n (get_or preds t [])) → All (λ t. t < length preds) layer
    → AreFrom n (leading_to preds layer)
from_all n preds [] each all s c e = absurd (false≢true e)
from_all n preds (t ∷ layer) each all s c e = elim (cases_Bool (is_one_of (get_or preds t []) s c)) [
  | inl here ↦ each t (all 0 0 (omega arith)) s c here
  | inr other ↦
      from_all n preds layer each (λ k d l. all (suc k) d (omega (arith, l))) s c
      (sym (one-of-append (get_or preds t []) (leading_to preds layer) s c ∙ ap (λ b. b || is_one_of (leading_to preds layer) s c) other) ∙ e)
]

-- ---- the choices that lead to more states are more

led-one : (preds : List (List Pred)) (ys : List ℕ) (t s c : ℕ) → is_among t ys ≡ true → is_one_of (get_or preds t []) s c ≡ true → is_one_of (leading_to preds ys) s c ≡ true
led-one preds [] t s c a e = absurd (false≢true a)
led-one preds (y ∷ ys) t s c a e = one-of-append (get_or preds y []) (leading_to preds ys) s c ∙ (elim (cases_eq y t) [
  | inl same ↦ ap (λ b. b || is_one_of (leading_to preds ys) s c) (ap (λ j. is_one_of (get_or preds j []) s c) same ∙ e)
  | inr other ↦
      ap (λ b. is_one_of (get_or preds y []) s c || b) (led-one preds ys t s c (sym (ap (λ b. b || is_among t ys) (ne_eqb y t other)) ∙ a) e)
      ∙ or-true (is_one_of (get_or preds y []) s c)
])

led-more : (preds : List (List Pred)) (xs ys : List ℕ) → ((t : ℕ) → is_among t xs ≡ true → is_among t ys ≡ true) → (s c : ℕ)
    → is_one_of (leading_to preds xs) s c ≡ true → is_one_of (leading_to preds ys) s c ≡ true
led-more preds [] ys within s c e = absurd (false≢true e)
led-more preds (x ∷ xs) ys within s c e = elim (cases_Bool (is_one_of (get_or preds x []) s c)) [
  | inl here ↦ led-one preds ys x s c (within x (ap (λ b. b || is_among x xs) (eq-eqb x x refl))) here
  | inr other ↦
      led-more preds xs ys (λ t a. within t (ap (λ b. (x == t) || b) a ∙ or-true (x == t))) s c
      (sym (one-of-append (get_or preds x []) (leading_to preds xs) s c ∙ ap (λ b. b || is_one_of (leading_to preds xs) s c) other) ∙ e)
]

pub led-none : (preds : List (List Pred)) (xs ys : List ℕ) → ((t : ℕ) → is_among t xs ≡ true → is_among t ys ≡ true) → (s c : ℕ)
    → is_one_of (leading_to preds ys) s c ≡ false → is_one_of (leading_to preds xs) s c ≡ false
led-none preds xs ys within s c e = elim (cases_Bool (is_one_of (leading_to preds xs) s c)) [
  | inl is ↦ absurd (false≢true (sym e ∙ led-more preds xs ys within s c is))
  | inr not ↦ not
]
