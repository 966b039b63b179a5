-- Ranks that are given to states, one list after the other.
use Rattle.std.proofs.Common.{◌≡◌, inl, inr, ℕ, ◌+◌, ◌<◌, Bool, true, false, ◌||◌, ◌&&◌, ◌==◌, cond, List, []}
use Rattle.std.proofs.Common.{◌∷◌, ◌++◌, length, set, refl, sym, ap, ◌∙◌, arith, eq-eqb, Option, Some, None, is_none}
use Rattle.std.proofs.{lemmas.Bool.{ne_eqb, false≢true, cases_eq}, lemmas.List.{length-set, get_or-set_other, length-append}, lemmas.List.Sums.{sum_by-set}}
use Rattle.std.proofs.lemmas.Grind.{get_or-set_at}
use Rattle.mdp_rows.specs.Preds.{is_among}
use Rattle.mdp_graph.specs.{Layers.{rank_at}, Ranking.{given, unranked, IsGiven}}
use Rattle.mdp_graph.proofs.Among.{among-append, or-and_false}
use Rattle.mdp_math.proofs.Booleans.{or-false, and-false}

given-false : (k : ℕ) (o : Option ℕ) → o ≡ given k false o
given-false k None = refl
given-false k (Some r) = refl

given-given : (k : ℕ) (b c : Bool) (o : Option ℕ) → given k c (given k b o) ≡ given k (b || c) o
given-given k b c (Some r) = refl
given-given k true c None = refl
given-given k false c None = refl

listed-listed : (k : ℕ) (l b c : Bool) (o : Option ℕ) → ((l || (is_none o && b)) || (is_none (given k b o) && c)) ≡ (l || (is_none o && (b || c)))
listed-listed k true b c o = refl
listed-listed k false b c (Some r) = refl
listed-listed k false true c None = refl
listed-listed k false false c None = refl

pub given_none : (old : List (Option ℕ)) (list : List ℕ) (k : ℕ) → IsGiven old list old list [] k
given_none old list k = record {
  count = refl;
  at = λ s h. given-false k (rank_at old s);
  listed = λ s h. or-and_false (is_among s list) (is_none (rank_at old s));
  below = λ s e. inl e;
  left = refl;
}

pub given_more : (a b c : List (Option ℕ)) (al bl cl xs ys zs : List ℕ) (k : ℕ) → IsGiven a al b bl xs k → IsGiven b bl c cl ys k → zs ≡ xs ++ ys → IsGiven a al c cl zs k
given_more a b c al bl cl xs ys zs k f g e = record {
  count = g.count ∙ f.count;
  at = λ s h.
      g.at s (omega (arith, f.count)) ∙ ap (given k (is_among s ys)) (f.at s h) ∙ given-given k (is_among s xs) (is_among s ys) (rank_at a s)
      ∙ ap (λ b. given k b (rank_at a s)) (sym (ap (is_among s) e ∙ among-append s xs ys));
  listed = λ s h.
      g.listed s (omega (arith, f.count)) ∙ ap (λ o. is_among s bl || (is_none o && is_among s ys)) (f.at s h)
      ∙ ap (λ l. l || (is_none (given k (is_among s xs) (rank_at a s)) && is_among s ys)) (f.listed s h)
      ∙ listed-listed k (is_among s al) (is_among s xs) (is_among s ys) (rank_at a s) ∙ ap (λ b. is_among s al || (is_none (rank_at a s) && b)) (sym (ap (is_among s) e ∙ among-append s xs ys));
  below = λ s q. elim (g.below s q) [ inl m ↦ f.below s m | inr l ↦ inr (omega (arith, f.count)) ];
  left = g.left ∙ f.left;
}

taken-listed : (l n w : Bool) → n ≡ true → (l || (w || false)) ≡ (l || (n && (w || false)))
taken-listed l true w h = refl
taken-listed l false w h = absurd (false≢true h)

passed-listed : (l n w : Bool) → w ≡ false → (l || (w || false)) ≡ (l || (n && (w || false)))
passed-listed l true w h = refl
passed-listed l false w h = rw h refl

kept-listed : (l n w : Bool) → (n && w) ≡ false → l ≡ (l || (n && (w || false)))
kept-listed true n w h = refl
kept-listed false true true h = sym h
kept-listed false true false h = refl
kept-listed false false w h = refl

-- a state without a rank takes it
pub given_one : (old new : List (Option ℕ)) (list more : List ℕ) (x k : ℕ) → x < length old → rank_at old x ≡ None → new ≡ set old x (Some k)
    → more ≡ list ++ x ∷ [] → IsGiven old list new more (x ∷ []) k
given_one old new list more x k h free e added = record {
  count = ap length e ∙ length-set old x (Some k);
  at = λ s l. rw e (elim (cases_eq s x) [
    | inl same ↦ get_or-set_at old x s (Some k) None same h ∙ sym (ap (λ o. given k ((x == s) || false) o) (ap (λ j. rank_at old j) same ∙ free)
        ∙ ap (λ b. cond (b || false) (Some k) None) (eq-eqb x s (sym same)))
    | inr other ↦ get_or-set_other old x s (Some k) None other ∙ given-false k (rank_at old s) ∙ ap (λ b. given k (b || false) (rank_at old s)) (sym (ne_eqb x s (λ q. other (sym q))))
  ]);
  listed = λ s l. ap (is_among s) added ∙ among-append s list (x ∷ []) ∙ (elim (cases_eq s x) [
    | inl same ↦ taken-listed (is_among s list) (is_none (rank_at old s)) (x == s) (ap is_none (ap (λ j. rank_at old j) same ∙ free))
    | inr other ↦ passed-listed (is_among s list) (is_none (rank_at old s)) (x == s) (ne_eqb x s (λ q. other (sym q)))
  ]);
  below = λ s q. elim (cases_eq s x) [
    | inl same ↦ inr (omega arith)
    | inr other ↦ inl (sym (ap (is_among s) added ∙ among-append s list (x ∷ []) ∙ ap (λ b. is_among s list || (b || false)) (ne_eqb x s (λ q. other (sym q))) ∙ or-false (is_among s list)) ∙ q)
  ];
  left =
      (let n = sum_by-set (λ o. cond (is_none o) 1 0) old x (Some k) None h in
      let was : cond {A = ℕ} (is_none (rank_at old x)) 1 0 ≡ 1 = rw free refl in
      let l : length more ≡ length list + 1 = ap length added ∙ length-append list (x ∷ []) in
      let u = ap unranked e in omega (arith, n, was, l, u));
}

-- one with a rank keeps its own
given-some : (k : ℕ) (b : Bool) (o : Option ℕ) → is_none o ≡ false → o ≡ given k b o
given-some k b (Some r) e = refl
given-some k true None e = absurd (false≢true (sym e))
given-some k false None e = refl

pub kept_one : (old : List (Option ℕ)) (list : List ℕ) (x k : ℕ) → is_none (rank_at old x) ≡ false → IsGiven old list old list (x ∷ []) k
kept_one old list x k has = record {
  count = refl;
  at = λ s l. elim (cases_eq s x) [
    | inl same ↦ given-some k ((x == s) || false) (rank_at old s) (ap (λ j. is_none (rank_at old j)) same ∙ has)
    | inr other ↦ given-false k (rank_at old s) ∙ ap (λ b. given k (b || false) (rank_at old s)) (sym (ne_eqb x s (λ q. other (sym q))))
  ];
  listed = λ s l. elim (cases_eq s x) [
    | inl same ↦ kept-listed (is_among s list) (is_none (rank_at old s)) (x == s) (ap (λ b. b && (x == s)) (ap (λ j. is_none (rank_at old j)) same ∙ has))
    | inr other ↦ kept-listed (is_among s list) (is_none (rank_at old s)) (x == s) (ap (λ b. is_none (rank_at old s) && b) (ne_eqb x s (λ q. other (sym q))) ∙ and-false (is_none (rank_at old s)))
  ];
  below = λ s e. inl e;
  left = refl;
}
