-- What is shown of several words of a line from what is shown of each; and lists of values and lists of entries as one list of pairs.
use Rattle.std.proofs.Common.{◌≡◌, ℕ, zero, suc, ◌<◌, true, ◌&&◌, List, [], ◌∷◌, length, map, get_or, Option, Some, None, refl, sym, ap, ap₂, subst, ◌∙◌, arith}
use Rattle.std.proofs.{lemmas.Bool.{and_parts}, lemmas.List.{length-map}}
use Rattle.std.specs.{Option.{option_map}}
use Rattle.std.proofs.{Common.{◌-◌, Bool, false, not, eqb, cond, drop, Ok, Err}, lemmas.Bool.Decides.{nat_tests}}
use Rattle.std.specs.Str.{bytes_eq}
use Rattle.mdp_math.proofs.Booleans.{and-false}
use Rattle.mdp_text.specs.{declared.error.CertKind.TheVariants.{Shape}, declared.error.Refusal.{Refusal}, Lines.{refused, refuse_if}, Words.{words, first_of, words_behind}}
use Rattle.mdp_text.proofs.Joined.{free-whole}
use Rattle.mdp_cert.specs.{Runs.{Columns}, Claims.{Value}, declared.pair.Pair.{Pair}}
use Rattle.mdp_cert.specs.Pairs.{IsShort, number_value, word_parse, word_columns, pair, pair_parse, pair_columns, IsPairInWidth, pairs}
use Rattle.mdp_cert.proofs.Columns.{IsColumns, IsValue, is-columns, and_then-some, whole-of-found, whole-of-again, number-same, number-itself}
use Rattle.mdp_cert.proofs.Bodies.{Each}

-- ---- a word, and one word more

pub number-is_value : IsValue number_value IsShort
number-is_value = record { found = whole-of-found; again = whole-of-again; free = λ c n lt h. free-whole c n (omega arith) h; same = number-same; itself = number-itself }

module _ {V : Type 0} (k : Value V) (IsInWidth : V → Type 0) (is : IsValue k IsInWidth) where
  word-found : (ws : List (List ℕ)) (v : V) → word_parse k ws ≡ Some v → (ws ≡ k.spell v ∷ []) × IsInWidth v
  word-found [] v e = absurd cc
  word-found (w ∷ []) v e = let s = is.found w v e in (ap (λ (u : List ℕ). u ∷ []) s.0, s.1)
  word-found (w ∷ u ∷ ws) v e = absurd cc

  pub word-is_columns : IsColumns (word_columns k) IsInWidth
  word-is_columns = is-columns (word_columns k) IsInWidth (omega arith) (λ v. refl) word-found is.again (λ c v lt h. (is.free c v lt h, tt)) is.same is.itself

  module _ {E : Type 0} (l : Columns E) (AreInWidth : E → Type 0) (are : IsColumns l AreInWidth) where
    pair-found : (ws : List (List ℕ)) (p : Pair V E) → pair_parse k l ws ≡ Some p → (ws ≡ k.spell p.first ∷ l.words p.others) × IsPairInWidth IsInWidth AreInWidth p
    pair-found [] p e = absurd cc
    pair-found (w ∷ ws) p e =
        let one = and_then-some (λ v. option_map (pair v) (l.parse ws)) (k.parse w) p e in
        let two = mapped (pair one.0) (l.parse ws) one.2 in
        let s = is.found w one.0 one.1 in
        let t = are.found ws two.0 two.1 in
        subst (λ (q : Pair V E). (w ∷ ws ≡ k.spell q.first ∷ l.words q.others) × IsPairInWidth IsInWidth AreInWidth q) two.2
        (ap₂ (λ (u : List ℕ) (us : List (List ℕ)). u ∷ us) s.0 t.0, record { first = s.1; others = t.1 })
      where
        mapped : (f : E → Pair V E) (o : Option E) → option_map f o ≡ Some p → (x : E) × (o ≡ Some x) × (f x ≡ p)
        mapped f None e = absurd cc
        mapped f (Some x) e = (x, refl, cc)

    pair-same : (p q : Pair V E) → (k.same p.first q.first && l.same p.others q.others) ≡ true → p ≡ q
    pair-same p q e = let s = and_parts (k.same p.first q.first) (l.same p.others q.others) e in ap₂ pair (is.same _ _ s.0) (are.same _ _ s.1)

    pub pair-is_columns : IsColumns (pair_columns k l) (IsPairInWidth IsInWidth AreInWidth)
    pair-is_columns = record {
      some = omega arith;
      count = λ p. ap suc (are.count p.others);
      found = pair-found;
      again = λ p h. rw (is.again p.first h.first, are.again p.others h.others) refl;
      blanks = λ p h. (is.free 32 p.first (omega arith) h.first, are.blanks p.others h.others);
      feeds = λ p h. (is.free 10 p.first (omega arith) h.first, are.feeds p.others h.others);
      same = pair-same;
      itself = λ p. rw (is.itself p.first, are.itself p.others) refl;
    }

-- ---- lists

module _ {V E : Type 0} where
  pub inside : (vs : List V) (xs : List E) (i : ℕ) → i < length (pairs vs xs) → (i < length vs) × (i < length xs)
  inside (v ∷ vs) (x ∷ xs) zero h = (omega arith, omega arith)
  inside (v ∷ vs) (x ∷ xs) (suc i) h = let p = inside vs xs i (omega arith) in (omega (arith, p.0), omega (arith, p.1))
  inside vs xs i h = absurd (omega arith)

  pub pair-at : (vs : List V) (xs : List E) (i : ℕ) (v : V) (x : E) (d : Pair V E) → i < length (pairs vs xs) → v ≡ get_or vs i v → x ≡ get_or xs i x → pair v x ≡ get_or (pairs vs xs) i d
  pair-at (w ∷ vs) (y ∷ xs) zero v x d h p q = rw (p, q) refl
  pair-at (w ∷ vs) (y ∷ xs) (suc i) v x d h p q = pair-at vs xs i v x d (omega arith) p q
  pair-at vs xs i v x d h p q = absurd (omega arith)

  -- the lists of these pairs
  pub both : (vs : List V) (xs : List E) → length vs ≡ length xs → (map (λ p. p.first) (pairs vs xs) ≡ vs) × (map (λ p. p.others) (pairs vs xs) ≡ xs)
  both [] [] h = (refl, refl)
  both (v ∷ vs) (x ∷ xs) h = let p = both vs xs (omega (arith, h)) in (ap (λ (us : List V). v ∷ us) p.0, ap (λ (ys : List E). x ∷ ys) p.1)
  both vs xs h = absurd (omega (arith, h))

  pub count : (vs : List V) (xs : List E) → length vs ≡ length xs → length (pairs vs xs) ≡ length vs
  count vs xs h = sym (length-map (pairs vs xs) (λ (p : Pair V E). p.first)) ∙ ap (λ (us : List V). length us) (both vs xs h).0

  -- and the pairs of their lists
  pub pairs-of : (ps : List (Pair V E)) → pairs (map (λ p. p.first) ps) (map (λ p. p.others) ps) ≡ ps
  pairs-of [] = refl
  pairs-of (p ∷ ps) = ap (λ (qs : List (Pair V E)). p ∷ qs) (pairs-of ps)

  -- a list behind the first values is one of what stands behind them
  pub behind : {X : Type 0} (f : E → X) (ps : List (Pair V E)) → map (λ p. f p.others) ps ≡ map f (map (λ p. p.others) ps)
  behind f [] = refl
  behind {X} f (p ∷ ps) = ap (λ (ys : List X). f p.others ∷ ys) (behind f ps)

  pub deeper : {X : Type 0} (f : E → X) (vs : List V) (xs : List E) (ys : List X) → length vs ≡ length xs → map f xs ≡ ys → map (λ p. f p.others) (pairs vs xs) ≡ ys
  deeper f vs xs ys h e = behind f (pairs vs xs) ∙ ap (map f) (both vs xs h).1 ∙ e

  -- as many as there are of each
  pub as-many : (n : ℕ) (vs : List V) (xs : List E) → length vs ≡ n → length xs ≡ n → length (pairs vs xs) ≡ n
  as-many n vs xs h k = count vs xs (h ∙ sym k) ∙ h

  pub each-pair : (P : V → Type 0) (Q : E → Type 0) (vs : List V) (xs : List E) → Each P vs → Each Q xs → Each (IsPairInWidth P Q) (pairs vs xs)
  each-pair P Q (v ∷ vs) (x ∷ xs) h k = (record { first = h.0; others = k.0 }, each-pair P Q vs xs h.1 k.1)
  each-pair P Q vs xs h k = tt

-- ---- the number of words

-- a line of another number of words
pub other-count : (due : List ℕ) (most n : ℕ) (text : List ℕ) (m : ℕ) (is : Bool) (r : Refusal) → m ≡ length (words text) → 0 < m → is ≡ eqb (m - 1) most
    → refuse_if Shape n (not is) ≡ Err r → words_behind due most n text ≡ Err r
unfolding words_behind
other-count due most n text m is r p some q e = by is (sym (q ∙ less)) e
  where
    less : eqb (m - 1) most ≡ eqb (length (words text)) (suc most)
    less = grind (arith, nat_tests)

    by : (b : Bool) → eqb (length (words text)) (suc most) ≡ b → refuse_if Shape n (not b) ≡ Err r
        → cond (bytes_eq (first_of (words text)) due && eqb (length (words text)) (suc most)) (Ok (drop 1 (words text))) (refused Shape n) ≡ Err r
    by true t e = absurd cc
    by false t e = let same : record { kind = Shape; line = n } ≡ r = cc in rw (t, and-false (bytes_eq (first_of (words text)) due), same) refl
