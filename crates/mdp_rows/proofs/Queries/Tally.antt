-- The first element of a list, and whether there are more.
use Rattle.std.proofs.Common.{◌≡◌, ℕ, ◌+◌, Bool, true, false, cond, List, [], ◌∷◌, ◌++◌, Option, Some, None, refl, sym, ap, ap₂, ◌∙◌, append-nil}
use Rattle.std.proofs.lemmas.List.Elements.{filter-append}
use Rattle.std.specs.{List.{filter, range_with_len}, Option.{is_some}, Prelude.{codes}}
use Rattle.mdp_spec.specs.{Mdp.{Mdp, states_of, has_label}, Labels.{only, place_of, initial_of}}
use Rattle.mdp_math.proofs.Lists.{range_more}

abbrev pub first_of : List ℕ → Option ℕ
first_of [] = None
first_of (x ∷ xs) = Some x

abbrev pub has_more : List ℕ → Bool
has_more [] = false
has_more (x ∷ []) = false
has_more (x ∷ y ∷ xs) = true

pub record IsTally (xs : List ℕ) (first : Option ℕ) (more : Bool) : Type 0 where
  pub head : first ≡ first_of xs
  pub others : more ≡ has_more xs

only-parts : (xs : List ℕ) → cond (has_more xs) None (first_of xs) ≡ only xs
only-parts [] = refl
only-parts (x ∷ []) = refl
only-parts (x ∷ y ∷ xs) = refl

only-tally : (xs : List ℕ) (first : Option ℕ) (more : Bool) → IsTally xs first more → cond more None first ≡ only xs
only-tally xs first more h = ap₂ (λ (m : Bool) (f : Option ℕ). cond m None f) h.others h.head ∙ only-parts xs

first-new : (xs : List ℕ) (s : ℕ) (more : Bool) → None ≡ first_of xs → more ≡ has_more xs → IsTally (xs ++ s ∷ []) (Some s) more
first-new [] s more e f = record { head = refl; others = f }
first-new (x ∷ xs) s more e f = absurd cc

more-new : (xs : List ℕ) (s x : ℕ) → Some x ≡ first_of xs → IsTally (xs ++ s ∷ []) (Some x) true
more-new [] s z e = absurd cc
more-new (x ∷ []) s z e = record { head = e; others = refl }
more-new (x ∷ y ∷ xs) s z e = record { head = e; others = refl }

-- the test's answer at one more number
filter-range_more : (p : ℕ → Bool) (n : ℕ) → filter p (range_with_len 0 (n + 1)) ≡ filter p (range_with_len 0 n) ++ cond (p n) (n ∷ []) []
filter-range_more p n = ap (filter p) (range_more n) ∙ filter-append p (range_with_len 0 n) (n ∷ [])

module _ (p : ℕ → Bool) (n : ℕ) (more : Bool) where
  pub skip : (first : Option ℕ) → p n ≡ false → IsTally (filter p (range_with_len 0 n)) first more → IsTally (filter p (range_with_len 0 (n + 1))) first more
  skip first e h = rw (filter-range_more p n, e, append-nil) h

  pub first_found : (first : Option ℕ) → p n ≡ true → first ≡ None → IsTally (filter p (range_with_len 0 n)) first more → IsTally (filter p (range_with_len 0 (n + 1))) (Some n) more
  first_found first e none h = rw (filter-range_more p n, e) (first-new (filter p (range_with_len 0 n)) n more (sym none ∙ h.head) h.others)

  pub more_found : (first : Option ℕ) → p n ≡ true → is_some first ≡ true → IsTally (filter p (range_with_len 0 n)) first more → IsTally (filter p (range_with_len 0 (n + 1))) first true
  more_found None e some h = absurd cc
  more_found (Some x) e some h = rw (filter-range_more p n, e) (more-new (filter p (range_with_len 0 n)) n x h.head)

pub none_of : (o : Option ℕ) → is_some o ≡ false → o ≡ None
none_of None e = refl
none_of (Some x) e = absurd cc

-- ---- the one labelled state

filter-none : (xs : List ℕ) → filter (λ x. false) xs ≡ []
filter-none [] = refl
filter-none (x ∷ xs) = filter-none xs

pub no_label : (m : Mdp) → None ≡ place_of (codes "init") m.labels → None ≡ initial_of m
no_label m e = rw (← e) (sym (ap only (filter-none (range_with_len 0 (states_of m)))))

pub one_label : (m : Mdp) (l n : ℕ) (first : Option ℕ) (more : Bool) → Some l ≡ place_of (codes "init") m.labels → n ≡ states_of m
    → IsTally (filter (has_label m l) (range_with_len 0 n)) first more → cond more None first ≡ initial_of m
one_label m l n first more e is h = only-tally _ first more h ∙ rw (← e, is) refl
