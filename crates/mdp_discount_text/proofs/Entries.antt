-- Lists of values and choices, and of lower and upper values and choices, as one list of entries.
use Rattle.std.proofs.Common.{◌≡◌, ℕ, ◌<◌, List, [], ◌∷◌, length, map, get_or, Option, refl, sym, ap, ◌∙◌}
use Rattle.std.proofs.lemmas.List.{length-map, get_or-map}
use Rattle.std.specs.List.{All}
use Rattle.mdp_math.specs.Rational.{ℚ}
use Rattle.mdp_cert.specs.{declared.pair.Pair.{Pair}, Pairs.{IsShort, IsPairInWidth, pair, pairs}}
use Rattle.mdp_cert.proofs.{Bodies.{Each}, Parts.{all-each}, WordByWord.{inside, pair-at, both, count, behind, each-pair}}
use Rattle.mdp_discount_rules.specs.BoundsCert.{IsValueNarrow}
use Rattle.mdp_discount_text.specs.{declared.entry.Lower.{Lower}, Entries.{lower, IsEntryInWidth, entries_of}}

abbrev pub Between : Type 0
Between = Pair Lower (Pair (Option ℚ) ℕ)

pub record Inside (ls us : List (Option ℚ)) (cs : List ℕ) (i : ℕ) : Type 0 where
  pub lower : i < length ls
  pub upper : i < length us
  pub choices : i < length cs

pub inside-all : (ls us : List (Option ℚ)) (cs : List ℕ) (i : ℕ) → i < length (entries_of ls us cs) → Inside ls us cs i
inside-all ls us cs i h =
    let p = inside (map lower ls) (pairs us cs) i h in
    let q = inside us cs i p.1 in
    record { lower = rw (← length-map ls lower) p.0; upper = q.0; choices = q.1 }

pub entry-at : (ls us : List (Option ℚ)) (cs : List ℕ) (i : ℕ) (l u : Option ℚ) (c : ℕ) (d : Between) → i < length (entries_of ls us cs) → l ≡ get_or ls i l → u ≡ get_or us i u
    → c ≡ get_or cs i c → pair (lower l) (pair u c) ≡ get_or (entries_of ls us cs) i d
entry-at ls us cs i l u c d h p q o =
    let all = inside-all ls us cs i h in
    let two = inside (map lower ls) (pairs us cs) i h in
    pair-at (map lower ls) (pairs us cs) i (lower l) (pair u c) d h (ap lower p ∙ sym (get_or-map lower ls i l (lower l) all.lower)) (pair-at us cs i u c (pair u c) two.1 q o)

-- ---- the lists of the entries

pub record Back (ls us : List (Option ℚ)) (cs : List ℕ) : Type 0 where
  pub count : length (entries_of ls us cs) ≡ length ls
  pub lower : map (λ x. x.first.value) (entries_of ls us cs) ≡ ls
  pub upper : map (λ x. x.others.first) (entries_of ls us cs) ≡ us
  pub choices : map (λ x. x.others.others) (entries_of ls us cs) ≡ cs

values-of : (ls : List (Option ℚ)) → map (λ l. l.value) (map lower ls) ≡ ls
values-of [] = refl
values-of (l ∷ ls) = ap (λ (ks : List (Option ℚ)). l ∷ ks) (values-of ls)

firsts : (xs : List Between) → map (λ x. x.first.value) xs ≡ map (λ l. l.value) (map (λ x. x.first) xs)
firsts [] = refl
firsts (x ∷ xs) = ap (λ (ks : List (Option ℚ)). x.first.value ∷ ks) (firsts xs)

pub back : (ls us : List (Option ℚ)) (cs : List ℕ) → length us ≡ length ls → length cs ≡ length ls → Back ls us cs
back ls us cs h k =
    let some = count us cs (h ∙ sym k) in
    let outer = both (map lower ls) (pairs us cs) (length-map ls lower ∙ sym (some ∙ h)) in
    let inner = both us cs (h ∙ sym k) in
    record {
      count = count (map lower ls) (pairs us cs) (length-map ls lower ∙ sym (some ∙ h)) ∙ length-map ls lower;
      lower = firsts (entries_of ls us cs) ∙ ap (map (λ (l : Lower). l.value)) outer.0 ∙ values-of ls;
      upper = behind (λ (x : Pair (Option ℚ) ℕ). x.first) (entries_of ls us cs) ∙ ap (map (λ (x : Pair (Option ℚ) ℕ). x.first)) outer.1 ∙ inner.0;
      choices = behind (λ (x : Pair (Option ℚ) ℕ). x.others) (entries_of ls us cs) ∙ ap (map (λ (x : Pair (Option ℚ) ℕ). x.others)) outer.1 ∙ inner.1;
    }

pub entries-of : (xs : List Between) → entries_of (map (λ x. x.first.value) xs) (map (λ x. x.others.first) xs) (map (λ x. x.others.others) xs) ≡ xs
entries-of [] = refl
entries-of (x ∷ xs) = ap (λ (ys : List Between). x ∷ ys) (entries-of xs)

pub entries-width : (ls us : List (Option ℚ)) (cs : List ℕ) → All IsValueNarrow ls → All IsValueNarrow us → All IsShort cs → Each IsEntryInWidth (entries_of ls us cs)
entries-width ls us cs p q o =
    each-pair (λ (l : Lower). IsValueNarrow l.value) (IsPairInWidth IsValueNarrow IsShort) (map lower ls) (pairs us cs) (each ls (all-each IsValueNarrow ls p))
    (each-pair IsValueNarrow IsShort us cs (all-each IsValueNarrow us q) (all-each IsShort cs o))
  where
    each : (ks : List (Option ℚ)) → Each IsValueNarrow ks → Each (λ (l : Lower). IsValueNarrow l.value) (map lower ks)
    each [] h = tt
    each (k ∷ ks) h = (h.0, each ks h.1)
