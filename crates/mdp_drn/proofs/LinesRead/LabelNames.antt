-- Labels that are read are names: 1 to 255 bytes without `"` and LF.
use Rattle.std.proofs.Common.{◌≡◌, ℕ, zero, suc, Bool, true, false, not, cond, ◌&&◌, ◌||◌, ◌==◌, ◌+◌, eqb, nat_lt, nat_le, List, [], ◌∷◌, take}
use Rattle.std.proofs.{Common.{length, Result, Ok, Err, IsTrue, refl, ap, subst, ◌∙◌, arith}, lemmas.Bool.Decides.{nat_tests}}
use Rattle.std.proofs.lemmas.List.Elements.{All-take, All-drop, All-cons, All-nil, All-head, All-tail}
use Rattle.std.specs.List.{All, list_any, prefix_len}
use Rattle.mdp_rows.specs.Name.{IsName}
use Rattle.mdp_drn.specs.{declared.error.DrnKind.{DrnKind}, declared.error.DrnKind.TheVariants.{Label}, Lines.{is_blank, is_line_feed, without_blanks_before}}
use Rattle.mdp_drn.specs.Labels.{is_quote, is_sized, before_first, from_first, begins_blank, quoted_at, quoted, bare, label_at, labels_within, labels_in}
use Rattle.mdp_drn.specs.{Outcome.{◌>>=◌}, Body.{bracket_at, bracket_to}, BodyView.{IsOneLine}}

no_quote : (bytes : List ℕ) → list_any is_quote (before_first is_quote bytes) ≡ false
no_quote [] = refl
no_quote (x ∷ xs) = by (is_quote x) refl (no_quote xs)
  where
    by : (b : Bool) → is_quote x ≡ b → list_any is_quote (before_first is_quote xs) ≡ false
        → list_any is_quote (take (cond (not b) (1 + prefix_len (λ c. not (is_quote c)) xs) 0) (x ∷ xs)) ≡ false
    by true e rest = refl
    by false e rest =
        let more : suc (prefix_len (λ c. not (is_quote c)) xs) ≡ 1 + prefix_len (λ c. not (is_quote c)) xs = omega arith in
        subst (λ (k : ℕ). list_any is_quote (take k (x ∷ xs)) ≡ false) more (ap (λ (b : Bool). b || list_any is_quote (before_first is_quote xs)) e ∙ rest)

plain : (name : List ℕ) → list_any is_quote name ≡ false → IsOneLine name → list_any (λ b. b == 34 || b == 10) name ≡ false
plain [] none one = refl
plain (x ∷ xs) none one = by (eqb x 34) (eqb x 10) none (All-head (λ b. is_line_feed b ≡ false) x xs one) (λ rest. plain xs rest (All-tail (λ b. is_line_feed b ≡ false) x xs one))
  where
    by : (p q : Bool) → (p || list_any is_quote xs) ≡ false → q ≡ false
        → (list_any is_quote xs ≡ false → list_any (λ b. b == 34 || b == 10) xs ≡ false) → ((p || q) || list_any (λ b. b == 34 || b == 10) xs) ≡ false
    by true q h k rest = absurd cc
    by false true h k rest = absurd cc
    by false false h k rest = rest h

sized_name : (name : List ℕ) → is_sized name ≡ true → list_any is_quote name ≡ false → IsOneLine name → IsName name
sized_name name sized none one = by (list_any (λ b. b == 34 || b == 10) name) (plain name none one)
  where
    by : (b : Bool) → b ≡ false → IsTrue ((nat_le 1 (length name) && nat_le (length name) 255) && not b)
    by true h = absurd cc
    by false h = sizes (length name) sized
      where
        sizes : (n : ℕ) → (nat_lt 0 n && nat_le n 255) ≡ true → IsTrue ((nat_le 1 n && nat_le n 255) && true)
        sizes n h = grind (arith, nat_tests)

-- a label and what is behind it
abbrev Good : Result (List ℕ × List ℕ) DrnKind → Type 0
Good r = (name rest : List ℕ) → r ≡ Ok (name, rest) → IsName name × IsOneLine rest

abbrev name_of : Result (List ℕ × List ℕ) DrnKind → List ℕ
name_of (Ok p) = p.0
name_of (Err e) = []

abbrev rest_of : Result (List ℕ × List ℕ) DrnKind → List ℕ
rest_of (Ok p) = p.1
rest_of (Err e) = []

good : (name rest : List ℕ) → IsName name → IsOneLine rest → Good (Ok (name, rest))
good name rest is one x y h = (subst IsName (ap name_of h) is, subst IsOneLine (ap rest_of h) one)

and_left : (a b : Bool) → (a && b) ≡ true → a ≡ true
and_left true b h = refl
and_left false b h = absurd cc

good_if : (b : Bool) (name rest : List ℕ) → (b ≡ true → IsName name) → IsOneLine rest → Good (cond b (Ok (name, rest)) (Err Label))
good_if true name rest is one x y h = good name rest (is refl) one x y h
good_if false name rest is one x y h = absurd cc

abbrev NoFeed : ℕ → Type 0
NoFeed b = is_line_feed b ≡ false

quoted_good : (bytes : List ℕ) → IsOneLine bytes → Good (quoted bytes)
quoted_good bytes one = by (from_first is_quote bytes) (All-drop NoFeed (prefix_len (λ c. not (is_quote c)) bytes) bytes one)
  where
    by : (behind : List ℕ) → IsOneLine behind → Good (quoted_at (before_first is_quote bytes) behind)
    by [] plain x y h = absurd cc
    by (quote ∷ rest) plain x y h =
        good_if (is_sized (before_first is_quote bytes) && ((length rest == 0) || begins_blank rest)) (before_first is_quote bytes) rest
        (λ test. sized_name (before_first is_quote bytes) (and_left (is_sized (before_first is_quote bytes)) _ test)
        (no_quote bytes) (All-take NoFeed (prefix_len (λ c. not (is_quote c)) bytes) bytes one))
        (All-tail NoFeed quote rest plain) x y h

and_right_not : (a b : Bool) → (a && not b) ≡ true → b ≡ false
and_right_not true true h = absurd cc
and_right_not true false h = refl
and_right_not false b h = absurd cc

bare_good : (bytes : List ℕ) → IsOneLine bytes → Good (bare bytes)
bare_good bytes one =
    good_if (is_sized (before_first is_blank bytes) && not (list_any is_quote (before_first is_blank bytes))) (before_first is_blank bytes) (from_first is_blank bytes)
    (λ test. sized_name (before_first is_blank bytes) (and_left (is_sized (before_first is_blank bytes)) _ test)
    (and_right_not (is_sized (before_first is_blank bytes)) _ test) (All-take NoFeed (prefix_len (λ c. not (is_blank c)) bytes) bytes one))
    (All-drop NoFeed (prefix_len (λ c. not (is_blank c)) bytes) bytes one)

label_good : (c : ℕ) (bytes : List ℕ) → IsOneLine (c ∷ bytes) → Good (label_at c bytes)
label_good c bytes one = by (is_quote c)
  where
    by : (b : Bool) → Good (cond b (quoted bytes) (bare (c ∷ bytes)))
    by true = quoted_good bytes (All-tail NoFeed c bytes one)
    by false = bare_good (c ∷ bytes) one

abbrev AreNames : Result (List (List ℕ)) DrnKind → Type 0
AreNames r = (names : List (List ℕ)) → r ≡ Ok names → All IsName names

abbrev names_in : Result (List (List ℕ)) DrnKind → List (List ℕ)
names_in (Ok names) = names
names_in (Err e) = []

are : (names : List (List ℕ)) → All IsName names → AreNames (Ok names)
are names all x h = subst (All IsName) (ap names_in h) all

within_good : (count : ℕ) (bytes : List ℕ) → IsOneLine bytes → AreNames (labels_within count bytes)
within_good zero bytes one = are [] (All-nil IsName)
within_good (suc count) [] one = are [] (All-nil IsName)
within_good (suc count) (c ∷ bytes) one = by (label_at c bytes) (label_good c bytes one) (λ rest plain. within_good count rest plain)
  where
    inner : (name : List ℕ) (r : Result (List (List ℕ)) DrnKind) → IsName name → AreNames r → AreNames (r >>= λ others. Ok (name ∷ others))
    inner name (Ok others) is all x h = are (name ∷ others) (All-cons IsName name others is (all others refl)) x h
    inner name (Err e) is all x h = absurd cc

    by : (r : Result (List ℕ × List ℕ) DrnKind) → Good r → ((rest : List ℕ) → IsOneLine rest → AreNames (labels_within count rest))
        → AreNames (r >>= λ label. labels_within count (without_blanks_before label.1) >>= λ others. Ok (label.0 ∷ others))
    by (Ok l) is more x h =
        let w = is l.0 l.1 refl in inner l.0 (labels_within count (without_blanks_before l.1)) w.0 (more (without_blanks_before l.1) (All-drop NoFeed (prefix_len is_blank l.1) l.1 w.1)) x h
    by (Err e) is more x h = absurd cc

pub label_names : (bytes : List ℕ) (names : List (List ℕ)) → IsOneLine bytes → labels_in bytes ≡ Ok names → All IsName names
unfolding labels_in
label_names bytes names one = within_good (suc (length bytes)) (without_blanks_before bytes) (All-drop NoFeed (prefix_len is_blank bytes) bytes one) names

-- what is behind the bracket of a state has no line feed either
abbrev IsBehind : Result (List ℕ × List ℕ) DrnKind → Type 0
IsBehind r = (inside rest : List ℕ) → r ≡ Ok (inside, rest) → IsOneLine rest

closing_plain : (bytes inside behind : List ℕ) → IsOneLine behind → IsBehind (bracket_to inside behind)
closing_plain bytes inside [] one x y h = absurd cc
closing_plain bytes inside (close ∷ behind) one x y h = subst IsOneLine (ap rest_of h) (All-tail NoFeed close behind one)

pub behind_plain : (bytes : List ℕ) → IsOneLine bytes → (inside rest : List ℕ) → bracket_at bytes ≡ Ok (inside, rest) → IsOneLine rest
behind_plain [] one x y h = subst IsOneLine (ap rest_of h) one
behind_plain (c ∷ bytes) one x y h = by (c == 91) x y h
  where
    by : (b : Bool) → IsBehind (cond b (bracket_to (before_first (λ b. b == 93) bytes) (from_first (λ b. b == 93) bytes)) (Ok ([], c ∷ bytes)))
    by true x y h = closing_plain bytes (before_first (λ b. b == 93) bytes) (from_first (λ b. b == 93) bytes)
        (All-drop NoFeed (prefix_len (λ b. not (b == 93)) bytes) bytes (All-tail NoFeed c bytes one)) x y h
    by false x y h = subst IsOneLine (ap rest_of h) one
