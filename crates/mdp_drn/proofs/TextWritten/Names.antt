-- The line of reward names, as it is read.
use Rattle.std.proofs.Common.{◌≡◌, ℕ, suc, ◌*◌, ◌<◌, ◌≤◌, Bool, true, false, not, cond, eqb, ltb, leb, ◌&&◌, ◌||◌, List, [], ◌∷◌, ◌++◌, length}
use Rattle.std.proofs.{Common.{get_or, append_assoc, refl, sym, ap, subst, ◌∙◌, arith, Ok}, lemmas.Bool.{leb-true, le-ltb}, lemmas.Bool.Decides.{nat_tests}}
use Rattle.std.proofs.{lemmas.List.{append-nil, length-append}, lemmas.Slice.Eq.{bytes_eq-Decides}}
use Rattle.std.specs.{List.{All, list_all, list_any, prefix_len, slice_split, filter}, Bool.{IsTrue}, Str.{bytes_eq}}
use Rattle.mdp_rows.specs.Name.{IsRewardName, are_different, begins_reserved, AreRewardNames}
use Rattle.mdp_drn.specs.{Lines.{is_blank, is_line_feed, is_comment, content}, Header.{words_of, is_bad_name, names_in, is_entry, names_or_one}}
use Rattle.mdp_drn.specs.Writing.{joined, names_text}
use Rattle.mdp_drn.proofs.TextWritten.Bytes.{Pass, Fail, and-parts, not-true, pass-append, pass-weaken, prefix-none, split-at, split-none, any-none, none-any, filled}
use Rattle.mdp_drn.proofs.TextWritten.Lines.{EndsWell, BeginsWell, is_plain_byte, ends-append, ends-plain, content-well}

-- ---- one name

-- a blank, a tab, CR, a quote or LF
abbrev is_bad_byte : ℕ → Bool
is_bad_byte b = eqb b 32 || eqb b 9 || eqb b 13 || eqb b 34 || eqb b 10

record IsWord (name : List ℕ) : Type 0 where
  first : ℕ
  rest : List ℕ
  is : name ≡ first ∷ rest
  short : length name ≤ 255
  good : Fail is_bad_byte name

word-from : (name : List ℕ) → 0 < length name → length name ≤ 255 → Fail is_bad_byte name → IsWord name
word-from [] some short good = absurd (omega arith)
word-from (c ∷ cs) some short good = record { first = c; rest = cs; is = refl; short = short; good = good }

word-of : (name : List ℕ) → IsRewardName name → IsWord name
word-of name h =
    let a = and-parts (leb 1 (length name) && leb (length name) 255) (not (list_any is_bad_byte name)) h in
    let b = and-parts (leb 1 (length name)) (leb (length name) 255) a.0 in
    word-from name (leb-true 1 (length name) b.0) (leb-true (length name) 255 b.1) (none-any is_bad_byte name (not-true (list_any is_bad_byte name) a.1))

good-blank : (c : ℕ) → not (is_bad_byte c) ≡ true → not (is_blank c) ≡ true
good-blank c h = grind (arith, nat_tests)

good-plain : (c : ℕ) → not (is_bad_byte c) ≡ true → is_plain_byte c ≡ true
good-plain c h = grind (arith, nat_tests)

good-feed : (c : ℕ) → not (is_bad_byte c) ≡ true → not (is_line_feed c) ≡ true
good-feed c h = grind (arith, nat_tests)

good-name : (c : ℕ) → not (is_bad_byte c) ≡ true → not (eqb c 34 || eqb c 13) ≡ true
good-name c h = grind (arith, nat_tests)

no-blank : (name : List ℕ) → IsWord name → Fail is_blank name
no-blank name h = pass-weaken (λ c. not (is_bad_byte c)) (λ c. not (is_blank c)) good-blank name h.good

word-ends : (name : List ℕ) → IsWord name → EndsWell name
word-ends name h = subst EndsWell (sym h.is) (ends-plain h.first h.rest (subst (Pass is_plain_byte) h.is (pass-weaken (λ c. not (is_bad_byte c)) is_plain_byte good-plain name h.good)))

word-begins : (name rest : List ℕ) → IsWord name → BeginsWell (name ++ rest)
word-begins name rest h =
    let first = and-parts (not (is_blank h.first)) (list_all (λ c. not (is_blank c)) h.rest) (subst (Fail is_blank) h.is (no-blank name h)) in
    ap (λ (t : List ℕ). prefix_len is_blank (t ++ rest)) h.is ∙ prefix-none is_blank h.first (h.rest ++ rest) (not-true (is_blank h.first) first.0)

word-good : (name : List ℕ) → IsWord name → is_bad_name name ≡ false
word-good name h =
    let few : ltb 255 (length name) ≡ false = le-ltb 255 (length name) h.short in
    let none = any-none (λ c. eqb c 34 || eqb c 13) name (pass-weaken (λ c. not (is_bad_byte c)) (λ c. not (eqb c 34 || eqb c 13)) good-name name h.good) in
    rw (few, none) refl

-- ---- several names

abbrev AreWords : List (List ℕ) → Type 0
AreWords [] = Unit {0}
AreWords (name ∷ names) = IsWord name × AreWords names

words-from : (names : List (List ℕ)) → All IsRewardName names → AreWords names
words-from [] h = tt
words-from (name ∷ names) h = (word-of name (h 0 name (omega arith)), words-from names (λ k d lt. h (suc k) d (omega arith)))

abbrev blank : List ℕ
blank = 32 ∷ []

joined-more : (t u : List ℕ) (ts : List (List ℕ)) → joined blank (t ∷ u ∷ ts) ≡ t ++ 32 ∷ joined blank (u ∷ ts)
joined-more t u ts = append_assoc t blank (joined blank (u ∷ ts))

cells : (t : List ℕ) (ts : List (List ℕ)) → IsWord t → AreWords ts → slice_split is_blank (joined blank (t ∷ ts)) ≡ t ∷ ts
cells t [] h k = split-none is_blank t (no-blank t h)
cells t (u ∷ ts) h k =
    ap (slice_split is_blank) (joined-more t u ts) ∙ split-at is_blank t 32 (joined blank (u ∷ ts)) (no-blank t h) refl
    ∙ ap (λ (parts : List (List ℕ)). t ∷ parts) (cells u ts k.0 k.1)

some-kept : (names : List (List ℕ)) → AreWords names → filter (λ word. ltb 0 (length word)) names ≡ names
some-kept [] h = refl
some-kept (name ∷ names) h =
    let some : ltb 0 (length name) ≡ true = ap (λ (t : List ℕ). ltb 0 (length t)) (IsWord.is h.0) ∙ filled (length (IsWord.rest h.0)) in
    ap (λ (b : Bool). cond b (name ∷ filter (λ word. ltb 0 (length word)) names) (filter (λ word. ltb 0 (length word)) names)) some
    ∙ ap (λ (parts : List (List ℕ)). name ∷ parts) (some-kept names h.1)

none-bad : (names : List (List ℕ)) → AreWords names → list_any is_bad_name names ≡ false
none-bad [] h = refl
none-bad (name ∷ names) h = rw (word-good name h.0) (none-bad names h.1)

joined-ends : (t : List ℕ) (ts : List (List ℕ)) → IsWord t → AreWords ts → EndsWell (joined blank (t ∷ ts))
joined-ends t [] h k = word-ends t h
joined-ends t (u ∷ ts) h k = subst EndsWell (sym (joined-more t u ts)) (ends-append t (32 ∷ joined blank (u ∷ ts)) (ends-append blank (joined blank (u ∷ ts)) (joined-ends u ts k.0 k.1)))

joined-feed : (t : List ℕ) (ts : List (List ℕ)) → IsWord t → AreWords ts → Fail is_line_feed (joined blank (t ∷ ts))
joined-feed t [] h k = pass-weaken (λ c. not (is_bad_byte c)) (λ c. not (is_line_feed c)) good-feed t h.good
joined-feed t (u ∷ ts) h k =
    ap (list_all (λ c. not (is_line_feed c))) (joined-more t u ts)
    ∙ pass-append (λ c. not (is_line_feed c)) t (32 ∷ joined blank (u ∷ ts)) (pass-weaken (λ c. not (is_bad_byte c)) (λ c. not (is_line_feed c)) good-feed t h.good) (joined-feed u ts k.0 k.1)

joined-short : (t : List ℕ) (ts : List (List ℕ)) → IsWord t → AreWords ts → length (joined blank (t ∷ ts)) ≤ 256 * length (t ∷ ts)
joined-short t [] h k = omega (arith, h.short)
joined-short t (u ∷ ts) h k = omega (arith, h.short, joined-short u ts k.0 k.1, ap length (joined-more t u ts), length-append t (32 ∷ joined blank (u ∷ ts)))

-- the text begins with the first name, and a blank or nothing behind it
abbrev behind : List (List ℕ) → List ℕ
behind [] = []
behind (u ∷ ts) = 32 ∷ joined blank (u ∷ ts)

joined-first : (t : List ℕ) (ts : List (List ℕ)) → joined blank (t ∷ ts) ≡ t ++ behind ts
joined-first t [] = sym (append-nil t)
joined-first t (u ∷ ts) = joined-more t u ts

record IsFree (text : List ℕ) : Type 0 where
  entry : is_entry text ≡ false
  comment : is_comment text ≡ false

free-one : (b : ℕ) (rest : List (List ℕ)) → eqb b 64 ≡ false → IsFree (b ∷ behind rest)
free-one b [] h = record { entry = entry b h; comment = comment (eqb 47 b) }
  where
    entry : (b : ℕ) → eqb b 64 ≡ false → (eqb 64 b && true) ≡ false
    entry b h = grind (arith, nat_tests)

    comment : (c : Bool) → (c && false) ≡ false
    comment true = refl
    comment false = refl
free-one b (u ∷ ts) h = record { entry = entry b h; comment = comment (eqb 47 b) }
  where
    entry : (b : ℕ) → eqb b 64 ≡ false → (eqb 64 b && true) ≡ false
    entry b h = grind (arith, nat_tests)

    comment : (c : Bool) → (c && false) ≡ false
    comment true = refl
    comment false = refl

free-two : (b c : ℕ) (rest : List ℕ) → (eqb b 64 || (eqb b 47 && eqb c 47)) ≡ false → IsFree (b ∷ c ∷ rest)
free-two b c rest h = record { entry = entry b c h; comment = comment b c h }
  where
    entry : (b c : ℕ) → (eqb b 64 || (eqb b 47 && eqb c 47)) ≡ false → (eqb 64 b && true) ≡ false
    entry b c h = grind (arith, nat_tests)

    comment : (b c : ℕ) → (eqb b 64 || (eqb b 47 && eqb c 47)) ≡ false → (eqb 47 b && (eqb 47 c && true)) ≡ false
    comment b c h = grind (arith, nat_tests)

free : (t : List ℕ) (ts : List (List ℕ)) → begins_reserved t ≡ false → IsFree (t ++ behind ts)
free [] ts h = absurd cc
free (b ∷ []) ts h = free-one b ts h
free (b ∷ c ∷ rest) ts h = free-two b c (rest ++ behind ts) h

-- ---- the line

-- the names as they are given: none where the one name is `-`
pub record IsNamesLine (names : List (List ℕ)) (text : List ℕ) : Type 0 where
  pub given : List (List ℕ)
  pub content : content text ≡ text
  pub short : length text ≤ 65536
  pub no_feed : Fail is_line_feed text
  pub entry : is_entry text ≡ false
  pub comment : is_comment text ≡ false
  pub read : names_in (words_of text) ≡ Ok given
  pub known : names_or_one given ≡ names

names-read : (names : List (List ℕ)) → AreWords names → IsTrue (are_different names) → length names ≤ 16 → names_in names ≡ Ok names
unfolding names_in
names-read names h apart few = rw (none-bad names h, apart, le-ltb 16 (length names) few) refl

line-joined : (names : List (List ℕ)) → AreRewardNames names → IsNamesLine names (joined blank names)
line-joined [] h = absurd (omega (arith, h.some))
line-joined (t ∷ ts) h =
    let w = words-from (t ∷ ts) h.each in
    let f = free t ts (not-true (begins_reserved t) h.first) in
    let first = joined-first t ts in
    record {
      given = t ∷ ts;
      content = content-well (joined blank (t ∷ ts)) (ap (prefix_len is_blank) first ∙ word-begins t (behind ts) w.0) (joined-ends t ts w.0 w.1);
      short = omega (arith, h.few, joined-short t ts w.0 w.1);
      no_feed = joined-feed t ts w.0 w.1;
      entry = ap is_entry first ∙ f.entry;
      comment = ap is_comment first ∙ f.comment;
      read = ap (λ (parts : List (List ℕ)). names_in (filter (λ word. ltb 0 (length word)) parts)) (cells t ts w.0 w.1)
          ∙ ap names_in (some-kept (t ∷ ts) w) ∙ names-read (t ∷ ts) w h.different h.few;
      known = refl;
    }

nothing-read : names_in (words_of []) ≡ Ok []
unfolding names_in
nothing-read = refl

line-empty : (names : List (List ℕ)) → (45 ∷ []) ∷ [] ≡ names → IsNamesLine names []
line-empty names e = record { given = []; content = refl; short = omega arith; no_feed = refl; entry = refl; comment = refl; read = nothing-read; known = e }

one-name : (names : List (List ℕ)) → (eqb (length names) 1 && bytes_eq (get_or names 0 []) (45 ∷ [])) ≡ true → (45 ∷ []) ∷ [] ≡ names
one-name [] h = absurd cc
one-name (t ∷ []) h = ap (λ (x : List ℕ). x ∷ []) (sym ((bytes_eq-Decides t (45 ∷ [])).0 (and-parts (eqb (length (t ∷ [])) 1) (bytes_eq t (45 ∷ [])) h).1))
one-name (t ∷ u ∷ ts) h = absurd (two (length ts) (and-parts (eqb (length (t ∷ u ∷ ts)) 1) (bytes_eq t (45 ∷ [])) h).0)
  where
    two : (n : ℕ) → eqb (suc (suc n)) 1 ≡ true → ⊥
    two n h = grind (arith, nat_tests)

pub names-line : (names : List (List ℕ)) → AreRewardNames names → IsNamesLine names (names_text names)
names-line names h = by (eqb (length names) 1 && bytes_eq (get_or names 0 []) (45 ∷ [])) refl
  where
    by : (b : Bool) → (eqb (length names) 1 && bytes_eq (get_or names 0 []) (45 ∷ [])) ≡ b → IsNamesLine names (cond b [] (joined blank names))
    by true e = line-empty names (one-name names e)
    by false e = line-joined names h
