-- The rewards in a bracket, as they are read.
use Rattle.std.proofs.Common.{◌≡◌, ℕ, suc, ◌*◌, ◌<◌, ◌≤◌, Bool, true, false, not, eqb, eq-eqb, ◌||◌, List, [], ◌∷◌, ◌++◌, length, map, append_assoc}
use Rattle.std.proofs.{Common.{refl, sym, ap, ap₂, subst, ◌∙◌, arith, lit<, pos, Ok}, lemmas.Bool.Decides.{nat_tests}, lemmas.List.{append-nil, length-append}}
use Rattle.std.proofs.lemmas.Fmt.{decimal_digit}
use Rattle.std.specs.{Char.{is_ascii_digit}, List.{All, list_all, prefix_len, slice_split}}
use Rattle.mdp_math.specs.Rational.{ℚ, of_int}
use Rattle.mdp_num.specs.Value.{spelling}
use Rattle.mdp_rows.specs.Limits.{HasSmallTerms}
use Rattle.mdp_drn.specs.{Lines.{is_blank, without_blanks_behind}, Values.{each_reward, trimmed, rewards_in}, Writing.{joined}}
use Rattle.mdp_drn.proofs.TextWritten.Bytes.{Pass, Fail, and-parts, pass-append, pass-weaken, prefix-none, split-at, split-none}
use Rattle.mdp_drn.proofs.TextWritten.Lines.{EndsWell, BeginsWell, is_plain_byte, ends-append, ends-plain, before-well, behind-well, before-space}
use Rattle.mdp_drn.proofs.TextWritten.Numbers.{is_spelling_byte, IsSpelling, IsRewardText, spelling-reward, zero-text}

-- texts of rewards, one for each
abbrev pub AreRewardTexts : List (List ℕ) → List ℚ → Type 0
AreRewardTexts [] [] = Unit {0}
AreRewardTexts [] (x ∷ xs) = ⊥
AreRewardTexts (t ∷ ts) [] = ⊥
AreRewardTexts (t ∷ ts) (x ∷ xs) = IsRewardText t x × AreRewardTexts ts xs

pub spellings : (xs : List ℚ) → All HasSmallTerms xs → AreRewardTexts (map spelling xs) xs
spellings [] h = tt
spellings (x ∷ xs) h = (spelling-reward x (h 0 x (omega arith)), spellings xs (λ k d lt. h (suc k) d (omega arith)))

zero-reward : IsRewardText (48 ∷ []) (of_int (pos 0))
zero-reward = subst (λ (t : List ℕ). IsRewardText t (of_int (pos 0))) (decimal_digit 0 (lit< tt)) zero-text

pub zeros : (names : List (List ℕ)) → AreRewardTexts (map (λ name. 48 ∷ []) names) (map (λ name. of_int (pos 0)) names)
zeros [] = tt
zeros (name ∷ names) = (zero-reward, zeros names)

pub lengths : (ts : List (List ℕ)) (xs : List ℚ) → AreRewardTexts ts xs → length ts ≡ length xs
lengths [] [] h = refl
lengths [] (x ∷ xs) h = absurd h
lengths (t ∷ ts) [] h = absurd h
lengths (t ∷ ts) (x ∷ xs) h = ap suc (lengths ts xs h.1)

-- ---- one reward

plain : (c : ℕ) → is_spelling_byte c ≡ true → is_plain_byte c ≡ true
plain c h = grind (arith, nat_tests)

no-comma-byte : (c : ℕ) → is_spelling_byte c ≡ true → not (eqb c 44) ≡ true
no-comma-byte c h = grind (arith, nat_tests)

no-blank-byte : (c : ℕ) → is_spelling_byte c ≡ true → is_blank c ≡ false
no-blank-byte c h = grind (arith, nat_tests)

digit-no_blank : (c : ℕ) → is_ascii_digit c ≡ true → is_blank c ≡ false
digit-no_blank c h = grind (arith, nat_tests)

pub begins-digit : (c : ℕ) (cs : List ℕ) → is_ascii_digit c ≡ true → BeginsWell (c ∷ cs)
begins-digit c cs h = prefix-none is_blank c cs (digit-no_blank c h)

first-byte : (t : List ℕ) (h : IsSpelling t) → is_spelling_byte h.first ≡ true
first-byte t h = (and-parts (is_spelling_byte h.first) (list_all is_spelling_byte h.rest) (subst (Pass is_spelling_byte) h.is h.bytes)).0

pub spelling-begins : (t rest : List ℕ) → IsSpelling t → BeginsWell (t ++ rest)
spelling-begins t rest h =
    ap (λ (s : List ℕ). prefix_len is_blank (s ++ rest)) h.is ∙ prefix-none is_blank h.first (h.rest ++ rest) (no-blank-byte h.first (first-byte t h))

pub spelling-ends : (t : List ℕ) → IsSpelling t → EndsWell t
spelling-ends t h =
    subst EndsWell (sym h.is) (ends-plain h.first h.rest (subst (Pass is_plain_byte) h.is (pass-weaken is_spelling_byte is_plain_byte plain t h.bytes)))

spelling-trimmed : (t : List ℕ) → IsSpelling t → trimmed t ≡ t
spelling-trimmed t h =
    ap without_blanks_behind (before-well t (sym (ap (prefix_len is_blank) (append-nil t)) ∙ spelling-begins t [] h)) ∙ behind-well t (spelling-ends t h)

space-trimmed : (t : List ℕ) → IsSpelling t → trimmed (32 ∷ t) ≡ t
space-trimmed t h = ap without_blanks_behind (before-space t) ∙ spelling-trimmed t h

-- ---- rewards with commas

abbrev pub commas : List ℕ
commas = 44 ∷ 32 ∷ []

abbrev is_comma : ℕ → Bool
is_comma c = eqb c 44

abbrev spaced : List (List ℕ) → List (List ℕ)
spaced ts = map (λ t. 32 ∷ t) ts

no-comma : (t : List ℕ) → IsSpelling t → Fail is_comma t
no-comma t h = pass-weaken is_spelling_byte (λ c. not (is_comma c)) no-comma-byte t h.bytes

-- the first of several, what stands between, and the others
abbrev pub behind : List ℕ → List (List ℕ) → List ℕ
behind u ts = 44 ∷ 32 ∷ joined commas (u ∷ ts)

pub joined-more : (t u : List ℕ) (ts : List (List ℕ)) → joined commas (t ∷ u ∷ ts) ≡ t ++ behind u ts
joined-more t u ts = append_assoc t commas (joined commas (u ∷ ts))

cells : (front t : List ℕ) (ts : List (List ℕ)) (x : ℚ) (xs : List ℚ) → Fail is_comma front → IsRewardText t x → AreRewardTexts ts xs
    → slice_split is_comma (front ++ joined commas (t ∷ ts)) ≡ (front ++ t) ∷ spaced ts
cells front t [] x [] f h k = split-none is_comma (front ++ t) (pass-append (λ c. not (is_comma c)) front t f (no-comma t h.spelling))
cells front t [] x (y ∷ xs) f h k = absurd k
cells front t (u ∷ ts) x [] f h k = absurd k
cells front t (u ∷ ts) x (y ∷ xs) f h k =
    ap (λ (s : List ℕ). slice_split is_comma (front ++ s)) (joined-more t u ts)
    ∙ ap (slice_split is_comma) (sym (append_assoc front t (44 ∷ 32 ∷ joined commas (u ∷ ts))))
    ∙ split-at is_comma (front ++ t) 44 (32 ∷ joined commas (u ∷ ts)) (pass-append (λ c. not (is_comma c)) front t f (no-comma t h.spelling)) refl
    ∙ ap (λ (parts : List (List ℕ)). (front ++ t) ∷ parts) (cells (32 ∷ []) u ts y xs refl k.0 k.1)

spaced-trimmed : (ts : List (List ℕ)) (xs : List ℚ) → AreRewardTexts ts xs → map trimmed (spaced ts) ≡ ts
spaced-trimmed [] [] h = refl
spaced-trimmed [] (x ∷ xs) h = absurd h
spaced-trimmed (t ∷ ts) [] h = absurd h
spaced-trimmed (t ∷ ts) (x ∷ xs) h = ap₂ (λ (u : List ℕ) (us : List (List ℕ)). u ∷ us) (space-trimmed t (IsRewardText.spelling h.0)) (spaced-trimmed ts xs h.1)

texts-is : (t : List ℕ) (ts : List (List ℕ)) (x : ℚ) (xs : List ℚ) → IsRewardText t x → AreRewardTexts ts xs → map trimmed (slice_split is_comma (joined commas (t ∷ ts))) ≡ t ∷ ts
texts-is t ts x xs h k =
    ap (map trimmed) (cells [] t ts x xs refl h k) ∙ ap₂ (λ (u : List ℕ) (us : List (List ℕ)). u ∷ us) (spelling-trimmed t h.spelling) (spaced-trimmed ts xs k)

each-is : (ts : List (List ℕ)) (xs : List ℚ) → AreRewardTexts ts xs → each_reward ts ≡ Ok xs
each-is [] [] h = refl
each-is [] (x ∷ xs) h = absurd h
each-is (t ∷ ts) [] h = absurd h
each-is (t ∷ ts) (x ∷ xs) h = rw ((IsRewardText.reward h.0), each-is ts xs h.1) refl

-- ---- the text in a bracket

pub joined-ends : (t : List ℕ) (ts : List (List ℕ)) (x : ℚ) (xs : List ℚ) → IsRewardText t x → AreRewardTexts ts xs → EndsWell (joined commas (t ∷ ts))
joined-ends t [] x xs h k = spelling-ends t h.spelling
joined-ends t (u ∷ ts) x [] h k = absurd k
joined-ends t (u ∷ ts) x (y ∷ xs) h k = subst EndsWell (sym (joined-more t u ts)) (ends-append t (behind u ts) (ends-append commas (joined commas (u ∷ ts)) (joined-ends u ts y xs k.0 k.1)))

joined-begins : (t : List ℕ) (ts : List (List ℕ)) (x : ℚ) (xs : List ℚ) → IsRewardText t x → AreRewardTexts ts xs → BeginsWell (joined commas (t ∷ ts))
joined-begins t [] x xs h k = sym (ap (prefix_len is_blank) (append-nil t)) ∙ spelling-begins t [] h.spelling
joined-begins t (u ∷ ts) x xs h k = ap (prefix_len is_blank) (joined-more t u ts) ∙ spelling-begins t (behind u ts) h.spelling

joined-some : (t : List ℕ) (ts : List (List ℕ)) (x : ℚ) → IsRewardText t x → 0 < length (joined commas (t ∷ ts))
joined-some t [] x h = omega (arith, ap length (IsSpelling.is h.spelling))
joined-some t (u ∷ ts) x h = omega (arith, ap length (IsSpelling.is h.spelling), ap length (joined-more t u ts), length-append t (behind u ts))

-- the bytes of spellings, a comma and a blank
abbrev pub is_list_byte : ℕ → Bool
is_list_byte c = is_spelling_byte c || eqb c 44 || eqb c 32

spelling-list : (c : ℕ) → is_spelling_byte c ≡ true → is_list_byte c ≡ true
spelling-list c h = grind (arith, nat_tests)

listed : (t : List ℕ) (x : ℚ) → IsRewardText t x → Pass is_list_byte t
listed t x h = pass-weaken is_spelling_byte is_list_byte spelling-list t (IsSpelling.bytes h.spelling)

pub joined-bytes : (ts : List (List ℕ)) (xs : List ℚ) → AreRewardTexts ts xs → Pass is_list_byte (joined commas ts)
joined-bytes [] [] h = refl
joined-bytes [] (x ∷ xs) h = absurd h
joined-bytes (t ∷ ts) [] h = absurd h
joined-bytes (t ∷ []) (x ∷ xs) h = listed t x h.0
joined-bytes (t ∷ u ∷ ts) (x ∷ xs) h =
    ap (list_all is_list_byte) (joined-more t u ts) ∙ pass-append is_list_byte t (behind u ts) (listed t x h.0) (joined-bytes (u ∷ ts) xs h.1)

pub joined-short : (ts : List (List ℕ)) (xs : List ℚ) → AreRewardTexts ts xs → length (joined commas ts) ≤ 78 * length ts
joined-short [] [] h = omega arith
joined-short [] (x ∷ xs) h = absurd h
joined-short (t ∷ ts) [] h = absurd h
joined-short (t ∷ []) (x ∷ xs) h = omega (arith, IsSpelling.short (IsRewardText.spelling h.0))
joined-short (t ∷ u ∷ ts) (x ∷ xs) h = omega (arith, IsSpelling.short (IsRewardText.spelling h.0), joined-short (u ∷ ts) xs h.1, ap length (joined-more t u ts), length-append t (behind u ts))

-- what is read of it
pub rewards-read : (models : ℕ) (ts : List (List ℕ)) (xs : List ℚ) → 0 < length ts → length ts ≡ models → AreRewardTexts ts xs → rewards_in models (joined commas ts) ≡ Ok xs
unfolding rewards_in
rewards-read models [] xs some is h = absurd (omega arith)
rewards-read models (t ∷ ts) [] some is h = absurd h
rewards-read models (t ∷ ts) (x ∷ xs) some is h =
    let inside : List ℕ = joined commas (t ∷ ts) in
    let same : trimmed (joined commas (t ∷ ts)) ≡ joined commas (t ∷ ts) =
    ap without_blanks_behind (before-well inside (joined-begins t ts x xs h.0 h.1)) ∙ behind-well inside (joined-ends t ts x xs h.0 h.1) in
    let filled : eqb (length (trimmed (joined commas (t ∷ ts)))) 0 ≡ false = ap (λ (s : List ℕ). eqb (length s) 0) same ∙ some-not (length (joined commas (t ∷ ts))) (joined-some t ts x h.0) in
    let texts : map trimmed (slice_split is_comma (joined commas (t ∷ ts))) ≡ t ∷ ts = texts-is t ts x xs h.0 h.1 in
    let counted : eqb (length (t ∷ ts)) models ≡ true = eq-eqb (length (t ∷ ts)) models is in
    rw (filled, texts, counted) (each-is (t ∷ ts) (x ∷ xs) h)
  where
    some-not : (n : ℕ) → 0 < n → eqb n 0 ≡ false
    some-not n lt = grind (arith, nat_tests)
