-- A text that is put together of lines is cut into these lines, and what is read of them.
use Rattle.std.proofs.Common.{◌≡◌, ℕ, suc, ◌+◌, ◌-◌, Bool, true, false, not, cond, eqb, ltb, ◌&&◌, List, [], ◌∷◌, ◌++◌, length, drop, append_assoc, refl, sym, ap, ap₂, ◌∙◌, arith}
use Rattle.std.proofs.lemmas.List.{append-nil, take_all}
use Rattle.std.specs.{List.{list_all, prefix_len, suffix_len, slice_split}, Io.BufRead.{strip_last}}
use Rattle.mdp_drn.specs.Lines.{is_line_feed, is_blank, all_but_last, last_part, whole_lines, open_line, lines_of, without_blanks_behind, without_blanks_before, content}
use Rattle.mdp_drn.specs.Writing.{line}
use Rattle.mdp_drn.proofs.PiecesFed.Cutting.{all_but_last-push, last_part-push}
use Rattle.mdp_drn.proofs.TextWritten.Bytes.{Pass, Fail, and-parts, not-true, split-at, suffix-stop, strip-other}

-- ---- lines

abbrev pub flat : List (List ℕ) → List ℕ
flat [] = []
flat (t ∷ ts) = line t ++ flat ts

-- no line has a line feed
abbrev pub AreLines : List (List ℕ) → Type 0
AreLines [] = Unit {0}
AreLines (t ∷ ts) = Fail is_line_feed t × AreLines ts

pub flat-append : (ts us : List (List ℕ)) → flat (ts ++ us) ≡ flat ts ++ flat us
flat-append [] us = refl
flat-append (t ∷ ts) us = ap (λ (x : List ℕ). line t ++ x) (flat-append ts us) ∙ sym (append_assoc (line t) (flat ts) (flat us))

pub are-append : (ts us : List (List ℕ)) → AreLines ts → AreLines us → AreLines (ts ++ us)
are-append [] us h k = k
are-append (t ∷ ts) us h k = (h.0, are-append ts us h.1 k)

split-flat : (ts : List (List ℕ)) → AreLines ts → slice_split is_line_feed (flat ts) ≡ ts ++ [] ∷ []
split-flat [] h = refl
split-flat (t ∷ ts) h =
    ap (slice_split is_line_feed) (append_assoc t (10 ∷ []) (flat ts))
    ∙ split-at is_line_feed t 10 (flat ts) h.0 refl
    ∙ ap (λ (parts : List (List ℕ)). t ∷ parts) (split-flat ts h.1)

pub lines-flat : (ts : List (List ℕ)) → AreLines ts → lines_of (flat ts) ≡ ts
lines-flat ts h =
    let e = split-flat ts h in
    let whole : whole_lines (flat ts) ≡ ts = ap all_but_last e ∙ all_but_last-push ts [] in
    let none : open_line (flat ts) ≡ [] = ap last_part e ∙ last_part-push ts [] in
    ap₂ (λ (w : List (List ℕ)) (o : List ℕ). w ++ cond (ltb 0 (length o)) (o ∷ []) []) whole none ∙ append-nil ts

-- ---- what of a line is read

-- a text that begins and ends with no blank, and ends with no CR
pub record EndsWell (t : List ℕ) : Type 0 where
  pub front : List ℕ
  pub last : ℕ
  pub is : t ≡ front ++ last ∷ []
  pub no_blank : is_blank last ≡ false
  pub no_return : eqb last 13 ≡ false

abbrev pub BeginsWell : List ℕ → Type 0
BeginsWell t = prefix_len is_blank t ≡ 0

pub ends-append : (xs ys : List ℕ) → EndsWell ys → EndsWell (xs ++ ys)
ends-append xs ys h = record {
  front = xs ++ h.front;
  last = h.last;
  is = ap (λ (t : List ℕ). xs ++ t) h.is ∙ sym (append_assoc xs h.front (h.last ∷ []));
  no_blank = h.no_blank;
  no_return = h.no_return;
}

pub ends-byte : (xs : List ℕ) (y : ℕ) → is_blank y ≡ false → eqb y 13 ≡ false → EndsWell (xs ++ y ∷ [])
ends-byte xs y p q = record { front = xs; last = y; is = refl; no_blank = p; no_return = q }

-- neither a blank nor CR
abbrev pub is_plain_byte : ℕ → Bool
is_plain_byte c = not (is_blank c) && not (eqb c 13)

pub ends-plain : (x : ℕ) (xs : List ℕ) → Pass is_plain_byte (x ∷ xs) → EndsWell (x ∷ xs)
ends-plain x [] h =
    let a = and-parts (is_plain_byte x) true h in
    let b = and-parts (not (is_blank x)) (not (eqb x 13)) a.0 in
    ends-byte [] x (not-true (is_blank x) b.0) (not-true (eqb x 13) b.1)
ends-plain x (y ∷ xs) h =
    let a = and-parts (is_plain_byte x) (list_all is_plain_byte (y ∷ xs)) h in
    ends-append (x ∷ []) (y ∷ xs) (ends-plain y xs a.1)

pub strip-well : (t : List ℕ) → EndsWell t → strip_last 13 t ≡ t
strip-well t h = ap (strip_last 13) h.is ∙ strip-other 13 h.front h.last h.no_return ∙ sym h.is

pub behind-well : (t : List ℕ) → EndsWell t → without_blanks_behind t ≡ t
behind-well t h =
    let s : suffix_len is_blank t ≡ 0 = ap (suffix_len is_blank) h.is ∙ suffix-stop is_blank h.front h.last [] h.no_blank refl in
    take_all (length t - suffix_len is_blank t) t (omega arith)

pub before-well : (t : List ℕ) → BeginsWell t → without_blanks_before t ≡ t
before-well t h = ap (λ (n : ℕ). drop n t) h

pub content-well : (t : List ℕ) → BeginsWell t → EndsWell t → content t ≡ t
content-well t h k = ap (λ (x : List ℕ). without_blanks_behind (without_blanks_before x)) (strip-well t k) ∙ ap without_blanks_behind (before-well t h) ∙ behind-well t k

pub before-space : (t : List ℕ) → without_blanks_before (32 ∷ t) ≡ without_blanks_before t
before-space t = let e : 1 + prefix_len is_blank t ≡ suc (prefix_len is_blank t) = omega arith in ap (λ (n : ℕ). drop n (32 ∷ t)) e

-- with tabs in front
before-tab : (t : List ℕ) → without_blanks_before (9 ∷ t) ≡ without_blanks_before t
before-tab t = let e : 1 + prefix_len is_blank t ≡ suc (prefix_len is_blank t) = omega arith in ap (λ (n : ℕ). drop n (9 ∷ t)) e

pub content-tab : (t : List ℕ) → BeginsWell t → EndsWell t → content (9 ∷ t) ≡ t
content-tab t h k =
    ap (λ (x : List ℕ). without_blanks_behind (without_blanks_before x)) (strip-well (9 ∷ t) (ends-append (9 ∷ []) t k))
    ∙ ap without_blanks_behind (before-tab t ∙ before-well t h) ∙ behind-well t k

pub content-tabs : (t : List ℕ) → BeginsWell t → EndsWell t → content (9 ∷ 9 ∷ t) ≡ t
content-tabs t h k =
    ap (λ (x : List ℕ). without_blanks_behind (without_blanks_before x)) (strip-well (9 ∷ 9 ∷ t) (ends-append (9 ∷ 9 ∷ []) t k))
    ∙ ap without_blanks_behind (before-tab (9 ∷ t) ∙ before-tab t ∙ before-well t h) ∙ behind-well t k
