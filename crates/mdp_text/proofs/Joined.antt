-- Lines as words: what stands behind the first word, and texts made of words.
use Rattle.std.proofs.Common.{◌≡◌, ℕ, ◌<◌, ◌^◌, false, eqb, List, [], ◌∷◌, length, drop, decimal, Ok, refl, ap, ◌∙◌, arith}
use Rattle.std.specs.List.{join_with_byte}
use Rattle.mdp_text.specs.{Spelling.{◌␣◌}, Words.{words, first_of, words_behind}}
use Rattle.mdp_text.proofs.Cuts.{bytes_self, same-number, behind_found, behind_shaped}
use Rattle.mdp_text.proofs.Pieces.{Free, free-append, free-decimal, words-more, words-last, words-joined, whole-small}

-- no word has the byte
abbrev pub AllFree : ℕ → List (List ℕ) → Type 0
AllFree c [] = Unit {0}
AllFree c (w ∷ ws) = Free c w × AllFree c ws

pub join-front : (a : List ℕ) (ws : List (List ℕ)) → 0 < length ws → join_with_byte 32 (a ∷ ws) ≡ a ␣ join_with_byte 32 ws
join-front a [] h = absurd (omega arith)
join-front a (w ∷ ws) h = refl

pub words-join : (ws : List (List ℕ)) → 0 < length ws → AllFree 32 ws → words (join_with_byte 32 ws) ≡ ws
words-join [] h free = absurd (omega arith)
words-join (w ∷ []) h free = words-last w free.0
words-join (w ∷ v ∷ ws) h free = words-more w (join_with_byte 32 (v ∷ ws)) free.0 ∙ ap (λ (us : List (List ℕ)). w ∷ us) (words-join (v ∷ ws) (omega arith) free.1)

pub free-join : (c : ℕ) (ws : List (List ℕ)) → eqb 32 c ≡ false → AllFree c ws → Free c (join_with_byte 32 ws)
free-join c [] h free = refl
free-join c (w ∷ []) h free = free.0
free-join c (w ∷ v ∷ ws) h free = free-append c w (32 ∷ join_with_byte 32 (v ∷ ws)) free.0 (rw (h, free-join c (v ∷ ws) h free.1) refl)

pub free-whole : (c n : ℕ) → c < 48 → n < 2 ^ 32 → Free c (decimal n)
free-whole c n h lt = free-decimal c n h (whole-small n lt)

-- the words behind the first one, of a text made of words
pub behind-again : (due : List ℕ) (count n : ℕ) (ws : List (List ℕ)) → length ws ≡ count → Free 32 due → AllFree 32 ws → words_behind due count n (join_with_byte 32 (due ∷ ws)) ≡ Ok ws
behind-again due count n ws len free others =
    behind_shaped due count n (join_with_byte 32 (due ∷ ws)) due ws (words-join (due ∷ ws) (omega arith) (free, others)) (rw (bytes_self due, same-number (length ws) count len) refl)

-- and the text of which they are read
pub behind-text : (due : List ℕ) (count n : ℕ) (text : List ℕ) (ws : List (List ℕ)) → words_behind due count n text ≡ Ok ws → (text ≡ join_with_byte 32 (due ∷ ws)) × (length ws ≡ count)
behind-text due count n text ws e = let b = behind_found due count n text ws e in (words-joined text (due ∷ ws) b.all, b.count_is)

pub first-rest : (ws : List (List ℕ)) → 0 < length ws → ws ≡ first_of ws ∷ drop 1 ws
first-rest [] h = absurd (omega arith)
first-rest (w ∷ ws) h = refl
