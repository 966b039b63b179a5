-- What stands at the front of a text that grows.
use Rattle.std.proofs.{Common.{◌≡◌, ℕ, List, [], ◌++◌, length, take, drop, sym, ap, ◌∙◌, append_assoc, append-nil}, Math.Seq.{take-append_seam}}
use Rattle.std.proofs.lemmas.List.{take-append-drop}
use Rattle.mdp_text.specs.Answer.{Keeps}

split-keeps : (a b : List ℕ) → Keeps a b → b ≡ a ++ drop (length a) b
split-keeps a b h = sym (take-append-drop (length a) b) ∙ ap (λ (x : List ℕ). x ++ drop (length a) b) h

pub keeps-split : (a b t : List ℕ) → b ≡ a ++ t → Keeps a b
keeps-split a b t e = ap (take (length a)) e ∙ take-append_seam a t

pub keeps_more : (a b c : List ℕ) → Keeps a b → Keeps b c → Keeps a c
keeps_more a b c p q =
    keeps-split a c (drop (length a) b ++ drop (length b) c) (split-keeps b c q ∙ ap (λ (x : List ℕ). x ++ drop (length b) c) (split-keeps a b p) ∙ append_assoc a
    (drop (length a) b) (drop (length b) c))

-- a text that is appended piece by piece, down to one that is due: one more piece
pub piece_more : (now later piece behind rest whole : List ℕ) → now ++ rest ≡ whole → rest ≡ piece ++ behind → later ≡ now ++ piece → later ++ behind ≡ whole
piece_more now later piece behind rest whole all is more =
    ap (λ (x : List ℕ). x ++ behind) more ∙ append_assoc now piece behind ∙ ap (λ (x : List ℕ). now ++ x) (sym is) ∙ all

-- and no piece left
pub pieces_end : (now rest whole : List ℕ) → now ++ rest ≡ whole → rest ≡ [] → now ≡ whole
pieces_end now rest whole all none = sym (append-nil now) ∙ ap (λ (x : List ℕ). now ++ x) (sym none) ∙ all
