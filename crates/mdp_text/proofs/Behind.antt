-- What stands behind a front of a text, and behind a name.
use Rattle.std.proofs.Common.{◌≡◌, ℕ, Bool, true, false, cond, List, ◌∷◌, ◌++◌, length, take, drop, Option, Some, None, refl, sym, ap, ap₂, subst, ◌∙◌}
use Rattle.std.proofs.{lemmas.List.{take-append-drop}, Math.Seq.{take-append_seam, drop-append_seam}}
use Rattle.std.specs.{Prelude.{codes}, List.{position_or_len, before_first}, Option.{option_map}, Str.{bytes_eq}}
use Rattle.mdp_rows.specs.Name.{is_name}
use Rattle.mdp_text.specs.Words.{behind, is_quote, name_and_rest}
use Rattle.mdp_text.proofs.{Pieces.{quote-free-name}, Cuts.{bytes_same, bytes_self}, Feeds.{byte-after}}

pub behind-found : (front text rest : List ℕ) → behind front text ≡ Some rest → text ≡ front ++ rest
behind-found front text rest e = by (bytes_eq (take (length front) text) front) refl e
  where
    by : (b : Bool) → bytes_eq (take (length front) text) front ≡ b → cond b (Some (drop (length front) text)) None ≡ Some rest → text ≡ front ++ rest
    by true t e = let back : drop (length front) text ≡ rest = cc in sym (take-append-drop (length front) text) ∙ ap₂ (λ (xs ys : List ℕ). xs ++ ys) (bytes_same _ front t) back
    by false t e = absurd cc

pub behind-again : (front rest : List ℕ) → behind front (front ++ rest) ≡ Some rest
behind-again front rest = rw (take-append_seam front rest, drop-append_seam front rest, bytes_self front) refl

pub rest-found : (text : List ℕ) (p : List ℕ × List ℕ) → name_and_rest text ≡ Some p → (text ≡ p.0 ++ (34 ∷ 32 ∷ p.1)) × (is_name p.0 ≡ true)
rest-found text p e = by (is_name (before_first is_quote text)) refl (behind (codes "\" ") (drop (position_or_len is_quote text) text)) refl e
  where
    by : (b : Bool) → is_name (before_first is_quote text) ≡ b → (o : Option (List ℕ)) → behind (codes "\" ") (drop (position_or_len is_quote text) text) ≡ o
        → cond b (option_map (λ rest. (before_first is_quote text, rest)) o) None ≡ Some p → (text ≡ p.0 ++ (34 ∷ 32 ∷ p.1)) × (is_name p.0 ≡ true)
    by false t o f e = absurd cc
    by true t None f e = absurd cc
    by true t (Some rest) f e =
        let is : (let q : List ℕ × List ℕ = (before_first is_quote text, rest) in q) ≡ p = cc in
        let g = behind-found (codes "\" ") (drop (position_or_len is_quote text) text) rest f in
        subst (λ (q : List ℕ × List ℕ). (text ≡ q.0 ++ (34 ∷ 32 ∷ q.1)) × (is_name q.0 ≡ true)) is
        (sym (take-append-drop (position_or_len is_quote text) text) ∙ ap (λ (ys : List ℕ). before_first is_quote text ++ ys) g, t)

pub rest-again : (name rest : List ℕ) → is_name name ≡ true → name_and_rest (name ++ (34 ∷ 32 ∷ rest)) ≡ Some (name, rest)
rest-again name rest h =
    let at : position_or_len is_quote (name ++ (34 ∷ 32 ∷ rest)) ≡ length name = byte-after 34 name (32 ∷ rest) (quote-free-name name h) in
    rw (at, take-append_seam name (34 ∷ 32 ∷ rest), drop-append_seam name (34 ∷ 32 ∷ rest), h) refl
