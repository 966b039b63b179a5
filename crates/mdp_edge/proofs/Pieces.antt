-- Two pieces, one behind the other, are one piece.
use Rattle.std.proofs.{Common.{◌≡◌, ℕ, ◌+◌, ◌-◌, List, length, ◌++◌, take, drop, Option, Some, None, refl, sym, ap, ◌∙◌, append_assoc}, Math.Seq.{take-add}}
use Rattle.std.proofs.lemmas.List.{take_rest}
use Rattle.std.specs.Io.KnownBytes.{prepend_known, append_known}
use Rattle.mdp_edge.specs.Bytes.{Gave, Took}

prepend_known-twice : (x y : List ℕ) (known : Option (List ℕ)) → prepend_known x (prepend_known y known) ≡ prepend_known (x ++ y) known
prepend_known-twice x y None = refl
prepend_known-twice x y (Some left) = ap (λ z. Some z) (sym (append_assoc x y left))

append_known-twice : (known : Option (List ℕ)) (x y : List ℕ) → append_known (append_known known x) y ≡ append_known known (x ++ y)
append_known-twice None x y = refl
append_known-twice (Some taken) x y = ap (λ z. Some z) (append_assoc taken x y)

pub gave_both : (first then last : Option (List ℕ)) (x y : List ℕ) → Gave first then x → Gave then last y → Gave first last (x ++ y)
gave_both first then last x y gave more = gave ∙ ap (prepend_known x) more ∙ prepend_known-twice x y last

pub took_both : (first then last : Option (List ℕ)) (x y : List ℕ) → Took first then x → Took then last y → Took first last (x ++ y)
took_both first then last x y took more = more ∙ ap (λ (known : Option (List ℕ)). append_known known y) took ∙ append_known-twice first x y

-- a sink that had taken the first `done` bytes takes `count` of the rest
pub took_next : (first then last : Option (List ℕ)) (bytes : List ℕ) (done count : ℕ) → Took first then (take done bytes) → Took then last (take count (take (length bytes - done) (drop done bytes)))
    → Took first last (take (done + count) bytes)
took_next first then last bytes done count took more =
    rw (take-add done count bytes) (took_both first then last (take done bytes) (take count (drop done bytes)) took (rw (take_rest bytes done) at more))
