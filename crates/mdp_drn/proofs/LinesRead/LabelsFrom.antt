-- Labels, read one after the other.
use Rattle.std.proofs.Common.{◌≡◌, ℕ, zero, suc, ◌-◌, ◌<◌, ◌≤◌, Bool, true, false, cond, ltb, leb, not, min, ◌==◌, ◌||◌, ◌&&◌, length-take, List, []}
use Rattle.std.proofs.{Common.{◌∷◌, ◌++◌, length, Result, Ok, Err, refl, sym, ap, ◌∙◌, append_assoc, arith, length-drop}, lemmas.List.{append-nil}}
use Rattle.std.proofs.{lemmas.List.Sums.{prefix_len-le-length}, lemmas.Bool.Decides.{nat_tests}}
use Rattle.std.specs.{List.{prefix_len}}
use Rattle.mdp_drn.specs.{declared.error.DrnKind.{DrnKind}, declared.error.DrnKind.TheVariants.{Label}, Lines.{is_blank, without_blanks_before}}
use Rattle.mdp_drn.specs.Labels.{is_quote, before_first, from_first, quoted_at, quoted, bare, label_at, labels_within, labels_in, is_sized, begins_blank}
use Rattle.mdp_drn.specs.{Outcome.{◌>>=◌}, Parsing.{first_label}}

-- the labels of bytes without blanks before them
abbrev pub labels_from : List ℕ → Result (List (List ℕ)) DrnKind
labels_from bytes = labels_within (suc (length bytes)) bytes

-- a label leaves fewer bytes
abbrev Leaves : ℕ → Result (List ℕ × List ℕ) DrnKind → Type 0
Leaves n r = (name rest : List ℕ) → r ≡ Ok (name, rest) → length rest ≤ n

abbrev behind_of : Result (List ℕ × List ℕ) DrnKind → List ℕ
behind_of (Ok p) = p.1
behind_of (Err e) = []

cond-leaves : (n : ℕ) (b : Bool) (name rest : List ℕ) (e : DrnKind) → length rest ≤ n → Leaves n (cond b (Ok (name, rest)) (Err e))
cond-leaves n true name rest e le x y is = let k : rest ≡ y = ap behind_of is in omega (arith, ap length k)
cond-leaves n false name rest e le x y is = absurd cc

quoted-leaves : (bytes : List ℕ) → Leaves (length bytes) (quoted bytes)
quoted-leaves bytes = by (from_first is_quote bytes)
    (let e : length (from_first is_quote bytes) ≡ length bytes - prefix_len (λ c. not (is_quote c)) bytes = length-drop (prefix_len (λ c. not (is_quote c)) bytes) bytes in omega arith)
  where
    by : (behind : List ℕ) → length behind ≤ length bytes → Leaves (length bytes) (quoted_at (before_first is_quote bytes) behind)
    by [] le x y is = absurd cc
    by (quote ∷ rest) le x y is =
        cond-leaves (length bytes) (is_sized (before_first is_quote bytes) && ((length rest == 0) || begins_blank rest)) (before_first is_quote bytes) rest Label (omega arith) x y is

abbrev bare_len : List ℕ → ℕ
bare_len bytes = prefix_len (λ c. not (is_blank c)) bytes

-- a bare label has a byte
bare-leaves : (bytes : List ℕ) (n : ℕ) → length bytes ≤ suc n → Leaves n (bare bytes)
bare-leaves bytes n le = by (length (before_first is_blank bytes)) _ (length-before)
  where
    length-before : length (before_first is_blank bytes) ≡ bare_len bytes
    length-before = let e : length (before_first is_blank bytes) ≡ min (bare_len bytes) (length bytes) = length-take
        (bare_len bytes) bytes in omega (arith, prefix_len-le-length (λ c. not (is_blank c)) bytes)

    by : (k : ℕ) (plain : Bool) → k ≡ bare_len bytes → Leaves n (cond ((ltb 0 k && leb k 255) && plain) (Ok (before_first is_blank bytes, from_first is_blank bytes)) (Err Label))
    by zero plain is x y h = absurd cc
    by (suc k) plain is x y h = cond-leaves n _ (before_first is_blank bytes) (from_first is_blank bytes) Label
        (let e : length (from_first is_blank bytes) ≡ length bytes - bare_len bytes = length-drop (bare_len bytes) bytes in omega arith) x y h

label-leaves : (c : ℕ) (bytes : List ℕ) → Leaves (length bytes) (label_at c bytes)
label-leaves c bytes = by (is_quote c)
  where
    by : (b : Bool) → Leaves (length bytes) (cond b (quoted bytes) (bare (c ∷ bytes)))
    by true = quoted-leaves bytes
    by false = bare-leaves (c ∷ bytes) (length bytes) (omega arith)

-- blanks before them go
pub length-trimmed : (bytes : List ℕ) → length (without_blanks_before bytes) ≤ length bytes
length-trimmed bytes = omega (arith, length-drop (prefix_len is_blank bytes) bytes)

enough : (m n : ℕ) (bytes : List ℕ) → length bytes < m → length bytes < n → labels_within m bytes ≡ labels_within n bytes
enough zero n bytes lt more = absurd (omega arith)
enough (suc m) zero bytes lt more = absurd (omega arith)
enough (suc m) (suc n) [] lt more = refl
enough (suc m) (suc n) (c ∷ bytes) lt more = by (label_at c bytes) (label-leaves c bytes) (λ rest le. enough m n rest (omega arith) (omega arith))
  where
    by : (r : Result (List ℕ × List ℕ) DrnKind) → Leaves (length bytes) r → ((rest : List ℕ) → length rest ≤ length bytes → labels_within m rest ≡ labels_within n rest)
        → (r >>= λ label. labels_within m (without_blanks_before label.1) >>= λ others. Ok (label.0 ∷ others)) ≡
        (r >>= λ label. labels_within n (without_blanks_before label.1) >>= λ others. Ok (label.0 ∷ others))
    by (Ok l) leaves rest =
        ap (λ (r : Result (List (List ℕ)) DrnKind). r >>= λ others. Ok (l.0 ∷ others)) (rest (without_blanks_before l.1) (omega (arith, leaves l.0 l.1 refl, length-trimmed l.1)))
    by (Err e) leaves rest = refl

-- the first label, and those of the bytes behind it
from-step : (c : ℕ) (bytes : List ℕ) → labels_from (c ∷ bytes) ≡ (label_at c bytes >>= λ label. labels_from (without_blanks_before label.1) >>= λ others. Ok (label.0 ∷ others))
from-step c bytes = by (label_at c bytes) (label-leaves c bytes)
  where
    by : (r : Result (List ℕ × List ℕ) DrnKind) → Leaves (length bytes) r
        → (r >>= λ label. labels_within (suc (length bytes)) (without_blanks_before label.1) >>= λ others. Ok (label.0 ∷ others)) ≡
        (r >>= λ label. labels_from (without_blanks_before label.1) >>= λ others. Ok (label.0 ∷ others))
    by (Ok l) leaves = ap (λ (r : Result (List (List ℕ)) DrnKind). r >>= λ others. Ok (l.0 ∷ others))
        (enough (suc (length bytes)) (suc (length (without_blanks_before l.1))) (without_blanks_before l.1) (omega (arith, leaves l.0 l.1 refl, length-trimmed l.1)) (omega arith))
    by (Err e) leaves = refl

-- ---- with the labels so far

abbrev pub LabelsFrom : List ℕ → List ℕ → List (List ℕ) → Type 0
LabelsFrom all rest done = labels_from all ≡ (labels_from rest >>= λ others. Ok (done ++ others))

pub no_label_done : (all : List ℕ) → LabelsFrom all all []
no_label_done all = by (labels_from all)
  where
    by : (r : Result (List (List ℕ)) DrnKind) → r ≡ (r >>= λ others. Ok ([] ++ others))
    by (Ok x) = refl
    by (Err e) = refl

pub label_done : (all rest name behind : List ℕ) (done : List (List ℕ)) → 0 < length rest → first_label rest ≡ Ok (name, behind)
    → LabelsFrom all rest done → LabelsFrom all (without_blanks_before behind) (done ++ name ∷ [])
label_done all [] name behind done some is so_far = absurd (omega arith)
label_done all (c ∷ bytes) name behind done some is so_far = so_far
    ∙ ap (λ (r : Result (List (List ℕ)) DrnKind). r >>= λ others. Ok (done ++ others))
    (from-step c bytes ∙ ap (λ (r : Result (List ℕ × List ℕ) DrnKind). r >>= λ label. labels_from (without_blanks_before label.1) >>= λ others. Ok (label.0 ∷ others)) is)
    ∙ by (labels_from (without_blanks_before behind))
  where
    by : (r : Result (List (List ℕ)) DrnKind) → ((r >>= λ others. Ok (name ∷ others)) >>= λ others. Ok (done ++ others)) ≡ (r >>= λ others. Ok ((done ++ name ∷ []) ++ others))
    by (Ok xs) = ap (λ (ys : List (List ℕ)). Ok ys) (sym (append_assoc done (name ∷ []) xs))
    by (Err e) = refl

pub label_fails : (all rest : List ℕ) (done : List (List ℕ)) (e : DrnKind) → 0 < length rest → first_label rest ≡ Err e → LabelsFrom all rest done → labels_from all ≡ Err e
label_fails all [] done e some is so_far = absurd (omega arith)
label_fails all (c ∷ bytes) done e some is so_far = so_far
    ∙ ap (λ (r : Result (List (List ℕ)) DrnKind). r >>= λ others. Ok (done ++ others))
    (from-step c bytes ∙ ap (λ (r : Result (List ℕ × List ℕ) DrnKind). r >>= λ label. labels_from (without_blanks_before label.1) >>= λ others. Ok (label.0 ∷ others)) is)

pub labels_done : (all : List ℕ) (done : List (List ℕ)) → LabelsFrom all [] done → labels_from all ≡ Ok done
labels_done all done so_far = so_far ∙ ap (λ (ys : List (List ℕ)). Ok ys) (append-nil done)

-- each label takes a byte
pub label-takes : (rest name behind : List ℕ) → 0 < length rest → first_label rest ≡ Ok (name, behind) → length (without_blanks_before behind) < length rest
label-takes [] name behind some is = absurd (omega arith)
label-takes (c ∷ bytes) name behind some is = omega (arith, label-leaves c bytes name behind is, length-trimmed behind)

-- a label's byte count, as tests
pub some-left : (n : ℕ) (b : Bool) → b ≡ (n == 0) → b ≡ false → 0 < n
some-left n b is none = grind (arith, nat_tests)

pub labels_in-from : (bytes : List ℕ) → labels_in bytes ≡ labels_from (without_blanks_before bytes)
unfolding labels_in
labels_in-from bytes = enough (suc (length bytes)) (suc (length (without_blanks_before bytes))) (without_blanks_before bytes) (omega (arith, length-trimmed bytes)) (omega arith)

pub none-left : (xs : List ℕ) (b : Bool) → b ≡ (length xs == 0) → b ≡ true → xs ≡ []
none-left [] b is some = refl
none-left (x ∷ xs) b is some = let e : length (x ∷ xs) ≡ 0 = grind (arith, nat_tests) in absurd (omega arith)
