-- Each line is read exactly where it is its text.
use Rattle.std.proofs.Common.{◌≡◌, ◌⊎◌, inl, inr, ℕ, ◌+◌, ◌<◌, ◌^◌, Bool, true, false, not, cond, eqb, ltb, ◌||◌, List, [], ◌∷◌, ◌++◌, length, take, drop}
use Rattle.std.proofs.Common.{get_or, decimal, Option, Some, None, Result, Ok, Err, refl, sym, ap, subst, ◌∙◌, append_assoc, arith, lit<, ℤ, pos, negsuc, unsigned_abs}
use Rattle.std.proofs.{lemmas.Bool.{not-false, both_ways, lt-ltb}, lemmas.Bool.Decides.{nat_tests}, lemmas.List.{length-append, get_or-take}}
use Rattle.std.proofs.{lemmas.List.Folds.{list_any_none, length-prefix_len}, lemmas.List.Sums.{split_at_first, passes_at_first, fails_before_first}}
use Rattle.std.proofs.Math.Seq.{take-append_seam, drop-append-add}
use Rattle.std.specs.{List.{position_or_len, before_first, after_first}, Option.{option_and_then, option_or}, Str.{bytes_eq}}
use Rattle.mdp_math.specs.{Gcd.{gcd-one_right}, Rational.{ℚ, ratio}}
use Rattle.mdp_math.proofs.Laws.{num-ratio, den-ratio}
use Rattle.mdp_num.specs.{Value.{spelling, IsNarrow}, Canonical.{canonical_of}}
use Rattle.mdp_num.proofs.Spellings.{sound, complete}
use Rattle.mdp_text.specs.{declared.error.CertKind.{CertKind}, declared.error.CertKind.TheVariants.{Number, End}, declared.error.Refusal.{Refusal}}
use Rattle.mdp_text.specs.{Lines.{◌>>=◌, refuse_if, or_refused, Place, place, next_line, line_by, is_line, is_line_feed, nothing_behind}, Spelling.{line}}
use Rattle.mdp_text.specs.Words.{whole_part, whole_of, whole_at, frac_at}
use Rattle.mdp_text.proofs.{Cuts.{guard_ok, bytes_same, bytes_self}, Pieces.{Free, whole-small}}

pub ok-is : {A : Type 0} (x y : A) → (let r : Result A Refusal = Ok x in r) ≡ Ok y → x ≡ y
ok-is x y e = cc

pub bind_ok : {A B : Type 0} (r : Result A Refusal) (f : A → Result B Refusal) (y : B) → (r >>= f) ≡ Ok y → (x : A) × (r ≡ Ok x) × (f x ≡ Ok y)
bind_ok (Ok x) f y e = (x, refl, e)
bind_ok (Err d) f y e = absurd cc

pub refuse_ok : (b : Bool) (kind : CertKind) (n : ℕ) (u : Unit {0}) → refuse_if kind n b ≡ Ok u → b ≡ false
refuse_ok true kind n u e = absurd cc
refuse_ok false kind n u e = refl

pub found_ok : {A : Type 0} (o : Option A) (kind : CertKind) (n : ℕ) (x : A) → or_refused kind n o ≡ Ok x → o ≡ Some x
found_ok None kind n x e = absurd cc
found_ok (Some y) kind n x e = cc

pub or-found : {A : Type 0} (a b : Option A) (x : A) → option_or a b ≡ Some x → (a ≡ Some x) ⊎ (b ≡ Some x)
or-found None b x e = inr e
or-found (Some y) b x e = inl e

-- ---- a line and its line feed

line-rest : (text rest : List ℕ) → line text ++ rest ≡ text ++ 10 ∷ rest
line-rest text rest = append_assoc text (10 ∷ []) rest

-- the first place of a byte that no byte before it is
pub byte-after : (c : ℕ) (text rest : List ℕ) → Free c text → position_or_len (λ x. eqb x c) (text ++ c ∷ rest) ≡ length text
byte-after c [] rest h = rw (itself c) refl
  where
    itself : (a : ℕ) → eqb a a ≡ true
    itself a = grind (arith, nat_tests)
byte-after c (x ∷ text) rest h = by (eqb x c) refl (λ free. byte-after c text rest free)
  where
    first-true : (a b : Bool) → a ≡ true → (a || b) ≡ false → true ≡ false
    first-true true b p q = q
    first-true false b p q = absurd cc

    second : (a b : Bool) → a ≡ false → (a || b) ≡ false → b ≡ false
    second false b p q = q
    second true b p q = absurd cc

    by : (b : Bool) → eqb x c ≡ b → (Free c text → position_or_len (λ x. eqb x c) (text ++ c ∷ rest) ≡ length text)
        → cond (not (eqb x c)) (1 + position_or_len (λ x. eqb x c) (text ++ c ∷ rest)) 0 ≡ length (x ∷ text)
    by true e more = absurd (let t : true ≡ false = first-true (eqb x c) _ e h in cc)
    by false e more = rw (e, more (second (eqb x c) _ e h)) (omega arith)

pub line-again : (n : ℕ) (text rest : List ℕ) → Free 10 text → next_line (place n (line text ++ rest)) ≡ Ok (text, place (n + 1) rest)
unfolding next_line
line-again n text rest h =
    let at = byte-after 10 text rest h in
    let more : ltb (length text) (length (text ++ 10 ∷ rest)) ≡ true =
    (let e = length-append text (10 ∷ rest) in let lt : length text < length (text ++ 10 ∷ rest) = omega arith in grind (arith, nat_tests)) in
    let front : take (length text) (text ++ 10 ∷ rest) ≡ text = take-append_seam text (10 ∷ rest) in
    let back : drop (length text + 1) (text ++ 10 ∷ rest) ≡ rest = drop-append-add text (10 ∷ rest) 1 in
    rw (line-rest text rest, at, more, front, back) refl

-- the next line of a text, and what stands behind it
pub record Line (p : Place) (text : List ℕ) (q : Place) : Type 0 where
  pub front : p.rest ≡ line text ++ q.rest
  pub free : Free 10 text
  pub number : q.line ≡ p.line + 1

pub line-found : (p : Place) (text : List ℕ) (q : Place) → next_line p ≡ Ok (text, q) → Line p text q
unfolding next_line
line-found p text q e =
    let bytes = p.rest in
    let g =
    guard_ok (ltb (position_or_len is_line_feed bytes) (length bytes)) (before_first is_line_feed bytes, place (p.line + 1) (after_first is_line_feed bytes)) (text, q)
    (record { kind = End; line = p.line }) e in
    let lt : position_or_len is_line_feed bytes < length bytes = (let t = g.0 in grind (arith, nat_tests)) in
    let feed : get_or bytes (position_or_len is_line_feed bytes) 0 ≡ 10 = (let t = passes_at_first is_line_feed bytes 0 lt in grind (arith, nat_tests)) in
    let front : before_first is_line_feed bytes ≡ text = ap (λ (r : List ℕ × Place). r.0) g.1 in
    let back : after_first is_line_feed bytes ≡ q.rest = ap (λ (r : List ℕ × Place). r.1.rest) g.1 in
    let count = length-prefix_len (λ c. not (is_line_feed c)) bytes in
    record {
      front = split_at_first is_line_feed bytes 0 lt ∙ parts _ text _ 10 _ q.rest front feed back ∙ sym (line-rest text q.rest);
      free = subst (λ (x : List ℕ). Free 10 x) front (list_any_none (λ c. eqb c 10) (before_first is_line_feed bytes) (λ k d lt.
          let below : k < position_or_len is_line_feed bytes = omega arith in
          let same = get_or-take (position_or_len is_line_feed bytes) bytes k d below in
          rw same (fails_before_first is_line_feed bytes k d below)));
      number = ap (λ (r : List ℕ × Place). r.1.line) (sym g.1);
    }
  where
    parts : (a b : List ℕ) (x y : ℕ) (c d : List ℕ) → a ≡ b → x ≡ y → c ≡ d → a ++ (x ∷ c) ≡ b ++ (y ∷ d)
    parts a b x y c d p q r = rw (p, q, r) refl

-- what the next line says
pub record Judged {A : Type 0} (judge : ℕ → List ℕ → Result A Refusal) (p : Place) (x : A) (q : Place) : Type 0 where
  pub text : List ℕ
  pub is : Line p text q
  pub said : judge p.line text ≡ Ok x

pub judged-found : {A : Type 0} (judge : ℕ → List ℕ → Result A Refusal) (p : Place) (x : A) (q : Place) → line_by judge p ≡ Ok (x, q) → Judged judge p x q
judged-found {A} judge p x q e =
    let one = bind_ok (next_line p) (λ next. judge p.line next.0 >>= λ said. Ok (said, next.1)) (x, q) e in
    let two = bind_ok (judge p.line one.0.0) (λ said. Ok (said, one.0.1)) (x, q) one.2 in
    let is = ok-is (two.0, one.0.1) (x, q) two.2 in
    let y : two.0 ≡ x = ap (λ (r : A × Place). r.0) is in
    let b : one.0.1 ≡ q = ap (λ (r : A × Place). r.1) is in
    record {
      text = one.0.0;
      is = subst (λ (r : Place). Line p one.0.0 r) b (line-found p one.0.0 one.0.1 one.1);
      said = two.1 ∙ ap (λ (z : A). let r : Result A Refusal = Ok z in r) y;
    }

pub judged-again : {A : Type 0} (judge : ℕ → List ℕ → Result A Refusal) (n : ℕ) (text rest : List ℕ) (x : A) → Free 10 text → judge n text ≡ Ok x
    → line_by judge (place n (line text ++ rest)) ≡ Ok (x, place (n + 1) rest)
judged-again judge n text rest x free e = rw (line-again n text rest free, e) refl

pub due-line : (kind : CertKind) (n : ℕ) (text due : List ℕ) (u : Unit {0}) → is_line kind due n text ≡ Ok u → text ≡ due
due-line kind n text due u e = bytes_same text due (not-false _ (refuse_ok (not (bytes_eq text due)) kind n u e))

pub due-again : (kind : CertKind) (n : ℕ) (due : List ℕ) → is_line kind due n due ≡ Ok tt
due-again kind n due = rw (bytes_self due) refl

-- ---- the end

none-is : (xs : List ℕ) → ltb 0 (length xs) ≡ false → xs ≡ []
none-is [] h = refl
none-is (x ∷ xs) h = absurd (both_ways _ h (lt-ltb 0 (length (x ∷ xs)) (omega arith)))

pub nothing-found : (p : Place) (u : Unit {0}) → nothing_behind p ≡ Ok u → p.rest ≡ []
unfolding nothing_behind
nothing-found p u e = none-is p.rest (refuse_ok _ End p.line u e)

-- ---- numbers

whole-is : (x : ℚ) (m : ℕ) → cond (eqb x.den 1) (whole_part x.num) None ≡ Some m → (x.den ≡ 1) × (x.num ≡ pos m) × (m < 2 ^ 32)
whole-is x m e = by (eqb x.den 1) refl x.num refl e
  where
    below : (k : ℕ) → cond (ltb k (2 ^ 32)) (Some k) None ≡ Some m → (k ≡ m) × (k < 2 ^ 32)
    below k e = at (ltb k (2 ^ 32)) refl e
      where
        at : (b : Bool) → ltb k (2 ^ 32) ≡ b → cond b (Some k) None ≡ Some m → (k ≡ m) × (k < 2 ^ 32)
        at true t e = (cc, grind (arith, nat_tests))
        at false t e = absurd cc

    by : (b : Bool) → eqb x.den 1 ≡ b → (z : ℤ) → x.num ≡ z → cond b (whole_part z) None ≡ Some m → (x.den ≡ 1) × (x.num ≡ pos m) × (m < 2 ^ 32)
    by true t (pos k) p e = let q = below k e in (grind (arith, nat_tests), p ∙ ap pos q.0, subst (λ (j : ℕ). j < 2 ^ 32) q.0 q.1)
    by true t (negsuc k) p e = absurd cc
    by false t z p e = absurd cc

spelled-whole : (x : ℚ) (m : ℕ) → x.den ≡ 1 → x.num ≡ pos m → spelling x ≡ decimal m
unfolding spelling
spelled-whole x m d n = rw (d, n) refl

pub whole-found : (n : ℕ) (word : List ℕ) (m : ℕ) → whole_at n word ≡ Ok m → (word ≡ decimal m) × (m < 2 ^ 32)
unfolding whole_at whole_of
whole-found n word m e = by (canonical_of word) refl (found_ok (whole_of word) Number n m e)
  where
    by : (o : Option ℚ) → canonical_of word ≡ o → (let part : ℚ → Option ℕ = λ x. cond (eqb x.den 1) (whole_part x.num) None in option_and_then part o) ≡ Some m
        → (word ≡ decimal m) × (m < 2 ^ 32)
    by None o e = absurd cc
    by (Some x) o e = let w = whole-is x m e in ((sound word x o).0 ∙ spelled-whole x m w.0 w.1, w.2)

pub whole-again : (n m : ℕ) → m < 2 ^ 32 → whole_at n (decimal m) ≡ Ok m
unfolding whole_at whole_of
whole-again n m lt =
    let x : ℚ = ratio (pos m) 1 in
    let num : x.num ≡ pos m = num-ratio (pos m) 1 (omega arith) (gcd-one_right m) in
    let den : x.den ≡ 1 = den-ratio (pos m) 1 (omega arith) (gcd-one_right m) in
    let narrow : IsNarrow x = record {
      top = subst (λ (z : ℤ). unsigned_abs z < 2 ^ 127) (sym num) (whole-small m lt);
      bottom = subst (λ (k : ℕ). k < 2 ^ 127) (sym den) (lit< tt);
    } in
    let read : canonical_of (decimal m) ≡ Some x = ap canonical_of (sym (spelled-whole x m den num)) ∙ complete x narrow in
    let below : ltb m (2 ^ 32) ≡ true = grind (arith, nat_tests) in
    rw (read, den, num, below) refl

pub frac-found : (n : ℕ) (word : List ℕ) (x : ℚ) → frac_at n word ≡ Ok x → (word ≡ spelling x) × IsNarrow x
unfolding frac_at
frac-found n word x e = sound word x (found_ok (canonical_of word) Number n x e)

pub frac-again : (n : ℕ) (x : ℚ) → IsNarrow x → frac_at n (spelling x) ≡ Ok x
unfolding frac_at
frac-again n x h = rw (complete x h) refl
