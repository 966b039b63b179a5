-- Lines that are listed one by one are read exactly where they are the lines of what is read.
use Rattle.std.proofs.Common.{◌≡◌, ℕ, zero, suc, ◌+◌, ◌<◌, Bool, true, false, cond, List, [], ◌∷◌, ◌++◌}
use Rattle.std.proofs.{Common.{length, drop, get_or, Option, Some, None, Result, Ok, Err, refl, sym, ap, subst, ◌∙◌, append_assoc, arith}, Math.Seq.{drop-cons}}
use Rattle.std.proofs.lemmas.List.{length-append, append-nil, drop_all}
use Rattle.std.specs.{List.{join_with_byte}, Str.{bytes_eq}}
use Rattle.mdp_text.specs.{declared.error.Refusal.{Refusal}, Lines.{◌>>=◌, Place, place, next_line, line_by}, Spelling.{line, end_text}}
use Rattle.mdp_cert.specs.{Listed.{Listed}, Spelling.{listed_lines}, Reading.{listed_at, before_others, listed_from, listed_to_end}}
use Rattle.mdp_text.proofs.{Pieces.{Free}, Cuts.{bytes_same}, Feeds.{bind_ok, ok-is, Line, judged-found, judged-again}}

-- a line is read exactly where it is the text of what may stand there; that text is one line, and isn't `end`
pub record IsListed {A : Type 0} (k : Listed A) (states : ℕ) (IsNext : Option A → A → Type 0) : Type 0 where
  pub found : (before : Option A) (n : ℕ) (text : List ℕ) (x : A) → k.judge states before n text ≡ Ok x → (text ≡ join_with_byte 32 (k.words x)) × IsNext before x
  pub again : (before : Option A) (n : ℕ) (x : A) → IsNext before x → k.judge states before n (join_with_byte 32 (k.words x)) ≡ Ok x
  pub feeds : (before : Option A) (x : A) → IsNext before x → Free 10 (join_with_byte 32 (k.words x))
  pub other : (before : Option A) (x : A) → IsNext before x → bytes_eq (join_with_byte 32 (k.words x)) end_text ≡ false

-- each may stand behind the one before it
abbrev pub AreNext : {A : Type 0} → (Option A → A → Type 0) → Option A → List A → Type 0
AreNext P before [] = Unit {0}
AreNext P before (x ∷ xs) = P before x × AreNext P (Some x) xs

-- each line takes a byte
pub next-shorter : (p : Place) (text : List ℕ) (q : Place) → Line p text q → length q.rest < length p.rest
next-shorter p text q l = omega (arith, ap (λ (t : List ℕ). length t) l.front, length-append (line text) q.rest, length-append text (10 ∷ []))

line-shorter : {B : Type 0} (judge : ℕ → List ℕ → Result B Refusal) (p : Place) (x : B) (q : Place) → line_by judge p ≡ Ok (x, q) → length q.rest < length p.rest
line-shorter judge p x q e = let j = judged-found judge p x q e in next-shorter p j.text q j.is

module _ {A : Type 0} (k : Listed A) (states : ℕ) where
  -- ---- more lines than there are bytes make no difference

  same-others : (o : Option A) (p : Place) (f g : A → Result (List A × Place) Refusal) → ((x : A) → f x ≡ g x) → before_others o p f ≡ before_others o p g
  same-others None p f g same = refl
  same-others (Some x) p f g same = ap (λ (r : Result (List A × Place) Refusal). r >>= λ s. let q : Result (List A × Place) Refusal = Ok (x ∷ s.0, s.1) in q) (same x)

  pub enough : (a b : ℕ) (before : Option A) (p : Place) → length p.rest < a → length p.rest < b → listed_from a k states before p ≡ listed_from b k states before p
  unfolding listed_from
  enough zero b before p h i = absurd (omega arith)
  enough (suc a) zero before p h i = absurd (omega arith)
  enough (suc a) (suc b) before p h i = by (line_by (listed_at k states before) p) refl (λ x q. enough a b (Some x) q)
    where
      by : (r : Result (Option A × Place) Refusal) → line_by (listed_at k states before) p ≡ r
          → ((x : A) (q : Place) → length q.rest < a → length q.rest < b → listed_from a k states (Some x) q ≡ listed_from b k states (Some x) q)
          → (r >>= λ said. before_others said.0 said.1 (λ x. listed_from a k states (Some x) said.1)) ≡ (r >>= λ said. before_others said.0 said.1 (λ x. listed_from b k states (Some x) said.1))
      by (Err d) e more = refl
      by (Ok said) e more =
          let less = line-shorter (listed_at k states before) p said.0 said.1 e in
          same-others said.0 said.1 (λ x. listed_from a k states (Some x) said.1) (λ x. listed_from b k states (Some x) said.1)
          (λ x. more x said.1 (omega arith) (omega arith))

  -- ---- one more line: what was read so far, followed by what the other lines give

  abbrev pub onto : List A → Result (List A × Place) Refusal → Result (List A × Place) Refusal
  onto xs r = r >>= λ p. Ok (xs ++ p.0, p.1)

  pub first-line : (p : Place) → onto [] (listed_from (suc (length p.rest)) k states None p) ≡ listed_to_end k states p
  unfolding listed_to_end
  first-line p = by (listed_from (suc (length p.rest)) k states None p)
    where
      by : (r : Result (List A × Place) Refusal) → onto [] r ≡ r
      by (Ok q) = refl
      by (Err e) = refl

  onto-next : (xs : List A) (x : A) (r : Result (List A × Place) Refusal) → onto xs (r >>= λ s. Ok (x ∷ s.0, s.1)) ≡ onto (xs ++ x ∷ []) r
  onto-next xs x (Err e) = refl
  onto-next xs x (Ok p) = ap (λ (ys : List A). let q : Result (List A × Place) Refusal = Ok (ys, p.1) in q) (sym (append_assoc xs (x ∷ []) p.0))

  said-by : (before : Option A) (p q : Place) (text : List ℕ) (o : Option A) → next_line p ≡ Ok (text, q) → listed_at k states before p.line text ≡ Ok o
      → line_by (listed_at k states before) p ≡ Ok (o, q)
  said-by before p q text o line said = rw (line, said) refl

  pub next-line : (xs : List A) (before : Option A) (p q : Place) (text : List ℕ) (x : A) → next_line p ≡ Ok (text, q) → listed_at k states before p.line text ≡ Ok (Some x)
      → onto xs (listed_from (suc (length p.rest)) k states before p) ≡ onto (xs ++ x ∷ []) (listed_from (suc (length q.rest)) k states (Some x) q)
  unfolding listed_from
  next-line xs before p q text x line said =
      let both = said-by before p q text (Some x) line said in
      let less = line-shorter (listed_at k states before) p (Some x) q both in
      rw both (onto-next xs x (listed_from (length p.rest) k states (Some x) q)
      ∙ ap (onto (xs ++ x ∷ [])) (enough (length p.rest) (suc (length q.rest)) (Some x) q less (omega arith)))

  pub last-line : (xs : List A) (before : Option A) (p q : Place) (text : List ℕ) → next_line p ≡ Ok (text, q) → listed_at k states before p.line text ≡ Ok None
      → onto xs (listed_from (suc (length p.rest)) k states before p) ≡ Ok (xs, q)
  unfolding listed_from
  last-line xs before p q text line said =
      rw (said-by before p q text None line said) (ap (λ (ys : List A). let r : Result (List A × Place) Refusal = Ok (ys, q) in r) (append-nil xs))

  pub no-line : (xs : List A) (before : Option A) (p : Place) (e : Refusal) → next_line p ≡ Err e → onto xs (listed_from (suc (length p.rest)) k states before p) ≡ Err e
  unfolding listed_from
  no-line xs before p e line = rw line refl

  pub not-said : (xs : List A) (before : Option A) (p q : Place) (text : List ℕ) (e : Refusal) → next_line p ≡ Ok (text, q) → listed_at k states before p.line text ≡ Err e
      → onto xs (listed_from (suc (length p.rest)) k states before p) ≡ Err e
  unfolding listed_from
  not-said xs before p q text e line said = rw (line, said) refl

-- ---- a text that grows line by line

module _ {A : Type 0} (k : Listed A) where
  pub more-written : (out new total : List ℕ) (xs : List A) (i : ℕ) (x : A) → i < length xs → x ≡ get_or xs i x → out ++ listed_lines k (drop i xs) ≡ total
      → new ≡ out ++ line (join_with_byte 32 (k.words x)) → new ++ listed_lines k (drop (suc i) xs) ≡ total
  unfolding listed_lines
  more-written out new total xs i x lt is e made =
      let first : drop i xs ≡ x ∷ drop (suc i) xs = drop-cons xs i x lt ∙ ap (λ (y : A). y ∷ drop (suc i) xs) (sym is) in
      ap (λ (t : List ℕ). t ++ listed_lines k (drop (suc i) xs)) made
      ∙ append_assoc out (line (join_with_byte 32 (k.words x))) (listed_lines k (drop (suc i) xs))
      ∙ ap (λ (ys : List A). out ++ listed_lines k ys) (sym first) ∙ e

  pub all-written : (xs : List A) (n : ℕ) → length xs ≡ n → listed_lines k (drop n xs) ≡ line end_text
  unfolding listed_lines
  all-written xs n e = let none : drop n xs ≡ [] = drop_all n xs (omega arith) in rw none refl

module _ {A : Type 0} (k : Listed A) (states : ℕ) (IsNext : Option A → A → Type 0) (is : IsListed k states IsNext) where
  -- ---- what is read

  Said : Option A → List ℕ → Option A → Type 0
  Said before text None = text ≡ end_text
  Said before text (Some x) = (text ≡ join_with_byte 32 (k.words x)) × IsNext before x

  said-found : (before : Option A) (n : ℕ) (text : List ℕ) (o : Option A) → listed_at k states before n text ≡ Ok o → Said before text o
  unfolding listed_at Said
  said-found before n text o e = by (bytes_eq text end_text) refl e
    where
      by : (b : Bool) → bytes_eq text end_text ≡ b → cond b (let r : Result (Option A) Refusal = Ok None in r) (k.judge states before n text >>= λ x. Ok (Some x)) ≡ Ok o → Said before text o
      by true t e = let is-none : None ≡ o = ok-is None o e in subst (λ (z : Option A). Said before text z) is-none (bytes_same text end_text t)
      by false t e =
          let one = bind_ok (k.judge states before n text) (λ x. Ok (Some x)) o e in
          let same : Some one.0 ≡ o = ok-is (Some one.0) o one.2 in
          subst (λ (z : Option A). Said before text z) same (is.found before n text one.0 one.1)

  pub record Found (before : Option A) (p : Place) (xs : List A) (q : Place) : Type 0 where
    pub text : p.rest ≡ listed_lines k xs ++ q.rest
    pub next : AreNext IsNext before xs

  pub listed-found : (most : ℕ) (before : Option A) (p : Place) (xs : List A) (q : Place) → listed_from most k states before p ≡ Ok (xs, q) → Found before p xs q
  unfolding listed_from listed_lines Said
  listed-found zero before p xs q e = absurd cc
  listed-found (suc most) before p xs q e =
      let one = bind_ok (line_by (listed_at k states before) p) (λ said. before_others said.0 said.1 (λ x. listed_from most k states (Some x) said.1)) (xs, q) e in
      let j = judged-found (listed_at k states before) p one.0.0 one.0.1 one.1 in
      by one.0.1 one.0.0 j.text j.is.front (said-found before p.line j.text one.0.0 j.said) one.2 (λ x. listed-found most (Some x))
    where
      joined : (a t u r l z : List ℕ) → a ≡ line t ++ r → t ≡ u → r ≡ l ++ z → a ≡ (line u ++ l) ++ z
      joined a t u r l z e f g = rw (e, f, g) (sym (append_assoc (line u) l z))

      by : (r : Place) (o : Option A) (text : List ℕ) → p.rest ≡ line text ++ r.rest → Said before text o
          → before_others o r (λ x. listed_from most k states (Some x) r) ≡ Ok (xs, q)
          → ((x : A) (p : Place) (ys : List A) (z : Place) → listed_from most k states (Some x) p ≡ Ok (ys, z) → Found (Some x) p ys z) → Found before p xs q
      by r None text front said e more =
          let same : (let y : List A × Place = ([], r) in y) ≡ (xs, q) = ok-is _ _ e in
          subst (λ (y : List A × Place). Found before p y.0 y.1) same (record { text = front ∙ ap (λ (t : List ℕ). line t ++ r.rest) said; next = tt })
      by r (Some x) text front said e more =
          let two = bind_ok (listed_from most k states (Some x) r) (λ s. Ok (x ∷ s.0, s.1)) (xs, q) e in
          let same : (let y : List A × Place = (x ∷ two.0.0, two.0.1) in y) ≡ (xs, q) = ok-is _ _ two.2 in
          let f = more x r two.0.0 two.0.1 two.1 in
          subst (λ (y : List A × Place). Found before p y.0 y.1) same (record {
            text = joined p.rest text (join_with_byte 32 (k.words x)) r.rest (listed_lines k two.0.0) two.0.1.rest front said.0 f.text;
            next = (said.1, f.next);
          })

  pub to_end-found : (p : Place) (xs : List A) (q : Place) → listed_to_end k states p ≡ Ok (xs, q) → Found None p xs q
  unfolding listed_to_end
  to_end-found p xs q e = listed-found (suc (length p.rest)) None p xs q e

  -- ---- and back

  said-again : (before : Option A) (n : ℕ) (x : A) → IsNext before x → listed_at k states before n (join_with_byte 32 (k.words x)) ≡ Ok (Some x)
  unfolding listed_at
  said-again before n x h = rw (is.other before x h, is.again before n x h) refl

  end-again : (before : Option A) (n : ℕ) → listed_at k states before n end_text ≡ Ok None
  unfolding listed_at
  end-again before n = refl

  listed-again : (most : ℕ) (before : Option A) (n : ℕ) (xs : List A) (rest : List ℕ) → AreNext IsNext before xs → length xs < most
      → (m : ℕ) × (listed_from most k states before (place n (listed_lines k xs ++ rest)) ≡ Ok (xs, place m rest))
  unfolding listed_from listed_lines
  listed-again zero before n xs rest h lt = absurd (omega arith)
  listed-again (suc most) before n [] rest h lt = (n + 1, rw (judged-again (listed_at k states before) n end_text rest None refl (end-again before n)) refl)
  listed-again (suc most) before n (x ∷ xs) rest h lt =
      let r = listed-again most (Some x) (n + 1) xs rest h.1 (omega arith) in
      let text = join_with_byte 32 (k.words x) in (
        r.0,
        rw (
          append_assoc (line text) (listed_lines k xs) rest,
          judged-again (listed_at k states before) n text (listed_lines k xs ++ rest) (Some x) (is.feeds before x h.0) (said-again before n x h.0),
          r.1,
        ) refl,
      )

  -- each line has a byte
  pub count-lines : (xs : List A) → length xs < length (listed_lines k xs)
  unfolding listed_lines
  count-lines [] = omega arith
  count-lines (x ∷ xs) =
      omega (arith, count-lines xs, length-append (line (join_with_byte 32 (k.words x))) (listed_lines k xs), length-append (join_with_byte 32 (k.words x)) (10 ∷ []))

  pub to_end-again : (n : ℕ) (xs : List A) (rest : List ℕ) → AreNext IsNext None xs → (m : ℕ) × (listed_to_end k states (place n (listed_lines k xs ++ rest)) ≡ Ok (xs, place m rest))
  unfolding listed_to_end
  to_end-again n xs rest h =
      let more = count-lines xs in
      listed-again (suc (length (listed_lines k xs ++ rest))) None n xs rest h (omega (arith, more, length-append (listed_lines k xs) rest))
