-- Lines that are read one after another, whatever their numbers are.
use Rattle.std.proofs.Common.{◌≡◌, ℕ, ◌+◌, ◌≤◌, Bool, false, cond, ltb, eqb, List, [], ◌∷◌, ◌++◌, length, refl, ap, ◌∙◌, arith, Option, Ok}
use Rattle.std.proofs.lemmas.Bool.Decides.{nat_tests}
use Rattle.mdp_rows.specs.{Draft.{Draft}, declared.rule.RowRule.TheVariants.{Exact}}
use Rattle.mdp_drn.specs.{Lines.{content, is_comment}, Outcome.{◌>>=◌}, Body.{Body, model_line}}
use Rattle.mdp_drn.specs.Reading.{Part, InModel, Document, named, longest_line, kept_line, at_line, after_lines}
use Rattle.mdp_drn.proofs.PiecesFed.StandGrows.{after_lines-append}

abbrev pub doc : ℕ → Part → Document
doc n part = record { lines = n; part = part }

pub at-line : (n : ℕ) (bytes text : List ℕ) (part next : Part) → length bytes ≤ 65536 → content bytes ≡ text → is_comment text ≡ false → kept_line Exact (named (n + 1)) text part ≡ Ok next
    → at_line Exact (doc n part) bytes ≡ Ok (doc (named (n + 1)) next)
unfolding at_line
at-line n bytes text part next short is kept e =
    let few : ltb longest_line (length bytes) ≡ false = grind (arith, nat_tests) in
    rw (few, is, kept, e) refl

-- ---- in the header

-- from any line on, these lines lead from one part to another
pub record Reaches (p : Part) (lines : List (List ℕ)) (q : Part) : Type 0 where
  pub from : (n : ℕ) → (k : ℕ) × (after_lines Exact (doc n p) lines ≡ Ok (doc k q))

pub reaches-none : (p : Part) → Reaches p [] p
reaches-none p = record { from = λ n. (n, refl) }

pub reaches-line : (bytes text : List ℕ) (lines : List (List ℕ)) (p q r : Part) → length bytes ≤ 65536
    → content bytes ≡ text → is_comment text ≡ false → ((line : ℕ) → kept_line Exact line text p ≡ Ok q)
    → Reaches q lines r → Reaches p (bytes ∷ lines) r
reaches-line bytes text lines p q r short is kept e rest = record {
  from = λ n. (let next = rest.from (named (n + 1)) in (next.0, ap (λ x. x >>= λ d. after_lines Exact d lines) (at-line n bytes text p q short is kept (e (named (n + 1)))) ∙ next.1));
}

-- ---- in the model

abbrev pub body : Draft → ℕ → ℕ → Body
body d s a = record { draft = d; is_chain = false; state_line = s; action_line = a }

-- from any line on, these lines lead from one draft to another
pub record Makes (choices : Option ℕ) (d : Draft) (lines : List (List ℕ)) (e : Draft) : Type 0 where
  pub from : (n s a : ℕ) → (k : ℕ) × (t : ℕ) × (b : ℕ) × (after_lines Exact (doc n (InModel choices (body d s a))) lines ≡ Ok (doc k (InModel choices (body e t b))))

pub makes-none : (choices : Option ℕ) (d : Draft) → Makes choices d [] d
makes-none choices d = record { from = λ n s a. (n, s, a, refl) }

pub makes-then : (choices : Option ℕ) (d e f : Draft) (xs ys : List (List ℕ)) → Makes choices d xs e → Makes choices e ys f → Makes choices d (xs ++ ys) f
makes-then choices d e f xs ys h k = record {
  from = λ n s a.
      (let p = h.from n s a in
      let q = k.from p.0 p.1 p.2 in
      (q.0, q.1, q.2, after_lines-append Exact (doc n (InModel choices (body d s a))) xs ys ∙ ap (λ x. x >>= λ e. after_lines Exact e ys) p.3 ∙ q.3));
}

-- one line, which isn't blank
pub makes-line : (choices : Option ℕ) (bytes text : List ℕ) (d e : Draft) → length bytes ≤ 65536 → content bytes ≡ text → is_comment text ≡ false → eqb (length text) 0 ≡ false
    → ((number s a : ℕ) → (t : ℕ) × (b : ℕ) × (model_line (body d s a) number text ≡ Ok (body e t b))) → Makes choices d (bytes ∷ []) e
makes-line choices bytes text d e short is kept some made = record {
  from = λ n s a.
      (let m = made (named (n + 1)) s a in
      let k : kept_line Exact (named (n + 1)) text (InModel choices (body d s a)) ≡ Ok (InModel choices (body e m.0 m.1)) =
      ap (λ (b : Bool). cond b (Ok (InModel choices (body d s a))) (model_line (body d s a) (named (n + 1)) text >>= λ read. Ok (InModel choices read))) some
      ∙ ap (λ x. x >>= λ read. Ok (InModel choices read)) m.2 in
      (named (n + 1), m.0, m.1, ap (λ x. x >>= λ d. after_lines Exact d []) (at-line n bytes text (InModel choices (body d s a)) (InModel choices (body e m.0 m.1)) short is kept k)));
}
