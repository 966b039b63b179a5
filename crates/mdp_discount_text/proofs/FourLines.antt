-- The lines of claim, states, init and remainder are read exactly where they are the texts of what is read, whatever the line `init` says.
use Rattle.std.proofs.Common.{◌≡◌, ℕ, ◌+◌, ◌≤◌, ◌^◌, true, List, ◌++◌, Result, Ok, refl, sym, ap, subst, ◌∙◌, append_assoc}
use Rattle.std.specs.Prelude.{codes}
use Rattle.mdp_math.specs.Rational.{ℚ}
use Rattle.mdp_num.specs.Value.{IsNarrow}
use Rattle.mdp_rows.specs.Name.{is_name}
use Rattle.mdp_text.specs.{declared.error.Refusal.{Refusal}, Heads.{Head, head_by}, Lines.{◌>>=◌, Place, place, line_by}, Spelling.{line, states_text}}
use Rattle.mdp_text.proofs.{Pieces.{Free}, Feeds.{bind_ok, ok-is, judged-found, judged-again}, States.{fraction-found, fraction-again, free-fraction}}
use Rattle.mdp_text.proofs.HeadLines as heads
use Rattle.mdp_discount_rules.specs.Rules.{IsFactor}
use Rattle.mdp_discount_text.specs.{Spelling.{claim_text, remainder_text}, Text.{Claim, is_factor, claim_at, remainder_at, DiscountHead, head_with}}
use Rattle.mdp_discount_text.proofs.{Factors.{factor-is, factor-yes}, ClaimLines.{claim-found, claim-again, free-claim}}

-- ---- the line of the remainder

remainder-found : (n : ℕ) (text : List ℕ) (k : ℚ) → remainder_at n text ≡ Ok k → (text ≡ remainder_text k) × IsNarrow k
unfolding remainder_at
remainder-found n text k e = fraction-found (codes "remainder") n text k e

remainder-again : (n : ℕ) (k : ℚ) → IsNarrow k → remainder_at n (remainder_text k) ≡ Ok k
unfolding remainder_at
remainder-again n k h = fraction-again (codes "remainder") n k refl h

free-remainder : (k : ℚ) → IsNarrow k → Free 10 (remainder_text k)
free-remainder k h = free-fraction (codes "remainder") k refl h

-- ---- the claim

abbrev pub text-of-claim : Claim → List ℕ
text-of-claim c = claim_text c.dir c.name c.factor

pub record IsClaim (c : Claim) : Type 0 where
  pub named : is_name c.name ≡ true
  pub factor : IsFactor c.factor
  pub factor_width : IsNarrow c.factor

factor-test : (f : ℚ) → IsFactor f → is_factor f ≡ true
factor-test f h = sym (factor-yes f h.at_least_zero h.below_one)

right-claim-found : (n : ℕ) (text : List ℕ) (c : Claim) → claim_at n text ≡ Ok c → (text ≡ text-of-claim c) × IsClaim c
right-claim-found n text c e =
    let f = claim-found n text c e in
    (f.spelled, record { named = f.named; factor = factor-is c.factor f.factor; factor_width = f.narrow })

-- ---- the four lines

module _ {I : Type 0} (init_at : ℕ → ℕ → List ℕ → Result I Refusal) (init_text : I → List ℕ) (IsInit : ℕ → I → Type 0) where
  -- the line `init` is read exactly where it is its text, and that is one line
  pub record AreInits : Type 0 where
    pub found : (states n : ℕ) (text : List ℕ) (i : I) → init_at states n text ≡ Ok i → (text ≡ init_text i) × IsInit states i
    pub again : (states n : ℕ) (i : I) → states ≤ 2 ^ 20 → IsInit states i → init_at states n (init_text i) ≡ Ok i
    pub free : (states : ℕ) (i : I) → states ≤ 2 ^ 20 → IsInit states i → Free 10 (init_text i)

  abbrev any-claim : Claim → ℕ → ℕ → List ℕ → Result I Refusal
  any-claim c = init_at

  abbrev of-states : Claim → ℕ → I → Type 0
  of-states c = IsInit

  forms : AreInits → heads.AreForms claim_at any-claim text-of-claim init_text IsClaim of-states
  forms are = record {
    claim_found = right-claim-found;
    claim_again = λ n c h. claim-again n c h.named h.factor_width (factor-test c.factor h.factor);
    claim_free = λ c h. free-claim c h.named h.factor_width;
    init_found = λ c. are.found;
    init_again = λ c. are.again;
    init_free = λ c. are.free;
  }

  pub record IsHead (h : DiscountHead I) : Type 0 where
    pub front : heads.IsHead claim_at any-claim text-of-claim init_text IsClaim of-states h.front
    pub remainder_width : IsNarrow h.remainder

  abbrev pub lines-of-head : DiscountHead I → List ℕ
  lines-of-head h =
      line (text-of-claim h.front.claim) ++ (line (states_text h.front.states) ++ (line (init_text h.front.init) ++ line (remainder_text h.remainder)))

  abbrev with-remainder : Head Claim I → ℚ × Place → Result (DiscountHead I × Place) Refusal
  with-remainder front r = Ok (record { front = front; remainder = r.0 }, r.1)

  abbrev with-front : Head Claim I × Place → Result (DiscountHead I × Place) Refusal
  with-front front = line_by remainder_at front.1 >>= with-remainder front.0

  pub record FoundHead (p : Place) (h : DiscountHead I) (q : Place) : Type 0 where
    pub text : p.rest ≡ lines-of-head h ++ q.rest
    pub is : IsHead h

  pub head-found : AreInits → (p : Place) (h : DiscountHead I) (q : Place) → head_with init_at p ≡ Ok (h, q) → FoundHead p h q
  head-found are p h q e =
      let one = bind_ok (head_by claim_at any-claim p) with-front (h, q) e in
      let two = bind_ok (line_by remainder_at one.0.1) (with-remainder one.0.0) (h, q) one.2 in
      let same : (let r : DiscountHead I × Place = (record { front = one.0.0; remainder = two.0.0 }, two.0.1) in r) ≡ (h, q) = ok-is _ _ two.2 in
      let f = heads.head-found claim_at any-claim text-of-claim init_text IsClaim of-states (forms are) p one.0.0 one.0.1 one.1 in
      let j = judged-found remainder_at one.0.1 two.0.0 two.0.1 two.1 in
      let r = remainder-found one.0.1.line j.text two.0.0 j.said in
      subst (λ (r : DiscountHead I × Place). FoundHead p r.0 r.1) same (record {
        text = joined p.rest (line (text-of-claim one.0.0.claim)) (line (states_text one.0.0.states)) (line (init_text one.0.0.init)) one.0.1.rest j.text (remainder_text two.0.0)
            two.0.1.rest f.text j.is.front r.0;
        is = record { front = f.is; remainder_width = r.1 };
      })
    where
      joined : (a c s i b t u d : List ℕ) → a ≡ (c ++ (s ++ i)) ++ b → b ≡ line t ++ d → t ≡ u → a ≡ (c ++ (s ++ (i ++ line u))) ++ d
      joined a c s i b t u d p q r = rw (p, q, r) (simp append_assoc)

  pub head-again : AreInits → (n : ℕ) (h : DiscountHead I) (rest : List ℕ) → IsHead h → head_with init_at (place n (lines-of-head h ++ rest)) ≡ Ok (h, place (n + 1 + 1 + 1 + 1) rest)
  head-again are n h rest ok =
      let r : List ℕ = line (remainder_text h.remainder) ++ rest in
      ap (λ (t : List ℕ). head_by claim_at any-claim (place n t) >>= with-front)
      (apart (line (text-of-claim h.front.claim)) (line (states_text h.front.states)) (line (init_text h.front.init)) (line (remainder_text h.remainder)) rest)
      ∙ ap (λ (x : Result (Head Claim I × Place) Refusal). x >>= with-front)
      (heads.head-again claim_at any-claim text-of-claim init_text IsClaim of-states (forms are) n h.front r ok.front)
      ∙ ap (λ (x : Result (ℚ × Place) Refusal). x >>= with-remainder h.front)
      (judged-again remainder_at (n + 1 + 1 + 1) (remainder_text h.remainder) rest h.remainder (free-remainder h.remainder ok.remainder_width)
      (remainder-again (n + 1 + 1 + 1) h.remainder ok.remainder_width))
    where
      apart : (c s i r b : List ℕ) → (c ++ (s ++ (i ++ r))) ++ b ≡ (c ++ (s ++ i)) ++ (r ++ b)
      apart c s i r b = simp append_assoc
