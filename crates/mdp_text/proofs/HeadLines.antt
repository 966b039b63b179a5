-- The lines of claim, states and init are read exactly where they are the texts of what is read.
use Rattle.std.proofs.Common.{◌≡◌, ℕ, ◌+◌, ◌<◌, ◌≤◌, ◌^◌, List, ◌++◌, Result, Ok, sym, ap, subst, ◌∙◌, append_assoc}
use Rattle.mdp_text.specs.{declared.error.Refusal.{Refusal}, Lines.{◌>>=◌, Place, place, line_by}, Heads.{states_at, Head, head_by}}
use Rattle.mdp_text.specs.Spelling.{line, states_text}
use Rattle.mdp_text.proofs.{Pieces.{Free}, Feeds.{bind_ok, ok-is, judged-found, judged-again}, States.{states-found, states-again, free-states}}

-- what is read behind the line of the claim, and behind that of the number of states
module _ {C I : Type 0} (init_at : C → ℕ → ℕ → List ℕ → Result I Refusal) where
  abbrev pub with-init : C → ℕ → I × Place → Result (Head C I × Place) Refusal
  with-init claim states init = Ok (record { claim = claim; states = states; init = init.0 }, init.1)

  abbrev pub with-states : C → ℕ × Place → Result (Head C I × Place) Refusal
  with-states claim states = line_by (init_at claim states.0) states.1 >>= with-init claim states.0

  abbrev pub with-claim : C × Place → Result (Head C I × Place) Refusal
  with-claim claim = line_by states_at claim.1 >>= with-states claim.0

-- how the lines of claim and init are judged and spelled, and which claims and initial states have a text
module _ {C I : Type 0} (claim_at : ℕ → List ℕ → Result C Refusal) (init_at : C → ℕ → ℕ → List ℕ → Result I Refusal) (claim_text : C → List ℕ) (init_text : I → List ℕ)
    (IsClaim : C → Type 0) (IsInit : C → ℕ → I → Type 0) where
  -- each of the two lines is read exactly where it is its text, and that is one line
  pub record AreForms : Type 0 where
    pub claim_found : (n : ℕ) (text : List ℕ) (c : C) → claim_at n text ≡ Ok c → (text ≡ claim_text c) × IsClaim c
    pub claim_again : (n : ℕ) (c : C) → IsClaim c → claim_at n (claim_text c) ≡ Ok c
    pub claim_free : (c : C) → IsClaim c → Free 10 (claim_text c)
    pub init_found : (c : C) (states n : ℕ) (text : List ℕ) (i : I) → init_at c states n text ≡ Ok i → (text ≡ init_text i) × IsInit c states i
    pub init_again : (c : C) (states n : ℕ) (i : I) → states ≤ 2 ^ 20 → IsInit c states i → init_at c states n (init_text i) ≡ Ok i
    pub init_free : (c : C) (states : ℕ) (i : I) → states ≤ 2 ^ 20 → IsInit c states i → Free 10 (init_text i)

  pub record IsHead (h : Head C I) : Type 0 where
    pub some : 0 < h.states
    pub limit : h.states ≤ 2 ^ 20
    pub claim : IsClaim h.claim
    pub init : IsInit h.claim h.states h.init

  abbrev pub lines-of-head : Head C I → List ℕ
  lines-of-head h = line (claim_text h.claim) ++ (line (states_text h.states) ++ line (init_text h.init))

  pub record FoundHead (p : Place) (h : Head C I) (q : Place) : Type 0 where
    pub text : p.rest ≡ lines-of-head h ++ q.rest
    pub is : IsHead h

  pub head-found : AreForms → (p : Place) (h : Head C I) (q : Place) → head_by claim_at init_at p ≡ Ok (h, q) → FoundHead p h q
  head-found are p h q e =
      let one = bind_ok (line_by claim_at p) (with-claim init_at) (h, q) e in
      let two = bind_ok (line_by states_at one.0.1) (with-states init_at one.0.0) (h, q) one.2 in
      let three = bind_ok (line_by (init_at one.0.0 two.0.0) two.0.1) (with-init init_at one.0.0 two.0.0) (h, q) two.2 in
      let same : (let r : Head C I × Place = (record { claim = one.0.0; states = two.0.0; init = three.0.0 }, three.0.1) in r) ≡ (h, q) = ok-is _ _ three.2 in
      let c = judged-found claim_at p one.0.0 one.0.1 one.1 in
      let s = judged-found states_at one.0.1 two.0.0 two.0.1 two.1 in
      let i = judged-found (init_at one.0.0 two.0.0) two.0.1 three.0.0 three.0.1 three.1 in
      let claim = are.claim_found p.line c.text one.0.0 c.said in
      let states = states-found one.0.1.line s.text two.0.0 s.said in
      let init = are.init_found one.0.0 two.0.0 two.0.1.line i.text three.0.0 i.said in
      subst (λ (r : Head C I × Place). FoundHead p r.0 r.1) same (record {
        text = joined p.rest one.0.1.rest two.0.1.rest three.0.1.rest c.text s.text i.text (claim_text one.0.0) (states_text two.0.0) (init_text three.0.0)
            c.is.front s.is.front i.is.front claim.0 states.0 init.0;
        is = record { some = states.1; limit = states.2; claim = claim.1; init = init.1 };
      })
    where
      joined : (a b c d t u v x y z : List ℕ) → a ≡ line t ++ b → b ≡ line u ++ c → c ≡ line v ++ d → t ≡ x → u ≡ y → v ≡ z → a ≡ (line x ++ (line y ++ line z)) ++ d
      joined a b c d t u v x y z p q r i j k =
          rw (p, q, r, i, j, k) (sym (append_assoc (line x) (line y ++ line z) d ∙ ap (λ (w : List ℕ). line x ++ w) (append_assoc (line y) (line z) d)))

  pub head-again : AreForms → (n : ℕ) (h : Head C I) (rest : List ℕ) → IsHead h → head_by claim_at init_at (place n (lines-of-head h ++ rest)) ≡ Ok (h, place (n + 1 + 1 + 1) rest)
  head-again are n h rest ok =
      let i : List ℕ = line (init_text h.init) ++ rest in
      rw (
        append_assoc (line (claim_text h.claim)) (line (states_text h.states) ++ line (init_text h.init)) rest,
        append_assoc (line (states_text h.states)) (line (init_text h.init)) rest,
      ) (
      ap (λ (r : Result (C × Place) Refusal). r >>= with-claim init_at)
      (judged-again claim_at n (claim_text h.claim) (line (states_text h.states) ++ i) h.claim (are.claim_free h.claim ok.claim) (are.claim_again n h.claim ok.claim))
      ∙ ap (λ (r : Result (ℕ × Place) Refusal). r >>= with-states init_at h.claim)
      (judged-again states_at (n + 1) (states_text h.states) i h.states (free-states h.states ok.limit) (states-again (n + 1) h.states ok.some ok.limit))
      ∙ ap (λ (r : Result (I × Place) Refusal). r >>= with-init init_at h.claim h.states)
      (judged-again (init_at h.claim h.states) (n + 1 + 1) (init_text h.init) rest h.init (are.init_free h.claim h.states h.init ok.limit ok.init)
      (are.init_again h.claim h.states (n + 1 + 1) h.init ok.limit ok.init))
      )
