-- The text of a certificate of bounds of a subsystem is read exactly where it is the text of what is read.
use Rattle.std.proofs.{Common.{◌≡◌, ℕ, ◌+◌, ◌<◌, ◌≤◌, ◌^◌, List, [], ◌++◌, length, Result, Ok, refl, sym, ap, subst, ◌∙◌, append_assoc, lt-ltb}, lemmas.List.{append-nil}}
use Rattle.mdp_text.specs.{declared.error.CertKind.TheVariants.{Version}, declared.error.Refusal.{Refusal}, declared.init.Init.TheVariants.{Start}}
use Rattle.mdp_text.specs.{Lines.{◌>>=◌, is_line, Place, place, line_by, nothing_behind}, Spelling.{line, states_text, init_text}}
use Rattle.mdp_text.proofs.{Feeds.{bind_ok, ok-is, judged-found, judged-again, due-line, due-again, nothing-found}, Exact.{FoundText}}
use Rattle.mdp_cert.specs.BoundsSpelling.{version_text}
use Rattle.mdp_check.specs.Initial.{start_of}
use Rattle.mdp_subsystem_bounds.specs.{Cert.{Lists, Certificate, states_in, Fits}, Spelling.{start_text, lists_text, text_of}, Reading.{SubsystemHead, head_from, lists_from, outcome}}
use Rattle.mdp_subsystem_bounds.proofs.{Heads.{text-of-claim, start-line, start-inside, lines-of-head, head-found, head-again}, Bodies.{lists-found, lists-again}}

abbrev whole : SubsystemHead → Lists → Certificate
whole h l = record { claim = h.claim; start = start_of h.init; lists = l }

abbrev after-lists : SubsystemHead → Lists × Place → Result Certificate Refusal
after-lists h lists = nothing_behind lists.1 >>= λ nothing. Ok (whole h lists.0)

abbrev after-head : SubsystemHead × Place → Result Certificate Refusal
after-head head = lists_from head.0.claim.dir head.0.states head.1 >>= after-lists head.0

abbrev after-version : (Unit {0}) × Place → Result Certificate Refusal
after-version version = head_from version.1 >>= after-head

abbrev pub FoundCert : List ℕ → Certificate → Type 0
FoundCert = FoundText outcome Fits text_of

pub cert-found : (bytes : List ℕ) (c : Certificate) → outcome bytes ≡ Ok c → FoundCert bytes c
unfolding outcome text_of
cert-found bytes c e =
    let one = bind_ok (line_by (is_line Version version_text) (place 1 bytes)) after-version c e in
    let head = bind_ok (head_from one.0.1) after-head c one.2 in
    let body = bind_ok (lists_from head.0.0.claim.dir head.0.0.states head.0.1) (after-lists head.0.0) c head.2 in
    let end = bind_ok (nothing_behind body.0.1) (λ nothing. Ok (whole head.0.0 body.0.0)) c body.2 in
    let j = judged-found (is_line Version version_text) (place 1 bytes) one.0.0 one.0.1 one.1 in
    let h = head-found one.0.1 head.0.0 head.0.1 head.1 in
    let l = lists-found head.0.0.claim.dir head.0.0.states head.0.1 body.0.0 body.0.1 h.is.limit body.1 in
    let k = l.are.lower in
    subst (FoundCert bytes) (ok-is (whole head.0.0 body.0.0) c end.2) (record {
      text =
          j.is.front
          ∙ joined j.text version_text one.0.1.rest (lines-of-head head.0.0) head.0.1.rest (lists_text head.0.0.claim.dir body.0.0) body.0.1.rest
          (due-line Version 1 j.text version_text one.0.0 j.said) h.text l.text (nothing-found body.0.1 end.0 end.1)
          ∙ same (line (text-of-claim head.0.0.claim)) (lists_text head.0.0.claim.dir body.0.0) head.0.0.states (length body.0.0.lower) (init_text head.0.0.init)
          (start_text (start_of head.0.0.init)) (sym k) (start-line head.0.0.claim head.0.0.states head.0.0.init h.is.init);
      fits = record {
        some = subst (λ (n : ℕ). 0 < n) (sym k) h.is.some;
        limit = subst (λ (n : ℕ). n ≤ 2 ^ 20) (sym k) h.is.limit;
        choice_each = l.are.choices ∙ sym k;
        rank_each = l.are.ranks ∙ sym k;
        mark_each = l.are.marks ∙ sym k;
        names = h.is.claim.names;
        threshold = h.is.claim.threshold;
        inside = subst (λ (n : ℕ). start_of head.0.0.init < n) (sym k) (start-inside head.0.0.claim head.0.0.states head.0.0.init h.is.init);
        named = l.are.named;
        claim_width = h.is.claim.width;
        lower_width = l.are.lower_width;
        choices_width = l.are.choices_width;
        ranks_width = l.are.ranks_width;
      };
    })
  where
    joined : (a a' r h s b t : List ℕ) → a ≡ a' → r ≡ h ++ s → s ≡ b ++ t → t ≡ [] → line a ++ r ≡ (line a' ++ h) ++ b
    joined a a' r h s b t p q u v = rw (q, u, v, p, append-nil b) (sym (append_assoc (line a') h b))

    same : (claim body : List ℕ) (n k : ℕ) (i j : List ℕ) → n ≡ k → i ≡ j
        → (line version_text ++ (claim ++ (line (states_text n) ++ line i))) ++ body ≡ (line version_text ++ (claim ++ (line (states_text k) ++ line j))) ++ body
    same claim body n k i j p q = rw (p, q) refl

-- the head of a certificate
abbrev head-of : Certificate → SubsystemHead
head-of c = record { claim = c.claim; states = states_in c; init = Start c.start }

pub cert-again : (c : Certificate) → Fits c → outcome (text_of c) ≡ Ok c
unfolding outcome text_of nothing_behind
cert-again c fits =
    let h : SubsystemHead = head-of c in
    let body : List ℕ = lists_text c.claim.dir c.lists in
    let lines : List ℕ = lines-of-head h in
    let b = lists-again c.claim.dir (states_in c) (1 + 1 + 1 + 1 + 1) c.lists [] fits.limit (record {
      lower = refl;
      choices = fits.choice_each;
      ranks = fits.rank_each;
      marks = fits.mark_each;
      named = fits.named;
      lower_width = fits.lower_width;
      choices_width = fits.choices_width;
      ranks_width = fits.ranks_width;
    }) in
    ap (λ (t : List ℕ). line_by (is_line Version version_text) (place 1 t) >>= after-version) (append_assoc (line version_text) lines body)
    ∙ ap (λ (r : Result (Unit {0} × Place) Refusal). r >>= after-version) (judged-again (is_line Version version_text) 1 version_text (lines ++ body) tt refl (due-again Version 1 version_text))
    ∙ ap (λ (r : Result (SubsystemHead × Place) Refusal). r >>= after-head) (head-again (1 + 1) h body (record {
      some = fits.some;
      limit = fits.limit;
      claim = record { names = fits.names; threshold = fits.threshold; width = fits.claim_width };
      init = record { inside = lt-ltb c.start (states_in c) fits.inside; width = tt };
    }))
    ∙ ap (λ (t : List ℕ). lists_from c.claim.dir (states_in c) (place (1 + 1 + 1 + 1 + 1) t) >>= after-lists h) (sym (append-nil body))
    ∙ ap (λ (r : Result (Lists × Place) Refusal). r >>= after-lists h) b.1
