-- The text of a certificate of bounds is read exactly where it is the text of what is read.
use Rattle.std.proofs.{Common.{◌≡◌, ℕ, ◌+◌, List, [], ◌++◌, Result, Ok, refl, sym, ap, subst, ◌∙◌, append_assoc, true}, lemmas.List.{append-nil}}
use Rattle.mdp_text.specs.{declared.error.CertKind.TheVariants.{Version}, declared.error.Refusal.{Refusal}}
use Rattle.mdp_text.specs.{Lines.{◌>>=◌, is_line, Place, place, line_by, nothing_behind}, Spelling.{line}}
use Rattle.mdp_text.proofs.{Feeds.{bind_ok, ok-is, judged-found, judged-again, due-line, due-again, nothing-found}, Exact.{FoundText}}
use Rattle.mdp_num.specs.Value.{IsNarrow}
use Rattle.mdp_cert.specs.{Cert.{PlainClaim, upper, reach, until, reward, mean, witness, IsValueNarrow}, Claims.{fraction_value, reward_value}}
use Rattle.mdp_cert.specs.Entries.{ranked_columns, IsRankedInWidth, gains_columns, IsGainsInWidth}
use Rattle.mdp_cert.specs.{BoundsCert.{PlainBounds, Certificate, is_of_bounds, is_body_of, Fits}, BoundsSpelling.{version_text, body_text, text_of}}
use Rattle.mdp_cert.specs.{BoundsReading.{BoundsHead, head_from, body_from, outcome}, BoundsLaws.{AreSameWords}}
use Rattle.mdp_cert.proofs.{Columns.{fraction-is_value, reward-is_value, same-words}, StateWords.{ranked-is_columns, gains-is_columns}}
use Rattle.mdp_cert.proofs.{Heads.{right-claim, IsHead, lines-of-head, head-found, head-again}, BoundsBodies.{FitsBody, body-found, body-again}}

abbrev whole : BoundsHead → PlainBounds → Certificate
whole h b = record { claim = h.claim; states = h.states; init = h.init; body = b }

abbrev after-body : BoundsHead → PlainBounds × Place → Result Certificate Refusal
after-body h body = nothing_behind body.1 >>= λ nothing. Ok (whole h body.0)

abbrev after-head : BoundsHead × Place → Result Certificate Refusal
after-head head = body_from head.0.claim head.0.states head.1 >>= after-body head.0

abbrev after-version : (Unit {0}) × Place → Result Certificate Refusal
after-version version = head_from version.1 >>= after-head

abbrev pub FoundCert : List ℕ → Certificate → Type 0
FoundCert = FoundText outcome Fits text_of

pub cert-found : (bytes : List ℕ) (c : Certificate) → outcome bytes ≡ Ok c → FoundCert bytes c
unfolding outcome text_of
cert-found bytes c e =
    let one = bind_ok (line_by (is_line Version version_text) (place 1 bytes)) after-version c e in
    let head = bind_ok (head_from one.0.1) after-head c one.2 in
    let body = bind_ok (body_from head.0.0.claim head.0.0.states head.0.1) (after-body head.0.0) c head.2 in
    let end = bind_ok (nothing_behind body.0.1) (λ nothing. Ok (whole head.0.0 body.0.0)) c body.2 in
    let j = judged-found (is_line Version version_text) (place 1 bytes) one.0.0 one.0.1 one.1 in
    let h = head-found one.0.1 head.0.0 head.0.1 head.1 in
    let b = body-found head.0.0.claim head.0.0.states head.0.1 body.0.0 body.0.1 h.is.limit body.1 in
    let z = nothing-found body.0.1 end.0 end.1 in
    subst (FoundCert bytes) (ok-is (whole head.0.0 body.0.0) c end.2) (record {
      text =
          j.is.front
          ∙ joined j.text version_text one.0.1.rest (lines-of-head head.0.0) head.0.1.rest (body_text body.0.0) body.0.1.rest (due-line Version 1 j.text version_text one.0.0 j.said) h.text b.text z;
      fits = record {
        some = h.is.some;
        limit = h.is.limit;
        names = h.is.claim.right.names;
        inside = h.is.init.inside;
        entries = b.fits.entries;
        init_width = h.is.init.width;
        body_width = b.fits.width;
      };
    })
  where
    joined : (a a' r h s b t : List ℕ) → a ≡ a' → r ≡ h ++ s → s ≡ b ++ t → t ≡ [] → line a ++ r ≡ (line a' ++ h) ++ b
    joined a a' r h s b t p q u v = rw (q, u, v, p, append-nil b) (sym (append_assoc (line a') h b))

-- a body is one of bounds
of-bounds : (claim : PlainClaim) (states : ℕ) (b : PlainBounds) → is_body_of claim states b ≡ true → is_of_bounds claim ≡ true
of-bounds (upper label) states b e = absurd cc
of-bounds (reach dir label) states b e = refl
of-bounds (until dir stay label) states b e = refl
of-bounds (reward dir name label) states b e = refl
of-bounds (mean dir name) states b e = refl
of-bounds (witness dir stay label threshold) states b e = absurd cc

pub cert-again : (c : Certificate) → Fits c → outcome (text_of c) ≡ Ok c
unfolding outcome text_of nothing_behind
cert-again c fits =
    let h : BoundsHead = record { claim = c.claim; states = c.states; init = c.init } in
    let claim = right-claim c.claim (of-bounds c.claim c.states c.body fits.entries) fits.names in
    let head : IsHead h = record { some = fits.some; limit = fits.limit; claim = claim; init = record { inside = fits.inside; width = fits.init_width } } in
    let body : FitsBody c.claim c.states c.body = record { entries = fits.entries; width = fits.body_width } in
    let b = body-again c.claim c.states (1 + 1 + 1 + 1 + 1) c.body [] fits.limit body in
    ap (λ (t : List ℕ). line_by (is_line Version version_text) (place 1 t) >>= after-version) (append_assoc (line version_text) (lines-of-head h) (body_text c.body))
    ∙ ap (λ (r : Result (Unit {0} × Place) Refusal). r >>= after-version)
    (judged-again (is_line Version version_text) 1 version_text (lines-of-head h ++ body_text c.body) tt refl (due-again Version 1 version_text))
    ∙ ap (λ (r : Result (BoundsHead × Place) Refusal). r >>= after-head) (head-again (1 + 1) h (body_text c.body) head)
    ∙ ap (λ (t : List ℕ). body_from c.claim c.states (place (1 + 1 + 1 + 1 + 1) t) >>= after-body h) (sym (append-nil (body_text c.body)))
    ∙ ap (λ (r : Result (PlainBounds × Place) Refusal). r >>= after-body h) b.1

pub are-same-words : AreSameWords
are-same-words = record {
  probabilities = same-words (ranked_columns fraction_value) (IsRankedInWidth IsNarrow) (ranked-is_columns fraction_value IsNarrow fraction-is_value);
  rewards = same-words (ranked_columns reward_value) (IsRankedInWidth IsValueNarrow) (ranked-is_columns reward_value IsValueNarrow reward-is_value);
  gains = same-words gains_columns IsGainsInWidth gains-is_columns;
}
