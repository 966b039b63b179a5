-- A text of a head and of lines of states is read exactly where it is the text of what is read, whatever the line `init` and the words of a state say.
use Rattle.std.proofs.Common.{◌≡◌, ℕ, ◌+◌, List, [], ◌++◌, length, Result, Ok, sym, ap, ◌∙◌, append_assoc}
use Rattle.std.proofs.lemmas.List.{append-nil}
use Rattle.mdp_text.specs.{declared.error.CertKind.TheVariants.{Version}, declared.error.Refusal.{Refusal}}
use Rattle.mdp_text.specs.{Lines.{◌>>=◌, is_line, Place, place, line_by, nothing_behind}, Spelling.{line}}
use Rattle.mdp_text.proofs.{Pieces.{Free}, Feeds.{bind_ok, ok-is, judged-found, judged-again, due-line, due-again, nothing-found}}
use Rattle.mdp_cert.specs.declared.version.Version as version
use Rattle.mdp_cert.specs.{Runs.{Columns}, Spelling.{closed_lines}, Reading.{entries_to_end}}
use Rattle.mdp_cert.proofs.{Columns.{IsColumns}, Bodies.{Each, closed-found, closed-again}}
use Rattle.mdp_discount_text.specs.Text.{DiscountHead, head_with}
use Rattle.mdp_discount_text.proofs.FourLines as four

module _ {I A C : Type 0} (title : List ℕ) (free : Free 10 title) (init_at : ℕ → ℕ → List ℕ → Result I Refusal) (init_text : I → List ℕ) (IsInit : ℕ → I → Type 0)
    (are : four.AreInits init_at init_text IsInit) (v : version.Version) (k : Columns A) (IsInWidth : A → Type 0) (is : IsColumns k IsInWidth) (made : DiscountHead I → List A → C) where
  abbrev IsHead : DiscountHead I → Type 0
  IsHead = four.IsHead init_at init_text IsInit

  abbrev after-entries : DiscountHead I → List A × Place → Result C Refusal
  after-entries h xs = nothing_behind xs.1 >>= λ nothing. Ok (made h xs.0)

  abbrev after-head : DiscountHead I × Place → Result C Refusal
  after-head head = entries_to_end v k head.0.front.states head.1 >>= after-entries head.0

  abbrev after-title : (Unit {0}) × Place → Result C Refusal
  after-title title = head_with init_at title.1 >>= after-head

  abbrev pub outcome-of : List ℕ → Result C Refusal
  outcome-of bytes = line_by (is_line Version title) (place 1 bytes) >>= after-title

  abbrev pub text-of : DiscountHead I → List A → List ℕ
  text-of h xs = (line title ++ four.lines-of-head init_at init_text IsInit h) ++ closed_lines v k xs

  pub record FoundWhole (bytes : List ℕ) (c : C) : Type 0 where
    pub head : DiscountHead I
    pub entries : List A
    pub made_of : made head entries ≡ c
    pub text : bytes ≡ text-of head entries
    pub is_head : IsHead head
    pub count : length entries ≡ head.front.states
    pub width : Each IsInWidth entries

  pub whole-found : (bytes : List ℕ) (c : C) → outcome-of bytes ≡ Ok c → FoundWhole bytes c
  whole-found bytes c e =
      let one = bind_ok (line_by (is_line Version title) (place 1 bytes)) after-title c e in
      let head = bind_ok (head_with init_at one.0.1) after-head c one.2 in
      let body = bind_ok (entries_to_end v k head.0.0.front.states head.0.1) (after-entries head.0.0) c head.2 in
      let end = bind_ok (nothing_behind body.0.1) (λ nothing. Ok (made head.0.0 body.0.0)) c body.2 in
      let j = judged-found (is_line Version title) (place 1 bytes) one.0.0 one.0.1 one.1 in
      let h = four.head-found init_at init_text IsInit are one.0.1 head.0.0 head.0.1 head.1 in
      let b = closed-found k IsInWidth is head.0.0.front.states h.is.front.limit v head.0.1 body.0.0 body.0.1 body.1 in
      record {
        head = head.0.0;
        entries = body.0.0;
        made_of = ok-is (made head.0.0 body.0.0) c end.2;
        text =
            j.is.front
            ∙ joined j.text title one.0.1.rest (four.lines-of-head init_at init_text IsInit head.0.0) head.0.1.rest (closed_lines v k body.0.0) body.0.1.rest
            (due-line Version 1 j.text title one.0.0 j.said) h.text b.text (nothing-found body.0.1 end.0 end.1);
        is_head = h.is;
        count = b.count;
        width = b.width;
      }
    where
      joined : (a a' r h s b t : List ℕ) → a ≡ a' → r ≡ h ++ s → s ≡ b ++ t → t ≡ [] → line a ++ r ≡ (line a' ++ h) ++ b
      joined a a' r h s b t p q u w = rw (q, u, w, p, append-nil b) (sym (append_assoc (line a') h b))

  pub whole-again : (h : DiscountHead I) (xs : List A) → IsHead h → length xs ≡ h.front.states → Each IsInWidth xs → outcome-of (text-of h xs) ≡ Ok (made h xs)
  unfolding nothing_behind
  whole-again h xs head count width =
      let body : List ℕ = closed_lines v k xs in
      let lines : List ℕ = four.lines-of-head init_at init_text IsInit h in
      let b = closed-again k IsInWidth is h.front.states head.front.limit v (1 + 1 + 1 + 1 + 1 + 1) xs [] count width in
      ap (λ (t : List ℕ). line_by (is_line Version title) (place 1 t) >>= after-title) (append_assoc (line title) lines body)
      ∙ ap (λ (r : Result (Unit {0} × Place) Refusal). r >>= after-title) (judged-again (is_line Version title) 1 title (lines ++ body) tt free (due-again Version 1 title))
      ∙ ap (λ (r : Result (DiscountHead I × Place) Refusal). r >>= after-head) (four.head-again init_at init_text IsInit are (1 + 1) h body head)
      ∙ ap (λ (t : List ℕ). entries_to_end v k h.front.states (place (1 + 1 + 1 + 1 + 1 + 1) t) >>= after-entries h) (sym (append-nil body))
      ∙ ap (λ (r : Result (List A × Place) Refusal). r >>= after-entries h) b.1
