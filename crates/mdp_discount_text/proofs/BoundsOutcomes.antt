-- The text of a certificate of bounds of the discounted reward is read exactly where it is the text of what is read.
use Rattle.std.proofs.Common.{◌≡◌, ℕ, ◌<◌, ◌≤◌, ◌^◌, true, List, length, map, Option, Result, Ok, refl, sym, ap, ap₂, subst, ◌∙◌}
use Rattle.std.proofs.lemmas.List.{length-map}
use Rattle.mdp_math.specs.Rational.{ℚ}
use Rattle.mdp_text.specs.declared.error.Refusal.{Refusal}
use Rattle.mdp_text.proofs.Exact.{FoundText}
use Rattle.mdp_cert.specs.{declared.version.Version.TheVariants.{Two}, Pairs.{IsShort}}
use Rattle.mdp_cert.proofs.{Columns.{same-words}, Parts.{all-of}}
use Rattle.mdp_discount_rules.specs.BoundsCert.{Certificate, is_init, IsValueNarrow, Fits}
use Rattle.mdp_discount_text.specs.{Entries.{between_columns, IsEntryInWidth, entries_of}, BoundsSpelling.{version_text, init_text, text_of}}
use Rattle.mdp_discount_text.specs.{Reading.{BoundsHead, init_at, head_from, certificate_of, outcome}, BoundsLaws.{AreSameWords}}
use Rattle.mdp_discount_text.proofs.{Columns.{between-is_columns}, Entries.{Between, back, entries-of, entries-width}, Heads.{IsInit, init-lines}}
use Rattle.mdp_discount_text.proofs.Whole as whole

abbrev text-of : BoundsHead → List Between → List ℕ
text-of = whole.text-of version_text refl init_at init_text IsInit init-lines Two between_columns IsEntryInWidth between-is_columns certificate_of

abbrev pub FoundCert : List ℕ → Certificate → Type 0
FoundCert = FoundText outcome Fits text_of

pub cert-found : (bytes : List ℕ) (c : Certificate) → outcome bytes ≡ Ok c → FoundCert bytes c
unfolding outcome text_of head_from
cert-found bytes c e =
    let f = whole.whole-found version_text refl init_at init_text IsInit init-lines Two between_columns IsEntryInWidth between-is_columns certificate_of bytes c e in
    let h = f.head in
    let xs = f.entries in
    let each : (X : Type 0) (g : Between → X) → length (map g xs) ≡ h.front.states = λ X g. length-map xs g ∙ f.count in
    let k = each (Option ℚ) (λ x. x.first.value) in
    let front = f.is_head.front in
    subst (FoundCert bytes) f.made_of (record {
      text =
          f.text
          ∙ ap₂ text-of (ap (λ (n : ℕ). let g : BoundsHead = record { front = record { claim = h.front.claim; states = n; init = h.front.init }; remainder = h.remainder } in g) (sym k))
          (sym (entries-of xs));
      fits = record {
        some = subst (λ (n : ℕ). 0 < n) (sym k) front.some;
        limit = subst (λ (n : ℕ). n ≤ 2 ^ 20) (sym k) front.limit;
        one_above = each (Option ℚ) (λ x. x.others.first) ∙ sym k;
        one_each = each ℕ (λ x. x.others.others) ∙ sym k;
        named = front.claim.named;
        discount = front.claim.factor;
        inside = subst (λ (n : ℕ). is_init n h.front.init ≡ true) (sym k) front.init.inside;
        factor_width = front.claim.factor_width;
        init_width = front.init.width;
        remainder_width = f.is_head.remainder_width;
        lower_width = all-of IsEntryInWidth IsValueNarrow (λ x. x.first.value) (λ x h. h.first) xs f.width;
        upper_width = all-of IsEntryInWidth IsValueNarrow (λ x. x.others.first) (λ x h. h.others.first) xs f.width;
        choices_width = all-of IsEntryInWidth IsShort (λ x. x.others.others) (λ x h. h.others.others) xs f.width;
      };
    })

-- the head of a certificate
abbrev head-of : Certificate → BoundsHead
head-of c = record { front = record { claim = record { dir = c.dir; name = c.name; factor = c.factor }; states = length c.lower; init = c.init }; remainder = c.remainder }

pub cert-again : (c : Certificate) → Fits c → outcome (text_of c) ≡ Ok c
unfolding outcome text_of head_from
cert-again c fits =
    let b = back c.lower c.upper c.choices fits.one_above fits.one_each in
    whole.whole-again version_text refl init_at init_text IsInit init-lines Two between_columns IsEntryInWidth between-is_columns certificate_of (head-of c)
    (entries_of c.lower c.upper c.choices) (record {
      front = record {
        some = fits.some;
        limit = fits.limit;
        claim = record { named = fits.named; factor = fits.discount; factor_width = fits.factor_width };
        init = record { inside = fits.inside; width = fits.init_width };
      };
      remainder_width = fits.remainder_width;
    }) b.count (entries-width c.lower c.upper c.choices fits.lower_width fits.upper_width fits.choices_width)
    ∙ same _ _ _ _ _ _ b.lower b.upper b.choices
  where
    same : (ls ks us vs : List (Option ℚ)) (cs ds : List ℕ) → ls ≡ ks → us ≡ vs → cs ≡ ds
        → (let r : Result Certificate Refusal =
        Ok (record { dir = c.dir; name = c.name; factor = c.factor; init = c.init; remainder = c.remainder; lower = ls; upper = us; choices = cs }) in r)
        ≡ Ok (record { dir = c.dir; name = c.name; factor = c.factor; init = c.init; remainder = c.remainder; lower = ks; upper = vs; choices = ds })
    same ls ks us vs cs ds p q o = rw (p, q, o) refl

pub are-same-words : AreSameWords
are-same-words = same-words between_columns IsEntryInWidth between-is_columns
