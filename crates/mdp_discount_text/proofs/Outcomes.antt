-- The text of a certificate of the discounted reward is read exactly where it is the text of what is read.
use Rattle.std.proofs.Common.{◌≡◌, ℕ, ◌<◌, ◌≤◌, ◌^◌, true, true≢false, List, [], length, map, Result, Ok, refl, sym, ap, ap₂, subst, ◌∙◌}
use Rattle.std.proofs.lemmas.List.{length-map}
use Rattle.mdp_math.specs.Rational.{ℚ}
use Rattle.mdp_num.specs.Value.{IsNarrow}
use Rattle.mdp_text.specs.{declared.error.Refusal.{Refusal}, declared.init.Init.{Init}}
use Rattle.mdp_text.specs.{declared.init.Init.TheVariants.{Missing, Finite, Infinite, Start}, Heads.{IsInitInWidth}, Lines.{Place}, Spelling.{init_text}}
use Rattle.mdp_text.proofs.Exact.{FoundText}
use Rattle.mdp_cert.specs.{declared.version.Version.TheVariants.{One}, declared.pair.Pair.{Pair}, Cert.{upper, is_init_of}, Pairs.{IsShort, IsPairInWidth, pairs}}
use Rattle.mdp_cert.proofs.{Numbered.{init-found, init-again, free-init}, Parts.{all-each, all-of}, WordByWord.{both, count, pairs-of, each-pair}}
use Rattle.mdp_discount_rules.specs.Cert.{Certificate, is_init, IsInitNarrow, Fits}
use Rattle.mdp_discount_text.specs.{Entries.{priced_columns}, Spelling.{version_text, text_of}, Text.{init_at, DiscountHead, head_from, certificate_of, outcome}}
use Rattle.mdp_discount_text.proofs.{FourLines.{AreInits, FoundHead}, Columns.{priced-is_columns}}
use Rattle.mdp_discount_text.proofs.FourLines as four
use Rattle.mdp_discount_text.proofs.Whole as whole

-- ---- the line `init`

init-is : (states : ℕ) (init : Init) → is_init_of (upper []) states init ≡ is_init states init
init-is states Missing = refl
init-is states (Finite s value) = refl
init-is states (Infinite s) = refl
init-is states (Start s) = refl

init-narrow : (states : ℕ) (init : Init) → is_init_of (upper []) states init ≡ true → IsInitInWidth init → IsInitNarrow init
init-narrow states Missing h k = tt
init-narrow states (Finite s value) h k = k
init-narrow states (Infinite s) h k = absurd (true≢false (sym h))
init-narrow states (Start s) h k = absurd (true≢false (sym h))

init-wide : (init : Init) → IsInitNarrow init → IsInitInWidth init
init-wide Missing k = tt
init-wide (Finite s value) k = k
init-wide (Infinite s) k = absurd k
init-wide (Start s) k = absurd k

pub record IsInit (states : ℕ) (init : Init) : Type 0 where
  pub inside : is_init states init ≡ true
  pub width : IsInitNarrow init

init-lines : AreInits init_at init_text IsInit
init-lines = record {
  found = λ states n text i e. (
      let f = init-found (upper []) states n text i e in
      (f.0, record { inside = sym (init-is states i) ∙ f.1; width = init-narrow states i f.1 f.2 })
      );
  again = λ states n i limit h. init-again (upper []) states n i (init-is states i ∙ h.inside) limit (init-wide i h.width);
  free = λ states i limit h. free-init (upper []) states i (init-is states i ∙ h.inside) limit (init-wide i h.width);
}

pub head-found : (p : Place) (h : DiscountHead Init) (q : Place) → head_from p ≡ Ok (h, q) → FoundHead init_at init_text IsInit p h q
unfolding head_from
head-found p h q e = four.head-found init_at init_text IsInit init-lines p h q e

-- ---- the whole

abbrev text-of : DiscountHead Init → List (Pair ℚ ℕ) → List ℕ
text-of = whole.text-of version_text refl init_at init_text IsInit init-lines One priced_columns (IsPairInWidth IsNarrow IsShort) priced-is_columns certificate_of

abbrev pub FoundCert : List ℕ → Certificate → Type 0
FoundCert = FoundText outcome Fits text_of

pub cert-found : (bytes : List ℕ) (c : Certificate) → outcome bytes ≡ Ok c → FoundCert bytes c
unfolding outcome text_of head_from
cert-found bytes c e =
    let f = whole.whole-found version_text refl init_at init_text IsInit init-lines One priced_columns (IsPairInWidth IsNarrow IsShort) priced-is_columns certificate_of bytes c e in
    let h = f.head in
    let xs = f.entries in
    let k : length (map (λ x. x.first) xs) ≡ h.front.states = length-map xs (λ (x : Pair ℚ ℕ). x.first) ∙ f.count in
    let front = f.is_head.front in
    subst (FoundCert bytes) f.made_of (record {
      text =
          f.text
          ∙ ap₂ text-of (ap (λ (n : ℕ). let g : DiscountHead Init = record { front = record { claim = h.front.claim; states = n; init = h.front.init }; remainder = h.remainder } in g) (sym k))
          (sym (pairs-of xs));
      fits = record {
        some = subst (λ (n : ℕ). 0 < n) (sym k) front.some;
        limit = subst (λ (n : ℕ). n ≤ 2 ^ 20) (sym k) front.limit;
        one_each = length-map xs (λ (x : Pair ℚ ℕ). x.others) ∙ sym (length-map xs (λ (x : Pair ℚ ℕ). x.first));
        named = front.claim.named;
        discount = front.claim.factor;
        inside = subst (λ (n : ℕ). is_init n h.front.init ≡ true) (sym k) front.init.inside;
        factor_width = front.claim.factor_width;
        init_width = front.init.width;
        remainder_width = f.is_head.remainder_width;
        values_width = all-of (IsPairInWidth IsNarrow IsShort) IsNarrow (λ x. x.first) (λ x h. h.first) xs f.width;
        choices_width = all-of (IsPairInWidth IsNarrow IsShort) IsShort (λ x. x.others) (λ x h. h.others) xs f.width;
      };
    })

-- the head of a certificate
abbrev head-of : Certificate → DiscountHead Init
head-of c = record { front = record { claim = record { dir = c.dir; name = c.name; factor = c.factor }; states = length c.values; init = c.init }; remainder = c.remainder }

pub cert-again : (c : Certificate) → Fits c → outcome (text_of c) ≡ Ok c
unfolding outcome text_of head_from
cert-again c fits =
    let lists = both c.values c.choices (sym fits.one_each) in
    whole.whole-again version_text refl init_at init_text IsInit init-lines One priced_columns (IsPairInWidth IsNarrow IsShort) priced-is_columns certificate_of (head-of c)
    (pairs c.values c.choices) (record {
      front = record {
        some = fits.some;
        limit = fits.limit;
        claim = record { named = fits.named; factor = fits.discount; factor_width = fits.factor_width };
        init = record { inside = fits.inside; width = fits.init_width };
      };
      remainder_width = fits.remainder_width;
    }) (count c.values c.choices (sym fits.one_each))
    (each-pair IsNarrow IsShort c.values c.choices (all-each IsNarrow c.values fits.values_width) (all-each IsShort c.choices fits.choices_width))
    ∙ ap₂ (λ (vs : List ℚ) (cs : List ℕ). let r : Result Certificate Refusal =
    Ok (record { dir = c.dir; name = c.name; factor = c.factor; init = c.init; remainder = c.remainder; values = vs; choices = cs }) in r) lists.0 lists.1
