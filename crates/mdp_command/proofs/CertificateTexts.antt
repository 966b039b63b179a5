-- Bytes read as a certificate exactly where they are its text, and a text names the kind of its certificate.
use Rattle.std.proofs.Common.{◌≡◌, ◌↔◌, ◌⊎◌, inl, inr, ℕ, Bool, true, false, cond, List, ◌++◌, Option, Some, None, Result, Ok, refl, sym, ap, ap₂, subst, ◌∙◌}
use Rattle.mdp_math.specs.Rational.{ℚ}
use Rattle.mdp_rows.specs.{declared.dir.Dir.{Dir}, declared.dir.Dir.TheVariants.{Max, Min}}
use Rattle.mdp_text.specs.{declared.error.Refusal.{Refusal}, Lines.{Place}, Spelling.{line}}
use Rattle.mdp_text.proofs.Feeds.{line-again}
use Rattle.mdp_cert.specs.{declared.version.Version.{Version}, declared.version.Version.TheVariants.{One, Two}}
use Rattle.mdp_cert.specs.Cert.{PlainClaim, upper, reach, until, reward, mean, witness, Certificate, Fits}
use Rattle.mdp_cert.specs.{Spelling.{claim_text, text_in, text_of, old_text_of}, Laws.{IsReadFromText}}
use Rattle.mdp_cert.specs.BoundsCert as bounds_cert
use Rattle.mdp_cert.specs.BoundsLaws as bounds_laws
use Rattle.mdp_cert.specs.BoundsSpelling as bounds_text
use Rattle.mdp_discount_rules.specs.BoundsCert as discount_bounds_cert
use Rattle.mdp_discount_rules.specs.Cert as discount_cert
use Rattle.mdp_discount_text.specs.BoundsLaws as discount_bounds_laws
use Rattle.mdp_discount_text.specs.BoundsSpelling as discount_bounds_text
use Rattle.mdp_discount_text.specs.Laws as discount_laws
use Rattle.mdp_discount_text.specs.Spelling as discount_text
use Rattle.mdp_discount_text.specs.Reading as discounted
use Rattle.mdp_subsystem_bounds.specs.Cert as subsystem_cert
use Rattle.mdp_subsystem_bounds.specs.Laws as subsystem_laws
use Rattle.mdp_subsystem_bounds.specs.Reading as subsystem
use Rattle.mdp_subsystem_bounds.specs.Spelling as subsystem_text
use Rattle.mdp_command.specs.{Meaning.{IsTextOf}, Meanings.{kind_of}, Kinds.{checker_of}, CheckLaws.{ReadsItsText, NamesItsKind}}
use Rattle.mdp_command.specs.declared.kind.CertificateKind.{CertificateKind}
use Rattle.mdp_command.specs.declared.kind.CertificateKind.TheVariants.{Exact, Discounted, Bounds, DiscountedBounds, SubsystemBounds}

-- ---- what reads as a certificate

-- of a kind whose certificates have one text each
reads_one_text : {C : Type 0} (Fits : C → Type 0) (text_of : C → List ℕ) (outcome : List ℕ → Result C Refusal)
    → ((bytes : List ℕ) (c : C) → (outcome bytes ≡ Ok c) ↔ (Fits c × (bytes ≡ text_of c)))
    → (bytes : List ℕ) (c : C) → (outcome bytes ≡ Ok c) ↔ IsTextOf Fits text_of bytes c
reads_one_text Fits text_of outcome law bytes c = (
  λ read. let t = (law bytes c).0 read in record { fits = t.0; text = t.1 },
  λ t. (law bytes c).1 (t.fits, t.text),
)

in_some_version : (bytes : List ℕ) (c : Certificate) → Fits c → (bytes ≡ text_of c) ⊎ (bytes ≡ old_text_of c) → (v : Version) × IsTextOf Fits (text_in v) bytes c
in_some_version bytes c fits (inl e) = (Two, record { fits = fits; text = e })
in_some_version bytes c fits (inr e) = (One, record { fits = fits; text = e })

one_of_two : (bytes : List ℕ) (c : Certificate) (v : Version) → IsTextOf Fits (text_in v) bytes c → Fits c × ((bytes ≡ text_of c) ⊎ (bytes ≡ old_text_of c))
one_of_two bytes c Two t = (t.fits, inl t.text)
one_of_two bytes c One t = (t.fits, inr t.text)

pub reads_its_text : IsReadFromText → bounds_laws.IsReadFromText → discount_laws.IsReadFromText → discount_bounds_laws.IsReadFromText → subsystem_laws.IsReadFromText → (kind : CertificateKind) → ReadsItsText (checker_of kind)
reads_its_text exact bounds discount discount_bounds subsystem_bounds Exact bytes c = (
  λ read. let t = (exact bytes c).0 read in in_some_version bytes c t.0 t.1,
  λ t. (exact bytes c).1 (one_of_two bytes c t.0 t.1),
)
reads_its_text exact bounds discount discount_bounds subsystem_bounds Discounted bytes c = reads_one_text _ _ _ discount bytes c
reads_its_text exact bounds discount discount_bounds subsystem_bounds Bounds bytes c = reads_one_text _ _ _ bounds bytes c
reads_its_text exact bounds discount discount_bounds subsystem_bounds DiscountedBounds bytes c = reads_one_text _ _ _ discount_bounds bytes c
reads_its_text exact bounds discount discount_bounds subsystem_bounds SubsystemBounds bytes c = reads_one_text _ _ _ subsystem_bounds bytes c

-- ---- the kind that a text names

exact_named : (v : Version) (c : Certificate) → kind_of (text_in v c) ≡ Exact
unfolding text_in
exact_named One c = refl
exact_named Two c = refl

discount_named : (c : discount_cert.Certificate) → kind_of (discount_text.text_of c) ≡ Discounted
unfolding discount_text.text_of
discount_named c = refl

-- behind the first line of bounds the claim decides
by_claim : (claim x y : List ℕ) (b d : Bool) → discounted.begins_so ((line claim ++ x) ++ y) ≡ b → subsystem.begins_so ((line claim ++ x) ++ y) ≡ d
    → kind_of ((line bounds_text.version_text ++ (line claim ++ x)) ++ y) ≡ cond b DiscountedBounds (cond d SubsystemBounds Bounds)
by_claim claim x y b d is other =
    ap (λ (next : Result (List ℕ × Place) Refusal). cond (discounted.is_claim_behind next) DiscountedBounds (cond (subsystem.is_claim_behind next) SubsystemBounds Bounds))
    (line-again 1 bounds_text.version_text ((line claim ++ x) ++ y) refl)
    ∙ ap₂ (λ (x z : Bool). cond x DiscountedBounds (cond z SubsystemBounds Bounds)) is other

of_no_discount : (claim : PlainClaim) (x y : List ℕ) → discounted.begins_so ((line (claim_text claim) ++ x) ++ y) ≡ false
of_no_discount (upper label) x y = refl
of_no_discount (reach Max label) x y = refl
of_no_discount (reach Min label) x y = refl
of_no_discount (until Max stay label) x y = refl
of_no_discount (until Min stay label) x y = refl
of_no_discount (reward Max name label) x y = refl
of_no_discount (reward Min name label) x y = refl
of_no_discount (mean Max name) x y = refl
of_no_discount (mean Min name) x y = refl
of_no_discount (witness Max None label t) x y = refl
of_no_discount (witness Min None label t) x y = refl
of_no_discount (witness Max (Some stay) label t) x y = refl
of_no_discount (witness Min (Some stay) label t) x y = refl

-- the claim of bounds is of no subsystem
no_body : (dir : Dir) (stay : Option (List ℕ)) (label : List ℕ) (t : ℚ) (states : ℕ) (body : bounds_cert.PlainBounds)
    → bounds_cert.is_body_of (witness dir stay label t) states body ≡ true → ⊥
no_body dir stay label t states (bounds_cert.probabilities low high choices ranks) e = cc
no_body dir stay label t states (bounds_cert.rewards low high choices ranks) e = cc
no_body dir stay label t states (bounds_cert.gains low high bound bias choices spread) e = cc

of_no_subsystem : (claim : PlainClaim) (states : ℕ) (body : bounds_cert.PlainBounds) (x y : List ℕ) → bounds_cert.is_body_of claim states body ≡ true
    → subsystem.begins_so ((line (claim_text claim) ++ x) ++ y) ≡ false
of_no_subsystem (upper label) states body x y e = refl
of_no_subsystem (reach Max label) states body x y e = refl
of_no_subsystem (reach Min label) states body x y e = refl
of_no_subsystem (until Max stay label) states body x y e = refl
of_no_subsystem (until Min stay label) states body x y e = refl
of_no_subsystem (reward Max name label) states body x y e = refl
of_no_subsystem (reward Min name label) states body x y e = refl
of_no_subsystem (mean Max name) states body x y e = refl
of_no_subsystem (mean Min name) states body x y e = refl
of_no_subsystem (witness dir stay label t) states body x y e = absurd (no_body dir stay label t states body e)

of_subsystem : (dir : Dir) (stay : Option (List ℕ)) (label : List ℕ) (t : ℚ) (x y : List ℕ)
    → subsystem.begins_so ((line (claim_text (witness dir stay label t)) ++ x) ++ y) ≡ true
of_subsystem Max None label t x y = refl
of_subsystem Min None label t x y = refl
of_subsystem Max (Some stay) label t x y = refl
of_subsystem Min (Some stay) label t x y = refl

discount_claim : (dir : Dir) (name : List ℕ) (f : ℚ) (x y : List ℕ) → discounted.begins_so ((line (discount_text.claim_text dir name f) ++ x) ++ y) ≡ true
discount_claim Max name f x y = refl
discount_claim Min name f x y = refl

no_claim_of_subsystem : (dir : Dir) (name : List ℕ) (f : ℚ) (x y : List ℕ) → subsystem.begins_so ((line (discount_text.claim_text dir name f) ++ x) ++ y) ≡ false
no_claim_of_subsystem Max name f x y = refl
no_claim_of_subsystem Min name f x y = refl

bounds_named : (c : bounds_cert.Certificate) → bounds_cert.Fits c → kind_of (bounds_text.text_of c) ≡ Bounds
unfolding bounds_text.text_of
bounds_named c fits = by_claim (claim_text c.claim) _ _ false false (of_no_discount c.claim _ _) (of_no_subsystem c.claim c.states c.body _ _ fits.entries)

discount_bounds_named : (c : discount_bounds_cert.Certificate) → kind_of (discount_bounds_text.text_of c) ≡ DiscountedBounds
unfolding discount_bounds_text.text_of
discount_bounds_named c =
    by_claim (discount_text.claim_text c.dir c.name c.factor) _ _ true false (discount_claim c.dir c.name c.factor _ _) (no_claim_of_subsystem c.dir c.name c.factor _ _)

subsystem_bounds_named : (c : subsystem_cert.Certificate) → kind_of (subsystem_text.text_of c) ≡ SubsystemBounds
unfolding subsystem_text.text_of
subsystem_bounds_named c =
    let claim = c.claim in
    by_claim (claim_text (subsystem_cert.plain_claim claim)) _ _ false true (of_no_discount (subsystem_cert.plain_claim claim) _ _)
    (of_subsystem claim.dir claim.stay claim.label claim.threshold _ _)

pub names_its_kind : (kind : CertificateKind) → NamesItsKind kind
names_its_kind Exact bytes c t = subst (λ (b : List ℕ). kind_of b ≡ Exact) (sym t.1.text) (exact_named t.0 c)
names_its_kind Discounted bytes c t = subst (λ (b : List ℕ). kind_of b ≡ Discounted) (sym t.text) (discount_named c)
names_its_kind Bounds bytes c t = subst (λ (b : List ℕ). kind_of b ≡ Bounds) (sym t.text) (bounds_named c t.fits)
names_its_kind DiscountedBounds bytes c t = subst (λ (b : List ℕ). kind_of b ≡ DiscountedBounds) (sym t.text) (discount_bounds_named c)
names_its_kind SubsystemBounds bytes c t = subst (λ (b : List ℕ). kind_of b ≡ SubsystemBounds) (sym t.text) (subsystem_bounds_named c)
