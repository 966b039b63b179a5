-- What is shown of found bounds of discounted rewards: their certificate is accepted for the model, and its text reads as it.
use Rattle.std.proofs.Common.{◌≡◌, ℕ, ◌<◌, ◌≤◌, ◌⊎◌, inl, inr, Bool, true, ◌&&◌, List, length, Option, Some, None, Ok, Err, IfOk, refl, sym, ap, ap₂, subst, ◌∙◌, lt-ltb}
use Rattle.mdp_math.specs.Rational.{ℚ}
use Rattle.mdp_num.specs.OrderView.{equal_decides}
use Rattle.mdp_spec.specs.{Bounds.{reward_at}, Labels.{place_of}, Mdp.{Mdp}, Row.{IsMdp}}
use Rattle.mdp_rows.specs.declared.dir.Dir.{Dir}
use Rattle.mdp_claims.specs.declared.verdict.Verdict.TheVariants.{Yes}
use Rattle.mdp_discount_rules.specs.{BoundsCert.{Certificate, Fits}, BoundsCheck.{same_value, is_value, init_check, IsAccepted}, BoundsLaws.{AcceptedIsBound}}
use Rattle.mdp_discount_text.specs.{BoundsLaws.{IsReadBack}, Reading.{outcome}, BoundsSpelling.{text_of}}
use Rattle.mdp_job.specs.Refusal.{no_memory}
use Rattle.mdp_command.specs.{Files.{most_bytes}, Said.{Said}}
use Rattle.mdp_command_bounds_search.specs.{DiscountDue.{ClaimsSo, IsNamedDue, IsDiscountBoundsDue}, DiscountShown.{IsDiscountBoundsPrinted}, Near.{IsDiscountNearOrWide}}
use Rattle.mdp_command_bounds_search.proofs.{DiscountLength.{text_short}, Printing.{right_line}}

-- ---- the line `init`

same : (v : Option ℚ) → same_value v v ≡ true
same None = refl
same (Some x) = (equal_decides x x).1 refl

there : (v : List (Option ℚ)) (s : ℕ) → s < length v → is_value v s (reward_at v s) ≡ true
there v s lt = ap₂ (λ (a b : Bool). a && b) (lt-ltb s (length v) lt) (same (reward_at v s))

-- where the initial state has its values, the line is right
pub init_right : (s : ℕ) (lower upper : List (Option ℚ)) (x y : Option ℚ) → x ≡ reward_at lower s → y ≡ reward_at upper s → s < length lower → s < length upper
    → init_check (Some (record { state = s; lower = x; upper = y })) (Some s) lower upper ≡ Yes
init_right s lower upper x y e f l u =
    subst (λ (z : Option ℚ). init_check (Some (record { state = s; lower = z; upper = y })) (Some s) lower upper ≡ Yes) (sym e)
    (subst (λ (z : Option ℚ). init_check (Some (record { state = s; lower = reward_at lower s; upper = z })) (Some s) lower upper ≡ Yes) (sym f)
    (right_line s _ (ap₂ (λ (a b : Bool). a && b) (there lower s l) (there upper s u))))

-- ---- the text

module _ (dir : Dir) (name : List ℕ) (f : ℚ) (m : Mdp) (a : Certificate) (claim : ClaimsSo dir name f a) (accepted : IsAccepted m a) (fits : Fits a) where
  -- the values are so near, or the exact query is too wide
  abbrev IsNearSo : ℕ → Type 0
  IsNearSo digits = IsDiscountNearOrWide digits dir name f m a.lower a.upper

  printed_text : (digits : ℕ) → IsNearSo digits → IsMdp m → IsReadBack → AcceptedIsBound → (text : List ℕ) → text ≡ text_of a → IsDiscountBoundsPrinted dir name f digits m text
  printed_text digits near mdp back true_of text spelled = record {
    cert = a;
    claim = claim;
    spelled = spelled;
    short = subst (λ (t : List ℕ). length t ≤ most_bytes) (sym spelled) (text_short a fits);
    reads = ap outcome spelled ∙ back a fits;
    holds = accepted;
    bound = true_of m a mdp fits.discount accepted;
    near = near;
  }

  pub printed : (digits : ℕ) → IsNearSo digits → IsMdp m → IsReadBack → AcceptedIsBound → (said : Said) → (said ≡ Err no_memory) ⊎ (said ≡ Ok (text_of a))
      → IfOk said (IsDiscountBoundsPrinted dir name f digits m)
  printed digits near mdp back true_of (Ok text) (inl memory) = cc memory
  printed digits near mdp back true_of (Ok text) (inr e) = printed_text digits near mdp back true_of text (cc e)
  printed digits near mdp back true_of (Err refusal) e = tt

  pub text_due : (r : ℕ) → place_of name m.names ≡ Some r → (said : Said) → (said ≡ Err no_memory) ⊎ (said ≡ Ok (text_of a)) → (said ≡ Err no_memory) ⊎ IsDiscountBoundsDue dir name f m said
  text_due r found said (inl memory) = inl memory
  text_due r found said (inr e) =
      inr (subst (λ (o : Option ℕ). IsNamedDue dir name f m o said) (sym found) (record { cert = a; claim = claim; fits = fits; accepted = accepted; spelled = e }))
