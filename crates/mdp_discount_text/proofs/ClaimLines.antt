-- The line of the claim is read exactly where it is the text of what is read.
use Rattle.std.proofs.Common.{◌≡◌, ◌⊎◌, inl, inr, ℕ, Bool, true, false, cond, List, [], ◌∷◌, ◌++◌, Option, Some, None, Ok, refl, sym, ap}
use Rattle.std.proofs.Common.{subst, ◌∙◌, append_assoc, arith}
use Rattle.std.specs.{Prelude.{codes}, Option.{option_and_then, option_map, option_or}}
use Rattle.mdp_math.specs.Rational.{ℚ}
use Rattle.mdp_num.specs.{Canonical.{canonical_of}, Value.{spelling, IsNarrow}}
use Rattle.mdp_rows.specs.{Name.{is_name}, declared.dir.Dir.{Dir}, declared.dir.Dir.TheVariants.{Max, Min}}
use Rattle.mdp_text.specs.declared.error.CertKind.TheVariants as kind
use Rattle.mdp_text.specs.{Lines.{or_refused}, Words.{frac_at, behind, name_and_rest}}
use Rattle.mdp_text.proofs.{Pieces.{Free, free-append, free-name, free-spelling}, Feeds.{found_ok, or-found, frac-found, frac-again}}
use Rattle.mdp_text.proofs.Behind.{behind-found, behind-again, rest-found, rest-again}
use Rattle.mdp_discount_text.specs.{Spelling.{claim_text}, Text.{Claim, is_factor, factor_of, claim_with, claim_front, claim_to, claim_of, claim_at}}

-- ---- a factor

spelled : (word : List ℕ) (f : ℚ) → canonical_of word ≡ Some f → (word ≡ spelling f) × IsNarrow f
unfolding frac_at
spelled word f e = frac-found 0 word f (ap (or_refused kind.Number 0) e)

spells : (f : ℚ) → IsNarrow f → canonical_of (spelling f) ≡ Some f
unfolding frac_at
spells f narrow = found_ok (canonical_of (spelling f)) kind.Number 0 f (frac-again 0 f narrow)

record IsFactorWord (word : List ℕ) (f : ℚ) : Type 0 where
  spelled : word ≡ spelling f
  narrow : IsNarrow f
  factor : is_factor f ≡ true

factor-found : (word : List ℕ) (f : ℚ) → factor_of word ≡ Some f → IsFactorWord word f
factor-found word f e = by (canonical_of word) refl e
  where
    given : (x : ℚ) (b : Bool) → is_factor x ≡ b → canonical_of word ≡ Some x → cond b (Some x) None ≡ Some f → IsFactorWord word f
    given x true t o e =
        let same : x ≡ f = cc in
        let s = spelled word x o in
        subst (λ (y : ℚ). IsFactorWord word y) same (record { spelled = s.0; narrow = s.1; factor = t })
    given x false t o e = absurd cc

    by : (o : Option ℚ) → canonical_of word ≡ o → option_and_then (λ x. cond (is_factor x) (Some x) None) o ≡ Some f → IsFactorWord word f
    by None o e = absurd cc
    by (Some x) o e = given x (is_factor x) refl o e

factor-again : (f : ℚ) → IsNarrow f → is_factor f ≡ true → factor_of (spelling f) ≡ Some f
factor-again f narrow t =
    ap (option_and_then (λ x. cond (is_factor x) (Some x) None)) (spells f narrow) ∙ ap (λ (b : Bool). cond b (Some f) None) t

-- ---- the claim

claim-text : (dir : Dir) (name : List ℕ) (f : ℚ) → claim_front dir ++ (name ++ (34 ∷ 32 ∷ spelling f)) ≡ claim_text dir name f
claim-text Max name f = ap (λ (xs : List ℕ). codes "claim max discount \"" ++ xs) (sym (append_assoc name (34 ∷ []) (32 ∷ spelling f)))
claim-text Min name f = ap (λ (xs : List ℕ). codes "claim min discount \"" ++ xs) (sym (append_assoc name (34 ∷ []) (32 ∷ spelling f)))

pub record IsClaimLine (text : List ℕ) (c : Claim) : Type 0 where
  pub spelled : text ≡ claim_text c.dir c.name c.factor
  pub named : is_name c.name ≡ true
  pub narrow : IsNarrow c.factor
  pub factor : is_factor c.factor ≡ true

to-found : (dir : Dir) (text : List ℕ) (c : Claim) → claim_to dir text ≡ Some c → IsClaimLine text c
unfolding claim_to
to-found dir text c e = by (behind (claim_front dir) text) refl e
  where
    whole : (rest : List ℕ) → text ≡ claim_front dir ++ rest → (p : List ℕ × List ℕ) → name_and_rest rest ≡ Some p → (o : Option ℚ) → factor_of p.1 ≡ o
        → option_map (λ f. record { dir = dir; name = p.0; factor = f }) o ≡ Some c → IsClaimLine text c
    whole rest b p r None k e = absurd cc
    whole rest b p r (Some f) k e =
        let is : (let d : Claim = record { dir = dir; name = p.0; factor = f } in d) ≡ c = cc in
        let g = rest-found rest p r in
        let w = factor-found p.1 f k in
        subst (λ (d : Claim). IsClaimLine text d) is (record {
          spelled = b ∙ ap (λ (xs : List ℕ). claim_front dir ++ xs) (g.0 ∙ ap (λ (xs : List ℕ). p.0 ++ (34 ∷ 32 ∷ xs)) w.spelled) ∙ claim-text dir p.0 f;
          named = g.1;
          narrow = w.narrow;
          factor = w.factor;
        })

    names : (rest : List ℕ) → text ≡ claim_front dir ++ rest → (o : Option (List ℕ × List ℕ)) → name_and_rest rest ≡ o → option_and_then (claim_with dir) o ≡ Some c → IsClaimLine text c
    names rest b None r e = absurd cc
    names rest b (Some p) r e = whole rest b p r (factor_of p.1) refl e

    by : (o : Option (List ℕ)) → behind (claim_front dir) text ≡ o → option_and_then (claim_with dir) (option_and_then name_and_rest o) ≡ Some c → IsClaimLine text c
    by None b e = absurd cc
    by (Some rest) b e = names rest (behind-found (claim_front dir) text rest b) (name_and_rest rest) refl e

to-again : (c : Claim) → is_name c.name ≡ true → IsNarrow c.factor → is_factor c.factor ≡ true → claim_to c.dir (claim_text c.dir c.name c.factor) ≡ Some c
unfolding claim_to
to-again c named narrow factor =
    ap (λ (t : List ℕ). option_and_then (claim_with c.dir) (option_and_then name_and_rest (behind (claim_front c.dir) t))) (sym (claim-text c.dir c.name c.factor))
    ∙ ap (λ (o : Option (List ℕ)). option_and_then (claim_with c.dir) (option_and_then name_and_rest o)) (behind-again (claim_front c.dir) (c.name ++ (34 ∷ 32 ∷ spelling c.factor)))
    ∙ ap (option_and_then (claim_with c.dir)) (rest-again c.name (spelling c.factor) named)
    ∙ ap (option_map (λ f. record { dir = c.dir; name = c.name; factor = f })) (factor-again c.factor narrow factor)

pub claim-found : (n : ℕ) (text : List ℕ) (c : Claim) → claim_at n text ≡ Ok c → IsClaimLine text c
unfolding claim_at claim_of
claim-found n text c e = by (or-found (claim_to Max text) (claim_to Min text) c (found_ok (claim_of text) kind.Claim n c e))
  where
    by : (claim_to Max text ≡ Some c) ⊎ (claim_to Min text ≡ Some c) → IsClaimLine text c
    by (inl h) = to-found Max text c h
    by (inr h) = to-found Min text c h

-- the claim of one direction isn't one of the other
other-none : (name : List ℕ) (f : ℚ) → claim_to Max (claim_text Min name f) ≡ None
unfolding claim_to
other-none name f = refl

of-again : (dir : Dir) (name : List ℕ) (f : ℚ) → (let c : Claim = record { dir = dir; name = name; factor = f } in claim_to dir (claim_text dir name f) ≡ Some c)
    → (let c : Claim = record { dir = dir; name = name; factor = f } in claim_of (claim_text dir name f) ≡ Some c)
unfolding claim_of
of-again Max name f e = ap (λ (o : Option Claim). option_or o (claim_to Min (claim_text Max name f))) e
of-again Min name f e = ap (λ (o : Option Claim). option_or o (claim_to Min (claim_text Min name f))) (other-none name f) ∙ e

pub claim-again : (n : ℕ) (c : Claim) → is_name c.name ≡ true → IsNarrow c.factor → is_factor c.factor ≡ true → claim_at n (claim_text c.dir c.name c.factor) ≡ Ok c
unfolding claim_at
claim-again n c named narrow factor = ap (or_refused kind.Claim n) (of-again c.dir c.name c.factor (to-again c named narrow factor))

free_front : (dir : Dir) → Free 10 (claim_front dir)
free_front Max = refl
free_front Min = refl

pub free-claim : (c : Claim) → is_name c.name ≡ true → IsNarrow c.factor → Free 10 (claim_text c.dir c.name c.factor)
free-claim c named narrow =
    subst (λ (t : List ℕ). Free 10 t) (claim-text c.dir c.name c.factor)
    (free-append 10 (claim_front c.dir) (c.name ++ (34 ∷ 32 ∷ spelling c.factor)) (free_front c.dir)
    (free-append 10 c.name (34 ∷ 32 ∷ spelling c.factor) (free-name c.name named) (free-spelling 10 c.factor (omega arith) narrow)))
