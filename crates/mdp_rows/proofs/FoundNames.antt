-- Names that are found in a list, and the names of reward models.
use Rattle.std.proofs.Common.{◌≡◌, ℕ, Bool, true, false, not, ◌&&◌, ◌||◌, eqb, List, [], ◌∷◌, get_or, Some, refl, sym, subst, ap₂}
use Rattle.std.proofs.{lemmas.List.Elements.{All-get_or}, lemmas.List.Quantifiers.{position-Some}, lemmas.Slice.Eq.{bytes_eq-Decides}}
use Rattle.std.specs.{List.{All, list_any}, Str.{bytes_eq}}
use Rattle.mdp_math.proofs.Booleans.{and-parts}
use Rattle.mdp_spec.specs.Labels.{place_of}
use Rattle.mdp_rows.specs.Name.{IsName, IsRewardName}

-- what is found in a list of names is one of them
pub found_among : (P : List ℕ → Type 0) (name : List ℕ) (names : List (List ℕ)) (l : ℕ) → place_of name names ≡ Some l → All P names → P name
found_among P name names l e h =
    let p = position-Some (bytes_eq name) names l [] e in
    subst P (sym ((bytes_eq-Decides name (get_or names l [])).0 p.1)) (All-get_or P names l [] p.0 h)

-- no quote and no line feed, where there is no blank, tab, CR, quote and line feed
none_of : (bytes : List ℕ) → list_any (λ b. eqb b 32 || eqb b 9 || eqb b 13 || eqb b 34 || eqb b 10) bytes ≡ false → list_any (λ b. eqb b 34 || eqb b 10) bytes ≡ false
none_of [] h = refl
none_of (b ∷ bytes) h =
    by (eqb b 32) (eqb b 9) (eqb b 13) (eqb b 34) (eqb b 10) (list_any (λ b. eqb b 32 || eqb b 9 || eqb b 13 || eqb b 34 || eqb b 10) bytes) h (none_of bytes)
  where
    by : (p q r s t rest : Bool) → ((p || q || r || s || t) || rest) ≡ false → (rest ≡ false → list_any (λ b. eqb b 34 || eqb b 10) bytes ≡ false)
        → ((s || t) || list_any (λ b. eqb b 34 || eqb b 10) bytes) ≡ false
    by false false false false false rest h more = more h
    by true q r s t rest h more = cc h
    by false true r s t rest h more = cc h
    by false false true s t rest h more = cc h
    by false false false true t rest h more = cc h
    by false false false false true rest h more = cc h

not-true : (b : Bool) → not b ≡ true → b ≡ false
not-true false e = refl
not-true true e = cc e

-- the name of a reward model is a name
pub name_of_reward : (name : List ℕ) → IsRewardName name → IsName name
name_of_reward name h = let p = and-parts _ _ h in ap₂ (λ (a b : Bool). a && not b) p.0 (none_of name (not-true _ p.1))
