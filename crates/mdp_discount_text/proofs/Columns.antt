-- What is shown of the words of a state's line.
use Rattle.std.proofs.Common.{◌≡◌, ℕ, ◌<◌, ◌≤◌, false, eqb, List, Option, Some, None, refl, ap, subst, arith}
use Rattle.std.proofs.lemmas.Bool.Decides.{nat_tests}
use Rattle.std.specs.{Prelude.{codes}, Option.{option_map}}
use Rattle.mdp_math.specs.Rational.{ℚ}
use Rattle.mdp_num.specs.{Value.{IsNarrow}, Canonical.{canonical_of}}
use Rattle.mdp_text.specs.Words.{reward_parse}
use Rattle.mdp_text.proofs.Pieces.{Free}
use Rattle.mdp_cert.specs.Cert as cert
use Rattle.mdp_cert.specs.{Claims.{fraction_value, reward_value, reward_text}, Pairs.{IsShort, number_value, word_columns, pair_columns, IsPairInWidth}}
use Rattle.mdp_cert.proofs.Columns.{IsColumns, IsValue, fraction-is_value, or-found, or-again, free-or, reward-found, reward-again, free-reward, reward-is_value}
use Rattle.mdp_cert.proofs.WordByWord.{number-is_value, word-is_columns, pair-is_columns}
use Rattle.mdp_discount_rules.specs.BoundsCert.{IsValueNarrow}
use Rattle.mdp_discount_text.specs.{declared.entry.Lower.{Lower}, Entries.{priced_columns, lower, lower_text, lower_parse, lower_value, between_columns, IsEntryInWidth}}

-- ---- a value in width, as mdp_cert has it

as-cert : (x : Option ℚ) → IsValueNarrow x → cert.IsValueNarrow x
as-cert None h = tt
as-cert (Some x) h = h

of-cert : (x : Option ℚ) → cert.IsValueNarrow x → IsValueNarrow x
of-cert None h = tt
of-cert (Some x) h = h

-- ---- an upper value

pub upper-found : (w : List ℕ) (x : Option ℚ) → reward_parse w ≡ Some x → (w ≡ reward_text x) × IsValueNarrow x
upper-found w x e = let s = reward-found w x e in (s.0, of-cert x s.1)

pub upper-again : (x : Option ℚ) → IsValueNarrow x → reward_parse (reward_text x) ≡ Some x
upper-again x h = reward-again x (as-cert x h)

pub free-upper : (c : ℕ) (x : Option ℚ) → c < 45 → IsValueNarrow x → Free c (reward_text x)
free-upper c x lt h = free-reward c x lt (as-cert x h)

upper-is_value : IsValue reward_value IsValueNarrow
upper-is_value = record { found = upper-found; again = upper-again; free = free-upper; same = reward-is_value.same; itself = reward-is_value.itself }

-- ---- a lower value

inf-none : canonical_of (codes "-inf") ≡ None
unfolding canonical_of
inf-none = refl

free-inf : (c : ℕ) → c < 45 → Free c (codes "-inf")
free-inf c lt = rw (other 45 (omega arith), other 105 (omega arith), other 110 (omega arith), other 102 (omega arith)) refl
  where
    other : (d : ℕ) → 45 ≤ d → eqb d c ≡ false
    other d le = grind (arith, nat_tests)

pub lower-found : (w : List ℕ) (x : Option ℚ) → lower_parse w ≡ Some x → (w ≡ lower_text x) × IsValueNarrow x
lower-found w x e = let s = or-found (codes "-inf") inf-none lower_text refl (λ y. refl) w x e in (s.0, of-cert x s.1)

pub lower-again : (x : Option ℚ) → IsValueNarrow x → lower_parse (lower_text x) ≡ Some x
lower-again x h = or-again (codes "-inf") inf-none lower_text refl (λ y. refl) x (as-cert x h)

pub free-lower : (c : ℕ) (x : Option ℚ) → c < 45 → IsValueNarrow x → Free c (lower_text x)
free-lower c x lt h = free-or (codes "-inf") inf-none lower_text refl (λ y. refl) c x (free-inf c lt) lt (as-cert x h)

lower-is_value : IsValue lower_value (λ l. IsValueNarrow l.value)
lower-is_value = record {
  found = λ w l e. found w l (lower_parse w) refl e;
  again = λ l h. ap (option_map lower) (lower-again l.value h);
  free = λ c l lt h. free-lower c l.value lt h;
  same = λ l m e. ap lower (reward-is_value.same l.value m.value e);
  itself = λ l. reward-is_value.itself l.value;
}
  where
    found : (w : List ℕ) (l : Lower) (o : Option (Option ℚ)) → lower_parse w ≡ o → option_map lower o ≡ Some l → (w ≡ lower_text l.value) × IsValueNarrow l.value
    found w l None r e = absurd cc
    found w l (Some x) r e = let same : lower x ≡ l = cc in subst (λ (m : Lower). (w ≡ lower_text m.value) × IsValueNarrow m.value) same (lower-found w x r)

-- ---- the words of a line

pub priced-is_columns : IsColumns priced_columns (IsPairInWidth IsNarrow IsShort)
priced-is_columns = pair-is_columns fraction_value IsNarrow fraction-is_value (word_columns number_value) IsShort (word-is_columns number_value IsShort number-is_value)

pub between-is_columns : IsColumns between_columns IsEntryInWidth
between-is_columns =
    pair-is_columns lower_value (λ l. IsValueNarrow l.value) lower-is_value (pair_columns reward_value (word_columns number_value)) (IsPairInWidth IsValueNarrow IsShort)
    (pair-is_columns reward_value IsValueNarrow upper-is_value (word_columns number_value) IsShort (word-is_columns number_value IsShort number-is_value))
