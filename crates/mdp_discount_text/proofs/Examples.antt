-- Texts of certificates, computed: what is written, and what is read or refused.
use Rattle.std.proofs.Common.{◌≡◌, [], ◌∷◌, refl, pos, true, false}
use Rattle.std.specs.{Prelude.{codes}, Fmt.{digits}}
use Rattle.mdp_num.specs.Value.{spelling}
use Rattle.mdp_math.specs.{Gcd.{gcd, gcd_with_fuel}, Rational.{of_int, ratio, neg_ℚ, le_ℚ, lt_ℚ}}
use Rattle.mdp_rows.specs.declared.dir.Dir.TheVariants.{Max}
use Rattle.mdp_text.specs.declared.init.Init.TheVariants.{Finite}
use Rattle.mdp_discount_rules.specs.Cert.{Certificate}
use Rattle.mdp_discount_text.specs.{Spelling.{text_of}, Text.{is_factor}}
use Rattle.mdp_cert.specs.Spelling.{run_text, run_lines}

-- to wait at 0 for 1 in each step, or to move to 1, which earns 3 in each step, by factor 1/2
abbrev wait : Certificate
wait = record {
  dir = Max;
  name = codes "-";
  factor = ratio (pos 1) 2;
  init = Finite 0 (of_int (pos 3));
  remainder = of_int (pos 6);
  values = of_int (pos 3) ∷ of_int (pos 6) ∷ [];
  choices = 1 ∷ 0 ∷ [];
}

written :
    text_of wait ≡ codes "mdp-discount 1\nclaim max discount \"-\" 1/2\nstates 2\ninit 0 3\nremainder 6\nstate 0 3 1\nstate 1 6 0\nend\n"
unfolding text_of run_text run_lines spelling of_int ratio gcd gcd_with_fuel digits
written = refl

-- factors: 0 is one; 1 and -1/2 are none
zero_is : is_factor (of_int (pos 0)) ≡ true
unfolding of_int le_ℚ lt_ℚ
zero_is = refl

one_is_none : is_factor (of_int (pos 1)) ≡ false
unfolding of_int le_ℚ lt_ℚ
one_is_none = refl

below_is_none : is_factor (neg_ℚ (ratio (pos 1) 2)) ≡ false
unfolding of_int ratio neg_ℚ gcd gcd_with_fuel le_ℚ lt_ℚ
below_is_none = refl
