-- Worked words, lines and heads, by computation.
use Rattle.std.proofs.Common.{◌≡◌, true, false, [], ◌∷◌, Some, None, Ok, refl, negsuc}
use Rattle.std.specs.{Prelude.{codes}, Fmt.{digits}}
use Rattle.mdp_math.specs.{Gcd.{gcd, gcd_with_fuel}, Rational.{ratio}}
use Rattle.mdp_math.proofs.Tables.{AreEqual}
use Rattle.mdp_num.specs.{Value.{spelling}, Canonical.{canonical_of}}
use Rattle.mdp_spec.proofs.Small.{third}
use Rattle.mdp_text.specs.{declared.error.CertKind.TheVariants.{Shape, Number, Count, End}, declared.init.Init.TheVariants.{Missing, Finite, Infinite, Start}}
use Rattle.mdp_text.specs.Lines.{refused, place, next_line, is_line, nothing_behind}
use Rattle.mdp_text.specs.Words.{words, words_behind, behind, whole_of, whole_at, frac_at, reward_parse}
use Rattle.mdp_text.specs.{Heads.{states_at, given_at, valued_at, start_at, init_by}, Spelling.{init_text, value_lines}}

-- ---- lines

next_lines : AreEqual (
    (next_line (place 4 (codes "end\n7")), Ok (codes "end", place 5 (codes "7"))) ∷
    -- an empty line is one
    (next_line (place 1 (codes "\n")), Ok ([], place 2 [])) ∷
    -- a last line without a line feed isn't
    (next_line (place 5 (codes "7")), refused End 5) ∷
    []
    )
unfolding next_line
next_lines = refl

another-line : is_line Shape (codes "end") 9 (codes "end ") ≡ refused Shape 9
another-line = refl

one-byte-behind : nothing_behind (place 3 (10 ∷ [])) ≡ refused End 3
unfolding nothing_behind
one-byte-behind = refl

-- ---- words

words_parted : AreEqual (
    -- between two blanks stands a word of no bytes
    (words (codes "a  b"), codes "a" ∷ [] ∷ codes "b" ∷ []) ∷
    -- an empty text has one word
    (words [], [] ∷ []) ∷
    []
    )
words_parted = refl

behind_a_word : AreEqual (
    (words_behind (codes "keep") 2 6 (codes "keep 0 wide"), Ok (codes "0" ∷ codes "wide" ∷ [])) ∷
    -- a blank at the end makes a word too many
    (words_behind (codes "keep") 2 6 (codes "keep 0 wide "), refused Shape 6) ∷
    (words_behind (codes "keep") 2 6 (codes "Keep 0 wide"), refused Shape 6) ∷
    []
    )
unfolding words_behind
behind_a_word = refl

short-front : behind (codes "claim ") (codes "claim") ≡ None
short-front = refl

-- ---- numbers

whole_numbers : AreEqual (
    (whole_at 2 (codes "4294967295"), Ok 4294967295) ∷
    (whole_at 2 (codes "4294967296"), refused Number 2) ∷
    (whole_at 2 (codes "07"), refused Number 2) ∷
    (whole_at 2 (codes "-0"), refused Number 2) ∷
    (whole_at 2 (codes "1/2"), refused Number 2) ∷
    []
    )
unfolding whole_at whole_of canonical_of ratio gcd gcd_with_fuel
whole_numbers = refl

fractions : AreEqual (
    (frac_at 2 (codes "1/3"), Ok third) ∷
    (frac_at 2 (codes "2/6"), refused Number 2) ∷
    []
    )
unfolding frac_at canonical_of ratio gcd gcd_with_fuel
fractions = refl

infinite : reward_parse (codes "inf") ≡ Some None
infinite = refl

capital : reward_parse (codes "Inf") ≡ None
unfolding canonical_of
capital = refl

-- ---- the number of states

numbers_of_states : AreEqual (
    (states_at 3 (codes "states 0"), refused Count 3) ∷
    (states_at 3 (codes "states 1048576"), Ok 1048576) ∷
    (states_at 3 (codes "states 1048577"), refused Count 3) ∷
    []
    )
unfolding states_at words_behind whole_at whole_of canonical_of ratio gcd gcd_with_fuel
numbers_of_states = refl

-- ---- the initial state

starts : AreEqual (
    (valued_at false 2 4 (codes "init 1 1/3"), Ok (Finite 1 third)) ∷
    (valued_at false 2 4 (codes "init -"), Ok Missing) ∷
    -- a start past the end
    (valued_at false 2 4 (codes "init 2 1/3"), refused Count 4) ∷
    -- `inf` only where values may be infinite
    (valued_at true 2 4 (codes "init 1 inf"), Ok (Infinite 1)) ∷
    (valued_at false 2 4 (codes "init 1 inf"), refused Number 4) ∷
    -- a start alone
    (start_at 2 4 (codes "init 1"), Ok (Start 1)) ∷
    (start_at 2 4 (codes "init 2"), refused Count 4) ∷
    (start_at 2 4 (codes "init -"), refused Number 4) ∷
    []
    )
unfolding valued_at given_at start_at words_behind whole_at whole_of canonical_of ratio gcd gcd_with_fuel
starts = refl

-- ---- what is written

texts : AreEqual (
    (init_text (init_by (Some 1) (λ s. Some third)), codes "init 1 1/3") ∷
    (init_text (init_by (Some 1) (λ s. None)), codes "init 1 inf") ∷
    (value_lines 4 (third ∷ ratio (negsuc 1) 1 ∷ []), codes "state 4 1/3\nstate 5 -2\n") ∷
    []
    )
unfolding spelling digits ratio gcd gcd_with_fuel
texts = refl
