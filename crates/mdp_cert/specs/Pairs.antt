-- What several words behind the number of a state say: the first one a value, and the others an entry of one word less.
use Rattle.std.specs.Prelude.{ℕ, suc, ◌<◌, ◌^◌, ◌&&◌, ◌==◌, List, [], ◌∷◌, decimal, Option, None, option_and_then, option_map}
use Rattle.mdp_text.specs.Words.{whole_of}
use Rattle.mdp_cert.specs.{Runs.{Columns}, Claims.{Value}, declared.pair.Pair.{Pair}}

-- a whole number below 2^32
abbrev pub IsShort : ℕ → Type 0
IsShort n = n < 2 ^ 32

abbrev pub number_value : Value ℕ
number_value = record { parse = whole_of; spell = decimal; same = λ a b. a == b }

-- one word
abbrev pub word_parse : {V : Type 0} → Value V → List (List ℕ) → Option V
word_parse k (w ∷ []) = k.parse w
word_parse k ws = None

abbrev pub word_columns : {V : Type 0} → Value V → Columns V
word_columns k = record { width = 1; parse = word_parse k; words = λ v. k.spell v ∷ []; same = k.same }

-- a value before an entry
abbrev pub pair : {V E : Type 0} → V → E → Pair V E
pair v x = record { first = v; others = x }

abbrev pub pair_parse : {V E : Type 0} → Value V → Columns E → List (List ℕ) → Option (Pair V E)
pair_parse k l [] = None
pair_parse k l (w ∷ ws) = option_and_then (λ v. option_map (pair v) (l.parse ws)) (k.parse w)

abbrev pub pair_columns : {V E : Type 0} → Value V → Columns E → Columns (Pair V E)
pair_columns k l = record {
  width = suc l.width;
  parse = pair_parse k l;
  words = λ p. k.spell p.first ∷ l.words p.others;
  same = λ p q. k.same p.first q.first && l.same p.others q.others;
}

pub record IsPairInWidth {V E : Type 0} (IsInWidth : V → Type 0) (AreInWidth : E → Type 0) (p : Pair V E) : Type 0 where
  pub first : IsInWidth p.first
  pub others : AreInWidth p.others

-- the entries of a list of values and a list of entries
abbrev pub pairs : {V E : Type 0} → List V → List E → List (Pair V E)
pairs (v ∷ vs) (x ∷ xs) = pair v x ∷ pairs vs xs
pairs vs xs = []
