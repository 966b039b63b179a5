-- The header, as it is read.
use Rattle.std.proofs.Common.{◌≡◌, ℕ, ◌^◌, ◌<◌, ◌≤◌, Bool, true, false, not, eqb, ltb, List, [], ◌∷◌, ◌++◌, length, sum_by, decimal, codes}
use Rattle.std.proofs.{Common.{append_assoc, refl, sym, ap, ap₂, subst, ◌∙◌, arith, lit<, Option, Some, None, Ok}, lemmas.Bool.{le-ltb}}
use Rattle.std.proofs.{lemmas.Bool.Decides.{nat_tests}, lemmas.List.{append-nil}}
use Rattle.std.specs.{Char.{is_ascii_digit}, List.{prefix_len}}
use Rattle.mdp_num.specs.{Digits.{number}, Numeral.{limit}}
use Rattle.mdp_num.proofs.Plain.{number-decimal}
use Rattle.mdp_rows.specs.{Draft.{new_draft}, Name.{AreRewardNames}, declared.rule.RowRule.TheVariants.{Exact}}
use Rattle.mdp_spec.specs.Mdp.{Mdp, states_of}
use Rattle.mdp_drn.specs.declared.error.DrnKind.TheVariants as kind
use Rattle.mdp_drn.specs.declared.header.ModelType.TheVariants as model_type
use Rattle.mdp_drn.specs.{Lines.{is_blank, is_comment, content}, Outcome.{◌>>=◌, refuse_if}}
use Rattle.mdp_drn.specs.Header.{Header, AnyEntry, BlankLine, RewardNames, StateCount, ChoiceCount, no_entries, count_in, entry_line, names_or_one}
use Rattle.mdp_drn.specs.{Reading.{Part, InHeader, InModel, kept_line}, Writing.{line, names_text, header_text}}
use Rattle.mdp_drn.proofs.TextWritten.Bytes.{Pass, pass-weaken, not_empty}
use Rattle.mdp_drn.proofs.TextWritten.Lines.{EndsWell, is_plain_byte, ends-plain, content-well, AreLines, flat}
use Rattle.mdp_drn.proofs.TextWritten.Numbers.{IsDecimal, is-decimal, decimal-digits, decimal-short, limit-wide, begins-other}
use Rattle.mdp_drn.proofs.{TextWritten.Brackets.{begins-digit}, TextWritten.States.{decimal-no_feed}, TextWritten.Names.{IsNamesLine, names-line}}
use Rattle.mdp_drn.proofs.TextWritten.LineByLine.{Reaches, reaches-none, reaches-line, body}

-- how many choices a model has
abbrev pub choices_of : Mdp → ℕ
choices_of m = sum_by (λ x. length x.choices) m.states

abbrev pub header_lines : Mdp → List (List ℕ)
header_lines m =
    codes "@type: MDP" ∷ codes "@parameters" ∷ [] ∷ codes "@reward_models" ∷ names_text m.names
    ∷ codes "@nr_states" ∷ decimal (states_of m) ∷ codes "@nr_choices" ∷ decimal (choices_of m) ∷ codes "@model" ∷ []

-- ---- a number alone on its line

digit-plain : (c : ℕ) → is_ascii_digit c ≡ true → is_plain_byte c ≡ true
digit-plain c h = grind (arith, nat_tests)

module _ (n : ℕ) (small : n ≤ limit) where
  d-is : IsDecimal (decimal n)
  d-is = is-decimal n (limit-wide n small)

  number-content : content (decimal n) ≡ decimal n
  number-content =
      let plain = subst (Pass is_plain_byte) d-is.is (pass-weaken is_ascii_digit is_plain_byte digit-plain (decimal n) d-is.bytes) in
      content-well (decimal n) (ap (prefix_len is_blank) d-is.is ∙ begins-digit d-is.first d-is.rest d-is.digit) (subst EndsWell (sym d-is.is) (ends-plain d-is.first d-is.rest plain))

  number-no_comment : is_comment (decimal n) ≡ false
  number-no_comment = ap is_comment d-is.is ∙ begins-other 47 (47 ∷ []) d-is.first d-is.rest (no-slash d-is.first d-is.digit)
    where
      no-slash : (c : ℕ) → is_ascii_digit c ≡ true → eqb 47 c ≡ false
      no-slash c h = grind (arith, nat_tests)

  number-some : eqb (length (decimal n)) 0 ≡ false
  number-some = ap (λ (t : List ℕ). eqb (length t) 0) d-is.is ∙ not_empty (length d-is.rest)

  count-read : (most : ℕ) → n ≤ most → count_in most (decimal n) ≡ Ok n
  count-read most le =
      let digits = decimal-digits n (limit-wide n small) in
      let is = number-decimal n (limit-wide n small) in
      let few : ltb most (number (decimal n)) ≡ false = ap (ltb most) is ∙ le-ltb most n le in
      ap₂ (λ (a b : Bool). refuse_if kind.Number (not a) >>= λ u. refuse_if kind.TooMany b >>= λ v. Ok (number (decimal n))) digits few ∙ ap Ok is

-- ---- the entries so far

abbrev header : Bool → Option (List (List ℕ)) → Option ℕ → Option ℕ → Header
header parameters names states choices = record { model_type = Some model_type.Mdp; has_value_type = false; has_parameters = parameters; names = names; states = states; choices = choices }

type-kept : (line : ℕ) → kept_line Exact line (codes "@type: MDP") (InHeader no_entries AnyEntry) ≡ Ok (InHeader (header false None None None) AnyEntry)
unfolding entry_line
type-kept line = refl

parameters-kept : (line : ℕ) → kept_line Exact line (codes "@parameters") (InHeader (header false None None None) AnyEntry) ≡ Ok (InHeader (header true None None None) BlankLine)
unfolding entry_line
parameters-kept line = refl

blank-kept : (line : ℕ) → kept_line Exact line [] (InHeader (header true None None None) BlankLine) ≡ Ok (InHeader (header true None None None) AnyEntry)
blank-kept line = refl

rewards-kept : (line : ℕ) → kept_line Exact line (codes "@reward_models") (InHeader (header true None None None) AnyEntry) ≡ Ok (InHeader (header true (Some []) None None) RewardNames)
unfolding entry_line
rewards-kept line = refl

names-kept : (names : List (List ℕ)) (text : List ℕ) (h : IsNamesLine names text) (line : ℕ)
    → kept_line Exact line text (InHeader (header true (Some []) None None) RewardNames) ≡ Ok (InHeader (header true (Some h.given) None None) AnyEntry)
names-kept names text h line = rw (h.entry, h.read) refl

states-kept : (names : List (List ℕ)) (line : ℕ)
    → kept_line Exact line (codes "@nr_states") (InHeader (header true (Some names) None None) AnyEntry) ≡ Ok (InHeader (header true (Some names) (Some 0) None) StateCount)
unfolding entry_line
states-kept names line = refl

state-count-kept : (names : List (List ℕ)) (n line : ℕ) → 0 < n → n ≤ 2 ^ 20 → n ≤ limit
    → kept_line Exact line (decimal n) (InHeader (header true (Some names) (Some 0) None) StateCount) ≡ Ok (InHeader (header true (Some names) (Some n) None) AnyEntry)
state-count-kept names n line some le small = rw (number-some n small, count-read n small (2 ^ 20) le, above n some) refl
  where
    above : (n : ℕ) → 0 < n → eqb n 0 ≡ false
    above n h = grind (arith, nat_tests)

choices-kept : (names : List (List ℕ)) (n line : ℕ)
    → kept_line Exact line (codes "@nr_choices") (InHeader (header true (Some names) (Some n) None) AnyEntry) ≡ Ok (InHeader (header true (Some names) (Some n) (Some 0)) ChoiceCount)
unfolding entry_line
choices-kept names n line = refl

choice-count-kept : (names : List (List ℕ)) (n k line : ℕ) → k ≤ 2 ^ 22 → k ≤ limit
    → kept_line Exact line (decimal k) (InHeader (header true (Some names) (Some n) (Some 0)) ChoiceCount) ≡ Ok (InHeader (header true (Some names) (Some n) (Some k)) AnyEntry)
choice-count-kept names n k line le small = rw (number-some k small, count-read k small (2 ^ 22) le) refl

model-kept : (names : List (List ℕ)) (n k line : ℕ)
    → kept_line Exact line (codes "@model") (InHeader (header true (Some names) (Some n) (Some k)) AnyEntry) ≡ Ok (InModel (Some k) (body (new_draft n Exact (names_or_one names)) 0 0))
unfolding entry_line
model-kept names n k line = refl

-- ---- the header

pub record IsHeaderFit (m : Mdp) : Type 0 where
  pub names : AreRewardNames m.names
  pub some : 0 < states_of m
  pub few_states : states_of m ≤ 2 ^ 20
  pub few_choices : choices_of m ≤ 2 ^ 22

pub small-limit : (n : ℕ) → n ≤ 2 ^ 22 → n ≤ limit
small-limit n h = let p : 2 ^ 22 < limit = lit< tt in omega (arith, p)

pub header-reaches : (m : Mdp) → IsHeaderFit m → Reaches (InHeader no_entries AnyEntry) (header_lines m) (InModel (Some (choices_of m)) (body (new_draft (states_of m) Exact m.names) 0 0))
header-reaches m h =
    let n : ℕ = states_of m in
    let k : ℕ = choices_of m in
    let line = names-line m.names h.names in
    let given = line.given in
    let few_n : states_of m ≤ limit = small-limit (states_of m) (omega (arith, h.few_states)) in
    let few_k : choices_of m ≤ limit = small-limit (choices_of m) h.few_choices in
    let last : Part = InModel (Some k) (body (new_draft n Exact m.names) 0 0) in
    let end : Reaches (InModel (Some k) (body (new_draft n Exact (names_or_one line.given)) 0 0)) [] last =
    subst (λ (names : List (List ℕ)). Reaches (InModel (Some k) (body (new_draft n Exact (names_or_one line.given)) 0 0)) [] (InModel (Some k) (body (new_draft n Exact names) 0 0))) line.known
    (reaches-none (InModel (Some k) (body (new_draft n Exact (names_or_one line.given)) 0 0))) in
    reaches-line (codes "@type: MDP") (codes "@type: MDP") _ _ (InHeader (header false None None None) AnyEntry) _ (omega arith) refl refl type-kept
    (reaches-line (codes "@parameters") (codes "@parameters") _ _ (InHeader (header true None None None) BlankLine) _ (omega arith) refl refl parameters-kept
    (reaches-line [] [] _ _ (InHeader (header true None None None) AnyEntry) _ (omega arith) refl refl blank-kept
    (reaches-line (codes "@reward_models") (codes "@reward_models") _ _ (InHeader (header true (Some []) None None) RewardNames) _ (omega arith) refl refl rewards-kept
    (reaches-line (names_text m.names) (names_text m.names) _ _
    (InHeader (header true (Some line.given) None None) AnyEntry) _ line.short line.content line.comment (names-kept m.names (names_text m.names) line)
    (reaches-line (codes "@nr_states") (codes "@nr_states") _ _ (InHeader (header true (Some line.given) (Some 0) None) StateCount) _ (omega arith) refl refl (states-kept line.given)
    (reaches-line (decimal (states_of m)) (decimal (states_of m)) _ _ (InHeader (header true (Some line.given) (Some (states_of m)) None) AnyEntry) _
    (omega (arith, decimal-short (states_of m) few_n)) (number-content (states_of m) few_n) (number-no_comment (states_of m) few_n)
    (λ l. state-count-kept line.given (states_of m) l h.some h.few_states few_n)
    (reaches-line (codes "@nr_choices") (codes "@nr_choices") _ _ (InHeader (header true (Some line.given) (Some (states_of m)) (Some 0)) ChoiceCount) _ (omega arith) refl refl
    (choices-kept line.given (states_of m))
    (reaches-line (decimal (choices_of m)) (decimal (choices_of m)) _ _ (InHeader (header true (Some line.given) (Some (states_of m)) (Some (choices_of m))) AnyEntry) _
    (omega (arith, decimal-short (choices_of m) few_k)) (number-content (choices_of m) few_k) (number-no_comment (choices_of m) few_k)
    (λ l. choice-count-kept line.given (states_of m) (choices_of m) l h.few_choices few_k)
    (reaches-line (codes "@model") (codes "@model") _ _ (InModel (Some k) (body (new_draft n Exact (names_or_one line.given)) 0 0)) _ (omega arith) refl refl
    (model-kept line.given (states_of m) (choices_of m)) end)))))))))

pub header-are_lines : (m : Mdp) → IsHeaderFit m → AreLines (header_lines m)
header-are_lines m h =
    let few_n : states_of m ≤ limit = small-limit (states_of m) (omega (arith, h.few_states)) in
    let few_k : choices_of m ≤ limit = small-limit (choices_of m) h.few_choices in
    (refl, (refl, (refl, (refl, (IsNamesLine.no_feed (names-line m.names h.names), (refl, (decimal-no_feed (states_of m) few_n, (refl, (decimal-no_feed (choices_of m) few_k, (refl, tt))))))))))

ten : (a b c d e f g h i j : List ℕ) → a ++ b ++ c ++ d ++ e ++ f ++ g ++ h ++ i ++ j ≡ a ++ (b ++ (c ++ (d ++ (e ++ (f ++ (g ++ (h ++ (i ++ (j ++ [])))))))))
ten a b c d e f g h i j = simp (append_assoc, append-nil)

pub header_text-flat : (m : Mdp) → header_text m ≡ flat (header_lines m)
header_text-flat m =
    ten (line (codes "@type: MDP")) (line (codes "@parameters")) (line []) (line (codes "@reward_models")) (line (names_text m.names)) (line (codes "@nr_states")) (line (decimal (states_of m)))
    (line (codes "@nr_choices")) (line (decimal (choices_of m))) (line (codes "@model"))
