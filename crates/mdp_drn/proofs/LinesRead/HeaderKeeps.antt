-- What a header keeps from line to line.
use Rattle.std.proofs.Common.{◌≡◌, ℕ, suc, ◌^◌, ◌≤◌, Bool, true, false, not, cond, ◌&&◌, ◌||◌, ◌==◌, eqb, nat_lt, nat_le, List, [], ◌∷◌, filter, drop}
use Rattle.std.proofs.{Common.{length, Option, Some, None, Result, Ok, Err, IsTrue, refl, sym, ap, subst, ◌∙◌, arith, is_some}, lemmas.Bool.Decides.{nat_tests}}
use Rattle.std.proofs.lemmas.List.Elements.{All-cons, All-nil, All-head, All-tail, All-filter, filter_passes}
use Rattle.std.specs.{Prelude.{codes, IfOk, IfErr}, List.{All, list_any, slice_split, onto_first}, Str.{bytes_eq}}
use Rattle.mdp_rows.specs.{Name.{IsRewardName, AreRewardNames, are_different, begins_reserved, first_is_reserved}, declared.rule.RowRule.{RowRule}}
use Rattle.mdp_drn.specs.{declared.error.DrnKind.{DrnKind}, declared.header.ModelType.{ModelType}}
use Rattle.mdp_drn.specs.{Lines.{is_blank, is_line_feed, is_comment, begins_with, without_blanks_before}, Labels.{begins_blank}}
use Rattle.mdp_drn.specs.{declared.error.DrnError.{DrnError}, declared.line_error.LineError.{LineError}}
use Rattle.mdp_drn.specs.{declared.line_error.LineError.TheVariants.{Kind, Memory}, Outcome.{◌>>=◌, refuse_if, given_or, at_line_of, Refusal}}
use Rattle.mdp_drn.specs.Header.{Header, Next, AnyEntry, BlankLine, RewardNames, StateCount, ChoiceCount, Model, read, type_named, type_entry}
use Rattle.mdp_drn.specs.Header.{value_type_entry, parameters_entry, reward_models_entry, nr_states_entry, nr_choices_entry, model_entry, entry_line}
use Rattle.mdp_drn.specs.Header.{is_bad_name, names_in, words_of, count_in, with_states, is_entry, header_line, names_line, states_line, choices_line}
use Rattle.mdp_drn.specs.{Header.{is_word, or_else, names_or_one}, BodyView.{IsOneLine}, DocumentView.{IsHeader, AreGiven, IsCount, IsCounted}}
use Rattle.mdp_drn.specs.{HeaderView.{is_model}, Parsing.{FailsAs, error_at}, Feeding.{Fails, Gives}, Reading.{InHeader, begun, kept_line}}
use Rattle.mdp_drn.specs.declared.error.DrnKind.TheVariants as kind
use Rattle.mdp_drn.specs.declared.error.DrnError.TheVariants as error
use Rattle.mdp_num.specs.Digits.{is_digits, number}

-- ---- names

-- a byte that neither cuts nor ends a line
abbrev Plain : ℕ → Type 0
Plain x = (is_blank x ≡ false) × (is_line_feed x ≡ false)

onto_plain : (x : ℕ) (parts : List (List ℕ)) → Plain x → All (All Plain) parts → All (All Plain) (onto_first x parts)
onto_plain x [] p all = All-cons (All Plain) (x ∷ []) [] (All-cons Plain x [] p (All-nil Plain)) (All-nil (All Plain))
onto_plain x (part ∷ parts) p all = All-cons (All Plain) (x ∷ part) parts (All-cons Plain x part p (All-head (All Plain) part parts all)) (All-tail (All Plain) part parts all)

parts_plain : (xs : List ℕ) → IsOneLine xs → All (All Plain) (slice_split is_blank xs)
parts_plain [] one = All-cons (All Plain) [] [] (All-nil Plain) (All-nil (All Plain))
parts_plain (x ∷ xs) one = by (is_blank x) refl (parts_plain xs (All-tail (λ b. is_line_feed b ≡ false) x xs one))
  where
    by : (b : Bool) → is_blank x ≡ b → All (All Plain) (slice_split is_blank xs) → All (All Plain) (cond b ([] ∷ slice_split is_blank xs) (onto_first x (slice_split is_blank xs)))
    by true e all = All-cons (All Plain) [] (slice_split is_blank xs) (All-nil Plain) all
    by false e all = onto_plain x (slice_split is_blank xs) (e, All-head (λ b. is_line_feed b ≡ false) x xs one) all

no_bad : (word : List ℕ) → All Plain word → list_any (λ c. (c == 34) || (c == 13)) word ≡ false → list_any (λ b. b == 32 || b == 9 || b == 13 || b == 34 || b == 10) word ≡ false
no_bad [] all none = refl
no_bad (x ∷ xs) all none = by (eqb x 32) (eqb x 9) (eqb x 10) (eqb x 13) (eqb x 34) (All-head Plain x xs all) none (λ rest. no_bad xs (All-tail Plain x xs all) rest)
  where
    by : (space tab feed cr quote : Bool) → ((space || tab) ≡ false) × (feed ≡ false) → ((quote || cr) || list_any (λ c. (c == 34) || (c == 13)) xs) ≡ false
        → (list_any (λ c. (c == 34) || (c == 13)) xs ≡ false → list_any (λ b. b == 32 || b == 9 || b == 13 || b == 34 || b == 10) xs ≡ false)
        → (((((space || tab) || cr) || quote) || feed) || list_any (λ b. b == 32 || b == 9 || b == 13 || b == 34 || b == 10) xs) ≡ false
    by true tab feed cr quote p h rest = absurd (let e : true ≡ false = p.0 in cc)
    by false true feed cr quote p h rest = absurd (let e : true ≡ false = p.0 in cc)
    by false false true cr quote p h rest = absurd (let e : true ≡ false = p.1 in cc)
    by false false false cr true p h rest = absurd cc
    by false false false true false p h rest = absurd cc
    by false false false false false p h rest = rest h

reward_name : (word : List ℕ) → nat_lt 0 (length word) ≡ true → All Plain word → is_bad_name word ≡ false → IsRewardName word
reward_name word some all good =
    by (length word) (list_any (λ c. (c == 34) || (c == 13)) word) (list_any (λ b. b == 32 || b == 9 || b == 13 || b == 34 || b == 10) word) some good (no_bad word all)
  where
    by : (n : ℕ) (p q : Bool) → nat_lt 0 n ≡ true → (nat_lt 255 n || p) ≡ false → (p ≡ false → q ≡ false) → IsTrue ((nat_le 1 n && nat_le n 255) && not q)
    by n p q some good none = grind (arith, nat_tests)

reward_names : (words : List (List ℕ)) → All (λ word. nat_lt 0 (length word) ≡ true) words → All (All Plain) words → list_any is_bad_name words ≡ false → All IsRewardName words
reward_names [] some all good = All-nil IsRewardName
reward_names (w ∷ ws) some all good = by (is_bad_name w) good (λ e. reward_name w (All-head (λ word. nat_lt 0 (length word) ≡ true) w ws some) (All-head (All Plain) w ws all) e)
    (λ rest. reward_names ws (All-tail (λ word. nat_lt 0 (length word) ≡ true) w ws some) (All-tail (All Plain) w ws all) rest)
  where
    by : (b : Bool) → (b || list_any is_bad_name ws) ≡ false → (b ≡ false → IsRewardName w) → (list_any is_bad_name ws ≡ false → All IsRewardName ws) → All IsRewardName (w ∷ ws)
    by true h first rest = absurd cc
    by false h first rest = All-cons IsRewardName w ws (first refl) (rest h)

-- ---- the first name

abbrev Begins : List ℕ → List ℕ → Type 0
Begins ts part = (c : ℕ) (rest : List ℕ) → part ≡ c ∷ rest → (others : List ℕ) × (ts ≡ c ∷ others)

head_of : List ℕ → ℕ
head_of [] = 0
head_of (x ∷ xs) = x

first_part : (ts : List ℕ) → (part : List ℕ) × (parts : List (List ℕ)) × (slice_split is_blank ts ≡ part ∷ parts) × Begins ts part
first_part [] = ([], [], refl, λ c rest e. absurd cc)
first_part (y ∷ ys) = by (is_blank y) (first_part ys)
  where
    by : (b : Bool) → (part : List ℕ) × (parts : List (List ℕ)) × (slice_split is_blank ys ≡ part ∷ parts) × Begins ys part
        → (part : List ℕ) × (parts : List (List ℕ)) × (cond b ([] ∷ slice_split is_blank ys) (onto_first y (slice_split is_blank ys)) ≡ part ∷ parts) × Begins (y ∷ ys) part
    by true w = ([], slice_split is_blank ys, refl, λ c rest e. absurd cc)
    by false w = (y ∷ w.0, w.1, ap (onto_first y) w.2, λ c rest e. (ys, (let k : y ≡ c = cc in ap (λ (z : ℕ). z ∷ ys) k)))

at_sign : (t : ℕ) → (eqb 64 t && true) ≡ false → eqb t 64 ≡ false
at_sign t h = by (eqb 64 t) refl h
  where
    by : (b : Bool) → eqb 64 t ≡ b → (b && true) ≡ false → eqb t 64 ≡ false
    by true e k = absurd cc
    by false e k = grind (arith, nat_tests)

slashes : (t c : ℕ) → (eqb 47 t && (eqb 47 c && true)) ≡ false → (eqb t 47 && eqb c 47) ≡ false
slashes t c h = by (eqb 47 t) (eqb 47 c) refl refl h
  where
    left : eqb 47 t ≡ false → eqb t 47 ≡ false
    left e = grind (arith, nat_tests)

    right : eqb 47 c ≡ false → eqb c 47 ≡ false
    right e = grind (arith, nat_tests)

    none : (a b : Bool) → b ≡ false → (a && b) ≡ false
    none true b e = e
    none false b e = refl

    by : (a b : Bool) → eqb 47 t ≡ a → eqb 47 c ≡ b → (a && (b && true)) ≡ false → (eqb t 47 && eqb c 47) ≡ false
    by true true e f k = absurd cc
    by true false e f k = none (eqb t 47) (eqb c 47) (right f)
    by false b e f k = ap (λ (x : Bool). x && eqb c 47) (left e)

neither : (a b : Bool) → a ≡ false → b ≡ false → IsTrue (not (a || b))
neither true b p q = absurd cc
neither false true p q = absurd cc
neither false false p q = refl

not_reserved : (t : ℕ) (ts part : List ℕ) → Begins ts part → is_entry (t ∷ ts) ≡ false → is_comment (t ∷ ts) ≡ false → IsTrue (not (begins_reserved (t ∷ part)))
not_reserved t ts [] begins entry comment = by (eqb t 64) (at_sign t entry)
  where
    by : (b : Bool) → b ≡ false → IsTrue (not b)
    by true h = absurd cc
    by false h = refl
not_reserved t ts (c ∷ rest) begins entry comment =
    let w = begins c rest refl in
    neither (eqb t 64) (eqb t 47 && eqb c 47) (at_sign t entry) (slashes t c (subst (λ (xs : List ℕ). is_comment (t ∷ xs) ≡ false) w.1 comment))

words_first : (text : List ℕ) → begins_blank text ≡ false → is_entry text ≡ false → is_comment text ≡ false
    → (w : List ℕ) (ws : List (List ℕ)) → words_of text ≡ w ∷ ws → IsTrue (not (first_is_reserved (w ∷ ws)))
words_first [] blank entry comment w ws is = absurd cc
words_first (t ∷ ts) blank entry comment w ws is =
    let f = first_part ts in
    let split : slice_split is_blank (t ∷ ts) ≡ (t ∷ f.0) ∷ f.1 =
    ap (λ (b : Bool). cond b ([] ∷ slice_split is_blank ts) (onto_first t (slice_split is_blank ts))) blank ∙ ap (onto_first t) f.2 in
    let words : (t ∷ f.0) ∷ filter (λ word. nat_lt 0 (length word)) f.1 ≡ w ∷ ws = sym
    (ap (filter (λ (word : List ℕ). nat_lt 0 (length word))) split
    ∙ ap (λ (b : Bool). cond b ((t ∷ f.0) ∷ filter (λ (word : List ℕ). nat_lt 0 (length word)) f.1) (filter (λ (word : List ℕ). nat_lt 0 (length word)) f.1)) (some (length f.0)))
    ∙ is in
    subst (λ (xs : List (List ℕ)). IsTrue (not (first_is_reserved xs))) words (not_reserved t ts f.0 f.3 entry comment)
  where
    some : (n : ℕ) → nat_lt 0 (suc n) ≡ true
    some n = grind (arith, nat_tests)

names_given : (text : List ℕ) → IsOneLine text → begins_blank text ≡ false → is_entry text ≡ false → is_comment text ≡ false
    → (list_any is_bad_name (words_of text) || not (are_different (words_of text))) ≡ false → nat_lt 16 (length (words_of text)) ≡ false → AreGiven (Some (words_of text))
names_given text one blank entry comment good few =
    by (words_of text) (words_first text blank entry comment) (filter_passes (λ word. nat_lt 0 (length word)) (slice_split is_blank text))
    (All-filter (λ word. nat_lt 0 (length word)) (All Plain) (slice_split is_blank text) (parts_plain text one)) good few
  where
    left : (a b : Bool) → (a || not b) ≡ false → a ≡ false
    left true b h = absurd cc
    left false b h = refl

    right : (a b : Bool) → (a || not b) ≡ false → IsTrue b
    right true b h = absurd cc
    right false true h = refl
    right false false h = absurd cc

    count : (n : ℕ) → nat_lt 16 n ≡ false → n ≤ 16
    count n h = grind (arith, nat_tests)

    by : (words : List (List ℕ)) → ((w : List ℕ) (ws : List (List ℕ)) → words ≡ w ∷ ws → IsTrue (not (first_is_reserved (w ∷ ws))))
        → All (λ word. nat_lt 0 (length word) ≡ true) words → All (All Plain) words
        → (list_any is_bad_name words || not (are_different words)) ≡ false → nat_lt 16 (length words) ≡ false → AreGiven (Some words)
    by [] first some all good few = tt
    by (w ∷ ws) first some all good few = record {
      some = omega arith;
      few = count (length (w ∷ ws)) few;
      each = reward_names (w ∷ ws) some all (left (list_any is_bad_name (w ∷ ws)) (are_different (w ∷ ws)) good);
      different = right (list_any is_bad_name (w ∷ ws)) (are_different (w ∷ ws)) good;
      first = first w ws refl;
    }

-- ---- lines

abbrev Keeps : Result (Header × Next) DrnKind → Type 0
Keeps r = (header : Header) (next : Next) → r ≡ Ok (header, next) → IsHeader header next

abbrev header_of : Header → Result (Header × Next) DrnKind → Header
header_of d (Ok p) = p.0
header_of d (Err e) = d

abbrev next_of : Result (Header × Next) DrnKind → Next
next_of (Ok p) = p.1
next_of (Err e) = AnyEntry

keeps_read : (header : Header) (next : Next) → IsHeader header next → Keeps (read header next)
keeps_read header next is h n e = subst (λ (m : Next). IsHeader h m) (ap next_of e) (subst (λ (g : Header). IsHeader g next) (ap (header_of header) e) is)

keeps_err : (k : DrnKind) → Keeps (Err k)
keeps_err k h n e = absurd cc

keeps_if : (k : DrnKind) (b : Bool) (r : Result (Header × Next) DrnKind) → (b ≡ false → Keeps r) → Keeps (refuse_if k b >>= λ _. r)
keeps_if k true r keeps = keeps_err k
keeps_if k false r keeps = keeps refl

keeps_cond : (b : Bool) (r s : Result (Header × Next) DrnKind) → Keeps r → (b ≡ false → Keeps s) → Keeps (cond b r s)
keeps_cond true r s p q = p
keeps_cond false r s p q = q refl

module _ (header : Header) (given : AreGiven header.names) (count : IsCount header.states) where
  abbrev same : (next : Next) → IsCounted next header.states → IsHeader header next
  same next counted = record { names = given; states = counted }

  model_counted : (t : Bool) (o : Option ℕ) → IsCount o → not (t && is_some o) ≡ false → IsCounted Model o
  model_counted true None c h = absurd cc
  model_counted true (Some n) c h = c
  model_counted false o c h = absurd cc

  abbrev typed : Option ModelType → Result (Header × Next) DrnKind
  typed named = given_or kind.Type named >>= λ t. read (record header { model_type = Some t }) AnyEntry

  typed_keeps : (named : Option ModelType) → Keeps (typed named)
  typed_keeps None = keeps_err kind.Type
  typed_keeps (Some t) = keeps_read (record header { model_type = Some t }) AnyEntry (record { names = given; states = count })

  type_keeps : (word : List ℕ) → Keeps (type_entry header word)
  type_keeps word = keeps_if kind.Header (not (is_word word) || is_some header.model_type) (typed (type_named word)) (λ _. typed_keeps (type_named word))

  value_type_keeps : (word : List ℕ) → Keeps (value_type_entry header word)
  value_type_keeps word =
      keeps_if kind.Header (not (is_word word) || header.has_value_type) (read (record header { has_value_type = true }) AnyEntry)
      (λ _. keeps_read (record header { has_value_type = true }) AnyEntry (record { names = given; states = count }))

  parameters_keeps : Keeps (parameters_entry header)
  parameters_keeps = keeps_if kind.Header header.has_parameters (read (record header { has_parameters = true }) BlankLine)
      (λ _. keeps_read (record header { has_parameters = true }) BlankLine (record { names = given; states = count }))

  reward_models_keeps : Keeps (reward_models_entry header)
  reward_models_keeps = keeps_if kind.Header (is_some header.names) (read (record header { names = Some [] }) RewardNames)
      (λ _. keeps_read (record header { names = Some [] }) RewardNames (record { names = tt; states = count }))

  nr_states_keeps : Keeps (nr_states_entry header)
  nr_states_keeps = keeps_if kind.Header (is_some header.states) (read (record header { states = Some 0 }) StateCount)
      (λ _. keeps_read (record header { states = Some 0 }) StateCount (record { names = given; states = tt }))

  nr_choices_keeps : Keeps (nr_choices_entry header)
  nr_choices_keeps = keeps_if kind.Header (is_some header.choices) (read (record header { choices = Some 0 }) ChoiceCount)
      (λ _. keeps_read (record header { choices = Some 0 }) ChoiceCount (record { names = given; states = count }))

  model_keeps : Keeps (model_entry header)
  model_keeps =
      keeps_if kind.Header (not (is_some header.model_type && is_some header.states)) (read header Model)
      (λ complete. keeps_read header Model (record { names = given; states = model_counted (is_some header.model_type) header.states count complete }))

  abbrev from_model : List ℕ → Result (Header × Next) DrnKind
  from_model text = cond (bytes_eq text (codes "@model")) (model_entry header) (Err kind.Header)

  abbrev from_placeholders : List ℕ → Result (Header × Next) DrnKind
  from_placeholders text = cond (bytes_eq text (codes "@placeholders")) (Err kind.Parametric) (from_model text)

  abbrev from_choices : List ℕ → Result (Header × Next) DrnKind
  from_choices text = cond (bytes_eq text (codes "@nr_choices")) (nr_choices_entry header) (from_placeholders text)

  abbrev from_states : List ℕ → Result (Header × Next) DrnKind
  from_states text = cond (bytes_eq text (codes "@nr_states")) (nr_states_entry header) (from_choices text)

  abbrev from_rewards : List ℕ → Result (Header × Next) DrnKind
  from_rewards text = cond (bytes_eq text (codes "@reward_models")) (reward_models_entry header) (from_states text)

  abbrev from_parameters : List ℕ → Result (Header × Next) DrnKind
  from_parameters text = cond (bytes_eq text (codes "@parameters")) (parameters_entry header) (from_rewards text)

  abbrev from_value_type : List ℕ → Result (Header × Next) DrnKind
  from_value_type text = cond (begins_with (codes "@value_type:") text) (value_type_entry header (without_blanks_before (drop 12 text))) (from_parameters text)

  entry_keeps : (text : List ℕ) → Keeps (entry_line header text)
  unfolding entry_line
  entry_keeps text =
      keeps_cond (begins_with (codes "@type:") text) (type_entry header (without_blanks_before (drop 6 text))) (from_value_type text) (type_keeps (without_blanks_before (drop 6 text))) (λ _.
      keeps_cond (begins_with (codes "@value_type:") text) (value_type_entry header (without_blanks_before (drop 12 text))) (from_parameters text)
      (value_type_keeps (without_blanks_before (drop 12 text))) (λ _.
      keeps_cond (bytes_eq text (codes "@parameters")) (parameters_entry header) (from_rewards text) parameters_keeps (λ _.
      keeps_cond (bytes_eq text (codes "@reward_models")) (reward_models_entry header) (from_states text) reward_models_keeps (λ _.
      keeps_cond (bytes_eq text (codes "@nr_states")) (nr_states_entry header) (from_choices text) nr_states_keeps (λ _.
      keeps_cond (bytes_eq text (codes "@nr_choices")) (nr_choices_entry header) (from_placeholders text) nr_choices_keeps (λ _.
      keeps_cond (bytes_eq text (codes "@placeholders")) (Err kind.Parametric) (from_model text) (keeps_err kind.Parametric) (λ _.
      keeps_cond (bytes_eq text (codes "@model")) (model_entry header) (Err kind.Header) model_keeps (λ _. keeps_err kind.Header))))))))

names_keeps : (header : Header) (text : List ℕ) → IsCount header.states → IsOneLine text
    → begins_blank text ≡ false → is_entry text ≡ false → is_comment text ≡ false → Keeps (names_line header text)
unfolding names_in
names_keeps header text count one blank entry comment =
    by (list_any is_bad_name (words_of text) || not (are_different (words_of text))) (nat_lt 16 (length (words_of text))) (names_given text one blank entry comment)
  where
    by : (b d : Bool) → (b ≡ false → d ≡ false → AreGiven (Some (words_of text)))
        → Keeps ((refuse_if kind.Header b >>= λ _. refuse_if kind.TooMany d >>= λ _. Ok (words_of text)) >>= λ names. read (record header { names = Some names }) AnyEntry)
    by true d given = keeps_err kind.Header
    by false true given = keeps_err kind.TooMany
    by false false given = keeps_read (record header { names = Some (words_of text) }) AnyEntry (record { names = given refl refl; states = count })

count_keeps : (most : ℕ) (text : List ℕ) (f : ℕ → Result (Header × Next) DrnKind) → ((n : ℕ) → n ≤ most → Keeps (f n)) → Keeps (count_in most text >>= f)
count_keeps most text f keeps = by (not (is_digits text)) (nat_lt most (number text)) (λ h. keeps (number text) (small (number text) h))
  where
    small : (n : ℕ) → nat_lt most n ≡ false → n ≤ most
    small n h = grind (arith, nat_tests)

    by : (b d : Bool) → (d ≡ false → Keeps (f (number text))) → Keeps ((refuse_if kind.Number b >>= λ _. refuse_if kind.TooMany d >>= λ _. Ok (number text)) >>= f)
    by true d k = keeps_err kind.Number
    by false true k = keeps_err kind.TooMany
    by false false k = k refl

states_keeps : (header : Header) (text : List ℕ) → AreGiven header.names → Keeps (states_line header text)
states_keeps header text given = count_keeps (2 ^ 20) text (with_states header)
    (λ n le. keeps_if kind.Count (n == 0) (read (record header { states = Some n }) AnyEntry)
    (λ some. keeps_read (record header { states = Some n }) AnyEntry (record { names = given; states = (above n some, le) })))
  where
    above : (n : ℕ) → (n == 0) ≡ false → 1 ≤ n
    above n h = grind (arith, nat_tests)

-- a line that is no comment, without blanks before it
pub header_keeps : (next : Next) (header : Header) (text : List ℕ) → IsHeader header next → IsOneLine text
    → begins_blank text ≡ false → is_comment text ≡ false → Keeps (header_line next header text)
header_keeps AnyEntry header text is one blank comment =
    keeps_cond (length text == 0) (read header AnyEntry) (entry_line header text) (keeps_read header AnyEntry is) (λ _. entry_keeps header is.names is.states text)
header_keeps BlankLine header text is one blank comment =
    keeps_cond (length text == 0) (read header AnyEntry) (cond (is_entry text) (entry_line header text) (Err kind.Parametric))
    (keeps_read header AnyEntry (record { names = is.names; states = is.states }))
    (λ _. keeps_cond (is_entry text) (entry_line header text) (Err kind.Parametric) (entry_keeps header is.names is.states text) (λ _. keeps_err kind.Parametric))
header_keeps RewardNames header text is one blank comment =
    keeps_cond (is_entry text) (entry_line header text) (names_line header text) (entry_keeps header is.names is.states text) (λ plain. names_keeps header text is.states one blank plain comment)
header_keeps StateCount header text is one blank comment =
    keeps_cond (length text == 0) (read header StateCount) (states_line header text) (keeps_read header StateCount is) (λ _. states_keeps header text is.names)
header_keeps ChoiceCount header text is one blank comment =
    keeps_cond (length text == 0) (read header ChoiceCount) (choices_line header text) (keeps_read header ChoiceCount is)
    (λ _. count_keeps (2 ^ 22) text (λ n. read (record header { choices = Some n }) AnyEntry)
    (λ n le. keeps_read (record header { choices = Some n }) AnyEntry (record { names = is.names; states = is.states })))
header_keeps Model header text is one blank comment = keeps_read header Model is

-- ---- where the model begins

pub begun_model : (rule : RowRule) (h : Header) (n : Next) → is_model n ≡ true → begun rule h n ≡ begun rule h Model
begun_model rule h Model is = refl
begun_model rule h AnyEntry is = absurd cc
begun_model rule h BlankLine is = absurd cc
begun_model rule h RewardNames is = absurd cc
begun_model rule h StateCount is = absurd cc
begun_model rule h ChoiceCount is = absurd cc

pub begun_other : (rule : RowRule) (h : Header) (n : Next) → is_model n ≡ false → begun rule h n ≡ InHeader h n
begun_other rule h Model is = absurd cc
begun_other rule h AnyEntry is = refl
begun_other rule h BlankLine is = refl
begun_other rule h RewardNames is = refl
begun_other rule h StateCount is = refl
begun_other rule h ChoiceCount is = refl

pub at_model : (h : Header) (n : Next) → is_model n ≡ true → IsHeader h n → IsHeader h Model
at_model h Model is header = header
at_model h AnyEntry is header = absurd cc
at_model h BlankLine is header = absurd cc
at_model h RewardNames is header = absurd cc
at_model h StateCount is header = absurd cc
at_model h ChoiceCount is header = absurd cc

pub kept_header : (rule : RowRule) (line : ℕ) (text : List ℕ) (h g : Header) (n m : Next) → header_line n h text ≡ Ok (g, m) → kept_line rule line text (InHeader h n) ≡ Ok (begun rule g m)
kept_header rule line text h g n m is = ap (λ (r : Result (Header × Next) DrnKind). at_line_of line r >>= λ read. Ok (begun rule read.0 read.1)) is

pub fails-at_line : (rule : RowRule) (line : ℕ) (text : List ℕ) (h : Header) (n : Next) (e : LineError) → FailsAs e (header_line n h text)
    → Fails (error_at line e) (kept_line rule line text (InHeader h n))
fails-at_line rule line text h n Memory said = tt
fails-at_line rule line text h n (Kind k) said = ap (λ (r : Result (Header × Next) DrnKind). at_line_of line r >>= λ read. Ok (begun rule read.0 read.1)) said

-- what is given is known, unless memory ran out
pub gives_known : {X Y : Type 0} (f : X → Y) (r : Result X DrnError) (said : Result Y Refusal) (y : Y) → IfOk r (λ x. f x ≡ y) → IfErr r (λ e. e ≡ error.Memory) → said ≡ Ok y
    → Gives (λ x now. f x ≡ now) r said
gives_known f (Ok x) said y p m is = (y, is, p)
gives_known f (Err e) said y p m is = rw m tt

one_name : AreRewardNames (codes "-" ∷ [])
one_name = record { some = omega arith; few = omega arith; each = All-cons IsRewardName (codes "-") [] refl (All-nil IsRewardName); different = refl; first = refl }

pub names_for_model : (names : Option (List (List ℕ))) → AreGiven names → AreRewardNames (names_or_one (or_else [] names))
names_for_model None given = one_name
names_for_model (Some []) given = one_name
names_for_model (Some (n ∷ ns)) given = given
