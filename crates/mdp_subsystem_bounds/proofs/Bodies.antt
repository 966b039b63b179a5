-- The lists of a certificate as one list of entries; and their lines are read exactly where they are the text of what is read.
use Rattle.std.proofs.Common.{◌≡◌, ℕ, ◌≤◌, ◌^◌, List, [], ◌∷◌, ◌++◌, length, map, Result, Ok, refl, sym, ap, subst, ◌∙◌, arith}
use Rattle.std.proofs.lemmas.List.{length-map}
use Rattle.std.specs.List.{All}
use Rattle.mdp_math.specs.Rational.{ℚ}
use Rattle.mdp_num.specs.Value.{IsNarrow}
use Rattle.mdp_rows.specs.{declared.dir.Dir.{Dir}, declared.dir.Dir.TheVariants.{Max, Min}}
use Rattle.mdp_text.specs.{declared.error.Refusal.{Refusal}, Lines.{◌>>=◌, Place, place}}
use Rattle.mdp_text.proofs.Feeds.{bind_ok, ok-is}
use Rattle.mdp_cert.specs.{declared.version.Version.TheVariants.{Two}, Spelling.{closed_lines}, Pairs.{IsShort, IsPairInWidth, pairs}, Reading.{entries_to_end}}
use Rattle.mdp_cert.proofs.{Bodies.{Each, closed-found, closed-again}, Parts.{all-each, all-of}, WordByWord.{each-pair}, StateWords.{three-back, back}}
use Rattle.mdp_subsystem_bounds.specs.{declared.mark.Mark.{Mark}, Cert.{Lists, AreNamed}, Spelling.{lists_text}, Reading.{led_lists, ranked_lists, lists_from}}
use Rattle.mdp_subsystem_bounds.specs.Entries.{Ranked, ranked_columns, IsRankedInWidth, ranked_of, Led, led_columns, IsLedInWidth, led_of}
use Rattle.mdp_subsystem_bounds.proofs.Columns.{AnyMark, ranked-is_columns, led-is_columns}

-- ---- the lists of the entries, and the entries of the lists

pub led-of : (xs : List Led) → led_of (map (λ x. x.first) xs) (map (λ x. x.others.first) xs) (map (λ x. x.others.others.first) xs) (map (λ x. x.others.others.others) xs) ≡ xs
led-of [] = refl
led-of (x ∷ xs) = ap (λ (ys : List Led). x ∷ ys) (led-of xs)

pub ranked-of : (xs : List Ranked) → ranked_of (map (λ x. x.first) xs) (map (λ x. x.others.first) xs) (map (λ x. x.others.others) xs) ≡ xs
ranked-of [] = refl
ranked-of (x ∷ xs) = ap (λ (ys : List Ranked). x ∷ ys) (ranked-of xs)

-- as many zeros as there are entries
pub zeros : {A : Type 0} (xs : List A) (cs : List ℕ) → length cs ≡ length xs → Each (λ c. c ≡ 0) cs → map (λ x. 0) xs ≡ cs
zeros [] [] e h = refl
zeros (x ∷ xs) (c ∷ cs) e h = rw (h.0) (ap (λ (ds : List ℕ). 0 ∷ ds) (zeros xs cs (omega (arith, e)) h.1))
zeros [] (c ∷ cs) e h = absurd (omega (arith, e))
zeros (x ∷ xs) [] e h = absurd (omega (arith, e))

any-marks : (marks : List Mark) → Each AnyMark marks
any-marks [] = tt
any-marks (x ∷ xs) = (tt, any-marks xs)

-- ---- the lists that have a text

-- one of each for so many states, all numbers in width; for the least probability no choice is named
pub record AreLists (dir : Dir) (states : ℕ) (l : Lists) : Type 0 where
  pub lower : length l.lower ≡ states
  pub choices : length l.choices ≡ states
  pub ranks : length l.ranks ≡ states
  pub marks : length l.marks ≡ states
  pub named : AreNamed dir l.choices
  pub lower_width : All IsNarrow l.lower
  pub choices_width : All IsShort l.choices
  pub ranks_width : All IsShort l.ranks

pub named-of : (dir : Dir) (choices : List ℕ) → AreNamed dir choices → dir ≡ Min → All (λ c. c ≡ 0) choices
named-of Max choices h e = absurd cc
named-of Min choices h e = h

led-are : (states : ℕ) (xs : List Led) → length xs ≡ states → Each IsLedInWidth xs → AreLists Max states (led_lists xs)
led-are states xs count width = record {
  lower = length-map xs _ ∙ count;
  choices = length-map xs _ ∙ count;
  ranks = length-map xs _ ∙ count;
  marks = length-map xs _ ∙ count;
  named = tt;
  lower_width = all-of IsLedInWidth IsNarrow (λ x. x.first) (λ x h. h.first) xs width;
  choices_width = all-of IsLedInWidth IsShort (λ x. x.others.first) (λ x h. h.others.first) xs width;
  ranks_width = all-of IsLedInWidth IsShort (λ x. x.others.others.first) (λ x h. h.others.others.first) xs width;
}

ranked-are : (states : ℕ) (xs : List Ranked) → length xs ≡ states → Each IsRankedInWidth xs → AreLists Min states (ranked_lists xs)
ranked-are states xs count width = record {
  lower = length-map xs _ ∙ count;
  choices = length-map xs _ ∙ count;
  ranks = length-map xs _ ∙ count;
  marks = length-map xs _ ∙ count;
  named = all-of IsRankedInWidth (λ (c : ℕ). c ≡ 0) (λ x. 0) (λ x h. refl) xs width;
  lower_width = all-of IsRankedInWidth IsNarrow (λ x. x.first) (λ x h. h.first) xs width;
  choices_width = all-of IsRankedInWidth IsShort (λ x. 0) (λ x h. omega arith) xs width;
  ranks_width = all-of IsRankedInWidth IsShort (λ x. x.others.first) (λ x h. h.others.first) xs width;
}

-- ---- they are read

pub record FoundLists (dir : Dir) (states : ℕ) (p : Place) (l : Lists) (q : Place) : Type 0 where
  pub text : p.rest ≡ lists_text dir l ++ q.rest
  pub are : AreLists dir states l

abbrev made : {A : Type 0} → (List A → Lists) → List A × Place → Result (Lists × Place) Refusal
made lists xs = Ok (lists xs.0, xs.1)

pub lists-found : (dir : Dir) (states : ℕ) (p : Place) (l : Lists) (q : Place) → states ≤ 2 ^ 20 → lists_from dir states p ≡ Ok (l, q) → FoundLists dir states p l q
unfolding lists_from
lists-found Max states p l q limit e =
    let one = bind_ok (entries_to_end Two led_columns states p) (made led_lists) (l, q) e in
    let same : (let r : Lists × Place = (led_lists one.0.0, one.0.1) in r) ≡ (l, q) = ok-is _ _ one.2 in
    let f = closed-found led_columns IsLedInWidth led-is_columns states limit Two p one.0.0 one.0.1 one.1 in
    subst (λ (r : Lists × Place). FoundLists Max states p r.0 r.1) same (record {
      text = f.text ∙ ap (λ (xs : List Led). closed_lines Two led_columns xs ++ one.0.1.rest) (sym (led-of one.0.0));
      are = led-are states one.0.0 f.count f.width;
    })
lists-found Min states p l q limit e =
    let one = bind_ok (entries_to_end Two ranked_columns states p) (made ranked_lists) (l, q) e in
    let same : (let r : Lists × Place = (ranked_lists one.0.0, one.0.1) in r) ≡ (l, q) = ok-is _ _ one.2 in
    let f = closed-found ranked_columns IsRankedInWidth ranked-is_columns states limit Two p one.0.0 one.0.1 one.1 in
    subst (λ (r : Lists × Place). FoundLists Min states p r.0 r.1) same (record {
      text = f.text ∙ ap (λ (xs : List Ranked). closed_lines Two ranked_columns xs ++ one.0.1.rest) (sym (ranked-of one.0.0));
      are = ranked-are states one.0.0 f.count f.width;
    })

-- ---- and read back

led-width : (l : Lists) → All IsNarrow l.lower → All IsShort l.choices → All IsShort l.ranks → Each IsLedInWidth (led_of l.lower l.choices l.ranks l.marks)
led-width l p q r =
    each-pair IsNarrow (IsPairInWidth IsShort (IsPairInWidth IsShort AnyMark)) l.lower (pairs l.choices (pairs l.ranks l.marks)) (all-each IsNarrow l.lower p)
    (each-pair IsShort (IsPairInWidth IsShort AnyMark) l.choices (pairs l.ranks l.marks) (all-each IsShort l.choices q)
    (each-pair IsShort AnyMark l.ranks l.marks (all-each IsShort l.ranks r) (any-marks l.marks)))

ranked-width : (l : Lists) → All IsNarrow l.lower → All IsShort l.ranks → Each IsRankedInWidth (ranked_of l.lower l.ranks l.marks)
ranked-width l p r =
    each-pair IsNarrow (IsPairInWidth IsShort AnyMark) l.lower (pairs l.ranks l.marks) (all-each IsNarrow l.lower p)
    (each-pair IsShort AnyMark l.ranks l.marks (all-each IsShort l.ranks r) (any-marks l.marks))

lists-same : (l : Lists) (lower : List ℚ) (choices ranks : List ℕ) (marks : List Mark) → lower ≡ l.lower → choices ≡ l.choices → ranks ≡ l.ranks → marks ≡ l.marks
    → (let k : Lists = record { lower = lower; choices = choices; ranks = ranks; marks = marks } in k) ≡ l
lists-same l lower choices ranks marks p q r s = rw (p, q, r, s) refl

pub lists-again : (dir : Dir) (states n : ℕ) (l : Lists) (rest : List ℕ) → states ≤ 2 ^ 20 → AreLists dir states l
    → (m : ℕ) × (lists_from dir states (place n (lists_text dir l ++ rest)) ≡ Ok (l, place m rest))
unfolding lists_from
lists-again Max states n l rest limit are =
    let xs = led_of l.lower l.choices l.ranks l.marks in
    let b = back states l.lower l.choices l.ranks l.marks (record { lower = are.lower; upper = are.choices; choices = are.ranks; ranks = are.marks }) in
    let a = closed-again led_columns IsLedInWidth led-is_columns states limit Two n xs rest b.count (led-width l are.lower_width are.choices_width are.ranks_width) in (
      a.0,
      ap (λ (r : Result (List Led × Place) Refusal). r >>= made led_lists) a.1
          ∙ ap (λ (k : Lists). let r : Result (Lists × Place) Refusal = Ok (k, place a.0 rest) in r) (lists-same l _ _ _ _ b.lower b.upper b.choices b.ranks),
    )
lists-again Min states n l rest limit are =
    let xs = ranked_of l.lower l.ranks l.marks in
    let b = three-back states l.lower l.ranks l.marks are.lower are.ranks are.marks in
    let a = closed-again ranked_columns IsRankedInWidth ranked-is_columns states limit Two n xs rest b.count (ranked-width l are.lower_width are.ranks_width) in
    let none = zeros xs l.choices (are.choices ∙ sym b.count) (all-each (λ (c : ℕ). c ≡ 0) l.choices are.named) in (
      a.0,
      ap (λ (r : Result (List Ranked × Place) Refusal). r >>= made ranked_lists) a.1
          ∙ ap (λ (k : Lists). let r : Result (Lists × Place) Refusal = Ok (k, place a.0 rest) in r) (lists-same l _ _ _ _ b.first none b.second b.third),
    )
