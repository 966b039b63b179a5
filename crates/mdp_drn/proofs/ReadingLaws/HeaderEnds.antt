-- The header ends exactly at the line `@model`.
use Rattle.std.proofs.Common.{◌≡◌, ℕ, Bool, true, false, not, cond, ◌==◌, ◌&&◌, ◌||◌, ◌^◌, List, [], length, drop, Some, Result, Ok, Err, refl, sym, ap, subst, is_some, codes}
use Rattle.std.proofs.lemmas.Slice.Eq.{bytes_eq-Decides}
use Rattle.std.specs.Str.{bytes_eq}
use Rattle.mdp_drn.specs.{declared.error.DrnKind.{DrnKind}, Lines.{begins_with, without_blanks_before}, Outcome.{◌>>=◌, refuse_if, given_or}}
use Rattle.mdp_drn.specs.Header.{Header, Next, AnyEntry, BlankLine, RewardNames, StateCount, ChoiceCount, Model, read, is_word, type_named, header_line}
use Rattle.mdp_drn.specs.Header.{type_entry, value_type_entry, model_entry, entry_line, is_entry, names_in, words_of, count_in, with_states}
use Rattle.mdp_drn.specs.HeaderView.{is_model}
use Rattle.mdp_drn.specs.declared.error.DrnKind.TheVariants as kind

-- what is read goes on in this way, if it is read
abbrev Goes : Bool → Result (Header × Next) DrnKind → Type 0
Goes ends r = (header : Header) (next : Next) → r ≡ Ok (header, next) → is_model next ≡ ends

next_of : Result (Header × Next) DrnKind → Next
next_of (Ok p) = p.1
next_of (Err e) = AnyEntry

goes-read : (ends : Bool) (header : Header) (next : Next) → is_model next ≡ ends → Goes ends (read header next)
unfolding next_of
goes-read ends header next is h n e = subst (λ (m : Next). is_model m ≡ ends) (ap next_of e) is

goes-err : (ends : Bool) (k : DrnKind) → Goes ends (Err k)
goes-err ends k h n e = absurd cc

goes-bind : {A : Type 0} (ends : Bool) (r : Result A DrnKind) (f : A → Result (Header × Next) DrnKind) → ((x : A) → Goes ends (f x)) → Goes ends (r >>= f)
goes-bind ends (Ok x) f rest = rest x
goes-bind ends (Err k) f rest = goes-err ends k

goes-cond : (ends b : Bool) (r s : Result (Header × Next) DrnKind) → Goes ends r → Goes ends s → Goes ends (cond b r s)
goes-cond ends true r s p q = p
goes-cond ends false r s p q = q

-- ---- entries

entry-goes : (header : Header) (text : List ℕ) → bytes_eq text (codes "@model") ≡ false → Goes false (entry_line header text)
unfolding entry_line
entry-goes header text other =
    goes-cond false (begins_with (codes "@type:") text) _ _ (type (without_blanks_before (drop 6 text)))
    (goes-cond false (begins_with (codes "@value_type:") text) _ _ (value_type (without_blanks_before (drop 12 text)))
    (goes-cond false (bytes_eq text (codes "@parameters")) _ _ (once header.has_parameters (record header { has_parameters = true }) BlankLine refl)
    (goes-cond false (bytes_eq text (codes "@reward_models")) _ _ (once (is_some header.names) (record header { names = Some [] }) RewardNames refl)
    (goes-cond false (bytes_eq text (codes "@nr_states")) _ _ (once (is_some header.states) (record header { states = Some 0 }) StateCount refl)
    (goes-cond false (bytes_eq text (codes "@nr_choices")) _ _ (once (is_some header.choices) (record header { choices = Some 0 }) ChoiceCount refl)
    (goes-cond false (bytes_eq text (codes "@placeholders")) _ _ (goes-err false kind.Parametric)
    (subst (λ (b : Bool). Goes false (cond b (model_entry header) (Err kind.Header))) (sym other) (goes-err false kind.Header))))))))
  where
    once : (given : Bool) (after : Header) (next : Next) → is_model next ≡ false → Goes false (refuse_if kind.Header given >>= λ u. read after next)
    once given after next is = goes-bind false (refuse_if kind.Header given) (λ u. read after next) (λ u. goes-read false after next is)

    type : (word : List ℕ) → Goes false (type_entry header word)
    type word =
        goes-bind false (refuse_if kind.Header (not (is_word word) || is_some header.model_type)) _ (λ u.
        goes-bind false (given_or kind.Type (type_named word)) _ (λ t. goes-read false (record header { model_type = Some t }) AnyEntry refl))

    value_type : (word : List ℕ) → Goes false (value_type_entry header word)
    value_type word = once (not (is_word word) || header.has_value_type) (record header { has_value_type = true }) AnyEntry refl

entry-ends : (header : Header) → Goes true (entry_line header (codes "@model"))
unfolding entry_line
entry-ends header = goes-bind true (refuse_if kind.Header (not (is_some header.model_type && is_some header.states))) (λ u. read header Model) (λ u. goes-read true header Model refl)

-- ---- lines

line-goes : (next : Next) (header : Header) (text : List ℕ) → is_model next ≡ false → bytes_eq text (codes "@model") ≡ false → Goes false (header_line next header text)
line-goes AnyEntry header text unended other = goes-cond false (length text == 0) _ _ (goes-read false header AnyEntry refl) (entry-goes header text other)
line-goes BlankLine header text unended other =
    goes-cond false (length text == 0) _ _ (goes-read false header AnyEntry refl) (goes-cond false (is_entry text) _ _ (entry-goes header text other) (goes-err false kind.Parametric))
line-goes RewardNames header text unended other =
    goes-cond false (is_entry text) _ _ (entry-goes header text other)
    (goes-bind false (names_in (words_of text)) (λ names. read (record header { names = Some names }) AnyEntry) (λ names. goes-read false (record header { names = Some names }) AnyEntry refl))
line-goes StateCount header text unended other =
    goes-cond false (length text == 0) _ _ (goes-read false header StateCount refl)
    (goes-bind false (count_in (2 ^ 20) text) (with_states header)
    (λ n. goes-bind false (refuse_if kind.Count (n == 0)) (λ u. read (record header { states = Some n }) AnyEntry) (λ u. goes-read false (record header { states = Some n }) AnyEntry refl)))
line-goes ChoiceCount header text unended other =
    goes-cond false (length text == 0) _ _ (goes-read false header ChoiceCount refl)
    (goes-bind false (count_in (2 ^ 22) text) (λ n. read (record header { choices = Some n }) AnyEntry) (λ n. goes-read false (record header { choices = Some n }) AnyEntry refl))
line-goes Model header text unended other = absurd cc

line-ends : (next : Next) (header : Header) → is_model next ≡ false → Goes true (header_line next header (codes "@model"))
line-ends AnyEntry header unended = entry-ends header
line-ends BlankLine header unended = entry-ends header
line-ends RewardNames header unended = entry-ends header
line-ends StateCount header unended = goes-err true kind.Number
line-ends ChoiceCount header unended = goes-err true kind.Number
line-ends Model header unended = absurd cc

pub ends-at_model : (next : Next) (header : Header) (text : List ℕ) → is_model next ≡ false → Goes (bytes_eq text (codes "@model")) (header_line next header text)
ends-at_model next header text unended = by (bytes_eq text (codes "@model")) refl
  where
    by : (b : Bool) → bytes_eq text (codes "@model") ≡ b → Goes b (header_line next header text)
    by true is = subst (λ (t : List ℕ). Goes true (header_line next header t)) (sym ((bytes_eq-Decides text (codes "@model")).0 is)) (line-ends next header unended)
    by false is = line-goes next header text unended is
