-- The lines of a witnessing subsystem: the states that are kept, and what is said of them.
use Rattle.std.specs.Prelude.{ℕ, Bool, true, false, not, ◌&&◌, List, [], ◌∷◌, ◌++◌, map, drop, decimal, codes, nat_lt}
use Rattle.std.specs.{Prelude.{Option, Some, None, is_some, option_and_then, option_map, filter_map, Result, Ok, if◌then◌else◌}, Str.{bytes_eq}}
use Rattle.mdp_math.specs.Rational.{ℚ}
use Rattle.mdp_num.specs.Value.{spelling}
use Rattle.mdp_claims.specs.declared.subsystem.Flow.{Flow}
use Rattle.mdp_text.specs.declared.error.CertKind.TheVariants as kind
use Rattle.mdp_text.specs.{declared.error.Refusal.{Refusal}, Lines.{◌>>=◌, refused, refuse_if}}
use Rattle.mdp_text.specs.Words.{words, first_of, begins_with, words_behind, whole_at, frac_at}
use Rattle.mdp_cert.specs.{declared.flow_line.FlowLine.{FlowLine}, declared.flow_line.FlowLine.TheVariants.{Keep, Send}}
use Rattle.mdp_cert.specs.{declared.floor_line.FloorLine.{FloorLine}, Cert.{PlainBody, flow, floor, is_next, is_next_flow}, Listed.{Listed}}

-- why a state is kept: the subsystem needs it, or without it a number is past width
abbrev pub mark_text : Bool → List ℕ
mark_text false = codes "kept"
mark_text true = codes "wide"

abbrev pub mark_at : ℕ → List ℕ → Result Bool Refusal
mark_at n word = if bytes_eq word (mark_text false) then Ok false else (if bytes_eq word (mark_text true) then Ok true else refused kind.Shape n)

-- ---- for `max`: the kept states, and behind them the flows

-- keep N MARK, and flow N CHOICE AMOUNT
abbrev pub flow_line_words : FlowLine → List (List ℕ)
flow_line_words (Keep state wide) = codes "keep" ∷ decimal state ∷ mark_text wide ∷ []
flow_line_words (Send f) = codes "flow" ∷ decimal f.state ∷ decimal f.choice ∷ spelling f.amount ∷ []

-- a kept state behind this one
unfoldable pub keep_at : ℕ → Option ℕ → ℕ → List ℕ → Result FlowLine Refusal
keep_at states before n text = do
  behind ← words_behind (codes "keep") 2 n text
  wide ← mark_at n (first_of (drop 1 behind))
  state ← whole_at n (first_of behind)
  order ← refuse_if kind.Count n (not (is_next before state && nat_lt state states))
  Ok (Keep state wide)

-- a flow behind this one
unfoldable pub flow_at : ℕ → Option Flow → ℕ → List ℕ → Result FlowLine Refusal
flow_at states before n text = do
  behind ← words_behind (codes "flow") 3 n text
  state ← whole_at n (first_of behind)
  choice ← whole_at n (first_of (drop 1 behind))
  amount ← frac_at n (first_of (drop 1 (drop 1 behind)))
  order ← refuse_if kind.Count n (not (is_next_flow before (record { state = state; choice = choice; amount = amount }) && nat_lt state states))
  Ok (Send (record { state = state; choice = choice; amount = amount }))

-- the state that a line keeps, its mark, and the flow that a line says
abbrev pub kept_in : FlowLine → Option ℕ
kept_in (Keep state wide) = Some state
kept_in (Send f) = None

abbrev pub mark_in : FlowLine → Option Bool
mark_in (Keep state wide) = Some wide
mark_in (Send f) = None

abbrev pub flow_in : FlowLine → Option Flow
flow_in (Keep state wide) = None
flow_in (Send f) = Some f

-- a line; behind a flow only flows stand
unfoldable pub flow_line_at : ℕ → Option FlowLine → ℕ → List ℕ → Result FlowLine Refusal
flow_line_at states before n text =
    if begins_with (codes "flow") (words text)
    then flow_at states (option_and_then flow_in before) n text
    else (refuse_if kind.Shape n (is_some (option_and_then flow_in before)) >>= λ order. keep_at states (option_and_then kept_in before) n text)

abbrev pub flow_listed : Listed FlowLine
flow_listed = record { judge = flow_line_at; words = flow_line_words }

-- the lines of a body, and the body of these lines
abbrev pub keep_lines : List ℕ → List Bool → List FlowLine
keep_lines (state ∷ kept) (mark ∷ wide) = Keep state mark ∷ keep_lines kept wide
keep_lines kept wide = []

abbrev pub flow_lines : List ℕ → List Bool → List Flow → List FlowLine
flow_lines kept wide flows = keep_lines kept wide ++ map (λ f. Send f) flows

abbrev pub flow_body : List FlowLine → PlainBody
flow_body xs = flow (filter_map kept_in xs) (filter_map mark_in xs) (filter_map flow_in xs)

-- ---- for `min`: the kept states with their values and ranks

-- keep N Z RANK MARK
abbrev pub floor_line_words : FloorLine → List (List ℕ)
floor_line_words x = codes "keep" ∷ decimal x.state ∷ spelling x.value ∷ decimal x.rank ∷ mark_text x.wide ∷ []

-- a kept state behind this one
unfoldable pub floor_line_at : ℕ → Option FloorLine → ℕ → List ℕ → Result FloorLine Refusal
floor_line_at states before n text = do
  behind ← words_behind (codes "keep") 4 n text
  wide ← mark_at n (first_of (drop 1 (drop 1 (drop 1 behind))))
  state ← whole_at n (first_of behind)
  value ← frac_at n (first_of (drop 1 behind))
  rank ← whole_at n (first_of (drop 1 (drop 1 behind)))
  order ← refuse_if kind.Count n (not (is_next (option_map (λ x. x.state) before) state && nat_lt state states))
  Ok (record { state = state; value = value; rank = rank; wide = wide })

abbrev pub floor_listed : Listed FloorLine
floor_listed = record { judge = floor_line_at; words = floor_line_words }

-- the lines of a body, and the body of these lines
abbrev pub floor_lines : List ℕ → List Bool → List ℚ → List ℕ → List FloorLine
floor_lines (state ∷ kept) (mark ∷ wide) (value ∷ values) (rank ∷ ranks) = record { state = state; value = value; rank = rank; wide = mark } ∷ floor_lines kept wide values ranks
floor_lines kept wide values ranks = []

abbrev pub floor_body : List FloorLine → PlainBody
floor_body xs = floor (map (λ x. x.state) xs) (map (λ x. x.wide) xs) (map (λ x. x.value) xs) (map (λ x. x.rank) xs)
