-- The lines of a witnessing subsystem: each is read exactly where it is its text, and together they are the lists of the body.
use Rattle.std.proofs.Common.{◌≡◌, ℕ, suc, ◌<◌, ◌≤◌, ◌^◌, Bool, true, false, not, cond, ltb, eqb, ◌&&◌, List, [], ◌∷◌}
use Rattle.std.proofs.Common.{length, map, drop, decimal, Option, Some, None, is_some, Result, Ok, Err, refl, sym, ap, ap₂, subst, ◌∙◌, arith}
use Rattle.std.proofs.{lemmas.Bool.{not-false, and_parts}, lemmas.Bool.Decides.{nat_tests}, lemmas.List.{length-map}}
use Rattle.std.specs.{Prelude.{codes}, List.{join_with_byte, filter_map}, Option.{option_and_then, option_map}, Str.{bytes_eq}}
use Rattle.mdp_math.specs.Rational.{ℚ}
use Rattle.mdp_num.specs.Value.{spelling, IsNarrow}
use Rattle.mdp_claims.specs.declared.subsystem.Flow.{Flow}
use Rattle.mdp_text.specs.declared.error.CertKind.TheVariants as kind
use Rattle.mdp_text.specs.{declared.error.Refusal.{Refusal}, Lines.{◌>>=◌, refuse_if}, Words.{words, first_of, begins_with, words_behind, whole_at, frac_at}}
use Rattle.mdp_cert.specs.{declared.flow_line.FlowLine.{FlowLine}, declared.flow_line.FlowLine.TheVariants.{Keep, Send}}
use Rattle.mdp_cert.specs.{declared.floor_line.FloorLine.{FloorLine}, Cert.{is_next, are_kept, is_next_flow, are_flows, IsFlowInWidth}}
use Rattle.mdp_cert.specs.Witness.{mark_text, mark_at, flow_line_words, keep_at, kept_in, mark_in, flow_in, flow_at, flow_line_at, flow_listed, flow_lines}
use Rattle.mdp_cert.specs.Witness.{floor_line_words, floor_line_at, floor_listed, floor_lines}
use Rattle.mdp_text.proofs.{Pieces.{Free, free-spelling}, Cuts.{bytes_same, same-number, number-same}}
use Rattle.mdp_text.proofs.Feeds.{bind_ok, ok-is, refuse_ok, whole-found, whole-again, frac-found, frac-again}
use Rattle.mdp_text.proofs.{Joined.{free-join, free-whole, behind-again, behind-text}, States.{two-words, three-words, four-words}}
use Rattle.mdp_cert.proofs.{Bodies.{Each}, OneByOne.{IsListed, AreNext}}

and-true : (a b : Bool) → a ≡ true → b ≡ true → (a && b) ≡ true
and-true a b p q = rw (p, q) refl

below : (s n : ℕ) → ltb s n ≡ true → s < n
below s n e = grind (arith, nat_tests)

below-test : (s n : ℕ) → s < n → ltb s n ≡ true
below-test s n lt = grind (arith, nat_tests)

-- ---- the words

pub mark-found : (n : ℕ) (word : List ℕ) (wide : Bool) → mark_at n word ≡ Ok wide → word ≡ mark_text wide
mark-found n word wide e = by (bytes_eq word (mark_text false)) refl (bytes_eq word (mark_text true)) refl e
  where
    by : (b : Bool) → bytes_eq word (mark_text false) ≡ b → (c : Bool) → bytes_eq word (mark_text true) ≡ c
        → (let r : Result Bool Refusal = cond b (Ok false) (cond c (Ok true) (Err (record { kind = kind.Shape; line = n }))) in r) ≡ Ok wide → word ≡ mark_text wide
    by true t c u e = bytes_same word (mark_text false) t ∙ ap mark_text (ok-is false wide e)
    by false t true u e = bytes_same word (mark_text true) u ∙ ap mark_text (ok-is true wide e)
    by false t false u e = absurd cc

mark-again : (n : ℕ) (wide : Bool) → mark_at n (mark_text wide) ≡ Ok wide
mark-again n true = refl
mark-again n false = refl

free-mark-blank : (wide : Bool) → Free 32 (mark_text wide)
free-mark-blank true = refl
free-mark-blank false = refl

free-mark-feed : (wide : Bool) → Free 10 (mark_text wide)
free-mark-feed true = refl
free-mark-feed false = refl

-- the lists of the lines for `min`
abbrev pub FloorLists : Type 0
FloorLists = List ℕ × List Bool × List ℚ × List ℕ

abbrev pub lists-of-floors : List FloorLine → FloorLists
lists-of-floors xs = (map (λ x. x.state) xs, map (λ x. x.wide) xs, map (λ x. x.value) xs, map (λ x. x.rank) xs)

-- ---- for `max`

module _ (states : ℕ) (limit : states ≤ 2 ^ 20) where
  -- a line may stand behind this one
  abbrev pub IsNextLine : Option FlowLine → FlowLine → Type 0
  IsNextLine before (Keep state wide) = (is_some (option_and_then flow_in before) ≡ false) × (is_next (option_and_then kept_in before) state ≡ true) × (state < states)
  IsNextLine before (Send f) = (is_next_flow (option_and_then flow_in before) f ≡ true) × (f.state < states) × IsFlowInWidth f

  abbrev keep-order : Option ℕ → ℕ → Bool → ℕ → Result FlowLine Refusal
  keep-order before n wide state = refuse_if kind.Count n (not (is_next before state && ltb state states)) >>= λ order. Ok (Keep state wide)

  abbrev keep-state : Option ℕ → ℕ → List (List ℕ) → Bool → Result FlowLine Refusal
  keep-state before n behind wide = whole_at n (first_of behind) >>= keep-order before n wide

  abbrev keep-mark : Option ℕ → ℕ → List (List ℕ) → Result FlowLine Refusal
  keep-mark before n behind = mark_at n (first_of (drop 1 behind)) >>= keep-state before n behind

  record KeepFound (before : Option ℕ) (text : List ℕ) (x : FlowLine) : Type 0 where
    state : ℕ
    wide : Bool
    is : Keep state wide ≡ x
    spelled : text ≡ join_with_byte 32 (codes "keep" ∷ decimal state ∷ mark_text wide ∷ [])
    order : is_next before state ≡ true
    inside : state < states

  keep-found : (before : Option ℕ) (n : ℕ) (text : List ℕ) (x : FlowLine) → keep_at states before n text ≡ Ok x → KeepFound before text x
  unfolding keep_at
  keep-found before n text x e =
      let one = bind_ok (words_behind (codes "keep") 2 n text) (keep-mark before n) x e in
      let two = bind_ok (mark_at n (first_of (drop 1 one.0))) (keep-state before n one.0) x one.2 in
      let three = bind_ok (whole_at n (first_of one.0)) (keep-order before n two.0) x two.2 in
      let four = bind_ok (refuse_if kind.Count n (not (is_next before three.0 && ltb three.0 states))) (λ order. Ok (Keep three.0 two.0)) x three.2 in
      let o = and_parts _ _ (not-false _ (refuse_ok _ kind.Count n four.0 four.1)) in
      let t = behind-text (codes "keep") 2 n text one.0 one.1 in
      let w = whole-found n (first_of one.0) three.0 three.1 in
      let m = mark-found n (first_of (drop 1 one.0)) two.0 two.1 in
      record {
        state = three.0;
        wide = two.0;
        is = ok-is _ x four.2;
        spelled = t.0
            ∙ ap (λ (ws : List (List ℕ)). join_with_byte 32 (codes "keep" ∷ ws)) (two-words one.0 t.1)
            ∙ ap₂ (λ (a b : List ℕ). join_with_byte 32 (codes "keep" ∷ a ∷ b ∷ [])) w.0 m;
        order = o.0;
        inside = below three.0 states o.1;
      }

  keep-again : (before : Option ℕ) (n state : ℕ) (wide : Bool) → is_next before state ≡ true → state < states
      → keep_at states before n (join_with_byte 32 (codes "keep" ∷ decimal state ∷ mark_text wide ∷ [])) ≡ Ok (Keep state wide)
  unfolding keep_at
  keep-again before n state wide next lt =
      let small : state < 2 ^ 32 = omega arith in
      let ws : words_behind (codes "keep") 2 n (join_with_byte 32 (codes "keep" ∷ decimal state ∷ mark_text wide ∷ [])) ≡ Ok (decimal state ∷ mark_text wide ∷ []) =
      behind-again (codes "keep") 2 n (decimal state ∷ mark_text wide ∷ []) refl refl (free-whole 32 state (omega arith) small, (free-mark-blank wide, tt)) in
      rw (ws, mark-again n wide, whole-again n state small, next, below-test state states lt) refl

  abbrev sent : ℕ → ℕ → ℚ → Flow
  sent state choice amount = record { state = state; choice = choice; amount = amount }

  abbrev flow-order : Option Flow → ℕ → ℕ → ℕ → ℚ → Result FlowLine Refusal
  flow-order before n state choice amount =
      refuse_if kind.Count n (not (is_next_flow before (sent state choice amount) && ltb state states)) >>= λ order. Ok (Send (sent state choice amount))

  abbrev flow-amount : Option Flow → ℕ → List (List ℕ) → ℕ → ℕ → Result FlowLine Refusal
  flow-amount before n behind state choice = frac_at n (first_of (drop 1 (drop 1 behind))) >>= flow-order before n state choice

  abbrev flow-choice : Option Flow → ℕ → List (List ℕ) → ℕ → Result FlowLine Refusal
  flow-choice before n behind state = whole_at n (first_of (drop 1 behind)) >>= flow-amount before n behind state

  abbrev flow-state : Option Flow → ℕ → List (List ℕ) → Result FlowLine Refusal
  flow-state before n behind = whole_at n (first_of behind) >>= flow-choice before n behind

  record FlowFound (before : Option Flow) (text : List ℕ) (x : FlowLine) : Type 0 where
    said : Flow
    is : Send said ≡ x
    spelled : text ≡ join_with_byte 32 (codes "flow" ∷ decimal said.state ∷ decimal said.choice ∷ spelling said.amount ∷ [])
    order : is_next_flow before said ≡ true
    inside : said.state < states
    width : IsFlowInWidth said

  flow-found : (before : Option Flow) (n : ℕ) (text : List ℕ) (x : FlowLine) → flow_at states before n text ≡ Ok x → FlowFound before text x
  unfolding flow_at
  flow-found before n text x e =
      let one = bind_ok (words_behind (codes "flow") 3 n text) (flow-state before n) x e in
      let two = bind_ok (whole_at n (first_of one.0)) (flow-choice before n one.0) x one.2 in
      let three = bind_ok (whole_at n (first_of (drop 1 one.0))) (flow-amount before n one.0 two.0) x two.2 in
      let four = bind_ok (frac_at n (first_of (drop 1 (drop 1 one.0)))) (flow-order before n two.0 three.0) x three.2 in
      let f = sent two.0 three.0 four.0 in
      let five = bind_ok (refuse_if kind.Count n (not (is_next_flow before f && ltb two.0 states))) (λ order. Ok (Send f)) x four.2 in
      let o = and_parts _ _ (not-false _ (refuse_ok _ kind.Count n five.0 five.1)) in
      let t = behind-text (codes "flow") 3 n text one.0 one.1 in
      let w = whole-found n (first_of one.0) two.0 two.1 in
      let c = whole-found n (first_of (drop 1 one.0)) three.0 three.1 in
      let a = frac-found n (first_of (drop 1 (drop 1 one.0))) four.0 four.1 in
      record {
        said = f;
        is = ok-is _ x five.2;
        spelled = t.0
            ∙ ap (λ (ws : List (List ℕ)). join_with_byte 32 (codes "flow" ∷ ws)) (three-words one.0 t.1)
            ∙ same _ _ _ _ _ _ w.0 c.0 a.0;
        order = o.0;
        inside = below two.0 states o.1;
        width = record { choice = c.1; amount = a.1 };
      }
    where
      same : (a b c d u v : List ℕ) → a ≡ b → c ≡ d → u ≡ v → join_with_byte 32 (codes "flow" ∷ a ∷ c ∷ u ∷ []) ≡ join_with_byte 32 (codes "flow" ∷ b ∷ d ∷ v ∷ [])
      same a b c d u v p q o = rw (p, q, o) refl

  flow-again : (before : Option Flow) (n : ℕ) (f : Flow) → is_next_flow before f ≡ true → f.state < states → IsFlowInWidth f
      → flow_at states before n (join_with_byte 32 (codes "flow" ∷ decimal f.state ∷ decimal f.choice ∷ spelling f.amount ∷ [])) ≡ Ok (Send f)
  unfolding flow_at
  flow-again before n f next lt h =
      let small : f.state < 2 ^ 32 = omega arith in
      let behind = decimal f.state ∷ decimal f.choice ∷ spelling f.amount ∷ [] in
      let ws : words_behind (codes "flow") 3 n (join_with_byte 32 (codes "flow" ∷ behind)) ≡ Ok behind =
      behind-again (codes "flow") 3 n behind refl refl
      (free-whole 32 f.state (omega arith) small, (free-whole 32 f.choice (omega arith) h.choice, (free-spelling 32 f.amount (omega arith) h.amount, tt))) in
      rw (ws, whole-again n f.state small, whole-again n f.choice h.choice, frac-again n f.amount h.amount, next, below-test f.state states lt) refl

  line-found : (before : Option FlowLine) (n : ℕ) (text : List ℕ) (x : FlowLine) → flow_line_at states before n text ≡ Ok x
      → (text ≡ join_with_byte 32 (flow_line_words x)) × IsNextLine before x
  unfolding flow_line_at
  line-found before n text x e = by (begins_with (codes "flow") (words text)) e
    where
      kept : Unit {0} → KeepFound (option_and_then kept_in before) text x → is_some (option_and_then flow_in before) ≡ false → (text ≡ join_with_byte 32 (flow_line_words x)) × IsNextLine before x
      kept u k none = subst (λ (y : FlowLine). (text ≡ join_with_byte 32 (flow_line_words y)) × IsNextLine before y) k.is (k.spelled, (none, k.order, k.inside))

      by : (b : Bool) → cond b (flow_at states (option_and_then flow_in before) n text)
          (refuse_if kind.Shape n (is_some (option_and_then flow_in before)) >>= λ order. keep_at states (option_and_then kept_in before) n text) ≡ Ok x
          → (text ≡ join_with_byte 32 (flow_line_words x)) × IsNextLine before x
      by true e =
          let f = flow-found (option_and_then flow_in before) n text x e in
          subst (λ (y : FlowLine). (text ≡ join_with_byte 32 (flow_line_words y)) × IsNextLine before y) f.is (f.spelled, (f.order, f.inside, f.width))
      by false e =
          let one = bind_ok (refuse_if kind.Shape n (is_some (option_and_then flow_in before))) (λ order. keep_at states (option_and_then kept_in before) n text) x e in
          kept tt (keep-found (option_and_then kept_in before) n text x one.2) (refuse_ok _ kind.Shape n one.0 one.1)

  line-again : (before : Option FlowLine) (n : ℕ) (x : FlowLine) → IsNextLine before x → flow_line_at states before n (join_with_byte 32 (flow_line_words x)) ≡ Ok x
  unfolding flow_line_at
  line-again before n (Keep state wide) h = rw (h.0, keep-again (option_and_then kept_in before) n state wide h.1 h.2) refl
  line-again before n (Send f) h = flow-again (option_and_then flow_in before) n f h.0 h.1 h.2

  line-feeds : (before : Option FlowLine) (x : FlowLine) → IsNextLine before x → Free 10 (join_with_byte 32 (flow_line_words x))
  line-feeds before (Keep state wide) h =
      let lt = h.2 in free-join 10 (flow_line_words (Keep state wide)) refl (refl, (free-whole 10 state (omega arith) (omega arith), (free-mark-feed wide, tt)))
  line-feeds before (Send f) h =
      let lt = h.1 in
      free-join 10 (flow_line_words (Send f)) refl
      (refl, (free-whole 10 f.state (omega arith) (omega arith), (free-whole 10 f.choice (omega arith) h.2.choice, (free-spelling 10 f.amount (omega arith) h.2.amount, tt))))

  line-other : (before : Option FlowLine) (x : FlowLine) → IsNextLine before x → bytes_eq (join_with_byte 32 (flow_line_words x)) (codes "end") ≡ false
  line-other before (Keep state wide) h = refl
  line-other before (Send f) h = refl

  pub flow-is_listed : IsListed flow_listed states IsNextLine
  flow-is_listed = record { found = line-found; again = line-again; feeds = line-feeds; other = line-other }

  -- ---- the lists of lines

  -- behind a flow all lines are flows
  record OnlyFlows (xs : List FlowLine) : Type 0 where
    kept : filter_map kept_in xs ≡ []
    marks : filter_map mark_in xs ≡ []
    flows : map (λ f. Send f) (filter_map flow_in xs) ≡ xs

  only-flows : (f : Flow) (xs : List FlowLine) → AreNext IsNextLine (Some (Send f)) xs → OnlyFlows xs
  only-flows f [] h = record { kept = refl; marks = refl; flows = refl }
  only-flows f (Keep state wide ∷ xs) h = absurd (let t : true ≡ false = h.0.0 in cc)
  only-flows f (Send g ∷ xs) h =
      let o = only-flows g xs h.1 in record { kept = o.kept; marks = o.marks; flows = ap (λ (ys : List FlowLine). Send g ∷ ys) o.flows }

  pub lines-of : (before : Option FlowLine) (xs : List FlowLine) → AreNext IsNextLine before xs → flow_lines (filter_map kept_in xs) (filter_map mark_in xs) (filter_map flow_in xs) ≡ xs
  lines-of before [] h = refl
  lines-of before (Keep state wide ∷ xs) h = ap (λ (ys : List FlowLine). Keep state wide ∷ ys) (lines-of (Some (Keep state wide)) xs h.1)
  lines-of before (Send f ∷ xs) h =
      let o = only-flows f xs h.1 in
      ap₂ (λ (a : List ℕ) (b : List Bool). flow_lines a b (f ∷ filter_map flow_in xs)) o.kept o.marks ∙ ap (λ (ys : List FlowLine). Send f ∷ ys) o.flows

  kept-ok : (before : Option FlowLine) (xs : List FlowLine) → AreNext IsNextLine before xs → are_kept states (option_and_then kept_in before) (filter_map kept_in xs) ≡ true
  kept-ok before [] h = refl
  kept-ok before (Keep state wide ∷ xs) h = and-true _ _ (and-true _ _ h.0.1 (below-test state states h.0.2)) (kept-ok (Some (Keep state wide)) xs h.1)
  kept-ok before (Send f ∷ xs) h = rw ((only-flows f xs h.1).kept) refl

  flows-ok : (before : Option FlowLine) (xs : List FlowLine) → AreNext IsNextLine before xs → are_flows states (option_and_then flow_in before) (filter_map flow_in xs) ≡ true
  flows-ok before [] h = refl
  flows-ok before (Keep state wide ∷ xs) h = by (option_and_then flow_in before) h.0.0 (flows-ok (Some (Keep state wide)) xs h.1)
    where
      by : (o : Option Flow) → is_some o ≡ false → are_flows states None (filter_map flow_in xs) ≡ true → are_flows states o (filter_map flow_in xs) ≡ true
      by None e ok = ok
      by (Some f) e ok = absurd cc
  flows-ok before (Send f ∷ xs) h = and-true _ _ (and-true _ _ h.0.0 (below-test f.state states h.0.1)) (flows-ok (Some (Send f)) xs h.1)

  as-many : (xs : List FlowLine) → length (filter_map mark_in xs) ≡ length (filter_map kept_in xs)
  as-many [] = refl
  as-many (Keep state wide ∷ xs) = ap suc (as-many xs)
  as-many (Send f ∷ xs) = as-many xs

  pub flow-entries : (xs : List FlowLine) → AreNext IsNextLine None xs
      → (are_kept states None (filter_map kept_in xs) && eqb (length (filter_map mark_in xs)) (length (filter_map kept_in xs)) && are_flows states None (filter_map flow_in xs)) ≡ true
  flow-entries xs h = and-true _ _ (and-true _ _ (kept-ok None xs h) (same-number _ _ (as-many xs))) (flows-ok None xs h)

  pub flow-width : (before : Option FlowLine) (xs : List FlowLine) → AreNext IsNextLine before xs → Each IsFlowInWidth (filter_map flow_in xs)
  flow-width before [] h = tt
  flow-width before (Keep state wide ∷ xs) h = flow-width (Some (Keep state wide)) xs h.1
  flow-width before (Send f ∷ xs) h = (h.0.2, flow-width (Some (Send f)) xs h.1)

  -- ---- and the lines of lists

  next-flows : (before : Option FlowLine) (bf : Option Flow) (flows : List Flow) → option_and_then flow_in before ≡ bf → are_flows states bf flows ≡ true → Each IsFlowInWidth flows
      → AreNext IsNextLine before (map (λ f. Send f) flows)
  next-flows before bf [] e ok width = tt
  next-flows before bf (f ∷ flows) e ok width =
      let p = and_parts _ _ ok in
      let q = and_parts _ _ p.0 in
      ((ap (λ (o : Option Flow). is_next_flow o f) e ∙ q.0, below f.state states q.1, width.0), next-flows (Some (Send f)) (Some f) flows refl p.1 width.1)

  next-lines : (before : Option FlowLine) (bk : Option ℕ) (kept : List ℕ) (wide : List Bool) (flows : List Flow) → option_and_then kept_in before ≡ bk → option_and_then flow_in before ≡ None
      → are_kept states bk kept ≡ true → length wide ≡ length kept → are_flows states None flows ≡ true → Each IsFlowInWidth flows → AreNext IsNextLine before (flow_lines kept wide flows)
  next-lines before bk [] wide flows e none ok many sent width = next-flows before None flows none sent width
  next-lines before bk (s ∷ kept) [] flows e none ok many sent width = absurd (omega arith)
  next-lines before bk (s ∷ kept) (w ∷ wide) flows e none ok many sent width =
      let p = and_parts _ _ ok in
      let q = and_parts _ _ p.0 in (
        (ap is_some none, ap (λ (o : Option ℕ). is_next o s) e ∙ q.0, below s states q.1),
        next-lines (Some (Keep s w)) (Some s) kept wide flows refl refl p.1 (omega arith) sent width,
      )

  pub record FlowsAgain (kept : List ℕ) (wide : List Bool) (flows : List Flow) : Type 0 where
    pub next : AreNext IsNextLine None (flow_lines kept wide flows)
    pub kept_is : filter_map kept_in (flow_lines kept wide flows) ≡ kept
    pub wide_is : filter_map mark_in (flow_lines kept wide flows) ≡ wide
    pub flows_are : filter_map flow_in (flow_lines kept wide flows) ≡ flows

  sent-kept : (flows : List Flow) → filter_map kept_in (map (λ f. Send f) flows) ≡ []
  sent-kept [] = refl
  sent-kept (f ∷ flows) = sent-kept flows

  sent-marks : (flows : List Flow) → filter_map mark_in (map (λ f. Send f) flows) ≡ []
  sent-marks [] = refl
  sent-marks (f ∷ flows) = sent-marks flows

  sent-flows : (flows : List Flow) → filter_map flow_in (map (λ f. Send f) flows) ≡ flows
  sent-flows [] = refl
  sent-flows (f ∷ flows) = ap (λ (gs : List Flow). f ∷ gs) (sent-flows flows)

  kept-back : (kept : List ℕ) (wide : List Bool) (flows : List Flow) → length wide ≡ length kept → filter_map kept_in (flow_lines kept wide flows) ≡ kept
  kept-back [] wide flows e = sent-kept flows
  kept-back (s ∷ kept) [] flows e = absurd (omega arith)
  kept-back (s ∷ kept) (w ∷ wide) flows e = ap (λ (ss : List ℕ). s ∷ ss) (kept-back kept wide flows (omega arith))

  wide-back : (kept : List ℕ) (wide : List Bool) (flows : List Flow) → length wide ≡ length kept → filter_map mark_in (flow_lines kept wide flows) ≡ wide
  wide-back [] [] flows e = sent-marks flows
  wide-back [] (w ∷ wide) flows e = absurd (omega arith)
  wide-back (s ∷ kept) [] flows e = absurd (omega arith)
  wide-back (s ∷ kept) (w ∷ wide) flows e = ap (λ (ws : List Bool). w ∷ ws) (wide-back kept wide flows (omega arith))

  flows-back : (kept : List ℕ) (wide : List Bool) (flows : List Flow) → filter_map flow_in (flow_lines kept wide flows) ≡ flows
  flows-back [] wide flows = sent-flows flows
  flows-back (s ∷ kept) [] flows = sent-flows flows
  flows-back (s ∷ kept) (w ∷ wide) flows = flows-back kept wide flows

  pub flows-again : (kept : List ℕ) (wide : List Bool) (flows : List Flow)
      → (are_kept states None kept && eqb (length wide) (length kept) && are_flows states None flows) ≡ true → Each IsFlowInWidth flows → FlowsAgain kept wide flows
  flows-again kept wide flows ok width =
      let p = and_parts _ _ ok in
      let q = and_parts _ _ p.0 in
      let many = number-same (length wide) (length kept) q.1 in
      record {
        next = next-lines None None kept wide flows refl refl q.0 many p.1 width;
        kept_is = kept-back kept wide flows many;
        wide_is = wide-back kept wide flows many;
        flows_are = flows-back kept wide flows;
      }

  -- ---- for `min`

  abbrev before-state : Option FloorLine → Option ℕ
  before-state before = option_map (λ x. x.state) before

  pub record IsNextFloor (before : Option FloorLine) (x : FloorLine) : Type 0 where
    pub order : is_next (before-state before) x.state ≡ true
    pub inside : x.state < states
    pub value : IsNarrow x.value
    pub rank : x.rank < 2 ^ 32

  abbrev floor-line : ℕ → Bool → ℚ → ℕ → FloorLine
  floor-line state wide value rank = record { state = state; value = value; rank = rank; wide = wide }

  abbrev floor-order : Option FloorLine → ℕ → Bool → ℕ → ℚ → ℕ → Result FloorLine Refusal
  floor-order before n wide state value rank =
      refuse_if kind.Count n (not (is_next (before-state before) state && ltb state states)) >>= λ order. Ok (floor-line state wide value rank)

  abbrev floor-rank : Option FloorLine → ℕ → List (List ℕ) → Bool → ℕ → ℚ → Result FloorLine Refusal
  floor-rank before n behind wide state value = whole_at n (first_of (drop 1 (drop 1 behind))) >>= floor-order before n wide state value

  abbrev floor-value : Option FloorLine → ℕ → List (List ℕ) → Bool → ℕ → Result FloorLine Refusal
  floor-value before n behind wide state = frac_at n (first_of (drop 1 behind)) >>= floor-rank before n behind wide state

  abbrev floor-state : Option FloorLine → ℕ → List (List ℕ) → Bool → Result FloorLine Refusal
  floor-state before n behind wide = whole_at n (first_of behind) >>= floor-value before n behind wide

  abbrev floor-mark : Option FloorLine → ℕ → List (List ℕ) → Result FloorLine Refusal
  floor-mark before n behind = mark_at n (first_of (drop 1 (drop 1 (drop 1 behind)))) >>= floor-state before n behind

  floor-found : (before : Option FloorLine) (n : ℕ) (text : List ℕ) (x : FloorLine) → floor_line_at states before n text ≡ Ok x
      → (text ≡ join_with_byte 32 (floor_line_words x)) × IsNextFloor before x
  unfolding floor_line_at
  floor-found before n text x e =
      let one = bind_ok (words_behind (codes "keep") 4 n text) (floor-mark before n) x e in
      let two = bind_ok (mark_at n (first_of (drop 1 (drop 1 (drop 1 one.0))))) (floor-state before n one.0) x one.2 in
      let three = bind_ok (whole_at n (first_of one.0)) (floor-value before n one.0 two.0) x two.2 in
      let four = bind_ok (frac_at n (first_of (drop 1 one.0))) (floor-rank before n one.0 two.0 three.0) x three.2 in
      let five = bind_ok (whole_at n (first_of (drop 1 (drop 1 one.0)))) (floor-order before n two.0 three.0 four.0) x four.2 in
      let six =
      bind_ok (refuse_if kind.Count n (not (is_next (before-state before) three.0 && ltb three.0 states))) (λ order. Ok (floor-line three.0 two.0 four.0 five.0)) x five.2 in
      let o = and_parts _ _ (not-false _ (refuse_ok _ kind.Count n six.0 six.1)) in
      let t = behind-text (codes "keep") 4 n text one.0 one.1 in
      let m = mark-found n (first_of (drop 1 (drop 1 (drop 1 one.0)))) two.0 two.1 in
      let w = whole-found n (first_of one.0) three.0 three.1 in
      let v = frac-found n (first_of (drop 1 one.0)) four.0 four.1 in
      let r = whole-found n (first_of (drop 1 (drop 1 one.0))) five.0 five.1 in
      subst (λ (y : FloorLine). (text ≡ join_with_byte 32 (floor_line_words y)) × IsNextFloor before y) (ok-is _ x six.2) (
        t.0 ∙ ap (λ (ws : List (List ℕ)). join_with_byte 32 (codes "keep" ∷ ws)) (four-words one.0 t.1) ∙ same _ _ _ _ _ _ _ _ w.0 v.0 r.0 m,
        record { order = o.0; inside = below three.0 states o.1; value = v.1; rank = r.1 },
      )
    where
      same : (a b c d u v s t : List ℕ) → a ≡ b → c ≡ d → u ≡ v → s ≡ t
          → join_with_byte 32 (codes "keep" ∷ a ∷ c ∷ u ∷ s ∷ []) ≡ join_with_byte 32 (codes "keep" ∷ b ∷ d ∷ v ∷ t ∷ [])
      same a b c d u v s t p q o r = rw (p, q, o, r) refl

  floor-again : (before : Option FloorLine) (n : ℕ) (x : FloorLine) → IsNextFloor before x → floor_line_at states before n (join_with_byte 32 (floor_line_words x)) ≡ Ok x
  unfolding floor_line_at
  floor-again before n x h =
      let inside = h.inside in
      let small : x.state < 2 ^ 32 = omega arith in
      let behind = decimal x.state ∷ spelling x.value ∷ decimal x.rank ∷ mark_text x.wide ∷ [] in
      let ws : words_behind (codes "keep") 4 n (join_with_byte 32 (codes "keep" ∷ behind)) ≡ Ok behind =
      behind-again (codes "keep") 4 n behind refl refl
      (free-whole 32 x.state (omega arith) small, (free-spelling 32 x.value (omega arith) h.value, (free-whole 32 x.rank (omega arith) h.rank, (free-mark-blank x.wide, tt)))) in
      rw (ws, mark-again n x.wide, whole-again n x.state small, frac-again n x.value h.value, whole-again n x.rank h.rank, h.order, below-test x.state states inside) refl

  floor-feeds : (before : Option FloorLine) (x : FloorLine) → IsNextFloor before x → Free 10 (join_with_byte 32 (floor_line_words x))
  floor-feeds before x h =
      let inside = h.inside in
      free-join 10 (floor_line_words x) refl
      (refl, (free-whole 10 x.state (omega arith) (omega arith), (free-spelling 10 x.value (omega arith) h.value, (free-whole 10 x.rank (omega arith) h.rank, (free-mark-feed x.wide, tt)))))

  floor-other : (before : Option FloorLine) (x : FloorLine) → IsNextFloor before x → bytes_eq (join_with_byte 32 (floor_line_words x)) (codes "end") ≡ false
  floor-other before x h = refl

  pub floor-is_listed : IsListed floor_listed states IsNextFloor
  floor-is_listed = record { found = floor-found; again = floor-again; feeds = floor-feeds; other = floor-other }

  -- ---- the lists of lines

  pub floors-of : (xs : List FloorLine) → floor_lines (map (λ x. x.state) xs) (map (λ x. x.wide) xs) (map (λ x. x.value) xs) (map (λ x. x.rank) xs) ≡ xs
  floors-of [] = refl
  floors-of (x ∷ xs) = ap (λ (ys : List FloorLine). x ∷ ys) (floors-of xs)

  floor-kept : (before : Option FloorLine) (xs : List FloorLine) → AreNext IsNextFloor before xs → are_kept states (before-state before) (map (λ x. x.state) xs) ≡ true
  floor-kept before [] h = refl
  floor-kept before (x ∷ xs) h = and-true _ _ (and-true _ _ h.0.order (below-test x.state states h.0.inside)) (floor-kept (Some x) xs h.1)

  pub floor-values : (before : Option FloorLine) (xs : List FloorLine) → AreNext IsNextFloor before xs → Each IsNarrow (map (λ x. x.value) xs)
  floor-values before [] h = tt
  floor-values before (x ∷ xs) h = (h.0.value, floor-values (Some x) xs h.1)

  pub floor-ranks : (before : Option FloorLine) (xs : List FloorLine) → AreNext IsNextFloor before xs → Each (λ r. r < 2 ^ 32) (map (λ x. x.rank) xs)
  floor-ranks before [] h = tt
  floor-ranks before (x ∷ xs) h = (h.0.rank, floor-ranks (Some x) xs h.1)

  pub floor-entries : (xs : List FloorLine) → AreNext IsNextFloor None xs
      → (are_kept states None (map (λ x. x.state) xs) && eqb (length (map (λ x. x.wide) xs)) (length (map (λ x. x.state) xs)) && eqb
      (length (map (λ x. x.value) xs)) (length (map (λ x. x.state) xs)) && eqb (length (map (λ x. x.rank) xs)) (length (map (λ x. x.state) xs))) ≡ true
  floor-entries xs h =
      let a = length-map xs (λ (x : FloorLine). x.state) in
      let each : (X : Type 0) (g : FloorLine → X) → eqb (length (map g xs)) (length (map (λ x. x.state) xs)) ≡ true = λ X g. same-number _ _ (length-map xs g ∙ sym a) in
      rw (floor-kept None xs h, each Bool (λ x. x.wide), each ℚ (λ x. x.value), each ℕ (λ x. x.rank)) refl

  -- ---- and the lines of lists

  -- as many of each as kept states
  pub record FloorEntries (kept : List ℕ) (wide : List Bool) (values : List ℚ) (ranks : List ℕ) : Type 0 where
    pub marks_count : length wide ≡ length kept
    pub values_count : length values ≡ length kept
    pub ranks_count : length ranks ≡ length kept

  pub floor-counts : (kept : List ℕ) (wide : List Bool) (values : List ℚ) (ranks : List ℕ)
      → (are_kept states None kept && eqb (length wide) (length kept) && eqb (length values) (length kept) && eqb (length ranks) (length kept)) ≡ true
      → (are_kept states None kept ≡ true) × FloorEntries kept wide values ranks
  floor-counts kept wide values ranks ok =
      let p = and_parts _ _ ok in
      let q = and_parts _ _ p.0 in
      let r = and_parts _ _ q.0 in
      (r.0, record { marks_count = number-same _ _ r.1; values_count = number-same _ _ q.1; ranks_count = number-same _ _ p.1 })

  next-floors : (before : Option FloorLine) (bk : Option ℕ) (kept : List ℕ) (wide : List Bool) (values : List ℚ) (ranks : List ℕ) → before-state before ≡ bk
      → are_kept states bk kept ≡ true → Each IsNarrow values → Each (λ r. r < 2 ^ 32) ranks → AreNext IsNextFloor before (floor_lines kept wide values ranks)
  next-floors before bk (s ∷ kept) (w ∷ wide) (z ∷ values) (r ∷ ranks) e ok p q =
      let a = and_parts _ _ ok in
      let b = and_parts _ _ a.0 in (
        record { order = ap (λ (o : Option ℕ). is_next o s) e ∙ b.0; inside = below s states b.1; value = p.0; rank = q.0 },
        next-floors (Some (floor-line s w z r)) (Some s) kept wide values ranks refl a.1 p.1 q.1,
      )
  next-floors before bk kept wide values ranks e ok p q = tt

  pub floors-back : (kept : List ℕ) (wide : List Bool) (values : List ℚ) (ranks : List ℕ) → FloorEntries kept wide values ranks
      → lists-of-floors (floor_lines kept wide values ranks) ≡ (kept, wide, values, ranks)
  floors-back [] [] [] [] h = refl
  floors-back (s ∷ kept) (w ∷ wide) (z ∷ values) (r ∷ ranks) h =
      ap (λ (t : FloorLists). let q : FloorLists = (s ∷ t.0, w ∷ t.1, z ∷ t.2, r ∷ t.3) in q)
      (floors-back kept wide values ranks
      (record { marks_count = omega (arith, h.marks_count); values_count = omega (arith, h.values_count); ranks_count = omega (arith, h.ranks_count) }))
  floors-back kept wide values ranks h = absurd (omega (arith, h.marks_count, h.values_count, h.ranks_count))

  pub floors-next : (kept : List ℕ) (wide : List Bool) (values : List ℚ) (ranks : List ℕ) → are_kept states None kept ≡ true → Each IsNarrow values → Each (λ r. r < 2 ^ 32) ranks
      → AreNext IsNextFloor None (floor_lines kept wide values ranks)
  floors-next kept wide values ranks ok p q = next-floors None None kept wide values ranks refl ok p q
