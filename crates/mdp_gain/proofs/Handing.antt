-- The model of one end component alone, handed over step by step: what is known at each step.
use Rattle.std.proofs.Common.{◌≡◌, ℕ, zero, suc, ◌+◌, ◌<◌, Bool, true, ◌&&◌, List, [], ◌∷◌, ◌++◌, length, map, drop, Option, pos, refl, sym, ap, ◌∙◌, subst}
use Rattle.std.proofs.{Common.{zero-add, arith}, lemmas.Bool.{and_parts}, lemmas.List.{drop_at, drop_more, length-map, length-append}}
use Rattle.std.proofs.lemmas.List.FromFn.{get_or-map-range_with_len, length-map-range_with_len}
use Rattle.std.specs.{List.{range_with_len}, Prelude.{slice_index, slice_index_or, Result, Ok}}
use Rattle.mdp_math.specs.Rational.{ℚ, of_int}
use Rattle.mdp_spec.specs.{Mdp.{Mdp, states_of, row_at}, Row.{entries}}
use Rattle.mdp_rows.specs.{Draft.{Draft, new_draft, after_state, after_choice, after_finish, ◌>>=◌}, Replay.{with_entries, with_states, replayed}}
use Rattle.mdp_rows.specs.{Limits.{IsModel}, declared.error.RowsError.{RowsError}, declared.rule.RowRule.TheVariants.{Exact}}
use Rattle.mdp_rows.proofs.{ReplayStates.{is_replayed}, Calls.Steps.{ok_same}, CutModels.Handing.{one_choice, one_state}}
use Rattle.mdp_graph.specs.Sets.{marked, stays_in}
use Rattle.mdp_ends.specs.Ends.{in_part, is_inside, IsEnd, IsMaximal, AreEnds}
use Rattle.mdp_unichain.specs.Part.{IsPart, members}
use Rattle.mdp_gain.specs.{Alone.{place_in, to, only_name, elsewhere, alone_of, alone}, PartCode.{IsGiven, IsMember, HasChoice, inner_in, state_in, model_in}}
use Rattle.mdp_gain.specs.declared.alone.OnePart.{OnePart}
use Rattle.mdp_gain.proofs.{AloneModel.{alone-model}, MemberPlaces.{listed-below, listed-in}}

-- ---- the rest of a list

-- the value at c, and those behind it
pub map-next : {X : Type 0} (f : ℕ → X) (n c : ℕ) → c < n → drop c (map f (range_with_len 0 n)) ≡ f c ∷ drop (c + 1) (map f (range_with_len 0 n))
map-next {X} f n c l =
    let xs : List X = map f (range_with_len 0 n) in
    let h = length-map-range_with_len f 0 n in
    drop_more xs c (f 0) (omega (arith, h, l)) ∙ ap (λ (x : X). x ∷ drop (c + 1) xs) (get_or-map-range_with_len f 0 n c c (f 0) l (zero-add c))

pub behind-next : {X : Type 0} (f : ℕ → X) (xs : List ℕ) (last : X) (k : ℕ) → k < length xs
    → drop k (map f xs ++ last ∷ []) ≡ f (slice_index xs k) ∷ drop (k + 1) (map f xs ++ last ∷ [])
behind-next f [] last k l = absurd (omega arith)
behind-next f (x ∷ xs) last zero l = refl
behind-next {X} f (x ∷ xs) last (suc k) l =
    behind-next f xs last k (omega arith)
    ∙ ap (λ (i : ℕ). f (slice_index xs k) ∷ drop i (map f (x ∷ xs) ++ last ∷ [])) (let e : suc (k + 1) ≡ suc k + 1 = omega arith in e)

pub behind-last : {X : Type 0} (f : ℕ → X) (xs : List ℕ) (last : X) (k : ℕ) → k ≡ length xs → drop k (map f xs ++ last ∷ []) ≡ last ∷ []
behind-last f xs last k e = drop_at (map f xs) (last ∷ []) k (length-map xs f ∙ sym e)

-- ---- rows

-- where all of a row's entries are in a set, its targets are
pub targets-in : (set : ℕ → Bool) (ts : List ℕ) (ps : List ℚ) (i : ℕ) → length ts ≡ length ps → stays_in set (entries ts ps) ≡ true → i < length ts
    → set (slice_index ts i) ≡ true
targets-in set [] ps i e h l = absurd (omega arith)
targets-in set (t ∷ ts) [] i e h l = absurd (omega arith)
targets-in set (t ∷ ts) (p ∷ ps) zero e h l = (and_parts (set t) (stays_in set (entries ts ps)) h).0
targets-in set (t ∷ ts) (p ∷ ps) (suc i) e h l = targets-in set ts ps i (omega arith) (and_parts (set t) (stays_in set (entries ts ps)) h).1 (omega arith)

-- ---- what the code holds

module _ (x : OnePart) (g : IsGiven x) (known : IsModel x.model.now) where
  abbrev m : Mdp
  m = x.model.now

  abbrev parts : List (Option ℕ)
  parts = x.ends.now.parts

  pub is_part : IsPart m parts x.number
  is_part = record { model = known.mdp; ends = g.ends.ends; below = g.below }

  -- a choice that is marked is one of the end component
  pub inner-is : (s c : ℕ) → IsMember x s → HasChoice x s c → marked (slice_index_or x.ends.now.inner s []) c ≡ inner_in x s c
  inner-is s c h l = g.ends.inner s c h.0 l ∙ ap (λ (b : Bool). b && is_inside m parts s c) (sym h.1)

  -- its targets are states of the end component
  pub row-stays : (s c : ℕ) → IsMember x s → HasChoice x s c → inner_in x s c ≡ true → stays_in (in_part parts x.number) (row_at m s c) ≡ true
  row-stays s c h l e =
      IsEnd.closed (IsMaximal.is_end (AreEnds.maximal g.ends.ends x.number g.below)) s c h.0 h.1 l
      (and_parts (in_part parts x.number s) (is_inside m parts s c) e).1

  -- and have places
  pub place-is : (t : ℕ) → t < states_of m → in_part parts x.number t ≡ true → slice_index x.places.now t ≡ place_in x.states.now t
  place-is t l e = g.places.each t l e

  -- the states are members
  pub member-at : (k : ℕ) → k < length x.states.now → IsMember x (slice_index x.states.now k)
  member-at k l =
      let h : k < length (members m parts x.number) = subst (λ (xs : List ℕ). k < length xs) g.states l in
      subst (λ (xs : List ℕ). IsMember x (slice_index xs k)) (sym g.states) (listed-below m parts x.number k h, listed-in m parts x.number k h)

  pub room : length (members m parts x.number) < states_of m
  room = subst (λ (xs : List ℕ). length xs < states_of m) g.states g.fewer

  pub model_is : IsModel (model_in x)
  model_is =
      subst (λ (xs : List ℕ). IsModel (alone_of m parts x.number x.name xs)) (sym g.states)
      (alone-model m parts x.number x.name known room is_part)

  -- what a builder ends as that was given all states
  pub comes_out : (d : Draft) (made : Mdp) (n : ℕ) → n ≡ length x.states.now + 1
      → with_states (only_name ∷ []) [] (Mdp.states (model_in x)) (new_draft n Exact (only_name ∷ [])) ≡ Ok d → after_finish d ≡ Ok made
      → made ≡ model_in x
  comes_out d made n e given ends =
      let count : n ≡ states_of (model_in x) =
      (let a = length-append (map (state_in x) x.states.now) (elsewhere (length x.states.now) ∷ []) in
      let b = length-map x.states.now (state_in x) in
      omega (arith, a, b, e))
      in
      let h : replayed (model_in x) ≡ Ok made =
      ap (λ (k : ℕ). with_states (only_name ∷ []) [] (Mdp.states (model_in x)) (new_draft k Exact (only_name ∷ [])) >>= after_finish) (sym count)
      ∙ ap (λ (r : Result Draft RowsError). r >>= after_finish) given
      ∙ ends
      in
      ok_same made (model_in x) (sym h ∙ is_replayed (model_in x) model_is)

  pub alone-is : model_in x ≡ alone m parts x.number x.name
  alone-is = ap (alone_of m parts x.number x.name) g.states

-- ---- the one more state

pub elsewhere-given : (n : ℕ) (z : ℚ) (d o c l : Draft) → z ≡ of_int (pos 0) → after_state d (z ∷ []) ≡ Ok o
    → after_choice o (z ∷ []) ≡ Ok c → with_entries (to n) c ≡ Ok l → with_states (only_name ∷ []) [] (elsewhere n ∷ []) d ≡ Ok l
elsewhere-given n z d o c l e opens chosen given =
    let state : after_state d (of_int (pos 0) ∷ []) ≡ Ok o = subst (λ (y : ℚ). after_state d (y ∷ []) ≡ Ok o) e opens in
    let choice : after_choice o (of_int (pos 0) ∷ []) ≡ Ok c = subst (λ (y : ℚ). after_choice o (y ∷ []) ≡ Ok c) e chosen in
    one_state (only_name ∷ []) [] (elsewhere n) d o o l state refl (one_choice (record { row = to n; rewards = of_int (pos 0) ∷ [] }) o c l choice given)
