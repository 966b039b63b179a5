-- The query of an end component ends as that of the same component as a model of its own, with the states' own numbers.
use Rattle.std.proofs.Common.{◌≡◌, ℕ, zero, suc, ◌<◌, ◌==◌, List, [], ◌∷◌, length, map, get_or, Option, Result, Ok, Err}
use Rattle.std.proofs.{Common.{refl, sym, ◌∙◌, ap, arith, pos, zero-add}, lemmas.List.{length-map, get_or-map}}
use Rattle.std.proofs.{lemmas.Bool.{eq-eqb, ne_eqb, cond-true, cond-false}, lemmas.List.FromFn.{fill_by_all, get_or-map-range_with_len}}
use Rattle.std.specs.{List.{range_with_len}, Prelude.{slice_index}}
use Rattle.mdp_math.specs.Rational.{ℚ, of_int}
use Rattle.mdp_spec.specs.Mdp.{Mdp, value_at}
use Rattle.mdp_rows.specs.declared.dir.Dir.{Dir}
use Rattle.mdp_wide.specs.{declared.too_wide.Part.TheVariants.{Inner}, Term.{WideTerm}}
use Rattle.mdp_ends.specs.Ends.{AreEnds}
use Rattle.mdp_policy_iteration.specs.{Path.{Refusal}, Queries.{term_of}}
use Rattle.mdp_unichain.specs.{Component.{Component, count, IsComponent}, Part.{members, IsPart, inner_component}, Path.{Found}}
use Rattle.mdp_unichain.proofs.Paths.{first_is_start}
use Rattle.mdp_gain.specs.{Best.{entry_of}, Query.{Answer, after_path, EndsSo}, Alone.{alone}, PartQuery.{term_in, end_in, EndsAsAlone}}
use Rattle.mdp_gain.specs.Renumbering.{Ascend, IsRenumbering, spread, spread_values}
use Rattle.mdp_gain.proofs.{AloneComponent.{alone-renumbering, alone-component, alone-members}, RenumberedPolicies.{first-spread}}
use Rattle.mdp_gain.proofs.{Spread.{Ascend-tail, entries}, RenumberedPath.{end_there, path-there}}

-- at a state a spread list has the entry of its place; both have d where the list ends before it
entry-place : {A : Type 0} (d : A) (states : List ℕ) (xs : List A) → Ascend states → (j : ℕ) → j < length states
    → entry_of d states xs (slice_index states j) ≡ get_or xs j d
entry-place d [] xs up j l = absurd (omega arith)
entry-place d (t ∷ states) [] up j l = refl
entry-place d (t ∷ states) (x ∷ xs) up zero l = cond-true (t == t) x (entry_of d states xs t) (eq-eqb t t refl)
entry-place d (t ∷ states) (x ∷ xs) up (suc j) l =
    cond-false (t == slice_index states j) x (entry_of d states xs (slice_index states j))
    (ne_eqb t (slice_index states j) (λ e. let i = up 0 (suc j) (omega arith) l in omega arith))
    ∙ entry-place d states xs (Ascend-tail t states up) j (omega arith)

-- and so has the whole list, at a state below its length
entries-place : {A : Type 0} (d : A) (states : List ℕ) (n : ℕ) (xs : List A) → Ascend states → (j : ℕ) → j < length states → slice_index states j < n
    → get_or (entries d states n xs) (slice_index states j) d ≡ get_or xs j d
entries-place d states n xs up j l b =
    get_or-map-range_with_len (entry_of d states xs) 0 n (slice_index states j) (slice_index states j) d b (zero-add (slice_index states j))
    ∙ entry-place d states xs up j l

-- the entries for the places in a list are those at its elements, where one function says at each element what the other says at its place
map-places : {A : Type 0} (d : A) (f g : ℕ → A) (states : List ℕ) → ((j : ℕ) → j < length states → f (slice_index states j) ≡ g j)
    → map f states ≡ map g (range_with_len 0 (length states))
map-places d f g states same = fill_by_all g (map f states) (length states) d (length-map states f) (λ j l. get_or-map f states j 0 d l ∙ same j l)

module _ (states : List ℕ) (small big : Component) (R : IsRenumbering states small big) (i : ℕ) where
  -- the choices and the biases of the path's end, listed at the places and at the states
  policy-entries : (xs : List ℕ) → map (slice_index xs) (range_with_len 0 (length states)) ≡ map (slice_index (spread states (count big) xs)) states
  policy-entries xs = sym (map-places 0 (slice_index (spread states (count big) xs)) (slice_index xs) states
      (λ j l. entries-place 0 states (count big) xs R.ascend j l (R.below j l)))

  value-entries : (xs : List ℚ) → map (value_at xs) (range_with_len 0 (length states)) ≡ map (value_at (spread_values states (count big) xs)) states
  value-entries xs =
      sym (map-places (of_int (pos 0)) (value_at (spread_values states (count big) xs)) (value_at xs) states
      (λ j l. entries-place (of_int (pos 0)) states (count big) xs R.ascend j l (R.below j l)))

  abbrev answer : ℚ → List ℚ → List ℕ → Result Answer WideTerm
  answer gain bias choices = Ok (record { states = states; gain = gain; bias = bias; choices = choices })

  abbrev term : Refusal → List ℕ → Result Answer WideTerm
  term x policy = Err (term_in states i (term_of (Inner 0) (record { number = x.number; policy = policy; place = x.place })))

  -- the answer lists the same gain, biases and choices, and a term past width is the same one
  end-same : (end : Result Found Refusal)
      → end_in states i (after_path (range_with_len 0 (length states)) 0 end) ≡ after_path states i (end_there states (count big) end)
  end-same (Ok x) =
      ap (λ (bias : List ℚ). answer x.values.gain bias (map (slice_index x.policy) (range_with_len 0 (length states)))) (value-entries x.values.bias)
      ∙ ap (answer x.values.gain (map (value_at (spread_values states (count big) x.values.bias)) states)) (policy-entries x.policy)
  end-same (Err x) = ap (term x) (policy-entries x.policy)

module _ (dir : Dir) (m : Mdp) (parts : List (Option ℕ)) (i r : ℕ) (ends : List (Option ℕ)) (k : IsPart m parts i)
    (e : AreEnds (alone m parts i r) ends) where
  abbrev small : Component
  small = inner_component dir (alone m parts i r) ends 0 0

  abbrev big : Component
  big = inner_component dir m parts i r

  abbrev states : List ℕ
  states = members m parts i

  same : IsRenumbering states small big
  same = alone-renumbering dir m parts i r ends k e

  known : IsComponent small
  known = alone-component dir m parts i r ends k e

  end-is : (end : Result Found Refusal)
      → end_in states i (after_path (members (alone m parts i r) ends 0) 0 end) ≡ after_path states i (end_there states (count big) end)
  end-is end =
      ap (λ (places : List ℕ). end_in states i (after_path places 0 end)) (alone-members m parts i r ends k e)
      ∙ end-same states small big same i end

  ends-there : (q : Result Answer WideTerm) → EndsSo dir (alone m parts i r) ends 0 0 q → EndsSo dir m parts i r (end_in states i q)
  ends-there q h = record {
    start = spread states (count big) h.start;
    is_first = first-spread states small big same h.start h.is_first;
    end = end_there states (count big) h.end;
    path = path-there states small big same known h.start h.end (first_is_start small h.start known h.is_first) h.path;
    after = ap (end_in states i) h.after ∙ end-is h.end;
  }

pub ends_as_alone : EndsAsAlone
ends_as_alone dir m parts i r ends q k e h = ends-there dir m parts i r ends k e q h
