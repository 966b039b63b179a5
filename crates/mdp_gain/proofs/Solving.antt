-- The end of the path as that of the query.
use Rattle.std.proofs.Common.{◌≡◌, ℕ, ◌<◌, Bool, if◌then◌else◌, List, [], ◌∷◌, length, map, filter, Option, Some, Result, Ok, Err, refl, sym, ◌∙◌, ap, ap₂, subst, arith}
use Rattle.std.proofs.{lemmas.List.Elements.{All-filter}, lemmas.List.FromFn.{length-range_with_len, get_or-range_with_len}}
use Rattle.std.specs.{List.{All, range_with_len}, Prelude.{slice_index}}
use Rattle.mdp_spec.specs.Mdp.{Mdp}
use Rattle.mdp_rows.specs.declared.dir.Dir.{Dir}
use Rattle.mdp_wide.specs.{declared.too_wide.Kind.{Kind}, declared.too_wide.Part.TheVariants.{Inner}, Term.{WideTerm}, Errors.{SolveError}}
use Rattle.mdp_ends.specs.Ends.{in_part}
use Rattle.mdp_policy_iteration.specs.{Ends.{error_of_part}, Queries.{Solves}, Errors.{PathError}}
use Rattle.mdp_wide.specs.declared.unfinished.Unfinished.TheVariants as error
use Rattle.mdp_unichain.specs.{Component.{Component, count, is_state}, Part.{IsPart, members, inner_component}, Path.{IsFirst}}
use Rattle.mdp_unichain.proofs.Parts.{part-state, part-count}
use Rattle.mdp_gain.specs.{Query.{Answer, plain}, Code.{component_in, HasEnds, QueryEndsSo, Ends, AtStates, FitsStates, HasEntries, answer_at, values_in}}
use Rattle.mdp_gain.specs.declared.component.EndComponent.{EndComponent}
use Rattle.mdp_gain.proofs.Given.{part-of}
use Rattle.mdp_gain.specs.declared.best_policy.Found as code

-- ---- the states

filter-same : (a b : ℕ → Bool) → ((s : ℕ) → a s ≡ b s) → (xs : List ℕ) → filter a xs ≡ filter b xs
filter-same a b same [] = refl
filter-same a b same (x ∷ xs) = ap₂ (λ (t : Bool) (rest : List ℕ). if t then x ∷ rest else rest) (same x) (filter-same a b same xs)

pub states-members : (dir : Dir) (m : Mdp) (parts : List (Option ℕ)) (i r : ℕ) → IsPart m parts i
    → filter (is_state (inner_component dir m parts i r)) (range_with_len 0 (count (inner_component dir m parts i r))) ≡ members m parts i
states-members dir m parts i r k =
    filter-same (is_state (inner_component dir m parts i r)) (in_part parts i) (part-state m parts i k dir r) (range_with_len 0 (count (inner_component dir m parts i r)))
    ∙ ap (λ (n : ℕ). filter (in_part parts i) (range_with_len 0 n)) (part-count dir m parts i r)

pub states-below : (test : ℕ → Bool) (n : ℕ) (states : List ℕ) → states ≡ filter test (range_with_len 0 n) → (l : ℕ) → l ≡ n → All (λ s. s < l) states
states-below test n states e l q =
    subst (All (λ s. s < l)) (sym e)
    (All-filter test (λ s. s < l) (range_with_len 0 n)
    (λ k d h. let b = length-range_with_len 0 n in let v = get_or-range_with_len 0 n k d (omega (arith, b, h)) in omega (arith, b, h, v, q)))

module _ (x : EndComponent) (states : List ℕ) (e : states ≡ filter (is_state (component_in x)) (range_with_len 0 (count (component_in x)))) where
  abbrev p : Component
  p = component_in x

  below : (l : ℕ) → l ≡ count p → All (λ s. s < l) states
  below = states-below (is_state p) (count p) states e

  -- what was found has an entry for each state, and so has the policy of an error
  pub found_fits : (end : Result code.Found PathError) → HasEntries (component_in x) end → (found : code.Found) → end ≡ Ok found
      → All (λ s. s < length found.policy.items) states × All (λ s. s < length found.values.bias.items) states
  found_fits end h found was =
      let entries = subst (HasEntries p) was h in
      (below (length found.policy.items) entries.0, below (length found.values.bias.items) entries.1)

  fits_by : (error : PathError) → HasEntries p (Err error) → FitsStates states error
  fits_by (error.TooWide w) h = below (length w.policy.items) h
  fits_by error.Memory h = tt

  pub error_fits : (end : Result code.Found PathError) → HasEntries (component_in x) end → (error : PathError) → end ≡ Err error → (held : List ℕ) → held ≡ states → FitsStates held error
  error_fits end h error was held same = subst (λ (ss : List ℕ). FitsStates ss error) (sym same) (fits_by error (subst (HasEntries p) was h))

  -- ---- the query

  module _ (ends : HasEnds x) (start : List ℕ) (is : IsFirst (component_in x) start) (end : Result code.Found PathError) (path : Ends (component_in x) start end) where
    are_members : states ≡ members x.model.now x.ends.now.parts x.number
    are_members = e ∙ states-members x.dir x.model.now x.ends.now.parts x.number x.name (part-of x ends)

    pub found_ends : (found : code.Found) → end ≡ Ok found → (a : Answer) → a ≡ answer_at states found.policy.items (values_in found.values)
        → QueryEndsSo x (Ok a)
    found_ends found was a q =
        let h = subst (Ends p start) was path in
        record {
          start = start;
          is_first = is;
          end = Ok (record { policy = found.policy.items; reference = h.0; values = values_in found.values });
          path = h.1;
          after = ap (λ (x : Answer). (let y : Result Answer WideTerm = Ok x in y))
              (q ∙ ap (λ (ss : List ℕ). answer_at ss found.policy.items (values_in found.values)) are_members);
        }

    abbrev term : ℕ → List ℕ → Kind → ℕ → ℕ → Result Answer WideTerm
    term n policy kind s c = Err (record { part = Inner x.number; number = n; policy = policy; kind = kind; state = Some s; choice = Some c })

    ends_by : (error y : PathError) → Ends p start (Err error) → AtStates states error y
        → Solves plain (QueryEndsSo x) (Err (error_of_part (Inner x.number) y))
    ends_by (error.TooWide w) (error.TooWide v) h a =
        let all = members x.model.now x.ends.now.parts x.number in (
          h.0,
          a.0 ∙ h.1,
          record {
            start = start;
            is_first = is;
            end = Err (record { number = h.0; policy = w.policy.items; place = record { kind = w.kind; node = w.node; choice = w.choice } });
            path = h.2;
            after =
                ap (λ (xs : List ℕ). term h.0 xs v.kind v.node v.choice) (a.1 ∙ ap (map (slice_index w.policy.items)) are_members)
                ∙ ap (λ (k : Kind). term h.0 (map (slice_index w.policy.items) all) k v.node v.choice) a.2
                ∙ ap (λ (s : ℕ). term h.0 (map (slice_index w.policy.items) all) w.kind s v.choice) a.3
                ∙ ap (λ (c : ℕ). term h.0 (map (slice_index w.policy.items) all) w.kind w.node c) a.4;
          },
        )
    ends_by (error.TooWide w) error.Memory h a = tt
    ends_by error.Memory (error.TooWide v) h a = absurd a
    ends_by error.Memory error.Memory h a = tt

    pub error_ends : (error : PathError) → end ≡ Err error → (held : List ℕ) → held ≡ states → (y : PathError) → AtStates held error y → (said : SolveError)
        → said ≡ error_of_part (Inner x.number) y → Solves plain (QueryEndsSo x) (Err said)
    error_ends error was held same y a said is_error =
        subst (λ (e : SolveError). Solves plain (QueryEndsSo x) (Err e)) (sym is_error)
        (ends_by error y (subst (Ends p start) was path) (subst (λ (ss : List ℕ). AtStates ss error y) same a))
