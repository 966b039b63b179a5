-- The path of an end component of one state, choice by choice.
use Rattle.std.proofs.Common.{◌≡◌, ◌≢◌, ℕ, zero, suc, ◌+◌, ◌-◌, ◌<◌, ◌≤◌, ◌^◌, min, Bool, true, false, if◌then◌else◌}
use Rattle.std.proofs.Common.{List, [], ◌∷◌, length, map, filter, Some, Result, Ok, Err, refl, sym, ◌∙◌, ap, subst, arith}
use Rattle.std.specs.{List.{find, range_with_len}, Option.{unwrap_or}, Prelude.{slice_index}}
use Rattle.mdp_math.specs.Rational.{ℚ}
use Rattle.mdp_elim.specs.Laws.{GivesSolutions}
use Rattle.mdp_spec.specs.Mdp.{states_of, value_at}
use Rattle.mdp_wide.specs.{declared.too_wide.Kind.{Kind}, declared.too_wide.Part.TheVariants.{Inner}, Term.{WideTerm}, Errors.{SolveError}}
use Rattle.mdp_ends.specs.Ends.{in_part}
use Rattle.mdp_policy_iteration.specs.{Iteration.{refused}, Path.{Round, Refusal}, Laws.{first}, Ends.{error_of_part}, Queries.{Solves}}
use Rattle.mdp_policy_iteration.specs.Errors.{PathError, RoundError}
use Rattle.mdp_wide.specs.declared.unfinished.Unfinished.TheVariants as error
use Rattle.mdp_unichain.specs.Component.{Component, count, choices_at, choice_at, IsInner, row_by, IsPolicy, IsComponent}
use Rattle.mdp_unichain.specs.{Iteration.{EndsWith}, Part.{members}, Path.{Found, IsStart}}
use Rattle.mdp_unichain.specs.Path as path
use Rattle.mdp_unichain.proofs.{Ending.{better_left}, Best.{inner_of_state}, Improving.{inner-below}, Parts.{member-below}, Picking.{IsFirst}}
use Rattle.mdp_gain.specs.{Only.{IsOnly, policy_of, values_of, answer_alone, Makes, Ends, IsErrorOf}, OnlyTerms.{zeros}, Query.{Answer, answer_of, plain}}
use Rattle.mdp_gain.specs.{Code.{component_in, HasEnds, QueryEndsSo}, declared.component.EndComponent.{EndComponent}, declared.only_state.Only.{Only}}
use Rattle.mdp_gain.specs.{declared.only_round.Settled.{Settled}, declared.only_round.Turn.{Turn}}
use Rattle.mdp_gain.proofs.{Given.{part-of, member-is}, Flagging.{find-or}, OnlyState.{policy-at, policy-is, only-reference, only-first}, OnlySums.{zero-at}}
use Rattle.mdp_gain.proofs.Rounds.{goes_on, ends_done, next_start, next_fewer}
use Rattle.mdp_gain.specs.declared.only_round.Turn.TheVariants as turn

pub made_as : (p : Component) (s n c : ℕ) (result : Result Turn RoundError) → ((k : ℕ) → Makes p s k c result) → (r : Result Turn RoundError) → result ≡ r → Makes p s n c r
made_as p s n c result made r was = subst (λ (q : Result Turn RoundError). Makes p s n c q) was (made n)

module _ (p : Component) (s : ℕ) (o : IsOnly p s) where
  abbrev at : ℕ → ℕ → Round
  at n c = record { number = n; policy = policy_of p s c }

  starts : (c : ℕ) → IsInner p s c → IsStart p (policy_of p s c)
  starts c i = record { is = policy-is p s o c i; reference = (s, only-reference p s o (row_by p (policy_of p s c))) }

  module _ (known : IsComponent p) (gives : GivesSolutions) (n c d : ℕ) (i : IsInner p s c) (m : Makes p s n c (Ok (turn.Next d))) where
    pub next-inner : IsInner p s d
    next-inner =
        subst (IsInner p s) (policy-at p s o d) (IsPolicy.inner (IsStart.is (next_start p known gives (at n c) (at (n + 1) d) (starts c i) m)) s (IsOnly.state o))

    pub only-fewer : better_left p s (policy_of p s d) < better_left p s (policy_of p s c)
    only-fewer =
        next_fewer p known gives (at n c) (at (n + 1) d) (starts c i) m s s (only-reference p s o (row_by p (policy_of p s c))) (only-reference p s o (row_by p (policy_of p s d)))

  -- ---- the end

  abbrev Rest : ℕ → ℕ → ℕ → Type 0
  Rest start n c = (r : Result Found Refusal) → EndsWith (path.Makes p) (at n c) r → EndsWith (path.Makes p) (first (policy_of p s start)) r

  pub settled-ends : (start n c : ℕ) (found : Settled) → Rest start n c → Makes p s n c (Ok (turn.Done found)) → Ends p s start (Ok found)
  settled-ends start n c found rest m =
      rest (Ok (record { policy = policy_of p s found.choice; reference = s; values = values_of p found.gain }))
      (ends_done p (at n c) (record { policy = policy_of p s found.choice; reference = s; values = values_of p found.gain }) m)

  pub turned-on : (start n c d : ℕ) → Rest start n c → Makes p s n c (Ok (turn.Next d)) → Rest start (n + 1) d
  turned-on start n c d rest m r e = rest r (goes_on p (at n c) (at (n + 1) d) r m e)

  abbrev wide : ℕ → ℕ → Kind → ℕ → ℕ → Result Found Refusal
  wide n c kind t d = Err (record { number = n; policy = policy_of p s c; place = record { kind = kind; node = t; choice = d } })

  pub error-ends : (start n c round : ℕ) (e : RoundError) (x : PathError) → IsErrorOf e round c x → round ≡ min n (2 ^ 64 - 1) → Rest start n c → Makes p s n c (Err e) → Ends p s start (Err x)
  error-ends start n c round (error.TooWide place) (error.TooWide w) a capped rest m = (
    n,
    c,
    a.0 ∙ capped,
    a.1,
    subst (λ (k : Kind). EndsWith (path.Makes p) (first (policy_of p s start)) (wide n c k w.node w.choice)) (sym a.2)
        (subst (λ (u : ℕ). EndsWith (path.Makes p) (first (policy_of p s start)) (wide n c place.kind u w.choice)) (sym a.3)
        (subst (λ (u : ℕ). EndsWith (path.Makes p) (first (policy_of p s start)) (wide n c place.kind place.node u)) (sym a.4)
        (rest (wide n c place.kind place.node place.choice) (1, (refused (record { number = n; policy = policy_of p s c; place = place }), m, refl))))),
  )
  error-ends start n c round (error.TooWide place) error.Memory a capped rest m = tt
  error-ends start n c round error.Memory (error.TooWide w) a capped rest m = absurd a
  error-ends start n c round error.Memory error.Memory a capped rest m = tt

-- ---- the states of the part

module _ (test : ℕ → Bool) where
  filter_out : (a n : ℕ) → ((t : ℕ) → a ≤ t → test t ≡ false) → filter test (range_with_len a n) ≡ []
  filter_out a zero h = refl
  filter_out a (suc n) h =
      ap (λ (b : Bool). if b then a ∷ filter test (range_with_len (a + 1) n) else filter test (range_with_len (a + 1) n)) (h a (omega arith))
      ∙ filter_out (a + 1) n (λ t l. h t (omega arith))

  module _ (s : ℕ) (here : test s ≡ true) (only : (t : ℕ) → test t ≡ true → t ≡ s) where
    not_here : (t : ℕ) → t ≢ s → (b : Bool) → test t ≡ b → test t ≡ false
    not_here t n true e = absurd (n (only t e))
    not_here t n false e = e

    filter_by : (a n : ℕ) (b : Bool) → test a ≡ b → a ≤ s → s < a + suc n → ((a + 1 ≤ s) → filter test (range_with_len (a + 1) n) ≡ s ∷ [])
        → filter test (range_with_len a (suc n)) ≡ s ∷ []
    filter_by a n true e l k later =
        let same : a ≡ s = only a e in
        ap (λ (b : Bool). if b then a ∷ filter test (range_with_len (a + 1) n) else filter test (range_with_len (a + 1) n)) e
        ∙ ap (λ (xs : List ℕ). a ∷ xs) (filter_out (a + 1) n (λ t h. not_here t (λ q. omega (arith, h, q, same)) (test t) refl))
        ∙ ap (λ (u : ℕ). u ∷ []) same
    filter_by a n false e l k later =
        ap (λ (b : Bool). if b then a ∷ filter test (range_with_len (a + 1) n) else filter test (range_with_len (a + 1) n)) e
        ∙ later (after a (λ q. differ (sym e ∙ ap test q ∙ here)) l)
      where
        differ : (let b : Bool = false in b) ≡ true → ⊥
        differ h = cc

        after : (a : ℕ) → a ≢ s → a ≤ s → a + 1 ≤ s
        after a h l = grind arith

    filter-only : (a n : ℕ) → a ≤ s → s < a + n → filter test (range_with_len a n) ≡ s ∷ []
    filter-only a zero l k = absurd (omega arith)
    filter-only a (suc n) l k = filter_by a n (test a) refl l k (λ h. filter-only (a + 1) n h (omega arith))

-- ---- the start and the end

module _ (q : Only) (ends : HasEnds q.component) where
  abbrev x : EndComponent
  x = q.component

  abbrev p : Component
  p = component_in x

  abbrev s : ℕ
  s = q.s

  member : (t : ℕ) → in_part x.ends.now.parts x.number t ≡ true → t ≡ s
  member t h = IsOnly.only q.only t (member-is x t ∙ h)

  own : in_part x.ends.now.parts x.number s ≡ true
  own = sym (member-is x s) ∙ IsOnly.state q.only

  members-only : members x.model.now x.ends.now.parts x.number ≡ s ∷ []
  members-only =
      let l = member-below x.model.now x.ends.now.parts x.number (part-of x ends) s own in
      filter-only (in_part x.ends.now.parts x.number) s own member 0 (states_of x.model.now) (omega arith) (omega (arith, l))

  module _ (start : ℕ)
      (is : start ≡ unwrap_or (find (λ c. (choice_at (component_in q.component) q.s c).inner) (range_with_len 0 (length (choices_at (component_in q.component) q.s)))) 0) where
    start-first : IsFirst (λ c. (choice_at p s c).inner) (length (choices_at p s)) start
    start-first =
        let c = inner_of_state p s (IsOnly.state q.only) in
        subst (λ (c : ℕ). IsFirst (λ c. (choice_at p s c).inner) (length (choices_at p s)) c) (sym is)
        (find-or (λ c. (choice_at p s c).inner) (length (choices_at p s)) c.0 0 (inner-below p s c.0 c.1) c.1)

    pub start-inner : IsInner (component_in q.component) q.s start
    start-inner = IsFirst.passes start-first

    first_policy : path.IsFirst p (policy_of p s start)
    first_policy = only-first p s q.only start start-inner (λ d i. IsFirst.least start-first d (inner-below p s d i) i)

    abbrev answer : ℕ → ℚ → ℚ → Answer
    answer c bias gain = record { states = s ∷ []; gain = gain; bias = bias ∷ []; choices = c ∷ [] }

    abbrev term : ℕ → List ℕ → Kind → ℕ → ℕ → Result Answer WideTerm
    term n policy kind t d = Err (record { part = Inner x.number; number = n; policy = policy; kind = kind; state = Some t; choice = Some d })

    error_by : (y : PathError) → Ends p s start (Err y) → Solves plain (QueryEndsSo x) (Err (error_of_part (Inner x.number) y))
    error_by (error.TooWide w) h = (
      h.0,
      h.2,
      record {
        start = policy_of p s start;
        is_first = first_policy;
        end = Err (record { number = h.0; policy = policy_of p s h.1; place = record { kind = w.kind; node = w.node; choice = w.choice } });
        path = h.4;
        after =
            ap (λ (xs : List ℕ). term h.0 xs w.kind w.node w.choice)
            (h.3 ∙ ap (λ (c : ℕ). c ∷ []) (sym (policy-at p s q.only h.1)) ∙ ap (map (slice_index (policy_of p s h.1))) (sym members-only));
      },
    )
    error_by error.Memory h = tt

    module _ (end : Result Settled PathError) (done : Ends (component_in q.component) q.s start end) where
      pub answer-ends : (found : Settled) → end ≡ Ok found → (a : Answer)
          → a ≡ answer_alone q.s found → QueryEndsSo q.component (Ok a)
      answer-ends found was a e = record {
        start = policy_of p s start;
        is_first = first_policy;
        end = Ok (record { policy = policy_of p s found.choice; reference = s; values = values_of p found.gain });
        path = subst (Ends p s start) was done;
        after =
            ap (λ (x : Answer). (let y : Result Answer WideTerm = Ok x in y)) e
            ∙ ap (λ (x : ℚ). (let y : Result Answer WideTerm = Ok (answer found.choice x found.gain) in y)) (sym (zero-at (count p) s))
            ∙ ap (λ (c : ℕ). (let y : Result Answer WideTerm = Ok (answer c (value_at (zeros (count p)) s) found.gain) in y)) (sym (policy-at p s q.only found.choice))
            ∙ ap (λ (ss : List ℕ). (let y : Result Answer WideTerm = Ok (answer_of ss (record { policy = policy_of p s found.choice; reference = s; values = values_of p found.gain })) in y))
            (sym members-only);
      }

      pub error-solves : (y : PathError) → end ≡ Err y → (said : SolveError) → said ≡ error_of_part (Inner q.component.number) y
          → Solves plain (QueryEndsSo q.component) (Err said)
      error-solves y was said e =
          subst (λ (z : SolveError). Solves plain (QueryEndsSo x) (Err z)) (sym e) (error_by y (subst (Ends p s start) was done))
