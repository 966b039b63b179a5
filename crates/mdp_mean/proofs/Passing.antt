-- What ends a part of a query ends the query.
use Rattle.std.proofs.Common.{◌≡◌, ℕ, Bool, List, Option, Result, Ok, Err, Vec, refl, sym, ap, ◌∙◌, subst}
use Rattle.std.specs.Global.{Global}
use Rattle.mdp_math.specs.Rational.{ℚ}
use Rattle.mdp_spec.specs.Mdp.{Mdp}
use Rattle.mdp_rows.specs.declared.dir.Dir.{Dir}
use Rattle.mdp_wide.specs.{Errors.{SolveError}, Term.{WideTerm}}
use Rattle.mdp_wide.specs.declared.unfinished.Unfinished.TheVariants as error
use Rattle.mdp_policy_iteration.specs.Queries.{Solves}
use Rattle.mdp_ends.specs.Ends.{AreEnds}
use Rattle.mdp_quot.specs.{Quotient.{Quotient, IsQuotient}, Steps.{StepsEndSo}}
use Rattle.mdp_quot.specs.Outer as outer
use Rattle.mdp_claims.specs.declared.exact.MeanCert.{MeanCert}
use Rattle.mdp_mean.specs.{Terms.{Joining}, Join.{Place, Joined, written_join}, Faults.{Says, in_join}, Inners.{Inners, InnersEndSo}}
use Rattle.mdp_mean.specs.{Query.{Answer, plain, joining, answer_of, term_at, Held, checked, AfterJoin, JoinEndsSo, EndsSo}, Errors.{JoinError}}

-- an error that is returned
pub solves-err : {A B : Type 0} (f : A → B) (Ends : Result B WideTerm → Type 0) (result : Result A SolveError) (e d : SolveError) → result ≡ Err e → e ≡ d → Solves f Ends (Err d) → Solves f Ends result
solves-err f Ends result e d q p h =
    subst (λ (x : Result _ SolveError). Solves f Ends x) (sym q) (subst (λ (x : SolveError). Solves f Ends (Err x)) (sym p) h)

-- a term past width in a part is one of the query
pub passed-on : {A B C D : Type 0} (f : A → B) (g : C → D) (Part : Result B WideTerm → Type 0) (Ends : Result D WideTerm → Type 0) (e : SolveError)
    → ((w : WideTerm) → Part (Err w) → Ends (Err w)) → Solves f Part (Err e) → Solves g Ends (Err e)
passed-on f g Part Ends (error.TooWide w) h s = (s.0, s.1, h _ s.2)
passed-on f g Part Ends error.Memory h s = tt

-- what a part answers serves the query
pub goes-through : {A B : Type 0} (f : A → B) (Part Ends : Result B WideTerm → Type 0) (x : Result A SolveError) → ((p : Result B WideTerm) → Part p → Ends p) → Solves f Part x → Solves f Ends x
goes-through f Part Ends (Ok x) h s = h _ s
goes-through f Part Ends (Err (error.TooWide w)) h s = (s.0, s.1, h _ s.2)
goes-through f Part Ends (Err error.Memory) h s = tt

-- ---- in the order of the parts

module _ (dir : Dir) (m : Mdp) (r : ℕ) (parts : List (Option ℕ)) (are : AreEnds m parts) where
  pub ends-inner : (w : WideTerm) → InnersEndSo dir m parts r (Err w) → EndsSo dir m r (Err w)
  ends-inner w h = record { parts = parts; are_ends = are; inner = Err w; inner_ends = h; after = refl }

  module _ (x : Inners) (inner : InnersEndSo dir m parts r (Ok x)) (q : Quotient) (is : IsQuotient m parts q) where
    pub ends-outer : (w : WideTerm) → outer.OuterEndSo dir q x.gains (Err w) → EndsSo dir m r (Err w)
    ends-outer w h = record { parts = parts; are_ends = are; inner = Ok x; inner_ends = inner; after = (q, is, (Err w, h, refl)) }

    module _ (o : outer.Answer) (exits : outer.OuterEndSo dir q x.gains (Ok o)) where
      pub ends-steps : (w : WideTerm) → StepsEndSo q (Err w) → EndsSo dir m r (Err w)
      ends-steps w h = record { parts = parts; are_ends = are; inner = Ok x; inner_ends = inner; after = (q, is, (Ok o, exits, (Err w, h, refl))) }

      pub ends-join : (n : List ℚ) → StepsEndSo q (Ok n) → (p : Result Answer WideTerm) → JoinEndsSo (joining dir m r parts q x o n) p → EndsSo dir m r p
      ends-join n steps p h = record { parts = parts; are_ends = are; inner = Ok x; inner_ends = inner; after = (q, is, (Ok o, exits, (Ok n, steps, h))) }

-- ---- the join

module _ (j : Joining) where
  -- the lists that the code holds are those that are joined
  pub same-joining : (policy : List ℕ) (active : List Bool) (gains steps inner : List ℚ) → policy ≡ j.policy → active ≡ j.active → gains ≡ j.gains → steps ≡ j.steps → inner ≡ j.inner
      → (let k : Joining = record { dir = j.dir; model = j.model; name = j.name; parts = j.parts; policy = policy; active = active; gains = gains; steps = steps; inner = inner } in k) ≡ j
  same-joining policy active gains steps inner p a g s i =
      ap (λ (p : List ℕ). let k : Joining = record { dir = j.dir; model = j.model; name = j.name; parts = j.parts; policy = p; active = active; gains = gains; steps = steps; inner = inner } in k) p
      ∙ ap (λ (a : List Bool). let k : Joining = record { dir = j.dir; model = j.model; name = j.name; parts = j.parts; policy = j.policy; active = a; gains = gains; steps = steps; inner = inner } in k) a
      ∙ ap (λ (g : List ℚ). let k : Joining = record { dir = j.dir; model = j.model; name = j.name; parts = j.parts; policy = j.policy; active = j.active; gains = g; steps = steps; inner = inner } in k) g
      ∙ ap (λ (s : List ℚ). let k : Joining = record { dir = j.dir; model = j.model; name = j.name; parts = j.parts; policy = j.policy; active = j.active; gains = j.gains; steps = s; inner = inner } in k) s
      ∙ ap (λ (i : List ℚ). let k : Joining = record { dir = j.dir; model = j.model; name = j.name; parts = j.parts; policy = j.policy; active = j.active; gains = j.gains; steps = j.steps; inner = i } in k) i

  refused_by : (policy : List ℕ) (w : Result Joined Place) (x : Place) → policy ≡ j.policy → w ≡ Err x → AfterJoin j w (Err (term_at policy x))
  refused_by policy w x p e =
      subst (λ (w : Result Joined Place). AfterJoin j w (Err (term_at policy x))) (sym e) (ap (λ (p : List ℕ). let r : Result Answer WideTerm = Err (term_at p x) in r) p)

  pub join-refused : (e : JoinError) (policy : Vec ℕ Global) → policy.items ≡ j.policy → Says e (written_join j) → Solves plain (JoinEndsSo j) (Err (in_join e policy))
  join-refused (error.TooWide place) policy p h = (0, refl, refused_by policy.items (written_join j) place p h)
  join-refused error.Memory policy p h = tt

  pub join-held : (a : Answer) (y : Joined) (result : Result MeanCert SolveError) → a ≡ answer_of j y → written_join j ≡ Ok y → Solves plain (Held a (checked j.dir j.model j.name a)) result
      → Solves plain (JoinEndsSo j) result
  join-held a y result e made h =
      goes-through plain (Held a (checked j.dir j.model j.name a)) (JoinEndsSo j) result
      (λ p k. subst (λ (w : Result Joined Place). AfterJoin j w p) (sym made) (subst (λ (a : Answer). Held a (checked j.dir j.model j.name a) p) e k)) h
