-- The query of the greatest or the least mean payoff of the reward of name r: its parts in their order, and its end.
--     the end components, one after the other; the best gains over the quotient; the greatest expected numbers of exits; the join of all these;
--     and the rules of certificates
-- The first written term past width ends it.
use Rattle.std.specs.{Prelude.{◌≡◌, ℕ, ◌==◌, Bool, not, List, map, Option, slice_index, Result, Ok, Err}, List.{range_with_len}}
use Rattle.mdp_math.specs.Rational.{ℚ}
use Rattle.mdp_spec.specs.Mdp.{Mdp, states_of, value_at}
use Rattle.mdp_rows.specs.declared.dir.Dir.{Dir}
use Rattle.mdp_wide.specs.declared.too_wide.Part.TheVariants as part
use Rattle.mdp_wide.specs.{declared.too_wide.Kind.TheVariants.{Check}, Term.{WideTerm}}
use Rattle.mdp_ends.specs.{Ends.{AreEnds}, Toward.{lifted}}
use Rattle.mdp_quot.specs.{Quotient.{Quotient, IsQuotient}, Outer.{OuterEndSo}, Steps.{StepsEndSo}}
use Rattle.mdp_quot.specs.Outer as outer
use Rattle.mdp_farkas.specs.{Mean.{mean_checks}, Verdict.{verdict_of}}
use Rattle.mdp_claims.specs.{declared.exact.MeanCert.{MeanCert}, declared.verdict.Verdict.{Verdict}, declared.verdict.Verdict.TheVariants.{Yes, No, Wide}}
use Rattle.mdp_mean.specs.{Terms.{Joining}, Join.{Place, Joined, written_join}, Inners.{Inners, InnersEndSo}}

-- ---- what is joined

-- for each state the value of its node
abbrev pub at_nodes : Mdp → Quotient → List ℚ → List ℚ
at_nodes m q values = map (λ s. value_at values (slice_index q.nodes s)) (range_with_len 0 (states_of m))

-- the states whose node takes an exit
abbrev pub leaving : Mdp → Quotient → List ℕ → List Bool
leaving m q policy = map (λ s. not (slice_index policy (slice_index q.nodes s) == 0)) (range_with_len 0 (states_of m))

abbrev pub joining : Dir → Mdp → ℕ → List (Option ℕ) → Quotient → Inners → outer.Answer → List ℚ → Joining
joining dir m r parts q x o n = record {
  dir = dir;
  model = m;
  name = r;
  parts = parts;
  policy = lifted m parts q.nodes o.policy x.choices;
  active = leaving m q o.policy;
  gains = at_nodes m q o.values;
  steps = at_nodes m q n;
  inner = x.bias;
}

-- ---- its end

-- what is printed of a query: for each state a gain, a bound, a bias and a choice, and the spread
pub record Answer : Type 0 where
  pub gains : List ℚ
  pub bound : List ℚ
  pub bias : List ℚ
  pub choices : List ℕ
  pub spread : ℚ

abbrev pub plain : MeanCert → Answer
plain cert = record { gains = cert.gains.items; bound = cert.bound.items; bias = cert.bias.items; choices = cert.choices.items; spread = cert.spread }

abbrev pub answer_of : Joining → Joined → Answer
answer_of j y = record { gains = j.gains; bound = y.bound; bias = y.bias; choices = j.policy; spread = y.spread }

-- a term of the join, or of the check, past width: there is one round, with the policy of all states
abbrev pub term_at : List ℕ → Place → WideTerm
term_at policy x = record { part = part.Join; number = 0; policy = policy; kind = x.kind; state = x.state; choice = x.choice }

abbrev pub checking : Option ℕ → Option ℕ → Place
checking state choice = record { kind = Check; state = state; choice = choice }

-- what was joined, held against the rules of certificates: it is the answer, or a term of the check is past width
abbrev pub Held : Answer → Verdict → Result Answer WideTerm → Type 0
Held a Yes p = p ≡ Ok a
Held a (Wide state choice) p = p ≡ Err (term_at a.choices (checking state choice))
Held a (No fault) p = ⊥

abbrev pub checked : Dir → Mdp → ℕ → Answer → Verdict
checked dir m r a = verdict_of (mean_checks dir m r a.gains a.bound a.bias a.spread a.choices)

abbrev pub AfterJoin : Joining → Result Joined Place → Result Answer WideTerm → Type 0
AfterJoin j (Err x) p = p ≡ Err (term_at j.policy x)
AfterJoin j (Ok y) p = Held (answer_of j y) (checked j.dir j.model j.name (answer_of j y)) p

abbrev pub JoinEndsSo : Joining → Result Answer WideTerm → Type 0
JoinEndsSo j p = AfterJoin j (written_join j) p

-- ---- in the order of its parts

abbrev pub AfterSteps : Dir → Mdp → ℕ → List (Option ℕ) → Quotient → Inners → outer.Answer → Result (List ℚ) WideTerm → Result Answer WideTerm → Type 0
AfterSteps dir m r parts q x o (Err w) p = p ≡ Err w
AfterSteps dir m r parts q x o (Ok n) p = JoinEndsSo (joining dir m r parts q x o n) p

abbrev pub AfterOuter : Dir → Mdp → ℕ → List (Option ℕ) → Quotient → Inners → Result outer.Answer WideTerm → Result Answer WideTerm → Type 0
AfterOuter dir m r parts q x (Err w) p = p ≡ Err w
AfterOuter dir m r parts q x (Ok o) p = (steps : Result (List ℚ) WideTerm) × StepsEndSo q steps × AfterSteps dir m r parts q x o steps p

abbrev pub AfterQuotient : Dir → Mdp → ℕ → List (Option ℕ) → Inners → Quotient → Result Answer WideTerm → Type 0
AfterQuotient dir m r parts x q p = (outer : Result outer.Answer WideTerm) × OuterEndSo dir q x.gains outer × AfterOuter dir m r parts q x outer p

abbrev pub AfterInners : Dir → Mdp → ℕ → List (Option ℕ) → Result Inners WideTerm → Result Answer WideTerm → Type 0
AfterInners dir m r parts (Err w) p = p ≡ Err w
AfterInners dir m r parts (Ok x) p = (q : Quotient) × IsQuotient m parts q × AfterQuotient dir m r parts x q p

-- what is joined in the query: each of its parts ends with an answer, and these are put together
pub record IsJoining (dir : Dir) (m : Mdp) (r : ℕ) (j : Joining) : Type 0 where
  pub parts : List (Option ℕ)
  pub are_ends : AreEnds m parts
  pub inner : Inners
  pub inner_ends : InnersEndSo dir m parts r (Ok inner)
  pub quotient : Quotient
  pub is_quotient : IsQuotient m parts quotient
  pub exits : outer.Answer
  pub exits_end : OuterEndSo dir quotient inner.gains (Ok exits)
  pub steps : List ℚ
  pub steps_end : StepsEndSo quotient (Ok steps)
  pub is : j ≡ joining dir m r parts quotient inner exits steps

-- the query ends so
pub record EndsSo (dir : Dir) (m : Mdp) (r : ℕ) (p : Result Answer WideTerm) : Type 0 where
  pub parts : List (Option ℕ)
  pub are_ends : AreEnds m parts
  pub inner : Result Inners WideTerm
  pub inner_ends : InnersEndSo dir m parts r inner
  pub after : AfterInners dir m r parts inner p
