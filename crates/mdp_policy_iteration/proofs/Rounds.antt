-- The loop of policy iteration: where it stands before a round, and what the next one needs.
use Rattle.std.proofs.Common.{◌≡◌, ◌≢◌, ℕ, suc, ◌+◌, ◌<◌, Bool, true, false, if◌then◌else◌, List, [], ◌∷◌, length}
use Rattle.std.proofs.Common.{get_or, Option, Some, None, Result, Ok, refl, sym, ◌∙◌, ap, subst, zero-add, inr, true≢false, arith}
use Rattle.std.proofs.{lemmas.List.FromFn.{get_or-map-range_with_len, length-map-range_with_len}, lemmas.Bool.{eqb-true}}
use Rattle.std.specs.{List.{All}, Prelude.{slice_index, slice_index_or, ◌==◌}}
use Rattle.mdp_math.specs.Rational.{ℚ}
use Rattle.mdp_spec.specs.Mdp.{value_at}
use Rattle.mdp_rows.specs.{Preds.{is_among}, declared.preds.Pred.{Pred}}
use Rattle.mdp_elim.specs.{Laws.{GivesSolutions}, System.{equation_of}}
use Rattle.mdp_policy_iteration.specs.{Iteration.{Step, next, EndsWith}, Problem.{Problem, IsProblem, count, active_of, rows_of}, Values.{KeepsLeaving}}
use Rattle.mdp_policy_iteration.specs.{Path.{Round, Found, Refusal, constant, or_kept, improved, improvement, improvements, path_step}, Laws.{first}}
use Rattle.mdp_policy_iteration.specs.{Changes.{Ascend, IsChangeOf, change_at, spread, nodes_of}, Evaluated.{Evaluation, IsEvaluated, HasRoom, CanServe}}
use Rattle.mdp_policy_iteration.specs.Scope.{Scope, IsScope}
use Rattle.mdp_policy_iteration.proofs.{Ending.{Keeps, better_left, next-keeps}, Results.{up_to-is, IsUpTo}, Chain.{rows-len, active-len}}
use Rattle.mdp_policy_iteration.proofs.{Iterations.{ends-next}, RoundFacts.{values-len, step-changes}, Walking.{next_by}}

-- ---- a node without a change

missed : (x : Pred) (changes : List Pred) (s : ℕ) (b : Bool) → (x.state == s) ≡ b → b ≡ false → change_at (x ∷ changes) s ≡ change_at changes s
missed x changes s b e f = ap (λ (b : Bool). let o : Option ℕ = if b then Some x.choice else change_at changes s in o) (e ∙ f)

module _ (held : List ℕ) (s : ℕ) (out : is_among s held ≡ false) where
  other : (x : Pred) (b : Bool) → is_among x.state held ≡ true → (x.state == s) ≡ b → b ≡ false
  other x false h e = refl
  other x true h e = absurd (let k : is_among s held ≡ true = subst (λ t. is_among t held ≡ true) (eqb-true x.state s e) h in cc)

  -- a node that isn't among those that hold all changed ones has none
  pub no_change : (changes : List Pred) → All (λ x. is_among x.state held ≡ true) changes → change_at changes s ≡ None
  no_change [] h = refl
  no_change (x ∷ changes) h =
      missed x changes s (x.state == s) refl (other x (x.state == s) (h 0 x (omega arith)) refl) ∙ no_change changes (λ k d l. h (suc k) d (omega arith))

-- ---- whether there are changes

pub is_none : (n : ℕ) (changes : List Pred) (b : Bool) → b ≡ (n == 0) → b ≡ true → n ≡ length changes → changes ≡ []
is_none n [] b e t l = refl
is_none n (x ∷ changes) b e t l = absurd (let q : n ≡ 0 = eqb-true n 0 (sym e ∙ t) in omega arith)

pub is_some : (n : ℕ) (changes : List Pred) (b : Bool) → b ≡ (n == 0) → b ≡ false → n ≡ length changes → changes ≢ []
is_some n changes b e f l = λ h. true≢false (sym (ap (λ k. k == 0) (l ∙ ap length h)) ∙ sym e ∙ f)

-- ---- the loop

-- a policy of the path, its evaluation and its changes, of which there are some
pub record Stands (p : Problem) (start : List ℕ) (n : ℕ) (policy : List ℕ) (e : Evaluation) (changes : List Pred) : Type 0 where
  pub keeps : Keeps p start policy
  pub evaluated : IsEvaluated p policy e
  pub some : changes ≢ []
  pub improving : improvements p e.values ≡ Ok (spread (count p) changes)
  pub each : All (IsChangeOf p) changes
  pub ascend : Ascend (nodes_of changes)
  pub rest : (r : Result Found Refusal) → EndsWith (path_step p) (record { number = n; policy = policy }) r → EndsWith (path_step p) (first start) r

module _ (p : Problem) (policy : List ℕ) (e : Evaluation) (is : IsEvaluated p policy e) where
  -- an evaluation has room for all nodes
  pub evaluated-room : HasRoom (count p) e
  evaluated-room =
      let n = length-map-range_with_len (equation_of (rows_of p policy) (active_of p policy) (e.constants ∷ [])) 0 (length (rows_of p policy)) in
      let m = rows-len p policy in
      let c = is.kept.solved.count in
      let f = is.kept.first.count in
      let s = is.kept.second.count in
      record {
        active = ap length is.marks ∙ active-len p policy;
        constants = IsUpTo.len (up_to-is (constant p policy) (count p) e.constants is.constant);
        kept = record {
          solved = omega arith;
          first = omega arith;
          second = omega arith;
          down = λ s l. is.kept.solved.down s (omega arith);
        };
        values = values-len p policy e.values is.written;
      }

module _ (p : Problem) (start : List ℕ) (n : ℕ) (policy : List ℕ) (e : Evaluation) (changes : List Pred) (k : Stands p start n policy e changes) where
  pub below : All (λ x. x.state < length policy) changes
  below = λ j d l. let m = (k.each j d l).0 in let q = k.keeps.is.one_each in omega arith

  -- the next policy
  module _ (now : List ℕ) (same : now ≡ improved policy (spread (length policy) changes)) where
    pub goes-on : path_step p (record { number = n; policy = policy }) ≡ next (record { number = n + 1; policy = now })
    goes-on =
        step-changes p policy e.values k.evaluated.written n changes k.each k.keeps.is.one_each k.improving ∙ next_by n policy e.values changes k.some
        ∙ ap (λ (after : List ℕ). let s : Step Round Found Refusal = next (record { number = n + 1; policy = after }) in s) (sym same)

    pub keeps-on : IsProblem p → KeepsLeaving p → GivesSolutions → Keeps p start now × (better_left p start now < better_left p start policy)
    keeps-on known keeps gives = next-keeps p start known keeps gives (record { number = n; policy = policy }) (record { number = n + 1; policy = now }) k.keeps goes-on

    pub rest-on : (r : Result Found Refusal) → EndsWith (path_step p) (record { number = n + 1; policy = now }) r → EndsWith (path_step p) (first start) r
    rest-on r h = k.rest r (ends-next (path_step p) (record { number = n; policy = policy }) (record { number = n + 1; policy = now }) r goes-on h)

    module _ (scope : Scope) (is : IsScope p now changes scope) where
      kept_at : (s : ℕ) → s < count p → is_among s scope.affected ≡ false → slice_index now s ≡ slice_index policy s
      kept_at s l out =
          let m : s < length policy = let q = k.keeps.is.one_each in omega arith in
          let none : get_or (spread (length policy) changes) s None ≡ None =
          get_or-map-range_with_len (change_at changes) 0 (length policy) s s None m (zero-add s) ∙ no_change scope.affected s out changes is.changed in
          ap (λ (xs : List ℕ). slice_index xs s) same
          ∙ get_or-map-range_with_len (λ s. or_kept (slice_index_or (spread (length policy) changes) s None) (slice_index policy s)) 0 (length policy) s s 0 m (zero-add s)
          ∙ ap (λ (o : Option ℕ). or_kept o (slice_index policy s)) none

      -- what is kept serves the next policy
      pub serves-on : CanServe p scope.affected now e
      serves-on = record {
        room = evaluated-room p policy e k.evaluated;
        others = inr (policy, k.keeps.is, k.evaluated, record { same = kept_at; closed = is.closed });
      }

      -- where no choice is compared, none improves
      pub unimproved : (x : List ℚ) → ((s : ℕ) → is_among s scope.affected ≡ false → value_at x s ≡ value_at e.values s)
          → (s : ℕ) → s < count p → is_among s scope.compared ≡ false → improvement p x s ≡ Ok None
      unimproved x agree s l out =
          let u = up_to-is (improvement p e.values) (count p) (spread (count p) changes) k.improving in
          let none : change_at changes s ≡ None = no_change scope.affected s (outside s (is_among s scope.affected) refl out) changes is.changed in
          is.unread x e.values agree s l out ∙ IsUpTo.at u s None l ∙ ap Ok (get_or-map-range_with_len (change_at changes) 0 (count p) s s None l (zero-add s) ∙ none)
        where
          outside : (s : ℕ) (b : Bool) → is_among s scope.affected ≡ b → is_among s scope.compared ≡ false → is_among s scope.affected ≡ false
          outside s false e o = e
          outside s true e o = absurd (let q = is.within s e in cc)
