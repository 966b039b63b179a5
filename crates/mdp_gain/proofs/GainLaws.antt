-- The laws of a query of the best gain.
use Rattle.std.proofs.Common.{◌≡◌, ℕ, ◌<◌, true, List, map, Option, Result, Ok, Err, IfOk, refl, sym, ◌∙◌, ap, subst, arith, zero-add}
use Rattle.std.proofs.lemmas.List.FromFn.{get_or-map-range_with_len, length-map-range_with_len}
use Rattle.std.specs.List.{All, range_with_len}
use Rattle.mdp_math.specs.{Rational.{ℚ, ◌-ℚ◌, ◌≤ℚ◌}, Extremes.{least, greatest}}
use Rattle.mdp_math.proofs.Extremes.{least-le, greatest-ge}
use Rattle.mdp_spec.specs.Mdp.{Mdp, states_of}
use Rattle.mdp_rows.specs.{declared.dir.Dir.{Dir}, declared.dir.Dir.TheVariants.{Max, Min}}
use Rattle.mdp_elim.specs.Laws.{GivesSolutions}
use Rattle.mdp_elim.proofs.Finish.{ok_no_err}
use Rattle.mdp_policy_iteration.specs.{Path.{Refusal}, Laws.{first}, Queries.{term_of, Solves}}
use Rattle.mdp_wide.specs.{Term.{WideTerm}, declared.too_wide.Part.TheVariants.{Inner}, Errors.{SolveError}}
use Rattle.mdp_policy_iteration.proofs.Results.{ok_same}
use Rattle.mdp_unichain.specs.{Component.{is_state}, Iteration.{EndsWith}, Part.{IsPart, members, is_inner, inner_component}, Model.{LieBetween}}
use Rattle.mdp_unichain.specs.Path.{Found, Makes, IsFirst}
use Rattle.mdp_unichain.proofs.{Improving.{best_of_all}, OneGain.{one_best_gain}, Paths.{has_one_end, ends_at_best_gain, first_is_start}}
use Rattle.mdp_unichain.proofs.{Starts.{has_one_first}, Trees.{no_tree_earns_more, no_tree_earns_less}, Parts.{part-state}}
use Rattle.mdp_ends.specs.Ends.{IsEnd, IsMaximal, AreEnds}
use Rattle.mdp_gain.specs.declared.inner.Inner as code
use Rattle.mdp_gain.specs.{Query.{Answer, answer_of, refusal_at, after_path, plain, EndsSo}, Best.{bias_at, taken_at, IsBestInner}}
use Rattle.mdp_gain.specs.Laws.{HasOneEnd, AnswersAreBest, HasOneGain, NoPolicyIsBetter, NoTreeEarnsMore, NoTreeEarnsLess}
use Rattle.mdp_gain.proofs.BestInner.{known, best_inner, none_is_better, has_best}

module _ (gives : GivesSolutions) (dir : Dir) (m : Mdp) (parts : List (Option ℕ)) (i r : ℕ) (k : IsPart m parts i) where
  some_state : (s : ℕ) × (is_state (inner_component dir m parts i r) s ≡ true)
  some_state =
      let e = IsEnd.some (IsMaximal.is_end (AreEnds.maximal (IsPart.ends k) i (IsPart.below k))) in
      (e.0, part-state m parts i k dir r e.0 ∙ e.2)

  abbrev HasEnd : Type 0
  HasEnd = (q : Result Answer WideTerm) × EndsSo dir m parts i r q × ((other : Result Answer WideTerm) → EndsSo dir m parts i r other → other ≡ q)

  one_query_end : HasEnd
  one_query_end =
      let c = known dir m parts i r k in
      let s = some_state in
      let f = has_one_first (inner_component dir m parts i r) s.0 c s.1 in
      let e = has_one_end gives (inner_component dir m parts i r) f.0 c (first_is_start (inner_component dir m parts i r) f.0 c f.1) in (
        after_path (members m parts i) i e.0,
        record { start = f.0; is_first = f.1; end = e.0; path = e.1; after = refl },
        λ other h.
            let same : EndsSo.start h ≡ f.0 = f.2 (EndsSo.start h) (EndsSo.is_first h) in
            let end : EndsSo.end h ≡ e.0 =
            sym (e.2 (EndsSo.end h) (subst (λ (start : List ℕ). EndsWith (Makes (inner_component dir m parts i r)) (first start) (EndsSo.end h)) same (EndsSo.path h))) in
            EndsSo.after h ∙ ap (after_path (members m parts i) i) end,
      )

  answered : (a : Answer) (start : List ℕ) → IsFirst (inner_component dir m parts i r) start → (end : Result Found Refusal)
      → EndsWith (Makes (inner_component dir m parts i r)) (first start) end
      → (let q : Result Answer WideTerm = Ok a in q) ≡ after_path (members m parts i) i end → IsBestInner dir m parts i r a
  answered a start f (Err x) path e = absurd (ok_no_err a (term_of (Inner i) (refusal_at (members m parts i) x)) e)
  answered a start f (Ok found) path e =
      let c = known dir m parts i r k in
      subst (IsBestInner dir m parts i r) (sym (ok_same a (answer_of (members m parts i) found) e))
      (best_inner dir m parts i r k found (ends_at_best_gain gives (inner_component dir m parts i r) start found c (first_is_start (inner_component dir m parts i r) start c f) path))

pub has_one_query_end : GivesSolutions → HasOneEnd
has_one_query_end gives dir m parts i r k = one_query_end gives dir m parts i r k

pub answers_are_best : GivesSolutions → AnswersAreBest
answers_are_best gives dir m parts i r a k h = answered gives dir m parts i r k a h.start h.is_first h.end h.path h.after

-- so what is said of its end has it too
pub solves_best : GivesSolutions → (dir : Dir) (m : Mdp) (parts : List (Option ℕ)) (i r : ℕ) → IsPart m parts i → (said : Result code.Inner SolveError)
    → Solves plain (EndsSo dir m parts i r) said → IfOk said (λ found. IsBestInner dir m parts i r (plain found))
solves_best gives dir m parts i r k (Ok found) h = answers_are_best gives dir m parts i r (plain found) k h
solves_best gives dir m parts i r k (Err e) h = tt

pub has_one_gain : HasOneGain
has_one_gain dir m parts i r a b k x y =
    one_best_gain (inner_component dir m parts i r) (known dir m parts i r k) a.gain b.gain (bias_at a) (bias_at b) (taken_at a) (taken_at b)
    (has_best dir m parts i r k a x) (has_best dir m parts i r k b y)

pub no_policy_is_better : NoPolicyIsBetter
no_policy_is_better dir m parts i r a k x policy t gain bias e =
    best_of_all (inner_component dir m parts i r) a.gain (bias_at a) (known dir m parts i r k) (none_is_better dir m parts i r k a x) policy t gain bias e

-- the least and the greatest of the biases
module _ (m : Mdp) (a : Answer) where
  biases : List ℚ
  biases = map (bias_at a) (range_with_len 0 (states_of m))

  at : (P : ℚ → Type 0) → All P biases → (s : ℕ) → s < states_of m → P (bias_at a s)
  unfolding biases
  at P h s l =
      let n = length-map-range_with_len (bias_at a) 0 (states_of m) in
      subst P (get_or-map-range_with_len (bias_at a) 0 (states_of m) s s (bias_at a 0) l (zero-add s)) (h s (bias_at a 0) (omega (arith, l, n)))

  between : LieBetween (states_of m) (bias_at a) (least biases) (greatest biases)
  between = record {
    least = λ s l. at (λ x. least biases ≤ℚ x) (least-le biases) s l;
    greatest = λ s l. at (λ x. x ≤ℚ greatest biases) (greatest-ge biases) s l;
  }

pub no_tree_more : NoTreeEarnsMore
no_tree_more m parts i r a k x = (
  greatest (biases m a) -ℚ least (biases m a),
  λ n u t s hu l h takes.
      no_tree_earns_more m r (is_inner m parts i) a.gain (least (biases m a)) (greatest (biases m a)) (bias_at a) (IsPart.model k) (none_is_better Max m parts i r k a x) (between m a)
      n u t s hu l takes,
)

pub no_tree_less : NoTreeEarnsLess
no_tree_less m parts i r a k x = (
  greatest (biases m a) -ℚ least (biases m a),
  λ n u t s hu l h takes.
      no_tree_earns_less m r (is_inner m parts i) a.gain (least (biases m a)) (greatest (biases m a)) (bias_at a) (IsPart.model k) (none_is_better Min m parts i r k a x) (between m a)
      n u t s hu l takes,
)
